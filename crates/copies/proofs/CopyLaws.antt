-- Two copies that the same standing calls give are alike; and the theorem of two servers.
use mathlib.Core.Path.{◌≡◌, sym, ap, ◌∙◌, subst}
use mathlib.Core.List.{List, map}
use Prim.Native.Nat.{ℕ}
use lib.IntN.{ℤ}
use Rattle.entries.specs.Tally.{figures}
use Rattle.std.specs.Prelude.{Ok}
use Rattle.statement.specs.Statement.{milli_ergs}
use Rattle.ledger.specs.Ledger.{Parent, boxes, Call, absℤ, Rules}
use Rattle.ledger.specs.Run as Mc
use Rattle.fork_model.proofs.EntryLaws.{Sorted, sorted_nums}
use Rattle.fork_model.proofs.Search.{sorted_unmap}
use Rattle.copies.specs.Copies.{Copy, entries_in, tally_in, page_in, machine_of, Server, standing_at, copy_at, Alike, NoneTwice, SignedAlike, Theorem}
use Rattle.copies.proofs.EntryLaws.{SameCopies, same_figures, same_unspent, same_entries}
use Rattle.copies.proofs.ReadLaws.{page_listed, tally_counts, page_shows}
use Rattle.copies.proofs.ServerLaws.{Given, rules_after, given_by}

module _ (cs : List Call) (rules : Rules cs) (p : Parent) where
  -- the box entries do not fall
  sorted : (x : Copy) → Given cs x p → Sorted (entries_in x (boxes p))
  sorted x g = sorted_unmap (entries_in x (boxes p)) (subst Sorted (sym g.box_numbers) (sorted_nums cs p rules))

  counts : (x : Copy) → Given cs x p → tally_in x p ≡ Ok (figures (entries_in x (boxes p)))
  counts x g = tally_counts x.edition x.ids x.index p g.passes

  module _ (x y : Copy) (g : Given cs x p) (h : Given cs y p) where
    numbers : map absℤ (entries_in x (boxes p)) ≡ map absℤ (entries_in y (boxes p))
    numbers = g.box_numbers ∙ sym h.box_numbers

    spent : SameCopies (entries_in x (boxes p)) (entries_in y (boxes p))
    spent n k = g.copies n k ∙ sym (h.copies n k)

    same_tallies : tally_in x p ≡ tally_in y p
    same_tallies =
        counts x g ∙ ap Ok (same_figures (entries_in x (boxes p)) (entries_in y (boxes p)) numbers spent (sorted x g) (sorted y h)) ∙ sym (counts y h)

    same_pages : (offset n : ℕ) (out : List ℤ) → page_in x p offset n out ≡ page_in y p offset n out
    same_pages offset n out =
        page_shows x.edition x.ids x.index p g.passes offset n out
        ∙ ap (λ (l : List ℤ). page_listed l offset n out) (same_unspent (entries_in x (boxes p)) (entries_in y (boxes p)) numbers spent (sorted x g) (sorted y h))
        ∙ sym (page_shows y.edition y.ids y.index p h.passes offset n out)

    pub alike : Alike x y p
    alike = record {
      box_numbers = numbers;
      tx_numbers = g.tx_numbers ∙ sym h.tx_numbers;
      copies = spent;
      counted = counts x g;
      tallies = same_tallies;
      summary_tallies = g.summed ∙ same_tallies ∙ sym h.summed;
      amounts = λ t. g.amounts t ∙ sym (h.amounts t);
      statements = ap milli_ergs (g.nanos ∙ sym h.nanos);
      pages = same_pages;
    }

    pub signed_alike : SignedAlike cs x y p
    signed_alike d = same_entries (entries_in x (boxes p)) (entries_in y (boxes p)) numbers spent (subst NoneTwice (sym g.box_numbers) d)

given_at : (a : Server) (p : Parent) → Given (standing_at a) (copy_at a) p
given_at a p = given_by a.own a.steps a.own.keeping a.legal a.apart p

rules_at : (a : Server) → Rules (standing_at a)
rules_at a = rules_after (machine_of a.own) a.steps (Mc.start (machine_of a.own)) tt a.legal

pub same_copies : Theorem
same_copies a b e p =
    let h = subst (λ (cs : List Call). Given cs (copy_at b) p) (sym e) (given_at b p) in
    (alike (standing_at a) (rules_at a) p (copy_at a) (copy_at b) (given_at a p) h, signed_alike (standing_at a) (rules_at a) p (copy_at a) (copy_at b) (given_at a p) h)
