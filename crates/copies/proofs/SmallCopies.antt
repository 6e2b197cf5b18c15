-- The two histories of the example: one server in edition 1 without summaries, one in edition 2 with them. What the theorem says of them, and the entries and
-- figures, computed on the first, that the second then has.
use mathlib.Core.Path.{◌≡◌, refl, sym, ap, ◌∙◌, subst}
use mathlib.Core.Logic.{⊎_elim, ◌≢◌}
use mathlib.Core.List.Memᴰ
use mathlib.Core.List.{List, [], ◌∷◌, nil≢cons, Memᴰ}
use Prim.Native.Nat.{ℕ, ◌≤◌, ◌<◌}
use native.Mathlib.Decide.{ℕ_discrete}
use native.Mathlib.Omega.{arith}
use lib.IntN.{ℤ, pos, negsuc, nat_abs}
use lib.ListN.{length, replicate, length-replicate}
use Rattle.stores.specs.Stores.{write}
use Rattle.entries.specs.Tally.{how_many, figures}
use Rattle.records.specs.Records.{records}
use Rattle.records.specs.Find.{distinct}
use Rattle.records.specs.Changes.{clear_records}
use Rattle.records.specs.Checks.{lengths_ok, records_ok, keys_ok}
use Rattle.index_types.specs.declared.RowEdition.{RowEdition}
use Rattle.index_types.specs.declared.RowEdition.TheVariants.{One, Two}
use Rattle.index_types.specs.declared.Tally.{Tally}
use Rattle.std.specs.Prelude.{Ok}
use Rattle.buffer_core.specs.Append.{append_of, append_ok, append_core, spill_of}
use Rattle.buffer_core.specs.Pop.{pop_of, pop_ok, pop_core, lists_ok}
use Rattle.buffer_core.specs.Flip.{flip_of, flip_ok, flip_core, flip_effect, in_order, in_rows, search_by, walk_from}
use Rattle.buffer_core.specs.Flush.{flush_of, flush_core, flushed, table_after, put_undeleted, remove_keys, new_count}
use Rattle.summary_core.specs.Moves.{append_lines, append_lines_of}
use Rattle.summary_core.specs.Flip.{walk_lines, in_lines, flip_lines, flip_lines_core, flip_lines_of}
use Rattle.ledger.specs.Ledger.{Parent, boxes, Call, ite, series_dec, ledger_numbers, Rules}
use Rattle.ledger.specs.Run.{Machine, run, flat, start, Legal}
use Rattle.ledger.proofs.ShortLaws.{short_apart}
use Rattle.history.proofs.SmallHistories.{heads_only}
use Rattle.history.proofs.ExampleLaws.{no_tokens}
use Rattle.history_summaries.specs.Summaries.{BorrowedSummaries}
use Rattle.copies.specs.Copies.{entries_in, tally_in, Keeping, no_summaries, summaries, Buffers, machine_of, Server, standing_at, copy_at, Alike, NoneTwice}
use Rattle.copies.specs.Example.{append_box, spend_box, forked, straight, both_standing, both_entries, spent_once, spent_twice}
use Rattle.copies.proofs.CopyLaws.{same_copies}

-- lists without room: no row is made, and no summary has a line
unfoldable pub no_lines : BorrowedSummaries
no_lines = record { lines = λ p. 0; numbers = λ p. []; numbers_in = λ p. omega arith; all_zero = λ p. refl }

abbrev pub buffers_in : RowEdition → Keeping → Buffers
buffers_in v k = record {
  edition = v;
  ids = λ p. replicate 32 0;
  ids_in = λ p. length-replicate {A = ℕ} 32 0;
  buffers = heads_only v;
  places = λ p. no_tokens;
  keeping = k;
}

-- ---- the rules
abbrev AllBelow : ℕ → List ℤ → Type 0
AllBelow n [] = Unit {0}
AllBelow n (x ∷ l) = (nat_abs x ≤ n) × AllBelow n l

below : (n : ℕ) (l : List ℤ) → AllBelow n l → (m : ℤ) → Memᴰ m l → nat_abs m ≤ n
below n [] h m t = absurd (Memᴰ.not-nil t)
below n (x ∷ l) h m t = ⊎_elim (λ e. omega (arith, h.0, ap nat_abs e)) (λ u. below n l h.1 m u) (Memᴰ.cases_cons t)

abbrev zeros : List ℤ
zeros = pos 0 ∷ pos 0 ∷ []

one : Rules (append_box 0 ∷ [])
one = (record { rises = λ m t. below 0 [] tt m t; unspent = refl }, tt)

two : Rules (append_box 0 ∷ append_box 0 ∷ [])
unfolding ite series_dec ℕ_discrete
two = (record { rises = λ m t. below 0 (pos 0 ∷ []) (omega arith, tt) m t; unspent = refl }, one)

three : Rules (append_box 5 ∷ append_box 0 ∷ append_box 0 ∷ [])
unfolding ite series_dec ℕ_discrete
three = (record { rises = λ m t. below 5 zeros (omega arith, (omega arith, tt)) m t; unspent = refl }, two)

four : (n : ℕ) → 5 ≤ n → Rules (append_box n ∷ append_box 5 ∷ append_box 0 ∷ append_box 0 ∷ [])
unfolding ite series_dec ℕ_discrete
four n h = (record { rises = λ m t. below n (pos 0 ∷ pos 0 ∷ pos 5 ∷ []) (omega arith, (omega arith, (h, tt))) m t; unspent = refl }, three)

stands : {a : Call} {cs : List Call} → (a ∷ cs) ≢ []
stands e = nil≢cons (sym e)

seven : Rules (append_box 7 ∷ append_box 5 ∷ append_box 0 ∷ append_box 0 ∷ [])
seven = four 7 (omega arith)

eight : Rules (append_box 8 ∷ append_box 5 ∷ append_box 0 ∷ append_box 0 ∷ [])
eight = four 8 (omega arith)

-- ---- the servers
abbrev pub first : Buffers
first = buffers_in One no_summaries

abbrev pub second : Buffers
second = buffers_in Two (summaries no_lines)

pub forked_legal : Legal (machine_of first) (start (machine_of first)) forked
unfolding Legal run ite series_dec ℕ_discrete append_of append_ok append_core spill_of records_ok lengths_ok distinct records no_tokens pop_of pop_ok pop_core
    flip_of flip_ok flip_core flip_effect in_order in_rows search_by walk_from flush_of flush_core flushed table_after put_undeleted remove_keys new_count lists_ok keys_ok clear_records write
forked_legal = (
  (tt, omega arith),
  one,
  (
    (tt, omega arith),
    two,
    (
      (tt, omega arith),
      three,
      (
        (tt, omega arith),
        seven,
        (
          (tt, omega arith),
          (tt, seven),
          (tt, (tt, seven), ((tt, stands), seven, ((tt, stands), three, (tt, three, ((tt, omega arith), eight, ((tt, omega arith), (tt, eight), tt)))))),
        ),
      ),
    ),
  ),
)

pub straight_legal : Legal (machine_of second) (start (machine_of second)) straight
unfolding Legal run ite series_dec ℕ_discrete append_lines_of append_lines append_ok append_core spill_of records_ok lengths_ok distinct records no_tokens no_lines
    flip_lines_of flip_lines_core flip_lines in_lines walk_lines flip_ok search_by walk_from write
straight_legal =
    ((tt, omega arith), one, ((tt, omega arith), two, ((tt, omega arith), three, ((tt, omega arith), eight, ((tt, omega arith), (tt, eight), tt)))))

abbrev pub a : Server
a = record { own = first; steps = forked; legal = forked_legal; apart = short_apart (machine_of first) forked (omega arith) }

abbrev pub b : Server
b = record { own = second; steps = straight; legal = straight_legal; apart = short_apart (machine_of second) straight (omega arith) }

forked_standing : standing_at a ≡ both_standing
unfolding run ite series_dec ℕ_discrete append_of append_ok append_core spill_of records_ok lengths_ok distinct records no_tokens pop_of pop_ok pop_core
    flip_of flip_ok flip_core flip_effect in_order in_rows search_by walk_from flush_of flush_core flushed table_after put_undeleted remove_keys new_count lists_ok keys_ok clear_records write
forked_standing = refl

straight_standing : standing_at b ≡ both_standing
unfolding run ite series_dec ℕ_discrete append_lines_of append_lines append_ok append_core spill_of records_ok lengths_ok distinct records no_tokens no_lines
    flip_lines_of flip_lines_core flip_lines in_lines walk_lines flip_ok search_by walk_from write
straight_standing = refl

-- ---- what they have
pub forked_entries : entries_in (copy_at a) (boxes 0) ≡ both_entries
unfolding run flat ite series_dec ℕ_discrete append_of append_ok append_core spill_of records_ok lengths_ok distinct records no_tokens pop_of pop_ok pop_core
    flip_of flip_ok flip_core flip_effect in_order in_rows search_by walk_from flush_of flush_core flushed table_after put_undeleted remove_keys new_count lists_ok keys_ok clear_records write
forked_entries = refl

pub copies_alike : (p : Parent) → Alike (copy_at a) (copy_at b) p
copies_alike p = (same_copies a b (forked_standing ∙ sym straight_standing) p).0

not_zero : {A : Type 0} → 0 < 0 → A
not_zero h = absurd (omega arith)

-- 0 stands twice, no other number does
apart_but_zero : NoneTwice (pos 0 ∷ pos 0 ∷ pos 5 ∷ pos 8 ∷ [])
unfolding NoneTwice
apart_but_zero = (
  (λ h t. not_zero h),
  ((λ h t. not_zero h), ((λ h t. ⊎_elim (λ e. omega (arith, ap nat_abs e)) Memᴰ.not-nil (Memᴰ.cases_cons t)), ((λ h t. Memᴰ.not-nil t), tt))),
)

pub straight_entries : entries_in (copy_at b) (boxes 0) ≡ both_entries
unfolding ite series_dec ℕ_discrete
straight_entries =
    sym ((same_copies a b (forked_standing ∙ sym straight_standing) 0).1 (subst (λ (cs : List Call). NoneTwice (ledger_numbers cs (boxes 0))) (sym forked_standing) apart_but_zero)) ∙ forked_entries

-- one unspent, one spent, two unknown, over the rows and over the summary
abbrev pub figures_of_both : Tally
figures_of_both = record { unspent = 1; spent = 1; unknown = 2 }

pub both_tallies : (tally_in (copy_at a) 0 ≡ Ok figures_of_both) × ((copy_at b).summary_tally 0 ≡ Ok figures_of_both)
unfolding how_many
both_tallies =
    let q : tally_in (copy_at a) 0 ≡ Ok figures_of_both = (copies_alike 0).counted ∙ ap (λ (l : List ℤ). Ok (figures l)) forked_entries in
    (q, sym (copies_alike 0).summary_tallies ∙ q)

-- ---- why signed entries ask that no number stands twice: the same calls stand, and another copy carries the sign
abbrev N : Machine
N = machine_of first

pub once_and_twice : (run N (start N) spent_once).standing ≡ (run N (start N) spent_twice).standing
unfolding run ite series_dec ℕ_discrete append_of append_ok append_core spill_of records_ok lengths_ok distinct records no_tokens
    flip_of flip_ok flip_core flip_effect in_order in_rows search_by walk_from flush_of flush_core flushed table_after put_undeleted remove_keys new_count lists_ok keys_ok clear_records write
once_and_twice = refl

pub first_copy_spent : N.entries (run N (start N) spent_once).now.store (boxes 0) ≡ negsuc 4 ∷ pos 5 ∷ []
unfolding run flat ite series_dec ℕ_discrete append_of append_ok append_core spill_of records_ok lengths_ok distinct records no_tokens
    flip_of flip_ok flip_core flip_effect in_order in_rows search_by walk_from write
first_copy_spent = refl

pub second_copy_spent : N.entries (run N (start N) spent_twice).now.store (boxes 0) ≡ pos 5 ∷ negsuc 4 ∷ []
unfolding run flat ite series_dec ℕ_discrete append_of append_ok append_core spill_of records_ok lengths_ok distinct records no_tokens
    flip_of flip_ok flip_core flip_effect in_order in_rows search_by walk_from flush_of flush_core flushed table_after put_undeleted remove_keys new_count lists_ok keys_ok clear_records write
second_copy_spent = refl
