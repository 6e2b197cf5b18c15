-- Summaries stay current: after every accepted call each summary that equalled the one made afresh does so again.
use mathlib.Core.Path.{◌≡◌, sym, ap, ◌∙◌}
use mathlib.Core.List.{List}
use Prim.Native.Nat.{ℕ, ◌≤◌}
use native.Mathlib.Omega.{arith}
use lib.IntN.{ℤ, nat_abs}
use lib.ListN.{length, take, length-take}
use Rattle.entries.specs.Order.{order_ok}
use Rattle.buffer_core.specs.Edition.{Edition, edition_of}
use Rattle.index_types.specs.declared.RowEdition.{RowEdition}
use Rattle.ledger.specs.Ledger.{Parent, Series, boxes, parent_of}
use Rattle.ledger.specs.Run as Mc
use Rattle.history.specs.Index.{kind_of}
use Rattle.history.specs.EditionLaws.{Small, EditionLaws}
use Rattle.history.proofs.Editions.{edition_laws, all_fit}
use Rattle.history_summaries.specs.Summaries.{SummaryIndex}
use Rattle.history_summaries.specs.Promises.{Current, StaysCurrent, SummaryLaw}
use Rattle.history_summaries.proofs.Right as Ri
use Rattle.history_summaries.proofs.AppendKeeps.{AppendDone, append_done, append_other_done, append_right}
use Rattle.history_summaries.proofs.PopKeeps.{PopDone, pop_was, pop_other_done, pop_right}
use Rattle.history_summaries.proofs.FlushKeeps.{flush_right}
use Rattle.history_summaries.proofs.FlipKeeps.{ordered_small, FlipDone, flip_done, flip_other_done, flip_right}
use Rattle.history_summaries.proofs.RowLaws.{encode_short, redone}

few : (l : List ℤ) → length (take 512 l) ≤ 512
few l = simp length-take (omega arith)

-- the head of a parent whose summary was current can be coded
current_small : (E : Edition) (ids : Parent → List ℕ) (lines : Parent → ℕ) (b : SummaryIndex) (ch : Series) (q : Parent) → Current E ids lines b q → ch ≡ boxes q → (b.index.parts ch).head.len ≡ 512
    → Small (take 512 (b.index.parts ch).places)
current_small E ids lines b ch q e g l =
    ordered_small 0 (take 512 (b.index.parts ch).places)
    (ap (λ (m : ℕ). order_ok (take m (b.index.parts ch).places)) (sym l)
    ∙ ap (λ (d : Series). order_ok (take (b.index.parts d).head.len (b.index.parts d).places)) g
    ∙ (Ri.passing E ids lines b q e).checks.in_order)

module _ (v : RowEdition) (ids : Parent → List ℕ) (long : (p : Parent) → length (ids p) ≡ 32) (lines : Parent → ℕ) where
  abbrev E : Edition
  E = edition_of v

  L : EditionLaws (edition_of v) ids
  L = edition_laws v ids long

  append_stays : (b c : SummaryIndex) (ch : Series) (n : ℤ) (q : Parent) → AppendDone E ids lines b c ch n q → StaysCurrent E ids lines q b c
  append_stays b c ch n q D before after pass cur =
      let s = nat_abs (b.index.parts ch).head.spills in
      let zs = take 512 (b.index.parts ch).places in
      Ri.current E ids lines c q (Ri.checks E ids lines c q pass) (append_right E ids L lines b c ch n q (Ri.right E ids lines b q cur) D
      (λ w. record {
        short = encode_short v (kind_of ch) (ids (parent_of ch)) (long (parent_of ch)) s (omega (arith, w.below)) zs (few (b.index.parts ch).places);
        back = λ g. L.decode_encode (kind_of ch) (parent_of ch) s zs w.below (few (b.index.parts ch).places) (current_small E ids lines b ch q cur g w.was_full);
        apart = λ t h k. after ch (boxes q) s t (omega (arith, w.one_more)) h k;
      }))

  pop_stays : (b : SummaryIndex) (ch : Series) (r : Mc.Popped SummaryIndex) (q : Parent) → PopDone E ids lines b ch r q → StaysCurrent E ids lines q b r.left
  pop_stays b ch r q D before after pass cur =
      Ri.current E ids lines r.left q (Ri.checks E ids lines r.left q pass) (pop_right E ids L lines b ch r q (Ri.right E ids lines b q cur) D (λ m t h k. before ch (boxes q) _ t (omega arith) h k))

  flip_stays : (b c : SummaryIndex) (p q : Parent) → FlipDone E ids lines b c p q → StaysCurrent E ids lines q b c
  flip_stays b c p q D before after pass cur =
      Ri.current E ids lines c q (Ri.checks E ids lines c q pass) (flip_right E ids L lines b c p q (Ri.right E ids lines b q cur)
      (record {
        redo = λ n row zs new h e few small. redone (ids p) (long p) n row zs new few (all_fit new small) v e;
        apart = λ s t h g k. before (boxes p) (boxes q) s t h g k;
      }) D)

pub summary_law : SummaryLaw
summary_law v ids long lines = record {
  append = λ b c ch n e q. append_stays v ids long lines b c ch n q (append_done (edition_of v) ids lines b c ch n e q);
  pop = λ b ch r e q. pop_stays v ids long lines b ch r q (pop_was (edition_of v) ids lines b r ch e q);
  flip = λ b c d p t e q. flip_stays v ids long lines b c p q (flip_done (edition_of v) ids lines b c p q d t e);
  flush = λ b c e q before after pass cur.
      Ri.current (edition_of v) ids lines c q (Ri.checks (edition_of v) ids lines c q pass) (flush_right (edition_of v) ids (L v ids long lines) lines b c e q (Ri.right (edition_of v) ids lines b q cur)
      (Ri.rows_there (edition_of v) ids lines c q (Ri.checks (edition_of v) ids lines c q pass)));
  append_other = λ b c ch n e q g. append_stays v ids long lines b c ch n q (append_other_done (edition_of v) ids lines b c ch n q e g);
  pop_other = λ b ch r e q g. pop_stays v ids long lines b ch r q (pop_other_done (edition_of v) ids lines b ch r q e g);
  flip_other = λ b c d p t e q g. flip_stays v ids long lines b c p q (flip_other_done (edition_of v) ids lines b c p q d t e g);
}
