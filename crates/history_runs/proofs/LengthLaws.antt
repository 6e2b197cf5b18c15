-- No call changes the length of a head.
use Prim.Native.Nat.{ℕ, ◌-◌, ◌≤◌}
use mathlib.Core.Path.{◌≡◌, refl, ◌∙◌}
use mathlib.Core.List.{List}
use native.Mathlib.Omega.{arith}
use lib.Dec.{eqb, leb, ltb}
use lib.IntN.{ℤ, pos, nat_abs, neg_ℤ}
use lib.ListN.{length, take, get_or, length-set}
use Rattle.stores.proofs.StoreLaws.{length_write}
use Rattle.signed.specs.Sign.{is_negative}
use Rattle.index_types.specs.declared.ListCounts.{ListCounts}
use Rattle.records.specs.Changes.{full_for}
use Rattle.segment_id.specs.declared.Kind.{Kind}
use Rattle.index_types.specs.declared.HeadCounts.{HeadCounts}
use Rattle.buffer_core.specs.Append.{Appending, spilled, spill_of, append_core, append_ok, append_of}
use Rattle.segment_id.specs.Key.{row_key}
use Rattle.segment_core.specs.Loading.{padded}
use Rattle.buffer_core.specs.declared.Direction.{Direction}
use Rattle.index_types.specs.declared.RowEdition.TheVariants.{One}
use Rattle.buffer_core.specs.Edition.{edition_1, RowRead, bad, good}
use Rattle.buffer_core.specs.Spills.{sources, spill_read}
use Rattle.buffer_core.specs.Pop.{Popping, Lists, row_head, merged, merge_of, unspill_of, pop_core, pop_ok, pop_of}
use Rattle.buffer_core.specs.Flip.{Flipping, Effect, refuse, flip_head, stage, done_by, flip_effect, flip_core, flip_ok, flip_of}
use Rattle.buffer_core.proofs.RefusedLaws.{both}
use Rattle.row_edition.proofs.ReadingLaws.{padded_length}
use Rattle.spill_rows.proofs.SpillLaws.{spill_few}
use Rattle.history.proofs.AppendSim.{length_one}

-- ---- append
module _ (kind : Kind) (parent : List ℕ) (h : HeadCounts) (c : ListCounts) (head : List ℤ) (staged : List ℕ) (room : 512 ≤ length head) where
  abbrev Long : Appending → Type 0
  Long o = length o.head ≡ length head

  pub append_long : (z : ℤ) → length (append_of edition_1 kind parent h z c head staged).head ≡ length head
  unfolding append_of append_core spill_of spilled
  append_long z =
      both Long (append_ok edition_1 h c head staged)
      (both Long (is_negative h.spills) refl
      (both Long (is_negative z) refl
      (both Long (ltb h.len 512) (length-set head h.len z)
      (both Long (leb 2147483647 (nat_abs h.spills)) refl
      (both Long (full_for 10288 c (edition_1.key kind parent (pos (nat_abs h.spills))) staged) refl
      (length_one z head room)))))) refl

-- ---- pop
module _ (b : Lists) (head : List ℤ) (room : 512 ≤ length head) where
  abbrev Long·pop : Popping → Type 0
  Long·pop o = length o.head ≡ length head

  merge_long : (x : RowRead) → ((zs : List ℤ) → x ≡ good zs → length zs ≤ 512) → (key : List ℕ) (spills : ℕ) → Long·pop (merge_of edition_1 x key spills b head)
  unfolding merge_of merged
  merge_long (bad code) few key spills = refl
  merge_long (good zs) few key spills =
      both Long·pop (eqb (length zs) 0) refl
      (both Long·pop (full_for 32 b.deleted_counts key b.deleted) refl
      (length-set (row_head zs head) (length zs - 1) (pos 0) ∙ length_write 0 (padded zs) head (omega (arith, padded_length zs (few zs refl)))))

  pub pop_long : (kind : Kind) (parent : List ℕ) (h : HeadCounts) → length (pop_of edition_1 kind parent h b head).head ≡ length head
  unfolding pop_of pop_core unspill_of
  pop_long kind parent h =
      let spills : ℕ = nat_abs h.spills - 1 in
      both Long·pop (pop_ok edition_1 h b head)
      (both Long·pop (is_negative h.spills) refl
      (both Long·pop (ltb 0 h.len) (length-set head (h.len - 1) (pos 0))
      (both Long·pop (eqb (nat_abs h.spills) 0) refl
      (merge_long (spill_read edition_1 kind (sources parent b.staged b.staged_counts.count b.table b.table_counts.count) spills)
      (spill_few One kind parent b.staged b.staged_counts.count b.table b.table_counts.count spills)
      (row_key parent kind (pos spills)) spills)))) refl

-- ---- spend and unspend
module _ (c : ListCounts) (head : List ℤ) (staged : List ℕ) where
  effect_long : (x : Effect) → length (done_by edition_1 x c head staged).head ≡ length head
  effect_long (refuse code) = refl
  effect_long (flip_head i) = length-set head i (neg_ℤ (get_or head i (pos 0)))
  effect_long (stage slot count key row) = refl

  pub flip_long : (d : Direction) (parent : List ℕ) (h : HeadCounts) (z : ℤ) (e : ListCounts) (table : List ℕ)
      → length (flip_of edition_1 d parent h z c staged e table head).head ≡ length head
  unfolding flip_of flip_core
  flip_long d parent h z e table =
      both (λ (o : Flipping). length o.head ≡ length head) (flip_ok edition_1 h c staged e table head)
      (effect_long (flip_effect edition_1 (sources parent staged c.count table e.count) c.capacity d z h.spills (take h.len head))) refl
