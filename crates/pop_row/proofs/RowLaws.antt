-- Laws of a pop from an empty head: one for each way out.
use Prim.Native.Nat.{ℕ, ◌-◌, ◌≤◌, ◌<◌}
use mathlib.Core.Path.{◌≡◌, refl, sym, ap, ◌∙◌}
use mathlib.Core.Bool.{true, false}
use mathlib.Core.List.{List}
use native.Mathlib.Omega.{arith}
use lib.IntN.{ℤ, pos}
use lib.ListN.{length}
use borrow.Author.Tests.{eq-eqb, ne_eqb}
use Rattle.index_types.specs.declared.ListCounts.{ListCounts}
use Rattle.records.specs.Changes.{full_for}
use Rattle.records.proofs.PutLaws.{slot_room}
use Rattle.segment_id.specs.Key.{row_key}
use Rattle.segment_id.specs.declared.Kind.{Kind}
use Rattle.segment_core.specs.Loading.{padded}
use Rattle.std.specs.Prelude.{Ok, Err}
use Rattle.index_types.specs.declared.RowEdition.{RowEdition}
use Rattle.buffer_core.specs.Edition.{RowRead, bad, good, edition_of}
use Rattle.buffer_core.specs.Spills.{sources, spill_read}
use Rattle.buffer_core.specs.Pop.{Popping, popping, lists, merge_of, unspill_of}
use Rattle.row_edition.specs.Answers.{SpillRead}
use Rattle.row_edition.specs.Internal.{SpillInto}
use Rattle.row_edition.proofs.ReadingLaws.{padded_length}
use Rattle.spill_rows.proofs.SpillLaws.{spill_few}
use Rattle.pop_merge.specs.Internal.{MergeReady, Merges}
use Rattle.pop_row.specs.Internal.{PopReady}

-- ---- the ways out of an unspill

module _ (ed : RowEdition) (kind : Kind) (parent : List ℕ) (spills : ℕ) (c : ListCounts) (staged : List ℕ) (d : ListCounts) (table : List ℕ) (e : ListCounts) (deleted : List ℕ)
    (head : List ℤ) (key : List ℕ) (is : key ≡ row_key parent kind (pos spills)) (a : SpillRead) (list : List ℤ)
    (p : SpillInto (spill_read (edition_of ed) kind (sources parent staged c.count table d.count) spills) a list) where
  abbrev out : Popping
  out = unspill_of (edition_of ed) kind parent spills (lists c staged d table e deleted) head

  abbrev row : RowRead
  row = spill_read (edition_of ed) kind (sources parent staged c.count table d.count) spills

  unspill_is : merge_of (edition_of ed) row key spills (lists c staged d table e deleted) head ≡ out
  unfolding unspill_of
  unspill_is = rw (← is)

  pub unspill_bad : (code : ℕ) → a ≡ Err code → popping (Err code) head staged deleted ≡ out
  unfolding merge_of
  unspill_bad code q = by_row row p ∙ unspill_is
    where
      by_row : (x : RowRead) → SpillInto x a list → popping (Err code) head staged deleted ≡ merge_of (edition_of ed) x key spills (lists c staged d table e deleted) head
      by_row (bad y) s = let f : code ≡ y = cc in rw f
      by_row (good zs) s = let f : a ≡ Ok (length zs) = s.0 in let z : ◌≡◌ {A = ℕ} 0 1 = cc in absurd (omega arith)

  module _ (n : ℕ) (q : a ≡ Ok n) where
    pub record Got : Type 0 where
      pub numbers : List ℤ
      pub good_row : row ≡ good numbers
      pub counted : n ≡ length numbers
      pub pads : list ≡ padded numbers
      pub few : n ≤ 512
      pub listed : length list ≡ 512

    pub got : Got
    got = by_row row refl p
      where
        by_row : (x : RowRead) → row ≡ x → SpillInto x a list → Got
        by_row (bad y) f s = let z : ◌≡◌ {A = ℕ} 0 1 = cc in absurd (omega arith)
        by_row (good zs) f s =
            let g : a ≡ Ok (length zs) = s.0 in
            let h : n ≡ length zs = cc in
            let w = spill_few ed kind parent staged c.count table d.count spills zs f in
            record { numbers = zs; good_row = f; counted = h; pads = s.1; few = omega arith; listed = ap length s.1 ∙ padded_length zs w }

    pub unspill_20 : n ≡ 0 → popping (Err 20) head staged deleted ≡ out
    unfolding merge_of
    unspill_20 h = rw (got.good_row, eq-eqb (length got.numbers) 0 (sym got.counted ∙ h)) at unspill_is

    module _ (h : n ≡ 0 → ⊥) where
      pub unspill_21 : full_for 32 e key deleted ≡ true → popping (Err 21) head staged deleted ≡ out
      unfolding merge_of
      unspill_21 f = rw (got.good_row, ne_eqb (length got.numbers) 0 (λ z. h (got.counted ∙ z)), f) at unspill_is

      pub unspill_done : full_for 32 e key deleted ≡ false → (o : Popping) → Merges ed list n spills key c staged e deleted head o → o ≡ out
      unfolding merge_of
      unspill_done f o m =
          m got.numbers d table got.pads got.counted
          ∙ (rw (got.good_row, ne_eqb (length got.numbers) 0 (λ z. h (got.counted ∙ z)), f) at unspill_is)

      pub merge_ready : full_for 32 e key deleted ≡ false → spills < 2147483648 → length key ≡ 32 → PopReady ed (lists c staged d table e deleted) head
          → MergeReady ed list n spills key c staged e deleted head
      merge_ready f b k r =
          record {
            long = r.long;
            listed = got.listed;
            some = omega (arith, h);
            few = got.few;
            below = b;
            keyed = k;
            within_staged = r.in_staged.within;
            within_deleted = r.in_deleted.within;
            room = slot_room 32 e key deleted r.in_deleted f;
          }
