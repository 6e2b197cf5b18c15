-- Laws of staging a row with an entry negated: one for each way out.
use Prim.Native.Nat.{ℕ, ◌+◌, ◌*◌, ◌≤◌, ◌<◌}
use mathlib.Core.Path.{◌≡◌, refl, sym, ap, ◌∙◌}
use mathlib.Core.List.{List}
use borrow.Author.Tests.{lt-ltb, le-ltb}
use lib.IntN.{pos}
use lib.ListN.{length}
use Rattle.std.specs.Prelude.{Option, Some, None, Ok, Err}
use Rattle.index_types.specs.declared.ListCounts.{ListCounts}
use Rattle.records.specs.declared.Place.{Place}
use Rattle.records.specs.declared.Place.TheVariants.{Staged, Table, Missing}
use Rattle.records.specs.Records.{keys, record_of}
use Rattle.records.specs.Find.{find_key, row_at, place_of, locate_key}
use Rattle.records.specs.Changes.{slot, count_after, with_count, put_record}
use Rattle.records.specs.Checks.{InBounds}
use Rattle.records.proofs.TurnLaws.{found_in}
use Rattle.segment_id.specs.Key.{row_key}
use Rattle.segment_id.specs.declared.Kind.TheVariants.{Box}
use Rattle.index_types.specs.declared.RowEdition.{RowEdition}
use Rattle.buffer_core.specs.Edition.{numbers_of, record_size, row_under, edition_of}
use Rattle.buffer_core.specs.Spills.{sources, place_at, spill_read}
use Rattle.buffer_core.specs.Flip.{row_flipped, stage_at}
use Rattle.buffer_core.proofs.SizeLaws.{slot_in}
use Rattle.spill_rows.proofs.CheckedLaws.{nope}
use Rattle.flip_stage.specs.Internal.{Takes, flipped_under, Stages}

-- key is what a local holds of the row's key, p what was located

place_staged : (f g : Option ℕ) (i : ℕ) → place_of f g ≡ Staged i → f ≡ Some i
place_staged (Some j) g i e = let a : j ≡ i = cc in ap Some a
place_staged None (Some j) i e = nope (cc)
place_staged None None i e = nope (cc)

place_table : (f g : Option ℕ) (i : ℕ) → place_of f g ≡ Table i → (f ≡ None) × (g ≡ Some i)
place_table (Some j) g i e = nope (cc)
place_table None (Some j) i e = let a : j ≡ i = cc in (refl, ap Some a)
place_table None None i e = nope (cc)

module _ (v : RowEdition) (parent staged : List ℕ) (c : ListCounts) (table : List ℕ) (m n at : ℕ) (key : List ℕ) (ek : key ≡ row_key parent Box (pos n))
    (p : Place) (ep : p ≡ locate_key (record_size v) key c.count staged m table) where
  place_is : place_at (edition_of v) Box (sources parent staged c.count table m) n ≡ p
  unfolding place_at
  place_is = ap (λ (k : List ℕ). locate_key (record_size v) k c.count staged m table) (sym ek) ∙ sym ep

  pub stage_12 : p ≡ Missing → Stages v (stage_at (edition_of v) (sources parent staged c.count table m) c.capacity n at) c staged (Err 12) staged
  unfolding stage_at
  stage_12 q head = rw (place_is ∙ q)

  module _ (i : ℕ) (q : p ≡ Table i) where
    pub stage_16 : c.capacity ≤ c.count → Stages v (stage_at (edition_of v) (sources parent staged c.count table m) c.capacity n at) c staged (Err 16) staged
    unfolding stage_at
    stage_16 h head = rw (place_is ∙ q, le-ltb c.count c.capacity h)

    not_staged : find_key key (keys (record_size v) c.count staged) ≡ None
    not_staged = (place_table (find_key key (keys (record_size v) c.count staged)) (find_key key (keys (record_size v) m table)) i (sym ep ∙ q)).0

    pub table_lies : m * record_size v ≤ length table → i * record_size v + record_size v ≤ length table
    table_lies h =
        let e = (place_table (find_key key (keys (record_size v) c.count staged)) (find_key key (keys (record_size v) m table)) i (sym ep ∙ q)).1 in
        slot_in v i m (length table) (found_in key (record_size v) m table i _ refl e) h

    pub table_takes : Takes (spill_read (edition_of v) Box (sources parent staged c.count table m) n) at → Takes (numbers_of Box (row_under v Box parent (pos n) (row_at (record_size v) i table))) at
    unfolding spill_read
    table_takes x = rw (place_is ∙ q) at x

    pub table_room : c.count < c.capacity → InBounds (record_size v) c staged → slot (find_key key (keys (record_size v) c.count staged)) c.count * record_size v + record_size v ≤ length staged
    table_room h b = rw not_staged (slot_in v c.count c.capacity (length staged) h b.room)

    pub stage_copied : c.count < c.capacity → (row : List ℕ) → row ≡ flipped_under v parent n (row_at (record_size v) i table) at → (k : ℕ) (staged' : List ℕ)
        → k ≡ count_after (find_key key (keys (record_size v) c.count staged)) c.count → staged' ≡ put_record (record_size v) c.count key (record_of (record_size v) key row) staged
        → Stages v (stage_at (edition_of v) (sources parent staged c.count table m) c.capacity n at) c staged (Ok (with_count k c)) staged'
    unfolding stage_at put_record row_flipped
    stage_copied h row er k staged' e d head = rw (place_is ∙ q, lt-ltb c.count c.capacity h, e, d, not_staged, er, ek)

  module _ (i : ℕ) (q : p ≡ Staged i) where
    is_staged : find_key key (keys (record_size v) c.count staged) ≡ Some i
    is_staged = place_staged (find_key key (keys (record_size v) c.count staged)) (find_key key (keys (record_size v) m table)) i (sym ep ∙ q)

    pub staged_lies : c.count * record_size v ≤ length staged → i * record_size v + record_size v ≤ length staged
    staged_lies h = slot_in v i c.count (length staged) (found_in key (record_size v) c.count staged i _ refl is_staged) h

    pub staged_takes : Takes (spill_read (edition_of v) Box (sources parent staged c.count table m) n) at → Takes (numbers_of Box (row_under v Box parent (pos n) (row_at (record_size v) i staged))) at
    unfolding spill_read
    staged_takes x = rw (place_is ∙ q) at x

    pub staged_room : c.count * record_size v ≤ length staged → slot (find_key key (keys (record_size v) c.count staged)) c.count * record_size v + record_size v ≤ length staged
    staged_room h = rw is_staged (staged_lies h)

    pub stage_again : (row : List ℕ) → row ≡ flipped_under v parent n (row_at (record_size v) i staged) at → (k : ℕ) (staged' : List ℕ)
        → k ≡ count_after (find_key key (keys (record_size v) c.count staged)) c.count → staged' ≡ put_record (record_size v) c.count key (record_of (record_size v) key row) staged
        → Stages v (stage_at (edition_of v) (sources parent staged c.count table m) c.capacity n at) c staged (Ok (with_count k c)) staged'
    unfolding stage_at put_record row_flipped
    stage_again row er k staged' e d head = rw (place_is ∙ q, e, d, is_staged, er, ek)
