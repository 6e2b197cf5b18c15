-- Laws of the rows of a spend or an unspend, one for each way out.
use Prim.Native.Nat.{ℕ}
use mathlib.Core.Path.{◌≡◌, sym, ◌∙◌}
use mathlib.Core.Bool.{Bool, cond}
use mathlib.Core.List.{List}
use Rattle.index_types.specs.declared.ListCounts.{ListCounts}
use Rattle.std.specs.Prelude.{Ok, Err}
use Rattle.index_types.specs.Answers.{Flipped}
use Rattle.index_types.specs.declared.RowEdition.{RowEdition}
use Rattle.buffer_core.specs.Answers.{Low}
use Rattle.buffer_core.specs.declared.Walk.{Walk}
use Rattle.buffer_core.specs.declared.Walk.TheVariants.{Hit, Ended, Failed}
use Rattle.buffer_core.specs.Edition.{edition_of}
use Rattle.buffer_core.specs.Spills.{Sources}
use Rattle.buffer_core.specs.Flip.{search_by, search_in, walk_from, lead_at, look_at, stage_at, after_walk, in_rows}
use Rattle.flip_stage.specs.Internal.{Stages}

module _ (ed : RowEdition) (w : Sources) (c : ListCounts) (staged : List ℕ) (v : Walk) where
  pub walk_hit : (n at : ℕ) (r : Flipped) (staged' : List ℕ) → v ≡ Hit n at → Stages ed (stage_at (edition_of ed) w c.capacity n at) c staged r staged'
      → Stages ed (after_walk (edition_of ed) w c.capacity v) c staged r staged'
  walk_hit n at r staged' q s = rw q s

  pub walk_ended : (s : Bool) (code : ℕ) → v ≡ Ended s → code ≡ cond s 14 15 → Stages ed (after_walk (edition_of ed) w c.capacity v) c staged (Err code) staged
  walk_ended s code q h head = rw (q, h)

  pub walk_bad : (code : ℕ) → v ≡ Failed code → Stages ed (after_walk (edition_of ed) w c.capacity v) c staged (Err code) staged
  walk_bad code q head = rw q

module _ (ed : RowEdition) (w : Sources) (c : ListCounts) (staged : List ℕ) (t : ℕ) (d : Bool) (spills : ℕ) (seen : Bool) (low : Low) (e : low ≡ search_in (lead_at (edition_of ed) w) t 0 spills) where
  pub rows_broken : (code : ℕ) → low ≡ Err code → Stages ed (in_rows (edition_of ed) w c.capacity t d spills seen) c staged (Err code) staged
  unfolding in_rows
  rows_broken code q head = rw (sym e ∙ q)

  pub rows_walked : (l : ℕ) → low ≡ Ok l → (v : Walk) → v ≡ walk_from (look_at (edition_of ed) w t d) l seen → (r : Flipped) (staged' : List ℕ)
      → Stages ed (after_walk (edition_of ed) w c.capacity v) c staged r staged' → Stages ed (in_rows (edition_of ed) w c.capacity t d spills seen) c staged r staged'
  unfolding in_rows
  rows_walked l q v ev r staged' s = rw (sym e ∙ q, sym ev) s

-- no row: what the head showed decides
pub rows_none : (ed : RowEdition) (w : Sources) (c : ListCounts) (staged : List ℕ) (t : ℕ) (d : Bool) (spills : ℕ) (seen : Bool) (code : ℕ) → spills ≡ 0 → code ≡ cond seen 14 15
    → Stages ed (in_rows (edition_of ed) w c.capacity t d spills seen) c staged (Err code) staged
unfolding in_rows search_by walk_from
rows_none ed w c staged t d spills seen code e h head = rw (e, h)
