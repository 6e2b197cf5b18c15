-- A spill number read from W and from T: the same row, or it is missing in W.
use Prim.Native.Nat.{ℕ}
use mathlib.Core.Path.{◌≡◌, refl, sym, ap, ◌∙◌}
use mathlib.Core.Bool.{Bool, true, false}
use mathlib.Core.List.{List}
use native.Mathlib.Omega.{arith}
use lib.IntN.{pos}
use Rattle.std.specs.Prelude.{Option, Some, None}
use Rattle.records.specs.declared.Place.{Place}
use Rattle.records.specs.declared.Place.TheVariants.{Staged, Table, Missing}
use Rattle.records.specs.Records.{keys}
use Rattle.records.specs.Find.{find_key, row_at}
use Rattle.segment_id.specs.declared.Kind.{Kind}
use Rattle.segment_id.specs.declared.Kind.TheVariants.{Box}
use Rattle.buffer_core.specs.Edition.{Edition, bad}
use Rattle.buffer_core.specs.Spills.{Sources, sources, place_at, spill_read, read_placed}
use Rattle.buffer_core.specs.Flip.{row_flipped, stage_at, stage_from}
use Rattle.working_set.specs.Part.{Held, absent, held, held_in, PartOf, is_missing, lacks}

pub absent_held : {row : List ℕ} {x : Held} → x ≡ absent → x ≡ held row → ⊥
absent_held p q = let z : ◌≡◌ {A = ℕ} 0 1 = cc in omega arith

module _ (E : Edition) (parent staged : List ℕ) (m : ℕ) (work : List ℕ) (w : ℕ) (table : List ℕ) (t : ℕ)
    (part : PartOf (held_in E.size w work) (held_in E.size t table)) where
  abbrev pub W : Sources
  W = sources parent staged m work w

  abbrev pub T : Sources
  T = sources parent staged m table t

  pub data Placed (kind : Kind) (n : ℕ) : Type 0 where
    in_staged : (i : ℕ) → place_at E kind W n ≡ Staged i → place_at E kind T n ≡ Staged i → Placed kind n
    in_table : (i j : ℕ) → place_at E kind W n ≡ Table i → place_at E kind T n ≡ Table j → row_at E.size i work ≡ row_at E.size j table → Placed kind n
    nowhere : place_at E kind W n ≡ Missing → Placed kind n

  pub placed : (kind : Kind) (n : ℕ) → Placed kind n
  unfolding place_at held_in
  placed kind n = by_staged (find_key (E.key kind parent (pos n)) (keys E.size m staged)) refl
    where
      by_table : (i : ℕ) → find_key (E.key kind parent (pos n)) (keys E.size m staged) ≡ None → find_key (E.key kind parent (pos n)) (keys E.size w work) ≡ Some i
          → (g : Option ℕ) → find_key (E.key kind parent (pos n)) (keys E.size t table) ≡ g → Placed kind n
      by_table i s a (Some j) b =
          let p = part (E.key kind parent (pos n)) (row_at E.size i work) (rw a) in
          let q : held (row_at E.size j table) ≡ held (row_at E.size i work) = rw b at p in
          in_table i j (rw (s, a)) (rw (s, b)) (cc)
      by_table i s a None b =
          let p = part (E.key kind parent (pos n)) (row_at E.size i work) (rw a) in
          let q : absent ≡ held (row_at E.size i work) = rw b at p in
          absurd (absent_held refl q)

      by_work : find_key (E.key kind parent (pos n)) (keys E.size m staged) ≡ None → (g : Option ℕ) → find_key (E.key kind parent (pos n)) (keys E.size w work) ≡ g → Placed kind n
      by_work s (Some i) a = by_table i s a (find_key (E.key kind parent (pos n)) (keys E.size t table)) refl
      by_work s None a = nowhere (rw (s, a))

      by_staged : (g : Option ℕ) → find_key (E.key kind parent (pos n)) (keys E.size m staged) ≡ g → Placed kind n
      by_staged (Some i) s = in_staged i (rw s) (rw s)
      by_staged None s = by_work s (find_key (E.key kind parent (pos n)) (keys E.size w work)) refl

  missing_true : (p : Place) → p ≡ Missing → is_missing p ≡ false → ⊥
  missing_true p e h = let q : is_missing p ≡ true = rw e in let z : ◌≡◌ {A = Bool} true false = sym q ∙ h in let v : ◌≡◌ {A = ℕ} 0 1 = cc in omega arith

  -- a row that is there is read alike
  pub reads_alike : (kind : Kind) (n : ℕ) → lacks E kind W n ≡ false → spill_read E kind W n ≡ spill_read E kind T n
  unfolding spill_read
  reads_alike kind n h = by_place (placed kind n)
    where
      by_place : Placed kind n → read_placed E kind W n (place_at E kind W n) ≡ read_placed E kind T n (place_at E kind T n)
      by_place (in_staged i a b) = rw (a, b)
      by_place (in_table i j a b e) = rw (a, b) (ap (E.decode kind parent (pos n)) e)
      by_place (nowhere a) = absurd (missing_true (place_at E kind W n) a h)

  -- one that is not is refused by 12
  pub reads_12 : (kind : Kind) (n : ℕ) → lacks E kind W n ≡ true → spill_read E kind W n ≡ bad 12
  unfolding spill_read
  reads_12 kind n h = by_place (place_at E kind W n) h
    where
      by_place : (p : Place) → is_missing p ≡ true → read_placed E kind W n p ≡ bad 12
      by_place (Staged i) e = let z : ◌≡◌ {A = ℕ} 0 1 = cc in absurd (omega arith)
      by_place (Table i) e = let z : ◌≡◌ {A = ℕ} 0 1 = cc in absurd (omega arith)
      by_place Missing e = refl

  pub stages_alike : (capacity n at : ℕ) → lacks E Box W n ≡ false → stage_at E W capacity n at ≡ stage_at E T capacity n at
  unfolding stage_at row_flipped
  stages_alike capacity n at h = by_place (placed Box n)
    where
      by_place : Placed Box n → stage_from E W capacity n at (place_at E Box W n) ≡ stage_from E T capacity n at (place_at E Box T n)
      by_place (in_staged i a b) = rw (a, b)
      by_place (in_table i j a b e) = rw (a, b, e)
      by_place (nowhere a) = absurd (missing_true (place_at E Box W n) a h)
