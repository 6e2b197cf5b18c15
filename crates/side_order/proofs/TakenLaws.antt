-- Rows as a pop takes them: one law for each way out of reading one, and for a turn and each end of the loop over all of them.
use mathlib.Core.Path.{◌≡◌, refl, sym, ◌∙◌, ap}
use mathlib.Core.List.{List, [], ◌∷◌}
use Prim.Native.Nat.{ℕ, suc, ◌+◌, ◌-◌, ◌≤◌, ◌<◌}
use native.Mathlib.Omega.{arith}
use lib.IntN.{ℤ}
use lib.ListN.{length}
use Rattle.buffer_core.specs.Edition.{RowRead, bad, good}
use Rattle.buffer_core.specs.Rows.{then_rows, rows_up}
use Rattle.std.specs.Prelude.{Ok, Err}
use Rattle.row_edition.specs.Answers.{SpillRead}
use Rattle.row_edition.specs.Internal.{SpillInto}
use Rattle.spill_rows.specs.Internal.{read_of}
use Rattle.spill_rows.proofs.CheckedLaws.{nope}
use Rattle.side_order.specs.Side.{taken_row}
use Rattle.side_order.specs.Internal.{TakenInto}

-- ---- one row

pub taken_some : (x : RowRead) (r : SpillRead) (out : List ℤ) → SpillInto x r out → (n : ℕ) → r ≡ Ok n → (n ≡ 0 → ⊥) → TakenInto (taken_row x) (Ok n) out
taken_some (good []) r out s n e h = let p = s.0 in let d : n ≡ 0 = cc in absurd (h d)
taken_some (good (z ∷ zs)) r out s n e h = record { read = (sym e ∙ s.0, s.1) }
taken_some (bad c) r out s n e h = nope (cc)

pub taken_none : (x : RowRead) (r : SpillRead) (out : List ℤ) → SpillInto x r out → (n : ℕ) → r ≡ Ok n → n ≡ 0 → TakenInto (taken_row x) (Err 20) out
taken_none (good []) r out s n e h = record { read = refl }
taken_none (good (z ∷ zs)) r out s n e h = let p = s.0 in let d : n ≡ suc (length zs) = cc in absurd (omega arith)
taken_none (bad c) r out s n e h = nope (cc)

pub taken_bad : (x : RowRead) (r : SpillRead) (out : List ℤ) → SpillInto x r out → (code : ℕ) → r ≡ Err code → TakenInto (taken_row x) (Err code) out
taken_bad (good zs) r out s code e = let p = s.0 in nope (cc)
taken_bad (bad c) r out s code e = record { read = sym e ∙ s }

module _ (x : RowRead) (r : SpillRead) (out : List ℤ) (t : TakenInto x r out) where
  pub row_good : (n : ℕ) → r ≡ Ok n → (Ok tt) ≡ read_of x
  row_good n e = by_row x t.read
    where
      by_row : (x : RowRead) → SpillInto x r out → (Ok tt) ≡ read_of x
      by_row (good zs) s = refl
      by_row (bad c) s = nope (cc)

  pub row_bad : (code : ℕ) → r ≡ Err code → Err code ≡ read_of x
  row_bad code e = by_row x t.read
    where
      by_row : (x : RowRead) → SpillInto x r out → Err code ≡ read_of x
      by_row (good zs) s = let p = s.0 in nope (cc)
      by_row (bad c) s = let d : code ≡ c = cc in ap Err d

-- ---- all rows

module _ (f : ℕ → RowRead) (n m : ℕ) where
  pub rows_turn : n < m → (Ok tt) ≡ read_of (f n) → read_of (rows_up f n (m - n)) ≡ read_of (rows_up f (n + 1) (m - (n + 1)))
  unfolding rows_up
  rows_turn h e = let left : m - n ≡ suc (m - (n + 1)) = omega arith in rw left (by_row (f n) (rows_up f (n + 1) (m - (n + 1))) e)
    where
      by_row : (x y : RowRead) → (Ok tt) ≡ read_of x → read_of (then_rows x y) ≡ read_of y
      by_row (bad c) y e = nope (cc)
      by_row (good zs) (bad c) e = refl
      by_row (good zs) (good ys) e = refl

  pub rows_stop : n < m → (code : ℕ) → Err code ≡ read_of (f n) → Err code ≡ read_of (rows_up f n (m - n))
  unfolding rows_up
  rows_stop h code e = let left : m - n ≡ suc (m - (n + 1)) = omega arith in rw left (by_row (f n) (rows_up f (n + 1) (m - (n + 1))) e)
    where
      by_row : (x y : RowRead) → Err code ≡ read_of x → Err code ≡ read_of (then_rows x y)
      by_row (bad c) y e = e
      by_row (good zs) y e = nope (cc)

  pub rows_past : m ≤ n → read_of (rows_up f n (m - n)) ≡ Ok tt
  unfolding rows_up
  rows_past h = let z : m - n ≡ 0 = omega arith in rw z
