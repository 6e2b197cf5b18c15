-- Laws of refusal 25 with a summary: the quotient and the product say the same, and what passed.
use Prim.Native.Nat.{ℕ, zero, ◌*◌, ◌/◌, ◌%◌, ◌≤◌, ◌<◌}
use mathlib.Core.Path.{◌≡◌, refl, sym, ap, ◌∙◌}
use mathlib.Core.Bool.{Bool, true, false, ◌&&◌}
use mathlib.Core.List.{List}
use native.Mathlib.Omega.{arith}
use native.Mathlib.Nat.{div-add-mod', mod-lt}
use lib.Dec.{leb}
use lib.ListN.{length}
use borrow.Author.Tests.{leb-true, leb-false, le-leb, lt-leb}
use Rattle.records.proofs.CheckLaws.{and_right}
use Rattle.summary_core.specs.Lines.{lines_ok}

pub quotient_ok : (lines : ℕ) (S : List ℕ) → leb lines (length S / 5) ≡ lines_ok lines S
quotient_ok lines S = by_test (leb (lines * 5) (length S)) refl
  where
    by_test : (b : Bool) → leb (lines * 5) (length S) ≡ b → leb lines (length S / 5) ≡ b
    by_test true e = le-leb lines (length S / 5) (omega (arith, leb-true (lines * 5) (length S) e, div-add-mod' (length S) 5, mod-lt (length S) {m = 5} (omega arith)))
    by_test false e = lt-leb lines (length S / 5) (omega (arith, leb-false (lines * 5) (length S) e, div-add-mod' (length S) 5))

-- a call that passed has room for its lines
pub room : (a : Bool) (lines : ℕ) (S : List ℕ) → (a && lines_ok lines S) ≡ true → lines * 5 ≤ length S
room a lines S e = leb-true (lines * 5) (length S) (and_right a (lines_ok lines S) e)

-- the two tests in turn
pub both : (x a b : Bool) → x ≡ a → x ≡ true → (y : Bool) → y ≡ b → y ≡ (a && b)
both x a b e t y f = rw (sym e ∙ t) f

pub first_fails : (x a b : Bool) → x ≡ a → x ≡ false → false ≡ (a && b)
first_fails x a b e t = rw (sym e ∙ t)
