-- The tests before a trial one after the other, and zeros over a whole buffer.
use Prim.Native.Nat.{ℕ, zero, suc, ◌+◌, ◌≤◌}
use mathlib.Core.Path.{◌≡◌, refl, sym, ap, ◌∙◌}
use mathlib.Core.Bool.{Bool, true, false, cond, ◌&&◌}
use mathlib.Core.List.{List, [], ◌∷◌, ◌++◌, append-nil}
use native.Mathlib.Omega.{arith}
use lib.Dec.{eqb}
use lib.ListN.{length, drop, replicate, length-replicate}
use borrow.Author.Tests.{eq-eqb, ne_eqb}
use Rattle.stores.specs.Stores.{write}
use Rattle.trial_buffers.specs.Sizes.{refused_by}

-- ---- the tests of 25 one after the other
pub all_on : {a b c d r : Bool} (f : Bool) → a ≡ true → b ≡ true → c ≡ true → d ≡ true → r ≡ f → r ≡ a && (b && (c && (d && f)))
all_on f p q s t e = e ∙ (λ i. sym p i && (sym q i && (sym s i && (sym t i && f))))

pub last_off : {a b c d : Bool} (f : Bool) → a ≡ true → b ≡ true → c ≡ true → d ≡ false → false ≡ a && (b && (c && (d && f)))
last_off f p q s t = λ i. sym p i && (sym q i && (sym s i && (sym t i && f)))

pub third_off : {a b c : Bool} (d f : Bool) → a ≡ true → b ≡ true → c ≡ false → false ≡ a && (b && (c && (d && f)))
third_off d f p q s = λ i. sym p i && (sym q i && (sym s i && (d && f)))

pub second_off : {a b : Bool} (c d f : Bool) → a ≡ true → b ≡ false → false ≡ a && (b && (c && (d && f)))
second_off c d f p q = λ i. sym p i && (sym q i && (c && (d && f)))

pub first_off : {a : Bool} (b c d f : Bool) → a ≡ false → false ≡ a && (b && (c && (d && f)))
first_off b c d f p = λ i. sym p i && (b && (c && (d && f)))

-- ---- 25, then 38
module _ (x : ℕ) (ok : Bool) where
  pub refused_38 : ok ≡ true → x ≡ 0 → 38 ≡ refused_by x ok
  refused_38 p q = let v = eq-eqb x 0 q in λ i. cond (sym p i) (cond (sym v i) 38 0) 25

  pub refused_none : ok ≡ true → (x ≡ 0 → ⊥) → 0 ≡ refused_by x ok
  refused_none p q = let v = ne_eqb x 0 q in λ i. cond (sym p i) (cond (sym v i) 38 0) 25

  pub refused_25 : ok ≡ false → 25 ≡ refused_by x ok
  refused_25 p = λ i. cond (sym p i) (cond (eqb x 0) 38 0) 25

-- ---- zeros
none_behind : {A : Type 0} (n : ℕ) (l : List A) → length l ≤ n → drop n l ≡ []
none_behind zero [] h = refl
none_behind zero (y ∷ l) h = absurd (omega arith)
none_behind (suc n) [] h = refl
none_behind (suc n) (y ∷ l) h = none_behind n l (omega arith)

pub write_all : {A : Type 0} (z : A) (l : List A) → write 0 (replicate (length l) z) l ≡ replicate (length l) z
unfolding write
write_all z l =
    ap (λ (k : List _). replicate (length l) z ++ k) (none_behind (0 + length (replicate (length l) z)) l (omega (arith, length-replicate (length l) z)))
    ∙ append-nil (replicate (length l) z)
