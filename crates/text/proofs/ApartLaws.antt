-- Equal texts are texts of equal things: decimals, signed numbers and hex.
use Prim.Native.Nat.{ℕ, zero, suc, ◌+◌, ◌*◌, ◌-◌, ◌/◌, ◌%◌, ◌^◌, ◌<◌, ◌≤◌}
use mathlib.Core.Path.{◌≡◌, refl, sym, ap, subst, ◌∙◌}
use mathlib.Core.Bool.{Bool, true, false, cond}
use mathlib.Core.List.{List, [], ◌∷◌, ◌++◌}
use native.Mathlib.Omega.{arith}
use native.Mathlib.Nat.{pow-suc}
use lib.Dec.{ltb}
use lib.IntN.{ℤ, pos, negsuc, nat_abs}
use borrow.Author.Tests.{ltb-true, ltb-false}
use Rattle.text.specs.Text.{hex_digit, hex, digits, decimal, number}
use Rattle.text.proofs.HexLaws.{Bytes, digit_apart}

-- ---- the number that digits stand for

abbrev value : ℕ → List ℕ → ℕ
value a [] = a
value a (d ∷ ds) = value (a * 10 + (d - 48)) ds

value_append : (a : ℕ) (s t : List ℕ) → value a (s ++ t) ≡ value (value a s) t
value_append a [] t = refl
value_append a (d ∷ s) t = value_append (a * 10 + (d - 48)) s t

-- none of them is before "0", as "-" is
abbrev Digits : List ℕ → Type 0
Digits [] = Unit
Digits (d ∷ ds) = (48 ≤ d) × Digits ds

digits_append : (s t : List ℕ) → Digits s → Digits t → Digits (s ++ t)
digits_append [] t a b = b
digits_append (d ∷ s) t a b = (a.0, digits_append s t a.1 b)

digits_value : (f n : ℕ) → n < 10 ^ suc f → (value 0 (digits f n) ≡ n) × Digits (digits f n)
unfolding digits
digits_value zero n h = (omega arith, (omega arith, tt))
digits_value (suc f) n h = by_test (ltb n 10) (digits_value f (n / 10) (omega (arith, pow-suc 10 (suc f))))
  where
    by_test : (t : Bool) → (value 0 (digits f (n / 10)) ≡ n / 10) × Digits (digits f (n / 10))
        → (value 0 (cond t ((48 + n) ∷ []) (digits f (n / 10) ++ ((48 + n % 10) ∷ []))) ≡ n)
        × Digits (cond t ((48 + n) ∷ []) (digits f (n / 10) ++ ((48 + n % 10) ∷ [])))
    by_test true e = (omega arith, (omega arith, tt))
    by_test false e = (
      value_append 0 (digits f (n / 10)) ((48 + n % 10) ∷ []) ∙ omega arith,
      digits_append (digits f (n / 10)) ((48 + n % 10) ∷ []) e.1 (omega arith, tt),
    )

decimal_value : (n : ℕ) → n < 18446744073709551616 → (value 0 (decimal n) ≡ n) × Digits (decimal n)
unfolding decimal
decimal_value n h = digits_value 19 n (omega arith)

pub decimal_apart : (m n : ℕ) → m < 18446744073709551616 → n < 18446744073709551616 → decimal m ≡ decimal n → m ≡ n
decimal_apart m n h k e = sym (decimal_value m h).0 ∙ ap (value 0) e ∙ (decimal_value n k).0

not_dash : {X : Type 0} (n : ℕ) (t : List ℕ) → n < 18446744073709551616 → decimal n ≡ 45 ∷ t → X
not_dash n t h e = let d : Digits (45 ∷ t) = subst Digits e (decimal_value n h).1 in absurd (omega (arith, d.0))

pub number_apart : (x y : ℤ) → nat_abs x < 18446744073709551616 → nat_abs y < 18446744073709551616 → number x ≡ number y → x ≡ y
unfolding number
number_apart (pos m) (pos n) h k e = ap pos (decimal_apart m n h k e)
number_apart (pos m) (negsuc n) h k e = not_dash m (decimal (suc n)) h e
number_apart (negsuc m) (pos n) h k e = not_dash n (decimal (suc m)) k (sym e)
number_apart (negsuc m) (negsuc n) h k e =
    let f : decimal (suc m) ≡ decimal (suc n) = cc in
    let g : suc m ≡ suc n = decimal_apart (suc m) (suc n) h k f in ap negsuc (omega arith)

-- ---- hex, of bytes

pub hex_apart : (s t : List ℕ) → Bytes s → Bytes t → hex s ≡ hex t → s ≡ t
unfolding hex
hex_apart [] [] f g e = refl
hex_apart [] (y ∷ t) f g e = let z : ◌≡◌ {A = ℕ} 0 1 = cc in absurd (omega arith)
hex_apart (x ∷ s) [] f g e = let z : ◌≡◌ {A = ℕ} 0 1 = cc in absurd (omega arith)
hex_apart (x ∷ s) (y ∷ t) f g e =
    let a : hex_digit (x / 16) ≡ hex_digit (y / 16) = cc in
    let b : hex_digit (x % 16) ≡ hex_digit (y % 16) = cc in
    let r : hex s ≡ hex t = cc in
    let a' : x / 16 ≡ y / 16 = digit_apart (x / 16) (y / 16) (omega arith) (omega arith) a in
    let b' : x % 16 ≡ y % 16 = digit_apart (x % 16) (y % 16) (omega arith) (omega arith) b in
    let h : x ≡ y = omega arith in
    let u : s ≡ t = hex_apart s t f.1 g.1 r in cc
