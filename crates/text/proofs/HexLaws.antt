-- "Rows on existing shelves must be found under the same keys": the characters are those that the rule by cases gave.
use Prim.Native.Nat.{ℕ, ◌+◌, ◌/◌, ◌%◌, ◌<◌}
use mathlib.Core.Path.{◌≡◌, refl, sym, ap, ◌∙◌}
use mathlib.Core.Bool.{Bool, true, false, cond}
use mathlib.Core.List.{List, [], ◌∷◌}
use native.Mathlib.Omega.{arith}
use lib.Dec.{T, eqb, eqb→eq, ltb}
use lib.ListN.{length, get_or}
use borrow.Author.Tests.{ltb-true, ltb-false}
use Rattle.stores.proofs.TableLaws.{at}
use Rattle.text.specs.Text.{hex_digits, hex_digit, hex}

abbrev pub Bytes : List ℕ → Type 0
Bytes [] = Unit
Bytes (b ∷ bs) = (b < 256) × Bytes bs

-- the rule before: 48 is "0", and 87 + 10 is "a"
abbrev pub digit_by_cases : ℕ → ℕ
digit_by_cases n = cond (ltb n 10) (48 + n) (87 + n)

as_by_cases : ℕ → ℕ → Bool
as_by_cases k x = eqb x (digit_by_cases k)

pub digit_is : (n : ℕ) → n < 16 → hex_digit n ≡ digit_by_cases n
unfolding hex_digit hex_digits as_by_cases
digit_is n h = eqb→eq (get_or hex_digits n 0) (digit_by_cases n) (at as_by_cases hex_digits tt n h)

unfoldable pub hex_by_cases : List ℕ → List ℕ
hex_by_cases [] = []
hex_by_cases (b ∷ bs) = digit_by_cases (b / 16) ∷ digit_by_cases (b % 16) ∷ hex_by_cases bs

-- so the text of every id is what it was
pub hex_is : (bs : List ℕ) → Bytes bs → hex bs ≡ hex_by_cases bs
unfolding hex hex_by_cases
hex_is [] f = refl
hex_is (b ∷ bs) f =
    rw (digit_is (b / 16) (omega (arith, f.0)), digit_is (b % 16) (omega arith), hex_is bs f.1)

-- no two digits share a character
pub digit_apart : (m n : ℕ) → m < 16 → n < 16 → hex_digit m ≡ hex_digit n → m ≡ n
digit_apart m n h k e = by_tests (ltb m 10) (ltb n 10) refl refl (sym (digit_is m h) ∙ e ∙ digit_is n k)
  where
    by_tests : (p q : Bool) → ltb m 10 ≡ p → ltb n 10 ≡ q → cond p (48 + m) (87 + m) ≡ cond q (48 + n) (87 + n) → m ≡ n
    by_tests true true a b e = omega arith
    by_tests true false a b e = omega (arith, ltb-true m 10 a, ltb-false n 10 b)
    by_tests false true a b e = omega (arith, ltb-false m 10 a, ltb-true n 10 b)
    by_tests false false a b e = omega arith
