-- Hex and decimal text, as bytes of ASCII (document 01, "Row key": "lower-case hex digits", "in decimal, "-" before a negative one").
use Rattle.std.specs.Prelude.{ℕ, zero, suc, ◌+◌, ◌/◌, ◌%◌, cond, List, [], ◌∷◌, ◌++◌, ltb, ℤ, pos, negsuc, nat_abs, get_or}

-- the sixteen characters "0123456789abcdef"
unfoldable pub hex_digits : List ℕ
hex_digits = 48 ∷ 49 ∷ 50 ∷ 51 ∷ 52 ∷ 53 ∷ 54 ∷ 55 ∷ 56 ∷ 57 ∷ 97 ∷ 98 ∷ 99 ∷ 100 ∷ 101 ∷ 102 ∷ []

-- document 02, U3: "take the digit from a constant row of the sixteen characters"
unfoldable pub hex_digit : ℕ → ℕ
hex_digit n = get_or hex_digits n 0

-- two digits for each byte, the higher one first
unfoldable pub hex : List ℕ → List ℕ
hex [] = []
hex (b ∷ bs) = hex_digit (b / 16) ∷ hex_digit (b % 16) ∷ hex bs

-- n in decimal, with at most f digits before the last
unfoldable pub digits : ℕ → ℕ → List ℕ
digits zero n = (48 + n) ∷ []
digits (suc f) n = cond (ltb n 10) ((48 + n) ∷ []) (digits f (n / 10) ++ ((48 + n % 10) ∷ []))

-- 20 digits hold any number of 64 bits
unfoldable pub decimal : ℕ → List ℕ
decimal n = digits 19 n

-- "-" before a negative number
abbrev pub sign : ℤ → List ℕ
sign (pos n) = []
sign (negsuc n) = 45 ∷ []

unfoldable pub number : ℤ → List ℕ
number z = sign z ++ decimal (nat_abs z)
