-- When the numbers of a head or a row are in order (document 01, refusals 10 and 13): none is -2^63, and absolute values never fall.
use Rattle.std.specs.Prelude.{Bool, true, ◌&&◌, List, [], ◌∷◌, map, ℕ, ◌<◌, ◌≤◌, leb, ltb, ℤ, pos, nat_abs, get_or}

-- each is below 2^63 and at least the one before it; the first is at least lo
abbrev pub ordered : ℕ → List ℕ → Bool
ordered lo [] = true
ordered lo (a ∷ rest) = leb lo a && (ltb a 9223372036854775808 && ordered a rest)

abbrev pub order_ok : List ℤ → Bool
order_ok zs = ordered 0 (map nat_abs zs)

-- ---- what a search by halves leaves

-- the absolute values before place r are below t
abbrev pub Below : ℕ → ℕ → List ℤ → Type 0
Below t r zs = (j : ℕ) → j < r → nat_abs (get_or zs j (pos 0)) < t

-- those from place r on, among the first n, are at least t
abbrev pub From : ℕ → ℕ → ℕ → List ℤ → Type 0
From t r n zs = (j : ℕ) → r ≤ j → j < n → t ≤ nat_abs (get_or zs j (pos 0))
