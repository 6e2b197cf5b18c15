-- A coded number as bytes (document 01, "Coded numbers"): "That value is written in groups of 7 bits, lowest first, top bit set on all but the last byte."
use Rattle.std.specs.Prelude.{ℕ, zero, suc, ◌+◌, ◌/◌, ◌%◌, cond, List, [], ◌∷◌, ltb}

-- at most f groups with the top bit set, and then the last
unfoldable pub groups : ℕ → ℕ → List ℕ
groups zero c = c ∷ []
groups (suc f) c = cond (ltb c 128) (c ∷ []) ((128 + c % 128) ∷ groups f (c / 128))

-- ten groups hold any number of 64 bits
unfoldable pub enc : ℕ → List ℕ
enc c = groups 9 c
