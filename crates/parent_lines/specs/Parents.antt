-- The lines of the parents (document 01, "Call runner"): "at the end per parent "p", parent, box head length, box spill count, the same two for tx, nanoErgs,
-- token count."
use Rattle.std.specs.Prelude.{ℕ, List, [], ◌∷◌, ◌++◌, ℤ}
use Rattle.line_parts.specs.Parts.{spaced, spaced_number}

-- a head's length and spill count
abbrev pub head_part : (len : ℕ) → (spills : ℤ) → List ℕ
head_part len spills = spaced len ++ spaced_number spills

-- the nanoErgs and the token count of a balance, and the line's end
abbrev pub balance_part : (nanos : ℤ) → (tokens : ℕ) → List ℕ
balance_part nanos tokens = spaced_number nanos ++ spaced tokens ++ (10 ∷ [])

-- "per parent "p", parent, box head length, box spill count, the same two for tx, nanoErgs, token count"
unfoldable pub parent_line : (parent box_len : ℕ) → (box_spills : ℤ) → (tx_len : ℕ) → (tx_spills nanos : ℤ) → (tokens : ℕ) → List ℕ
parent_line parent box_len box_spills tx_len tx_spills nanos tokens =
    (112 ∷ spaced parent) ++ head_part box_len box_spills ++ head_part tx_len tx_spills ++ balance_part nanos tokens
