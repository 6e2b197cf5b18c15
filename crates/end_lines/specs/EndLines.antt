-- The lines behind those of the calls (document 01, "Call runner" and the table's "Runner"): "prints the ordinal and 31, ends reading, then prints the lines
-- per parent".
use Rattle.std.specs.Prelude.{ℕ, ◌+◌, ◌*◌, false, cond, List, [], ◌++◌, eqb, ℤ, pos, get_or}
use Rattle.call_steps.specs.State.{parent_numbers, nanos_at}
use Rattle.call_lines.specs.Lines.{line}
use Rattle.parent_lines.specs.Parents.{parent_line}

-- "the ordinal and 31", where the input ends with no call; nothing where the code is 0
unfoldable pub refusal_part : (ordinal code : ℕ) → List ℕ
refusal_part ordinal code = cond (eqb code 0) [] (line ordinal code false (pos 0))

-- the line of a parent, from its places in the state
unfoldable pub parent_part : (p : ℕ) → (numbers : List ℤ) → (lengths : List ℕ) → (spills : List ℤ) → List ℕ
parent_part p numbers lengths spills =
    parent_line p (get_or lengths (p * 3) 0) (get_or spills (p * 2) (pos 0)) (get_or lengths (p * 3 + 1) 0) (get_or spills (p * 2 + 1) (pos 0))
    (get_or numbers (p * parent_numbers + nanos_at) (pos 0)) (get_or lengths (p * 3 + 2) 0)

unfoldable pub end_lines : (ordinal code : ℕ) → (numbers : List ℤ) → (lengths : List ℕ) → (spills : List ℤ) → List ℕ
end_lines ordinal code numbers lengths spills =
    refusal_part ordinal code ++ parent_part 0 numbers lengths spills ++ parent_part 1 numbers lengths spills
