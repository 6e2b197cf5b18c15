-- The lines of the call runner (document 01, "Call runner"): "It prints per call its ordinal, the refusal or 0, and a popped number".
use Rattle.std.specs.Prelude.{ℕ, zero, suc, ◌+◌, ◌*◌, Bool, true, false, List, [], ◌∷◌, ◌++◌, eqb, ℤ, pos, get_or}
use Rattle.text.specs.Text.{decimal}
use Rattle.line_parts.specs.Parts.{spaced, spaced_number}

-- "and a popped number", where there is one
abbrev pub popped_part : (popped : Bool) → (number : ℤ) → List ℕ
popped_part true z = spaced_number z
popped_part false z = []

-- "per call its ordinal, the refusal or 0, and a popped number"
unfoldable pub line : (ordinal code : ℕ) → (popped : Bool) → (number : ℤ) → List ℕ
line ordinal code popped z = decimal ordinal ++ spaced code ++ popped_part popped z ++ (10 ∷ [])

-- the line of answer i: its code, whether it popped a number (1 where it did), and the number
abbrev pub answer_line : (first : ℕ) → (answers : List ℕ) → (numbers : List ℤ) → (i : ℕ) → List ℕ
answer_line first answers numbers i =
    line (first + i) (get_or answers (i * 2) 0) (eqb (get_or answers (i * 2 + 1) 0) 1) (get_or numbers i (pos 0))

-- the lines of n answers from answer i on; answer 0 has the ordinal `first`
unfoldable pub lines_from : (first : ℕ) → (answers : List ℕ) → (numbers : List ℤ) → (i n : ℕ) → List ℕ
lines_from first answers numbers i zero = []
lines_from first answers numbers i (suc n) = answer_line first answers numbers i ++ lines_from first answers numbers (i + 1) n
