-- What the export of the batch tells of how a run ended.
use Rattle.std.specs.Prelude.{ℕ, cond, eqb}

-- the result of a run that ended so: 25 where the state was refused, else 0. What stands behind the last call is told by the out `end` alone.
abbrev pub code_of : ℕ → ℕ
code_of end = cond (eqb end 25) end 0

-- an out after a run that ended so: "a refusal returns its number only and changes nothing"
abbrev pub kept : (end was after : ℕ) → ℕ
kept end was after = cond (eqb end 25) was after
