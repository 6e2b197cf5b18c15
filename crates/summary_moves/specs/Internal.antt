-- What the steps of an append and of a pop with a summary answer.
use Rattle.std.specs.Prelude.{Bool, true, false, Ok, Err}
use Rattle.index_types.specs.Answers.{Appended}
use Rattle.index_types.specs.Answers.{Popped}

-- whether an append was accepted
abbrev pub is_done : Appended → Bool
is_done (Ok (h, c)) = true
is_done (Err code) = false

-- whether a pop was accepted
abbrev pub is_number : Popped → Bool
is_number (Ok (z, h, c, d)) = true
is_number (Err code) = false
