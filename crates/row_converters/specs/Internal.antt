-- What the check of a body answers.
use Rattle.std.specs.Prelude.{ℕ, Ok, Err}
use Rattle.refusal.specs.Answers.{Answer}
use Rattle.segment_core.specs.Reading.{Seg, seg, no_seg}

-- whether it was read, or the refusal
abbrev pub body_answer : Seg → Answer
body_answer (seg ts bs b t n) = Ok tt
body_answer (no_seg r) = Err r
