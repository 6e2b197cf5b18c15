-- What checking an address answers.
use Rattle.std.specs.Prelude.{Ok, Err}
use Rattle.spill_rows.specs.Answers.{Read}

-- the refusal of the first that is refused
abbrev pub first_fault : Read → Read → Read
first_fault (Ok tt) r = r
first_fault (Err code) r = Err code
