-- What looking for the body of a row answers.
use Rattle.std.specs.Prelude.{ℕ, ◌≡◌, Ok, Err}
use Rattle.vlq_core.specs.Answers.{Got}

-- r is where the body begins, if the header can be read
abbrev pub BodyStart : Got → ℕ → Type 0
BodyStart (Ok (coded, at)) r = r ≡ at
BodyStart (Err code) r = Unit
