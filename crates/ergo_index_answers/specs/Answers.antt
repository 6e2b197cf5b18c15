-- The drift rule on codes: 0 is an accepted flip, any other code its refusal.
use Rattle.std.specs.Prelude.{ℕ, Bool, true, false, cond, eqb, Ok, Err}
use Rattle.refusal.specs.Answers.{Answer}
use Rattle.refusal.specs.declared.Tolerated.{Tolerated}
use Rattle.refusal.specs.declared.Tolerated.TheVariants as kept

abbrev pub answer_of : ℕ → Answer
answer_of code = cond (eqb code 0) (Ok tt) (Err code)

pub record DriftOut : Type 0 where
  pub code : ℕ
  pub skipped : Bool

abbrev pub drift_out : ℕ → Bool → DriftOut
drift_out code skipped = record { code = code; skipped = skipped }

-- a skipped flip is no refusal
abbrev pub drift_export : Bool → Tolerated → DriftOut
drift_export skipped kept.Flipped = drift_out 0 false
drift_export skipped kept.Skipped = drift_out 0 true
drift_export skipped (kept.Refused code) = drift_out code skipped
