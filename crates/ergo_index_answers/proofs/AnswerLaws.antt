-- A code as an answer, and the ways out of the drift rule.
use Prim.Native.Nat.{ℕ}
use mathlib.Core.Path.{◌≡◌}
use mathlib.Core.Bool.{Bool, true, false}
use borrow.Author.Tests.{eq-eqb, ne_eqb}
use Rattle.std.specs.Prelude.{Ok, Err}
use Rattle.refusal.specs.Answers.{Answer}
use Rattle.refusal.specs.declared.Tolerated.{Tolerated}
use Rattle.refusal.specs.declared.Tolerated.TheVariants as kept
use Rattle.refusal.specs.Refusal.{tolerated}
use Rattle.ergo_index_answers.specs.Answers.{answer_of, drift_out, drift_export}

pub code_zero : (code : ℕ) → code ≡ 0 → (Ok tt) ≡ answer_of code
code_zero code e = rw (eq-eqb code 0 e)

pub code_other : (code : ℕ) → (code ≡ 0 → ⊥) → Err code ≡ answer_of code
code_other code e = rw (ne_eqb code 0 e)

-- a is the answer that the rule was given, r what it left
module _ (flip : ℕ) (a : Answer) (d : a ≡ answer_of flip) (r : Tolerated) (e : r ≡ tolerated a) (given : Bool) where
  pub drift_flipped : r ≡ kept.Flipped → drift_out 0 false ≡ drift_export given (tolerated (answer_of flip))
  drift_flipped f = rw (← d, ← e, f)

  pub drift_skipped : r ≡ kept.Skipped → drift_out 0 true ≡ drift_export given (tolerated (answer_of flip))
  drift_skipped f = rw (← d, ← e, f)

  pub drift_refused : (code : ℕ) → r ≡ kept.Refused code → drift_out code given ≡ drift_export given (tolerated (answer_of flip))
  drift_refused code f = rw (← d, ← e, f)
