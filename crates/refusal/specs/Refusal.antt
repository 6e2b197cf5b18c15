-- The answers' numbers of documents 01 and 02, and `tolerate_secondary_drift` ("Beside the spend").
use Rattle.std.specs.Prelude.{ℕ, zero, suc, ◌+◌, cond, List, [], ◌∷◌, eqb, Ok, Err}
use Rattle.refusal.specs.Answers.{Answer}
use Rattle.refusal.specs.declared.Tolerated.{Tolerated}
use Rattle.refusal.specs.declared.Tolerated.TheVariants as tolerated_as

-- the number of an answer: 0 where it is accepted
abbrev pub code_of : Answer → ℕ
code_of (Ok tt) = 0
code_of (Err code) = code

-- n numbers in a row; the refusals are 41 from 1 on
unfoldable pub numbers_from : (first n : ℕ) → List ℕ
numbers_from first zero = []
numbers_from first (suc n) = first ∷ numbers_from (first + 1) n

-- "15 becomes 'skipped', any other answer passes"
unfoldable pub tolerated : Answer → Tolerated
tolerated (Ok tt) = tolerated_as.Flipped
tolerated (Err code) = cond (eqb code 15) tolerated_as.Skipped (tolerated_as.Refused code)
