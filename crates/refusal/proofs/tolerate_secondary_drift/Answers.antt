-- `refusal::tolerate_secondary_drift` meets its contract: one law for each answer.
use borrow.Author.Rules.{rules}
use Rattle.refusal.proofs.DriftLaws.{passed, skipped, refused}
use Rattle.refusal.proofs.tolerate_secondary_drift.Goals as goal

pub returns-in-Ok : goal.returns-in-Ok
returns-in-Ok c = passed _ (search rules)

pub returns-then-code-eq-TARGET_NOT_SEEN : goal.returns-then-code-eq-TARGET_NOT_SEEN
returns-then-code-eq-TARGET_NOT_SEEN c = skipped _ _ c.in-Err.is c.if-code-eq-TARGET_NOT_SEEN.true

pub returns-else-code-eq-TARGET_NOT_SEEN : goal.returns-else-code-eq-TARGET_NOT_SEEN
returns-else-code-eq-TARGET_NOT_SEEN c = refused _ _ (search rules) (search rules)
