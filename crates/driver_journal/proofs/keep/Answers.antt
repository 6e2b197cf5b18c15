-- An accepted call becomes the newest entry, all else leaves the journal.
use Rattle.driver_journal.proofs.KeptLaws.{kept_pushed}
use Rattle.driver_journal.proofs.keep.Goals as goal

pub returns-then-code-eq0 : goal.returns-then-code-eq0
returns-then-code-eq0 c =
    let a = c.args in
    kept_pushed a.journaled a.code a.input.now a.at a.entries.now a.used a.standing c.if-journaled.true c.if-code-eq0.true _ _ c.push-next.ensures.0 c.push-next.ensures.1
