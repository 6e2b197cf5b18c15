-- What was said, and whether there is room.
use mathlib.Core.Path.{sym, ◌∙◌}
use Rattle.standing_calls.proofs.StandingLaws.{stands_put, stands_ended, stands_on}
use Rattle.standing_calls.proofs.stand.Goals as goal

pub returns-then-stood-room : goal.returns-then-stood-room
returns-then-stood-room c = let a = c.args in stands_put a.room a.block a.call a.stood a.code a.standing.now c.requires c.if-code-eq0.true c.if-stood-room.true _ c.put_stood.ensures

pub returns-then-ends_run : goal.returns-then-ends_run
returns-then-ends_run c = let a = c.args in stands_ended a.room a.block a.call a.stood a.code a.standing.now c.if-code-eq0.false (sym c.if-ends_run.true ∙ c.ends_run.ensures a.room)

pub returns : goal.returns
returns c = let a = c.args in stands_on a.room a.block a.call a.stood a.code a.standing.now c.if-code-eq0.false (sym c.if-ends_run.false ∙ c.ends_run.ensures a.room)
