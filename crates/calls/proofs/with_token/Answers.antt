use borrow.Author.Tests.{lt-ltb, le-ltb}
use mathlib.Core.Path.{◌∙◌}
use mir.Syntax.{w64}
use mir.ValLaws.{to_z-of_z}
use Rattle.signed.proofs.SignedLaws.{back64}
use Rattle.calls.specs.Calls.{with_token}
use Rattle.calls.proofs.CallLaws.{change_of}
use Rattle.calls.proofs.with_token.Reads as reads
use Rattle.calls.proofs.with_token.Lts as lts
use Rattle.calls.proofs.number_at.Reads as number_at_reads
use Rattle.calls.proofs.with_token.Goals as goal

-- src/lib.rt:70:9

-- src/lib.rt:72:19

-- src/lib.rt:72:17

-- src/lib.rt:73:31

-- src/lib.rt:73:9

-- src/lib.rt:65:1

pub returns-then-left-lt19 : goal.returns-then-left-lt19
unfolding with_token
returns-then-left-lt19 c = simp (lt-ltb _ _ c.if-left-lt19.true)

pub returns : goal.returns
unfolding with_token
returns c = change_of _ _ (to_z-of_z w64 c.args.nanos c.ranges.nanos) (back64 c.number_at-amount.result c.number_at-amount.type_inv ∙ c.number_at-amount.ensures) ∙ simp (le-ltb _ _ c.if-left-lt19.false)
