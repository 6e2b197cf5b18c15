use borrow.Author.Tests.{eq-eqb, ne_eqb}
use mir.Syntax.{w64}
use mir.ValLaws.{to_z-of_z}
use Rattle.calls.specs.Calls.{with_number}
use Rattle.calls.proofs.with_number.Reads as reads
use Rattle.calls.proofs.with_number.Lts as lts
use Rattle.calls.proofs.with_number.Goals as goal

-- src/lib.rt:53:9

-- src/lib.rt:56:9

-- src/lib.rt:59:9

-- src/lib.rt:49:1

pub returns-then-kind-eq1 : goal.returns-then-kind-eq1
unfolding with_number
returns-then-kind-eq1 c = simp (eq-eqb _ _ c.if-kind-eq1.true, to_z-of_z w64 _ c.ranges.n)

pub returns-then-kind-eq2 : goal.returns-then-kind-eq2
unfolding with_number
returns-then-kind-eq2 c = simp (ne_eqb _ _ c.if-kind-eq1.false, eq-eqb _ _ c.if-kind-eq2.true, to_z-of_z w64 _ c.ranges.n)

pub returns-then-kind-eq3 : goal.returns-then-kind-eq3
unfolding with_number
returns-then-kind-eq3 c = simp (ne_eqb _ _ c.if-kind-eq1.false, ne_eqb _ _ c.if-kind-eq2.false, eq-eqb _ _ c.if-kind-eq3.true, to_z-of_z w64 _ c.ranges.n)

pub returns : goal.returns
unfolding with_number
returns c = simp (ne_eqb _ _ c.if-kind-eq1.false, ne_eqb _ _ c.if-kind-eq2.false, ne_eqb _ _ c.if-kind-eq3.false, to_z-of_z w64 _ c.ranges.n)
