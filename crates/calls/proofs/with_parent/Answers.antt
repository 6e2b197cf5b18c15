use borrow.Author.Tests.{le-leb, lt-leb, lt-ltb, le-ltb, eq-eqb, ne_eqb}
use mathlib.Core.Path.{ap, ◌∙◌}
use Rattle.signed.proofs.SignedLaws.{back64}
use lib.Dec.{eqb}
use lib.IntN.{ℤ}
use Prim.Native.Nat.{◌-◌}
use Rattle.calls.specs.Calls.{with_parent, with_number, with_token}
use Rattle.calls.proofs.with_parent.Reads as reads
use Rattle.calls.proofs.with_parent.Lts as lts
use Rattle.calls.proofs.number_at.Reads as number_at_reads
use Rattle.calls.proofs.with_number.Reads as with_number_reads
use Rattle.calls.proofs.with_token.Reads as with_token_reads
use Rattle.calls.proofs.with_parent.Goals as goal

-- src/lib.rt:90:9

-- src/lib.rt:93:9

-- src/lib.rt:96:9

-- src/lib.rt:99:9

-- src/lib.rt:101:26

-- src/lib.rt:101:9

-- src/lib.rt:103:9

-- src/lib.rt:103:9

-- src/lib.rt:105:5

-- src/lib.rt:78:1

pub returns-then-parents-parent : goal.returns-then-parents-parent
unfolding with_parent
returns-then-parents-parent c = simp (le-leb _ _ c.if-parents-parent.true)

pub returns-then-kind-eq5 : goal.returns-then-kind-eq5
unfolding with_parent
returns-then-kind-eq5 c = simp (lt-leb _ _ c.if-parents-parent.false, eq-eqb _ _ c.if-kind-eq5.true)

pub returns-then-kind-eq6 : goal.returns-then-kind-eq6
unfolding with_parent
returns-then-kind-eq6 c = simp (lt-leb _ _ c.if-parents-parent.false, ne_eqb _ _ c.if-kind-eq5.false, eq-eqb _ _ c.if-kind-eq6.true)

pub returns-then-left-lt10 : goal.returns-then-left-lt10
unfolding with_parent
returns-then-left-lt10 c = simp (lt-leb _ _ c.if-parents-parent.false, ne_eqb _ _ c.if-kind-eq5.false, ne_eqb _ _ c.if-kind-eq6.false, lt-ltb _ _ c.if-left-lt10.true)

pub returns-then-kind-lt5 : goal.returns-then-kind-lt5
unfolding with_parent
returns-then-kind-lt5 c = c.with_number.ensures ∙ ap (with_number c.args.kind c.args.parent) (back64 c.number_at-n.result c.number_at-n.type_inv ∙ c.number_at-n.ensures) ∙ simp (lt-leb _ _ c.if-parents-parent.false, ne_eqb _ _ c.if-kind-eq5.false, ne_eqb _ _ c.if-kind-eq6.false, le-ltb _ _ c.if-left-lt10.false, lt-ltb _ _ c.if-kind-lt5.true)

pub returns : goal.returns
unfolding with_parent
returns c = c.with_token.ensures ∙ ap (λ (z : ℤ). with_token (eqb c.args.kind 8) c.args.parent z c.args.left c.args.s.now c.args.at) (back64 c.number_at-n.result c.number_at-n.type_inv ∙ c.number_at-n.ensures) ∙ simp (lt-leb _ _ c.if-parents-parent.false, ne_eqb _ _ c.if-kind-eq5.false, ne_eqb _ _ c.if-kind-eq6.false, le-ltb _ _ c.if-left-lt10.false, le-ltb _ _ c.if-kind-lt5.false)
