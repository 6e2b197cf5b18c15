use borrow.Author.Tests.{le-leb, lt-leb, lt-ltb, le-ltb, eq-eqb, ne_eqb}
use mathlib.Core.Path.{ap, ◌∙◌}
use lib.ListN.{length, get_or}
use Prim.Native.Nat.{ℕ, ◌-◌}
use Rattle.calls.specs.Calls.{call_at, of_kind, with_parent}
use Rattle.calls.proofs.next_call.Reads as reads
use Rattle.calls.proofs.next_call.Lts as lts
use Rattle.calls.proofs.parent_number.Reads as parent_number_reads
use Rattle.calls.proofs.with_parent.Reads as with_parent_reads
use Rattle.calls.proofs.next_call.Goals as goal

-- src/lib.rt:113:9

-- src/lib.rt:115:16

-- src/lib.rt:116:16

-- src/lib.rt:118:9

-- src/lib.rt:121:9

-- src/lib.rt:124:9

-- src/lib.rt:127:9

-- src/lib.rt:129:39

-- src/lib.rt:129:37

-- src/lib.rt:129:23

-- src/lib.rt:129:5

-- src/lib.rt:109:1

pub returns-then-s-at : goal.returns-then-s-at
unfolding call_at of_kind
returns-then-s-at c = simp (le-leb _ _ c.if-s-at.true)

pub returns-then-kind-eq7 : goal.returns-then-kind-eq7
unfolding call_at of_kind
returns-then-kind-eq7 c = simp (lt-leb _ _ c.if-s-at.false, eq-eqb _ _ c.if-kind-eq7.true)

pub returns-then-kind-eq0 : goal.returns-then-kind-eq0
unfolding call_at of_kind
returns-then-kind-eq0 c = simp (lt-leb _ _ c.if-s-at.false, ne_eqb _ _ c.if-kind-eq7.false, eq-eqb _ _ c.if-kind-eq0.true)

pub returns-then-kind-gt9 : goal.returns-then-kind-gt9
unfolding call_at of_kind
returns-then-kind-gt9 c = simp (lt-leb _ _ c.if-s-at.false, ne_eqb _ _ c.if-kind-eq7.false, ne_eqb _ _ c.if-kind-eq0.false, lt-ltb _ _ c.if-kind-gt9.true)

pub returns-then-left-lt2 : goal.returns-then-left-lt2
unfolding call_at of_kind
returns-then-left-lt2 c = simp (lt-leb _ _ c.if-s-at.false, ne_eqb _ _ c.if-kind-eq7.false, ne_eqb _ _ c.if-kind-eq0.false, le-ltb _ _ c.if-kind-gt9.false, lt-ltb _ _ c.if-left-lt2.true)

pub returns : goal.returns
unfolding call_at of_kind
returns c = c.with_parent.ensures ∙ ap (λ (p : ℕ). with_parent (get_or c.args.s.now c.args.at 0) p c.args.parents (length c.args.s.now - c.args.at) c.args.s.now c.args.at) c.parent_number.ensures ∙ simp (lt-leb _ _ c.if-s-at.false, ne_eqb _ _ c.if-kind-eq7.false, ne_eqb _ _ c.if-kind-eq0.false, le-ltb _ _ c.if-kind-gt9.false, le-ltb _ _ c.if-left-lt2.false)
