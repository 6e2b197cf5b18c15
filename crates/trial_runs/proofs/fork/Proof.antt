-- The undos, the newest standing call first.
use mathlib.Core.Path.{◌≡◌, refl, ◌∙◌}
use native.Mathlib.Omega.{arith}
use lib.ListN.{length}
use Rattle.trial_steps.specs.Held.{held}
use Rattle.trial_runs.proofs.RunLaws.{ForkKept, fork_start, newest_earlier, newest_undone, undo_ready, fork_stops, fork_ended, fork_turn, fork_end}
use borrow.Author.Rules.{rules}
use Rattle.trial_runs.proofs.fork.Statement.{statement}
use Rattle.trial_runs.proofs.fork.Tie as tie

abbrev invariant_loop : tie.invariant-loop-left
invariant_loop lowest ids₀ numbers₀ lengths₀ spills₀ staged₀ table₀ deleted₀ hints₀ standing state₀ left₀ ids numbers lengths spills staged table deleted hints state left =
    ForkKept ((length ids ≡ length ids₀) × (length numbers ≡ length numbers₀) × (length lengths ≡ length lengths₀) × (length spills ≡ length spills₀) × (length staged ≡ length staged₀) × (length table ≡ length table₀) × (length deleted ≡ length deleted₀) × (length hints ≡ length hints₀)) lowest left standing (held state₀ ids₀ numbers₀ lengths₀ spills₀ staged₀ table₀ deleted₀) (held state ids numbers lengths spills staged table deleted)

abbrev decreases_loop : tie.decreases-loop-left
decreases_loop lowest ids₀ numbers₀ lengths₀ spills₀ staged₀ table₀ deleted₀ hints₀ standing state₀ left₀ ids numbers lengths spills staged table deleted hints state left =
    left

loop-holds : tie.Need-loop-left-init invariant_loop decreases_loop
loop-holds c =
    let a = c.before.before.before.before.before.before.args in
    fork_start a.lowest a.standing.now (held a.t a.ids.now a.numbers.now a.lengths.now a.spills.now a.staged.now a.table.now a.deleted.now) _ (refl, refl, refl, refl, refl, refl, refl, refl) c.before.before.before.before.before.before.requires

sub_left : tie.Need-overflow_sub-left invariant_loop decreases_loop
sub_left c = omega (arith, c.loop-left-test.true)

is_earlier_requires : tie.Need-is_earlier-earlier-requires invariant_loop decreases_loop
is_earlier_requires c κs = omega (arith, c.loop-left-test.true, c.before.loop-left.invariant.long, c.before.loop-left.invariant.counted)

same_length : tie.Need-shape_of-ids-then-earlier invariant_loop decreases_loop
same_length c = c.before.before.before.loop-left.invariant.same.0

same_length_2 : tie.Need-shape_of-numbers-then-earlier invariant_loop decreases_loop
same_length_2 c = c.before.before.before.loop-left.invariant.same.1

same_length_3 : tie.Need-shape_of-lengths-then-earlier invariant_loop decreases_loop
same_length_3 c = c.before.before.before.loop-left.invariant.same.2

same_length_4 : tie.Need-shape_of-spills-then-earlier invariant_loop decreases_loop
same_length_4 c = c.before.before.before.loop-left.invariant.same.3

same_length_5 : tie.Need-shape_of-staged-then-earlier invariant_loop decreases_loop
same_length_5 c = c.before.before.before.loop-left.invariant.same.4

same_length_6 : tie.Need-shape_of-table-then-earlier invariant_loop decreases_loop
same_length_6 c = c.before.before.before.loop-left.invariant.same.5

same_length_7 : tie.Need-shape_of-deleted-then-earlier invariant_loop decreases_loop
same_length_7 c = c.before.before.before.loop-left.invariant.same.6

same_length_8 : tie.Need-shape_of-hints-then-earlier invariant_loop decreases_loop
same_length_8 c = c.before.before.before.loop-left.invariant.same.7

returns : tie.Need-returns-then-earlier invariant_loop decreases_loop
returns c =
    let a = c.before.before.before.before.before.before.before.before.before.before.args in
    let l = c.before.before.before.loop-left in
    let n = newest_earlier a.lowest a.standing.now (held a.t a.ids.now a.numbers.now a.lengths.now a.spills.now a.staged.now a.table.now a.deleted.now) _ l.left (held l.state l.ids l.numbers l.lengths l.spills l.staged l.table l.deleted) l.invariant c.before.is_earlier-earlier.result c.before.is_earlier-earlier.ensures in
    fork_stops a.lowest a.standing.now (held a.t a.ids.now a.numbers.now a.lengths.now a.spills.now a.staged.now a.table.now a.deleted.now) _ l.left (held l.state l.ids l.numbers l.lengths l.spills l.staged l.table l.deleted) l.invariant c.before.before.loop-left-test.true (n c.if-earlier.true)

undo_newest_requires : tie.Need-undo_newest-state-requires invariant_loop decreases_loop
undo_newest_requires c κs =
    let a = c.before.before.before.before.before.before.before.before.before.before.before.before.before.before.before.before.before.before.args in
    let l = c.before.before.before.before.before.before.before.before.before.before.before.loop-left in
    undo_ready a.lowest a.standing.now (held a.t a.ids.now a.numbers.now a.lengths.now a.spills.now a.staged.now a.table.now a.deleted.now) _ l.left (held l.state l.ids l.numbers l.lengths l.spills l.staged l.table l.deleted) l.invariant c.before.before.before.before.before.before.before.before.before.before.loop-left-test.true

same_length_9 : tie.Need-shape_of-ids-then-state-ne0 invariant_loop decreases_loop
same_length_9 c = c.before.before.before.before.before.before.before.before.before.before.before.before.before.before.before.before.undo_newest-state.auto.ids ∙ c.before.before.before.before.before.before.before.before.before.before.before.before.before.before.before.before.before.before.before.before.before.before.before.before.before.before.before.before.loop-left.invariant.same.0

same_length_10 : tie.Need-shape_of-numbers-then-state-ne0 invariant_loop decreases_loop
same_length_10 c = c.before.before.before.before.before.before.before.before.before.before.before.before.before.before.before.before.undo_newest-state.auto.numbers ∙ c.before.before.before.before.before.before.before.before.before.before.before.before.before.before.before.before.before.before.before.before.before.before.before.before.before.before.before.before.loop-left.invariant.same.1

same_length_11 : tie.Need-shape_of-lengths-then-state-ne0 invariant_loop decreases_loop
same_length_11 c = c.before.before.before.before.before.before.before.before.before.before.before.before.before.before.before.before.undo_newest-state.auto.lengths ∙ c.before.before.before.before.before.before.before.before.before.before.before.before.before.before.before.before.before.before.before.before.before.before.before.before.before.before.before.before.loop-left.invariant.same.2

same_length_12 : tie.Need-shape_of-spills-then-state-ne0 invariant_loop decreases_loop
same_length_12 c = c.before.before.before.before.before.before.before.before.before.before.before.before.before.before.before.before.undo_newest-state.auto.spills ∙ c.before.before.before.before.before.before.before.before.before.before.before.before.before.before.before.before.before.before.before.before.before.before.before.before.before.before.before.before.loop-left.invariant.same.3

same_length_13 : tie.Need-shape_of-staged-then-state-ne0 invariant_loop decreases_loop
same_length_13 c = c.before.before.before.before.before.before.before.before.before.before.before.before.before.before.before.before.undo_newest-state.auto.staged ∙ c.before.before.before.before.before.before.before.before.before.before.before.before.before.before.before.before.before.before.before.before.before.before.before.before.before.before.before.before.loop-left.invariant.same.4

same_length_14 : tie.Need-shape_of-table-then-state-ne0 invariant_loop decreases_loop
same_length_14 c = c.before.before.before.before.before.before.before.before.before.before.before.before.before.before.before.before.undo_newest-state.auto.table ∙ c.before.before.before.before.before.before.before.before.before.before.before.before.before.before.before.before.before.before.before.before.before.before.before.before.before.before.before.before.loop-left.invariant.same.5

same_length_15 : tie.Need-shape_of-deleted-then-state-ne0 invariant_loop decreases_loop
same_length_15 c = c.before.before.before.before.before.before.before.before.before.before.before.before.before.before.before.before.undo_newest-state.auto.deleted ∙ c.before.before.before.before.before.before.before.before.before.before.before.before.before.before.before.before.before.before.before.before.before.before.before.before.before.before.before.before.loop-left.invariant.same.6

same_length_16 : tie.Need-shape_of-hints-then-state-ne0 invariant_loop decreases_loop
same_length_16 c = c.before.before.before.before.before.before.before.before.before.before.before.before.before.before.before.before.undo_newest-state.auto.hints ∙ c.before.before.before.before.before.before.before.before.before.before.before.before.before.before.before.before.before.before.before.before.before.before.before.before.before.before.before.before.loop-left.invariant.same.7

returns-2 : tie.Need-returns-then-state-ne0 invariant_loop decreases_loop
returns-2 c =
    let a = c.before.before.before.before.before.before.before.before.before.before.before.before.before.before.before.before.before.before.before.before.before.before.before.before.before.before.before.before.before.before.before.before.before.before.before.args in
    let l = c.before.before.before.before.before.before.before.before.before.before.before.before.before.before.before.before.before.before.before.before.before.before.before.before.before.before.before.before.loop-left in
    let n = newest_undone a.lowest a.standing.now (held a.t a.ids.now a.numbers.now a.lengths.now a.spills.now a.staged.now a.table.now a.deleted.now) _ l.left (held l.state l.ids l.numbers l.lengths l.spills l.staged l.table l.deleted) l.invariant c.before.before.before.before.before.before.before.before.before.before.before.before.before.before.before.before.before.before.before.before.before.before.before.before.before.before.is_earlier-earlier.result c.before.before.before.before.before.before.before.before.before.before.before.before.before.before.before.before.before.before.before.before.before.before.before.before.before.before.is_earlier-earlier.ensures in
    fork_ended a.lowest a.standing.now (held a.t a.ids.now a.numbers.now a.lengths.now a.spills.now a.staged.now a.table.now a.deleted.now) _ l.left (held l.state l.ids l.numbers l.lengths l.spills l.staged l.table l.deleted) l.invariant c.before.before.before.before.before.before.before.before.before.before.before.before.before.before.before.before.before.before.before.before.before.before.before.before.before.before.before.loop-left-test.true (n c.before.before.before.before.before.before.before.before.before.before.before.before.before.before.before.before.before.before.before.before.before.before.before.before.before.if-earlier.false) _ c.before.before.before.before.before.before.before.before.before.before.before.before.before.before.before.before.undo_newest-state.ensures c.if-state-ne0.true

loop-less : tie.Need-loop-left-smaller invariant_loop decreases_loop
loop-less c = omega (arith, c.before.before.before.before.before.before.before.before.before.before.before.before.before.before.before.before.before.before.before.before.before.before.before.before.before.before.before.loop-left-test.true)

loop-again : tie.Need-loop-left-preserved invariant_loop decreases_loop
loop-again c =
    let a = c.before.before.before.before.before.before.before.before.before.before.before.before.before.before.before.before.before.before.before.before.before.before.before.before.before.before.before.before.before.before.before.before.before.before.before.args in
    let l = c.before.before.before.before.before.before.before.before.before.before.before.before.before.before.before.before.before.before.before.before.before.before.before.before.before.before.before.before.loop-left in
    let k = c.before.before.before.before.before.before.before.before.before.before.before.before.before.before.before.before.undo_newest-state.auto in
    let s = l.invariant.same in
    let n = newest_undone a.lowest a.standing.now (held a.t a.ids.now a.numbers.now a.lengths.now a.spills.now a.staged.now a.table.now a.deleted.now) _ l.left (held l.state l.ids l.numbers l.lengths l.spills l.staged l.table l.deleted) l.invariant c.before.before.before.before.before.before.before.before.before.before.before.before.before.before.before.before.before.before.before.before.before.before.before.before.before.before.is_earlier-earlier.result c.before.before.before.before.before.before.before.before.before.before.before.before.before.before.before.before.before.before.before.before.before.before.before.before.before.before.is_earlier-earlier.ensures in
    fork_turn a.lowest a.standing.now (held a.t a.ids.now a.numbers.now a.lengths.now a.spills.now a.staged.now a.table.now a.deleted.now) _ l.left (held l.state l.ids l.numbers l.lengths l.spills l.staged l.table l.deleted) l.invariant c.before.before.before.before.before.before.before.before.before.before.before.before.before.before.before.before.before.before.before.before.before.before.before.before.before.before.before.loop-left-test.true (n c.before.before.before.before.before.before.before.before.before.before.before.before.before.before.before.before.before.before.before.before.before.before.before.before.before.if-earlier.false) _ c.before.before.before.before.before.before.before.before.before.before.before.before.before.before.before.before.undo_newest-state.ensures _ (c.before.before.before.before.before.before.before.before.before.before.before.before.before.before.before.before.undo_newest-state.auto.ids ∙ s.0, c.before.before.before.before.before.before.before.before.before.before.before.before.before.before.before.before.undo_newest-state.auto.numbers ∙ s.1, c.before.before.before.before.before.before.before.before.before.before.before.before.before.before.before.before.undo_newest-state.auto.lengths ∙ s.2, c.before.before.before.before.before.before.before.before.before.before.before.before.before.before.before.before.undo_newest-state.auto.spills ∙ s.3, c.before.before.before.before.before.before.before.before.before.before.before.before.before.before.before.before.undo_newest-state.auto.staged ∙ s.4, c.before.before.before.before.before.before.before.before.before.before.before.before.before.before.before.before.undo_newest-state.auto.table ∙ s.5, c.before.before.before.before.before.before.before.before.before.before.before.before.before.before.before.before.undo_newest-state.auto.deleted ∙ s.6, c.before.before.before.before.before.before.before.before.before.before.before.before.before.before.before.before.undo_newest-state.auto.hints ∙ s.7) c.if-state-ne0.false

same_length_17 : tie.Need-shape_of-ids invariant_loop decreases_loop
same_length_17 c = c.before.loop-left.invariant.same.0

same_length_18 : tie.Need-shape_of-numbers invariant_loop decreases_loop
same_length_18 c = c.before.loop-left.invariant.same.1

same_length_19 : tie.Need-shape_of-lengths invariant_loop decreases_loop
same_length_19 c = c.before.loop-left.invariant.same.2

same_length_20 : tie.Need-shape_of-spills invariant_loop decreases_loop
same_length_20 c = c.before.loop-left.invariant.same.3

same_length_21 : tie.Need-shape_of-staged invariant_loop decreases_loop
same_length_21 c = c.before.loop-left.invariant.same.4

same_length_22 : tie.Need-shape_of-table invariant_loop decreases_loop
same_length_22 c = c.before.loop-left.invariant.same.5

same_length_23 : tie.Need-shape_of-deleted invariant_loop decreases_loop
same_length_23 c = c.before.loop-left.invariant.same.6

same_length_24 : tie.Need-shape_of-hints invariant_loop decreases_loop
same_length_24 c = c.before.loop-left.invariant.same.7

returns-3 : tie.Need-returns invariant_loop decreases_loop
returns-3 c =
    let a = c.before.before.before.before.before.before.before.before.args in
    let l = c.before.loop-left in
    fork_end a.lowest a.standing.now (held a.t a.ids.now a.numbers.now a.lengths.now a.spills.now a.staged.now a.table.now a.deleted.now) _ l.left (held l.state l.ids l.numbers l.lengths l.spills l.staged l.table l.deleted) l.invariant (omega (arith, c.loop-left-test.false))

pub fork_spec : {M : Type 1} → statement M
fork_spec =
    tie.close
    (tie.spec
    invariant_loop
    decreases_loop
    loop-holds
    sub_left
    is_earlier_requires
    same_length
    same_length_2
    same_length_3
    same_length_4
    same_length_5
    same_length_6
    same_length_7
    same_length_8
    returns
    undo_newest_requires
    same_length_9
    same_length_10
    same_length_11
    same_length_12
    same_length_13
    same_length_14
    same_length_15
    same_length_16
    returns-2
    loop-less
    loop-again
    same_length_17
    same_length_18
    same_length_19
    same_length_20
    same_length_21
    same_length_22
    same_length_23
    same_length_24
    returns-3)
