-- What is left to undo ends where the whole ends.
use Prim.Native.Nat.{◌*◌}
use mathlib.Core.Bool.{true}
use mathlib.Core.Path.{◌≡◌, refl, sym, ◌∙◌}
use lib.ListN.{length}
use borrow.Author.Rules.{rules}
use Rattle.driver_core.specs.Apply.{undo_turns}
use Rattle.driver_undo.specs.Undos.{undone}
use Rattle.driver_undo.specs.Internal.{turned}
use Rattle.driver_undo.proofs.TurnLaws.{measure, Kept, kept_start, kept_turn, kept_less, kept_end}
use Rattle.driver_undo.proofs.undo_ready.Statement.{statement}
use Rattle.driver_undo.proofs.undo_ready.Tie as tie

abbrev invariant_loop : tie.invariant-loop-t
invariant_loop parents mark ids₀ numbers₀ lengths₀ spills₀ staged₀ table₀ deleted₀ entries hints₀ t₀ ids numbers lengths spills staged table deleted hints t =
    Kept ((length ids ≡ length ids₀) × (length numbers ≡ length numbers₀) × (length lengths ≡ length lengths₀) × (length spills ≡ length spills₀) × (length staged ≡ length staged₀) × (length table ≡ length table₀) × (length deleted ≡ length deleted₀) × (length hints ≡ length hints₀)) parents mark (turned t ids numbers lengths spills staged table deleted entries) (undo_turns parents ((undone t₀.undone ids₀ numbers₀ lengths₀ spills₀ staged₀ table₀ deleted₀ entries).kept.count * 2) mark true (undone t₀.undone ids₀ numbers₀ lengths₀ spills₀ staged₀ table₀ deleted₀ entries).now (undone t₀.undone ids₀ numbers₀ lengths₀ spills₀ staged₀ table₀ deleted₀ entries).kept)

abbrev decreases_loop : tie.decreases-loop-t
decreases_loop parents mark ids₀ numbers₀ lengths₀ spills₀ staged₀ table₀ deleted₀ entries hints₀ t₀ ids numbers lengths spills staged table deleted hints t =
    measure (turned t ids numbers lengths spills staged table deleted entries)

loop-holds : tie.Need-loop-t-init invariant_loop decreases_loop
loop-holds c =
    let s = c.before.before.before.before.before.before.before in
    let a = s.args in
    kept_start _ a.parents a.mark (undone a.u a.ids.now a.numbers.now a.lengths.now a.spills.now a.staged.now a.table.now a.deleted.now a.entries.now) (refl, refl, refl, refl, refl, refl, refl, refl) s.requires

turn_requires : tie.Need-turn-t-requires invariant_loop decreases_loop
turn_requires c κs = c.before.before.before.before.before.before.before.before.before.loop-t.invariant.ready

loop-less : tie.Need-loop-t-smaller invariant_loop decreases_loop
loop-less c =
    let a = c.before.before.before.before.before.before.before.before.before.before.before.before.before.before.before.before.before.before.before.before.before.before.before.before.before.before.before.before.before.before.before.before.args in
    let l = c.before.before.before.before.before.before.before.before.before.before.before.before.before.before.before.before.before.before.before.before.before.before.before.before.loop-t in
    kept_less _ a.parents a.mark (turned l.t l.ids l.numbers l.lengths l.spills l.staged l.table l.deleted a.entries.now) (undo_turns a.parents ((undone a.u a.ids.now a.numbers.now a.lengths.now a.spills.now a.staged.now a.table.now a.deleted.now a.entries.now).kept.count * 2) a.mark true (undone a.u a.ids.now a.numbers.now a.lengths.now a.spills.now a.staged.now a.table.now a.deleted.now a.entries.now).now (undone a.u a.ids.now a.numbers.now a.lengths.now a.spills.now a.staged.now a.table.now a.deleted.now a.entries.now).kept) l.invariant _ c.before.before.before.before.before.before.before.before.before.before.before.before.before.before.before.before.before.before.before.before.before.before.before.loop-t-test.true c.before.before.before.before.before.before.before.before.before.before.before.before.before.before.turn-t.ensures

loop-again : tie.Need-loop-t-preserved invariant_loop decreases_loop
loop-again c =
    let a = c.before.before.before.before.before.before.before.before.before.before.before.before.before.before.before.before.before.before.before.before.before.before.before.before.before.before.before.before.before.before.before.before.args in
    let l = c.before.before.before.before.before.before.before.before.before.before.before.before.before.before.before.before.before.before.before.before.before.before.before.before.loop-t in
    let k = c.before.before.before.before.before.before.before.before.before.before.before.before.before.before.turn-t.auto in
    let z = l.invariant.same in
    kept_turn _ a.parents a.mark (turned l.t l.ids l.numbers l.lengths l.spills l.staged l.table l.deleted a.entries.now) (undo_turns a.parents ((undone a.u a.ids.now a.numbers.now a.lengths.now a.spills.now a.staged.now a.table.now a.deleted.now a.entries.now).kept.count * 2) a.mark true (undone a.u a.ids.now a.numbers.now a.lengths.now a.spills.now a.staged.now a.table.now a.deleted.now a.entries.now).now (undone a.u a.ids.now a.numbers.now a.lengths.now a.spills.now a.staged.now a.table.now a.deleted.now a.entries.now).kept) l.invariant _ _ c.before.before.before.before.before.before.before.before.before.before.before.before.before.before.before.before.before.before.before.before.before.before.before.loop-t-test.true
    (c.before.before.before.before.before.before.before.before.before.before.before.before.before.before.turn-t.auto.ids ∙ z.0, c.before.before.before.before.before.before.before.before.before.before.before.before.before.before.turn-t.auto.numbers ∙ z.1, c.before.before.before.before.before.before.before.before.before.before.before.before.before.before.turn-t.auto.lengths ∙ z.2, c.before.before.before.before.before.before.before.before.before.before.before.before.before.before.turn-t.auto.spills ∙ z.3, c.before.before.before.before.before.before.before.before.before.before.before.before.before.before.turn-t.auto.staged ∙ z.4, c.before.before.before.before.before.before.before.before.before.before.before.before.before.before.turn-t.auto.table ∙ z.5, c.before.before.before.before.before.before.before.before.before.before.before.before.before.before.turn-t.auto.deleted ∙ z.6, c.before.before.before.before.before.before.before.before.before.before.before.before.before.before.turn-t.auto.hints ∙ z.7) c.before.before.before.before.before.before.before.before.before.before.before.before.before.before.turn-t.ensures

same_length : tie.Need-shape_of-ids invariant_loop decreases_loop
same_length c = c.before.before.loop-t.invariant.same.0

same_length_2 : tie.Need-shape_of-numbers invariant_loop decreases_loop
same_length_2 c = c.before.before.loop-t.invariant.same.1

same_length_3 : tie.Need-shape_of-lengths invariant_loop decreases_loop
same_length_3 c = c.before.before.loop-t.invariant.same.2

same_length_4 : tie.Need-shape_of-spills invariant_loop decreases_loop
same_length_4 c = c.before.before.loop-t.invariant.same.3

same_length_5 : tie.Need-shape_of-staged invariant_loop decreases_loop
same_length_5 c = c.before.before.loop-t.invariant.same.4

same_length_6 : tie.Need-shape_of-table invariant_loop decreases_loop
same_length_6 c = c.before.before.loop-t.invariant.same.5

same_length_7 : tie.Need-shape_of-deleted invariant_loop decreases_loop
same_length_7 c = c.before.before.loop-t.invariant.same.6

same_length_8 : tie.Need-shape_of-hints invariant_loop decreases_loop
same_length_8 c = c.before.before.loop-t.invariant.same.7

returns : tie.Need-returns invariant_loop decreases_loop
returns c =
    let a = c.before.before.before.before.before.before.before.before.before.before.args in
    let l = c.before.before.loop-t in
    kept_end _ a.parents a.mark (turned l.t l.ids l.numbers l.lengths l.spills l.staged l.table l.deleted a.entries.now) (undo_turns a.parents ((undone a.u a.ids.now a.numbers.now a.lengths.now a.spills.now a.staged.now a.table.now a.deleted.now a.entries.now).kept.count * 2) a.mark true (undone a.u a.ids.now a.numbers.now a.lengths.now a.spills.now a.staged.now a.table.now a.deleted.now a.entries.now).now (undone a.u a.ids.now a.numbers.now a.lengths.now a.spills.now a.staged.now a.table.now a.deleted.now a.entries.now).kept) l.invariant c.before.loop-t-test.false

pub undo_ready_spec : {M : Type 1} → statement M
undo_ready_spec =
    tie.close
    (tie.spec
    invariant_loop
    decreases_loop
    loop-holds
    turn_requires
    loop-less
    loop-again
    same_length
    same_length_2
    same_length_3
    same_length_4
    same_length_5
    same_length_6
    same_length_7
    same_length_8
    returns)
