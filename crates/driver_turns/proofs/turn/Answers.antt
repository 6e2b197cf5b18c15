-- The way out of a turn is that of what was read.
use native.Mathlib.Omega.{arith}
use Prim.Native.Nat.{ℕ}
use mathlib.Core.Path.{sym, ap, ◌∙◌, subst}
use lib.ListN.{set}
use mir.Syntax.{w64}
use borrow.Author.Rules.{rules}
use Rattle.signed.proofs.SignedLaws.{back}
use Rattle.call_steps.specs.Steps.{left_by}
use Rattle.driver_journal.specs.Journals.{has_room}
use Rattle.driver_steps.specs.declared.Move.{Move}
use Rattle.driver_steps.specs.Moves.{move_of, MoveReady}
use Rattle.driver_turns.specs.Batch.{applied}
use Rattle.driver_turns.proofs.TurnLaws.{turn_ended, turn_full, turn_fits, turn_stopped, turn_made, turn_asks}
use Rattle.driver_turns.proofs.turn.Goals as goal

pub returns-then-end-ne0 : goal.returns-then-end-ne0
returns-then-end-ne0 c =
    let a = c.args in
    let r = (applied a.p a.ids.now a.numbers.now a.lengths.now a.spills.now a.staged.now a.table.now a.deleted.now a.entries.now a.answers.now a.popped.now) in
    let x = c.read_at-read in
    let k = c.end_of-end in
    turn_ended a.journaled a.parents a.input.now r x.result x.ensures k.result k.ensures c.if-end-ne0.true

pub size_at-size-requires : goal.size_at-size-requires
size_at-size-requires c =
    let a = c.args in
    let r = (applied a.p a.ids.now a.numbers.now a.lengths.now a.spills.now a.staged.now a.table.now a.deleted.now a.entries.now a.answers.now a.popped.now) in
    let x = c.read_at-read in
    let k = c.end_of-end in
    let fits = turn_fits a.journaled a.parents a.input.now r x.result x.ensures k.result k.ensures c.if-end-ne0.false in
    omega (arith, fits)

pub overflow_add-next : goal.overflow_add-next
overflow_add-next c =
    let a = c.args in
    let r = (applied a.p a.ids.now a.numbers.now a.lengths.now a.spills.now a.staged.now a.table.now a.deleted.now a.entries.now a.answers.now a.popped.now) in
    let x = c.read_at-read in
    let k = c.end_of-end in
    let fits = turn_fits a.journaled a.parents a.input.now r x.result x.ensures k.result k.ensures c.if-end-ne0.false in
    search (rules, fits, c.size_at-size.ensures)

pub has_room-requires : goal.has_room-requires
has_room-requires c =
    let a = c.args in
    let r = (applied a.p a.ids.now a.numbers.now a.lengths.now a.spills.now a.staged.now a.table.now a.deleted.now a.entries.now a.answers.now a.popped.now) in
    let x = c.read_at-read in
    let k = c.end_of-end in
    let fits = turn_fits a.journaled a.parents a.input.now r x.result x.ensures k.result k.ensures c.if-end-ne0.false in
    (c.requires.entries.used_in, search (rules, fits, c.size_at-size.ensures))

pub returns-then-not-has_room : goal.returns-then-not-has_room
returns-then-not-has_room c =
    let a = c.args in
    let r = (applied a.p a.ids.now a.numbers.now a.lengths.now a.spills.now a.staged.now a.table.now a.deleted.now a.entries.now a.answers.now a.popped.now) in
    let x = c.read_at-read in
    let k = c.end_of-end in
    let n = c.size_at-size in
    let j = c.is_entry-entered in
    turn_full a.journaled a.parents a.input.now r x.result x.ensures k.result n.result j.result k.ensures c.if-end-ne0.false n.ensures j.ensures (sym c.has_room.ensures ∙ c.if-not-has_room.true)

pub step-s-requires : goal.step-s-requires
step-s-requires c =
    let a = c.args in
    let r = (applied a.p a.ids.now a.numbers.now a.lengths.now a.spills.now a.staged.now a.table.now a.deleted.now a.entries.now a.answers.now a.popped.now) in
    let x = c.read_at-read in
    let k = c.end_of-end in
    subst (λ (m : Move). MoveReady a.input.now m r.now) (sym c.made_by.ensures) (turn_asks a.journaled a.parents a.input.now r c.requires x.result x.ensures)

pub returns-then-may_be_lifted : goal.returns-then-may_be_lifted
returns-then-may_be_lifted c =
    let a = c.args in
    let r = (applied a.p a.ids.now a.numbers.now a.lengths.now a.spills.now a.staged.now a.table.now a.deleted.now a.entries.now a.answers.now a.popped.now) in
    let x = c.read_at-read in
    let k = c.end_of-end in
    let n = c.size_at-size in
    let j = c.is_entry-entered in
    let h = sym c.has_room.ensures ∙ c.if-not-has_room.false in
    turn_stopped a.journaled a.parents a.input.now r x.result x.ensures k.result n.result j.result k.ensures c.if-end-ne0.false n.ensures j.ensures h
    (left_by c.step-s.result _ _ _ _ _ _ _) (c.step-s.ensures ∙ ap (λ (m : Move). move_of a.input.now m r.now) c.made_by.ensures) _ c.may_be_lifted.ensures c.if-may_be_lifted.true

pub keep-place-requires : goal.keep-place-requires
keep-place-requires c =
    let a = c.args in
    let r = (applied a.p a.ids.now a.numbers.now a.lengths.now a.spills.now a.staged.now a.table.now a.deleted.now a.entries.now a.answers.now a.popped.now) in
    let x = c.read_at-read in
    let k = c.end_of-end in
    let fits = turn_fits a.journaled a.parents a.input.now r x.result x.ensures k.result k.ensures c.if-end-ne0.false in
    let n = c.size_at-size in
    let j = c.is_entry-entered in
    let h = sym c.has_room.ensures ∙ c.if-not-has_room.false in
    (fits, ap (λ (m : ℕ). has_room j.result a.p.used m a.entries.now) (sym n.ensures) ∙ h, c.requires.entries)

pub returns : goal.returns
returns c =
    let a = c.args in
    let r = (applied a.p a.ids.now a.numbers.now a.lengths.now a.spills.now a.staged.now a.table.now a.deleted.now a.entries.now a.answers.now a.popped.now) in
    let x = c.read_at-read in
    let k = c.end_of-end in
    let n = c.size_at-size in
    let j = c.is_entry-entered in
    let h = sym c.has_room.ensures ∙ c.if-not-has_room.false in
    let w = c.step-s.result.said.number in
    turn_made a.journaled a.parents a.input.now r x.result x.ensures k.result n.result j.result k.ensures c.if-end-ne0.false n.ensures j.ensures h
    (left_by c.step-s.result _ _ _ _ _ _ _) (c.step-s.ensures ∙ ap (λ (m : Move). move_of a.input.now m r.now) c.made_by.ensures) _ c.may_be_lifted.ensures c.if-may_be_lifted.false _ c.keep-place.ensures _ (c.put_number.ensures ∙ ap (set a.popped.now a.p.made) (back w64 w (search (rules, c.struct_told-1.given))))
