-- `append_spill::spill` meets its contract: 18, then 16, then the row is staged and the number is the head.
use mathlib.Core.Path.{sym, ap, ◌∙◌}
use lib.IntN.{ℤ}
use mir.Syntax.{w64}
use Rattle.signed.proofs.SignedLaws.{back, back32}
use Rattle.records.proofs.PutLaws.{slot_room}
use Rattle.buffer_core.specs.Edition.{record_size}
use Rattle.buffer_core.specs.Append.{one_number}
use Rattle.append_spill.proofs.SpillLaws.{spill_18, spill_16, spill_done}
use Rattle.append_spill.proofs.spill.Goals as goal

pub returns-then-spills-ge-SPILL_LIMIT : goal.returns-then-spills-ge-SPILL_LIMIT
returns-then-spills-ge-SPILL_LIMIT c =
    let a = c.args in
    spill_18 a.edition a.kind a.parent.now a.spills a.number a.staged_counts a.head.now a.staged.now c.if-spills-ge-SPILL_LIMIT.true

pub returns-then-full_for : goal.returns-then-full_for
returns-then-full_for c =
    let a = c.args in
    let z = c.record_size-size.ensures.0 in
    spill_16 a.edition a.kind a.parent.now a.spills a.number a.staged_counts a.head.now a.staged.now c.if-spills-ge-SPILL_LIMIT.false _ c.spill_key-key.ensures.0 (sym (rw z at c.full_for.ensures) ∙ c.if-full_for.true)

pub stage_row-count-requires : goal.stage_row-count-requires
stage_row-count-requires c =
    let a = c.args in
    let z = c.record_size-size.ensures.0 in
    let free = sym (rw z at c.full_for.ensures) ∙ c.if-full_for.false in
    (c.requires.below, c.requires.long, c.spill_key-key.ensures.1, c.requires.bounds.within, slot_room (record_size a.edition) a.staged_counts _ a.staged.now c.requires.bounds free)

pub returns : goal.returns
returns c =
    let a = c.args in
    let z = c.record_size-size.ensures.0 in
    spill_done a.edition a.kind a.parent.now a.spills a.number a.staged_counts a.head.now a.staged.now c.if-spills-ge-SPILL_LIMIT.false _ c.spill_key-key.ensures.0 (sym (rw z at c.full_for.ensures) ∙ c.if-full_for.false)
    _ _ _ _ c.stage_row-count.ensures.0 c.stage_row-count.ensures.1 (c.put_first.ensures ∙ ap (λ (z : ℤ). one_number z a.head.now) (back w64 a.number c.ranges.number))
    (back32 c.i32_from_usize-next.result c.i32_from_usize-next.type_inv ∙ c.i32_from_usize-next.ensures)
