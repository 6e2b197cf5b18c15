-- `flip_stage::stage_under` meets its contract: the row is found by its key, written anew, and put under it.
use native.Mathlib.Omega.{arith}
use lib.ListN.{length-take}
use Rattle.buffer_core.proofs.SizeLaws.{sizes}
use Rattle.flip_stage.proofs.StageLaws.{stage_12, stage_16, table_lies, table_takes, stage_copied, staged_lies, staged_takes, staged_room, stage_again}
use borrow.Author.Rules.{rules}
use Rattle.flip_stage.proofs.stage_under.Goals as goal

pub rewrite_record-n-requires : goal.rewrite_record-n-requires
rewrite_record-n-requires c =
    let z = c.record_size-size.ensures.0 in
    (staged_lies c.args.edition c.args.parent.now c.args.staged.now c.args.staged_counts c.args.table.now c.args.table_count c.args.number c.args.at _ c.requires.2 _ (rw z at c.locate_hinted-place.ensures) _ c.in-Staged.is c.requires.0.bounds.within, c.requires.1, search rules, staged_takes c.args.edition c.args.parent.now c.args.staged.now c.args.staged_counts c.args.table.now c.args.table_count c.args.number c.args.at _ c.requires.2 _ (rw z at c.locate_hinted-place.ensures) _ c.in-Staged.is c.requires.4)

pub put-count-requires : goal.put-count-requires
put-count-requires c =
    let z = c.record_size-size.ensures.0 in
    (rw z c.requires.0.bounds.within, c.requires.3, rw z (simp length-take (omega (arith, c.rewrite_record-n.ensures.0, sizes c.args.edition))), rw z (staged_room c.args.edition c.args.parent.now c.args.staged.now c.args.staged_counts c.args.table.now c.args.table_count c.args.number c.args.at _ c.requires.2 _ (rw z at c.locate_hinted-place.ensures) _ c.in-Staged.is c.requires.0.bounds.within))

pub returns-then-capacity-held : goal.returns-then-capacity-held
returns-then-capacity-held c =
    let z = c.record_size-size.ensures.0 in
    stage_16 c.args.edition c.args.parent.now c.args.staged.now c.args.staged_counts c.args.table.now c.args.table_count c.args.number c.args.at _ c.requires.2 _ (rw z at c.locate_hinted-place.ensures) _ c.in-Table.is c.if-capacity-held.true

pub rewrite_record-n-requires-in-Table : goal.rewrite_record-n-requires-in-Table
rewrite_record-n-requires-in-Table c =
    let z = c.record_size-size.ensures.0 in
    (table_lies c.args.edition c.args.parent.now c.args.staged.now c.args.staged_counts c.args.table.now c.args.table_count c.args.number c.args.at _ c.requires.2 _ (rw z at c.locate_hinted-place.ensures) _ c.in-Table.is c.requires.0.within, c.requires.1, search rules, table_takes c.args.edition c.args.parent.now c.args.staged.now c.args.staged_counts c.args.table.now c.args.table_count c.args.number c.args.at _ c.requires.2 _ (rw z at c.locate_hinted-place.ensures) _ c.in-Table.is c.requires.4)

pub returns-in-Staged : goal.returns-in-Staged
returns-in-Staged c =
    let z = c.record_size-size.ensures.0 in
    stage_again c.args.edition c.args.parent.now c.args.staged.now c.args.staged_counts c.args.table.now c.args.table_count c.args.number c.args.at _ c.requires.2 _ (rw z at c.locate_hinted-place.ensures) _ c.in-Staged.is _ c.rewrite_record-n.ensures.1 _ _ (rw z at c.put-count.ensures.0) (rw z at c.put-count.ensures.1)

pub returns-else-capacity-held : goal.returns-else-capacity-held
returns-else-capacity-held c =
    let z = c.record_size-size.ensures.0 in
    stage_copied c.args.edition c.args.parent.now c.args.staged.now c.args.staged_counts c.args.table.now c.args.table_count c.args.number c.args.at _ c.requires.2 _ (rw z at c.locate_hinted-place.ensures) _ c.in-Table.is c.if-capacity-held.false _ c.rewrite_record-n-in-Table.ensures.1 _ _ (rw z at c.put-count-in-Table.ensures.0) (rw z at c.put-count-in-Table.ensures.1)

pub returns-in-Missing : goal.returns-in-Missing
returns-in-Missing c =
    let z = c.record_size-size.ensures.0 in
    stage_12 c.args.edition c.args.parent.now c.args.staged.now c.args.staged_counts c.args.table.now c.args.table_count c.args.number c.args.at _ c.requires.2 _ (rw z at c.locate_hinted-place.ensures) c.in-Missing.is
