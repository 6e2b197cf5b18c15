-- Where none of the four sides is refused, both addresses can be compared.
use mathlib.Core.Path.{sym, ◌∙◌}
use Rattle.address_ranking.specs.Rank.{address_of}
use Rattle.content_order.proofs.PassedLaws.{rows_ready}
use Rattle.content_order.proofs.ContentLaws.{read_refused, read_ranked, both_taken}
use Rattle.content_order.proofs.check_and_compare.Goals as goal

pub check_both-checked-requires : goal.check_both-checked-requires
check_both-checked-requires c =
    let a = c.args in
    let x = address_of a.edition a.counts a.hash.now a.ids.now a.amounts.now a.boxes.now a.txs.now a.staged.now a.table.now in
    let y = address_of a.other_edition a.other_counts a.other_hash.now a.other_ids.now a.other_amounts.now a.other_boxes.now a.other_txs.now a.other_staged.now a.other_table.now in
    (rows_ready x c.requires.0.buffers, rows_ready y c.requires.1.buffers)

pub compare_contents-requires : goal.compare_contents-requires
compare_contents-requires c =
    let a = c.args in
    let x = address_of a.edition a.counts a.hash.now a.ids.now a.amounts.now a.boxes.now a.txs.now a.staged.now a.table.now in
    let y = address_of a.other_edition a.other_counts a.other_hash.now a.other_ids.now a.other_amounts.now a.other_boxes.now a.other_txs.now a.other_staged.now a.other_table.now in
    both_taken x y c.requires.0 c.requires.1 (sym c.in-Ok.is ∙ c.check_both-checked.ensures a.boxes.now a.txs.now a.other_boxes.now a.other_txs.now)

pub returns-in-Err : goal.returns-in-Err
returns-in-Err c =
    let a = c.args in
    let x = address_of a.edition a.counts a.hash.now a.ids.now a.amounts.now a.boxes.now a.txs.now a.staged.now a.table.now in
    let y = address_of a.other_edition a.other_counts a.other_hash.now a.other_ids.now a.other_amounts.now a.other_boxes.now a.other_txs.now a.other_staged.now a.other_table.now in
    read_refused x y _ (sym c.in-Err.is ∙ c.check_both-checked.ensures a.boxes.now a.txs.now a.other_boxes.now a.other_txs.now)

pub returns-in-Ok : goal.returns-in-Ok
returns-in-Ok c =
    let a = c.args in
    let x = address_of a.edition a.counts a.hash.now a.ids.now a.amounts.now a.boxes.now a.txs.now a.staged.now a.table.now in
    let y = address_of a.other_edition a.other_counts a.other_hash.now a.other_ids.now a.other_amounts.now a.other_boxes.now a.other_txs.now a.other_staged.now a.other_table.now in
    read_ranked x y (sym c.in-Ok.is ∙ c.check_both-checked.ensures a.boxes.now a.txs.now a.other_boxes.now a.other_txs.now) _ c.compare_contents.ensures
