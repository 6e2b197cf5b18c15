-- `append_stage::emit_row` meets its contract: the header, and the body behind it.
use lib.IntN.{pos}
use Rattle.row_header.proofs.HeaderLaws.{row_put}
use Rattle.append_stage.proofs.RowLaws.{head_row_most}
use Rattle.append_stage.proofs.emit_row.Goals as goal

pub returns : goal.returns
returns c =
    let a = c.args in
    row_put a.edition a.kind a.parent.now (pos a.spills) _ (head_row_most a.kind a.head.now c.requires.1) a.row.now c.requires.2 _ _ _ _ c.emit_header-at.ensures.0 c.emit_header-at.ensures.1 c.emit_body.ensures
