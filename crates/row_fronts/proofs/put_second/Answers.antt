-- `row_fronts::put_second` meets its contract: the room is tested with the size of both parts, which are then written one after the other.
use mir.Syntax.{w32}
use mir.Facts.{to_z-of_z}
use Rattle.row_fronts.proofs.FrontLaws.{second_short, second_done}
use Rattle.row_fronts.proofs.put_second.Goals as goal

pub returns-then-out-start : goal.returns-then-out-start
returns-then-out-start c =
    let a = c.args in
    second_short a.parent.now c.requires.1 a.kind (to_z-of_z {w = w32} c.ranges.number) a.row.now a.out.now _ c.number_len_i32-start.ensures.0 c.if-out-start.true

pub returns : goal.returns
returns c =
    let a = c.args in
    second_done a.parent.now c.requires.1 a.kind (to_z-of_z {w = w32} c.ranges.number) a.row.now a.out.now _ c.number_len_i32-start.ensures.0 _ _ c.emit_front-at.ensures c.if-out-start.false _ _ c.put_bytes.ensures
