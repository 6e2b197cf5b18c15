-- `segment_loading::load_segment` meets its contract: the parts are read one after the other into zeroed buffers, which are copied out once nothing can be refused any more.
use mathlib.Core.Path.{sym, ◌∙◌}
use mir.Syntax.{w32}
use mir.Facts.{to_z-of_z}
use Rattle.segment_core.proofs.ListLaws.{listed, refused}
use Rattle.segment_core.proofs.SegmentLaws.{segment_txs_bad, segment_boxes_bad, segment_counts_bad, segment_is, load_refused, load_left_over, load_done}
use borrow.Author.Rules.{rules}
use Rattle.segment_loading.proofs.load_segment.Goals as goal

pub returns-then-not-may_end : goal.returns-then-not-may_end
returns-then-not-may_end c =
    let f = listed _ _ _ _ c.read_list.ensures _ _ c.in-Ok.is in
    let g = listed _ _ _ _ c.read_list-in-Ok.ensures _ _ c.in-Ok-read_list.is in
    let w = segment_is _ _ _ _ f.is _ _ g.is _ _ _ (sym c.read_counts.ensures ∙ c.in-Ok-read_counts.is) in
    load_left_over _ _ _ _ _ _ _ _ _ _ w (sym c.may_end.ensures ∙ c.if-not-may_end.true)

pub returns-in-Err : goal.returns-in-Err
returns-in-Err c =
    load_refused _ _ _ _ _ _ (segment_txs_bad _ _ _ (refused _ _ _ _ c.read_list.ensures _ c.in-Err.is))

pub returns-in-Err-read_list : goal.returns-in-Err-read_list
returns-in-Err-read_list c =
    let f = listed _ _ _ _ c.read_list.ensures _ _ c.in-Ok.is in
    load_refused _ _ _ _ _ _ (segment_boxes_bad _ _ _ _ f.is _ (refused _ _ _ _ c.read_list-in-Ok.ensures _ c.in-Err-read_list.is))

pub returns-in-Err-read_counts : goal.returns-in-Err-read_counts
returns-in-Err-read_counts c =
    let f = listed _ _ _ _ c.read_list.ensures _ _ c.in-Ok.is in
    let g = listed _ _ _ _ c.read_list-in-Ok.ensures _ _ c.in-Ok-read_list.is in
    load_refused _ _ _ _ _ _ (segment_counts_bad _ _ _ _ f.is _ _ g.is _ (sym c.read_counts.ensures ∙ c.in-Err-read_counts.is))

pub returns-else-not-may_end : goal.returns-else-not-may_end
returns-else-not-may_end c =
    let f = listed _ _ _ _ c.read_list.ensures _ _ c.in-Ok.is in
    let g = listed _ _ _ _ c.read_list-in-Ok.ensures _ _ c.in-Ok-read_list.is in
    let w = segment_is _ _ _ _ f.is _ _ g.is _ _ _ (sym c.read_counts.ensures ∙ c.in-Ok-read_counts.is) in
    load_done _ _ _ _ _ _ _ _ _ _ w (sym c.may_end.ensures ∙ c.if-not-may_end.false) _ _
    (to_z-of_z {w = w32} (search rules)) (to_z-of_z {w = w32} (search rules))
    _ _ f.size g.size _ _ _ _ f.pads g.pads c.copy_out.ensures c.copy_out-in-Ok-read_counts.ensures
