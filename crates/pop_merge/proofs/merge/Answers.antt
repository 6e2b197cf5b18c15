-- `pop_merge::merge` meets its contract: the row's numbers are the head, whose last is taken; each list is changed by one call.
use mathlib.Core.Path.{◌∙◌}
use Rattle.signed.proofs.SignedLaws.{back32, back64}
use Rattle.pop_merge.proofs.MergeLaws.{merge_done}
use Rattle.pop_merge.proofs.merge.Goals as goal

pub returns : goal.returns
returns c =
    let a = c.args in
    let z = c.record_size-size.ensures.0 in
    merge_done a.edition a.list.now a.n a.spills a.key.now a.staged_counts a.staged.now a.deleted_counts a.deleted.now a.head.now _ _ _ _ _ _ _ _
    c.copy_numbers.ensures (back64 c.take_last-number.result c.take_last-number.type_inv ∙ c.take_last-number.ensures.0) c.take_last-number.ensures.1 (back32 c.i32_from_usize-rows.result c.i32_from_usize-rows.type_inv ∙ c.i32_from_usize-rows.ensures)
    (rw z at c.unstage-staged_after.ensures.0) (rw z at c.unstage-staged_after.ensures.1) c.put_key-count.ensures.0 c.put_key-count.ensures.1
