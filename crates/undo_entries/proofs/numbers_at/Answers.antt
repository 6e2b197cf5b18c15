-- `undo_entries::numbers_at` meets its contract: one law for each way out.
use mathlib.Core.Path.{◌∙◌}
use Rattle.undo_entries.proofs.EntryLaws.{numbers_cut, numbers_over, numbers_read}
use Rattle.undo_entries.proofs.numbers_at.Goals as goal

pub returns-then-bytes-end : goal.returns-then-bytes-end
returns-then-bytes-end c = c.refused.ensures ∙ numbers_cut _ _ _ _ c.if-bytes-end.true

pub returns-then-end-bytes : goal.returns-then-end-bytes
returns-then-end-bytes c = c.refused-then-end-bytes.ensures ∙ numbers_over _ _ _ _ c.if-bytes-end.false c.if-end-bytes.true

pub returns : goal.returns
returns c = numbers_read _ _ _ _ c.if-bytes-end.false c.if-end-bytes.false _ _ c.get_u64-txs.ensures c.get_u64-boxes.ensures
