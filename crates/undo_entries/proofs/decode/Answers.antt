-- `undo_entries::decode` meets its contract: one law for each way out.
use mathlib.Core.Path.{◌∙◌}
use Rattle.undo_entries.proofs.EntryLaws.{decode_empty, decode_first, decode_tag, decode_cut, decode_known}
use Rattle.undo_entries.proofs.decode.Goals as goal

pub returns-then-bytes-eq0 : goal.returns-then-bytes-eq0
returns-then-bytes-eq0 c = c.refused.ensures ∙ decode_empty _ c.if-bytes-eq0.true

pub returns-then-tag-eq0 : goal.returns-then-tag-eq0
returns-then-tag-eq0 c = c.numbers_at.ensures ∙ decode_first _ c.if-bytes-eq0.false c.if-tag-eq0.true

pub returns-then-bytes-lt33 : goal.returns-then-bytes-lt33
returns-then-bytes-lt33 c = c.refused-then-bytes-lt33.ensures ∙ decode_cut _ c.if-bytes-eq0.false c.if-tag-eq0.false c.if-tag-eq1.true c.if-bytes-lt33.true

pub returns-then-tag-eq1 : goal.returns-then-tag-eq1
returns-then-tag-eq1 c = c.numbers_at-then-tag-eq1.ensures ∙ decode_known _ c.if-bytes-eq0.false c.if-tag-eq0.false c.if-tag-eq1.true c.if-bytes-lt33.false _ c.header_of.ensures

pub returns : goal.returns
returns c = c.refused-2.ensures ∙ decode_tag _ c.if-bytes-eq0.false c.if-tag-eq0.false c.if-tag-eq1.false
