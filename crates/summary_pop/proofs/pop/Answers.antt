-- 36, or the last of the head, or a row and its line.
use mathlib.Core.Path.{sym, ◌∙◌}
use Rattle.buffer_core.specs.Edition.{edition_of}
use Rattle.buffer_core.specs.Pop.{lists}
use Rattle.summary_pop.proofs.PopLaws.{pop_36, pop_last, pop_row}
use Rattle.summary_pop.proofs.pop.Goals as goal

pub returns-then-too_few_lines : goal.returns-then-too_few_lines
returns-then-too_few_lines c =
    let a = c.args in
    pop_36 (edition_of a.edition) a.parent.now a.counts (lists a.staged_counts a.staged.now a.table_counts a.table.now a.deleted_counts a.deleted.now) a.head.now a.lines a.summary.now (sym c.too_few_lines.ensures ∙ c.if-too_few_lines.true)

pub returns-then-len-gt0 : goal.returns-then-len-gt0
returns-then-len-gt0 c =
    let a = c.args in
    pop_last (edition_of a.edition) a.parent.now a.counts (lists a.staged_counts a.staged.now a.table_counts a.table.now a.deleted_counts a.deleted.now) a.head.now a.lines a.summary.now (sym c.too_few_lines.ensures ∙ c.if-too_few_lines.false) c.if-len-gt0.true _ c.pop.ensures

pub returns : goal.returns
returns c =
    let a = c.args in
    pop_row (edition_of a.edition) a.parent.now a.counts (lists a.staged_counts a.staged.now a.table_counts a.table.now a.deleted_counts a.deleted.now) a.head.now a.lines a.summary.now (sym c.too_few_lines.ensures ∙ c.if-too_few_lines.false) _ c.pop_from_empty.ensures
