-- 36, or an append that makes no row, or one that makes a row and its line.
use mathlib.Core.Path.{sym, ◌∙◌}
use mir.Syntax.{w64}
use Rattle.signed.proofs.SignedLaws.{back}
use Rattle.buffer_core.specs.Edition.{edition_of}
use Rattle.summary_append.proofs.AppendLaws.{append_36, append_end, append_full}
use borrow.Author.Rules.{rules}
use Rattle.summary_append.proofs.append.Goals as goal

pub returns-then-lines_missing : goal.returns-then-lines_missing
returns-then-lines_missing c =
    let a = c.args in
    append_36 (edition_of a.edition) a.parent.now a.counts a.number a.staged_counts a.head.now a.staged.now a.lines a.summary.now (sym (rw (back w64 a.number (search rules)) at c.lines_missing.ensures) ∙ c.if-lines_missing.true)

pub returns-then-len-lt-SEGMENT_THRESHOLD : goal.returns-then-len-lt-SEGMENT_THRESHOLD
returns-then-len-lt-SEGMENT_THRESHOLD c =
    let a = c.args in
    let v = back w64 a.number (search rules) in
    append_end (edition_of a.edition) a.parent.now a.counts a.number a.staged_counts a.head.now a.staged.now a.lines a.summary.now (sym (rw v at c.lines_missing.ensures) ∙ c.if-lines_missing.false) c.if-len-lt-SEGMENT_THRESHOLD.true _ (rw v at c.append.ensures)

pub returns : goal.returns
returns c =
    let a = c.args in
    let v = back w64 a.number (search rules) in
    append_full (edition_of a.edition) a.parent.now a.counts a.number a.staged_counts a.head.now a.staged.now a.lines a.summary.now (sym (rw v at c.lines_missing.ensures) ∙ c.if-lines_missing.false) _ (rw v at c.append_to_full.ensures)
