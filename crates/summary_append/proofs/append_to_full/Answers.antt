-- The line is that of the head before the append.
use native.Mathlib.Omega.{arith}
use mir.Syntax.{w32, w64}
use Rattle.signed.proofs.SignedLaws.{back}
use Rattle.buffer_core.specs.Edition.{edition_of}
use Rattle.summary_append.proofs.AppendLaws.{done_told, full_after}
use borrow.Author.Rules.{rules}
use Rattle.summary_append.proofs.append_to_full.Goals as goal

pub put_accepted-requires : goal.put_accepted-requires
put_accepted-requires c =
    let a = c.args in
    let o = rw (back w64 a.number (search rules)) at c.append-appended.ensures in
    λ t. let p = done_told (edition_of a.edition) a.parent.now a.counts a.number a.staged_counts a.head.now a.staged.now _ o c.requires.1 a.lines c.requires.2 _ c.is_done.ensures t in
    rw (back w32 a.counts.spills (search rules)) (p.0, omega (arith, p.1, c.requires.3))

pub returns : goal.returns
returns c =
    let a = c.args in
    let o = rw (back w64 a.number (search rules)) at c.append-appended.ensures in
    full_after (edition_of a.edition) a.parent.now a.counts a.number a.staged_counts a.head.now a.staged.now _ o c.requires.1 _ c.is_done.ensures _ c.line_of-line.ensures a.summary.now _ (rw (back w32 a.counts.spills (search rules)) at c.put_accepted.ensures)
