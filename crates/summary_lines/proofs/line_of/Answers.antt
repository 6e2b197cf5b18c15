-- The first and the last number, and the figures of all 512.
use Rattle.signed.proofs.SignedLaws.{back64}
use Rattle.summary_lines.proofs.LineLaws.{line_is}
use Rattle.summary_lines.proofs.line_of.Goals as goal

pub returns : goal.returns
returns c =
    let a = c.args in
    line_is a.numbers.now _ _ _ _ _ (back64 _ c.magnitude-arg-1.given) c.magnitude-first.ensures (back64 _ c.magnitude-arg-2-1.given) c.magnitude-last.ensures c.tally_entries-figures.ensures
