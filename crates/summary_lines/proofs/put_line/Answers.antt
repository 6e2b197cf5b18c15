-- Five stores, one after the other.
use Rattle.summary_lines.proofs.LineLaws.{five_stores}
use Rattle.summary_lines.proofs.put_line.Goals as goal

pub returns : goal.returns
returns c =
    let a = c.args in
    five_stores a.number a.line.first a.line.last a.line.above a.line.zeros a.line.below a.summary.now c.requires
