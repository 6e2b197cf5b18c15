-- Counts above the largest are refused; from others the load goes on.
use mathlib.Core.Path.{◌∙◌}
use Rattle.load.proofs.LoadLaws.{go_on_boxes, go_on_txs, go_on_all}
use Rattle.load.proofs.go_on.Goals as goal

pub returns-then-source-gt-MOST_COUNTED : goal.returns-then-source-gt-MOST_COUNTED
returns-then-source-gt-MOST_COUNTED c = let a = c.args in go_on_boxes a.count a.source a.out.now c.if-source-gt-MOST_COUNTED.true

pub returns-then-source-gt-MOST_COUNTED-2 : goal.returns-then-source-gt-MOST_COUNTED-2
returns-then-source-gt-MOST_COUNTED-2 c = let a = c.args in go_on_txs a.count a.source a.out.now c.if-source-gt-MOST_COUNTED.false c.if-source-gt-MOST_COUNTED-2.true

pub returns : goal.returns
returns c = let a = c.args in c.generate.ensures ∙ go_on_all a.count a.source a.out.now c.if-source-gt-MOST_COUNTED.false c.if-source-gt-MOST_COUNTED-2.false
