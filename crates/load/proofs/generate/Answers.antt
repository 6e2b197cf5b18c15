-- A way out for each refusal, and the calls where they fit.
use mathlib.Core.Path.{sym, ◌∙◌}
use Rattle.load.proofs.LoadLaws.{generated_38, generated_32, generated_all}
use Rattle.load.proofs.generate.Goals as goal

pub returns-then-g-eq0 : goal.returns-then-g-eq0
returns-then-g-eq0 c = let a = c.args in generated_38 a.count a.g a.out.now c.if-g-eq0.true

pub returns-then-fits : goal.returns-then-fits
returns-then-fits c =
    let a = c.args in
    c.write_calls.ensures ∙ generated_all a.count a.g a.out.now c.if-g-eq0.false (sym c.fits.ensures ∙ c.if-fits.true)

pub returns : goal.returns
returns c = let a = c.args in generated_32 a.count a.g a.out.now c.if-g-eq0.false (sym c.fits.ensures ∙ c.if-fits.false)
