-- The others move one place up.
use mathlib.Core.Path.{refl, sym, ap}
use native.Mathlib.Omega.{arith}
use Rattle.history_steps.specs.declared.Rank.TheVariants.{Flush}
use Rattle.history_steps.specs.Legal.{before}
use Rattle.history_steps.proofs.ListLaws.{one_less}
use Rattle.history_steps.proofs.without_newest.Goals as goal

pub returns : goal.returns
returns c =
    let l = c.args.l in
    (sym (ap before (one_less l.a l.b l.c l.d l.e Flush l.len (omega arith) c.requires)), refl)
