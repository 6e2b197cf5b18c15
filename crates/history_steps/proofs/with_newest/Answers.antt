-- The others move one place on.
use mathlib.Core.Path.{refl}
use Rattle.history_steps.proofs.ListLaws.{one_more}
use Rattle.history_steps.proofs.with_newest.Goals as goal

pub returns : goal.returns
returns c = let l = c.args.l in (one_more l.a l.b l.c l.d l.e c.args.k l.len c.requires, refl)
