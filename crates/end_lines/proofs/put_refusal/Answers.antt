-- A line where there is a refusal.
use mathlib.Core.Path.{refl}
use Rattle.stores.proofs.PutLaws.{put_as}
use Rattle.end_lines.proofs.EndRoom.{no_refusal, one_refusal}
use Rattle.end_lines.proofs.put_refusal.Goals as goal

pub returns-then-code-eq0 : goal.returns-then-code-eq0
returns-then-code-eq0 c = put_as (no_refusal c.args.ordinal c.args.code c.if-code-eq0.true) c.args.out.now 0 0 _ (refl, refl)

pub returns : goal.returns
returns c = let a = c.args in put_as (one_refusal a.ordinal a.code c.if-code-eq0.false) a.out.now 0 _ _ c.put_line.ensures
