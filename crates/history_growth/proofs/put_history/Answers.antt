-- The length, and the calls behind it.
use mathlib.Core.List.{[], ◌∷◌, map}
use Rattle.stores.proofs.PutLaws.{put_as, put_both}
use Rattle.history_steps.specs.Ranks.{number, ranks_in}
use Rattle.history_growth.specs.Internal.{oldest_first}
use Rattle.history_growth.proofs.GrowLaws.{history_bytes}
use Rattle.history_growth.proofs.put_history.Goals as goal

pub returns : goal.returns
returns c =
    let l = c.args.l in
    put_as (history_bytes l c.requires.0) _ _ _ _
    (put_both (l.len ∷ []) (map number (oldest_first (ranks_in l))) c.args.out.now _ _ _ _ _ c.put_byte-o.ensures c.put_calls.ensures)
