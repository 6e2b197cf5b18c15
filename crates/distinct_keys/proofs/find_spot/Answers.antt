-- `distinct_keys::find_spot` meets its contract: at a free root the way of the key ends.
use Rattle.std.proofs.Common.{take, drop, refl, arith}
use Rattle.distinct_keys.proofs.TreeLaws.{walk_start, walk_none, walk_open, not_among}
use Rattle.distinct_keys.proofs.find_spot.Goals as goal

pub returns-then-links-start-eq0 : goal.returns-then-links-start-eq0
returns-then-links-start-eq0 c =
    let a = c.args in
    let b = c.root-start.ensures in
    let w = walk_start a.size a.list.now a.roots a.i a.links.now (take 32 (drop a.at a.list.now)) c.requires.4 c.root-start.result _ _ b.0 b.1 refl refl in
    let z = walk_none a.size _ _ _ _ _ c.requires.4 _ _ _ w (omega arith) in
    (not_among a.size a.i _ a.list.now c.requires.0 z, walk_open a.size _ _ _ _ _ c.requires.4 _ _ _ w (omega arith))
