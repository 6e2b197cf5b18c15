-- The parent's numbers stand in its places.
use Prim.Native.Nat.{◌+◌, ◌*◌}
use lib.IntN.{pos}
use lib.ListN.{get_or}
use mir.Syntax.{w32, w64}
use Rattle.signed.proofs.SignedLaws.{back}
use Rattle.stores.proofs.PutLaws.{put_as}
use Rattle.parent_lines.specs.Parents.{parent_line}
use Rattle.end_lines.specs.EndLines.{parent_part}
use Rattle.end_lines.proofs.put_parent.Goals as goal

pub returns : goal.returns
unfolding parent_part
returns c =
    let a = c.args in
    let p = a.p in
    let boxes = get_or a.spills.now (p * 2) (pos 0) in
    let txs = get_or a.spills.now (p * 2 + 1) (pos 0) in
    let nanos = get_or a.numbers.now (p * 1153 + 1152) (pos 0) in
    let q = back w32 boxes (record { sfits = c.put_parent_line-arg-1.given }) in
    let u = back w32 txs (record { sfits = c.put_parent_line-arg-2-1.given }) in
    let v = back w64 nanos (record { sfits = c.put_parent_line-arg-3-1.given }) in
    put_as (λ i. parent_line p (get_or a.lengths.now (p * 3) 0) (q i) (get_or a.lengths.now (p * 3 + 1) 0) (u i) (v i) (get_or a.lengths.now (p * 3 + 2) 0))
    a.out.now a.at _ _ c.put_parent_line.ensures
