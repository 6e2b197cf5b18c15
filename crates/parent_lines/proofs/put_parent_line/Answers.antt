-- The four parts stand one behind the other, and 22 + 43 + 43 + 44 bytes hold them.
use mathlib.Core.Path.{ap}
use lib.IntN.{ℤ}
use mir.Syntax.{w32, w64}
use Rattle.signed.proofs.SignedLaws.{back}
use Rattle.stores.proofs.PutLaws.{put_as}
use Rattle.parent_lines.specs.Parents.{head_part, balance_part}
use Rattle.parent_lines.proofs.ParentLaws.{put_parent_parts}
use Rattle.parent_lines.proofs.put_parent_line.Goals as goal

pub returns : goal.returns
returns c =
    let a = c.args in
    let p = c.put_parent-after_parent in
    let x = c.put_head-after_boxes in
    let y = c.put_head-after_txs in
    let q = ap (λ (z : ℤ). head_part a.box_len z) (back w32 a.box_spills c.ranges.box_spills) in
    let r = ap (λ (z : ℤ). head_part a.tx_len z) (back w32 a.tx_spills c.ranges.tx_spills) in
    let t = ap (λ (z : ℤ). balance_part z a.tokens) (back w64 a.nanos c.ranges.nanos) in
    put_parent_parts a.out.now a.at _ _ _ _ _ _ _ _ a.p a.box_len a.box_spills a.tx_len a.tx_spills a.nanos a.tokens
    p.ensures.0 (put_as q c.put_parent-after_parent.new.out p.result _ _ x.ensures.0) (put_as r c.put_head-after_boxes.new.out x.result _ _ y.ensures.0)
    (put_as t c.put_head-after_txs.new.out y.result _ _ c.put_balance.ensures)
