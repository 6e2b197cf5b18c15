-- One place more is written, and the end.
use mathlib.Core.Path.{refl}
use native.Mathlib.Omega.{arith}
use Rattle.stores.proofs.LoopLaws.{writing_start, move_turn, move_end}
use Rattle.stores.proofs.move_bytes.Goals as goal

pub loop-j-init : goal.loop-j-init
loop-j-init c = writing_start _ _ _

pub loop-j-preserved : goal.loop-j-preserved
loop-j-preserved c =
    let a = c.args in
    let l = c.loop-j in
    move_turn a.dst.now l.dst a.to l.j 0 a.from a.count _ refl l.invariant (omega arith) (omega arith) (omega arith)

pub returns : goal.returns
returns c =
    let a = c.args in
    let l = c.loop-j in
    move_end a.dst.now l.dst a.to l.j 0 a.from a.count l.invariant (omega arith) (omega arith) (omega arith)
