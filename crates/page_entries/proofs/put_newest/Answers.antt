-- One number more in each turn.
use Prim.Native.Nat.{suc, ◌-◌}
use mathlib.Core.Path.{◌≡◌}
use native.Mathlib.Omega.{arith}
use borrow.Author.Rules.{rules}
use lib.IntN.{pos}
use lib.ListN.{get_or}
use mir.Syntax.{w64}
use mir.Val.{SFits}
use Rattle.signed.proofs.SignedLaws.{back}
use Rattle.page_entries.proofs.FillLaws.{from_end, from_turn, from_all}
use Rattle.page_entries.proofs.put_newest.Goals as goal

pub loop-at-init : goal.loop-at-init
loop-at-init c =
    let a = c.args in
    from_end a.wanted a.xs.now a.n a.filling a.page.now a.n (omega arith) c.requires.1

pub put_one-filled-requires : goal.put_one-filled-requires
put_one-filled-requires c = c.loop-at.invariant.ready

pub loop-at-preserved : goal.loop-at-preserved
loop-at-preserved c =
    let a = c.args in
    let l = c.loop-at in
    let e : l.at ≡ suc (l.at - 1) = omega arith in
    let f : SFits w64 (get_or a.xs.now (l.at - 1) (pos 0)) = search rules in
    from_turn a.wanted a.xs.now a.n a.filling a.page.now l.at (l.at - 1) e (omega arith) c.requires.0 l.filled _ l.page _ l.invariant (rw (back w64 _ f) at c.put_one-filled.ensures)

pub returns : goal.returns
returns c =
    let a = c.args in
    let l = c.loop-at in
    from_all a.wanted a.xs.now a.n a.filling a.page.now l.at (omega arith) l.filled l.page l.invariant
