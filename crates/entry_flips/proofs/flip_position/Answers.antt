-- An entry above the target ends the search; one of the target's absolute value is taken if its sign is wanted, and else was seen.
use mathlib.Core.Path.{◌≡◌, sym, ap, ◌∙◌}
use mathlib.Core.Bool.{true, false, cond}
use Prim.Native.Nat.{suc, ◌-◌, ◌+◌}
use native.Mathlib.Omega.{arith}
use borrow.Author.Rules.{rules}
use borrow.Author.Tests.{eq-eqb}
use lib.IntN.{pos, nat_abs}
use lib.ListN.{take, get_or}
use lib.Seq.{slice}
use mir.Syntax.{w64}
use mir.Val.{SFits}
use Rattle.signed.specs.Sign.{wanted}
use Rattle.entries.specs.Flip.{position}
use Rattle.entries.specs.declared.Position.TheVariants.{At}
use Rattle.signed.proofs.SignedLaws.{back}
use Rattle.entries.proofs.TurnLaws.{position_step}
use Rattle.entries.proofs.OrderLaws.{from_more, skip, none_left}
use Rattle.entry_flips.proofs.flip_position.Goals as goal
use Rattle.entry_flips.proofs.flip_position.Goals.{After-magnitude, Else-target-magnitude, After-is_wanted}

pub loop-i-init : goal.loop-i-init
loop-i-init c =
    let a = c.args in
    let p = c.place_from-i.ensures in
    (p.0, skip a.spend a.target a.xs.now a.n c.place_from-i.result c.requires.0 p.0 p.1, p.2)

-- the absolute value of the entry at i
magnitude_is : (c : After-magnitude) → c.magnitude.result ≡ nat_abs (get_or c.args.xs.now c.loop-i.i (pos 0))
magnitude_is c =
    let f : SFits w64 (get_or c.args.xs.now c.loop-i.i (pos 0)) = search rules in
    c.magnitude.ensures ∙ ap nat_abs (back w64 _ f)

pub returns-then-target-magnitude : goal.returns-then-target-magnitude
returns-then-target-magnitude c =
    let a = c.args in
    let l = c.loop-i in
    let m = magnitude_is (goal.at.returns-then-target-magnitude c).After-magnitude in
    let f = from_more a.xs.now a.n c.requires.0 c.requires.1 (suc a.target) l.i c.loop-i-test.true (omega (arith, m)) in
    c.not_taken.ensures ∙ sym (l.invariant.1 ∙ none_left a.spend a.target l.seen a.xs.now a.n c.requires.0 (a.n - l.i) l.i (omega arith) f)

-- the turn at an entry of the target's absolute value
step : (c : Else-target-magnitude) →
    let a = c.args in
    let l = c.loop-i in
    position a.spend a.target (take a.n a.xs.now) 0 false
    ≡ cond (wanted a.spend (get_or a.xs.now l.i (pos 0))) (At l.i) (position a.spend a.target (slice (l.i + 1) a.n a.xs.now) (l.i + 1) true)
step c =
    let a = c.args in
    let l = c.loop-i in
    let t = c.loop-i-test.true in
    let m = magnitude_is c.before in
    let e : c.magnitude.result ≡ a.target = omega (arith, m, l.invariant.2 l.i (omega arith) t) in
    l.invariant.1 ∙ position_step a.xs.now a.n l.i t c.requires.0 a.spend a.target l.seen c.magnitude.result m ∙ simp (eq-eqb _ _ e)

wanted_is : (c : After-is_wanted) → c.is_wanted.result ≡ wanted c.args.spend (get_or c.args.xs.now c.loop-i.i (pos 0))
wanted_is c =
    let f : SFits w64 (get_or c.args.xs.now c.loop-i.i (pos 0)) = search rules in
    c.is_wanted.ensures ∙ ap (wanted c.args.spend) (back w64 _ f)

pub returns-then-is_wanted : goal.returns-then-is_wanted
returns-then-is_wanted c =
    let w = goal.at.returns-then-is_wanted c in
    sym (step w.Else-target-magnitude ∙ simp (sym (wanted_is w.After-is_wanted) ∙ c.if-is_wanted.true))

pub loop-i-preserved : goal.loop-i-preserved
loop-i-preserved c =
    let l = c.loop-i in
    let w = goal.at.loop-i-preserved c in
    (omega arith, step w.Else-target-magnitude ∙ simp (sym (wanted_is w.After-is_wanted) ∙ c.if-is_wanted.false), λ j h k. l.invariant.2 j (omega arith) k)

pub returns : goal.returns
returns c =
    let a = c.args in
    let l = c.loop-i in
    let e : l.i + 0 ≡ a.n = omega arith in
    c.not_taken-2.ensures ∙ sym (l.invariant.1 ∙ none_left a.spend a.target l.seen a.xs.now a.n c.requires.0 0 l.i e (λ j h k. absurd (omega arith)))
