-- An entry adds at most 1 to each count, and the third figure is what is missing to n.
use Prim.Native.Nat.{ℕ, ◌<◌}
use mathlib.Core.Path.{◌≡◌, ap, ◌∙◌}
use native.Mathlib.Omega.{arith}
use borrow.Author.Rules.{rules}
use lib.IntN.{ℤ, pos}
use lib.ListN.{take, get_or}
use lib.Seq.{slice, length-take-le, get_or-take}
use mir.Syntax.{w64}
use mir.Val.{SFits}
use Rattle.signed.specs.Sign.{is_negative}
use Rattle.signed.proofs.SignedLaws.{back}
use Rattle.entries.specs.Tally.{is_above, one_if, how_many}
use Rattle.entries.proofs.TurnLaws.{count_step, count_empty}
use Rattle.entries.proofs.TallyLaws.{one_most, adds_up, tally_is}
use Rattle.entry_tallies.proofs.tally_entries.Goals as goal

pub loop-x-preserved : goal.loop-x-preserved
loop-x-preserved c =
    let a = c.args in
    let l = c.loop-x in
    let h : l.x-index < a.n = omega (arith, length-take-le a.n a.xs.now c.requires) in
    let z = get_or a.xs.now l.x-index (pos 0) in
    let f : SFits w64 (get_or (take a.n a.xs.now) l.x-index (pos 0)) = search rules in
    let e = back w64 _ f ∙ get_or-take a.n a.xs.now l.x-index (pos 0) h in
    let p = c.one_above-unspent.ensures ∙ ap (λ (y : ℤ). one_if (is_above y)) e in
    let q = c.one_below-spent.ensures ∙ ap (λ (y : ℤ). one_if (is_negative y)) e in
    let t = count_step a.xs.now a.n l.x-index h c.requires is_above in
    let u = count_step a.xs.now a.n l.x-index h c.requires is_negative in
    (omega (arith, one_most c.one_above-unspent.result (is_above z) p), omega (arith, one_most c.one_below-spent.result (is_negative z) q), omega arith, omega arith)

pub overflow_sub-result-2 : goal.overflow_sub-result-2
overflow_sub-result-2 c =
    let zs = take c.args.n c.args.xs.now in
    omega (arith, adds_up zs, length-take-le c.args.n c.args.xs.now c.requires)

pub returns : goal.returns
returns c =
    let a = c.args in
    let l = c.loop-x in
    let zs = take a.n a.xs.now in
    let k = length-take-le a.n a.xs.now c.requires in
    let e : l.x-index ≡ a.n = omega (arith, k) in
    let p = ap (λ (k : ℕ). how_many is_above (slice k a.n a.xs.now)) e ∙ count_empty is_above a.n a.xs.now in
    let q = ap (λ (k : ℕ). how_many is_negative (slice k a.n a.xs.now)) e ∙ count_empty is_negative a.n a.xs.now in
    let u : l.unspent ≡ how_many is_above zs = omega (arith, l.invariant.2) in
    let v : l.spent ≡ how_many is_negative zs = omega (arith, l.invariant.3) in
    tally_is u v (omega (arith, adds_up zs, k))
