-- A turn over four numbers, and a turn over one.
use Prim.Native.Nat.{ℕ, ◌+◌, ◌*◌, ◌/◌, ◌≤◌, ◌<◌}
use mathlib.Core.Path.{◌≡◌, sym, ap, ◌∙◌, refl}
use mathlib.Core.Bool.{◌&&◌}
use mathlib.Core.List.{List, [], map}
use native.Mathlib.Omega.{arith}
use borrow.Author.Rules.{rules}
use borrow.Author.Tests.{le-leb, lt-leb}
use lib.Dec.{leb}
use lib.IntN.{ℤ, pos, nat_abs}
use lib.ListN.{length, take, drop, get_or}
use mir.Syntax.{w64}
use mir.Val.{SFits}
use Rattle.signed.proofs.SignedLaws.{back}
use Rattle.entries.specs.Order.{order_ok}
use Rattle.entry_order.proofs.CappedLaws.{capped, ordered_capped, capped_step, capped_end, four_falls, four_rises, number_at}
use Rattle.entry_order.proofs.order_ok.Goals as goal
use Rattle.entry_order.proofs.order_ok.Goals.{After-four_fall, After-magnitude-a-in-loop-x}

pub loop-a-init : goal.loop-a-init
loop-a-init c = ordered_capped 0 (map nat_abs (take c.args.n c.args.xs.now)) (omega arith)

-- the absolute values of the four in hand, which lie within the numbers
values : (c : After-four_fall) →
    let zs = take c.args.n c.args.xs.now in
    let i = c.loop-a.a-index * 4 in
    (c.magnitude-a.result ≡ nat_abs (get_or zs i (pos 0))) × (c.magnitude-b.result ≡ nat_abs (get_or zs (i + 1) (pos 0)))
    × (c.magnitude-c.result ≡ nat_abs (get_or zs (i + 2) (pos 0))) × (c.magnitude-d.result ≡ nat_abs (get_or zs (i + 3) (pos 0)))
    × (i + 4 ≤ length zs)
values c =
    let zs = take c.args.n c.args.xs.now in
    let i = c.loop-a.a-index in
    let e = c.as_chunks.ensures.front in
    let k : i < length zs / 4 = omega (arith, c.as_chunks.ensures.front_len) in
    let four = get_or c.as_chunks.result.0.now i [] in
    let fa : SFits w64 (get_or four 0 (pos 0)) = search rules in
    let fb : SFits w64 (get_or four 1 (pos 0)) = search rules in
    let fc : SFits w64 (get_or four 2 (pos 0)) = search rules in
    let fd : SFits w64 (get_or four 3 (pos 0)) = search rules in (
      c.magnitude-a.ensures ∙ ap nat_abs (back w64 _ fa ∙ number_at _ _ i 0 (i * 4) zs e k (omega arith) (omega arith)),
      c.magnitude-b.ensures ∙ ap nat_abs (back w64 _ fb ∙ number_at _ _ i 1 (i * 4 + 1) zs e k (omega arith) refl),
      c.magnitude-c.ensures ∙ ap nat_abs (back w64 _ fc ∙ number_at _ _ i 2 (i * 4 + 2) zs e k (omega arith) refl),
      c.magnitude-d.ensures ∙ ap nat_abs (back w64 _ fd ∙ number_at _ _ i 3 (i * 4 + 3) zs e k (omega arith) refl),
      omega arith,
    )

pub returns-then-four_fall : goal.returns-then-four_fall
returns-then-four_fall c =
    let v = values (goal.at.returns-then-four_fall c).After-four_fall in
    let l = c.loop-a in
    sym (l.invariant ∙ four_falls (take c.args.n c.args.xs.now) (l.a-index * 4) l.prev _ _ _ _ v.4 v.0 v.1 v.2 v.3 (sym c.four_fall.ensures ∙ c.if-four_fall.true))

pub loop-a-preserved : goal.loop-a-preserved
loop-a-preserved c =
    let v = values (goal.at.loop-a-preserved c).After-four_fall in
    let l = c.loop-a in
    let n : (l.a-index + 1) * 4 ≡ l.a-index * 4 + 4 = omega arith in
    rw n (l.invariant ∙ four_rises (take c.args.n c.args.xs.now) (l.a-index * 4) l.prev _ _ _ _ v.4 v.0 v.1 v.2 v.3 (sym c.four_fall.ensures ∙ c.if-four_fall.false))

pub loop-x-init : goal.loop-x-init
loop-x-init c =
    let l = c.loop-a in
    let zs = take c.args.n c.args.xs.now in
    let e : l.a-index ≡ length zs / 4 = omega (arith, c.as_chunks.ensures.front_len) in
    l.invariant ∙ ap (λ (k : ℕ). capped l.prev (map nat_abs (drop (k * 4) zs))) e ∙ ap (λ (ys : List ℤ). capped l.prev (map nat_abs ys)) (sym c.as_chunks.ensures.back)

one : (c : After-magnitude-a-in-loop-x) →
    order_ok (take c.args.n c.args.xs.now)
    ≡ leb c.loop-x.prev c.magnitude-a-in-loop-x.result && capped c.magnitude-a-in-loop-x.result (map nat_abs (drop (c.loop-x.x-index + 1) c.as_chunks.result.1.now))
one c =
    let l = c.loop-x in
    let f : SFits w64 (get_or c.as_chunks.result.1.now l.x-index (pos 0)) = search rules in
    l.invariant ∙ capped_step c.as_chunks.result.1.now l.x-index (l.x-index + 1) l.prev _ c.loop-x-test.true refl (c.magnitude-a-in-loop-x.ensures ∙ ap nat_abs (back w64 _ f))

pub returns-then-a-prev : goal.returns-then-a-prev
returns-then-a-prev c =
    sym (one (goal.at.returns-then-a-prev c).After-magnitude-a-in-loop-x ∙ simp (lt-leb c.loop-x.prev c.magnitude-a-in-loop-x.result c.if-a-prev.true))

pub loop-x-preserved : goal.loop-x-preserved
loop-x-preserved c = one (goal.at.loop-x-preserved c).After-magnitude-a-in-loop-x ∙ simp (le-leb c.loop-x.prev c.magnitude-a-in-loop-x.result c.if-a-prev.false)

pub returns : goal.returns
returns c = sym (c.loop-x.invariant ∙ capped_end c.as_chunks.result.1.now c.loop-x.x-index c.loop-x.prev c.loop-x-test.false)
