-- Laws of drawn calls: what holds of each call that can be picked, and how far the counts grow.
use Prim.Native.Nat.{ℕ, ◌+◌, ◌*◌, ◌%◌, ◌≤◌}
use mathlib.Core.Path.{◌≡◌, refl}
use mathlib.Core.Bool.{Bool, true, false, cond}
use native.Mathlib.Omega.{arith}
use lib.Dec.{eqb, ltb}
use borrow.Author.Tests.{eqb-false}
use Rattle.calls.specs.declared.Call.TheVariants.{Flush}
use Rattle.calls.specs.Calls.{size_of}
use Rattle.load_core.specs.declared.Source.{Source}
use Rattle.load_core.specs.declared.Drawn.{Drawn}
use Rattle.load_core.specs.Draw.{draw, source, drawn, next_box, next_tx, next_spend, pick, draws}

either : {A : Type 0} (P : A → Type 0) (b : Bool) {x y : A} → P x → (b ≡ false → P y) → P (cond b x y)
either P true f g = f
either P false f g = g refl

-- what holds of the four calls holds of the one picked
pub picked : (P : Drawn → Type 0) (d : ℕ) (g : Source) → P (next_box d g) → P (next_tx d g) → ((g.boxes ≡ 0 → ⊥) → P (next_spend d g)) → P (drawn Flush (source d g.boxes g.txs))
    → P (pick d g)
unfolding pick
picked P d g box tx spend flush =
    either P (ltb (d % 8) 4) box (λ e.
    either P (ltb (d % 8) 6) (either P (eqb g.boxes 0) box (λ z. spend (eqb-false g.boxes 0 z))) (λ e.
    either P (eqb (d % 8) 6) tx (λ e. flush)))

pub drawn_is : (P : Drawn → Type 0) (g : Source) → ((d : ℕ) → P (next_box d g)) → ((d : ℕ) → P (next_tx d g)) → ((d : ℕ) → (g.boxes ≡ 0 → ⊥) → P (next_spend d g))
    → ((d : ℕ) → P (drawn Flush (source d g.boxes g.txs))) → P (draws g)
unfolding draws
drawn_is P g box tx spend flush =
    let d = draw g.state in
    picked P d g (box d) (tx d) (spend d) (flush d)

-- a count grows by 1 at most, and only by an append, which has 10 bytes
pub record Grows (g : Source) (r : Drawn) : Type 0 where
  pub boxes : r.next.boxes * 10 ≤ g.boxes * 10 + size_of r.call
  pub txs : r.next.txs * 10 ≤ g.txs * 10 + size_of r.call

pub grows : (g : Source) → Grows g (draws g)
grows g =
    drawn_is (Grows g) g
    (λ d. record { boxes = omega arith; txs = omega arith })
    (λ d. record { boxes = omega arith; txs = omega arith })
    (λ d h. record { boxes = omega arith; txs = omega arith })
    (λ d. record { boxes = omega arith; txs = omega arith })
