-- A state that is not 0 never comes to 0, so that a generator which a load left is never refused by 38.
use Prim.Native.Nat.{ℕ, zero, suc, ◌-◌, ◌*◌, ◌/◌, ◌%◌, ◌<◌, ◌^◌}
use mathlib.Core.Path.{◌≡◌, refl, sym, ◌∙◌}
use native.Mathlib.Omega.{arith}
use lib.Bits.{bit_xor, xor_add_and, and_le_l, and_le_r}
use Rattle.load_core.specs.declared.Source.{Source}
use Rattle.load_core.specs.declared.Drawn.{Drawn}
use Rattle.load_core.specs.Draw.{draw, draws, source_after}
use Rattle.load_core.proofs.DrawLaws.{picked}

abbrev two_64 : ℕ
two_64 = 18446744073709551616

-- numbers whose bits do not differ are equal
xor_apart : (a b : ℕ) → bit_xor a b ≡ 0 → a ≡ b
xor_apart a b e = omega (arith, e, xor_add_and a b, and_le_l a b, and_le_r a b)

-- a number below 2^64 that 2^64 divides
divided : (y z : ℕ) → y ≡ z * two_64 → y < two_64 → y ≡ 0
divided y zero e h = e
divided y (suc z) e h = absurd (omega (arith, e, h))

-- a number of 64 bits that is its own shift is 0: 2^64 divides its product with 2^13 - 1, hence the number, as (2^13 - 1) * 4504149450301441 is 2^65 - 1
left_13 : (y : ℕ) → y ≡ y * 8192 % two_64 → y ≡ 0
left_13 y e =
    let q = y * 8192 / two_64 in
    divided y (2 * y - q * 4504149450301441) (omega (arith, e)) (omega (arith, e))

-- and (2^17 - 1) * 2251816993685505 is 2^68 - 1
left_17 : (y : ℕ) → y ≡ y * 131072 % two_64 → y ≡ 0
left_17 y e =
    let q = y * 131072 / two_64 in
    divided y (16 * y - q * 2251816993685505) (omega (arith, e)) (omega (arith, e))

right_7 : (y : ℕ) → y ≡ y / 128 → y ≡ 0
right_7 y e = omega (arith, e)

-- the draw of a state that is not 0
pub never_0 : (x : ℕ) → draw x ≡ 0 → x ≡ 0
unfolding draw
never_0 x e =
    let a = bit_xor x (x * 2 ^ 13 % 2 ^ 64) in
    let b = bit_xor a (a / 2 ^ 7) in
    let eb : b ≡ 0 = left_17 b (xor_apart b (b * 2 ^ 17 % 2 ^ 64) e) in
    let ea : a ≡ 0 = right_7 a (xor_apart a (a / 2 ^ 7) eb) in
    left_13 x (xor_apart x (x * 2 ^ 13 % 2 ^ 64) ea)

-- the generator after n calls
pub goes_on : (n : ℕ) (g : Source) → (source_after n g).state ≡ 0 → g.state ≡ 0
unfolding source_after draws
goes_on zero g e = e
goes_on (suc n) g e =
    let d = draw g.state in
    let s : (draws g).next.state ≡ d = picked (λ (r : Drawn). r.next.state ≡ d) d g refl refl (λ h. refl) refl in
    never_0 g.state (sym s ∙ goes_on n (draws g).next e)
