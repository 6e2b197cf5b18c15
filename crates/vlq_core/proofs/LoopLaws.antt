-- Laws of reading groups in a loop: `sum` is what the groups passed hold, `scale` what the next one counts, `more` how many may follow.
use mathlib.Core.Path.{◌≡◌, refl, sym, ap, ◌∙◌}
use mathlib.Core.List.{List, ◌∷◌}
use Prim.Native.Nat.{ℕ, zero, suc, ◌+◌, ◌-◌, ◌*◌, ◌%◌, ◌^◌, ◌<◌, ◌≤◌}
use native.Mathlib.Nat.{mul-add, mul_assoc, mul-le-mul, mul-le-mul_left}
use native.Mathlib.Omega.{arith}
use native.Mathlib.Numerals.{add-one, sub-one}
use lib.ListN.{length, drop, get_or, drop_of_length-le}
use lib.Seq.{drop-cons}
use lib.Pow.{pow-add, pow_mono}
use borrow.Author.Tests.{lt-ltb, le-ltb}
use mir.Syntax.{w64}
use mir.Val.{Fits}
use Rattle.std.specs.Prelude.{Ok, Err}
use Rattle.vlq_core.specs.Answers.{Got}
use Rattle.vlq_core.specs.Reading.{below, dec}

-- ---- the numbers fit

pub record Scaled (more sum scale : ℕ) : Type 0 where
  pub few : more ≤ 9
  pub power : scale ≡ 2 ^ (63 - 7 * more)
  pub under : sum < scale

pub scaled_start : Scaled 9 0 1
scaled_start = record { few = omega arith; power = refl; under = omega arith }

-- a group below 128 with more to come, and a last one that holds one bit
module _ (more sum scale : ℕ) (s : Scaled more sum scale) where
  product : (b : ℕ) → 0 < more → b < 128 → scale * b + scale ≤ 2 ^ 63
  product b h k =
      let p : scale ≤ 2 ^ 56 = omega (arith, s.power, pow_mono {i = 63 - 7 * more} {j = 56} (omega arith)) in
      let r : b + 1 ≤ 128 = omega arith in
      let q : scale * (b + 1) ≤ 2 ^ 56 * 128 = mul-le-mul p r in
      omega (arith, mul-add scale b 1)

  pub fits_product : (b : ℕ) → 0 < more → b < 128 → Fits w64 (scale * b)
  fits_product b h k = record { fits = omega (arith, product b h k) }

  pub fits_sum : (b : ℕ) → 0 < more → b < 128 → Fits w64 (sum + scale * b)
  fits_sum b h k = record { fits = omega (arith, product b h k, s.under) }

  pub fits_scale : 0 < more → Fits w64 (scale * 128)
  fits_scale h = record { fits = omega (arith, s.power, pow_mono {i = 63 - 7 * more} {j = 56} (omega arith)) }

  pub fits_last : (b : ℕ) → more ≡ 0 → b < 2 → Fits w64 (scale * b) × Fits w64 (sum + scale * b)
  fits_last b z k =
      let p : scale ≡ 2 ^ 63 = s.power ∙ ap (λ (n : ℕ). 2 ^ (63 - 7 * n)) z in
      let q : scale * b ≡ 2 ^ 63 * b = ap (λ (n : ℕ). n * b) p in
      (record { fits = omega arith }, record { fits = omega (arith, s.under) })

  pub scaled_step : (b : ℕ) → 0 < more → Scaled (more - 1) (sum + scale * (b % 128)) (scale * 128)
  scaled_step b h = record {
    few = omega (arith, s.few);
    power = ap (λ (n : ℕ). n * 128) s.power ∙ sym (pow-add 2 (63 - 7 * more) 7) ∙ ap (λ (n : ℕ). 2 ^ n) (omega (arith, s.few));
    under = omega (arith, s.under, mul-add scale (b % 128) 1, mul-le-mul_left {m = b % 128 + 1} {n = 128} scale (omega arith));
  }

-- ---- the answer: what the rest gives, on top of what was passed

abbrev pub onto : ℕ → ℕ → Got → Got
onto sum scale (Ok (v, n)) = Ok (sum + scale * v, n)
onto sum scale (Err r) = Err r

pub onto_start : (g : Got) → g ≡ onto 0 1 g
onto_start (Ok (v, n)) = ap (λ (x : ℕ). Ok (x, n)) (omega arith)
onto_start (Err r) = refl

onto_below : (sum scale b : ℕ) (g : Got) → onto sum scale (below b g) ≡ onto (sum + scale * (b % 128)) (scale * 128) g
onto_below sum scale b (Ok (v, n)) = ap (λ (x : ℕ). Ok (x, n)) (omega (arith, mul-add scale (b % 128) (128 * v), mul_assoc scale 128 v))
onto_below sum scale b (Err r) = refl

module _ (s : List ℕ) (i sum scale : ℕ) where
  pub loop_cut : (f : ℕ) → length s ≤ i → onto sum scale (dec f (drop i s) i) ≡ Err 1
  unfolding dec
  loop_cut f h = rw (drop_of_length-le s h)

  module _ (b : ℕ) (h : i < length s) (e : b ≡ get_or s i 0) where
    cut : drop i s ≡ b ∷ drop (i + 1) s
    cut = rw (add-one i, e, drop-cons s i 0 h)

    pub loop_last : (f : ℕ) → 0 < f → b < 128 → onto sum scale (dec f (drop i s) i) ≡ Ok (sum + scale * b, i + 1)
    unfolding dec
    loop_last zero z k = absurd (omega arith)
    loop_last (suc f) z k = rw (cut, lt-ltb b 128 k)

    pub loop_more : (f : ℕ) → 0 < f → 128 ≤ b
        → onto sum scale (dec f (drop i s) i) ≡ onto (sum + scale * (b % 128)) (scale * 128) (dec (f - 1) (drop (i + 1) s) (i + 1))
    unfolding dec
    loop_more zero z k = absurd (omega arith)
    loop_more (suc f) z k = rw (cut, le-ltb b 128 k, sub-one (suc f)) (onto_below sum scale b (dec f (drop (i + 1) s) (i + 1)))

    pub loop_tenth : (f : ℕ) → f ≡ 0 → b < 2 → onto sum scale (dec f (drop i s) i) ≡ Ok (sum + scale * b, i + 1)
    unfolding dec
    loop_tenth f z k = rw (z, cut, lt-ltb b 2 k)

    pub loop_over : (f : ℕ) → f ≡ 0 → 2 ≤ b → onto sum scale (dec f (drop i s) i) ≡ Err 2
    unfolding dec
    loop_over f z k = rw (z, cut, le-ltb b 2 k)
