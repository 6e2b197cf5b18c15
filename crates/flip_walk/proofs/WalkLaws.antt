-- Laws of the walk: what a row shows, one law for each way out, and that a hit lies below the start.
use mathlib.Core.Path.{◌≡◌, refl, sym, ap, ◌∙◌}
use mathlib.Core.Bool.{Bool, true, false, ◌||◌}
use mathlib.Core.List.{List}
use Prim.Native.Nat.{ℕ, zero, suc, ◌-◌, ◌<◌, ◌≤◌}
use native.Mathlib.Omega.{arith}
use borrow.Author.Tests.{lt-ltb, le-ltb}
use lib.Dec.{ltb}
use lib.IntN.{ℤ, pos, nat_abs}
use lib.ListN.{length, take, get_or}
use lib.Seq.{take_all}
use Rattle.entries.specs.Flip.{position}
use Rattle.entries.specs.declared.Position.{Position}
use Rattle.entries.specs.declared.Position.TheVariants.{At, Seen, Absent}
use Rattle.buffer_core.specs.declared.Look.{Look}
use Rattle.buffer_core.specs.declared.Look.TheVariants.{Take, Stop, Next, Fail}
use Rattle.buffer_core.specs.declared.Walk.{Walk}
use Rattle.buffer_core.specs.declared.Walk.TheVariants.{Hit, Ended, Failed}
use Rattle.buffer_core.specs.Edition.{RowRead}
use Rattle.buffer_core.specs.Flip.{first_of, last_in, look_past, look_by, look_in, look_of, walk_by, walk_from}
use Rattle.std.specs.Prelude.{Ok, Err}
use Rattle.spill_rows.specs.Answers.{Read}
use Rattle.spill_rows.specs.Internal.{CheckedInto}
use Rattle.spill_rows.proofs.CheckedLaws.{nope, faulty}

-- ---- what a row shows; x is the checked row

module _ (x : RowRead) (r : Read) (out : List ℤ) (s : CheckedInto x r out) where
  pub look_good : r ≡ (Ok tt) → (t : ℕ) (d : Bool) (l : Look) → l ≡ look_in out t d → l ≡ look_of x t d
  look_good e t d l p = rw (s.numbers e) p

  pub look_bad : (code : ℕ) → r ≡ Err code → (t : ℕ) (d : Bool) → Fail code ≡ look_of x t d
  look_bad code e t d = rw (faulty x r out s code e)

pub past_stop : (first t : ℕ) (seen : Bool) → first < t → Stop seen ≡ look_past (ltb first t) seen
past_stop first t seen h = rw (lt-ltb first t h)

pub past_next : (first t : ℕ) (seen : Bool) → t ≤ first → Next seen ≡ look_past (ltb first t) seen
past_next first t seen h = rw (le-ltb first t h)

-- z and x are what locals hold of the last number
module _ (zs : List ℤ) (t : ℕ) (d : Bool) (n : length zs ≡ 512) (z : ℤ) (x : ℕ) (ez : z ≡ get_or zs 511 (pos 0)) (ex : x ≡ nat_abs z) where
  pub look_below : x < t → Stop false ≡ look_in zs t d
  unfolding look_in
  look_below h = let q : last_in zs < t = omega (arith, ex ∙ ap nat_abs ez) in rw (lt-ltb (last_in zs) t q)

  module _ (h : t ≤ x) (p : Position) (ep : p ≡ position d t (take 512 zs) 0 false) where
    by_position : (l : Look) → l ≡ look_by p (ltb (first_of zs) t) → l ≡ look_in zs t d
    unfolding look_in
    by_position l el =
        let q : t ≤ last_in zs = omega (arith, ex ∙ ap nat_abs ez) in
        let k : take 512 zs ≡ zs = take_all 512 zs (omega arith) in
        let m : position d t zs 0 false ≡ p = ap (λ (u : List ℤ). position d t u 0 false) (sym k) ∙ sym ep in
        rw (le-ltb (last_in zs) t q, m) el

    pub look_take : (i : ℕ) → p ≡ At i → Take i ≡ look_in zs t d
    look_take i e = by_position (Take i) (rw e)

    -- y and f are what locals hold of the first number
    module _ (y : ℤ) (f : ℕ) (l : Look) (ey : y ≡ get_or zs 0 (pos 0)) (ef : f ≡ nat_abs y) where
      pub look_seen : p ≡ Seen → l ≡ look_past (ltb f t) true → l ≡ look_in zs t d
      look_seen e el = by_position l (rw e (el ∙ ap (λ (v : ℕ). look_past (ltb v t) true) (ef ∙ ap nat_abs ey)))

      pub look_absent : p ≡ Absent → l ≡ look_past (ltb f t) false → l ≡ look_in zs t d
      look_absent e el = by_position l (rw e (el ∙ ap (λ (v : ℕ). look_past (ltb v t) false) (ef ∙ ap nat_abs ey)))

-- ---- each way out of the walk

pub walk_step : (f : ℕ → Look) (low : ℕ) (seen : Bool) → 0 < low → walk_from f low seen ≡ walk_by (f (low - 1)) (low - 1) seen (λ s. walk_from f (low - 1) s)
unfolding walk_from
walk_step f zero seen h = let e : ⊥ = omega arith in absurd e
walk_step f (suc n) seen h = let e : suc n - 1 ≡ n = omega arith in rw e

pub walk_end : (f : ℕ → Look) (low : ℕ) (seen : Bool) → low ≤ 0 → Ended seen ≡ walk_from f low seen
unfolding walk_from
walk_end f low seen h = let e : low ≡ 0 = omega arith in rw e

module _ (f : ℕ → Look) (low : ℕ) (seen : Bool) (h : 0 < low) (r : Look) (e : r ≡ f (low - 1)) where
  pub walk_take : (i : ℕ) → r ≡ Take i → Hit (low - 1) i ≡ walk_from f low seen
  walk_take i q = sym (walk_step f low seen h ∙ rw (sym e ∙ q))

  pub walk_fail : (c : ℕ) → r ≡ Fail c → Failed c ≡ walk_from f low seen
  walk_fail c q = sym (walk_step f low seen h ∙ rw (sym e ∙ q))

  pub walk_stop : (s b : Bool) → r ≡ Stop s → b ≡ (seen || s) → Ended b ≡ walk_from f low seen
  walk_stop s b q eb = sym (walk_step f low seen h ∙ rw (sym e ∙ q, eb))

  pub walk_next : (s b : Bool) → r ≡ Next s → b ≡ (seen || s) → walk_from f low seen ≡ walk_from f (low - 1) b
  walk_next s b q eb = walk_step f low seen h ∙ rw (sym e ∙ q, eb)

-- ---- a hit lies below the start, and the row there shows it

step_hits : (f : ℕ → Look) (n m i : ℕ) (seen : Bool) (x : Look) → f n ≡ x → ((s : Bool) → walk_from f n s ≡ Hit m i → (m < n) × (f m ≡ Take i))
    → walk_by x n seen (λ s. walk_from f n s) ≡ Hit m i → (m < suc n) × (f m ≡ Take i)
step_hits f n m i seen (Take k) q ih e = let a : n ≡ m = cc in let b : k ≡ i = cc in (omega arith, ap f (sym a) ∙ q ∙ ap Take b)
step_hits f n m i seen (Stop s) q ih e = nope (cc)
step_hits f n m i seen (Next s) q ih e = let p = ih _ e in (omega (arith, p.0), p.1)
step_hits f n m i seen (Fail c) q ih e = nope (cc)

hits : (f : ℕ → Look) (l : ℕ) (seen : Bool) (m i : ℕ) → walk_from f l seen ≡ Hit m i → (m < l) × (f m ≡ Take i)
unfolding walk_from
hits f zero seen m i e = nope (cc)
hits f (suc n) seen m i e = step_hits f n m i seen (f n) refl (λ s q. hits f n s m i q) e

pub walk_hits : (f : ℕ → Look) (l : ℕ) (seen : Bool) (m i : ℕ) (r : Walk) → r ≡ walk_from f l seen → r ≡ Hit m i → (m < l) × (f m ≡ Take i)
walk_hits f l seen m i r e q = hits f l seen m i (sym e ∙ q)
