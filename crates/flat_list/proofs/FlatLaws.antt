-- One law for each way out of a call on a flat list.
use Prim.Native.Nat.{ℕ, ◌<◌, ◌≤◌, ◌+◌, ◌-◌}
use mathlib.Core.Path.{◌≡◌, refl, ap, sym, subst, ◌∙◌}
use mathlib.Core.Bool.{Bool, true, false, ◌&&◌, cond}
use mathlib.Core.List.{List}
use native.Mathlib.Omega.{arith}
use borrow.Author.Tests.{le-leb, lt-leb, leb-true, eq-eqb, ne_eqb}
use lib.Dec.{leb, eqb}
use lib.IntN.{ℤ, pos, nat_abs}
use lib.ListN.{length, take, get_or, set}
use Rattle.std.specs.Prelude.{Ok, Err}
use Rattle.signed.specs.Sign.{is_negative}
use Rattle.entries.specs.Order.{order_ok}
use Rattle.entries.specs.Flip.{position, flipped_at}
use Rattle.entries.specs.declared.Position.{Position}
use Rattle.entries.specs.declared.Position.TheVariants.{At, Seen, Absent}
use Rattle.flat_list.specs.Flat.{Changing, changing, popping, flip_found, flat_ok, flat_append, flat_flip, flip_target, flat_pop}

both : (a b : Bool) → a && b ≡ true → (a ≡ true) × (b ≡ true)
both true b h = (refl, h)
both false b h = let x : ◌≡◌ {A = ℕ} 0 1 = cc in absurd (omega arith)

module _ (n : ℕ) (l : List ℤ) where
  -- ---- 25

  pub too_many : 4096 < n → false ≡ flat_ok n l
  unfolding flat_ok
  too_many h = rw (lt-leb n 4096 h)

  pub by_places : n ≤ 4096 → leb 4096 (length l) ≡ flat_ok n l
  unfolding flat_ok
  by_places h = rw (le-leb n 4096 h)

  -- what the test establishes
  pub bounds : flat_ok n l ≡ true → (n ≤ 4096) × (4096 ≤ length l)
  unfolding flat_ok
  bounds ok =
      let b = both (leb n 4096) (leb 4096 (length l)) ok in
      (leb-true n 4096 b.0, leb-true 4096 (length l) b.1)

  -- ---- append

  module _ (z : ℤ) where
    pub append_25 : flat_ok n l ≡ false → changing (Err 25) l ≡ flat_append n z l
    unfolding flat_append
    append_25 e = rw e

    pub append_17 : flat_ok n l ≡ true → is_negative z ≡ true → changing (Err 17) l ≡ flat_append n z l
    unfolding flat_append
    append_17 e f = rw (e, f)

    pub append_37 : flat_ok n l ≡ true → is_negative z ≡ false → 4096 ≤ n → changing (Err 37) l ≡ flat_append n z l
    unfolding flat_append
    append_37 e f h = rw (e, f, le-leb 4096 n h)

    pub append_end : flat_ok n l ≡ true → is_negative z ≡ false → n < 4096 → (m : List ℤ) → m ≡ set l n z → changing (Ok (n + 1)) m ≡ flat_append n z l
    unfolding flat_append
    append_end e f h m g = rw (e, f, lt-leb 4096 n h) (ap (changing (Ok (n + 1))) g)

  -- ---- spend and unspend

  module _ (d : Bool) (t : ℕ) where
    pub target_at : (i : ℕ) (m : List ℤ) → position d t (take n l) 0 false ≡ At i → m ≡ flipped_at (At i) l → changing (Ok n) m ≡ flip_target d n t l
    unfolding flip_target
    target_at i m e g = rw e (ap (changing (Ok n)) g)

    pub target_14 : position d t (take n l) 0 false ≡ Seen → changing (Err 14) l ≡ flip_target d n t l
    unfolding flip_target
    target_14 e = rw e

    pub target_15 : position d t (take n l) 0 false ≡ Absent → changing (Err 15) l ≡ flip_target d n t l
    unfolding flip_target
    target_15 e = rw e

  module _ (d : Bool) (z : ℤ) where
    pub flip_25 : flat_ok n l ≡ false → changing (Err 25) l ≡ flat_flip d n z l
    unfolding flat_flip
    flip_25 e = rw e

    pub flip_9 : flat_ok n l ≡ true → (t : ℕ) → t ≡ nat_abs z → 9223372036854775808 ≤ t → changing (Err 9) l ≡ flat_flip d n z l
    unfolding flat_flip
    flip_9 e t g h = rw (e, le-leb 9223372036854775808 (nat_abs z) (subst (λ (k : ℕ). 9223372036854775808 ≤ k) g h))

    pub flip_10 : flat_ok n l ≡ true → (t : ℕ) → t ≡ nat_abs z → t < 9223372036854775808 → order_ok (take n l) ≡ false → changing (Err 10) l ≡ flat_flip d n z l
    unfolding flat_flip
    flip_10 e t g h f = rw (e, lt-leb 9223372036854775808 (nat_abs z) (subst (λ (k : ℕ). k < 9223372036854775808) g h), f)

    pub flip_on : flat_ok n l ≡ true → (t : ℕ) → t ≡ nat_abs z → t < 9223372036854775808 → order_ok (take n l) ≡ true
        → (o : Changing) → o ≡ flip_target d n t l → o ≡ flat_flip d n z l
    unfolding flat_flip
    flip_on e t g h f o q = rw (e, lt-leb 9223372036854775808 (nat_abs z) (subst (λ (k : ℕ). k < 9223372036854775808) g h), f) (q ∙ ap (λ (k : ℕ). flip_target d n k l) g)

  -- ---- pop

  pub pop_25 : flat_ok n l ≡ false → popping (Err 25) l ≡ flat_pop n l
  unfolding flat_pop
  pop_25 e = rw e

  pub pop_19 : flat_ok n l ≡ true → n ≡ 0 → popping (Err 19) l ≡ flat_pop n l
  unfolding flat_pop
  pop_19 e h = rw (e, eq-eqb n 0 h)

  pub pop_last : flat_ok n l ≡ true → (n ≡ 0 → ⊥) → (z : ℤ) (m : List ℤ) → z ≡ get_or l (n - 1) (pos 0) → m ≡ set l (n - 1) (pos 0)
      → popping (Ok (record { 0 = z }, n - 1)) m ≡ flat_pop n l
  unfolding flat_pop
  pop_last e h z m f g = rw (e, ne_eqb n 0 h, f, g)
