-- Laws of writing: the groups of a coded number one after the other, as `emit` does; the test for room; a call that writes where there is room.
use mathlib.Core.Path.{◌≡◌, refl, sym, ap, ap₂, ◌∙◌}
use mathlib.Core.Bool.{Bool, true, false}
use mathlib.Core.List.{List}
use Prim.Native.Nat.{ℕ, ◌+◌, ◌-◌, ◌/◌, ◌%◌, ◌^◌, ◌<◌, ◌≤◌}
use native.Mathlib.Omega.{arith}
use native.Mathlib.Numerals.{add-one}
use lib.Dec.{leb}
use lib.ListN.{length, set}
use lib.Seq.{sets}
use borrow.Author.Tests.{le-leb, lt-leb, leb-true, leb-false}
use Rattle.stores.specs.Stores.{Put}
use Rattle.stores.proofs.StoreLaws.{sets_write}
use Rattle.stores.proofs.PutLaws.{put_as}
use Rattle.std.specs.Prelude.{Ok, Err}
use Rattle.vlq_core.specs.Groups.{enc}
use Rattle.vlq_core.specs.Writing.{written, put_bytes}
use Rattle.vlq_core.proofs.GroupLaws.{enc_small, enc_big}

module _ (out : List ℕ) (i c : ℕ) where
  pub write_step : 128 ≤ c → c < 2 ^ 64 → sets out i (enc c) ≡ sets (set out i (128 + c % 128)) (i + 1) (enc (c / 128))
  write_step h k = rw (enc_big c h k, add-one i)

  pub write_last : c < 128 → sets out i (enc c) ≡ set out i c
  write_last h = rw (enc_small c h)

pub length_step : (c : ℕ) → 128 ≤ c → c < 2 ^ 64 → length (enc c) ≡ length (enc (c / 128)) + 1
length_step c h k = ap length (enc_big c h k) ∙ sym (add-one _)

pub length_last : (c : ℕ) → c < 128 → length (enc c) ≡ 1
length_last c h = ap length (enc_small c h)

-- ---- the test for room, without a sum that could overflow
module _ (len at n : ℕ) where
  pub room_none : len < at → false ≡ leb (at + n) len
  room_none h = sym (lt-leb (at + n) len (omega arith))

  pub room_left : at ≤ len → leb n (len - at) ≡ leb (at + n) len
  room_left h = by_test (leb n (len - at)) refl
    where
      by_test : (t : Bool) → leb n (len - at) ≡ t → t ≡ leb (at + n) len
      by_test true e = let k = leb-true n (len - at) e in sym (le-leb (at + n) len (omega arith))
      by_test false e = let k = leb-false n (len - at) e in sym (lt-leb (at + n) len (omega arith))

-- ---- a call that writes s; s' is s as the callees say it

pub put_within : {s s' : List ℕ} → s' ≡ s → (l : List ℕ) (at r : ℕ) (l' : List ℕ) → Put s' l at r l' → at + length s' ≤ length l → written (Ok r) l' ≡ put_bytes s l at
unfolding put_bytes
put_within {s} q l at r l' p h =
    let p' = put_as q l at r l' p in
    let room : at + length s ≤ length l = rw q at h in
    rw (le-leb (at + length s) (length l) room) (ap₂ (λ (k : ℕ) (m : List ℕ). written (Ok k) m) p'.0 (p'.1 ∙ sets_write s l at room))

-- one law for each way out: n is its length, t the test for room

module _ {s s' : List ℕ} (q : s' ≡ s) (l : List ℕ) (at n : ℕ) (e : n ≡ length s') (t : Bool) (f : t ≡ leb (at + n) (length l)) where
  test_is : t ≡ leb (at + length s) (length l)
  test_is = f ∙ ap (λ (k : ℕ). leb (at + k) (length l)) (e ∙ ap length q)

  pub put_short : t ≡ false → written (Err 32) l ≡ put_bytes s l at
  unfolding put_bytes
  put_short h = rw (← test_is, h)

  pub put_room : t ≡ true → at + length s' ≤ length l
  put_room h = rw e at (leb-true (at + n) (length l) (sym f ∙ h))

  pub put_done : t ≡ true → (r : ℕ) (l' : List ℕ) → Put s' l at r l' → written (Ok r) l' ≡ put_bytes s l at
  put_done h r l' p = put_within q l at r l' p (put_room h)
