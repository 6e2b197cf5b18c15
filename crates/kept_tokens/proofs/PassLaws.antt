-- No token of a box is refused where there is room and the amounts are small: each token lets the bound of the amounts held grow by that of the box's amounts.
use Prim.Native.Nat.{ℕ, zero, suc, ◌+◌, ◌-◌, ◌*◌, ◌<◌, ◌≤◌}
use native.Mathlib.Omega.{arith}
use native.Mathlib.Nat.{le_refl}
use mathlib.Core.Path.{◌≡◌, refl, sym, subst, ◌∙◌}
use mathlib.Core.Bool.{Bool, true, false, cond}
use mathlib.Core.List.{List, [], ◌∷◌}
use lib.ListN.{length, get_or, set, length-set}
use lib.Dec.{ltb}
use lib.IntN.{ℤ, pos, negsuc, nat_abs, neg_ℤ, sub_ℕ, ◌+ℤ◌, ◌-ℤ◌}
use lib.Signed.{mag, le_z}
use borrow.Author.Tests.{ltb-true, ltb-false}
use Rattle.signed.specs.Checked.{checked}
use Rattle.signed.proofs.SignedLaws.{natAbs_mag, natAbs_neg, checked_is}
use Rattle.balance_tokens.specs.Tokens.{Held, Changed, held, refused_by, id_at, place_of, closed_up, with_amount, with_token, without_token, sum_at, difference_at, add_token, subtract_token, change_token, and_then, change_tokens, left_in}
use Rattle.std.specs.Prelude.{Ok, Err}
use Rattle.balance_tokens.specs.Answers.{Counted}
use Rattle.balance.specs.Parts.{Small, Passed, Kept}
use Rattle.balance_tokens.proofs.CloseLaws.{closed_length, closed_lo, closed_hi}

-- ---- sums and differences

sub_mag : (a b x : ℕ) → a < x → b ≤ x → mag (sub_ℕ a b) < x
sub_mag a b x h g = by_test (ltb a b) refl
  where
    by_test : (t : Bool) → ltb a b ≡ t → mag (cond t (negsuc (b - suc a)) (pos (a - b))) < x
    by_test true e = omega (arith, ltb-true a b e)
    by_test false e = omega arith

sum_mag : (y z : ℤ) (p q : ℕ) → mag y < p → nat_abs z ≤ q → mag (y +ℤ z) < p + q
sum_mag (pos a) (pos b) p q h g = omega arith
sum_mag (pos a) (negsuc b) p q h g = sub_mag a (suc b) (p + q) (omega arith) (omega arith)
sum_mag (negsuc a) (pos b) p q h g = sub_mag b (suc a) (p + q) (omega arith) (omega arith)
sum_mag (negsuc a) (negsuc b) p q h g = omega arith

difference_mag : (y z : ℤ) (p q : ℕ) → mag y < p → nat_abs z ≤ q → mag (y -ℤ z) < p + q
difference_mag y z p q h g = sum_mag y (neg_ℤ z) p q h (rw natAbs_neg g)

-- ---- an amount stored

set_mag : (l : List ℤ) (i k : ℕ) (v : ℤ) (b : ℕ) → mag v < b → ((k ≡ i → ⊥) → mag (get_or l k (pos 0)) < b) → mag (get_or (set l i v) k (pos 0)) < b
set_mag [] i k v b u h = omega arith
set_mag (x ∷ l) zero zero v b u h = u
set_mag (x ∷ l) zero (suc k) v b u h = h (λ (e : suc k ≡ 0). omega arith)
set_mag (x ∷ l) (suc i) zero v b u h = h (λ (e : 0 ≡ suc i). omega arith)
set_mag (x ∷ l) (suc i) (suc k) v b u h = set_mag l i k v b u (λ ne. h (λ (e : suc k ≡ suc i). ne (omega arith)))

-- ---- one token

-- what is held with n tokens still to come: amounts below b, and when adding room for n
record Ready (adding : Bool) (b n : ℕ) (h : Held) : Type 0 where
  few : h.count ≤ 128
  long : length h.amounts ≡ 128
  room : adding ≡ true → h.count + n ≤ 128
  below : (k : ℕ) → k < h.count → mag (get_or h.amounts k (pos 0)) < b

abbrev Fine : Bool → ℕ → ℕ → Changed → Type 0
Fine adding b n (held h) = Ready adding b n h
Fine adding b n (refused_by code) = ⊥

module _ (adding : Bool) (b c n : ℕ) (h : Held) (r : Ready adding b (suc n) h) (v : ℤ) (s : nat_abs v < c) (m : b + c ≤ 9223372036854775808) where
  as_before : Ready adding (b + c) n h
  as_before =
      record { few = r.few; long = r.long; room = λ e. omega (arith, r.room e); below = λ k q. omega (arith, r.below k q) }

  amount_set : (i : ℕ) (w : ℤ) → mag w < b + c → Ready adding (b + c) n (with_amount h i w)
  amount_set i w u =
      record { few = r.few; long = simp length-set r.long; room = λ e. omega (arith, r.room e); below = λ k q. set_mag h.amounts i k w (b + c) u (λ ne. omega (arith, r.below k q)) }

  token_added : h.count + suc n ≤ 128 → (key : List ℕ) → Ready adding (b + c) n (with_token h key v)
  token_added f key =
      record {
        few = omega arith;
        long = simp length-set r.long;
        room = λ e. omega arith;
        below = λ k q. set_mag h.amounts h.count k v (b + c) (omega (arith, natAbs_mag v c s)) (λ ne. by_place k q ne (ltb k h.count) refl);
      }
    where
      by_place : (k : ℕ) → k < h.count + 1 → (k ≡ h.count → ⊥) → (t : Bool) → ltb k h.count ≡ t → mag (get_or h.amounts k (pos 0)) < b + c
      by_place k q ne true e = omega (arith, r.below k (ltb-true _ _ e))
      by_place k q ne false e = absurd (ne (omega (arith, ltb-false k h.count e)))

  token_dropped : (i : ℕ) → i < h.count → Ready adding (b + c) n (without_token h i)
  token_dropped i u =
      let f = r.few in
      let l = r.long in
      record {
        few = omega arith;
        long = closed_length 1 i h.count (pos 0) h.amounts i (i + 1) (h.count - (i + 1)) (omega arith) (omega arith) (omega arith) (omega arith) (omega arith) ∙ l;
        room = λ e. omega (arith, r.room e);
        below = λ k q. by_place k q (ltb k i) refl;
      }
    where
      by_place : (k : ℕ) → k < h.count - 1 → (t : Bool) → ltb k i ≡ t → mag (get_or (closed_up 1 (pos 0) i h.count h.amounts) k (pos 0)) < b + c
      by_place k q true e =
          let f = r.few in
          let l = r.long in
          let g = ltb-true k i e in
          rw (closed_lo 1 i h.count (pos 0) h.amounts i (i + 1) (h.count - (i + 1)) (omega arith) (omega arith) (omega arith) (omega arith) (omega arith) k g) (omega (arith, r.below k (omega arith)))
      by_place k q false e =
          let f = r.few in
          let l = r.long in
          let g = ltb-false k i e in
          let o : i + (k - i) ≡ k = omega arith in
          let d = closed_hi 1 i h.count (pos 0) h.amounts i (i + 1) (h.count - (i + 1)) (omega arith) (omega arith) (omega arith) (omega arith) (omega arith) (k - i) (omega arith) in
          rw (rw o at d) (omega (arith, r.below (i + 1 + (k - i)) (omega arith)))

  fine_add : adding ≡ true → (key : List ℕ) → Fine adding (b + c) n (add_token h key v)
  unfolding add_token
  fine_add a key = let i = place_of key h.ids h.count in by_test i (ltb i h.count) (ltb h.count 128) refl refl
    where
      by_test : (i : ℕ) (s t : Bool) → ltb i h.count ≡ s → ltb h.count 128 ≡ t
          → Fine adding (b + c) n (cond s (sum_at h i (checked (get_or h.amounts i (pos 0) +ℤ v))) (cond t (held (with_token h key v)) (refused_by 24)))
      by_test i true t p q =
          let u = sum_mag (get_or h.amounts i (pos 0)) v b c (r.below i (ltb-true _ _ p)) (omega arith) in
          rw (checked_is (get_or h.amounts i (pos 0) +ℤ v) (omega arith)) (amount_set i (get_or h.amounts i (pos 0) +ℤ v) u)
      by_test i false true p q = token_added (r.room a) key
      by_test i false false p q = absurd (omega (arith, r.room a, ltb-false h.count 128 q))

  fine_subtract : (key : List ℕ) → Fine adding (b + c) n (subtract_token h key v)
  unfolding subtract_token
  fine_subtract key = let i = place_of key h.ids h.count in by_test i (ltb i h.count) refl
    where
      by_sign : (i : ℕ) → i < h.count → (w : ℤ) → mag w < b + c → (t : Bool) → Fine adding (b + c) n (held (cond t (without_token h i) (with_amount h i w)))
      by_sign i p w u true = token_dropped i p
      by_sign i p w u false = amount_set i w u

      by_test : (i : ℕ) (s : Bool) → ltb i h.count ≡ s → Fine adding (b + c) n (cond s (difference_at h i (checked (get_or h.amounts i (pos 0) -ℤ v))) (held h))
      by_test i true p =
          let w : ℤ = get_or h.amounts i (pos 0) -ℤ v in
          let g = ltb-true i h.count p in
          let u : mag w < b + c = difference_mag (get_or h.amounts i (pos 0)) v b c (r.below i g) (omega arith) in
          rw (checked_is w (omega arith)) (by_sign i g w u (le_z w (pos 0)))
      by_test i false p = as_before

  fine_change : (key : List ℕ) → Fine adding (b + c) n (change_token adding h key v)
  fine_change key = by_flag adding refl
    where
      by_flag : (t : Bool) → adding ≡ t → Fine adding (b + c) n (change_token t h key v)
      by_flag true e = fine_add e key
      by_flag false e = fine_subtract key

-- ---- the tokens of a box

module _ (adding : Bool) (ids : List ℕ) (amounts : List ℤ) where
  on_held : (b j n : ℕ) (x : Changed) → Fine adding b n x → ((g : Held) → Ready adding b n g → Passed (change_tokens adding ids amounts j n g)) → Passed (and_then x (change_tokens adding ids amounts j n))
  on_held b j n (held g) f more = more g f
  on_held b j n (refused_by code) f more = f

  pass_from : (n j b : ℕ) (h : Held) → Ready adding b n h → ((k : ℕ) → j ≤ k → k < j + n → nat_abs (get_or amounts k (pos 0)) < 36028797018963968)
      → b + n * 36028797018963968 ≤ 9223372036854775808 → Passed (change_tokens adding ids amounts j n h)
  unfolding change_tokens
  pass_from zero j b h r s m = tt
  pass_from (suc n) j b h r s m =
      on_held (b + 36028797018963968) (suc j) n (change_token adding h (id_at ids j) (get_or amounts j (pos 0)))
      (fine_change adding b 36028797018963968 n h r (get_or amounts j (pos 0)) (s j (le_refl j) (omega arith)) (omega arith) (id_at ids j))
      (λ g f. pass_from n (suc j) (b + 36028797018963968) g f (λ k p q. s k (omega arith) (omega arith)) (omega arith))

  pub passes : (n count : ℕ) (table : List ℕ) (sums : List ℤ) → length sums ≡ 128 → count ≤ 128 → n ≤ 128 → (adding ≡ true → count + n ≤ 128)
      → Small 36028797018963968 amounts n → Small 4611686018427387904 sums count
      → Passed (change_tokens adding ids amounts 0 n (record { ids = table; amounts = sums; count = count }))
  passes n count table sums l f g r s t =
      pass_from n 0 4611686018427387904 (record { ids = table; amounts = sums; count = count })
      (record { few = f; long = l; room = r; below = λ k q. natAbs_mag (get_or sums k (pos 0)) 4611686018427387904 (t k q) })
      (λ k p q. s k (omega arith)) (omega arith)

-- ---- where no token was refused, the arrays left are those of what is held

pub kept : (r : Counted) (ids : List ℕ) (amounts : List ℤ) (ids' : List ℕ) (amounts' : List ℤ) (x : Changed) → left_in r ids' amounts' ≡ x → Passed x → Kept r ids amounts ids' amounts' x
kept (Ok n) ids amounts ids' amounts' x e p = e
kept (Err code) ids amounts ids' amounts' x e p = absurd (subst Passed (sym e) p)
