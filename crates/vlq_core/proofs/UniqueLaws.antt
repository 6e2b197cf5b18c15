-- An accepted number has the bytes that a writer would give it (document 02, U5): two accepted numbers of equal value are equal in bytes.
use mathlib.Core.Path.{◌≡◌, refl, sym, ap, ap₂, ◌∙◌}
use mathlib.Core.Logic.{◌⊎◌, inl, inr, ⊎_elim, ◌≢◌}
use mathlib.Core.Bool.{Bool, true, false, cond, ◌&&◌}
use mathlib.Core.List.{List, [], ◌∷◌}
use Prim.Native.Nat.{ℕ, zero, suc, ◌+◌, ◌-◌, ◌*◌, ◌/◌, ◌%◌, ◌^◌, ◌<◌, ◌≤◌}
use native.Mathlib.Omega.{arith}
use lib.Dec.{ltb, eqb}
use lib.ListN.{length, drop, take, get_or}
use lib.Seq.{get_or-drop}
use borrow.Author.Tests.{lt-ltb, le-ltb, eq-eqb}
use Rattle.std.specs.Prelude.{Ok, Err}
use Rattle.vlq_core.specs.Answers.{Got}
use Rattle.vlq_core.specs.Groups.{groups, enc}
use Rattle.vlq_core.specs.Reading.{below, dec, narrow, read_any, padded, read_at}
use Rattle.vlq_core.proofs.Split.{split}
use Rattle.vlq_core.proofs.ReadLaws.{dec_next, read_is}
use Rattle.index_types.proofs.AnswerLaws.{pair_same}

-- bytes
abbrev pub Bytes : List ℕ → Type 0
Bytes [] = Unit {0}
Bytes (b ∷ bs) = (b < 256) × Bytes bs

pub bytes_drop : (n : ℕ) (l : List ℕ) → Bytes l → Bytes (drop n l)
bytes_drop zero l h = h
bytes_drop (suc n) [] h = tt
bytes_drop (suc n) (b ∷ l) h = bytes_drop n l h.1

zero_groups : (f : ℕ) → groups f 0 ≡ 0 ∷ []
unfolding groups
zero_groups zero = refl
zero_groups (suc f) = refl

value_is : (v w n m : ℕ) → ◌≡◌ {A = Got} (Ok (v, n)) (Ok (w, m)) → (v ≡ w) × (n ≡ m)
value_is v w n m = pair_same

clash : (r v n : ℕ) → ◌≡◌ {A = Got} (Err r) (Ok (v, n)) → ⊥
clash r v n e = let z : ◌≡◌ {A = ℕ} 0 1 = cc in omega arith

unique : (f : ℕ) (l : List ℕ) (at v n : ℕ) → Bytes l → dec f l at ≡ Ok (v, n) → (n ≡ at + 1) ⊎ (get_or l (n - at - 1) 0 ≢ 0) → take (n - at) l ≡ groups f v
unfolding dec groups
unique f [] at v n h e s = absurd (clash 1 v n e)
unique zero (b ∷ bs) at v n h e s = ⊎_elim small (λ (q : 2 ≤ b). absurd (clash 2 v n (rw (le-ltb b 2 q) at e))) (split b 2)
  where
    small : b < 2 → take (n - at) (b ∷ bs) ≡ v ∷ []
    small q =
        let x = value_is b v (at + 1) n (rw (lt-ltb b 2 q) at e) in
        let k : n - at ≡ 1 = omega (arith, x.1) in
        rw k (ap (λ (y : ℕ). y ∷ []) x.0)
unique (suc f) (b ∷ bs) at v n h e s = ⊎_elim small (λ (q : 128 ≤ b). big q (dec f bs (at + 1)) refl (rw (le-ltb b 128 q) at e) (unique f bs (at + 1))) (split b 128)
  where
    small : b < 128 → take (n - at) (b ∷ bs) ≡ groups (suc f) v
    small q =
        let x = value_is b v (at + 1) n (rw (lt-ltb b 128 q) at e) in
        let k : n - at ≡ 1 = omega (arith, x.1) in
        rw (k, lt-ltb v 128 (omega (arith, x.0))) (ap (λ (y : ℕ). y ∷ []) x.0)

    big : 128 ≤ b → (g : Got) → dec f bs (at + 1) ≡ g → below b g ≡ Ok (v, n)
        → ((w m : ℕ) → Bytes bs → dec f bs (at + 1) ≡ Ok (w, m) → (m ≡ at + 1 + 1) ⊎ (get_or bs (m - (at + 1) - 1) 0 ≢ 0) → take (m - (at + 1)) bs ≡ groups f w)
        → take (n - at) (b ∷ bs) ≡ groups (suc f) v
    big q (Err r) d x ih = absurd (clash r v n x)
    big q (Ok (w, m)) d x ih =
        let y = value_is (b % 128 + 128 * w) v m n x in
        let past : at + 1 < m = dec_next f bs (at + 1) w m d in
        let last : get_or bs (m - (at + 1) - 1) 0 ≢ 0 = ⊎_elim (λ (z : n ≡ at + 1). absurd (omega (arith, y.1)))
        (λ (z : get_or (b ∷ bs) (n - at - 1) 0 ≢ 0). λ o. z (let i : n - at - 1 ≡ suc (m - (at + 1) - 1) = omega (arith, y.1) in rw i o)) s in
        let rest = ih w m h.1 d (inr last) in
        let k : n - at ≡ suc (m - (at + 1)) = omega (arith, y.1) in
        rw (k, rest) (by_zero w rest last y.0)
      where
        by_zero : (w : ℕ) → take (m - (at + 1)) bs ≡ groups f w → get_or bs (m - (at + 1) - 1) 0 ≢ 0 → b % 128 + 128 * w ≡ v → b ∷ groups f w ≡ groups (suc f) v
        by_zero zero r o z = absurd (o (front (m - (at + 1)) bs (r ∙ zero_groups f)))
          where
            front : (j : ℕ) (l : List ℕ) → take j l ≡ 0 ∷ [] → get_or l (j - 1) 0 ≡ 0
            front zero l e = let z : ◌≡◌ {A = ℕ} 0 1 = ap length e in absurd (omega arith)
            front (suc zero) [] e = refl
            front (suc zero) (y ∷ l) e = ap (λ (t : List ℕ). get_or t 0 0) e
            front (suc (suc j)) [] e = refl
            front (suc (suc j)) (y ∷ []) e = let i : suc (suc j) - 1 ≡ suc j = omega arith in rw i refl
            front (suc (suc j)) (y ∷ z ∷ l) e = let t : suc (suc (length (take j l))) ≡ 1 = ap length e in absurd (omega arith)
        by_zero (suc w) r o z =
            let a : 128 ≤ v = omega arith in
            rw (le-ltb v 128 a) (ap₂ (λ (x : ℕ) (y : ℕ). x ∷ groups f y) (omega (arith, h.0)) (omega arith))

-- ---- an accepted number is written as a writer would write it
not_padded : (s : List ℕ) (at n : ℕ) → at < n → padded s at n ≡ false → (n ≡ at + 1) ⊎ (get_or (drop at s) (n - at - 1) 0 ≢ 0)
not_padded s at n h e = ⊎_elim (λ (q : n < at + 2). inl (omega arith)) (λ (q : at + 2 ≤ n). inr (λ o.
    let i : at + (n - at - 1) ≡ n - 1 = omega arith in
    let z : get_or s (n - 1) 0 ≡ 0 = ap (λ (j : ℕ). get_or s j 0) (sym i) ∙ sym (get_or-drop at s (n - at - 1) 0) ∙ o in
    let x : true ≡ false = sym (rw (lt-ltb (at + 1) n (omega arith), eq-eqb (get_or s (n - 1) 0) 0 z) refl) ∙ e in
    let y : ◌≡◌ {A = ℕ} 0 1 = cc in omega arith)) (split n (at + 2))

pub read_unique : (k : ℕ) (s : List ℕ) (at v n : ℕ) → Bytes s → read_at k s at ≡ Ok (v, n) → take (n - at) (drop at s) ≡ enc v
unfolding enc read_any
read_unique k s at v n h e = by_dec (dec 9 (drop at s) at) refl (sym (read_is k s at v n (sym e)).any) (read_is k s at v n (sym e)).form
  where
    by_dec : (g : Got) → dec 9 (drop at s) at ≡ g → narrow k g ≡ Ok (v, n) → padded s at n ≡ false → take (n - at) (drop at s) ≡ groups 9 v
    by_dec (Err r) d x p = absurd (clash r v n x)
    by_dec (Ok (w, m)) d x p = ⊎_elim (λ (q : w < 2 ^ k).
        let y = value_is w v m n (rw (lt-ltb w (2 ^ k) q) at x) in
        let d' : dec 9 (drop at s) at ≡ Ok (v, n) = d ∙ ap₂ (λ x y. Ok (x, y)) y.0 y.1 in
        unique 9 (drop at s) at v n (bytes_drop at s h) d' (not_padded s at n (dec_next 9 (drop at s) at v n d') p))
        (λ (q : 2 ^ k ≤ w). absurd (clash 2 v n (rw (le-ltb w (2 ^ k) q) at x))) (split w (2 ^ k))
