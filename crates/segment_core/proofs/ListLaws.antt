-- Laws of reading a list: its length, tested as the code does, and its numbers, one by one, into a buffer.
use Prim.Native.Nat.{ℕ, zero, suc, ◌+◌, ◌-◌, ◌≤◌, ◌<◌}
use mathlib.Core.Path.{◌≡◌, refl, sym, ap, subst, ◌∙◌}
use mathlib.Core.Bool.{Bool, true, false, cond}
use mathlib.Core.List.{List, ◌++◌}
use native.Mathlib.Omega.{arith}
use native.Mathlib.Numerals.{add-one}
use lib.Dec.{ltb}
use lib.IntN.{ℤ, pos, negsuc, nat_abs}
use lib.ListN.{length, drop, set, replicate, length-replicate}
use lib.Seq.{sets, length-sets}
use borrow.Author.Tests.{lt-ltb, le-ltb, ltb-false}
use Rattle.stores.proofs.PutLaws.{sets_front}
use Rattle.signed.specs.Sign.{is_negative}
use Rattle.std.specs.Prelude.{Ok, Err}
use Rattle.vlq_core.specs.Answers.{Got}
use Rattle.vlq_core.specs.Zigzag.{zag}
use Rattle.vlq_core.specs.Reading.{read_at, signed_of, long_of, int_of}
use Rattle.vlq_core.proofs.ReadLaws.{read_next, long_number, long_refused, int_number, int_refused}
use Rattle.segment_core.specs.Answers.{Part}
use Rattle.segment_core.specs.Reading.{length_of, length_at, Nums, nums, bad, cons_nums, numbers_at, numbers_from, list_at}
use Rattle.segment_core.specs.Loading.{padded}
use Rattle.segment_core.specs.Internal.{ReadInto}
use Rattle.index_types.proofs.AnswerLaws.{pair_same}

-- ---- a length: z was read, x is what a local holds of it, k its absolute value

pub not_negative : (y : ℤ) (k : ℕ) → is_negative y ≡ false → k ≡ nat_abs y → y ≡ pos k
not_negative (pos j) k h e = ap pos (sym e)
not_negative (negsuc j) k h e = let x : ◌≡◌ {A = ℕ} 0 1 = cc in absurd (omega arith)

module _ (s : List ℕ) (at : ℕ) (z : ℤ) (n : ℕ) (e : int_of (read_at 32 s at) ≡ Ok (z, n)) (x : ℤ) (q : x ≡ z) where
  pub length_next : n ≤ length s
  length_next = by_answer (read_at 32 s at) refl e
    where
      by_answer : (g : Got) → read_at 32 s at ≡ g → int_of g ≡ Ok (z, n) → n ≤ length s
      by_answer (Ok (v, m)) f d = let p : m ≡ n = (pair_same d).1 in omega (arith, (read_next 32 s at v m (sym f)).1)
      by_answer (Err r) f d = let p : ◌≡◌ {A = ℕ} 0 1 = cc in absurd (omega arith)

  length_is : length_of s x n ≡ length_at s at
  unfolding length_at
  length_is = ap (λ (y : ℤ). length_of s y n) q ∙ sym (int_number (length_of s) Err (read_at 32 s at) z n e)

  pub length_3 : is_negative x ≡ true → Err 3 ≡ length_at s at
  length_3 h = by_sign x h ∙ length_is
    where
      by_sign : (y : ℤ) → is_negative y ≡ true → Err 3 ≡ length_of s y n
      by_sign (pos j) g = let p : ◌≡◌ {A = ℕ} 0 1 = cc in absurd (omega arith)
      by_sign (negsuc j) g = refl

  module _ (h : is_negative x ≡ false) (k : ℕ) (a : k ≡ nat_abs x) where
    length_pos : length_of s (pos k) n ≡ length_at s at
    length_pos = ap (λ (y : ℤ). length_of s y n) (sym (not_negative x k h a)) ∙ length_is

    pub length_4 : 512 < k → Err 4 ≡ length_at s at
    length_4 b = rw (lt-ltb 512 k b) at length_pos

    pub length_5 : k ≤ 512 → length s - n < k → Err 5 ≡ length_at s at
    length_5 b d = rw (le-ltb 512 k b, lt-ltb (length s - n) k d) at length_pos

    pub length_ok : k ≤ 512 → k ≤ length s - n → Ok (k, n) ≡ length_at s at
    length_ok b d = rw (le-ltb 512 k b, le-ltb (length s - n) k d) at length_pos

pub length_bad : (s : List ℕ) (at r : ℕ) → int_of (read_at 32 s at) ≡ Err r → Err r ≡ length_at s at
unfolding length_at
length_bad s at r e = sym (int_refused (length_of s) Err (read_at 32 s at) r e)

-- ---- numbers, one by one: K in all, those that are left go from place j of the buffer on

abbrev pub Fills : ℕ → Nums → ℕ → List ℤ → Part → List ℤ → Type 0
Fills K (nums zs n) j b₀ r b = (r ≡ Ok (K, n)) × (b ≡ sets b₀ j zs)
Fills K (bad e) j b₀ r b = r ≡ Err e

fills_cons : (K : ℕ) (ns : Nums) (z : ℤ) (i : ℕ) (buf : List ℤ) (r : Part) (b : List ℤ) → Fills K ns (i + 1) (set buf i z) r b → Fills K (cons_nums z ns) i buf r b
fills_cons K (nums zs n) z i buf r b p = (p.0, p.1 ∙ ap (λ (j : ℕ). sets (set buf i z) j zs) (add-one i))
fills_cons K (bad e) z i buf r b p = p

module _ (K : ℕ) (s : List ℕ) (i at : ℕ) where
  pub fills_start : (buf : List ℤ) (r : Part) (b : List ℤ) → Fills K (numbers_at (K - 0) s at) 0 buf r b → Fills K (numbers_at K s at) 0 buf r b
  fills_start buf r b p = let e : K - 0 ≡ K = omega arith in rw e at p

  module _ (h : i < K) where
    left : K - i ≡ suc (K - (i + 1))
    left = omega arith

    -- x is what a local holds of the number z that was read
    pub fills_number : (z x : ℤ) (n : ℕ) → long_of (read_at 64 s at) ≡ Ok (z, n) → x ≡ z → (buf : List ℤ) (r : Part) (b : List ℤ)
        → Fills K (numbers_at (K - (i + 1)) s n) (i + 1) (set buf i x) r b → Fills K (numbers_at (K - i) s at) i buf r b
    unfolding numbers_at
    fills_number z x n e q buf r b p =
        rw (left, long_number (λ (z : ℤ) (n : ℕ). cons_nums z (numbers_at (K - (i + 1)) s n)) bad (read_at 64 s at) z n e) (fills_cons K (numbers_at (K - (i + 1)) s n) z i buf r b (rw q at p))

    pub fills_bad : (x : ℕ) → long_of (read_at 64 s at) ≡ Err x → (buf b : List ℤ) → Fills K (numbers_at (K - i) s at) i buf (Err x) b
    unfolding numbers_at
    fills_bad x e buf b =
        rw (left, long_refused (λ (z : ℤ) (n : ℕ). cons_nums z (numbers_at (K - (i + 1)) s n)) bad (read_at 64 s at) x e) refl

  pub fills_end : K ≤ i → (buf : List ℤ) → Fills K (numbers_at (K - i) s at) i buf (Ok (K, at)) buf
  unfolding numbers_at
  fills_end h buf = let z : K - i ≡ 0 = omega arith in rw z (refl, refl)

-- ---- k numbers are read, none or all

abbrev pub Counted : ℕ → Nums → Type 0
Counted k (nums zs n) = length zs ≡ k
Counted k (bad e) = Unit

pub counted : (k : ℕ) (s : List ℕ) (at : ℕ) → Counted k (numbers_at k s at)
unfolding numbers_at
counted zero s at = refl
counted (suc k) s at = by_answer (read_at 64 s at) (λ n. counted k s n)
  where
    more : (z : ℤ) (ns : Nums) → Counted k ns → Counted (suc k) (cons_nums z ns)
    more z (nums zs m) p = ap suc p
    more z (bad e) p = tt

    by_answer : (g : Got) → ((n : ℕ) → Counted k (numbers_at k s n)) → Counted (suc k) (signed_of (λ z n. cons_nums z (numbers_at k s n)) bad g)
    by_answer (Ok (v, n)) h = more _ (numbers_at k s n) (h n)
    by_answer (Err r) h = tt

pub fills_whole : (k : ℕ) (s : List ℕ) (at : ℕ) (b₀ : List ℤ) (r : Part) (b : List ℤ) → Fills k (numbers_at k s at) 0 b₀ r b → ReadInto (numbers_at k s at) b₀ r b
fills_whole k s at b₀ r b p = by_answer (numbers_at k s at) (counted k s at) p
  where
    by_answer : (ns : Nums) → Counted k ns → Fills k ns 0 b₀ r b → ReadInto ns b₀ r b
    by_answer (nums zs n) c p = (p.0 ∙ ap (λ (j : ℕ). Ok (j, n)) (sym c), p.1)
    by_answer (bad e) c p = p

-- ---- a list: a length and its numbers; g is what reading the length answered

module _ (s : List ℕ) (at : ℕ) (g : Got) (e : g ≡ length_at s at) where
  pub list_numbers : (k n : ℕ) → g ≡ Ok (k, n) → (b₀ : List ℤ) (r : Part) (b : List ℤ) → ReadInto (numbers_at k s n) b₀ r b → ReadInto (list_at s at) b₀ r b
  unfolding list_at
  list_numbers k n f b₀ r b p = rw (← e, f) p

  pub list_bad : (x : ℕ) → g ≡ Err x → (b₀ b : List ℤ) → ReadInto (list_at s at) b₀ (Err x) b
  unfolding list_at
  list_bad x f b₀ b = rw (← e, f) refl

-- a length that was accepted is within 512, and within the bytes left
pub length_most : (s : List ℕ) (at k n : ℕ) → length_at s at ≡ Ok (k, n) → (k ≤ 512) × (k ≤ length s - n)
unfolding length_at
length_most s at k n e = by_answer (read_at 32 s at) e
  where
    by_tests : (p q : Bool) (j m : ℕ) → ltb 512 j ≡ p → ltb (length s - m) j ≡ q → cond {A = Got} p (Err 4) (cond q (Err 5) (Ok (j, m))) ≡ Ok (k, n) → (k ≤ 512) × (k ≤ length s - n)
    by_tests true q j m f g h = let x : ◌≡◌ {A = ℕ} 0 1 = cc in absurd (omega arith)
    by_tests false true j m f g h = let x : ◌≡◌ {A = ℕ} 0 1 = cc in absurd (omega arith)
    by_tests false false j m f g h =
        let a : j ≡ k = (pair_same h).0 in let b : m ≡ n = (pair_same h).1 in
        let c = ltb-false 512 j f in let d = ltb-false (length s - m) j g in (omega arith, rw b at (rw a at d))

    by_sign : (z : ℤ) (m : ℕ) → length_of s z m ≡ Ok (k, n) → (k ≤ 512) × (k ≤ length s - n)
    by_sign (pos j) m h = by_tests (ltb 512 j) (ltb (length s - m) j) j m refl refl h
    by_sign (negsuc j) m h = let x : ◌≡◌ {A = ℕ} 0 1 = cc in absurd (omega arith)

    by_answer : (g : Got) → signed_of (length_of s) Err g ≡ Ok (k, n) → (k ≤ 512) × (k ≤ length s - n)
    by_answer (Ok (v, m)) h = by_sign (zag v) m h
    by_answer (Err r) h = let x : ◌≡◌ {A = ℕ} 0 1 = cc in absurd (omega arith)

-- a list that was accepted is within 512
pub list_most : (s : List ℕ) (at : ℕ) (zs : List ℤ) (n : ℕ) → list_at s at ≡ nums zs n → length zs ≤ 512
unfolding list_at
list_most s at zs n e = by_answer (length_at s at) refl e
  where
    by_answer : (g : Got) → length_at s at ≡ g → numbers_from s g ≡ nums zs n → length zs ≤ 512
    by_answer (Ok (k, m)) f h = let c = subst (Counted k) h (counted k s m) in omega (arith, (length_most s at k m f).0)
    by_answer (Err r) f h = let x : ◌≡◌ {A = ℕ} 0 1 = cc in absurd (omega arith)

-- ---- what an answer says of the list that was read into a buffer of 512 zeros

pub record Found (s : List ℕ) (at k n : ℕ) (b : List ℤ) : Type 0 where
  pub list : List ℤ
  pub is : list_at s at ≡ nums list n
  pub size : length list ≡ k
  pub pads : b ≡ padded list
  pub room : length b ≡ 512

pub drop_replicate : {A : Type 0} (m n : ℕ) (a : A) → drop n (replicate m a) ≡ replicate (m - n) a
drop_replicate m zero a = let e : m ≡ m - 0 = omega arith in ap (λ (k : ℕ). replicate k a) e
drop_replicate zero (suc n) a = let e : 0 ≡ 0 - suc n = omega arith in ap (λ (k : ℕ). replicate k a) e
drop_replicate (suc m) (suc n) a = let e : m - n ≡ suc m - suc n = omega arith in drop_replicate m n a ∙ ap (λ (k : ℕ). replicate k a) e

module _ (s : List ℕ) (at : ℕ) (r : Part) (b : List ℤ) (p : ReadInto (list_at s at) (replicate 512 (pos 0)) r b) where
  pub listed : (k n : ℕ) → r ≡ Ok (k, n) → Found s at k n b
  listed k n e = by_answer (list_at s at) refl p
    where
      by_answer : (ns : Nums) → list_at s at ≡ ns → ReadInto ns (replicate 512 (pos 0)) r b → Found s at k n b
      by_answer (nums zs m) f g =
          let y = pair_same (sym g.0 ∙ e) in
          let a : length zs ≡ k = y.0 in
          let c : m ≡ n = y.1 in
          let h : length zs ≤ 512 = list_most s at zs m f in
          record {
            list = zs;
            is = f ∙ ap (nums zs) c;
            size = a;
            pads = g.1 ∙ sets_front zs (replicate 512 (pos 0)) (rw length-replicate h) ∙ ap (λ (l : List ℤ). zs ++ l) (drop_replicate 512 (length zs) (pos 0));
            room = ap length g.1 ∙ length-sets (replicate 512 (pos 0)) 0 zs ∙ length-replicate 512 (pos 0);
          }
      by_answer (bad x) f g = let y : ◌≡◌ {A = ℕ} 0 1 = cc in absurd (omega arith)

  pub refused : (x : ℕ) → r ≡ Err x → list_at s at ≡ bad x
  refused x e = by_answer (list_at s at) refl p
    where
      by_answer : (ns : Nums) → list_at s at ≡ ns → ReadInto ns (replicate 512 (pos 0)) r b → ns ≡ bad x
      by_answer (nums zs m) f g = let y : ◌≡◌ {A = ℕ} 0 1 = cc in absurd (omega arith)
      by_answer (bad y) f g = let z : y ≡ x = cc in ap bad z
