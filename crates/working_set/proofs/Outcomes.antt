-- How outcomes are put together: one read more, and one list of reads behind another.
use Prim.Native.Nat.{ℕ, suc, ◌+◌, ◌≤◌, ◌<◌}
use mathlib.Core.Path.{◌≡◌, refl, sym, ap, ◌∙◌}
use mathlib.Core.Logic.{inl, inr}
use mathlib.Core.Bool.{Bool, true, false, cond}
use mathlib.Core.List.{List, [], ◌∷◌, ◌++◌}
use native.Mathlib.Omega.{arith}
use lib.ListN.{length}
use Rattle.working_set.specs.Reads.{nothing, need, first_missing, missing_of, In}
use Rattle.working_set.specs.Laws.{Outcome, same, lack, CountLaw}

module _ (m : ℕ → Bool) where
  -- nothing read, nothing missing
  pub none : {A B : Type 0} → A → Outcome m [] [] A B
  unfolding first_missing
  none a = same refl refl a

  -- the first read is missing
  pub stuck : {A B : Type 0} (n : ℕ) (ps qs : List ℕ) → m n ≡ true → B → Outcome m (n ∷ ps) (n ∷ qs) A B
  unfolding first_missing
  stuck n ps qs e b = lack n (rw e) e (inl refl) b

  -- the first read is there
  pub past : {A B : Type 0} (n : ℕ) (ps qs : List ℕ) → m n ≡ false → Outcome m ps qs A B → Outcome m (n ∷ ps) (n ∷ qs) A B
  unfolding first_missing
  past n ps qs e (same f q a) = same (rw e f) (ap (λ (ns : List ℕ). n ∷ ns) q) a
  past n ps qs e (lack k f h i b) = lack k (rw e f) h (inr i) b

  -- what the outcome tells, changed
  pub told : {A B C D : Type 0} {ps qs : List ℕ} → (A → C) → (B → D) → Outcome m ps qs A B → Outcome m ps qs C D
  told f g (same e q a) = same e q (f a)
  told f g (lack n e h i b) = lack n e h i (g b)

  missing_behind : (ps cs : List ℕ) → first_missing m ps ≡ nothing → first_missing m (ps ++ cs) ≡ first_missing m cs
  unfolding first_missing
  missing_behind [] cs e = refl
  missing_behind (n ∷ ps) cs e = by_test (m n) e (missing_behind ps cs)
    where
      by_test : (t : Bool) → cond t (need n) (first_missing m ps) ≡ nothing → (first_missing m ps ≡ nothing → first_missing m (ps ++ cs) ≡ first_missing m cs)
          → cond t (need n) (first_missing m (ps ++ cs)) ≡ first_missing m cs
      by_test true e r = let z : ◌≡◌ {A = ℕ} 0 1 = cc in absurd (omega arith)
      by_test false e r = r e

  missing_first : (n : ℕ) (ps cs : List ℕ) → first_missing m ps ≡ need n → first_missing m (ps ++ cs) ≡ need n
  unfolding first_missing
  missing_first n [] cs e = let z : ◌≡◌ {A = ℕ} 0 1 = cc in absurd (omega arith)
  missing_first n (k ∷ ps) cs e = by_test (m k) e (missing_first n ps cs)
    where
      by_test : (t : Bool) → cond t (need k) (first_missing m ps) ≡ need n → (first_missing m ps ≡ need n → first_missing m (ps ++ cs) ≡ need n)
          → cond t (need k) (first_missing m (ps ++ cs)) ≡ need n
      by_test true e r = e
      by_test false e r = r e

  in_left : (n : ℕ) (ps cs : List ℕ) → In n ps → In n (ps ++ cs)
  in_left n [] cs h = absurd h
  in_left n (k ∷ ps) cs (inl e) = inl e
  in_left n (k ∷ ps) cs (inr h) = inr (in_left n ps cs h)

  in_right : (n : ℕ) (ps cs : List ℕ) → In n cs → In n (ps ++ cs)
  in_right n [] cs h = h
  in_right n (k ∷ ps) cs h = inr (in_right n ps cs h)

  -- reads behind reads
  pub then_read : {A B C D : Type 0} (ps qs cs ds : List ℕ) → Outcome m ps qs A B → (A → Outcome m cs ds C D) → (B → D) → Outcome m (ps ++ cs) (qs ++ ds) C D
  then_read {A} {B} {C} {D} ps qs cs ds (same e q a) f g = by_rest (f a)
    where
      by_rest : Outcome m cs ds C D → Outcome m (ps ++ cs) (qs ++ ds) C D
      by_rest (same k p c) = same (missing_behind ps cs e ∙ k) (cc) c
      by_rest (lack n k h i d) = lack n (missing_behind ps cs e ∙ k) h (in_right n qs ds i) d
  then_read ps qs cs ds (lack n e h i b) f g = lack n (missing_first n ps cs e) h (in_left n qs ds i) (g b)

-- ---- the measure
module _ (m l : ℕ → Bool) (less : (n : ℕ) → m n ≡ false → l n ≡ false) where
  abbrev one : Bool → ℕ
  one true = 1
  one false = 0

  count_cons : (t : Bool) (k : ℕ) → cond t (suc k) k ≡ one t + k
  count_cons true k = omega arith
  count_cons false k = omega arith

  one_less : (n : ℕ) → one (l n) ≤ one (m n)
  one_less n = by_test (m n) refl (l n) refl
    where
      by_test : (t : Bool) → m n ≡ t → (u : Bool) → l n ≡ u → one u ≤ one t
      by_test true e true d = omega arith
      by_test true e false d = omega arith
      by_test false e true d = let q = less n e in let z : ◌≡◌ {A = Bool} true false = sym d ∙ q in let w : ◌≡◌ {A = ℕ} 0 1 = cc in absurd (omega arith)
      by_test false e false d = omega arith

  pub count_less : (ns : List ℕ) → missing_of l ns ≤ missing_of m ns
  unfolding missing_of
  count_less [] = omega arith
  count_less (n ∷ ns) = rw (count_cons (l n) (missing_of l ns), count_cons (m n) (missing_of m ns)) (omega (arith, one_less n, count_less ns))

  pub count_falls : (ns : List ℕ) (n : ℕ) → In n ns → m n ≡ true → l n ≡ false → missing_of l ns < missing_of m ns
  unfolding missing_of
  count_falls [] n h a b = absurd h
  count_falls (k ∷ ns) n (inl e) a b =
      let a' : m k ≡ true = rw e a in
      let b' : l k ≡ false = rw e b in
      rw (a', b') (omega (arith, count_less ns))
  count_falls (k ∷ ns) n (inr h) a b =
      rw (count_cons (l k) (missing_of l ns), count_cons (m k) (missing_of m ns)) (omega (arith, one_less k, count_falls ns n h a b))

pub count_law : CountLaw
unfolding missing_of
count_law m [] = omega arith
count_law m (n ∷ ns) = by_test (m n) (count_law m ns)
  where
    by_test : (t : Bool) → missing_of m ns ≤ length ns → cond t (suc (missing_of m ns)) (missing_of m ns) ≤ suc (length ns)
    by_test true h = omega arith
    by_test false h = omega arith
