-- The listing is in order, holds every asked list of at most five calls, and no other.
use mathlib.Core.Path.{◌≡◌, refl, sym, ◌∙◌, ap, subst}
use mathlib.Core.Logic.{◌⊎◌, inl, inr, ⊎_elim}
use mathlib.Core.Bool.{Bool, true, false, cond}
use mathlib.Core.List.Memᴰ
use mathlib.Core.List.{List, [], ◌∷◌, ◌++◌, map, Memᴰ}
use Prim.Native.Nat.{ℕ, zero, suc, ◌+◌, ◌≤◌, ◌<◌}
use native.Mathlib.Omega.{arith}
use native.Mathlib.Decide.{dec_le}
use lib.ListN.{length}
use Rattle.buffer_core.specs.Edition.{edition_of}
use Rattle.history.proofs.Editions.{edition_laws}
use Rattle.history_steps.specs.declared.Rank.{Rank}
use Rattle.history_steps.specs.declared.Rank.TheVariants.{Append1, Append2, Spend1, Spend2, Undo, Flush}
use Rattle.history_steps.specs.Ranks.{ranks, number}
use Rattle.history_steps.specs.Legal.{legal}
use Rattle.history_growth.specs.Listing.{each_before, lists_of, lists_up_to, only_legal}
use Rattle.short_history_laws.specs.Complete.{Lower, Before, Ascending, Complete}
use Rattle.short_history_laws.proofs.AskedLaws.{legal_asked, asked_legal}

abbrev Lists : Type 0
Lists = List (List Rank)

-- every list starts with a call above rank m and has n calls behind it
abbrev Block : ℕ → ℕ → Lists → Type 0
Block m n ls = (x : List Rank) → Memᴰ x ls → (i : Rank) × (js : List Rank) × (x ≡ i ∷ js) × (m < number i) × (length js ≡ n)

-- the ranks rise, from above m on
abbrev Rising : ℕ → List Rank → Type 0
Rising m [] = Unit {0}
Rising m (k ∷ js) = (m < number k) × Rising (number k) js

from_map : (k : Rank) (ls : Lists) (x : List Rank) → Memᴰ x (map (λ ks. k ∷ ks) ls) → (js : List Rank) × (x ≡ k ∷ js) × Memᴰ js ls
from_map k [] x h = absurd (Memᴰ.not-nil h)
from_map k (y ∷ ls) x h = ⊎_elim (λ e. (y, e, Memᴰ.head refl)) (λ u. let r = from_map k ls x u in (r.0, r.1, Memᴰ.tail r.2)) (Memᴰ.cases_cons h)

to_map : (k : Rank) (ls : Lists) (js : List Rank) → Memᴰ js ls → Memᴰ (k ∷ js) (map (λ ks. k ∷ ks) ls)
to_map k [] js h = absurd (Memᴰ.not-nil h)
to_map k (y ∷ ls) js h = ⊎_elim (λ e. Memᴰ.head (ap (λ z. k ∷ z) e)) (λ u. Memᴰ.tail (to_map k ls js u)) (Memᴰ.cases_cons h)

asc_append : (a b : Lists) → Ascending a → Ascending b → ((x y : List Rank) → Memᴰ x a → Memᴰ y b → Before x y) → Ascending (a ++ b)
unfolding Ascending
asc_append [] b A B h = B
asc_append (x ∷ a) b A B h = (
  (λ y t. ⊎_elim (λ u. A.0 y u) (λ u. h x y (Memᴰ.head refl) u) (Memᴰ.append_cases a t)),
  asc_append a b A.1 B (λ y z u v. h y z (Memᴰ.tail u) v),
)

before_cons : (k : Rank) (x y : List Rank) → Before x y → Before (k ∷ x) (k ∷ y)
unfolding Lower
before_cons k x y h = ⊎_elim (λ l. inl (omega arith)) (λ r. inr (ap suc r.0, inr (refl, r.1))) h

asc_map : (k : Rank) (ls : Lists) → Ascending ls → Ascending (map (λ ks. k ∷ ks) ls)
unfolding Ascending
asc_map k [] A = tt
asc_map k (x ∷ ls) A = ((λ y t. let r = from_map k ls y t in subst (Before (k ∷ x)) (sym r.1) (before_cons k x r.0 (A.0 r.0 r.2))), asc_map k ls A.1)

-- one block for each call, in the sequence of their ranks
module _ (n : ℕ) (ls : Lists) (A : Ascending ls) (long : (x : List Rank) → Memᴰ x ls → length x ≡ n) where
  lower_start : (i k : Rank) (x y : List Rank) → number i < number k → length x ≡ length y → Before (i ∷ x) (k ∷ y)
  unfolding Lower
  lower_start i k x y h e = inr (ap suc e, inl h)

  each : (m : ℕ) (js : List Rank) → Rising m js → Ascending (each_before js ls) × Block m n (each_before js ls)
  unfolding each_before Ascending
  each m [] r = (tt, λ x t. absurd (Memᴰ.not-nil t))
  each m (k ∷ js) r =
      let rest = each (number k) js r.1 in (
        asc_append (map (λ ks. k ∷ ks) ls) (each_before js ls) (asc_map k ls A) rest.0
            (λ x y u v. let p = from_map k ls x u in let q = rest.1 y v in
            subst (λ (z : List Rank). Before z y) (sym p.1) (subst (Before (k ∷ p.0)) (sym q.2) (lower_start k q.0 p.0 q.1 q.3 (long p.0 p.2 ∙ sym q.4)))),
        (λ x t. ⊎_elim (λ u. let p = from_map k ls x u in (k, p.0, p.1, r.0, long p.0 p.2)) (λ u. let q = rest.1 x u in (q.0, q.1, q.2, omega (arith, q.3, r.0), q.4))
            (Memᴰ.append_cases (map (λ ks. k ∷ ks) ls) t)),
      )

  in_each : (js : List Rank) (k : Rank) (x : List Rank) → Memᴰ k js → Memᴰ x ls → Memᴰ (k ∷ x) (each_before js ls)
  unfolding each_before
  in_each [] k x t h = absurd (Memᴰ.not-nil t)
  in_each (j ∷ js) k x t h =
      ⊎_elim (λ e. Memᴰ.append_left (each_before js ls) (subst (λ (i : Rank). Memᴰ (k ∷ x) (map (λ ks. i ∷ ks) ls)) e (to_map k ls x h)))
      (λ u. Memᴰ.append_right (map (λ ks. j ∷ ks) ls) (in_each js k x u h)) (Memᴰ.cases_cons t)

all_rising : Rising 0 ranks
all_rising = (omega arith, (omega arith, (omega arith, (omega arith, (omega arith, (omega arith, tt))))))

all_ranks : (k : Rank) → Memᴰ k ranks
all_ranks Append1 = Memᴰ.head refl
all_ranks Append2 = Memᴰ.tail (Memᴰ.head refl)
all_ranks Spend1 = Memᴰ.tail (Memᴰ.tail (Memᴰ.head refl))
all_ranks Spend2 = Memᴰ.tail (Memᴰ.tail (Memᴰ.tail (Memᴰ.head refl)))
all_ranks Undo = Memᴰ.tail (Memᴰ.tail (Memᴰ.tail (Memᴰ.tail (Memᴰ.head refl))))
all_ranks Flush = Memᴰ.tail (Memᴰ.tail (Memᴰ.tail (Memᴰ.tail (Memᴰ.tail (Memᴰ.head refl)))))

-- ---- all lists of a length
pub record All (n : ℕ) (ls : Lists) : Type 0 where
  pub ascending : Ascending ls
  pub long : (x : List Rank) → Memᴰ x ls → length x ≡ n
  pub every : (x : List Rank) → length x ≡ n → Memᴰ x ls

none_long : (x : List Rank) → length x ≡ 0 → Memᴰ x ([] ∷ [])
none_long [] e = Memᴰ.head refl
none_long (k ∷ x) e = absurd (omega arith)

one_more : (n : ℕ) (ls : Lists) → All n ls → (x : List Rank) → length x ≡ suc n → Memᴰ x (each_before ranks ls)
one_more n ls A [] e = absurd (omega arith)
one_more n ls A (k ∷ x) e = in_each n ls A.ascending A.long ranks k x (all_ranks k) (A.every x (omega arith))

grown : (n : ℕ) (ls : Lists) → All n ls → All (suc n) (each_before ranks ls)
grown n ls A = record {
  ascending = (each n ls A.ascending A.long 0 ranks all_rising).0;
  long = λ x t. let p = (each n ls A.ascending A.long 0 ranks all_rising).1 x t in ap length p.2 ∙ ap suc p.4;
  every = one_more n ls A;
}

all_of : (n : ℕ) → All n (lists_of n)
unfolding lists_of Ascending
all_of zero = record {
  ascending = ((λ y t. absurd (Memᴰ.not-nil t)), tt);
  long = λ x t. ⊎_elim (λ e. ap length e) (λ u. absurd (Memᴰ.not-nil u)) (Memᴰ.cases_cons t);
  every = none_long;
}
all_of (suc n) = grown n (lists_of n) (all_of n)

-- ---- shorter lists first
pub record UpTo (n : ℕ) (ls : Lists) : Type 0 where
  pub ascending : Ascending ls
  pub short : (x : List Rank) → Memᴰ x ls → length x ≤ n
  pub every : (x : List Rank) → length x ≤ n → Memᴰ x ls

further : (n : ℕ) (a b : Lists) → UpTo n a → All (suc n) b → UpTo (suc n) (a ++ b)
further n a b A B = record {
  ascending = asc_append a b A.ascending B.ascending (λ x y u v. inl (omega (arith, A.short x u, B.long y v)));
  short = λ x t. ⊎_elim (λ u. omega (arith, A.short x u)) (λ u. omega (arith, B.long x u)) (Memᴰ.append_cases a t);
  every = λ x h. by x h (dec_le (length x) n);
}
  where
    by : (x : List Rank) → length x ≤ suc n → Dec (length x ≤ n) → Memᴰ x (a ++ b)
    by x h (yes p) = Memᴰ.append_left b (A.every x p)
    by x h (no p) = Memᴰ.append_right a (B.every x (omega arith))

all_up_to : (n : ℕ) → UpTo n (lists_up_to n)
unfolding lists_up_to
all_up_to zero = let A = all_of 0 in record { ascending = A.ascending; short = λ x t. omega (arith, A.long x t); every = λ x h. A.every x (omega arith) }
all_up_to (suc n) = further n (lists_up_to n) (lists_of (suc n)) (all_up_to n) (all_of (suc n))

-- ---- the legal ones
legal_by : (w : Bool) (ks : List Rank) (ls : Lists) (x : List Rank) → legal ks ≡ w → Memᴰ x (cond w (ks ∷ only_legal [] Flush ls) (only_legal [] Flush ls))
    → (Memᴰ x (only_legal [] Flush ls) → Memᴰ x ls × (legal x ≡ true)) → Memᴰ x (ks ∷ ls) × (legal x ≡ true)
legal_by true ks ls x e t ih = ⊎_elim (λ q. (Memᴰ.head q, ap legal q ∙ e)) (λ u. let r = ih u in (Memᴰ.tail r.0, r.1)) (Memᴰ.cases_cons t)
legal_by false ks ls x e t ih = let r = ih t in (Memᴰ.tail r.0, r.1)

of_legal : (ls : Lists) (x : List Rank) → Memᴰ x (only_legal [] Flush ls) → Memᴰ x ls × (legal x ≡ true)
unfolding only_legal
of_legal [] x t = absurd (Memᴰ.not-nil t)
of_legal (ks ∷ ls) x t = legal_by (legal ks) ks ls x refl t (of_legal ls x)

keep_by : (w : Bool) (ks : List Rank) (ls : Lists) (x : List Rank) → legal ks ≡ w → legal x ≡ true → Memᴰ x (ks ∷ ls) → (Memᴰ x ls → Memᴰ x (only_legal [] Flush ls)) → Memᴰ x (cond w (ks ∷ only_legal [] Flush ls) (only_legal [] Flush ls))
keep_by true ks ls x e l t ih = ⊎_elim Memᴰ.head (λ u. Memᴰ.tail (ih u)) (Memᴰ.cases_cons t)
keep_by false ks ls x e l t ih =
    ⊎_elim (λ q. absurd (let z : true ≡ false = sym l ∙ ap legal q ∙ e in let y : ◌≡◌ {A = ℕ} 0 1 = cc in omega arith)) ih (Memᴰ.cases_cons t)

to_legal : (ls : Lists) (x : List Rank) → legal x ≡ true → Memᴰ x ls → Memᴰ x (only_legal [] Flush ls)
unfolding only_legal
to_legal [] x l t = t
to_legal (ks ∷ ls) x l t = keep_by (legal ks) ks ls x refl l t (to_legal ls x l)

asc_by : (w : Bool) (ks : List Rank) (ls : Lists) → ((x : List Rank) → Memᴰ x ls → Before ks x) → Ascending (only_legal [] Flush ls) → Ascending (cond w (ks ∷ only_legal [] Flush ls) (only_legal [] Flush ls))
unfolding Ascending
asc_by true ks ls h A = ((λ x t. h x (of_legal ls x t).0), A)
asc_by false ks ls h A = A

asc_legal : (ls : Lists) → Ascending ls → Ascending (only_legal [] Flush ls)
unfolding only_legal Ascending
asc_legal [] A = tt
asc_legal (ks ∷ ls) A = asc_by (legal ks) ks ls A.0 (asc_legal ls A.1)

pub complete : Complete
complete = record {
  ascending = asc_legal (lists_up_to 5) (all_up_to 5).ascending;
  given = λ v ids long B s ks h w. to_legal (lists_up_to 5) ks (asked_legal (edition_of v) ids (edition_laws v ids long) B s ks (omega arith) w) ((all_up_to 5).every ks h);
  others = λ v ids long B s ks t.
      let r = of_legal (lists_up_to 5) ks t in
      let h = (all_up_to 5).short ks r.0 in
      (h, legal_asked (edition_of v) ids (edition_laws v ids long) B s ks (omega arith) r.1);
}
