-- Two lists with equal numbers and equal spent copies: what is seen in the one is seen in the other, and an unspent copy that the one holds is in the other.
use Rattle.ledger.proofs.TestLaws.{ite_yes}
use mathlib.Core.Path.{◌≡◌, refl, sym, ◌∙◌, ap, subst}
use mathlib.Core.Logic.{⊎_elim}
use mathlib.Core.Bool.{true}
use mathlib.Core.List.Memᴰ
use mathlib.Core.List.{List, [], ◌∷◌, map, Memᴰ}
use Prim.Native.Nat.{ℕ, zero, suc, ◌+◌, ◌<◌}
use native.Mathlib.Decide.{ℕ_discrete}
use native.Mathlib.Omega.{arith}
use lib.IntN.{ℤ, pos, negsuc, nat_abs}
use Rattle.ledger.specs.Ledger.{absℤ, ite}
use Rattle.ledger.specs.Run.{negated_at, negs}
use Rattle.fork_model.proofs.EntryLaws.{mem_map}
use Rattle.fork_model.proofs.Store.{seen_in}

-- how many unspent copies of a number there are
abbrev pub positive_at : ℕ → ℤ → ℕ
positive_at n (pos m) = ite (ℕ_discrete m n) 1 0
positive_at n (negsuc k) = 0

abbrev pub positives : ℕ → List ℤ → ℕ
positives n [] = 0
positives n (e ∷ l) = positive_at n e + positives n l

both_at : (n : ℕ) (e : ℤ) → 0 < n → positive_at n (absℤ e) ≡ positive_at n e + negated_at n e
both_at n (pos m) h = omega arith
both_at n (negsuc k) h = omega arith

pub both : (n : ℕ) (l : List ℤ) → 0 < n → positives n (map absℤ l) ≡ positives n l + negs n l
both n [] h = omega arith
both n (e ∷ l) h = omega (arith, both n l h, both_at n e h)

here : (n m : ℕ) (w : Dec (m ≡ n)) → 0 < ite w 1 0 → m ≡ n
unfolding ite
here n m (yes e) h = e
here n m (no q) h = absurd (omega arith)

mem_by : (n : ℕ) (e : ℤ) (l : List ℤ) (k : ℕ) → positive_at n e ≡ k → 0 < k + positives n l → (0 < positives n l → Memᴰ (pos n) l) → Memᴰ (pos n) (e ∷ l)
mem_by n e l zero q h ih = Memᴰ.tail (ih (omega arith))
mem_by n (pos m) l (suc k) q h ih = Memᴰ.head (ap pos (sym (here n m (ℕ_discrete m n) (omega arith))))
mem_by n (negsuc j) l (suc k) q h ih = absurd (omega arith)

pub pos_mem : (n : ℕ) (l : List ℤ) → 0 < positives n l → Memᴰ (pos n) l
pos_mem n [] h = absurd (omega arith)
pos_mem n (e ∷ l) h = mem_by n e l (positive_at n e) refl h (λ t. pos_mem n l t)

pub mem_pos : (n : ℕ) (l : List ℤ) → Memᴰ (pos n) l → 0 < positives n l
mem_pos n [] h = absurd (Memᴰ.not-nil h)
mem_pos n (e ∷ l) h =
    ⊎_elim (λ q. omega (arith, ap (positive_at n) (sym q), ite_yes {A = ℕ} (ℕ_discrete n n) 1 0 refl)) (λ t. omega (arith, mem_pos n l t)) (Memᴰ.cases_cons h)

-- a 0 has no sign
zero_mem : (l : List ℤ) → Memᴰ (pos 0) (map absℤ l) → Memᴰ (pos 0) l
zero_mem [] h = absurd (Memᴰ.not-nil h)
zero_mem (pos m ∷ l) h = ⊎_elim (λ e. Memᴰ.head e) (λ t. Memᴰ.tail (zero_mem l t)) (Memᴰ.cases_cons h)
zero_mem (negsuc k ∷ l) h = ⊎_elim (λ e. absurd (let z : 0 ≡ suc k = ap nat_abs e in omega arith)) (λ t. Memᴰ.tail (zero_mem l t)) (Memᴰ.cases_cons h)

pub unspent_there : (t : ℕ) (l m : List ℤ) → map absℤ l ≡ map absℤ m → ((n : ℕ) → 0 < n → negs n l ≡ negs n m) → Memᴰ (pos t) l → Memᴰ (pos t) m
unspent_there zero l m e h t = zero_mem m (subst (Memᴰ (pos 0)) e (mem_map l (pos 0) t))
unspent_there (suc k) l m e h t =
    pos_mem (suc k) m
    (omega (arith, mem_pos (suc k) l t, both (suc k) l (omega arith), both (suc k) m (omega arith), h (suc k) (omega arith), ap (positives (suc k)) e))

-- what is seen depends on the numbers only
seen_abs : (t : ℕ) (l : List ℤ) → seen_in t (map absℤ l) ≡ seen_in t l
unfolding seen_in
seen_abs t [] = refl
seen_abs t (x ∷ l) = ap (ite (ℕ_discrete (nat_abs x) t) true) (seen_abs t l)

pub same_seen : (t : ℕ) (l m : List ℤ) → map absℤ l ≡ map absℤ m → seen_in t l ≡ seen_in t m
same_seen t l m e = sym (seen_abs t l) ∙ ap (seen_in t) e ∙ seen_abs t m
