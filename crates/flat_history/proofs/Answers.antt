-- Which refusals the append and the spend of a parent's box numbers have: beside the laws of the operations, what two machines need to answer alike.
use mathlib.Core.Path.{◌≡◌, sym, ◌∙◌, ap}
use mathlib.Core.Logic.{◌⊎◌, inl, inr, ⊎_elim}
use mathlib.Core.List.{List, Memᴰ}
use Prim.Native.Nat.{ℕ, ◌<◌, ◌≤◌}
use native.Mathlib.Omega.{arith}
use lib.IntN.{ℤ, pos, negsuc, nat_abs}
use lib.ListN.{length}
use Rattle.index_types.specs.Limits.{flat_limit}
use Rattle.ledger.specs.Ledger.{Parent, Series, boxes, absℤ}
use Rattle.ledger.specs.Run.{Res, done, refused, Machine}
use Rattle.fork_model.proofs.Store.{seen_in, none_found}
use Rattle.fork_model.proofs.Search.{done≢refused}
use Rattle.fork_model.proofs.OperationLaws as Op
use Rattle.fork_model.proofs.Results.{map_res, result_of}
use Rattle.history.proofs.Sim as Sm
use Rattle.flat_history.specs.SameAsIndex.{full_codes}

-- no copy of the number is unspent, and the refusal says whether the number is there
abbrev pub NoCopy : ℕ → List ℤ → ℕ → Type 0
NoCopy t l k = (Memᴰ (pos t) l → ⊥) × (k ≡ none_found (seen_in t l))

module _ (M : Machine) (Good : M.Store → Type 0) (p : Parent) where
  pub record Answers : Type 0 where
    pub append_negative : (σ : M.Store) (k : ℕ) → Good σ → result_of (M.append_store σ (boxes p) (negsuc k)) ≡ refused 17
    -- a number that is not below 0: something is full, or more numbers stand than a flat list has places
    pub append_no : (σ : M.Store) (m k : ℕ) → Good σ → result_of (M.append_store σ (boxes p) (pos m)) ≡ refused k
        → Memᴰ k full_codes ⊎ (flat_limit < length (M.entries σ (boxes p)))
    pub spend_large : (σ : M.Store) (t : ℤ) → Good σ → Op.InOrder M σ p → 9223372036854775808 ≤ nat_abs t → result_of (M.spend_store σ p t) ≡ refused 9
    pub spend_no : (σ : M.Store) (t : ℤ) (k : ℕ) → Good σ → Op.InOrder M σ p → nat_abs t < 9223372036854775808 → result_of (M.spend_store σ p t) ≡ refused k
        → Memᴰ k full_codes ⊎ NoCopy (nat_abs t) (M.entries σ (boxes p)) k

pub map_refused : {A B : Type 0} (f : A → B) (X : Res A) (k : ℕ) → map_res f X ≡ refused k → X ≡ refused k
map_refused f (done a) k e = absurd (done≢refused e)
map_refused f (refused j) k e = let z : j ≡ k = cc in ap refused z

pub refused_is : {A : Type 0} {j k : ℕ} → ◌≡◌ {A = Res A} (refused j) (refused k) → j ≡ k
refused_is e = cc

pub in_16 : {k : ℕ} → k ≡ 16 → Memᴰ k full_codes
in_16 e = Memᴰ.head e

pub in_36 : {k : ℕ} → k ≡ 36 → Memᴰ k full_codes
in_36 e = Memᴰ.tail (Memᴰ.tail (Memᴰ.head e))

pub in_37 : {k : ℕ} → k ≡ 37 → Memᴰ k full_codes
in_37 e = Memᴰ.tail (Memᴰ.tail (Memᴰ.tail (Memᴰ.head e)))

-- of a machine that does what another does, but that its appends may be refused by 36
module _ (M N : Machine) (abs : N.Store → M.Store) (Inv : N.Store → Type 0) (Good : M.Store → Type 0) (U : Series → ℕ → Type 0) (S : Sm.Sims M N abs Inv Good U) (p : Parent)
    (A : Answers M Good p)
    (appends : (b : N.Store) (n : ℤ) → Inv b → Good (abs b) → (map_res abs (result_of (N.append_store b (boxes p) n)) ≡ result_of (M.append_store (abs b) (boxes p) n))
    ⊎ ((result_of (N.append_store b (boxes p) n) ≡ refused 36) × (n ≡ absℤ n))) where
  below : (k : ℕ) → negsuc k ≡ absℤ (negsuc k) → ⊥
  below k e = let z : ◌≡◌ {A = ℕ} 0 1 = cc in omega arith

  order : (b : N.Store) → Inv b → Op.InOrder N b p → Op.InOrder M (abs b) p
  order b I o = rw (← S.shows b I (boxes p)) o

  spends : (b : N.Store) (t : ℤ) → Inv b → Good (abs b) → Op.InOrder N b p → map_res abs (result_of (N.spend_store b p t)) ≡ result_of (M.spend_store (abs b) p t)
  spends b t I G o = (S.spend b p t I G (order b I o)).same

  pub lower_answers : Answers (Sm.lower M N) (Sm.Fine M N abs Inv Good) p
  lower_answers = record {
    append_negative = λ b k G.
        ⊎_elim (λ e. map_refused abs (result_of (N.append_store b (boxes p) (negsuc k))) 17 (e ∙ A.append_negative (abs b) k G.1))
        (λ e. absurd (below k e.1)) (appends b (negsuc k) G.0 G.1);
    append_no = λ b m k G e.
        ⊎_elim (λ same. ⊎_elim (λ t. inl t) (λ l. inr (rw (S.shows b G.0 (boxes p)) l))
        (A.append_no (abs b) m k G.1 (Sm.map_keeps_refused abs (result_of (N.append_store b (boxes p) (pos m))) k (result_of (M.append_store (abs b) (boxes p) (pos m))) same e)))
        (λ x. inl (in_36 (refused_is (sym e ∙ x.0)))) (appends b (pos m) G.0 G.1);
    spend_large = λ b t G o h. map_refused abs (result_of (N.spend_store b p t)) 9 (spends b t G.0 G.1 o ∙ A.spend_large (abs b) t G.1 (order b G.0 o) h);
    spend_no = λ b t k G o h e.
        rw (S.shows b G.0 (boxes p))
        (A.spend_no (abs b) t k G.1 (order b G.0 o) h
        (Sm.map_keeps_refused abs (result_of (N.spend_store b p t)) k (result_of (M.spend_store (abs b) p t)) (spends b t G.0 G.1 o) e));
  }
