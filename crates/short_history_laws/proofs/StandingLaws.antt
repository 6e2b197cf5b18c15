-- The standing calls as the ledger has them: how many numbers and spends of each kind they give, and what the tests of the listing say of them.
use mathlib.Core.Path.{◌≡◌, refl, sym, ◌∙◌, ap}
use mathlib.Core.Logic.{◌⊎◌, inl, inr, ⊎_elim}
use mathlib.Core.Bool.{true, false, ◌&&◌}
use mathlib.Core.List.Memᴰ
use mathlib.Core.List.{List, [], ◌∷◌, ◌++◌, map, Memᴰ}
use Prim.Native.Nat.{ℕ, ◌+◌, ◌≤◌, ◌<◌}
use native.Mathlib.Decide.{ℕ_discrete}
use native.Mathlib.Omega.{arith}
use lib.Dec.{ltb}
use lib.IntN.{ℤ, pos, nat_abs}
use borrow.Author.Tests.{ltb-true, lt-ltb, eqb-true, eq-eqb}
use Rattle.records.proofs.CheckLaws.{and_left, and_right, and_true}
use Rattle.ledger.specs.Ledger.{boxes, absℤ, ite, series_dec, Call, append, spend, ledger_numbers, ledger_spent, BoxRule}
use Rattle.ledger.specs.Run.{Phase, clean, calls, undos, MayCall, MayUndo, negs}
use Rattle.flat_history.proofs.CountLaws.{positives, both, pos_mem, mem_pos}
use Rattle.history_steps.specs.declared.Rank.{Rank}
use Rattle.history_steps.specs.declared.Rank.TheVariants.{Append1, Append2, Spend1, Spend2, Undo, Flush}
use Rattle.history_steps.specs.Legal.{count, none, lets_call, lets_undo}

-- ---- the phase after a call

abbrev pub phase_after : Rank → Phase
phase_after Append1 = calls
phase_after Append2 = calls
phase_after Spend1 = calls
phase_after Spend2 = calls
phase_after Undo = undos
phase_after Flush = clean

never : {A : Type 0} → false ≡ true → A
never e = let z : ◌≡◌ {A = ℕ} 0 1 = cc in absurd (omega arith)

pub call_fact : (k : Rank) → lets_call k ≡ true → MayCall (phase_after k)
call_fact Append1 e = tt
call_fact Append2 e = tt
call_fact Spend1 e = tt
call_fact Spend2 e = tt
call_fact Undo e = never e
call_fact Flush e = tt

pub call_test : (k : Rank) → MayCall (phase_after k) → lets_call k ≡ true
call_test Append1 m = refl
call_test Append2 m = refl
call_test Spend1 m = refl
call_test Spend2 m = refl
call_test Undo m = absurd m
call_test Flush m = refl

pub undo_fact : (k : Rank) → lets_undo k ≡ true → MayUndo (phase_after k)
undo_fact Append1 e = never e
undo_fact Append2 e = never e
undo_fact Spend1 e = never e
undo_fact Spend2 e = never e
undo_fact Undo e = tt
undo_fact Flush e = tt

pub undo_test : (k : Rank) → MayUndo (phase_after k) → lets_undo k ≡ true
undo_test Append1 m = absurd m
undo_test Append2 m = absurd m
undo_test Spend1 m = absurd m
undo_test Spend2 m = absurd m
undo_test Undo m = refl
undo_test Flush m = refl

-- ---- the calls that stand

-- only appends and spends stand
abbrev pub Stand : List Rank → Type 0
Stand [] = Unit {0}
Stand (Append1 ∷ js) = Stand js
Stand (Append2 ∷ js) = Stand js
Stand (Spend1 ∷ js) = Stand js
Stand (Spend2 ∷ js) = Stand js
Stand (Undo ∷ js) = ⊥
Stand (Flush ∷ js) = ⊥

abbrev pub calls_of : List Rank → List Call
calls_of [] = []
calls_of (Append1 ∷ js) = append (boxes 0) (pos 1) ∷ calls_of js
calls_of (Append2 ∷ js) = append (boxes 0) (pos 2) ∷ calls_of js
calls_of (Spend1 ∷ js) = spend 0 (pos 1) ∷ calls_of js
calls_of (Spend2 ∷ js) = spend 0 (pos 2) ∷ calls_of js
calls_of (Undo ∷ js) = calls_of js
calls_of (Flush ∷ js) = calls_of js

abbrev pub numbers_of : List Rank → List ℤ
numbers_of js = ledger_numbers (calls_of js) (boxes 0)

positives_append : (n : ℕ) (a b : List ℤ) → positives n (a ++ b) ≡ positives n a + positives n b
positives_append n [] b = omega arith
positives_append n (x ∷ a) b = omega (arith, positives_append n a b)

-- what the ledger counts of the standing calls
pub record Counted (js : List Rank) : Type 0 where
  pub ones : positives 1 (numbers_of js) ≡ count Append1 js
  pub twos : positives 2 (numbers_of js) ≡ count Append2 js
  pub spent_ones : ledger_spent (calls_of js) 0 1 ≡ count Spend1 js
  pub spent_twos : ledger_spent (calls_of js) 0 2 ≡ count Spend2 js
  pub either : (m : ℤ) → Memᴰ m (numbers_of js) → (m ≡ pos 1) ⊎ (m ≡ pos 2)

appended : (z : ℤ) (l : List ℤ) → (z ≡ pos 1) ⊎ (z ≡ pos 2) → ((m : ℤ) → Memᴰ m l → (m ≡ pos 1) ⊎ (m ≡ pos 2)) → (m : ℤ) → Memᴰ m (l ++ (z ∷ [])) → (m ≡ pos 1) ⊎ (m ≡ pos 2)
appended z l e h m t = ⊎_elim (λ u. h m u) (λ u. let q = Memᴰ.eq_of_singleton u in ⊎_elim (λ x. inl (q ∙ x)) (λ x. inr (q ∙ x)) e) (Memᴰ.append_cases l t)

pub counted : (js : List Rank) → Counted js
unfolding count ite series_dec ℕ_discrete
counted [] = record { ones = refl; twos = refl; spent_ones = refl; spent_twos = refl; either = λ m t. absurd (Memᴰ.not-nil t) }
counted (Append1 ∷ js) = let c = counted js in record {
  ones = omega (arith, c.ones, positives_append 1 (numbers_of js) (pos 1 ∷ []));
  twos = omega (arith, c.twos, positives_append 2 (numbers_of js) (pos 1 ∷ []));
  spent_ones = c.spent_ones;
  spent_twos = c.spent_twos;
  either = appended (pos 1) (numbers_of js) (inl refl) c.either;
}
counted (Append2 ∷ js) = let c = counted js in record {
  ones = omega (arith, c.ones, positives_append 1 (numbers_of js) (pos 2 ∷ []));
  twos = omega (arith, c.twos, positives_append 2 (numbers_of js) (pos 2 ∷ []));
  spent_ones = c.spent_ones;
  spent_twos = c.spent_twos;
  either = appended (pos 2) (numbers_of js) (inr refl) c.either;
}
counted (Spend1 ∷ js) = let c = counted js in record { ones = c.ones; twos = c.twos; spent_ones = omega (arith, c.spent_ones); spent_twos = c.spent_twos; either = c.either }
counted (Spend2 ∷ js) = let c = counted js in record { ones = c.ones; twos = c.twos; spent_ones = c.spent_ones; spent_twos = omega (arith, c.spent_twos); either = c.either }
counted (Undo ∷ js) = let c = counted js in record { ones = c.ones; twos = c.twos; spent_ones = c.spent_ones; spent_twos = c.spent_twos; either = c.either }
counted (Flush ∷ js) = let c = counted js in record { ones = c.ones; twos = c.twos; spent_ones = c.spent_ones; spent_twos = c.spent_twos; either = c.either }

-- ---- the rule of an append

-- no 2 stands: every number is at most 1
at_most_1 : (js : List Rank) → count Append2 js ≡ 0 → (m : ℤ) → Memᴰ m (numbers_of js) → nat_abs m ≤ 1
at_most_1 js e m t =
    let c = counted js in
    ⊎_elim (λ q. omega (arith, ap nat_abs q)) (λ q. absurd (omega (arith, e, c.twos, mem_pos 2 (numbers_of js) (rw (← q) t)))) (c.either m t)

at_most_2 : (js : List Rank) (m : ℤ) → Memᴰ m (numbers_of js) → nat_abs m ≤ 2
at_most_2 js m t = ⊎_elim (λ q. omega (arith, ap nat_abs q)) (λ q. omega (arith, ap nat_abs q)) ((counted js).either m t)

no_two : (js : List Rank) → ((m : ℤ) → Memᴰ m (numbers_of js) → nat_abs m ≤ 1) → count Append2 js ≡ 0
no_two js h = by (ℕ_discrete (count Append2 js) 0)
  where
    by : Dec (count Append2 js ≡ 0) → count Append2 js ≡ 0
    by (yes e) = e
    by (no q) = absurd (omega (arith, h (pos 2) (pos_mem 2 (numbers_of js) (omega (arith, (counted js).twos)))))

module _ (js : List Rank) where
  abbrev cs : List Call
  cs = calls_of js

  pub append_1_fact : none Append2 js && none Spend1 js ≡ true → BoxRule cs 0 (pos 1)
  append_1_fact e = record {
    rises = at_most_1 js (eqb-true (count Append2 js) 0 (and_left (none Append2 js) (none Spend1 js) e));
    unspent = (counted js).spent_ones ∙ eqb-true (count Spend1 js) 0 (and_right (none Append2 js) (none Spend1 js) e);
  }

  pub append_1_test : BoxRule cs 0 (pos 1) → none Append2 js && none Spend1 js ≡ true
  append_1_test R = and_true (none Append2 js) (none Spend1 js) (eq-eqb _ _ (no_two js R.rises)) (eq-eqb _ _ (sym (counted js).spent_ones ∙ R.unspent))

  pub append_2_fact : none Spend2 js ≡ true → BoxRule cs 0 (pos 2)
  append_2_fact e = record { rises = at_most_2 js; unspent = (counted js).spent_twos ∙ eqb-true (count Spend2 js) 0 e }

  pub append_2_test : BoxRule cs 0 (pos 2) → none Spend2 js ≡ true
  append_2_test R = eq-eqb _ _ (sym (counted js).spent_twos ∙ R.unspent)

-- ---- an unspent copy stands in the entries exactly where the standing calls say so: p of number n are appended and q spent
module _ (n p q : ℕ) (h : 0 < n) (l : List ℤ) (appended : positives n (map absℤ l) ≡ p) (spent : negs n l ≡ q) where
  pub spend_fact : ltb q p ≡ true → Memᴰ (pos n) l
  spend_fact e = pos_mem n l (omega (arith, ltb-true q p e, both n l h, appended, spent))

  pub spend_test : Memᴰ (pos n) l → ltb q p ≡ true
  spend_test t = lt-ltb q p (omega (arith, mem_pos n l t, both n l h, appended, spent))
