-- A driver over a working set goes beside the one over the table, which the machine of the fork-undo theorem follows.
use Prim.Native.Nat.{ℕ}
use mathlib.Core.Path.{◌≡◌, refl, sym, ap, ◌∙◌, subst}
use mathlib.Core.Logic.{◌≢◌, inl, inr}
use mathlib.Core.Bool.{Bool, true, false, cond}
use mathlib.Core.List.{List, [], ◌∷◌}
use native.Mathlib.Omega.{arith}
use borrow.Author.Tests.{ne_eqb}
use lib.Dec.{eqb}
use Rattle.buffer_core.specs.Edition.{edition_1}
use Rattle.call_steps.specs.declared.Said.{Said}
use Rattle.call_steps.specs.State.{State}
use Rattle.call_steps.specs.Steps.{refused}
use Rattle.ledger.specs.Calls.{Parent, Call, append, spend, credit, debit}
use Rattle.ledger.specs.Run.{Step, call, undo, flush}
use Rattle.ledger.specs.Run as Run
use Rattle.history.specs.Machine.{Borrowed}
use Rattle.history.specs.ForkUndo.{Places}
use Rattle.history_runs.specs.Runs.{M}
use Rattle.driver_core.specs.Steps.{make, unmake, flushing, may_be_lifted}
use Rattle.working_steps.specs.Beside.{makes, unmakes, flushes, CallOf}
use Rattle.lent_steps.specs.Lent.{Lent, Outcome, as_table, lacks, full_table}
use Rattle.lent_steps.proofs.LentLaws.{lent_law}
use Rattle.driver_laws.specs.Driver.{Driver, driver, do_step, do_steps}
use Rattle.driver_laws.specs.Internal.{Names, StepAmong, StepsAmong, OnlyCalls}
use Rattle.driver_laws.specs.Theorem.{UndoSaid, StepSaid, StepsSaid}
use Rattle.driver_laws.proofs.HoldLaws.{CallsAmong, Follows, step_follows}
use Rattle.working_driver.specs.Shared.{newest_said, step_said, step_code, shared, TableSays, StepTold, StepsTold}

names : (parents : ℕ) (a : Call) → Names parents a → CallOf parents a
names parents (append ch n) h = h
names parents (spend p t) h = h
names parents (credit p n ts) h = h
names parents (debit p n ts) h = h

-- what is not lifted says none of the four
not_lifted : (k : ℕ) → may_be_lifted k ≡ true → (x : Said) → may_be_lifted x.code ≡ false → x ≢ refused k
not_lifted k y x o q = let b : ◌≡◌ {A = Bool} false true = sym o ∙ ap (λ (s : Said). may_be_lifted s.code) q ∙ y in let z : ◌≡◌ {A = ℕ} 0 1 = cc in absurd (omega arith)

-- what is lifted was not accepted
not_zero : (code : ℕ) → may_be_lifted code ≡ true → eqb code 0 ≡ false
not_zero code o = ne_eqb code 0 (λ q. let b : ◌≡◌ {A = Bool} false true = ap may_be_lifted (sym q) ∙ o in let z : ◌≡◌ {A = ℕ} 0 1 = cc in absurd (omega arith))

module _ (parents : ℕ) (ids : Parent → List ℕ) (B : Borrowed edition_1) (places : Parent → Places) where
  abbrev W : Run.Machine
  W = M parents ids B places

  abbrev F : Run.Conf W → Driver → Type 0
  F c d = Follows parents ids B places c d

  pub record Pair (c : Run.Conf W) (d e : Driver) : Type 0 where
    pub follows : F c e
    pub lent : Lent parents d.now e.now
    pub same : d.journal ≡ e.journal

  -- a step that both make, or one that leaves W as it was
  pub data Goes (c : Run.Conf W) (d e : Driver) (t : Step) : Type 0 where
    both : step_said d t ≡ step_said e t → may_be_lifted (step_code d t) ≡ false → Pair (Run.step W c t) (do_step d t) (do_step e t) → Goes c d e t
    skips : may_be_lifted (step_code d t) ≡ true → Pair c (do_step d t) e → Goes c d e t

  call_goes : (c : Run.Conf W) (d e : Driver) → Pair c d e → (a : Call) → StepAmong parents (call a) → (step_code e (call a) ≡ 12 → ⊥) → (step_code e (call a) ≡ 22 → ⊥) → Goes c d e (call a)
  call_goes c d e p a m n k = by (lent_law parents (makes a) (names parents a m.0) d.now e.now p.lent)
    where
      by : Outcome parents d.now e.now (make a d.now) (make a e.now) → Goes c d e (call a)
      by (as_table q o b) =
          both q o
          (record { follows = step_follows parents ids B places c e p.follows (call a) m; lent = b; same = λ i. cond (eqb (q i).code 0) (a ∷ p.same i) (p.same i) })
      by (lacks o b) =
          skips o
          (record {
            follows = p.follows;
            lent = subst (λ (s : State). Lent parents s e.now) (sym b) p.lent;
            same = ap (λ (w : Bool). cond w (a ∷ d.journal) d.journal) (not_zero (step_code d (call a)) o) ∙ p.same;
          })
      by (full_table q) = absurd (k (ap (λ (w : Said). w.code) q))

  flush_goes : (c : Run.Conf W) (d e : Driver) → Pair c d e → (step_code e flush ≡ 12 → ⊥) → (step_code e flush ≡ 22 → ⊥) → Goes c d e flush
  flush_goes c d e p n k = by (lent_law parents flushes tt d.now e.now p.lent)
    where
      by : Outcome parents d.now e.now (flushing d.now) (flushing e.now) → Goes c d e flush
      by (as_table q o b) =
          both q o
          (record { follows = step_follows parents ids B places c e p.follows flush tt; lent = b; same = p.same })
      by (lacks o b) = skips o (record { follows = p.follows; lent = subst (λ (s : State). Lent parents s e.now) (sym b) p.lent; same = p.same })
      by (full_table q) = absurd (k (ap (λ (w : Said). w.code) q))

  -- the newest call of the same journal
  undo_goes : (c : Run.Conf W) (w t : State) (l : List Call) → F c (driver t l) → CallsAmong parents l → Lent parents w t
      → (step_code (driver t l) undo ≡ 12 → ⊥) → (step_code (driver t l) undo ≡ 22 → ⊥) → Goes c (driver w l) (driver t l) undo
  unfolding CallsAmong
  undo_goes c w t [] f m b n k = both refl refl (record { follows = step_follows parents ids B places c (driver t []) f undo tt; lent = b; same = refl })
  undo_goes c w t (a ∷ cs) f m b n k = by (lent_law parents (unmakes a) (names parents a m.0.0) w t b)
    where
      by : Outcome parents w t (unmake a w) (unmake a t) → Goes c (driver w (a ∷ cs)) (driver t (a ∷ cs)) undo
      by (as_table q o h) =
          both q o
          (record { follows = step_follows parents ids B places c (driver t (a ∷ cs)) f undo tt; lent = h; same = λ i. cond (eqb (q i).code 0) cs (a ∷ cs) })
      by (lacks o h) =
          skips o
          (record { follows = f; lent = subst (λ (s : State). Lent parents s t) (sym h) b; same = ap (λ (x : Bool). cond x cs (a ∷ cs)) (not_zero (unmake a w).said.code o) })
      by (full_table q) = absurd (k (ap (λ (x : Said). x.code) q))

  pub step_goes : (c : Run.Conf W) (d e : Driver) → Pair c d e → (t : Step) → StepAmong parents t → (step_code e t ≡ 12 → ⊥) → (step_code e t ≡ 22 → ⊥) → Goes c d e t
  step_goes c d e p (call a) m n k = call_goes c d e p a m n k
  step_goes c d e p undo m n k =
      let q : driver d.now e.journal ≡ d = λ i. driver d.now (sym p.same i) in
      subst (λ (x : Driver). Goes c x e undo) q (undo_goes c d.now e.now e.journal p.follows p.follows.among p.lent n k)
  step_goes c d e p flush m n k = flush_goes c d e p n k

  -- ---- all steps
  pub steps_go : (ts : List Step) (c : Run.Conf W) (d e : Driver) → Pair c d e → StepsAmong parents ts → TableSays d e ts → Pair (Run.run W c (shared d ts)) (do_steps d ts) (do_steps e (shared d ts))
  unfolding StepsAmong TableSays shared do_steps Run.run
  steps_go [] c d e p m k = p
  steps_go (t ∷ ts) c d e p m k =
      by (step_goes c d e p t m.0 k.0 k.1) (λ c₁ e₁ q v. steps_go ts c₁ (do_step d t) e₁ q m.1 v)
    where
      by : Goes c d e t
          → ((c₁ : Run.Conf W) (e₁ : Driver) → Pair c₁ (do_step d t) e₁ → TableSays (do_step d t) e₁ ts
          → Pair (Run.run W c₁ (shared (do_step d t) ts)) (do_steps (do_step d t) ts) (do_steps e₁ (shared (do_step d t) ts)))
          → Pair (Run.run W c (cond (may_be_lifted (step_code d t)) (shared (do_step d t) ts) (t ∷ shared (do_step d t) ts))) (do_steps (do_step d t) ts)
          (do_steps e (cond (may_be_lifted (step_code d t)) (shared (do_step d t) ts) (t ∷ shared (do_step d t) ts)))
      by (both z n q) on =
          let more = shared (do_step d t) ts in
          subst (λ (b : Bool). Pair (Run.run W c (cond b more (t ∷ more))) (do_steps (do_step d t) ts) (do_steps e (cond b more (t ∷ more)))) (sym n)
          (on (Run.step W c t) (do_step e t) q (subst (λ (b : Bool). TableSays (do_step d t) (cond b e (do_step e t)) ts) n k.2))
      by (skips n q) on =
          let more = shared (do_step d t) ts in
          subst (λ (b : Bool). Pair (Run.run W c (cond b more (t ∷ more))) (do_steps (do_step d t) ts) (do_steps e (cond b more (t ∷ more)))) (sym n)
          (on c e q (subst (λ (b : Bool). TableSays (do_step d t) (cond b e (do_step e t)) ts) n k.2))

  -- ---- what W says of the undos is what the table says, unless it is lifted
  undo_told : (w t : State) (l : List Call) → may_be_lifted (newest_said l w).code ≡ false → newest_said l w ≡ newest_said l t → UndoSaid l t → UndoSaid l w
  undo_told w t [] o q h = tt
  undo_told w t (a ∷ cs) o q (inl h) = inl (q ∙ h)
  undo_told w t (a ∷ cs) o q (inr (inl h)) = absurd (not_lifted 16 refl (unmake a w).said o (q ∙ h.0))
  undo_told w t (a ∷ cs) o q (inr (inr h)) = absurd (not_lifted 21 refl (unmake a w).said o (q ∙ h.0))

  pub told : (c : Run.Conf W) (d e : Driver) → Pair c d e → (t : Step) → Goes c d e t → StepSaid e t → StepTold d t
  told c d e p (call a) g h = tt
  told c d e p undo (both q n r) h =
      let l = e.journal in
      let z : newest_said l d.now ≡ newest_said d.journal d.now = ap (λ (j : List Call). newest_said j d.now) (sym p.same) in
      inl (subst (λ (j : List Call). UndoSaid j d.now) (sym p.same) (undo_told d.now e.now l (ap (λ (x : Said). may_be_lifted x.code) z ∙ n) (z ∙ q) h))
  told c d e p undo (skips n r) h = inr n
  told c d e p flush g h = tt

  pub steps_told : (ts : List Step) (c : Run.Conf W) (d e : Driver) → Pair c d e → StepsAmong parents ts → TableSays d e ts → StepsSaid e (shared d ts) → StepsTold d ts
  unfolding StepsAmong TableSays shared StepsSaid StepsTold
  steps_told [] c d e p m k h = tt
  steps_told (t ∷ ts) c d e p m k h =
      by (step_goes c d e p t m.0 k.0 k.1) (λ c₁ e₁ q v y. steps_told ts c₁ (do_step d t) e₁ q m.1 v y)
    where
      by : Goes c d e t
          → ((c₁ : Run.Conf W) (e₁ : Driver) → Pair c₁ (do_step d t) e₁ → TableSays (do_step d t) e₁ ts → StepsSaid e₁ (shared (do_step d t) ts) → StepsTold (do_step d t) ts)
          → StepTold d t × StepsTold (do_step d t) ts
      by (both z n q) on =
          let y = subst (λ (b : Bool). StepsSaid e (cond b (shared (do_step d t) ts) (t ∷ shared (do_step d t) ts))) n h in
          (told c d e p t (both z n q) y.0, on (Run.step W c t) (do_step e t) q (subst (λ (b : Bool). TableSays (do_step d t) (cond b e (do_step e t)) ts) n k.2) y.1)
      by (skips n q) on =
          let y = subst (λ (b : Bool). StepsSaid e (cond b (shared (do_step d t) ts) (t ∷ shared (do_step d t) ts))) n h in
          (skipped t n, on c e q (subst (λ (b : Bool). TableSays (do_step d t) (cond b e (do_step e t)) ts) n k.2) y)
        where
          skipped : (t : Step) → may_be_lifted (step_code d t) ≡ true → StepTold d t
          skipped (call a) n = tt
          skipped undo n = inr n
          skipped flush n = tt

-- ---- of the steps that count, too
pub shared_calls : (ts : List Step) (d : Driver) → OnlyCalls ts → OnlyCalls (shared d ts)
unfolding OnlyCalls shared
shared_calls [] d o = tt
shared_calls (call a ∷ ts) d o = by (may_be_lifted (step_code d (call a))) (shared_calls ts (do_step d (call a)) o)
  where
    by : (b : Bool) → OnlyCalls (shared (do_step d (call a)) ts) → OnlyCalls (cond b (shared (do_step d (call a)) ts) (call a ∷ shared (do_step d (call a)) ts))
    by true h = h
    by false h = h
shared_calls (undo ∷ ts) d o = absurd o
shared_calls (flush ∷ ts) d o = by (may_be_lifted (step_code d flush)) (shared_calls ts (do_step d flush) o)
  where
    by : (b : Bool) → OnlyCalls (shared (do_step d flush) ts) → OnlyCalls (cond b (shared (do_step d flush) ts) (flush ∷ shared (do_step d flush) ts))
    by true h = h
    by false h = h

pub shared_among : (parents : ℕ) (ts : List Step) (d : Driver) → StepsAmong parents ts → StepsAmong parents (shared d ts)
unfolding StepsAmong shared
shared_among parents [] d m = tt
shared_among parents (t ∷ ts) d m = by (may_be_lifted (step_code d t)) (shared_among parents ts (do_step d t) m.1)
  where
    by : (b : Bool) → StepsAmong parents (shared (do_step d t) ts) → StepsAmong parents (cond b (shared (do_step d t) ts) (t ∷ shared (do_step d t) ts))
    by true h = h
    by false h = (m.0, h)
