-- A driver's state goes on holding what the machine of the fork-undo theorem holds, and its journal the standing calls, so that the theorem speaks of what the
-- driver does.
use mathlib.Core.Path.{◌≡◌, refl, sym, ap, ◌∙◌, subst}
use mathlib.Core.Bool.{Bool, true, false, cond}
use borrow.Author.Tests.{eq-eqb, ne_eqb}
use native.Mathlib.Omega.{arith}
use mathlib.Core.List.{List, [], ◌∷◌, nil≢cons}
use Prim.Native.Nat.{ℕ, ◌<◌}
use lib.IntN.{ℤ}
use Rattle.balance.specs.declared.Balance.{Balance}
use Rattle.buffer_core.specs.declared.Direction.TheVariants.{Spend, Unspend}
use Rattle.buffer_core.specs.Edition.{edition_1}
use Rattle.calls.specs.declared.Call.{Call}
use Rattle.calls.specs.declared.Call.TheVariants.{Flip}
use Rattle.call_steps.specs.declared.Said.{Said}
use Rattle.call_steps.specs.State.{State}
use Rattle.call_steps.specs.Steps.{Stepping, step_of}
use Rattle.ledger.specs.Ledger.{Typed}
use Rattle.ledger.specs.Calls.{Parent, boxes, txs, Tokens, append, spend, credit, debit}
use Rattle.ledger.specs.Ledger as ledger
use Rattle.ledger.specs.Run.{Made, accepted, refused_leaving, Step, call, undo, flush}
use Rattle.ledger.specs.Run as Run
use Rattle.history.specs.Index.{Index, do_append, do_pop, do_flip, do_flush}
use Rattle.history.specs.Machine.{Borrowed}
use Rattle.history.specs.ForkUndo.{Places}
use Rattle.history_runs.specs.View.{changed}
use Rattle.history_runs.specs.Runs.{says, M, Holds}
use Rattle.driver_core.specs.Steps.{change_with, make, unmake, flushing, is_accepted}
use Rattle.driver_laws.specs.Driver.{Driver, driver, journaled, shortened, newest_undone, do_step, do_steps}
use Rattle.driver_laws.specs.Internal.{Among, StepAmong, StepsAmong}
use Rattle.driver_core.proofs.KeepLaws.{change_kept}
use Rattle.driver_laws.proofs.ChangeLaws.{change_same}
use Rattle.driver_laws.proofs.CodeLaws.{NotZero, do_append_coded, do_pop_coded, do_flip_coded, change_coded}
use Rattle.history_runs.proofs.StepHolds as steps_held

-- each standing call names one of the parents
unfoldable pub CallsAmong : (parents : ℕ) → List ledger.Call → Type 0
CallsAmong parents [] = Unit {0}
CallsAmong parents (a ∷ cs) = Among parents a × CallsAmong parents cs

module _ (parents : ℕ) (ids : Parent → List ℕ) (B : Borrowed edition_1) (places : Parent → Places) where
  abbrev W : Run.Machine
  W = M parents ids B places

  abbrev H : Run.State W → State → Type 0
  H σ s = Holds parents ids B places σ s

  abbrev pub After : Stepping → Made (Run.State W) (Run.State W) → Type 0
  After x R = steps_held.After parents ids B places x R

  abbrev pub AfterUndo : Stepping → Made (Run.State W) (Run.Undone W) → Type 0
  AfterUndo x R = steps_held.AfterUndo parents ids B places x R

  module _ (σ : Run.State W) (s : State) (h : H σ s) where
    abbrev did : Call → Stepping
    did x = step_of edition_1 x s

    changes : (adding : Bool) (p : Parent) → p < parents → (n : ℤ) (ts : Tokens) → Typed ts
        → After (change_with adding p n ts s) (Run.with_balance W σ p (changed adding (σ.bals p) n ts))
    changes adding p l n ts m =
        steps_held.changes parents ids B places σ s h adding p l n ts (change_with adding p n ts s) (change_kept parents s h.ready adding p l n ts)
        (change_same parents s h.ready adding p l n ts m)

    pub call_after : (a : ledger.Call) → Among parents a → After (make a s) (Run.run_call W σ a)
    call_after (append (boxes p) n) m = steps_held.appends parents ids B places σ s h (boxes p) m.0 n
    call_after (append (txs p) n) m = steps_held.appends parents ids B places σ s h (txs p) m.0 n
    call_after (spend p t) m = steps_held.flips parents ids B places σ s h Spend p m.0 t
    call_after (credit p n ts) m = changes true p m.0 n ts m.1.1
    call_after (debit p n ts) m = changes false p m.0 n ts m.1.1

    pub undo_after : (a : ledger.Call) → Among parents a → AfterUndo (unmake a s) (Run.run_undo W σ a)
    undo_after (append (boxes p) n) m = steps_held.pops parents ids B places σ s h (boxes p) m.0 n
    undo_after (append (txs p) n) m = steps_held.pops parents ids B places σ s h (txs p) m.0 n
    undo_after (spend p t) m = steps_held.quiet_after parents ids B places (did (Flip Unspend p t)) (Run.with_store W σ (do_flip edition_1 ids Unspend σ.store p t)) (steps_held.flips parents ids B places σ s h Unspend p m.0 t)
    undo_after (credit p n ts) m = steps_held.quiet_after parents ids B places (change_with false p n ts s) (Run.with_balance W σ p (changed false (σ.bals p) n ts)) (changes false p m.0 n ts m.1.1)
    undo_after (debit p n ts) m = steps_held.quiet_after parents ids B places (change_with true p n ts s) (Run.with_balance W σ p (changed true (σ.bals p) n ts)) (changes true p m.0 n ts m.1.1)

    pub flush_after : After (flushing s) (Run.with_store W σ (do_flush edition_1 ids σ.store))
    flush_after = steps_held.flush_after parents ids B places σ s h

  -- ---- what is accepted, by the code
  code_yes : {A : Type 0} (x : Stepping) (u v : A) → x.said.code ≡ 0 → cond (is_accepted x) u v ≡ u
  code_yes x u v e = ap (λ (t : Bool). cond t u v) (eq-eqb x.said.code 0 e)

  code_no : {A : Type 0} (x : Stepping) (u v : A) → (x.said.code ≡ 0 → ⊥) → cond (is_accepted x) u v ≡ v
  code_no x u v f = ap (λ (t : Bool). cond t u v) (ne_eqb x.said.code 0 f)

  says_code : (l : List ℤ) → (says l).code ≡ 0
  says_code [] = refl
  says_code (n ∷ ns) = refl

  -- the driver holds what the machine holds, and its journal the standing calls
  pub record Follows (c : Run.Conf W) (d : Driver) : Type 0 where
    pub holds : H c.now d.now
    pub same : c.standing ≡ d.journal
    pub among : CallsAmong parents d.journal

  -- no refusal is the number 0
  pub store_coded : (σ : Run.State W) (R : Made Index Index) → NotZero R → NotZero (Run.with_store W σ R)
  store_coded σ (accepted b) k = tt
  store_coded σ (refused_leaving r τ) k = k

  balance_coded : (σ : Run.State W) (p : Parent) (R : Made Balance Balance) → NotZero R → NotZero (Run.with_balance W σ p R)
  balance_coded σ p (accepted b) k = tt
  balance_coded σ p (refused_leaving r τ) k = k

  quiet_coded : (R : Made (Run.State W) (Run.State W)) → NotZero R → NotZero (Run.quiet W R)
  quiet_coded (accepted τ) k = tt
  quiet_coded (refused_leaving r τ) k = k

  popped_coded : (σ : Run.State W) (R : Made Index (Run.Popped Index)) → NotZero R → NotZero (Run.popped W σ R)
  popped_coded σ (accepted b) k = tt
  popped_coded σ (refused_leaving r τ) k = k

  call_coded : (σ : Run.State W) (a : ledger.Call) → NotZero (Run.run_call W σ a)
  call_coded σ (append ch n) = store_coded σ (do_append edition_1 ids σ.store ch n) (do_append_coded ids σ.store ch n)
  call_coded σ (spend p t) = store_coded σ (do_flip edition_1 ids Spend σ.store p t) (do_flip_coded ids Spend σ.store p t)
  call_coded σ (credit p n ts) = balance_coded σ p (changed true (σ.bals p) n ts) (change_coded true (σ.bals p) n ts)
  call_coded σ (debit p n ts) = balance_coded σ p (changed false (σ.bals p) n ts) (change_coded false (σ.bals p) n ts)

  undo_coded : (σ : Run.State W) (a : ledger.Call) → NotZero (Run.run_undo W σ a)
  undo_coded σ (append ch n) = popped_coded σ (do_pop edition_1 ids σ.store ch) (do_pop_coded ids σ.store ch)
  undo_coded σ (spend p t) = quiet_coded (Run.with_store W σ (do_flip edition_1 ids Unspend σ.store p t)) (store_coded σ (do_flip edition_1 ids Unspend σ.store p t) (do_flip_coded ids Unspend σ.store p t))
  undo_coded σ (credit p n ts) = quiet_coded (Run.with_balance W σ p (changed false (σ.bals p) n ts)) (balance_coded σ p (changed false (σ.bals p) n ts) (change_coded false (σ.bals p) n ts))
  undo_coded σ (debit p n ts) = quiet_coded (Run.with_balance W σ p (changed true (σ.bals p) n ts)) (balance_coded σ p (changed true (σ.bals p) n ts) (change_coded true (σ.bals p) n ts))

  call_follows : (c : Run.Conf W) (d : Driver) → Follows c d → (a : ledger.Call) → Among parents a
      → Follows (Run.step W c (call a)) (do_step d (call a))
  unfolding CallsAmong
  call_follows c d f a m = by (Run.run_call W c.now a) (call_after c.now d.now f.holds a m) (call_coded c.now a)
    where
      by : (R : Made (Run.State W) (Run.State W)) → After (make a d.now) R → NotZero R → Follows (Run.after_call W c a R) (journaled a d.journal (make a d.now))
      by (accepted τ) e n =
          let q = code_yes (make a d.now) (a ∷ d.journal) d.journal (ap (λ (w : Said). w.code) e.0) in
          record { holds = e.1; same = ap (λ (j : List ledger.Call). a ∷ j) f.same ∙ sym q; among = subst (CallsAmong parents) (sym q) (m, f.among) }
      by (refused_leaving k τ) e n =
          let v : (make a d.now).said.code ≡ k = ap (λ (w : Said). w.code) e.0 in
          let z : (make a d.now).said.code ≡ 0 → ⊥ = λ y. omega (arith, n, v, y) in
          let q = code_no (make a d.now) (a ∷ d.journal) d.journal z in
          record { holds = e.1; same = f.same ∙ sym q; among = subst (CallsAmong parents) (sym q) f.among }

  undo_follows : (c : Run.Conf W) (s : State) → H c.now s → (a : ledger.Call) (cs : List ledger.Call) → c.standing ≡ a ∷ cs → CallsAmong parents (a ∷ cs)
      → (R : Made (Run.State W) (Run.Undone W)) → AfterUndo (unmake a s) R → NotZero R → Follows (Run.after_undo W c cs R) (shortened cs (a ∷ cs) (unmake a s))
  unfolding CallsAmong
  undo_follows c s h a cs t m (accepted u) e k =
      let q = code_yes (unmake a s) cs (a ∷ cs) (ap (λ (w : Said). w.code) e.0 ∙ says_code u.answer) in
      record { holds = e.1; same = sym q; among = subst (CallsAmong parents) (sym q) m.1 }
  undo_follows c s h a cs t m (refused_leaving n τ) e k =
      let y : (unmake a s).said.code ≡ n = ap (λ (w : Said). w.code) e.0 in
      let q = code_no (unmake a s) cs (a ∷ cs) (λ z. omega (arith, k, y, z)) in
      record { holds = e.1; same = t ∙ sym q; among = subst (CallsAmong parents) (sym q) m }

  newest_follows : (c : Run.Conf W) (s : State) → H c.now s → (l j : List ledger.Call) → c.standing ≡ l → l ≡ j → CallsAmong parents j
      → Follows (Run.newest_undone W c l) (newest_undone j s)
  unfolding CallsAmong
  newest_follows c s h [] [] t e m = record { holds = h; same = t; among = m }
  newest_follows c s h [] (b ∷ bs) t e m = absurd (nil≢cons e)
  newest_follows c s h (a ∷ cs) [] t e m = absurd (nil≢cons (sym e))
  newest_follows c s h (a ∷ cs) (b ∷ bs) t e m =
      subst (λ (z : List ledger.Call). Follows (Run.newest_undone W c (a ∷ cs)) (newest_undone z s)) e
      (undo_follows c s h a cs t (subst (CallsAmong parents) (sym e) m) (Run.run_undo W c.now a)
      (undo_after c.now s h a (head_among a cs (subst (CallsAmong parents) (sym e) m))) (undo_coded c.now a))
    where
      head_among : (a : ledger.Call) (cs : List ledger.Call) → CallsAmong parents (a ∷ cs) → Among parents a
      head_among a cs m = m.0

  flush_follows : (c : Run.Conf W) (d : Driver) → Follows c d → (R : Made (Run.State W) (Run.State W)) → After (flushing d.now) R
      → Follows (Run.after_flush W c R) (driver (flushing d.now).after d.journal)
  flush_follows c d f (accepted τ) e = record { holds = e.1; same = f.same; among = f.among }
  flush_follows c d f (refused_leaving k τ) e = record { holds = e.1; same = f.same; among = f.among }

  pub step_follows : (c : Run.Conf W) (d : Driver) → Follows c d → (t : Step) → StepAmong parents t → Follows (Run.step W c t) (do_step d t)
  step_follows c d f (call a) m = call_follows c d f a m
  step_follows c d f undo m = newest_follows c d.now f.holds c.standing d.journal refl f.same f.among
  step_follows c d f flush m =
      flush_follows c d f (Run.with_store W c.now (do_flush edition_1 ids c.now.store)) (flush_after c.now d.now f.holds)

  pub steps_follow : (ts : List Step) (c : Run.Conf W) (d : Driver) → Follows c d → StepsAmong parents ts → Follows (Run.run W c ts) (do_steps d ts)
  unfolding StepsAmong do_steps Run.run
  steps_follow [] c d f m = f
  steps_follow (t ∷ ts) c d f m = steps_follow ts (Run.step W c t) (do_step d t) (step_follows c d f t m.0) m.1
