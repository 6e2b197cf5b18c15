-- Refusal 25 never arises: the state that a driver leaves passes its test, and so does the journal.
use mathlib.Core.Path.{◌≡◌, refl, sym, ap, subst}
use mathlib.Core.Bool.{true, false}
use mathlib.Core.List.{List, [], ◌∷◌}
use Prim.Native.Nat.{ℕ, zero, suc, ◌+◌, ◌*◌, ◌/◌, ◌≤◌, ◌<◌}
use native.Mathlib.Omega.{arith}
use borrow.Author.Tests.{le-leb}
use lib.IntN.{ℤ}
use lib.ListN.{length, get_or}
use Rattle.records.proofs.CheckLaws.{and_true}
use Rattle.segment_id.specs.declared.Kind.TheVariants.{Box, Tx}
use Rattle.balance.specs.declared.Balance.{Balance}
use Rattle.balance.specs.Boxes.{held_by}
use Rattle.fork_model.proofs.Results.{result_of}
use Rattle.balance_laws.specs.Calls.{ids_of, amounts_of, credited, debited}
use Rattle.balance_laws.proofs.Turns.{Fits}
use Rattle.balance_laws.proofs.Laws.{add_same, sub_same, change_leaves}
use Rattle.buffer_core.specs.Edition.{edition_1}
use Rattle.call_steps.specs.State.{State, counts_ok, lengths_ok, blocks_ok, state_ok, Ready}
use Rattle.ledger.specs.Ledger.{Typed, ite}
use Rattle.ledger.specs.Calls.{Parent, Tokens, append, spend, credit, debit}
use Rattle.ledger.specs.Ledger as ledger
use Rattle.ledger.specs.Run.{Made, accepted, refused_leaving, Leaves, Step, call, undo, flush}
use Rattle.ledger.specs.Run as Run
use Rattle.history.specs.Index.{Index, do_append, do_pop, do_flip, do_flush}
use Rattle.history.specs.Machine.{Borrowed}
use Rattle.history.specs.ForkUndo.{Places}
use Rattle.history_runs.specs.View.{balance_in}
use Rattle.history_runs.specs.Runs.{M}
use Rattle.buffer_core.specs.declared.Direction.TheVariants.{Spend, Unspend}
use Rattle.driver_core.specs.Bytes.{Journal, popped}
use Rattle.driver_core.specs.Apply.{journal_ok, driver_ok}
use Rattle.driver_laws.specs.Driver.{Driver, do_step}
use Rattle.driver_laws.specs.Internal.{Among, StepAmong, StepsAmong}
use Rattle.driver_laws.specs.Journal.{Whole}
use Rattle.driver_laws.proofs.HoldLaws.{CallsAmong, Follows, step_follows}
use Rattle.driver_laws.proofs.EntryLaws.{newest_stands, used_within}

-- ---- the journal
count_few : (parents n : ℕ) (j : Journal) → Whole parents n j → (j.count ≡ n) × (n ≤ j.used)
unfolding Whole
count_few parents zero j w = (w.1, omega arith)
count_few parents (suc n) j w =
    let s = newest_stands parents j w.0 in
    let m = (count_few parents n (popped j) w.3).1 in
    (w.2, omega (arith, s.header, s.tokens, m))

journal_passes : (parents : ℕ) (j : Journal) → Whole parents j.count j → journal_ok j ≡ true
journal_passes parents j w =
    and_true _ _ (le-leb j.used (length j.bytes) (used_within parents j.count j w)) (le-leb j.count j.used (count_few parents j.count j w).1)

-- ---- the state
lengths_pass : (n : ℕ) (l : List ℕ) → ((p : ℕ) → p < n → counts_ok p l ≡ true) → lengths_ok n l ≡ true
unfolding lengths_ok
lengths_pass zero l f = refl
lengths_pass (suc n) l f = and_true _ _ (f n (omega arith)) (lengths_pass n l (λ p h. f p (omega (arith, h))))

state_passes : (parents : ℕ) (s : State) → Ready parents s → ((p : ℕ) → p < parents → (balance_in s p).count ≤ 128) → state_ok edition_1 parents s ≡ true
unfolding state_ok blocks_ok
state_passes parents s r f =
    let b = r.blocks in
    and_true _ _
    (and_true _ _ (le-leb parents (length s.ids / 4128) (omega (arith, b.ids_in)))
    (and_true _ _ (le-leb parents (length s.numbers / 1153) (omega (arith, b.numbers_in)))
    (and_true _ _ (le-leb parents (length s.lengths / 3) (omega (arith, b.lengths_in))) (le-leb parents (length s.spills / 2) (omega (arith, b.spills_in))))))
    (and_true _ _ (lengths_pass parents s.lengths one) r.listed)
  where
    one : (p : ℕ) → p < parents → counts_ok p s.lengths ≡ true
    one p h =
        let e : p * 3 ≡ p * 3 + 0 = omega arith in
        let boxes : get_or s.lengths (p * 3) 0 ≤ 512 = omega (arith, r.few p h Box, ap (λ (k : ℕ). get_or s.lengths k 0) e) in
        and_true _ _ (le-leb (get_or s.lengths (p * 3) 0) 512 boxes)
        (and_true _ _ (le-leb (get_or s.lengths (p * 3 + 1) 0) 512 (r.few p h Tx)) (le-leb (get_or s.lengths (p * 3 + 2) 0) 128 (f p h)))

first_among : (parents : ℕ) (a : ledger.Call) (cs : List ledger.Call) → CallsAmong parents (a ∷ cs) → Among parents a
unfolding CallsAmong
first_among parents a cs m = m.0

-- ---- the machine's balances
module _ (parents : ℕ) (ids : Parent → List ℕ) (B : Borrowed edition_1) (places : Parent → Places) where
  abbrev W : Run.Machine
  W = M parents ids B places

  abbrev F : Run.Conf W → Driver → Type 0
  F c d = Follows parents ids B places c d

  abbrev pub AllFit : Run.State W → Type 0
  AllFit σ = (p : Parent) → Fits (held_by (σ.bals p))

  -- of what a call leaves, accepted or refused
  abbrev FitAfter : Made (Run.State W) (Run.State W) → Type 0
  FitAfter (accepted τ) = AllFit τ
  FitAfter (refused_leaving k τ) = AllFit τ

  abbrev FitUndone : Made (Run.State W) (Run.Undone W) → Type 0
  FitUndone (accepted u) = AllFit u.after
  FitUndone (refused_leaving k τ) = AllFit τ

  store_fits : (σ : Run.State W) (R : Made Index Index) → AllFit σ → FitAfter (Run.with_store W σ R)
  store_fits σ (accepted b) f = f
  store_fits σ (refused_leaving k b) f = f

  pop_fits : (σ : Run.State W) (R : Made Index (Run.Popped Index)) → AllFit σ → FitUndone (Run.popped W σ R)
  pop_fits σ (accepted b) f = f
  pop_fits σ (refused_leaving k b) f = f

  quiet_fits : (R : Made (Run.State W) (Run.State W)) → FitAfter R → FitUndone (Run.quiet W R)
  quiet_fits (accepted τ) f = f
  quiet_fits (refused_leaving k τ) f = f

  paid_fits : (σ : Run.State W) (p : Parent) (b : Balance) → AllFit σ → Fits (held_by b) → AllFit (Run.paid W σ p b)
  unfolding ite
  paid_fits σ p b f g q = by (ledger.parent_dec p q)
    where
      by : (w : Dec (p ≡ q)) → Fits (held_by (ite w b (σ.bals q)))
      by (yes e) = g
      by (no e) = f q

  balance_fits : (σ : Run.State W) (p : Parent) (R : Made Balance Balance) → AllFit σ → ((b : Balance) → R ≡ accepted b → Fits (held_by b)) → Leaves (σ.bals p) R → FitAfter (Run.with_balance W σ p R)
  balance_fits σ p (accepted b) f g l = paid_fits σ p b f (g b refl)
  balance_fits σ p (refused_leaving k b) f g l = paid_fits σ p b f (subst (λ (x : Balance). Fits (held_by x)) (sym l) (f p))

  credit_fits : (σ : Run.State W) (p : Parent) (n : ℤ) (ts : Tokens) → Typed ts → AllFit σ → FitAfter (Run.with_balance W σ p (credited (σ.bals p) n ts))
  credit_fits σ p n ts t f =
      balance_fits σ p (credited (σ.bals p) n ts) f (λ b e. (add_same (σ.bals p) (f p) n ts t).keeps b (ap result_of e)) (change_leaves true (σ.bals p) n (ids_of ts) (amounts_of ts) (length ts))

  debit_fits : (σ : Run.State W) (p : Parent) (n : ℤ) (ts : Tokens) → Typed ts → AllFit σ → FitAfter (Run.with_balance W σ p (debited (σ.bals p) n ts))
  debit_fits σ p n ts t f =
      balance_fits σ p (debited (σ.bals p) n ts) f (λ b e. (sub_same (σ.bals p) (f p) n ts t).keeps b (ap result_of e)) (change_leaves false (σ.bals p) n (ids_of ts) (amounts_of ts) (length ts))

  call_fits : (σ : Run.State W) (a : ledger.Call) → Among parents a → AllFit σ → FitAfter (Run.run_call W σ a)
  call_fits σ (append ch n) m f = store_fits σ (do_append edition_1 ids σ.store ch n) f
  call_fits σ (spend p t) m f = store_fits σ (do_flip edition_1 ids Spend σ.store p t) f
  call_fits σ (credit p n ts) m f = credit_fits σ p n ts m.1.1 f
  call_fits σ (debit p n ts) m f = debit_fits σ p n ts m.1.1 f

  undo_fits : (σ : Run.State W) (a : ledger.Call) → Among parents a → AllFit σ → FitUndone (Run.run_undo W σ a)
  undo_fits σ (append ch n) m f = pop_fits σ (do_pop edition_1 ids σ.store ch) f
  undo_fits σ (spend p t) m f = quiet_fits (Run.with_store W σ (do_flip edition_1 ids Unspend σ.store p t)) (store_fits σ (do_flip edition_1 ids Unspend σ.store p t) f)
  undo_fits σ (credit p n ts) m f = quiet_fits (Run.with_balance W σ p (debited (σ.bals p) n ts)) (debit_fits σ p n ts m.1.1 f)
  undo_fits σ (debit p n ts) m f = quiet_fits (Run.with_balance W σ p (credited (σ.bals p) n ts)) (credit_fits σ p n ts m.1.1 f)

  step_fits : (c : Run.Conf W) (d : Driver) → F c d → (t : Step) → StepAmong parents t → AllFit c.now → AllFit (Run.step W c t).now
  step_fits c d g (call a) m f = by (Run.run_call W c.now a) (call_fits c.now a m f)
    where
      by : (R : Made (Run.State W) (Run.State W)) → FitAfter R → AllFit (Run.after_call W c a R).now
      by (accepted τ) h = h
      by (refused_leaving k τ) h = h
  step_fits c d g undo m f = by c.standing (subst (CallsAmong parents) (sym g.same) g.among)
    where
      on : (cs : List ledger.Call) (R : Made (Run.State W) (Run.Undone W)) → FitUndone R → AllFit (Run.after_undo W c cs R).now
      on cs (accepted u) h = h
      on cs (refused_leaving k τ) h = h

      by : (l : List ledger.Call) → CallsAmong parents l → AllFit (Run.newest_undone W c l).now
      by [] h = f
      by (a ∷ cs) h = on cs (Run.run_undo W c.now a) (undo_fits c.now a (first_among parents a cs h) f)
  step_fits c d g flush m f = by (Run.with_store W c.now (do_flush edition_1 ids c.now.store)) (store_fits c.now (do_flush edition_1 ids c.now.store) f)
    where
      by : (R : Made (Run.State W) (Run.State W)) → FitAfter R → AllFit (Run.after_flush W c R).now
      by (accepted τ) h = h
      by (refused_leaving k τ) h = h

  pub steps_fit : (ts : List Step) (c : Run.Conf W) (d : Driver) → F c d → StepsAmong parents ts → AllFit c.now → AllFit (Run.run W c ts).now
  unfolding StepsAmong Run.run
  steps_fit [] c d g m f = f
  steps_fit (t ∷ ts) c d g m f = steps_fit ts (Run.step W c t) (do_step d t) (step_follows parents ids B places c d g t m.0) m.1 (step_fits c d g t m.0 f)

  pub start_fits : AllFit (Run.start W).now
  start_fits p = record { few = omega arith; ids_in = (places p).ids_in; amounts_in = (places p).amounts_in }

  -- what the machine follows passes 25
  pub passes : (c : Run.Conf W) (d : Driver) (j : Journal) → F c d → AllFit c.now → Whole parents j.count j → driver_ok parents d.now j ≡ true
  passes c d j g f w =
      and_true _ _ (state_passes parents d.now g.holds.ready (λ p h. subst (λ (b : Balance). b.count ≤ 128) (sym (g.holds.balances p h)) (f p).few)) (journal_passes parents j w)
