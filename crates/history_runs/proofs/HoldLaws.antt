-- The runner's state goes on holding what the machine of the fork-undo theorem holds, so that the theorem speaks of what the runner does.
use mathlib.Core.Path.{◌≡◌, refl, sym, ap, ◌∙◌, subst}
use mathlib.Core.Logic.{inl, inr}
use mathlib.Core.Bool.{Bool, true, false}
use mathlib.Core.List.{List, [], ◌∷◌, ◌++◌, map}
use Prim.Native.Nat.{ℕ, ◌<◌, ◌≤◌}
use lib.IntN.{ℤ, nat_abs}
use lib.ListN.{length, take}
use Rattle.balance.specs.declared.Balance.{Balance}
use Rattle.buffer_core.specs.declared.Direction.TheVariants.{Spend, Unspend}
use Rattle.index_types.specs.declared.RowEdition.TheVariants.{One}
use Rattle.buffer_core.specs.Edition.{edition_1}
use Rattle.buffer_core.specs.Pop.{Lists}
use Rattle.buffer_core.specs.Spills.{sources, spill_read}
use Rattle.calls.specs.declared.Call.{Call}
use Rattle.calls.specs.declared.Call.TheVariants.{Flip, Flush, Change}
use Rattle.call_steps.specs.State.{State}
use Rattle.call_steps.specs.Steps.{Stepping, step_of}
use Rattle.call_steps.specs.Steps as steps
use Rattle.call_steps.proofs.KeepLaws.{step_kept}
use Rattle.ledger.specs.Ledger.{Parent, Series, boxes, parent_of, Tokens, append, spend, credit, debit, absℤ, amount_in}
use Rattle.ledger.specs.Ledger as ledger
use Rattle.ledger.specs.Run.{Made, accepted, refused_leaving, Step, call, undo, flush, flat, negs}
use Rattle.ledger.specs.Run as Run
use Rattle.balance_laws.specs.Calls.{tokens_in}
use Rattle.history.specs.Index.{kind_of, to_res, entries_of, do_flip, do_flush}
use Rattle.history.specs.Machine.{Borrowed}
use Rattle.history.specs.ForkUndo.{Places}
use Rattle.history.proofs.ForkUndoLaw.{fork_undo}
use Rattle.history_runs.specs.View.{ids_in, view, changed, one_token}
use Rattle.call_runs.specs.Made.{made, heard}
use Rattle.history_runs.specs.Runs.{says, says_of, Changes, Makes, Unmakes, UnmakesNewest, M, Holds, Tells, Spells, UndoSaid, StepSaid, StepsSaid, Agrees}
use Rattle.history_runs.proofs.BalanceLaws.{change_same}
use Rattle.history_runs.proofs.StepHolds as steps_held

module _ (parents : ℕ) (ids : Parent → List ℕ) (B : Borrowed edition_1) (places : Parent → Places) where
  abbrev W : Run.Machine
  W = M parents ids B places

  abbrev H : Run.State W → State → Type 0
  H σ s = Holds parents ids B places σ s

  abbrev After : Stepping → Made (Run.State W) (Run.State W) → Type 0
  After x R = steps_held.After parents ids B places x R

  abbrev AfterUndo : Stepping → Made (Run.State W) (Run.Undone W) → Type 0
  AfterUndo x R = steps_held.AfterUndo parents ids B places x R

  module _ (σ : Run.State W) (s : State) (h : H σ s) where
    abbrev did : Call → Stepping
    did x = step_of edition_1 x s

    changes : (adding : Bool) (p : Parent) (n : ℤ) (ts : Tokens) (x : Call) → Changes parents adding p n ts x
        → After (did x) (Run.with_balance W σ p (changed adding (σ.bals p) n ts))
    changes adding p n ts x c =
        let y = Change adding p n c.token c.amount in
        subst (λ (z : Call). After (did z) (Run.with_balance W σ p (changed adding (σ.bals p) n ts))) (sym c.is)
        (subst (λ (z : Tokens). After (did y) (Run.with_balance W σ p (changed adding (σ.bals p) n z))) (sym c.one)
        (steps_held.changes parents ids B places σ s h adding p c.among n (one_token c.token c.amount) (did y) (step_kept parents s h.ready y c.among)
        (change_same parents s h.ready adding p c.among n c.token c.amount c.small)))

    pub call_after : (a : ledger.Call) (x : Call) → Makes parents a x → After (did x) (Run.run_call W σ a)
    call_after (append ch n) x m = subst (λ (z : Call). After (did z) (Run.run_call W σ (append ch n))) (sym m.1) (steps_held.appends parents ids B places σ s h ch m.0 n)
    call_after (spend p t) x m = subst (λ (z : Call). After (did z) (Run.run_call W σ (spend p t))) (sym m.1) (steps_held.flips parents ids B places σ s h Spend p m.0 t)
    call_after (credit p n ts) x m = changes true p n ts x m
    call_after (debit p n ts) x m = changes false p n ts x m

    pub undo_after : (a : ledger.Call) (x : Call) → Unmakes parents a x → AfterUndo (did x) (Run.run_undo W σ a)
    undo_after (append ch n) x m = subst (λ (z : Call). AfterUndo (did z) (Run.run_undo W σ (append ch n))) (sym m.1) (steps_held.pops parents ids B places σ s h ch m.0 n)
    undo_after (spend p t) x m =
        subst (λ (z : Call). AfterUndo (did z) (Run.run_undo W σ (spend p t))) (sym m.1)
        (steps_held.quiet_after parents ids B places (did (Flip Unspend p t)) (Run.with_store W σ (do_flip edition_1 ids Unspend σ.store p t)) (steps_held.flips parents ids B places σ s h Unspend p m.0 t))
    undo_after (credit p n ts) x m = steps_held.quiet_after parents ids B places (did x) (Run.with_balance W σ p (changed false (σ.bals p) n ts)) (changes false p n ts x m)
    undo_after (debit p n ts) x m = steps_held.quiet_after parents ids B places (did x) (Run.with_balance W σ p (changed true (σ.bals p) n ts)) (changes true p n ts x m)

  -- ---- a step of the list

  call_holds : (c : Run.Conf W) (a : ledger.Call) (x : Stepping) (R : Made (Run.State W) (Run.State W)) → After x R → H (Run.after_call W c a R).now x.after
  call_holds c a x (accepted τ) e = e.1
  call_holds c a x (refused_leaving k τ) e = e.1

  undo_holds : (c : Run.Conf W) (cs : List ledger.Call) (x : Stepping) (R : Made (Run.State W) (Run.Undone W)) → AfterUndo x R → H (Run.after_undo W c cs R).now x.after
  undo_holds c cs x (accepted u) e = e.1
  undo_holds c cs x (refused_leaving k τ) e = e.1

  flush_holds : (c : Run.Conf W) (x : Stepping) (R : Made (Run.State W) (Run.State W)) → After x R → H (Run.after_flush W c R).now x.after
  flush_holds c x (accepted τ) e = e.1
  flush_holds c x (refused_leaving k τ) e = e.1

  newest_holds : (c : Run.Conf W) (s : State) → H c.now s → (l : List ledger.Call) (x : Call) → UnmakesNewest parents l x
      → H (Run.newest_undone W c l).now (step_of edition_1 x s).after
  newest_holds c s h [] x m = absurd m
  newest_holds c s h (a ∷ cs) x m = undo_holds c cs (step_of edition_1 x s) (Run.run_undo W c.now a) (undo_after c.now s h a x m)

  pub step_holds : (c : Run.Conf W) (s : State) → H c.now s → (t : Step) (x : Call) → Tells parents ids B places c t x
      → H (Run.step W c t).now (step_of edition_1 x s).after
  step_holds c s h (call a) x m = call_holds c a (step_of edition_1 x s) (Run.run_call W c.now a) (call_after c.now s h a x m)
  step_holds c s h undo x m = newest_holds c s h c.standing x m
  step_holds c s h flush x m =
      subst (λ (z : Call). H (Run.step W c flush).now (step_of edition_1 z s).after) (sym m)
      (flush_holds c (step_of edition_1 Flush s) (Run.with_store W c.now (do_flush edition_1 ids c.now.store)) (steps_held.flush_after parents ids B places c.now s h))

  -- ---- the list
  pub run_holds : (ts : List Step) (xs : List Call) (c : Run.Conf W) (s : State) → H c.now s → Spells parents ids B places c ts xs → H (Run.run W c ts).now (made xs s)
  unfolding Spells made Run.run
  run_holds [] [] c s h m = h
  run_holds [] (x ∷ xs) c s h m = absurd m
  run_holds (t ∷ ts) [] c s h m = absurd m
  run_holds (t ∷ ts) (x ∷ xs) c s h m = run_holds ts xs (Run.step W c t) (step_of edition_1 x s).after (step_holds c s h t x m.0) m.1

  -- ---- what the steps say
  after_said : (x : Stepping) (R : Made (Run.State W) (Run.State W)) → After x R → x.said ≡ says_of (Run.said W R)
  after_said x (accepted τ) e = e.0
  after_said x (refused_leaving k τ) e = e.0

  undone_said : (x : Stepping) (R : Made (Run.State W) (Run.Undone W)) → AfterUndo x R → x.said ≡ says_of (Run.said_undo W R)
  undone_said x (accepted u) e = e.0
  undone_said x (refused_leaving k τ) e = e.0

  newest_heard : (c : Run.Conf W) (s : State) → H c.now s → (l : List ledger.Call) (x : Call) → UnmakesNewest parents l x → (step_of edition_1 x s).said ≡ says_of (Run.said_newest W c l)
  newest_heard c s h [] x m = absurd m
  newest_heard c s h (a ∷ cs) x m = undone_said (step_of edition_1 x s) (Run.run_undo W c.now a) (undo_after c.now s h a x m)

  step_heard : (c : Run.Conf W) (s : State) → H c.now s → (t : Step) (x : Call) → Tells parents ids B places c t x → (step_of edition_1 x s).said ≡ says_of (Run.answer_to W c t)
  step_heard c s h (call a) x m = after_said (step_of edition_1 x s) (Run.run_call W c.now a) (call_after c.now s h a x m)
  step_heard c s h undo x m = newest_heard c s h c.standing x m
  step_heard c s h flush x m =
      ap (λ (z : Call). (step_of edition_1 z s).said) m
      ∙ after_said (step_of edition_1 Flush s) (Run.with_store W c.now (do_flush edition_1 ids c.now.store)) (steps_held.flush_after parents ids B places c.now s h)

  -- what the runner says is what the steps answer
  pub run_heard : (ts : List Step) (xs : List Call) (c : Run.Conf W) (s : State) → H c.now s → Spells parents ids B places c ts xs → heard xs s ≡ map says_of (Run.answers W c ts)
  unfolding Spells heard Run.answers
  run_heard [] [] c s h m = refl
  run_heard [] (x ∷ xs) c s h m = absurd m
  run_heard (t ∷ ts) [] c s h m = absurd m
  run_heard (t ∷ ts) (x ∷ xs) c s h m = λ i.
      step_heard c s h t x m.0 i ∷ run_heard ts xs (Run.step W c t) (step_of edition_1 x s).after (step_holds c s h t x m.0) m.1 i

  -- ---- what an undo says
  undo_said : (σ : Run.State W) (s : State) → H σ s → (a : ledger.Call) (cs : List ledger.Call) (x : Stepping) (R : Made (Run.State W) (Run.Undone W)) → AfterUndo x R
      → Run.UndoAnswer W σ a R → UndoSaid parents ids B places (a ∷ cs) s x.said
  undo_said σ s h a cs x (accepted u) e k = inl (e.0 ∙ ap says k)
  undo_said σ s h a cs x (refused_leaving n τ) e (inl k) =
      inr (inl (e.0 ∙ ap steps.refused k.0, subst (λ (b : Lists). b.staged_counts.capacity ≤ b.staged_counts.count) (sym h.lists) k.1))
  undo_said σ s h a cs x (refused_leaving n τ) e (inr k) =
      inr (inr (e.0 ∙ ap steps.refused k.0, subst (λ (b : Lists). b.deleted_counts.capacity ≤ b.deleted_counts.count) (sym h.lists) k.1))

  newest_said : (c : Run.Conf W) (s : State) → H c.now s → (l : List ledger.Call) (x : Call) → UnmakesNewest parents l x → Run.NewestOk W c l
      → UndoSaid parents ids B places l s (step_of edition_1 x s).said
  newest_said c s h [] x m k = tt
  newest_said c s h (a ∷ cs) x m k = undo_said c.now s h a cs (step_of edition_1 x s) (Run.run_undo W c.now a) (undo_after c.now s h a x m) k

  step_said : (c : Run.Conf W) (s : State) → H c.now s → (t : Step) (x : Call) → Tells parents ids B places c t x → Run.StepOk W c t
      → StepSaid parents ids B places c t s (step_of edition_1 x s).said
  step_said c s h (call a) x m k = tt
  step_said c s h undo x m k = newest_said c s h c.standing x m k
  step_said c s h flush x m k = tt

  pub run_said : (ts : List Step) (xs : List Call) (c : Run.Conf W) (s : State) → H c.now s → Spells parents ids B places c ts xs → Run.StepsOk W c ts
      → StepsSaid parents ids B places c s ts xs (heard xs s)
  unfolding Spells StepsSaid heard Run.StepsOk
  run_said [] xs c s h m k = tt
  run_said (t ∷ ts) [] c s h m k = absurd m
  run_said (t ∷ ts) (x ∷ xs) c s h m k =
      (step_said c s h t x m.0 k.0, run_said ts xs (Run.step W c t) (step_of edition_1 x s).after (step_holds c s h t x m.0) m.1 k.1)

  -- ---- what the state holds
  entries_same : (σ : Run.State W) (s : State) → H σ s → (ch : Series) → parent_of ch < parents
      → entries_of edition_1 (ids_in s) (view s) ch ≡ entries_of edition_1 ids σ.store ch
  entries_same σ s h ch l =
      let n = h.names (parent_of ch) l in
      let q = h.parts ch l in
      let b = h.lists in
      λ i.
      flat (λ k. to_res (spill_read edition_1 (kind_of ch) (sources (n i) (b i).staged (b i).staged_counts.count (b i).table (b i).table_counts.count) k)) (nat_abs (q i).head.spills)
      ++ take (q i).head.len (q i).places

  agrees : (c : Run.Conf W) (s : State) → H c.now s → Run.Agrees W c → Agrees parents c.standing s
  agrees c s h a =
      record {
        numbers = λ ch l. ap (map absℤ) (entries_same c.now s h ch l) ∙ a.numbers ch;
        copies = λ p l n k. ap (negs n) (entries_same c.now s h (boxes p) l) ∙ a.copies p n k;
        nanoErgs = λ p l. ap (λ (b : Balance). b.nanos) (h.balances p l) ∙ a.nanoErgs p;
        amounts = λ p l t. ap (λ (b : Balance). amount_in (tokens_in b) t) (h.balances p l) ∙ a.amounts p t;
      }

  -- the fork-undo theorem of what the runner does: from a state that holds what the machine starts with, calls that spell a legal list of steps in which no
  -- two row keys in use are equal: every undo says what it should, and at the end the state agrees with the standing calls
  pub fork_undo_runs : ((p : Parent) → length (ids p) ≡ 32) → (s : State) → H (Run.start W).now s → (ts : List Step) (xs : List Call) → Spells parents ids B places (Run.start W) ts xs → Run.Legal W (Run.start W) ts
      → Run.KeysApart W (Run.InUse W (Run.start W) ts)
      → StepsSaid parents ids B places (Run.start W) s ts xs (heard xs s) × Agrees parents (Run.run W (Run.start W) ts).standing (made xs s)
  fork_undo_runs long s h ts xs m l k =
      let f = fork_undo One ids long B places ts l k in
      (run_said ts xs (Run.start W) s h m f.0, agrees (Run.run W (Run.start W) ts) (made xs s) (run_holds ts xs (Run.start W) s h m) f.1)
