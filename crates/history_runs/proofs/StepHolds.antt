-- Where the state holds what the machine of the fork-undo theorem holds, it does so after an append, a spend, an unspend, a pop, a credit, a debit or a flush.
use mathlib.Core.Path.{◌≡◌, sym, ap, ◌∙◌, subst}
use mathlib.Core.Bool.{Bool, true, false}
use mathlib.Core.List.{List}
use Prim.Native.Nat.{ℕ, ◌<◌}
use lib.IntN.{ℤ}
use Rattle.balance.specs.declared.Balance.{Balance}
use Rattle.buffer_core.specs.declared.Direction.{Direction}
use Rattle.buffer_core.specs.Edition.{edition_1}
use Rattle.calls.specs.declared.Call.{Call}
use Rattle.calls.specs.declared.Call.TheVariants.{Append, Flip, Pop, Flush}
use Rattle.call_steps.specs.State.{State, Ready}
use Rattle.call_steps.specs.Steps.{Stepping, number_popped, step_of}
use Rattle.call_steps.specs.Steps as steps
use Rattle.call_steps.proofs.KeepLaws.{step_kept}
use Rattle.ledger.specs.Ledger.{Parent, parent_dec, Series, parent_of, Tokens, ite, append}
use Rattle.ledger.specs.Run.{Made, accepted, refused_leaving, Leaves, RefusalsLeave}
use Rattle.ledger.specs.Run as Run
use Rattle.history.specs.Index.{Index, kind_of, do_append, do_pop, do_flip, do_flush}
use Rattle.history.specs.Machine.{Borrowed}
use Rattle.history.specs.ForkUndo.{Places}
use Rattle.history.proofs.RefusalLaws.{flip_leaves, refusals_leave}
use Rattle.ledger.proofs.LeaveLaws.{paid_back}
use Rattle.history_runs.specs.View.{ids_in, view, balance_in, Same, SamePop, SameBalance, changed}
use Rattle.history_runs.specs.Runs.{says, M, Holds}
use Rattle.history_runs.proofs.ViewLaws.{append_same, pop_same, flip_same, flush_same}
use Rattle.history_runs.proofs.NearLaws.{Near, NearRes, NearPop, append_near, pop_near, flip_near, flush_near}

module _ (parents : ℕ) (ids : Parent → List ℕ) (B : Borrowed edition_1) (places : Parent → Places) where
  abbrev W : Run.Machine
  W = M parents ids B places

  abbrev H : Run.State W → State → Type 0
  H σ s = Holds parents ids B places σ s

  -- what is said and held after a call, an undo or a flush
  abbrev pub After : Stepping → Made (Run.State W) (Run.State W) → Type 0
  After x (accepted τ) = (x.said ≡ steps.accepted) × H τ x.after
  After x (refused_leaving k τ) = (x.said ≡ steps.refused k) × H τ x.after

  abbrev pub AfterUndo : Stepping → Made (Run.State W) (Run.Undone W) → Type 0
  AfterUndo x (accepted u) = (x.said ≡ says u.answer) × H u.after x.after
  AfterUndo x (refused_leaving k τ) = (x.said ≡ steps.refused k) × H τ x.after

  pub quiet_after : (x : Stepping) (R : Made (Run.State W) (Run.State W)) → After x R → AfterUndo x (Run.quiet W R)
  quiet_after x (accepted τ) a = a
  quiet_after x (refused_leaving k τ) a = a

  leaves : RefusalsLeave W
  leaves = refusals_leave edition_1 ids B places

  pub changed_leaves : (adding : Bool) (b : Balance) (n : ℤ) (ts : Tokens) → Leaves b (changed adding b n ts)
  changed_leaves true b n ts = leaves.credits b n ts
  changed_leaves false b n ts = leaves.debits b n ts

  module _ (σ : Run.State W) (s : State) (h : H σ s) where
    near : Near parents (view s) σ.store
    near = record { parts = h.parts; lists = h.lists }

    -- a refusal leaves the state and the machine's as they were
    left : (t : State) (τ : Run.State W) → t ≡ s → τ ≡ σ → H τ t
    left t τ e q = subst (λ (x : Run.State W). H x t) (sym q) (subst (H σ) (sym e) h)

    store_after : (x : Stepping) → Ready parents x.after → (R Q : Made Index Index) → Same s x R → NearRes parents R Q → Leaves σ.store Q → After x (Run.with_store W σ Q)
    store_after x r (accepted b) (accepted c) e n z =
        let v : view x.after ≡ b = e.1 in
        let w : balance_in x.after ≡ balance_in s = e.2 in
        let i : ids_in x.after ≡ ids_in s = e.3 in (
          e.0,
          record {
            ready = r;
            names = λ p l. ap (λ (f : Parent → List ℕ). f p) i ∙ h.names p l;
            parts = λ ch l. ap (λ (y : Index). y.parts ch) v ∙ n.parts ch l;
            lists = ap (λ (y : Index). y.lists) v ∙ n.lists;
            balances = λ p l. ap (λ (f : Parent → Balance). f p) w ∙ h.balances p l;
          },
        )
    store_after x r (accepted b) (refused_leaving k c) e n z = absurd n
    store_after x r (refused_leaving j b) (accepted c) e n z = absurd n
    store_after x r (refused_leaving j b) (refused_leaving k c) e n z = (e.0 ∙ ap steps.refused n, left x.after (Run.stored W σ c) e.1 (ap (Run.stored W σ) z))

    pop_after : (x : Stepping) → Ready parents x.after → (R Q : Made Index (Run.Popped Index)) → SamePop s x R → NearPop parents R Q → Leaves σ.store Q → AfterUndo x (Run.popped W σ Q)
    pop_after x r (accepted b) (accepted c) e n z =
        let v : view x.after ≡ b.left = e.1 in
        let w : balance_in x.after ≡ balance_in s = e.2 in
        let i : ids_in x.after ≡ ids_in s = e.3 in (
          e.0 ∙ ap number_popped n.0,
          record {
            ready = r;
            names = λ p l. ap (λ (f : Parent → List ℕ). f p) i ∙ h.names p l;
            parts = λ ch l. ap (λ (y : Index). y.parts ch) v ∙ n.1.parts ch l;
            lists = ap (λ (y : Index). y.lists) v ∙ n.1.lists;
            balances = λ p l. ap (λ (f : Parent → Balance). f p) w ∙ h.balances p l;
          },
        )
    pop_after x r (accepted b) (refused_leaving k c) e n z = absurd n
    pop_after x r (refused_leaving j b) (accepted c) e n z = absurd n
    pop_after x r (refused_leaving j b) (refused_leaving k c) e n z = (e.0 ∙ ap steps.refused n, left x.after (Run.stored W σ c) e.1 (ap (Run.stored W σ) z))

    balance_after : (p : Parent) (x : Stepping) → Ready parents x.after → (R : Made Balance Balance) → SameBalance s p x R → Leaves (σ.bals p) R → After x (Run.with_balance W σ p R)
    balance_after p x r (accepted b) e z =
        let w = e.1 in
        let v : view x.after ≡ view s = e.2 in
        let i : ids_in x.after ≡ ids_in s = e.3 in (
          e.0,
          record {
            ready = r;
            names = λ p l. ap (λ (f : Parent → List ℕ). f p) i ∙ h.names p l;
            parts = λ ch l. ap (λ (y : Index). y.parts ch) v ∙ h.parts ch l;
            lists = ap (λ (y : Index). y.lists) v ∙ h.lists;
            balances = λ q l. ap (λ (f : Parent → Balance). f q) w ∙ ap (λ (y : Balance). ite (parent_dec p q) b y) (h.balances q l);
          },
        )
    balance_after p x r (refused_leaving k b) e z = (e.0, left x.after (Run.paid W σ p b) e.1 (ap (Run.paid W σ p) z ∙ paid_back W σ p))

    abbrev did : Call → Stepping
    did x = step_of edition_1 x s

    pub appends : (ch : Series) → parent_of ch < parents → (n : ℤ) → After (did (Append (kind_of ch) (parent_of ch) n)) (Run.run_call W σ (append ch n))
    appends ch l n =
        let x = Append (kind_of ch) (parent_of ch) n in
        store_after (did x) (step_kept parents s h.ready x l) (do_append edition_1 (ids_in s) (view s) ch n) (do_append edition_1 ids σ.store ch n)
        (append_same parents s h.ready ch l n) (append_near parents (ids_in s) ids (view s) σ.store near ch l (h.names (parent_of ch) l) n) (leaves.appends σ.store ch n)

    pub flips : (d : Direction) (p : Parent) → p < parents → (t : ℤ) → After (did (Flip d p t)) (Run.with_store W σ (do_flip edition_1 ids d σ.store p t))
    flips d p l t =
        store_after (did (Flip d p t)) (step_kept parents s h.ready (Flip d p t) l) (do_flip edition_1 (ids_in s) d (view s) p t)
        (do_flip edition_1 ids d σ.store p t) (flip_same parents s h.ready d p l t)
        (flip_near parents (ids_in s) ids (view s) σ.store near p l (h.names p l) d t) (flip_leaves edition_1 ids σ.store p d t)

    pub pops : (ch : Series) → parent_of ch < parents → (n : ℤ) → AfterUndo (did (Pop (kind_of ch) (parent_of ch))) (Run.run_undo W σ (append ch n))
    pops ch l n =
        let x = Pop (kind_of ch) (parent_of ch) in
        pop_after (did x) (step_kept parents s h.ready x l) (do_pop edition_1 (ids_in s) (view s) ch) (do_pop edition_1 ids σ.store ch)
        (pop_same parents s h.ready ch l) (pop_near parents (ids_in s) ids (view s) σ.store near ch l (h.names (parent_of ch) l)) (leaves.pops σ.store ch)

    -- of a credit or a debit that is the theorem's
    pub changes : (adding : Bool) (p : Parent) → p < parents → (n : ℤ) (ts : Tokens) (x : Stepping) → Ready parents x.after
        → SameBalance s p x (changed adding (balance_in s p) n ts) → After x (Run.with_balance W σ p (changed adding (σ.bals p) n ts))
    changes adding p l n ts x r e =
        subst (λ (b : Balance). After x (Run.with_balance W σ p (changed adding b n ts))) (h.balances p l)
        (balance_after p x r (changed adding (balance_in s p) n ts) e
        (subst (λ (z : Balance). Leaves z (changed adding (balance_in s p) n ts)) (h.balances p l) (changed_leaves adding (balance_in s p) n ts)))

    pub flush_after : After (did Flush) (Run.with_store W σ (do_flush edition_1 ids σ.store))
    flush_after =
        store_after (did Flush) (step_kept parents s h.ready Flush tt) (do_flush edition_1 (ids_in s) (view s)) (do_flush edition_1 ids σ.store) (flush_same s)
        (flush_near parents (ids_in s) ids (view s) σ.store near) (leaves.flushes σ.store)
