-- The fork-undo theorem of what a driver does, from an empty state.
use mathlib.Core.Path.{◌≡◌, refl, sym, ap, ◌∙◌, subst}
use mathlib.Core.Logic.{inl, inr}
use mathlib.Core.Bool.{true}
use mathlib.Core.List.{List, [], ◌∷◌}
use Prim.Native.Nat.{ℕ, ◌≤◌}
use Rattle.index_types.specs.declared.RowEdition.TheVariants.{One}
use Rattle.buffer_core.specs.Edition.{edition_1}
use Rattle.buffer_core.specs.Pop.{Lists}
use Rattle.call_steps.specs.State.{State}
use Rattle.call_steps.specs.Steps as steps
use Rattle.ledger.specs.Calls.{Parent}
use Rattle.ledger.specs.Ledger.{Rules}
use Rattle.ledger.specs.Ledger as ledger
use Rattle.ledger.specs.Run.{Made, accepted, refused_leaving, Step, call, undo, flush}
use Rattle.ledger.specs.Run as Run
use Rattle.history.specs.Machine.{Borrowed}
use Rattle.history.specs.ForkUndo.{Places}
use Rattle.history.proofs.ForkUndoLaw.{fork_undo}
use Rattle.history_runs.specs.View.{ids_in, filled}
use Rattle.history_runs.specs.Runs.{says, M, Holds, Agrees}
use Rattle.history_runs.proofs.StartLaws.{filled_long, borrowed, start_holds}
use Rattle.driver_core.specs.Steps.{unmake}
use Rattle.driver_core.specs.Bytes.{journal, standing}
use Rattle.driver_core.specs.Apply.{driver_ok}
use Rattle.driver_laws.specs.Driver.{Driver, driver, do_step, do_steps}
use Rattle.driver_laws.specs.Internal.{StepsAmong}
use Rattle.driver_laws.specs.Journal.{seen, Whole}
use Rattle.driver_laws.specs.Theorem.{UndoSaid, StepSaid, StepsSaid, calls_of, do_all, all_steps, begun, machine, DriverTheorem}
use Rattle.driver_laws.proofs.HoldLaws.{CallsAmong, Follows, AfterUndo, undo_after, step_follows, steps_follow}
use Rattle.driver_laws.proofs.RefineLaws.{all_whole}
use Rattle.driver_laws.proofs.OkLaws.{steps_fit, start_fits, passes}
use Rattle.driver_laws.proofs.OpLaws.{all_done, begin_follows, agrees}

module _ (parents : ℕ) (ids : Parent → List ℕ) (B : Borrowed edition_1) (places : Parent → Places) where
  abbrev W : Run.Machine
  W = M parents ids B places

  undo_told : (c : Run.Conf W) (s : State) → Holds parents ids B places c.now s → (a : ledger.Call) (cs : List ledger.Call) (R : Made (Run.State W) (Run.Undone W))
      → AfterUndo parents ids B places (unmake a s) R → Run.UndoAnswer W c.now a R → UndoSaid (a ∷ cs) s
  undo_told c s h a cs (accepted u) e k = inl (e.0 ∙ ap says k)
  undo_told c s h a cs (refused_leaving n τ) e (inl k) =
      inr (inl (e.0 ∙ ap steps.refused k.0, subst (λ (b : Lists). b.staged_counts.capacity ≤ b.staged_counts.count) (sym h.lists) k.1))
  undo_told c s h a cs (refused_leaving n τ) e (inr k) =
      inr (inr (e.0 ∙ ap steps.refused k.0, subst (λ (b : Lists). b.deleted_counts.capacity ≤ b.deleted_counts.count) (sym h.lists) k.1))

  newest_told : (c : Run.Conf W) (s : State) → Holds parents ids B places c.now s → (l : List ledger.Call) → CallsAmong parents l → Run.NewestOk W c l → UndoSaid l s
  unfolding CallsAmong
  newest_told c s h [] m k = tt
  newest_told c s h (a ∷ cs) m k = undo_told c s h a cs (Run.run_undo W c.now a) (undo_after parents ids B places c.now s h a m.0) k

  step_told : (c : Run.Conf W) (d : Driver) → Follows parents ids B places c d → (t : Step) → Run.StepOk W c t → StepSaid d t
  step_told c d f (call a) k = tt
  step_told c d f undo k = newest_told c d.now f.holds d.journal f.among (subst (Run.NewestOk W c) f.same k)
  step_told c d f flush k = tt

  pub steps_told : (ts : List Step) (c : Run.Conf W) (d : Driver) → Follows parents ids B places c d → StepsAmong parents ts → Run.StepsOk W c ts → StepsSaid d ts
  unfolding StepsAmong StepsSaid Run.StepsOk
  steps_told [] c d f m k = tt
  steps_told (t ∷ ts) c d f m k =
      (step_told c d f t k.0, steps_told ts (Run.step W c t) (do_step d t) (step_follows parents ids B places c d f t m.0) m.1 k.1)

-- an empty journal holds no call, whatever its bytes
pub no_calls : (parents : ℕ) (bytes : List ℕ) → Whole parents 0 (journal bytes 0 0)
unfolding Whole
no_calls parents bytes = (refl, refl)

pub none_stand : (parents : ℕ) (s : State) (bytes : List ℕ) → seen parents s (journal bytes 0 0) ≡ driver s []
unfolding standing
none_stand parents s bytes = refl

pub driver_theorem : DriverTheorem
driver_theorem parents places s E bytes ws k q =
    let B = borrowed parents places s E in
    let ids = filled (ids_in s) in
    let h = start_holds parents places s E in
    let long = filled_long (ids_in s) in
    let N = machine parents places s E in
    let z = none_stand parents s bytes in
    let d = begun s bytes in
    let ts = all_steps parents d ws in
    let e = do_all parents d ws in
    let f = begin_follows parents ids B places s h in
    let g = subst (Follows parents ids B places (Run.start N)) (sym z) f in
    let r : Rules (calls_of parents d) = subst (λ (x : Driver). Rules x.journal) (sym z) tt in
    let a = all_done parents ids B places ws true (Run.start N) d g (no_calls parents bytes) (λ _. tt) r k in
    let same : seen parents e.now e.kept ≡ do_steps (driver s []) ts = a.same ∙ ap (λ (x : Driver). do_steps x ts) z in
    let t = fork_undo One ids long B places ts a.legal q in
    let l = steps_follow parents ids B places ts (Run.start N) (driver s []) f a.among in
    record {
      steps = same;
      passes =
          subst (λ (x : State). driver_ok parents x e.kept ≡ true) (ap (λ (x : Driver). x.now) (sym same))
          (passes parents ids B places (Run.run N (Run.start N) ts) (do_steps (driver s []) ts) e.kept l
          (steps_fit parents ids B places ts (Run.start N) (driver s []) f a.among (start_fits parents ids B places)) (all_whole parents ws d (no_calls parents bytes)));
      said = steps_told parents ids B places ts (Run.start N) (driver s []) f a.among t.0;
      stand = l.same ∙ ap (λ (x : Driver). x.journal) (sym same);
      agrees = subst (λ (x : Driver). Agrees parents x.journal x.now) (sym same) (agrees parents ids B places (Run.run N (Run.start N) ts) (do_steps (driver s []) ts) l t.1);
    }
