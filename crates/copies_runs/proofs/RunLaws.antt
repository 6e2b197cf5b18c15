-- What two runs of `run_calls` leave, on inputs that spell lists of steps with the same standing calls.
use mathlib.Core.Path.{◌≡◌, sym, subst}
use mathlib.Core.Bool.{true}
use mathlib.Core.List.{List}
use Prim.Native.Nat.{ℕ, ◌*◌, ◌≤◌, ◌<◌}
use lib.IntN.{ℤ}
use lib.ListN.{length}
use Rattle.buffer_core.specs.Edition.{edition_1}
use Rattle.calls.specs.declared.Call.{Call}
use Rattle.call_steps.specs.State.{State, state_ok}
use Rattle.runner.specs.Run.{run_of}
use Rattle.call_runs.specs.Made.{made, Stand}
use Rattle.ledger.specs.Ledger.{Parent, Rules}
use Rattle.ledger.specs.Ledger as ledger
use Rattle.ledger.specs.Run.{Machine, Step}
use Rattle.ledger.specs.Run as Run
use Rattle.history.specs.ForkUndo.{Places}
use Rattle.history_runs.specs.View.{ids_in, filled}
use Rattle.history_runs.specs.Runs.{Spells, Empty}
use Rattle.history_runs.proofs.StartLaws.{borrowed, start_holds, W, filled_long}
use Rattle.history_runs.proofs.HoldLaws.{run_holds}
use Rattle.history_runs.proofs.InputLaws.{run_of_made}
use Rattle.copies.specs.Copies.{Copy, no_summaries, Alike, SignedAlike}
use Rattle.copies.proofs.ServerLaws.{Given, rules_after, given_by}
use Rattle.copies.proofs.CopyLaws.{alike, signed_alike}
use Rattle.copies_runs.specs.Runs.{copy_of}
use Rattle.copies_runs.proofs.HeldLaws.{own, given_held}

-- a run of `run_calls` from an empty state, on an input whose calls spell a list of steps within the terms of fork undo, with room for the answers
pub record InputRun : Type 0 where
  pub parents : ℕ
  pub input : List ℕ
  pub places : Parent → Places
  pub state : State
  pub empty : Empty parents places state
  pub answers : List ℕ
  pub popped : List ℤ
  pub steps : List Step
  pub calls : List Call
  pub passed : state_ok edition_1 parents state ≡ true
  pub numbers_in : length calls ≤ length popped
  pub answers_in : length calls * 2 ≤ length answers
  pub stand : Stand parents input 0 calls
  pub spell : Spells parents (filled (ids_in state)) (borrowed parents places state empty) places (Run.start (W parents places state empty)) steps calls
  pub legal : Run.Legal (W parents places state empty) (Run.start (W parents places state empty)) steps
  pub apart : Run.KeysApart (W parents places state empty) (Run.InUse (W parents places state empty) (Run.start (W parents places state empty)) steps)

abbrev machine_of : InputRun → Machine
machine_of r = W r.parents r.places r.state r.empty

-- the calls that stand at the end, and what the run leaves
abbrev pub standing_by : InputRun → List ledger.Call
standing_by r = (Run.run (machine_of r) (Run.start (machine_of r)) r.steps).standing

abbrev pub left_by : InputRun → Copy
left_by r = copy_of (run_of edition_1 r.parents r.input r.state r.answers r.popped).now

given_left : (r : InputRun) (p : Parent) → p < r.parents → Given (standing_by r) (left_by r) p
given_left r p among =
    let M = machine_of r in
    let ids = filled (ids_in r.state) in
    let B = borrowed r.parents r.places r.state r.empty in
    let long = filled_long (ids_in r.state) in
    let g = given_by (own r.parents ids long B r.places) r.steps no_summaries r.legal r.apart p in
    let h = run_holds r.parents ids B r.places r.steps r.calls (Run.start M) r.state (start_holds r.parents r.places r.state r.empty) r.spell in
    subst (λ (s : State). Given (standing_by r) (copy_of s) p)
    (sym (run_of_made r.parents r.input r.state r.answers r.popped r.calls r.passed r.numbers_in r.answers_in r.stand))
    (given_held r.parents ids long B r.places (Run.run M (Run.start M) r.steps).now (made r.calls r.state) h p among (standing_by r) g)

rules_by : (r : InputRun) → Rules (standing_by r)
rules_by r = rules_after (machine_of r) r.steps (Run.start (machine_of r)) tt r.legal

-- the theorem of copies, of what two runs leave of each parent that both have
pub copies_of_runs : (a b : InputRun) → standing_by a ≡ standing_by b → (p : Parent) → p < a.parents → p < b.parents
    → Alike (left_by a) (left_by b) p × SignedAlike (standing_by a) (left_by a) (left_by b) p
copies_of_runs a b e p m n =
    let g = given_left a p m in
    let h = subst (λ (cs : List ledger.Call). Given cs (left_by b) p) (sym e) (given_left b p n) in
    (alike (standing_by a) (rules_by a) p (left_by a) (left_by b) g h, signed_alike (standing_by a) (rules_by a) p (left_by a) (left_by b) g h)
