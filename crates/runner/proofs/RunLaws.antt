-- The turns of a run.
use Prim.Native.Nat.{ℕ, zero, suc, ◌+◌, ◌*◌, ◌-◌, ◌≤◌, ◌<◌}
use mathlib.Core.Path.{◌≡◌, refl, sym, ap, ◌∙◌}
use mathlib.Core.Bool.{Bool, true, false, cond}
use mathlib.Core.List.{List}
use native.Mathlib.Omega.{arith}
use lib.Dec.{eqb, ltb}
use lib.IntN.{ℤ}
use lib.ListN.{length}
use borrow.Author.Tests.{leb-true, ltb-true, eq-eqb, ne_eqb}
use Rattle.records.proofs.CheckLaws.{and_left, and_right}
use Rattle.buffer_core.specs.Edition.{Edition, edition_1}
use Rattle.calls.specs.Calls.{call_at, size_of, end_of}
use Rattle.calls.specs.declared.Call.{Call}
use Rattle.calls.proofs.CallLaws.{call_sound}
use Rattle.call_steps.specs.State.{State, state_ok, Ready}
use Rattle.call_steps.specs.Steps.{Stepping, step_of, StepReady}
use Rattle.call_steps.proofs.KeepLaws.{step_kept, step_ready}
use Rattle.run_answers.specs.Answers.{with_code, with_number, end_at}
use Rattle.runner.specs.Run.{Run, run_at, may_go, ended, answered, called, turn_of, runs, start, closed, run_of, TurnReady}

-- ---- the turns

module _ (parents : ℕ) (input : List ℕ) where
  -- what a turn asks holds where the test of room passes
  pub turn_ready : (r : Run) → Ready parents r.now → r.at ≤ length input → may_go r ≡ true → TurnReady parents input r
  turn_ready r k h e =
      let t = and_right (eqb r.end 0) _ e in
      record {
        ready = k;
        within = h;
        few = ltb-true r.made (length r.popped) (and_left _ _ t);
        room = leb-true (r.made * 2 + 2) (length r.answers) (and_right (ltb r.made (length r.popped)) _ t);
      }

  module _ (r : Run) (f : TurnReady parents input r) where
    abbrev c : Call
    c = call_at parents input r.at

    pub call_ready : StepReady c r.now
    call_ready = step_ready parents r.now f.ready c (call_sound parents input r.at).among

    pub call_within : r.at + size_of c ≤ length input
    call_within = omega (arith, (call_sound parents input r.at).fits, f.within)

    -- a turn keeps them
    pub turn_kept : Ready parents (turn_of edition_1 parents input r).now × ((turn_of edition_1 parents input r).at ≤ length input)
    unfolding turn_of
    turn_kept = by_size (eqb (size_of c) 0)
      where
        by_size : (b : Bool)
            → Ready parents (cond b (ended c r) (answered (size_of c) (step_of edition_1 c r.now) r)).now
            × ((cond b (ended c r) (answered (size_of c) (step_of edition_1 c r.now) r)).at ≤ length input)
        by_size true = (f.ready, f.within)
        by_size false = (step_kept parents r.now f.ready c (call_sound parents input r.at).among, call_within)

  -- the run of n + 1 calls by its first turn
  pub runs_more : (n : ℕ) (r : Run) → 0 < n → may_go r ≡ true → runs edition_1 parents input (n - 1) (turn_of edition_1 parents input r) ≡ runs edition_1 parents input n r
  unfolding runs
  runs_more zero r h e = absurd (omega arith)
  runs_more (suc n) r h e =
      let p : suc n - 1 ≡ n = omega arith in
      ap (λ (j : ℕ). runs edition_1 parents input j (turn_of edition_1 parents input r)) p
      ∙ sym (ap (λ (b : Bool). cond b (runs edition_1 parents input n (turn_of edition_1 parents input r)) r) e)

  pub runs_stop : (E : Edition) (n : ℕ) (r : Run) → may_go r ≡ false → r ≡ runs E parents input n r
  unfolding runs
  runs_stop E zero r e = refl
  runs_stop E (suc n) r e = sym (ap (λ (b : Bool). cond b (runs E parents input n (turn_of E parents input r)) r) e)

  pub runs_end : (n : ℕ) (r : Run) → n ≤ 0 → r ≡ runs edition_1 parents input n r
  unfolding runs
  runs_end zero r h = refl
  runs_end (suc n) r h = absurd (omega arith)

-- what the code has done is a turn: x is the call it read, n its bytes
module _ (parents : ℕ) (input : List ℕ) (r : Run) where
  pub turn_ended : (x : Call) (n e : ℕ) → x ≡ call_at parents input r.at → n ≡ size_of x → n ≡ 0 → e ≡ end_of x
      → run_at r.now r.at r.made e r.answers r.popped ≡ turn_of edition_1 parents input r
  unfolding turn_of
  turn_ended x n e q s z w =
      ap (λ (k : ℕ). run_at r.now r.at r.made k r.answers r.popped) w
      ∙ sym (ap (λ (b : Bool). cond b (ended x r) (answered (size_of x) (step_of edition_1 x r.now) r)) (eq-eqb (size_of x) 0 (sym s ∙ z)))
      ∙ ap (λ (c : Call). called edition_1 c r) q

  pub turn_answered : (x : Call) (n : ℕ) (y : Stepping) (answers : List ℕ) (popped : List ℤ) → x ≡ call_at parents input r.at → n ≡ size_of x → (n ≡ 0 → ⊥)
      → y ≡ step_of edition_1 x r.now → answers ≡ with_code y.said r.made r.answers → popped ≡ with_number y.said r.made r.popped
      → run_at y.after (r.at + n) (r.made + 1) 0 answers popped ≡ turn_of edition_1 parents input r
  unfolding turn_of
  turn_answered x n y answers popped q s z w a p =
      (λ i. run_at y.after (r.at + s i) (r.made + 1) 0 (a i) (p i))
      ∙ ap (λ (k : Stepping). answered (size_of x) k r) w
      ∙ sym (ap (λ (b : Bool). cond b (ended x r) (answered (size_of x) (step_of edition_1 x r.now) r)) (ne_eqb (size_of x) 0 (λ k. z (s ∙ k))))
      ∙ ap (λ (c : Call). called edition_1 c r) q

-- ---- the loop: the state keeps what 25 tests, and what is left to run ends where the whole run ends
pub record Kept (parents : ℕ) (input : List ℕ) (left : ℕ) (r r₀ : Run) : Type 0 where
  pub ready : Ready parents r.now
  pub within : r.at ≤ length input
  pub rest : runs edition_1 parents input left r ≡ runs edition_1 parents input (length input + 1) r₀

module _ (parents : ℕ) (input : List ℕ) where
  pub kept_start : (r : Run) → Ready parents r.now → r.at ≡ 0 → Kept parents input (length input + 1) r r
  kept_start r f e = record { ready = f; within = omega (arith, e); rest = refl }

  module _ (left : ℕ) (r r₀ : Run) (k : Kept parents input left r r₀) where
    pub kept_ready : may_go r ≡ true → TurnReady parents input r
    kept_ready e = turn_ready parents input r k.ready k.within e

    pub kept_turn : (r' : Run) → 0 < left → may_go r ≡ true → r' ≡ turn_of edition_1 parents input r → Kept parents input (left - 1) r' r₀
    kept_turn r' h e q =
        let t = turn_kept parents input r (kept_ready e) in
        record {
          ready = rw q t.0;
          within = rw q t.1;
          rest = ap (runs edition_1 parents input (left - 1)) q ∙ runs_more parents input left r h e ∙ k.rest;
        }

    pub kept_stop : may_go r ≡ false → r ≡ runs edition_1 parents input (length input + 1) r₀
    kept_stop e = runs_stop parents input edition_1 left r e ∙ k.rest

    pub kept_end : left ≤ 0 → r ≡ runs edition_1 parents input (length input + 1) r₀
    kept_end h = runs_end parents input left r h ∙ k.rest

-- ---- refusal 25, or the run

-- how reading ended is told last
pub told_end : (size : ℕ) (x y : Run) (e : ℕ) → x ≡ y → e ≡ end_at size x.at x.end → run_at x.now x.at x.made e x.answers x.popped ≡ closed size y
told_end size x y e q h = ap (λ (k : ℕ). run_at x.now x.at x.made k x.answers x.popped) h ∙ ap (closed size) q

module _ (parents : ℕ) (input : List ℕ) (s : State) (answers : List ℕ) (popped : List ℤ) where
  pub run_passed : state_ok edition_1 parents s ≡ true → closed (length input) (runs edition_1 parents input (length input + 1) (start s answers popped)) ≡ run_of edition_1 parents input s answers popped
  unfolding run_of
  run_passed e = sym (ap (λ (b : Bool). cond b (closed (length input) (runs edition_1 parents input (length input + 1) (start s answers popped))) (run_at s 0 0 25 answers popped)) e)

  pub run_refused : state_ok edition_1 parents s ≡ false → run_at s 0 0 25 answers popped ≡ run_of edition_1 parents input s answers popped
  unfolding run_of
  run_refused e = sym (ap (λ (b : Bool). cond b (closed (length input) (runs edition_1 parents input (length input + 1) (start s answers popped))) (run_at s 0 0 25 answers popped)) e)
