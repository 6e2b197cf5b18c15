-- A run makes the calls at the front of its input, one after the other, has their answers, and ends where its answers are full or no call stands.
use Prim.Native.Nat.{ℕ, zero, suc, ◌+◌, ◌*◌, ◌-◌}
use mathlib.Core.Path.{◌≡◌, refl, sym, ap, subst, ◌∙◌}
use mathlib.Core.Logic.{inl, inr}
use mathlib.Core.Bool.{Bool, true, false, cond, ◌&&◌}
use mathlib.Core.List.{List, [], ◌∷◌}
use native.Mathlib.Omega.{arith}
use lib.Dec.{eqb, leb, ltb}
use lib.IntN.{ℤ}
use lib.ListN.{length, get_or}
use borrow.Author.Tests.{leb-true, ltb-true}
use Rattle.records.proofs.CheckLaws.{and_left, and_right}
use Rattle.buffer_core.specs.Edition.{edition_1}
use Rattle.calls.specs.declared.Call.{Call}
use Rattle.calls.specs.declared.Call.TheVariants.{End}
use Rattle.calls.specs.Calls.{of_kind, call_at, size_of, end_of}
use Rattle.call_steps.specs.State.{State, state_ok}
use Rattle.run_answers.specs.Answers.{end_at}
use Rattle.runner.specs.Run.{Run, run_at, may_go, runs, start, closed, run_of}
use Rattle.runner.proofs.RunLaws.{runs_stop}
use Rattle.runner.proofs.PieceLaws.{runs_go, turn_stops, turn_goes, after}
use Rattle.call_runs.specs.Made.{made, heard, said_from, Along, Stopped, Ran}
use Rattle.call_runs.proofs.AnswerLaws.{runs_alike, answer_there}

module _ (parents : ℕ) (input : List ℕ) where
  -- what a run from r on leaves
  record From (r x : Run) : Type 0 where
    pub calls : List Call
    pub many : x.made ≡ r.made + length calls
    pub stand : Along parents input r.at calls x.at
    pub now_is : x.now ≡ made calls r.now
    pub said : said_from x.answers x.popped r.made (length calls) ≡ heard calls r.now
    pub stopped : Stopped parents input x.at x.end

  -- no call more
  module _ (r : Run) where
    none_more : (end : ℕ) → Stopped parents input r.at end → From r (run_at r.now r.at r.made end r.answers r.popped)
    unfolding Along made heard said_from
    none_more end w = record { calls = []; many = omega arith; stand = refl; now_is = refl; said = refl; stopped = w }

    stays : r.end ≡ 0 → From r r
    stays o = none_more r.end (inl o)

    one_more : (n : ℕ) → may_go r ≡ true → (size_of (call_at parents input r.at) ≡ 0 → ⊥)
        → From (after edition_1 parents input r) (runs edition_1 parents input n (after edition_1 parents input r)) → From r (runs edition_1 parents input n (after edition_1 parents input r))
    unfolding Along made heard said_from
    one_more n e z F =
        let y = after edition_1 parents input r in
        let t = and_right (eqb r.end 0) _ e in
        let few = ltb-true r.made (length r.popped) (and_left _ _ t) in
        let room = leb-true (r.made * 2 + 2) (length r.answers) (and_right (ltb r.made (length r.popped)) _ t) in
        let here = runs_alike parents input n y r.made (omega arith) ∙ answer_there parents input r few room in
        record {
          calls = call_at parents input r.at ∷ F.calls;
          many = omega (arith, F.many);
          stand = (refl, z, F.stand);
          now_is = F.now_is;
          said = λ i. here i ∷ F.said i;
          stopped = F.stopped;
        }

  ran_from : (n : ℕ) (r : Run) → r.end ≡ 0 → From r (runs edition_1 parents input n r)
  unfolding runs
  ran_from zero r o = stays r o
  ran_from (suc n) r o = by_room (may_go r) refl (λ x. ran_from n (after edition_1 parents input r) x)
    where
      by_size : may_go r ≡ true → (refl_end : (after edition_1 parents input r).end ≡ 0 → From (after edition_1 parents input r) (runs edition_1 parents input n (after edition_1 parents input r)))
          → (k : ℕ) → size_of (call_at parents input r.at) ≡ k → From r (runs edition_1 parents input (suc n) r)
      by_size e more zero z =
          subst (From r) (sym (runs_go edition_1 parents input n r e ∙ turn_stops edition_1 parents input n r z)) (none_more r _ (inr (z, refl)))
      by_size e more (suc k) z =
          let nz : size_of (call_at parents input r.at) ≡ 0 → ⊥ = λ y. omega (arith, y, z) in
          subst (From r) (sym (runs_go edition_1 parents input n r e ∙ ap (runs edition_1 parents input n) (turn_goes edition_1 parents input r nz)))
          (one_more r n e nz (more refl))

      by_room : (b : Bool) → may_go r ≡ b → ((after edition_1 parents input r).end ≡ 0 → From (after edition_1 parents input r) (runs edition_1 parents input n (after edition_1 parents input r)))
          → From r (runs edition_1 parents input (suc n) r)
      by_room true e more = by_size e more (size_of (call_at parents input r.at)) refl
      by_room false e more = subst (From r) (runs_stop parents input edition_1 (suc n) r e) (stays r o)

  -- the very end of the input: no call stands there
  closed_stopped : (at end : ℕ) → Stopped parents input at end → Stopped parents input at (end_at (length input) at end)
  unfolding call_at
  closed_stopped at end w = by_test (eqb end 0) (leb (length input) at) refl refl
    where
      by_test : (p q : Bool) → eqb end 0 ≡ p → leb (length input) at ≡ q → Stopped parents input at (cond (p && q) 1 end)
      by_test true true e f =
          let c : call_at parents input at ≡ End = ap (λ (b : Bool). cond b End (of_kind (get_or input at 0) parents (length input - at) input at)) f in
          inr (ap size_of c, sym (ap end_of c))
      by_test true false e f = w
      by_test false q e f = w

  pub ran : (s : State) (answers : List ℕ) (popped : List ℤ) → Ran parents input s (run_of edition_1 parents input s answers popped)
  unfolding run_of Along made heard said_from
  ran s answers popped = by_state (state_ok edition_1 parents s) refl
    where
      by_state : (q : Bool) → state_ok edition_1 parents s ≡ q
          → Ran parents input s (cond q (closed (length input) (runs edition_1 parents input (length input + 1) (start s answers popped))) (run_at s 0 0 25 answers popped))
      by_state true e =
          let F = ran_from (length input + 1) (start s answers popped) refl in
          let x = runs edition_1 parents input (length input + 1) (start s answers popped) in
          let m : x.made ≡ length F.calls = omega (arith, F.many) in
          record {
            calls = F.calls;
            many = m;
            stand = F.stand;
            now_is = F.now_is;
            said = ap (said_from x.answers x.popped 0) m ∙ F.said;
            why = inl (closed_stopped x.at x.end F.stopped);
          }
      by_state false e = record { calls = []; many = refl; stand = refl; now_is = refl; said = refl; why = inr (refl, e) }
