-- The runner makes the calls that stand in its input, one after the other.
use mathlib.Core.Path.{◌≡◌, refl, sym, ap, ◌∙◌, subst}
use mathlib.Core.Bool.{Bool, true, false}
use mathlib.Core.List.{List, [], ◌∷◌, map}
use Prim.Native.Nat.{ℕ, zero, suc, ◌+◌, ◌*◌, ◌≤◌, ◌<◌}
use native.Mathlib.Omega.{arith}
use lib.IntN.{ℤ}
use lib.ListN.{length, length-set}
use borrow.Author.Tests.{lt-ltb, le-leb, eq-eqb}
use Rattle.records.proofs.CheckLaws.{and_true}
use Rattle.buffer_core.specs.Edition.{edition_1}
use Rattle.calls.specs.declared.Call.{Call}
use Rattle.calls.specs.Calls.{call_at, size_of}
use Rattle.calls.proofs.CallLaws.{call_sound}
use Rattle.call_steps.specs.State.{State, state_ok}
use Rattle.call_steps.specs.Steps.{step_of}
use Rattle.call_steps.specs.declared.Said.{Said}
use Rattle.ledger.specs.Ledger.{Parent}
use Rattle.ledger.specs.Ledger as ledger
use Rattle.ledger.specs.Run.{Step}
use Rattle.ledger.specs.Run as Mc
use Rattle.ledger.proofs.AnswerLaws.{standing_told}
use Rattle.history.specs.ForkUndo.{Places}
use Rattle.runner.specs.Run.{Run, may_go, runs, start, run_of}
use Rattle.runner.proofs.RunLaws.{runs_stop, run_passed}
use Rattle.runner.proofs.PieceLaws.{runs_go, turn_stops, turn_goes, after}
use Rattle.history_runs.specs.View.{ids_in, filled}
use Rattle.call_runs.specs.Made.{made, heard, said_at, said_from, Stand}
use Rattle.call_runs.proofs.AnswerLaws.{runs_alike, answer_there}
use Rattle.history_runs.specs.Runs.{says_of, Spells, StepsSaid, Agrees, Empty}
use Rattle.history_runs.proofs.HoldLaws.{run_heard}
use Rattle.history_runs.proofs.StartLaws.{borrowed, start_holds, W, fork_undo_from_empty}

module _ (parents : ℕ) (input : List ℕ) where
  -- so many more answers have room
  pub record Room (n : ℕ) (r : Run) : Type 0 where
    pub going : r.end ≡ 0
    pub numbers : r.made + n ≤ length r.popped
    pub codes : (r.made + n) * 2 ≤ length r.answers

  pub goes : (n : ℕ) (r : Run) → Room (suc n) r → may_go r ≡ true
  goes n r k =
      and_true _ _ (eq-eqb r.end 0 k.going)
      (and_true _ _ (lt-ltb r.made (length r.popped) (omega (arith, k.numbers))) (le-leb (r.made * 2 + 2) (length r.answers) (omega (arith, k.codes))))

  codes_long : (r : Run) → length (after edition_1 parents input r).answers ≡ length r.answers
  codes_long r = simp length-set

  pub room_after : (n : ℕ) (r : Run) → Room (suc n) r → Room n (after edition_1 parents input r)
  room_after n r k = record {
    going = refl;
    numbers = omega (arith, k.numbers, length-set r.popped r.made (step_of edition_1 (call_at parents input r.at) r.now).said.number);
    codes = omega (arith, k.codes, codes_long r);
  }

  -- a run of more turns than calls stand there makes them
  pub run_made : (xs : List Call) (n : ℕ) (r : Run) → length xs < n → Room (length xs) r → Stand parents input r.at xs → (runs edition_1 parents input n r).now ≡ made xs r.now
  unfolding Stand made
  run_made xs zero r h k s = absurd (omega arith)
  run_made [] (suc n) r h k s = by_room (may_go r) refl
    where
      by_room : (b : Bool) → may_go r ≡ b → (runs edition_1 parents input (suc n) r).now ≡ r.now
      by_room true e = ap (λ (y : Run). y.now) (runs_go edition_1 parents input n r e ∙ turn_stops edition_1 parents input n r s)
      by_room false e = ap (λ (y : Run). y.now) (sym (runs_stop parents input edition_1 (suc n) r e))
  run_made (x ∷ xs) (suc n) r h k s =
      let y = after edition_1 parents input r in
      let z : size_of (call_at parents input r.at) ≡ 0 → ⊥ = λ q. s.1 (ap size_of (sym s.0) ∙ q) in
      let t : Stand parents input y.at xs = subst (λ (c : Call). Stand parents input (r.at + size_of c) xs) (sym s.0) s.2 in
      ap (λ (v : Run). v.now) (runs_go edition_1 parents input n r (goes (length xs) r k) ∙ ap (runs edition_1 parents input n) (turn_goes edition_1 parents input r z))
      ∙ run_made xs n y (omega arith) (room_after (length xs) r k) t
      ∙ ap (λ (c : Call). made xs (step_of edition_1 c r.now).after) s.0

  -- a run of more turns than calls stand there has their answers, each in its place
  pub run_answers : (xs : List Call) (n : ℕ) (r : Run) → length xs < n → Room (length xs) r → Stand parents input r.at xs
      → said_from (runs edition_1 parents input n r).answers (runs edition_1 parents input n r).popped r.made (length xs) ≡ heard xs r.now
  unfolding Stand heard said_from
  run_answers [] n r h k s = refl
  run_answers (x ∷ xs) zero r h k s = absurd (omega arith)
  run_answers (x ∷ xs) (suc n) r h k s =
      let y = after edition_1 parents input r in
      let z : size_of (call_at parents input r.at) ≡ 0 → ⊥ = λ q. s.1 (ap size_of (sym s.0) ∙ q) in
      let t : Stand parents input y.at xs = subst (λ (c : Call). Stand parents input (r.at + size_of c) xs) (sym s.0) s.2 in
      let e : runs edition_1 parents input (suc n) r ≡ runs edition_1 parents input n y
      = runs_go edition_1 parents input n r (goes (length xs) r k) ∙ ap (runs edition_1 parents input n) (turn_goes edition_1 parents input r z) in
      let v = runs edition_1 parents input n y in
      let here : said_at v.answers v.popped r.made ≡ (step_of edition_1 x r.now).said
      = runs_alike parents input n y r.made (omega arith) ∙ answer_there parents input r (omega (arith, k.numbers)) (omega (arith, k.codes)) ∙ ap (λ (c : Call). (step_of edition_1 c r.now).said) s.0 in
      let there : said_from v.answers v.popped (r.made + 1) (length xs) ≡ heard xs (step_of edition_1 x r.now).after
      = run_answers xs n y (omega arith) (room_after (length xs) r k) t ∙ ap (λ (c : Call). heard xs (step_of edition_1 c r.now).after) s.0 in
      ap (λ (w : Run). said_from w.answers w.popped r.made (suc (length xs))) e ∙ (λ i. here i ∷ there i)

  -- no more calls than bytes
  pub few : (xs : List Call) (at : ℕ) → at ≤ length input → Stand parents input at xs → length xs + at ≤ length input
  unfolding Stand
  few [] at h s = omega arith
  few (x ∷ xs) at h s =
      let k : at + size_of x ≤ length input = subst (λ (c : Call). at + size_of c ≤ length input) s.0 (omega (arith, (call_sound parents input at).fits)) in
      omega (arith, few xs (at + size_of x) k s.2, positive (size_of x) s.1)
    where
      positive : (n : ℕ) → (n ≡ 0 → ⊥) → 1 ≤ n
      positive n f = omega (arith, f)

  -- the whole run, once 25 has passed, with room for the answers
  pub run_of_made : (s : State) (answers : List ℕ) (popped : List ℤ) (xs : List Call) → state_ok edition_1 parents s ≡ true → length xs ≤ length popped
      → length xs * 2 ≤ length answers → Stand parents input 0 xs → (run_of edition_1 parents input s answers popped).now ≡ made xs s
  run_of_made s answers popped xs ok numbers codes m =
      let r = start s answers popped in
      ap (λ (y : Run). y.now) (sym (run_passed parents input s answers popped ok))
      ∙ run_made xs (length input + 1) r (omega (arith, few xs 0 (omega arith) m)) (record { going = refl; numbers = omega arith; codes = omega arith }) m

  pub run_of_answers : (s : State) (answers : List ℕ) (popped : List ℤ) (xs : List Call) → state_ok edition_1 parents s ≡ true → length xs ≤ length popped
      → length xs * 2 ≤ length answers → Stand parents input 0 xs
      → said_from (run_of edition_1 parents input s answers popped).answers (run_of edition_1 parents input s answers popped).popped 0 (length xs) ≡ heard xs s
  run_of_answers s answers popped xs ok numbers codes m =
      let r = start s answers popped in
      ap (λ (y : Run). said_from y.answers y.popped 0 (length xs)) (sym (run_passed parents input s answers popped ok))
      ∙ run_answers xs (length input + 1) r (omega (arith, few xs 0 (omega arith) m)) (record { going = refl; numbers = omega arith; codes = omega arith }) m

  module _ (places : Parent → Places) (s : State) (E : Empty parents places s) (answers : List ℕ) (popped : List ℤ) (ts : List Step) (xs : List Call) where
    abbrev M : Mc.Machine
    M = W parents places s E

    abbrev out : Run
    out = run_of edition_1 parents input s answers popped

    -- what stands in the answers of the run
    abbrev answered : List Said
    answered = said_from out.answers out.popped 0 (length xs)

    -- what the theorem says of the run: what is answered of each call is what the step answers; of every undo it is what it should be; and the state at exit
    -- holds exactly what the standing calls alone give, which the answers tell
    pub record Theorem : Type 0 where
      pub said : answered ≡ map says_of (Mc.answers M (Mc.start M) ts)
      pub undos : StepsSaid parents (filled (ids_in s)) (borrowed parents places s E) places (Mc.start M) s ts xs answered
      pub agrees : Agrees parents (Mc.told [] ts (Mc.answers M (Mc.start M) ts)) out.now

    -- the fork-undo theorem of what the public function `run_calls` leaves: from an empty state, on an input whose calls spell a legal list of steps in which no
    -- two row keys in use are equal, and with room for the answers
    pub fork_undo_of_input : state_ok edition_1 parents s ≡ true → length xs ≤ length popped → length xs * 2 ≤ length answers → Stand parents input 0 xs
        → Spells parents (filled (ids_in s)) (borrowed parents places s E) places (Mc.start M) ts xs → Mc.Legal M (Mc.start M) ts → Mc.KeysApart M (Mc.InUse M (Mc.start M) ts) → Theorem
    fork_undo_of_input ok numbers codes m p l k =
        let f = fork_undo_from_empty parents places s E ts xs p l k in
        let told = run_of_answers s answers popped xs ok numbers codes m in
        record {
          said = told ∙ run_heard parents (filled (ids_in s)) (borrowed parents places s E) places ts xs (Mc.start M) s (start_holds parents places s E) p;
          undos = subst (StepsSaid parents (filled (ids_in s)) (borrowed parents places s E) places (Mc.start M) s ts xs) (sym told) f.0;
          agrees = subst (λ (cs : List ledger.Call). Agrees parents cs out.now) (standing_told M ts (Mc.start M))
              (subst (Agrees parents (Mc.run M (Mc.start M) ts).standing) (sym (run_of_made s answers popped xs ok numbers codes m)) f.1);
        }
