-- The answers of a run stand where it wrote them.
use mathlib.Core.Path.{◌≡◌, refl, ap, ◌∙◌}
use mathlib.Core.Bool.{Bool, true, false}
use mathlib.Core.List.{List}
use Prim.Native.Nat.{ℕ, zero, suc, ◌+◌, ◌*◌, ◌≤◌, ◌<◌}
use native.Mathlib.Omega.{arith}
use lib.Dec.{eqb}
use lib.IntN.{pos}
use lib.ListN.{length, set, length-set}
use lib.Seq.{get_or-set_same, get_or-set_other}
use borrow.Author.Tests.{eq-eqb, ne_eqb}
use Rattle.buffer_core.specs.Edition.{edition_1}
use Rattle.calls.specs.Calls.{call_at, size_of}
use Rattle.call_steps.specs.Steps.{step_of}
use Rattle.buffer_core.proofs.RefusedLaws.{both}
use Rattle.run_answers.specs.Answers.{flag}
use Rattle.runner.specs.Run.{Run, may_go, turn_of, runs}
use Rattle.runner.proofs.PieceLaws.{after}
use Rattle.call_runs.specs.Made.{is_one, said_at}

module _ (parents : ℕ) (input : List ℕ) where
  abbrev pub Alike : ℕ → Run → Run → Type 0
  Alike i x y = said_at x.answers x.popped i ≡ said_at y.answers y.popped i

  answered_alike : (r : Run) (i : ℕ) → i < r.made → Alike i (after edition_1 parents input r) r
  answered_alike r i h =
      let a = (step_of edition_1 (call_at parents input r.at) r.now).said in
      let m = r.made in
      let l = set r.answers (m * 2) a.code in
      let code = get_or-set_other l (m * 2 + 1) (i * 2) (flag a.popped) 0 (λ e. omega (arith, e)) ∙ get_or-set_other r.answers (m * 2) (i * 2) a.code 0 (λ e. omega (arith, e)) in
      let mark = get_or-set_other l (m * 2 + 1) (i * 2 + 1) (flag a.popped) 0 (λ e. omega (arith, e)) ∙ get_or-set_other r.answers (m * 2) (i * 2 + 1) a.code 0 (λ e. omega (arith, e)) in
      let number = get_or-set_other r.popped m i a.number (pos 0) (λ e. omega (arith, e)) in
      λ j. record { code = code j; popped = is_one (mark j); number = number j }

  turn_alike : (r : Run) (i : ℕ) → i < r.made → Alike i (turn_of edition_1 parents input r) r × (r.made ≤ (turn_of edition_1 parents input r).made)
  unfolding turn_of
  turn_alike r i h =
      both (λ (x : Run). Alike i x r × (r.made ≤ x.made)) (eqb (size_of (call_at parents input r.at)) 0) (refl, omega arith) (answered_alike r i h, omega arith)

  pub runs_alike : (n : ℕ) (r : Run) (i : ℕ) → i < r.made → Alike i (runs edition_1 parents input n r) r
  unfolding runs
  runs_alike zero r i h = refl
  runs_alike (suc n) r i h =
      let t = turn_alike r i h in
      both (λ (x : Run). Alike i x r) (may_go r) (runs_alike n (turn_of edition_1 parents input r) i (omega (arith, t.1)) ∙ t.0) refl

  one_flag : (b : Bool) → is_one (flag b) ≡ b
  one_flag true = eq-eqb 1 1 refl
  one_flag false = ne_eqb 0 1 (λ e. omega (arith, e))

  pub answer_there : (r : Run) → r.made < length r.popped → r.made * 2 + 2 ≤ length r.answers
      → said_at (after edition_1 parents input r).answers (after edition_1 parents input r).popped r.made ≡ (step_of edition_1 (call_at parents input r.at) r.now).said
  answer_there r h k =
      let a = (step_of edition_1 (call_at parents input r.at) r.now).said in
      let m = r.made in
      let l = set r.answers (m * 2) a.code in
      let code = get_or-set_other l (m * 2 + 1) (m * 2) (flag a.popped) 0 (λ e. omega (arith, e)) ∙ get_or-set_same r.answers (m * 2) a.code 0 (omega arith) in
      let mark = ap is_one (get_or-set_same l (m * 2 + 1) (flag a.popped) 0 (omega (arith, length-set r.answers (m * 2) a.code))) ∙ one_flag a.popped in
      let number = get_or-set_same r.popped m a.number (pos 0) h in
      λ j. record { code = code j; popped = mark j; number = number j }
