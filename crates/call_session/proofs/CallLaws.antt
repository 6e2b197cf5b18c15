-- A run over the bytes that wait makes the calls at their front.
use Prim.Native.Nat.{ℕ, ◌+◌, ◌-◌, ◌≤◌}
use mathlib.Core.Path.{◌≡◌, refl, sym, ap, subst, ◌∙◌}
use mathlib.Core.Logic.{inl, inr, ⊎_elim}
use mathlib.Core.Bool.{Bool, true, false}
use mathlib.Core.List.{List, ◌++◌}
use native.Mathlib.Omega.{arith}
use lib.IntN.{ℤ}
use lib.ListN.{length, take, drop}
use lib.Seq.{sets, drop-drop, drop_at, take-add}
use Rattle.stores.proofs.StoreLaws.{length_part}
use Rattle.buffer_core.specs.Edition.{edition_1}
use Rattle.calls.specs.declared.Call.{Call}
use Rattle.calls.specs.declared.Call.TheVariants.{Append, Flip, Pop, Flush, Change, Bad, Cut, End}
use Rattle.calls.specs.Calls.{call_at, size_of, end_of}
use Rattle.call_steps.specs.State.{State}
use Rattle.runner.specs.Run.{Run, run_of}
use Rattle.runner.proofs.PieceLaws.{call_shifts}
use Rattle.call_input.specs.declared.Next.{Next}
use Rattle.call_input.specs.declared.Place.{Place}
use Rattle.call_input.specs.Place.{next_of, after_calls}
use Rattle.call_input.specs.Waiting.{waiting}
use Rattle.call_input.proofs.NextLaws.{runs_on, reads_on, reads_cut, ends}
use Rattle.call_output.specs.Told.{Tells}
use Rattle.call_runs.specs.Made.{Why, Ran}
use Rattle.call_runs.specs.Delivered.{code_of}
use Rattle.call_runs.proofs.RunLaws.{ran}
use Rattle.call_runs.proofs.RunRoom.{part_room}
use Rattle.call_session.specs.Session.{Front, said_lines, Makes}
use Rattle.call_session.proofs.LineLaws.{lines_said}

-- the bytes that wait once n of them are taken
pub waiting_less : (at have n : ℕ) (input : List ℕ) → at + n ≤ have → have ≤ length input → waiting (at + n) have input ≡ drop n (waiting at have input)
waiting_less at have n input h g =
    let l : List ℕ = drop at input in
    let z : have - at ≡ n + (have - (at + n)) = omega arith in
    let e : waiting at have input ≡ take n l ++ take (have - (at + n)) (drop n l) = ap (λ (j : ℕ). take j l) z ∙ take-add n (have - (at + n)) l in
    let long : length (take n l) ≡ n = length_part at n input (omega arith) in
    ap (take (have - (at + n))) (sym (drop-drop n at input))
    ∙ sym (ap (drop n) e ∙ drop_at (take n l) (take (have - (at + n)) (drop n l)) n long)

-- what stands behind the calls of a run tells what is done next
module _ (bytes : List ℕ) (s : State) where
  abbrev Fronts : Next → Type 0
  Fronts n = Front n bytes s

  by_call : (c : Call) → call_at 2 bytes 0 ≡ c → size_of c ≡ 0 → (end : ℕ) → end ≡ end_of c → Fronts (next_of end)
  by_call (Append k p n) e z end q = absurd (omega (arith, z))
  by_call (Flip d p n) e z end q = absurd (omega (arith, z))
  by_call (Pop k p) e z end q = absurd (omega (arith, z))
  by_call Flush e z end q = absurd (omega (arith, z))
  by_call (Change a p n t v) e z end q = absurd (omega (arith, z))
  by_call Bad e z end q =
      subst Fronts (ends end (λ h. omega (arith, h, q)) (λ h. omega (arith, h, q)) (λ h. omega (arith, h, q)))
      (inl (ap size_of e, q ∙ sym (ap code_of e)))
  by_call Cut e z end q = subst Fronts (reads_cut end (λ h. omega (arith, h, q)) (λ h. omega (arith, h, q)) q) (inr (e, refl))
  by_call End e z end q = subst Fronts (reads_on end (λ h. omega (arith, h, q)) q) (inl (e, refl))

  fronts : (end : ℕ) → Why 2 bytes 0 s end → Fronts (next_of end)
  fronts end = ⊎_elim
      (⊎_elim (λ e. subst Fronts (runs_on end e) tt) (λ e. by_call (call_at 2 bytes 0) refl e.0 end e.1))
      (λ e. subst Fronts (ends end (λ h. omega (arith, h, e.0)) (λ h. omega (arith, h, e.0)) (λ h. omega (arith, h, e.0))) (inr e))

  pub front_after : (written : Bool) (end : ℕ) → Why 2 bytes 0 s end → Fronts (after_calls written end)
  front_after true end w = fronts end w
  front_after false end w = tt

-- the same counted from an earlier byte
why_behind : (bytes : List ℕ) (at : ℕ) (s : State) (end : ℕ) → Why 2 bytes at s end → Why 2 (drop at bytes) 0 s end
why_behind bytes at s end =
    let z : at + 0 ≡ at = omega arith in
    let e : call_at 2 (drop at bytes) 0 ≡ call_at 2 bytes at = call_shifts bytes at 2 0 ∙ ap (call_at 2 bytes) z in
    ⊎_elim (⊎_elim (λ o. inl (inl o)) (λ w. inl (inr (ap size_of e ∙ w.0, w.1 ∙ sym (ap end_of e))))) (λ w. inr w)

-- a run over the bytes that wait, and the lines of its answers
pub run_makes : (input : List ℕ) (p : Place) (t : State) (answers : List ℕ) (popped : List ℤ) (x : Run) (out : List ℕ) (r : Place) (out' : List ℕ) → p.at ≤ p.have → p.have ≤ length input
    → length popped ≡ 1024 → x ≡ run_of edition_1 2 (waiting p.at p.have input) t answers popped → Tells p x.at x.made x.end x.answers x.popped out r out'
    → Makes input p t out r x.now out'
run_makes input p t answers popped x out r out' h g k e T =
    let bytes : List ℕ = waiting p.at p.have input in
    let room = part_room 2 p.at p.have input t answers popped x h g e in
    let R : Ran 2 bytes t x = subst (Ran 2 bytes t) (sym e) (ran 2 bytes t answers popped) in
    let less = waiting_less p.at p.have x.at input room.0 g in
    let why : Why 2 (waiting (p.at + x.at) p.have input) 0 x.now x.end
    = subst (λ (l : List ℕ). Why 2 l 0 x.now x.end) (sym less) (why_behind bytes x.at x.now x.end R.why) in
    let zero_more : p.made + 1 + 0 ≡ p.made + 1 = omega arith in
    subst (λ (y : Place). Makes input p t out y x.now out') (sym T.place)
    (record {
      calls = R.calls;
      bytes = x.at;
      few = omega (arith, room.1, k, R.many);
      stand = R.stand;
      now_is = R.now_is;
      at_is = refl;
      within = room.0;
      have_is = refl;
      made_is = ap (λ (n : ℕ). p.made + n) R.many;
      lines = T.lines ∙ ap (sets out 0) (lines_said (p.made + 1) x.answers x.popped 0 x.made ∙ (λ i. said_lines (zero_more i) (R.said i)));
      front = front_after (waiting (p.at + x.at) p.have input) x.now T.written x.end why;
    })
