-- How far a run comes: not past the end of the input, and not further than its answers have room.
use Prim.Native.Nat.{ℕ, zero, suc, ◌+◌, ◌*◌, ◌-◌, ◌≤◌, ◌<◌}
use mathlib.Core.Path.{◌≡◌, refl}
use mathlib.Core.Bool.{Bool, true, false, cond}
use mathlib.Core.List.{List}
use native.Mathlib.Omega.{arith}
use lib.Dec.{eqb, ltb}
use lib.IntN.{ℤ}
use lib.ListN.{length, take, drop, length-set}
use borrow.Author.Tests.{leb-true, ltb-true}
use Rattle.stores.proofs.StoreLaws.{length_part}
use Rattle.records.proofs.CheckLaws.{and_left, and_right}
use Rattle.buffer_core.specs.Edition.{edition_1}
use Rattle.calls.specs.declared.Call.{Call}
use Rattle.calls.specs.Calls.{call_at, size_of}
use Rattle.calls.proofs.CallLaws.{call_sound}
use Rattle.call_steps.specs.State.{State, state_ok}
use Rattle.call_steps.specs.Steps.{step_of}
use Rattle.runner.specs.Run.{Run, run_at, may_go, ended, answered, turn_of, runs, start, closed, run_of}

module _ (parents : ℕ) (input : List ℕ) (room places : ℕ) where
  -- of answers in `room` bytes and `places` numbers
  pub record Bounded (r : Run) : Type 0 where
    pub within : r.at ≤ length input
    pub few : r.made ≤ places
    pub answered_in : r.made * 2 ≤ room
    pub room_is : length r.answers ≡ room
    pub places_are : length r.popped ≡ places

  module _ (r : Run) (b : Bounded r) (e : may_go r ≡ true) where
    room_left : (r.made < length r.popped) × (r.made * 2 + 2 ≤ length r.answers)
    room_left =
        let t = and_right (eqb r.end 0) _ e in (
          ltb-true r.made (length r.popped) (and_left _ _ t),
          leb-true (r.made * 2 + 2) (length r.answers) (and_right (ltb r.made (length r.popped)) _ t),
        )

    called_bounded : (c : Call) → size_of c ≤ length input - r.at → (q : Bool) → Bounded (cond q (ended c r) (answered (size_of c) (step_of edition_1 c r.now) r))
    called_bounded c h true =
        record { within = b.within; few = b.few; answered_in = b.answered_in; room_is = b.room_is; places_are = b.places_are }
    called_bounded c h false =
        record {
          within = omega (arith, h, b.within);
          few = omega (arith, room_left.0, b.places_are);
          answered_in = omega (arith, room_left.1, b.room_is);
          room_is = simp length-set b.room_is;
          places_are = simp length-set b.places_are;
        }

    turn_bounded : Bounded (turn_of edition_1 parents input r)
    unfolding turn_of
    turn_bounded =
        called_bounded (call_at parents input r.at) (call_sound parents input r.at).fits (eqb (size_of (call_at parents input r.at)) 0)

  runs_bounded : (n : ℕ) (r : Run) → Bounded r → Bounded (runs edition_1 parents input n r)
  unfolding runs
  runs_bounded zero r b = b
  runs_bounded (suc n) r b = by_room (may_go r) (λ e. runs_bounded n (turn_of edition_1 parents input r) (turn_bounded r b e)) refl
    where
      by_room : (q : Bool) → (may_go r ≡ true → Bounded (runs edition_1 parents input n (turn_of edition_1 parents input r))) → may_go r ≡ q
          → Bounded (cond q (runs edition_1 parents input n (turn_of edition_1 parents input r)) r)
      by_room true more e = more e
      by_room false more e = b

pub run_bounded : (parents : ℕ) (input : List ℕ) (s : State) (answers : List ℕ) (popped : List ℤ)
    → Bounded parents input (length answers) (length popped) (run_of edition_1 parents input s answers popped)
unfolding run_of
run_bounded parents input s answers popped = by_state (state_ok edition_1 parents s)
  where
    at_start : (end : ℕ) → Bounded parents input (length answers) (length popped) (run_at s 0 0 end answers popped)
    at_start end = record { within = omega arith; few = omega arith; answered_in = omega arith; room_is = refl; places_are = refl }

    by_state : (q : Bool)
        → Bounded parents input (length answers) (length popped)
        (cond q (closed (length input) (runs edition_1 parents input (length input + 1) (start s answers popped))) (run_at s 0 0 25 answers popped))
    by_state true =
        let b = runs_bounded parents input (length answers) (length popped) (length input + 1) (start s answers popped) (at_start 0) in
        record { within = b.within; few = b.few; answered_in = b.answered_in; room_is = b.room_is; places_are = b.places_are }
    by_state false = at_start 25

-- the same of a run over a part of the input
pub part_room : (parents at have : ℕ) (input : List ℕ) (s : State) (answers : List ℕ) (popped : List ℤ) (x : Run) → at ≤ have → have ≤ length input
    → x ≡ run_of edition_1 parents (take (have - at) (drop at input)) s answers popped → (at + x.at ≤ have) × (x.made ≤ length popped)
part_room parents at have input s answers popped x h k e =
    let part : List ℕ = take (have - at) (drop at input) in
    let b = run_bounded parents part s answers popped in
    let n = length_part at (have - at) input (omega arith) in
    rw e (omega (arith, b.within, n), b.few)
