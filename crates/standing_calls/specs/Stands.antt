-- Where a trial stands (document 02, U12), as the code keeps it: the side, the largest numbers, and the standing calls as numbers in a borrowed list.
use Rattle.std.specs.Prelude.{ℕ, zero, suc, ◌+◌, ◌*◌, ◌≤◌, ◌<◌, max, ◌≡◌, Bool, true, false, cond, List, [], ◌∷◌, eqb, ltb, ℤ, pos, nat_abs, length, set, get_or}
use Rattle.index_types.specs.declared.SpillCounts.{SpillCounts}
use Rattle.segment_id.specs.declared.Kind.TheVariants.{Box, Tx}
use Rattle.buffer_core.specs.declared.Direction.TheVariants.{Spend}
use Rattle.buffer_core.specs.Edition.{edition_1}
use Rattle.calls.specs.declared.Call.{Call}
use Rattle.calls.specs.declared.Call.TheVariants.{Append, Flip, Pop, Flush, Change, Bad, Cut, End}
use Rattle.trial_core.specs.Trial.{Side, neither, called, undid, Stood, ends_run}
use Rattle.standing_calls.specs.declared.Side.{Side as DeclaredSide}
use Rattle.standing_calls.specs.declared.Side.TheVariants as declared
use Rattle.standing_calls.specs.declared.TrialState.{TrialState}
use Rattle.standing_calls.specs.declared.Standing.{Standing}

abbrev pub side_of : DeclaredSide → Side
side_of declared.Neither = neither
side_of declared.Called = called
side_of declared.Undid = undid

-- "the largest number of staged rows and of deleted keys at any one time": after a call, with what it said
abbrev pub noted_state : SpillCounts → ℕ → TrialState → TrialState
noted_state n k t =
    record {
      counts = n;
      side = t.side;
      stood = t.stood;
      staged = max t.staged n.staged.count;
      deleted = max t.deleted n.deleted.count;
      end = k;
    }

-- ---- standing calls: three numbers each, which are 0 for a box, 1 for a transaction and 2 for a spend; the call's number; its block

abbrev pub stood_kind : Call → ℕ
stood_kind (Append Box p z) = 0
stood_kind (Append Tx p z) = 1
stood_kind (Flip d p z) = 2
stood_kind (Pop k p) = 3
stood_kind Flush = 3
stood_kind (Change a p n t v) = 3
stood_kind Bad = 3
stood_kind Cut = 3
stood_kind End = 3

abbrev pub stood_number : Call → ℤ
stood_number (Append k p z) = z
stood_number (Flip d p z) = z
stood_number (Pop k p) = pos 0
stood_number Flush = pos 0
stood_number (Change a p n t v) = pos 0
stood_number Bad = pos 0
stood_number Cut = pos 0
stood_number End = pos 0

abbrev pub stood_call : ℕ → ℤ → Call
stood_call k z = cond (eqb k 0) (Append Box 0 z) (cond (eqb k 1) (Append Tx 0 z) (Flip Spend 0 z))

abbrev pub stood : Call → ℕ → Stood
stood c b = record { call = c; block = b }

abbrev pub stood_at : ℕ → List ℤ → Stood
stood_at i l = stood (stood_call (nat_abs (get_or l (i * 3) (pos 0))) (get_or l (i * 3 + 1) (pos 0))) (nat_abs (get_or l (i * 3 + 2) (pos 0)))

-- n standing calls, the newest first
unfoldable pub standing_of : ℕ → List ℤ → List Stood
standing_of zero l = []
standing_of (suc n) l = stood_at n l ∷ standing_of n l

-- a call written behind n standing ones
abbrev pub with_stood : Call → (block n : ℕ) → List ℤ → List ℤ
with_stood c b n l = set (set (set l (n * 3) (pos (stood_kind c))) (n * 3 + 1) (stood_number c)) (n * 3 + 2) (pos b)

-- ---- a drawn flush never stands
abbrev pub is_flush : Call → Bool
is_flush (Append k p z) = false
is_flush (Flip d p z) = false
is_flush (Pop k p) = false
is_flush Flush = true
is_flush (Change a p n t v) = false
is_flush Bad = false
is_flush Cut = false
is_flush End = false

-- a 64-bit signed number is below 2^63
abbrev pub number_limit : ℕ
number_limit = 9223372036854775808

-- ---- what becomes of the standing calls
abbrev pub stand : (stood end : ℕ) → Standing
stand n k = record { stood = n; end = k }

abbrev pub stand_of : (room stood code : ℕ) → Standing
stand_of room n k = cond (eqb k 0) (cond (ltb n room) (stand (n + 1) 0) (stand n 40)) (cond (ends_run edition_1 room k) (stand n k) (stand n 0))

abbrev pub standing_with : (room stood code : ℕ) → Stood → List Stood → List Stood
standing_with room n k x l = cond (eqb k 0) (cond (ltb n room) (x ∷ l) l) l

pub record StandReady (room block n : ℕ) (l : List ℤ) : Type 0 where
  pub few : n ≤ room
  pub long : room * 3 ≤ length l
  pub small : block < number_limit

pub record StandsBy (room block : ℕ) (c : Call) (n code : ℕ) (l : List ℤ) (r : Standing) (l' : List ℤ) : Type 0 where
  pub answer : r ≡ stand_of room n code
  pub standing : standing_of r.stood l' ≡ standing_with room n code (stood (stood_call (stood_kind c) (stood_number c)) block) (standing_of n l)
