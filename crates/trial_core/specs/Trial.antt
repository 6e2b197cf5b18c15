-- A trial of staging sizes with made-up forks (document 02, U12): "a simulation that takes at most 4,096 signed 32-bit steps .., n, also 0, for "a block of n
-- generated calls", -d for "a fork of d blocks", and runs them with the flush at every change". Once 25 and 38 have passed, the borrowed working buffers are all
-- zero, so that what a trial answers depends on the numbers alone.
use Rattle.std.specs.Prelude.{Bool, true, false, cond, ◌&&◌, ◌||◌, List, [], ◌∷◌, ℕ, zero, suc, ◌+◌, ◌*◌, ◌-◌, max, eqb, leb, ltb, ℤ, pos, negsuc, length, replicate, Ok, Err}
use Rattle.buffer_core.specs.declared.Direction.TheVariants.{Unspend}
use Rattle.buffer_core.specs.Edition.{Edition, edition_1}
use Rattle.buffer_core.specs.Pop.{lists}
use Rattle.calls.specs.declared.Call.{Call}
use Rattle.calls.specs.declared.Call.TheVariants.{Append, Flip, Pop, Flush, Change, Bad, Cut, End}
use Rattle.call_steps.specs.State.{State, state, parent_ids, parent_numbers}
use Rattle.call_steps.specs.Steps.{Stepping, step_of}
use Rattle.load_core.specs.declared.Source.{Source}
use Rattle.load_core.specs.Draw.{source, draws}
use Rattle.index_types.specs.Answers.{TriedForks}

-- "at most 4,096 signed 32-bit steps"
abbrev pub step_limit : ℕ
step_limit = 4096

-- "a fork deeper than 720 blocks"
abbrev pub depth_limit : ℕ
depth_limit = 720

-- which of calls and undos came last, or neither since the start: "the flush at every change"
pub data Side : Type 0 where
  neither called undid : Side

-- a standing call, and the number of the block in which it was made
pub record Stood : Type 0 where
  pub call : Call
  pub block : ℕ

-- where a trial stands: the index, the generator, the standing calls (the newest first), the blocks that stand, the side, the largest numbers so far, and what
-- each call, undo and flush answered (the newest first)
pub record Trial : Type 0 where
  pub now : State
  pub gen : Source
  pub standing : List Stood
  pub blocks : ℕ
  pub side : Side
  pub staged : ℕ
  pub deleted : ℕ
  pub answers : List ℕ

-- it goes on, or it has ended by a number
pub data Going : Type 0 where
  on : Trial → Going
  ended : ℕ → Going

abbrev pub then : Going → (Trial → Going) → Going
then (on s) f = f s
then (ended k) f = ended k

-- the largest numbers "at any one time", after a call
abbrev pub noted : Stepping → Trial → Trial
noted x s =
    record {
      now = x.after;
      gen = s.gen;
      standing = s.standing;
      blocks = s.blocks;
      side = s.side;
      staged = max s.staged x.after.lists.staged_counts.count;
      deleted = max s.deleted x.after.lists.deleted_counts.count;
      answers = x.said.code ∷ s.answers;
    }

abbrev pub with_side : Side → Trial → Trial
with_side d s = record { now = s.now; gen = s.gen; standing = s.standing; blocks = s.blocks; side = d; staged = s.staged; deleted = s.deleted; answers = s.answers }

abbrev pub with_gen : Source → Trial → Trial
with_gen g s = record { now = s.now; gen = g; standing = s.standing; blocks = s.blocks; side = s.side; staged = s.staged; deleted = s.deleted; answers = s.answers }

abbrev pub with_standing : List Stood → Trial → Trial
with_standing l s = record { now = s.now; gen = s.gen; standing = l; blocks = s.blocks; side = s.side; staged = s.staged; deleted = s.deleted; answers = s.answers }

abbrev pub with_blocks : ℕ → Trial → Trial
with_blocks n s = record { now = s.now; gen = s.gen; standing = s.standing; blocks = n; side = s.side; staged = s.staged; deleted = s.deleted; answers = s.answers }

module _ (E : Edition) (room : ℕ) where
  abbrev pub made : Call → Trial → Trial
  made c s = noted (step_of E c s.now) s

  abbrev pub code_of : Call → Trial → ℕ
  code_of c s = (step_of E c s.now).said.code

  -- "A 16, 21 or 22 during the run .. ends it with that number"
  abbrev pub ends_run : ℕ → Bool
  ends_run k = eqb k 16 || (eqb k 21 || eqb k 22)

  -- a flush that was drawn, or at a change: it never stands
  unfoldable pub flushing : Trial → Going
  flushing s = cond (eqb (code_of Flush s) 0) (on (made Flush s)) (ended (code_of Flush s))

  abbrev pub changes : Side → Side → Bool
  changes neither d = false
  changes called called = false
  changes called undid = true
  changes called neither = false
  changes undid undid = false
  changes undid called = true
  changes undid neither = false

  -- directly before a call or an undo of the other side
  unfoldable pub change_to : Side → Trial → Going
  change_to d s = then (cond (changes s.side d) (flushing s) (on s)) (λ t. on (with_side d t))

  -- "40 for an accepted append or spend when the lent list of standing calls is full"
  unfoldable pub stands : Call → Trial → Going
  stands c s = cond (ltb (length s.standing) room) (on (with_standing (record { call = c; block = s.blocks } ∷ s.standing) s)) (ended 40)

  -- an append or a spend: accepted it stands; 14, 15 and the like go on
  unfoldable pub calling : Call → Trial → Going
  calling c s = cond (eqb (code_of c s) 0) (stands c (made c s)) (cond (ends_run (code_of c s)) (ended (code_of c s)) (on (made c s)))

  abbrev pub make : Call → Trial → Going
  make Flush s = flushing s
  make (Append k p z) s = then (change_to called s) (calling (Append k p z))
  make (Flip d p z) s = then (change_to called s) (calling (Flip d p z))
  make (Pop k p) s = on s
  make (Change a p n t v) s = on s
  make Bad s = on s
  make Cut s = on s
  make End s = on s

  -- n generated calls
  unfoldable pub block_of : ℕ → Trial → Going
  block_of zero s = on s
  block_of (suc n) s = then (make (draws s.gen).call (with_gen (draws s.gen).next s)) (block_of n)

  -- the undo of a call: pop or unspend
  abbrev pub undo_of : Call → Call
  undo_of (Append k p z) = Pop k p
  undo_of (Flip d p z) = Flip Unspend p z
  undo_of (Pop k p) = End
  undo_of Flush = End
  undo_of (Change a p n t v) = End
  undo_of Bad = End
  undo_of Cut = End
  undo_of End = End

  -- "or any refusal of an undo, ends it with that number"
  unfoldable pub undoing : Call → Trial → Going
  undoing c s = cond (eqb (code_of (undo_of c) s) 0) (on (made (undo_of c) s)) (ended (code_of (undo_of c) s))

  -- "A fork undoes the standing calls of its blocks": those of block number n and above, the newest first
  unfoldable pub back_to : ℕ → List Stood → Trial → Going
  back_to n [] s = on s
  back_to n (x ∷ l) s = cond (leb n x.block) (then (then (change_to undid s) (undoing x.call)) (λ t. back_to n l (with_standing l t))) (on s)

  -- "39 for a fork deeper than 720 blocks or deeper than the blocks still standing, tested before its flush"
  unfoldable pub fork_of : ℕ → Trial → Going
  fork_of d s = cond (leb d depth_limit && leb d s.blocks) (then (back_to (s.blocks - d) s.standing s) (λ t. on (with_blocks (s.blocks - d) t))) (ended 39)

  abbrev pub step_to : ℤ → Trial → Going
  step_to (pos n) s = then (block_of n s) (λ t. on (with_blocks (t.blocks + 1) t))
  step_to (negsuc d) s = fork_of (suc d) s

  unfoldable pub steps_to : List ℤ → Trial → Going
  steps_to [] s = on s
  steps_to (z ∷ zs) s = then (step_to z s) (steps_to zs)

-- all buffers zero, every count 0: the parent's id is 32 zeros
abbrev pub zero_state : (table staged deleted : ℕ) → State
zero_state T S D =
    state (replicate parent_ids 0) (replicate parent_numbers (pos 0)) (replicate 3 0) (replicate 2 (pos 0))
    (lists (record { count = 0; capacity = S }) (replicate (S * edition_1.size) 0) (record { count = 0; capacity = T }) (replicate (T * edition_1.size) 0) (record { count = 0; capacity = D }) (replicate (D * 32) 0))

abbrev pub start : (x table staged deleted : ℕ) → Trial
start x T S D = record { now = zero_state T S D; gen = source x 0 0; standing = []; blocks = 0; side = neither; staged = 0; deleted = 0; answers = [] }

abbrev pub figures : Going → TriedForks
figures (on s) = Ok (s.staged, s.deleted)
figures (ended k) = Err k

abbrev pub run_of : (x : ℕ) → List ℤ → (table staged deleted room : ℕ) → Going
run_of x zs T S D room = steps_to edition_1 room zs (start x T S D)

-- 38, then the run
unfoldable pub tried : (x : ℕ) → List ℤ → (table staged deleted room : ℕ) → TriedForks
tried x zs T S D room = cond (eqb x 0) (Err 38) (figures (run_of x zs T S D room))
