-- What the code of a trial keeps (document 02, U12), and how it stands to the trial of the definition: the standing calls are numbers in a borrowed list, and what
-- each call answered is not kept.
use Rattle.std.specs.Prelude.{ℕ, ◌*◌, ◌-◌, ◌≤◌, ◌<◌, max, ◌≡◌, List, ℤ, length}
use Rattle.buffer_core.specs.declared.Direction.TheVariants.{Spend}
use Rattle.buffer_core.specs.Edition.{edition_1}
use Rattle.calls.specs.declared.Call.{Call}
use Rattle.calls.specs.declared.Call.TheVariants.{Append, Flip, Pop, Flush, Change, Bad, Cut, End}
use Rattle.call_steps.specs.State.{State, state, Ready}
use Rattle.call_steps.specs.Steps.{lists_with, step_of}
use Rattle.load_core.specs.declared.Source.{Source}
use Rattle.trial_core.specs.Trial.{Side, undid, Stood, Trial, Going, on, ended, then, change_to, make, undoing}
use Rattle.standing_calls.specs.declared.TrialState.{TrialState}
use Rattle.standing_calls.specs.Stands.{side_of, stood_at, standing_of, StandReady}

-- ---- the calls that a generator draws: appends and spends of parent 0, and flushes
abbrev pub Drawable : Call → Type 0
Drawable (Append k p z) = p ≡ 0
Drawable (Flip d p z) = (d ≡ Spend) × (p ≡ 0)
Drawable (Pop k p) = ⊥
Drawable Flush = Unit {0}
Drawable (Change a p n t v) = ⊥
Drawable Bad = ⊥
Drawable Cut = ⊥
Drawable End = ⊥

-- ---- what the code keeps beside the generator and the number of the block
pub record Held : Type 0 where
  pub now : State
  pub side : Side
  pub stood : ℕ
  pub staged : ℕ
  pub deleted : ℕ
  pub end : ℕ

abbrev pub held_at : State → Side → (stood staged deleted end : ℕ) → Held
held_at s d n a b k = record { now = s; side = d; stood = n; staged = a; deleted = b; end = k }

abbrev pub held : TrialState → (ids : List ℕ) → (numbers : List ℤ) → (lengths : List ℕ) → (spills : List ℤ) → (staged table deleted : List ℕ) → Held
held t ids numbers lengths spills staged table deleted =
    held_at (state ids numbers lengths spills (lists_with t.counts staged table deleted)) (side_of t.side) t.stood t.staged t.deleted t.end

-- the definition's trial with what the code keeps
abbrev pub trial_of : Held → List Stood → Source → ℕ → List ℕ → Trial
trial_of h l g b answers =
    record { now = h.now; gen = g; standing = l; blocks = b; side = h.side; staged = h.staged; deleted = h.deleted; answers = answers }

-- the code is where the definition is: it goes on, or it has ended by the same number
abbrev pub Goes : Held → List Stood → Source → ℕ → Going → Type 0
Goes h l g b (on t) = (h.end ≡ 0) × Ready 1 h.now × (t ≡ trial_of h l g b t.answers)
Goes h l g b (ended k) = (h.end ≡ k) × (k ≡ 0 → ⊥)

-- ---- one call on the index
abbrev pub made_held : Call → Held → Held
made_held c h =
    let x = step_of edition_1 c h.now in
    held_at x.after h.side h.stood (max h.staged x.after.lists.staged_counts.count) (max h.deleted x.after.lists.deleted_counts.count) x.said.code

-- ---- the flush at a change
pub record Changed (d : Side) (h h' : Held) : Type 0 where
  pub stood : h'.stood ≡ h.stood
  pub goes : (room : ℕ) (l : List Stood) (g : Source) (b : ℕ) (answers : List ℕ) → Goes h' l g b (change_to edition_1 room d (trial_of h l g b answers))

-- ---- a drawn call
pub record MakeReady (room block : ℕ) (c : Call) (n : ℕ) (l : List ℤ) (s : State) : Type 0 where
  pub ready : Ready 1 s
  pub stands : StandReady room block n l
  pub drawable : Drawable c

pub record MakesBy (room block : ℕ) (c : Call) (h : Held) (l : List ℤ) (h' : Held) (l' : List ℤ) : Type 0 where
  pub few : h'.stood ≤ room
  pub goes : (g : Source) (answers : List ℕ)
      → Goes h' (standing_of h'.stood l') g block (make edition_1 room c (trial_of h (standing_of h.stood l) g block answers))

-- ---- an undo of the newest standing call
pub record UndoReady (n : ℕ) (l : List ℤ) (s : State) : Type 0 where
  pub ready : Ready 1 s
  pub some : 0 < n
  pub long : n * 3 ≤ length l

pub record UndoesBy (h : Held) (l : List ℤ) (h' : Held) : Type 0 where
  pub stood : h'.end ≡ 0 → h'.stood ≡ h.stood - 1
  pub goes : (room : ℕ) (k : List Stood) (g : Source) (b : ℕ) (answers : List ℕ)
      → Goes h' k g b (then (change_to edition_1 room undid (trial_of h k g b answers)) (undoing edition_1 room (stood_at (h.stood - 1) l).call))
