-- What the contracts of a trial's blocks and forks ask and promise.
use Rattle.std.specs.Prelude.{ℕ, ◌+◌, ◌*◌, ◌≤◌, ◌≡◌, List, ℤ, length}
use Rattle.buffer_core.specs.Edition.{edition_1}
use Rattle.call_steps.specs.State.{State, Ready}
use Rattle.load_core.specs.declared.Source.{Source}
use Rattle.trial_core.specs.Trial.{step_limit, block_of, back_to, step_to, steps_to}
use Rattle.standing_calls.specs.declared.TrialState.{TrialState}
use Rattle.standing_calls.specs.Stands.{standing_of, StandReady}
use Rattle.trial_steps.specs.Held.{Held, trial_of, Goes}

-- half of what 64 signed bits count, so that as much may follow
abbrev pub count_limit : ℕ
count_limit = 4611686018427387904

-- the generator's counts after n calls more are within 64 signed bits
pub record Countable (n : ℕ) (g : Source) : Type 0 where
  pub boxes : g.boxes + n ≤ count_limit
  pub txs : g.txs + n ≤ count_limit

-- they grow by 1 at most with a call
pub record Grown (n : ℕ) (g g' : Source) : Type 0 where
  pub boxes : g'.boxes ≤ g.boxes + n
  pub txs : g'.txs ≤ g.txs + n

pub record BlockReady (n room number : ℕ) (g : Source) (stood end : ℕ) (l : List ℤ) (s : State) : Type 0 where
  pub ready : Ready 1 s
  pub stands : StandReady room number stood l
  pub countable : Countable n g
  pub going : end ≡ 0

-- a block of n calls
pub record BlockBy (n room number : ℕ) (g : Source) (h : Held) (l : List ℤ) (g' : Source) (h' : Held) (l' : List ℤ) : Type 0 where
  pub few : h'.stood ≤ room
  pub grown : Grown n g g'
  pub goes : (answers : List ℕ)
      → Goes h' (standing_of h'.stood l') g' number (block_of edition_1 room n (trial_of h (standing_of h.stood l) g number answers))

pub record ForkReady (stood end : ℕ) (l : List ℤ) (s : State) : Type 0 where
  pub ready : Ready 1 s
  pub long : stood * 3 ≤ length l
  pub going : end ≡ 0

-- the undos of a fork, of the calls from the block `lowest` on
pub record ForkBy (lowest : ℕ) (h : Held) (l : List ℤ) (h' : Held) : Type 0 where
  pub few : h'.end ≡ 0 → h'.stood ≤ h.stood
  pub goes : (room : ℕ) (g : Source) (b : ℕ) (answers : List ℕ)
      → Goes h' (standing_of h'.stood l) g b (back_to edition_1 room lowest (standing_of h.stood l) (trial_of h (standing_of h.stood l) g b answers))

-- ---- one step, and the steps one after the other

-- a step is of 32 bits, so a block has fewer calls than 2^31
abbrev pub call_limit : ℕ
call_limit = 2147483648

pub record TurnReady (room : ℕ) (g : Source) (b stood end : ℕ) (l : List ℤ) (s : State) : Type 0 where
  pub ready : Ready 1 s
  pub stands : StandReady room b stood l
  pub countable : Countable call_limit g
  pub going : end ≡ 0

pub record TurnBy (room : ℕ) (z : ℤ) (g : Source) (b : ℕ) (h : Held) (l : List ℤ) (g' : Source) (b' : ℕ) (h' : Held) (l' : List ℤ) : Type 0 where
  pub few : h'.end ≡ 0 → h'.stood ≤ room
  pub grown : Grown call_limit g g'
  pub blocks : b' ≤ b + 1
  pub goes : (answers : List ℕ)
      → Goes h' (standing_of h'.stood l') g' b' (step_to edition_1 room z (trial_of h (standing_of h.stood l) g b answers))

abbrev pub ended_by : ℕ → TrialState → TrialState
ended_by k t = record { counts = t.counts; side = t.side; stood = t.stood; staged = t.staged; deleted = t.deleted; end = k }

-- at the start of a trial
pub record RunReady (steps room : ℕ) (g : Source) (b stood end : ℕ) (l : List ℤ) (s : State) : Type 0 where
  pub ready : Ready 1 s
  pub stands : StandReady room b stood l
  pub short : steps ≤ step_limit
  pub boxes : g.boxes ≡ 0
  pub txs : g.txs ≡ 0
  pub blocks : b ≡ 0
  pub going : end ≡ 0

pub record RunBy (room : ℕ) (zs : List ℤ) (g : Source) (b : ℕ) (h : Held) (l : List ℤ) (g' : Source) (b' : ℕ) (h' : Held) (l' : List ℤ) : Type 0 where
  pub goes : (answers : List ℕ)
      → Goes h' (standing_of h'.stood l') g' b' (steps_to edition_1 room zs (trial_of h (standing_of h.stood l) g b answers))
