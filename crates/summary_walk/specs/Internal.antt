-- What the steps of the walk over a summary answer and leave.
use Rattle.std.specs.Prelude.{ℕ, ◌≡◌, Bool, true, false, List}
use Rattle.index_types.specs.declared.ListCounts.{ListCounts}
use Rattle.index_types.specs.declared.RowEdition.{RowEdition}
use Rattle.index_types.specs.Answers.{Flipped}
use Rattle.buffer_core.specs.declared.Look.{Look}
use Rattle.buffer_core.specs.declared.Look.TheVariants as look
use Rattle.buffer_core.specs.declared.Walk.{Walk}
use Rattle.buffer_core.specs.Edition.{edition_of}
use Rattle.buffer_core.specs.Spills.{Sources}
use Rattle.buffer_core.specs.Flip.{walk_by}
use Rattle.summary_core.specs.Flip.{after_lines}
use Rattle.summary_take.specs.Internal.{StagesLines}
use Rattle.summary_walk.specs.declared.Tried.{Tried}
use Rattle.summary_walk.specs.declared.Tried.TheVariants.{Ended, Stop, Next}

-- a row without an entry to take
abbrev pub past : (ends seen : Bool) → Tried
past true seen = Stop seen
past false seen = Next seen

-- line n shows x, and that came to t: either the call ends there, with what the walk then comes to, or nothing was changed
pub record Tries (v : RowEdition) (w : Sources) (x : Look) (n : ℕ) (c : ListCounts) (staged S : List ℕ) (t : Tried) (staged' S' : List ℕ) : Type 0 where
  pub ended : (f : Flipped) → t ≡ Ended f → (seen : Bool) (rest : Bool → Walk)
      → StagesLines v (after_lines (edition_of v) w c.capacity S (walk_by x n seen rest)) c staged f staged' S'
  pub stops : (s : Bool) → t ≡ Stop s → (x ≡ look.Stop s) × (staged' ≡ staged) × (S' ≡ S)
  pub goes_on : (s : Bool) → t ≡ Next s → (x ≡ look.Next s) × (staged' ≡ staged) × (S' ≡ S)
