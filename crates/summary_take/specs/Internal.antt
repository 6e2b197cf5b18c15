-- What the steps of a spend or an unspend with a summary answer and leave.
use Rattle.std.specs.Prelude.{ℕ, ◌≡◌, Bool, true, false, List, ℤ, Ok, Err}
use Rattle.index_types.specs.declared.ListCounts.{ListCounts}
use Rattle.index_types.specs.declared.RowEdition.{RowEdition}
use Rattle.index_types.specs.Answers.{Flipped}
use Rattle.buffer_core.specs.Edition.{edition_of}
use Rattle.buffer_core.specs.Flip.{Effect, flipping}
use Rattle.summary_core.specs.Lines.{WithSummary, with_summary}
use Rattle.summary_core.specs.Flip.{done_lines}

-- whether a row was staged
abbrev pub is_done : Flipped → Bool
is_done (Ok c) = true
is_done (Err code) = false

-- the answer r, the staged spills and the summary at exit are what the effect and the summary after it say of them, and every head is left
abbrev pub StagesLines : RowEdition → WithSummary Effect → ListCounts → (staged : List ℕ) → Flipped → (staged' S' : List ℕ) → Type 0
StagesLines v x c staged r staged' S' = (head : List ℤ) → with_summary (flipping r head staged') S' ≡ done_lines (edition_of v) x c head staged
