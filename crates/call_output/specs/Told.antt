-- What printing the lines of a run leaves.
use Rattle.std.specs.Prelude.{ℕ, ◌+◌, ◌≡◌, Bool, List, ℤ}
use Rattle.std.proofs.lemmas.List.Edits.{sets}
use Rattle.call_lines.specs.Lines.{lines_from}
use Rattle.call_input.specs.declared.Place.{Place}
use Rattle.call_input.specs.Place.{called}

-- the lines of the n answers, the first with the ordinal behind the calls made so far, stand in the output's buffer when it is handed over, and the session
-- stands behind the calls; whether all of it was written no contract tells
pub record Tells (p : Place) (bytes n end : ℕ) (answers : List ℕ) (popped : List ℤ) (out : List ℕ) (r : Place) (out' : List ℕ) : Type 0 where
  pub written : Bool
  pub place : r ≡ called p bytes n end written
  pub lines : out' ≡ sets out 0 (lines_from (p.made + 1) answers popped 0 n)
