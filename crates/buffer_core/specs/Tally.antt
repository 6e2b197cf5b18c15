-- Tally (document 01, "Beside the spend"): "over rows and head, .. 10, 11, then every row from spill 0 up is checked as in a spend"; its three figures are
-- document 02's, U4.
use Rattle.std.specs.Prelude.{cond, List, ◌++◌, ℕ, ℤ, nat_abs, take, Ok, Err}
use Rattle.signed.specs.Sign.{is_negative}
use Rattle.entries.specs.Order.{order_ok}
use Rattle.entries.specs.Tally.{figures}
use Rattle.index_types.specs.declared.ListCounts.{ListCounts}
use Rattle.index_types.specs.declared.HeadCounts.{HeadCounts}
use Rattle.index_types.specs.Answers.{Tallied}
use Rattle.buffer_core.specs.Edition.{Edition, RowRead, bad, good}
use Rattle.buffer_core.specs.Spills.{Sources, sources}
use Rattle.buffer_core.specs.Rows.{rows_up}
use Rattle.buffer_core.specs.Flip.{row_checked, flip_ok}

-- the entries of the rows, then those of the head
abbrev pub tally_over : RowRead → List ℤ → Tallied
tally_over (bad code) zs = Err code
tally_over (good rows) zs = Ok (figures (rows ++ zs))

module _ (E : Edition) where
  -- 10, 11, then the rows; zs are the numbers of the head
  unfoldable pub tally_core : Sources → (spills : ℤ) → List ℤ → Tallied
  tally_core w spills zs =
      cond (order_ok zs)
      (cond (is_negative spills) (Err 11) (tally_over (rows_up (row_checked E w) 0 (nat_abs spills)) zs))
      (Err 10)

  unfoldable pub tally_of : (parent : List ℕ) → HeadCounts → ListCounts → (staged : List ℕ) → ListCounts → (table : List ℕ) → List ℤ → Tallied
  tally_of parent h c staged e table head =
      cond (flip_ok E h c staged e table head)
      (tally_core (sources parent staged c.count table e.count) h.spills (take h.len head))
      (Err 25)
