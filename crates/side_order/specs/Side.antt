-- The entries of one kind that an address holds (document 02, U14): "the signed box entries of spills and head as one list, then the transaction entries".
-- "A negative count or a row that a pop would refuse gets the pop's number, .. spill 0 up".
use Rattle.std.specs.Prelude.{ℕ, cond, List, [], ◌∷◌, ℤ, nat_abs}
use Rattle.signed.specs.Sign.{is_negative}
use Rattle.segment_id.specs.declared.Kind.{Kind}
use Rattle.buffer_core.specs.Edition.{Edition, RowRead, bad, good}
use Rattle.buffer_core.specs.Spills.{Sources, spill_read}
use Rattle.buffer_core.specs.Rows.{then_rows, rows_up}

-- a row as a pop takes it: 20 where it has no number of the kind
abbrev pub taken_row : RowRead → RowRead
taken_row (bad code) = bad code
taken_row (good []) = bad 20
taken_row (good (z ∷ zs)) = good (z ∷ zs)

module _ (E : Edition) where
  -- the row of a spill number
  abbrev pub row_taken : Kind → Sources → ℕ → RowRead
  row_taken kind w n = taken_row (spill_read E kind w n)

  -- 11, then the rows from spill 0 up, then the numbers of the head
  unfoldable pub side_of : Kind → Sources → (spills : ℤ) → (head : List ℤ) → RowRead
  side_of kind w spills head = cond (is_negative spills) (bad 11) (then_rows (rows_up (row_taken kind w) 0 (nat_abs spills)) (good head))

-- the entries that were read
abbrev pub numbers_in : RowRead → List ℤ
numbers_in (good zs) = zs
numbers_in (bad code) = []
