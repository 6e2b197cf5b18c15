-- Small calls of the index with summaries, computed: which summary a call writes, and what. Rows are those of `buffer_core`, SmallCalls: one byte, 512 times the
-- number 5, the first of them spent where the byte is not 0.
use mathlib.Core.Path.{◌≡◌, refl}
use mathlib.Core.List.{List, [], ◌∷◌, ◌++◌}
use Prim.Native.Nat.{ℕ}
use native.Mathlib.Decide.{ℕ_discrete}
use lib.IntN.{pos}
use lib.ListN.{replicate}
use Rattle.stores.specs.Stores.{write}
use Rattle.stores.specs.Equal.{same_bytes}
use Rattle.entries.specs.Tally.{how_many}
use Rattle.records.specs.Records.{records, stored_row, record_of}
use Rattle.records.specs.Find.{find_from, distinct}
use Rattle.records.specs.Changes.{full_for}
use Rattle.records.specs.Checks.{lengths_ok, records_ok, keys_ok}
use Rattle.buffer_core.specs.declared.Direction.TheVariants.{Spend, Unspend}
use Rattle.buffer_core.specs.Spills.{place_at, spill_read}
use Rattle.buffer_core.specs.Append.{counts_of, append_core, append_ok, spill_of, spilled}
use Rattle.buffer_core.specs.Pop.{lists, pop_core, pop_ok, lists_ok, unspill_of, merge_of, merged}
use Rattle.buffer_core.specs.Flip.{flip_ok, search_by, walk_from, stage_at, row_flipped}
use Rattle.buffer_core.proofs.SmallCalls.{one_place, marked_rows, marked_row}
use Rattle.summary_core.specs.Lines.{line_of, put_line}
use Rattle.summary_core.specs.Moves.{append_lines, append_lines_of, pop_lines, pop_lines_of}
use Rattle.summary_core.specs.Flip.{walk_lines, in_lines, flip_lines, flip_lines_core, flip_lines_of}
use Rattle.ledger.specs.Ledger.{Parent, boxes, ite}
use Rattle.ledger.specs.Run.{Made, accepted, refused_leaving, Popped}
use Rattle.history.specs.Index.{index, part}
use Rattle.history_summaries.specs.Summaries.{SummaryIndex, summary_index, append_kept, pop_kept, flip_with}

abbrev no_ids : Parent → List ℕ
no_ids p = []

-- two lines each
abbrev two_lines : Parent → ℕ
two_lines p = 2

-- the summary of parent 1, then that of parent 0
abbrev both : SummaryIndex → List ℕ
both b = b.summaries 1 ++ b.summaries 0

abbrev left : Made SummaryIndex SummaryIndex → List ℕ
left (accepted b) = both b
left (refused_leaving k b) = k ∷ both b

abbrev left_by_pop : Made SummaryIndex (Popped SummaryIndex) → List ℕ
left_by_pop (accepted r) = both r.left
left_by_pop (refused_leaving k b) = k ∷ both b

-- every head holds 512 fives, nothing is spilled, and there is room for that many staged rows
abbrev full_heads : (room : ℕ) → SummaryIndex
full_heads n =
    summary_index (index (λ ch. part (counts_of 512 (pos 0)) (replicate 512 (pos 5)))
    (lists (record { count = 0; capacity = n }) (replicate 36 0) (one_place 0) (replicate 36 0) (one_place 0) (replicate 32 0))) (λ p. replicate 10 9)

-- an append that spills writes the line of its row, in the summary of its parent
pub append_lines_the_row : left (append_kept marked_rows no_ids two_lines (full_heads 1) (boxes 1) (pos 5)) ≡ (5 ∷ 5 ∷ 512 ∷ 0 ∷ 0 ∷ replicate 5 9) ++ replicate 10 9
unfolding append_lines_of append_lines append_core append_ok spill_of spilled put_line line_of how_many full_for records_ok lengths_ok distinct records find_from write ite ℕ_discrete
append_lines_the_row = refl

-- refused by 16 it writes none
pub refused_append_leaves : left (append_kept marked_rows no_ids two_lines (full_heads 0) (boxes 1) (pos 5)) ≡ 16 ∷ (replicate 10 9 ++ replicate 10 9)
unfolding append_lines_of append_lines append_core append_ok spill_of put_line full_for records_ok lengths_ok distinct records find_from write ite ℕ_discrete
refused_append_leaves = refl

-- every head is empty, and each parent has one row, in the table
abbrev one_row : (mark : ℕ) → SummaryIndex
one_row m =
    summary_index (index (λ ch. part (counts_of 0 (pos 1)) (replicate 512 (pos 0)))
    (lists (one_place 0) (replicate 36 0) (one_place 1) (marked_row m) (one_place 0) (replicate 32 0))) (λ p. 5 ∷ 5 ∷ 9 ∷ 9 ∷ 9 ∷ replicate 5 0)

-- a spend or an unspend in a row makes its line anew
pub spend_lines_the_row : left (flip_with marked_rows no_ids two_lines Spend (one_row 0) 1 (pos 5)) ≡ (5 ∷ 5 ∷ 511 ∷ 0 ∷ 1 ∷ replicate 5 0) ++ (5 ∷ 5 ∷ 9 ∷ 9 ∷ 9 ∷ replicate 5 0)
unfolding flip_lines_of flip_lines_core flip_lines in_lines walk_lines search_by walk_from stage_at row_flipped put_line line_of how_many flip_ok place_at spill_read records_ok lengths_ok distinct records find_from stored_row record_of same_bytes write ite ℕ_discrete
spend_lines_the_row = refl

pub unspend_lines_the_row : left (flip_with marked_rows no_ids two_lines Unspend (one_row 1) 1 (pos 5)) ≡ (5 ∷ 5 ∷ 512 ∷ 0 ∷ 0 ∷ replicate 5 0) ++ (5 ∷ 5 ∷ 9 ∷ 9 ∷ 9 ∷ replicate 5 0)
unfolding flip_lines_of flip_lines_core flip_lines in_lines walk_lines search_by walk_from stage_at row_flipped put_line line_of how_many flip_ok place_at spill_read records_ok lengths_ok distinct records find_from stored_row record_of same_bytes write ite ℕ_discrete
unspend_lines_the_row = refl

-- a pop that takes the row back clears its line
pub pop_clears_the_line : left_by_pop (pop_kept marked_rows no_ids two_lines (one_row 0) (boxes 1)) ≡ replicate 10 0 ++ (5 ∷ 5 ∷ 9 ∷ 9 ∷ 9 ∷ replicate 5 0)
unfolding pop_lines_of pop_lines pop_core pop_ok lists_ok unspill_of merge_of merged put_line place_at spill_read full_for records_ok keys_ok lengths_ok distinct records find_from stored_row same_bytes write ite ℕ_discrete
pop_clears_the_line = refl
