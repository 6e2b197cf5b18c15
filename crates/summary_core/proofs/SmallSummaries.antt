-- Small calls with a summary, computed: what is written, what is not read, and the order of the refusals. Rows are those of `buffer_core`, SmallCalls: one byte,
-- 512 times the number 5, the first of them spent where the byte is not 0.
use mathlib.Core.Path.{◌≡◌, refl}
use mathlib.Core.List.{List, [], ◌∷◌, ◌++◌}
use Prim.Native.Nat.{ℕ}
use lib.IntN.{ℤ, pos, negsuc}
use lib.ListN.{replicate}
use Rattle.index_types.specs.declared.ListCounts.{ListCounts}
use Rattle.std.specs.Prelude.{Ok, Err}
use Rattle.index_types.specs.Answers.{Summarized}
use Rattle.index_types.specs.Answers.{Appended}
use Rattle.index_types.specs.Answers.{Flipped}
use Rattle.index_types.specs.Answers.{Tallied}
use Rattle.stores.specs.Stores.{write}
use Rattle.stores.specs.Equal.{same_bytes}
use Rattle.entries.specs.Tally.{how_many}
use Rattle.records.specs.Records.{records, stored_row, record_of}
use Rattle.records.specs.Find.{find_from, distinct}
use Rattle.records.specs.Changes.{full_for}
use Rattle.records.specs.Checks.{lengths_ok, records_ok, keys_ok}
use Rattle.buffer_core.specs.declared.Direction.TheVariants.{Spend}
use Rattle.buffer_core.specs.Spills.{place_at, spill_read}
use Rattle.buffer_core.specs.Rows.{rows_up}
use Rattle.buffer_core.specs.Append.{counts_of, append_core, append_ok, spill_of, spilled}
use Rattle.buffer_core.specs.Pop.{lists, pop_core, pop_ok, lists_ok, unspill_of, merge_of, merged}
use Rattle.buffer_core.specs.Flip.{flip_ok, search_by, walk_from, stage_at, row_flipped}
use Rattle.buffer_core.proofs.SmallCalls.{one_place, marked_rows, marked_row}
use Rattle.summary_core.specs.Lines.{line_of, put_line, WithSummary, with_summary}
use Rattle.summary_core.specs.Making.{lines_of, summary_core, summary_of}
use Rattle.summary_core.specs.Moves.{append_lines, append_lines_of, pop_lines, pop_lines_of}
use Rattle.summary_core.specs.Flip.{walk_lines, in_lines, flip_lines, flip_lines_core, flip_lines_of}
use Rattle.summary_core.specs.Tally.{add_lines, tally_lines, tally_lines_of}

-- "the first and last absolute value and how many entries are above 0, equal to 0 and below 0"
pub a_line : line_of (pos 0 ∷ negsuc 3 ∷ replicate 510 (pos 7)) ≡ 0 ∷ 7 ∷ 510 ∷ 1 ∷ 1 ∷ []
unfolding line_of how_many
a_line = refl

abbrev no_numbers : List ℤ
no_numbers = replicate 512 (pos 0)

abbrev five_line : List ℕ
five_line = 5 ∷ 5 ∷ 512 ∷ 0 ∷ 0 ∷ []

-- ---- made afresh: one row in the table, and a summary of that many lines with a number behind two of them
abbrev made_of : (lines : ℕ) → WithSummary Summarized
made_of lines = summary_of marked_rows [] (counts_of 0 (pos 1)) (one_place 0) (replicate 36 0) (one_place 1) (marked_row 0) no_numbers lines (replicate 11 9)

pub made_two_lines : made_of 2 ≡ with_summary (Ok tt) (five_line ++ replicate 5 0 ++ (9 ∷ []))
unfolding summary_of summary_core rows_up lines_of line_of how_many flip_ok place_at spill_read records_ok lengths_ok distinct records find_from stored_row same_bytes write
made_two_lines = refl

pub made_no_line : made_of 0 ≡ with_summary (Err 36) (replicate 11 9)
unfolding summary_of summary_core flip_ok records_ok lengths_ok distinct records find_from same_bytes
made_no_line = refl

pub made_three_lines : made_of 3 ≡ with_summary (Err 25) (replicate 11 9)
unfolding summary_of flip_ok records_ok lengths_ok distinct records find_from same_bytes
made_three_lines = refl

-- ---- a spend of 5, with a summary that may be wrong
abbrev spent_in : (table_count : ℕ) (S : List ℕ) → Flipped × List ℕ
spent_in n S =
    let o = flip_lines_of marked_rows Spend [] (counts_of 0 (pos 1)) (pos 5) (one_place 0) (replicate 36 0) (one_place n) (marked_row 0) no_numbers 1 S in
    (o.result.answer, o.summary)

-- "a line they write is made anew from its row"
pub spend_writes_the_line : spent_in 1 five_line ≡ (Ok (one_place 1), 5 ∷ 5 ∷ 511 ∷ 0 ∷ 1 ∷ [])
unfolding flip_lines_of flip_lines_core flip_lines in_lines walk_lines search_by walk_from stage_at row_flipped put_line line_of how_many flip_ok place_at spill_read records_ok lengths_ok distinct records find_from stored_row record_of same_bytes write
spend_writes_the_line = refl

-- "reads only rows it searches, so damage elsewhere goes unnoticed": the row is not there, and is missed only where its line may hold the target
pub spend_reads_the_row : spent_in 0 five_line ≡ (Err 12, five_line)
unfolding flip_lines_of flip_lines_core flip_lines in_lines walk_lines search_by walk_from stage_at row_flipped flip_ok place_at spill_read records_ok lengths_ok distinct records find_from stored_row record_of same_bytes
spend_reads_the_row = refl

pub spend_passes_the_row : spent_in 0 (5 ∷ 4 ∷ 512 ∷ 0 ∷ 0 ∷ []) ≡ (Err 15, 5 ∷ 4 ∷ 512 ∷ 0 ∷ 0 ∷ [])
unfolding flip_lines_of flip_lines_core flip_lines in_lines walk_lines search_by walk_from stage_at row_flipped flip_ok place_at spill_read records_ok lengths_ok distinct records find_from stored_row record_of same_bytes
spend_passes_the_row = refl

-- "walks over the summary": the row is there and holds the target, and its line, which says that it ends below, decides
pub spend_believes_the_line : spent_in 1 (5 ∷ 4 ∷ 512 ∷ 0 ∷ 0 ∷ []) ≡ (Err 15, 5 ∷ 4 ∷ 512 ∷ 0 ∷ 0 ∷ [])
unfolding flip_lines_of flip_lines_core flip_lines in_lines walk_lines search_by walk_from stage_at row_flipped flip_ok place_at spill_read records_ok lengths_ok distinct records find_from stored_row record_of same_bytes
spend_believes_the_line = refl

-- ---- appends to a full head: 36, 17, 18, 36, 16
abbrev no_place : ListCounts
no_place = record { count = 0; capacity = 0 }

abbrev appended_to : (len spills lines : ℕ) (number : ℤ) → Appended
appended_to len spills lines number = (append_lines marked_rows [] (counts_of len (pos spills)) number no_place no_numbers [] lines []).result.answer

pub too_few_lines_before_17 : appended_to 512 2 1 (negsuc 0) ≡ Err 36
unfolding append_lines append_core spill_of
too_few_lines_before_17 = refl

pub negative_before_no_free_line : appended_to 512 1 1 (negsuc 0) ≡ Err 17
unfolding append_lines append_core spill_of
negative_before_no_free_line = refl

pub count_before_no_free_line : appended_to 512 2147483647 2147483647 (pos 1) ≡ Err 18
unfolding append_lines append_core spill_of
count_before_no_free_line = refl

pub no_free_line_before_16 : appended_to 512 1 1 (pos 1) ≡ Err 36
unfolding append_lines append_core spill_of
no_free_line_before_16 = refl

-- "when a box append spills": a head with room needs no line
pub no_line_needed : appended_to 511 1 1 (pos 1) ≡ Ok (counts_of 512 (pos 1), no_place)
unfolding append_lines append_core spill_of
no_line_needed = refl

-- the row of a full head: its line, behind that of spill 0
pub append_writes_the_line : (append_lines_of marked_rows [] (counts_of 512 (pos 1)) (pos 6) (one_place 0) (replicate 512 (pos 5)) (replicate 36 0) 2 (replicate 11 9)).summary
    ≡ replicate 5 9 ++ five_line ++ (9 ∷ [])
unfolding append_lines_of append_lines append_core append_ok spill_of spilled put_line line_of how_many full_for records_ok lengths_ok distinct records find_from write
append_writes_the_line = refl

-- ---- a pop from an empty head: "a vacated line is set to zero"
pub pop_clears_the_line : (pop_lines_of marked_rows [] (counts_of 0 (pos 1)) (lists (one_place 0) (replicate 36 0) (one_place 1) (marked_row 0) (one_place 0) (replicate 32 0)) no_numbers 2 (replicate 11 9)).summary
    ≡ replicate 5 0 ++ replicate 6 9
unfolding pop_lines_of pop_lines pop_core pop_ok lists_ok unspill_of merge_of merged put_line place_at spill_read full_for records_ok keys_ok lengths_ok distinct records find_from stored_row same_bytes write
pop_clears_the_line = refl

-- ---- tallies
abbrev tally_with : List ℕ → Tallied
tally_with S = tally_lines_of (counts_of 2 (pos 2)) (pos 0 ∷ negsuc 8 ∷ no_numbers) 2 S

pub tally_adds_lines : tally_with (1 ∷ 2 ∷ 500 ∷ 4 ∷ 8 ∷ 3 ∷ 4 ∷ 0 ∷ 0 ∷ 512 ∷ []) ≡ Ok (record { unspent = 500; spent = 521; unknown = 5 })
unfolding tally_lines_of tally_lines add_lines how_many
tally_adds_lines = refl

-- "when a line's three counts do not add up to 512"
pub tally_checks_lines : tally_with (1 ∷ 2 ∷ 500 ∷ 4 ∷ 8 ∷ 3 ∷ 4 ∷ 0 ∷ 0 ∷ 511 ∷ []) ≡ Err 36
unfolding tally_lines_of tally_lines add_lines how_many
tally_checks_lines = refl
