-- What the exports of the summary made afresh and of the tally by a summary leave: the code, every out and the summary at exit, from the definition of the
-- public call. "A refusal returns its number only and changes nothing".
use Rattle.std.specs.Prelude.{ℕ, List, ℤ, Ok, Err}
use Rattle.index_types.specs.Answers.{Summarized}
use Rattle.index_types.specs.declared.RowEdition.{RowEdition}
use Rattle.buffer_core.specs.Edition.{edition_of}
use Rattle.buffer_core.specs.Append.{counts_of}
use Rattle.summary_core.specs.Lines.{WithSummary, with_summary}
use Rattle.summary_core.specs.Making.{summary_of}
use Rattle.summary_core.specs.Tally.{tally_lines_of}
use Rattle.ergo_index_lists.specs.Lists.{list_of}
use Rattle.ergo_index_outs.specs.Outs.{TallyOut, tally_export}

-- the result of a call in the outs of its export, and the summary as the call leaves it
abbrev pub exported : {A B : Type 0} → (A → B) → WithSummary A → WithSummary B
exported out o = with_summary (out o.result) o.summary

-- ---- made afresh: the code and the summary
abbrev pub summarized_code : Summarized → ℕ
summarized_code (Ok tt) = 0
summarized_code (Err code) = code

abbrev pub summary_call : RowEdition → (parent : List ℕ) (len : ℕ) (spills : ℤ) → List ℤ → (s s_capacity : ℕ) → List ℕ → (t t_capacity : ℕ) → List ℕ → (lines : ℕ) → List ℕ → WithSummary ℕ
summary_call v parent len spills head s sc staged t tc table lines S =
    exported summarized_code (summary_of (edition_of v) parent (counts_of len spills) (list_of s sc) staged (list_of t tc) table head lines S)

-- ---- tally: the outs of the tally over the rows
abbrev pub tally_lines_call : (len : ℕ) (spills : ℤ) → List ℤ → (lines : ℕ) → List ℕ → (unspent spent unknown : ℕ) → TallyOut
tally_lines_call len spills head lines S u d z = tally_export u d z (tally_lines_of (counts_of len spills) head lines S)
