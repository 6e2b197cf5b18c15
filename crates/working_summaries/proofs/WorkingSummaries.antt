-- The laws, in either edition.
use Rattle.index_types.specs.declared.RowEdition.{RowEdition}
use Rattle.buffer_core.specs.Edition.{edition_of}
use Rattle.working_summaries.specs.Laws.{WorkingSummaries}
use Rattle.working_summaries.proofs.LineOutcomes.{flip_lines_law, pop_lines_law, summary_law}
use Rattle.working_summaries.proofs.LineReads.{pop_named_law, summary_named_law, span_law, one_row_law}

pub working_summaries : (v : RowEdition) → WorkingSummaries (edition_of v)
working_summaries v =
    let E = edition_of v in
    record {
      spends_and_unspends = flip_lines_law E;
      pops = pop_lines_law E;
      fresh_summaries = summary_law E;
      pop_named = pop_named_law E;
      summary_named = summary_named_law E;
      spans = span_law E;
      one_row = one_row_law E;
    }
