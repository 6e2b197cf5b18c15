-- The rows from n on are in the page.
use Rattle.buffer_core.specs.Edition.{edition_of}
use Rattle.buffer_core.specs.Spills.{sources}
use Rattle.buffer_core.specs.Flip.{row_checked}
use Rattle.page_core.proofs.PageLaws.{Down}
use Rattle.page_core.proofs.put_rows.Given as goal

abbrev pub invariant-loop-n : goal.invariant-loop-n
invariant-loop-n l =
    Down (row_checked (edition_of l.edition) (sources l.parent l.staged l.staged_count l.table l.table_count)) l.spills l.wanted l.initial.filled l.initial.page l.n l.filled l.page
