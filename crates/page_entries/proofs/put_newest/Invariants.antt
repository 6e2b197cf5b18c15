-- The numbers from the place on are in the page.
use Rattle.page_entries.proofs.FillLaws.{From}
use Rattle.page_entries.proofs.put_newest.Given as goal

abbrev pub invariant-loop-at : goal.invariant-loop-at
invariant-loop-at l = From l.wanted l.xs l.n l.initial.filled l.initial.page l.at l.filled l.page
