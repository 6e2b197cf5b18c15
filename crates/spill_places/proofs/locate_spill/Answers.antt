-- `spills::locate_spill` meets its contract: refusal 25 first, then the place of the key.
use mathlib.Core.Path.{sym, ap, ◌∙◌}
use native.Mathlib.Omega.{arith}
use Rattle.buffer_core.specs.Edition.{record_size, row_limit_of}
use Rattle.buffer_core.proofs.SizeLaws.{sizes}
use Rattle.spill_places.specs.Inspection.{locate_row, located}
use Rattle.spill_places.proofs.LocateLaws.{spills_ok_facts}
use Rattle.spill_places.proofs.locate_spill.Goals as goal

pub locate-place-requires : goal.locate-place-requires
locate-place-requires c =
    let a = c.args in
    let z = c.record_size-size.ensures.0 in
    let ok = spills_ok_facts (record_size a.edition) (row_limit_of a.edition) a.staged_counts a.staged.now a.table_counts a.table.now (sym c.spills_ok.ensures ∙ c.if-spills_ok.true) in
    (omega (arith, z, sizes a.edition), rw z ok.in_staged.bounds.within, rw z ok.in_table.bounds.within)

pub returns-in-Staged : goal.returns-in-Staged
unfolding locate_row
returns-in-Staged c = rw (sym c.spills_ok.ensures ∙ c.if-spills_ok.true) (ap located (sym c.in-Staged.is ∙ rw c.record_size-size.ensures.0 at c.locate-place.ensures))

pub returns-in-Table : goal.returns-in-Table
unfolding locate_row
returns-in-Table c = rw (sym c.spills_ok.ensures ∙ c.if-spills_ok.true) (ap located (sym c.in-Table.is ∙ rw c.record_size-size.ensures.0 at c.locate-place.ensures))

pub returns-in-Missing : goal.returns-in-Missing
unfolding locate_row
returns-in-Missing c = rw (sym c.spills_ok.ensures ∙ c.if-spills_ok.true) (ap located (sym c.in-Missing.is ∙ rw c.record_size-size.ensures.0 at c.locate-place.ensures))

pub returns : goal.returns
unfolding locate_row
returns c = rw (sym c.spills_ok.ensures ∙ c.if-spills_ok.false)
