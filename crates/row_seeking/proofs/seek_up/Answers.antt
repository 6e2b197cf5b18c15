-- A row that is there leaves the rest; another is asked for.
use mathlib.Core.Path.{sym, ◌∙◌}
use native.Mathlib.Omega.{arith}
use Rattle.records.proofs.TurnLaws.{left_all}
use Rattle.buffer_core.specs.Edition.{edition_of}
use Rattle.buffer_core.specs.Spills.{sources}
use Rattle.row_seeking.proofs.SeekLaws.{up_goes, up_asks, up_ends}
use Rattle.row_seeking.proofs.seek_up.Goals as goal

pub loop-n-init : goal.loop-n-init
loop-n-init c = rw left_all

pub lead_of-lead-requires : goal.lead_of-lead-requires
lead_of-lead-requires c = (c.requires.0.in_staged, c.requires.0.in_table, omega (arith, c.loop-n-test.true, c.requires.1), c.requires.0.apart)

pub loop-n-preserved : goal.loop-n-preserved
loop-n-preserved c =
    let a = c.args in
    let l = c.loop-n in
    l.invariant ∙ up_goes (edition_of a.edition) (sources a.parent.now a.staged.now a.staged_count a.table.now a.table_count) l.n a.spills c.loop-n-test.true _ c.lead_of-lead.ensures _ c.in-Ok.is

pub ask-requires : goal.ask-requires
ask-requires c = (c.requires.0, omega (arith, c.loop-n-test.true, c.requires.1))

pub returns-in-Err : goal.returns-in-Err
returns-in-Err c =
    let a = c.args in
    let l = c.loop-n in
    c.ask.ensures ∙ up_asks (edition_of a.edition) (sources a.parent.now a.staged.now a.staged_count a.table.now a.table_count) l.n a.spills c.loop-n-test.true _ c.lead_of-lead.ensures _ c.in-Err.is ∙ sym l.invariant

pub returns : goal.returns
returns c =
    let a = c.args in
    let l = c.loop-n in
    up_ends (edition_of a.edition) (sources a.parent.now a.staged.now a.staged_count a.table.now a.table_count) l.n a.spills c.loop-n-test.false ∙ sym l.invariant
