-- `missing_rows::missing_for_tally` meets its contract: 25 reads no row.
use mathlib.Core.Path.{sym, ◌∙◌}
use Rattle.buffer_core.specs.Edition.{edition_of}
use Rattle.flip_core.proofs.KeepLaws.{flip_facts}
use Rattle.missing_rows.proofs.CallLaws.{tally_25, tally_goes}
use Rattle.missing_rows.proofs.missing_for_tally.Goals as goal

pub returns-then-not-flip_ok : goal.returns-then-not-flip_ok
returns-then-not-flip_ok c =
    let a = c.args in
    tally_25 (edition_of a.edition) a.parent.now a.counts a.staged_counts a.staged.now a.table_counts a.table.now a.head.now (sym c.flip_ok.ensures ∙ c.if-not-flip_ok.true)

pub seek_tally-requires : goal.seek_tally-requires
seek_tally-requires c =
    let a = c.args in
    flip_facts a.edition a.counts a.staged_counts a.staged.now a.table_counts a.table.now a.head.now (sym c.flip_ok.ensures ∙ c.if-not-flip_ok.false)

pub returns : goal.returns
returns c =
    let a = c.args in
    tally_goes (edition_of a.edition) a.parent.now a.counts a.staged_counts a.staged.now a.table_counts a.table.now a.head.now (sym c.flip_ok.ensures ∙ c.if-not-flip_ok.false) _ c.seek_tally.ensures
