-- `row_fetching::put_row` meets its contract: 25 of the records and of the row, 22, or the row is put.
use mathlib.Core.Path.{sym, ◌∙◌}
use native.Mathlib.Omega.{arith}
use borrow.Author.Rules.{rules}
use Rattle.buffer_core.specs.Edition.{edition_of}
use Rattle.records.proofs.CheckLaws.{records_ok_facts}
use Rattle.buffer_core.proofs.SizeLaws.{sizes}
use Rattle.row_fetching.proofs.PutWays.{put_25, put_long, put_22, put_done, room}
use Rattle.row_fetching.proofs.put_row.Goals as goal

pub returns-then-not-spills_ok : goal.returns-then-not-spills_ok
returns-then-not-spills_ok c =
    let a = c.args in
    put_25 (edition_of a.edition) a.key.now a.row.now a.counts a.work.now (sym c.spills_ok.ensures ∙ c.if-not-spills_ok.true)

pub returns-then-limit-row : goal.returns-then-limit-row
returns-then-limit-row c =
    let a = c.args in
    let l = c.row_limit-limit.ensures in
    put_long (edition_of a.edition) a.key.now a.row.now a.counts a.work.now (sym c.spills_ok.ensures ∙ c.if-not-spills_ok.false) (rw l at c.if-limit-row.true)

pub full_for-requires : goal.full_for-requires
full_for-requires c =
    let a = c.args in
    let z = c.record_size-size.ensures.0 in
    let f = records_ok_facts _ _ a.counts a.work.now (sym c.spills_ok.ensures ∙ c.if-not-spills_ok.false) in
    (omega (arith, z, sizes a.edition), rw z f.bounds.within)

pub returns-then-full_for : goal.returns-then-full_for
returns-then-full_for c =
    let a = c.args in
    let l = c.row_limit-limit.ensures in
    let z = c.record_size-size.ensures.0 in
    put_22 (edition_of a.edition) a.key.now a.row.now a.counts a.work.now (sym c.spills_ok.ensures ∙ c.if-not-spills_ok.false) (rw l at c.if-limit-row.false) (sym (rw z at c.full_for.ensures) ∙ c.if-full_for.true)

pub put-count-requires : goal.put-count-requires
put-count-requires c =
    let a = c.args in
    let l = c.row_limit-limit.ensures in
    let z = c.record_size-size.ensures.0 in
    let f = room (edition_of a.edition) a.key.now a.counts a.work.now (sym c.spills_ok.ensures ∙ c.if-not-spills_ok.false) (sym (rw z at c.full_for.ensures) ∙ c.if-full_for.false) in
    (rw z f.0, search rules, omega (arith, z, l, c.if-limit-row.false, sizes a.edition), rw z f.1)

pub returns : goal.returns
returns c =
    let a = c.args in
    let l = c.row_limit-limit.ensures in
    let z = c.record_size-size.ensures.0 in
    put_done (edition_of a.edition) a.key.now a.row.now a.counts a.work.now (sym c.spills_ok.ensures ∙ c.if-not-spills_ok.false) (rw l at c.if-limit-row.false) (sym (rw z at c.full_for.ensures) ∙ c.if-full_for.false) _ (rw z at c.put-count.ensures.0) _ (rw z at c.put-count.ensures.1)
