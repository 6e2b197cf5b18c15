-- The found record is removed; a key that is not found leaves the list as it is.
use mathlib.Core.Path.{sym, ◌∙◌}
use native.Mathlib.Omega.{arith}
use Rattle.records.proofs.TurnLaws.{found_in}
use Rattle.buffer_core.specs.Edition.{record_size}
use Rattle.buffer_core.specs.Flush.{remove_key}
use Rattle.buffer_core.proofs.SizeLaws.{sizes}
use Rattle.flush_table.proofs.remove_key.Goals as goal

pub remove-requires : goal.remove-requires
remove-requires c =
    let z = c.record_size-size.ensures.0 in
    (omega (arith, z, sizes c.args.edition), rw z c.requires.0, found_in c.args.key.now (record_size c.args.edition) c.args.counts.count c.args.list.now _ _ (rw z at c.find_hinted-found.ensures) c.in-Some.is)

pub overflow_sub-result : goal.overflow_sub-result
overflow_sub-result c =
    let z = c.record_size-size.ensures.0 in
    let k = found_in c.args.key.now (record_size c.args.edition) c.args.counts.count c.args.list.now _ _ (rw z at c.find_hinted-found.ensures) c.in-Some.is in
    omega arith

pub returns-in-Some : goal.returns-in-Some
unfolding remove_key
returns-in-Some c =
    let z = c.record_size-size.ensures.0 in
    rw (sym (rw z at c.find_hinted-found.ensures) ∙ c.in-Some.is, rw z at c.remove.ensures)

pub returns-in-None : goal.returns-in-None
unfolding remove_key
returns-in-None c =
    let z = c.record_size-size.ensures.0 in
    rw (sym (rw z at c.find_hinted-found.ensures) ∙ c.in-None.is)
