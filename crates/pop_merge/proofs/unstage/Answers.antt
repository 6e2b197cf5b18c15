-- `pop_merge::unstage` meets its contract: what is found is removed.
use native.Mathlib.Omega.{arith}
use Rattle.records.proofs.TurnLaws.{found_in}
use Rattle.pop_merge.proofs.unstage.Goals as goal

pub remove-requires : goal.remove-requires
remove-requires c =
    let a = c.args in
    (c.requires.1, found_in a.key.now a.size a.counts.count a.staged.now _ _ c.find-found.ensures c.in-Some.is)

pub overflow_sub-result : goal.overflow_sub-result
overflow_sub-result c =
    let a = c.args in
    let i = found_in a.key.now a.size a.counts.count a.staged.now _ _ c.find-found.ensures c.in-Some.is in
    omega arith
