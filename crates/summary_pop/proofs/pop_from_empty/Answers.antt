-- An accepted pop from an empty head vacates the last line.
use native.Mathlib.Omega.{arith}
use mir.Syntax.{w32}
use Rattle.signed.proofs.SignedLaws.{back}
use Rattle.buffer_core.specs.Edition.{edition_of}
use Rattle.buffer_core.specs.Pop.{lists}
use Rattle.summary_pop.proofs.PopLaws.{number_told}
use borrow.Author.Rules.{rules}
use Rattle.summary_pop.proofs.pop_from_empty.Goals as goal

pub clear_accepted-requires : goal.clear_accepted-requires
clear_accepted-requires c =
    let a = c.args in
    λ t. let p = number_told (edition_of a.edition) a.parent.now a.counts (lists a.staged_counts a.staged.now a.table_counts a.table.now a.deleted_counts a.deleted.now) a.head.now _ c.pop-popped.ensures c.requires.0 a.lines c.requires.2 _ c.is_number.ensures t in
    rw (back w32 a.counts.spills (search rules)) (p.counted, p.some, omega (arith, p.inside, c.requires.3))
