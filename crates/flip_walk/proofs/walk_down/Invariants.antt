-- The walk from here, with what was seen, is the whole walk.
use mathlib.Core.Path.{◌≡◌}
use Rattle.buffer_core.specs.Edition.{edition_of}
use Rattle.buffer_core.specs.Spills.{sources}
use Rattle.buffer_core.specs.Flip.{look_at, walk_from}
use Rattle.flip_walk.proofs.walk_down.Given as goal

abbrev pub invariant-loop-low : goal.invariant-loop-low
invariant-loop-low l =
    let f = look_at (edition_of l.edition) (sources l.parent l.staged l.staged_count l.table l.table_count) l.target l.spend in
    walk_from f l.from l.seen ≡ walk_from f l.low l.saw
