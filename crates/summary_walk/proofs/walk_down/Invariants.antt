-- The walk from here, with what was seen, is the whole walk; nothing was changed so far.
use mathlib.Core.Path.{◌≡◌}
use Rattle.buffer_core.specs.Edition.{edition_of}
use Rattle.buffer_core.specs.Spills.{sources}
use Rattle.buffer_core.specs.Flip.{walk_from}
use Rattle.summary_core.specs.Flip.{line_look}
use Rattle.summary_walk.proofs.walk_down.Given as goal

abbrev pub invariant-loop-low : goal.invariant-loop-low
invariant-loop-low l =
    let o = l.initial in
    let f = line_look (edition_of l.edition) (sources l.parent o.staged l.staged_counts.count l.table l.table_count) o.summary l.target l.spend in
    (l.staged ≡ o.staged) × (l.summary ≡ o.summary) × (walk_from f l.from l.seen ≡ walk_from f l.low l.saw)
