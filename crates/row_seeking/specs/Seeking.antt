-- The first row that is missing, of those that a call reads.
use Rattle.std.specs.Prelude.{ℕ, List, Option, Some, None}
use Rattle.segment_id.specs.declared.Kind.{Kind}
use Rattle.buffer_core.specs.Edition.{Edition}
use Rattle.buffer_core.specs.Spills.{Sources}
use Rattle.working_set.specs.Part.{lacks}
use Rattle.working_set.specs.Reads.{Need, nothing, need, first_missing}

abbrev pub told : Need → Option ℕ
told nothing = None
told (need n) = Some n

-- of the spill numbers that a call reads, in the order in which it reads them
abbrev pub among : Edition → Kind → Sources → List ℕ → Option ℕ
among E kind w reads = told (first_missing (lacks E kind w) reads)
