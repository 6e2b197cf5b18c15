-- What reading a row answers and leaves: the shape of the contracts of the readers, which the calls' crates use.
use Rattle.std.specs.Prelude.{◌≡◌, List, ℤ, length, Ok, Err}
use Rattle.segment_core.specs.Loading.{padded}
use Rattle.row_edition.specs.Answers.{SpillRead}
use Rattle.buffer_core.specs.Edition.{RowRead, bad, good}

-- the answer r and the 512 numbers at exit: the row's numbers followed by zeros, or it was refused and they may be anything
abbrev pub SpillInto : RowRead → SpillRead → List ℤ → Type 0
SpillInto (good zs) r out = (r ≡ Ok (length zs)) × (out ≡ padded zs)
SpillInto (bad code) r out = r ≡ Err code
