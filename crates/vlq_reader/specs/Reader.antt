-- The reader of coded numbers (document 01, "Coded numbers"): "The reader is a struct over the row's bytes, as `VlqReader` is."
use Rattle.std.specs.Prelude.{ℕ, List}
use Rattle.std.specs.Borrow.{Bor}
use Rattle.vlq_reader.specs.declared.VlqReader.{VlqReader}

-- a reader at the start of the bytes
abbrev pub started : Bor (List ℕ) → VlqReader
started src = record { src = src; at = 0 }

-- the position of the next byte to read
abbrev pub position_of : VlqReader → ℕ
position_of r = r.at

-- the same bytes at another position
abbrev pub moved_to : VlqReader → ℕ → VlqReader
moved_to r at = record { src = r.src; at = at }
