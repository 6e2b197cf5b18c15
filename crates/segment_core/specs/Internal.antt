-- What the private steps of the reader do: a list read into a buffer of its own.
use Rattle.std.specs.Prelude.{◌≡◌, List, ℤ, length, Ok, Err}
use Rattle.std.proofs.lemmas.List.Edits.{sets}
use Rattle.segment_core.specs.Answers.{Part}
use Rattle.segment_core.specs.Reading.{Nums, nums, bad}

-- the answer r and the buffer b, which was b₀: the numbers stand at its front, or it was refused and may hold anything
abbrev pub ReadInto : Nums → List ℤ → Part → List ℤ → Type 0
ReadInto (nums zs n) b₀ r b = (r ≡ Ok (length zs, n)) × (b ≡ sets b₀ 0 zs)
ReadInto (bad e) b₀ r b = r ≡ Err e
