-- Stores into a borrowed list, of bytes or of numbers. Every definition that changes borrowed contents is made of `write`.
use Rattle.std.specs.Prelude.{ℕ, ◌+◌, ◌≡◌, List, ◌++◌, length, take, drop}
use Rattle.std.proofs.lemmas.List.Edits.{sets}

module _ {A : Type 0} where
  -- l with s in the places from `at` on
  unfoldable pub write : ℕ → List A → List A → List A
  write at s l = take at l ++ s ++ drop (at + length s) l

  -- what a writer of s at position `at` of l answers and leaves: the position r behind s, and l', which is l with s from `at` on
  abbrev pub Put : List A → List A → ℕ → ℕ → List A → Type 0
  Put s l at r l' = (r ≡ at + length s) × (l' ≡ sets l at s)
