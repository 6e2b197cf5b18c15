-- The room that the lines of calls take, at most 64 bytes each. What was put at the front of an output is what is handed over.
use Prim.Native.Nat.{ℕ, zero, suc, ◌+◌, ◌*◌, ◌≤◌}
use mathlib.Core.Path.{◌≡◌}
use mathlib.Core.List.{List}
use native.Mathlib.Omega.{arith}
use lib.Dec.{eqb}
use lib.IntN.{ℤ, pos}
use lib.ListN.{length, take, length-append, get_or}
use Rattle.stores.specs.Stores.{Put}
use Rattle.stores.proofs.PutLaws.{put_within, put_front}
use Rattle.call_lines.specs.Lines.{answer_line, lines_from}
use Rattle.call_lines.proofs.LineLaws.{line_most}
use Rattle.end_lines.specs.EndLines.{end_lines}
use Rattle.end_lines.proofs.EndRoom.{end_most}

lines_most : (first : ℕ) (answers : List ℕ) (numbers : List ℤ) (i n : ℕ) → length (lines_from first answers numbers i n) ≤ n * 64
unfolding lines_from
lines_most first answers numbers i zero = omega arith
lines_most first answers numbers i (suc n) =
    omega (
      arith,
      length-append (answer_line first answers numbers i) (lines_from first answers numbers (i + 1) n),
      line_most (first + i) (get_or answers (i * 2) 0) (eqb (get_or answers (i * 2 + 1) 0) 1) (get_or numbers i (pos 0)),
      lines_most first answers numbers (i + 1) n,
    )

-- ---- what was put at the front of an output with that room is handed over
module _ (l : List ℕ) (r : ℕ) (l' : List ℕ) where
  pub lines_handed : (first : ℕ) (answers : List ℕ) (numbers : List ℤ) (n : ℕ) → Put (lines_from first answers numbers 0 n) l 0 r l' → n * 64 ≤ length l
      → (r ≤ length l') × (take r l' ≡ lines_from first answers numbers 0 n)
  lines_handed first answers numbers n e h =
      let s : List ℕ = lines_from first answers numbers 0 n in
      let few : length s ≤ length l = omega (arith, lines_most first answers numbers 0 n) in
      (put_within s l r l' e few, put_front s l r l' e few)

  pub end_handed : (ordinal code : ℕ) (numbers : List ℤ) (lengths : List ℕ) (spills : List ℤ) → Put (end_lines ordinal code numbers lengths spills) l 0 r l' → 384 ≤ length l
      → (r ≤ length l') × (take r l' ≡ end_lines ordinal code numbers lengths spills)
  end_handed ordinal code numbers lengths spills e h =
      let s : List ℕ = end_lines ordinal code numbers lengths spills in
      let few : length s ≤ length l = omega (arith, end_most ordinal code numbers lengths spills) in
      (put_within s l r l' e few, put_front s l r l' e few)
