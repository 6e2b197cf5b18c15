-- A summary of a parent's box spills (document 02, U8): "Keep beside each parent a summary of its box spills: per spill a line of five unsigned 64-bit numbers,
-- the first and last absolute value and how many entries are above 0, equal to 0 and below 0." It is borrowed as a list of numbers, five to a line; how many
-- lines it has is its capacity.
use Rattle.std.specs.Prelude.{ℕ, ◌+◌, ◌*◌, Bool, List, [], ◌∷◌, leb, ℤ, length, get_or, replicate}
use Rattle.index_types.specs.Limits.{summary_line}
use Rattle.stores.specs.Stores.{write}
use Rattle.entries.specs.Tally.{figures}
use Rattle.buffer_core.specs.Flip.{first_of, last_in}

-- "the first and last absolute value and how many entries are above 0, equal to 0 and below 0": the line of a row's numbers
unfoldable pub line_of : List ℤ → List ℕ
line_of zs = first_of zs ∷ last_in zs ∷ (figures zs).unspent ∷ (figures zs).unknown ∷ (figures zs).spent ∷ []

-- "a vacated line is set to zero"
abbrev pub no_line : List ℕ
no_line = replicate summary_line 0

-- number j of line n
abbrev pub at_line : List ℕ → (n j : ℕ) → ℕ
at_line S n j = get_or S (n * summary_line + j) 0

-- a summary with line n written
unfoldable pub put_line : (n : ℕ) → (line S : List ℕ) → List ℕ
put_line n line S = write (n * summary_line) line S

-- document 01: "25 .. a lent buffer too short for its stated capacity"; the product is the true one
abbrev pub lines_ok : (lines : ℕ) → List ℕ → Bool
lines_ok lines S = leb (lines * summary_line) (length S)

-- what a call comes to, and the summary at exit
pub record WithSummary (A : Type 0) : Type 0 where
  pub result : A
  pub summary : List ℕ

abbrev pub with_summary : {A : Type 0} → A → List ℕ → WithSummary A
with_summary a S = record { result = a; summary = S }
