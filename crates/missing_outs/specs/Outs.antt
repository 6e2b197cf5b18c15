-- What telling a missing row leaves: 12 with its spill number and its key in the outs, or 0 where no row is missing, and the outs are as they were.
use Rattle.std.specs.Prelude.{ℕ, List, ℤ, pos, Option, Some, None}
use Rattle.segment_id.specs.declared.Kind.{Kind}
use Rattle.segment_id.specs.Key.{row_key}

-- the code, the spill number and the key
pub record MissingOut : Type 0 where
  pub code : ℕ
  pub number : ℤ
  pub key : List ℕ

abbrev pub missing_out : ℕ → ℤ → List ℕ → MissingOut
missing_out code number key = record { code = code; number = number; key = key }

abbrev pub missing_by : Kind → (parent : List ℕ) → ℤ → (key : List ℕ) → Option ℕ → MissingOut
missing_by kind parent number key None = missing_out 0 number key
missing_by kind parent number key (Some n) = missing_out 12 (pos n) (row_key parent kind (pos n))
