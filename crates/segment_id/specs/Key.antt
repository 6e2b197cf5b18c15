-- Row keys (document 01, "Row key"; `box_segment_id` and `tx_segment_id` of the Rust): BLAKE2b-256, unkeyed, of the parent id in hex,
-- the separator of the kind and the spill number in decimal.
use Rattle.std.specs.Prelude.{ℕ, List, [], ◌∷◌, ◌++◌, ℤ}
use Rattle.text.specs.Text.{hex, number}
use Rattle.blake2b_core.specs.Blake2b.{blake2b256}
use Rattle.segment_id.specs.declared.Kind.{Kind}
use Rattle.segment_id.specs.declared.Kind.TheVariants.{Box, Tx}

-- "" box segment " (13 characters) or " tx segment " (12)", in ASCII
abbrev pub separator : Kind → List ℕ
separator Box = 32 ∷ 98 ∷ 111 ∷ 120 ∷ 32 ∷ 115 ∷ 101 ∷ 103 ∷ 109 ∷ 101 ∷ 110 ∷ 116 ∷ 32 ∷ []
separator Tx = 32 ∷ 116 ∷ 120 ∷ 32 ∷ 115 ∷ 101 ∷ 103 ∷ 109 ∷ 101 ∷ 110 ∷ 116 ∷ 32 ∷ []

-- "64 lower-case hex digits of the parent id, then" the separator, "then the spill number in decimal, "-" before a negative one"
unfoldable pub key_text : List ℕ → Kind → ℤ → List ℕ
key_text parent kind z = hex parent ++ (separator kind ++ number z)

-- the key of the row that the spill number z of a kind has
unfoldable pub row_key : List ℕ → Kind → ℤ → List ℕ
row_key parent kind z = blake2b256 (key_text parent kind z)
