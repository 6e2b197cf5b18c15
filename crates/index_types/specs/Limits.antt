-- The limits of documents 01 and 02, each once.
use Rattle.std.specs.Prelude.{ℕ}

-- "A head holds at most 512": so many numbers stand in a head, and in each list of a row, at most
abbrev pub segment_threshold : ℕ
segment_threshold = 512

-- "18 count 2,147,483,647": a parent has no more spills of a kind
abbrev pub spill_limit : ℕ
spill_limit = 2147483647

-- "128 tokens", each with an id of 32 bytes
abbrev pub token_limit : ℕ
token_limit = 128

abbrev pub token_id_bytes : ℕ
token_id_bytes = 4096

-- the most bytes of an address record
abbrev pub address_limit : ℕ
address_limit = 15675

-- document 02, U8: "a line of five unsigned 64-bit numbers"
abbrev pub summary_line : ℕ
summary_line = 5

-- "a single list of at most 4,096 box numbers" (document 02, U9)
abbrev pub flat_limit : ℕ
flat_limit = 4096
