-- Record lists and key lists in borrowed bytes, as document 01 gives them under "Shelf and staging":
-- "A record has 32 key bytes, a 2-byte length (high byte first) and 10,254 bytes, zero past the length. Records stand without gaps".
-- A key list holds 32-byte keys alike: it is a list of records of 32 bytes. The record size is an argument everywhere.
use Rattle.std.specs.Prelude.{ℕ, zero, suc, ◌+◌, ◌*◌, ◌-◌, ◌/◌, ◌%◌, List, [], ◌∷◌, ◌++◌, map, length, get_or, take, drop, replicate}

-- the first count records of the bytes l
unfoldable pub records : (size count : ℕ) → List ℕ → List (List ℕ)
records size zero l = []
records size (suc n) l = take size l ∷ records size n (drop size l)

-- the key of a record
abbrev pub key_of : List ℕ → List ℕ
key_of r = take 32 r

-- the keys of the first count records
abbrev pub keys : (size count : ℕ) → List ℕ → List (List ℕ)
keys size count l = map key_of (records size count l)

-- the length that a record states, high byte first
abbrev pub stored_length : List ℕ → ℕ
stored_length r = get_or r 32 0 * 256 + get_or r 33 0

-- the row of a record: as many bytes behind the length as it states
unfoldable pub stored_row : List ℕ → List ℕ
stored_row r = take (stored_length r) (drop 34 r)

-- the record of a key and a row: key, length with the high byte first, row, zeros to the record's end
unfoldable pub record_of : (size : ℕ) → (key row : List ℕ) → List ℕ
record_of size key row =
    key ++ (length row / 256 % 256 ∷ length row % 256 ∷ []) ++ row ++ replicate (size - (34 + length row)) 0
