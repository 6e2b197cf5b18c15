-- What changes a record list or a key list (document 01, "Shelf and staging"):
-- "a new key goes last; removal moves the last record into the gap and zeroes the vacated one".
use Rattle.std.specs.Prelude.{ℕ, ◌+◌, ◌*◌, ◌-◌, Bool, not, ◌&&◌, List, leb, take, drop, replicate, Option, Some, None}
use Rattle.stores.specs.Stores.{write}
use Rattle.index_types.specs.declared.ListCounts.{ListCounts}
use Rattle.records.specs.Records.{keys}
use Rattle.records.specs.Find.{find_key, is_found}

-- the index that a record goes to: that of the record with its key, or the next
abbrev pub slot : Option ℕ → ℕ → ℕ
slot (Some i) count = i
slot None count = count

-- the number of records once it is there
abbrev pub count_after : Option ℕ → ℕ → ℕ
count_after (Some i) count = count
count_after None count = count + 1

-- the counts of a list that now holds n records
abbrev pub with_count : ℕ → ListCounts → ListCounts
with_count n c = record { count = n; capacity = c.capacity }

-- the list with a record put under its key
unfoldable pub put_record : (size count : ℕ) → (key rec l : List ℕ) → List ℕ
put_record size count key rec l = write (slot (find_key key (keys size count l)) count * size) rec l

-- the list without the record of an index: the last one moves into the gap, and its old place is zero
unfoldable pub remove_record : (size count index : ℕ) → List ℕ → List ℕ
remove_record size count index l =
    write ((count - 1) * size) (replicate size 0) (write (index * size) (take size (drop ((count - 1) * size) l)) l)

-- the empty list, zero to its capacity ("end empty, all zero")
unfoldable pub clear_records : (size capacity : ℕ) → List ℕ → List ℕ
clear_records size capacity l = write 0 (replicate (capacity * size) 0) l

-- "full and key not in it": a put under the key has no room
unfoldable pub full_for : (size : ℕ) → ListCounts → (key l : List ℕ) → Bool
full_for size c key l = not (is_found (find_key key (keys size c.count l))) && leb c.capacity c.count
