-- How `keys_differ` searches for equal keys. No public contract cites this file: it says what the steps of that search ask of each other.
-- The keys of a block stand in trees. A key's way begins at the root that its first eight bytes name, and turns at each key that it meets
-- by the next bit of a number made of all its bytes; the key is put where its way ends. Equal keys go the same way, so the later one
-- meets the earlier one. The slots of the n roots come first, then two for each key. A slot holds the index of a key plus one; 0 stands for none.
use Rattle.std.specs.Prelude.{◌≡◌, ℕ, ◌+◌, ◌-◌, ◌*◌, ◌/◌, ◌%◌, ◌^◌, ◌<◌, ◌≤◌, true, false, List, take, drop, ◌≢◌, slice_index, slice_index_or, Option, Some, None}
use Rattle.records.specs.Records.{keys}
use Rattle.records.specs.Find.{find_key, is_found}

-- the key of the record with an index
abbrev pub nth_key : (size : ℕ) → List ℕ → ℕ → List ℕ
nth_key size l m = take 32 (drop (m * size) l)

-- four bytes from a place on, and eight, as a number, the lowest byte first
unfoldable pub half_at : List ℕ → ℕ → ℕ
half_at s at = slice_index s at + slice_index s (at + 1) * 2 ^ 8 + slice_index s (at + 2) * 2 ^ 16 + slice_index s (at + 3) * 2 ^ 24

unfoldable pub word_at : List ℕ → ℕ → ℕ
word_at s at = half_at s at + half_at s (at + 4) * 2 ^ 32

-- where the way of a key begins, and the turns that it takes
unfoldable pub root_of : ℕ → List ℕ → ℕ
root_of n k = word_at k 0 % n

unfoldable pub turns_of : List ℕ → ℕ
turns_of k = ((word_at k 0 + word_at k 8) % 2 ^ 64 + (word_at k 16 + word_at k 24) % 2 ^ 64) % 2 ^ 64 % 21745137823727

-- the slot behind the key with index j, for the turns that are left
abbrev pub behind : (n j rest : ℕ) → ℕ
behind n j rest = n + 2 * j + rest % 2

-- a way from a slot on meets the key with index k
pub data Meets (n : ℕ) (links : List ℕ) (k : ℕ) : ℕ → ℕ → Type 0 where
  here : (s rest : ℕ) → slice_index links s ≡ k + 1 → Meets n links k s rest
  later : (s rest : ℕ) → 0 < slice_index links s → Meets n links k (behind n (slice_index links s - 1) rest) (rest / 2) → Meets n links k s rest

-- no slot holds a key
abbrev pub AllFree : List ℕ → Type 0
AllFree links = (s : ℕ) → slice_index links s ≡ 0

-- the first i keys stand in the trees; the slots behind a key hold later keys
pub record Grown (size : ℕ) (l : List ℕ) (n i : ℕ) (links : List ℕ) : Type 0 where
  pub stands : (m : ℕ) → m < i → Meets n links m (root_of n (nth_key size l m)) (turns_of (nth_key size l m))
  pub passed : (s : ℕ) → slice_index links s ≤ i
  pub rises : (s : ℕ) → 0 < slice_index links s → s + 2 < n + 2 * slice_index links s

-- the slots that are taken stay as they are
abbrev pub Extends : List ℕ → List ℕ → Type 0
Extends links links' = (t : ℕ) → 0 < slice_index links t → slice_index links' t ≡ slice_index links t

-- the way of a key ends at a slot that is free: a key that is put there is met
pub record Open (n i : ℕ) (links key : List ℕ) (s : ℕ) : Type 0 where
  pub below : s < n + 2 * i
  pub empty : slice_index_or links s 0 ≡ 0
  pub leads : (links' : List ℕ) → Extends links links' → (k : ℕ) → slice_index links' s ≡ k + 1 → Meets n links' k (root_of n key) (turns_of key)

-- what is told of a key
abbrev pub Spotted : (size : ℕ) → List ℕ → (n i : ℕ) → (links key : List ℕ) → Option ℕ → Type 0
Spotted size l n i links key None = is_found (find_key key (keys size i l)) ≡ true
Spotted size l n i links key (Some s) = (is_found (find_key key (keys size i l)) ≡ false) × Open n i links key s

-- none of the first `block` keys stands again among those up to i
abbrev pub NoneAgain : (size : ℕ) → List ℕ → (block i : ℕ) → Type 0
NoneAgain size l block i = (m : ℕ) → block ≤ m → m < i → (a : ℕ) → a < block → nth_key size l a ≢ nth_key size l m
