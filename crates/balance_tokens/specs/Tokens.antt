-- The tokens that a balance holds and what one token of a box does to them (document 01, "Balance", and its row of the table).
-- Ids of 32 bytes stand one after the other, their amounts at the same places.
use Rattle.std.specs.Prelude.{ℕ, zero, suc, ◌+◌, ◌*◌, ◌-◌, Bool, cond, List, ◌++◌, take, drop, get_or, set, replicate, ltb, ℤ, pos, ◌+ℤ◌, ◌-ℤ◌, Option, Some, None, Ok, Err}
use Rattle.std.specs.Int.Signed.{le_z}
use Rattle.index_types.specs.Limits.{token_limit}
use Rattle.signed.specs.Checked.{checked}
use Rattle.stores.specs.Stores.{write}
use Rattle.stores.specs.Equal.{same_bytes}
use Rattle.balance_tokens.specs.Answers.{Counted}

-- the id at place i
abbrev pub id_at : List ℕ → ℕ → List ℕ
id_at ids i = take 32 (drop (i * 32) ids)

-- the first of n places from `from` on that holds the id key, or from + n
unfoldable pub place_from : List ℕ → List ℕ → ℕ → ℕ → ℕ
place_from key ids from zero = from
place_from key ids from (suc n) = cond (same_bytes (id_at ids from) key) from (place_from key ids (suc from) n)

-- the first of n places that holds the id key, or n
abbrev pub place_of : List ℕ → List ℕ → ℕ → ℕ
place_of key ids n = place_from key ids 0 n

-- "A balance is one value that holds its 128 ids and 128 amounts"; the first `count` places are in use
pub record Held : Type 0 where
  pub ids : List ℕ
  pub amounts : List ℤ
  pub count : ℕ

-- what is held afterwards, or the refusal code
pub data Changed : Type 0 where
  held : Held → Changed
  refused_by : ℕ → Changed

abbrev pub with_amount : Held → ℕ → ℤ → Held
with_amount h i v = record { ids = h.ids; amounts = set h.amounts i v; count = h.count }

-- "New ids go last."
abbrev pub with_token : Held → List ℕ → ℤ → Held
with_token h key v = record { ids = write (h.count * 32) key h.ids; amounts = set h.amounts h.count v; count = h.count + 1 }

-- place i of the first n leaves, each place being w elements of l: "later ones move up, zeroes follow"
unfoldable pub closed_up : {A : Type 0} → ℕ → A → ℕ → ℕ → List A → List A
closed_up w z i n l = write (i * w) (take ((n - (i + 1)) * w) (drop ((i + 1) * w) l) ++ replicate w z) l

abbrev pub without_token : Held → ℕ → Held
without_token h i =
    record { ids = closed_up 32 0 i h.count h.ids; amounts = closed_up 1 (pos 0) i h.count h.amounts; count = h.count - 1 }

-- 23 where a sum leaves 64 signed bits
abbrev pub sum_at : Held → ℕ → Option ℤ → Changed
sum_at h i (Some v) = held (with_amount h i v)
sum_at h i None = refused_by 23

-- a token added: to the place that holds its id, or as a new one; 24 for a 129th token
abbrev pub add_at : Held → List ℕ → ℤ → ℕ → Changed
add_at h key v i =
    cond (ltb i h.count) (sum_at h i (checked (get_or h.amounts i (pos 0) +ℤ v))) (cond (ltb h.count token_limit) (held (with_token h key v)) (refused_by 24))

unfoldable pub add_token : Held → List ℕ → ℤ → Changed
add_token h key v = add_at h key v (place_of key h.ids h.count)

-- 23 where a difference leaves 64 signed bits; a token at 0 or below is dropped
abbrev pub difference_at : Held → ℕ → Option ℤ → Changed
difference_at h i (Some v) = held (cond (le_z v (pos 0)) (without_token h i) (with_amount h i v))
difference_at h i None = refused_by 23

-- a token subtracted: from the place that holds its id; an unknown id is ignored
abbrev pub subtract_at : Held → ℤ → ℕ → Changed
subtract_at h v i = cond (ltb i h.count) (difference_at h i (checked (get_or h.amounts i (pos 0) -ℤ v))) (held h)

unfoldable pub subtract_token : Held → List ℕ → ℤ → Changed
subtract_token h key v = subtract_at h v (place_of key h.ids h.count)

-- either of the two: adding, or else subtracting
abbrev pub change_token : Bool → Held → List ℕ → ℤ → Changed
change_token adding h key v = cond adding (add_token h key v) (subtract_token h key v)

-- on with what is held, or the refusal
abbrev pub and_then : Changed → (Held → Changed) → Changed
and_then (held h) more = more h
and_then (refused_by code) more = refused_by code

-- "in list order": the n tokens of a box from its place j on, until one is refused
unfoldable pub change_tokens : Bool → List ℕ → List ℤ → ℕ → ℕ → Held → Changed
change_tokens adding ids amounts j zero h = held h
change_tokens adding ids amounts j (suc n) h =
    and_then (change_token adding h (id_at ids j) (get_or amounts j (pos 0))) (change_tokens adding ids amounts (suc j) n)

-- what a function answers that works in two borrowed arrays, which it leaves as ids and amounts; after a refusal they do not matter
abbrev pub left_in : Counted → List ℕ → List ℤ → Changed
left_in (Ok n) ids amounts = held (record { ids = ids; amounts = amounts; count = n })
left_in (Err code) ids amounts = refused_by code
