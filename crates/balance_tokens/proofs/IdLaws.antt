-- Laws of ids and places: the bytes of an id, and searching place by place.
use Prim.Native.Nat.{ℕ, suc, ◌+◌, ◌-◌, ◌*◌, ◌<◌, ◌≤◌}
use native.Mathlib.Omega.{arith}
use native.Mathlib.Numerals.{add-one}
use mathlib.Core.Path.{◌≡◌}
use mathlib.Core.Bool.{cond}
use mathlib.Core.List.{List}
use lib.ListN.{length, get_or, length-take, length-drop}
use lib.Seq.{get_or-take, get_or-drop}
use Rattle.stores.specs.Equal.{same_bytes}
use Rattle.balance_tokens.specs.Tokens.{id_at, place_from}

pub id_length : (l : List ℕ) (i : ℕ) → i * 32 + 32 ≤ length l → length (id_at l i) ≡ 32
id_length l i h = simp (length-take, length-drop) (omega arith)

pub id_byte : (l : List ℕ) (i k : ℕ) → k < 32 → get_or (id_at l i) k 0 ≡ get_or l (i * 32 + k) 0
id_byte l i k h = rw (get_or-take, get_or-drop)

-- ---- a search

pub place_step : (key ids : List ℕ) (i n : ℕ) → i < n → place_from key ids i (n - i) ≡ cond (same_bytes (id_at ids i) key) i (place_from key ids (i + 1) (n - (i + 1)))
unfolding place_from
place_step key ids i n h =
    let e : n - i ≡ suc (n - (i + 1)) = omega arith in
    rw (e, add-one)

pub place_end : (key ids : List ℕ) (i n : ℕ) → n ≤ i → place_from key ids i (n - i) ≡ i
unfolding place_from
place_end key ids i n h =
    let e : n - i ≡ 0 = omega arith in
    rw e
