-- The search for the least id above the last one that was taken.
use Rattle.std.specs.Prelude.{ℕ, ◌≤◌, ◌<◌, ◌≡◌, Bool, true, false, cond, not, ◌&&◌, List, leb, ℤ, length}
use Rattle.index_types.specs.Limits.{token_limit, token_id_bytes}
use Rattle.records.specs.Records.{keys}
use Rattle.records.specs.Find.{distinct}
use Rattle.balance_tokens.specs.Tokens.{id_at}
use Rattle.index_types.specs.declared.Order.{Order}
use Rattle.index_types.specs.declared.Order.TheVariants.{Less, Equal, Greater}
use Rattle.address_order.specs.Order.{of_ids}

abbrev pub is_less : Order → Bool
is_less Less = true
is_less Equal = false
is_less Greater = false

-- whether an id is above the last one taken; all are where none was taken
abbrev pub is_above : (started : Bool) → (last id : List ℕ) → Bool
is_above started last id = not (started && not (is_less (of_ids last id)))

-- place i, where its id is above the last one and below the best one so far; else the best place so far, which is count where there is none
unfoldable pub better_place : (ids : List ℕ) (count : ℕ) (started : Bool) (last best i : ℕ) → ℕ
better_place ids count started last best i =
    cond (started && not (is_less (of_ids (id_at ids last) (id_at ids i)))) best
    (cond (leb count best) i (cond (is_less (of_ids (id_at ids i) (id_at ids best))) i best))

-- of the first n places, the place r has the least id above the last one; r is count where none is above
pub record Next (ids : List ℕ) (count : ℕ) (started : Bool) (last n r : ℕ) : Type 0 where
  pub within : r ≤ count
  pub above : r < count → is_above started (id_at ids last) (id_at ids r) ≡ true
  pub least : (j : ℕ) → j < n → is_above started (id_at ids last) (id_at ids j) ≡ true → (r < count) × (of_ids (id_at ids r) (id_at ids j) ≡ Greater → ⊥)

-- what the comparison of tokens asks: the arrays of a balance, at most 128 tokens, and no id twice
pub record TokensReady (ids : List ℕ) (amounts : List ℤ) (count : ℕ) : Type 0 where
  pub id_bytes : length ids ≡ token_id_bytes
  pub places : length amounts ≡ token_limit
  pub few : count ≤ token_limit
  pub apart : distinct (keys 32 count ids) ≡ true
