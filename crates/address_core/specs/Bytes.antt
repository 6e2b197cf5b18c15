-- The address record as bytes (document 01, "Address record"): "32 bytes of hash, flag 00 or 01, balance if 01 (nanoErgs, 32-bit token count,
-- then 32 id bytes and an amount each), segment." NanoErgs and amounts are 64-bit coded numbers.
use Rattle.std.specs.Prelude.{ℕ, ◌*◌, ◌≤◌, Bool, cond, List, [], ◌∷◌, ◌++◌, ℤ, pos, length, take, drop}
use Rattle.index_types.specs.Limits.{token_limit}
use Rattle.vlq_core.specs.Zigzag.{zig}
use Rattle.vlq_core.specs.Groups.{enc}

-- a token: its id, then its amount
abbrev pub token_bytes : List ℕ → ℤ → List ℕ
token_bytes id z = id ++ enc (zig z)

-- tokens one after the other: amounts zs, the ids of 32 bytes each in ids
unfoldable pub tokens_bytes : List ℕ → List ℤ → List ℕ
tokens_bytes ids [] = []
tokens_bytes ids (z ∷ zs) = token_bytes (take 32 ids) z ++ tokens_bytes (drop 32 ids) zs

-- a balance: nanoErgs, token count, tokens
abbrev pub balance_bytes : ℤ → List ℕ → List ℤ → List ℕ
balance_bytes nanos ids zs = enc (zig nanos) ++ (enc (zig (pos (length zs))) ++ tokens_bytes ids zs)

-- flag 01 and the balance, or flag 00
unfoldable pub flagged_bytes : Bool → ℤ → List ℕ → List ℤ → List ℕ
flagged_bytes has nanos ids zs = cond has (1 ∷ balance_bytes nanos ids zs) (0 ∷ [])

-- the record; row is its segment as bytes
unfoldable pub address_bytes : List ℕ → Bool → ℤ → List ℕ → List ℤ → List ℕ → List ℕ
address_bytes hash has nanos ids zs row = hash ++ (flagged_bytes has nanos ids zs ++ row)

-- n tokens within 128, whose ids and amounts are there
abbrev pub HeldTokens : ℕ → List ℕ → List ℤ → Type 0
HeldTokens n ids amounts = (n ≤ token_limit) × (n ≤ length amounts) × (n * 32 ≤ length ids)
