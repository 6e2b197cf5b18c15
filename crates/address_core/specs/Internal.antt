-- What the private steps of the reader do: tokens read into buffers of their own, ids of 32 bytes each and amounts at the same places.
use Rattle.std.specs.Prelude.{◌≡◌, List, ℕ, ◌*◌, ℤ, length, set, Ok, Err}
use Rattle.std.proofs.lemmas.List.Edits.{sets}
use Rattle.segment_core.specs.Answers.{Part}
use Rattle.address_core.specs.Answers.{Flagged}
use Rattle.address_core.specs.Reading.{Token, token, no_token, Tokens, tokens, no_tokens, Balanced, balanced, no_balance}

-- a token, put at a place
abbrev pub TokenInto : Token → ℕ → List ℕ → List ℤ → Part → List ℕ → List ℤ → Type 0
TokenInto (token id z n) place ids₀ zs₀ r ids zs = (r ≡ Ok (1, n)) × (ids ≡ sets ids₀ (place * 32) id) × (zs ≡ set zs₀ place z)
TokenInto (no_token e) place ids₀ zs₀ r ids zs = r ≡ Err e

-- k tokens, put at the places from j on; after a refusal the buffers may hold anything
abbrev pub TokensInto : ℕ → Tokens → ℕ → List ℕ → List ℤ → Part → List ℕ → List ℤ → Type 0
TokensInto k (tokens is vs n) j ids₀ zs₀ r ids zs = (r ≡ Ok (k, n)) × (ids ≡ sets ids₀ (j * 32) is) × (zs ≡ sets zs₀ j vs)
TokensInto k (no_tokens e) j ids₀ zs₀ r ids zs = r ≡ Err e

-- a flag and its balance, put at the front
abbrev pub BalanceInto : Balanced → List ℕ → List ℤ → Flagged → List ℕ → List ℤ → Type 0
BalanceInto (balanced has nanos is vs n) ids₀ zs₀ r ids zs = (r ≡ Ok (has, nanos, length vs, n)) × (ids ≡ sets ids₀ 0 is) × (zs ≡ sets zs₀ 0 vs)
BalanceInto (no_balance e) ids₀ zs₀ r ids zs = r ≡ Err e
