-- Reading an address record (document 01, "Address record" and the table's row "Reader"). "Checks on the token count: 3, 5 (more than a 33rd of the
-- bytes left, rounded down), 24. A read record must end its row (8, added)."
-- Refusals: 1 bytes end inside a field; 2 as a coded number; 3 negative count; 5 count above a 33rd of the bytes left; 24 above 128 tokens; 7 flag not 00 or 01;
-- then those of the segment.
use Rattle.std.specs.Prelude.{ℕ, zero, suc, ◌+◌, ◌-◌, ◌/◌, Bool, true, false, cond, List, [], ◌∷◌, ◌++◌, leb, ltb, eqb, ℤ, pos, negsuc, length, take, drop, get_or, Ok, Err}
use Rattle.index_types.specs.Limits.{token_limit}
use Rattle.vlq_core.specs.Answers.{Got}
use Rattle.vlq_core.specs.Reading.{read_at, signed_of}

-- ---- a token: its id, its amount and the position after them; or the refusal

pub data Token : Type 0 where
  token : List ℕ → ℤ → ℕ → Token
  no_token : ℕ → Token

-- 32 id bytes and a 64-bit amount from position `at` on
unfoldable pub token_at : List ℕ → ℕ → Token
token_at s at = cond (leb (at + 32) (length s)) (signed_of (token (take 32 (drop at s))) no_token (read_at 64 s (at + 32))) (no_token 1)

-- ---- tokens: their ids, one after the other, their amounts, and the position after them; or the refusal

pub data Tokens : Type 0 where
  tokens : List ℕ → List ℤ → ℕ → Tokens
  no_tokens : ℕ → Tokens

abbrev pub cons_token : List ℕ → ℤ → Tokens → Tokens
cons_token id z (tokens ids zs n) = tokens (id ++ ids) (z ∷ zs) n
cons_token id z (no_tokens r) = no_tokens r

abbrev pub token_then : (List ℕ → ℤ → ℕ → Tokens) → Token → Tokens
token_then f (token id z n) = f id z n
token_then f (no_token r) = no_tokens r

-- k tokens from position `at` on
unfoldable pub tokens_at : ℕ → List ℕ → ℕ → Tokens
tokens_at zero s at = tokens [] [] at
tokens_at (suc k) s at = token_then (λ id z n. cons_token id z (tokens_at k s n)) (token_at s at)

-- ---- the token count: 3, then 5, which counts the bytes of s behind the count, then 24

abbrev pub count_of : List ℕ → ℤ → ℕ → Got
count_of s (pos k) n = cond (ltb ((length s - n) / 33) k) (Err 5) (cond (ltb token_limit k) (Err 24) (Ok (k, n)))
count_of s (negsuc k) n = Err 3

unfoldable pub count_at : List ℕ → ℕ → Got
count_at s at = signed_of (count_of s) Err (read_at 32 s at)

abbrev pub tokens_from : List ℕ → Got → Tokens
tokens_from s (Ok (k, n)) = tokens_at k s n
tokens_from s (Err r) = no_tokens r

-- ---- the flag and the balance: whether there is one, nanoErgs, ids, amounts and the position after it; or the refusal

pub data Balanced : Type 0 where
  balanced : Bool → ℤ → List ℕ → List ℤ → ℕ → Balanced
  no_balance : ℕ → Balanced

abbrev pub with_nanos : ℤ → Tokens → Balanced
with_nanos z (tokens ids zs n) = balanced true z ids zs n
with_nanos z (no_tokens r) = no_balance r

unfoldable pub balance_at : List ℕ → ℕ → Balanced
balance_at s at = signed_of (λ z n. with_nanos z (tokens_from s (count_at s n))) no_balance (read_at 64 s at)

-- what follows the flag f, which stands before position `at`
abbrev pub flagged : List ℕ → ℕ → ℕ → Balanced
flagged s at f = cond (eqb f 0) (balanced false (pos 0) [] [] at) (cond (eqb f 1) (balance_at s at) (no_balance 7))

unfoldable pub flagged_at : List ℕ → ℕ → Balanced
flagged_at s at = cond (ltb at (length s)) (flagged s (at + 1) (get_or s at 0)) (no_balance 1)
