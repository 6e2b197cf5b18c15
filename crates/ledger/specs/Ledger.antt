-- The ledger that the fork-undo theorem compares the index with (document 01, "The plain record"): calls, what the standing calls give, and the rules of
-- a history. "An accepted call becomes the newest standing call, an accepted undo removes that one; flushes and refusals change nothing."
use Rattle.std.specs.Prelude.{◌≡◌, ℕ, suc, ◌≤◌, ◌<◌, ℤ, pos, nat_abs, ◌+ℤ◌, ◌-ℤ◌, ◌≤ℤ◌, length}
use mathlib.Core.List.{List, [], ◌∷◌, ◌++◌, Memᴰ}
use Rattle.std.proofs.Math.Decide.{ℕ_discrete}
use Rattle.std.specs.Int.Signed.{mag}
pub use Rattle.ledger.specs.Calls.{TokenId, Parent, Series, boxes, txs, parent_of, Tokens, Call, append, spend, credit, debit}
pub use Rattle.ledger.specs.Decide.{parent_dec}
unfoldable pub use Rattle.ledger.specs.Decide.{ite, id_dec, int_dec, series_dec}

-- the number without its sign, as a signed number
abbrev pub absℤ : ℤ → ℤ
absℤ z = pos (nat_abs z)

-- "repeats of an id summed"
abbrev pub sum_of : TokenId → Tokens → ℤ
sum_of t [] = pos 0
sum_of t (x ∷ xs) = ite (id_dec x.0 t) (x.1 +ℤ sum_of t xs) (sum_of t xs)

-- "an amount per token id (0 if absent)": that of the first token with the id
abbrev pub amount_in : Tokens → TokenId → ℤ
amount_in [] t = pos 0
amount_in (x ∷ l) t = ite (id_dec x.0 t) x.1 (amount_in l t)

-- ---- "Its content is what the standing calls give, applied oldest first"; the newest call stands first in the list.
-- With no call it is "all empty or 0 at first".

-- "Append adds at the end"
abbrev pub ledger_numbers : List Call → Series → List ℤ
ledger_numbers [] ch = []
ledger_numbers (append d n ∷ cs) ch = ite (series_dec d ch) (ledger_numbers cs ch ++ (n ∷ [])) (ledger_numbers cs ch)
ledger_numbers (spend p t ∷ cs) ch = ledger_numbers cs ch
ledger_numbers (credit p n ts ∷ cs) ch = ledger_numbers cs ch
ledger_numbers (debit p n ts ∷ cs) ch = ledger_numbers cs ch

-- "spend adds 1 to the spent count of its target's absolute value"
abbrev pub ledger_spent : List Call → Parent → ℕ → ℕ
ledger_spent [] p n = 0
ledger_spent (append d m ∷ cs) p n = ledger_spent cs p n
ledger_spent (spend q t ∷ cs) p n = ite (parent_dec q p) (ite (ℕ_discrete (nat_abs t) n) (suc (ledger_spent cs p n)) (ledger_spent cs p n)) (ledger_spent cs p n)
ledger_spent (credit q m ts ∷ cs) p n = ledger_spent cs p n
ledger_spent (debit q m ts ∷ cs) p n = ledger_spent cs p n

-- "credit and debit add and subtract"
abbrev pub ledger_nanos : List Call → Parent → ℤ
ledger_nanos [] p = pos 0
ledger_nanos (append d m ∷ cs) p = ledger_nanos cs p
ledger_nanos (spend q t ∷ cs) p = ledger_nanos cs p
ledger_nanos (credit q m ts ∷ cs) p = ite (parent_dec q p) (ledger_nanos cs p +ℤ m) (ledger_nanos cs p)
ledger_nanos (debit q m ts ∷ cs) p = ite (parent_dec q p) (ledger_nanos cs p -ℤ m) (ledger_nanos cs p)

-- "credit and debit add and subtract", of each token id the sum of its amounts
abbrev pub ledger_amount : List Call → Parent → TokenId → ℤ
ledger_amount [] p t = pos 0
ledger_amount (append d m ∷ cs) p t = ledger_amount cs p t
ledger_amount (spend q s ∷ cs) p t = ledger_amount cs p t
ledger_amount (credit q m ts ∷ cs) p t = ite (parent_dec q p) (ledger_amount cs p t +ℤ sum_of t ts) (ledger_amount cs p t)
ledger_amount (debit q m ts ∷ cs) p t = ite (parent_dec q p) (ledger_amount cs p t -ℤ sum_of t ts) (ledger_amount cs p t)

-- ---- "The history rules, per parent"

-- "token amounts above 0"
abbrev pub AllPos : Tokens → Type 0
AllPos [] = Unit {0}
AllPos (x ∷ xs) = (pos 1 ≤ℤ x.1) × AllPos xs

-- an append of box number n to parent p, after the standing calls cs
pub record BoxRule (cs : List Call) (p : Parent) (n : ℤ) : Type 0 where
  -- "appended box numbers never fall"
  pub rises : (m : ℤ) → Memᴰ m (ledger_numbers cs (boxes p)) → nat_abs m ≤ nat_abs n
  -- "no box number is appended while its spent count is above 0"
  pub unspent : ledger_spent cs p (nat_abs n) ≡ 0

-- arguments as the functions take them: ids of 32 bytes, amounts of 64 signed bits
abbrev pub Typed : Tokens → Type 0
Typed [] = Unit {0}
Typed (x ∷ xs) = (length x.0 ≡ 32) × (mag x.1 < 9223372036854775808) × Typed xs

-- "nanoErgs of a credit or debit are 0 or more, token amounts above 0"
pub record CreditRule (n : ℤ) (ts : Tokens) : Type 0 where
  pub nonneg : pos 0 ≤ℤ n
  pub allpos : AllPos ts

-- the same of a debit, and what the ledger held before it
pub record DebitRule (cs : List Call) (p : Parent) (n : ℤ) (ts : Tokens) : Type 0 where
  pub nonneg : pos 0 ≤ℤ n
  pub allpos : AllPos ts
  -- "no debit exceeds what the record held before it, repeats of an id summed"
  pub within : n ≤ℤ ledger_nanos cs p
  pub held : (t : TokenId) → sum_of t ts ≤ℤ ledger_amount cs p t

-- the rule of a call after the standing calls cs; transaction appends and spends have none
abbrev pub Rule : Call → List Call → Type 0
Rule (append (boxes p) n) cs = BoxRule cs p n
Rule (append (txs p) n) cs = Unit {0}
Rule (spend p t) cs = Unit {0}
Rule (credit p n ts) cs = CreditRule n ts
Rule (debit p n ts) cs = DebitRule cs p n ts

-- the standing calls keep the history rules: each one after those that were standing before it
abbrev pub Rules : List Call → Type 0
Rules [] = Unit {0}
Rules (c ∷ cs) = Rule c cs × Rules cs
