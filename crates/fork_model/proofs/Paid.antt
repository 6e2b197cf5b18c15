-- What a credit or a debit that keeps the history rules gives its balance: typed tokens, nanoErgs of 0 or more, amounts above 0; and what it makes of it.
use mathlib.Core.Path.{◌≡◌}
use lib.IntN.{ℤ, pos, ◌+ℤ◌, ◌-ℤ◌}
use lib.Signed.{◌≤ℤ◌}
use Rattle.ledger.specs.Ledger.{TokenId, Tokens, Typed, AllPos, sum_of}

pub record Paid (n : ℤ) (ts : Tokens) : Type 0 where
  pub typed : Typed ts
  pub nonneg : pos 0 ≤ℤ n
  pub allpos : AllPos ts

-- over balances of any kind, by their nanoErgs and the amount of each token id
module _ (Bal : Type 0) (nano_of : Bal → ℤ) (amount_of : Bal → TokenId → ℤ) where
  pub record Grew (b : Bal) (n : ℤ) (ts : Tokens) (b' : Bal) : Type 0 where
    pub nanoErgs : nano_of b' ≡ nano_of b +ℤ n
    pub amounts : (t : TokenId) → amount_of b' t ≡ amount_of b t +ℤ sum_of t ts

  pub record Shrank (b : Bal) (n : ℤ) (ts : Tokens) (b' : Bal) : Type 0 where
    pub nanoErgs : nano_of b' ≡ nano_of b -ℤ n
    pub amounts : (t : TokenId) → amount_of b' t ≡ amount_of b t -ℤ sum_of t ts

  pub record Alike (b b' : Bal) : Type 0 where
    pub nanoErgs : nano_of b' ≡ nano_of b
    pub amounts : (t : TokenId) → amount_of b' t ≡ amount_of b t
