-- The order of whole addresses (document 02, U14): of numbers, of lists ("a list that ends earlier is first"), and of all that an address holds.
use Rattle.std.specs.Prelude.{◌≡◌, Bool, cond, ℕ, ltb, ℤ}
use mathlib.Core.List.{List, [], ◌∷◌, Memᴰ}
use Rattle.std.specs.Int.Signed.{lt_z}
use Rattle.ledger.specs.Ledger.{TokenId, Tokens}
use Rattle.index_types.specs.declared.Order.{Order}
use Rattle.index_types.specs.declared.Order.TheVariants.{Less, Equal, Greater}

-- the first that differs decides
abbrev pub or_else : Order → Order → Order
or_else Less o = Less
or_else Equal o = o
or_else Greater o = Greater

abbrev pub reversed : Order → Order
reversed Less = Greater
reversed Equal = Equal
reversed Greater = Less

abbrev pub by_tests : (below above : Bool) → Order
by_tests below above = cond below Less (cond above Greater Equal)

unfoldable pub of_numbers : ℕ → ℕ → Order
of_numbers a b = by_tests (ltb a b) (ltb b a)

unfoldable pub of_signed : ℤ → ℤ → Order
of_signed a b = by_tests (lt_z a b) (lt_z b a)

unfoldable pub of_lists : {A : Type 0} → (A → A → Order) → List A → List A → Order
of_lists f [] [] = Equal
of_lists f [] (y ∷ ys) = Less
of_lists f (x ∷ xs) [] = Greater
of_lists f (x ∷ xs) (y ∷ ys) = or_else (f x y) (of_lists f xs ys)

-- "id, then amount"
abbrev pub of_ids : TokenId → TokenId → Order
of_ids a b = of_lists of_numbers a b

unfoldable pub of_tokens : (TokenId × ℤ) → (TokenId × ℤ) → Order
of_tokens a b = or_else (of_ids a.0 b.0) (of_signed a.1 b.1)

-- "the tokens taken by ascending id"
abbrev pub put_before : Order → (TokenId × ℤ) → (TokenId × ℤ) → Tokens → Tokens → Tokens
put_before Less x y all rest = x ∷ all
put_before Equal x y all rest = x ∷ all
put_before Greater x y all rest = y ∷ rest

unfoldable pub insert : (TokenId × ℤ) → Tokens → Tokens
insert x [] = x ∷ []
insert x (y ∷ ts) = put_before (of_ids x.0 y.0) x y (y ∷ ts) (insert x ts)

unfoldable pub ascending : Tokens → Tokens
ascending [] = []
ascending (x ∷ ts) = insert x (ascending ts)

-- a balance, or none
pub data Held : Type 0 where
  none : Held
  some : ℤ → Tokens → Held

-- "no balance before a balance, then nanoErgs, then the tokens"
unfoldable pub of_held : Held → Held → Order
of_held none none = Equal
of_held none (some n ts) = Less
of_held (some n ts) none = Greater
of_held (some n ts) (some m us) = or_else (of_signed n m) (of_lists of_tokens (ascending ts) (ascending us))

-- a whole address as it is ranked
pub record Account : Type 0 where
  pub hash : List ℕ
  pub held : Held
  pub boxes : List ℤ
  pub txs : List ℤ

unfoldable pub of_accounts : Account → Account → Order
of_accounts a b =
    or_else (of_lists of_numbers a.hash b.hash)
    (or_else (of_held a.held b.held) (or_else (of_lists of_signed a.boxes b.boxes) (of_lists of_signed a.txs b.txs)))

-- ---- "It is a total order"
pub record Total {A : Type 0} (f : A → A → Order) (Same : A → A → Type 0) : Type 0 where
  -- "rank equal exactly when"
  pub equal_of : (x y : A) → Same x y → f x y ≡ Equal
  pub same_of : (x y : A) → f x y ≡ Equal → Same x y
  pub reverses : (x y : A) → f y x ≡ reversed (f x y)
  pub follows : (x y z : A) → f x y ≡ Less → f y z ≡ Less → f x z ≡ Less

-- "whatever the sequence of their tokens"
abbrev pub SameTokens : Tokens → Tokens → Type 0
SameTokens ts us = (x : TokenId × ℤ) → (Memᴰ x ts → Memᴰ x us) × (Memᴰ x us → Memᴰ x ts)

abbrev pub SameHeld : Held → Held → Type 0
SameHeld none none = Unit {0}
SameHeld none (some n ts) = ⊥
SameHeld (some n ts) none = ⊥
SameHeld (some n ts) (some m us) = (n ≡ m) × SameTokens ts us

pub record SameAccount (a b : Account) : Type 0 where
  pub hash : a.hash ≡ b.hash
  pub held : SameHeld a.held b.held
  pub boxes : a.boxes ≡ b.boxes
  pub txs : a.txs ≡ b.txs
