-- Parents, their lists, tokens, and the calls of a history.
use Rattle.std.specs.Prelude.{List, ℕ, ℤ}

-- ids of parents and of tokens: 32 bytes
abbrev pub TokenId : Type 0
TokenId = List ℕ

-- a parent, by its place among the parents: two of them may carry the same id
abbrev pub Parent : Type 0
Parent = ℕ

-- "per parent a list of box and one of transaction numbers"
pub data Series : Type 0 where
  boxes : Parent → Series
  txs : Parent → Series

abbrev pub parent_of : Series → Parent
parent_of (boxes p) = p
parent_of (txs p) = p

-- tokens of a credit or debit: ids with amounts, an id may repeat
abbrev pub Tokens : Type 0
Tokens = List (TokenId × ℤ)

-- "Demand 3 needs only append, spend, credit, debit, their undos and flush": the calls; undo and flush are steps of a run (Run.antt)
pub data Call : Type 0 where
  append : Series → ℤ → Call
  spend : Parent → ℤ → Call
  credit : Parent → ℤ → Tokens → Call
  debit : Parent → ℤ → Tokens → Call
