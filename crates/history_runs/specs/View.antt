-- The runner's state seen as the index of the fork-undo theorem, and what it means that a call of the runner is an operation of the theorem's.
use Rattle.std.specs.Prelude.{◌≡◌, Bool, true, false, List, [], ◌∷◌, ◌++◌, ℕ, ℤ, take, replicate}
use Rattle.balance.specs.declared.Balance.{Balance}
use Rattle.call_steps.specs.State.{State, parent_id, head_counts, head_of, balance_of}
use Rattle.call_steps.specs.Steps.{Stepping, number_popped}
use Rattle.call_steps.specs.Steps as steps
use Rattle.ledger.specs.Ledger.{Parent, parent_dec, Series, parent_of, ite, Tokens}
use Rattle.ledger.specs.Run.{Made, accepted, refused_leaving, Popped}
use Rattle.balance_laws.specs.Calls.{credited, debited}
use Rattle.history.specs.Index.{Part, part, Index, index, kind_of}

-- a parent's id, in its place
abbrev pub ids_in : State → Parent → List ℕ
ids_in s p = parent_id p s.ids

-- ids of 32 bytes for every parent, as the theorem asks: those given, where they have 32 bytes
abbrev pub filled : (Parent → List ℕ) → Parent → List ℕ
filled ids p = take 32 (ids p ++ replicate 32 0)

-- a parent's boxes or transactions: the counts of the head and its 512 places
abbrev pub part_in : State → Series → Part
part_in s ch = part (head_counts (kind_of ch) (parent_of ch) s.lengths s.spills) (head_of (kind_of ch) (parent_of ch) s.numbers)

abbrev pub view : State → Index
view s = index (part_in s) s.lists

-- a parent's balance, in its places
abbrev pub balance_in : State → Parent → Balance
balance_in s p = balance_of p s.ids s.numbers s.lengths

-- a call x of the runner, made in the state s, is the operation on the index: accepted, it leaves the index that the operation leaves, every balance and every
-- parent's id; refused, it says the operation's number and leaves the state as it was
abbrev pub Same : State → Stepping → Made Index Index → Type 0
Same s x (accepted b) = (x.said ≡ steps.accepted) × (view x.after ≡ b) × (balance_in x.after ≡ balance_in s) × (ids_in x.after ≡ ids_in s)
Same s x (refused_leaving code b) = (x.said ≡ steps.refused code) × (x.after ≡ s)

-- the same of a pop, which answers a number
abbrev pub SamePop : State → Stepping → Made Index (Popped Index) → Type 0
SamePop s x (accepted r) =
    (x.said ≡ number_popped r.value) × (view x.after ≡ r.left) × (balance_in x.after ≡ balance_in s) × (ids_in x.after ≡ ids_in s)
SamePop s x (refused_leaving code b) = (x.said ≡ steps.refused code) × (x.after ≡ s)

abbrev pub set_balance : (Parent → Balance) → Parent → Balance → Parent → Balance
set_balance f p b q = ite (parent_dec p q) b (f q)

-- the same of a credit or a debit of the parent p: it leaves the parent's balance, those of the others, the index and every parent's id
abbrev pub SameBalance : State → Parent → Stepping → Made Balance Balance → Type 0
SameBalance s p x (accepted b) =
    (x.said ≡ steps.accepted) × (balance_in x.after ≡ set_balance (balance_in s) p b) × (view x.after ≡ view s) × (ids_in x.after ≡ ids_in s)
SameBalance s p x (refused_leaving code b) = (x.said ≡ steps.refused code) × (x.after ≡ s)

-- a credit or a debit of nanoErgs and tokens
abbrev pub changed : (adding : Bool) → Balance → ℤ → Tokens → Made Balance Balance
changed true b nanos ts = credited b nanos ts
changed false b nanos ts = debited b nanos ts

-- "ids are the byte 32 times"
abbrev pub one_token : ℕ → ℤ → Tokens
one_token token amount = (replicate 32 token, amount) ∷ []
