-- Two histories that show that the theorem's premises can be met.
-- The first forks across a full row, for parent 0: 513 box numbers, so that the first 512 become a row; a spend in that row; the spend and the last two
-- numbers undone, so that the row becomes the head again and its key is deleted; then two other numbers, which make the head a row once more, and a flush.
use Rattle.std.specs.Prelude.{List, [], ◌∷◌, ◌++◌, ℕ, zero, suc, ℤ, pos, negsuc, replicate}
use Rattle.ledger.specs.Ledger.{TokenId, boxes, txs, Call, append, spend, credit, debit}
use Rattle.ledger.specs.Run.{Step, call, undo, flush}

abbrev pub append_box : ℕ → Call
append_box k = append (boxes 0) (pos k)

-- box numbers from k up, n of them, then the other steps
unfoldable pub appends : (n k : ℕ) → List Step → List Step
appends zero k rest = rest
appends (suc n) k rest = call (append_box k) ∷ appends n (suc k) rest

-- two other numbers: the head is full, and becomes a row again
abbrev pub another_branch : List Step
another_branch = call (append_box 600) ∷ call (append_box 601) ∷ flush ∷ []

-- the spend, number 513 and number 512 are undone
abbrev pub back_across_the_row : List Step
back_across_the_row = undo ∷ undo ∷ undo ∷ flush ∷ another_branch

abbrev pub spend_in_the_row : List Step
spend_in_the_row = flush ∷ call (spend 0 (pos 7)) ∷ flush ∷ back_across_the_row

abbrev pub across_a_row : List Step
across_a_row = appends 513 1 spend_in_the_row

-- the standing calls after the box numbers 1 to n, the newest first, and those numbers
unfoldable pub up_to : ℕ → List Call
up_to zero = []
up_to (suc n) = append_box (suc n) ∷ up_to n

unfoldable pub numbers_to : ℕ → List ℤ
numbers_to zero = []
numbers_to (suc n) = numbers_to n ++ (pos (suc n) ∷ [])

-- what stands at the end
abbrev pub left_standing : List Call
left_standing = append_box 601 ∷ append_box 600 ∷ up_to 511

-- ---- The second has two parents, every kind of call, and refused ones: "refused ones included, over any parents"
abbrev pub token_of_sevens : TokenId
token_of_sevens = replicate 32 7

abbrev pub credit_ten : Call
credit_ten = credit 1 (pos 10) ((token_of_sevens, pos 3) ∷ [])

-- the debit, the credit and the spend are undone; then another number
abbrev pub other_branch : List Step
other_branch = undo ∷ undo ∷ undo ∷ flush ∷ call (append (boxes 0) (pos 6)) ∷ []

-- "17 negative number", "15 target not seen", "23 sum .. leaves 64 signed bits": the refused ones
abbrev pub before_the_fork : List Step → List Step
before_the_fork rest =
    call (append (boxes 0) (pos 5))
    ∷ call (append (boxes 1) (pos 5))
    ∷ call (append (txs 1) (pos 9))
    ∷ call (append (boxes 1) (negsuc 0))
    ∷ call (spend 0 (pos 5))
    ∷ call (spend 1 (pos 8))
    ∷ call credit_ten
    ∷ call (credit 1 (pos 9223372036854775807) [])
    ∷ call (debit 1 (pos 4) [])
    ∷ flush
    ∷ rest

abbrev pub two_parents : List Step
two_parents = before_the_fork other_branch

-- what stands before the credit and the spend, and at the end
abbrev pub three_appends : List Call
three_appends = append (txs 1) (pos 9) ∷ append (boxes 1) (pos 5) ∷ append (boxes 0) (pos 5) ∷ []

abbrev pub two_parents_standing : List Call
two_parents_standing = append (boxes 0) (pos 6) ∷ three_appends
