-- Two pairs of histories of parent 0 with the same standing calls. In the first pair one history forked and took its branch back, the other saw only what stands;
-- the number 0 stands twice.
use Rattle.std.specs.Prelude.{List, [], ◌∷◌, ℕ, ℤ, pos, negsuc}
use Rattle.ledger.specs.Ledger.{boxes, Call, append, spend}
use Rattle.ledger.specs.Run.{Step, call, undo, flush}

abbrev pub append_box : ℕ → Call
append_box n = append (boxes 0) (pos n)

abbrev pub spend_box : ℕ → Call
spend_box n = spend 0 (pos n)

abbrev pub forked : List Step
forked =
    call (append_box 0) ∷ call (append_box 0) ∷ call (append_box 5) ∷ call (append_box 7) ∷ call (spend_box 7) ∷ flush ∷ undo ∷ undo ∷ flush
    ∷ call (append_box 8) ∷ call (spend_box 5) ∷ []

abbrev pub straight : List Step
straight = call (append_box 0) ∷ call (append_box 0) ∷ call (append_box 5) ∷ call (append_box 8) ∷ call (spend_box 5) ∷ []

-- what stands in both, the newest first, and the entries
abbrev pub both_standing : List Call
both_standing = spend_box 5 ∷ append_box 8 ∷ append_box 5 ∷ append_box 0 ∷ append_box 0 ∷ []

abbrev pub both_entries : List ℤ
both_entries = pos 0 ∷ pos 0 ∷ negsuc 4 ∷ pos 8 ∷ []

-- ---- Two histories in which a number stands twice and is spent once: the second spent both copies and took one spend back
abbrev pub spent_once : List Step
spent_once = call (append_box 5) ∷ call (append_box 5) ∷ call (spend_box 5) ∷ []

abbrev pub spent_twice : List Step
spent_twice = call (append_box 5) ∷ call (append_box 5) ∷ call (spend_box 5) ∷ call (spend_box 5) ∷ flush ∷ undo ∷ []
