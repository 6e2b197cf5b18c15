-- A history that forks, for parent 0: two numbers, a spend, three refusals ("14", "15", "17"); the spend and the second number undone; then another number and a spend.
use Rattle.std.specs.Prelude.{List, [], ◌∷◌, ℕ, ℤ, pos, negsuc}
use Rattle.ledger.specs.Ledger.{boxes, append, spend}
use Rattle.ledger.specs.Run.{Res, done, refused, Step, call, undo, flush}

abbrev pub append_box : ℤ → Step
append_box z = call (append (boxes 0) z)

abbrev pub spend_box : ℤ → Step
spend_box z = call (spend 0 z)

abbrev pub forked : List Step
forked =
    append_box (pos 5) ∷ append_box (pos 7) ∷ spend_box (pos 7) ∷ spend_box (pos 7) ∷ spend_box (pos 9) ∷ append_box (negsuc 0)
    ∷ flush ∷ undo ∷ undo ∷ flush ∷ append_box (pos 8) ∷ spend_box (negsuc 4) ∷ []

-- what each step answers
abbrev pub all_answers : List (Res (List ℤ))
all_answers =
    done [] ∷ done [] ∷ done [] ∷ refused 14 ∷ refused 15 ∷ refused 17 ∷ done [] ∷ done [] ∷ done (pos 7 ∷ []) ∷ done [] ∷ done [] ∷ done [] ∷ []

-- what is compared of the answers, and what is held at the end
abbrev pub forked_answers : List (Res (List ℕ))
forked_answers =
    done [] ∷ done [] ∷ done [] ∷ refused 14 ∷ refused 15 ∷ refused 17 ∷ done [] ∷ done (7 ∷ []) ∷ done [] ∷ done [] ∷ []

abbrev pub forked_numbers : List ℤ
forked_numbers = negsuc 4 ∷ pos 8 ∷ []
