-- Which lists document 02 (U10) asks for: "every list of 0 to 5 calls for one fresh parent, over the numbers 1 and 2, that keeps the history rules, the flush at
-- each change included, in which every undo has a standing call to take back, and in which every call is accepted". The rules, the changes and the standing calls
-- are those of the fork-undo theorem (`Legal`), and so are the answers.
use Rattle.std.specs.Prelude.{List, [], ◌∷◌, map, ℤ, pos}
use Rattle.history_steps.specs.declared.Rank.{Rank}
use Rattle.history_steps.specs.declared.Rank.TheVariants.{Append1, Append2, Spend1, Spend2, Undo, Flush}
use Rattle.ledger.specs.Ledger.{boxes, append, spend}
use Rattle.ledger.specs.Run.{Res, done, refused, Machine, Step, call, undo, flush}
use Rattle.ledger.specs.Run as Run

-- "for one fresh parent, over the numbers 1 and 2": parent 0
abbrev pub step_of : Rank → Step
step_of Append1 = call (append (boxes 0) (pos 1))
step_of Append2 = call (append (boxes 0) (pos 2))
step_of Spend1 = call (spend 0 (pos 1))
step_of Spend2 = call (spend 0 (pos 2))
step_of Undo = undo
step_of Flush = flush

abbrev pub steps_of : List Rank → List Step
steps_of ks = map step_of ks

-- "every call is accepted": undos and flushes too
abbrev pub IsDone : {A : Type 0} → Res A → Type 0
IsDone (done a) = Unit {0}
IsDone (refused k) = ⊥

unfoldable pub AllDone : List (Res (List ℤ)) → Type 0
AllDone [] = Unit {0}
AllDone (r ∷ rs) = IsDone r × AllDone rs

abbrev pub Asked : Machine → List Rank → Type 0
Asked M ks = Run.Legal M (Run.start M) (steps_of ks) × AllDone (Run.answers M (Run.start M) (steps_of ks))
