-- Some lists and what the test says of them, computed.
use mathlib.Core.Path.{◌≡◌, refl}
use mathlib.Core.Bool.{true, false}
use mathlib.Core.List.{[], ◌∷◌}
use Rattle.history_steps.specs.declared.Rank.TheVariants.{Append1, Append2, Spend1, Undo, Flush}
use Rattle.history_steps.specs.Legal.{count, may, legal_from, legal}

pub no_flush_before_undo : legal (Append1 ∷ Undo ∷ []) ≡ false
unfolding count may legal_from
no_flush_before_undo = refl

pub flush_before_undo : legal (Append1 ∷ Flush ∷ Undo ∷ []) ≡ true
unfolding count may legal_from
flush_before_undo = refl

pub spent_once : legal (Append1 ∷ Spend1 ∷ Spend1 ∷ []) ≡ false
unfolding count may legal_from
spent_once = refl

-- the copy that an undo of the spend gives back is spent again
pub spent_again : legal (Append1 ∷ Spend1 ∷ Flush ∷ Undo ∷ Flush ∷ Spend1 ∷ []) ≡ true
unfolding count may legal_from
spent_again = refl

pub falling_number : legal (Append2 ∷ Append1 ∷ []) ≡ false
unfolding count may legal_from
falling_number = refl
