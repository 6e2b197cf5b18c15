-- Every beginning of a legal list is legal, and its row keys are among those of the list.
use mathlib.Core.Logic.{inl, inr}
use mathlib.Core.List.{List, [], ◌∷◌, ◌++◌}
use Prim.Native.Nat.{ℕ}
use Rattle.ledger.specs.Ledger.{Series}
use Rattle.ledger.specs.Run.{Machine, Step, Conf, step, Legal, Needs, InUse, KeysApart}

module _ (M : Machine) where
  pub legal_front : (us vs : List Step) (c : Conf M) → Legal M c (us ++ vs) → Legal M c us
  unfolding Legal
  legal_front [] vs c l = tt
  legal_front (u ∷ us) vs c l = (l.0, l.1, legal_front us vs (step M c u) l.2)

  first : (vs : List Step) (c : Conf M) (ch : Series) (s : ℕ) → Needs M c ch s → InUse M c vs ch s
  unfolding InUse
  first [] c ch s h = h
  first (v ∷ vs) c ch s h = inl h

  in_use_front : (us vs : List Step) (c : Conf M) (ch : Series) (s : ℕ) → InUse M c us ch s → InUse M c (us ++ vs) ch s
  unfolding InUse
  in_use_front [] vs c ch s h = first vs c ch s h
  in_use_front (u ∷ us) vs c ch s (inl h) = inl h
  in_use_front (u ∷ us) vs c ch s (inr h) = inr (in_use_front us vs (step M c u) ch s h)

  pub apart_front : (us vs : List Step) (c : Conf M) → KeysApart M (InUse M c (us ++ vs)) → KeysApart M (InUse M c us)
  apart_front us vs c k d e s t u v = k d e s t (in_use_front us vs c d s u) (in_use_front us vs c e t v)
