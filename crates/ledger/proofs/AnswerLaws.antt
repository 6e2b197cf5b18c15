-- The answers tell which calls stand, and what an undo answers is what the theorem says of it.
use mathlib.Core.Path.{◌≡◌, refl, ap, ◌∙◌}
use mathlib.Core.List.{List, [], ◌∷◌}
use Rattle.ledger.specs.Ledger.{Call}
use Rattle.ledger.specs.Run.{Made, accepted, refused_leaving, Machine, Step, call, undo, flush, stands_after, told}
use Rattle.ledger.specs.Run as Mc

module _ (M : Machine) where
  abbrev State : Type 0
  State = Mc.State M

  abbrev Conf : Type 0
  Conf = Mc.Conf M

  call_told : (c : Conf) (a : Call) (X : Made State State) → (Mc.after_call M c a X).standing ≡ stands_after (call a) (Mc.said M X) c.standing
  call_told c a (accepted σ) = refl
  call_told c a (refused_leaving k σ) = refl

  undo_told : (c : Conf) (a : Call) (cs : List Call) (X : Made State (Mc.Undone M)) → c.standing ≡ a ∷ cs → (Mc.after_undo M c cs X).standing ≡ stands_after undo (Mc.said_undo M X) (a ∷ cs)
  undo_told c a cs (accepted u) e = refl
  undo_told c a cs (refused_leaving k σ) e = e

  newest_told : (c : Conf) (l : List Call) → c.standing ≡ l → (Mc.newest_undone M c l).standing ≡ stands_after undo (Mc.said_newest M c l) l
  newest_told c [] e = e
  newest_told c (a ∷ cs) e = undo_told c a cs (Mc.run_undo M c.now a) e

  flush_told : (c : Conf) (X : Made State State) → (Mc.after_flush M c X).standing ≡ c.standing
  flush_told c (accepted σ) = refl
  flush_told c (refused_leaving k σ) = refl

  pub step_told : (c : Conf) (s : Step) → (Mc.step M c s).standing ≡ stands_after s (Mc.answer_to M c s) c.standing
  step_told c (call a) = call_told c a (Mc.run_call M c.now a)
  step_told c undo = newest_told c c.standing refl
  step_told c flush = flush_told c (Mc.with_store M c.now (M.flush_store c.now.store))

  pub standing_told : (ss : List Step) (c : Conf) → (Mc.run M c ss).standing ≡ told c.standing ss (Mc.answers M c ss)
  unfolding Mc.run Mc.answers told
  standing_told [] c = refl
  standing_told (s ∷ ss) c = standing_told ss (Mc.step M c s) ∙ ap (λ (cs : List Call). told cs ss (Mc.answers M (Mc.step M c s) ss)) (step_told c s)
