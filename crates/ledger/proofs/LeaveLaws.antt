-- Where an operation leaves what was there, so do the call, the undo and the flush that run it: the whole state is as it was.
use mathlib.Core.Path.{◌≡◌, refl, ◌∙◌, ap, subst}
use Prim.Native.Nat.{ℕ}
use Rattle.ledger.specs.Ledger.{Parent, parent_dec, ite, Call, append, spend, credit, debit}
use Rattle.ledger.specs.Run.{Made, accepted, refused_leaving, Leaves, Popped, Machine, RefusalsLeave}
use Rattle.ledger.specs.Run as Mc

module _ (M : Machine) where
  open M use {Store, append_store, pop_store, spend_store, unspend_store, flush_store, Bal, add, sub}

  abbrev State : Type 0
  State = Mc.State M

  pub store_left : (σ : State) {A : Type 0} (X : Made Store A) (k : ℕ) (τ : Store) → Leaves σ.store X → X ≡ refused_leaving k τ → Mc.stored M σ τ ≡ σ
  store_left σ X k τ l e = ap (Mc.stored M σ) (subst (Leaves σ.store) e l)

  pub paid_back : (σ : State) (p : Parent) → Mc.paid M σ p (σ.bals p) ≡ σ
  unfolding ite
  paid_back σ p = λ i. record { store = σ.store; bals = λ q. same q (parent_dec p q) i }
    where
      same : (q : Parent) (t : Dec (p ≡ q)) → ite t (σ.bals p) (σ.bals q) ≡ σ.bals q
      same q (yes e) = ap σ.bals e
      same q (no n) = refl

  pub balance_left : (σ : State) (p : Parent) {A : Type 0} (X : Made Bal A) (k : ℕ) (b : Bal) → Leaves (σ.bals p) X → X ≡ refused_leaving k b → Mc.paid M σ p b ≡ σ
  balance_left σ p X k b l e = ap (Mc.paid M σ p) (subst (Leaves (σ.bals p)) e l) ∙ paid_back σ p

  stores : (σ : State) (X : Made Store Store) → Leaves σ.store X → Leaves σ (Mc.with_store M σ X)
  stores σ (accepted τ) l = tt
  stores σ (refused_leaving k τ) l = ap (Mc.stored M σ) l

  pops : (σ : State) (X : Made Store (Popped Store)) → Leaves σ.store X → Leaves σ (Mc.popped M σ X)
  pops σ (accepted r) l = tt
  pops σ (refused_leaving k τ) l = ap (Mc.stored M σ) l

  pays : (σ : State) (p : Parent) (X : Made Bal Bal) → Leaves (σ.bals p) X → Leaves σ (Mc.with_balance M σ p X)
  pays σ p (accepted b) l = tt
  pays σ p (refused_leaving k b) l = ap (Mc.paid M σ p) l ∙ paid_back σ p

  quietly : (σ : State) (X : Made State State) → Leaves σ X → Leaves σ (Mc.quiet M X)
  quietly σ (accepted τ) l = tt
  quietly σ (refused_leaving k τ) l = l

  module _ (L : RefusalsLeave M) where
    pub call_leaves : (σ : State) (a : Call) → Leaves σ (Mc.run_call M σ a)
    call_leaves σ (append ch n) = stores σ (append_store σ.store ch n) (L.appends σ.store ch n)
    call_leaves σ (spend p t) = stores σ (spend_store σ.store p t) (L.spends σ.store p t)
    call_leaves σ (credit p n ts) = pays σ p (add (σ.bals p) n ts) (L.credits (σ.bals p) n ts)
    call_leaves σ (debit p n ts) = pays σ p (sub (σ.bals p) n ts) (L.debits (σ.bals p) n ts)

    pub undo_leaves : (σ : State) (a : Call) → Leaves σ (Mc.run_undo M σ a)
    undo_leaves σ (append ch n) = pops σ (pop_store σ.store ch) (L.pops σ.store ch)
    undo_leaves σ (spend p t) = quietly σ (Mc.with_store M σ (unspend_store σ.store p t)) (stores σ (unspend_store σ.store p t) (L.unspends σ.store p t))
    undo_leaves σ (credit p n ts) = quietly σ (Mc.with_balance M σ p (sub (σ.bals p) n ts)) (pays σ p (sub (σ.bals p) n ts) (L.debits (σ.bals p) n ts))
    undo_leaves σ (debit p n ts) = quietly σ (Mc.with_balance M σ p (add (σ.bals p) n ts)) (pays σ p (add (σ.bals p) n ts) (L.credits (σ.bals p) n ts))

    pub flush_leaves : (σ : State) → Leaves σ (Mc.with_store M σ (flush_store σ.store))
    flush_leaves σ = stores σ (flush_store σ.store) (L.flushes σ.store)
