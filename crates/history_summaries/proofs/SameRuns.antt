-- With lines enough a list runs with summaries as it does without: each step leaves the same index, balances and standing calls and gives the same answer.
use mathlib.Core.Path.{◌≡◌, refl, sym, ap, ◌∙◌, subst}
use mathlib.Core.Logic.{inl, inr, ⊎_elim}
use mathlib.Core.List.{List, [], ◌∷◌}
use Prim.Native.Nat.{ℕ, zero, suc, ◌<◌}
use native.Mathlib.Omega.{arith}
use lib.IntN.{ℤ, nat_abs}
use Rattle.buffer_core.specs.declared.Direction.TheVariants.{Spend, Unspend}
use Rattle.buffer_core.specs.Edition.{Edition, edition_of}
use Rattle.buffer_core.specs.Append.{Appending}
use Rattle.summary_core.proofs.MoveLaws.{append_plain, free_line}
use Rattle.ledger.specs.Ledger.{Parent, Series, boxes, txs, Call, append, spend, credit, debit, Rules}
use Rattle.ledger.specs.Run.{Made, accepted, refused_leaving, Leaves, Popped, Machine, Step, call, undo, flush}
use Rattle.ledger.specs.Run as Mc
use Rattle.fork_model.proofs.History as Hi
use Rattle.fork_model.proofs.Search.{done≢refused}
use Rattle.fork_model.proofs.Results.{map_res, map_pop, result_of}
use Rattle.history.specs.Index.{Index, after_append, do_append, do_pop, do_flip, do_flush}
use Rattle.history.specs.Machine.{Borrowed}
use Rattle.history.specs.ForkUndo.{Places}
use Rattle.history.specs.EditionLaws.{EditionLaws}
use Rattle.history.proofs.Editions.{edition_laws}
use Rattle.history.proofs.RefusalLaws.{append_leaves, pop_leaves, flip_leaves, flush_leaves}
use Rattle.history_summaries.specs.Summaries.{SummaryIndex, set_summary, appending_with, append_kept, pop_kept, flip_with, flush_without, BorrowedSummaries}
use Rattle.history_summaries.specs.Promises.{SameAsWithout}
use Rattle.history_summaries.proofs.Right.{AllRight}
use Rattle.history_summaries.proofs.Answers.{with_result}
use Rattle.history_summaries.proofs.Refusals.{kept_refusals}
use Rattle.history_summaries.proofs.Simulation as Si
use Rattle.history_summaries.proofs.Theorem as Th

-- ---- what a call leaves and answers, without the summaries
abbrev made_index : Made SummaryIndex SummaryIndex → Made Index Index
made_index (accepted b) = accepted b.index
made_index (refused_leaving k b) = refused_leaving k b.index

abbrev pop_index : Made SummaryIndex (Popped SummaryIndex) → Made Index (Popped Index)
pop_index (accepted r) = accepted (map_pop (λ b. b.index) r)
pop_index (refused_leaving k b) = refused_leaving k b.index

-- the same result, and both leave what was there where they refuse
exact : (b : SummaryIndex) (X : Made SummaryIndex SummaryIndex) (Y : Made Index Index) → map_res (λ x. x.index) (result_of X) ≡ result_of Y → Leaves b X → Leaves b.index Y → made_index X ≡ Y
exact b (accepted x) (accepted y) e l m = let q : x.index ≡ y = cc in ap {B = Made Index Index} accepted q
exact b (accepted x) (refused_leaving k y) e l m = absurd (done≢refused e)
exact b (refused_leaving k x) (accepted y) e l m = absurd (done≢refused (sym e))
exact b (refused_leaving k x) (refused_leaving j y) e l m =
    let q : k ≡ j = cc in
    let p : x.index ≡ y = ap (λ z. z.index) l ∙ sym m in
    λ i. refused_leaving (q i) (p i)

pop_exact : (b : SummaryIndex) (X : Made SummaryIndex (Popped SummaryIndex)) (Y : Made Index (Popped Index)) → map_res (map_pop (λ x. x.index)) (result_of X) ≡ result_of Y
    → Leaves b X → Leaves b.index Y → pop_index X ≡ Y
pop_exact b (accepted x) (accepted y) e l m = let q : map_pop (λ z. z.index) x ≡ y = cc in ap {B = Made Index (Popped Index)} accepted q
pop_exact b (accepted x) (refused_leaving k y) e l m = absurd (done≢refused e)
pop_exact b (refused_leaving k x) (accepted y) e l m = absurd (done≢refused (sym e))
pop_exact b (refused_leaving k x) (refused_leaving j y) e l m =
    let q : k ≡ j = cc in
    let p : x.index ≡ y = ap (λ z. z.index) l ∙ sym m in
    λ i. refused_leaving (q i) (p i)

module _ (E : Edition) (ids : Parent → List ℕ) (L : EditionLaws E ids) (B : Borrowed E) (s : Parent → Places) (Z : BorrowedSummaries) where
  abbrev N : Machine
  N = Th.N E ids L B s Z

  abbrev K : Machine
  K = Th.K E ids L B s Z

  abbrev down_state : Mc.State K → Mc.State N
  down_state σ = record { store = σ.store.index; bals = σ.bals }

  abbrev pub down : Mc.Conf K → Mc.Conf N
  down c = record { now = down_state c.now; standing = c.standing; phase = c.phase }

  -- ---- a step of each machine, from what its operation gives
  module _ (c : Mc.Conf K) where
    pub record SameStep (x : Step) : Type 0 where
      pub state : down (Mc.step K c x) ≡ Mc.step N (down c) x
      pub answer : Mc.answer_to K c x ≡ Mc.answer_to N (down c) x

    called : (a : Call) (X : Made SummaryIndex SummaryIndex) (Y : Made Index Index) → made_index X ≡ Y
        → (down (Mc.after_call K c a (Mc.with_store K c.now X)) ≡ Mc.after_call N (down c) a (Mc.with_store N (down_state c.now) Y))
        × (Mc.said K (Mc.with_store K c.now X) ≡ Mc.said N (Mc.with_store N (down_state c.now) Y))
    called a (accepted b) Y q = rw (← q) (refl, refl)
    called a (refused_leaving k b) Y q = rw (← q) (refl, refl)

    called_balance : (a : Call) (p : Parent) (X : Made K.Bal K.Bal)
        → (down (Mc.after_call K c a (Mc.with_balance K c.now p X)) ≡ Mc.after_call N (down c) a (Mc.with_balance N (down_state c.now) p X))
        × (Mc.said K (Mc.with_balance K c.now p X) ≡ Mc.said N (Mc.with_balance N (down_state c.now) p X))
    called_balance a p (accepted b) = (refl, refl)
    called_balance a p (refused_leaving k b) = (refl, refl)

    popped : (cs : List Call) (X : Made SummaryIndex (Popped SummaryIndex)) (Y : Made Index (Popped Index)) → pop_index X ≡ Y
        → (down (Mc.after_undo K c cs (Mc.popped K c.now X)) ≡ Mc.after_undo N (down c) cs (Mc.popped N (down_state c.now) Y))
        × (Mc.said_undo K (Mc.popped K c.now X) ≡ Mc.said_undo N (Mc.popped N (down_state c.now) Y))
    popped cs (accepted r) Y q = rw (← q) (refl, refl)
    popped cs (refused_leaving k b) Y q = rw (← q) (refl, refl)

    undone : (cs : List Call) (X : Made SummaryIndex SummaryIndex) (Y : Made Index Index) → made_index X ≡ Y
        → (down (Mc.after_undo K c cs (Mc.quiet K (Mc.with_store K c.now X))) ≡ Mc.after_undo N (down c) cs (Mc.quiet N (Mc.with_store N (down_state c.now) Y)))
        × (Mc.said_undo K (Mc.quiet K (Mc.with_store K c.now X)) ≡ Mc.said_undo N (Mc.quiet N (Mc.with_store N (down_state c.now) Y)))
    undone cs (accepted b) Y q = rw (← q) (refl, refl)
    undone cs (refused_leaving k b) Y q = rw (← q) (refl, refl)

    undone_balance : (cs : List Call) (p : Parent) (X : Made K.Bal K.Bal)
        → (down (Mc.after_undo K c cs (Mc.quiet K (Mc.with_balance K c.now p X))) ≡ Mc.after_undo N (down c) cs (Mc.quiet N (Mc.with_balance N (down_state c.now) p X)))
        × (Mc.said_undo K (Mc.quiet K (Mc.with_balance K c.now p X)) ≡ Mc.said_undo N (Mc.quiet N (Mc.with_balance N (down_state c.now) p X)))
    undone_balance cs p (accepted b) = (refl, refl)
    undone_balance cs p (refused_leaving k b) = (refl, refl)

    flushed : (X : Made SummaryIndex SummaryIndex) (Y : Made Index Index) → made_index X ≡ Y
        → (down (Mc.after_flush K c (Mc.with_store K c.now X)) ≡ Mc.after_flush N (down c) (Mc.with_store N (down_state c.now) Y))
        × (Mc.said K (Mc.with_store K c.now X) ≡ Mc.said N (Mc.with_store N (down_state c.now) Y))
    flushed (accepted b) Y q = rw (← q) (refl, refl)
    flushed (refused_leaving k b) Y q = rw (← q) (refl, refl)

    -- the operations
    module _ (U : Series → ℕ → Type 0) (apart : Mc.KeysApart N U) (lines : (p : Parent) → (0 < Z.lines p) × ((n : ℕ) → U (boxes p) n → suc n < Z.lines p))
        (I : Hi.Inv K U (λ b. AllRight E ids Z.lines b × Th.Fine E ids L B s Z U b.index) (λ b. Th.Tidy E ids L B s Z b.index) (Th.GoodB E ids L B s Z) c) where
      abbrev b : SummaryIndex
      b = c.now.store

      abbrev R : AllRight E ids Z.lines b
      R = I.holds.good.0

      abbrev F : Th.Fine E ids L B s Z U b.index
      F = I.holds.good.1

      -- every parent has a free line
      free : (p : Parent) → nat_abs (b.index.parts (boxes p)).head.spills < Z.lines p
      free p = by_count (nat_abs (b.index.parts (boxes p)).head.spills) refl
        where
          by_count : (m : ℕ) → nat_abs (b.index.parts (boxes p)).head.spills ≡ m → m < Z.lines p
          by_count zero e = (lines p).0
          by_count (suc m) e = (lines p).1 m (F.1.used (boxes p) m (omega arith))

      append_same : (ch : Series) (n : ℤ) → map_res (λ x. x.index) (result_of (append_kept E ids Z.lines b ch n)) ≡ result_of (do_append E ids b.index ch n)
      append_same (txs p) n = with_result b.summaries (do_append E ids b.index (txs p) n)
      append_same (boxes p) n =
          let o = appending_with E ids Z.lines b p n in
          with_result (set_summary b.summaries p o.summary) (after_append b.index (boxes p) o.result.answer o.result.head o.result.staged)
          ∙ ap (λ (a : Appending). result_of (after_append b.index (boxes p) a.answer a.head a.staged))
          (append_plain E (ids p) (b.index.parts (boxes p)).head (Z.lines p) (b.summaries p) n b.index.lists.staged_counts (b.index.parts (boxes p)).places b.index.lists.staged
          (Si.enough E ids L B s Z _ U apart b R F p) (R p).room (free_line (b.index.parts (boxes p)).head n (Z.lines p) (free p)))

      appends : (ch : Series) (n : ℤ) → made_index (append_kept E ids Z.lines b ch n) ≡ do_append E ids b.index ch n
      appends ch n = exact b (append_kept E ids Z.lines b ch n) (do_append E ids b.index ch n) (append_same ch n) ((kept_refusals E ids B s Z).appends b ch n) (append_leaves E ids b.index ch n)

      pops : (ch : Series) → pop_index (pop_kept E ids Z.lines b ch) ≡ do_pop E ids b.index ch
      pops ch = pop_exact b (pop_kept E ids Z.lines b ch) (do_pop E ids b.index ch) (Si.pop_same E ids L B s Z _ U apart b R F ch) ((kept_refusals E ids B s Z).pops b ch) (pop_leaves E ids b.index ch)

      spends : (p : Parent) (t : ℤ) → made_index (flip_with E ids Z.lines Spend b p t) ≡ do_flip E ids Spend b.index p t
      spends p t = exact b (flip_with E ids Z.lines Spend b p t) (do_flip E ids Spend b.index p t) (Si.flip_same E ids L B s Z _ U apart b R F p (Hi.in_order K U _ _ _ (Th.kept_laws E ids L B s Z U apart) c I p) Spend t)
          ((kept_refusals E ids B s Z).spends b p t) (flip_leaves E ids b.index p Spend t)

      unspends : (p : Parent) (t : ℤ) → made_index (flip_with E ids Z.lines Unspend b p t) ≡ do_flip E ids Unspend b.index p t
      unspends p t = exact b (flip_with E ids Z.lines Unspend b p t) (do_flip E ids Unspend b.index p t) (Si.flip_same E ids L B s Z _ U apart b R F p (Hi.in_order K U _ _ _ (Th.kept_laws E ids L B s Z U apart) c I p) Unspend t)
          ((kept_refusals E ids B s Z).unspends b p t) (flip_leaves E ids b.index p Unspend t)

      flushes : made_index (flush_without E ids Z.lines b) ≡ do_flush E ids b.index
      flushes = exact b (flush_without E ids Z.lines b) (do_flush E ids b.index) (with_result b.summaries (do_flush E ids b.index)) ((kept_refusals E ids B s Z).flushes b) (flush_leaves E ids b.index)

      -- ---- a step
      same_call : (a : Call) → SameStep (call a)
      same_call (append ch n) = let q = called (append ch n) (append_kept E ids Z.lines b ch n) (do_append E ids b.index ch n) (appends ch n) in record { state = q.0; answer = q.1 }
      same_call (spend p t) = let q = called (spend p t) (flip_with E ids Z.lines Spend b p t) (do_flip E ids Spend b.index p t) (spends p t) in record { state = q.0; answer = q.1 }
      same_call (credit p n ts) = let q = called_balance (credit p n ts) p (K.add (c.now.bals p) n ts) in record { state = q.0; answer = q.1 }
      same_call (debit p n ts) = let q = called_balance (debit p n ts) p (K.sub (c.now.bals p) n ts) in record { state = q.0; answer = q.1 }

      abbrev Newest : List Call → Type 0
      Newest l = (down (Mc.newest_undone K c l) ≡ Mc.newest_undone N (down c) l) × (Mc.said_newest K c l ≡ Mc.said_newest N (down c) l)

      same_undo : (l : List Call) → Newest l
      same_undo [] = (refl, refl)
      same_undo (append ch n ∷ cs) = popped cs (pop_kept E ids Z.lines b ch) (do_pop E ids b.index ch) (pops ch)
      same_undo (spend p t ∷ cs) = undone cs (flip_with E ids Z.lines Unspend b p t) (do_flip E ids Unspend b.index p t) (unspends p t)
      same_undo (credit p n ts ∷ cs) = undone_balance cs p (K.sub (c.now.bals p) n ts)
      same_undo (debit p n ts ∷ cs) = undone_balance cs p (K.add (c.now.bals p) n ts)

      pub same_step : (x : Step) → SameStep x
      same_step (call a) = same_call a
      same_step undo = let q = same_undo c.standing in record { state = q.0; answer = q.1 }
      same_step flush = let q = flushed (flush_without E ids Z.lines b) (do_flush E ids b.index) flushes in record { state = q.0; answer = q.1 }

  -- ---- all steps
  pub record SameFrom (c : Mc.Conf K) (ss : List Step) : Type 0 where
    pub legal : Mc.Legal K c ss
    pub in_use : (ch : Series) (n : ℕ) → Mc.InUse K c ss ch n → Mc.InUse N (down c) ss ch n
    pub last : down (Mc.run K c ss) ≡ Mc.run N (down c) ss
    pub answers : Mc.answers K c ss ≡ Mc.answers N (down c) ss

  allowed : (c : Mc.Conf K) (x : Step) → Mc.Allowed N (down c) x → Mc.Allowed K c x
  allowed c (call a) h = h
  allowed c undo h = h
  allowed c flush h = h

  module _ (U : Series → ℕ → Type 0) (apart : Mc.KeysApart N U) (lines : (p : Parent) → (0 < Z.lines p) × ((n : ℕ) → U (boxes p) n → suc n < Z.lines p)) where
    abbrev Inv : Mc.Conf K → Type 0
    Inv c = Hi.Inv K U (λ b. AllRight E ids Z.lines b × Th.Fine E ids L B s Z U b.index) (λ b. Th.Tidy E ids L B s Z b.index) (Th.GoodB E ids L B s Z) c

    pub same_from : (ss : List Step) (c : Mc.Conf K) → Inv c → Mc.Legal N (down c) ss → ((ch : Series) (n : ℕ) → Mc.InUse N (down c) ss ch n → U ch n) → SameFrom c ss
    unfolding Mc.Legal Mc.InUse Mc.run Mc.answers
    same_from [] c I l C = record { legal = tt; in_use = λ ch n h. h; last = refl; answers = refl }
    same_from (x ∷ ss) c I l C =
        let d = Mc.step K c x in
        let S = same_step c U apart lines I x in
        let a = allowed c x l.0 in
        let r : Rules d.standing = subst (λ (y : Mc.Conf N). Rules y.standing) (sym S.state) l.1 in
        let covers : (ch : Series) (n : ℕ) → Mc.InUse N (down d) ss ch n → U ch n = λ ch n h. C ch n (inr (subst (λ (y : Mc.Conf N). Mc.InUse N y ss ch n) S.state h)) in
        let o = Hi.one_step K U _ _ _ (Th.kept_laws E ids L B s Z U apart) c x I a r (λ ch n h. covers ch n (Hi.first N U (λ σ. ⊥) (λ σ. ⊥) (λ σ. ⊥) ss (down d) ch n h)) in
        let T = same_from ss d o.0 (subst (λ (y : Mc.Conf N). Mc.Legal N y ss) (sym S.state) l.2) covers in
        record {
          legal = (a, r, T.legal);
          in_use = λ ch n h. ⊎_elim (λ u. inl u) (λ u. inr (subst (λ (y : Mc.Conf N). Mc.InUse N y ss ch n) S.state (T.in_use ch n u))) h;
          last = T.last ∙ ap (λ (y : Mc.Conf N). Mc.run N y ss) S.state;
          answers = λ i. S.answer i ∷ (T.answers ∙ ap (λ (y : Mc.Conf N). Mc.answers N y ss) S.state) i;
        }

pub same_as_without : SameAsWithout
same_as_without v ids long B s Z ss l k enough =
    let E = edition_of v in
    let L = edition_laws v ids long in
    let U = Mc.InUse (N E ids L B s Z) (Mc.start (N E ids L B s Z)) ss in
    let T = same_from E ids L B s Z U k enough ss (Mc.start (K E ids L B s Z)) (Hi.start_inv (K E ids L B s Z) U _ _ _ (Th.kept_laws E ids L B s Z U k)) l (λ ch n h. h) in
    record {
      legal = T.legal;
      in_use = T.in_use;
      index = ap (λ (c : Mc.Conf (N E ids L B s Z)). c.now.store) T.last;
      balances = ap (λ (c : Mc.Conf (N E ids L B s Z)). c.now.bals) T.last;
      standing = ap (λ (c : Mc.Conf (N E ids L B s Z)). c.standing) T.last;
      answers = T.answers;
    }
