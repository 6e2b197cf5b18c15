-- The run of a list of steps keeps what holds between calls, and the theorem from the laws.
use Rattle.ledger.proofs.TestLaws.{ite_yes}
use Rattle.ledger.proofs.LeaveLaws.{store_left, balance_left}
use mathlib.Core.Path.{◌≡◌, refl, sym, ◌∙◌, ap, subst}
use mathlib.Core.Logic.{inl, inr, ⊎_elim}
use mathlib.Core.List.Memᴰ
use mathlib.Core.List.{List, [], ◌∷◌, ◌++◌, map, Memᴰ}
use Prim.Native.Nat.{ℕ, suc, ◌*◌, ◌<◌}
use native.Mathlib.Omega.{arith}
use lib.IntN.{ℤ}
use lib.Signed.{◌≤ℤ◌, mag}
use lib.ListN.{length, length-append, length-map}
use Rattle.ledger.specs.Ledger.{Parent, Series, boxes, txs, series_dec, Tokens, Call, append, spend, credit, debit, absℤ, sum_of, ledger_numbers, Rules, Typed}
use Rattle.ledger.specs.Run.{done, refused, Made, accepted, refused_leaving, Popped, Machine, Phase, clean, calls, undos, Step, call, undo, flush, MayCall, negs}
use Rattle.ledger.specs.Run as Mc
use Rattle.fork_model.proofs.OperationLaws as Op
use Rattle.fork_model.proofs.Results.{result_of, was_accepted}
use Rattle.fork_model.proofs.Holding as Hd
use Rattle.fork_model.proofs.Search.{done≢refused}
use Rattle.fork_model.proofs.Holding.{neg_count}
use Rattle.fork_model.proofs.EntryLaws.{Sorted, sorted_nums}

module _ (M : Machine) (U : Series → ℕ → Type 0) (Good Tidy : M.Store → Type 0) (GoodB : M.Bal → Type 0) where
  open M use {Store, append_store, pop_store, spend_store, unspend_store, flush_store, entries, Bal, add, sub, row_size, limit}

  abbrev Holds : Store → (Parent → Bal) → List Call → Type 0
  Holds σ bs cs = Hd.Holds M U Good Tidy GoodB σ bs cs

  abbrev TidyIn : Phase → Store → Type 0
  TidyIn f σ = Hd.TidyIn M U Good Tidy GoodB f σ

  abbrev pub Conf : Type 0
  Conf = Mc.Conf M

  abbrev pub State : Type 0
  State = Mc.State M

  -- every standing call has typed arguments
  abbrev pub AllTyped : List Call → Type 0
  AllTyped [] = Unit {0}
  AllTyped (a ∷ cs) = Mc.Args limit a × AllTyped cs

  pub record Inv (c : Conf) : Type 0 where
    pub holds : Holds c.now.store c.now.bals c.standing
    pub tidy : TidyIn c.phase c.now.store
    pub rules : Rules c.standing
    pub typed : AllTyped c.standing

  abbrev pub Covered : Conf → Type 0
  Covered c = (ch : Series) (s : ℕ) → Mc.Needs M c ch s → U ch s

  tidy_call : (f : Phase) (σ : Store) → MayCall f → TidyIn f σ → Tidy σ
  tidy_call clean σ m t = t
  tidy_call calls σ m t = t
  tidy_call undos σ m t = absurd m

  pub first : (ss : List Step) (c : Conf) (ch : Series) (s : ℕ) → Mc.Needs M c ch s → Mc.InUse M c ss ch s
  unfolding Mc.InUse
  first [] c ch s h = h
  first (x ∷ ss) c ch s h = inl h

  none : (ch : Series) (k : ℕ) → 0 ≡ neg_count [] ch k
  unfolding neg_count
  none (boxes p) k = refl
  none (txs p) k = refl

  module _ (L : Op.Laws M U Good Tidy GoodB) where
    inv_refused : (c : Conf) (τ : State) → τ ≡ c.now → Inv c → MayCall c.phase → Inv (record { now = τ; standing = c.standing; phase = calls })
    inv_refused c τ e I m =
        subst (λ (x : State). Inv (record { now = x; standing = c.standing; phase = calls })) (sym e)
        (record { holds = I.holds; tidy = tidy_call c.phase c.now.store m I.tidy; rules = I.rules; typed = I.typed })

    grows : (c : Conf) (ch : Series) (n : ℤ) → Inv c → (s : ℕ) → row_size * suc s < suc (length (entries c.now.store ch)) → row_size * suc s < length (ledger_numbers (append ch n ∷ c.standing) ch)
    grows c ch n I s h =
        let l = ap length (I.holds.numbers ch) in
        let k = ap length (ite_yes (series_dec ch ch) (ledger_numbers c.standing ch ++ (n ∷ [])) (ledger_numbers c.standing ch) refl) in
        omega (arith, l, k, length-append (ledger_numbers c.standing ch) (n ∷ []), length-map (entries c.now.store ch) absℤ)

    call_append : (c : Conf) (ch : Series) (n : ℤ) (r : Made Store Store) → mag n < limit → append_store c.now.store ch n ≡ r → Inv c → MayCall c.phase
        → Rules (Mc.after_call M c (append ch n) (Mc.with_store M c.now r)).standing → Covered (Mc.after_call M c (append ch n) (Mc.with_store M c.now r))
        → Inv (Mc.after_call M c (append ch n) (Mc.with_store M c.now r))
    call_append c ch n (accepted τ) v e I m R C =
        let a = L.append_ok c.now.store ch n τ I.holds.good (tidy_call c.phase c.now.store m I.tidy) v (ap result_of e) (λ s h. C ch s (grows c ch n I s h)) in
        record { holds = Hd.hold_append M U Good Tidy GoodB I.holds a; tidy = a.tidy; rules = R; typed = (v, I.typed) }
    call_append c ch n (refused_leaving k τ) v e I m R C = inv_refused c (Mc.stored M c.now τ) (store_left M c.now (append_store c.now.store ch n) k τ (L.leaves.appends c.now.store ch n) e) I m

    -- the numbers of a parent's boxes do not fall
    pub in_order : (c : Conf) → Inv c → (p : Parent) → Op.InOrder M c.now.store p
    in_order c I p = subst Sorted (sym (I.holds.numbers (boxes p))) (sorted_nums c.standing p I.rules)

    call_spend : (c : Conf) (p : Parent) (t : ℤ) (r : Made Store Store) → mag t < limit → spend_store c.now.store p t ≡ r → Inv c → MayCall c.phase
        → Inv (Mc.after_call M c (spend p t) (Mc.with_store M c.now r))
    call_spend c p t (accepted τ) v e I m =
        let a = L.spend_ok c.now.store p t τ I.holds.good (in_order c I p) (ap result_of e) in
        record { holds = Hd.hold_spend M U Good Tidy GoodB I.holds a; tidy = a.tidy (tidy_call c.phase c.now.store m I.tidy); rules = (tt, I.rules); typed = (v, I.typed) }
    call_spend c p t (refused_leaving k τ) v e I m = inv_refused c (Mc.stored M c.now τ) (store_left M c.now (spend_store c.now.store p t) k τ (L.leaves.spends c.now.store p t) e) I m

    call_credit : (c : Conf) (p : Parent) (n : ℤ) (ts : Tokens) (r : Made Bal Bal) → (mag n < limit) × Typed ts → add (c.now.bals p) n ts ≡ r → Inv c → MayCall c.phase
        → Rules (Mc.after_call M c (credit p n ts) (Mc.with_balance M c.now p r)).standing → Inv (Mc.after_call M c (credit p n ts) (Mc.with_balance M c.now p r))
    call_credit c p n ts (accepted b) v e I m R =
        let a = L.add_ok (c.now.bals p) n ts b (I.holds.good_balance p) (record { typed = v.1; nonneg = R.0.nonneg; allpos = R.0.allpos }) (ap result_of e) in
        record { holds = Hd.hold_credit M U Good Tidy GoodB I.holds a.0 a.1; tidy = tidy_call c.phase c.now.store m I.tidy; rules = R; typed = (v, I.typed) }
    call_credit c p n ts (refused_leaving k b) v e I m R = inv_refused c (Mc.paid M c.now p b) (balance_left M c.now p (add (c.now.bals p) n ts) k b (L.leaves.credits (c.now.bals p) n ts) e) I m

    call_debit : (c : Conf) (p : Parent) (n : ℤ) (ts : Tokens) (r : Made Bal Bal) → (mag n < limit) × Typed ts → sub (c.now.bals p) n ts ≡ r → Inv c → MayCall c.phase
        → Rules (Mc.after_call M c (debit p n ts) (Mc.with_balance M c.now p r)).standing → Inv (Mc.after_call M c (debit p n ts) (Mc.with_balance M c.now p r))
    call_debit c p n ts (accepted b) v e I m R =
        let a = L.sub_ok (c.now.bals p) n ts b (I.holds.good_balance p) (record { typed = v.1; nonneg = R.0.nonneg; allpos = R.0.allpos })
        (subst (λ (x : ℤ). n ≤ℤ x) (sym (I.holds.nanoErgs p)) R.0.within) (λ t. subst (λ (x : ℤ). sum_of t ts ≤ℤ x) (sym (I.holds.amounts p t)) (R.0.held t)) (ap result_of e) in
        record { holds = Hd.hold_debit M U Good Tidy GoodB I.holds a.0 a.1; tidy = tidy_call c.phase c.now.store m I.tidy; rules = R; typed = (v, I.typed) }
    call_debit c p n ts (refused_leaving k b) v e I m R = inv_refused c (Mc.paid M c.now p b) (balance_left M c.now p (sub (c.now.bals p) n ts) k b (L.leaves.debits (c.now.bals p) n ts) e) I m

    step_call : (c : Conf) (a : Call) → Inv c → MayCall c.phase → Mc.Args limit a → Rules (Mc.step M c (call a)).standing → Covered (Mc.step M c (call a)) → Inv (Mc.step M c (call a))
    step_call c (append ch n) I m v R C = call_append c ch n (append_store c.now.store ch n) v refl I m R C
    step_call c (spend p t) I m v R C = call_spend c p t (spend_store c.now.store p t) v refl I m
    step_call c (credit p n ts) I m v R C = call_credit c p n ts (add (c.now.bals p) n ts) v refl I m R
    step_call c (debit p n ts) I m v R C = call_debit c p n ts (sub (c.now.bals p) n ts) v refl I m R

    -- undo: what is left after the newest call a, and the answer
    pub record Undid (c : Conf) (a : Call) (cs : List Call) (r : Made State (Mc.Undone M)) : Type 0 where
      pub inv : Inv (Mc.after_undo M c cs r)
      pub answer : Mc.UndoAnswer M c.now a r

    abbrev At : Conf → Call → List Call → Type 0
    At c a cs = Holds c.now.store c.now.bals (a ∷ cs) × Rules (a ∷ cs) × (c.standing ≡ a ∷ cs) × AllTyped (a ∷ cs)

    kept : (c : Conf) (τ : State) (a : Call) (cs : List Call) → τ ≡ c.now → At c a cs → Inv (record { now = τ; standing = c.standing; phase = undos })
    kept c τ a cs e A = subst (λ (x : State). Inv (record { now = x; standing = c.standing; phase = undos })) (sym e) (record { holds = subst (Holds c.now.store c.now.bals) (sym A.2) A.0; tidy = tt; rules = subst Rules (sym A.2) A.1; typed = subst AllTyped (sym A.2) A.3 })

    undo_append : (c : Conf) (ch : Series) (n : ℤ) (cs : List Call) (r : Made Store (Popped Store)) → pop_store c.now.store ch ≡ r → At c (append ch n) cs → Undid c (append ch n) cs (Mc.popped M c.now r)
    undo_append c ch n cs (accepted r) e A =
        let a = L.pop_ok c.now.store ch r A.0.good (ap result_of e) in
        record { inv = record { holds = Hd.hold_pop M U Good Tidy GoodB A.0 A.1.0 a; tidy = tt; rules = A.1.1; typed = A.3.1 }; answer = ap (λ z. z ∷ []) (Hd.pop_value M U Good Tidy GoodB A.0 A.1.0 a) }
    undo_append c ch n cs (refused_leaving k τ) e A = record {
      inv = kept c (Mc.stored M c.now τ) (append ch n) cs (store_left M c.now (pop_store c.now.store ch) k τ (L.leaves.pops c.now.store ch) e) A;
      answer = inr (L.pop_no c.now.store ch k A.0.good (Hd.pop_some M U Good Tidy GoodB A.0) (ap result_of e));
    }

    undo_spend : (c : Conf) (p : Parent) (t : ℤ) (cs : List Call) (r : Made Store Store) → unspend_store c.now.store p t ≡ r → At c (spend p t) cs → Undid c (spend p t) cs (Mc.quiet M (Mc.with_store M c.now r))
    undo_spend c p t cs (accepted τ) e A =
        let a = L.unspend_ok c.now.store p t τ A.0.good (subst Sorted (sym (A.0.numbers (boxes p))) (sorted_nums cs p A.1.1)) (ap result_of e) in
        record { inv = record { holds = Hd.hold_unspend M U Good Tidy GoodB A.0 a; tidy = tt; rules = A.1.1; typed = A.3.1 }; answer = refl }
    undo_spend c p t cs (refused_leaving k τ) e A = record {
      inv = kept c (Mc.stored M c.now τ) (spend p t) cs (store_left M c.now (unspend_store c.now.store p t) k τ (L.leaves.unspends c.now.store p t) e) A;
      answer = inl (L.unspend_no c.now.store p t k A.0.good (subst Sorted (sym (A.0.numbers (boxes p))) (sorted_nums cs p A.1.1)) (Hd.copy_there M U Good Tidy GoodB A.0) (ap result_of e));
    }

    undo_credit : (c : Conf) (p : Parent) (n : ℤ) (ts : Tokens) (cs : List Call) → At c (credit p n ts) cs → Undid c (credit p n ts) cs (Mc.quiet M (Mc.with_balance M c.now p (sub (c.now.bals p) n ts)))
    undo_credit c p n ts cs A =
        let b = L.sub_back A.0.past.0.bal n ts (c.now.bals p) A.0.past.0.good (A.0.good_balance p) (record { typed = A.3.0.1; nonneg = A.1.0.nonneg; allpos = A.1.0.allpos }) (Hd.grew_from M U Good Tidy GoodB A.0) in
        rw (was_accepted (sub (c.now.bals p) n ts) b.0 b.1) (record { inv = record { holds = Hd.hold_uncredit M U Good Tidy GoodB A.0 b.2 b.3; tidy = tt; rules = A.1.1; typed = A.3.1 }; answer = refl })

    undo_debit : (c : Conf) (p : Parent) (n : ℤ) (ts : Tokens) (cs : List Call) → At c (debit p n ts) cs → Undid c (debit p n ts) cs (Mc.quiet M (Mc.with_balance M c.now p (add (c.now.bals p) n ts)))
    undo_debit c p n ts cs A =
        let b = L.add_back A.0.past.0.bal n ts (c.now.bals p) A.0.past.0.good (A.0.good_balance p) (record { typed = A.3.0.1; nonneg = A.1.0.nonneg; allpos = A.1.0.allpos }) (Hd.shrank_from M U Good Tidy GoodB A.0) in
        rw (was_accepted (add (c.now.bals p) n ts) b.0 b.1) (record { inv = record { holds = Hd.hold_undebit M U Good Tidy GoodB A.0 b.2 b.3; tidy = tt; rules = A.1.1; typed = A.3.1 }; answer = refl })

    undo_any : (c : Conf) (a : Call) (cs : List Call) → At c a cs → Undid c a cs (Mc.run_undo M c.now a)
    undo_any c (append ch n) cs A = undo_append c ch n cs (pop_store c.now.store ch) refl A
    undo_any c (spend p t) cs A = undo_spend c p t cs (unspend_store c.now.store p t) refl A
    undo_any c (credit p n ts) cs A = undo_credit c p n ts cs A
    undo_any c (debit p n ts) cs A = undo_debit c p n ts cs A

    pub undo_newest : (c : Conf) (l : List Call) → c.standing ≡ l → Inv c → Inv (Mc.newest_undone M c l) × Mc.NewestOk M c l
    undo_newest c [] e I = (I, tt)
    undo_newest c (a ∷ cs) e I =
        let u = undo_any c a cs (subst (Holds c.now.store c.now.bals) e I.holds, subst Rules e I.rules, e, subst AllTyped e I.typed) in
        (u.inv, u.answer)

    step_flush : (c : Conf) (r : Made Store Store) → flush_store c.now.store ≡ r → Inv c → Inv (Mc.after_flush M c (Mc.with_store M c.now r))
    step_flush c (accepted τ) e I = let a = L.flush_ok c.now.store τ I.holds.good (ap result_of e) in record { holds = Hd.hold_flush M U Good Tidy GoodB I.holds a; tidy = a.tidy; rules = I.rules; typed = I.typed }
    step_flush c (refused_leaving k τ) e I =
        subst (λ (x : State). Inv (record { now = x; standing = c.standing; phase = c.phase })) (sym (store_left M c.now (flush_store c.now.store) k τ (L.leaves.flushes c.now.store) e)) I

    pub one_step : (c : Conf) (s : Step) → Inv c → Mc.Allowed M c s → Rules (Mc.step M c s).standing → Covered (Mc.step M c s) → Inv (Mc.step M c s) × Mc.StepOk M c s
    one_step c (call a) I m R C = (step_call c a I m.0 m.1 R C, tt)
    one_step c undo I m R C = undo_newest c c.standing refl I
    one_step c flush I m R C = (step_flush c (flush_store c.now.store) refl I, tt)

    pub all_steps : (ss : List Step) (c : Conf) → Inv c → Mc.Legal M c ss → ((ch : Series) (s : ℕ) → Mc.InUse M c ss ch s → U ch s) → Mc.StepsOk M c ss × Inv (Mc.run M c ss)
    unfolding Mc.Legal Mc.InUse Mc.StepsOk Mc.run
    all_steps [] c I l C = (tt, I)
    all_steps (s ∷ ss) c I l C =
        let o = one_step c s I l.0 l.1 (λ ch k h. C ch k (inr (first ss (Mc.step M c s) ch k h))) in
        let r = all_steps ss (Mc.step M c s) o.0 l.2 (λ ch k h. C ch k (inr h)) in
        ((o.1, r.0), r.1)

    -- 25 never arises: a call or a flush is not refused with it, and an undo is refused with 16 or 21 only
    store_25 : (σ : State) (X : Made Store Store) → (result_of X ≡ refused 25 → ⊥) → Mc.said M (Mc.with_store M σ X) ≡ refused 25 → ⊥
    store_25 σ (accepted τ) f e = done≢refused e
    store_25 σ (refused_leaving k τ) f e = f (let q : k ≡ 25 = cc in ap refused q)

    balance_25 : (σ : State) (p : Parent) (X : Made Bal Bal) → (result_of X ≡ refused 25 → ⊥) → Mc.said M (Mc.with_balance M σ p X) ≡ refused 25 → ⊥
    balance_25 σ p (accepted b) f e = done≢refused e
    balance_25 σ p (refused_leaving k b) f e = f (let q : k ≡ 25 = cc in ap refused q)

    undo_25 : (σ : State) (a : Call) (X : Made State (Mc.Undone M)) → Mc.UndoAnswer M σ a X → Mc.said_undo M X ≡ refused 25 → ⊥
    undo_25 σ a (accepted u) h e = done≢refused e
    undo_25 σ a (refused_leaving k τ) (inl h) e = let q : k ≡ 25 = cc in omega (arith, h.0)
    undo_25 σ a (refused_leaving k τ) (inr h) e = let q : k ≡ 25 = cc in omega (arith, h.0)

    newest_25 : (c : Conf) (l : List Call) → Mc.NewestOk M c l → Mc.said_newest M c l ≡ refused 25 → ⊥
    newest_25 c [] h e = done≢refused e
    newest_25 c (a ∷ cs) h e = undo_25 c.now a (Mc.run_undo M c.now a) h e

    call_25 : (c : Conf) (a : Call) → Inv c → Mc.Args limit a → Mc.answer_to M c (call a) ≡ refused 25 → ⊥
    call_25 c (append ch n) I v = store_25 c.now (append_store c.now.store ch n) (L.append_25 c.now.store ch n I.holds.good)
    call_25 c (spend p t) I v = store_25 c.now (spend_store c.now.store p t) (L.spend_25 c.now.store p t I.holds.good (in_order c I p))
    call_25 c (credit p n ts) I v = balance_25 c.now p (add (c.now.bals p) n ts) (L.add_25 (c.now.bals p) n ts (I.holds.good_balance p) v.1)
    call_25 c (debit p n ts) I v = balance_25 c.now p (sub (c.now.bals p) n ts) (L.sub_25 (c.now.bals p) n ts (I.holds.good_balance p) v.1)

    step_25 : (c : Conf) (s : Step) → Inv c → Mc.Allowed M c s → Mc.StepOk M c s → Mc.answer_to M c s ≡ refused 25 → ⊥
    step_25 c (call a) I m k = call_25 c a I m.1
    step_25 c undo I m k = newest_25 c c.standing k
    step_25 c flush I m k = store_25 c.now (flush_store c.now.store) (L.flush_25 c.now.store I.holds.good)

    pub all_never_25 : (ss : List Step) (c : Conf) → Inv c → Mc.Legal M c ss → ((ch : Series) (s : ℕ) → Mc.InUse M c ss ch s → U ch s) → Memᴰ (refused 25) (Mc.answers M c ss) → ⊥
    unfolding Mc.Legal Mc.InUse Mc.answers
    all_never_25 [] c I l C t = Memᴰ.not-nil t
    all_never_25 (s ∷ ss) c I l C t =
        let o = one_step c s I l.0 l.1 (λ ch k h. C ch k (inr (first ss (Mc.step M c s) ch k h))) in
        ⊎_elim (λ e. step_25 c s I l.0 o.1 (sym e)) (λ u. all_never_25 ss (Mc.step M c s) o.0 l.2 (λ ch k h. C ch k (inr h)) u) (Memᴰ.cases_cons t)

    pub start_inv : Inv (Mc.start M)
    start_inv = record {
      holds = record {
        good = L.empty_good;
        good_balance = L.no_good;
        numbers = λ ch. ap (map absℤ) (L.empty_entries ch);
        copies = λ ch k h. ap (negs k) (L.empty_entries ch) ∙ none ch k;
        nanoErgs = L.no_nano;
        amounts = L.no_amount;
        past = tt;
      };
      tidy = L.empty_tidy;
      rules = tt;
      typed = tt;
    }

    agrees : (c : Conf) → Inv c → Mc.Agrees M c
    unfolding neg_count
    agrees c I = record {
      numbers = I.holds.numbers;
      copies = λ p n h. I.holds.copies (boxes p) n h;
      nanoErgs = I.holds.nanoErgs;
      amounts = I.holds.amounts;
    }

-- From the laws, for each set U of row names whose keys are apart: what holds after a legal list, the theorem, and that 25 never arises
module _ (M : Machine) (Tidy : M.Store → Type 0) (Good : (Series → ℕ → Type 0) → M.Store → Type 0) (GoodB : M.Bal → Type 0)
    (laws : (U : Series → ℕ → Type 0) → Mc.KeysApart M U → Op.Laws M U (Good U) Tidy GoodB) where
  module _ (ss : List Step) (l : Mc.Legal M (Mc.start M) ss) (k : Mc.KeysApart M (Mc.InUse M (Mc.start M) ss)) where
    abbrev U : Series → ℕ → Type 0
    U = Mc.InUse M (Mc.start M) ss

    begun : Inv M U (Good U) Tidy GoodB (Mc.start M)
    begun = start_inv M U (Good U) Tidy GoodB (laws U k)

    steps : Mc.StepsOk M (Mc.start M) ss × Inv M U (Good U) Tidy GoodB (Mc.run M (Mc.start M) ss)
    steps = all_steps M U (Good U) Tidy GoodB (laws U k) ss (Mc.start M) begun l (λ ch s h. h)

    pub held_after : Inv M U (Good U) Tidy GoodB (Mc.run M (Mc.start M) ss)
    held_after = steps.1

    pub fork_undo : Mc.StepsOk M (Mc.start M) ss × Mc.Agrees M (Mc.run M (Mc.start M) ss)
    fork_undo = (steps.0, agrees M U (Good U) Tidy GoodB (laws U k) (Mc.run M (Mc.start M) ss) held_after)

    pub never_25 : Memᴰ (refused 25) (Mc.answers M (Mc.start M) ss) → ⊥
    never_25 = all_never_25 M U (Good U) Tidy GoodB (laws U k) ss (Mc.start M) begun l (λ ch s h. h)
