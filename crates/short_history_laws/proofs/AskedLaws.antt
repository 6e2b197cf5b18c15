-- A short list is legal by the listing's test exactly where it is legal for the index and every call of it is accepted.
use mathlib.Core.Path.{◌≡◌, refl, sym, ◌∙◌, ap, subst}
use mathlib.Core.Bool.{Bool, true, false, ◌&&◌}
use mathlib.Core.List.{List, [], ◌∷◌, ◌++◌, map, Memᴰ}
use Prim.Native.Nat.{ℕ, suc, ◌+◌, ◌≤◌, ◌<◌}
use native.Mathlib.Omega.{arith}
use lib.Dec.{ltb}
use lib.IntN.{ℤ, pos}
use lib.ListN.{length, length-append, length-map}
use Rattle.records.specs.Records.{records}
use Rattle.records.proofs.CheckLaws.{and_left, and_right, and_true}
use Rattle.buffer_core.specs.Edition.{Edition}
use Rattle.ledger.specs.Ledger.{Parent, Series, boxes, series_dec, ite, Call, append, spend, credit, debit, absℤ, ledger_numbers, ledger_spent, BoxRule, Rules}
use Rattle.ledger.specs.Run.{Made, accepted, Popped, Machine, Phase, clean, calls, undos, Step, call, flush, Conf, negs}
use Rattle.ledger.specs.Run as Mc
use Rattle.fork_model.proofs.OperationLaws as Op
use Rattle.fork_model.proofs.Holding as Hd
use Rattle.fork_model.proofs.History as Hi
use Rattle.history.specs.Index.{Index}
use Rattle.history.specs.Machine.{Borrowed}
use Rattle.history.specs.ForkUndo.{Places}
use Rattle.history.specs.EditionLaws.{EditionLaws}
use Rattle.history_steps.specs.declared.Rank.{Rank}
use Rattle.history_steps.specs.declared.Rank.TheVariants.{Append1, Append2, Spend1, Spend2, Undo, Flush}
use Rattle.history_steps.specs.Legal.{count, none, some, before, lets_call, lets_undo, may, stood, legal_from, legal}
use Rattle.flat_history.proofs.CountLaws.{positives}
use Rattle.short_history_laws.specs.Asked.{step_of, steps_of, IsDone, AllDone, Asked}
use Rattle.short_history_laws.proofs.HeadOnly.{Bare}
use Rattle.short_history_laws.proofs.StandingLaws.{phase_after, call_fact, call_test, undo_fact, undo_test, Stand, calls_of, counted, append_1_fact, append_1_test, append_2_fact, append_2_test, spend_fact, spend_test}
use Rattle.short_history_laws.proofs.IndexSteps as Is

-- no more numbers than calls
one_more : {P : Type 0} (w : Dec P) (l : List ℤ) (n : ℤ) (k : ℕ) → length l ≤ k → length (ite w (l ++ (n ∷ [])) l) ≤ suc k
unfolding ite
one_more (yes e) l n k h = omega (arith, h, length-append l (n ∷ []))
one_more (no q) l n k h = omega (arith, h)

most : (cs : List Call) (ch : Series) → length (ledger_numbers cs ch) ≤ length cs
most [] ch = omega arith
most (append d n ∷ cs) ch = one_more (series_dec d ch) (ledger_numbers cs ch) n (length cs) (most cs ch)
most (spend q t ∷ cs) ch = omega (arith, most cs ch)
most (credit q n ts ∷ cs) ch = omega (arith, most cs ch)
most (debit q n ts ∷ cs) ch = omega (arith, most cs ch)

-- the standing calls after each call
before_less : (js : List Rank) → length (calls_of (before js)) ≤ length (calls_of js)
before_less [] = omega arith
before_less (Append1 ∷ js) = omega arith
before_less (Append2 ∷ js) = omega arith
before_less (Spend1 ∷ js) = omega arith
before_less (Spend2 ∷ js) = omega arith
before_less (Undo ∷ js) = omega arith
before_less (Flush ∷ js) = omega arith

less_then : (k : Rank) (js : List Rank) → length (calls_of (stood k js)) ≤ suc (length (calls_of js))
less_then Append1 js = omega arith
less_then Append2 js = omega arith
less_then Spend1 js = omega arith
less_then Spend2 js = omega arith
less_then Undo js = omega (arith, before_less js)
less_then Flush js = omega arith

before_stand : (js : List Rank) → Stand js → Stand (before js)
before_stand [] h = tt
before_stand (Append1 ∷ js) h = h
before_stand (Append2 ∷ js) h = h
before_stand (Spend1 ∷ js) h = h
before_stand (Spend2 ∷ js) h = h
before_stand (Undo ∷ js) h = absurd h
before_stand (Flush ∷ js) h = absurd h

stand_then : (k : Rank) (js : List Rank) → Stand js → Stand (stood k js)
stand_then Append1 js h = h
stand_then Append2 js h = h
stand_then Spend1 js h = h
stand_then Spend2 js h = h
stand_then Undo js h = before_stand js h
stand_then Flush js h = h

some_test : (js : List Rank) → Stand js → (calls_of js ≡ [] → ⊥) → some js ≡ true
some_test [] h q = absurd (q refl)
some_test (j ∷ js) h q = refl

some_fact : (js : List Rank) → Stand js → some js ≡ true → calls_of js ≡ [] → ⊥
some_fact [] h e q = let z : ◌≡◌ {A = ℕ} 0 1 = cc in omega arith
some_fact (Append1 ∷ js) h e q = let z = ap length q in omega arith
some_fact (Append2 ∷ js) h e q = let z = ap length q in omega arith
some_fact (Spend1 ∷ js) h e q = let z = ap length q in omega arith
some_fact (Spend2 ∷ js) h e q = let z = ap length q in omega arith
some_fact (Undo ∷ js) h e q = absurd h
some_fact (Flush ∷ js) h e q = absurd h

module _ (E : Edition) (ids : Parent → List ℕ) (L : EditionLaws E ids) (B : Borrowed E) (s : Parent → Places) where
  abbrev M : Machine
  M = Is.M E ids L B s

  abbrev None : Series → ℕ → Type 0
  None = Is.None E ids L B s

  abbrev Fine : Index → Type 0
  Fine = Is.Fine E ids L B s

  abbrev Tidy : Index → Type 0
  Tidy = Is.Tidy E ids L B s

  abbrev IsBare : Index → Type 0
  IsBare b = Bare (Is.W E ids L B s) (Is.abs E ids L B s b)

  -- the index after some calls: what holds between calls, nothing has spilled, and which calls stand
  pub record Here (c : Conf M) (js : List Rank) (last : Rank) : Type 0 where
    pub inv : Hi.Inv M None Fine Tidy (Is.GoodB E ids L B s) c
    pub bare : IsBare c.now.store
    pub standing : c.standing ≡ calls_of js
    pub phase : c.phase ≡ phase_after last
    pub stand : Stand js
    pub few : length (calls_of js) ≤ 510

  module _ (c : Conf M) (js : List Rank) (last : Rank) (T : Here c js last) where
    abbrev b : Index
    b = c.now.store

    abbrev l : List ℤ
    l = M.entries b (boxes 0)

    in_order : Op.InOrder M b 0
    in_order = Hi.in_order M None Fine Tidy (Is.GoodB E ids L B s) (Is.laws E ids L B s) c T.inv 0

    numbers : map absℤ l ≡ ledger_numbers (calls_of js) (boxes 0)
    numbers = T.inv.holds.numbers (boxes 0) ∙ ap (λ (x : List Call). ledger_numbers x (boxes 0)) T.standing

    spent : (n : ℕ) → 0 < n → negs n l ≡ ledger_spent (calls_of js) 0 n
    spent n h = T.inv.holds.copies (boxes 0) n h ∙ Hd.counted_boxes c.standing 0 n ∙ ap (λ (x : List Call). ledger_spent x 0 n) T.standing

    rules : Rules (calls_of js)
    rules = subst Rules T.standing T.inv.rules

    short : length l ≤ 510
    short = omega (arith, length-map l absℤ, ap length numbers, most (calls_of js) (boxes 0), T.few)

    -- ---- what is left after an accepted call
    abbrev Left : Conf M → List Call → Phase → Type 0
    Left d ds f = (d.standing ≡ ds) × (d.phase ≡ f) × IsBare d.now.store

    abbrev CallLeft : Call → Made Index Index → Type 0
    CallLeft a X = Left (Mc.after_call M c a (Mc.with_store M c.now X)) (a ∷ calls_of js) calls × IsDone (Mc.said M (Mc.with_store M c.now X))

    call_left : (a : Call) (X : Made Index Index) (d : Index) → X ≡ accepted d → IsBare d → CallLeft a X
    call_left a X d e y = subst (CallLeft a) (sym e) ((ap (λ (x : List Call). a ∷ x) T.standing, refl, y), tt)

    abbrev UndoLeft : List Call → Made (Mc.State M) (Mc.Undone M) → Type 0
    UndoLeft ds U = Left (Mc.after_undo M c ds U) ds undos × IsDone (Mc.said_undo M U)

    pop_left : (ds : List Call) (X : Made Index (Popped Index)) (r : Popped Index) → X ≡ accepted r → IsBare r.left → UndoLeft ds (Mc.popped M c.now X)
    pop_left ds X r e y = subst (λ (Z : Made Index (Popped Index)). UndoLeft ds (Mc.popped M c.now Z)) (sym e) ((refl, refl, y), tt)

    unspend_left : (ds : List Call) (X : Made Index Index) (d : Index) → X ≡ accepted d → IsBare d → UndoLeft ds (Mc.quiet M (Mc.with_store M c.now X))
    unspend_left ds X d e y = subst (λ (Z : Made Index Index). UndoLeft ds (Mc.quiet M (Mc.with_store M c.now Z))) (sym e) ((refl, refl, y), tt)

    -- the newest call is taken back
    abbrev Held : List Call → Type 0
    Held x = Hd.Holds M None Fine Tidy (Is.GoodB E ids L B s) b c.now.bals x

    abbrev NewestLeft : List Call → List Call → Type 0
    NewestLeft cs ds = Left (Mc.newest_undone M c cs) ds undos × IsDone (Mc.said_newest M c cs)

    append_undone : (m : ℕ) (ds : List Call) → Held (append (boxes 0) (pos m) ∷ ds) → NewestLeft (append (boxes 0) (pos m) ∷ ds) ds
    append_undone m ds H =
        let x = Is.pops E ids L B s b T.inv.holds.good T.bare in_order (Hd.pop_some M None Fine Tidy (Is.GoodB E ids L B s) H) in
        pop_left ds (M.pop_store b (boxes 0)) x.0 x.1 x.2

    spend_undone : (m : ℕ) (ds : List Call) → m < 9223372036854775808 → Held (spend 0 (pos m) ∷ ds) → NewestLeft (spend 0 (pos m) ∷ ds) ds
    spend_undone m ds v H =
        let x = Is.unspends E ids L B s b T.inv.holds.good T.bare in_order m v (Hd.copy_there M None Fine Tidy (Is.GoodB E ids L B s) H) in
        unspend_left ds (M.unspend_store b 0 (pos m)) x.0 x.1 x.2

    newest : (is : List Rank) → Stand is → some is ≡ true → Held (calls_of is) → NewestLeft (calls_of is) (calls_of (before is))
    newest [] h e H = let z : ◌≡◌ {A = ℕ} 0 1 = cc in absurd (omega arith)
    newest (Append1 ∷ is) h e H = append_undone 1 (calls_of is) H
    newest (Append2 ∷ is) h e H = append_undone 2 (calls_of is) H
    newest (Spend1 ∷ is) h e H = spend_undone 1 (calls_of is) (omega arith) H
    newest (Spend2 ∷ is) h e H = spend_undone 2 (calls_of is) (omega arith) H
    newest (Undo ∷ is) h e H = absurd h
    newest (Flush ∷ is) h e H = absurd h

    -- ---- what the test decides: the step may come, keeps the rules and is accepted
    pub record Fits (x : Step) : Type 0 where
      pub allowed : Mc.Allowed M c x
      pub rules_then : Rules (Mc.step M c x).standing
      pub done_then : IsDone (Mc.answer_to M c x)

    abbrev Next : Rank → Type 0
    Next k = Fits (step_of k) × Left (Mc.step M c (step_of k)) (calls_of (stood k js)) (phase_after k)

    may_call : lets_call last ≡ true → Mc.MayCall c.phase
    may_call e = subst Mc.MayCall (sym T.phase) (call_fact last e)

    lets : Mc.MayCall c.phase → lets_call last ≡ true
    lets m = call_test last (subst Mc.MayCall T.phase m)

    appended : (m : ℕ) → CallLeft (append (boxes 0) (pos m)) (M.append_store b (boxes 0) (pos m))
    appended m =
        let x = Is.appends E ids L B s b T.inv.holds.good T.bare in_order m short in
        call_left (append (boxes 0) (pos m)) (M.append_store b (boxes 0) (pos m)) x.0 x.1 x.2

    append_fits : (m : ℕ) → m < 9223372036854775808 → lets_call last ≡ true → BoxRule (calls_of js) 0 (pos m) → Fits (call (append (boxes 0) (pos m)))
    append_fits m v e R = record { allowed = (may_call e, v); rules_then = subst Rules (sym (appended m).0.0) (R, rules); done_then = (appended m).1 }

    spent_of : (m : ℕ) → m < 9223372036854775808 → Memᴰ (pos m) l → CallLeft (spend 0 (pos m)) (M.spend_store b 0 (pos m))
    spent_of m v t =
        let x = Is.spends E ids L B s b T.inv.holds.good T.bare in_order m v t in
        call_left (spend 0 (pos m)) (M.spend_store b 0 (pos m)) x.0 x.1 x.2

    spend_fits : (m : ℕ) → m < 9223372036854775808 → lets_call last ≡ true → Memᴰ (pos m) l → Fits (call (spend 0 (pos m)))
    spend_fits m v e t = let x = spent_of m v t in record { allowed = (may_call e, v); rules_then = subst Rules (sym x.0.0) (tt, rules); done_then = x.1 }

    -- an accepted spend shows an unspent copy
    copy_there : (m p q : ℕ) → 0 < m → m < 9223372036854775808 → positives m (map absℤ l) ≡ p → negs m l ≡ q → IsDone (Mc.said M (Mc.with_store M c.now (M.spend_store b 0 (pos m)))) → ltb q p ≡ true
    copy_there m p q h v e f d = by (ltb q p) refl
      where
        by : (t : Bool) → ltb q p ≡ t → t ≡ true
        by true g = refl
        by false g = absurd (
            let x = Is.spends_none E ids L B s b T.inv.holds.good T.bare in_order m v (λ t. let z : true ≡ false = sym (spend_test m p q h l e f t) ∙ g in let y : ◌≡◌ {A = ℕ} 0 1 = cc in omega arith) in
            subst (λ (Z : Made Index Index). IsDone (Mc.said M (Mc.with_store M c.now Z))) x.2 d)

    ones : positives 1 (map absℤ l) ≡ count Append1 js
    ones = ap (positives 1) numbers ∙ (counted js).ones

    twos : positives 2 (map absℤ l) ≡ count Append2 js
    twos = ap (positives 2) numbers ∙ (counted js).twos

    spent_ones : negs 1 l ≡ count Spend1 js
    spent_ones = spent 1 (omega arith) ∙ (counted js).spent_ones

    spent_twos : negs 2 l ≡ count Spend2 js
    spent_twos = spent 2 (omega arith) ∙ (counted js).spent_twos

    undone : some js ≡ true → NewestLeft c.standing (calls_of (before js))
    undone e =
        subst (λ (x : List Call). NewestLeft x (calls_of (before js))) (sym T.standing) (newest js T.stand e (subst Held T.standing T.inv.holds))

    rules_before : (is : List Rank) → Stand is → Rules (calls_of is) → Rules (calls_of (before is))
    rules_before [] h R = tt
    rules_before (Append1 ∷ is) h R = R.1
    rules_before (Append2 ∷ is) h R = R.1
    rules_before (Spend1 ∷ is) h R = R.1
    rules_before (Spend2 ∷ is) h R = R.1
    rules_before (Undo ∷ is) h R = absurd h
    rules_before (Flush ∷ is) h R = absurd h

    flushed : Left (Mc.step M c flush) (calls_of js) clean × IsDone (Mc.answer_to M c flush)
    flushed =
        let x = Is.flushes E ids L B s b T.inv.holds.good T.bare in_order in
        subst (λ (Z : Made Index Index). Left (Mc.after_flush M c (Mc.with_store M c.now Z)) (calls_of js) clean × IsDone (Mc.said M (Mc.with_store M c.now Z))) (sym x.1) ((T.standing, refl, x.2), tt)

    pub next : (k : Rank) → may k js last ≡ true → Next k
    unfolding may
    next Append1 e =
        let x = and_right (lets_call last) (none Append2 js && none Spend1 js) e in
        (append_fits 1 (omega arith) (and_left (lets_call last) (none Append2 js && none Spend1 js) e) (append_1_fact js x), (appended 1).0)
    next Append2 e =
        (append_fits 2 (omega arith) (and_left (lets_call last) (none Spend2 js) e) (append_2_fact js (and_right (lets_call last) (none Spend2 js) e)), (appended 2).0)
    next Spend1 e =
        let f = ltb (count Spend1 js) (count Append1 js) in
        let t = spend_fact 1 (count Append1 js) (count Spend1 js) (omega arith) l ones spent_ones (and_right (lets_call last) f e) in
        (spend_fits 1 (omega arith) (and_left (lets_call last) f e) t, (spent_of 1 (omega arith) t).0)
    next Spend2 e =
        let f = ltb (count Spend2 js) (count Append2 js) in
        let t = spend_fact 2 (count Append2 js) (count Spend2 js) (omega arith) l twos spent_twos (and_right (lets_call last) f e) in
        (spend_fits 2 (omega arith) (and_left (lets_call last) f e) t, (spent_of 2 (omega arith) t).0)
    next Undo e =
        let y = and_right (lets_undo last) (some js) e in
        let x = undone y in (
          record {
            allowed = (subst Mc.MayUndo (sym T.phase) (undo_fact last (and_left (lets_undo last) (some js) e)), (λ z. some_fact js T.stand y (sym T.standing ∙ z)));
            rules_then = subst Rules (sym x.0.0) (rules_before js T.stand rules);
            done_then = x.1;
          },
          x.0,
        )
    next Flush e = (record { allowed = tt; rules_then = subst Rules (sym flushed.0.0) rules; done_then = flushed.1 }, flushed.0)

    pub test_of : (k : Rank) → Fits (step_of k) → may k js last ≡ true
    unfolding may
    test_of Append1 F = and_true (lets_call last) (none Append2 js && none Spend1 js) (lets F.allowed.0) (append_1_test js (subst Rules (appended 1).0.0 F.rules_then).0)
    test_of Append2 F = and_true (lets_call last) (none Spend2 js) (lets F.allowed.0) (append_2_test js (subst Rules (appended 2).0.0 F.rules_then).0)
    test_of Spend1 F =
        and_true (lets_call last) (ltb (count Spend1 js) (count Append1 js)) (lets F.allowed.0) (copy_there 1 (count Append1 js) (count Spend1 js) (omega arith) (omega arith) ones spent_ones F.done_then)
    test_of Spend2 F =
        and_true (lets_call last) (ltb (count Spend2 js) (count Append2 js)) (lets F.allowed.0) (copy_there 2 (count Append2 js) (count Spend2 js) (omega arith) (omega arith) twos spent_twos F.done_then)
    test_of Undo F =
        and_true (lets_undo last) (some js) (undo_test last (subst Mc.MayUndo T.phase F.allowed.0)) (some_test js T.stand (λ z. F.allowed.1 (T.standing ∙ z)))
    test_of Flush F = refl

    pub turn : (k : Rank) → may k js last ≡ true → length (calls_of js) ≤ 509 → Here (Mc.step M c (step_of k)) (stood k js) k
    turn k e h =
        let x = next k e in
        let uncovered : (ch : Series) (n : ℕ) → Mc.Needs M (Mc.step M c (step_of k)) ch n → ⊥
        = λ ch n q. omega (arith, q, most (Mc.step M c (step_of k)).standing ch, ap length x.1.0, less_then k js, h) in
        record {
          inv = (Hi.one_step M None Fine Tidy (Is.GoodB E ids L B s) (Is.laws E ids L B s) c (step_of k) T.inv x.0.allowed x.0.rules_then uncovered).0;
          bare = x.1.2;
          standing = x.1.0;
          phase = x.1.1;
          stand = stand_then k js T.stand;
          few = omega (arith, less_then k js, h);
        }

  -- ---- the whole list
  abbrev Whole : Conf M → List Rank → Type 0
  Whole c ks = Mc.Legal M c (steps_of ks) × AllDone (Mc.answers M c (steps_of ks))

  from_test : (ks : List Rank) (c : Conf M) (js : List Rank) (last : Rank) → Here c js last → length (calls_of js) + length ks ≤ 510 → legal_from js last ks ≡ true → Whole c ks
  unfolding Mc.Legal Mc.answers AllDone legal_from
  from_test [] c js last T h e = (tt, tt)
  from_test (k ∷ ks) c js last T h e =
      let m = and_left (may k js last) (legal_from (stood k js) k ks) e in
      let F = (next c js last T k m).0 in
      let r = from_test ks (Mc.step M c (step_of k)) (stood k js) k (turn c js last T k m (omega arith)) (omega (arith, h, less_then k js)) (and_right (may k js last) (legal_from (stood k js) k ks) e) in
      ((F.allowed, F.rules_then, r.0), (F.done_then, r.1))

  to_test : (ks : List Rank) (c : Conf M) (js : List Rank) (last : Rank) → Here c js last → length (calls_of js) + length ks ≤ 510 → Whole c ks → legal_from js last ks ≡ true
  unfolding Mc.Legal Mc.answers AllDone legal_from
  to_test [] c js last T h w = refl
  to_test (k ∷ ks) c js last T h w =
      let m = test_of c js last T k (record { allowed = w.0.0; rules_then = w.0.1; done_then = w.1.0 }) in
      and_true (may k js last) (legal_from (stood k js) k ks) m
      (to_test ks (Mc.step M c (step_of k)) (stood k js) k (turn c js last T k m (omega arith)) (omega (arith, h, less_then k js)) (w.0.2, w.1.1))

  begins : Here (Mc.start M) [] Flush
  unfolding records
  begins = record {
    inv = Hi.start_inv M None Fine Tidy (Is.GoodB E ids L B s) (Is.laws E ids L B s);
    bare = record { staging = refl; table = refl; deletion = refl };
    standing = refl;
    phase = refl;
    stand = tt;
    few = omega arith;
  }

  -- a list of at most 510 calls is legal by the test exactly where it is asked for, whatever is borrowed
  pub legal_asked : (ks : List Rank) → length ks ≤ 510 → legal ks ≡ true → Asked M ks
  legal_asked ks h e = from_test ks (Mc.start M) [] Flush begins (omega arith) e

  pub asked_legal : (ks : List Rank) → length ks ≤ 510 → Asked M ks → legal ks ≡ true
  asked_legal ks h w = to_test ks (Mc.start M) [] Flush begins (omega arith) w
