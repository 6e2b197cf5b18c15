-- One machine does what another does, or refuses an append that the other may accept: laws of the one from the laws of the other.
use mathlib.Core.Path.{◌≡◌, sym, ◌∙◌, ap, subst}
use mathlib.Core.List.{List, [], ◌∷◌, ◌++◌}
use Prim.Native.Nat.{ℕ}
use lib.IntN.{ℤ}
use Rattle.ledger.specs.Ledger.{Parent, Series, boxes}
use Rattle.ledger.specs.Run.{Res, done, refused, Made, Popped, Machine, RefusalsLeave}
use Rattle.ledger.specs.Run as Mc
use Rattle.fork_model.proofs.OperationLaws as Op
use Rattle.fork_model.proofs.History as Hi
use Rattle.fork_model.proofs.Results.{map_res, map_pop, result_of}

pub map_keeps_done : {A B : Type 0} (f : A → B) (X : Res A) (a : A) (Y : Res B) → map_res f X ≡ Y → X ≡ done a → Y ≡ done (f a)
map_keeps_done f X a Y e q = sym e ∙ ap (map_res f) q

pub map_keeps_refused : {A B : Type 0} (f : A → B) (X : Res A) (k : ℕ) (Y : Res B) → map_res f X ≡ Y → X ≡ refused k → Y ≡ refused k
map_keeps_refused f X k Y e q = sym e ∙ ap (map_res f) q

-- the stores of N and their operations, the balances of M
module _ (M N : Machine) where
  abbrev pub lower : Machine
  lower = record {
    Store = N.Store;
    empty = N.empty;
    append_store = N.append_store;
    pop_store = N.pop_store;
    spend_store = N.spend_store;
    unspend_store = N.unspend_store;
    flush_store = N.flush_store;
    entries = N.entries;
    StagingFull = N.StagingFull;
    DeletionFull = N.DeletionFull;
    Bal = M.Bal;
    no_balance = M.no_balance;
    add = M.add;
    sub = M.sub;
    nano_of = M.nano_of;
    amount_of = M.amount_of;
    row_size = M.row_size;
    limit = M.limit;
    Key = M.Key;
    key = M.key;
  }

  module _ (abs : N.Store → M.Store) (Inv : N.Store → Type 0) (Good : M.Store → Type 0) where
    -- an operation does what that of M does, and keeps Inv
    pub record Does (X : Made N.Store N.Store) (Y : Made M.Store M.Store) : Type 0 where
      pub same : map_res abs (result_of X) ≡ result_of Y
      pub keeps : (c : N.Store) → result_of X ≡ done c → Inv c

    pub record DoesPop (X : Made N.Store (Popped N.Store)) (Y : Made M.Store (Popped M.Store)) : Type 0 where
      pub same : map_res (map_pop abs) (result_of X) ≡ result_of Y
      pub keeps : (c : Popped N.Store) → result_of X ≡ done c → Inv c.left

    -- U are the rows whose keys are in use
    pub record Sims (U : Series → ℕ → Type 0) : Type 0 where
      pub leaves : RefusalsLeave N
      pub start : abs N.empty ≡ M.empty
      pub start_inv : Inv N.empty
      pub shows : (b : N.Store) → Inv b → (ch : Series) → N.entries b ch ≡ M.entries (abs b) ch
      pub staging_full : (b : N.Store) → Inv b → M.StagingFull (abs b) → N.StagingFull b
      pub deletion_full : (b : N.Store) → Inv b → M.DeletionFull (abs b) → N.DeletionFull b
      -- an append that is accepted does what that of M does; it may be refused where that of M is not, but not by 25
      pub append : (b : N.Store) (ch : Series) (n : ℤ) (c : N.Store) → Inv b → Good (abs b) → Op.Covers M U (abs b) ch → result_of (N.append_store b ch n) ≡ done c
          → (result_of (M.append_store (abs b) ch n) ≡ done (abs c)) × Inv c
      pub append_25 : (b : N.Store) (ch : Series) (n : ℤ) → Inv b → Good (abs b) → result_of (N.append_store b ch n) ≡ refused 25
          → result_of (M.append_store (abs b) ch n) ≡ refused 25
      pub pop : (b : N.Store) (ch : Series) → Inv b → Good (abs b) → DoesPop (N.pop_store b ch) (M.pop_store (abs b) ch)
      pub spend : (b : N.Store) (p : Parent) (t : ℤ) → Inv b → Good (abs b) → Op.InOrder M (abs b) p → Does (N.spend_store b p t) (M.spend_store (abs b) p t)
      pub unspend : (b : N.Store) (p : Parent) (t : ℤ) → Inv b → Good (abs b) → Op.InOrder M (abs b) p → Does (N.unspend_store b p t) (M.unspend_store (abs b) p t)
      pub flush : (b : N.Store) → Inv b → Good (abs b) → Does (N.flush_store b) (M.flush_store (abs b))

    abbrev pub Fine : N.Store → Type 0
    Fine b = Inv b × Good (abs b)

    module _ (U : Series → ℕ → Type 0) (Tidy : M.Store → Type 0) (GoodB : M.Bal → Type 0) (L : Op.Laws M U Good Tidy GoodB) (S : Sims U) where
      pub lower_laws : Op.Laws lower U Fine (λ b. Tidy (abs b)) GoodB
      lower_laws = record {
        leaves = record {
          appends = S.leaves.appends;
          pops = S.leaves.pops;
          spends = S.leaves.spends;
          unspends = S.leaves.unspends;
          flushes = S.leaves.flushes;
          credits = L.leaves.credits;
          debits = L.leaves.debits;
        };
        empty_good = (S.start_inv, subst Good (sym S.start) L.empty_good);
        empty_tidy = subst Tidy (sym S.start) L.empty_tidy;
        empty_entries = λ ch. S.shows N.empty S.start_inv ch ∙ ap (λ x. M.entries x ch) S.start ∙ L.empty_entries ch;
        append_ok = λ b ch n c G t v e u.
            let f = S.shows b G.0 in
            let w : Op.Covers M U (abs b) ch = rw (← f ch) u in
            let s = S.append b ch n c G.0 G.1 w e in
            let g = S.shows c s.1 in
            let a = L.append_ok (abs b) ch n (abs c) G.1 t v s.0 w in
            record { good = (s.1, a.good); tidy = a.tidy; nonneg = a.nonneg; grown = g ch ∙ a.grown ∙ ap (λ l. l ++ (n ∷ [])) (sym (f ch)); beside = λ d q. g d ∙ a.beside d q ∙ sym (f d) };
        pop_ok = λ b ch c G e.
            let s = S.pop b ch G.0 G.1 in
            let I = s.keeps c e in
            let f = S.shows b G.0 in
            let g = S.shows c.left I in
            let a = L.pop_ok (abs b) ch (map_pop abs c) G.1 (map_keeps_done (map_pop abs) (result_of (N.pop_store b ch)) c (result_of (M.pop_store (abs b) ch)) s.same e) in
            record { good = (I, a.good); last = f ch ∙ a.last ∙ ap (λ l. l ++ (c.value ∷ [])) (sym (g ch)); beside = λ d q. g d ∙ a.beside d q ∙ sym (f d) };
        pop_no = λ b ch k G n e.
            let s = S.pop b ch G.0 G.1 in
            let a = L.pop_no (abs b) ch k G.1 (λ q. n (S.shows b G.0 ch ∙ q)) (map_keeps_refused (map_pop abs) (result_of (N.pop_store b ch)) k (result_of (M.pop_store (abs b) ch)) s.same e) in
            (a.0, S.deletion_full b G.0 a.1);
        spend_ok = λ b p t c G T e.
            let f = S.shows b G.0 in
            let o : Op.InOrder M (abs b) p = rw (← f (boxes p)) T in
            let s = S.spend b p t G.0 G.1 o in
            let I = s.keeps c e in
            let g = S.shows c I in
            let a = L.spend_ok (abs b) p t (abs c) G.1 o (map_keeps_done abs (result_of (N.spend_store b p t)) c (result_of (M.spend_store (abs b) p t)) s.same e) in
            record { good = (I, a.good); tidy = a.tidy; flip = rw (f (boxes p), g (boxes p)) a.flip; beside = λ d q. g d ∙ a.beside d q ∙ sym (f d) };
        unspend_ok = λ b p t c G T e.
            let f = S.shows b G.0 in
            let o : Op.InOrder M (abs b) p = rw (← f (boxes p)) T in
            let s = S.unspend b p t G.0 G.1 o in
            let I = s.keeps c e in
            let g = S.shows c I in
            let a = L.unspend_ok (abs b) p t (abs c) G.1 o (map_keeps_done abs (result_of (N.unspend_store b p t)) c (result_of (M.unspend_store (abs b) p t)) s.same e) in
            record { good = (I, a.good); flip = rw (f (boxes p), g (boxes p)) a.flip; beside = λ d q. g d ∙ a.beside d q ∙ sym (f d) };
        unspend_no = λ b p t k G T m e.
            let f = S.shows b G.0 (boxes p) in
            let o : Op.InOrder M (abs b) p = rw (← f) T in
            let s = S.unspend b p t G.0 G.1 o in
            let a = L.unspend_no (abs b) p t k G.1 o (rw (← f) m) (map_keeps_refused abs (result_of (N.unspend_store b p t)) k (result_of (M.unspend_store (abs b) p t)) s.same e) in
            (a.0, S.staging_full b G.0 a.1);
        flush_ok = λ b c G e.
            let s = S.flush b G.0 G.1 in
            let I = s.keeps c e in
            let a = L.flush_ok (abs b) (abs c) G.1 (map_keeps_done abs (result_of (N.flush_store b)) c (result_of (M.flush_store (abs b))) s.same e) in
            record { good = (I, a.good); tidy = a.tidy; same = λ ch. S.shows c I ch ∙ a.same ch ∙ sym (S.shows b G.0 ch) };
        append_25 = λ b ch n G e. L.append_25 (abs b) ch n G.1 (S.append_25 b ch n G.0 G.1 e);
        spend_25 = λ b p t G T e.
            let o : Op.InOrder M (abs b) p = rw (← S.shows b G.0 (boxes p)) T in
            L.spend_25 (abs b) p t G.1 o (map_keeps_refused abs (result_of (N.spend_store b p t)) 25 (result_of (M.spend_store (abs b) p t)) (S.spend b p t G.0 G.1 o).same e);
        flush_25 = λ b G e.
            L.flush_25 (abs b) G.1 (map_keeps_refused abs (result_of (N.flush_store b)) 25 (result_of (M.flush_store (abs b))) (S.flush b G.0 G.1).same e);
        add_25 = L.add_25;
        sub_25 = L.sub_25;
        no_good = L.no_good;
        no_nano = L.no_nano;
        no_amount = L.no_amount;
        add_ok = L.add_ok;
        sub_ok = L.sub_ok;
        add_back = L.add_back;
        sub_back = L.sub_back;
      }

-- the lowered machine's theorem
module _ (M N : Machine) (abs : N.Store → M.Store) (Inv : N.Store → Type 0) (Tidy : M.Store → Type 0) (Good : (Series → ℕ → Type 0) → M.Store → Type 0) (GoodB : M.Bal → Type 0)
    (laws : (U : Series → ℕ → Type 0) → Mc.KeysApart M U → Op.Laws M U (Good U) Tidy GoodB)
    (sims : (U : Series → ℕ → Type 0) → Mc.KeysApart M U → Sims M N abs Inv (Good U) U) where
  abbrev pub lowered : (U : Series → ℕ → Type 0) → Mc.KeysApart M U → Op.Laws (lower M N) U (Fine M N abs Inv (Good U)) (λ b. Tidy (abs b)) GoodB
  lowered U k = lower_laws M N abs Inv (Good U) U Tidy GoodB (laws U k) (sims U k)

  pub fork_undo : Mc.ForkUndo (lower M N)
  fork_undo = Hi.fork_undo (lower M N) (λ b. Tidy (abs b)) (λ U. Fine M N abs Inv (Good U)) GoodB lowered

  pub never_25 : Mc.Never25 (lower M N)
  never_25 = Hi.never_25 (lower M N) (λ b. Tidy (abs b)) (λ U. Fine M N abs Inv (Good U)) GoodB lowered

  -- what holds after a legal list
  module _ (ss : List Mc.Step) (l : Mc.Legal (lower M N) (Mc.start (lower M N)) ss) (k : Mc.KeysApart (lower M N) (Mc.InUse (lower M N) (Mc.start (lower M N)) ss)) where
    abbrev U : Series → ℕ → Type 0
    U = Mc.InUse (lower M N) (Mc.start (lower M N)) ss

    abbrev last : Mc.Conf (lower M N)
    last = Mc.run (lower M N) (Mc.start (lower M N)) ss

    held : Hi.Inv (lower M N) U (Fine M N abs Inv (Good U)) (λ b. Tidy (abs b)) GoodB last
    held = Hi.held_after (lower M N) (λ b. Tidy (abs b)) (λ X. Fine M N abs Inv (Good X)) GoodB lowered ss l k

    pub fine_after : Fine M N abs Inv (Good U) last.now.store
    fine_after = held.holds.good

    pub balances_after : (p : Parent) → GoodB (last.now.bals p)
    balances_after = held.holds.good_balance

    pub order_after : (p : Parent) → Op.InOrder (lower M N) last.now.store p
    order_after = Hi.in_order (lower M N) U (Fine M N abs Inv (Good U)) (λ b. Tidy (abs b)) GoodB (lowered U k) last held
