-- What each call does to an index of which nothing has spilled: it changes heads only, and is accepted, but for a spend of a number without an unspent copy.
use Rattle.ledger.proofs.TestLaws.{ite_no}
use mathlib.Core.Path.{◌≡◌, sym, ◌∙◌, ap, subst}
use mathlib.Core.Logic.{◌≢◌}
use mathlib.Core.List.{List, [], ◌∷◌, ◌++◌, map, Memᴰ}
use Prim.Native.Nat.{ℕ, ◌≤◌, ◌<◌}
use native.Mathlib.Decide.{ℕ_discrete, dec_le}
use native.Mathlib.Omega.{arith}
use lib.IntN.{ℤ, pos, neg_ℤ}
use lib.ListN.{length}
use Rattle.buffer_core.specs.Edition.{Edition}
use Rattle.ledger.specs.Ledger.{Parent, Series, boxes, absℤ}
use Rattle.ledger.specs.Run.{Res, done, refused, Made, accepted, refused_leaving, Popped, Machine, flat}
use Rattle.fork_model.proofs.EntryLaws.{Sorted}
use Rattle.fork_model.proofs.Store as St
use Rattle.fork_model.proofs.Search as Se
use Rattle.fork_model.proofs.Search.{done≢refused}
use Rattle.fork_model.proofs.Results.{map_res, map_pop, map_done, result_of, result_keeping, was_accepted}
use Rattle.fork_model.proofs.OperationLaws as Op
use Rattle.fork_model.proofs.GoodStore as Gs
use Rattle.fork_model.proofs.MissLaws as Ms
use Rattle.fork_model.proofs.Whole as Wh
use Rattle.balance.specs.declared.Balance.{Balance}
use Rattle.history.specs.Index.{Index}
use Rattle.history.specs.Machine.{Borrowed}
use Rattle.history.specs.ForkUndo.{Places}
use Rattle.history.specs.EditionLaws.{EditionLaws}
use Rattle.history.proofs.Sim as Sm
use Rattle.history.proofs.IndexTheorem as Ix
use Rattle.history.proofs.ForkUndoLaw as Fk
use Rattle.short_history_laws.proofs.HeadOnly as Ho
use Rattle.short_history_laws.proofs.HeadOnly.{Bare}

-- a refusal of the tables is one of the bytes
refused_too : {S A D : Type 0} (g : A → D) (X : Made S A) (k : ℕ) → map_res g (result_of X) ≡ refused k → (n : ℕ) × (s : S) × (X ≡ refused_leaving n s)
refused_too g (accepted a) k e = absurd (done≢refused e)
refused_too g (refused_leaving n s) k e = (n, s, λ i. refused_leaving n s)

-- what the tables accept is accepted
accepted_too : {S A D : Type 0} (g : A → D) (X : Made S A) (d : D) → map_res g (result_of X) ≡ done d → (a : A) × (X ≡ accepted a) × (g a ≡ d)
accepted_too g X d e = let x = map_done g (result_of X) d e in (x.0, was_accepted X x.0 x.1, x.2)

module _ (E : Edition) (ids : Parent → List ℕ) (L : EditionLaws E ids) (B : Borrowed E) (s : Parent → Places) where
  abbrev pub Q : Wh.Balances
  Q = Fk.Q E ids L B s

  abbrev pub W : St.Env
  W = Ix.W E ids L B s Q

  abbrev pub abs : Index → St.Store W
  abs b = Ix.abs E ids L B s Q b

  abbrev pub code : Gs.Coded W
  code = Ix.code E ids L B s Q

  abbrev pub GoodB : Balance → Type 0
  GoodB = Fk.GoodB E ids L B s

  -- the tables, and the index
  abbrev Tables : Machine
  Tables = Ix.M E ids L B s Q

  abbrev pub M : Machine
  M = Ix.machine E ids L B s Q

  -- no row is in use
  abbrev pub None : Series → ℕ → Type 0
  None ch n = ⊥

  abbrev pub Good : St.Store W → Type 0
  Good = Gs.Good W code None

  abbrev pub Fine : Index → Type 0
  Fine = Sm.Fine Tables (Ix.N E ids L B s Q) abs (Ix.Inv E ids L B s Q) Good

  abbrev pub Tidy : Index → Type 0
  Tidy b = Gs.Tidy W code None (abs b)

  pub laws : Op.Laws M None Fine Tidy GoodB
  laws =
      Sm.lowered Tables (Ix.N E ids L B s Q) abs (Ix.Inv E ids L B s Q) (Gs.Tidy W code None) (Gs.Good W code) GoodB
      (Wh.store_laws W Q code GoodB (Fk.balance_laws E ids L B s)) (λ U k. Ix.sims E ids L B s Q U) None (λ d e m n u. absurd u)

  module _ (b : Index) (F : Fine b) (bare : Bare W (abs b)) (in_order : Op.InOrder M b 0) where
    abbrev σ : St.Store W
    σ = abs b

    abbrev sims : Sm.Sims Tables (Ix.N E ids L B s Q) abs (Ix.Inv E ids L B s Q) Good None
    sims = Ix.sims E ids L B s Q None

    abbrev l : List ℤ
    l = M.entries b (boxes 0)

    abbrev head : List ℤ
    head = σ.heads (boxes 0)

    no_rows : σ.counts (boxes 0) ≡ 0
    no_rows = by (ℕ_discrete (σ.counts (boxes 0)) 0)
      where
        by : Dec (σ.counts (boxes 0) ≡ 0) → σ.counts (boxes 0) ≡ 0
        by (yes e) = e
        by (no q) = absurd (F.1.used (boxes 0) 0 (omega arith))

    heads_are : St.entries W σ (boxes 0) ≡ head
    unfolding flat
    heads_are = ap (λ n. flat (St.store_row W σ (boxes 0)) n ++ head) no_rows

    pub shown : l ≡ head
    shown = sims.shows b F.0 (boxes 0) ∙ heads_are

    sorted : Sorted head
    sorted = subst Sorted shown (Se.sorted_unmap l in_order)

    tables_in_order : Op.InOrder Tables σ 0
    tables_in_order = subst (λ (x : List ℤ). Sorted (map absℤ x)) (sims.shows b F.0 (boxes 0)) in_order

    pub appends : (m : ℕ) → length l ≤ 510 → (d : Index) × (M.append_store b (boxes 0) (pos m) ≡ accepted d) × Bare W (abs d)
    appends m h =
        let e = Ix.append_does E ids L B s Q None b (boxes 0) (pos m) F.0 F.1 ∙ result_keeping σ (St.append_store W σ (boxes 0) (pos m))
        ∙ Ho.append_short W σ (boxes 0) m (omega (arith, h, ap length shown)) in
        let x = accepted_too abs (M.append_store b (boxes 0) (pos m)) (St.with_head W σ (boxes 0) (head ++ (pos m ∷ []))) e in
        (x.0, x.1, subst (Bare W) (sym x.2) (Ho.bare_head W σ (boxes 0) (head ++ (pos m ∷ [])) bare))

    spent_in : (m : ℕ) → m < 9223372036854775808 → (X : Res (St.Store W)) → St.flip_store W σ (boxes 0) (pos m) ≡ X → map_res abs (result_of (M.spend_store b 0 (pos m))) ≡ X
    spent_in m v X q =
        (sims.spend b 0 (pos m) F.0 F.1 tables_in_order).same ∙ result_keeping σ (St.spend_store W σ 0 (pos m))
        ∙ ite_no (dec_le 9223372036854775808 m) (refused 9) (St.flip_store W σ (boxes 0) (pos m)) (λ h. omega arith) ∙ q

    pub spends : (m : ℕ) → m < 9223372036854775808 → Memᴰ (pos m) l → (d : Index) × (M.spend_store b 0 (pos m) ≡ accepted d) × Bare W (abs d)
    spends m v t =
        let y = Ho.flip_head W σ (boxes 0) (pos m) sorted (subst (Memᴰ (pos m)) shown t) in
        let x = accepted_too abs (M.spend_store b 0 (pos m)) (St.with_head W σ (boxes 0) y.0) (spent_in m v (done (St.with_head W σ (boxes 0) y.0)) y.1) in
        (x.0, x.1, subst (Bare W) (sym x.2) (Ho.bare_head W σ (boxes 0) y.0 bare))

    -- a spend of a number without an unspent copy is refused
    pub spends_none : (m : ℕ) → m < 9223372036854775808 → (Memᴰ (pos m) l → ⊥) → (n : ℕ) × (d : Index) × (M.spend_store b 0 (pos m) ≡ refused_leaving n d)
    spends_none m v n =
        let o = sims.shows b F.0 (boxes 0) in
        let so : Sorted (St.entries W σ (boxes 0)) = subst Sorted (sym heads_are) sorted in
        refused_too abs (M.spend_store b 0 (pos m)) _
        (spent_in m v _ (Ms.flip_none W code None (λ d e i j u. absurd u) σ (boxes 0) (pos m) F.1 so (λ t. n (subst (Memᴰ (pos m)) (sym o) t))))

    pub pops : l ≢ [] → (r : Popped Index) × (M.pop_store b (boxes 0) ≡ accepted r) × Bare W (abs r.left)
    pops n =
        let y = Ho.pop_head W σ (boxes 0) (λ z. n (shown ∙ z)) in
        let e = (sims.pop b (boxes 0) F.0 F.1).same ∙ result_keeping σ (St.pop_store W σ (boxes 0)) ∙ y.2 in
        let x = accepted_too (map_pop abs) (M.pop_store b (boxes 0)) (record { left = St.with_head W σ (boxes 0) y.0; value = y.1 }) e in
        (x.0, x.1, subst (Bare W) (sym (ap (λ (r : Popped (St.Store W)). r.left) x.2)) (Ho.bare_head W σ (boxes 0) y.0 bare))

    pub unspends : (m : ℕ) → m < 9223372036854775808 → Memᴰ (neg_ℤ (pos m)) l → (d : Index) × (M.unspend_store b 0 (pos m) ≡ accepted d) × Bare W (abs d)
    unspends m v t =
        let y = Ho.flip_head W σ (boxes 0) (neg_ℤ (pos m)) sorted (subst (Memᴰ (neg_ℤ (pos m))) shown t) in
        let e = (sims.unspend b 0 (pos m) F.0 F.1 tables_in_order).same ∙ result_keeping σ (St.unspend_store W σ 0 (pos m))
        ∙ ite_no (dec_le 9223372036854775808 m) (refused 9) (St.flip_store W σ (boxes 0) (neg_ℤ (pos m))) (λ h. omega arith) ∙ y.1 in
        let x = accepted_too abs (M.unspend_store b 0 (pos m)) (St.with_head W σ (boxes 0) y.0) e in
        (x.0, x.1, subst (Bare W) (sym x.2) (Ho.bare_head W σ (boxes 0) y.0 bare))

    pub flushes : (d : Index) × (M.flush_store b ≡ accepted d) × Bare W (abs d)
    flushes =
        let e = (sims.flush b F.0 F.1).same ∙ result_keeping σ (St.flush_store W σ) ∙ Ho.flush_bare W σ bare in
        let x = accepted_too abs (M.flush_store b) (St.flushed W σ) e in
        (x.0, x.1, subst (Bare W) (sym x.2) (Ho.bare_flush W σ bare))
