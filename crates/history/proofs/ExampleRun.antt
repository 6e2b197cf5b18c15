-- The run of the example: each of its calls and undos is accepted, because lists with room for 600 records are never full and the arguments are in order.
use mathlib.Core.Path.{◌≡◌, refl, sym, ◌∙◌, ap, subst}
use mathlib.Core.Logic.{◌⊎◌, inl, inr, ⊎_elim}
use mathlib.Core.List.{List, [], ◌∷◌, map, Memᴰ, nil≢cons}
use Prim.Native.Nat.{ℕ, zero, suc, ◌+◌, ◌≤◌, ◌<◌}
use native.Mathlib.Omega.{arith}
use lib.IntN.{ℤ, pos, neg_ℤ}
use lib.ListN.{length}
use Rattle.records.specs.Records.{records}
use Rattle.records.proofs.TurnLaws.{length_keys}
use Rattle.buffer_core.specs.declared.Direction.TheVariants.{Spend, Unspend}
use Rattle.buffer_core.specs.Edition.{Edition}
use Rattle.ledger.specs.Ledger.{Parent, Series, boxes, absℤ, Call, append, spend, ledger_numbers, ledger_spent, Rules}
use Rattle.ledger.specs.Run.{Res, done, refused, Made, accepted, refused_leaving, Popped, Phase, clean, calls, undos, Step, call, undo, flush, MayCall, MayUndo}
use Rattle.ledger.specs.Run as Mc
use Rattle.fork_model.proofs.EntryLaws.{Sorted}
use Rattle.fork_model.proofs.OperationLaws as Op
use Rattle.fork_model.proofs.Holding.{counted_boxes}
use Rattle.fork_model.proofs.History as Hi
use Rattle.fork_model.proofs.Room as Ro
use Rattle.fork_model.proofs.Store as St
use Rattle.fork_model.proofs.GoodStore as Gs
use Rattle.fork_model.proofs.FlipLaws as Fl
use Rattle.fork_model.proofs.Search as Se
use Rattle.fork_model.proofs.Whole as Wh
use Rattle.fork_model.proofs.Results.{map_res, map_pop, result_of, result_keeping}
use Rattle.history.specs.Index.{Index, do_append, do_pop, do_flip, do_flush, entries_of}
use Rattle.history.specs.Machine.{Borrowed}
use Rattle.history.specs.ForkUndo.{Places}
use Rattle.history.specs.Example.{append_box, appends, up_to, across_a_row, spend_in_the_row, back_across_the_row, another_branch, left_standing}
use Rattle.history.specs.EditionLaws.{EditionLaws}
use Rattle.history.proofs.Lists.{length_table}
use Rattle.history.proofs.Sim as Sm
use Rattle.history.proofs.IndexTheorem as Ix
use Rattle.history.proofs.ExampleRules.{Plain, plain_append, plain_rule, plain_up_to, numbers_up_to, in_numbers_to, FirstRow, Within, within, unspent_entry}

goes_well : {S A B : Type 0} (f : A → B) (X : Made S A) (Y : Res B) → map_res f (result_of X) ≡ Y → ((k : ℕ) → Y ≡ refused k → ⊥) → (a : A) × (X ≡ accepted a) × (Y ≡ done (f a))
goes_well f (accepted a) Y e n = (a, refl, sym e)
goes_well f (refused_leaving k s) Y e n = absurd (n k (sym e))

module _ (E : Edition) (ids : Parent → List ℕ) (L : EditionLaws E ids) (B : Borrowed E) (s : Parent → Places) (Q : Wh.Balances) (GoodB : Q.Bal → Type 0) (BL : Wh.BalanceLaws (Ix.W E ids L B s Q) Q GoodB)
    (table_room : 600 ≤ B.table_cap) (staged_room : 600 ≤ B.staged_cap) (deleted_room : 600 ≤ B.deleted_cap) where
  abbrev W : St.Env
  W = Ix.W E ids L B s Q

  abbrev code : Gs.Coded W
  code = Ix.code E ids L B s Q

  abbrev M : Mc.Machine
  M = Ix.machine E ids L B s Q

  abbrev abs : Index → St.Store W
  abs b = Ix.abs E ids L B s Q b

  apart : Mc.KeysApart M FirstRow
  apart d e s t u v k = (u.0 ∙ sym v.0, u.1 ∙ sym v.1)

  abbrev Good : St.Store W → Type 0
  Good σ = Gs.Good W code FirstRow σ

  abbrev Fine : Index → Type 0
  Fine b = Sm.Fine (Ix.M E ids L B s Q) (Ix.N E ids L B s Q) abs (Ix.Inv E ids L B s Q) Good b

  abbrev Tidy : Index → Type 0
  Tidy b = Gs.Tidy W code FirstRow (abs b)

  abbrev sims : Sm.Sims (Ix.M E ids L B s Q) (Ix.N E ids L B s Q) abs (Ix.Inv E ids L B s Q) Good FirstRow
  sims = Ix.sims E ids L B s Q FirstRow

  laws : Op.Laws M FirstRow Fine Tidy GoodB
  laws = Sm.lower_laws (Ix.M E ids L B s Q) (Ix.N E ids L B s Q) abs (Ix.Inv E ids L B s Q) Good FirstRow (Gs.Tidy W code FirstRow) GoodB (Wh.store_laws W Q code GoodB BL FirstRow apart) sims

  abbrev State : Type 0
  State = Mc.State M

  abbrev Conf : Type 0
  Conf = Mc.Conf M

  abbrev conf : State → List Call → Phase → Conf
  conf σ cs f = record { now = σ; standing = cs; phase = f }

  abbrev Inv : Conf → Type 0
  Inv c = Hi.Inv M FirstRow Fine Tidy GoodB c

  abbrev Room : ℕ → Index → Type 0
  Room n b = Ro.Room W code n (abs b)

  -- after n steps
  record Stands (σ : State) (cs : List Call) (f : Phase) (n : ℕ) : Type 0 where
    pub inv : Inv (conf σ cs f)
    pub room : Room n σ.store

  record Moves (c : Conf) (x : Step) (cs : List Call) (f : Phase) (n : ℕ) : Type 0 where
    pub after : State
    pub is : Mc.step M c x ≡ conf after cs f
    pub room : Room n after.store

  -- ---- the run is legal, needs the first row only, and leaves the calls `last` standing
  pub record Goes (last : List Call) (c : Conf) (ss : List Step) : Type 0 where
    pub legal : Mc.Legal M c ss
    pub rows : (ch : Series) (s : ℕ) → Mc.InUse M c ss ch s → FirstRow ch s
    pub left : (Mc.run M c ss).standing ≡ last

  goes_on : {last : List Call} (c d : Conf) (x : Step) (ss : List Step) → Mc.step M c x ≡ d → Mc.Allowed M c x → Rules d.standing → Within c.standing → Goes last d ss → Goes last c (x ∷ ss)
  unfolding Mc.Legal Mc.InUse Mc.run
  goes_on c d x ss e a R w G = record {
    legal = (a, subst (λ (y : Conf). Rules y.standing) (sym e) R, subst (λ (y : Conf). Mc.Legal M y ss) (sym e) G.legal);
    rows = λ ch s u. ⊎_elim (w ch s) (λ v. G.rows ch s (subst (λ (y : Conf). Mc.InUse M y ss ch s) e v)) u;
    left = ap (λ (y : Conf). (Mc.run M y ss).standing) e ∙ G.left;
  }

  goes_end : (c : Conf) → Within c.standing → Goes c.standing c []
  unfolding Mc.Legal Mc.InUse Mc.run
  goes_end c w = record { legal = tt; rows = w; left = refl }

  module _ (σ : State) (cs : List Call) (f : Phase) (n : ℕ) (S : Stands σ cs f n) where
    abbrev c : Conf
    c = conf σ cs f

    abbrev b : Index
    b = σ.store

    fine : Fine b
    fine = S.inv.holds.good

    ordered : Op.InOrder (Ix.M E ids L B s Q) (abs b) 0
    ordered = subst (λ (l : List ℤ). Sorted (map absℤ l)) (sims.shows b fine.0 (boxes 0)) (Hi.in_order M FirstRow Fine Tidy GoodB laws c S.inv 0)

    stands_on : (x : Step) (ds : List Call) (g : Phase) (m : ℕ) → Mc.Allowed M c x → (v : Moves c x ds g m) → Rules ds → Within ds → Stands v.after ds g m
    stands_on x ds g m a v R w = record {
      inv = subst Inv v.is (Hi.one_step M FirstRow Fine Tidy GoodB laws c x S.inv a (subst (λ (y : Conf). Rules y.standing) (sym v.is) R)
          (λ ch s h. w ch s (subst (λ (y : Conf). Mc.Needs M y ch s) v.is h))).0;
      room = v.room;
    }

    then : {last : List Call} (x : Step) (ds : List Call) (g : Phase) (m : ℕ) (ss : List Step) → Mc.Allowed M c x → Moves c x ds g m → Rules ds → Within cs → Within ds
        → ((τ : State) → Stands τ ds g m → Goes last (conf τ ds g) ss) → Goes last c (x ∷ ss)
    then x ds g m ss a v R w u k = goes_on c (conf v.after ds g) x ss v.is a R w (k v.after (stands_on x ds g m a v R u))

    -- no list is full
    module _ (few : n < 600) where
      staged_few : length (abs b).staging < B.staged_cap
      staged_few = omega (arith, S.room.rows)

      not_full : Mc.Machine.StagingFull M b ⊎ Mc.Machine.DeletionFull M b → ⊥
      not_full (inl h) = omega (arith, S.room.rows, length_table E.size b.lists.staged_counts.count b.lists.staged, fine.0.staged_at)
      not_full (inr h) = omega (arith, S.room.deleted, length_keys 32 b.lists.deleted_counts.count b.lists.deleted, fine.0.deleted_at)

      -- one row at most
      count_small : (abs b).counts (boxes 0) ≡ 2147483647 → ⊥
      count_small e = let z = (fine.1.used (boxes 0) 1 (omega arith)).1 in omega arith

      append_moves : (m : ℕ) → Moves c (call (append_box m)) (append_box m ∷ cs) calls (suc n)
      append_moves m =
          let a = goes_well abs (do_append E ids b (boxes 0) (pos m)) (St.append_store W (abs b) (boxes 0) (pos m)) (Ix.append_does E ids L B s Q FirstRow b (boxes 0) (pos m) fine.0 fine.1 ∙ result_keeping (abs b) _)
          (λ k e. Ro.append_accepted W code (abs b) (boxes 0) m k count_small staged_few e) in
          record {
            after = record { store = a.0; bals = σ.bals };
            is = ap (λ (x : Made Index Index). Mc.after_call M c (append_box m) (Mc.with_store M σ x)) a.1;
            room = Ro.append_room W code (abs b) (boxes 0) m n (abs a.0) S.room a.2;
          }

      flush_moves : Moves c flush cs clean (suc n)
      flush_moves =
          let a = goes_well abs (do_flush E ids b) (St.flush_store W (abs b)) ((sims.flush b fine.0 fine.1).same ∙ result_keeping (abs b) _)
          (λ k e. Ro.flush_accepted W code (abs b) n S.room k (omega arith) e) in
          record {
            after = record { store = a.0; bals = σ.bals };
            is = ap (λ (x : Made Index Index). Mc.after_flush M c (Mc.with_store M σ x)) a.1;
            room = Ro.flush_room W code (abs b) n S.room (abs a.0) fine.1.one_staged a.2;
          }

      -- a spend of a number that stands and is not spent
      spend_moves : (m : ℕ) → Memᴰ (pos m) (ledger_numbers cs (boxes 0)) → 0 < m → ledger_spent cs 0 m ≡ 0 → Moves c (call (spend 0 (pos m))) (spend 0 (pos m) ∷ cs) calls (suc n)
      spend_moves m t p z =
          let seen = sims.shows b fine.0 (boxes 0) in
          let held = S.inv.holds.numbers (boxes 0) in
          let there = unspent_entry m (entries_of E ids b (boxes 0)) (subst (Memᴰ (pos m)) (sym held) t) (S.inv.holds.copies (boxes 0) m p ∙ counted_boxes cs 0 m ∙ z) in
          let a = goes_well abs (do_flip E ids Spend b 0 (pos m)) (St.spend_store W (abs b) 0 (pos m)) ((sims.spend b 0 (pos m) fine.0 fine.1 ordered).same ∙ result_keeping (abs b) _)
          (λ k e. omega (arith, staged_few, (Fl.guard_no W code FirstRow apart (abs b) (boxes 0) (pos m) (pos m) k fine.1 (Se.sorted_unmap (St.entries W (abs b) (boxes 0)) ordered) refl (subst (Memᴰ (pos m)) seen there) e).1)) in
          record {
            after = record { store = a.0; bals = σ.bals };
            is = ap (λ (x : Made Index Index). Mc.after_call M c (spend 0 (pos m)) (Mc.with_store M σ x)) a.1;
            room = Ro.flip_room W code (abs b) (boxes 0) (pos m) n S.room (abs a.0) (pos m) a.2;
          }

  -- ---- undos: what the theorem says of their answers, and no list is full
  full_of : (σ : State) (k : ℕ) → ((k ≡ 16) × Mc.Machine.StagingFull M σ.store) ⊎ ((k ≡ 21) × Mc.Machine.DeletionFull M σ.store) → Mc.Machine.StagingFull M σ.store ⊎ Mc.Machine.DeletionFull M σ.store
  full_of σ k (inl h) = inl h.1
  full_of σ k (inr h) = inr h.1

  undo_append_moves : (σ : State) (ch : Series) (m : ℤ) (cs : List Call) (f : Phase) (n : ℕ) (S : Stands σ (append ch m ∷ cs) f n) → n < 600 → Moves (conf σ (append ch m ∷ cs) f) undo cs undos (suc n)
  undo_append_moves σ ch m cs f n S few = by_answer (do_pop E ids σ.store ch) refl (Hi.undo_newest M FirstRow Fine Tidy GoodB laws (conf σ (append ch m ∷ cs) f) (append ch m ∷ cs) refl S.inv).1
    where
      fit : Fine σ.store
      fit = S.inv.holds.good

      by_answer : (X : Made Index (Popped Index)) → do_pop E ids σ.store ch ≡ X → Mc.UndoAnswer M σ (append ch m) (Mc.popped M σ X) → Moves (conf σ (append ch m ∷ cs) f) undo cs undos (suc n)
      by_answer (refused_leaving k τ) e a = absurd (not_full σ (append ch m ∷ cs) f n S few (full_of σ k a))
      by_answer (accepted x) e a = record {
        after = record { store = x.left; bals = σ.bals };
        is = ap (λ (y : Made Index (Popped Index)). Mc.after_undo M (conf σ (append ch m ∷ cs) f) cs (Mc.popped M σ y)) e;
        room = Ro.pop_room W code (abs σ.store) ch n S.room (map_pop abs x)
            (Sm.map_keeps_done (map_pop abs) (result_of (do_pop E ids σ.store ch)) x (St.pop_store W (abs σ.store) ch) ((sims.pop σ.store ch fit.0 fit.1).same ∙ result_keeping (abs σ.store) _) (ap result_of e));
      }

  undo_spend_moves : (σ : State) (m : ℕ) (cs : List Call) (f : Phase) (n : ℕ) (S : Stands σ (spend 0 (pos m) ∷ cs) f n) → n < 600 → Moves (conf σ (spend 0 (pos m) ∷ cs) f) undo cs undos (suc n)
  undo_spend_moves σ m cs f n S few = by_answer (do_flip E ids Unspend σ.store 0 (pos m)) refl (Hi.undo_newest M FirstRow Fine Tidy GoodB laws (conf σ (spend 0 (pos m) ∷ cs) f) (spend 0 (pos m) ∷ cs) refl S.inv).1
    where
      fit : Fine σ.store
      fit = S.inv.holds.good

      by_answer : (X : Made Index Index) → do_flip E ids Unspend σ.store 0 (pos m) ≡ X → Mc.UndoAnswer M σ (spend 0 (pos m)) (Mc.quiet M (Mc.with_store M σ X)) → Moves (conf σ (spend 0 (pos m) ∷ cs) f) undo cs undos (suc n)
      by_answer (refused_leaving k τ) e a = absurd (not_full σ (spend 0 (pos m) ∷ cs) f n S few (full_of σ k a))
      by_answer (accepted d) e a = record {
        after = record { store = d; bals = σ.bals };
        is = ap (λ (y : Made Index Index). Mc.after_undo M (conf σ (spend 0 (pos m) ∷ cs) f) cs (Mc.quiet M (Mc.with_store M σ y))) e;
        room = Ro.flip_room W code (abs σ.store) (boxes 0) (neg_ℤ (pos m)) n S.room (abs d) (pos m)
            (Sm.map_keeps_done abs (result_of (do_flip E ids Unspend σ.store 0 (pos m))) d (St.unspend_store W (abs σ.store) 0 (pos m)) ((sims.unspend σ.store 0 (pos m) fit.0 fit.1 (ordered σ (spend 0 (pos m) ∷ cs) f n S)).same ∙ result_keeping (abs σ.store) _) (ap result_of e));
      }

  -- ---- the steps in turn
  more : {last : List Call} (j k t : ℕ) (σ : State) (f : Phase) (rest : List Step) → k + j ≡ t → t ≤ 513 → MayCall f → Stands σ (up_to k) f k
      → ((τ : State) (g : Phase) → Stands τ (up_to t) g t → Goes last (conf τ (up_to t) g) rest) → Goes last (conf σ (up_to k) f) (appends j (suc k) rest)
  unfolding appends up_to
  more {last} zero k t σ f rest e h m S go = let q : k ≡ t = omega arith in subst (λ (x : ℕ). Stands σ (up_to x) f x → Goes last (conf σ (up_to x) f) rest) (sym q) (go σ f) S
  more {last} (suc j) k t σ f rest e h m S go =
      then σ (up_to k) f k S (call (append_box (suc k))) (up_to (suc k)) calls (suc k) (appends j (suc (suc k)) rest) (m, omega arith) (append_moves σ (up_to k) f k S (omega arith) (suc k))
      (plain_rule k k (suc k) (up_to k) (plain_up_to k) (omega arith), S.inv.rules) (within k k (up_to k) (plain_up_to k) (omega arith)) (within (suc k) (suc k) (up_to (suc k)) (plain_up_to (suc k)) (omega arith))
      (λ τ T. more j (suc k) t τ calls rest (omega arith) h tt T go)

  abbrev spent : List Call
  spent = spend 0 (pos 7) ∷ up_to 513

  plain_600 : Plain 512 600 (append_box 600 ∷ up_to 511)
  plain_600 = plain_append 511 511 600 (up_to 511) (plain_up_to 511) (omega arith)

  within_up_to : (k : ℕ) → k ≤ 1024 → Within (up_to k)
  within_up_to k h = within k k (up_to k) (plain_up_to k) h

  last_two : (σ : State) → Stands σ (up_to 511) clean 520 → Goes left_standing (conf σ (up_to 511) clean) another_branch
  last_two σ S =
      let w = within 512 600 (append_box 600 ∷ up_to 511) plain_600 (omega arith) in
      let v = within 513 601 left_standing (plain_append 512 600 601 (append_box 600 ∷ up_to 511) plain_600 (omega arith)) (omega arith) in
      then σ (up_to 511) clean 520 S (call (append_box 600)) (append_box 600 ∷ up_to 511) calls 521 (call (append_box 601) ∷ flush ∷ []) (tt, omega arith) (append_moves σ (up_to 511) clean 520 S (omega arith) 600)
      (plain_rule 511 511 600 (up_to 511) (plain_up_to 511) (omega arith), S.inv.rules) (within_up_to 511 (omega arith)) w
      (λ τ T. then τ (append_box 600 ∷ up_to 511) calls 521 T (call (append_box 601)) left_standing calls 522 (flush ∷ []) (tt, omega arith) (append_moves τ (append_box 600 ∷ up_to 511) calls 521 T (omega arith) 601)
      (plain_rule 512 600 601 (append_box 600 ∷ up_to 511) plain_600 (omega arith), T.inv.rules) w v
      (λ ρ P. then ρ left_standing calls 522 P flush left_standing clean 523 [] tt (flush_moves ρ left_standing calls 522 P (omega arith)) P.inv.rules v v
      (λ π P. goes_end (conf π left_standing clean) v)))

  -- an undo of the newest of k + 1 numbers
  pop_one : {last : List Call} (k n : ℕ) (σ : State) (f : Phase) (ss : List Step) → k ≤ 1000 → n < 600 → MayUndo f → Stands σ (up_to (suc k)) f n → ((τ : State) → Stands τ (up_to k) undos (suc n) → Goes last (conf τ (up_to k) undos) ss)
      → Goes last (conf σ (up_to (suc k)) f) (undo ∷ ss)
  unfolding up_to
  pop_one k n σ f ss h l m S go =
      then σ (up_to (suc k)) f n S undo (up_to k) undos (suc n) ss (m, λ e. nil≢cons (sym e)) (undo_append_moves σ (boxes 0) (pos (suc k)) (up_to k) f n S l) S.inv.rules.1
      (within_up_to (suc k) (omega arith)) (within_up_to k (omega arith)) go

  undo_three : (σ : State) → Stands σ spent clean 516 → Goes left_standing (conf σ spent clean) back_across_the_row
  undo_three σ S =
      then σ spent clean 516 S undo (up_to 513) undos 517 (undo ∷ undo ∷ flush ∷ another_branch) (tt, λ e. nil≢cons (sym e)) (undo_spend_moves σ 7 (up_to 513) clean 516 S (omega arith)) S.inv.rules.1
      (within_up_to 513 (omega arith)) (within_up_to 513 (omega arith))
      (λ τ T. pop_one 512 517 τ undos (undo ∷ flush ∷ another_branch) (omega arith) (omega arith) tt T
      (λ τ T. pop_one 511 518 τ undos (flush ∷ another_branch) (omega arith) (omega arith) tt T
      (λ τ T. then τ (up_to 511) undos 519 T flush (up_to 511) clean 520 another_branch tt (flush_moves τ (up_to 511) undos 519 T (omega arith)) T.inv.rules
      (within_up_to 511 (omega arith)) (within_up_to 511 (omega arith)) last_two)))

  seven : Memᴰ (pos 7) (ledger_numbers (up_to 513) (boxes 0))
  seven = subst (Memᴰ (pos 7)) (sym (numbers_up_to 513)) (in_numbers_to 513 7 (omega arith) (omega arith))

  from_the_row : (σ : State) (f : Phase) → Stands σ (up_to 513) f 513 → Goes left_standing (conf σ (up_to 513) f) spend_in_the_row
  from_the_row σ f S =
      let w = within_up_to 513 (omega arith) in
      then σ (up_to 513) f 513 S flush (up_to 513) clean 514 (call (spend 0 (pos 7)) ∷ flush ∷ back_across_the_row) tt (flush_moves σ (up_to 513) f 513 S (omega arith)) S.inv.rules w w
      (λ τ T. then τ (up_to 513) clean 514 T (call (spend 0 (pos 7))) spent calls 515 (flush ∷ back_across_the_row) (tt, omega arith)
      (spend_moves τ (up_to 513) clean 514 T (omega arith) 7 seven (omega arith) ((plain_up_to 513).unspent 7)) (tt, T.inv.rules) w w
      (λ τ T. then τ spent calls 515 T flush spent clean 516 back_across_the_row tt (flush_moves τ spent calls 515 T (omega arith)) T.inv.rules w w undo_three))

  start_stands : Stands (Mc.start M).now (up_to 0) clean 0
  unfolding up_to records
  start_stands = record { inv = Hi.start_inv M FirstRow Fine Tidy GoodB laws; room = record { rows = omega arith; deleted = omega arith } }

  -- the first branch: 513 numbers stand, one more than a row holds
  pub goes_first : Goes (up_to 513) (Mc.start M) (appends 513 1 [])
  unfolding up_to
  goes_first = more 513 0 513 (Mc.start M).now clean [] (omega arith) (omega arith) tt start_stands (λ τ g T. goes_end (conf τ (up_to 513) g) (within_up_to 513 (omega arith)))

  pub goes : Goes left_standing (Mc.start M) across_a_row
  unfolding up_to
  goes = more 513 0 513 (Mc.start M).now clean spend_in_the_row (omega arith) (omega arith) tt start_stands from_the_row

  pub keys_apart : Mc.KeysApart M (Mc.InUse M (Mc.start M) across_a_row)
  keys_apart d e s t u v k = apart d e s t (goes.rows d s u) (goes.rows e t v) k
