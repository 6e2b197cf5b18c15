-- A spend or an unspend of the bytes is one of the tables, and keeps what holds between calls.
use Rattle.ledger.proofs.TestLaws.{ite_yes}
use Rattle.ledger.specs.Run.{row_or}
use mathlib.Core.Path.{◌≡◌, refl, sym, ◌∙◌, ap}
use mathlib.Core.List.{List, [], ◌∷◌, ◌++◌, map}
use mathlib.Core.Bool.{Bool, true, false, not, ◌&&◌, cond}
use Prim.Native.Nat.{ℕ, zero, suc, ◌+◌, ◌*◌, ◌-◌, ◌≤◌, ◌<◌}
use native.Mathlib.Omega.{arith}
use native.Mathlib.Decide.{ℕ_discrete, dec_le}
use lib.IntN.{ℤ, pos, neg_ℤ, nat_abs}
use lib.ListN.{length, get_or, take, drop, set, length-set}
use lib.Seq.{take-set-lt, get_or-take, length-take-le}
use lib.Dec.{leb, ltb, eqb}
use borrow.Author.Tests.{le-leb, lt-leb, ltb-true, ltb-false, eq-eqb}
use Rattle.stores.specs.Stores.{write}
use Rattle.signed.specs.Sign.{is_negative}
use Rattle.entries.specs.Order.{order_ok}
use Rattle.entries.specs.Flip.{position, flipped_at}
use Rattle.entries.specs.declared.Position.{Position}
use Rattle.entries.specs.declared.Position.TheVariants.{At, Seen, Absent}
use Rattle.std.specs.Prelude.{Option, Some, None}
use Rattle.records.specs.declared.Place.TheVariants.{Staged, Table, Missing}
use Rattle.index_types.specs.declared.ListCounts.{ListCounts}
use Rattle.records.specs.Records.{records, keys, stored_row, record_of}
use Rattle.records.specs.Find.{find_key, is_found, row_at, place_of, locate_key}
use Rattle.records.specs.Changes.{slot, count_after, with_count, put_record, full_for}
use Rattle.records.specs.Checks.{RecordsOk, records_ok}
use Rattle.records.proofs.TurnLaws.{found_in}
use Rattle.records.proofs.RecordLaws.{record_at}
use Rattle.records.proofs.CheckLaws.{and_true, records_ok_after_put, records_ok_test}
use Rattle.segment_id.specs.declared.Kind.TheVariants.{Box}
use Rattle.index_types.specs.declared.HeadCounts.{HeadCounts}
use Rattle.buffer_core.specs.declared.Direction.{Direction}
use Rattle.buffer_core.specs.declared.Direction.TheVariants.{Spend, Unspend}
use Rattle.buffer_core.specs.Answers.{Lead}
use Rattle.buffer_core.specs.declared.Look.{Look}
use Rattle.buffer_core.specs.declared.Walk.{Walk}
use Rattle.buffer_core.specs.declared.Walk.TheVariants.{Hit, Ended, Failed}
use Rattle.buffer_core.specs.Edition.{Edition, RowRead, bad, good}
use Rattle.buffer_core.specs.Spills.{Sources, key_at, place_at, read_placed, spill_read, head_ok}
use Rattle.buffer_core.specs.Flip.{check_row, lead_of, look_of, search_by, search_in, walk_from, Effect, refuse, flip_head, stage, head_first, spends, done_by, row_checked, lead_at, look_at, boxes_in, row_flipped, stage_from, stage_at, after_walk, after_search, in_rows, in_order, flip_effect, flip_core, flip_ok, flip_of}
use Rattle.buffer_core.specs.Pop.{Lists}
use Rattle.buffer_core.proofs.ListLaws.{ListsFit, lists_fit, fit_lists}
use Rattle.ledger.specs.Ledger.{Parent, Series, boxes, ite}
use Rattle.ledger.specs.Run.{Res, done, refused}
use Rattle.fork_model.proofs.Store as St
use Rattle.fork_model.proofs.Store.{then_do, flip_first, seen_in, when_b, none_found}
use Rattle.fork_model.proofs.GoodStore as Gs
use Rattle.fork_model.proofs.Search as Se
use Rattle.fork_model.proofs.Search.{done≢refused}
use Rattle.fork_model.proofs.Table.{or_else}
use Rattle.fork_model.proofs.Results.{map_res, result_of}
use Rattle.history.specs.Index.{Part, part, Index, index, set_part, with_staged, after_flip, to_res, sources_of, do_flip}
use Rattle.history.proofs.Tables.{tab, put, lookup_is, row_opt}
use Rattle.history.proofs.Tables as Tab
use Rattle.history.proofs.State as S
use Rattle.history.specs.EditionLaws.{EditionLaws}
use Rattle.history.proofs.State.{HeadFits, head_fits, fit_head, push_to, all_set, same_set, Capacities, head_of, spills_of}
use Rattle.history.proofs.Lists.{ite_le, full_is, put_table}
use Rattle.history.proofs.PopSim.{read_same}
use Rattle.history.proofs.FlipLists.{copy_of, copy_abs, new_of, first_new, is_seen, first_seen, first_in, order_same, lead_res, low_of, search_same, look_res, hit_of, walk_same}

pub good_of : (r : RowRead) (l : List ℤ) → to_res r ≡ done l → r ≡ good l
good_of (bad k) l e = absurd (done≢refused (sym e))
good_of (good x) l e = let q : x ≡ l = cc in ap good q

lead_case : (u : Bool) (l : List ℤ) → lead_of (cond u (good l) (bad 13)) ≡ lead_res (when_b u (done l) (refused 13))
lead_case true l = refl
lead_case false l = refl

look_case : (u : Bool) (l : List ℤ) (t : ℕ) (d : Bool) → look_of (cond u (good l) (bad 13)) t d ≡ look_res t d (when_b u (done l) (refused 13))
look_case true l t d = refl
look_case false l t d = refl

when_same : (u : Bool) (l k : List ℤ) → when_b u (done l) (refused 13) ≡ done k → l ≡ k
when_same true l k e = cc
when_same false l k e = absurd (done≢refused (sym e))

check_eq : (l : List ℤ) → length l ≡ 512 → check_row (good l) ≡ cond (order_ok l) (good l) (bad 13)
check_eq l e = rw (eq-eqb (length l) 512 e)

turn_take : (l : List ℤ) (n i : ℕ) → i < n → take n (flipped_at (At i) l) ≡ flipped_at (At i) (take n l)
turn_take l n i h = take-set-lt n l i (neg_ℤ (get_or l i (pos 0))) h ∙ ap (λ (x : ℤ). set (take n l) i (neg_ℤ x)) (sym (get_or-take n l i (pos 0) h))

module _ (E : Edition) (ids : Parent → List ℕ) (L : EditionLaws E ids) (caps : Capacities) where
  abbrev W : St.Env
  W = S.env E ids caps

  abbrev abs : Index → St.Store W
  abs b = S.abs E ids caps b

  module _ (b : Index) (p : Parent) (I : S.Inv E ids caps b) (small : Gs.Small 9223372036854775808 ((abs b).heads (boxes p)))
      (full : (s : ℕ) → s < (abs b).counts (boxes p) → Gs.FullRow 9223372036854775808 511 (St.store_row W (abs b) (boxes p) s)) where
    abbrev x : Lists
    x = b.lists

    abbrev c : ListCounts
    c = x.staged_counts

    abbrev q : Part
    q = b.parts (boxes p)

    abbrev heads : List ℤ
    heads = (abs b).heads (boxes p)

    abbrev spills : ℕ
    spills = nat_abs q.head.spills

    abbrev w : Sources
    w = sources_of E ids b (boxes p)

    abbrev cap : ℕ
    cap = c.capacity

    abbrev end : Effect → Res Index
    end e = let o = done_by E e c q.places x.staged in result_of (after_flip b (boxes p) o.answer o.head o.staged)

    abbrev rd : ℕ → Res (List ℤ)
    rd n = St.read_row W (abs b) (boxes p) n

    abbrev read_spill : ℕ → RowRead
    read_spill n = spill_read E Box w n

    hf : HeadFits q
    hf = head_fits q (I.heads_in (boxes p))

    lf : ListsFit E x
    lf = lists_fit E x I.lists_in

    -- an effect does what the tables' operation does, and keeps what holds
    pub record Does (e : Effect) (Y : Res (St.Store W)) : Type 0 where
      pub same : map_res abs (end e) ≡ Y
      pub keeps : (d : Index) → end e ≡ done d → S.Inv E ids caps d

    no : (k : ℕ) → Does (refuse k) (refused k)
    no k = record { same = refl; keeps = λ d e. absurd (done≢refused (sym e)) }

    to : {e : Effect} {Y Z : Res (St.Store W)} → Does e Y → Y ≡ Z → Does e Z
    to D z = record { same = D.same ∙ z; keeps = D.keeps }

    from : {e f : Effect} {Y : Res (St.Store W)} → e ≡ f → Does f Y → Does e Y
    from {e} {f} {Y} z D = rw z D

    inv_part : (v : Part) (d : ListCounts) (l : List ℕ) → head_ok v.head v.places ≡ true → v.head ≡ q.head → RecordsOk E.size E.limit d l → d.capacity ≡ cap
        → S.Inv E ids caps (index (set_part b.parts (boxes p) v) (with_staged d l x))
    inv_part v d l y h t e = record {
      heads_in = all_set (λ z. head_ok z.head z.places ≡ true) b.parts (boxes p) v y I.heads_in;
      not_below = all_set (λ z. is_negative z.head.spills ≡ false) b.parts (boxes p) v (rw h (I.not_below (boxes p))) I.not_below;
      spills_in = all_set (λ z. nat_abs z.head.spills ≤ 2147483647) b.parts (boxes p) v (rw h (I.spills_in (boxes p))) I.spills_in;
      lists_in = fit_lists E (with_staged d l x) (record { in_staged = t; in_table = lf.in_table; in_deleted = lf.in_deleted });
      table_at = I.table_at;
      staged_at = e ∙ I.staged_at;
      deleted_at = I.deleted_at;
    }

    -- ---- the head
    head_does : (i : ℕ) → i < length heads → Does (flip_head i) (done (St.with_head W (abs b) (boxes p) (flipped_at (At i) heads)))
    head_does i h =
        let long = length-take-le q.head.len q.places (omega (arith, hf.len_in, hf.places_in)) in
        let v : Part = part q.head (flipped_at (At i) q.places) in
        let hs = push_to head_of b.parts (boxes p) v (flipped_at (At i) heads) (turn_take q.places q.head.len i (omega arith)) in
        let cs = same_set spills_of b.parts (boxes p) v refl in
        record {
          same = λ j. done (record { heads = hs j; counts = cs j; staging = (abs b).staging; table = (abs b).table; deletion = (abs b).deletion });
          keeps = λ d e.
              let y : Index = index (set_part b.parts (boxes p) v) (with_staged c x.staged x) in
              let z : y ≡ d = cc in
              rw (← z) (inv_part v c x.staged (fit_head v hf.len_in (rw length-set hf.places_in)) refl lf.in_staged refl);
        }

    -- ---- a row
    module _ (n : ℕ) where
      abbrev key : List ℕ
      key = key_at E Box w n

      abbrev f₁ : Option ℕ
      f₁ = find_key key (keys E.size c.count x.staged)

      abbrev f₂ : Option ℕ
      f₂ = find_key key (keys E.size x.table_counts.count x.table)

      put_does : (f : Option ℕ) → f ≡ f₁ → (row : List ℕ) → length row ≤ E.limit → full_for E.size c key x.staged ≡ false
          → Does (stage (slot f c.count) (count_after f c.count) key row) (done (St.with_staging W (abs b) (put (abs b).staging key row)))
      unfolding put_record
      put_does f e row m g =
          let v : Part = part q.head q.places in
          let hs = same_set head_of b.parts (boxes p) v refl in
          let cs = same_set spills_of b.parts (boxes p) v refl in
          let k = L.key_length Box w.parent (pos n) in
          let l : List ℕ = write (slot f c.count * E.size) (record_of E.size key row) x.staged in
          let rs : tab (records E.size (count_after f c.count) l) ≡ put (abs b).staging key row
          = rw e (put_table E.size E.limit c key row x.staged k (omega (arith, L.wide)) (omega (arith, L.wide, L.short)) g lf.in_staged) in
          let ok : RecordsOk E.size E.limit (with_count (count_after f c.count) c) l
          = rw e (records_ok_after_put E.size E.limit c key row x.staged k (omega (arith, L.wide)) m (omega (arith, L.wide, L.short)) g lf.in_staged) in
          record {
            same = λ j. done (record { heads = hs j; counts = cs j; staging = rs j; table = (abs b).table; deletion = (abs b).deletion });
            keeps = λ d u.
                let y : Index = index (set_part b.parts (boxes p) v) (with_staged (with_count (count_after f c.count) c) l x) in
                let z : y ≡ d = cc in
                rw (← z) (inv_part v (with_count (count_after f c.count) c) l (I.heads_in (boxes p)) refl ok refl);
          }

      full_val : (f : Option ℕ) → f ≡ f₁ → full_for E.size c key x.staged ≡ not (is_found f) && leb cap c.count
      unfolding full_for
      full_val f e = rw e

      stage_is : (r : List ℕ) → St.stage W (abs b) key r ≡ cond (full_for E.size c key x.staged) (refused 16) (done (put (abs b).staging key r))
      stage_is r = full_is E.size c caps.staged key x.staged (refused 16) (done (put (abs b).staging key r)) I.staged_at

      -- the row's bytes, by where its key was found
      abbrev row_by : Option ℕ → Option ℕ → List ℕ
      row_by (Some i) g = row_at E.size i x.staged
      row_by None (Some j) = row_at E.size j x.table
      row_by None None = []

      read_by : (f g : Option ℕ) (l : List ℤ) → read_placed E Box w n (place_of f g) ≡ good l → E.decode Box (ids p) (pos n) (row_by f g) ≡ good l
      read_by (Some i) g l h = h
      read_by None (Some j) l h = h
      read_by None None l h = let z : ◌≡◌ {A = ℕ} 0 1 = cc in absurd (omega arith)

      redo_found : (f g : Option ℕ) → f ≡ f₁ → g ≡ f₂ → (l new : List ℤ) → read_placed E Box w n (place_of f g) ≡ good l
          → St.found_redone W (boxes p) n (or_else (row_opt f (records E.size c.count x.staged)) (row_opt g (records E.size x.table_counts.count x.table))) new ≡ E.with_boxes (ids p) (pos n) (row_by f g) new
      redo_found (Some i) g e d l new h = ap (λ (r : List ℕ). E.with_boxes (ids p) (pos n) (stored_row r) new) (record_at E.size c.count i x.staged (found_in key E.size c.count x.staged i (Some i) e refl))
      redo_found None (Some j) e d l new h =
          ap (λ (r : List ℕ). E.with_boxes (ids p) (pos n) (stored_row r) new) (record_at E.size x.table_counts.count j x.table (found_in key E.size x.table_counts.count x.table j (Some j) d refl))
      redo_found None None e d l new h = let z : ◌≡◌ {A = ℕ} 0 1 = cc in absurd (omega arith)

      redo_same : (l new : List ℤ) → read_spill n ≡ good l → St.redone W (abs b) (boxes p) n new ≡ E.with_boxes (ids p) (pos n) (row_by f₁ f₂) new
      unfolding spill_read place_at
      redo_same l new h =
          (λ i. St.found_redone W (boxes p) n (or_else (lookup_is (records E.size c.count x.staged) key i) (lookup_is (records E.size x.table_counts.count x.table) key i)) new)
          ∙ redo_found f₁ f₂ refl refl l new h

      abbrev finish : Tab.Table → Res (St.Store W)
      finish t = done (St.with_staging W (abs b) t)

      module _ (i : ℕ) (l : List ℤ) (low : n < 2147483647) (few : length (flipped_at (At i) l) ≤ 512) (little : Gs.Small 9223372036854775808 (flipped_at (At i) l)) where
        abbrev new : List ℤ
        new = flipped_at (At i) l

        by_room : None ≡ f₁ → (row : List ℕ) → length row ≤ E.limit → (u : Bool) → ltb c.count cap ≡ u
            → Does (cond u (stage c.count (c.count + 1) key row) (refuse 16)) (then_do (cond (leb cap c.count) (refused 16) (done (put (abs b).staging key row))) finish)
        by_room e row m true h =
            let y = lt-leb cap c.count (ltb-true c.count cap h) in
            rw y (put_does None e row m (full_val None e ∙ y))
        by_room e row m false h = rw (le-leb cap c.count (ltb-false c.count cap h)) (no 16)

        flipped_row : (row : List ℕ) → E.decode Box (ids p) (pos n) row ≡ good l → row_flipped E w n row i ≡ E.with_boxes (ids p) (pos n) row new
        unfolding row_flipped
        flipped_row row h = ap (λ (r : RowRead). E.with_boxes (ids p) (pos n) row (flipped_at (At i) (boxes_in E r))) h

        by_find : (f g : Option ℕ) → f ≡ f₁ → g ≡ f₂ → read_placed E Box w n (place_of f g) ≡ good l
            → Does (stage_from E w cap n i (place_of f g))
            (then_do (cond (not (is_found f) && leb cap c.count) (refused 16) (done (put (abs b).staging key (E.with_boxes (ids p) (pos n) (row_by f g) new)))) finish)
        by_find (Some j) g e d h =
            let row : List ℕ = row_at E.size j x.staged in
            from (ap (λ (y : List ℕ). stage j c.count key y) (flipped_row row h)) (put_does (Some j) e (E.with_boxes (ids p) (pos n) row new) (L.redo_length p n row l new low h few little) (full_val (Some j) e))
        by_find None (Some k) e d h =
            let row : List ℕ = row_at E.size k x.table in
            from (ap (λ (y : List ℕ). cond (ltb c.count cap) (stage c.count (c.count + 1) key y) (refuse 16)) (flipped_row row h))
            (by_room e (E.with_boxes (ids p) (pos n) row new) (L.redo_length p n row l new low h few little) (ltb c.count cap) refl)
        by_find None None e d h = let z : ◌≡◌ {A = ℕ} 0 1 = cc in absurd (omega arith)

        stage_does : read_spill n ≡ good l → Does (stage_at E w cap n i) (then_do (St.stage W (abs b) key (St.redone W (abs b) (boxes p) n new)) finish)
        unfolding stage_at spill_read place_at
        stage_does h =
            to (by_find f₁ f₂ refl refl h)
            (ap (λ (u : Bool). then_do (cond u (refused 16) (done (put (abs b).staging key (E.with_boxes (ids p) (pos n) (row_by f₁ f₂) new)))) finish) (sym (full_val f₁ refl))
            ∙ ap (λ (y : Res Tab.Table). then_do y finish) (sym (stage_is (E.with_boxes (ids p) (pos n) (row_by f₁ f₂) new)))
            ∙ ap (λ (r : List ℕ). then_do (St.stage W (abs b) key r) finish) (sym (redo_same l new h)))

    -- ---- rows below the spill count are read alike
    reads : (n : ℕ) → n < spills → (l : List ℤ) × (read_spill n ≡ good l) × (length l ≡ 512) × Gs.Small 9223372036854775808 l
    reads n h = let g = full n h in (g.0, good_of (read_spill n) g.0 (read_same E ids caps b (boxes p) n ∙ g.1), g.2, g.3)

    rd_is : (n : ℕ) (h : n < spills) → rd n ≡ when_b (order_ok (reads n h).0) (done (reads n h).0) (refused 13)
    unfolding reads
    rd_is n h =
        let g = full n h in
        ap (St.checked_store_row W) g.1
        ∙ ite_yes (ℕ_discrete (length g.0) 512) (when_b (St.ordered 0 g.0) (done g.0) (refused 13)) (refused 13) g.2
        ∙ ap (λ (u : Bool). when_b u (done g.0) (refused 13)) (sym (order_same 0 g.0 g.3))

    lead_same : (n : ℕ) → n < spills → lead_at E w n ≡ lead_res (rd n)
    lead_same n h =
        let g = reads n h in
        ap (λ (r : RowRead). lead_of (check_row r)) g.1 ∙ ap lead_of (check_eq g.0 g.2) ∙ lead_case (order_ok g.0) g.0 ∙ ap lead_res (sym (rd_is n h))

    look_same : (t : ℕ) (d : Bool) (n : ℕ) → n < spills → look_at E w t d n ≡ look_res t d (rd n)
    look_same t d n h =
        let g = reads n h in
        ap (λ (r : RowRead). look_of (check_row r) t d) g.1 ∙ ap (λ (y : RowRead). look_of y t d) (check_eq g.0 g.2) ∙ look_case (order_ok g.0) g.0 t d ∙ ap (look_res t d) (sym (rd_is n h))

    module _ (t : ℕ) (d : Bool) where
      abbrev e : ℤ
      e = copy_of d t

      abbrev on_hit : St.Hit → Res (St.Store W)
      on_hit h = then_do (St.stage W (abs b) (key_at E Box w h.at) (St.redone W (abs b) (boxes p) h.at h.new)) (λ (y : Tab.Table). done (St.with_staging W (abs b) y))

      abbrev hits : Walk → Res St.Hit
      hits v = hit_of (look_at E w t d) rd t d spills (look_same t d) v

      by_walk : (lo : ℕ) (seen : Bool) → lo ≤ spills → (v : Walk) → walk_from (look_at E w t d) lo seen ≡ v → Does (after_walk E w cap v) (then_do (hits v) on_hit)
      by_walk lo seen m (Ended s) y = by_seen s
        where
          by_seen : (s : Bool) → Does (refuse (cond s 14 15)) (refused (none_found s))
          by_seen true = no 14
          by_seen false = no 15
      by_walk lo seen m (Failed k) y = no k
      by_walk lo seen m (Hit n i) y =
          let h : St.Hit = record { at = n; new = flipped_at (At i) (row_or (rd n)) } in
          let u : St.walk 511 rd e lo seen ≡ done h = sym (walk_same (look_at E w t d) rd t d spills (look_same t d) lo seen m) ∙ ap hits y in
          let s = Se.walk_stopped 511 rd e lo seen h u in
          let k : n < spills = omega (arith, s.below) in
          let g = reads n k in
          let z : g.0 ≡ s.row = when_same (order_ok g.0) g.0 s.row (sym (rd_is n k) ∙ s.read) in
          let r : row_or (rd n) ≡ g.0 = ap row_or s.read ∙ sym z in
          let o : flip_first e g.0 ≡ _ = ap (flip_first e) z ∙ s.hit in
          let sp = Se.first_split e g.0 (flipped_at (At i) (row_or (rd n))) o in
          let a : flipped_at (At i) (row_or (rd n)) ≡ flipped_at (At i) g.0 = ap (flipped_at (At i)) r in
          let few : length (flipped_at (At i) g.0) ≤ 512 = omega (arith, sym (ap length a) ∙ Se.split_length sp, g.2) in
          let little : Gs.Small 9223372036854775808 (flipped_at (At i) g.0) = rw a at (Gs.small_split sp g.3) in
          to (stage_does n i g.0 (omega (arith, k, I.spills_in (boxes p))) few little g.1) (ap (λ (l : List ℤ). on_hit (record { at = n; new = l })) (sym a))

      by_low : (seen : Bool) (X : Res ℕ) → St.halve rd t spills 0 spills ≡ X
          → Does (after_search E w cap t d seen (low_of X)) (then_do X (λ lo. then_do (St.walk 511 rd e lo seen) on_hit))
      by_low seen (refused k) y = no k
      by_low seen (done lo) y =
          let m = Se.halve_le rd t spills 0 spills lo (omega arith) y in
          to (by_walk lo seen m (walk_from (look_at E w t d) lo seen) refl)
          (ap (λ (u : Res St.Hit). then_do u on_hit) (walk_same (look_at E w t d) rd t d spills (look_same t d) lo seen m))

      rows_does : (seen : Bool) → seen ≡ seen_in t heads → Does (in_rows E w cap t d spills seen) (St.flip_rows W (abs b) (boxes p) e)
      unfolding in_rows
      rows_does seen u =
          let z : spills - 0 ≡ spills = omega arith in
          let a : search_in (lead_at E w) t 0 spills ≡ low_of (St.halve rd t spills 0 spills)
          = ap (λ (k : ℕ). search_by (lead_at E w) t k 0 spills) z ∙ search_same (lead_at E w) rd t spills lead_same spills 0 spills (omega arith) in
          to (from (ap (after_search E w cap t d seen) a) (by_low seen (St.halve rd t spills 0 spills) refl))
          (ap (λ (s : Bool). then_do (St.halve rd t spills 0 spills) (λ lo. then_do (St.walk 511 rd e lo s) on_hit)) u
          ∙ sym (λ i. then_do (St.halve rd (copy_abs d t i) spills 0 spills) (λ lo. then_do (St.walk 511 rd e lo (seen_in (copy_abs d t i) heads)) on_hit)))

      by_place : (P : Position) → position d t heads 0 false ≡ P → Does (head_first P (λ seen. in_rows E w cap t d spills seen)) (St.head_flipped W (abs b) (boxes p) e (new_of P heads))
      by_place (At i) y = head_does i (rw y at (first_in d t heads))
      by_place Seen y = rows_does true (sym (first_seen d t heads ∙ ap is_seen y))
      by_place Absent y = rows_does false (sym (first_seen d t heads ∙ ap is_seen y))

      order_does : Does (in_order E w cap t d spills heads) (St.head_flipped W (abs b) (boxes p) e (flip_first e heads))
      unfolding in_order
      order_does = to (by_place (position d t heads 0 false) refl) (ap (St.head_flipped W (abs b) (boxes p) e) (sym (first_new d t heads)))

    module _ (z : ℤ) (d : Direction) where
      abbrev e₁ : ℤ
      e₁ = copy_of (spends d) (nat_abs z)

      by_order : (u : Bool) → Does (cond u (in_order E w cap (nat_abs z) (spends d) spills heads) (refuse 10)) (when_b u (St.head_flipped W (abs b) (boxes p) e₁ (flip_first e₁ heads)) (refused 10))
      by_order true = order_does (nat_abs z) (spends d)
      by_order false = no 10

      by_large : (u : Bool) (y : Effect) (Y : Res (St.Store W)) → Does y Y → Does (cond u (refuse 9) y) (cond u (refused 9) Y)
      by_large true y Y D = no 9
      by_large false y Y D = D

      effect_does : Does (flip_effect E w cap d z q.head.spills heads) (ite (dec_le 9223372036854775808 (nat_abs z)) (refused 9) (St.flip_store W (abs b) (boxes p) e₁))
      unfolding flip_effect
      effect_does =
          rw (I.not_below (boxes p))
          (to (by_large (leb 9223372036854775808 (nat_abs z)) (cond (order_ok heads) (in_order E w cap (nat_abs z) (spends d) spills heads) (refuse 10)) (St.flip_store W (abs b) (boxes p) e₁)
          (to (by_order (order_ok heads)) (ap (λ (u : Bool). when_b u (St.head_flipped W (abs b) (boxes p) e₁ (flip_first e₁ heads)) (refused 10)) (order_same 0 heads small))))
          (sym (ite_le 9223372036854775808 (nat_abs z) (dec_le 9223372036854775808 (nat_abs z)) (refused 9) (St.flip_store W (abs b) (boxes p) e₁))))

    ok : flip_ok E q.head c x.staged x.table_counts x.table q.places ≡ true
    unfolding flip_ok
    ok = and_true (head_ok q.head q.places) _ (I.heads_in (boxes p))
        (and_true (records_ok E.size E.limit c x.staged) (records_ok E.size E.limit x.table_counts x.table) (records_ok_test _ _ _ _ lf.in_staged) (records_ok_test _ _ _ _ lf.in_table))

    pub record FlipDoes (X : Res Index) (Y : Res (St.Store W)) : Type 0 where
      pub same : map_res abs X ≡ Y
      pub keeps : (d : Index) → X ≡ done d → S.Inv E ids caps d

    flip_does : (d : Direction) (z : ℤ) → FlipDoes (result_of (do_flip E ids d b p z)) (ite (dec_le 9223372036854775808 (nat_abs z)) (refused 9) (St.flip_store W (abs b) (boxes p) (copy_of (spends d) (nat_abs z))))
    unfolding flip_of flip_core
    flip_does d z = rw ok (record { same = (effect_does z d).same; keeps = (effect_does z d).keeps })

    pub spend_does : (z : ℤ) → FlipDoes (result_of (do_flip E ids Spend b p z)) (St.spend_store W (abs b) p z)
    spend_does z = flip_does Spend z

    pub unspend_does : (z : ℤ) → FlipDoes (result_of (do_flip E ids Unspend b p z)) (St.unspend_store W (abs b) p z)
    unspend_does z = flip_does Unspend z
