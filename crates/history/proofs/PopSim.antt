-- A row as inspection shows it, and a pop: of the bytes, as of the tables; and a pop keeps what holds between calls.
use Rattle.ledger.specs.Run.{flat, row_or}
use mathlib.Core.Path.{◌≡◌, refl, sym, ◌∙◌, ap}
use mathlib.Core.List.{List, [], ◌∷◌, ◌++◌, map, append_assoc}
use mathlib.Core.Bool.{Bool, true, false, cond}
use Prim.Native.Nat.{ℕ, zero, suc, ◌+◌, ◌*◌, ◌-◌, ◌≤◌, ◌<◌}
use native.Mathlib.Omega.{arith}
use lib.IntN.{ℤ, pos, negsuc, nat_abs}
use lib.ListN.{length, get_or, take, drop, set, replicate, length-set, length-replicate, length-append}
use lib.Seq.{take-suc, take_all, take-append-le, take-set-le, get_or-take, length-take-le}
use lib.Dec.{leb, ltb, eqb}
use borrow.Author.Tests.{ltb-true, ltb-false, eqb-true, eqb-false, ne_eqb}
use Rattle.stores.specs.Stores.{write}
use Rattle.stores.proofs.StoreLaws.{length_write}
use Rattle.signed.specs.Sign.{is_negative}
use Rattle.std.specs.Prelude.{Option, Some, None, Ok, Err}
use Rattle.index_types.specs.declared.ListCounts.{ListCounts}
use Rattle.records.specs.declared.Place.{Place}
use Rattle.records.specs.declared.Place.TheVariants.{Staged, Table, Missing}
use Rattle.records.specs.Records.{records, keys, stored_row}
use Rattle.records.specs.Find.{find_key, place_of, locate_key}
use Rattle.records.specs.Changes.{count_after, with_count, put_record, full_for}
use Rattle.records.specs.Checks.{RecordsOk, KeysOk}
use Rattle.records.proofs.TurnLaws.{found_in}
use Rattle.records.proofs.RecordLaws.{record_at}
use Rattle.records.proofs.CheckLaws.{and_true, keys_ok_after_put}
use Rattle.segment_id.specs.declared.Kind.{Kind}
use Rattle.segment_core.specs.Loading.{padded}
use Rattle.index_types.specs.declared.HeadCounts.{HeadCounts}
use Rattle.buffer_core.specs.Edition.{Edition, RowRead, bad, good}
use Rattle.buffer_core.specs.Spills.{Sources, place_at, read_placed, spill_read, head_ok}
use Rattle.buffer_core.specs.Append.{counts_of}
use Rattle.buffer_core.specs.Pop.{Popping, popping, Lists, lists, count_without, bytes_without, last_of, without_last, row_head, staged_at, deleted_at, merged, merge_of, unspill_of, pop_core, lists_ok, pop_ok, pop_of}
use Rattle.buffer_core.proofs.ListLaws.{ListsFit, lists_fit, fit_lists}
use Rattle.ledger.specs.Ledger.{parent_of, Parent, Series, series_dec, ite, id_dec}
use Rattle.ledger.specs.Run.{Res, done, refused}
use Rattle.ledger.specs.Run as Mc
use Rattle.fork_model.proofs.Store as St
use Rattle.fork_model.proofs.Store.{then_do, Ends, nothing, ends, unsnoc, cons_end}
use Rattle.fork_model.proofs.Table.{or_else}
use Rattle.fork_model.proofs.Search.{done≢refused}
use Rattle.fork_model.proofs.Results.{map_res, map_pop, result_of}
use Rattle.history.specs.Index.{Part, part, Index, index, kind_of, set_part, after_pop, to_res, id_of, do_pop, sources_of, row_of_spill, entries_of}
use Rattle.history.proofs.Tables.{Bytes, tab, remove, lookup_is, row_opt, in_dec}
use Rattle.history.proofs.State as S
use Rattle.history.specs.EditionLaws.{EditionLaws}
use Rattle.history.proofs.State.{HeadFits, head_fits, fit_head, push_to, all_set, same_set, Capacities, head_of, spills_of}
use Rattle.history.proofs.Lists.{full_keys, remove_table, remove_keeps, capacity_without, put_keys}

-- ---- the row of a spill number, in the staged spills or in the table
module _ (E : Edition) (ids : Parent → List ℕ) (caps : Capacities) where
  abbrev W₁ : St.Env
  W₁ = S.env E ids caps

  module _ (b : Index) (ch : Series) (s : ℕ) where
    abbrev k₁ : List ℕ
    k₁ = E.key (kind_of ch) (id_of E ids ch) (pos s)

    abbrev m₁ : ℕ
    m₁ = b.lists.staged_counts.count

    abbrev n₁ : ℕ
    n₁ = b.lists.table_counts.count

    by_found : (f g : Option ℕ) → f ≡ find_key k₁ (keys E.size m₁ b.lists.staged) → g ≡ find_key k₁ (keys E.size n₁ b.lists.table)
        → to_res (read_placed E (kind_of ch) (sources_of E ids b ch) s (place_of f g))
        ≡ St.decoded W₁ ch s (or_else (row_opt f (records E.size m₁ b.lists.staged)) (row_opt g (records E.size n₁ b.lists.table)))
    by_found (Some i) g e d =
        ap (λ (r : List ℕ). to_res (E.decode (kind_of ch) (id_of E ids ch) (pos s) (stored_row r))) (sym (record_at E.size m₁ i b.lists.staged (found_in k₁ E.size m₁ b.lists.staged i (Some i) e refl)))
    by_found None (Some j) e d =
        ap (λ (r : List ℕ). to_res (E.decode (kind_of ch) (id_of E ids ch) (pos s) (stored_row r))) (sym (record_at E.size n₁ j b.lists.table (found_in k₁ E.size n₁ b.lists.table j (Some j) d refl)))
    by_found None None e d = refl

    pub read_same : row_of_spill E ids b ch s ≡ St.store_row W₁ (S.abs E ids caps b) ch s
    unfolding spill_read place_at
    read_same =
        by_found (find_key k₁ (keys E.size m₁ b.lists.staged)) (find_key k₁ (keys E.size n₁ b.lists.table)) refl refl
        ∙ sym (λ i. St.decoded W₁ ch s (or_else (lookup_is (records E.size m₁ b.lists.staged) k₁ i) (lookup_is (records E.size n₁ b.lists.table) k₁ i)))

  flat_same : (f g : ℕ → Res (List ℤ)) (n : ℕ) → ((s : ℕ) → f s ≡ g s) → flat f n ≡ flat g n
  unfolding flat
  flat_same f g zero h = refl
  flat_same f g (suc n) h = λ i. flat_same f g n h i ++ row_or (h n i)

  -- what inspection shows is what the tables hold
  pub shows : (b : Index) (ch : Series) → entries_of E ids b ch ≡ St.entries W₁ (S.abs E ids caps b) ch
  shows b ch = ap (λ (l : List ℤ). l ++ take (b.parts ch).head.len (b.parts ch).places)
      (flat_same (row_of_spill E ids b ch) (St.store_row W₁ (S.abs E ids caps b) ch) (nat_abs (b.parts ch).head.spills) (read_same b ch))

-- ---- the last of a list
unsnoc_last : (l : List ℤ) (x : ℤ) → unsnoc (l ++ x ∷ []) ≡ ends l x
unfolding unsnoc
unsnoc_last [] x = refl
unsnoc_last (y ∷ l) x = ap (cons_end y) (unsnoc_last l x)

pub unsnoc_take : (l : List ℤ) (n : ℕ) → 0 < n → n ≤ length l → unsnoc (take n l) ≡ ends (take (n - 1) l) (get_or l (n - 1) (pos 0))
unsnoc_take l n h k =
    let e : n ≡ suc (n - 1) = omega arith in
    ap (λ (m : ℕ). unsnoc (take m l)) e ∙ ap unsnoc (take-suc l (n - 1) (pos 0) (omega arith)) ∙ unsnoc_last (take (n - 1) l) (get_or l (n - 1) (pos 0))

-- ---- a row's numbers in a head
pub length_row_head : (zs head : List ℤ) → length zs ≤ 512 → 512 ≤ length head → length (row_head zs head) ≡ length head
length_row_head zs head h k =
    let z : length (replicate {A = ℤ} (512 - length zs) (pos 0)) ≡ 512 - length zs = length-replicate (512 - length zs) (pos 0) in
    length_write 0 (padded zs) head (omega (arith, length-append zs (replicate (512 - length zs) (pos 0))))

first_row : (zs head : List ℤ) (m : ℕ) → m ≤ length zs → take m (row_head zs head) ≡ take m zs
unfolding write
first_row zs head m h = ap (take m) (append_assoc zs (replicate (512 - length zs) (pos 0)) _) ∙ take-append-le m zs _ h

last_row : (zs head : List ℤ) (m : ℕ) → m < length zs → get_or (row_head zs head) m (pos 0) ≡ get_or zs m (pos 0)
last_row zs head m h =
    sym (get_or-take (suc m) (row_head zs head) m (pos 0) (omega arith))
    ∙ ap (λ (l : List ℤ). get_or l m (pos 0)) (first_row zs head (suc m) (omega arith))
    ∙ get_or-take (suc m) zs m (pos 0) (omega arith)

-- ---- the pop
module _ (E : Edition) (ids : Parent → List ℕ) (L : EditionLaws E ids) (caps : Capacities) where
  abbrev W : St.Env
  W = S.env E ids caps

  abbrev abs : Index → St.Store W
  abs b = S.abs E ids caps b

  module _ (b : Index) (ch : Series) (I : S.Inv E ids caps b) where
    abbrev x : Lists
    x = b.lists

    abbrev p : Part
    p = b.parts ch

    abbrev len : ℕ
    len = p.head.len

    abbrev kind : Kind
    kind = kind_of ch

    abbrev end : Popping → Res (Mc.Popped Index)
    end o = result_of (after_pop b ch o.answer o.head o.staged o.deleted)

    abbrev no_pop : ℕ → Popping
    no_pop k = popping (Err k) p.places x.staged x.deleted

    hf : HeadFits p
    hf = head_fits p (I.heads_in ch)

    lf : ListsFit E x
    lf = lists_fit E x I.lists_in

    ok : pop_ok E p.head x p.places ≡ true
    unfolding pop_ok
    ok = and_true (head_ok p.head p.places) (lists_ok E x) (I.heads_in ch) I.lists_in

    -- of the head
    abbrev last : Popping
    last = popping (Ok (last_of len p.places, counts_of (len - 1) p.head.spills, x.staged_counts, x.deleted_counts)) (without_last len p.places) x.staged x.deleted

    last_same : 0 < len → map_res (map_pop abs) (end last) ≡ St.pop_store W (abs b) ch
    last_same h =
        let v : Part = part (counts_of (len - 1) p.head.spills) (without_last len p.places) in
        let heads = push_to head_of b.parts ch v (take (len - 1) p.places) (take-set-le (len - 1) p.places (len - 1) (pos 0) (omega arith)) in
        let counts = same_set spills_of b.parts ch v refl in
        let whole : map_res (map_pop abs) (end last) ≡ St.pop_out W (abs b) ch (ends (take (len - 1) p.places) (get_or p.places (len - 1) (pos 0)))
        = λ i. done (record { left = record { heads = heads i; counts = counts i; staging = (abs b).staging; table = (abs b).table; deletion = (abs b).deletion }; value = get_or p.places (len - 1) (pos 0) }) in
        whole ∙ ap (St.pop_out W (abs b) ch) (sym (unsnoc_take p.places len h (omega (arith, hf.len_in, hf.places_in))))

    abbrev Keeps : Popping → Type 0
    Keeps o = (d : Mc.Popped Index) → end o ≡ done d → S.Inv E ids caps d.left

    no_keeps : (k : ℕ) → Keeps (no_pop k)
    no_keeps k d e = absurd (done≢refused (sym e))

    inv_part : (v : Part) (y : Lists) → head_ok v.head v.places ≡ true → is_negative v.head.spills ≡ false → nat_abs v.head.spills ≤ 2147483647
        → y.table_counts.capacity ≡ x.table_counts.capacity → y.staged_counts.capacity ≡ x.staged_counts.capacity → y.deleted_counts.capacity ≡ x.deleted_counts.capacity
        → ListsFit E y → S.Inv E ids caps (index (set_part b.parts ch v) y)
    inv_part v y h n z e₁ e₂ e₃ t = record {
      heads_in = all_set (λ q. head_ok q.head q.places ≡ true) b.parts ch v h I.heads_in;
      not_below = all_set (λ q. is_negative q.head.spills ≡ false) b.parts ch v n I.not_below;
      spills_in = all_set (λ q. nat_abs q.head.spills ≤ 2147483647) b.parts ch v z I.spills_in;
      lists_in = fit_lists E y t;
      table_at = e₁ ∙ I.table_at;
      staged_at = e₂ ∙ I.staged_at;
      deleted_at = e₃ ∙ I.deleted_at;
    }

    -- of the newest row
    module _ (s : ℕ) where
      abbrev key : List ℕ
      key = E.key kind (id_of E ids ch) (pos s)

      abbrev restore : List ℤ → Popping
      restore zs = merged E key s zs x p.places

      abbrev full : Bool
      full = full_for 32 x.deleted_counts key x.deleted

      restore_same : (zs : List ℤ) → 0 < length zs → length zs ≤ 512 → full ≡ false
          → map_res (map_pop abs) (end (restore zs)) ≡ done (record { left = St.merged W (abs b) ch s (take (length zs - 1) zs); value = get_or zs (length zs - 1) (pos 0) })
      unfolding merged
      restore_same zs h m f =
          let n : ℕ = length zs in
          let v : Part = part (counts_of (n - 1) (pos s)) (without_last n (row_head zs p.places)) in
          let heads = push_to head_of b.parts ch v (take (n - 1) zs)
          (take-set-le (n - 1) (row_head zs p.places) (n - 1) (pos 0) (omega arith) ∙ first_row zs p.places (n - 1) (omega arith)) in
          let counts = push_to spills_of b.parts ch v s refl in
          let rows = remove_table E.size E.limit x.staged_counts key x.staged lf.in_staged in
          let dels = put_keys x.deleted_counts key x.deleted (L.key_length kind (id_of E ids ch) (pos s)) f lf.in_deleted in
          let value = last_row zs p.places (n - 1) (omega arith) in
          λ i. done (record { left = record { heads = heads i; counts = counts i; staging = rows i; table = (abs b).table; deletion = dels i }; value = value i })

      by_full : (zs : List ℤ) → 0 < length zs → length zs ≤ 512 → (t : Bool) → full ≡ t
          → map_res (map_pop abs) (end (cond t (no_pop 21) (restore zs)))
          ≡ cond t (refused 21) (done (record { left = St.merged W (abs b) ch s (take (length zs - 1) zs); value = get_or zs (length zs - 1) (pos 0) }))
      by_full zs h m true f = refl
      by_full zs h m false f = restore_same zs h m f

      some_same : (zs : List ℤ) → 0 < length zs → length zs ≤ 512 → map_res (map_pop abs) (end (cond full (no_pop 21) (restore zs))) ≡ St.merged_out W (abs b) ch s (unsnoc zs)
      some_same zs h m =
          let y : Res (Mc.Popped (St.Store W)) = done (record { left = St.merged W (abs b) ch s (take (length zs - 1) zs); value = get_or zs (length zs - 1) (pos 0) }) in
          let q : St.merged_out W (abs b) ch s (ends (take (length zs - 1) zs) (get_or zs (length zs - 1) (pos 0))) ≡ cond full (refused 21) y
          = full_keys x.deleted_counts caps.deleted key x.deleted (refused 21) y I.deleted_at in
          let u : unsnoc zs ≡ ends (take (length zs - 1) zs) (get_or zs (length zs - 1) (pos 0)) = ap unsnoc (sym (take_all (length zs) zs (omega arith))) ∙ unsnoc_take zs (length zs) h (omega arith) in
          by_full zs h m full refl ∙ sym q ∙ ap (St.merged_out W (abs b) ch s) (sym u)

      taken_same : (r : RowRead) → ((zs : List ℤ) → r ≡ good zs → length zs ≤ 512)
          → map_res (map_pop abs) (end (merge_of E r key s x p.places)) ≡ St.merge_out W (abs b) ch s (to_res r)
      unfolding merge_of unsnoc
      taken_same (bad k) m = refl
      taken_same (good []) m = refl
      taken_same (good (z ∷ zs)) m = let e : eqb (suc (length zs)) 0 ≡ false = ne_eqb (suc (length zs)) 0 (λ e. omega arith) in rw e (some_same (z ∷ zs) (omega arith) (m (z ∷ zs) refl))

      few : (q : Place) (zs : List ℤ) → read_placed E kind (sources_of E ids b ch) s q ≡ good zs → length zs ≤ 512
      few (Staged i) zs e = L.decode_few kind (parent_of ch) s _ zs e
      few (Table i) zs e = L.decode_few kind (parent_of ch) s _ zs e
      few Missing zs e = let z : ◌≡◌ {A = ℕ} 0 1 = cc in absurd (omega arith)

      read_few : (zs : List ℤ) → spill_read E kind (sources_of E ids b ch) s ≡ good zs → length zs ≤ 512
      unfolding spill_read
      read_few zs e = few (place_at E kind (sources_of E ids b ch) s) zs e

      row_same : map_res (map_pop abs) (end (unspill_of E kind (id_of E ids ch) s x p.places)) ≡ St.row_out W (abs b) ch (suc s)
      unfolding unspill_of
      row_same = taken_same (spill_read E kind (sources_of E ids b ch) s) read_few ∙ ap (St.merge_out W (abs b) ch s) (read_same E ids caps b ch s)

      restore_keeps : (zs : List ℤ) → s ≤ 2147483647 → length zs ≤ 512 → full ≡ false → Keeps (restore zs)
      unfolding merged
      restore_keeps zs g m f d e =
          let n : ℕ = length zs in
          let v : Part = part (counts_of (n - 1) (pos s)) (without_last n (row_head zs p.places)) in
          let at : (Option ℕ) = staged_at E key x in
          let y : Lists = lists (count_without at x.staged_counts) (bytes_without E.size at x.staged_counts x.staged) x.table_counts x.table
          (with_count (count_after (deleted_at E key x) x.deleted_counts.count) x.deleted_counts) (put_record 32 x.deleted_counts.count key key x.deleted) in
          let z : Index = index (set_part b.parts ch v) y in
          let q : z ≡ d.left = cc in
          let r = length_row_head zs p.places m hf.places_in in
          rw (← q) (inv_part v y (fit_head v (omega arith) (rw length-set (omega (arith, r, hf.places_in)))) refl g refl (capacity_without at x.staged_counts) refl
          (record {
            in_staged = remove_keeps E.size E.limit x.staged_counts key x.staged lf.in_staged;
            in_table = lf.in_table;
            in_deleted = keys_ok_after_put x.deleted_counts key x.deleted (L.key_length kind (id_of E ids ch) (pos s)) f lf.in_deleted;
          }))

      by_keeps : (zs : List ℤ) → s ≤ 2147483647 → length zs ≤ 512 → (t u : Bool) → full ≡ u → Keeps (cond t (no_pop 20) (cond u (no_pop 21) (restore zs)))
      by_keeps zs g m true u f = no_keeps 20
      by_keeps zs g m false true f = no_keeps 21
      by_keeps zs g m false false f = restore_keeps zs g m f

      taken_keeps : s ≤ 2147483647 → (r : RowRead) → ((zs : List ℤ) → r ≡ good zs → length zs ≤ 512) → Keeps (merge_of E r key s x p.places)
      unfolding merge_of
      taken_keeps g (bad k) m = no_keeps k
      taken_keeps g (good zs) m = by_keeps zs g (m zs refl) (eqb (length zs) 0) full refl

    abbrev unspill : ℕ → Popping
    unspill n = unspill_of E kind (id_of E ids ch) (n - 1) x p.places

    by_spills : (n : ℕ) (t : Bool) → eqb n 0 ≡ t → map_res (map_pop abs) (end (cond t (no_pop 19) (unspill n))) ≡ St.row_out W (abs b) ch n
    by_spills zero true e = refl
    by_spills zero false e = absurd (eqb-false 0 0 e refl)
    by_spills (suc s) true e = absurd (let z : suc s ≡ 0 = eqb-true (suc s) 0 e in omega arith)
    by_spills (suc s) false e = let z : suc s - 1 ≡ s = omega arith in rw z (row_same s)

    by_len : (t : Bool) → ltb 0 len ≡ t → map_res (map_pop abs) (end (cond t last (cond (eqb (nat_abs p.head.spills) 0) (no_pop 19) (unspill (nat_abs p.head.spills))))) ≡ St.pop_store W (abs b) ch
    unfolding unsnoc
    by_len true e = last_same (ltb-true 0 len e)
    by_len false e =
        let z : 0 ≡ len = omega (arith, ltb-false 0 len e) in
        by_spills (nat_abs p.head.spills) (eqb (nat_abs p.head.spills) 0) refl ∙ ap (λ (n : ℕ). St.pop_out W (abs b) ch (unsnoc (take n p.places))) z

    pub pop_same : map_res (map_pop abs) (result_of (do_pop E ids b ch)) ≡ St.pop_store W (abs b) ch
    unfolding pop_of pop_core
    pop_same = rw (ok, I.not_below ch) (by_len (ltb 0 len) refl)

    last_keeps : 0 < len → Keeps last
    last_keeps h d e =
        let v : Part = part (counts_of (len - 1) p.head.spills) (without_last len p.places) in
        let z : Index = index (set_part b.parts ch v) x in
        let q : z ≡ d.left = cc in
        rw (← q) (inv_part v x (fit_head v (omega (arith, hf.len_in)) (rw length-set hf.places_in)) (I.not_below ch) (I.spills_in ch) refl refl refl lf)

    keeps_spills : (n : ℕ) (t : Bool) → n ≤ 2147483647 → Keeps (cond t (no_pop 19) (unspill n))
    unfolding unspill_of
    keeps_spills n true m = no_keeps 19
    keeps_spills n false m = taken_keeps (n - 1) (omega arith) (spill_read E kind (sources_of E ids b ch) (n - 1)) (read_few (n - 1))

    keeps_len : (t : Bool) → ltb 0 len ≡ t → Keeps (cond t last (cond (eqb (nat_abs p.head.spills) 0) (no_pop 19) (unspill (nat_abs p.head.spills))))
    keeps_len true e = last_keeps (ltb-true 0 len e)
    keeps_len false e = keeps_spills (nat_abs p.head.spills) (eqb (nat_abs p.head.spills) 0) (I.spills_in ch)

    pub pop_inv : (d : Mc.Popped Index) → result_of (do_pop E ids b ch) ≡ done d → S.Inv E ids caps d.left
    unfolding pop_of pop_core
    pop_inv d e = keeps_len (ltb 0 len) refl d (rw (ok, I.not_below ch) at e)
