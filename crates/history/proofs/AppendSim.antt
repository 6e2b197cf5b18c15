-- An append to the bytes is an append to the tables, and keeps what holds between calls.
use Rattle.ledger.proofs.TestLaws.{ite_yes, ite_no}
use mathlib.Core.Path.{◌≡◌, refl, sym, ◌∙◌, ap}
use mathlib.Core.List.{List, [], ◌∷◌, ◌++◌, map, Memᴰ}
use mathlib.Core.Bool.{Bool, true, false, cond}
use Prim.Native.Nat.{ℕ, zero, suc, ◌+◌, ◌*◌, ◌-◌, ◌≤◌, ◌<◌}
use native.Mathlib.Omega.{arith}
use native.Mathlib.Numerals.{add-one}
use native.Mathlib.Decide.{ℕ_discrete, dec_le}
use lib.IntN.{ℤ, pos, negsuc, nat_abs}
use lib.ListN.{length, get_or, take, drop, set, replicate, length-set, length-replicate}
use lib.Seq.{take-suc, take-set-le, get_or-set_same, length-take-le}
use lib.Dec.{leb, ltb}
use borrow.Author.Tests.{leb-true, leb-false, ltb-true, ltb-false}
use Rattle.stores.specs.Stores.{write}
use Rattle.stores.proofs.StoreLaws.{length_write}
use Rattle.signed.specs.Sign.{is_negative}
use Rattle.index_types.specs.declared.ListCounts.{ListCounts}
use Rattle.records.specs.Records.{records, keys, record_of}
use Rattle.records.specs.Find.{find_key}
use Rattle.records.specs.Changes.{count_after, with_count, put_record, full_for}
use Rattle.records.specs.Checks.{RecordsOk, records_ok}
use Rattle.records.proofs.CheckLaws.{and_true, records_ok_after_put, records_ok_test}
use Rattle.segment_id.specs.declared.Kind.{Kind}
use Rattle.index_types.specs.declared.HeadCounts.{HeadCounts}
use Rattle.std.specs.Prelude.{Ok, Err}
use Rattle.buffer_core.specs.Edition.{Edition}
use Rattle.buffer_core.specs.Spills.{head_ok}
use Rattle.buffer_core.specs.Append.{Appending, appending, counts_of, one_number, counts_with, bytes_with, spilled, spill_of, append_core, append_ok, append_of}
use Rattle.buffer_core.specs.Pop.{Lists, lists_ok}
use Rattle.buffer_core.proofs.ListLaws.{ListsFit, lists_fit, fit_lists}
use Rattle.ledger.specs.Ledger.{parent_of, Parent, Series, series_dec, ite, id_dec}
use Rattle.ledger.specs.Run.{Res, done, refused}
use Rattle.fork_model.proofs.Store as St
use Rattle.fork_model.proofs.Store.{then_do}
use Rattle.fork_model.proofs.Search.{done≢refused}
use Rattle.fork_model.proofs.Results.{map_res, result_of}
use Rattle.history.specs.Index.{Part, part, Index, index, kind_of, set_part, with_staged, after_append, id_of, do_append}
use Rattle.history.proofs.Tables.{Table, tab, put}
use Rattle.history.proofs.State as S
use Rattle.history.specs.EditionLaws.{Small, EditionLaws}
use Rattle.history.proofs.State.{HeadFits, head_fits, fit_head, push_to, all_set, same_set, Capacities, head_of, spills_of}
use Rattle.history.proofs.Lists.{full_is, put_table}

-- ---- heads
pub grown : (l : List ℤ) (n : ℕ) (x : ℤ) → n < length l → take (n + 1) (set l n x) ≡ take n l ++ x ∷ []
grown l n x h = rw (add-one n, take-suc (set l n x) n (pos 0) (rw length-set h), take-set-le n l n x (omega arith), get_or-set_same l n x (pos 0) h)

pub length_one : (n : ℤ) (head : List ℤ) → 512 ≤ length head → length (one_number n head) ≡ length head
length_one n head h =
    let z : length (replicate {A = ℤ} 511 (pos 0)) ≡ 511 = length-replicate 511 (pos 0) in
    length_write 0 (n ∷ replicate 511 (pos 0)) head (omega arith)

pub first_one : (n : ℤ) (head : List ℤ) → take 1 (one_number n head) ≡ n ∷ []
unfolding write
first_one n head = refl

module _ (E : Edition) (ids : Parent → List ℕ) (L : EditionLaws E ids) (caps : Capacities) where
  abbrev W : St.Env
  W = S.env E ids caps

  abbrev abs : Index → St.Store W
  abs b = S.abs E ids caps b

  module _ (b : Index) (ch : Series) (I : S.Inv E ids caps b) (small : Small ((abs b).heads ch)) where
    abbrev c : ListCounts
    c = b.lists.staged_counts

    abbrev l : List ℕ
    l = b.lists.staged

    abbrev p : Part
    p = b.parts ch

    abbrev len : ℕ
    len = p.head.len

    abbrev spills : ℕ
    spills = nat_abs p.head.spills

    abbrev kind : Kind
    kind = kind_of ch

    abbrev key : List ℕ
    key = E.key kind (id_of E ids ch) (pos spills)

    abbrev row : List ℕ
    row = E.encode kind (id_of E ids ch) (pos spills) (take 512 p.places)

    abbrev end : Appending → Res Index
    end o = result_of (after_append b ch o.answer o.head o.staged)

    abbrev no_append : ℕ → Appending
    no_append k = appending (Err k) p.places l

    hf : HeadFits p
    hf = head_fits p (I.heads_in ch)

    lf : ListsFit E b.lists
    lf = lists_fit E b.lists I.lists_in

    ok : append_ok E p.head c p.places l ≡ true
    unfolding append_ok
    ok = and_true (head_ok p.head p.places) (records_ok E.size E.limit c l) (I.heads_in ch) (records_ok_test _ _ _ _ lf.in_staged)

    long : length ((abs b).heads ch) ≡ len
    long = length-take-le len p.places (omega (arith, hf.len_in, hf.places_in))

    -- at the end of the head
    abbrev longer : ℤ → Appending
    longer n = appending (Ok (counts_of (len + 1) p.head.spills, c)) (set p.places len n) l

    longer_same : (n : ℤ) → len < 512 → map_res abs (end (longer n)) ≡ done (St.with_head W (abs b) ch ((abs b).heads ch ++ n ∷ []))
    longer_same n h =
        let v : Part = part (counts_of (len + 1) p.head.spills) (set p.places len n) in
        let heads = push_to head_of b.parts ch v ((abs b).heads ch ++ n ∷ []) (grown p.places len n (omega (arith, hf.places_in))) in
        let counts = same_set spills_of b.parts ch v refl in
        λ i. done (record { heads = heads i; counts = counts i; staging = (abs b).staging; table = (abs b).table; deletion = (abs b).deletion })

    -- a spill
    abbrev spill : ℤ → Appending
    spill n = spilled E kind key (id_of E ids ch) spills n c p.places l

    short_row : len ≡ 512 → spills < 2147483647 → length row ≤ E.limit
    short_row e s = L.encode_length kind (parent_of ch) spills (take 512 p.places) s (omega (arith, length-take-le 512 p.places hf.places_in)) (λ x t. small x (rw e t))

    spill_same : (n : ℤ) → len ≡ 512 → spills < 2147483647 → full_for E.size c key l ≡ false
        → map_res abs (end (spill n)) ≡ done (St.spilled W (abs b) ch n (put (abs b).staging key (E.encode kind (id_of E ids ch) (pos spills) ((abs b).heads ch))))
    unfolding spilled
    spill_same n e u f =
        let w = short_row e u in
        let v : Part = part (counts_of 1 (pos (spills + 1))) (one_number n p.places) in
        let heads = push_to head_of b.parts ch v (n ∷ []) (first_one n p.places) in
        let counts = push_to spills_of b.parts ch v (suc spills) (add-one spills) in
        let rows : tab (records E.size (count_after (find_key key (keys E.size c.count l)) c.count) (bytes_with E key row c l)) ≡ put (abs b).staging key (E.encode kind (id_of E ids ch) (pos spills) ((abs b).heads ch))
        = put_table E.size E.limit c key row l (L.key_length kind (id_of E ids ch) (pos spills)) (omega (arith, L.wide)) (omega (arith, L.wide, L.short)) f lf.in_staged
        ∙ ap (λ (m : ℕ). put (abs b).staging key (E.encode kind (id_of E ids ch) (pos spills) (take m p.places))) (sym e) in
        λ i. done (record { heads = heads i; counts = counts i; staging = rows i; table = (abs b).table; deletion = (abs b).deletion })

    stage_is : (r : List ℕ) → St.stage W (abs b) key r ≡ cond (full_for E.size c key l) (refused 16) (done (put (abs b).staging key r))
    stage_is r = full_is E.size c caps.staged key l (refused 16) (done (put (abs b).staging key r)) I.staged_at

    by_full : (n : ℤ) (t : Bool) → len ≡ 512 → spills < 2147483647 → full_for E.size c key l ≡ t
        → map_res abs (end (cond t (no_append 16) (spill n)))
        ≡ then_do (cond t (refused 16) (done (put (abs b).staging key (E.encode kind (id_of E ids ch) (pos spills) ((abs b).heads ch))))) (λ (x : Table). done (St.spilled W (abs b) ch n x))
    by_full n true e u q = refl
    by_full n false e u q = spill_same n e u q

    by_count : (n : ℤ) (t : Bool) → len ≡ 512 → leb 2147483647 spills ≡ t
        → map_res abs (end (cond t (no_append 18) (cond (full_for E.size c key l) (no_append 16) (spill n))))
        ≡ ite (ℕ_discrete spills 2147483647) (refused 18) (then_do (St.stage W (abs b) key (E.encode kind (id_of E ids ch) (pos spills) ((abs b).heads ch))) (λ (x : Table). done (St.spilled W (abs b) ch n x)))
    by_count n true e q = sym (ite_yes (ℕ_discrete spills 2147483647) (refused 18) _ (omega (arith, leb-true 2147483647 spills q, I.spills_in ch)))
    by_count n false e q =
        by_full n (full_for E.size c key l) e (leb-false 2147483647 spills q) refl
        ∙ ap (λ (x : Res Table). then_do x (λ (y : Table). done (St.spilled W (abs b) ch n y))) (sym (stage_is (E.encode kind (id_of E ids ch) (pos spills) ((abs b).heads ch))))
        ∙ sym (ite_no (ℕ_discrete spills 2147483647) (refused 18) _ (λ d. omega (arith, leb-false 2147483647 spills q)))

    by_len : (m : ℕ) (t : Bool) → ltb len 512 ≡ t
        → map_res abs (end (cond t (longer (pos m)) (spill_of E kind (id_of E ids ch) spills (pos m) c p.places l))) ≡ St.append_store W (abs b) ch (pos m)
    unfolding spill_of
    by_len m true e = longer_same (pos m) (ltb-true len 512 e) ∙ sym (ite_yes (dec_le (length ((abs b).heads ch)) 511) _ _ (omega (arith, long, ltb-true len 512 e)))
    by_len m false e =
        by_count (pos m) (leb 2147483647 spills) (omega (arith, ltb-false len 512 e, hf.len_in)) refl
        ∙ sym (ite_no (dec_le (length ((abs b).heads ch)) 511) _ _ (λ h. omega (arith, long, ltb-false len 512 e)))

    pub append_same : (n : ℤ) → map_res abs (result_of (do_append E ids b ch n)) ≡ St.append_store W (abs b) ch n
    unfolding append_of append_core
    append_same (negsuc k) = rw (ok, I.not_below ch)
    append_same (pos m) = rw (ok, I.not_below ch) (by_len m (ltb len 512) refl)

    -- ---- and keeps what holds
    inv_part : (v : Part) (d : ListCounts) (m : List ℕ) → head_ok v.head v.places ≡ true → is_negative v.head.spills ≡ false → nat_abs v.head.spills ≤ 2147483647
        → RecordsOk E.size E.limit d m → d.capacity ≡ c.capacity → S.Inv E ids caps (index (set_part b.parts ch v) (with_staged d m b.lists))
    inv_part v d m x y z t q = record {
      heads_in = all_set (λ q. head_ok q.head q.places ≡ true) b.parts ch v x I.heads_in;
      not_below = all_set (λ q. is_negative q.head.spills ≡ false) b.parts ch v y I.not_below;
      spills_in = all_set (λ q. nat_abs q.head.spills ≤ 2147483647) b.parts ch v z I.spills_in;
      lists_in = fit_lists E (with_staged d m b.lists) (record { in_staged = t; in_table = lf.in_table; in_deleted = lf.in_deleted });
      table_at = I.table_at;
      staged_at = q ∙ I.staged_at;
      deleted_at = I.deleted_at;
    }

    abbrev Keeps : Appending → Type 0
    Keeps o = (d : Index) → end o ≡ done d → S.Inv E ids caps d

    no_keeps : (k : ℕ) → Keeps (no_append k)
    no_keeps k d e = absurd (done≢refused (sym e))

    longer_keeps : (n : ℤ) → len < 512 → Keeps (longer n)
    longer_keeps n h d e =
        let v : Part = part (counts_of (len + 1) p.head.spills) (set p.places len n) in
        let x : Index = index (set_part b.parts ch v) (with_staged c l b.lists) in
        let q : x ≡ d = cc in
        rw (← q) (inv_part v c l (fit_head v (omega arith) (rw length-set hf.places_in)) (I.not_below ch) (I.spills_in ch) lf.in_staged refl)

    spill_keeps : (n : ℤ) → len ≡ 512 → spills < 2147483647 → full_for E.size c key l ≡ false → Keeps (spill n)
    unfolding spilled
    spill_keeps n e s f d g =
        let w = short_row e s in
        let v : Part = part (counts_of 1 (pos (spills + 1))) (one_number n p.places) in
        let x : Index = index (set_part b.parts ch v) (with_staged (counts_with E key c l) (bytes_with E key row c l) b.lists) in
        let q : x ≡ d = cc in
        rw (← q) (inv_part v (counts_with E key c l) (bytes_with E key row c l) (fit_head v (omega arith) (omega (arith, length_one n p.places hf.places_in, hf.places_in))) refl (omega arith)
        (records_ok_after_put E.size E.limit c key row l (L.key_length kind (id_of E ids ch) (pos spills)) (omega (arith, L.wide)) w (omega (arith, L.wide, L.short)) f lf.in_staged) refl)

    keeps_full : (n : ℤ) (t : Bool) → len ≡ 512 → spills < 2147483647 → full_for E.size c key l ≡ t → Keeps (cond t (no_append 16) (spill n))
    keeps_full n true e s q = no_keeps 16
    keeps_full n false e s q = spill_keeps n e s q

    keeps_count : (n : ℤ) (t : Bool) → len ≡ 512 → leb 2147483647 spills ≡ t → Keeps (cond t (no_append 18) (cond (full_for E.size c key l) (no_append 16) (spill n)))
    keeps_count n true e q = no_keeps 18
    keeps_count n false e q = keeps_full n (full_for E.size c key l) e (leb-false 2147483647 spills q) refl

    keeps_len : (n : ℤ) (t : Bool) → ltb len 512 ≡ t → Keeps (cond t (longer n) (spill_of E kind (id_of E ids ch) spills n c p.places l))
    unfolding spill_of
    keeps_len n true e = longer_keeps n (ltb-true len 512 e)
    keeps_len n false e = keeps_count n (leb 2147483647 spills) (omega (arith, ltb-false len 512 e, hf.len_in)) refl

    keeps_sign : (n : ℤ) (t : Bool) → Keeps (cond t (no_append 17) (cond (ltb len 512) (longer n) (spill_of E kind (id_of E ids ch) spills n c p.places l)))
    keeps_sign n true = no_keeps 17
    keeps_sign n false = keeps_len n (ltb len 512) refl

    pub append_inv : (n : ℤ) (d : Index) → result_of (do_append E ids b ch n) ≡ done d → S.Inv E ids caps d
    unfolding append_of append_core
    append_inv n d e = keeps_sign n (is_negative n) d (rw (ok, I.not_below ch) at e)
