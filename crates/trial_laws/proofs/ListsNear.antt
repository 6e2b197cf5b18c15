-- Spend, unspend, pop and flush under two capacities.
use mathlib.Core.Path.{◌≡◌, refl, sym, ◌∙◌, ap, subst}
use mathlib.Core.Logic.{◌≢◌}
use mathlib.Core.Bool.{Bool, true, false, cond, ◌&&◌}
use mathlib.Core.List.{List, []}
use Prim.Native.Nat.{ℕ, ◌*◌, ◌-◌, ◌≤◌}
use native.Mathlib.Omega.{arith}
use native.Mathlib.Nat.{mul-le-mul_right}
use lib.Dec.{leb, ltb, eqb}
use lib.IntN.{ℤ, pos, nat_abs}
use lib.ListN.{length, take}
use Rattle.stores.specs.Stores.{write}
use Rattle.signed.specs.Sign.{is_negative}
use Rattle.std.specs.Prelude.{Option, Some, None, Ok, Err}
use Rattle.index_types.specs.declared.ListCounts.{ListCounts}
use Rattle.records.specs.Records.{records, keys, record_of}
use Rattle.records.specs.Find.{find_key, distinct}
use Rattle.records.specs.Changes.{slot, count_after, with_count, put_record, remove_record, full_for}
use Rattle.records.specs.Checks.{records_ok, RecordsOk}
use Rattle.records.proofs.CheckLaws.{bounds_of, and_true, records_ok_test}
use Rattle.records.proofs.TurnLaws.{found_in}
use Rattle.segment_id.specs.declared.Kind.{Kind}
use Rattle.index_types.specs.declared.HeadCounts.{HeadCounts}
use Rattle.buffer_core.specs.declared.Direction.{Direction}
use Rattle.index_types.specs.Answers.{Flipped}
use Rattle.index_types.specs.Answers.{Popped}
use Rattle.index_types.specs.Answers.{Flushed}
use Rattle.buffer_core.specs.Edition.{Edition, RowRead, bad, good}
use Rattle.buffer_core.specs.Spills.{sources, spill_read, head_ok}
use Rattle.buffer_core.specs.Append.{counts_of}
use Rattle.buffer_core.specs.Flip.{Effect, refuse, flip_head, stage, Flipping, flipping, done_by, flip_effect, flip_core, flip_ok, flip_of}
use Rattle.buffer_core.specs.Pop.{Lists, lists, Popping, popping, count_without, bytes_without, last_of, without_last, merged, merge_of, unspill_of, pop_core, lists_ok, pop_ok, pop_of}
use Rattle.buffer_core.specs.Flush.{Listed, listed, Flushing, flushing, table_after, flush_core, flush_of, new_keys, new_count, put_undeleted, remove_keys}
use Rattle.buffer_core.specs.Flush as Fl
use Rattle.buffer_core.proofs.ListLaws.{ListsFit, lists_fit, fit_lists}
use Rattle.trial_laws.proofs.PrefixLaws.{Agree, write_long, remove_agree}
use Rattle.trial_laws.proofs.NearLaws.{Near, same_records, same_keys, same_ok, same_read, effect_near, Within}
use Rattle.trial_laws.proofs.CallNear.{same_find, put_any, clear_near, full_same, and_right_true}

-- a key's record leaves both
module _ (size limit a : ℕ) (c d : ListCounts) (l m : List ℕ) (N : Near size limit a c d l m) where
  removed_long : (n i : ℕ) (x : List ℕ) → length x ≤ length (remove_record size n i x)
  unfolding remove_record
  removed_long n i x = omega (
    arith,
    write_long (i * size) (take size (lib.ListN.drop ((n - 1) * size) x)) x,
    write_long ((n - 1) * size) (lib.ListN.replicate size 0) (write (i * size) (take size (lib.ListN.drop ((n - 1) * size) x)) x),
  )

  pub remove_near : (key : List ℕ) (f : Option ℕ) → f ≡ find_key key (keys size c.count l)
      → Near size limit a (count_without f c) (count_without f d) (bytes_without size f c l) (bytes_without size f d m)
  remove_near key None q = N
  remove_near key (Some i) q =
      let h = found_in key size c.count l i (Some i) q refl in
      record {
        count = ap (λ n. n - 1) N.count;
        few = omega (arith, N.few);
        in_c = N.in_c;
        in_d = N.in_d;
        agree = subst (λ (n : ℕ). Agree (a * size) (remove_record size c.count i l) (remove_record size n i m)) N.count
            (remove_agree size c.count (a * size) i l m N.agree (mul-le-mul_right size N.few) h);
        room_c = omega (arith, N.room_c, removed_long c.count i l);
        room_d = omega (arith, N.room_d, removed_long d.count i m);
      }

-- the three lists under two capacities of staged and deleted spills
pub record Close (E : Edition) (a e : ℕ) (b c : Lists) : Type 0 where
  pub staged : Near E.size E.limit a b.staged_counts c.staged_counts b.staged c.staged
  pub deleted : Near 32 0 e b.deleted_counts c.deleted_counts b.deleted c.deleted
  pub table_counts : b.table_counts ≡ c.table_counts
  pub table : b.table ≡ c.table

module _ (E : Edition) (a e : ℕ) (b c : Lists) (N : Close E a e b c) (ok : lists_ok E b ≡ true) where
  fit : ListsFit E b
  fit = lists_fit E b ok

  staged_ok : records_ok E.size E.limit b.staged_counts b.staged ≡ true
  staged_ok = records_ok_test _ _ _ _ fit.in_staged

  staged_ok' : records_ok E.size E.limit c.staged_counts c.staged ≡ true
  staged_ok' = same_ok E.size E.limit a b.staged_counts c.staged_counts b.staged c.staged N.staged staged_ok

  same_deleted : keys 32 b.deleted_counts.count b.deleted ≡ keys 32 c.deleted_counts.count c.deleted
  same_deleted = same_keys 32 0 e b.deleted_counts c.deleted_counts b.deleted c.deleted N.deleted

  pub both_ok : lists_ok E c ≡ true
  both_ok = fit_lists E c (record {
    in_staged = Rattle.records.proofs.CheckLaws.records_ok_facts E.size E.limit c.staged_counts c.staged staged_ok';
    in_table = λ';
    in_deleted = record {
      bounds = bounds_of 32 c.deleted_counts c.deleted (omega (arith, N.deleted.count, N.deleted.few, N.deleted.in_d)) N.deleted.room_d;
      apart = subst (λ (ks : List (List ℕ)). distinct ks ≡ true) same_deleted fit.in_deleted.apart;
    };
  })
    where
      λ' : RecordsOk E.size E.limit c.table_counts c.table
      λ' = subst (λ (x : ListCounts). RecordsOk E.size E.limit x c.table) N.table_counts
          (subst (λ (x : List ℕ). RecordsOk E.size E.limit b.table_counts x) N.table fit.in_table)

  -- ---- flush
  abbrev pub FlushNear : Flushed → Flushed → Flushing → Flushing → Type 0
  FlushNear (Ok (t, x, y)) (Ok (t', x', y')) o o' = Close E a e (lists x o.staged t o.table y o.deleted) (lists x' o'.staged t' o'.table y' o'.deleted)
  FlushNear (Ok (t, x, y)) (Err k) o o' = ⊥
  FlushNear (Err j) (Ok (t, x, y)) o o' = ⊥
  FlushNear (Err j) (Err k) o o' = (j ≡ k) × Close E a e (lists b.staged_counts o.staged b.table_counts o.table b.deleted_counts o.deleted)
      (lists c.staged_counts o'.staged c.table_counts o'.table c.deleted_counts o'.deleted)

  records_same : records E.size b.staged_counts.count b.staged ≡ records E.size c.staged_counts.count c.staged
  records_same = same_records E.size E.limit a b.staged_counts c.staged_counts b.staged c.staged N.staged

  keys_same : keys E.size b.staged_counts.count b.staged ≡ keys E.size c.staged_counts.count c.staged
  keys_same = same_keys E.size E.limit a b.staged_counts c.staged_counts b.staged c.staged N.staged

  after_same : table_after E b ≡ table_after E c
  unfolding table_after
  after_same = λ i. remove_keys E (same_deleted i) (put_undeleted E (same_deleted i) (records_same i) (listed (N.table_counts i) (N.table i)))

  new_same : new_keys E b ≡ new_keys E c
  new_same = λ i. new_count (keys E.size (N.table_counts i).count (N.table i)) (same_deleted i) (keys_same i)

  room_by : (u : Bool) → FlushNear (cond u (Fl.flushed E b) (flushing (Err 22) b.table b.staged b.deleted)).answer
      (cond u (Fl.flushed E c) (flushing (Err 22) c.table c.staged c.deleted)).answer
      (cond u (Fl.flushed E b) (flushing (Err 22) b.table b.staged b.deleted)) (cond u (Fl.flushed E c) (flushing (Err 22) c.table c.staged c.deleted))
  unfolding Fl.flushed
  room_by true = record {
    staged = clear_near E.size E.limit a b.staged_counts c.staged_counts b.staged c.staged N.staged;
    deleted = clear_near 32 0 e b.deleted_counts c.deleted_counts b.deleted c.deleted N.deleted;
    table_counts = ap (λ (x : Listed). x.counts) after_same;
    table = ap (λ (x : Listed). x.bytes) after_same;
  }
  room_by false = (refl, record { staged = N.staged; deleted = N.deleted; table_counts = N.table_counts; table = N.table })

  pub flush_near : FlushNear (flush_of E b).answer (flush_of E c).answer (flush_of E b) (flush_of E c)
  unfolding flush_of flush_core
  flush_near =
      let q : leb (new_keys E b) (b.table_counts.capacity - b.table_counts.count) ≡ leb (new_keys E c) (c.table_counts.capacity - c.table_counts.count)
      = λ i. leb (new_same i) ((N.table_counts i).capacity - (N.table_counts i).count) in
      rw (ok, both_ok, sym q) (room_by (leb (new_keys E b) (b.table_counts.capacity - b.table_counts.count)))

  -- ---- spend and unspend
  abbrev pub FlipNear : Flipped → Flipped → List ℤ → List ℤ → List ℕ → List ℕ → Type 0
  FlipNear (Ok x) (Ok y) hd hd' st st' = (hd ≡ hd') × Near E.size E.limit a x y st st'
  FlipNear (Ok x) (Err k) hd hd' st st' = ⊥
  FlipNear (Err j) (Ok y) hd hd' st st' = ⊥
  FlipNear (Err j) (Err k) hd hd' st st' = (j ≡ k) × (hd ≡ hd') × Near E.size E.limit a b.staged_counts c.staged_counts st st'

  abbrev pub FlipAlike : Flipping → Flipping → Type 0
  FlipAlike o o' = FlipNear o.answer o'.answer o.head o'.head o.staged o'.staged

  abbrev pub FlipFine : Flipped → Type 0
  FlipFine (Ok x) = x.count ≤ a
  FlipFine (Err k) = k ≢ 16

  abbrev Fits : Effect → Type 0
  Fits f = Within E a b.staged_counts c.staged_counts b.staged c.staged N.staged [] b.table 0 f

  fits_of : (f : Effect) (head : List ℤ) → FlipFine (done_by E f b.staged_counts head b.staged).answer → Fits f
  fits_of (refuse k) head h = h
  fits_of (flip_head i) head h = tt
  fits_of (stage slot k key row) head h = h

  done_near : (f : Effect) (head : List ℤ) → Fits f → FlipAlike (done_by E f b.staged_counts head b.staged) (done_by E f c.staged_counts head c.staged)
  done_near (refuse k) head h = (refl, refl, N.staged)
  done_near (flip_head i) head h = (refl, N.staged)
  done_near (stage slot k key row) head h =
      (refl, put_any E.size E.limit a b.staged_counts c.staged_counts b.staged c.staged N.staged (slot * E.size) k (record_of E.size key row) h)

  module _ (dir : Direction) (parent : List ℕ) (h : HeadCounts) (z : ℤ) (head : List ℤ) where
    abbrev eff : Effect
    eff = flip_effect E (sources parent b.staged b.staged_counts.count b.table b.table_counts.count) b.staged_counts.capacity dir z h.spills (take h.len head)

    abbrev eff' : Effect
    eff' = flip_effect E (sources parent c.staged c.staged_counts.count c.table c.table_counts.count) c.staged_counts.capacity dir z h.spills (take h.len head)

    effects : Fits eff → eff ≡ eff'
    effects f =
        effect_near E a b.staged_counts c.staged_counts b.staged c.staged N.staged parent b.table b.table_counts.count dir z h.spills (take h.len head) f
        ∙ (λ i. flip_effect E (sources parent c.staged c.staged_counts.count (N.table i) (N.table_counts i).count) c.staged_counts.capacity dir z h.spills (take h.len head))

    abbrev one : Flipping
    one = done_by E eff b.staged_counts head b.staged

    abbrev two : Flipping
    two = done_by E eff' c.staged_counts head c.staged

    by_head : (u : Bool) → FlipFine (cond u one (flipping (Err 25) head b.staged)).answer
        → FlipAlike (cond u one (flipping (Err 25) head b.staged)) (cond u two (flipping (Err 25) head c.staged))
    by_head true g =
        let f = fits_of eff head g in
        subst (λ (x : Effect). FlipAlike one (done_by E x c.staged_counts head c.staged)) (effects f) (done_near eff head f)
    by_head false g = (refl, refl, N.staged)

    tables_ok : records_ok E.size E.limit c.table_counts c.table ≡ true
    tables_ok = records_ok_test _ _ _ _ (lists_fit E c both_ok).in_table

    pub flip_near : FlipFine (flip_of E dir parent h z b.staged_counts b.staged b.table_counts b.table head).answer
        → FlipAlike (flip_of E dir parent h z b.staged_counts b.staged b.table_counts b.table head) (flip_of E dir parent h z c.staged_counts c.staged c.table_counts c.table head)
    unfolding flip_of flip_core flip_ok
    flip_near g =
        let u = head_ok h head in
        let p : u && (records_ok E.size E.limit b.staged_counts b.staged && records_ok E.size E.limit b.table_counts b.table) ≡ u
        = and_right_true E a b.staged_counts c.staged_counts b.staged c.staged N.staged staged_ok u _
        (and_true (records_ok E.size E.limit b.staged_counts b.staged) (records_ok E.size E.limit b.table_counts b.table) staged_ok (records_ok_test _ _ _ _ fit.in_table)) in
        let q : u && (records_ok E.size E.limit c.staged_counts c.staged && records_ok E.size E.limit c.table_counts c.table) ≡ u
        = and_right_true E a b.staged_counts c.staged_counts b.staged c.staged N.staged staged_ok u _
        (and_true (records_ok E.size E.limit c.staged_counts c.staged) (records_ok E.size E.limit c.table_counts c.table) staged_ok' tables_ok) in
        rw (p, q) (by_head u (rw p at g))

  -- ---- pop
  abbrev pub PopNear : Popped → Popped → Popping → Popping → Type 0
  PopNear (Ok (z, h, x, y)) (Ok (z', h', x', y')) o o' =
      (z ≡ z') × (h ≡ h') × (o.head ≡ o'.head) × Near E.size E.limit a x x' o.staged o'.staged × Near 32 0 e y y' o.deleted o'.deleted
  PopNear (Ok (z, h, x, y)) (Err k) o o' = ⊥
  PopNear (Err j) (Ok (z, h, x, y)) o o' = ⊥
  PopNear (Err j) (Err k) o o' =
      (j ≡ k) × (o.head ≡ o'.head) × Near E.size E.limit a b.staged_counts c.staged_counts o.staged o'.staged × Near 32 0 e b.deleted_counts c.deleted_counts o.deleted o'.deleted

  abbrev pub PopAlike : Popping → Popping → Type 0
  PopAlike o o' = PopNear o.answer o'.answer o o'

  abbrev pub PopFine : Popped → Type 0
  PopFine (Ok (z, h, x, y)) = y.count ≤ e
  PopFine (Err k) = k ≢ 21

  stays : (k : ℕ) (head : List ℤ) → PopAlike (popping (Err k) head b.staged b.deleted) (popping (Err k) head c.staged c.deleted)
  stays k head = (refl, refl, N.staged, N.deleted)

  abbrev D : Near 32 0 e b.deleted_counts c.deleted_counts b.deleted c.deleted
  D = N.deleted

  merged_near : (key : List ℕ) (spills : ℕ) (zs head : List ℤ) → count_after (find_key key (keys 32 b.deleted_counts.count b.deleted)) b.deleted_counts.count ≤ e
      → PopAlike (merged E key spills zs b head) (merged E key spills zs c head)
  unfolding merged put_record
  merged_near key spills zs head g =
      let f = find_key key (keys E.size b.staged_counts.count b.staged) in
      let f' = find_key key (keys 32 b.deleted_counts.count b.deleted) in
      let p = same_find E.size E.limit a b.staged_counts c.staged_counts b.staged c.staged N.staged key in
      let q = same_find 32 0 e b.deleted_counts c.deleted_counts b.deleted c.deleted D key in
      let r = remove_near E.size E.limit a b.staged_counts c.staged_counts b.staged c.staged N.staged key f refl in
      let t = put_any 32 0 e b.deleted_counts c.deleted_counts b.deleted c.deleted D (slot f' b.deleted_counts.count * 32) (count_after f' b.deleted_counts.count) key g in (
        refl,
        refl,
        refl,
        subst (λ (x : Option ℕ). Near E.size E.limit a (count_without f b.staged_counts) (count_without x c.staged_counts) (bytes_without E.size f b.staged_counts b.staged) (bytes_without E.size x c.staged_counts c.staged)) p r,
        subst (λ (n : ℕ). Near 32 0 e (with_count (count_after f' b.deleted_counts.count) b.deleted_counts) (with_count (count_after (find_key key (keys 32 c.deleted_counts.count c.deleted)) n) c.deleted_counts)
            (write (slot f' b.deleted_counts.count * 32) key b.deleted) (write (slot (find_key key (keys 32 c.deleted_counts.count c.deleted)) n * 32) key c.deleted)) D.count
            (subst (λ (x : Option ℕ). Near 32 0 e (with_count (count_after f' b.deleted_counts.count) b.deleted_counts) (with_count (count_after x b.deleted_counts.count) c.deleted_counts)
            (write (slot f' b.deleted_counts.count * 32) key b.deleted) (write (slot x b.deleted_counts.count * 32) key c.deleted)) q t),
      )

  fine_merged : (key : List ℕ) (spills : ℕ) (zs head : List ℤ) → PopFine (merged E key spills zs b head).answer → count_after (find_key key (keys 32 b.deleted_counts.count b.deleted)) b.deleted_counts.count ≤ e
  unfolding merged
  fine_merged key spills zs head h = h

  full_by : (key : List ℕ) (spills : ℕ) (zs head : List ℤ) (u : Bool) → full_for 32 b.deleted_counts key b.deleted ≡ u
      → PopFine (cond u (popping (Err 21) head b.staged b.deleted) (merged E key spills zs b head)).answer
      → PopAlike (cond u (popping (Err 21) head b.staged b.deleted) (merged E key spills zs b head))
      (cond (full_for 32 c.deleted_counts key c.deleted) (popping (Err 21) head c.staged c.deleted) (merged E key spills zs c head))
  full_by key spills zs head true q h = absurd (h refl)
  full_by key spills zs head false q h =
      let g = fine_merged key spills zs head h in
      rw (full_same 32 0 e b.deleted_counts c.deleted_counts b.deleted c.deleted D key q g) (merged_near key spills zs head g)

  empty_by : (key : List ℕ) (spills : ℕ) (zs head : List ℤ) (u : Bool)
      → PopFine (cond u (popping (Err 20) head b.staged b.deleted) (cond (full_for 32 b.deleted_counts key b.deleted) (popping (Err 21) head b.staged b.deleted) (merged E key spills zs b head))).answer
      → PopAlike (cond u (popping (Err 20) head b.staged b.deleted) (cond (full_for 32 b.deleted_counts key b.deleted) (popping (Err 21) head b.staged b.deleted) (merged E key spills zs b head)))
      (cond u (popping (Err 20) head c.staged c.deleted) (cond (full_for 32 c.deleted_counts key c.deleted) (popping (Err 21) head c.staged c.deleted) (merged E key spills zs c head)))
  empty_by key spills zs head true h = stays 20 head
  empty_by key spills zs head false h = full_by key spills zs head (full_for 32 b.deleted_counts key b.deleted) refl h

  merge_near : (r : RowRead) (key : List ℕ) (spills : ℕ) (head : List ℤ) → PopFine (merge_of E r key spills b head).answer → PopAlike (merge_of E r key spills b head) (merge_of E r key spills c head)
  unfolding merge_of
  merge_near (bad k) key spills head h = stays k head
  merge_near (good zs) key spills head h = empty_by key spills zs head (eqb (length zs) 0) h

  unspill_near : (kind : Kind) (parent : List ℕ) (spills : ℕ) (head : List ℤ) → PopFine (unspill_of E kind parent spills b head).answer → PopAlike (unspill_of E kind parent spills b head) (unspill_of E kind parent spills c head)
  unfolding unspill_of
  unspill_near kind parent spills head h =
      let r = spill_read E kind (sources parent b.staged b.staged_counts.count b.table b.table_counts.count) spills in
      let q = same_read E a b.staged_counts c.staged_counts b.staged c.staged N.staged parent b.table b.table_counts.count kind spills
      ∙ (λ i. spill_read E kind (sources parent c.staged c.staged_counts.count (N.table i) (N.table_counts i).count) spills) in
      subst (λ (x : RowRead). PopAlike (merge_of E r (E.key kind parent (pos spills)) spills b head) (merge_of E x (E.key kind parent (pos spills)) spills c head)) q
      (merge_near r (E.key kind parent (pos spills)) spills head h)

  tests_by : (kind : Kind) (parent : List ℕ) (h : HeadCounts) (head : List ℤ) (p q r : Bool)
      → PopFine (cond p (popping (Err 11) head b.staged b.deleted) (cond q (popping (Ok (last_of h.len head, counts_of (h.len - 1) h.spills, b.staged_counts, b.deleted_counts)) (without_last h.len head) b.staged b.deleted)
      (cond r (popping (Err 19) head b.staged b.deleted) (unspill_of E kind parent (nat_abs h.spills - 1) b head)))).answer
      → PopAlike (cond p (popping (Err 11) head b.staged b.deleted) (cond q (popping (Ok (last_of h.len head, counts_of (h.len - 1) h.spills, b.staged_counts, b.deleted_counts)) (without_last h.len head) b.staged b.deleted)
      (cond r (popping (Err 19) head b.staged b.deleted) (unspill_of E kind parent (nat_abs h.spills - 1) b head))))
      (cond p (popping (Err 11) head c.staged c.deleted) (cond q (popping (Ok (last_of h.len head, counts_of (h.len - 1) h.spills, c.staged_counts, c.deleted_counts)) (without_last h.len head) c.staged c.deleted)
      (cond r (popping (Err 19) head c.staged c.deleted) (unspill_of E kind parent (nat_abs h.spills - 1) c head))))
  tests_by kind parent h head true q r g = stays 11 head
  tests_by kind parent h head false true r g = (refl, refl, refl, N.staged, N.deleted)
  tests_by kind parent h head false false true g = stays 19 head
  tests_by kind parent h head false false false g = unspill_near kind parent (nat_abs h.spills - 1) head g

  pop_by : (kind : Kind) (parent : List ℕ) (h : HeadCounts) (head : List ℤ) (u : Bool) → PopFine (cond u (pop_core E kind parent h b head) (popping (Err 25) head b.staged b.deleted)).answer
      → PopAlike (cond u (pop_core E kind parent h b head) (popping (Err 25) head b.staged b.deleted)) (cond u (pop_core E kind parent h c head) (popping (Err 25) head c.staged c.deleted))
  unfolding pop_core
  pop_by kind parent h head true g = tests_by kind parent h head (is_negative h.spills) (ltb 0 h.len) (eqb (nat_abs h.spills) 0) g
  pop_by kind parent h head false g = stays 25 head

  pub pop_near : (kind : Kind) (parent : List ℕ) (h : HeadCounts) (head : List ℤ) → PopFine (pop_of E kind parent h b head).answer → PopAlike (pop_of E kind parent h b head) (pop_of E kind parent h c head)
  unfolding pop_of pop_ok
  pop_near kind parent h head g =
      let u = head_ok h head in
      let p = and_right_true E a b.staged_counts c.staged_counts b.staged c.staged N.staged staged_ok u (lists_ok E b) ok in
      let q = and_right_true E a b.staged_counts c.staged_counts b.staged c.staged N.staged staged_ok u (lists_ok E c) both_ok in
      rw (p, q) (pop_by kind parent h head u (rw p at g))
