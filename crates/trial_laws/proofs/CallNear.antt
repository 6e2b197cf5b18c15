-- A call under two capacities: where it stays within the figures it does the same to both.
use mathlib.Core.Path.{◌≡◌, refl, sym, ◌∙◌, ap, subst}
use mathlib.Core.Logic.{◌≢◌}
use mathlib.Core.Bool.{Bool, true, false, cond, not, ◌&&◌}
use mathlib.Core.List.{List, ◌++◌}
use Prim.Native.Nat.{ℕ, ◌+◌, ◌*◌, ◌-◌, ◌≤◌}
use native.Mathlib.Omega.{arith}
use native.Mathlib.Nat.{mul-le-mul_right}
use lib.Dec.{leb, ltb}
use lib.IntN.{ℤ, pos, nat_abs}
use lib.ListN.{length, take, drop, set}
use borrow.Author.Tests.{lt-leb}
use Rattle.stores.specs.Stores.{write}
use Rattle.signed.specs.Sign.{is_negative}
use Rattle.std.specs.Prelude.{Option, Some, None, Ok, Err}
use Rattle.index_types.specs.declared.ListCounts.{ListCounts}
use Rattle.records.specs.Records.{records, keys, record_of}
use Rattle.records.specs.Find.{find_key, is_found}
use Rattle.records.specs.Changes.{slot, count_after, with_count, put_record, full_for, clear_records}
use Rattle.records.specs.Checks.{records_ok}
use Rattle.records.proofs.TurnLaws.{found_in}
use Rattle.segment_id.specs.declared.Kind.{Kind}
use Rattle.index_types.specs.declared.HeadCounts.{HeadCounts}
use Rattle.index_types.specs.Answers.{Appended}
use Rattle.buffer_core.specs.Edition.{Edition}
use Rattle.buffer_core.specs.Spills.{head_ok}
use Rattle.buffer_core.specs.Append.{Appending, appending, counts_of, spilled, spill_of, append_core, append_ok, append_of}
use Rattle.trial_laws.proofs.PrefixLaws.{write_agree, write_anywhere, write_long, clear_agree}
use Rattle.trial_laws.proofs.NearLaws.{Near, same_keys, same_ok}

-- ---- one list
module _ (size limit a : ℕ) (c d : ListCounts) (l m : List ℕ) (N : Near size limit a c d l m) where
  pub same_find : (key : List ℕ) → find_key key (keys size c.count l) ≡ find_key key (keys size d.count m)
  same_find key = ap (find_key key) (same_keys size limit a c d l m N)

  pub slot_in : (f : Option ℕ) (key : List ℕ) → f ≡ find_key key (keys size c.count l) → slot f c.count * size ≤ a * size
  slot_in (Some i) key e = mul-le-mul_right size (omega (arith, found_in key size c.count l i (Some i) e refl, N.few))
  slot_in None key e = mul-le-mul_right size N.few

  pub writes_long : (at : ℕ) (rec x : List ℕ) (n : ℕ) → at ≤ length x → n ≤ length x → n ≤ length (write at rec x)
  unfolding write
  writes_long at rec x n h g =
      omega (arith, lib.ListN.length-append (take at x ++ rec) (drop (at + length rec) x), lib.ListN.length-append (take at x) rec, lib.Seq.length-take-le at x h, lib.ListN.length-drop (at + length rec) x)

  -- a record put at a slot, where the count stays within a
  pub put_any : (at k : ℕ) (rec : List ℕ) → k ≤ a → Near size limit a (with_count k c) (with_count k d) (write at rec l) (write at rec m)
  put_any at k rec g = record {
    count = refl;
    few = g;
    in_c = N.in_c;
    in_d = N.in_d;
    agree = write_anywhere (a * size) at rec l m N.agree;
    room_c = omega (arith, N.room_c, write_long at rec l);
    room_d = omega (arith, N.room_d, write_long at rec m);
  }

  pub put_near : (at k : ℕ) (rec : List ℕ) → at ≤ a * size → k ≤ a → Near size limit a (with_count k c) (with_count k d) (write at rec l) (write at rec m)
  put_near at k rec h g = record {
    count = refl;
    few = g;
    in_c = N.in_c;
    in_d = N.in_d;
    agree = write_agree (a * size) at rec l m N.agree h;
    room_c = writes_long at rec l (c.capacity * size) (omega (arith, h, N.agree.in_l)) N.room_c;
    room_d = writes_long at rec m (d.capacity * size) (omega (arith, h, N.agree.in_m)) N.room_d;
  }

  pub clear_near : Near size limit a (with_count 0 c) (with_count 0 d) (clear_records size c.capacity l) (clear_records size d.capacity m)
  unfolding clear_records
  clear_near = record {
    count = refl;
    few = omega arith;
    in_c = N.in_c;
    in_d = N.in_d;
    agree = clear_agree size c.capacity d.capacity (a * size) l m (mul-le-mul_right size N.in_c) (mul-le-mul_right size N.in_d);
    room_c = writes_long 0 (lib.ListN.replicate (c.capacity * size) 0) l (c.capacity * size) (omega arith) N.room_c;
    room_d = writes_long 0 (lib.ListN.replicate (d.capacity * size) 0) m (d.capacity * size) (omega arith) N.room_d;
  }

  -- full on the one and not within a on the other
  pub full_same : (key : List ℕ) → full_for size c key l ≡ false → count_after (find_key key (keys size c.count l)) c.count ≤ a → full_for size d key m ≡ false
  unfolding full_for
  full_same key h g = by (find_key key (keys size c.count l)) refl g
    where
      by : (f : Option ℕ) → find_key key (keys size c.count l) ≡ f → count_after f c.count ≤ a → not (is_found (find_key key (keys size d.count m))) && leb d.capacity d.count ≡ false
      by (Some i) e g = ap (λ (f : Option ℕ). not (is_found f) && leb d.capacity d.count) (sym (same_find key) ∙ e)
      by None e g = ap (λ (f : Option ℕ). not (is_found f) && leb d.capacity d.count) (sym (same_find key) ∙ e) ∙ lt-leb d.capacity d.count (omega (arith, g, N.count, N.in_d))

-- ---- append
module _ (E : Edition) (a : ℕ) (c d : ListCounts) (l m : List ℕ) (N : Near E.size E.limit a c d l m) (ok : records_ok E.size E.limit c l ≡ true) where
  abbrev pub AppNear : Appended → Appended → List ℤ → List ℤ → List ℕ → List ℕ → Type 0
  AppNear (Ok (h, x)) (Ok (g, y)) hd hd' st st' = (h ≡ g) × (hd ≡ hd') × Near E.size E.limit a x y st st'
  AppNear (Ok (h, x)) (Err k) hd hd' st st' = ⊥
  AppNear (Err j) (Ok (g, y)) hd hd' st st' = ⊥
  AppNear (Err j) (Err k) hd hd' st st' = (j ≡ k) × (hd ≡ hd') × Near E.size E.limit a c d st st'

  -- within the figures: no 16, and at most a records then
  abbrev pub AppFine : Appended → Type 0
  AppFine (Ok (h, x)) = x.count ≤ a
  AppFine (Err k) = k ≢ 16

  abbrev pub Alike : Appending → Appending → Type 0
  Alike o o' = AppNear o.answer o'.answer o.head o'.head o.staged o'.staged

  spilled_near : (kind : Kind) (key parent : List ℕ) (spills : ℕ) (z : ℤ) (head : List ℤ) → count_after (find_key key (keys E.size c.count l)) c.count ≤ a
      → Alike (spilled E kind key parent spills z c head l) (spilled E kind key parent spills z d head m)
  unfolding spilled put_record
  spilled_near kind key parent spills z head g =
      let f = find_key key (keys E.size c.count l) in
      let e = same_find E.size E.limit a c d l m N key in
      let n = put_near E.size E.limit a c d l m N (slot f c.count * E.size) (count_after f c.count) (record_of E.size key (E.encode kind parent (pos spills) (take 512 head))) (slot_in E.size E.limit a c d l m N f key refl) g in (
        refl,
        refl,
        subst (λ (y : ℕ). Near E.size E.limit a (with_count (count_after f c.count) c) (with_count (count_after (find_key key (keys E.size d.count m)) y) d)
            (write (slot f c.count * E.size) (record_of E.size key (E.encode kind parent (pos spills) (take 512 head))) l)
            (write (slot (find_key key (keys E.size d.count m)) y * E.size) (record_of E.size key (E.encode kind parent (pos spills) (take 512 head))) m)) N.count
            (subst (λ (x : Option ℕ). Near E.size E.limit a (with_count (count_after f c.count) c) (with_count (count_after x c.count) d)
            (write (slot f c.count * E.size) (record_of E.size key (E.encode kind parent (pos spills) (take 512 head))) l)
            (write (slot x c.count * E.size) (record_of E.size key (E.encode kind parent (pos spills) (take 512 head))) m)) e n),
      )

  same_lists : (k : ℕ) (head : List ℤ) → Alike (appending (Err k) head l) (appending (Err k) head m)
  same_lists k head = (refl, refl, N)

  fine_count : (kind : Kind) (key parent : List ℕ) (spills : ℕ) (z : ℤ) (head : List ℤ) → AppFine (spilled E kind key parent spills z c head l).answer → count_after (find_key key (keys E.size c.count l)) c.count ≤ a
  unfolding spilled
  fine_count kind key parent spills z head h = h

  full_by : (kind : Kind) (key parent : List ℕ) (spills : ℕ) (z : ℤ) (head : List ℤ) (u : Bool) → full_for E.size c key l ≡ u
      → AppFine (cond u (appending (Err 16) head l) (spilled E kind key parent spills z c head l)).answer
      → Alike (cond u (appending (Err 16) head l) (spilled E kind key parent spills z c head l)) (cond (full_for E.size d key m) (appending (Err 16) head m) (spilled E kind key parent spills z d head m))
  full_by kind key parent spills z head true e h = absurd (h refl)
  full_by kind key parent spills z head false e h =
      let g = fine_count kind key parent spills z head h in
      rw (full_same E.size E.limit a c d l m N key e g) (spilled_near kind key parent spills z head g)

  tests_by : (kind : Kind) (key parent : List ℕ) (spills n : ℕ) (hs : ℤ) (z : ℤ) (head : List ℤ) (p q r t : Bool)
      → AppFine (cond p (appending (Err 11) head l) (cond q (appending (Err 17) head l) (cond r (appending (Ok (counts_of (n + 1) hs, c)) (set head n z) l)
      (cond t (appending (Err 18) head l) (cond (full_for E.size c key l) (appending (Err 16) head l) (spilled E kind key parent spills z c head l)))))).answer
      → Alike (cond p (appending (Err 11) head l) (cond q (appending (Err 17) head l) (cond r (appending (Ok (counts_of (n + 1) hs, c)) (set head n z) l)
      (cond t (appending (Err 18) head l) (cond (full_for E.size c key l) (appending (Err 16) head l) (spilled E kind key parent spills z c head l))))))
      (cond p (appending (Err 11) head m) (cond q (appending (Err 17) head m) (cond r (appending (Ok (counts_of (n + 1) hs, d)) (set head n z) m)
      (cond t (appending (Err 18) head m) (cond (full_for E.size d key m) (appending (Err 16) head m) (spilled E kind key parent spills z d head m))))))
  tests_by kind key parent spills n hs z head true q r t h = same_lists 11 head
  tests_by kind key parent spills n hs z head false true r t h = same_lists 17 head
  tests_by kind key parent spills n hs z head false false true t h = (refl, refl, N)
  tests_by kind key parent spills n hs z head false false false true h = same_lists 18 head
  tests_by kind key parent spills n hs z head false false false false h = full_by kind key parent spills z head (full_for E.size c key l) refl h

  head_by : (kind : Kind) (parent : List ℕ) (h : HeadCounts) (z : ℤ) (head : List ℤ) (u : Bool) → AppFine (cond u (append_core E kind parent h z c head l) (appending (Err 25) head l)).answer
      → Alike (cond u (append_core E kind parent h z c head l) (appending (Err 25) head l)) (cond u (append_core E kind parent h z d head m) (appending (Err 25) head m))
  unfolding append_core spill_of
  head_by kind parent h z head true g =
      tests_by kind (E.key kind parent (pos (nat_abs h.spills))) parent (nat_abs h.spills) h.len h.spills z head (is_negative h.spills) (is_negative z) (ltb h.len 512) (leb 2147483647 (nat_abs h.spills)) g
  head_by kind parent h z head false g = same_lists 25 head

  pub and_right_true : (u v : Bool) → v ≡ true → u && v ≡ u
  and_right_true true v e = e
  and_right_true false v e = refl

  pub append_near : (kind : Kind) (parent : List ℕ) (h : HeadCounts) (z : ℤ) (head : List ℤ) → AppFine (append_of E kind parent h z c head l).answer
      → Alike (append_of E kind parent h z c head l) (append_of E kind parent h z d head m)
  unfolding append_of append_ok
  append_near kind parent h z head g =
      let u = head_ok h head in
      let p = and_right_true u (records_ok E.size E.limit c l) ok in
      let q = and_right_true u (records_ok E.size E.limit d m) (same_ok E.size E.limit a c d l m N ok) in
      rw (p, q) (head_by kind parent h z head u (rw p at g))
