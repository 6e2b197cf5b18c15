-- An accepted spend or unspend keeps what refusal 25 tests, and a refused one changes nothing.
use Prim.Native.Nat.{ℕ, zero, suc, ◌+◌, ◌*◌, ◌≤◌, ◌<◌}
use mathlib.Core.Path.{◌≡◌, refl, sym, ap, subst, ◌∙◌}
use mathlib.Core.Bool.{Bool, true, false, cond}
use mathlib.Core.List.{List, [], ◌∷◌}
use native.Mathlib.Omega.{arith}
use borrow.Author.Tests.{ltb-true, lt-leb, leb-true, leb-false}
use lib.Dec.{ltb, leb}
use lib.IntN.{ℤ, pos, nat_abs, neg_ℤ}
use lib.ListN.{length, take, get_or, set, length-set, length-append}
use mir.Syntax.{w64}
use mir.Val.{SFits}
use Rattle.stores.specs.Stores.{write}
use Rattle.signed.specs.Sign.{is_negative}
use Rattle.signed.proofs.SignedLaws.{neg_mag}
use Rattle.entries.specs.Order.{order_ok}
use Rattle.entries.specs.Flip.{position, flipped_at}
use Rattle.entries.specs.declared.Position.{Position}
use Rattle.entries.specs.declared.Position.TheVariants.{At, Seen, Absent}
use Rattle.std.specs.Prelude.{Option, Some, None, Ok, Err}
use Rattle.index_types.specs.declared.ListCounts.{ListCounts}
use Rattle.records.specs.Records.{keys, record_of}
use Rattle.records.specs.Find.{find_key, row_at, place_of}
use Rattle.records.specs.Changes.{slot, count_after, with_count, put_record, full_for}
use Rattle.records.specs.Checks.{records_ok, RecordsOk}
use Rattle.records.proofs.TurnLaws.{found_in}
use Rattle.records.proofs.CheckLaws.{and_left, and_right, and_true, records_ok_facts, records_ok_test, records_ok_after_put}
use Rattle.segment_id.specs.Key.{row_key}
use Rattle.segment_id.specs.declared.Kind.TheVariants.{Box}
use Rattle.segment_id.proofs.KeyLaws.{row_key_length}
use Rattle.segment_core.specs.Row.{row_bytes}
use Rattle.segment_core.specs.Reading.{Seg, seg, no_seg}
use Rattle.segment_core.proofs.BackLaws.{All64, Writable}
use Rattle.segment_core.proofs.CodecLaws.{row_size}
use Rattle.index_types.specs.declared.HeadCounts.{HeadCounts}
use Rattle.buffer_core.specs.declared.Direction.{Direction}
use Rattle.buffer_core.specs.Answers.{Low}
use Rattle.buffer_core.specs.declared.Walk.{Walk}
use Rattle.buffer_core.specs.declared.Walk.TheVariants.{Hit, Ended, Failed}
use Rattle.index_types.specs.declared.RowEdition.{RowEdition}
use Rattle.buffer_core.specs.Edition.{good, bad, numbers_of, record_size, row_limit_of, header, row_under, edition_of}
use Rattle.buffer_core.specs.Spills.{sources, place_at, read_placed, spill_read, head_ok}
use Rattle.buffer_core.specs.Flip.{search_in, walk_from, Effect, refuse, flip_head, stage, Flipping, flipping, head_first, done_by, spends, lead_at, look_at, row_flipped, stage_from, stage_at, after_walk, after_search, in_rows, in_order, flip_effect, flip_core, flip_ok}
use Rattle.spill_rows.proofs.CheckedLaws.{nope}
use Rattle.buffer_core.proofs.SizeLaws.{sizes, limit_most, row_most}
use Rattle.buffer_core.proofs.UnderLaws.{Fine, row_fine}
use Rattle.flip_walk.proofs.WalkLaws.{walk_hits}
use Rattle.flip_stage.specs.Internal.{Takes, flipped_under}
use Rattle.flip_stage.proofs.RewriteLaws.{flipped_row, body_of, header_short}
use Rattle.flip_rows.proofs.TakeLaws.{row_takes}
use Rattle.flip_core.specs.Internal.{FlipReady}

-- ---- a row written anew is within the limit

all_set : (zs : List ℤ) (i : ℕ) (z : ℤ) → All64 zs → SFits w64 z → All64 (set zs i z)
all_set [] i z f g = tt
all_set (x ∷ zs) zero z f g = (g, f.1)
all_set (x ∷ zs) (suc i) z f g = (f.0, all_set zs i z f.1 g)

module _ (ed : RowEdition) (parent : List ℕ) (named : length parent ≡ 32) (n : ℕ) (row : List ℕ) (fits : length row ≤ row_limit_of ed) (at : ℕ) where
  pub flipped_size : Takes (numbers_of Box (row_under ed Box parent (pos n) row)) at → length (flipped_under ed parent n row at) ≤ row_limit_of ed
  flipped_size x = by_row (row_under ed Box parent (pos n) row) refl
    where
      by_row : (g : Seg) → row_under ed Box parent (pos n) row ≡ g → length (flipped_under ed parent n row at) ≤ row_limit_of ed
      by_row (seg ts bs b t m) d =
          let w : Writable ts bs b t = subst Fine d (row_fine ed Box parent (pos n) row) in
          let q : good bs ≡ good x.numbers = sym (ap (numbers_of Box) d) ∙ x.read in
          let y : x.numbers ≡ bs = cc in
          let s : nat_abs (get_or bs at (pos 0)) < 9223372036854775808 = omega (arith, x.small, ap (λ (zs : List ℤ). nat_abs (get_or zs at (pos 0))) y) in
          let fit : SFits w64 (neg_ℤ (get_or bs at (pos 0))) = record { sfits = neg_mag (get_or bs at (pos 0)) 9223372036854775808 s } in
          let w' : Writable ts (flipped_at (At at) bs) b t = record {
            txs_few = w.txs_few;
            txs_fit = w.txs_fit;
            boxes_few = omega (arith, length-set bs at (neg_ℤ (get_or bs at (pos 0))), w.boxes_few);
            boxes_fit = all_set bs at _ w.boxes_fit fit;
            box_count = w.box_count;
            tx_count = w.tx_count;
          } in
          let h = header_short ed parent named n row (seg ts bs b t m) (body_of ed parent n row fits ts bs b t m d) in
          let z = row_size ts (flipped_at (At at) bs) b t w' in
          omega (arith, ap length (flipped_row ed parent n row ts bs b t m at d), length-append (header ed Box parent (pos n)) (row_bytes ts (flipped_at (At at) bs) b t))
      by_row (no_seg c) d = let z : bad c ≡ good x.numbers = sym (ap (numbers_of Box) d) ∙ x.read in nope (cc)

-- ---- what an effect stages is a row that the staged spills have room for

pub record Staging (ed : RowEdition) (c : ListCounts) (staged : List ℕ) (index count : ℕ) (key row : List ℕ) : Type 0 where
  pub keyed : length key ≡ 32
  pub short : length row ≤ row_limit_of ed
  pub free : full_for (record_size ed) c key staged ≡ false
  pub put_at : index ≡ slot (find_key key (keys (record_size ed) c.count staged)) c.count
  pub counted : count ≡ count_after (find_key key (keys (record_size ed) c.count staged)) c.count

abbrev pub Sound : RowEdition → ListCounts → List ℕ → Effect → Type 0
Sound ed c staged (refuse code) = Unit
Sound ed c staged (flip_head i) = Unit
Sound ed c staged (stage index count key row) = Staging ed c staged index count key row

staging_again : (ed : RowEdition) (c : ListCounts) (staged key row : List ℕ) (i : ℕ) → find_key key (keys (record_size ed) c.count staged) ≡ Some i → length key ≡ 32 → length row ≤ row_limit_of ed
    → Staging ed c staged i c.count key row
unfolding full_for
staging_again ed c staged key row i e k h = record { keyed = k; short = h; free = rw e; put_at = rw e; counted = rw e }

staging_new : (ed : RowEdition) (c : ListCounts) (staged key row : List ℕ) → find_key key (keys (record_size ed) c.count staged) ≡ None → c.count < c.capacity → length key ≡ 32
    → length row ≤ row_limit_of ed → Staging ed c staged c.count (c.count + 1) key row
unfolding full_for
staging_new ed c staged key row e l k h = record { keyed = k; short = h; free = rw (e, lt-leb c.capacity c.count l); put_at = rw e; counted = rw e }

module _ (ed : RowEdition) (parent : List ℕ) (named : length parent ≡ 32) (staged : List ℕ) (c : ListCounts) (table : List ℕ) (m : ℕ) (in_staged : c.count * record_size ed ≤ length staged) (in_table : m * record_size ed ≤ length table) where
  stage_sound : (n at : ℕ) → Takes (spill_read (edition_of ed) Box (sources parent staged c.count table m) n) at
      → Sound ed c staged (stage_at (edition_of ed) (sources parent staged c.count table m) c.capacity n at)
  unfolding stage_at place_at spill_read row_flipped
  stage_sound n at x = by_found (find_key (row_key parent Box (pos n)) (keys (record_size ed) c.count staged)) refl (find_key (row_key parent Box (pos n)) (keys (record_size ed) m table)) refl x
    where
      by_room : (i : ℕ) → find_key (row_key parent Box (pos n)) (keys (record_size ed) c.count staged) ≡ None
          → find_key (row_key parent Box (pos n)) (keys (record_size ed) m table) ≡ Some i → Takes (numbers_of Box (row_under ed Box parent (pos n) (row_at (record_size ed) i table))) at → (b : Bool) → ltb c.count c.capacity ≡ b
          → Sound ed c staged (cond b (stage c.count (c.count + 1) (row_key parent Box (pos n)) (row_flipped (edition_of ed) (sources parent staged c.count table m) n (row_at (record_size ed) i table) at)) (refuse 16))
      by_room i e d x true q =
          staging_new ed c staged (row_key parent Box (pos n)) _ e (ltb-true c.count c.capacity q) (row_key_length parent Box (pos n)) (flipped_size ed parent named n (row_at (record_size ed) i table) (row_most ed i m table _ (found_in _ (record_size ed) m table i _ refl d) in_table refl) at x)
      by_room i e d x false q = tt

      by_found : (f : Option ℕ) → find_key (row_key parent Box (pos n)) (keys (record_size ed) c.count staged) ≡ f → (g : Option ℕ)
          → find_key (row_key parent Box (pos n)) (keys (record_size ed) m table) ≡ g → Takes (read_placed (edition_of ed) Box (sources parent staged c.count table m) n (place_of f g)) at
          → Sound ed c staged (stage_from (edition_of ed) (sources parent staged c.count table m) c.capacity n at (place_of f g))
      by_found (Some i) e g d x = staging_again ed c staged (row_key parent Box (pos n)) _ i e (row_key_length parent Box (pos n)) (flipped_size ed parent named n (row_at (record_size ed) i staged) (row_most ed i c.count staged _ (found_in _ (record_size ed) c.count staged i _ refl e) in_staged refl) at x)
      by_found None e (Some i) d x = by_room i e d x (ltb c.count c.capacity) refl
      by_found None e None d x = tt

  module _ (t : ℕ) (small : t < 9223372036854775808) (d : Bool) (spills : ℕ) where
    rows_sound : (seen : Bool) → Sound ed c staged (in_rows (edition_of ed) (sources parent staged c.count table m) c.capacity t d spills seen)
    unfolding in_rows
    rows_sound seen = by_low (search_in (lead_at (edition_of ed) (sources parent staged c.count table m)) t 0 spills)
      where
        by_walk : (l : ℕ) (v : Walk) → v ≡ walk_from (look_at (edition_of ed) (sources parent staged c.count table m) t d) l seen
            → Sound ed c staged (after_walk (edition_of ed) (sources parent staged c.count table m) c.capacity v)
        by_walk l (Hit n at) e =
            let h = walk_hits (look_at (edition_of ed) (sources parent staged c.count table m) t d) l seen n at (Hit n at) e refl in
            stage_sound n at (row_takes (spill_read (edition_of ed) Box (sources parent staged c.count table m) n) t d at small h.1)
        by_walk l (Ended s) e = tt
        by_walk l (Failed code) e = tt

        by_low : (low : Low) → Sound ed c staged (after_search (edition_of ed) (sources parent staged c.count table m) c.capacity t d seen low)
        by_low (Ok l) = by_walk l _ refl
        by_low (Err code) = tt

    order_sound : (zs : List ℤ) → Sound ed c staged (in_order (edition_of ed) (sources parent staged c.count table m) c.capacity t d spills zs)
    unfolding in_order
    order_sound zs = by_position (position d t zs 0 false)
      where
        by_position : (p : Position) → Sound ed c staged (head_first p (λ seen. in_rows (edition_of ed) (sources parent staged c.count table m) c.capacity t d spills seen))
        by_position (At i) = tt
        by_position Seen = rows_sound true
        by_position Absent = rows_sound false

  pub effect_sound : (d : Direction) (z spills : ℤ) (zs : List ℤ) → Sound ed c staged (flip_effect (edition_of ed) (sources parent staged c.count table m) c.capacity d z spills zs)
  unfolding flip_effect
  effect_sound d z spills zs = by_target (leb 9223372036854775808 (nat_abs z)) refl
    where
      by_spills : (b : Bool) → nat_abs z < 9223372036854775808
          → Sound ed c staged (cond b (refuse 11) (in_order (edition_of ed) (sources parent staged c.count table m) c.capacity (nat_abs z) (spends d) (nat_abs spills) zs))
      by_spills true h = tt
      by_spills false h = order_sound (nat_abs z) h (spends d) (nat_abs spills) zs

      by_order : (b : Bool) → nat_abs z < 9223372036854775808
          → Sound ed c staged (cond b (cond (is_negative spills) (refuse 11) (in_order (edition_of ed) (sources parent staged c.count table m) c.capacity (nat_abs z) (spends d) (nat_abs spills) zs)) (refuse 10))
      by_order true h = by_spills (is_negative spills) h
      by_order false h = tt

      by_target : (b : Bool) → leb 9223372036854775808 (nat_abs z) ≡ b
          → Sound ed c staged (cond b (refuse 9) (cond (order_ok zs) (cond (is_negative spills) (refuse 11) (in_order (edition_of ed) (sources parent staged c.count table m) c.capacity (nat_abs z) (spends d) (nat_abs spills) zs)) (refuse 10)))
      by_target true e = tt
      by_target false e = by_order (order_ok zs) (leb-false 9223372036854775808 (nat_abs z) e)

-- ---- what an effect leaves

module _ (ed : RowEdition) (c : ListCounts) (staged : List ℕ) (head head' : List ℤ) (staged' : List ℕ) where
  accepted_by : (x : Effect) (c' : ListCounts) → Sound ed c staged x → flipping (Ok c') head' staged' ≡ done_by (edition_of ed) x c head staged → RecordsOk (record_size ed) (row_limit_of ed) c staged
      → RecordsOk (record_size ed) (row_limit_of ed) c' staged' × (length head' ≡ length head)
  unfolding put_record
  accepted_by (refuse code) c' s e ok = let q : Ok c' ≡ Err code = ap (λ (f : Flipping). f.answer) e in nope (cc)
  accepted_by (flip_head i) c' s e ok =
      let q : Ok c' ≡ Ok c = ap (λ (f : Flipping). f.answer) e in
      let p : c' ≡ c = cc in
      let u : staged' ≡ staged = ap (λ (f : Flipping). f.staged) e in
      let v : head' ≡ flipped_at (At i) head = ap (λ (f : Flipping). f.head) e in
      (rw (p, u) ok, ap length v ∙ length-set head i _)
  accepted_by (stage index count key row) c' s e ok =
      let q : Ok c' ≡ Ok (with_count count c) = ap (λ (f : Flipping). f.answer) e in
      let p : c' ≡ with_count count c = cc in
      let u : staged' ≡ write (index * record_size ed) (record_of (record_size ed) key row) staged = ap (λ (f : Flipping). f.staged) e in
      let v : head' ≡ head = ap (λ (f : Flipping). f.head) e in
      (rw (p, u, s.put_at, s.counted) (put_ok s), ap length v)
    where
      put_ok : Staging ed c staged index count key row
          → RecordsOk (record_size ed) (row_limit_of ed) (with_count (count_after (find_key key (keys (record_size ed) c.count staged)) c.count) c)
          (write (slot (find_key key (keys (record_size ed) c.count staged)) c.count * record_size ed) (record_of (record_size ed) key row) staged)
      put_ok s = records_ok_after_put (record_size ed) (row_limit_of ed) c key row staged s.keyed (omega (arith, s.short, sizes ed)) s.short (omega (arith, s.short, limit_most ed)) s.free ok

  refused_by : (x : Effect) (code : ℕ) → flipping (Err code) head' staged' ≡ done_by (edition_of ed) x c head staged → (head' ≡ head) × (staged' ≡ staged)
  refused_by (refuse code') code e = (ap (λ (f : Flipping). f.head) e, ap (λ (f : Flipping). f.staged) e)
  refused_by (flip_head i) code e = let q : Err code ≡ Ok c = ap (λ (f : Flipping). f.answer) e in nope (cc)
  refused_by (stage index count key row) code e = let q : Err code ≡ Ok (with_count count c) = ap (λ (f : Flipping). f.answer) e in nope (cc)

module _ (ed : RowEdition) (d : Direction) (parent : List ℕ) (h : HeadCounts) (z : ℤ) (c : ListCounts) (staged : List ℕ) (e : ListCounts) (table : List ℕ) (head head' : List ℤ) (staged' : List ℕ) where
  -- an accepted flip keeps what refusal 25 tests
  pub flip_keeps : length parent ≡ 32 → (c' : ListCounts) → flip_ok (edition_of ed) h c staged e table head ≡ true → flipping (Ok c') head' staged' ≡ flip_core (edition_of ed) d parent h z c staged e table head
      → flip_ok (edition_of ed) h c' staged' e table head' ≡ true
  unfolding flip_ok flip_core
  flip_keeps named c' ok q =
      let a = and_left (head_ok h head) _ ok in
      let b = and_right (head_ok h head) _ ok in
      let s = and_left (records_ok (record_size ed) (row_limit_of ed) c staged) _ b in
      let t = and_right (records_ok (record_size ed) (row_limit_of ed) c staged) _ b in
      let r = records_ok_facts (record_size ed) (row_limit_of ed) c staged s in
      let p = accepted_by ed c staged head head' staged' (flip_effect (edition_of ed) (sources parent staged c.count table e.count) c.capacity d z h.spills (take h.len head)) c' (effect_sound ed parent named staged c table e.count r.bounds.within (records_ok_facts (record_size ed) (row_limit_of ed) e table t).bounds.within d z h.spills (take h.len head)) q r in
      and_true (head_ok h head') _ (rw p.1 a) (and_true _ _ (records_ok_test (record_size ed) (row_limit_of ed) c' staged' p.0) t)

  -- a refused flip changes nothing
  pub flip_refused : (code : ℕ) → flipping (Err code) head' staged' ≡ flip_core (edition_of ed) d parent h z c staged e table head → (head' ≡ head) × (staged' ≡ staged)
  unfolding flip_core
  flip_refused code q = refused_by ed c staged head head' staged' (flip_effect (edition_of ed) (sources parent staged c.count table e.count) c.capacity d z h.spills (take h.len head)) code q

-- ---- what the test of 25 establishes

pub flip_facts : (ed : RowEdition) (h : HeadCounts) (c : ListCounts) (staged : List ℕ) (e : ListCounts) (table : List ℕ) (head : List ℤ) → flip_ok (edition_of ed) h c staged e table head ≡ true
    → FlipReady ed h c staged e table head
unfolding flip_ok
flip_facts ed h c staged e table head ok =
    let a = and_left (head_ok h head) _ ok in
    let b = and_right (head_ok h head) _ ok in
    let t = records_ok_facts (record_size ed) (row_limit_of ed) e table (and_right (records_ok (record_size ed) (row_limit_of ed) c staged) _ b) in
    record {
      few = leb-true h.len 512 (and_left _ _ a);
      long = leb-true 512 (length head) (and_right (leb h.len 512) _ a);
      bounds = (records_ok_facts (record_size ed) (row_limit_of ed) c staged (and_left (records_ok (record_size ed) (row_limit_of ed) c staged) _ b)).bounds;
      table_bounds = t.bounds;
      apart = t.apart;
    }
