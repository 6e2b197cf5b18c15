-- Two record lists with other capacities that hold the same: what is found and read agrees, and a call that stays within the smaller figure does the same to both.
use mathlib.Core.Path.{◌≡◌, refl, sym, ◌∙◌, ap, subst, fun_ext}
use mathlib.Core.Logic.{◌≢◌}
use mathlib.Core.Bool.{Bool, true, false, cond}
use mathlib.Core.List.{List, map}
use Prim.Native.Nat.{ℕ, ◌+◌, ◌*◌, ◌-◌, ◌≤◌, ◌<◌}
use native.Mathlib.Omega.{arith}
use native.Mathlib.Nat.{mul-le-mul_right}
use lib.Dec.{leb, ltb}
use lib.IntN.{ℤ, pos, nat_abs}
use lib.ListN.{length}
use borrow.Author.Tests.{lt-ltb}
use Rattle.std.specs.Prelude.{Option, Some, None, Ok, Err}
use Rattle.entries.specs.declared.Position.{Position}
use Rattle.entries.specs.declared.Position.TheVariants.{At, Seen, Absent}
use Rattle.entries.specs.Flip.{position}
use Rattle.entries.specs.Order.{order_ok}
use Rattle.signed.specs.Sign.{is_negative}
use Rattle.records.specs.declared.Place.{Place}
use Rattle.records.specs.declared.Place.TheVariants.{Staged, Table, Missing}
use Rattle.index_types.specs.declared.ListCounts.{ListCounts}
use Rattle.records.specs.Records.{records, keys, key_of, stored_row}
use Rattle.records.specs.Find.{find_key, row_at, place_of, distinct}
use Rattle.records.specs.Changes.{slot}
use Rattle.records.specs.Checks.{records_ok, lengths_ok}
use Rattle.records.proofs.CheckLaws.{records_ok_facts, records_ok_test, bounds_of}
use Rattle.records.proofs.TurnLaws.{found_in}
use Rattle.segment_id.specs.declared.Kind.{Kind}
use Rattle.segment_id.specs.declared.Kind.TheVariants.{Box}
use Rattle.buffer_core.specs.declared.Direction.{Direction}
use Rattle.buffer_core.specs.declared.Walk.{Walk}
use Rattle.buffer_core.specs.declared.Walk.TheVariants.{Hit, Ended, Failed}
use Rattle.buffer_core.specs.Answers.{Low}
use Rattle.buffer_core.specs.Edition.{Edition, RowRead}
use Rattle.buffer_core.specs.Spills.{Sources, sources, key_at, place_at, read_placed, spill_read}
use Rattle.buffer_core.specs.Flip.{Effect, refuse, flip_head, stage, row_checked, check_row, lead_of, look_of, lead_at, look_at, row_flipped, stage_from, stage_at, after_walk, after_search, search_in, walk_from, in_rows, in_order, flip_effect, head_first, spends}
use Rattle.trial_laws.proofs.PrefixLaws.{Agree, records_agree, record_agree}

-- ---- one record list under two capacities
pub record Near (size limit a : ℕ) (c d : ListCounts) (l m : List ℕ) : Type 0 where
  pub count : c.count ≡ d.count
  pub few : c.count ≤ a
  pub in_c : a ≤ c.capacity
  pub in_d : a ≤ d.capacity
  pub agree : Agree (a * size) l m
  pub room_c : c.capacity * size ≤ length l
  pub room_d : d.capacity * size ≤ length m

module _ (size limit a : ℕ) (c d : ListCounts) (l m : List ℕ) (N : Near size limit a c d l m) where
  inside : c.count * size ≤ a * size
  inside = mul-le-mul_right size N.few

  pub same_records : records size c.count l ≡ records size d.count m
  same_records = records_agree size c.count (a * size) l m N.agree inside ∙ ap (λ n. records size n m) N.count

  pub same_keys : keys size c.count l ≡ keys size d.count m
  same_keys = ap (map key_of) same_records

  pub same_ok : records_ok size limit c l ≡ true → records_ok size limit d m ≡ true
  same_ok h =
      let f = records_ok_facts size limit c l h in
      records_ok_test size limit d m (record {
        bounds = bounds_of size d m (omega (arith, N.count, N.few, N.in_d)) N.room_d;
        lengths = subst (λ (rs : List (List ℕ)). lengths_ok limit rs ≡ true) same_records f.lengths;
        apart = subst (λ (ks : List (List ℕ)). distinct ks ≡ true) same_keys f.apart;
      })

  pub same_row : (i : ℕ) → i < c.count → row_at size i l ≡ row_at size i m
  same_row i h = ap stored_row (record_agree size c.count (a * size) i l m N.agree inside h)

-- ---- rows read from the two
module _ (E : Edition) (a : ℕ) (c d : ListCounts) (l m : List ℕ) (N : Near E.size E.limit a c d l m) (parent table : List ℕ) (n : ℕ) where
  abbrev w : Sources
  w = sources parent l c.count table n

  abbrev v : Sources
  v = sources parent m d.count table n

  pub same_place : (kind : Kind) (s : ℕ) → place_at E kind w s ≡ place_at E kind v s
  unfolding place_at
  same_place kind s = ap (λ (ks : List (List ℕ)). place_of (find_key (key_at E kind w s) ks) (find_key (key_at E kind w s) (keys E.size n table))) (same_keys E.size E.limit a c d l m N)

  -- a place among the staged spills is one of them
  staged_below : (kind : Kind) (s : ℕ) (i : ℕ) → place_at E kind w s ≡ Staged i → i < c.count
  unfolding place_at
  staged_below kind s i e = by (find_key (key_at E kind w s) (keys E.size c.count l)) refl (find_key (key_at E kind w s) (keys E.size n table)) e
    where
      by : (f : Option ℕ) → f ≡ find_key (key_at E kind w s) (keys E.size c.count l) → (g : Option ℕ) → place_of f g ≡ Staged i → i < c.count
      by (Some j) q g p = let z : j ≡ i = cc in subst (λ (x : ℕ). x < c.count) z (found_in (key_at E kind w s) E.size c.count l j (Some j) q refl)
      by None q (Some j) p = absurd (let z : ◌≡◌ {A = ℕ} 0 1 = cc in omega arith)
      by None q None p = absurd (let z : ◌≡◌ {A = ℕ} 0 1 = cc in omega arith)

  read_by : (kind : Kind) (s : ℕ) (P : Place) → place_at E kind w s ≡ P → read_placed E kind w s P ≡ read_placed E kind v s P
  read_by kind s (Staged i) e = ap (E.decode kind parent (pos s)) (same_row E.size E.limit a c d l m N i (staged_below kind s i e))
  read_by kind s (Table i) e = refl
  read_by kind s Missing e = refl

  pub same_read : (kind : Kind) (s : ℕ) → spill_read E kind w s ≡ spill_read E kind v s
  unfolding spill_read
  same_read kind s = read_by kind s (place_at E kind w s) refl ∙ ap (read_placed E kind v s) (same_place kind s)

  same_checked : ◌≡◌ {A = ℕ → RowRead} (row_checked E w) (row_checked E v)
  same_checked = fun_ext (λ s. ap check_row (same_read Box s))

  -- ---- the effect of a spend: the same on both, unless it is 16 or stages more than a rows
  abbrev pub Within : Effect → Type 0
  Within (refuse k) = k ≢ 16
  Within (flip_head i) = Unit {0}
  Within (stage slot k key row) = k ≤ a

  by_room : (s at i : ℕ) (u : Bool) → ltb c.count c.capacity ≡ u
      → Within (cond u (stage c.count (c.count + 1) (key_at E Box w s) (row_flipped E w s (row_at E.size i table) at)) (refuse 16))
      → cond u (stage c.count (c.count + 1) (key_at E Box w s) (row_flipped E w s (row_at E.size i table) at)) (refuse 16)
      ≡ cond (ltb d.count d.capacity) (stage d.count (d.count + 1) (key_at E Box v s) (row_flipped E v s (row_at E.size i table) at)) (refuse 16)
  unfolding row_flipped
  by_room s at i true e h =
      let row = row_flipped E w s (row_at E.size i table) at in
      (λ j. stage (N.count j) (N.count j + 1) (key_at E Box w s) row)
      ∙ ap (λ u. cond u (stage d.count (d.count + 1) (key_at E Box v s) row) (refuse 16)) (sym (lt-ltb d.count d.capacity (omega (arith, h, N.count, N.in_d))))
  by_room s at i false e h = absurd (h refl)

  stage_by : (s at : ℕ) (P : Place) → place_at E Box w s ≡ P → Within (stage_from E w c.capacity s at P) → stage_from E w c.capacity s at P ≡ stage_from E v d.capacity s at P
  unfolding row_flipped
  stage_by s at (Staged i) e h = λ j. stage i (N.count j) (key_at E Box w s) (row_flipped E w s (same_row E.size E.limit a c d l m N i (staged_below Box s i e) j) at)
  stage_by s at (Table i) e h = by_room s at i (ltb c.count c.capacity) refl h
  stage_by s at Missing e h = refl

  stage_near : (s at : ℕ) → Within (stage_at E w c.capacity s at) → stage_at E w c.capacity s at ≡ stage_at E v d.capacity s at
  unfolding stage_at
  stage_near s at h = stage_by s at (place_at E Box w s) refl h ∙ ap (stage_from E v d.capacity s at) (same_place Box s)

  walk_near : (W : Walk) → Within (after_walk E w c.capacity W) → after_walk E w c.capacity W ≡ after_walk E v d.capacity W
  walk_near (Hit s at) h = stage_near s at h
  walk_near (Ended seen) h = refl
  walk_near (Failed code) h = refl

  search_near : (t : ℕ) (sp seen : Bool) (L : Low) → Within (after_search E w c.capacity t sp seen L) → after_search E w c.capacity t sp seen L ≡ after_search E v d.capacity t sp seen L
  search_near t sp seen (Ok low) h =
      walk_near (walk_from (look_at E w t sp) low seen) h
      ∙ ap (λ (f : ℕ → RowRead). after_walk E v d.capacity (walk_from (λ n. look_of (f n) t sp) low seen)) same_checked
  search_near t sp seen (Err code) h = refl

  rows_near : (t : ℕ) (sp : Bool) (k : ℕ) (seen : Bool) → Within (in_rows E w c.capacity t sp k seen) → in_rows E w c.capacity t sp k seen ≡ in_rows E v d.capacity t sp k seen
  unfolding in_rows
  rows_near t sp k seen h =
      search_near t sp seen (search_in (lead_at E w) t 0 k) h
      ∙ ap (λ (f : ℕ → RowRead). after_search E v d.capacity t sp seen (search_in (λ n. lead_of (f n)) t 0 k)) same_checked

  head_near : (t : ℕ) (sp : Bool) (k : ℕ) (P : Position) → Within (head_first P (λ seen. in_rows E w c.capacity t sp k seen))
      → head_first P (λ seen. in_rows E w c.capacity t sp k seen) ≡ head_first P (λ seen. in_rows E v d.capacity t sp k seen)
  head_near t sp k (At i) h = refl
  head_near t sp k Seen h = rows_near t sp k true h
  head_near t sp k Absent h = rows_near t sp k false h

  tests_near : (dir : Direction) (z : ℤ) (k : ℕ) (zs : List ℤ) (p q r : Bool)
      → Within (cond p (refuse 9) (cond q (cond r (refuse 11) (in_order E w c.capacity (nat_abs z) (spends dir) k zs)) (refuse 10)))
      → cond p (refuse 9) (cond q (cond r (refuse 11) (in_order E w c.capacity (nat_abs z) (spends dir) k zs)) (refuse 10))
      ≡ cond p (refuse 9) (cond q (cond r (refuse 11) (in_order E v d.capacity (nat_abs z) (spends dir) k zs)) (refuse 10))
  unfolding in_order
  tests_near dir z k zs true q r h = refl
  tests_near dir z k zs false true true h = refl
  tests_near dir z k zs false true false h = head_near (nat_abs z) (spends dir) k (position (spends dir) (nat_abs z) zs 0 false) h
  tests_near dir z k zs false false r h = refl

  pub effect_near : (dir : Direction) (z spills : ℤ) (zs : List ℤ) → Within (flip_effect E w c.capacity dir z spills zs)
      → flip_effect E w c.capacity dir z spills zs ≡ flip_effect E v d.capacity dir z spills zs
  unfolding flip_effect
  effect_near dir z spills zs h = tests_near dir z (nat_abs spills) zs (leb 9223372036854775808 (nat_abs z)) (order_ok zs) (is_negative spills) h
