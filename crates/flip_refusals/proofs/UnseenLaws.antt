-- A flip says 15 only where neither the head nor a row that was looked at shows a copy of the target.
use Prim.Native.Nat.{ℕ, zero, suc, ◌+◌, ◌*◌, ◌≤◌, ◌<◌}
use mathlib.Core.Path.{◌≡◌, refl, ap, ◌∙◌}
use mathlib.Core.Bool.{Bool, true, false, cond, ◌||◌}
use mathlib.Core.List.{List, map}
use mathlib.Core.Logic.{◌⊎◌, inl, inr}
use native.Mathlib.Omega.{arith}
use borrow.Author.Tests.{ltb-true}
use lib.Dec.{ltb, leb}
use lib.IntN.{ℤ, nat_abs}
use lib.ListN.{length, take}
use Rattle.signed.specs.Sign.{is_negative}
use Rattle.entries.specs.Order.{order_ok}
use Rattle.entries.specs.Flip.{position}
use Rattle.entries.specs.declared.Position.{Position}
use Rattle.entries.specs.declared.Position.TheVariants.{At, Seen, Absent}
use Rattle.entries.proofs.Counts.{copies}
use Rattle.entries.proofs.FlipLaws as entry
use Rattle.index_types.specs.declared.ListCounts.{ListCounts}
use Rattle.records.specs.declared.Place.{Place}
use Rattle.records.specs.declared.Place.TheVariants.{Staged, Table, Missing}
use Rattle.records.specs.Changes.{with_count}
use Rattle.records.specs.Checks.{InBounds}
use Rattle.segment_id.specs.declared.Kind.TheVariants.{Box}
use Rattle.index_types.specs.declared.HeadCounts.{HeadCounts}
use Rattle.buffer_core.specs.declared.Direction.{Direction}
use Rattle.std.specs.Prelude.{Ok, Err}
use Rattle.buffer_core.specs.Answers.{Low}
use Rattle.buffer_core.specs.declared.Look.{Look}
use Rattle.buffer_core.specs.declared.Look.TheVariants.{Take, Stop, Next, Fail}
use Rattle.buffer_core.specs.declared.Walk.{Walk}
use Rattle.buffer_core.specs.declared.Walk.TheVariants.{Hit, Ended, Failed}
use Rattle.index_types.specs.declared.RowEdition.{RowEdition}
use Rattle.buffer_core.specs.Edition.{record_size, edition_of}
use Rattle.buffer_core.specs.Spills.{Sources, sources, place_at}
use Rattle.buffer_core.specs.Flip.{first_of, last_in, search_in, look_past, look_by, look_in, walk_by, walk_from, Effect, refuse, flip_head, stage, Flipping, flipping, head_first, done_by, spends, lead_at, look_at, stage_from, stage_at, after_walk, after_search, in_rows, in_order, flip_effect, flip_core}
use Rattle.spill_rows.proofs.CheckedLaws.{nope}
use Rattle.flip_refusals.proofs.CodeLaws.{not_15, broken_code, failed_code}
use Rattle.index_types.specs.Answers.{Flipped}

-- ---- the rows that a walk looks at, from spill number n - 1 down: none shows a copy

pub data Unseen (f : ℕ → Look) : ℕ → Type 0 where
  none_left : Unseen f zero
  stopped : (n : ℕ) → f n ≡ Stop false → Unseen f (suc n)
  passed : (n : ℕ) → f n ≡ Next false → Unseen f n → Unseen f (suc n)

or_false : (a b : Bool) → (a || b) ≡ false → (a ≡ false) × (b ≡ false)
or_false true b e = nope (cc)
or_false false b e = (refl, e)

step_unseen : (f : ℕ → Look) (n : ℕ) (seen : Bool) (x : Look) → f n ≡ x → ((s : Bool) → walk_from f n s ≡ Ended false → (s ≡ false) × Unseen f n)
    → walk_by x n seen (λ s. walk_from f n s) ≡ Ended false → (seen ≡ false) × Unseen f (suc n)
step_unseen f n seen (Take i) q ih e = nope (cc)
step_unseen f n seen (Stop s) q ih e = let o : (seen || s) ≡ false = cc in let p = or_false seen s o in (p.0, stopped n (q ∙ ap Stop p.1))
step_unseen f n seen (Next s) q ih e = let r = ih (seen || s) e in let p = or_false seen s r.0 in (p.0, passed n (q ∙ ap Next p.1) r.1)
step_unseen f n seen (Fail c) q ih e = nope (cc)

walk_unseen : (f : ℕ → Look) (l : ℕ) (seen : Bool) → walk_from f l seen ≡ Ended false → (seen ≡ false) × Unseen f l
unfolding walk_from
walk_unseen f zero seen e = let o : seen ≡ false = cc in (o, none_left)
walk_unseen f (suc n) seen e = step_unseen f n seen (f n) refl (λ s q. walk_unseen f n s q) e

-- what such a row holds: its values end below the target, or none of them is the target
pub look_unseen : (zs : List ℤ) (t : ℕ) (d : Bool) → (look_in zs t d ≡ Stop false) ⊎ (look_in zs t d ≡ Next false) → (last_in zs < t) ⊎ (copies t (map nat_abs zs) ≡ 0)
unfolding look_in
look_unseen zs t d e = by_last (ltb (last_in zs) t) refl e
  where
    by_end : (b : Bool) → (look_past b true ≡ Stop false) ⊎ (look_past b true ≡ Next false) → (last_in zs < t) ⊎ (copies t (map nat_abs zs) ≡ 0)
    by_end true (inl e) = nope (cc)
    by_end true (inr e) = nope (cc)
    by_end false (inl e) = nope (cc)
    by_end false (inr e) = nope (cc)

    by_place : (p : Position) → position d t zs 0 false ≡ p → (b : Bool) → (look_by p b ≡ Stop false) ⊎ (look_by p b ≡ Next false) → (last_in zs < t) ⊎ (copies t (map nat_abs zs) ≡ 0)
    by_place (At i) q b (inl e) = nope (cc)
    by_place (At i) q b (inr e) = nope (cc)
    by_place Seen q b e = by_end b e
    by_place Absent q b e = inr (entry.flip_15 d t zs q)

    by_last : (b : Bool) → ltb (last_in zs) t ≡ b → (cond b (Stop false) (look_by (position d t zs 0 false) (ltb (first_of zs) t)) ≡ Stop false) ⊎ (cond b (Stop false) (look_by (position d t zs 0 false) (ltb (first_of zs) t)) ≡ Next false)
        → (last_in zs < t) ⊎ (copies t (map nat_abs zs) ≡ 0)
    by_last true q e = inl (ltb-true (last_in zs) t q)
    by_last false q e = by_place (position d t zs 0 false) refl (ltb (first_of zs) t) e

-- ---- 15: zs are the numbers of the head, t is the target's absolute value

pub record NotSeen (ed : RowEdition) (w : Sources) (t : ℕ) (d : Bool) (spills : ℕ) (zs : List ℤ) : Type 0 where
  pub head : copies t (map nat_abs zs) ≡ 0
  pub low : ℕ
  pub found : search_in (lead_at (edition_of ed) w) t 0 spills ≡ Ok low
  pub rows : Unseen (look_at (edition_of ed) w t d) low

-- what follows from an effect that refuses with 15
abbrev If_15 : Type 0 → Effect → Type 0
If_15 X (refuse code) = code ≡ 15 → X
If_15 X (flip_head i) = Unit
If_15 X (stage index count key row) = Unit

never : (X : Type 0) (code : ℕ) → (code ≡ 15 → ⊥) → If_15 X (refuse code)
never X code h = λ e. absurd (h e)

pick_15 : (X : Type 0) (b : Bool) (x y : Effect) → If_15 X x → If_15 X y → If_15 X (cond b x y)
pick_15 X true x y p q = p
pick_15 X false x y p q = q

module _ (ed : RowEdition) (parent staged : List ℕ) (m : ℕ) (table : List ℕ) (n : ℕ) (h : m * record_size ed ≤ length staged) (k : n * record_size ed ≤ length table) (capacity : ℕ) where
  stage_15 : (X : Type 0) (number at : ℕ) → If_15 X (stage_at (edition_of ed) (sources parent staged m table n) capacity number at)
  unfolding stage_at
  stage_15 X number at = by_place (place_at (edition_of ed) Box (sources parent staged m table n) number)
    where
      by_place : (p : Place) → If_15 X (stage_from (edition_of ed) (sources parent staged m table n) capacity number at p)
      by_place (Staged i) = tt
      by_place (Table i) = pick_15 X (ltb m capacity) (stage m (m + 1) _ _) (refuse 16) tt (never X 16 (λ e. omega arith))
      by_place Missing = never X 12 (λ e. omega arith)

  rows_15 : (t : ℕ) (d : Bool) (spills : ℕ) (seen : Bool) (zs : List ℤ) → (seen ≡ false → copies t (map nat_abs zs) ≡ 0)
      → If_15 (NotSeen ed (sources parent staged m table n) t d spills zs) (in_rows (edition_of ed) (sources parent staged m table n) capacity t d spills seen)
  unfolding in_rows
  rows_15 t d spills seen zs c = by_low (search_in (lead_at (edition_of ed) (sources parent staged m table n)) t 0 spills) refl
    where
      by_seen : (l : ℕ) → search_in (lead_at (edition_of ed) (sources parent staged m table n)) t 0 spills ≡ Ok l → (s : Bool)
          → walk_from (look_at (edition_of ed) (sources parent staged m table n) t d) l seen ≡ Ended s → If_15 (NotSeen ed (sources parent staged m table n) t d spills zs) (refuse (cond s 14 15))
      by_seen l q true e = never _ 14 (λ e. omega arith)
      by_seen l q false e = λ z. let p = walk_unseen (look_at (edition_of ed) (sources parent staged m table n) t d) l seen e in record { head = c p.0; low = l; found = q; rows = p.1 }

      by_walk : (l : ℕ) → search_in (lead_at (edition_of ed) (sources parent staged m table n)) t 0 spills ≡ Ok l → (v : Walk)
          → walk_from (look_at (edition_of ed) (sources parent staged m table n) t d) l seen ≡ v
          → If_15 (NotSeen ed (sources parent staged m table n) t d spills zs) (after_walk (edition_of ed) (sources parent staged m table n) capacity v)
      by_walk l q (Hit number at) e = stage_15 _ number at
      by_walk l q (Ended s) e = by_seen l q s e
      by_walk l q (Failed code) e = λ z. absurd (not_15 ed (failed_code ed parent staged m table n h k t d l seen 15 (e ∙ ap Failed z)))

      by_low : (low : Low) → search_in (lead_at (edition_of ed) (sources parent staged m table n)) t 0 spills ≡ low
          → If_15 (NotSeen ed (sources parent staged m table n) t d spills zs) (after_search (edition_of ed) (sources parent staged m table n) capacity t d seen low)
      by_low (Ok l) q = by_walk l q (walk_from (look_at (edition_of ed) (sources parent staged m table n) t d) l seen) refl
      by_low (Err code) q = λ z. absurd (not_15 ed (broken_code ed parent staged m table n h k t spills 15 (q ∙ ap Err z)))

  order_15 : (t : ℕ) (d : Bool) (spills : ℕ) (zs : List ℤ)
      → If_15 (NotSeen ed (sources parent staged m table n) t d spills zs) (in_order (edition_of ed) (sources parent staged m table n) capacity t d spills zs)
  unfolding in_order
  order_15 t d spills zs = by_position (position d t zs 0 false) refl
    where
      by_position : (p : Position) → position d t zs 0 false ≡ p
          → If_15 (NotSeen ed (sources parent staged m table n) t d spills zs) (head_first p (λ seen. in_rows (edition_of ed) (sources parent staged m table n) capacity t d spills seen))
      by_position (At i) e = tt
      by_position Seen e = rows_15 t d spills true zs (λ q. nope (cc))
      by_position Absent e = rows_15 t d spills false zs (λ q. entry.flip_15 d t zs e)

  effect_15 : (d : Direction) (z spills : ℤ) (zs : List ℤ)
      → If_15 (NotSeen ed (sources parent staged m table n) (nat_abs z) (spends d) (nat_abs spills) zs) (flip_effect (edition_of ed) (sources parent staged m table n) capacity d z spills zs)
  unfolding flip_effect
  effect_15 d z spills zs =
      let X = NotSeen ed (sources parent staged m table n) (nat_abs z) (spends d) (nat_abs spills) zs in
      pick_15 X (leb 9223372036854775808 (nat_abs z)) (refuse 9) _ (never X 9 (λ e. omega arith))
      (pick_15 X (order_ok zs) _ (refuse 10)
      (pick_15 X (is_negative spills) (refuse 11) _ (never X 11 (λ e. omega arith)) (order_15 (nat_abs z) (spends d) (nat_abs spills) zs))
      (never X 10 (λ e. omega arith)))

refused_15 : (ed : RowEdition) (X : Type 0) (x : Effect) (c : ListCounts) (head head' : List ℤ) (staged staged' : List ℕ) → If_15 X x
    → flipping (Err 15) head' staged' ≡ done_by (edition_of ed) x c head staged → X
refused_15 ed X (refuse code) c head head' staged staged' p e =
    let q : ◌≡◌ {A = Flipped} (Err 15) (Err code) = ap (λ (f : Flipping). f.answer) e in let d : code ≡ 15 = cc in p d
refused_15 ed X (flip_head i) c head head' staged staged' p e = let q : ◌≡◌ {A = Flipped} (Err 15) (Ok c) = ap (λ (f : Flipping). f.answer) e in nope (cc)
refused_15 ed X (stage index count key row) c head head' staged staged' p e =
    let q : ◌≡◌ {A = Flipped} (Err 15) (Ok (with_count count c)) = ap (λ (f : Flipping). f.answer) e in nope (cc)

pub flip_15 : (ed : RowEdition) (d : Direction) (parent : List ℕ) (h : HeadCounts) (z : ℤ) (c : ListCounts) (staged : List ℕ) (e : ListCounts) (table : List ℕ) (head head' : List ℤ) (staged' : List ℕ)
    → InBounds (record_size ed) c staged → InBounds (record_size ed) e table → flipping (Err 15) head' staged' ≡ flip_core (edition_of ed) d parent h z c staged e table head
    → NotSeen ed (sources parent staged c.count table e.count) (nat_abs z) (spends d) (nat_abs h.spills) (take h.len head)
unfolding flip_core
flip_15 ed d parent h z c staged e table head head' staged' b a q =
    refused_15 ed _ (flip_effect (edition_of ed) (sources parent staged c.count table e.count) c.capacity d z h.spills (take h.len head)) c head head' staged staged'
    (effect_15 ed parent staged c.count table e.count b.within a.within c.capacity d z h.spills (take h.len head)) q
