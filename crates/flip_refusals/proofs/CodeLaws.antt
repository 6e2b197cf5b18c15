-- The refusals of a spend or an unspend are 1 to 6, 34, 8 and 9 to 16 (document 01, "Where a call is turned back"), and 35 in edition 2 (document 02, U7).
use Prim.Native.Nat.{ℕ, zero, suc, ◌+◌, ◌*◌, ◌≤◌}
use mathlib.Core.Path.{◌≡◌, refl, sym, ap, subst}
use mathlib.Core.Bool.{Bool, true, false, cond, not, ◌&&◌, ◌||◌}
use mathlib.Core.List.{List}
use mathlib.Core.Logic.{◌⊎◌, inl, inr}
use native.Mathlib.Omega.{arith}
use lib.Dec.{eqb, ltb, leb}
use lib.IntN.{ℤ, pos, nat_abs}
use lib.ListN.{length, take}
use Rattle.signed.specs.Sign.{is_negative}
use Rattle.entries.specs.Order.{order_ok}
use Rattle.entries.specs.Flip.{position}
use Rattle.entries.specs.declared.Position.{Position}
use Rattle.entries.specs.declared.Position.TheVariants.{At, Seen, Absent}
use Rattle.vlq_core.specs.Answers.{Got}
use Rattle.vlq_core.specs.Reading.{read_at}
use Rattle.vlq_core.proofs.ReadLaws.{read_refusals}
use Rattle.std.specs.Prelude.{Option, Some, None, Ok, Err}
use Rattle.index_types.specs.declared.ListCounts.{ListCounts}
use Rattle.records.specs.declared.Place.{Place}
use Rattle.records.specs.declared.Place.TheVariants.{Staged, Table, Missing}
use Rattle.records.specs.Records.{keys}
use Rattle.records.specs.Find.{find_key, row_at, place_of}
use Rattle.records.specs.Changes.{with_count}
use Rattle.records.specs.Checks.{InBounds}
use Rattle.records.proofs.TurnLaws.{found_in}
use Rattle.segment_id.specs.Key.{row_key}
use Rattle.segment_id.specs.declared.Kind.TheVariants.{Box}
use Rattle.segment_core.specs.Reading.{Seg, seg, no_seg, segment_at, ended}
use Rattle.segment_core.proofs.CodecLaws.{Few, segment_refusals}
use Rattle.index_types.specs.declared.HeadCounts.{HeadCounts}
use Rattle.buffer_core.specs.declared.Direction.{Direction}
use Rattle.buffer_core.specs.Answers.{Lead}
use Rattle.buffer_core.specs.Answers.{Low}
use Rattle.buffer_core.specs.declared.Look.{Look}
use Rattle.buffer_core.specs.declared.Look.TheVariants.{Take, Stop, Next, Fail}
use Rattle.buffer_core.specs.declared.Walk.{Walk}
use Rattle.buffer_core.specs.declared.Walk.TheVariants.{Hit, Ended, Failed}
use Rattle.index_types.specs.declared.RowEdition.{RowEdition}
use Rattle.index_types.specs.declared.RowEdition.TheVariants.{One, Two}
use Rattle.buffer_core.specs.Edition.{RowRead, good, bad, numbers_of, row_limit_of, record_size, number_at, body_at, says, named, body_then, row_under, edition_of}
use Rattle.buffer_core.specs.Spills.{sources, place_at, read_placed, spill_read}
use Rattle.buffer_core.specs.Flip.{check_row, first_of, last_in, lead_of, half, middle, search_by, search_in, look_past, look_by, look_in, look_of, walk_by, walk_from, Effect, refuse, flip_head, stage, Flipping, flipping, head_first, done_by, spends, row_checked, lead_at, look_at, row_flipped, stage_from, stage_at, after_walk, after_search, in_rows, in_order, flip_effect, flip_core}
use Rattle.buffer_core.proofs.SizeLaws.{row_most}
use Rattle.buffer_core.proofs.UnderLaws.{row_within, named_true}
use Rattle.spill_rows.proofs.CheckedLaws.{nope}

-- a row of edition 2 may be that of another spill
abbrev pub OtherSpill : RowEdition → ℕ → Type 0
OtherSpill One r = ⊥
OtherSpill Two r = r ≡ 35

-- the refusals of reading a row, 1 to 6, 34, 8 and 35, or those from a to b
abbrev pub Code : RowEdition → (a b : ℕ) → ℕ → Type 0
Code ed a b r = Few 6 r ⊎ ((r ≡ 8) ⊎ (OtherSpill ed r ⊎ ((a ≤ r) × (r ≤ b))))

-- of a row that is read, and of a flip
abbrev pub RowCode : RowEdition → ℕ → Type 0
RowCode ed r = Code ed 12 13 r

abbrev pub FlipCode : RowEdition → ℕ → Type 0
FlipCode ed r = Code ed 9 16 r

own : (ed : RowEdition) (a b r : ℕ) → a ≤ r → r ≤ b → Code ed a b r
own ed a b r h k = inr (inr (inr (h, k)))

wider : (ed : RowEdition) (r : ℕ) → RowCode ed r → FlipCode ed r
wider ed r (inl p) = inl p
wider ed r (inr (inl e)) = inr (inl e)
wider ed r (inr (inr (inl o))) = inr (inr (inl o))
wider ed r (inr (inr (inr p))) = own ed 9 16 r (omega (arith, p.0)) (omega (arith, p.1))

not_other : (ed : RowEdition) → OtherSpill ed 15 → ⊥
not_other One o = o
not_other Two e = omega arith

pub not_15 : (ed : RowEdition) → RowCode ed 15 → ⊥
not_15 ed (inl (inl p)) = omega (arith, p.1)
not_15 ed (inl (inr e)) = omega arith
not_15 ed (inr (inl e)) = omega arith
not_15 ed (inr (inr (inl o))) = not_other ed o
not_15 ed (inr (inr (inr p))) = omega (arith, p.1)

-- ---- a row

abbrev RowCoded : RowEdition → RowRead → Type 0
RowCoded ed (good zs) = Unit
RowCoded ed (bad code) = RowCode ed code

module _ (row : List ℕ) where
  body_coded : (ed : RowEdition) (at : ℕ) → RowCoded ed (numbers_of Box (ended true (length row) (segment_at row at)))
  body_coded ed at = by_segment (segment_at row at) refl
    where
      by_end : (ts bs : List ℤ) (b t : ℤ) (n : ℕ) (x : Bool) → RowCoded ed (numbers_of Box (cond x (seg ts bs b t n) (no_seg 8)))
      by_end ts bs b t n true = tt
      by_end ts bs b t n false = inr (inl refl)

      by_segment : (g : Seg) → segment_at row at ≡ g → RowCoded ed (numbers_of Box (ended true (length row) g))
      by_segment (seg ts bs b t n) e = by_end ts bs b t n (not true || eqb n (length row))
      by_segment (no_seg r) e = inl (segment_refusals row at r e)

  named_coded : (x : Bool) (g : Seg) → RowCoded Two (numbers_of Box g) → RowCoded Two (numbers_of Box (named x g))
  named_coded true (seg ts bs b t n) c = tt
  named_coded false (seg ts bs b t n) c = inr (inr (inl refl))
  named_coded x (no_seg r) c = c

  under_coded : (ed : RowEdition) (parent : List ℕ) (n : ℤ)
      → RowCoded ed (numbers_of Box (body_then (λ c at. named (says ed Box parent n row c) (ended true (length row) (segment_at row at))) (body_at ed row)))
  under_coded One parent n = subst (λ (g : Seg). RowCoded One (numbers_of Box g)) (sym (named_true (ended true (length row) (segment_at row 0)))) (body_coded One 0)
  under_coded Two parent n = by_header (read_at 32 row number_at) refl
    where
      number_code : (r : ℕ) → (r ≡ 1) ⊎ ((r ≡ 2) ⊎ (r ≡ 34)) → RowCode Two r
      number_code r (inl e) = inl (inl (omega arith, omega arith))
      number_code r (inr (inl e)) = inl (inl (omega arith, omega arith))
      number_code r (inr (inr e)) = inl (inr e)

      by_header : (g : Got) → read_at 32 row number_at ≡ g
          → RowCoded Two (numbers_of Box (body_then (λ c at. named (says Two Box parent n row c) (ended true (length row) (segment_at row at))) g))
      by_header (Ok (c, at)) e = named_coded (says Two Box parent n row c) (ended true (length row) (segment_at row at)) (body_coded Two at)
      by_header (Err r) e = number_code r (read_refusals 32 row number_at r (sym e))

  row_codes : (ed : RowEdition) (parent : List ℕ) (n : ℤ) → length row ≤ row_limit_of ed → RowCoded ed (numbers_of Box (row_under ed Box parent n row))
  row_codes ed parent n h = subst (λ (g : Seg). RowCoded ed (numbers_of Box g)) (sym (row_within ed Box parent n row h)) (under_coded ed parent n)

checked_coded : (ed : RowEdition) (x : RowRead) → RowCoded ed x → RowCoded ed (check_row x)
checked_coded ed (bad code) c = c
checked_coded ed (good zs) c = by_check (eqb (length zs) 512 && order_ok zs)
  where
    by_check : (b : Bool) → RowCoded ed (cond b (good zs) (bad 13))
    by_check true = tt
    by_check false = own ed 12 13 13 (omega arith) (omega arith)

-- ---- the halving and the walk

abbrev LeadCoded : RowEdition → Lead → Type 0
LeadCoded ed (Ok x) = Unit
LeadCoded ed (Err code) = RowCode ed code

abbrev LowCoded : RowEdition → Low → Type 0
LowCoded ed (Ok low) = Unit
LowCoded ed (Err code) = RowCode ed code

abbrev LookCoded : RowEdition → Look → Type 0
LookCoded ed (Take i) = Unit
LookCoded ed (Stop s) = Unit
LookCoded ed (Next s) = Unit
LookCoded ed (Fail code) = RowCode ed code

abbrev WalkCoded : RowEdition → Walk → Type 0
WalkCoded ed (Hit n i) = Unit
WalkCoded ed (Ended s) = Unit
WalkCoded ed (Failed code) = RowCode ed code

lead_coded : (ed : RowEdition) (x : RowRead) → RowCoded ed x → LeadCoded ed (lead_of x)
lead_coded ed (good zs) c = tt
lead_coded ed (bad code) c = c

look_coded : (ed : RowEdition) (x : RowRead) (t : ℕ) (d : Bool) → RowCoded ed x → LookCoded ed (look_of x t d)
unfolding look_in
look_coded ed (bad code) t d c = c
look_coded ed (good zs) t d c = by_last (ltb (last_in zs) t)
  where
    by_end : (b s : Bool) → LookCoded ed (look_past b s)
    by_end true s = tt
    by_end false s = tt

    by_place : (p : Position) (b : Bool) → LookCoded ed (look_by p b)
    by_place (At i) b = tt
    by_place Seen b = by_end b true
    by_place Absent b = by_end b false

    by_last : (b : Bool) → LookCoded ed (cond b (Stop false) (look_by (position d t zs 0 false) (ltb (first_of zs) t)))
    by_last true = tt
    by_last false = by_place (position d t zs 0 false) (ltb (first_of zs) t)

pick_coded : (ed : RowEdition) (b : Bool) (x y : Low) → LowCoded ed x → LowCoded ed y → LowCoded ed (cond b x y)
pick_coded ed true x y p q = p
pick_coded ed false x y p q = q

half_coded : (ed : RowEdition) (r : Lead) (t : ℕ) (x y : Low) → LeadCoded ed r → LowCoded ed x → LowCoded ed y → LowCoded ed (half r t x y)
half_coded ed (Ok a) t x y c p q = pick_coded ed (leb a t) x y p q
half_coded ed (Err code) t x y c p q = c

search_coded : (ed : RowEdition) (f : ℕ → Lead) → ((n : ℕ) → LeadCoded ed (f n)) → (t k low high : ℕ) → LowCoded ed (search_by f t k low high)
unfolding search_by
search_coded ed f c t zero low high = tt
search_coded ed f c t (suc k) low high =
    pick_coded ed (ltb low high) _ (Ok low)
    (half_coded ed (f (middle low high)) t _ _ (c (middle low high)) (search_coded ed f c t k (middle low high + 1) high) (search_coded ed f c t k low (middle low high))) tt

step_coded : (ed : RowEdition) (x : Look) (n : ℕ) (seen : Bool) (rest : Bool → Walk) → LookCoded ed x → ((s : Bool) → WalkCoded ed (rest s)) → WalkCoded ed (walk_by x n seen rest)
step_coded ed (Take i) n seen rest p c = tt
step_coded ed (Stop s) n seen rest p c = tt
step_coded ed (Next s) n seen rest p c = c (seen || s)
step_coded ed (Fail code) n seen rest p c = p

walk_coded : (ed : RowEdition) (f : ℕ → Look) → ((n : ℕ) → LookCoded ed (f n)) → (n : ℕ) (seen : Bool) → WalkCoded ed (walk_from f n seen)
unfolding walk_from
walk_coded ed f c zero seen = tt
walk_coded ed f c (suc n) seen = step_coded ed (f n) n seen (λ s. walk_from f n s) (c n) (λ s. walk_coded ed f c n s)

-- ---- the whole

abbrev Coded : RowEdition → Effect → Type 0
Coded ed (refuse code) = FlipCode ed code
Coded ed (flip_head i) = Unit
Coded ed (stage index count key row) = Unit

module _ (ed : RowEdition) (parent staged : List ℕ) (m : ℕ) (table : List ℕ) (n : ℕ) (h : m * record_size ed ≤ length staged) (k : n * record_size ed ≤ length table) where
  spill_coded : (number : ℕ) → RowCoded ed (spill_read (edition_of ed) Box (sources parent staged m table n) number)
  unfolding spill_read place_at
  spill_coded number = by_found (find_key (row_key parent Box (pos number)) (keys (record_size ed) m staged)) refl (find_key (row_key parent Box (pos number)) (keys (record_size ed) n table)) refl
    where
      by_found : (f : Option ℕ) → f ≡ find_key (row_key parent Box (pos number)) (keys (record_size ed) m staged) → (g : Option ℕ) → g ≡ find_key (row_key parent Box (pos number)) (keys (record_size ed) n table)
          → RowCoded ed (read_placed (edition_of ed) Box (sources parent staged m table n) number (place_of f g))
      by_found (Some i) e g d = row_codes (row_at (record_size ed) i staged) ed parent (pos number) (row_most ed i m staged _ (found_in _ (record_size ed) m staged i (Some i) e refl) h refl)
      by_found None e (Some i) d = row_codes (row_at (record_size ed) i table) ed parent (pos number) (row_most ed i n table _ (found_in _ (record_size ed) n table i (Some i) d refl) k refl)
      by_found None e None d = own ed 12 13 12 (omega arith) (omega arith)

  row_coded : (number : ℕ) → RowCoded ed (row_checked (edition_of ed) (sources parent staged m table n) number)
  row_coded number = checked_coded ed (spill_read (edition_of ed) Box (sources parent staged m table n) number) (spill_coded number)

  low_coded : (t spills : ℕ) → LowCoded ed (search_in (lead_at (edition_of ed) (sources parent staged m table n)) t 0 spills)
  low_coded t spills =
      search_coded ed (lead_at (edition_of ed) (sources parent staged m table n)) (λ i. lead_coded ed (row_checked (edition_of ed) (sources parent staged m table n) i) (row_coded i)) t _ 0 spills

  walked_coded : (t : ℕ) (d : Bool) (l : ℕ) (seen : Bool) → WalkCoded ed (walk_from (look_at (edition_of ed) (sources parent staged m table n) t d) l seen)
  walked_coded t d l seen =
      walk_coded ed (look_at (edition_of ed) (sources parent staged m table n) t d) (λ i. look_coded ed (row_checked (edition_of ed) (sources parent staged m table n) i) t d (row_coded i)) l seen

  -- the refusal of a row that the halving or the walk reads
  pub broken_code : (t spills code : ℕ) → search_in (lead_at (edition_of ed) (sources parent staged m table n)) t 0 spills ≡ Err code → RowCode ed code
  broken_code t spills code e = subst (LowCoded ed) e (low_coded t spills)

  pub failed_code : (t : ℕ) (d : Bool) (l : ℕ) (seen : Bool) (code : ℕ) → walk_from (look_at (edition_of ed) (sources parent staged m table n) t d) l seen ≡ Failed code → RowCode ed code
  failed_code t d l seen code e = subst (WalkCoded ed) e (walked_coded t d l seen)

  module _ (capacity : ℕ) where
    stage_coded : (number at : ℕ) → Coded ed (stage_at (edition_of ed) (sources parent staged m table n) capacity number at)
    unfolding stage_at
    stage_coded number at = by_place (place_at (edition_of ed) Box (sources parent staged m table n) number)
      where
        by_room : (b : Bool) (i : ℕ) (key row : List ℕ) → Coded ed (cond b (stage i (i + 1) key row) (refuse 16))
        by_room true i key row = tt
        by_room false i key row = own ed 9 16 16 (omega arith) (omega arith)

        by_place : (p : Place) → Coded ed (stage_from (edition_of ed) (sources parent staged m table n) capacity number at p)
        by_place (Staged i) = tt
        by_place (Table i) = by_room (ltb m capacity) m (row_key parent Box (pos number)) (row_flipped (edition_of ed) (sources parent staged m table n) number (row_at (record_size ed) i table) at)
        by_place Missing = own ed 9 16 12 (omega arith) (omega arith)

    rows_coded : (t : ℕ) (d : Bool) (spills : ℕ) (seen : Bool) → Coded ed (in_rows (edition_of ed) (sources parent staged m table n) capacity t d spills seen)
    unfolding in_rows
    rows_coded t d spills seen = by_low (search_in (lead_at (edition_of ed) (sources parent staged m table n)) t 0 spills) (low_coded t spills)
      where
        by_seen : (s : Bool) → FlipCode ed (cond s 14 15)
        by_seen true = own ed 9 16 14 (omega arith) (omega arith)
        by_seen false = own ed 9 16 15 (omega arith) (omega arith)

        by_walk : (v : Walk) → WalkCoded ed v → Coded ed (after_walk (edition_of ed) (sources parent staged m table n) capacity v)
        by_walk (Hit number at) p = stage_coded number at
        by_walk (Ended s) p = by_seen s
        by_walk (Failed code) p = wider ed code p

        by_low : (low : Low) → LowCoded ed low → Coded ed (after_search (edition_of ed) (sources parent staged m table n) capacity t d seen low)
        by_low (Ok l) p = by_walk (walk_from (look_at (edition_of ed) (sources parent staged m table n) t d) l seen) (walked_coded t d l seen)
        by_low (Err code) p = wider ed code p

    order_coded : (t : ℕ) (d : Bool) (spills : ℕ) (zs : List ℤ) → Coded ed (in_order (edition_of ed) (sources parent staged m table n) capacity t d spills zs)
    unfolding in_order
    order_coded t d spills zs = by_position (position d t zs 0 false)
      where
        by_position : (p : Position) → Coded ed (head_first p (λ seen. in_rows (edition_of ed) (sources parent staged m table n) capacity t d spills seen))
        by_position (At i) = tt
        by_position Seen = rows_coded t d spills true
        by_position Absent = rows_coded t d spills false

    pick_effect : (b : Bool) (x y : Effect) → Coded ed x → Coded ed y → Coded ed (cond b x y)
    pick_effect true x y p q = p
    pick_effect false x y p q = q

    effect_coded : (d : Direction) (z spills : ℤ) (zs : List ℤ) → Coded ed (flip_effect (edition_of ed) (sources parent staged m table n) capacity d z spills zs)
    unfolding flip_effect
    effect_coded d z spills zs =
        pick_effect (leb 9223372036854775808 (nat_abs z)) (refuse 9) _ (own ed 9 16 9 (omega arith) (omega arith))
        (pick_effect (order_ok zs) _ (refuse 10)
        (pick_effect (is_negative spills) (refuse 11) _ (own ed 9 16 11 (omega arith) (omega arith)) (order_coded (nat_abs z) (spends d) (nat_abs spills) zs))
        (own ed 9 16 10 (omega arith) (omega arith)))

refused_code : (ed : RowEdition) (x : Effect) (c : ListCounts) (head head' : List ℤ) (staged staged' : List ℕ) (code : ℕ) → Coded ed x
    → flipping (Err code) head' staged' ≡ done_by (edition_of ed) x c head staged → FlipCode ed code
refused_code ed (refuse code') c head head' staged staged' code p e =
    let q : Err code ≡ Err code' = ap (λ (f : Flipping). f.answer) e in let d : code' ≡ code = cc in subst (FlipCode ed) d p
refused_code ed (flip_head i) c head head' staged staged' code p e = let q : Err code ≡ Ok c = ap (λ (f : Flipping). f.answer) e in nope (cc)
refused_code ed (stage index count key row) c head head' staged staged' code p e =
    let q : Err code ≡ Ok (with_count count c) = ap (λ (f : Flipping). f.answer) e in nope (cc)

-- a refused flip says why
pub flip_codes : (ed : RowEdition) (d : Direction) (parent : List ℕ) (h : HeadCounts) (z : ℤ) (c : ListCounts) (staged : List ℕ) (e : ListCounts) (table : List ℕ) (head head' : List ℤ) (staged' : List ℕ) (code : ℕ)
    → InBounds (record_size ed) c staged → InBounds (record_size ed) e table → flipping (Err code) head' staged' ≡ flip_core (edition_of ed) d parent h z c staged e table head → FlipCode ed code
unfolding flip_core
flip_codes ed d parent h z c staged e table head head' staged' code b a q =
    refused_code ed (flip_effect (edition_of ed) (sources parent staged c.count table e.count) c.capacity d z h.spills (take h.len head)) c head head' staged staged' code
    (effect_coded ed parent staged c.count table e.count b.within a.within c.capacity d z h.spills (take h.len head)) q
