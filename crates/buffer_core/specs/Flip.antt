-- Spend and unspend (document 01): "The target is the absolute value. The head comes first: its first entry of the wanted sign is negated. Else find the
-- newest spill whose first absolute value is at most the target; the halving calls itself on the half that remains, its middle low + (high - low) / 2,
-- and checks each row it reads. It starts with low 0 and high the spill count; its last low less 1 is the answer. Then walk from that spill to older ones.
-- A row whose last absolute value is below the target ends the walk unsearched. Any other row is searched for its first entry of the wanted sign; without
-- one, a row whose first absolute value is below the target ends the walk."
-- Refusals: "9 target -2^63; 10 head holds -2^63 or absolute values fall; 11; per row read: 12 missing, 1 to 6, 8, 13 not 512 numbers or as in 10;
-- 16 as in append at a match on the shelf; else 14 target seen, no copy of the wanted sign; 15 target not seen".
use Rattle.std.specs.Prelude.{Bool, true, false, cond, ◌&&◌, ◌||◌, List, [], ℕ, zero, suc, ◌+◌, ◌*◌, ◌-◌, ◌/◌, eqb, ltb, leb, ℤ, pos, nat_abs, length, take, get_or, Ok, Err}
use Rattle.index_types.specs.Limits.{segment_threshold}
use Rattle.stores.specs.Stores.{write}
use Rattle.signed.specs.Sign.{is_negative}
use Rattle.entries.specs.Order.{order_ok}
use Rattle.entries.specs.Flip.{position, flipped_at}
use Rattle.entries.specs.declared.Position.{Position}
use Rattle.entries.specs.declared.Position.TheVariants.{At, Seen, Absent}
use Rattle.index_types.specs.declared.ListCounts.{ListCounts}
use Rattle.records.specs.declared.Place.{Place}
use Rattle.records.specs.declared.Place.TheVariants.{Staged, Table, Missing}
use Rattle.records.specs.Records.{record_of}
use Rattle.records.specs.Find.{row_at}
use Rattle.records.specs.Changes.{with_count}
use Rattle.records.specs.Checks.{records_ok}
use Rattle.segment_id.specs.declared.Kind.TheVariants.{Box}
use Rattle.index_types.specs.declared.HeadCounts.{HeadCounts}
use Rattle.buffer_core.specs.declared.Direction.{Direction}
use Rattle.buffer_core.specs.declared.Direction.TheVariants.{Spend, Unspend}
use Rattle.index_types.specs.Answers.{Flipped}
use Rattle.buffer_core.specs.Answers.{Lead}
use Rattle.buffer_core.specs.Answers.{Low}
use Rattle.buffer_core.specs.declared.Look.{Look}
use Rattle.buffer_core.specs.declared.Look.TheVariants.{Take, Stop, Next, Fail}
use Rattle.buffer_core.specs.declared.Walk.{Walk}
use Rattle.buffer_core.specs.declared.Walk.TheVariants.{Hit, Ended, Failed}
use Rattle.buffer_core.specs.Edition.{Edition, RowRead, bad, good}
use Rattle.buffer_core.specs.Spills.{Sources, sources, key_at, place_at, spill_read, head_ok}

-- ---- one row

-- "13 not 512 numbers or as in 10"
abbrev pub check_row : RowRead → RowRead
check_row (bad code) = bad code
check_row (good zs) = cond (eqb (length zs) segment_threshold && order_ok zs) (good zs) (bad 13)

abbrev pub first_of : List ℤ → ℕ
first_of zs = nat_abs (get_or zs 0 (pos 0))

abbrev pub last_in : List ℤ → ℕ
last_in zs = nat_abs (get_or zs 511 (pos 0))

-- ---- the halving: f gives the first absolute value of each row
abbrev pub lead_of : RowRead → Lead
lead_of (good zs) = Ok (first_of zs)
lead_of (bad code) = Err code

abbrev pub half : Lead → (target : ℕ) → (upper lower : Low) → Low
half (Ok x) target upper lower = cond (leb x target) upper lower
half (Err code) target upper lower = Err code

abbrev pub middle : (low high : ℕ) → ℕ
middle low high = low + (high - low) / 2

-- the first number bounds the calls; high - low falls at each
unfoldable pub search_by : (ℕ → Lead) → (target : ℕ) → ℕ → (low high : ℕ) → Low
search_by f target zero low high = Ok low
search_by f target (suc k) low high =
    cond (ltb low high)
    (half (f (middle low high)) target (search_by f target k (middle low high + 1) high) (search_by f target k low (middle low high)))
    (Ok low)

abbrev pub search_in : (ℕ → Lead) → (target low high : ℕ) → Low
search_in f target low high = search_by f target (high - low) low high

-- ---- the walk
abbrev pub look_past : (ends seen : Bool) → Look
look_past true seen = Stop seen
look_past false seen = Next seen

abbrev pub look_by : Position → (ends : Bool) → Look
look_by (At i) ends = Take i
look_by Seen ends = look_past ends true
look_by Absent ends = look_past ends false

unfoldable pub look_in : List ℤ → (target : ℕ) → (spend : Bool) → Look
look_in zs target d = cond (ltb (last_in zs) target) (Stop false) (look_by (position d target zs 0 false) (ltb (first_of zs) target))

abbrev pub look_of : RowRead → (target : ℕ) → (spend : Bool) → Look
look_of (good zs) target d = look_in zs target d
look_of (bad code) target d = Fail code

abbrev pub walk_by : Look → ℕ → Bool → (Bool → Walk) → Walk
walk_by (Take i) n seen rest = Hit n i
walk_by (Stop s) n seen rest = Ended (seen || s)
walk_by (Next s) n seen rest = rest (seen || s)
walk_by (Fail code) n seen rest = Failed code

-- the rows below spill number n, the newest first; f shows what each holds
unfoldable pub walk_from : (ℕ → Look) → ℕ → (seen : Bool) → Walk
walk_from f zero seen = Ended seen
walk_from f (suc n) seen = walk_by (f n) n seen (λ s. walk_from f n s)

-- ---- what a call does: it refuses, it negates an entry of the head, or it puts a row at a slot of the staged spills, which are `count` then
pub data Effect : Type 0 where
  refuse : ℕ → Effect
  flip_head : ℕ → Effect
  stage : (slot count : ℕ) (key row : List ℕ) → Effect

-- the answer, the head and the staged spills at exit
pub record Flipping : Type 0 where
  pub answer : Flipped
  pub head : List ℤ
  pub staged : List ℕ

abbrev pub flipping : Flipped → List ℤ → List ℕ → Flipping
flipping a head staged = record { answer = a; head = head; staged = staged }

abbrev pub head_first : Position → (Bool → Effect) → Effect
head_first (At i) rows = flip_head i
head_first Seen rows = rows true
head_first Absent rows = rows false

abbrev pub spends : Direction → Bool
spends Spend = true
spends Unspend = false

module _ (E : Edition) where
  abbrev pub done_by : Effect → ListCounts → List ℤ → List ℕ → Flipping
  done_by (refuse code) c head staged = flipping (Err code) head staged
  done_by (flip_head i) c head staged = flipping (Ok c) (flipped_at (At i) head) staged
  done_by (stage slot count key row) c head staged = flipping (Ok (with_count count c)) head (write (slot * E.size) (record_of E.size key row) staged)

  -- the row of a spill number, checked
  abbrev pub row_checked : Sources → ℕ → RowRead
  row_checked w n = check_row (spill_read E Box w n)

  abbrev pub lead_at : Sources → ℕ → Lead
  lead_at w n = lead_of (row_checked w n)

  abbrev pub look_at : Sources → (target : ℕ) → (spend : Bool) → ℕ → Look
  look_at w target d n = look_of (row_checked w n) target d

  -- ---- a match: the row is written anew with the entry negated, in its place among the staged spills, or last if it stood in the table
  abbrev pub boxes_in : RowRead → List ℤ
  boxes_in (good zs) = zs
  boxes_in (bad code) = []

  unfoldable pub row_flipped : Sources → (n : ℕ) (row : List ℕ) (at : ℕ) → List ℕ
  row_flipped w n row at = E.with_boxes w.parent (pos n) row (flipped_at (At at) (boxes_in (E.decode Box w.parent (pos n) row)))

  abbrev pub stage_from : Sources → (capacity n at : ℕ) → Place → Effect
  stage_from w capacity n at (Staged i) = stage i w.staged_count (key_at E Box w n) (row_flipped w n (row_at E.size i w.staged) at)
  stage_from w capacity n at (Table i) =
      cond (ltb w.staged_count capacity)
      (stage w.staged_count (w.staged_count + 1) (key_at E Box w n) (row_flipped w n (row_at E.size i w.table) at))
      (refuse 16)
  stage_from w capacity n at Missing = refuse 12

  unfoldable pub stage_at : Sources → (capacity n at : ℕ) → Effect
  stage_at w capacity n at = stage_from w capacity n at (place_at E Box w n)

  -- ---- the rows
  abbrev pub after_walk : Sources → (capacity : ℕ) → Walk → Effect
  after_walk w capacity (Hit n at) = stage_at w capacity n at
  after_walk w capacity (Ended seen) = refuse (cond seen 14 15)
  after_walk w capacity (Failed code) = refuse code

  abbrev pub after_search : Sources → (capacity target : ℕ) → (spend seen : Bool) → Low → Effect
  after_search w capacity target d seen (Ok low) = after_walk w capacity (walk_from (look_at w target d) low seen)
  after_search w capacity target d seen (Err code) = refuse code

  unfoldable pub in_rows : Sources → (capacity target : ℕ) → (spend : Bool) → (spills : ℕ) → (seen : Bool) → Effect
  in_rows w capacity target d spills seen = after_search w capacity target d seen (search_in (lead_at w) target 0 spills)

  -- the head first, then the rows
  unfoldable pub in_order : Sources → (capacity target : ℕ) → (spend : Bool) → (spills : ℕ) → List ℤ → Effect
  in_order w capacity target d spills zs = head_first (position d target zs 0 false) (λ seen. in_rows w capacity target d spills seen)

  -- 9, 10, 11, then the search; zs are the numbers of the head
  unfoldable pub flip_effect : Sources → (capacity : ℕ) → Direction → (target spills : ℤ) → List ℤ → Effect
  flip_effect w capacity d target spills zs =
      cond (leb 9223372036854775808 (nat_abs target)) (refuse 9)
      (cond (order_ok zs)
      (cond (is_negative spills) (refuse 11) (in_order w capacity (nat_abs target) (spends d) (nat_abs spills) zs))
      (refuse 10))

  unfoldable pub flip_core : Direction → (parent : List ℕ) → HeadCounts → ℤ → ListCounts → (staged : List ℕ) → ListCounts → (table : List ℕ) → List ℤ → Flipping
  flip_core d parent h target c staged e table head =
      done_by (flip_effect (sources parent staged c.count table e.count) c.capacity d target h.spills (take h.len head)) c head staged

  -- 25 of a spend: the head, the staged spills and the table
  unfoldable pub flip_ok : HeadCounts → ListCounts → List ℕ → ListCounts → List ℕ → List ℤ → Bool
  flip_ok h c staged e table head = head_ok h head && (records_ok E.size E.limit c staged && records_ok E.size E.limit e table)

  unfoldable pub flip_of : Direction → (parent : List ℕ) → HeadCounts → ℤ → ListCounts → (staged : List ℕ) → ListCounts → (table : List ℕ) → List ℤ → Flipping
  flip_of d parent h target c staged e table head =
      cond (flip_ok h c staged e table head) (flip_core d parent h target c staged e table head) (flipping (Err 25) head staged)
