-- What is promised of a working set. W is the list that is borrowed, T the whole table; W is a part of T, and both pass refusal 25.
use Rattle.std.specs.Prelude.{ℕ, zero, suc, ◌+◌, ◌≤◌, ◌<◌, ◌-◌, ◌≡◌, Bool, true, false, List, ℤ, pos, length, Err}
use Rattle.index_types.specs.declared.ListCounts.{ListCounts}
use Rattle.records.specs.Checks.{records_ok}
use Rattle.records.specs.Changes.{full_for}
use Rattle.segment_id.specs.declared.Kind.{Kind}
use Rattle.segment_id.specs.declared.Kind.TheVariants.{Box}
use Rattle.index_types.specs.declared.HeadCounts.{HeadCounts}
use Rattle.buffer_core.specs.declared.Direction.{Direction}
use Rattle.buffer_core.specs.Answers.{Lead}
use Rattle.buffer_core.specs.Edition.{Edition}
use Rattle.buffer_core.specs.Spills.{sources}
use Rattle.buffer_core.specs.Append.{counts_with, bytes_with}
use Rattle.buffer_core.specs.Pop.{Lists, lists, lists_ok, popping, pop_of}
use Rattle.buffer_core.specs.Flip.{flipping, flip_of}
use Rattle.buffer_core.specs.Tally.{tally_of}
use Rattle.buffer_core.specs.Page.{paging, page_of}
use Rattle.buffer_core.specs.Flush.{new_keys, table_after, flushed, flush_of}
use Rattle.spill_places.specs.Inspection.{inspect_row}
use Rattle.working_set.specs.Part.{Held, absent, held, held_in, PartOf, Part, lacks}
use Rattle.working_set.specs.Reads.{nothing, need, first_missing, missing_of, In, search_reads, flip_reads, pop_reads, tally_of_reads, page_of_reads}
use Rattle.working_set.specs.Store.{transaction}

-- A call reads the spills `on_part` on W and `on_all` on T. Either none of them is missing in W, and it does on W what it does on T (Same); or the first one
-- missing is n, the call answers 12 on W and changes nothing (Refuses), and the call on T reads n too: fetching the row of n is no waste.
pub data Outcome (missing : ℕ → Bool) (on_part on_all : List ℕ) (Same Refuses : Type 0) : Type 0 where
  same : first_missing missing on_part ≡ nothing → on_part ≡ on_all → Same → Outcome missing on_part on_all Same Refuses
  lack : (n : ℕ) → first_missing missing on_part ≡ need n → missing n ≡ true → In n on_all → Refuses → Outcome missing on_part on_all Same Refuses

-- W with its counts, a part of T with its counts; both pass 25
pub record Working (E : Edition) (wc : ListCounts) (work : List ℕ) (tc : ListCounts) (table : List ℕ) : Type 0 where
  pub work_ok : records_ok E.size E.limit wc work ≡ true
  pub table_ok : records_ok E.size E.limit tc table ≡ true
  pub part : Part E wc work tc table

unfoldable pub pow2 : ℕ → ℕ
pow2 zero = 1
pow2 (suc j) = pow2 j + pow2 j

-- the halving of fewer than 2^j spills reads at most j rows, whatever the rows hold
abbrev pub HalvingLaw : Type 0
HalvingLaw = (f : ℕ → Lead) (target k low high j : ℕ) → high - low < pow2 j → length (search_reads f target k low high) ≤ j

-- no more are missing than are read
abbrev pub CountLaw : Type 0
CountLaw = (missing : ℕ → Bool) (ns : List ℕ) → missing_of missing ns ≤ length ns

module _ (E : Edition) where
  -- ---- the calls
  abbrev pub FlipLaw : Type 0
  FlipLaw =
      (d : Direction) (parent : List ℕ) (h : HeadCounts) (target : ℤ) (c : ListCounts) (staged : List ℕ) (wc : ListCounts) (work : List ℕ) (tc : ListCounts) (table : List ℕ) (head : List ℤ)
      → Working E wc work tc table
      → Outcome (lacks E Box (sources parent staged c.count work wc.count))
      (flip_reads E d parent h target c staged wc work head) (flip_reads E d parent h target c staged tc table head)
      (flip_of E d parent h target c staged wc work head ≡ flip_of E d parent h target c staged tc table head)
      (flip_of E d parent h target c staged wc work head ≡ flipping (Err 12) head staged)

  abbrev pub PopLaw : Type 0
  PopLaw =
      (kind : Kind) (parent : List ℕ) (h : HeadCounts) (c : ListCounts) (staged : List ℕ) (wc : ListCounts) (work : List ℕ) (tc : ListCounts) (table : List ℕ) (e : ListCounts) (deleted : List ℕ) (head : List ℤ)
      → Working E wc work tc table
      → Outcome (lacks E kind (sources parent staged c.count work wc.count))
      (pop_reads E h (lists c staged wc work e deleted) head) (pop_reads E h (lists c staged tc table e deleted) head)
      (pop_of E kind parent h (lists c staged wc work e deleted) head ≡ pop_of E kind parent h (lists c staged tc table e deleted) head)
      (pop_of E kind parent h (lists c staged wc work e deleted) head ≡ popping (Err 12) head staged deleted)

  abbrev pub TallyLaw : Type 0
  TallyLaw =
      (parent : List ℕ) (h : HeadCounts) (c : ListCounts) (staged : List ℕ) (wc : ListCounts) (work : List ℕ) (tc : ListCounts) (table : List ℕ) (head : List ℤ)
      → Working E wc work tc table
      → Outcome (lacks E Box (sources parent staged c.count work wc.count))
      (tally_of_reads E parent h c staged wc work head) (tally_of_reads E parent h c staged tc table head)
      (tally_of E parent h c staged wc work head ≡ tally_of E parent h c staged tc table head)
      (tally_of E parent h c staged wc work head ≡ Err 12)

  abbrev pub PageLaw : Type 0
  PageLaw =
      (parent : List ℕ) (h : HeadCounts) (c : ListCounts) (staged : List ℕ) (wc : ListCounts) (work : List ℕ) (tc : ListCounts) (table : List ℕ) (head : List ℤ) (offset n : ℕ) (out : List ℤ)
      → Working E wc work tc table
      → Outcome (lacks E Box (sources parent staged c.count work wc.count))
      (page_of_reads E parent h c staged wc work head n out) (page_of_reads E parent h c staged tc table head n out)
      (page_of E parent h c staged wc work head offset n out ≡ page_of E parent h c staged tc table head offset n out)
      (page_of E parent h c staged wc work head offset n out ≡ paging (Err 12) out)

  -- a row that inspection shows of W is the one that it shows of T
  abbrev pub InspectLaw : Type 0
  InspectLaw =
      (c : ListCounts) (staged : List ℕ) (wc : ListCounts) (work : List ℕ) (tc : ListCounts) (table : List ℕ) (key : List ℕ)
      → Working E wc work tc table
      → (held_in E.size c.count staged key ≡ absent → held_in E.size wc.count work key ≡ absent → ⊥)
      → inspect_row E.size E.limit c staged wc work key ≡ inspect_row E.size E.limit c staged tc table key

  -- ---- fetching: T's row is put into W, which has room
  abbrev pub FetchLaw : Type 0
  FetchLaw =
      (wc : ListCounts) (work : List ℕ) (tc : ListCounts) (table : List ℕ) (key row : List ℕ)
      → Working E wc work tc table → length key ≡ 32 → length row ≤ E.limit → held_in E.size tc.count table key ≡ held row → full_for E.size wc key work ≡ false
      → Working E (counts_with E key wc work) (bytes_with E key row wc work) tc table
      × (Part E wc work (counts_with E key wc work) (bytes_with E key row wc work)
      × (held_in E.size (counts_with E key wc work).count (bytes_with E key row wc work) key ≡ held row))

  -- it falls at each fetch: how many of the spills that the call on T reads are missing. So a call is made at most once more than it reads spills on T
  abbrev pub ProgressLaw : Type 0
  ProgressLaw =
      (kind : Kind) (parent : List ℕ) (m : ℕ) (staged : List ℕ) (wc : ListCounts) (work : List ℕ) (vc : ListCounts) (more : List ℕ) (ns : List ℕ) (n : ℕ) (row : List ℕ)
      → Part E wc work vc more → In n ns → lacks E kind (sources parent staged m work wc.count) n ≡ true
      → held_in E.size vc.count more (E.key kind parent (pos n)) ≡ held row
      → missing_of (lacks E kind (sources parent staged m more vc.count)) ns < missing_of (lacks E kind (sources parent staged m work wc.count)) ns

  -- ---- the flush: where it is not refused, the table after it shows under every key what the transaction leaves there
  abbrev pub FlushLaw : Type 0
  FlushLaw =
      (b : Lists) → lists_ok E b ≡ true → new_keys E b ≤ b.table_counts.capacity - b.table_counts.count
      → (flush_of E b ≡ flushed E b)
      × ((key : List ℕ) → held_in E.size (table_after E b).counts.count (flush_of E b).table key ≡ transaction E b (held_in E.size b.table_counts.count b.table) key)

  -- and W stays a part of what is kept
  abbrev pub KeptLaw : Type 0
  KeptLaw = (b : Lists) (f g : List ℕ → Held) → PartOf f g → PartOf (transaction E b f) (transaction E b g)

  -- a flush of W and a flush of T, with the same staged and deleted spills: W is a part of T as before
  abbrev pub WorkFlushLaw : Type 0
  WorkFlushLaw =
      (c : ListCounts) (staged : List ℕ) (wc : ListCounts) (work : List ℕ) (tc : ListCounts) (table : List ℕ) (e : ListCounts) (deleted : List ℕ)
      → lists_ok E (lists c staged wc work e deleted) ≡ true → lists_ok E (lists c staged tc table e deleted) ≡ true
      → new_keys E (lists c staged wc work e deleted) ≤ wc.capacity - wc.count → new_keys E (lists c staged tc table e deleted) ≤ tc.capacity - tc.count
      → Part E wc work tc table
      → Part E (table_after E (lists c staged wc work e deleted)).counts (flush_of E (lists c staged wc work e deleted)).table
      (table_after E (lists c staged tc table e deleted)).counts (flush_of E (lists c staged tc table e deleted)).table

  -- no rows are a part of every table: a working set may be dropped at any time
  abbrev pub EmptyLaw : Type 0
  EmptyLaw = (cap : ℕ) (work : List ℕ) (tc : ListCounts) (table : List ℕ) → Part E (record { count = 0; capacity = cap }) work tc table

-- all of it
pub record WorkingSet (E : Edition) : Type 0 where
  pub spends_and_unspends : FlipLaw E
  pub pops : PopLaw E
  pub tallies : TallyLaw E
  pub pages : PageLaw E
  pub inspections : InspectLaw E
  pub fetches : FetchLaw E
  pub progress : ProgressLaw E
  pub halving : HalvingLaw
  pub counting : CountLaw
  pub flushes : FlushLaw E
  pub keeping : KeptLaw E
  pub work_flushes : WorkFlushLaw E
  pub empty_sets : EmptyLaw E
