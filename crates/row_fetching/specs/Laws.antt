-- What is promised of putting a row of T into W, a part of T.
use Rattle.std.specs.Prelude.{ℕ, ◌≤◌, ◌<◌, ◌≡◌, true, List, pos, length, Ok, Err}
use Rattle.index_types.specs.declared.ListCounts.{ListCounts}
use Rattle.records.specs.Changes.{full_for}
use Rattle.segment_id.specs.declared.Kind.{Kind}
use Rattle.buffer_core.specs.Edition.{Edition}
use Rattle.buffer_core.specs.Spills.{sources}
use Rattle.working_set.specs.Part.{held, held_in, Part, lacks}
use Rattle.working_set.specs.Reads.{missing_of, In}
use Rattle.working_set.specs.Laws.{Working}
use Rattle.row_fetching.specs.Putting.{putting, put_of}

module _ (E : Edition) where
  -- a row that was put is held, the others stay, and W with it is a part of T
  abbrev pub PutLaw : Type 0
  PutLaw =
      (wc : ListCounts) (work : List ℕ) (tc : ListCounts) (table key row : List ℕ) (vc : ListCounts) (more : List ℕ)
      → Working E wc work tc table → length key ≡ 32 → held_in E.size tc.count table key ≡ held row → put_of E key row wc work ≡ putting (Ok vc) more
      → Working E vc more tc table × (Part E wc work vc more × (held_in E.size vc.count more key ≡ held row))

  -- of the spills that a call on T reads, fewer are missing once the row of one that was missing is put: asking again ends
  abbrev pub PutProgressLaw : Type 0
  PutProgressLaw =
      (kind : Kind) (parent : List ℕ) (m : ℕ) (staged : List ℕ) (wc : ListCounts) (work : List ℕ) (tc : ListCounts) (table row : List ℕ) (vc : ListCounts) (more : List ℕ) (ns : List ℕ) (n : ℕ)
      → Working E wc work tc table → length (E.key kind parent (pos n)) ≡ 32 → held_in E.size tc.count table (E.key kind parent (pos n)) ≡ held row
      → put_of E (E.key kind parent (pos n)) row wc work ≡ putting (Ok vc) more
      → In n ns → lacks E kind (sources parent staged m work wc.count) n ≡ true
      → missing_of (lacks E kind (sources parent staged m more vc.count)) ns < missing_of (lacks E kind (sources parent staged m work wc.count)) ns

  -- W passes 25 and a row is no longer than its edition allows: only 22 is left to refuse, where W is full and lacks the key. Nothing is changed
  abbrev pub PutRefusedLaw : Type 0
  PutRefusedLaw =
      (wc : ListCounts) (work : List ℕ) (tc : ListCounts) (table key row : List ℕ) (code : ℕ) (more : List ℕ)
      → Working E wc work tc table → length row ≤ E.limit → put_of E key row wc work ≡ putting (Err code) more
      → (code ≡ 22) × ((more ≡ work) × (full_for E.size wc key work ≡ true))

pub record RowFetching (E : Edition) : Type 0 where
  pub puts : PutLaw E
  pub progress : PutProgressLaw E
  pub refusals : PutRefusedLaw E
