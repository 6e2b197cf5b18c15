-- Pop (document 01): "The last of the head; on an empty head the newest row becomes the head first, leaves staging, and its key joins the deletion list."
-- Refusals: "11; 19 head empty and count 0; 12; 1 to 6, 8; 20 no number of that kind in it; 21 list full and key not in it".
use Rattle.std.specs.Prelude.{ℕ, ◌-◌, Bool, ◌&&◌, cond, List, ltb, eqb, ℤ, pos, nat_abs, length, get_or, set, Option, Some, None, Ok, Err}
use Rattle.stores.specs.Stores.{write}
use Rattle.signed.specs.Sign.{is_negative}
use Rattle.index_types.specs.declared.ListCounts.{ListCounts}
use Rattle.records.specs.Records.{keys}
use Rattle.records.specs.Find.{find_key}
use Rattle.records.specs.Changes.{count_after, with_count, put_record, remove_record, full_for}
use Rattle.records.specs.Checks.{records_ok, keys_ok}
use Rattle.segment_id.specs.declared.Kind.{Kind}
use Rattle.segment_core.specs.Loading.{padded}
use Rattle.index_types.specs.declared.HeadCounts.{HeadCounts}
use Rattle.index_types.specs.Answers.{Popped}
use Rattle.buffer_core.specs.Edition.{Edition, RowRead, bad, good}
use Rattle.buffer_core.specs.Spills.{sources, spill_read, head_ok}
use Rattle.buffer_core.specs.Append.{counts_of}

-- the answer, the head, the staged and the deleted spills at exit
pub record Popping : Type 0 where
  pub answer : Popped
  pub head : List ℤ
  pub staged : List ℕ
  pub deleted : List ℕ

abbrev pub popping : Popped → List ℤ → (staged deleted : List ℕ) → Popping
popping a head staged deleted = record { answer = a; head = head; staged = staged; deleted = deleted }

-- what a pop borrows beside the head: the counts and the bytes of the staged spills, of the table and of the deleted spills
pub record Lists : Type 0 where
  pub staged_counts : ListCounts
  pub staged : List ℕ
  pub table_counts : ListCounts
  pub table : List ℕ
  pub deleted_counts : ListCounts
  pub deleted : List ℕ

abbrev pub lists : ListCounts → List ℕ → ListCounts → List ℕ → ListCounts → List ℕ → Lists
lists c staged d table e deleted =
    record { staged_counts = c; staged = staged; table_counts = d; table = table; deleted_counts = e; deleted = deleted }

-- a record list without the record that was found
abbrev pub count_without : Option ℕ → ListCounts → ListCounts
count_without (Some i) c = with_count (c.count - 1) c
count_without None c = c

abbrev pub bytes_without : (size : ℕ) → Option ℕ → ListCounts → List ℕ → List ℕ
bytes_without size (Some i) c l = remove_record size c.count i l
bytes_without size None c l = l

-- the last of a head's n numbers, and the head without it
abbrev pub last_of : ℕ → List ℤ → ℤ
last_of n head = get_or head (n - 1) (pos 0)

abbrev pub without_last : ℕ → List ℤ → List ℤ
without_last n head = set head (n - 1) (pos 0)

-- a row's numbers in a head
abbrev pub row_head : List ℤ → List ℤ → List ℤ
row_head zs head = write 0 (padded zs) head

module _ (E : Edition) where
  abbrev pub staged_at : List ℕ → Lists → Option ℕ
  staged_at key b = find_key key (keys E.size b.staged_counts.count b.staged)

  abbrev pub deleted_at : List ℕ → Lists → Option ℕ
  deleted_at key b = find_key key (keys 32 b.deleted_counts.count b.deleted)

  -- the row's numbers become the head, which loses its last; the key leaves the staged spills and joins the deleted ones
  unfoldable pub merged : (key : List ℕ) (spills : ℕ) → List ℤ → Lists → List ℤ → Popping
  merged key spills zs b head =
      popping
      (Ok (
        last_of (length zs) (row_head zs head),
        counts_of (length zs - 1) (pos spills),
        count_without (staged_at key b) b.staged_counts,
        with_count (count_after (deleted_at key b) b.deleted_counts.count) b.deleted_counts,
      ))
      (without_last (length zs) (row_head zs head))
      (bytes_without E.size (staged_at key b) b.staged_counts b.staged)
      (put_record 32 b.deleted_counts.count key key b.deleted)

  -- the row that was read: its refusal, 20, 21, or it is merged back
  unfoldable pub merge_of : RowRead → (key : List ℕ) (spills : ℕ) → Lists → List ℤ → Popping
  merge_of (bad code) key spills b head = popping (Err code) head b.staged b.deleted
  merge_of (good zs) key spills b head =
      cond (eqb (length zs) 0) (popping (Err 20) head b.staged b.deleted)
      (cond (full_for 32 b.deleted_counts key b.deleted) (popping (Err 21) head b.staged b.deleted)
      (merged key spills zs b head))

  -- the newest row of a head with spills + 1 rows
  unfoldable pub unspill_of : Kind → (parent : List ℕ) (spills : ℕ) → Lists → List ℤ → Popping
  unspill_of kind parent spills b head =
      merge_of (spill_read E kind (sources parent b.staged b.staged_counts.count b.table b.table_counts.count) spills)
      (E.key kind parent (pos spills)) spills b head

  -- 11, then the last of the head, 19, or the newest row
  unfoldable pub pop_core : Kind → (parent : List ℕ) → HeadCounts → Lists → List ℤ → Popping
  pop_core kind parent h b head =
      cond (is_negative h.spills) (popping (Err 11) head b.staged b.deleted)
      (cond (ltb 0 h.len)
      (popping (Ok (last_of h.len head, counts_of (h.len - 1) h.spills, b.staged_counts, b.deleted_counts)) (without_last h.len head)
      b.staged b.deleted)
      (cond (eqb (nat_abs h.spills) 0) (popping (Err 19) head b.staged b.deleted)
      (unspill_of kind parent (nat_abs h.spills - 1) b head)))

  -- 25 of a pop: the head and all three lists
  unfoldable pub lists_ok : Lists → Bool
  lists_ok b =
      records_ok E.size E.limit b.staged_counts b.staged
      && (records_ok E.size E.limit b.table_counts b.table && keys_ok b.deleted_counts b.deleted)

  unfoldable pub pop_ok : HeadCounts → Lists → List ℤ → Bool
  pop_ok h b head = head_ok h head && lists_ok b

  unfoldable pub pop_of : Kind → (parent : List ℕ) → HeadCounts → Lists → List ℤ → Popping
  pop_of kind parent h b head = cond (pop_ok h b head) (pop_core kind parent h b head) (popping (Err 25) head b.staged b.deleted)
