-- An accepted pop keeps what refusal 25 tests: a pop that was accepted never makes the next call refuse 25.
use Prim.Native.Nat.{ℕ, ◌-◌, ◌≤◌}
use mathlib.Core.Path.{◌≡◌, refl, sym, ◌∙◌}
use mathlib.Core.Bool.{Bool, true, false, cond}
use mathlib.Core.List.{List}
use native.Mathlib.Omega.{arith}
use lib.Dec.{ltb, eqb}
use lib.IntN.{ℤ, pos, nat_abs}
use lib.ListN.{length, length-set}
use Rattle.stores.proofs.StoreLaws.{length_write}
use Rattle.signed.specs.Sign.{is_negative}
use Rattle.index_types.specs.declared.ListCounts.{ListCounts}
use Rattle.records.specs.Changes.{count_after, with_count, put_record, full_for}
use Rattle.records.proofs.CheckLaws.{and_left, and_right, and_true, keys_ok_after_put}
use Rattle.segment_id.specs.Key.{row_key}
use Rattle.segment_id.specs.declared.Kind.{Kind}
use Rattle.segment_id.proofs.KeyLaws.{row_key_length}
use Rattle.segment_core.specs.Loading.{padded}
use Rattle.index_types.specs.declared.HeadCounts.{HeadCounts}
use Rattle.std.specs.Prelude.{Ok, Err}
use Rattle.index_types.specs.declared.RowEdition.{RowEdition}
use Rattle.buffer_core.specs.Edition.{RowRead, bad, good, record_size, row_limit_of, edition_of}
use Rattle.buffer_core.specs.Spills.{sources, spill_read, head_ok}
use Rattle.buffer_core.specs.Append.{counts_of}
use Rattle.buffer_core.specs.Pop.{Popping, popping, Lists, lists, count_without, bytes_without, last_of, without_last, row_head, staged_at, deleted_at, merged, merge_of, unspill_of, pop_core, lists_ok, pop_ok}
use Rattle.buffer_core.proofs.HeadLaws.{HeadOk, head_facts, head_test}
use Rattle.buffer_core.proofs.ListLaws.{ListsFit, lists_fit, fit_lists, without_ok}
use Rattle.row_edition.proofs.ReadingLaws.{padded_length}
use Rattle.spill_rows.proofs.SpillLaws.{spill_few}
use Rattle.pop_row.specs.Internal.{PopReady}
use Rattle.index_types.proofs.AnswerLaws.{four_same}

-- ---- the test as facts, and back

module _ (v : RowEdition) (h : HeadCounts) (b : Lists) (head : List ℤ) where
  pub record PopOk : Type 0 where
    pub headed : HeadOk h head
    pub listed : ListsFit (edition_of v) b

  pub pop_facts : pop_ok (edition_of v) h b head ≡ true → PopOk
  unfolding pop_ok
  pop_facts t =
      record {
        headed = head_facts h head (and_left (head_ok h head) (lists_ok (edition_of v) b) t);
        listed = lists_fit (edition_of v) b (and_right (head_ok h head) (lists_ok (edition_of v) b) t);
      }

  pub pop_test : PopOk → pop_ok (edition_of v) h b head ≡ true
  unfolding pop_ok
  pop_test f = and_true (head_ok h head) (lists_ok (edition_of v) b) (head_test h head f.headed) (fit_lists (edition_of v) b f.listed)

  -- what the core asks for
  pub pop_ready : pop_ok (edition_of v) h b head ≡ true → (h.len ≤ 512) × PopReady v b head
  pop_ready t =
      let f = pop_facts t in
      let l = f.listed in
      (f.headed.few, record { long = f.headed.long; in_staged = l.in_staged.bounds; in_table = l.in_table.bounds; in_deleted = l.in_deleted.bounds; apart = l.in_table.apart })

-- ---- an accepted pop

-- where the answer gives counts, they pass with the lists at exit and the table, which stays
abbrev pub PopKept : RowEdition → Lists → Popping → Type 0
PopKept v b o =
    (z : ℤ) (h : HeadCounts) (c e : ListCounts) → o.answer ≡ Ok (z, h, c, e)
    → pop_ok (edition_of v) h (lists c o.staged b.table_counts b.table e o.deleted) o.head ≡ true

kept_refused : (v : RowEdition) (b : Lists) (code : ℕ) (head : List ℤ) (staged deleted : List ℕ) → PopKept v b (popping (Err code) head staged deleted)
kept_refused v b code head staged deleted x h c e q = let z : ◌≡◌ {A = ℕ} 0 1 = cc in absurd (omega arith)

kept_number : (v : RowEdition) (b : Lists) (x : ℤ) (h : HeadCounts) (c e : ListCounts) (head : List ℤ) (staged deleted : List ℕ)
    → PopOk v h (lists c staged b.table_counts b.table e deleted) head → PopKept v b (popping (Ok (x, h, c, e)) head staged deleted)
kept_number v b x h c e head staged deleted ok x' h' c' e' q =
    let p = four_same q in
    rw (← p.1, ← p.2, ← p.3) (pop_test v h (lists c staged b.table_counts b.table e deleted) head ok)

module _ (v : RowEdition) (kind : Kind) (parent : List ℕ) (h : HeadCounts) (b : Lists) (head : List ℤ) (ok : PopOk v h b head) where
  merged_kept : (key : List ℕ) → length key ≡ 32 → (spills : ℕ) (zs : List ℤ) → length zs ≤ 512 → full_for 32 b.deleted_counts key b.deleted ≡ false
      → PopKept v b (merged (edition_of v) key spills zs b head)
  unfolding merged
  merged_kept key k spills zs few free =
      kept_number v b (last_of (length zs) (row_head zs head)) (counts_of (length zs - 1) (pos spills)) (count_without (staged_at (edition_of v) key b) b.staged_counts)
      (with_count (count_after (deleted_at (edition_of v) key b) b.deleted_counts.count) b.deleted_counts)
      (without_last (length zs) (row_head zs head)) (bytes_without (record_size v) (staged_at (edition_of v) key b) b.staged_counts b.staged)
      (put_record 32 b.deleted_counts.count key key b.deleted)
      (record {
        headed =
            record {
              few = omega arith;
              long =
                  omega (
                    arith,
                    length-set (row_head zs head) (length zs - 1) (pos 0),
                    length_write 0 (padded zs) head (omega (arith, padded_length zs few, ok.headed.long)),
                    ok.headed.long,
                  );
            };
        listed =
            record {
              in_staged = without_ok (record_size v) (row_limit_of v) key b.staged_counts b.staged ok.listed.in_staged;
              in_table = ok.listed.in_table;
              in_deleted = keys_ok_after_put b.deleted_counts key b.deleted k free ok.listed.in_deleted;
            };
      })

  merge_kept : (x : RowRead) → ((zs : List ℤ) → x ≡ good zs → length zs ≤ 512) → (key : List ℕ) → length key ≡ 32 → (spills : ℕ)
      → PopKept v b (merge_of (edition_of v) x key spills b head)
  unfolding merge_of
  merge_kept (bad code) few key k spills = kept_refused v b code head b.staged b.deleted
  merge_kept (good zs) few key k spills = by_tests (eqb (length zs) 0) (full_for 32 b.deleted_counts key b.deleted) refl
    where
      by_tests : (a f : Bool) → full_for 32 b.deleted_counts key b.deleted ≡ f
          → PopKept v b (cond a (popping (Err 20) head b.staged b.deleted) (cond f (popping (Err 21) head b.staged b.deleted)
          (merged (edition_of v) key spills zs b head)))
      by_tests true f e = kept_refused v b 20 head b.staged b.deleted
      by_tests false true e = kept_refused v b 21 head b.staged b.deleted
      by_tests false false e = merged_kept key k spills zs (few zs refl) e

  unspill_kept : (spills : ℕ) → PopKept v b (unspill_of (edition_of v) kind parent spills b head)
  unfolding unspill_of
  unspill_kept spills =
      merge_kept (spill_read (edition_of v) kind (sources parent b.staged b.staged_counts.count b.table b.table_counts.count) spills)
      (λ zs e. spill_few v kind parent b.staged b.staged_counts.count b.table b.table_counts.count spills zs e)
      (row_key parent kind (pos spills)) (row_key_length parent kind (pos spills)) spills

  core_kept : PopKept v b (pop_core (edition_of v) kind parent h b head)
  unfolding pop_core
  core_kept = by_tests (is_negative h.spills) (ltb 0 h.len) (eqb (nat_abs h.spills) 0)
    where
      by_tests : (a d u : Bool)
          → PopKept v b (cond a (popping (Err 11) head b.staged b.deleted) (cond d
          (popping (Ok (last_of h.len head, counts_of (h.len - 1) h.spills, b.staged_counts, b.deleted_counts)) (without_last h.len head)
          b.staged b.deleted)
          (cond u (popping (Err 19) head b.staged b.deleted) (unspill_of (edition_of v) kind parent (nat_abs h.spills - 1) b head))))
      by_tests true d u = kept_refused v b 11 head b.staged b.deleted
      by_tests false true u =
          kept_number v b (last_of h.len head) (counts_of (h.len - 1) h.spills) b.staged_counts b.deleted_counts (without_last h.len head)
          b.staged b.deleted
          (record {
            headed = record { few = omega (arith, ok.headed.few); long = omega (arith, length-set head (h.len - 1) (pos 0), ok.headed.long) };
            listed =
                record { in_staged = ok.listed.in_staged; in_table = ok.listed.in_table; in_deleted = ok.listed.in_deleted };
          })
      by_tests false false true = kept_refused v b 19 head b.staged b.deleted
      by_tests false false false = unspill_kept (nat_abs h.spills - 1)

-- an accepted pop keeps what 25 tests
pub pop_keeps : (v : RowEdition) (kind : Kind) (parent : List ℕ) (h : HeadCounts) (b : Lists) (head : List ℤ) → pop_ok (edition_of v) h b head ≡ true
    → PopKept v b (pop_core (edition_of v) kind parent h b head)
pop_keeps v kind parent h b head t = core_kept v kind parent h b head (pop_facts v h b head t)
