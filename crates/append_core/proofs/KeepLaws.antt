-- An accepted append keeps what refusal 25 tests: an append that was accepted never makes the next call refuse 25.
use Prim.Native.Nat.{ℕ, ◌+◌, ◌≤◌, ◌<◌}
use mathlib.Core.Path.{◌≡◌, refl}
use mathlib.Core.Bool.{Bool, true, false, cond}
use mathlib.Core.List.{List, ◌∷◌, ◌++◌}
use native.Mathlib.Omega.{arith}
use lib.Dec.{leb, ltb}
use lib.IntN.{ℤ, pos, nat_abs}
use lib.ListN.{length, take, set, replicate, length-set, length-append, length-replicate}
use borrow.Author.Tests.{ltb-true, leb-false}
use Rattle.stores.proofs.StoreLaws.{length_write}
use Rattle.signed.specs.Sign.{is_negative}
use Rattle.index_types.specs.declared.ListCounts.{ListCounts}
use Rattle.records.specs.Changes.{full_for}
use Rattle.records.specs.Checks.{records_ok, RecordsOk}
use Rattle.records.proofs.CheckLaws.{and_left, and_right, and_true, records_ok_facts, records_ok_test, records_ok_after_put}
use Rattle.segment_id.specs.Key.{row_key}
use Rattle.segment_id.specs.declared.Kind.{Kind}
use Rattle.segment_id.proofs.KeyLaws.{row_key_length}
use Rattle.index_types.specs.declared.HeadCounts.{HeadCounts}
use Rattle.index_types.specs.declared.RowEdition.{RowEdition}
use Rattle.std.specs.Prelude.{Ok, Err}
use Rattle.buffer_core.specs.Edition.{edition_of, record_size, row_limit_of, header, spill_bytes}
use Rattle.buffer_core.specs.Spills.{head_ok}
use Rattle.buffer_core.specs.Append.{Appending, appending, counts_of, one_number, counts_with, bytes_with, spilled, spill_of, append_core, append_ok}
use Rattle.buffer_core.proofs.HeadLaws.{HeadOk, head_facts, head_test}
use Rattle.buffer_core.proofs.SizeLaws.{sizes, limit_most}
use Rattle.buffer_core.proofs.BackLaws.{within}
use Rattle.append_stage.proofs.RowLaws.{head_row_most}
use Rattle.append_core.specs.Internal.{AppendReady}
use Rattle.index_types.proofs.AnswerLaws.{pair_same}

-- ---- the test as facts, and back

module _ (v : RowEdition) (h : HeadCounts) (c : ListCounts) (head : List ℤ) (staged : List ℕ) where
  pub record AppendOk : Type 0 where
    pub headed : HeadOk h head
    pub listed : RecordsOk (record_size v) (row_limit_of v) c staged

  pub append_facts : append_ok (edition_of v) h c head staged ≡ true → AppendOk
  unfolding append_ok
  append_facts t =
      record {
        headed = head_facts h head (and_left (head_ok h head) (records_ok (record_size v) (row_limit_of v) c staged) t);
        listed = records_ok_facts (record_size v) (row_limit_of v) c staged (and_right (head_ok h head) (records_ok (record_size v) (row_limit_of v) c staged) t);
      }

  pub append_test : AppendOk → append_ok (edition_of v) h c head staged ≡ true
  unfolding append_ok
  append_test f =
      and_true (head_ok h head) (records_ok (record_size v) (row_limit_of v) c staged) (head_test h head f.headed) (records_ok_test (record_size v) (row_limit_of v) c staged f.listed)

  -- what the core asks for
  pub append_ready : append_ok (edition_of v) h c head staged ≡ true → AppendReady v h c head staged
  append_ready t = let f = append_facts t in record { few = f.headed.few; long = f.headed.long; bounds = f.listed.bounds }

-- ---- an accepted append

-- where the answer gives counts, they pass with the lists at exit
abbrev pub AppendKept : RowEdition → Appending → Type 0
AppendKept v o = (h : HeadCounts) (c : ListCounts) → o.answer ≡ Ok (h, c) → append_ok (edition_of v) h c o.head o.staged ≡ true

kept_refused : (v : RowEdition) (code : ℕ) (head : List ℤ) (staged : List ℕ) → AppendKept v (appending (Err code) head staged)
kept_refused v code head staged h c e = let z : ◌≡◌ {A = ℕ} 0 1 = cc in absurd (omega arith)

kept_done : (v : RowEdition) (h : HeadCounts) (c : ListCounts) (head : List ℤ) (staged : List ℕ) → append_ok (edition_of v) h c head staged ≡ true
    → AppendKept v (appending (Ok (h, c)) head staged)
kept_done v h c head staged t h' c' e = let p = pair_same e in rw (← p.0, ← p.1) t

module _ (v : RowEdition) (kind : Kind) (parent : List ℕ) (named : length parent ≡ 32) (number : ℤ) (h : HeadCounts) (c : ListCounts) (head : List ℤ) (staged : List ℕ)
    (ok : AppendOk v h c head staged) where
  one_long : length (one_number number head) ≡ length head
  one_long =
      let k : length (replicate 511 (pos 0)) ≡ 511 = length-replicate 511 (pos 0) in
      length_write 0 (number ∷ replicate 511 (pos 0)) head (omega (arith, ok.headed.long))

  spilled_kept : (key : List ℕ) → length key ≡ 32 → (spills : ℕ) → spills < 2147483648 → full_for (record_size v) c key staged ≡ false
      → AppendKept v (spilled (edition_of v) kind key parent spills number c head staged)
  unfolding spilled
  spilled_kept key k spills low free =
      let front : List ℕ = header v kind parent (pos spills) in
      let body : List ℕ = spill_bytes kind (take 512 head) in
      let row : List ℕ = front ++ body in
      let m : length row ≤ row_limit_of v =
      omega (arith, length-append front body, head_row_most kind head ok.headed.long, within kind parent named spills low v) in
      let z = sizes v in
      let h' : HeadCounts = counts_of 1 (pos (spills + 1)) in
      let c' : ListCounts = counts_with (edition_of v) key c staged in
      let l' : List ℕ = bytes_with (edition_of v) key row c staged in
      kept_done v h' c' (one_number number head) l' (append_test v h' c' (one_number number head) l'
      (record {
        headed = record { few = omega arith; long = omega (arith, one_long, ok.headed.long) };
        listed = records_ok_after_put (record_size v) (row_limit_of v) c key row staged k (omega arith) m (omega (arith, limit_most v)) free ok.listed;
      }))

  spill_kept : (spills : ℕ) → AppendKept v (spill_of (edition_of v) kind parent spills number c head staged)
  unfolding spill_of
  spill_kept spills =
      by_tests (leb 2147483647 spills) refl (full_for (record_size v) c (row_key parent kind (pos spills)) staged) refl
    where
      by_tests : (a : Bool) → leb 2147483647 spills ≡ a → (f : Bool) → full_for (record_size v) c (row_key parent kind (pos spills)) staged ≡ f
          → AppendKept v (cond a (appending (Err 18) head staged) (cond f (appending (Err 16) head staged)
          (spilled (edition_of v) kind (row_key parent kind (pos spills)) parent spills number c head staged)))
      by_tests true d f e = kept_refused v 18 head staged
      by_tests false d true e = kept_refused v 16 head staged
      by_tests false d false e =
          spilled_kept (row_key parent kind (pos spills)) (row_key_length parent kind (pos spills)) spills (omega (arith, leb-false 2147483647 spills d)) e

  core_kept : AppendKept v (append_core (edition_of v) kind parent h number c head staged)
  unfolding append_core
  core_kept = by_tests (is_negative h.spills) (is_negative number) (ltb h.len 512) refl
    where
      by_tests : (a b u : Bool) → ltb h.len 512 ≡ u
          → AppendKept v (cond a (appending (Err 11) head staged) (cond b (appending (Err 17) head staged)
          (cond u (appending (Ok (counts_of (h.len + 1) h.spills, c)) (set head h.len number) staged)
          (spill_of (edition_of v) kind parent (nat_abs h.spills) number c head staged))))
      by_tests true b u e = kept_refused v 11 head staged
      by_tests false true u e = kept_refused v 17 head staged
      by_tests false false true e =
          kept_done v (counts_of (h.len + 1) h.spills) c (set head h.len number) staged
          (append_test v (counts_of (h.len + 1) h.spills) c (set head h.len number) staged
          (record {
            headed = record { few = omega (arith, ltb-true h.len 512 e); long = omega (arith, length-set head h.len number, ok.headed.long) };
            listed = ok.listed;
          }))
      by_tests false false false e = spill_kept (nat_abs h.spills)

-- an accepted append keeps what 25 tests
pub append_keeps : (v : RowEdition) (kind : Kind) (parent : List ℕ) → length parent ≡ 32 → (h : HeadCounts) (number : ℤ) (c : ListCounts) (head : List ℤ) (staged : List ℕ)
    → append_ok (edition_of v) h c head staged ≡ true → AppendKept v (append_core (edition_of v) kind parent h number c head staged)
append_keeps v kind parent named h number c head staged t = core_kept v kind parent named number h c head staged (append_facts v h c head staged t)
