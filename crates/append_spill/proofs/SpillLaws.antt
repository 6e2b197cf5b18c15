-- Laws of a spill: the head after it, and one law for each way out.
use Prim.Native.Nat.{ℕ, ◌+◌, ◌≤◌, ◌<◌}
use mathlib.Core.Path.{◌≡◌, refl, ap, ◌∙◌}
use mathlib.Core.Bool.{true, false}
use mathlib.Core.List.{List, [], ◌∷◌, ◌++◌}
use native.Mathlib.Omega.{arith}
use lib.IntN.{ℤ, pos}
use lib.ListN.{length, take, set, replicate, length-replicate}
use borrow.Author.Tests.{le-leb, lt-leb}
use Rattle.stores.specs.Stores.{write}
use Rattle.stores.proofs.StoreLaws.{write_one, write_write}
use Rattle.index_types.specs.declared.ListCounts.{ListCounts}
use Rattle.records.specs.Records.{keys, record_of}
use Rattle.records.specs.Find.{find_key}
use Rattle.records.specs.Changes.{count_after, with_count, put_record, full_for}
use Rattle.segment_id.specs.Key.{row_key}
use Rattle.segment_id.specs.declared.Kind.{Kind}
use Rattle.index_types.specs.declared.RowEdition.{RowEdition}
use Rattle.std.specs.Prelude.{Ok, Err}
use Rattle.buffer_core.specs.Edition.{edition_of, record_size, header, spill_bytes}
use Rattle.buffer_core.specs.Append.{appending, counts_of, one_number, spilled, spill_of}

-- a number and then 511 zeros
pub one_written : (number : ℤ) (head h₁ h₂ : List ℤ) → 512 ≤ length head → h₁ ≡ set head 0 number → h₂ ≡ write 1 (replicate 511 (pos 0)) h₁
    → h₂ ≡ one_number number head
one_written number head h₁ h₂ k e f =
    f
    ∙ ap (write 1 (replicate 511 (pos 0))) (e ∙ write_one 0 number head (omega arith))
    ∙ write_write 0 1 (number ∷ []) (replicate 511 (pos 0)) head refl (omega (arith, length-replicate {A = ℤ} 511 (pos 0)))

-- ---- the ways out of a spill

module _ (v : RowEdition) (kind : Kind) (parent : List ℕ) (spills : ℕ) (number : ℤ) (c : ListCounts) (head : List ℤ) (staged : List ℕ) where
  pub spill_18 : 2147483647 ≤ spills → appending (Err 18) head staged ≡ spill_of (edition_of v) kind parent spills number c head staged
  unfolding spill_of
  spill_18 h = rw (le-leb 2147483647 spills h)

  module _ (few : spills < 2147483647) (key : List ℕ) (e : key ≡ row_key parent kind (pos spills)) where
    pub spill_16 : full_for (record_size v) c key staged ≡ true → appending (Err 16) head staged ≡ spill_of (edition_of v) kind parent spills number c head staged
    unfolding spill_of
    spill_16 f = rw (lt-leb 2147483647 spills few, ← e, f)

    pub spill_done : full_for (record_size v) c key staged ≡ false → (n : ℕ) (s : ℤ) (head' : List ℤ) (staged' : List ℕ)
        → n ≡ count_after (find_key key (keys (record_size v) c.count staged)) c.count
        → staged' ≡ put_record (record_size v) c.count key (record_of (record_size v) key (header v kind parent (pos spills) ++ spill_bytes kind (take 512 head))) staged
        → head' ≡ one_number number head → s ≡ pos (spills + 1)
        → appending (Ok (counts_of 1 s, with_count n c)) head' staged' ≡ spill_of (edition_of v) kind parent spills number c head staged
    unfolding spill_of spilled
    spill_done f n s head' staged' p q r t = rw (lt-leb 2147483647 spills few, ← e, f, p, q, r, t)
