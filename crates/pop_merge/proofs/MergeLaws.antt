-- Laws of a row merged back: a record that leaves a list, and the whole step.
use Prim.Native.Nat.{ℕ, ◌-◌}
use mathlib.Core.Path.{◌≡◌}
use mathlib.Core.List.{List}
use lib.IntN.{ℤ, pos}
use Rattle.stores.specs.Stores.{write}
use Rattle.std.specs.Prelude.{Option, Some, None, Ok}
use Rattle.index_types.specs.declared.ListCounts.{ListCounts}
use Rattle.records.specs.Records.{keys}
use Rattle.records.specs.Find.{find_key}
use Rattle.records.specs.Changes.{count_after, with_count, put_record, remove_record}
use Rattle.index_types.specs.declared.RowEdition.{RowEdition}
use Rattle.buffer_core.specs.Edition.{record_size}
use Rattle.buffer_core.specs.Append.{counts_of}
use Rattle.buffer_core.specs.Pop.{popping, count_without, bytes_without, last_of, without_last, merged}
use Rattle.pop_merge.specs.Internal.{Merges}

-- ---- a key's record leaves a list

module _ (size : ℕ) (c : ListCounts) (l : List ℕ) (f g : Option ℕ) (e : f ≡ g) where
  pub without_at : (i : ℕ) → f ≡ Some i → (l' : List ℕ) → l' ≡ remove_record size c.count i l
      → (with_count (c.count - 1) c ≡ count_without g c) × (l' ≡ bytes_without size g c l)
  without_at i d l' q = (rw (← e, d), rw (← e, d) q)

  pub without_none : f ≡ None → (c ≡ count_without g c) × (l ≡ bytes_without size g c l)
  without_none d = (rw (← e, d), rw (← e, d))

-- ---- a row is merged back

module _ (ed : RowEdition) (list : List ℤ) (n spills : ℕ) (key : List ℕ) (c : ListCounts) (staged : List ℕ) (e : ListCounts) (deleted : List ℕ) (head : List ℤ) where
  pub merge_done : (h₁ h₂ : List ℤ) (v s : ℤ) (c' : ListCounts) (staged' : List ℕ) (m : ℕ) (deleted' : List ℕ) → h₁ ≡ write 0 list head
      → v ≡ last_of n h₁ → h₂ ≡ without_last n h₁ → s ≡ pos spills
      → c' ≡ count_without (find_key key (keys (record_size ed) c.count staged)) c → staged' ≡ bytes_without (record_size ed) (find_key key (keys (record_size ed) c.count staged)) c staged
      → m ≡ count_after (find_key key (keys 32 e.count deleted)) e.count → deleted' ≡ put_record 32 e.count key key deleted
      → Merges ed list n spills key c staged e deleted head (popping (Ok (v, counts_of (n - 1) s, c', with_count m e)) h₂ staged' deleted')
  unfolding merged
  merge_done h₁ h₂ v s c' staged' m deleted' e₁ e₂ e₃ e₄ e₅ e₆ e₇ e₈ zs d table p q = rw (e₂, e₃, e₁, e₄, e₅, e₆, e₇, e₈, p, q)
