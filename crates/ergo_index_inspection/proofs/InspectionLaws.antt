-- The ways out of the exports on spill rows. r is what the public call located.
use Prim.Native.Nat.{ℕ, ◌+◌, ◌*◌, ◌≤◌}
use mathlib.Core.Path.{◌≡◌, refl, ap, ◌∙◌}
use mathlib.Core.List.{List}
use lib.ListN.{length}
use Rattle.index_types.specs.declared.RowEdition.{RowEdition}
use Rattle.records.specs.Find.{row_at}
use Rattle.buffer_core.specs.Edition.{record_size, row_limit_of}
use Rattle.spill_places.specs.declared.Located.{Located}
use Rattle.spill_places.specs.declared.Located.TheVariants as located
use Rattle.spill_places.specs.Inspection.{locate_row, located_code, located_row, inspect_code, inspect_row}
use Rattle.spill_places.proofs.LocateLaws.{staged_within, table_within, code_located, inspect_located}
use Rattle.ergo_index_lists.specs.Lists.{list_of}
use Rattle.ergo_index_inspection.specs.Inspection.{locate_out, locate_call, inspect_out, inspect_call}

module _ (v : RowEdition) (s sc : ℕ) (staged : List ℕ) (t tc : ℕ) (table key : List ℕ) (r : Located)
    (e : r ≡ locate_row (record_size v) (row_limit_of v) (list_of s sc) staged (list_of t tc) table key) where
  -- ---- the record
  module _ (list index : ℕ) where
    pub locate_staged : (i : ℕ) → r ≡ located.Staged i → locate_out 0 1 i ≡ locate_call v s sc staged t tc table key list index
    locate_staged i f = rw (← e, f)

    pub locate_table : (i : ℕ) → r ≡ located.Table i → locate_out 0 2 i ≡ locate_call v s sc staged t tc table key list index
    locate_table i f = rw (← e, f)

    pub locate_missing : r ≡ located.Missing → locate_out 0 0 0 ≡ locate_call v s sc staged t tc table key list index
    locate_missing f = rw (← e, f)

    pub locate_refused : (code : ℕ) → r ≡ located.Refused code → locate_out code list index ≡ locate_call v s sc staged t tc table key list index
    locate_refused code f = rw (← e, f)

  -- ---- the row, which lies within its list; p and q are where it begins and how long it is

  pub staged_in : (i : ℕ) → r ≡ located.Staged i → i * record_size v + record_size v ≤ length staged
  staged_in i f = staged_within (record_size v) (row_limit_of v) (list_of s sc) staged (list_of t tc) table key r i e f

  pub table_in : (i : ℕ) → r ≡ located.Table i → i * record_size v + record_size v ≤ length table
  table_in i f = table_within (record_size v) (row_limit_of v) (list_of s sc) staged (list_of t tc) table key r i e f

  module _ (list offset size : ℕ) where
    code_is : located_code r ≡ inspect_code (record_size v) (row_limit_of v) (list_of s sc) staged (list_of t tc) table key
    code_is = code_located (record_size v) (row_limit_of v) (list_of s sc) staged (list_of t tc) table key r e

    shown_is : (x : Located) → r ≡ x → located_row (record_size v) staged table x ≡ inspect_row (record_size v) (row_limit_of v) (list_of s sc) staged (list_of t tc) table key
    shown_is x f = inspect_located (record_size v) (row_limit_of v) (list_of s sc) staged (list_of t tc) table key r x e f

    pub inspect_staged : (i p q : ℕ) → r ≡ located.Staged i → p ≡ i * record_size v + 34 → q ≡ length (row_at (record_size v) i staged)
        → inspect_out 0 1 p q ≡ inspect_call v s sc staged t tc table key list offset size
    inspect_staged i p q f h k = rw (← code_is, ← e, f, h, k ∙ ap length (shown_is (located.Staged i) f)) refl

    pub inspect_table : (i p q : ℕ) → r ≡ located.Table i → p ≡ i * record_size v + 34 → q ≡ length (row_at (record_size v) i table)
        → inspect_out 0 2 p q ≡ inspect_call v s sc staged t tc table key list offset size
    inspect_table i p q f h k = rw (← code_is, ← e, f, h, k ∙ ap length (shown_is (located.Table i) f)) refl

    pub inspect_missing : r ≡ located.Missing → inspect_out 12 list offset size ≡ inspect_call v s sc staged t tc table key list offset size
    inspect_missing f = rw (← code_is, ← e, f)

    pub inspect_refused : (c : ℕ) → r ≡ located.Refused c → inspect_out c list offset size ≡ inspect_call v s sc staged t tc table key list offset size
    inspect_refused c f = rw (← code_is, ← e, f)
