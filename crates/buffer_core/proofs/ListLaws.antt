-- What refusal 25 asks of the three lists, as facts and back; a list from which a key's record was taken still passes.
use Prim.Native.Nat.{ℕ}
use mathlib.Core.Path.{◌≡◌, refl}
use mathlib.Core.Bool.{Bool, true, ◌&&◌}
use mathlib.Core.List.{List}
use Rattle.std.specs.Prelude.{Option, Some, None}
use Rattle.index_types.specs.declared.ListCounts.{ListCounts}
use Rattle.records.specs.Records.{keys}
use Rattle.records.specs.Find.{find_key}
use Rattle.records.specs.Checks.{records_ok, keys_ok, RecordsOk, KeysOk}
use Rattle.records.proofs.TurnLaws.{found_in}
use Rattle.records.proofs.CheckLaws.{and_left, and_right, and_true, records_ok_facts, records_ok_test, records_ok_after_remove, keys_ok_facts, keys_ok_test}
use Rattle.buffer_core.specs.Edition.{Edition}
use Rattle.buffer_core.specs.Pop.{Lists, count_without, bytes_without, lists_ok}

pub record ListsFit (E : Edition) (b : Lists) : Type 0 where
  pub in_staged : RecordsOk E.size E.limit b.staged_counts b.staged
  pub in_table : RecordsOk E.size E.limit b.table_counts b.table
  pub in_deleted : KeysOk b.deleted_counts b.deleted

module _ (E : Edition) (b : Lists) where
  abbrev A : Bool
  A = records_ok E.size E.limit b.staged_counts b.staged

  abbrev B : Bool
  B = records_ok E.size E.limit b.table_counts b.table

  abbrev D : Bool
  D = keys_ok b.deleted_counts b.deleted

  pub lists_fit : lists_ok E b ≡ true → ListsFit E b
  unfolding lists_ok
  lists_fit h = record {
    in_staged = records_ok_facts _ _ _ _ (and_left A (B && D) h);
    in_table = records_ok_facts _ _ _ _ (and_left B D (and_right A (B && D) h));
    in_deleted = keys_ok_facts _ _ (and_right B D (and_right A (B && D) h));
  }

  pub fit_lists : ListsFit E b → lists_ok E b ≡ true
  unfolding lists_ok
  fit_lists f = and_true A (B && D) (records_ok_test _ _ _ _ f.in_staged) (and_true B D (records_ok_test _ _ _ _ f.in_table) (keys_ok_test _ _ f.in_deleted))

-- a key's record leaves a list that passes
pub without_ok : (size limit : ℕ) (key : List ℕ) (c : ListCounts) (l : List ℕ) → RecordsOk size limit c l
    → RecordsOk size limit (count_without (find_key key (keys size c.count l)) c) (bytes_without size (find_key key (keys size c.count l)) c l)
without_ok size limit key c l ok = by_found (find_key key (keys size c.count l)) refl
  where
    by_found : (f : Option ℕ) → f ≡ find_key key (keys size c.count l) → RecordsOk size limit (count_without f c) (bytes_without size f c l)
    by_found (Some i) e = records_ok_after_remove size limit i c l (found_in key size c.count l i (Some i) e refl) ok
    by_found None e = ok
