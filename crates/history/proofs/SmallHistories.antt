-- Small histories, computed by the machine of the theorem: what a wrong undo would break.
use mathlib.Core.Path.{◌≡◌, refl}
use mathlib.Core.List.{List, [], ◌∷◌, ◌++◌}
use Prim.Native.Nat.{ℕ, zero, suc, ◌<◌}
use native.Mathlib.Omega.{arith}
use native.Mathlib.Decide.{ℕ_discrete}
use lib.IntN.{ℤ, pos, negsuc}
use lib.ListN.{length, get_or, take, replicate, length-replicate}
use Rattle.stores.specs.Stores.{write}
use Rattle.stores.specs.Equal.{same_bytes}
use Rattle.records.specs.Records.{records, stored_row, record_of}
use Rattle.records.specs.Find.{find_from, distinct}
use Rattle.records.specs.Changes.{clear_records}
use Rattle.records.specs.Checks.{lengths_ok, records_ok, keys_ok}
use Rattle.buffer_core.specs.declared.Direction.{Direction}
use Rattle.buffer_core.specs.declared.Direction.TheVariants.{Spend, Unspend}
use Rattle.index_types.specs.declared.RowEdition.{RowEdition}
use Rattle.index_types.specs.declared.RowEdition.TheVariants.{One}
use Rattle.buffer_core.specs.Edition.{Edition, good, edition_of, edition_1}
use Rattle.buffer_core.specs.Spills.{place_at, spill_read}
use Rattle.buffer_core.specs.Append.{counts_of, append_of, append_ok, append_core, spill_of}
use Rattle.buffer_core.specs.Pop.{lists, pop_of, pop_ok, pop_core, lists_ok}
use Rattle.buffer_core.specs.Flip.{flip_of, flip_ok, flip_core, flip_effect, in_order, in_rows, search_by, walk_from, look_in, stage_at, row_flipped}
use Rattle.buffer_core.specs.Flush.{flush_of, flush_core, flushed, table_after, put_undeleted, put_staged, remove_key, remove_keys, new_count}
use Rattle.buffer_core.proofs.SmallCalls.{short_records, staged_row_lists, marked_rows, marked_row}
use Rattle.ledger.specs.Ledger.{Parent, Series, boxes, ite, series_dec, Call}
use Rattle.ledger.specs.Run.{done, Made, accepted, refused_leaving, Machine, Step, undo, flush, State, Undone, Popped, start, run, run_undo, StepsOk, flat}
use Rattle.fork_model.proofs.SmallHistories.{append_box, spend_box, boxes_after}
use Rattle.history.specs.Index.{Index, index, part, do_pop, do_flip, do_flush, row_of_spill, entries_of}
use Rattle.history.specs.Machine.{Borrowed}
use Rattle.history.specs.ForkUndo.{Places, index_machine}
use Rattle.history.specs.Sound.{Sound}

-- heads of 512 places, lists without room
abbrev pub heads_only : (v : RowEdition) → Borrowed (edition_of v)
heads_only v = record {
  table_cap = 0;
  staged_cap = 0;
  deleted_cap = 0;
  places = λ ch. replicate 512 (pos 0);
  table = [];
  staged = [];
  deleted = [];
  places_in = λ ch. omega (arith, length-replicate {A = ℤ} 512 (pos 0));
  table_in = omega arith;
  staged_in = omega arith;
  deleted_in = omega arith;
}

module _ (s : Parent → Places) where
  abbrev M : Machine
  M = index_machine edition_1 (λ p. []) (heads_only One) s

  -- what the undo of the newest standing call answers, after the steps
  abbrev answer_of : Made (State M) (Undone M) → List ℤ
  answer_of (accepted u) = u.answer
  answer_of (refused_leaving k σ) = []

  abbrev answer_to : State M → List Call → List ℤ
  answer_to σ [] = []
  answer_to σ (a ∷ cs) = answer_of (run_undo M σ a)

  abbrev undo_answer : List Step → List ℤ
  undo_answer ss = answer_to (run M (start M) ss).now (run M (start M) ss).standing

  -- one undo takes one mark off, and the right one: neither none nor all
  pub one_spend_undone : boxes_after M (append_box 5 ∷ append_box 6 ∷ spend_box 5 ∷ spend_box 6 ∷ flush ∷ undo ∷ []) ≡ negsuc 4 ∷ pos 6 ∷ []
  unfolding run flat ite series_dec ℕ_discrete append_of append_ok append_core spill_of records_ok lengths_ok distinct records
      flip_of flip_ok flip_core flip_effect in_order in_rows search_by walk_from flush_of flush_core flushed table_after put_undeleted remove_keys new_count lists_ok keys_ok clear_records write
  one_spend_undone = refl

  -- one undone append takes one number off, and answers it
  pub one_append_undone : boxes_after M (append_box 5 ∷ append_box 6 ∷ flush ∷ undo ∷ []) ≡ pos 5 ∷ []
  unfolding run flat ite series_dec ℕ_discrete append_of append_ok append_core spill_of records_ok lengths_ok distinct records
      pop_of pop_ok pop_core flush_of flush_core flushed table_after put_undeleted remove_keys new_count lists_ok keys_ok clear_records write
  one_append_undone = refl

  pub undone_append_answers : undo_answer (append_box 5 ∷ append_box 6 ∷ flush ∷ []) ≡ pos 6 ∷ []
  unfolding run flat ite series_dec ℕ_discrete append_of append_ok append_core spill_of records_ok lengths_ok distinct records
      pop_of pop_ok pop_core flush_of flush_core flushed table_after put_undeleted remove_keys new_count lists_ok keys_ok clear_records write
  undone_append_answers = refl

  -- "no box number is appended while its spent count is above 0": without this rule the theorem is false. The second 5 is appended while the first is spent;
  -- both are spent then, the undo of the second spend takes the mark off the first 5, and the undo of the append answers -5
  abbrev appended_while_spent : List Step
  appended_while_spent = append_box 5 ∷ spend_box 5 ∷ append_box 5 ∷ spend_box 5 ∷ flush ∷ undo ∷ undo ∷ []

  pub rule_needed : StepsOk M (start M) appended_while_spent → ⊥
  unfolding StepsOk run flat ite series_dec ℕ_discrete append_of append_ok append_core spill_of records_ok lengths_ok distinct records
      flip_of flip_ok flip_core flip_effect in_order in_rows search_by walk_from pop_of pop_ok pop_core flush_of flush_core flushed table_after put_undeleted remove_keys new_count lists_ok keys_ok clear_records write
  rule_needed h =
      let e : ◌≡◌ {A = List ℤ} (negsuc 4 ∷ []) (pos 5 ∷ []) = h.1.1.1.1.1.1.0 in
      let z : ◌≡◌ {A = ℕ} 0 1 = cc in
      omega arith

-- ---- rows: computed with records of 36 bytes

-- one staged row, its key (32 zeros) deleted or not, and a table that has room for it
abbrev staged_row : (deleted : ℕ) → Index
staged_row n =
    index (λ ch. part (counts_of 0 (pos 0)) []) (staged_row_lists n)

abbrev after_flush : (Index → ℕ) → ℕ → ℕ
after_flush f n = of_answer (do_flush short_records (λ p. []) (staged_row n))
  where
    of_answer : Made Index Index → ℕ
    of_answer (accepted b) = f b
    of_answer (refused_leaving k b) = k

-- "Staged rows whose key is not deleted are written"
pub row_written : after_flush (λ b. b.lists.table_counts.count) 0 ≡ 1
unfolding flush_of flush_core flushed table_after put_undeleted put_staged remove_key remove_keys new_count lists_ok records_ok keys_ok lengths_ok distinct records find_from same_bytes
row_written = refl

pub deleted_row_left_out : after_flush (λ b. b.lists.table_counts.count) 1 ≡ 0
unfolding flush_of flush_core flushed table_after put_undeleted put_staged remove_key remove_keys new_count lists_ok records_ok keys_ok lengths_ok distinct records find_from same_bytes
deleted_row_left_out = refl

-- "staging and deletion list end empty"
pub deletion_list_emptied : after_flush (λ b. b.lists.deleted_counts.count) 1 ≡ 0
unfolding flush_of flush_core flushed table_after put_undeleted put_staged remove_key remove_keys new_count lists_ok records_ok keys_ok lengths_ok distinct records find_from same_bytes
deletion_list_emptied = refl

pub staging_emptied : after_flush (λ b. b.lists.staged_counts.count) 0 ≡ 0
unfolding flush_of flush_core flushed table_after put_undeleted put_staged remove_key remove_keys new_count lists_ok records_ok keys_ok lengths_ok distinct records find_from same_bytes
staging_emptied = refl

-- ---- a spend in a row, with rows of one byte
-- one row of parent 0 in the table, an empty head, and room for one staged row
abbrev one_row : (mark : ℕ) → Index
one_row m =
    index (λ ch. part (counts_of 0 (pos 1)) (replicate 512 (pos 0)))
    (lists (record { count = 0; capacity = 1 }) (replicate 36 0) (record { count = 1; capacity = 1 }) (marked_row m) (record { count = 0; capacity = 0 }) [])

-- the first number of the row, as it reads after the call
abbrev first_after : Direction → ℕ → List ℤ
first_after d m = of_answer (do_flip marked_rows (λ p. []) d (one_row m) 0 (pos 5))
  where
    of_answer : Made Index Index → List ℤ
    of_answer (accepted b) = take 1 (entries_of marked_rows (λ p. []) b (boxes 0))
    of_answer (refused_leaving k b) = []

pub spent_in_a_row : first_after Spend 0 ≡ negsuc 4 ∷ []
unfolding flat ite series_dec ℕ_discrete flip_of flip_ok flip_core flip_effect in_order in_rows search_by walk_from look_in stage_at row_flipped place_at spill_read records_ok lengths_ok distinct records find_from stored_row record_of same_bytes write
spent_in_a_row = refl

pub unspent_in_a_row : first_after Unspend 1 ≡ pos 5 ∷ []
unfolding flat ite series_dec ℕ_discrete flip_of flip_ok flip_core flip_effect in_order in_rows search_by walk_from look_in stage_at row_flipped place_at spill_read records_ok lengths_ok distinct records find_from stored_row record_of same_bytes write
unspent_in_a_row = refl

-- ---- what a refused pop leaves: "A refusal .. changes nothing"
-- no number to pop, and one deleted key
abbrev nothing_to_pop : Index
nothing_to_pop = index (λ ch. part (counts_of 0 (pos 0)) (replicate 512 (pos 0))) (staged_row_lists 1)

-- the refusal, then the deleted spills
abbrev deleted_after_pop : List ℕ
deleted_after_pop = of_answer (do_pop short_records (λ p. []) nothing_to_pop (boxes 0))
  where
    of_answer : Made Index (Popped Index) → List ℕ
    of_answer (accepted r) = []
    of_answer (refused_leaving k b) = k ∷ b.lists.deleted

pub refused_pop_leaves : deleted_after_pop ≡ 19 ∷ replicate 32 0
unfolding pop_of pop_ok pop_core lists_ok records_ok keys_ok lengths_ok distinct records find_from same_bytes
refused_pop_leaves = refl

-- ---- the index with one row is sound: the row holds 512 numbers
pub one_row_sound : Sound marked_rows (λ p. []) (one_row 0)
unfolding place_at spill_read lists_ok records_ok keys_ok lengths_ok distinct records find_from stored_row record_of same_bytes
one_row_sound = record { heads = λ ch. refl; lists = refl; counts = λ ch. refl; rows = full }
  where
    full : (ch : Series) (n : ℕ) → n < 1 → (zs : List ℤ) × (row_of_spill marked_rows (λ p. []) (one_row 0) ch n ≡ done zs) × (length zs ≡ 512)
    full ch zero h = (pos 5 ∷ replicate 511 (pos 5), refl, refl)
    full ch (suc n) h = absurd (omega arith)
