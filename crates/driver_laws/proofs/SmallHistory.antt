-- A small history with a fork, computed in bytes: boxes 7 and 9 are appended; the second is undone; box 8 is appended and box 7 spent.
use mathlib.Core.Path.{◌≡◌, refl}
use mathlib.Core.List.{List, [], ◌∷◌, ◌++◌}
use lib.IntN.{pos}
use lib.ListN.{replicate}
use Rattle.big_endian.specs.BigEndian.{eight_bytes, value_of, value_at}
use Rattle.stores.specs.Stores.{write}
use Rattle.records.specs.Records.{records}
use Rattle.records.specs.Find.{distinct}
use Rattle.records.specs.Changes.{clear_records}
use Rattle.records.specs.Checks.{records_ok, keys_ok}
use Rattle.records.specs.Checks as checks
use Rattle.index_types.specs.declared.ListCounts.{ListCounts}
use Rattle.buffer_core.specs.Append.{append_of, append_ok, append_core, spill_of}
use Rattle.buffer_core.specs.Pop.{lists, lists_ok, pop_of, pop_ok, pop_core}
use Rattle.buffer_core.specs.Flip.{flip_of, flip_ok, flip_core, flip_effect, in_order, in_rows, search_by, walk_from}
use Rattle.buffer_core.specs.Flush.{flush_of, flush_core, flushed, table_after, put_undeleted, remove_keys, new_count}
use Rattle.calls.specs.Calls.{number_at}
use Rattle.call_steps.specs.State.{State, state, lengths_ok, blocks_ok, state_ok}
use Rattle.call_steps.specs.Steps.{append_by, flip_by, pop_by, flush_by, step_of}
use Rattle.ledger.specs.Calls.{append, spend, boxes}
use Rattle.ledger.specs.Run.{Step, call, undo, flush}
use Rattle.driver_core.specs.Steps.{token_ids}
use Rattle.driver_core.specs.Bytes.{tokens_at, item_at, items_at, pushed, newest, standing}
use Rattle.driver_core.specs.Apply.{apply_turns, apply_of, undo_turns, undo_of}
use Rattle.driver_laws.specs.Driver.{undos, undo_to}
use Rattle.driver_laws.specs.Operations.{undos_steps, undo_to_steps}
use Rattle.driver_laws.specs.Spelling.{four_bytes, amount_bytes_of, spelled}
use Rattle.driver_laws.specs.Theorem.{Work, batch, undo_down, Given, calls_of, do_all, all_steps, begun}

abbrev no_records : ListCounts
no_records = record { count = 0; capacity = 0 }

-- one parent with nothing in it, and lists without room
abbrev nothing : State
nothing = state (replicate 4128 0) (replicate 1153 (pos 0)) (replicate 3 0) (replicate 2 (pos 0)) (lists no_records [] no_records [] no_records [])

abbrev first : List Step
first = call (append (boxes 0) (pos 7)) ∷ call (append (boxes 0) (pos 9)) ∷ []

abbrev second : List Step
second = call (append (boxes 0) (pos 8)) ∷ call (spend 0 (pos 7)) ∷ []

abbrev works : List Work
works = batch (spelled first) (replicate 2 0) [] ∷ undo_down 1 ∷ batch (spelled second) (replicate 2 0) [] ∷ []

abbrev start : Given
start = begun nothing (replicate 60 1)

-- the undo makes the flushes at the change
pub history_made : (all_steps 1 start works ≡ first ++ (flush ∷ undo ∷ flush ∷ second))
    × (calls_of 1 (do_all 1 start works) ≡ spend 0 (pos 7) ∷ append (boxes 0) (pos 8) ∷ append (boxes 0) (pos 7) ∷ [])
unfolding all_steps do_all spelled four_bytes amount_bytes_of token_ids eight_bytes undo_to_steps undos_steps undo_to undos items_at
    undo_of undo_turns standing newest apply_of apply_turns item_at tokens_at number_at value_at value_of state_ok blocks_ok lengths_ok checks.lengths_ok pushed write
    step_of append_by flip_by pop_by append_of append_ok append_core spill_of records_ok keys_ok lists_ok distinct records flip_of flip_ok flip_core flip_effect in_order in_rows search_by walk_from
    pop_of pop_ok pop_core flush_by flush_of flush_core flushed table_after put_undeleted remove_keys new_count clear_records
history_made = (refl, refl)
