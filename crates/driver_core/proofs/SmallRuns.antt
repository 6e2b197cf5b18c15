-- A small batch and its undo, computed in bytes: box 7 is appended to parent 0, parent 0 credited with two tokens of different ids, box 8 spent (refused: it is not
-- there), box 7 spent; then all but the first call is undone.
use mathlib.Core.Path.{◌≡◌, refl}
use mathlib.Core.Bool.{true, false}
use mathlib.Core.List.{List, [], ◌∷◌, ◌++◌}
use Prim.Native.Nat.{ℕ}
use lib.IntN.{ℤ, pos, negsuc}
use lib.ListN.{get_or, replicate}
use Rattle.big_endian.specs.BigEndian.{value_of, value_at}
use Rattle.signed.specs.Checked.{checked}
use Rattle.stores.specs.Stores.{write}
use Rattle.stores.specs.Equal.{same_bytes}
use Rattle.records.specs.Records.{records}
use Rattle.records.specs.Find.{distinct, find_from}
use Rattle.records.specs.Changes.{clear_records, full_for}
use Rattle.records.specs.Checks.{records_ok, keys_ok}
use Rattle.records.specs.Checks as checks
use Rattle.index_types.specs.declared.ListCounts.{ListCounts}
use Rattle.balance.specs.Boxes.{buffers_ok, change_box}
use Rattle.balance.specs.Tokens.{place_from, add_token, subtract_token, change_tokens, closed_up}
use Rattle.buffer_core.specs.Append.{append_of, append_ok, append_core, spill_of}
use Rattle.buffer_core.specs.Pop.{lists, lists_ok, pop_of, pop_ok, pop_core}
use Rattle.buffer_core.specs.Flip.{flip_of, flip_ok, flip_core, flip_effect, in_order, in_rows, search_by, walk_from}
use Rattle.buffer_core.specs.Flush.{flush_of, flush_core, flushed, table_after, put_undeleted, remove_keys, new_count}
use Rattle.calls.specs.Calls.{number_at}
use Rattle.call_steps.specs.State.{State, state, lengths_ok, blocks_ok, state_ok}
use Rattle.call_steps.specs.Steps.{append_by, flip_by, pop_by, flush_by, step_of}
use Rattle.ledger.specs.Calls.{append, spend, credit, boxes, Call}
use Rattle.driver_core.specs.Steps.{token_ids, token_amounts, change_with}
use Rattle.driver_core.specs.Bytes.{tokens_at, item_at, journal, pushed, newest, standing}
use Rattle.driver_core.specs.Apply.{Applying, Undoing, apply_turns, apply_of, undo_turns, undo_of}

abbrev no_records : ListCounts
no_records = record { count = 0; capacity = 0 }

-- one parent with nothing in it, and lists without room
abbrev nothing : State
nothing = state (replicate 4128 0) (replicate 1153 (pos 0)) (replicate 3 0) (replicate 2 (pos 0)) (lists no_records [] no_records [] no_records [])

-- the two ids: they differ in the last byte only
abbrev first_id : List ℕ
first_id = replicate 31 9 ++ (1 ∷ [])

abbrev second_id : List ℕ
second_id = replicate 31 9 ++ (2 ∷ [])

-- kind, parent 0, a number below 256, and how many tokens
abbrev numbered : (kind number tokens : ℕ) → List ℕ
numbered k n t = k ∷ 0 ∷ 0 ∷ 0 ∷ 0 ∷ 0 ∷ 0 ∷ 0 ∷ 0 ∷ 0 ∷ 0 ∷ 0 ∷ n ∷ 0 ∷ 0 ∷ 0 ∷ t ∷ []

abbrev amount : ℕ → List ℕ
amount n = 0 ∷ 0 ∷ 0 ∷ 0 ∷ 0 ∷ 0 ∷ 0 ∷ n ∷ []

abbrev batch : List ℕ
batch = numbered 1 7 0 ++ numbered 8 10 2 ++ first_id ++ second_id ++ amount 3 ++ amount 4 ++ numbered 3 8 0 ++ numbered 3 7 0

abbrev applied : Applying
applied = apply_of true 1 batch nothing (journal (replicate 200 0) 0 0) (replicate 5 0) []

abbrev the_credit : Call
the_credit = credit 0 (pos 10) ((first_id, pos 3) ∷ (second_id, pos 4) ∷ [])

-- the first box place, nanoErgs, and the amounts of the first two tokens
abbrev held_by : State → List ℤ
held_by s = get_or s.numbers 0 (pos 0) ∷ get_or s.numbers 1152 (pos 0) ∷ get_or s.numbers 1024 (pos 0) ∷ get_or s.numbers 1025 (pos 0) ∷ []

-- the refused spend says 15; the journal has the accepted calls, the newest first; box 7 is spent
pub batch_applied : (applied.answers ≡ 0 ∷ 0 ∷ 15 ∷ 0 ∷ 0 ∷ []) × (applied.ended ≡ 1)
    × (standing 1 applied.kept.count applied.kept ≡ spend 0 (pos 7) ∷ the_credit ∷ append (boxes 0) (pos 7) ∷ [])
    × (held_by applied.now ≡ negsuc 6 ∷ pos 10 ∷ pos 3 ∷ pos 4 ∷ [])
unfolding standing newest apply_of apply_turns item_at tokens_at number_at value_at value_of state_ok blocks_ok lengths_ok checks.lengths_ok
    change_with token_ids token_amounts change_box buffers_ok checked change_tokens add_token subtract_token place_from same_bytes pushed write
    step_of append_by flip_by append_of append_ok append_core spill_of records_ok keys_ok lists_ok distinct records flip_of flip_ok flip_core flip_effect in_order in_rows search_by walk_from
batch_applied = (refl, refl, refl, refl)

-- undone to the first call: the spend, then the credit, with a flush before and behind them
abbrev undone : Undoing
undone = undo_of 1 1 applied.now applied.kept

-- box 7 stands unspent; no nanoErgs and no token are left
pub batch_undone : (undone.code ≡ 0) × (standing 1 undone.kept.count undone.kept ≡ append (boxes 0) (pos 7) ∷ [])
    × (held_by undone.now ≡ pos 7 ∷ pos 0 ∷ pos 0 ∷ pos 0 ∷ []) × (get_or undone.now.lengths 2 9 ≡ 0)
unfolding undo_of undo_turns standing newest apply_of apply_turns item_at tokens_at number_at value_at value_of state_ok blocks_ok lengths_ok checks.lengths_ok
    change_with token_ids token_amounts change_box buffers_ok checked change_tokens add_token subtract_token place_from same_bytes pushed write
    step_of append_by flip_by append_of append_ok append_core spill_of records_ok keys_ok lists_ok distinct records flip_of flip_ok flip_core flip_effect in_order in_rows search_by walk_from
    closed_up flush_by flush_of flush_core flushed table_after put_undeleted remove_keys new_count clear_records
batch_undone = (refl, refl, refl, refl)

-- without a journal: box 7 is appended, spent, unspent and popped, which answers its number; a box popped from nothing is refused by 19
abbrev named : Applying
named = apply_of false 1 (numbered 1 7 0 ++ numbered 3 7 0 ++ numbered 4 7 0 ++ numbered 5 0 0 ++ numbered 5 0 0) nothing (journal [] 0 0) (replicate 5 9) (replicate 5 (pos 9))

pub named_made : (named.answers ≡ 0 ∷ 0 ∷ 0 ∷ 0 ∷ 19 ∷ []) × (named.popped ≡ pos 0 ∷ pos 0 ∷ pos 0 ∷ pos 7 ∷ pos 0 ∷ []) × (named.kept ≡ journal [] 0 0)
unfolding apply_of apply_turns item_at number_at value_at value_of state_ok blocks_ok lengths_ok checks.lengths_ok step_of append_by flip_by pop_by append_of append_ok append_core spill_of
    records_ok keys_ok lists_ok distinct records flip_of flip_ok flip_core flip_effect in_order in_rows search_by walk_from pop_of pop_ok pop_core
named_made = (refl, refl, refl)

-- beside a journal a pop is no call
pub pop_refused : (apply_of true 1 (numbered 5 0 0) nothing (journal [] 0 0) (9 ∷ []) []).ended ≡ 31
unfolding apply_of apply_turns item_at value_of state_ok blocks_ok lengths_ok checks.lengths_ok records_ok keys_ok lists_ok distinct records
pop_refused = refl

-- a head of 512 boxes and no room for a staged row: the append says 16, and the batch stops in front of it, behind the one call that was made
abbrev full : State
full = state (replicate 4128 0) (replicate 1153 (pos 0)) (512 ∷ 0 ∷ 0 ∷ []) (replicate 2 (pos 0)) (lists no_records [] no_records [] no_records [])

abbrev stopping : Applying
stopping = apply_of true 1 (numbered 2 5 0 ++ numbered 1 7 0 ++ numbered 2 6 0) full (journal (replicate 60 0) 0 0) (replicate 3 9) []

pub full_stopped : (stopping.ended ≡ 16) × (stopping.at ≡ 17) × (stopping.made ≡ 1) × (stopping.answers ≡ 0 ∷ 9 ∷ 9 ∷ [])
unfolding apply_of apply_turns item_at number_at value_at value_of state_ok blocks_ok lengths_ok checks.lengths_ok step_of append_by append_of append_ok append_core spill_of
    records_ok keys_ok lists_ok distinct records pushed write full_for find_from
full_stopped = (refl, refl, refl, refl)
