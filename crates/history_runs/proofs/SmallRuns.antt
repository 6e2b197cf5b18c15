-- Small runs, computed: what the runner says and holds beside what the machine of the theorem answers and holds.
use mathlib.Core.Path.{◌≡◌, refl}
use mathlib.Core.Bool.{true, false}
use mathlib.Core.List.{List, [], ◌∷◌, map}
use Prim.Native.Nat.{ℕ, suc}
use native.Mathlib.Omega.{arith}
use native.Mathlib.Decide.{ℕ_discrete}
use lib.IntN.{ℤ, pos, negsuc}
use lib.ListN.{replicate}
use Rattle.big_endian.specs.BigEndian.{value_of, value_at}
use Rattle.signed.specs.Checked.{checked}
use Rattle.stores.specs.Stores.{write}
use Rattle.stores.specs.Equal.{same_bytes}
use Rattle.records.specs.Records.{records}
use Rattle.records.specs.Find.{distinct}
use Rattle.records.specs.Changes.{clear_records}
use Rattle.records.specs.Checks.{records_ok, keys_ok}
use Rattle.records.specs.Checks as checks
use Rattle.segment_id.specs.declared.Kind.TheVariants.{Box}
use Rattle.balance.specs.declared.Balance.{Balance}
use Rattle.balance.specs.Boxes.{buffers_ok, change_box}
use Rattle.balance.specs.Tokens.{place_from, add_token, subtract_token, change_tokens}
use Rattle.buffer_core.specs.declared.Direction.TheVariants.{Spend, Unspend}
use Rattle.index_types.specs.declared.RowEdition.TheVariants.{One}
use Rattle.buffer_core.specs.Edition.{edition_1}
use Rattle.buffer_core.specs.Append.{append_of, append_ok, append_core, spill_of}
use Rattle.buffer_core.specs.Pop.{lists, pop_of, pop_ok, pop_core, lists_ok}
use Rattle.buffer_core.specs.Flip.{flip_of, flip_ok, flip_core, flip_effect, in_order, in_rows, search_by, walk_from}
use Rattle.buffer_core.specs.Flush.{flush_of, flush_core, flushed, table_after, put_undeleted, remove_keys, new_count}
use Rattle.calls.specs.declared.Call.{Call}
use Rattle.calls.specs.declared.Call.TheVariants.{Append, Flip, Pop, Flush}
use Rattle.calls.specs.Calls.{call_at, of_kind, with_parent, with_number, with_token, number_at}
use Rattle.call_steps.specs.declared.Said.{Said}
use Rattle.call_steps.specs.State.{State, state, lengths_ok, blocks_ok, state_ok}
use Rattle.call_steps.specs.Steps.{accepted, refused, number_popped, change_of, append_by, flip_by, pop_by, flush_by, step_of}
use Rattle.runner.specs.Run.{Run, turn_of, runs, run_of}
use Rattle.call_runs.specs.Made.{said_from, Stand}
use Rattle.ledger.specs.Ledger.{Parent, boxes, ite, series_dec, append, spend}
use Rattle.ledger.specs.Run.{Made, Step, call, undo, flush, flat, answers}
use Rattle.ledger.specs.Run as Mc
use Rattle.history.specs.Index.{entries_of}
use Rattle.history.specs.Machine.{none_of}
use Rattle.history.specs.ForkUndo.{Places}
use Rattle.history.proofs.SmallHistories.{heads_only}
use Rattle.history_runs.specs.View.{ids_in, filled, view, balance_in, changed, one_token}
use Rattle.history_runs.specs.Runs.{Piece, in_pieces, said_in_pieces, says_of, M, Spells}

-- two parents with nothing in them, and lists without room
abbrev nothing : State
nothing = state (replicate 8256 0) (replicate 2306 (pos 0)) (replicate 6 0) (replicate 4 (pos 0)) (lists (none_of 0) [] (none_of 0) [] (none_of 0) [])

-- kind, parent and a number below 256
abbrev numbered : (kind parent number : ℕ) → List ℕ → List ℕ
numbered k p n rest = k ∷ p ∷ 0 ∷ 0 ∷ 0 ∷ 0 ∷ 0 ∷ 0 ∷ 0 ∷ n ∷ rest

-- of parent 1: append 5; a spend of 6, which is not there; spend 5; flush; unspend 5; pop
abbrev input : List ℕ
input = numbered 1 1 5 (numbered 3 1 6 (numbered 3 1 5 (7 ∷ numbered 4 1 5 (5 ∷ 1 ∷ []))))

abbrev calls : List Call
calls = Append Box 1 (pos 5) ∷ Flip Spend 1 (pos 6) ∷ Flip Spend 1 (pos 5) ∷ Flush ∷ Flip Unspend 1 (pos 5) ∷ Pop Box 1 ∷ []

abbrev steps : List Step
steps = call (append (boxes 1) (pos 5)) ∷ call (spend 1 (pos 6)) ∷ call (spend 1 (pos 5)) ∷ flush ∷ undo ∷ undo ∷ []

abbrev out : Run
out = run_of edition_1 2 input nothing (replicate 12 0) (replicate 6 (pos 0))

abbrev said_by_run : List Said
said_by_run = accepted ∷ refused 15 ∷ accepted ∷ accepted ∷ accepted ∷ number_popped (pos 5) ∷ []

pub run_says : said_from out.answers out.popped 0 6 ≡ said_by_run
unfolding run_of runs turn_of call_at of_kind with_parent with_number number_at value_at value_of state_ok blocks_ok lengths_ok checks.lengths_ok said_from
    step_of append_by flip_by pop_by flush_by append_of append_ok append_core spill_of records_ok keys_ok lists_ok distinct records
    flip_of flip_ok flip_core flip_effect in_order in_rows search_by walk_from pop_of pop_ok pop_core flush_of flush_core flushed table_after put_undeleted remove_keys new_count clear_records write
run_says = refl

-- the calls of the input are those, and spell the steps
pub calls_stand : Stand 2 input 0 calls
unfolding Stand call_at of_kind with_parent with_number number_at value_at value_of
calls_stand = (refl, sized, (refl, sized, (refl, sized, (refl, sized, (refl, sized, (refl, sized, refl))))))
  where
    sized : {n : ℕ} → ◌≡◌ {A = ℕ} (suc n) 0 → ⊥
    sized e = omega (arith, e)

-- of parent 1, append 5; of parent 0, append 4
abbrev one_each : Run
one_each = run_of edition_1 2 (numbered 1 1 5 (numbered 1 0 4 [])) nothing (replicate 4 0) (replicate 2 (pos 0))

-- each parent has its own head
pub own_heads : entries_of edition_1 (ids_in one_each.now) (view one_each.now) (boxes 1) ≡ pos 5 ∷ []
unfolding run_of runs turn_of call_at of_kind with_parent with_number number_at value_at value_of state_ok blocks_ok lengths_ok checks.lengths_ok
    step_of append_by append_of append_ok append_core spill_of records_ok keys_ok lists_ok distinct records flat
own_heads = refl

-- the same append, cut behind its fifth byte
abbrev halves : List Piece
halves =
    record { bytes = 1 ∷ 1 ∷ 0 ∷ 0 ∷ 0 ∷ []; answers = replicate 2 0; popped = replicate 1 (pos 0) }
    ∷ record { bytes = 0 ∷ 0 ∷ 0 ∷ 0 ∷ 5 ∷ []; answers = replicate 2 0; popped = replicate 1 (pos 0) }
    ∷ []

pub halves_made : entries_of edition_1 (ids_in (in_pieces 2 nothing [] halves)) (view (in_pieces 2 nothing [] halves)) (boxes 1) ≡ pos 5 ∷ []
unfolding in_pieces run_of runs turn_of call_at of_kind with_parent with_number number_at value_at value_of state_ok blocks_ok lengths_ok checks.lengths_ok
    step_of append_by append_of append_ok append_core spill_of records_ok keys_ok lists_ok distinct records flat
halves_made = refl

pub halves_say : said_in_pieces 2 nothing [] halves ≡ accepted ∷ []
unfolding said_in_pieces said_from run_of runs turn_of call_at of_kind with_parent with_number number_at value_at value_of state_ok blocks_ok lengths_ok checks.lengths_ok
    step_of append_by append_of append_ok append_core spill_of records_ok keys_ok lists_ok distinct records
halves_say = refl

-- ---- of parent 1, a credit of 10 nanoErgs and 2 of the token 7, then a debit of 4 and 1

-- kind, parent 1, nanoErgs, token 7 and amount
abbrev paying : (kind nanos amount : ℕ) → List ℕ → List ℕ
paying k n v rest = numbered k 1 n (7 ∷ 0 ∷ 0 ∷ 0 ∷ 0 ∷ 0 ∷ 0 ∷ 0 ∷ v ∷ rest)

abbrev paid : Run
paid = run_of edition_1 2 (paying 8 10 2 (paying 9 4 1 [])) nothing (replicate 4 0) (replicate 2 (pos 0))

pub six_left_by_run : (balance_in paid.now 1).nanos ≡ pos 6
unfolding run_of runs turn_of call_at of_kind with_parent with_token number_at value_at value_of state_ok blocks_ok lengths_ok checks.lengths_ok records_ok keys_ok lists_ok distinct records
    step_of change_of change_box buffers_ok checked change_tokens add_token subtract_token place_from same_bytes write
six_left_by_run = refl

-- the debit, as the machine makes it
abbrev nanos_of : Made Balance Balance → ℤ
nanos_of (Mc.accepted b) = b.nanos
nanos_of (Mc.refused_leaving k b) = pos k

abbrev ten : Balance
ten = record { ids = replicate 4096 7; amounts = pos 2 ∷ replicate 127 (pos 0); count = 1; nanos = pos 10 }

pub six_left : nanos_of (changed false ten (pos 4) (one_token 7 (pos 1))) ≡ pos 6
unfolding change_box buffers_ok checked change_tokens add_token subtract_token place_from same_bytes
six_left = refl

module _ (places : Parent → Places) where
  abbrev W : Mc.Machine
  W = M 2 (filled (ids_in nothing)) (heads_only One) places

  -- what the runner says is what the steps answer
  pub steps_answer : map says_of (answers W (Mc.start W) steps) ≡ said_by_run
  unfolding answers ite series_dec ℕ_discrete append_of append_ok append_core spill_of records_ok checks.lengths_ok keys_ok lists_ok distinct records
      flip_of flip_ok flip_core flip_effect in_order in_rows search_by walk_from pop_of pop_ok pop_core flush_of flush_core flushed table_after put_undeleted remove_keys new_count clear_records write
  steps_answer = refl

  pub calls_spell : Spells 2 (filled (ids_in nothing)) (heads_only One) places (Mc.start W) steps calls
  unfolding Spells ite series_dec ℕ_discrete append_of append_ok append_core spill_of records_ok checks.lengths_ok keys_ok lists_ok distinct records
      flip_of flip_ok flip_core flip_effect in_order in_rows search_by walk_from pop_of pop_ok pop_core flush_of flush_core flushed table_after put_undeleted remove_keys new_count clear_records write
  calls_spell = ((omega arith, refl), ((omega arith, refl), ((omega arith, refl), (refl, ((omega arith, refl), ((omega arith, refl), tt))))))
