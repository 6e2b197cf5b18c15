-- The fork-undo theorem of what the runner does, from an empty state.
use mathlib.Core.Path.{◌≡◌, refl, sym, ◌∙◌}
use mathlib.Core.List.{List, ◌++◌}
use Prim.Native.Nat.{ℕ, ◌≤◌, ◌<◌}
use native.Mathlib.Omega.{arith}
use native.Mathlib.Decide.{dec_lt}
use lib.IntN.{ℤ, pos}
use lib.ListN.{length, replicate, length-append, length-replicate}
use lib.Seq.{take-append-le, take_all, length-take-le}
use Rattle.index_types.specs.declared.ListCounts.{ListCounts}
use Rattle.buffer_core.specs.Edition.{edition_1}
use Rattle.buffer_core.specs.Pop.{lists}
use Rattle.buffer_core.proofs.ListLaws.{lists_fit}
use Rattle.calls.specs.declared.Call.{Call}
use Rattle.call_steps.specs.State.{State}
use Rattle.call_steps.proofs.KeepLaws.{within, id_long}
use Rattle.ledger.specs.Ledger.{Parent, Series, parent_of, ite}
use Rattle.ledger.specs.Run.{Step}
use Rattle.ledger.specs.Run as Run
use Rattle.ledger.proofs.TestLaws.{ite_yes}
use Rattle.history.specs.Index.{part}
use Rattle.history.specs.Machine.{Borrowed, none_of}
use Rattle.history.specs.ForkUndo.{Places}
use Rattle.history_runs.specs.View.{ids_in, filled, part_in}
use Rattle.call_runs.specs.Made.{made, heard}
use Rattle.history_runs.specs.Runs.{M, Holds, Spells, StepsSaid, Agrees, Empty, borrowed_places}
use Rattle.history_runs.proofs.ViewLaws.{head_long}
use Rattle.history_runs.proofs.HoldLaws.{fork_undo_runs}

-- ids of 32 bytes for every parent; where there were 32, the same
pub filled_long : (ids : Parent → List ℕ) (p : Parent) → length (filled ids p) ≡ 32
filled_long ids p = length-take-le 32 (ids p ++ replicate 32 0) (omega (arith, length-append (ids p) (replicate 32 0), length-replicate {A = ℕ} 32 0))

pub filled_same : (ids : Parent → List ℕ) (p : Parent) → length (ids p) ≡ 32 → filled ids p ≡ ids p
filled_same ids p e = take-append-le 32 (ids p) (replicate 32 0) (omega arith) ∙ take_all 32 (ids p) (omega arith)

module _ (parents : ℕ) (places : Parent → Places) (s : State) (E : Empty parents places s) where
  pub places_long : (ch : Series) → 512 ≤ length (borrowed_places parents s ch)
  unfolding ite
  places_long ch = by_parent (dec_lt (parent_of ch) parents)
    where
      by_parent : (t : Dec (parent_of ch < parents)) → 512 ≤ length (ite t (part_in s ch).places (replicate 512 (pos 0)))
      by_parent (yes h) = omega (arith, head_long s ch (within parents s E.ready (parent_of ch) h))
      by_parent (no h) = omega (arith, length-replicate {A = ℤ} 512 (pos 0))

  -- what the machine of the theorem borrows is what the state lends
  unfoldable pub borrowed : Borrowed edition_1
  borrowed =
      let f = lists_fit edition_1 s.lists E.ready.listed in
      record {
        table_cap = s.lists.table_counts.capacity;
        staged_cap = s.lists.staged_counts.capacity;
        deleted_cap = s.lists.deleted_counts.capacity;
        places = borrowed_places parents s;
        table = s.lists.table;
        staged = s.lists.staged;
        deleted = s.lists.deleted;
        places_in = places_long;
        table_in = f.in_table.bounds.room;
        staged_in = f.in_staged.bounds.room;
        deleted_in = f.in_deleted.bounds.room;
      }

  none : (c : ListCounts) → c.count ≡ 0 → c ≡ none_of c.capacity
  none c e = λ i. record { count = e i; capacity = c.capacity }

  pub start_holds : Holds parents (filled (ids_in s)) borrowed places (Run.start (M parents (filled (ids_in s)) borrowed places)).now s
  unfolding borrowed
  start_holds =
      let b = s.lists in
      record {
        ready = E.ready;
        names = λ p h. sym (filled_same (ids_in s) p (id_long parents s E.ready p h));
        parts = λ ch h. (λ i. part (E.parts ch h i) (sym (ite_yes (dec_lt (parent_of ch) parents) (part_in s ch).places (replicate 512 (pos 0)) h) i));
        lists = λ i. lists (none b.staged_counts E.staged i) b.staged (none b.table_counts E.table i) b.table (none b.deleted_counts E.deleted i) b.deleted;
        balances = E.balances;
      }

  -- the machine whose parents' ids and buffers are those of the state; the id of a parent that it has not is filled up
  abbrev pub W : Run.Machine
  W = M parents (filled (ids_in s)) borrowed places

  -- for every empty state and all calls that spell a legal list of steps in which no two row keys in use are equal: every undo says what it should, and
  -- afterwards the state holds exactly what the standing calls alone give
  pub fork_undo_from_empty : (ts : List Step) (xs : List Call) → Spells parents (filled (ids_in s)) borrowed places (Run.start W) ts xs → Run.Legal W (Run.start W) ts
      → Run.KeysApart W (Run.InUse W (Run.start W) ts)
      → StepsSaid parents (filled (ids_in s)) borrowed places (Run.start W) s ts xs (heard xs s) × Agrees parents (Run.run W (Run.start W) ts).standing (made xs s)
  fork_undo_from_empty = fork_undo_runs parents (filled (ids_in s)) borrowed places (filled_long (ids_in s)) s start_holds
