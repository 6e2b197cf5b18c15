-- The runner's state holds of a parent what the machine of the fork-undo theorem holds, so that the same standing calls give it.
use mathlib.Core.Path.{◌≡◌, refl, sym, subst}
use mathlib.Core.List.{List}
use Prim.Native.Nat.{ℕ, ◌<◌}
use lib.ListN.{length}
use Rattle.index_types.specs.declared.RowEdition.TheVariants.{One}
use Rattle.balance.specs.declared.Balance.{Balance}
use Rattle.buffer_core.specs.Edition.{edition_1}
use Rattle.buffer_core.specs.Pop.{Lists}
use Rattle.call_steps.specs.State.{State}
use Rattle.ledger.specs.Ledger.{Parent, Series, boxes, txs, Call}
use Rattle.ledger.specs.Run as Run
use Rattle.history.specs.Index.{Part, index}
use Rattle.history.specs.Machine.{Borrowed}
use Rattle.history.specs.ForkUndo.{Places}
use Rattle.history_runs.specs.View.{ids_in, part_in, balance_in}
use Rattle.history_runs.specs.Runs.{M, Holds}
use Rattle.copies.specs.Copies.{Copy, tally_by, no_summaries, Buffers, copy_by}
use Rattle.copies.proofs.ServerLaws.{Given}
use Rattle.copies_runs.specs.Runs.{copy_of}

-- a copy in which every parent has what one parent has
abbrev of_kind : Part → Part → Series → Part
of_kind b t (boxes q) = b
of_kind b t (txs q) = t

abbrev one_parent : List ℕ → (b t : Part) → Lists → Balance → Copy
one_parent id b t l h = record {
  edition = edition_1;
  ids = λ q. id;
  index = index (of_kind b t) l;
  balances = λ q. h;
  summary_tally = λ q. tally_by edition_1 (λ r. id) (index (of_kind b t) l) q;
}

module _ (parents : ℕ) (ids : Parent → List ℕ) (long : (p : Parent) → length (ids p) ≡ 32) (B : Borrowed edition_1) (places : Parent → Places) where
  abbrev pub own : Buffers
  own = record { edition = One; ids = ids; ids_in = long; buffers = B; places = places; keeping = no_summaries }

  module _ (σ : Run.State (M parents ids B places)) (s : State) (h : Holds parents ids B places σ s) (p : Parent) (among : p < parents) (cs : List Call) where
    machines : Copy
    machines = one_parent (ids p) (σ.store.parts (boxes p)) (σ.store.parts (txs p)) σ.store.lists (σ.bals p)

    runners : Copy
    runners = one_parent (ids_in s p) (part_in s (boxes p)) (part_in s (txs p)) s.lists (balance_in s p)

    same : runners ≡ machines
    unfolding runners machines
    same = λ i. one_parent (h.names p among i) (h.parts (boxes p) among i) (h.parts (txs p) among i) (h.lists i) (h.balances p among i)

    pub given_held : Given cs (copy_by own no_summaries σ) p → Given cs (copy_of s) p
    unfolding runners machines
    given_held g =
        let m : Given cs machines p = record {
          box_numbers = g.box_numbers;
          tx_numbers = g.tx_numbers;
          copies = g.copies;
          nanos = g.nanos;
          amounts = g.amounts;
          passes = g.passes;
          summed = refl;
        } in
        let r : Given cs runners p = subst (λ (x : Copy). Given cs x p) (sym same) m in
        record {
          box_numbers = r.box_numbers;
          tx_numbers = r.tx_numbers;
          copies = r.copies;
          nanos = r.nanos;
          amounts = r.amounts;
          passes = r.passes;
          summed = refl;
        }
