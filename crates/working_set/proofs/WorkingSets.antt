-- The laws of a working set, in either edition.
use mathlib.Core.List.{List}
use Prim.Native.Nat.{ℕ}
use mathlib.Core.Path.{refl, sym, ◌∙◌}
use Rattle.records.specs.Records.{records}
use Rattle.records.specs.Find.{find_from}
use lib.ListN.{replicate, length-replicate}
use Rattle.index_types.specs.declared.RowEdition.{RowEdition}
use Rattle.buffer_core.specs.Edition.{Edition, edition_of}
use Rattle.buffer_core.specs.Pop.{Lists, lists}
use Rattle.ledger.specs.Ledger.{Parent}
use Rattle.history.specs.EditionLaws.{EditionLaws}
use Rattle.history.proofs.Editions.{edition_laws}
use Rattle.working_set.specs.Part.{held_in}
use Rattle.working_set.specs.Store.{transaction}
use Rattle.working_set.specs.Laws.{WorkingSet, WorkFlushLaw, EmptyLaw}
use Rattle.working_set.proofs.Outcomes.{count_law}
use Rattle.working_set.proofs.Places.{absent_held}
use Rattle.working_set.proofs.Searches.{halving_law}
use Rattle.working_set.proofs.CallLaws.{flip_law, pop_law, tally_law, page_law, inspect_law}
use Rattle.working_set.proofs.FetchLaws.{fetch_law, progress_law}
use Rattle.working_set.proofs.FlushLaws.{flush_law, kept_law}

module _ (E : Edition) (ids : Parent → List ℕ) (L : EditionLaws E ids) where
  work_flush_law : WorkFlushLaw E
  unfolding transaction
  work_flush_law c staged wc work tc table e deleted wo to wr room part key row h =
      let b : Lists = lists c staged wc work e deleted in
      let d : Lists = lists c staged tc table e deleted in
      (flush_law E ids L d to room).1 key
      ∙ kept_law E ids L b (held_in E.size wc.count work) (held_in E.size tc.count table) part key row (sym ((flush_law E ids L b wo wr).1 key) ∙ h)

  empty_law : EmptyLaw E
  unfolding held_in records find_from
  empty_law cap work tc table key row h = absurd (absent_held refl h)

-- an edition's laws are of the parents' ids in use; those that are cited here are of sizes alone
abbrev zero_ids : Parent → List ℕ
zero_ids p = replicate 32 0

pub working_sets : (v : RowEdition) → WorkingSet (edition_of v)
working_sets v =
    let E = edition_of v in
    let L = edition_laws v zero_ids (λ p. length-replicate {A = ℕ} 32 0) in
    record {
      spends_and_unspends = flip_law E;
      pops = pop_law E;
      tallies = tally_law E;
      pages = page_law E;
      inspections = inspect_law E;
      fetches = fetch_law E zero_ids L;
      progress = progress_law E;
      halving = halving_law;
      counting = count_law;
      flushes = flush_law E zero_ids L;
      keeping = kept_law E zero_ids L;
      work_flushes = work_flush_law E zero_ids L;
      empty_sets = empty_law E zero_ids L;
    }
