-- The fork-undo theorem of the calls with summaries, that 25 never arises, that after every history each summary is the one made afresh, and the tally
-- over it that over the rows.
use mathlib.Core.Path.{◌≡◌}
use mathlib.Core.Bool.{true, ◌&&◌}
use mathlib.Core.List.{List}
use Prim.Native.Nat.{ℕ}
use native.Mathlib.Omega.{arith}
use Rattle.records.specs.Checks.{records_ok}
use Rattle.records.proofs.CheckLaws.{and_true, records_ok_test}
use Rattle.buffer_core.specs.Edition.{Edition, edition_of}
use Rattle.buffer_core.specs.Spills.{head_ok}
use Rattle.buffer_core.specs.Flip.{row_checked, flip_ok}
use Rattle.buffer_core.proofs.ListLaws.{lists_fit}
use Rattle.summary_core.proofs.MakingLaws.{rows_all}
use Rattle.summary_core.proofs.CurrentLaws.{tally_current}
use Rattle.ledger.specs.Ledger.{Parent, Series, boxes}
use Rattle.ledger.specs.Run.{Machine, Step}
use Rattle.ledger.specs.Run as Mc
use Rattle.fork_model.proofs.OperationLaws as Op
use Rattle.fork_model.proofs.Whole as Wh
use Rattle.fork_model.proofs.GoodStore as Gs
use Rattle.history.specs.Index.{Index, sources_of}
use Rattle.history.specs.Machine.{Borrowed}
use Rattle.history.specs.ForkUndo.{Places}
use Rattle.history.specs.EditionLaws.{EditionLaws}
use Rattle.history.proofs.Sim as Sm
use Rattle.history.proofs.IndexTheorem as Ix
use Rattle.history.proofs.Editions.{edition_laws}
use Rattle.history.proofs.ForkUndoLaw as Fk
use Rattle.history_summaries.specs.Summaries.{SummaryIndex, BorrowedSummaries}
use Rattle.history_summaries.specs.Promises.{Current, SummaryTheorem, SummaryNeverBroken, SummariesCurrent, SummaryTallies}
use Rattle.history_summaries.proofs.Right as Ri
use Rattle.history_summaries.proofs.Right.{AllRight}
use Rattle.history_summaries.proofs.Simulation as Si

module _ (E : Edition) (ids : Parent → List ℕ) (L : EditionLaws E ids) (B : Borrowed E) (s : Parent → Places) (Z : BorrowedSummaries) where
  abbrev Q : Wh.Balances
  Q = Fk.Q E ids L B s

  abbrev pub N : Machine
  N = Si.N E ids L B s Z Q

  abbrev pub K : Machine
  K = Si.K E ids L B s Z Q

  abbrev pub GoodB : Q.Bal → Type 0
  GoodB = Fk.GoodB E ids L B s

  abbrev pub Tidy : Index → Type 0
  Tidy b = Gs.Tidy (Ix.W E ids L B s Q) (Ix.code E ids L B s Q) (λ ch k. ⊥) (Ix.abs E ids L B s Q b)

  abbrev pub Fine : (Series → ℕ → Type 0) → Index → Type 0
  Fine U = Si.Fine E ids L B s Z Q U

  -- the laws of the plain machine
  plain_laws : (U : Series → ℕ → Type 0) → Mc.KeysApart N U → Op.Laws N U (Fine U) Tidy GoodB
  plain_laws =
      Sm.lowered (Ix.M E ids L B s Q) (Ix.N E ids L B s Q) (Ix.abs E ids L B s Q) (Ix.Inv E ids L B s Q)
      (Gs.Tidy (Ix.W E ids L B s Q) (Ix.code E ids L B s Q) (λ ch k. ⊥)) (Gs.Good (Ix.W E ids L B s Q) (Ix.code E ids L B s Q)) GoodB
      (Wh.store_laws (Ix.W E ids L B s Q) Q (Ix.code E ids L B s Q) GoodB (Fk.balance_laws E ids L B s)) (λ U k. Ix.sims E ids L B s Q U)

  -- those of the machine with summaries
  pub kept_laws : (U : Series → ℕ → Type 0) → Mc.KeysApart N U → Op.Laws K U (λ b. AllRight E ids Z.lines b × Fine U b.index) (λ b. Tidy b.index) GoodB
  kept_laws = Sm.lowered N K (λ b. b.index) (AllRight E ids Z.lines) Tidy Fine GoodB plain_laws (Si.simulation E ids L B s Z Q)

  pub kept_theorem : Mc.ForkUndo K
  kept_theorem = Sm.fork_undo N K (λ b. b.index) (AllRight E ids Z.lines) Tidy Fine GoodB plain_laws (Si.simulation E ids L B s Z Q)

  pub kept_never_25 : Mc.Never25 K
  kept_never_25 = Sm.never_25 N K (λ b. b.index) (AllRight E ids Z.lines) Tidy Fine GoodB plain_laws (Si.simulation E ids L B s Z Q)

  -- head and rows pass where the numbers do not fall
  module _ (U : Series → ℕ → Type 0) (apart : Mc.KeysApart N U) (b : SummaryIndex) (R : AllRight E ids Z.lines b) (F : Fine U b.index) (q : Parent) (sorted : Op.InOrder N b.index q) where
    fits : flip_ok E (b.index.parts (boxes q)).head b.index.lists.staged_counts b.index.lists.staged b.index.lists.table_counts b.index.lists.table (b.index.parts (boxes q)).places ≡ true
    unfolding flip_ok
    fits =
        let f = lists_fit E b.index.lists F.0.lists_in in
        let x = records_ok E.size E.limit b.index.lists.staged_counts b.index.lists.staged in
        let y = records_ok E.size E.limit b.index.lists.table_counts b.index.lists.table in
        and_true (head_ok (b.index.parts (boxes q)).head (b.index.parts (boxes q)).places) (x && y) (F.0.heads_in (boxes q))
        (and_true x y (records_ok_test E.size E.limit b.index.lists.staged_counts b.index.lists.staged f.in_staged)
        (records_ok_test E.size E.limit b.index.lists.table_counts b.index.lists.table f.in_table))

    pub kept_current : Current E ids Z.lines b q
    kept_current =
        let rows = rows_all (row_checked E (sources_of E ids b.index (boxes q))) 0 (Ri.spills_of E ids Z.lines b q)
        (λ i g h. let r = Si.row_passes E ids L B s Z Q U apart b R F q sorted i (omega arith) in (r.0, r.1)) in
        Ri.current E ids Z.lines b q
        (record {
          fits = fits;
          in_order = Si.head_passes E ids L B s Z Q U apart b R F q sorted;
          not_below = F.0.not_below (boxes q);
          numbers = rows.0;
          rows = rows.1;
        }) (R q)

  pub kept_after : (ss : List Step) → Mc.Legal K (Mc.start K) ss → Mc.KeysApart K (Mc.InUse K (Mc.start K) ss) → (q : Parent) → Current E ids Z.lines (Mc.run K (Mc.start K) ss).now.store q
  kept_after ss l k q =
      let U = Mc.InUse K (Mc.start K) ss in
      let f = Sm.fine_after N K (λ b. b.index) (AllRight E ids Z.lines) Tidy Fine GoodB plain_laws (Si.simulation E ids L B s Z Q) ss l k in
      let o = Sm.order_after N K (λ b. b.index) (AllRight E ids Z.lines) Tidy Fine GoodB plain_laws (Si.simulation E ids L B s Z Q) ss l k q in
      kept_current U k (Mc.run K (Mc.start K) ss).now.store f.0 f.1 q o

pub summary_theorem : SummaryTheorem
summary_theorem v ids long B s Z = kept_theorem (edition_of v) ids (edition_laws v ids long) B s Z

pub summary_never_broken : SummaryNeverBroken
summary_never_broken v ids long B s Z = kept_never_25 (edition_of v) ids (edition_laws v ids long) B s Z

pub summaries_current : SummariesCurrent
summaries_current v ids long B s Z = kept_after (edition_of v) ids (edition_laws v ids long) B s Z

pub summary_tallies : SummaryTallies
summary_tallies v ids long B s Z ss l k q =
    let b = (Mc.run (K (edition_of v) ids (edition_laws v ids long) B s Z) (Mc.start (K (edition_of v) ids (edition_laws v ids long) B s Z)) ss).now.store in
    tally_current (edition_of v) (ids q) (b.index.parts (boxes q)).head b.index.lists.staged_counts b.index.lists.staged b.index.lists.table_counts b.index.lists.table
    (b.index.parts (boxes q)).places (Z.lines q) (b.summaries q) (summaries_current v ids long B s Z ss l k q)
