-- What is promised of summaries: they stay current, fork undo of the calls with summaries, that the summaries are current after every history, and that with
-- lines enough a history with summaries is the one without.
use Rattle.std.specs.Prelude.{◌≡◌, ◌≢◌, List, ℕ, suc, ◌<◌, ℤ, pos, nat_abs, length, Ok}
use Rattle.index_types.specs.declared.RowEdition.{RowEdition}
use Rattle.index_types.specs.declared.Tally.{Tally}
use Rattle.buffer_core.specs.declared.Direction.{Direction}
use Rattle.buffer_core.specs.Edition.{Edition, edition_of}
use Rattle.summary_core.specs.Lines.{with_summary}
use Rattle.ledger.specs.Ledger.{Parent, Series, boxes}
use Rattle.ledger.specs.Run.{accepted, Popped, Machine, Step}
use Rattle.ledger.specs.Run as Run
use Rattle.history.specs.Index.{kind_of, id_of}
use Rattle.history.specs.Machine.{Borrowed}
use Rattle.history.specs.ForkUndo.{Places, index_machine}
use Rattle.history_summaries.specs.Summaries.{SummaryIndex, append_kept, pop_kept, flip_with, append_without, pop_without, flip_without, flush_without, afresh, tallied_with, tallied, BorrowedSummaries, summary_machine}

-- ---- summaries stay current, whatever the heads, lists and summaries hold

module _ (E : Edition) (ids : Parent → List ℕ) (lines : Parent → ℕ) where
  -- "no two spills share a key"
  abbrev pub Apart : SummaryIndex → Type 0
  Apart b =
      (d e : Series) (s t : ℕ) → s < nat_abs (b.index.parts d).head.spills → t < nat_abs (b.index.parts e).head.spills
      → E.key (kind_of d) (id_of E ids d) (pos s) ≡ E.key (kind_of e) (id_of E ids e) (pos t) → (d ≡ e) × (s ≡ t)

  -- "head and rows pass the checks of a spend": a tally makes them, of the head and of every row, and is accepted
  abbrev pub Passes : SummaryIndex → Parent → Type 0
  Passes b q = (t : Tally) × (tallied E ids lines b q ≡ Ok t)

  -- "it equalled the summary made afresh": making it is accepted and changes nothing
  abbrev pub Current : SummaryIndex → Parent → Type 0
  Current b q = afresh E ids lines b q ≡ with_summary (Ok tt) (b.summaries q)

  -- "If it equalled the summary made afresh before an accepted call, it does so after, where .. head and rows pass the checks of a spend each time, and no two
  -- spills share a key": of one parent's summary, from b before the call to c after it
  abbrev pub StaysCurrent : Parent → SummaryIndex → SummaryIndex → Type 0
  StaysCurrent q b c = Apart b → Apart c → Passes c q → Current b q → Current c q

  -- "where its parent's box calls are lent it": of a call with a summary it stays current, and of a call lent none if it is not a box call of its parent
  pub record SummariesStay : Type 0 where
    pub append : (b c : SummaryIndex) (ch : Series) (n : ℤ) → append_kept E ids lines b ch n ≡ accepted c → (q : Parent) → StaysCurrent q b c
    pub pop : (b : SummaryIndex) (ch : Series) (r : Popped SummaryIndex) → pop_kept E ids lines b ch ≡ accepted r → (q : Parent) → StaysCurrent q b r.left
    pub flip : (b c : SummaryIndex) (d : Direction) (p : Parent) (t : ℤ) → flip_with E ids lines d b p t ≡ accepted c → (q : Parent) → StaysCurrent q b c
    pub flush : (b c : SummaryIndex) → flush_without E ids lines b ≡ accepted c → (q : Parent) → StaysCurrent q b c
    pub append_other : (b c : SummaryIndex) (ch : Series) (n : ℤ) → append_without E ids lines b ch n ≡ accepted c → (q : Parent) → ch ≢ boxes q → StaysCurrent q b c
    pub pop_other : (b : SummaryIndex) (ch : Series) (r : Popped SummaryIndex) → pop_without E ids lines b ch ≡ accepted r → (q : Parent) → ch ≢ boxes q → StaysCurrent q b r.left
    pub flip_other : (b c : SummaryIndex) (d : Direction) (p : Parent) (t : ℤ) → flip_without E ids lines d b p t ≡ accepted c → (q : Parent) → p ≢ q → StaysCurrent q b c

-- in either edition, for all parents' ids of 32 bytes and all capacities
abbrev pub SummaryLaw : Type 0
SummaryLaw = (v : RowEdition) (ids : Parent → List ℕ) → ((p : Parent) → length (ids p) ≡ 32) → (lines : Parent → ℕ) → SummariesStay (edition_of v) ids lines

-- ---- histories

module _ (v : RowEdition) (ids : Parent → List ℕ) (B : Borrowed (edition_of v)) (s : Parent → Places) (Z : BorrowedSummaries) where
  -- the machine with summaries, and the one without
  abbrev pub K : Machine
  K = summary_machine (edition_of v) ids B s Z

  abbrev pub N : Machine
  N = index_machine (edition_of v) ids B s

  -- the same list of steps run by each
  abbrev pub with_all : List Step → Run.Conf K
  with_all ss = Run.run K (Run.start K) ss

  abbrev pub without : List Step → Run.Conf N
  without ss = Run.run N (Run.start N) ss

  -- after every legal list head and rows of every parent pass, and its summary is the one made afresh
  abbrev pub CurrentAfter : Type 0
  CurrentAfter =
      (ss : List Step) → Run.Legal K (Run.start K) ss → Run.KeysApart K (Run.InUse K (Run.start K) ss)
      → (q : Parent) → Current (edition_of v) ids Z.lines (with_all ss).now.store q

  -- and the tally over it is the tally over the rows
  abbrev pub TallyAfter : Type 0
  TallyAfter =
      (ss : List Step) → Run.Legal K (Run.start K) ss → Run.KeysApart K (Run.InUse K (Run.start K) ss)
      → (q : Parent) → tallied_with (edition_of v) ids Z.lines (with_all ss).now.store q ≡ tallied (edition_of v) ids Z.lines (with_all ss).now.store q

  -- a list runs with summaries as it does without
  pub record SameRun (ss : List Step) : Type 0 where
    pub legal : Run.Legal K (Run.start K) ss
    pub in_use : (ch : Series) (n : ℕ) → Run.InUse K (Run.start K) ss ch n → Run.InUse N (Run.start N) ss ch n
    pub index : (with_all ss).now.store.index ≡ (without ss).now.store
    pub balances : (with_all ss).now.bals ≡ (without ss).now.bals
    pub standing : (with_all ss).standing ≡ (without ss).standing
    pub answers : Run.answers K (Run.start K) ss ≡ Run.answers N (Run.start N) ss

  -- every parent has a line more than box rows in use
  abbrev pub LinesEnough : List Step → Type 0
  LinesEnough ss = (p : Parent) → (0 < Z.lines p) × ((n : ℕ) → Run.InUse N (Run.start N) ss (boxes p) n → suc n < Z.lines p)

  abbrev pub SameRuns : Type 0
  SameRuns = (ss : List Step) → Run.Legal N (Run.start N) ss → Run.KeysApart N (Run.InUse N (Run.start N) ss) → LinesEnough ss → SameRun ss

-- in either edition, for all parents' ids of 32 bytes, all borrowed buffers, and all summaries that are zero at first
abbrev pub OfAll : ((v : RowEdition) (ids : Parent → List ℕ) (B : Borrowed (edition_of v)) → (Parent → Places) → BorrowedSummaries → Type 0) → Type 0
OfAll P =
    (v : RowEdition) (ids : Parent → List ℕ) → ((p : Parent) → length (ids p) ≡ 32)
    → (B : Borrowed (edition_of v)) (s : Parent → Places) (Z : BorrowedSummaries) → P v ids B s Z

-- "fork undo of one summary per parent"
abbrev pub SummaryTheorem : Type 0
SummaryTheorem = OfAll (λ v ids B s Z. Run.ForkUndo (K v ids B s Z))

-- "A refusal .. changes nothing", the summary included
abbrev pub SummaryRefusals : Type 0
SummaryRefusals = OfAll (λ v ids B s Z. Run.RefusalsLeave (K v ids B s Z))

-- no call, undo or flush of a legal list is refused with 25
abbrev pub SummaryNeverBroken : Type 0
SummaryNeverBroken = OfAll (λ v ids B s Z. Run.Never25 (K v ids B s Z))

abbrev pub SummariesCurrent : Type 0
SummariesCurrent = OfAll CurrentAfter

abbrev pub SummaryTallies : Type 0
SummaryTallies = OfAll TallyAfter

abbrev pub SameAsWithout : Type 0
SameAsWithout = OfAll SameRuns
