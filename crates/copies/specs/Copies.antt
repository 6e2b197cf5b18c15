-- "Take one history on each of two servers, both within the terms of fork undo, whose standing calls are the same. Both servers must give the same box and
-- transaction numbers, spent copies, tallies, token amounts and statement figures. Where no box number stands twice among the appends to a parent, their
-- signed entries and their pages must be equal too." (document 02, U13)
use Rattle.std.specs.Prelude.{◌≡◌, ℕ, ◌<◌, ℤ, nat_abs, length, Ok}
use mathlib.Core.List.{List, [], ◌∷◌, map, Memᴰ}
use Rattle.entries.specs.Tally.{figures}
use Rattle.index_types.specs.declared.RowEdition.{RowEdition}
use Rattle.index_types.specs.Answers.{Tallied}
use Rattle.balance.specs.declared.Balance.{Balance}
use Rattle.statement.specs.Statement.{milli_ergs}
use Rattle.buffer_core.specs.Edition.{Edition, edition_of}
use Rattle.buffer_core.specs.Tally.{tally_of}
use Rattle.buffer_core.specs.Page.{Paging, page_of}
use Rattle.balance_laws.specs.Calls.{tokens_in}
use Rattle.ledger.specs.Ledger.{TokenId, Parent, Series, boxes, txs, Call, absℤ, amount_in, ledger_numbers}
use Rattle.ledger.specs.Run.{Machine, Step, negs}
use Rattle.ledger.specs.Run as Run
use Rattle.history.specs.Index.{Index, Part, entries_of}
use Rattle.history.specs.Machine.{Borrowed}
use Rattle.history.specs.ForkUndo.{Places, index_machine}
use Rattle.history_summaries.specs.Summaries.{BorrowedSummaries, tallied_with, summary_machine}

-- ---- what a server holds of the accounts, and what it answers of a parent
pub record Copy : Type 0 where
  pub edition : Edition
  pub ids : Parent → List ℕ
  pub index : Index
  pub balances : Parent → Balance
  -- the tally over the parent's summary; where the server keeps none, the tally over the rows
  pub summary_tally : Parent → Tallied

-- the signed entries, "spill 0 up with rows as inspection shows them, then the head"
abbrev pub entries_in : Copy → Series → List ℤ
entries_in x ch = entries_of x.edition x.ids x.index ch

-- the tally over the rows, as the contract of `tally` defines it
abbrev pub tally_by : Edition → (ids : Parent → List ℕ) → Index → Parent → Tallied
tally_by E ids b p =
    tally_of E (ids p) (b.parts (boxes p)).head b.lists.staged_counts b.lists.staged b.lists.table_counts b.lists.table
    (b.parts (boxes p)).places

abbrev pub tally_in : Copy → Parent → Tallied
tally_in x p = tally_by x.edition x.ids x.index p

-- a page, as the contract of `unspent_page` defines it: the answer, and the borrowed list `out` at exit
abbrev pub page_in : Copy → Parent → (offset n : ℕ) → (out : List ℤ) → Paging
page_in x p offset n out =
    page_of x.edition (x.ids p) (x.index.parts (boxes p)).head x.index.lists.staged_counts x.index.lists.staged
    x.index.lists.table_counts x.index.lists.table (x.index.parts (boxes p)).places offset n out

-- "token amounts": 0 if absent
abbrev pub amount_at : Copy → Parent → TokenId → ℤ
amount_at x p t = amount_in (tokens_in (x.balances p)) t

-- "statement figures"
abbrev pub figure_at : Copy → Parent → ℤ
figure_at x p = milli_ergs (x.balances p).nanos

-- ---- a server, "within the terms of fork undo"

-- whether it keeps a summary of each parent's box spills, and which it borrowed
pub data Keeping : Type 0 where
  no_summaries : Keeping
  summaries : BorrowedSummaries → Keeping

-- what it borrowed at first: rows of either edition, all capacities, whatever the buffers hold, and parents' ids of 32 bytes
pub record Buffers : Type 0 where
  pub edition : RowEdition
  pub ids : Parent → List ℕ
  pub ids_in : (p : Parent) → length (ids p) ≡ 32
  pub buffers : Borrowed (edition_of edition)
  pub places : Parent → Places
  pub keeping : Keeping

-- the machine of the fork-undo theorem, without and with summaries
abbrev pub machine_by : Buffers → Keeping → Machine
machine_by l no_summaries = index_machine (edition_of l.edition) l.ids l.buffers l.places
machine_by l (summaries Z) = summary_machine (edition_of l.edition) l.ids l.buffers l.places Z

abbrev pub machine_of : Buffers → Machine
machine_of l = machine_by l l.keeping

-- the list of calls, undos and flushes that it has seen: legal, and no two row keys in use are equal
pub record Server : Type 0 where
  pub own : Buffers
  pub steps : List Step
  pub legal : Run.Legal (machine_of own) (Run.start (machine_of own)) steps
  pub apart : Run.KeysApart (machine_of own) (Run.InUse (machine_of own) (Run.start (machine_of own)) steps)

-- what the list has left
abbrev pub left_at : (a : Server) → Run.Conf (machine_of a.own)
left_at a = Run.run (machine_of a.own) (Run.start (machine_of a.own)) a.steps

abbrev pub standing_at : Server → List Call
standing_at a = (left_at a).standing

abbrev pub copy_by : (l : Buffers) (k : Keeping) → Run.State (machine_by l k) → Copy
copy_by l no_summaries σ = record {
  edition = edition_of l.edition;
  ids = l.ids;
  index = σ.store;
  balances = σ.bals;
  summary_tally = λ p. tally_by (edition_of l.edition) l.ids σ.store p;
}
copy_by l (summaries Z) σ = record {
  edition = edition_of l.edition;
  ids = l.ids;
  index = σ.store.index;
  balances = σ.bals;
  summary_tally = λ p. tallied_with (edition_of l.edition) l.ids Z.lines σ.store p;
}

abbrev pub copy_at : Server → Copy
copy_at a = copy_by a.own a.own.keeping (left_at a).now

-- ---- the theorem

-- of a parent, "Both servers must give the same box and transaction numbers, spent copies, tallies, token amounts and statement figures"
pub record Alike (x y : Copy) (p : Parent) : Type 0 where
  pub box_numbers : map absℤ (entries_in x (boxes p)) ≡ map absℤ (entries_in y (boxes p))
  pub tx_numbers : map absℤ (entries_in x (txs p)) ≡ map absℤ (entries_in y (txs p))
  -- of each number above 0: a spent 0 stays 0
  pub copies : (n : ℕ) → 0 < n → negs n (entries_in x (boxes p)) ≡ negs n (entries_in y (boxes p))
  -- a tally is not refused: its three figures are those of the entries
  pub counted : tally_in x p ≡ Ok (figures (entries_in x (boxes p)))
  pub tallies : tally_in x p ≡ tally_in y p
  pub summary_tallies : x.summary_tally p ≡ y.summary_tally p
  pub amounts : (t : TokenId) → amount_at x p t ≡ amount_at y p t
  pub statements : figure_at x p ≡ figure_at y p
  -- "their pages", of every offset and length, refused ones included; equal also where a number stands twice
  pub pages : (offset n : ℕ) (out : List ℤ) → page_in x p offset n out ≡ page_in y p offset n out

-- "no box number stands twice": 0 may, as it has no sign
unfoldable pub NoneTwice : List ℤ → Type 0
NoneTwice [] = Unit {0}
NoneTwice (n ∷ l) = (0 < nat_abs n → Memᴰ n l → ⊥) × NoneTwice l

-- "Where no box number stands twice among the appends to a parent, their signed entries .. must be equal too": among the appends that stand
abbrev pub SignedAlike : List Call → (x y : Copy) → Parent → Type 0
SignedAlike cs x y p = NoneTwice (ledger_numbers cs (boxes p)) → entries_in x (boxes p) ≡ entries_in y (boxes p)

-- "two servers .. whose standing calls are the same". Nothing here sees how entries are divided: "an empty head with one spill and a head of 512 are the same
-- account"
abbrev pub Theorem : Type 0
Theorem =
    (a b : Server) → standing_at a ≡ standing_at b → (p : Parent)
    → Alike (copy_at a) (copy_at b) p × SignedAlike (standing_at a) (copy_at a) (copy_at b) p
