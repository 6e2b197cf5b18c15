-- The index that the fork-undo theorem speaks of: its operations are the definitions that the contracts of the public functions cite, at either edition of the rows.
-- `Rattle.ledger.specs.Ledger` is the ledger and the history rules ("The plain record that demand 3 compares with"). `Rattle.ledger.specs.Run` says what a
-- list of calls, undos and flushes does, which lists are legal, and what the theorem promises of them (`ForkUndo`): each undo is accepted unless the staged
-- (16) or the deleted spills (21) are full, an undone append returns its number, and afterwards the index holds exactly what the standing calls alone give.
-- "Demand 3 is a single statement about the whole list, not one for each call."
use Rattle.std.specs.Prelude.{◌≡◌, List, ℕ, ◌≤◌, ℤ, pos, length}
use Rattle.index_types.specs.Limits.{segment_threshold, token_limit, token_id_bytes}
use Rattle.balance.specs.declared.Balance.{Balance}
use Rattle.buffer_core.specs.declared.Direction.TheVariants.{Spend, Unspend}
use Rattle.index_types.specs.declared.RowEdition.{RowEdition}
use Rattle.buffer_core.specs.Edition.{Edition, edition_of}
use Rattle.balance_laws.specs.Calls.{credited, debited, tokens_in}
use Rattle.ledger.specs.Ledger.{Parent, amount_in}
use Rattle.ledger.specs.Run.{Machine}
use Rattle.ledger.specs.Run as Run
use Rattle.history.specs.Index.{Index, kind_of, id_of, do_append, do_pop, do_flip, do_flush, entries_of}
use Rattle.history.specs.Machine.{Borrowed, start}
use Rattle.history.specs.EditionLaws.{EditionLaws}

-- "Empty: each count, length and nanoErgs 0": an empty balance, whatever its 128 places hold
pub record Places : Type 0 where
  pub ids : List ℕ
  pub amounts : List ℤ
  pub ids_in : length ids ≡ token_id_bytes
  pub amounts_in : length amounts ≡ token_limit

abbrev pub empty_balance : Places → Balance
empty_balance s = record { ids = s.ids; amounts = s.amounts; count = 0; nanos = pos 0 }

module _ (E : Edition) (ids : Parent → List ℕ) (B : Borrowed E) (s : Parent → Places) where
  abbrev pub index_machine : Machine
  index_machine = record {
    Store = Index;
    empty = start E B;
    -- "append, spend, .. their undos and flush". "Undo means pop, unspend, ..":
    -- append_box_entry and append_tx_entry, pop_box_entry and pop_tx_entry, flip_box_segment_entry, unflip_box_segment_entry, flush_staged_spills
    append_store = do_append E ids;
    pop_store = do_pop E ids;
    spend_store = do_flip E ids Spend;
    unspend_store = do_flip E ids Unspend;
    flush_store = do_flush E ids;
    -- "spill 0 up with rows as inspection shows them, then the head"
    entries = entries_of E ids;
    -- 16 and 21 name a list that is full: as many records as its capacity
    StagingFull = λ b. b.lists.staged_counts.capacity ≤ b.lists.staged_counts.count;
    DeletionFull = λ b. b.lists.deleted_counts.capacity ≤ b.lists.deleted_counts.count;
    -- "credit, debit" and their undos, "`subtract_box` or `add_box` with the same arguments"
    Bal = Balance;
    no_balance = λ p. empty_balance (s p);
    add = credited;
    sub = debited;
    nano_of = λ b. b.nanos;
    -- "an amount per token id (0 if absent)"
    amount_of = λ b t. amount_in (tokens_in b) t;
    -- a row holds 512 numbers; arguments are signed 64-bit numbers
    row_size = segment_threshold;
    limit = 9223372036854775808;
    -- "Row keys in use": by BLAKE2b of the parent's id, kind and spill number; two parents may have one id
    Key = List ℕ;
    key = λ ch n. E.key (kind_of ch) (id_of E ids ch) (pos n);
  }

-- for every edition of the rows that has the laws, all capacities and whatever the borrowed buffers hold at the start: every legal list in which no two row
-- keys in use are equal. "Only the list writes parents and buffers"; that "25 never arises" stands in Sound.antt
abbrev pub TheoremOf : Type 0
TheoremOf = (E : Edition) (ids : Parent → List ℕ) → EditionLaws E ids → (B : Borrowed E) (s : Parent → Places) → Run.ForkUndo (index_machine E ids B s)

-- either edition has them, for all parents' ids of 32 bytes
abbrev pub Theorem : Type 0
Theorem =
    (v : RowEdition) (ids : Parent → List ℕ) → ((p : Parent) → length (ids p) ≡ 32)
    → (B : Borrowed (edition_of v)) (s : Parent → Places) → Run.ForkUndo (index_machine (edition_of v) ids B s)

-- "A refusal .. changes nothing": a step starts from what the one before left in parts, lists and balances, and where that one was refused, it is what was there
abbrev pub Refusals : Type 0
Refusals = (v : RowEdition) (ids : Parent → List ℕ) (B : Borrowed (edition_of v)) (s : Parent → Places) → Run.RefusalsLeave (index_machine (edition_of v) ids B s)
