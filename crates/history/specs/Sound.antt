-- What holds beside the fork-undo theorem, of the same lists: 25 never arises, and after the list the index passes every test of 25 and its rows are full.
use Rattle.std.specs.Prelude.{◌≡◌, true, false, List, ℕ, ◌≤◌, ◌<◌, ℤ, nat_abs, length}
use Rattle.index_types.specs.Limits.{segment_threshold, token_limit, token_id_bytes}
use Rattle.signed.specs.Sign.{is_negative}
use Rattle.balance.specs.declared.Balance.{Balance}
use Rattle.index_types.specs.declared.RowEdition.{RowEdition}
use Rattle.buffer_core.specs.Edition.{Edition, edition_of}
use Rattle.buffer_core.specs.Spills.{head_ok}
use Rattle.buffer_core.specs.Pop.{lists_ok}
use Rattle.ledger.specs.Ledger.{Parent, Series}
use Rattle.ledger.specs.Run.{done, Step}
use Rattle.ledger.specs.Run as Run
use Rattle.history.specs.Index.{Index, row_of_spill}
use Rattle.history.specs.Machine.{Borrowed}
use Rattle.history.specs.ForkUndo.{Places, index_machine}

-- no call, undo or flush of a legal list is refused with 25
abbrev pub NeverBroken : Type 0
NeverBroken =
    (v : RowEdition) (ids : Parent → List ℕ) → ((p : Parent) → length (ids p) ≡ 32)
    → (B : Borrowed (edition_of v)) (s : Parent → Places) → Run.Never25 (index_machine (edition_of v) ids B s)

pub record Sound (E : Edition) (ids : Parent → List ℕ) (b : Index) : Type 0 where
  -- "25 head above 512, .. or a lent buffer too short for its stated capacity": the tests pass
  pub heads : (ch : Series) → head_ok (b.parts ch).head (b.parts ch).places ≡ true
  pub lists : lists_ok E b.lists ≡ true
  -- "11 its spill count negative" does not arise
  pub counts : (ch : Series) → is_negative (b.parts ch).head.spills ≡ false
  -- every row below the spill count can be read, and is full: 12, 1 to 6, 8, 35, 13 for its length and 20 do not arise
  pub rows : (ch : Series) (n : ℕ) → n < nat_abs (b.parts ch).head.spills → (zs : List ℤ) × (row_of_spill E ids b ch n ≡ done zs) × (length zs ≡ segment_threshold)

-- 25 of a credit or a debit: no more tokens than 128 places hold
pub record SoundBalance (b : Balance) : Type 0 where
  pub ids : length b.ids ≡ token_id_bytes
  pub amounts : length b.amounts ≡ token_limit
  pub count : b.count ≤ token_limit

module _ (v : RowEdition) (ids : Parent → List ℕ) (B : Borrowed (edition_of v)) (s : Parent → Places) where
  abbrev pub after : List Step → Run.State (index_machine (edition_of v) ids B s)
  after ss = (Run.run (index_machine (edition_of v) ids B s) (Run.start (index_machine (edition_of v) ids B s)) ss).now

  abbrev pub LegalApart : List Step → Type 0
  LegalApart ss =
      Run.Legal (index_machine (edition_of v) ids B s) (Run.start (index_machine (edition_of v) ids B s)) ss
      × Run.KeysApart (index_machine (edition_of v) ids B s) (Run.InUse (index_machine (edition_of v) ids B s) (Run.start (index_machine (edition_of v) ids B s)) ss)

abbrev pub StaysSound : Type 0
StaysSound =
    (v : RowEdition) (ids : Parent → List ℕ) → ((p : Parent) → length (ids p) ≡ 32)
    → (B : Borrowed (edition_of v)) (s : Parent → Places) (ss : List Step) → LegalApart v ids B s ss
    → Sound (edition_of v) ids (after v ids B s ss).store × ((p : Parent) → SoundBalance ((after v ids B s ss).bals p))
