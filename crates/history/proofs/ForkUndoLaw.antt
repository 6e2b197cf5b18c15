-- The fork-undo theorem, and what holds beside it.
use mathlib.Core.Path.{◌≡◌}
use mathlib.Core.List.{List}
use Prim.Native.Nat.{ℕ}
use lib.ListN.{length}
use Rattle.index_types.specs.declared.RowEdition.{RowEdition}
use Rattle.buffer_core.specs.Edition.{Edition, edition_of}
use Rattle.balance.specs.declared.Balance.{Balance}
use Rattle.balance_laws.proofs.Laws as Bl
use Rattle.ledger.specs.Ledger.{Parent}
use Rattle.fork_model.proofs.Whole as Wh
use Rattle.history.specs.ForkUndo.{Places, TheoremOf, Theorem, Refusals}
use Rattle.history.specs.Sound.{NeverBroken, StaysSound}
use Rattle.history.specs.Machine.{Borrowed}
use Rattle.history.specs.EditionLaws.{EditionLaws}
use Rattle.history.proofs.RefusalLaws.{refusals_leave}
use Rattle.history.proofs.Editions.{edition_laws}
use Rattle.history.proofs.IndexTheorem as Ix

module _ (E : Edition) (ids : Parent → List ℕ) (L : EditionLaws E ids) (B : Borrowed E) (s : Parent → Places) where
  abbrev pub Q : Wh.Balances
  Q = Bl.balances (λ p. (s p).ids) (λ p. (s p).amounts) (λ p. (s p).ids_in) (λ p. (s p).amounts_in)

  abbrev pub GoodB : Balance → Type 0
  GoodB b = Bl.Good (λ p. (s p).ids) (λ p. (s p).amounts) (λ p. (s p).ids_in) (λ p. (s p).amounts_in) b

  pub balance_laws : Wh.BalanceLaws (Ix.W E ids L B s Q) Q GoodB
  balance_laws = Bl.laws (λ p. (s p).ids) (λ p. (s p).amounts) (λ p. (s p).ids_in) (λ p. (s p).amounts_in) (Ix.W E ids L B s Q)

-- shown a single time, with the edition as a parameter
pub fork_undo_of : TheoremOf
fork_undo_of E ids L B s = Ix.index_theorem E ids L B s (Q E ids L B s) (GoodB E ids L B s) (balance_laws E ids L B s)

pub fork_undo : Theorem
fork_undo v ids long B s = fork_undo_of (edition_of v) ids (edition_laws v ids long) B s

pub refusals : Refusals
refusals v = refusals_leave (edition_of v)

module _ (v : RowEdition) (ids : Parent → List ℕ) (long : (p : Parent) → length (ids p) ≡ 32) where
  abbrev L : EditionLaws (edition_of v) ids
  L = edition_laws v ids long

pub never_broken : NeverBroken
never_broken v ids long B s =
    Ix.index_never_25 (edition_of v) ids (L v ids long) B s (Q (edition_of v) ids (L v ids long) B s) (GoodB (edition_of v) ids (L v ids long) B s)
    (balance_laws (edition_of v) ids (L v ids long) B s)

pub stays_sound : StaysSound
stays_sound v ids long B s ss h = (
  Ix.index_sound (edition_of v) ids (L v ids long) B s (Q (edition_of v) ids (L v ids long) B s) (GoodB (edition_of v) ids (L v ids long) B s)
      (balance_laws (edition_of v) ids (L v ids long) B s) ss h.0 h.1,
  λ p.
      let g =
      Ix.index_balances (edition_of v) ids (L v ids long) B s (Q (edition_of v) ids (L v ids long) B s) (GoodB (edition_of v) ids (L v ids long) B s)
      (balance_laws (edition_of v) ids (L v ids long) B s) ss h.0 h.1 p in
      record { ids = g.0.ids_in; amounts = g.0.amounts_in; count = g.0.few },
)
