-- The flat list does what the index does, with and without summaries.
use mathlib.Core.Path.{refl}
use mathlib.Core.List.{List}
use Prim.Native.Nat.{ℕ, ◌≤◌}
use lib.IntN.{ℤ}
use lib.ListN.{length}
use Rattle.index_types.specs.Limits.{flat_limit}
use Rattle.buffer_core.specs.Edition.{edition_of}
use Rattle.ledger.specs.Ledger.{Parent, Series}
use Rattle.ledger.specs.Run as Mc
use Rattle.fork_model.proofs.Store as St
use Rattle.history.specs.ForkUndo.{Places, index_machine}
use Rattle.history.proofs.Editions.{edition_laws}
use Rattle.history_summaries.specs.Summaries.{summary_machine}
use Rattle.flat_history.specs.SameAsIndex.{Theorem, SummaryTheorem}
use Rattle.flat_history.proofs.SameLaw.{Lawful, same_law}
use Rattle.flat_history.proofs.FlatLaws as Fl
use Rattle.flat_history.proofs.MachineLaws as Ml
use Rattle.flat_history.proofs.IndexAnswers as Ia
use Rattle.flat_history.proofs.SummaryAnswers as Sa

-- the flat list has no rows: any set of row names will do
abbrev Any : Series → ℕ → Type 0
Any ch n = Unit {0}

module _ (p : Parent) (places : List ℤ) (room : flat_limit ≤ length places) (s : Parent → Places) (W : St.Env) where
  abbrev pub flat_lawful : Lawful p
  flat_lawful = record {
    M = Ml.F p places room s W Any;
    U = Any;
    Good = Fl.Good;
    Tidy = Ml.Tidy p places room s W Any;
    GoodB = Ml.GoodB p places room s W Any;
    laws = Ml.flat_laws p places room s W Any;
    answers = Ml.flat_answers p places room s W Any;
  }

pub theorem : Theorem
theorem v ids long B s p places room ss l k o N K =
    let E = edition_of v in
    let L = edition_laws v ids long in
    let I = index_machine E ids B s in
    let U = Mc.InUse I (Mc.start I) ss in
    same_law p (Ia.index_lawful E ids L B s p U k) (flat_lawful p places room s (Ia.W E ids L B s p U)) (Ml.few p places room s (Ia.W E ids L B s p U) Any) (λ ch n. tt) refl (λ f. refl)
    ss l (λ ch n h. h) o N K

pub summary_theorem : SummaryTheorem
summary_theorem v ids long B s Z p places room ss l k o N K =
    let E = edition_of v in
    let L = edition_laws v ids long in
    let I = summary_machine E ids B s Z in
    let U = Mc.InUse I (Mc.start I) ss in
    same_law p (Sa.summary_lawful E ids L B s Z p U k) (flat_lawful p places room s (Ia.W E ids L B s p U)) (Ml.few p places room s (Ia.W E ids L B s p U) Any) (λ ch n. tt) refl (λ f. refl)
    ss l (λ ch n h. h) o N K
