-- The answers of the calls with summaries: those of the index, but that an append may be refused by 36.
use mathlib.Core.Path.{◌≡◌, refl, ap, ◌∙◌}
use mathlib.Core.Logic.{◌⊎◌, inl, inr, ⊎_elim}
use mathlib.Core.Bool.{Bool, true, false, ◌&&◌, not}
use mathlib.Core.List.{List}
use Prim.Native.Nat.{ℕ}
use lib.IntN.{ℤ, pos, negsuc}
use Rattle.std.specs.Prelude.{Err}
use Rattle.index_types.specs.Answers.{Appended}
use Rattle.signed.specs.Sign.{is_negative}
use Rattle.buffer_core.specs.Edition.{Edition}
use Rattle.segment_id.specs.declared.Kind.TheVariants.{Box}
use Rattle.buffer_core.specs.Append.{Appending, append_of}
use Rattle.summary_core.specs.Lines.{WithSummary}
use Rattle.summary_core.specs.Moves.{no_free_line}
use Rattle.summary_core.proofs.MoveLaws.{append_plain, append_plain_or_36}
use Rattle.ledger.specs.Ledger.{Parent, Series, boxes, absℤ}
use Rattle.ledger.specs.Run.{refused, Machine}
use Rattle.ledger.specs.Run as Mc
use Rattle.fork_model.proofs.Results.{map_res, result_of}
use Rattle.history.specs.Index.{Index, after_append, do_append}
use Rattle.history.specs.Machine.{Borrowed}
use Rattle.history.specs.ForkUndo.{Places}
use Rattle.history.specs.EditionLaws.{EditionLaws}
use Rattle.history_summaries.specs.Summaries.{SummaryIndex, set_summary, with_summaries, appending_with, append_kept, BorrowedSummaries}
use Rattle.history_summaries.proofs.Right.{AllRight}
use Rattle.history_summaries.proofs.Answers.{with_result}
use Rattle.history_summaries.proofs.Simulation as Si
use Rattle.history_summaries.proofs.Theorem as Th
use Rattle.history.proofs.ForkUndoLaw as Fk
use Rattle.flat_history.proofs.Answers.{Answers, lower_answers}
use Rattle.flat_history.proofs.SameLaw.{Lawful}
use Rattle.flat_history.proofs.IndexAnswers as Ia

and_false : (x : Bool) → x && false ≡ false
and_false true = refl
and_false false = refl

module _ (E : Edition) (ids : Parent → List ℕ) (L : EditionLaws E ids) (B : Borrowed E) (s : Parent → Places) (Z : BorrowedSummaries) (p : Parent) (U : Series → ℕ → Type 0)
    (apart : Mc.KeysApart (Th.N E ids L B s Z) U) where
  abbrev K : Machine
  K = Th.K E ids L B s Z

  abbrev Good : SummaryIndex → Type 0
  Good b = AllRight E ids Z.lines b × Th.Fine E ids L B s Z U b.index

  module _ (b : SummaryIndex) (n : ℤ) (R : AllRight E ids Z.lines b) (F : Th.Fine E ids L B s Z U b.index) where
    abbrev o : WithSummary Appending
    o = appending_with E ids Z.lines b p n

    abbrev S : Parent → List ℕ
    S = set_summary b.summaries p o.summary

    abbrev plain : Appending
    plain = append_of E Box (ids p) (b.index.parts (boxes p)).head n b.index.lists.staged_counts
        (b.index.parts (boxes p)).places b.index.lists.staged

    as_plain : o.result ≡ plain → map_res (λ x. x.index) (result_of (append_kept E ids Z.lines b (boxes p) n)) ≡ result_of (do_append E ids b.index (boxes p) n)
    as_plain q =
        with_result S (after_append b.index (boxes p) o.result.answer o.result.head o.result.staged)
        ∙ ap (λ (a : Appending). result_of (after_append b.index (boxes p) a.answer a.head a.staged)) q

    by_36 : o.result.answer ≡ Err 36 → result_of (append_kept E ids Z.lines b (boxes p) n) ≡ refused 36
    by_36 q = ap (λ (a : Appended). result_of (with_summaries S (after_append b.index (boxes p) a o.result.head o.result.staged))) q

    no_line : no_free_line (b.index.parts (boxes p)).head n (Z.lines p) ≡ false → o.result ≡ plain
    no_line h =
        append_plain E (ids p) (b.index.parts (boxes p)).head (Z.lines p) (b.summaries p) n b.index.lists.staged_counts (b.index.parts (boxes p)).places b.index.lists.staged
        (Si.enough E ids L B s Z (Fk.Q E ids L B s) U apart b R F p) (R p).room h

    plain_or : (o.result ≡ plain) ⊎ (o.result.answer ≡ Err 36)
    plain_or =
        append_plain_or_36 E (ids p) (b.index.parts (boxes p)).head (Z.lines p) (b.summaries p) n b.index.lists.staged_counts (b.index.parts (boxes p)).places b.index.lists.staged
        (Si.enough E ids L B s Z (Fk.Q E ids L B s) U apart b R F p) (R p).room

  appends : (b : SummaryIndex) (n : ℤ) → AllRight E ids Z.lines b → Th.Fine E ids L B s Z U b.index
      → (map_res (λ x. x.index) (result_of (append_kept E ids Z.lines b (boxes p) n)) ≡ result_of (do_append E ids b.index (boxes p) n))
      ⊎ ((result_of (append_kept E ids Z.lines b (boxes p) n) ≡ refused 36) × (n ≡ absℤ n))
  appends b (pos m) R F = ⊎_elim (λ q. inl (as_plain b (pos m) R F q)) (λ q. inr (by_36 b (pos m) R F q, refl)) (plain_or b (pos m) R F)
  appends b (negsuc k) R F = inl (as_plain b (negsuc k) R F (no_line b (negsuc k) R F (and_false (not (is_negative (b.index.parts (boxes p)).head.spills)))))

  pub summary_answers : Answers K Good p
  summary_answers =
      lower_answers (Th.N E ids L B s Z) K (λ b. b.index) (AllRight E ids Z.lines) (Th.Fine E ids L B s Z U) U (Si.simulation E ids L B s Z (Fk.Q E ids L B s) U apart) p
      (Ia.index_answers E ids L B s p U apart) appends

  abbrev pub summary_lawful : Lawful p
  summary_lawful = record {
    M = K;
    U = U;
    Good = Good;
    Tidy = λ b. Th.Tidy E ids L B s Z b.index;
    GoodB = Th.GoodB E ids L B s Z;
    laws = Th.kept_laws E ids L B s Z U apart;
    answers = summary_answers;
  }
