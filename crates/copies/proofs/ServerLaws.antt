-- What a server holds and answers is given by its standing calls, whether or not it keeps summaries.
use mathlib.Core.Path.{◌≡◌, refl, sym, ap, ◌∙◌, subst}
use mathlib.Core.Logic.{inl, inr}
use mathlib.Core.List.{List, [], ◌∷◌, map}
use Prim.Native.Nat.{ℕ, zero, suc, ◌+◌, ◌*◌, ◌≤◌, ◌<◌}
use native.Mathlib.Omega.{arith}
use lib.IntN.{ℤ}
use lib.ListN.{length, take, replicate, length-replicate}
use lib.Seq.{take_all}
use Rattle.buffer_core.specs.Edition.{edition_of}
use Rattle.ledger.specs.Ledger.{TokenId, Parent, Series, boxes, txs, Call, absℤ, ledger_numbers, ledger_spent, ledger_nanos, ledger_amount, Rules}
use Rattle.ledger.specs.Run.{Machine, Step, negs}
use Rattle.ledger.specs.Run as Mc
use Rattle.history.specs.Index.{Index}
use Rattle.history.proofs.ForkUndoLaw.{fork_undo}
use Rattle.history_summaries.specs.Summaries.{BorrowedSummaries}
use Rattle.history_summaries.specs.Promises.{SameRun}
use Rattle.history_summaries.proofs.Right as Ri
use Rattle.history_summaries.proofs.Theorem.{summary_theorem, summaries_current, summary_tallies}
use Rattle.history_summaries.proofs.SameRuns.{same_as_without}
use Rattle.copies.specs.Copies.{Copy, entries_in, tally_in, amount_at, Keeping, no_summaries, summaries, Buffers, machine_by, copy_by}
use Rattle.copies.proofs.ReadLaws.{Passes}

-- what a copy holds of a parent, where the calls cs stand, and that its head and rows pass
pub record Given (cs : List Call) (x : Copy) (p : Parent) : Type 0 where
  pub box_numbers : map absℤ (entries_in x (boxes p)) ≡ ledger_numbers cs (boxes p)
  pub tx_numbers : map absℤ (entries_in x (txs p)) ≡ ledger_numbers cs (txs p)
  pub copies : (n : ℕ) → 0 < n → negs n (entries_in x (boxes p)) ≡ ledger_spent cs p n
  pub nanos : (x.balances p).nanos ≡ ledger_nanos cs p
  pub amounts : (t : TokenId) → amount_at x p t ≡ ledger_amount cs p t
  pub passes : Passes x.edition x.ids x.index p
  pub summed : x.summary_tally p ≡ tally_in x p

-- the standing calls of a legal list keep the history rules
pub rules_after : (M : Machine) (ss : List Step) (c : Mc.Conf M) → Rules c.standing → Mc.Legal M c ss → Rules (Mc.run M c ss).standing
unfolding Mc.Legal Mc.run
rules_after M [] c r l = r
rules_after M (s ∷ ss) c r l = rules_after M ss (Mc.step M c s) l.1 l.2

-- ---- lines enough for every box row in use: as many as box numbers stand, added up over the steps of the list
abbrev numbers_over : (M : Machine) → Mc.Conf M → List Step → Parent → ℕ
numbers_over M c [] p = length (ledger_numbers c.standing (boxes p))
numbers_over M c (s ∷ ss) p = length (ledger_numbers c.standing (boxes p)) + numbers_over M (Mc.step M c s) ss p

in_use_few : (M : Machine) (ss : List Step) (c : Mc.Conf M) (p : Parent) (n : ℕ) → Mc.InUse M c ss (boxes p) n → M.row_size * suc n < numbers_over M c ss p
unfolding Mc.InUse
in_use_few M [] c p n u = u
in_use_few M (s ∷ ss) c p n (inl u) = omega arith
in_use_few M (s ∷ ss) c p n (inr u) = omega (arith, in_use_few M ss (Mc.step M c s) p n u)

abbrev zeroed : (Parent → ℕ) → BorrowedSummaries
zeroed lines = record {
  lines = lines;
  numbers = λ p. replicate (lines p * 5) 0;
  numbers_in = λ p. omega (arith, length-replicate {A = ℕ} (lines p * 5) 0);
  all_zero = λ p. take_all (lines p * 5) (replicate (lines p * 5) 0) (omega (arith, length-replicate {A = ℕ} (lines p * 5) 0));
}

module _ (l : Buffers) (ss : List Step) where
  -- with summaries
  with_all : (Z : BorrowedSummaries) → let M = machine_by l (summaries Z) in Mc.Legal M (Mc.start M) ss → Mc.KeysApart M (Mc.InUse M (Mc.start M) ss)
      → (p : Parent) → Given (Mc.run M (Mc.start M) ss).standing (copy_by l (summaries Z) (Mc.run M (Mc.start M) ss).now) p
  with_all Z legal apart p =
      let v = l.edition in
      let M = machine_by l (summaries Z) in
      let a = (summary_theorem v l.ids l.ids_in l.buffers l.places Z ss legal apart).1 in
      record {
        box_numbers = a.numbers (boxes p);
        tx_numbers = a.numbers (txs p);
        copies = a.copies p;
        nanos = a.nanoErgs p;
        amounts = a.amounts p;
        passes = (Ri.passing (edition_of v) l.ids Z.lines (Mc.run M (Mc.start M) ss).now.store p (summaries_current v l.ids l.ids_in l.buffers l.places Z ss legal apart p)).checks;
        summed = summary_tallies v l.ids l.ids_in l.buffers l.places Z ss legal apart p;
      }

  -- without: with lines enough the list runs as it does with them
  abbrev N : Machine
  N = machine_by l no_summaries

  module _ (legal : Mc.Legal N (Mc.start N) ss) (apart : Mc.KeysApart N (Mc.InUse N (Mc.start N) ss)) where
    abbrev Z : BorrowedSummaries
    Z = zeroed (λ p. suc (numbers_over N (Mc.start N) ss p))

    same : SameRun l.edition l.ids l.buffers l.places Z ss
    same = same_as_without l.edition l.ids l.ids_in l.buffers l.places Z ss legal apart
        (λ p. (omega arith, λ n u. omega (arith, in_use_few N ss (Mc.start N) p n u)))

    without : (p : Parent) → Given (Mc.run N (Mc.start N) ss).standing (copy_by l no_summaries (Mc.run N (Mc.start N) ss).now) p
    without p =
        let a = (fork_undo l.edition l.ids l.ids_in l.buffers l.places ss legal apart).1 in
        let g = with_all Z same.legal (λ d e s t u w. apart d e s t (same.in_use d s u) (same.in_use e t w)) p in
        record {
          box_numbers = a.numbers (boxes p);
          tx_numbers = a.numbers (txs p);
          copies = a.copies p;
          nanos = a.nanoErgs p;
          amounts = a.amounts p;
          passes = subst (λ (b : Index). Passes (edition_of l.edition) l.ids b p) same.index g.passes;
          summed = refl;
        }

  pub given_by : (k : Keeping) → let M = machine_by l k in Mc.Legal M (Mc.start M) ss → Mc.KeysApart M (Mc.InUse M (Mc.start M) ss)
      → (p : Parent) → Given (Mc.run M (Mc.start M) ss).standing (copy_by l k (Mc.run M (Mc.start M) ss).now) p
  given_by no_summaries legal apart = without legal apart
  given_by (summaries Z) legal apart = with_all Z legal apart
