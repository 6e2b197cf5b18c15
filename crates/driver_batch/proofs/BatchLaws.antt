-- Refusal 25, or the batch.
use Prim.Native.Nat.{ℕ, ◌+◌}
use mathlib.Core.Path.{◌≡◌, refl, sym, ap, ◌∙◌}
use mathlib.Core.Bool.{Bool, true, false, cond, ◌&&◌}
use mathlib.Core.List.{List, [], ◌∷◌}
use native.Mathlib.Omega.{arith}
use lib.Dec.{leb}
use lib.IntN.{ℤ}
use lib.ListN.{length}
use borrow.Author.Tests.{leb-true}
use Rattle.records.proofs.CheckLaws.{and_left, and_right}
use Rattle.buffer_core.specs.Edition.{edition_1}
use Rattle.call_steps.specs.State.{State, state_ok, Ready}
use Rattle.run_checks.proofs.ReadyLaws.{ready_when}
use Rattle.driver_core.specs.Bytes.{Journal, journal}
use Rattle.driver_core.specs.Apply.{Applying, applying, apply_turns, driver_ok, apply_of}
use Rattle.driver_journal.specs.Journals.{JournalReady}
use Rattle.index_types.specs.declared.Applied.{Applied}
use Rattle.driver_turns.specs.Batch.{applied}

-- a list without a place
is_empty : {A : Type 0} (l : List A) → length l ≡ 0 → l ≡ []
is_empty [] e = refl
is_empty (x ∷ l) e = absurd (omega (arith, e))

module _ (r : Applied) (ids : List ℕ) (numbers : List ℤ) (lengths : List ℕ) (spills : List ℤ) (staged table deleted entries answers : List ℕ) (popped : List ℤ) (o : Applying)
    (q : applied r ids numbers lengths spills staged table deleted entries answers popped ≡ o) where
  -- a batch without a place for popped numbers, or without one for entries
  pub none_popped : length popped ≡ 0 → applied r ids numbers lengths spills staged table deleted entries answers [] ≡ o
  none_popped e = ap (λ (l : List ℤ). applied r ids numbers lengths spills staged table deleted entries answers l) (sym (is_empty popped e)) ∙ q

  pub none_entered : length entries ≡ 0 → applied r ids numbers lengths spills staged table deleted [] answers popped ≡ o
  none_entered e = ap (λ (l : List ℕ). applied r ids numbers lengths spills staged table deleted l answers popped) (sym (is_empty entries e)) ∙ q

module _ (parents : ℕ) (x : State) (j : Journal) where
  pub driver_ready : driver_ok parents x j ≡ true → Ready parents x × JournalReady j
  driver_ready e =
      let t = and_right (state_ok edition_1 parents x) _ e in (
        ready_when parents x (and_left (state_ok edition_1 parents x) _ e),
        record {
          used_in = leb-true j.used (length j.bytes) (and_left (leb j.used (length j.bytes)) _ t);
          few = leb-true j.count j.used (and_right (leb j.used (length j.bytes)) _ t);
        },
      )

  module _ (journaled : Bool) (s answers : List ℕ) (numbers : List ℤ) where
    abbrev either_way : Bool → Applying
    either_way b = cond b (apply_turns journaled parents s (length s + 1) (applying x j 0 0 0 answers numbers)) (applying x j 0 0 25 answers numbers)

    pub batch_passed : driver_ok parents x j ≡ true → apply_turns journaled parents s (length s + 1) (applying x j 0 0 0 answers numbers) ≡ apply_of journaled parents s x j answers numbers
    unfolding apply_of
    batch_passed e = sym (ap either_way e)

    pub batch_refused : driver_ok parents x j ≡ false → applying x j 0 0 25 answers numbers ≡ apply_of journaled parents s x j answers numbers
    unfolding apply_of
    batch_refused e = sym (ap either_way e)

-- without a journal the state alone is tested
pub ok_alone : (parents : ℕ) (x : State) (b : Bool) → b ≡ state_ok edition_1 parents x → b ≡ driver_ok parents x (journal [] 0 0)
ok_alone parents x true e = ap (λ (t : Bool). t && true) e
ok_alone parents x false e = ap (λ (t : Bool). t && true) e
