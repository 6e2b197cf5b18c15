-- The test of refusal 25 as facts.
use Prim.Native.Nat.{ℕ, zero, suc, ◌+◌, ◌*◌, ◌/◌, ◌≤◌, ◌<◌}
use mathlib.Core.Path.{◌≡◌, refl, sym, ap, ◌∙◌}
use mathlib.Core.Bool.{Bool, true, false, ◌&&◌}
use mathlib.Core.List.{List}
use native.Mathlib.Omega.{arith}
use native.Mathlib.Decide.{ℕ_discrete}
use native.Mathlib.Numerals.{add-one}
use lib.Dec.{leb}
use lib.IntN.{ℤ}
use lib.ListN.{length}
use borrow.Author.Tests.{leb-true}
use Rattle.records.proofs.CheckLaws.{and_left, and_right}
use Rattle.run_answers.proofs.AnswerLaws.{and_on}
use Rattle.call_steps.specs.State.{counts_ok, lengths_ok, blocks_ok}

-- the definition at one parent more
more : (p : ℕ) (l : List ℕ) → lengths_ok (suc p) l ≡ counts_ok p l && lengths_ok p l
unfolding lengths_ok
more p l = refl

pub one_more : (p : ℕ) (l : List ℕ) → counts_ok p l ≡ true → lengths_ok p l ≡ true → lengths_ok (p + 1) l ≡ true
one_more p l e h = rw add-one (more p l ∙ sym (and_on _ _ e) ∙ h)

-- each parent of those that pass, and one that does not pass
pub counts_in : (n : ℕ) (l : List ℕ) → lengths_ok n l ≡ true → (p : ℕ) → p < n → counts_ok p l ≡ true
counts_in zero l e p h = absurd (omega arith)
counts_in (suc n) l e p h = by_place (ℕ_discrete p n) (λ q. counts_in n l (and_right (counts_ok n l) _ (sym (more n l) ∙ e)) p q)
  where
    by_place : Dec (p ≡ n) → (p < n → counts_ok p l ≡ true) → counts_ok p l ≡ true
    by_place (yes q) below = ap (λ (j : ℕ). counts_ok j l) q ∙ and_left (counts_ok n l) _ (sym (more n l) ∙ e)
    by_place (no q) below = below (omega (arith, q))

pub one_refused : (n p : ℕ) (l : List ℕ) → p < n → counts_ok p l ≡ false → false ≡ lengths_ok n l
one_refused n p l h e = by_answer (lengths_ok n l) refl
  where
    by_answer : (b : Bool) → lengths_ok n l ≡ b → false ≡ b
    by_answer true q = sym e ∙ counts_in n l q p h
    by_answer false q = refl

pub lengths_there : (parents : ℕ) (ids : List ℕ) (numbers : List ℤ) (lengths : List ℕ) (spills : List ℤ) → blocks_ok parents ids numbers lengths spills ≡ true
    → parents * 3 ≤ length lengths
unfolding blocks_ok
lengths_there parents ids numbers lengths spills t =
    let v = and_right (leb parents (length ids / 4128)) _ t in
    let w = and_right (leb parents (length numbers / 1153)) _ v in
    let k = leb-true parents (length lengths / 3) (and_left (leb parents (length lengths / 3)) _ w) in
    omega (arith, k)
