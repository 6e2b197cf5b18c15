-- What is done next, by what a read answered and by how reading calls ended.
use Prim.Native.Nat.{ℕ, zero, suc}
use mathlib.Core.Path.{◌≡◌, refl, sym, ap, ◌∙◌}
use mathlib.Core.Bool.{Bool, true, false, cond}
use native.Mathlib.Omega.{arith}
use lib.Dec.{eqb}
use lib.IntN.{ℤ, pos, negsuc}
use lib.Signed.{lt_z}
use mir.Syntax.{w64}
use mir.Val.{SFits, to_z, of_z}
use borrow.Author.Tests.{eq-eqb, ne_eqb}
use Rattle.signed.specs.Sign.{is_negative}
use Rattle.signed.proofs.SignedLaws.{back, sign_test}
use Rattle.call_input.specs.declared.Next.{Next}
use Rattle.call_input.specs.declared.Next.TheVariants.{Run, Read, End, ReadFailed, WriteFailed}
use Rattle.call_input.specs.Place.{after_read, next_of, after_calls}

module _ (z : ℤ) (f : SFits w64 z) (code : ℕ) where
  negative : (t : Bool) → lt_z (to_z w64 (of_z w64 z)) (pos 0) ≡ t → is_negative z ≡ t
  negative t h = sym (sign_test z _ (back w64 z f)) ∙ h

  pub read_failed : lt_z (to_z w64 (of_z w64 z)) (pos 0) ≡ true → ReadFailed ≡ after_read z code
  read_failed h = by_answer z (negative true h)
    where
      by_answer : (x : ℤ) → is_negative x ≡ true → ReadFailed ≡ after_read x code
      by_answer (pos k) t = let e : true ≡ false = sym t in let q : ◌≡◌ {A = ℕ} 0 1 = cc in absurd (omega arith)
      by_answer (negsuc k) t = refl

  pub read_ended : of_z w64 z ≡ 0 → End code ≡ after_read z code
  read_ended h = ap (λ (x : ℤ). after_read x code) (sym (ap (to_z w64) h) ∙ back w64 z f)

  pub read_some : lt_z (to_z w64 (of_z w64 z)) (pos 0) ≡ false → (of_z w64 z ≡ 0 → ⊥) → Run ≡ after_read z code
  read_some h n = by_answer z (negative false h) n
    where
      by_answer : (x : ℤ) → is_negative x ≡ false → (of_z w64 x ≡ 0 → ⊥) → Run ≡ after_read x code
      by_answer (pos zero) t m = absurd (m refl)
      by_answer (pos (suc k)) t m = refl
      by_answer (negsuc k) t m = let e : true ≡ false = t in let q : ◌≡◌ {A = ℕ} 0 1 = cc in absurd (omega arith)

module _ (end : ℕ) where
  pub runs_on : end ≡ 0 → Run ≡ next_of end
  runs_on e = sym (ap (λ (b : Bool). cond b Run (cond (eqb end 1) (Read 0) (cond (eqb end 2) (Read 31) (End end)))) (eq-eqb end 0 e))

  module _ (n : end ≡ 0 → ⊥) where
    past : (cond (eqb end 1) (Read 0) (cond (eqb end 2) (Read 31) (End end))) ≡ next_of end
    past = sym (ap (λ (b : Bool). cond b Run (cond (eqb end 1) (Read 0) (cond (eqb end 2) (Read 31) (End end)))) (ne_eqb end 0 n))

    pub reads_on : end ≡ 1 → Read 0 ≡ next_of end
    reads_on e = sym (ap (λ (b : Bool). cond b (Read 0) (cond (eqb end 2) (Read 31) (End end))) (eq-eqb end 1 e)) ∙ past

    module _ (m : end ≡ 1 → ⊥) where
      past_end : cond (eqb end 2) (Read 31) (End end) ≡ next_of end
      past_end = sym (ap (λ (b : Bool). cond b (Read 0) (cond (eqb end 2) (Read 31) (End end))) (ne_eqb end 1 m)) ∙ past

      pub reads_cut : end ≡ 2 → Read 31 ≡ next_of end
      reads_cut e = sym (ap (λ (b : Bool). cond b (Read 31) (End end)) (eq-eqb end 2 e)) ∙ past_end

      pub ends : (end ≡ 2 → ⊥) → End end ≡ next_of end
      ends k = sym (ap (λ (b : Bool). cond b (Read 31) (End end)) (ne_eqb end 2 k)) ∙ past_end

-- once the lines are written
pub written_on : (w : Bool) (end : ℕ) (x : Next) → w ≡ true → x ≡ next_of end → x ≡ after_calls w end
written_on w end x e h = h ∙ sym (ap (λ (b : Bool). cond b (next_of end) WriteFailed) e)

pub not_written : (w : Bool) (end : ℕ) → w ≡ false → WriteFailed ≡ after_calls w end
not_written w end e = sym (ap (λ (b : Bool). cond b (next_of end) WriteFailed) e)
