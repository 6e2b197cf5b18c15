-- The laws of two tests one after the other, and of how reading ended.
use Prim.Native.Nat.{ℕ, ◌≤◌, ◌<◌}
use mathlib.Core.Path.{◌≡◌, sym, ap, ◌∙◌}
use mathlib.Core.Bool.{Bool, true, false, cond, ◌&&◌}
use lib.Dec.{eqb, leb}
use borrow.Author.Tests.{le-leb, lt-leb, eq-eqb, ne_eqb}
use Rattle.run_answers.specs.Answers.{end_at}

-- a test in front that passes, and one that does not
pub and_on : (a b : Bool) → a ≡ true → b ≡ a && b
and_on a b e = sym (ap (λ (x : Bool). x && b) e)

pub and_off : (a b : Bool) → a ≡ false → false ≡ a && b
and_off a b e = sym (ap (λ (x : Bool). x && b) e)

-- ---- how reading ended
module _ (size at end : ℕ) where
  by : (b : Bool) → eqb end 0 && leb size at ≡ b → cond b 1 end ≡ end_at size at end
  by b e = sym (ap (λ (t : Bool). cond t 1 end) e)

  pub ended_there : end ≡ 0 → size ≤ at → 1 ≡ end_at size at end
  ended_there e h = by true (sym (and_on (eqb end 0) (leb size at) (eq-eqb end 0 e)) ∙ le-leb size at h)

  pub ended_before : end ≡ 0 → at < size → end ≡ end_at size at end
  ended_before e h = by false (sym (and_on (eqb end 0) (leb size at) (eq-eqb end 0 e)) ∙ lt-leb size at h)

  pub ended_so : (end ≡ 0 → ⊥) → end ≡ end_at size at end
  ended_so n = by false (sym (and_off (eqb end 0) (leb size at) (ne_eqb end 0 n)))
