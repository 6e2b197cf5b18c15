-- Laws of a tally with a summary: what a line tells, a turn of the loop and its ends, and one law for each way out.
use Prim.Native.Nat.{ℕ, suc, ◌+◌, ◌-◌, ◌≤◌, ◌<◌}
use mathlib.Core.Path.{◌≡◌, refl, sym, ap, ◌∙◌}
use mathlib.Core.Bool.{Bool, true, false, cond}
use mathlib.Core.List.{List}
use native.Mathlib.Omega.{arith}
use lib.Dec.{eqb}
use lib.IntN.{ℤ, nat_abs}
use borrow.Author.Tests.{eqb-true, eq-eqb, ne_eqb, lt-ltb, le-ltb}
use Rattle.signed.specs.Sign.{is_negative}
use Rattle.index_types.specs.declared.Tally.{Tally}
use Rattle.std.specs.Prelude.{Ok, Err}
use Rattle.index_types.specs.Answers.{Tallied}
use Rattle.entries.specs.Order.{order_ok}
use Rattle.entries.specs.Tally.{figures, plus}
use Rattle.summary_core.specs.Lines.{at_line}
use Rattle.summary_core.specs.Tally.{figures_at, add_lines, tally_lines}
use Rattle.summary_tally.specs.Internal.{counts_at}

-- ---- a line; a, s and z are what locals hold of its counts

module _ (S : List ℕ) (n a s z : ℕ) (ea : a ≡ at_line S n 2) (es : s ≡ at_line S n 4) (ez : z ≡ at_line S n 3) where
  pub counts_36 : (a + s + z ≡ 512 → ⊥) → Err 36 ≡ counts_at S n
  counts_36 h =
      let k : at_line S n 2 + at_line S n 4 + at_line S n 3 ≡ 512 → ⊥ = λ q. h ((λ i. ea i + es i + ez i) ∙ q) in
      rw (ne_eqb (at_line S n 2 + at_line S n 4 + at_line S n 3) 512 k)

  pub counts_are : a + s + z ≡ 512 → Ok (record { unspent = a; spent = s; unknown = z }) ≡ counts_at S n
  counts_are h =
      let k : at_line S n 2 + at_line S n 4 + at_line S n 3 ≡ 512 = (λ i. sym ea i + sym es i + sym ez i) ∙ h in
      let t : Tally = record { unspent = a; spent = s; unknown = z } in
      let p : t ≡ figures_at S n = (λ i. record { unspent = ea i; spent = es i; unknown = ez i }) in
      rw (eq-eqb (at_line S n 2 + at_line S n 4 + at_line S n 3) 512 k) (ap Ok p)

module _ (S : List ℕ) (n : ℕ) where
  -- what a counted line tells
  pub record Line (t : Tally) : Type 0 where
    pub figured : t ≡ figures_at S n
    pub adds : (figures_at S n).unspent + (figures_at S n).spent + (figures_at S n).unknown ≡ 512

  pub line_told : (t : Tally) → Ok t ≡ counts_at S n → Line t
  line_told t e = by_test (eqb ((figures_at S n).unspent + (figures_at S n).spent + (figures_at S n).unknown) 512) refl e
    where
      by_test : (b : Bool) → eqb ((figures_at S n).unspent + (figures_at S n).spent + (figures_at S n).unknown) 512 ≡ b
          → ◌≡◌ {A = Tallied} (Ok t) (cond b (Ok (figures_at S n)) (Err 36)) → Line t
      by_test true p e = let q : t ≡ figures_at S n = cc in record { figured = q; adds = eqb-true _ 512 p }
      by_test false p e = let z : ◌≡◌ {A = ℕ} 0 1 = cc in absurd (omega arith)

  pub line_most : (t : Tally) → Ok t ≡ counts_at S n → t.unspent + t.spent + t.unknown ≡ 512
  line_most t e = let l = line_told t e in ap (λ (x : Tally). x.unspent + x.spent + x.unknown) l.figured ∙ l.adds

-- ---- a turn of the loop, and its ends

module _ (S : List ℕ) (n m : ℕ) (t : Tally) (h : n < m) where
  left : m - n ≡ suc (m - (n + 1))
  left = omega arith

  pub line_turn : (more : Tally) → Ok more ≡ counts_at S n → (t' : Tally) → t' ≡ plus t more → add_lines S n (m - n) t ≡ add_lines S (n + 1) (m - (n + 1)) t'
  unfolding add_lines
  line_turn more e t' p =
      let l = line_told S n more e in
      let a : t' ≡ plus t (figures_at S n) = p ∙ ap (plus t) l.figured in
      rw (left, eq-eqb _ 512 l.adds) (ap (add_lines S (n + 1) (m - (n + 1))) (sym a))

  pub line_stop : (code : ℕ) → Err code ≡ counts_at S n → Err code ≡ add_lines S n (m - n) t
  unfolding add_lines
  line_stop code e = rw left (by_test (eqb ((figures_at S n).unspent + (figures_at S n).spent + (figures_at S n).unknown) 512) e)
    where
      by_test : (b : Bool) → Err code ≡ cond b (Ok (figures_at S n)) (Err 36)
          → Err code ≡ cond b (add_lines S (n + 1) (m - (n + 1)) (plus t (figures_at S n))) (Err 36)
      by_test true e = let z : ◌≡◌ {A = ℕ} 0 1 = cc in absurd (omega arith)
      by_test false e = e

pub line_past : (S : List ℕ) (n m : ℕ) (t : Tally) → m ≤ n → add_lines S n (m - n) t ≡ Ok t
unfolding add_lines
line_past S n m t h = let z : m - n ≡ 0 = omega arith in rw z

-- ---- the ways out

module _ (spills : ℤ) (zs : List ℤ) (lines : ℕ) (S : List ℕ) where
  pub tally_10 : order_ok zs ≡ false → Err 10 ≡ tally_lines spills zs lines S
  unfolding tally_lines
  tally_10 e = rw e

  module _ (e : order_ok zs ≡ true) where
    pub tally_11 : is_negative spills ≡ true → Err 11 ≡ tally_lines spills zs lines S
    unfolding tally_lines
    tally_11 f = rw (e, f)

    module _ (f : is_negative spills ≡ false) (n : ℕ) (a : n ≡ nat_abs spills) where
      pub tally_36 : lines < n → Err 36 ≡ tally_lines spills zs lines S
      unfolding tally_lines
      tally_36 h = rw (e, f, ← a, lt-ltb lines n h)

      pub tally_on : n ≤ lines → (t : Tally) → t ≡ figures zs → (r : Tallied) → r ≡ add_lines S 0 n t → r ≡ tally_lines spills zs lines S
      unfolding tally_lines
      tally_on h t b r q = rw (e, f, ← a, le-ltb lines n h) (q ∙ ap (add_lines S 0 n) b)
