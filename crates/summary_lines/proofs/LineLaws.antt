-- Laws of a line: its five numbers stored one after the other, and made of a list's first 512 numbers.
use Prim.Native.Nat.{ℕ, suc, ◌+◌, ◌*◌, ◌≤◌}
use mathlib.Core.Path.{◌≡◌, sym, ap, ◌∙◌}
use mathlib.Core.List.{List, [], ◌∷◌}
use native.Mathlib.Omega.{arith}
use lib.IntN.{ℤ, pos, nat_abs}
use lib.ListN.{length, take, get_or, set}
use lib.Seq.{get_or-take}
use Rattle.index_types.specs.declared.Tally.{Tally}
use Rattle.stores.proofs.StoreLaws.{sets_write}
use Rattle.entries.specs.Tally.{figures}
use Rattle.summary_core.specs.Lines.{line_of, put_line}

-- five stores in a row are a line written
pub five_stores : (n a b c d e : ℕ) (S : List ℕ) → n * 5 + 5 ≤ length S
    → set (set (set (set (set S (n * 5) a) (n * 5 + 1) b) (n * 5 + 2) c) (n * 5 + 3) d) (n * 5 + 4) e ≡ put_line n (a ∷ b ∷ c ∷ d ∷ e ∷ []) S
unfolding put_line
five_stores n a b c d e S h =
    let q₁ : n * 5 + 1 ≡ suc (n * 5) = omega arith in
    let q₂ : n * 5 + 2 ≡ suc (suc (n * 5)) = omega arith in
    let q₃ : n * 5 + 3 ≡ suc (suc (suc (n * 5))) = omega arith in
    let q₄ : n * 5 + 4 ≡ suc (suc (suc (suc (n * 5)))) = omega arith in
    (λ i. set (set (set (set (set S (n * 5) a) (q₁ i) b) (q₂ i) c) (q₃ i) d) (q₄ i) e) ∙ sets_write (a ∷ b ∷ c ∷ d ∷ e ∷ []) S (n * 5) h

-- y and z are what locals hold of the first and the last number
pub line_is : (zs : List ℤ) (y z : ℤ) (a b : ℕ) (t : Tally) → y ≡ get_or zs 0 (pos 0) → a ≡ nat_abs y → z ≡ get_or zs 511 (pos 0) → b ≡ nat_abs z → t ≡ figures (take 512 zs)
    → a ∷ b ∷ t.unspent ∷ t.unknown ∷ t.spent ∷ [] ≡ line_of (take 512 zs)
unfolding line_of
line_is zs y z a b t ey ea ez eb et =
    let p : a ≡ nat_abs (get_or (take 512 zs) 0 (pos 0)) = ea ∙ ap nat_abs (ey ∙ sym (get_or-take 512 zs 0 (pos 0) (omega arith))) in
    let q : b ≡ nat_abs (get_or (take 512 zs) 511 (pos 0)) = eb ∙ ap nat_abs (ez ∙ sym (get_or-take 512 zs 511 (pos 0) (omega arith))) in
    (λ i. p i ∷ q i ∷ (et i).unspent ∷ (et i).unknown ∷ (et i).spent ∷ [])
