-- Laws of the call runner's lines: the room that they take, their parts one behind the other, and the turns of the loop that writes them.
use Prim.Native.Nat.{ℕ, zero, suc, ◌+◌, ◌-◌, ◌≤◌, ◌<◌}
use mathlib.Core.Path.{◌≡◌, ◌∙◌}
use mathlib.Core.Bool.{Bool, true, false}
use mathlib.Core.List.{List, [], ◌∷◌, ◌++◌}
use native.Mathlib.Omega.{arith}
use lib.IntN.{ℤ}
use lib.ListN.{length, length-append}
use lib.Seq.{sets}
use Rattle.stores.specs.Stores.{Put}
use Rattle.stores.proofs.PutLaws.{sets_append}
use Rattle.text.specs.Text.{decimal}
use Rattle.line_parts.specs.Parts.{spaced}
use Rattle.line_parts.proofs.PartLaws.{decimal_most, number_most, put_four}
use Rattle.call_lines.specs.Lines.{popped_part, line, answer_line, lines_from}

-- ---- room

popped_most : (popped : Bool) (z : ℤ) → length (popped_part popped z) ≤ 22
popped_most true z = omega (arith, number_most z)
popped_most false z = omega arith

pub line_most : (ordinal code : ℕ) (popped : Bool) (z : ℤ) → length (line ordinal code popped z) ≤ 64
unfolding line
line_most ordinal code popped z =
    omega (
      arith,
      length-append (decimal ordinal ++ spaced code ++ popped_part popped z) (10 ∷ []),
      length-append (decimal ordinal ++ spaced code) (popped_part popped z),
      length-append (decimal ordinal) (spaced code),
      decimal_most ordinal,
      decimal_most code,
      popped_most popped z,
    )

-- ---- parts one behind the other

pub put_line_parts : (l : List ℕ) (at a : ℕ) (l₁ : List ℕ) (b : ℕ) (l₂ : List ℕ) (c : ℕ) (l₃ : List ℕ) (r : ℕ) (l₄ : List ℕ) (ordinal code : ℕ) (popped : Bool) (z : ℤ)
    → Put (decimal ordinal) l at a l₁ → Put (spaced code) l₁ a b l₂ → Put (popped_part popped z) l₂ b c l₃ → Put (10 ∷ []) l₃ c r l₄ → Put (line ordinal code popped z) l at r l₄
unfolding line
put_line_parts l at a l₁ b l₂ c l₃ r l₄ ordinal code popped z = put_four l at a l₁ b l₂ c l₃ (decimal ordinal) (spaced code) (popped_part popped z) (10 ∷ []) r l₄

-- ---- turns of the loop: the lines that are left from answer i on

module _ (first : ℕ) (answers : List ℕ) (numbers : List ℤ) (n i : ℕ) where
  pub lines_past : n ≤ i → lines_from first answers numbers i (n - i) ≡ []
  unfolding lines_from
  lines_past h = let e : n - i ≡ zero = omega arith in rw e

  lines_step : i < n → lines_from first answers numbers i (n - i) ≡ answer_line first answers numbers i ++ lines_from first answers numbers (i + 1) (n - (i + 1))
  unfolding lines_from
  lines_step h = let e : n - i ≡ suc (n - (i + 1)) = omega arith in rw e

  -- a line more is written: what is left makes of the list as it is now what it made before
  pub lines_turn : i < n → (l : List ℕ) (at r : ℕ) (l' : List ℕ) → Put (answer_line first answers numbers i) l at r l'
      → (at + length (lines_from first answers numbers i (n - i)) ≡ r + length (lines_from first answers numbers (i + 1) (n - (i + 1))))
      × (sets l at (lines_from first answers numbers i (n - i)) ≡ sets l' r (lines_from first answers numbers (i + 1) (n - (i + 1))))
  lines_turn h l at r l' e =
      let s : List ℕ = answer_line first answers numbers i in
      let t : List ℕ = lines_from first answers numbers (i + 1) (n - (i + 1)) in
      rw (lines_step h) ((omega (arith, length-append s t, e.0), sets_append l at s t ∙ rw (e.0, e.1)))
