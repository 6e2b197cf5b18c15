-- The room that the lines of the end take: a refusal's line at most 64 bytes, a parent's at most 160.
use Prim.Native.Nat.{ℕ, ◌+◌, ◌≤◌}
use mathlib.Core.Path.{◌≡◌, ap, sym}
use mathlib.Core.Bool.{Bool, true, false, cond}
use mathlib.Core.List.{List, [], ◌∷◌, ◌++◌}
use native.Mathlib.Omega.{arith}
use lib.Dec.{eqb}
use lib.IntN.{ℤ, pos}
use lib.ListN.{length, length-append}
use Rattle.stores.specs.Stores.{Put}
use borrow.Author.Tests.{eq-eqb, ne_eqb}
use Rattle.stores.proofs.PutLaws.{put_both}
use Rattle.line_parts.specs.Parts.{spaced, spaced_number}
use Rattle.line_parts.proofs.PartLaws.{decimal_most, number_most}
use Rattle.call_lines.specs.Lines.{line}
use Rattle.call_lines.proofs.LineLaws.{line_most}
use Rattle.parent_lines.specs.Parents.{head_part, balance_part, parent_line}
use Rattle.end_lines.specs.EndLines.{refusal_part, parent_part, end_lines}

head_most : (len : ℕ) (spills : ℤ) → length (head_part len spills) ≤ 43
head_most len spills = omega (arith, length-append (spaced len) (spaced_number spills), decimal_most len, number_most spills)

balance_most : (nanos : ℤ) (tokens : ℕ) → length (balance_part nanos tokens) ≤ 44
balance_most nanos tokens =
    omega (
      arith,
      length-append (spaced_number nanos ++ spaced tokens) (10 ∷ []),
      length-append (spaced_number nanos) (spaced tokens),
      number_most nanos,
      decimal_most tokens,
    )

parent_most : (p box_len : ℕ) (box_spills : ℤ) (tx_len : ℕ) (tx_spills nanos : ℤ) (tokens : ℕ)
    → length (parent_line p box_len box_spills tx_len tx_spills nanos tokens) ≤ 160
unfolding parent_line
parent_most p box_len box_spills tx_len tx_spills nanos tokens =
    let a : List ℕ = 112 ∷ spaced p in
    let b : List ℕ = head_part box_len box_spills in
    let c : List ℕ = head_part tx_len tx_spills in
    let d : List ℕ = balance_part nanos tokens in
    omega (
      arith,
      length-append (a ++ b ++ c) d,
      length-append (a ++ b) c,
      length-append a b,
      decimal_most p,
      head_most box_len box_spills,
      head_most tx_len tx_spills,
      balance_most nanos tokens,
    )

refusal_most : (ordinal code : ℕ) → length (refusal_part ordinal code) ≤ 64
unfolding refusal_part
refusal_most ordinal code = by_code (eqb code 0)
  where
    by_code : (b : Bool) → length (cond b [] (line ordinal code false (pos 0))) ≤ 64
    by_code true = omega arith
    by_code false = line_most ordinal code false (pos 0)

part_most : (p : ℕ) (numbers : List ℤ) (lengths : List ℕ) (spills : List ℤ) → length (parent_part p numbers lengths spills) ≤ 160
unfolding parent_part
part_most p numbers lengths spills = parent_most p _ _ _ _ _ _

pub end_most : (ordinal code : ℕ) (numbers : List ℤ) (lengths : List ℕ) (spills : List ℤ) → length (end_lines ordinal code numbers lengths spills) ≤ 384
unfolding end_lines
end_most ordinal code numbers lengths spills =
    let a : List ℕ = refusal_part ordinal code in
    let b : List ℕ = parent_part 0 numbers lengths spills in
    let c : List ℕ = parent_part 1 numbers lengths spills in
    omega (arith, length-append (a ++ b) c, length-append a b, refusal_most ordinal code, part_most 0 numbers lengths spills, part_most 1 numbers lengths spills)

-- ---- the parts of the end

module _ (ordinal code : ℕ) where
  pub no_refusal : code ≡ 0 → [] ≡ refusal_part ordinal code
  unfolding refusal_part
  no_refusal e = sym (ap (λ (b : Bool). cond b [] (line ordinal code false (pos 0))) (eq-eqb code 0 e))

  pub one_refusal : (code ≡ 0 → ⊥) → line ordinal code false (pos 0) ≡ refusal_part ordinal code
  unfolding refusal_part
  one_refusal n = sym (ap (λ (b : Bool). cond b [] (line ordinal code false (pos 0))) (ne_eqb code 0 n))

  -- where they end
  module _ (numbers : List ℤ) (lengths : List ℕ) (spills : List ℤ) (l : List ℕ) (a : ℕ) (l₁ : List ℕ) (e : Put (refusal_part ordinal code) l 0 a l₁) where
    pub refusal_end : a ≤ 64
    refusal_end = omega (arith, e.0, refusal_most ordinal code)

    module _ (b : ℕ) (l₂ : List ℕ) (f : Put (parent_part 0 numbers lengths spills) l₁ a b l₂) where
      pub first_end : b ≤ 224
      first_end = omega (arith, e.0, refusal_most ordinal code, f.0, part_most 0 numbers lengths spills)

      pub put_end_parts : (r : ℕ) (l₃ : List ℕ) → Put (parent_part 1 numbers lengths spills) l₂ b r l₃ → Put (end_lines ordinal code numbers lengths spills) l 0 r l₃
      unfolding end_lines
      put_end_parts r l₃ g =
          put_both (refusal_part ordinal code ++ parent_part 0 numbers lengths spills) (parent_part 1 numbers lengths spills) l 0 b l₂ r l₃
          (put_both (refusal_part ordinal code) (parent_part 0 numbers lengths spills) l 0 a l₁ b l₂ e f) g
