-- Laws of a parent's line: its parts one behind the other.
use Prim.Native.Nat.{ℕ}
use mathlib.Core.List.{List, [], ◌∷◌}
use lib.IntN.{ℤ}
use Rattle.stores.specs.Stores.{Put}
use Rattle.line_parts.specs.Parts.{spaced, spaced_number}
use Rattle.line_parts.proofs.PartLaws.{put_three, put_four}
use Rattle.parent_lines.specs.Parents.{head_part, balance_part, parent_line}

module _ (l : List ℕ) (at a : ℕ) (l₁ : List ℕ) (b : ℕ) (l₂ : List ℕ) (c : ℕ) (l₃ : List ℕ) where
  pub put_balance_parts : (nanos : ℤ) (tokens : ℕ) → Put (spaced_number nanos) l at a l₁ → Put (spaced tokens) l₁ a b l₂ → Put (10 ∷ []) l₂ b c l₃
      → Put (balance_part nanos tokens) l at c l₃
  put_balance_parts nanos tokens = put_three l at a l₁ b l₂ c l₃ (spaced_number nanos) (spaced tokens) (10 ∷ [])

  module _ (r : ℕ) (l₄ : List ℕ) where
    pub put_parent_parts : (p box_len : ℕ) (box_spills : ℤ) (tx_len : ℕ) (tx_spills nanos : ℤ) (tokens : ℕ) → Put (112 ∷ spaced p) l at a l₁
        → Put (head_part box_len box_spills) l₁ a b l₂ → Put (head_part tx_len tx_spills) l₂ b c l₃ → Put (balance_part nanos tokens) l₃ c r l₄
        → Put (parent_line p box_len box_spills tx_len tx_spills nanos tokens) l at r l₄
    unfolding parent_line
    put_parent_parts p box_len box_spills tx_len tx_spills nanos tokens =
        put_four l at a l₁ b l₂ c l₃ (112 ∷ spaced p) (head_part box_len box_spills) (head_part tx_len tx_spills) (balance_part nanos tokens) r l₄
