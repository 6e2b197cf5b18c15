-- Two parts of an input, one behind the other, are an entry.
use Prim.Native.Nat.{ℕ, ◌+◌, ◌*◌, ◌-◌, ◌≤◌}
use native.Mathlib.Omega.{arith}
use mathlib.Core.Path.{◌≡◌, refl, sym, ap, ◌∙◌}
use mathlib.Core.List.{List, ◌++◌}
use lib.ListN.{length, take, drop, length-append}
use lib.Seq.{sets}
use Rattle.stores.specs.Stores.{write, Put}
use Rattle.stores.proofs.StoreLaws.{length_part, length_write, write_write, sets_write}
use Rattle.driver_core.specs.Bytes.{tokens_told, size_at, entry_of}

module _ (s : List ℕ) (at : ℕ) (fits : at + size_at s at ≤ length s) where
  tokens_length : length (take (tokens_told s at * 40) (drop (at + 17) s)) ≡ tokens_told s at * 40
  tokens_length = length_part (at + 17) (tokens_told s at * 40) s (omega (arith, fits))

  header_length : length (take 17 (drop at s)) ≡ 17
  header_length = length_part at 17 s (omega (arith, fits))

  pub entry_length : length (entry_of s at) ≡ size_at s at
  entry_length =
      omega (arith, length-append (take (tokens_told s at * 40) (drop (at + 17) s)) (take 17 (drop at s)), tokens_length, header_length)

  -- w and v are how many bytes the code cuts, l₁ and l₂ what it leaves, r₁ and r₂ where it has come
  module _ (used w v r₁ r₂ : ℕ) (l l₁ l₂ : List ℕ) (q : w ≡ tokens_told s at * 40) (p : v ≡ 17) (room : used + size_at s at ≤ length l)
      (e : Put (take w (drop (at + 17) s)) l used r₁ l₁) (f : Put (take v (drop at s)) l₁ r₁ r₂ l₂) where
    abbrev x : List ℕ
    x = take (tokens_told s at * 40) (drop (at + 17) s)

    abbrev y : List ℕ
    y = take 17 (drop at s)

    first : r₁ ≡ used + length x
    first = e.0 ∙ ap (λ (k : ℕ). used + length (take k (drop (at + 17) s))) q

    left : l₁ ≡ write used x l
    left = e.1 ∙ ap (λ (k : ℕ). sets l used (take k (drop (at + 17) s))) q ∙ sets_write x l used (omega (arith, tokens_length, room))

    second : l₂ ≡ sets l₁ r₁ y
    second = f.1 ∙ ap (λ (k : ℕ). sets l₁ r₁ (take k (drop at s))) p

    inside : r₁ + length y ≤ length l
    inside = omega (arith, first, tokens_length, header_length, room)

    pub pushed_used : r₂ ≡ used + size_at s at
    pushed_used = omega (arith, f.0, ap (λ (k : ℕ). length (take k (drop at s))) p, first, tokens_length, header_length)

    pub pushed_bytes : l₂ ≡ write used (entry_of s at) l
    pushed_bytes =
        second ∙ sets_write y l₁ r₁ (omega (arith, inside, ap length left, length_write used x l (omega (arith, tokens_length, room))))
        ∙ ap (write r₁ y) left ∙ write_write used r₁ x y l first inside
