-- What was written is read back, behind any bytes and before any others.
use Prim.Native.Nat.{ℕ, ◌+◌, ◌-◌, ◌≤◌}
use mathlib.Core.Path.{◌≡◌, sym, ap, ◌∙◌}
use mathlib.Core.Bool.{false}
use mathlib.Core.List.{List, [], ◌∷◌, ◌++◌, append_assoc}
use native.Mathlib.Omega.{arith}
use lib.IntN.{ℤ, pos}
use lib.ListN.{length, length-append}
use borrow.Author.Tests.{le-ltb}
use mir.Syntax.{w32, w64}
use mir.Val.{SFits}
use Rattle.signed.specs.Sign.{is_negative}
use Rattle.vlq_core.specs.Zigzag.{zig}
use Rattle.vlq_core.specs.Groups.{enc}
use Rattle.std.specs.Prelude.{Ok, Err}
use Rattle.vlq_core.specs.Reading.{read_at, signed_of}
use Rattle.vlq_core.proofs.GroupLaws.{number_length}
use Rattle.vlq_core.proofs.BackLaws.{signed_back}
use Rattle.segment_core.specs.Answers.{Counts}
use Rattle.segment_core.specs.Row.{numbers_bytes, list_bytes, counts_bytes, row_bytes}
use Rattle.segment_core.specs.Reading.{length_of, length_at, Nums, nums, bad, cons_nums, numbers_at, numbers_from, list_at, both_counts, counts_at, seg, segment_at}
use Rattle.segment_core.proofs.SegmentLaws.{segment_is}

-- every number is of 64 signed bits
abbrev pub All64 : List ℤ → Type 0
All64 [] = Unit
All64 (z ∷ zs) = SFits w64 z × All64 zs

-- a spill count: not negative, of 32 signed bits
abbrev pub Count : ℤ → Type 0
Count z = (is_negative z ≡ false) × SFits w32 z

-- what a row can hold
pub record Writable (ts bs : List ℤ) (b t : ℤ) : Type 0 where
  pub txs_few : length ts ≤ 512
  pub txs_fit : All64 ts
  pub boxes_few : length bs ≤ 512
  pub boxes_fit : All64 bs
  pub box_count : Count b
  pub tx_count : Count t

-- a signed number of 64 bits is at least a byte
pub numbers_some : (zs : List ℤ) → All64 zs → length zs ≤ length (numbers_bytes zs)
unfolding numbers_bytes
numbers_some [] f = omega arith
numbers_some (z ∷ zs) f = omega (arith, length-append (enc (zig z)) (numbers_bytes zs), numbers_some zs f.1, (number_length w64 9 (omega arith) z f.0).0)

-- s is p, then x and y, then q: it is also p and x, then y, then q
module _ (s p x y q : List ℕ) (at : ℕ) (e : s ≡ p ++ ((x ++ y) ++ q)) (d : length p ≡ at) where
  pub first : s ≡ p ++ (x ++ (y ++ q))
  first = e ∙ ap (λ (l : List ℕ). p ++ l) (append_assoc x y q)

  pub second : s ≡ (p ++ x) ++ (y ++ q)
  second = first ∙ sym (append_assoc p x (y ++ q))

  pub second_at : length (p ++ x) ≡ at + length x
  second_at = length-append p x ∙ ap (λ (n : ℕ). n + length x) d

-- ---- numbers

pub numbers_back : (zs : List ℤ) → All64 zs → (s p q : List ℕ) (at : ℕ) → s ≡ p ++ (numbers_bytes zs ++ q) → length p ≡ at
    → numbers_at (length zs) s at ≡ nums zs (at + length (numbers_bytes zs))
unfolding numbers_at numbers_bytes
numbers_back [] f s p q at e d = ap (nums []) (omega arith)
numbers_back (z ∷ zs) f s p q at e d =
    let x : List ℕ = enc (zig z) in
    let next : ℤ → ℕ → Nums = λ z n. cons_nums z (numbers_at (length zs) s n) in
    let r : signed_of next bad (read_at 64 s at) ≡ next z (at + length x)
    = ap (λ (l : List ℕ). signed_of next bad (read_at 64 l at)) (first s p x (numbers_bytes zs) q at e d) ∙ signed_back next bad w64 z p (numbers_bytes zs ++ q) at d (omega arith) f.0 in
    let rest : numbers_at (length zs) s (at + length x) ≡ nums zs (at + length x + length (numbers_bytes zs))
    = numbers_back zs f.1 s (p ++ x) q (at + length x) (second s p x (numbers_bytes zs) q at e d) (second_at s p x (numbers_bytes zs) q at e d) in
    r ∙ ap (cons_nums z) rest ∙ ap (nums (z ∷ zs)) (omega (arith, length-append x (numbers_bytes zs)))

-- ---- a list

module _ (zs : List ℤ) (h : length zs ≤ 512) (f : All64 zs) (s p q : List ℕ) (at : ℕ) (e : s ≡ p ++ (list_bytes zs ++ q)) (d : length p ≡ at) where
  abbrev code : List ℕ
  code = enc (zig (pos (length zs)))

  pub length_back : length_at s at ≡ Ok (length zs, at + length code)
  unfolding length_at
  length_back =
      let y : List ℕ = numbers_bytes zs in
      let r : signed_of (length_of s) Err (read_at 32 s at) ≡ length_of s (pos (length zs)) (at + length code)
      = ap (λ (l : List ℕ). signed_of (length_of s) Err (read_at 32 l at)) (first s p code y q at e d)
      ∙ signed_back (length_of s) Err w32 (pos (length zs)) p (y ++ q) at d (omega arith) (record { sfits = omega arith }) in
      let t : length s ≡ length (p ++ code) + length (y ++ q) = ap length (second s p code y q at e d) ∙ length-append (p ++ code) (y ++ q) in
      let room : length zs ≤ length s - (at + length code) = omega (arith, numbers_some zs f, second_at s p code y q at e d, length-append y q) in
      r ∙ rw (le-ltb 512 (length zs) h, le-ltb (length s - (at + length code)) (length zs) room)

  pub list_back : list_at s at ≡ nums zs (at + length (list_bytes zs))
  unfolding list_at
  list_back =
      let y : List ℕ = numbers_bytes zs in
      ap (numbers_from s) length_back
      ∙ numbers_back zs f s (p ++ code) q (at + length code) (second s p code y q at e d) (second_at s p code y q at e d)
      ∙ ap (nums zs) (omega (arith, length-append code y))

-- ---- the spill counts

pub counts_back : (b t : ℤ) → Count b → Count t → (s p q : List ℕ) (at : ℕ) → s ≡ p ++ (counts_bytes b t ++ q) → length p ≡ at
    → counts_at s at ≡ Ok (b, t, at + length (counts_bytes b t))
unfolding counts_at
counts_back b t h k s p q at e d =
    let x : List ℕ = enc (zig b) in
    let y : List ℕ = enc (zig t) in
    let rest : ℤ → ℕ → Counts = λ b n. signed_of (both_counts b) Err (read_at 32 s n) in
    let r : signed_of rest Err (read_at 32 s at) ≡ rest b (at + length x)
    = ap (λ (l : List ℕ). signed_of rest Err (read_at 32 l at)) (first s p x y q at e d) ∙ signed_back rest Err w32 b p (y ++ q) at d (omega arith) h.1 in
    let u : rest b (at + length x) ≡ both_counts b t (at + length x + length y)
    = ap (λ (l : List ℕ). signed_of (both_counts b) Err (read_at 32 l (at + length x))) (second s p x y q at e d)
    ∙ signed_back (both_counts b) Err w32 t (p ++ x) q (at + length x) (second_at s p x y q at e d) (omega arith) k.1 in
    r ∙ u ∙ rw (h.0, k.0) (ap (λ x. Ok (b, t, x)) (omega (arith, length-append x y)))

-- ---- a segment, behind any bytes and before any others

pub segment_back : (ts bs : List ℤ) (b t : ℤ) → Writable ts bs b t → (s p q : List ℕ) (at : ℕ) → s ≡ p ++ (row_bytes ts bs b t ++ q) → length p ≡ at
    → segment_at s at ≡ seg ts bs b t (at + length (row_bytes ts bs b t))
unfolding row_bytes
segment_back ts bs b t w s p q at e d =
    let x : List ℕ = list_bytes ts in
    let y : List ℕ = list_bytes bs in
    let z : List ℕ = counts_bytes b t in
    let e₁ = first s p x (y ++ z) q at e d in
    let e₂ = second s p x (y ++ z) q at e d in
    let d₂ = second_at s p x (y ++ z) q at e d in
    let e₃ = first s (p ++ x) y z q (at + length x) e₂ d₂ in
    let e₄ = second s (p ++ x) y z q (at + length x) e₂ d₂ in
    let d₄ = second_at s (p ++ x) y z q (at + length x) e₂ d₂ in
    segment_is s at ts (at + length x) (list_back ts w.txs_few w.txs_fit s p ((y ++ z) ++ q) at e₁ d)
    bs (at + length x + length y) (list_back bs w.boxes_few w.boxes_fit s (p ++ x) (z ++ q) (at + length x) e₃ d₂)
    b t (at + length x + length y + length z) (counts_back b t w.box_count w.tx_count s ((p ++ x) ++ y) q (at + length x + length y) e₄ d₄)
    ∙ ap (seg ts bs b t) (omega (arith, length-append x (y ++ z), length-append y z))
