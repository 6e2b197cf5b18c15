-- Laws of data blocks: padding the last one, and the states between blocks.
use Prim.Native.Nat.{ℕ, zero, suc, ◌+◌, ◌-◌, ◌*◌, ◌/◌, ◌^◌, ◌≤◌}
use mathlib.Core.Path.{◌≡◌, refl, ap, ◌∙◌}
use mathlib.Core.Bool.{true, false}
use mathlib.Core.List.{List, [], ◌∷◌, ◌++◌}
use native.Mathlib.Nat.{zero-add}
use native.Mathlib.Numerals.{add-one}
use native.Mathlib.Omega.{arith}
use lib.ListN.{get_or, length, take, drop, replicate, length-append, length-drop, length-replicate}
use lib.Seq.{take_all, get_or-drop}
use Rattle.blake2b_spec.specs.Blake2b.{tabulate, le32, le64, compress, block, absorbed, before_last, final}

-- ---- the copy of a list's rest over zeros

zeros_at : (m k : ℕ) → ◌≡◌ {A = ℕ} (get_or (replicate m 0) k 0) 0
zeros_at zero k = refl
zeros_at (suc m) zero = refl
zeros_at (suc m) (suc k) = zeros_at m k

-- zeros behind a list do not show
append_zeros : (xs zs : List ℕ) → ((k : ℕ) → get_or zs k 0 ≡ 0) → (k : ℕ) → get_or (xs ++ zs) k 0 ≡ get_or xs k 0
append_zeros [] zs z k = z k
append_zeros (x ∷ xs) zs z zero = refl
append_zeros (x ∷ xs) zs z (suc k) = append_zeros xs zs z k

-- q, the rest of s, in front of as many zeros as make m bytes
pub copied_rest : (m : ℕ) (s q : List ℕ) (at : ℕ) → at ≤ length s → length s - at ≤ m → q ≡ take (length s - at) (drop at s)
    → (m ≡ length (q ++ drop (length s - at) (replicate m 0))) × ((k : ℕ) → get_or (q ++ drop (length s - at) (replicate m 0)) k 0 ≡ get_or s (at + k) 0)
copied_rest m s q at h g e =
    let zs : List ℕ = drop (length s - at) (replicate m 0) in
    let none : (k : ℕ) → get_or zs k 0 ≡ 0 = λ k. get_or-drop (length s - at) (replicate m 0) k 0 ∙ zeros_at m _ in
    let all : q ≡ drop at s = e ∙ take_all (length s - at) (drop at s) (omega (arith, length-drop at s)) in
    rw all (simp (length-append, length-drop, length-replicate) (omega arith), λ k. append_zeros (drop at s) zs none k ∙ get_or-drop at s k 0)

-- ---- a block of the copy

-- a list that agrees with s from `at` on has the same words
le32_padded : (p s : List ℕ) (at : ℕ) → ((k : ℕ) → get_or p k 0 ≡ get_or s (at + k) 0) → (i : ℕ) → le32 p i ≡ le32 s (at + i)
unfolding le32
le32_padded p s at e i = λ j. e i j + byte 1 j * 2 ^ 8 + byte 2 j * 2 ^ 16 + byte 3 j * 2 ^ 24
  where
    byte : (k : ℕ) → get_or p (i + k) 0 ≡ get_or s (at + i + k) 0
    byte k = e (i + k) ∙ ap (λ (n : ℕ). get_or s n 0) (omega arith)

le64_padded : (p s : List ℕ) (at : ℕ) → ((k : ℕ) → get_or p k 0 ≡ get_or s (at + k) 0) → (i : ℕ) → le64 p i ≡ le64 s (at + i)
unfolding le64
le64_padded p s at e i =
    let high : le32 p (i + 4) ≡ le32 s (at + i + 4) = le32_padded p s at e (i + 4) ∙ ap (le32 s) (omega arith) in
    λ j. le32_padded p s at e i j + high j * 2 ^ 32

pub block_padded : (p s : List ℕ) (at : ℕ) → ((k : ℕ) → get_or p k 0 ≡ get_or s (at + k) 0) → block p 0 ≡ block s at
unfolding block
block_padded p s at e = λ j. tabulate (λ i. (ap (le64 p) (zero-add (i * 8)) ∙ le64_padded p s at e (i * 8)) j) 16

-- ---- the states between blocks

-- block k, which is full and not the last
pub absorbed_turn : (nn : ℕ) (s h b r : List ℕ) (k : ℕ) → h ≡ absorbed nn s k → b ≡ block s (k * 128) → r ≡ compress h b ((k + 1) * 128) false → r ≡ absorbed nn s (k + 1)
unfolding absorbed
absorbed_turn nn s h b r k eh eb er = rw add-one (er ∙ (λ i. compress (eh i) (eb i) ((k + 1) * 128) false))

-- the last block
pub final_block : (nn : ℕ) (s h b r : List ℕ) (k : ℕ) → k ≡ (length s - 1) / 128 → h ≡ absorbed nn s k → b ≡ block s (k * 128) → r ≡ compress h b (length s) true → r ≡ final nn s
unfolding final before_last
final_block nn s h b r k e eh eb er =
    er ∙ (λ i. compress ((eh ∙ ap (absorbed nn s) e) i) ((eb ∙ ap (λ (n : ℕ). block s (n * 128)) e) i) (length s) true)
