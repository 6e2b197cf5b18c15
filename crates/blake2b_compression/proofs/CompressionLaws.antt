-- Laws of the compression function: a turn of the rounds, and the work vector.
use Rattle.std.proofs.Common.{◌≡◌, ℕ, ◌+◌, ◌*◌, ◌/◌, ◌%◌, ◌^◌, ◌<◌, Bool, List, [], ◌∷◌, ◌++◌, get_or, sym, ap, ◌∙◌, mod-eq_of_lt, add-one}
use native.Mathlib.Nat.{div-eq_of_lt}
use lib.Bits.{bit_xor, xor_zero_r}
use Rattle.blake2b_spec.specs.Blake2b.{tabulate, iv, columns, diagonals, rounds, flagged, work}

-- a round, and the end of the rounds
pub rounds_turn : (v₀ m v c d : List ℕ) (i : ℕ) → v ≡ rounds v₀ m i → c ≡ columns v m (i % 10 * 16) → d ≡ diagonals c m (i % 10 * 16) → d ≡ rounds v₀ m (i + 1)
unfolding rounds
rounds_turn v₀ m v c d i e ec ed = rw add-one (cc)

pub rounds_end : (v₀ m v : List ℕ) (i : ℕ) → i ≡ 12 → v ≡ rounds v₀ m i → v ≡ rounds v₀ m 12
rounds_end v₀ m v i h e = e ∙ ap (rounds v₀ m) h

-- the counter fits a word: its high word is zero
pub work_law : (h : List ℕ) (t : ℕ) (last : Bool) (x : ℕ) → t < 2 ^ 64 → x ≡ flagged last (get_or iv 6 0)
    → tabulate (λ i. get_or h i 0) 8 ++ get_or iv 0 0 ∷ get_or iv 1 0 ∷ get_or iv 2 0 ∷ get_or iv 3 0 ∷ bit_xor (get_or iv 4 0) t ∷ get_or iv 5 0 ∷ x ∷ get_or iv 7 0 ∷ []
    ≡ work h t last
unfolding work
work_law h t last x fits e =
    let low : t ≡ t % 2 ^ 64 = sym (mod-eq_of_lt fits) in
    let high : get_or iv 5 0 ≡ bit_xor (get_or iv 5 0) (t / 2 ^ 64) = sym (ap (bit_xor (get_or iv 5 0)) (div-eq_of_lt fits) ∙ xor_zero_r (get_or iv 5 0)) in
    λ j. tabulate (λ i. get_or h i 0) 8 ++ get_or iv 0 0 ∷ get_or iv 1 0 ∷ get_or iv 2 0 ∷ get_or iv 3 0 ∷ bit_xor (get_or iv 4 0) (low j) ∷ high j ∷ e j ∷ get_or iv 7 0 ∷ []
