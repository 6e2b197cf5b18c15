-- Laws of the parts of the state.
use Prim.Native.Nat.{ℕ, zero, suc, ◌+◌, ◌*◌, ◌-◌, ◌≤◌, ◌<◌}
use mathlib.Core.Path.{◌≡◌, refl, sym, ap, ◌∙◌}
use mathlib.Core.List.{List}
use native.Mathlib.Omega.{arith}
use lib.IntN.{ℤ, pos}
use lib.ListN.{length, take, drop, get_or}
use Rattle.stores.specs.Stores.{write}
use Rattle.stores.proofs.StoreLaws.{length_part, write_whole}
use Rattle.segment_id.specs.declared.Kind.{Kind}
use Rattle.segment_id.specs.declared.Kind.TheVariants.{Box, Tx}
use Rattle.buffer_core.specs.Append.{counts_of}
use Rattle.call_steps.specs.State.{kind_number, head_counts, balance_of}

pub kind_few : (k : Kind) → kind_number k ≤ 1
kind_few Box = omega arith
kind_few Tx = omega arith

-- a part of n elements, as the code cuts it, written over a list of n
pub part_whole : {A : Type 0} (a n e : ℕ) (l d : List A) → e ≡ n → length d ≡ n → a + n ≤ length l → write 0 (take e (drop a l)) d ≡ take n (drop a l)
part_whole a n e l d q k h =
    ap (λ (m : ℕ). write 0 (take m (drop a l)) d) q
    ∙ write_whole (take n (drop a l)) d (length_part a n l h ∙ sym k)

-- the counts of a head, where the code has its number k and reads the spill count as z
pub counted : (p : ℕ) (lengths : List ℕ) (spills : List ℤ) (k : Kind) (j : ℕ) (z : ℤ) → j ≡ kind_number k → z ≡ get_or spills (p * 2 + j) (pos 0)
    → counts_of (get_or lengths (p * 3 + j) 0) z ≡ head_counts k p lengths spills
counted p lengths spills k j z e q =
    ap (λ (z' : ℤ). counts_of (get_or lengths (p * 3 + j) 0) z') q ∙ (λ i. counts_of (get_or lengths (p * 3 + e i) 0) (get_or spills (p * 2 + e i) (pos 0)))

-- a balance whose arrays and nanoErgs are those of its places
pub balanced : (p : ℕ) (ids : List ℕ) (numbers : List ℤ) (lengths : List ℕ) {is : List ℕ} {vs : List ℤ} {z : ℤ} → is ≡ take 4096 (drop (p * 4128 + 32) ids)
    → vs ≡ take 128 (drop (p * 1153 + 1024) numbers) → z ≡ get_or numbers (p * 1153 + 1152) (pos 0)
    → record { ids = is; amounts = vs; count = get_or lengths (p * 3 + 2) 0; nanos = z } ≡ balance_of p ids numbers lengths
balanced p ids numbers lengths e f g = λ i. record { ids = e i; amounts = f i; count = get_or lengths (p * 3 + 2) 0; nanos = g i }
