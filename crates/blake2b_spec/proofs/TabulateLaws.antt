-- Laws of `tabulate`: its length, and the loop that fills an array with it one place at a time.
use Prim.Native.Nat.{ℕ, zero, suc, ◌+◌, ◌<◌}
use mathlib.Core.Path.{◌≡◌, refl, sym, ap, ◌∙◌}
use mathlib.Core.List.{List, [], ◌∷◌, ◌++◌}
use native.Mathlib.Numerals.{add-one}
use native.Mathlib.Omega.{arith}
use lib.ListN.{length, take, set, length-append}
use lib.Seq.{take-suc-set, take-length}
use Rattle.blake2b_spec.specs.Blake2b.{tabulate}

pub length_tabulate : (f : ℕ → ℕ) (n : ℕ) → length (tabulate f n) ≡ n
unfolding tabulate
length_tabulate f zero = refl
length_tabulate f (suc n) = simp length-append (omega (arith, length_tabulate f n))

pub tabulate_start : (f : ℕ → ℕ) → [] ≡ tabulate f 0
unfolding tabulate
tabulate_start f = refl

pub tabulate_turn : (f : ℕ → ℕ) (out : List ℕ) (i b : ℕ) → i < length out → take i out ≡ tabulate f i → b ≡ f i → take (i + 1) (set out i b) ≡ tabulate f (i + 1)
unfolding tabulate
tabulate_turn f out i b lt e eb = rw add-one (take-suc-set out i b lt ∙ (λ j. e j ++ (eb j ∷ [])))

pub tabulate_end : (f : ℕ → ℕ) (out : List ℕ) (i n : ℕ) → i ≡ n → length out ≡ n → take i out ≡ tabulate f i → out ≡ tabulate f n
tabulate_end f out i n ei long e = sym (take-length out) ∙ ap (λ (k : ℕ). take k out) (long ∙ sym ei) ∙ e ∙ ap (tabulate f) ei
