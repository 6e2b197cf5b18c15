-- The two ways out of `get_bytes`.
use mathlib.Core.Path.{◌≡◌, sym, ◌∙◌, ap}
use Prim.Native.Nat.{ℕ, ◌+◌}
use mathlib.Core.Bool.{Bool, true, false, cond}
use mathlib.Core.List.{List}
use lib.Dec.{leb}
use lib.ListN.{length}
use Rattle.std.specs.Prelude.{Ok, Err}
use Rattle.vlq_positions.specs.Positions.{span_at}

-- the bytes are there
pub span_in : (s : List ℕ) (at n : ℕ) (room : Bool) → room ≡ leb (at + n) (length s) → room ≡ true → Ok (at, at + n) ≡ span_at s at n
unfolding span_at
span_in s at n room is e = ap (λ (b : Bool). cond b (Ok (at, at + n)) (Err 1)) (sym e ∙ is)

-- they end before
pub span_cut : (s : List ℕ) (at n : ℕ) (room : Bool) → room ≡ leb (at + n) (length s) → room ≡ false → Err 1 ≡ span_at s at n
unfolding span_at
span_cut s at n room is e = ap (λ (b : Bool). cond b (Ok (at, at + n)) (Err 1)) (sym e ∙ is)
