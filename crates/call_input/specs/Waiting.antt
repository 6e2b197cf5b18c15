-- The bytes that wait in the input's buffer.
use Rattle.std.specs.Prelude.{ℕ, ◌-◌, ◌≡◌, List, ◌++◌, ℤ, length, take, drop}
use Rattle.call_input.specs.Counts.{clamp_len}
use Rattle.call_input.specs.declared.Place.{Place}
use Rattle.call_input.specs.Place.{taken}

-- those from `at` up to `have`
abbrev pub waiting : (at have : ℕ) → List ℕ → List ℕ
waiting at have input = take (have - at) (drop at input)

-- what one read left: the bytes that waited, and behind them `got` of the input, as many as C's `read` answered. Which bytes these are its contract does not
-- say: they are the input delivered
pub record Fed (at have made code : ℕ) (input : List ℕ) (r : Place) (input' : List ℕ) : Type 0 where
  pub answer : ℤ
  pub got : List ℕ
  pub many : length got ≡ clamp_len answer (length input - (have - at))
  pub place : r ≡ taken answer (length input - (have - at)) (have - at) made code
  pub is : waiting r.at r.have input' ≡ waiting at have input ++ got
