-- What waits in the buffer stays there when it moves to the front and a read follows.
use Prim.Native.Nat.{ℕ, ◌+◌, ◌-◌, ◌≤◌}
use mathlib.Core.Path.{◌≡◌, ap, ◌∙◌}
use mathlib.Core.List.{List, ◌++◌}
use native.Mathlib.Omega.{arith}
use lib.IntN.{ℤ, pos, negsuc}
use lib.ListN.{length, take, drop}
use lib.Seq.{take_at, take-add}
use borrow.Rule.Slice.PartMut.{put_mid, post_of}
use Rattle.call_input.specs.Counts.{clamp_len}
use Rattle.stores.specs.Stores.{write}
use Rattle.stores.proofs.StoreLaws.{length_part}
use Rattle.call_input.specs.declared.Place.{Place}
use Rattle.call_input.specs.Place.{taken}
use Rattle.call_input.specs.Waiting.{waiting, Fed}

pub clamped_within : (z : ℤ) (n : ℕ) → clamp_len z n ≤ n
clamped_within (pos k) n = omega arith
clamped_within (negsuc k) n = omega arith

-- m is the buffer once its bytes were moved; from behind them on the read leaves y
pub front_kept : (at have made code k : ℕ) (answer : ℤ) (input m y : List ℕ) (r : Place) → at ≤ have → have ≤ length input → m ≡ write 0 (waiting at have input) input
    → length (put_mid (have - at) k m y) ≡ length input → r ≡ taken answer (length (put_mid (have - at) k m y) - (have - at)) (have - at) made code
    → Fed at have made code input r (put_mid (have - at) k m y)
unfolding write
front_kept at have made code k answer input m y r h g e same p =
    let left : ℕ = have - at in
    let n : ℕ = clamp_len answer (length input - left) in
    let part : List ℕ = waiting at have input in
    let l : List ℕ = put_mid left k m y in
    let long : length part ≡ left = length_part at left input (omega arith) in
    let moved : take left m ≡ part = ap (take left) e ∙ take_at part (drop (0 + length part) input) left long in
    let kept : take left l ≡ part = take_at (take left m) (y ++ post_of left k m) left (ap length moved ∙ long) ∙ moved in
    let z : left + n - 0 ≡ left + n = omega arith in
    let q : r ≡ taken answer (length input - left) left made code = p ∙ ap (λ (j : ℕ). taken answer (j - left) left made code) same in
    let few = clamped_within answer (length input - left) in
    record {
      answer = answer;
      got = take n (drop left l);
      many = length_part left n l (omega (arith, few, same));
      place = q;
      is = ap (λ (x : Place). waiting x.at x.have l) q ∙ ap (λ (j : ℕ). take j l) z ∙ take-add left n l ∙ ap (λ (x : List ℕ). x ++ take n (drop left l)) kept;
    }
