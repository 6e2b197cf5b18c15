-- The places that were filled lie between those before and behind them.
use Prim.Native.Nat.{ℕ, ◌+◌, ◌-◌}
use mathlib.Core.Path.{◌≡◌, ap, ◌∙◌}
use mathlib.Core.List.{List, append_assoc}
use native.Mathlib.Omega.{arith}
use lib.ListN.{length, take, drop, replicate, length-take, length-drop, length-replicate}
use lib.Seq.{drop-drop}
use borrow.Rule.Slice.PartMut.{put_mid}
use Rattle.stores.specs.Stores.{write}
use Rattle.summary_lines.proofs.clear_places.Goals as goal

filled : (at n k : ℕ) (l m : List ℕ) → k ≡ n → m ≡ replicate n 0 → put_mid at k l m ≡ write at (replicate n 0) l
unfolding write
filled at n k l m e f = rw (e, f) (simp (length-replicate, drop-drop, append_assoc))

pub returns : goal.returns
returns c =
    let a = c.args in
    let k : a.at + a.n - a.at ≡ a.n = omega arith in
    let q : length (take (a.at + a.n - a.at) (drop a.at a.summary.now)) ≡ a.n = rw (length-take, length-drop) (omega arith) in
    filled a.at a.n _ a.summary.now _ k (c.fill.ensures.after (λ y e. e) ∙ ap (λ (j : ℕ). replicate j 0) q)
