-- The ways out: nothing is missing and the outs are as they were, or they hold the row's number and key.
use Prim.Native.Nat.{ℕ, ◌<◌}
use mathlib.Core.Path.{◌≡◌, sym, ap, ◌∙◌}
use mathlib.Core.List.{List}
use lib.IntN.{ℤ, pos}
use Rattle.std.specs.Prelude.{Option, Some, None}
use Rattle.segment_id.specs.declared.Kind.{Kind}
use Rattle.segment_id.specs.Key.{row_key}
use Rattle.missing_outs.specs.Outs.{missing_out, missing_by}
use Rattle.missing_outs.specs.Internal.{Numbered}

module _ (kind : Kind) (parent : List ℕ) (x : Option ℕ) (number : ℤ) (key : List ℕ) where
  pub told_nothing : x ≡ None → missing_out 0 number key ≡ missing_by kind parent number key x
  told_nothing e = rw e

  pub told_spill : (n : ℕ) → x ≡ Some n → (z : ℤ) (k : List ℕ) → z ≡ pos n → k ≡ row_key parent kind (pos n) → missing_out 12 z k ≡ missing_by kind parent number key x
  told_spill n e z k p q = rw (e, p, q)

pub number_below : (x : Option ℕ) (n : ℕ) → Numbered x → x ≡ Some n → n < 2147483648
number_below x n h e = rw e at h
