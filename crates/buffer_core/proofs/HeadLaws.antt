-- Laws of a head and its counts: what refusal 25 asks of it, as facts and back, and the range of its spill count.
use Prim.Native.Nat.{ℕ, ◌≤◌, ◌<◌}
use mathlib.Core.Path.{◌≡◌}
use mathlib.Core.Bool.{true, false}
use mathlib.Core.List.{List}
use native.Mathlib.Omega.{arith}
use lib.Dec.{leb}
use lib.IntN.{ℤ, nat_abs}
use lib.ListN.{length}
use lib.Signed.{mag}
use mir.Syntax.{w32}
use mir.Val.{SFits}
use borrow.Author.Tests.{leb-true, le-leb}
use Rattle.signed.specs.Sign.{is_negative}
use Rattle.signed.proofs.SignedLaws.{natAbs_above}
use Rattle.records.proofs.CheckLaws.{and_left, and_right, and_true}
use Rattle.index_types.specs.declared.HeadCounts.{HeadCounts}
use Rattle.buffer_core.specs.Spills.{head_ok}

pub record HeadOk (h : HeadCounts) (head : List ℤ) : Type 0 where
  pub few : h.len ≤ 512
  pub long : 512 ≤ length head

pub head_facts : (h : HeadCounts) (head : List ℤ) → head_ok h head ≡ true → HeadOk h head
head_facts h head t =
    record {
      few = leb-true h.len 512 (and_left (leb h.len 512) (leb 512 (length head)) t);
      long = leb-true 512 (length head) (and_right (leb h.len 512) (leb 512 (length head)) t);
    }

pub head_test : (h : HeadCounts) (head : List ℤ) → HeadOk h head → head_ok h head ≡ true
head_test h head f =
    and_true (leb h.len 512) (leb 512 (length head)) (le-leb h.len 512 f.few) (le-leb 512 (length head) f.long)

-- a spill count that is not negative, as a number
pub spills_below : (z : ℤ) → is_negative z ≡ false → SFits w32 z → (n : ℕ) → n ≡ nat_abs z → n < 2147483648
spills_below z h f n e = let m : mag z < 2147483648 = f.sfits in omega (arith, natAbs_above z h)
