-- Laws of what a spend or an unspend does, one for each way out.
use Prim.Native.Nat.{ℕ, ◌≤◌, ◌<◌}
use mathlib.Core.Path.{◌≡◌, sym, ◌∙◌}
use mathlib.Core.Bool.{Bool, true, false}
use mathlib.Core.List.{List}
use native.Mathlib.Omega.{arith}
use borrow.Author.Tests.{le-leb, lt-leb}
use lib.Dec.{leb}
use lib.IntN.{ℤ, nat_abs}
use lib.ListN.{take}
use Rattle.signed.specs.Sign.{is_negative}
use Rattle.entries.specs.Order.{order_ok}
use Rattle.entries.specs.Flip.{position, flipped_at}
use Rattle.entries.specs.declared.Position.{Position}
use Rattle.entries.specs.declared.Position.TheVariants.{At, Seen, Absent}
use Rattle.index_types.specs.declared.ListCounts.{ListCounts}
use Rattle.index_types.specs.declared.HeadCounts.{HeadCounts}
use Rattle.buffer_core.specs.declared.Direction.{Direction}
use Rattle.std.specs.Prelude.{Ok, Err}
use Rattle.index_types.specs.Answers.{Flipped}
use Rattle.index_types.specs.declared.RowEdition.{RowEdition}
use Rattle.buffer_core.specs.Edition.{edition_of}
use Rattle.buffer_core.specs.Spills.{Sources, sources}
use Rattle.buffer_core.specs.Flip.{Flipping, flipping, done_by, spends, in_rows, in_order, flip_effect, flip_core}
use Rattle.flip_stage.specs.Internal.{Stages}

-- ---- the head first

module _ (ed : RowEdition) (w : Sources) (c : ListCounts) (staged : List ℕ) (t : ℕ) (d : Bool) (spills n : ℕ) (head : List ℤ) (p : Position) (e : p ≡ position d t (take n head) 0 false) where
  pub order_head : (i : ℕ) (head' : List ℤ) → p ≡ At i → head' ≡ flipped_at (At i) head
      → flipping (Ok c) head' staged ≡ done_by (edition_of ed) (in_order (edition_of ed) w c.capacity t d spills (take n head)) c head staged
  unfolding in_order
  order_head i head' q h = rw (sym e ∙ q, h)

  module _ (r : Flipped) (staged' : List ℕ) where
    pub order_seen : p ≡ Seen → Stages ed (in_rows (edition_of ed) w c.capacity t d spills true) c staged r staged'
        → flipping r head staged' ≡ done_by (edition_of ed) (in_order (edition_of ed) w c.capacity t d spills (take n head)) c head staged
    unfolding in_order
    order_seen q s = rw (sym e ∙ q) (s head)

    pub order_absent : p ≡ Absent → Stages ed (in_rows (edition_of ed) w c.capacity t d spills false) c staged r staged'
        → flipping r head staged' ≡ done_by (edition_of ed) (in_order (edition_of ed) w c.capacity t d spills (take n head)) c head staged
    unfolding in_order
    order_absent q s = rw (sym e ∙ q) (s head)

-- ---- 9, 10, 11; t is what a local holds of the target's absolute value

module _ (ed : RowEdition) (d : Direction) (parent : List ℕ) (h : HeadCounts) (z : ℤ) (c : ListCounts) (staged : List ℕ) (e : ListCounts) (table : List ℕ) (head : List ℤ)
    (t : ℕ) (et : t ≡ nat_abs z) where
  pub flip_9 : 9223372036854775808 ≤ t → flipping (Err 9) head staged ≡ flip_core (edition_of ed) d parent h z c staged e table head
  unfolding flip_core flip_effect
  flip_9 k = let q : 9223372036854775808 ≤ nat_abs z = omega arith in rw (le-leb 9223372036854775808 (nat_abs z) q)

  module _ (k : t < 9223372036854775808) where
    target_least : leb 9223372036854775808 (nat_abs z) ≡ false
    target_least = lt-leb 9223372036854775808 (nat_abs z) (omega arith)

    pub flip_10 : order_ok (take h.len head) ≡ false → flipping (Err 10) head staged ≡ flip_core (edition_of ed) d parent h z c staged e table head
    unfolding flip_core flip_effect
    flip_10 o = rw (target_least, o)

    module _ (o : order_ok (take h.len head) ≡ true) where
      pub flip_11 : is_negative h.spills ≡ true → flipping (Err 11) head staged ≡ flip_core (edition_of ed) d parent h z c staged e table head
      unfolding flip_core flip_effect
      flip_11 b = rw (target_least, o, b)

      pub flip_on : is_negative h.spills ≡ false → (f : Bool) (n : ℕ) → f ≡ spends d → n ≡ nat_abs h.spills → (x : Flipping)
          → x ≡ done_by (edition_of ed) (in_order (edition_of ed) (sources parent staged c.count table e.count) c.capacity t f n (take h.len head)) c head staged
          → x ≡ flip_core (edition_of ed) d parent h z c staged e table head
      unfolding flip_core flip_effect
      flip_on b f n ef en x s = rw (target_least, o, b, ← et, ← ef, ← en) s
