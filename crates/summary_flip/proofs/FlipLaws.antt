-- Laws of a spend or an unspend with a summary, one for each way out.
use Prim.Native.Nat.{ℕ, ◌≤◌, ◌<◌}
use mathlib.Core.Path.{◌≡◌, sym, ◌∙◌}
use mathlib.Core.Bool.{Bool, true, false}
use mathlib.Core.List.{List}
use native.Mathlib.Omega.{arith}
use borrow.Author.Tests.{le-leb, lt-leb, lt-ltb, le-ltb}
use lib.Dec.{leb}
use lib.IntN.{ℤ, nat_abs}
use lib.ListN.{take}
use Rattle.signed.specs.Sign.{is_negative}
use Rattle.entries.specs.Order.{order_ok}
use Rattle.entries.specs.Flip.{position, flipped_at}
use Rattle.entries.specs.declared.Position.{Position}
use Rattle.entries.specs.declared.Position.TheVariants.{At, Seen, Absent}
use Rattle.index_types.specs.declared.ListCounts.{ListCounts}
use Rattle.index_types.specs.declared.HeadCounts.{HeadCounts}
use Rattle.index_types.specs.declared.RowEdition.{RowEdition}
use Rattle.std.specs.Prelude.{Ok, Err}
use Rattle.index_types.specs.Answers.{Flipped}
use Rattle.buffer_core.specs.declared.Direction.{Direction}
use Rattle.buffer_core.specs.Edition.{edition_of}
use Rattle.buffer_core.specs.Spills.{Sources, sources}
use Rattle.buffer_core.specs.Flip.{search_in, walk_from, Flipping, flipping, spends}
use Rattle.summary_core.specs.Lines.{WithSummary, with_summary}
use Rattle.summary_core.specs.Flip.{line_lead, line_look, walk_lines, after_lines, in_lines, head_or_lines, done_lines, flip_lines, flip_lines_core}
use Rattle.summary_take.specs.Internal.{StagesLines}

module _ (v : RowEdition) (w : Sources) (c : ListCounts) (staged S : List ℕ) (t : ℕ) (d : Bool) (spills : ℕ) where
  -- ---- the lines

  pub lines_walked : (seen : Bool) (low : ℕ) → Ok low ≡ search_in (line_lead S) t 0 spills → (r : Flipped) (staged' S' : List ℕ)
      → StagesLines v (after_lines (edition_of v) w c.capacity S (walk_from (line_look (edition_of v) w S t d) low seen)) c staged r staged' S'
      → StagesLines v (in_lines (edition_of v) w c.capacity t d spills S seen) c staged r staged' S'
  unfolding in_lines walk_lines
  lines_walked seen low e r staged' S' s = rw (← e) s

  -- ---- the head first

  module _ (n : ℕ) (head : List ℤ) (p : Position) (e : p ≡ position d t (take n head) 0 false) where
    abbrev out : WithSummary Flipping
    out = done_lines (edition_of v) (head_or_lines (position d t (take n head) 0 false) (in_lines (edition_of v) w c.capacity t d spills S) S) c head staged

    pub order_head : (i : ℕ) (head' : List ℤ) → p ≡ At i → head' ≡ flipped_at (At i) head → with_summary (flipping (Ok c) head' staged) S ≡ out
    order_head i head' q h = rw (sym e ∙ q, h)

    module _ (r : Flipped) (staged' S' : List ℕ) where
      pub order_seen : p ≡ Seen → StagesLines v (in_lines (edition_of v) w c.capacity t d spills S true) c staged r staged' S' → with_summary (flipping r head staged') S' ≡ out
      order_seen q s = rw (sym e ∙ q) (s head)

      pub order_absent : p ≡ Absent → StagesLines v (in_lines (edition_of v) w c.capacity t d spills S false) c staged r staged' S' → with_summary (flipping r head staged') S' ≡ out
      order_absent q s = rw (sym e ∙ q) (s head)

-- ---- 9, 10, 11, 36; t is what a local holds of the target's absolute value

module _ (v : RowEdition) (d : Direction) (parent : List ℕ) (h : HeadCounts) (z : ℤ) (c : ListCounts) (staged : List ℕ) (e : ListCounts) (table : List ℕ) (head : List ℤ) (lines : ℕ) (S : List ℕ)
    (t : ℕ) (et : t ≡ nat_abs z) where
  abbrev whole : WithSummary Flipping
  whole = flip_lines_core (edition_of v) d parent h z c staged e table head lines S

  pub flip_9 : 9223372036854775808 ≤ t → with_summary (flipping (Err 9) head staged) S ≡ whole
  unfolding flip_lines_core flip_lines
  flip_9 k = let q : 9223372036854775808 ≤ nat_abs z = omega arith in rw (le-leb 9223372036854775808 (nat_abs z) q)

  module _ (k : t < 9223372036854775808) where
    target_least : leb 9223372036854775808 (nat_abs z) ≡ false
    target_least = lt-leb 9223372036854775808 (nat_abs z) (omega arith)

    pub flip_10 : order_ok (take h.len head) ≡ false → with_summary (flipping (Err 10) head staged) S ≡ whole
    unfolding flip_lines_core flip_lines
    flip_10 o = rw (target_least, o)

    module _ (o : order_ok (take h.len head) ≡ true) where
      pub flip_11 : is_negative h.spills ≡ true → with_summary (flipping (Err 11) head staged) S ≡ whole
      unfolding flip_lines_core flip_lines
      flip_11 b = rw (target_least, o, b)

      module _ (b : is_negative h.spills ≡ false) (n : ℕ) (en : n ≡ nat_abs h.spills) where
        pub flip_36 : lines < n → with_summary (flipping (Err 36) head staged) S ≡ whole
        unfolding flip_lines_core flip_lines
        flip_36 l = rw (target_least, o, b, ← en, lt-ltb lines n l)

        pub flip_on : n ≤ lines → (f : Bool) → f ≡ spends d → (x : WithSummary Flipping)
            → x ≡ done_lines (edition_of v) (head_or_lines (position f t (take h.len head) 0 false)
            (in_lines (edition_of v) (sources parent staged c.count table e.count) c.capacity t f n S) S) c head staged
            → x ≡ whole
        unfolding flip_lines_core flip_lines
        flip_on l f ef x s = rw (target_least, o, b, ← en, le-ltb lines n l, ← et, ← ef) s
