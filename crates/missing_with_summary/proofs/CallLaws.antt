-- What a refusal that comes before the first row leaves to read, and what is read without one.
use Prim.Native.Nat.{ℕ, ◌*◌, ◌<◌, ◌≤◌}
use mathlib.Core.Path.{◌≡◌, refl, sym, ap, ◌∙◌}
use mathlib.Core.Bool.{Bool, true, false, ◌&&◌}
use mathlib.Core.List.{List}
use native.Mathlib.Omega.{arith}
use borrow.Author.Tests.{le-leb, lt-leb, lt-ltb, le-ltb, leb-true}
use lib.Dec.{leb}
use lib.IntN.{ℤ, nat_abs}
use lib.ListN.{length, take}
use Rattle.signed.specs.Sign.{is_negative}
use Rattle.entries.specs.Order.{order_ok}
use Rattle.entries.specs.Flip.{position}
use Rattle.entries.specs.declared.Position.{Position}
use Rattle.entries.specs.declared.Position.TheVariants.{At, Seen, Absent}
use Rattle.index_types.specs.Limits.{summary_line}
use Rattle.index_types.specs.declared.HeadCounts.{HeadCounts}
use Rattle.index_types.specs.declared.ListCounts.{ListCounts}
use Rattle.std.specs.Prelude.{Option, None}
use Rattle.records.proofs.CheckLaws.{and_left, and_right}
use Rattle.segment_id.specs.declared.Kind.TheVariants.{Box}
use Rattle.buffer_core.specs.declared.Direction.{Direction}
use Rattle.buffer_core.specs.Edition.{Edition}
use Rattle.buffer_core.specs.Spills.{Sources, sources}
use Rattle.buffer_core.specs.Flip.{spends, flip_ok}
use Rattle.summary_core.specs.Lines.{lines_ok}
use Rattle.working_set.specs.Reads.{first_missing, head_reads}
use Rattle.working_summaries.specs.Reads.{in_lines_reads, flip_lines_core_reads, flip_lines_reads}
use Rattle.row_seeking.specs.Seeking.{among}
use Rattle.missing_with_summary.specs.Missing.{missing_for_flip_with_summary}

-- ---- the head; p is what a local holds of the entry's position, rows the lines' rows
module _ (E : Edition) (w : Sources) (rows : List ℕ) (p q : Position) (e : p ≡ q) where
  pub head_has : (i : ℕ) → p ≡ At i → None ≡ among E Box w (head_reads q rows)
  unfolding first_missing
  head_has i h = rw (← e, h)

  pub head_seen : p ≡ Seen → (r : Option ℕ) → r ≡ among E Box w rows → r ≡ among E Box w (head_reads q rows)
  head_seen h r x = rw (← e, h) x

  pub head_absent : p ≡ Absent → (r : Option ℕ) → r ≡ among E Box w rows → r ≡ among E Box w (head_reads q rows)
  head_absent h r x = rw (← e, h) x

module _ (E : Edition) (d : Direction) (parent : List ℕ) (h : HeadCounts) (target : ℤ) (c : ListCounts) (staged : List ℕ) (e : ListCounts) (work : List ℕ) (head : List ℤ) (lines : ℕ) (S : List ℕ) where
  abbrev asked : Option ℕ
  asked = missing_for_flip_with_summary E d parent h target c staged e work head lines S

  abbrev passes : Bool
  passes = flip_ok E h c staged e work head && lines_ok lines S

  pub flip_25 : passes ≡ false → None ≡ asked
  unfolding flip_lines_reads first_missing
  flip_25 t = rw t

  module _ (t : passes ≡ true) where
    pub lists_pass : flip_ok E h c staged e work head ≡ true
    lists_pass = and_left (flip_ok E h c staged e work head) (lines_ok lines S) t

    pub lines_fit : lines * summary_line ≤ length S
    lines_fit = leb-true (lines * summary_line) (length S) (and_right (flip_ok E h c staged e work head) (lines_ok lines S) t)

    module _ (m : ℕ) (q : m ≡ nat_abs target) where
      pub flip_9 : 9223372036854775808 ≤ m → None ≡ asked
      unfolding flip_lines_reads flip_lines_core_reads first_missing
      flip_9 l = rw (t, le-leb 9223372036854775808 (nat_abs target) (omega arith))

      module _ (l : m < 9223372036854775808) where
        small : leb 9223372036854775808 (nat_abs target) ≡ false
        small = lt-leb 9223372036854775808 (nat_abs target) (omega arith)

        pub flip_10 : order_ok (take h.len head) ≡ false → None ≡ asked
        unfolding flip_lines_reads flip_lines_core_reads first_missing
        flip_10 o = rw (t, small, o)

        module _ (o : order_ok (take h.len head) ≡ true) where
          pub flip_11 : is_negative h.spills ≡ true → None ≡ asked
          unfolding flip_lines_reads flip_lines_core_reads first_missing
          flip_11 n = rw (t, small, o, n)

          module _ (n : is_negative h.spills ≡ false) (k : ℕ) (x : k ≡ nat_abs h.spills) where
            pub flip_36 : lines < k → None ≡ asked
            unfolding flip_lines_reads flip_lines_core_reads first_missing
            flip_36 f = rw (t, small, o, n, lt-ltb lines (nat_abs h.spills) (omega arith))

            abbrev found : (m k : ℕ) → Bool → Option ℕ
            found m k s =
                among E Box (sources parent staged c.count work e.count)
                (head_reads (position s m (take h.len head) 0 false) (in_lines_reads E (sources parent staged c.count work e.count) S m s k))

            pub flip_goes : k ≤ lines → (s : Bool) → s ≡ spends d → (r : Option ℕ) → r ≡ found m k s → r ≡ asked
            unfolding flip_lines_reads flip_lines_core_reads
            flip_goes f s y r z = rw (t, small, o, n, le-ltb lines (nat_abs h.spills) (omega arith)) (z ∙ (λ i. found (q i) (x i) (y i)))
