-- What a refusal of a spend or an unspend that comes before the first row leaves to read, and what is read without one.
use Prim.Native.Nat.{ℕ, ◌<◌, ◌≤◌}
use mathlib.Core.Path.{◌≡◌, refl, sym, ap, ◌∙◌}
use mathlib.Core.Bool.{Bool, true, false}
use mathlib.Core.List.{List}
use native.Mathlib.Omega.{arith}
use borrow.Author.Tests.{le-leb, lt-leb}
use lib.Dec.{leb}
use lib.IntN.{ℤ, nat_abs}
use lib.ListN.{take}
use Rattle.signed.specs.Sign.{is_negative}
use Rattle.entries.specs.Order.{order_ok}
use Rattle.entries.specs.Flip.{position}
use Rattle.entries.specs.declared.Position.{Position}
use Rattle.entries.specs.declared.Position.TheVariants.{At, Seen, Absent}
use Rattle.index_types.specs.declared.HeadCounts.{HeadCounts}
use Rattle.index_types.specs.declared.ListCounts.{ListCounts}
use Rattle.segment_id.specs.declared.Kind.TheVariants.{Box}
use Rattle.buffer_core.specs.declared.Direction.{Direction}
use Rattle.buffer_core.specs.Edition.{Edition}
use Rattle.buffer_core.specs.Spills.{Sources, sources}
use Rattle.buffer_core.specs.Flip.{spends, flip_ok}
use Rattle.working_set.specs.Reads.{first_missing, head_reads, rows_reads, flip_core_reads, flip_reads}
use Rattle.std.specs.Prelude.{Option, None}
use Rattle.row_seeking.specs.Seeking.{among}
use Rattle.missing_rows.specs.Missing.{missing_for_flip}
use Rattle.row_seeking.specs.Internal.{reads_between}

module _ (E : Edition) (w : Sources) (target : ℕ) (d : Bool) (spills : ℕ) (zs : List ℤ) (p : Position) (e : p ≡ position d target zs 0 false) where
  abbrev behind : Option ℕ
  behind = among E Box w (head_reads (position d target zs 0 false) (rows_reads E w target d spills))

  by_position : (q : Position) → p ≡ q → (r : Option ℕ) → r ≡ among E Box w (head_reads q (rows_reads E w target d spills)) → r ≡ behind
  by_position q h r x = x ∙ ap (λ (y : Position). among E Box w (head_reads y (rows_reads E w target d spills))) (sym h ∙ e)

  rows_same : rows_reads E w target d spills ≡ reads_between E w target d 0 spills
  unfolding rows_reads reads_between
  rows_same = refl

  pub head_has : (i : ℕ) → p ≡ At i → None ≡ behind
  unfolding first_missing
  head_has i h = by_position (At i) h None refl

  pub head_seen : p ≡ Seen → (r : Option ℕ) → r ≡ among E Box w (reads_between E w target d 0 spills) → r ≡ behind
  head_seen h r x = by_position Seen h r (x ∙ ap (among E Box w) (sym rows_same))

  pub head_absent : p ≡ Absent → (r : Option ℕ) → r ≡ among E Box w (reads_between E w target d 0 spills) → r ≡ behind
  head_absent h r x = by_position Absent h r (x ∙ ap (among E Box w) (sym rows_same))

module _ (E : Edition) (d : Direction) (parent : List ℕ) (h : HeadCounts) (target : ℤ) (c : ListCounts) (staged : List ℕ) (e : ListCounts) (work : List ℕ) (head : List ℤ) where
  abbrev asked : Option ℕ
  asked = missing_for_flip E d parent h target c staged e work head

  pub flip_25 : flip_ok E h c staged e work head ≡ false → None ≡ asked
  unfolding flip_reads first_missing
  flip_25 t = rw t

  module _ (t : flip_ok E h c staged e work head ≡ true) (m : ℕ) (q : m ≡ nat_abs target) where
    pub flip_9 : 9223372036854775808 ≤ m → None ≡ asked
    unfolding flip_reads flip_core_reads first_missing
    flip_9 l = rw (t, le-leb 9223372036854775808 (nat_abs target) (omega arith))

    module _ (l : m < 9223372036854775808) where
      small : leb 9223372036854775808 (nat_abs target) ≡ false
      small = lt-leb 9223372036854775808 (nat_abs target) (omega arith)

      pub flip_10 : order_ok (take h.len head) ≡ false → None ≡ asked
      unfolding flip_reads flip_core_reads first_missing
      flip_10 o = rw (t, small, o)

      module _ (o : order_ok (take h.len head) ≡ true) where
        pub flip_11 : is_negative h.spills ≡ true → None ≡ asked
        unfolding flip_reads flip_core_reads first_missing
        flip_11 n = rw (t, small, o, n)

        abbrev found : (m k : ℕ) → Bool → Option ℕ
        found m k s =
            among E Box (sources parent staged c.count work e.count)
            (head_reads (position s m (take h.len head) 0 false) (rows_reads E (sources parent staged c.count work e.count) m s k))

        pub flip_goes : is_negative h.spills ≡ false → (k : ℕ) → k ≡ nat_abs h.spills → (s : Bool) → s ≡ spends d → (r : Option ℕ) → r ≡ found m k s → r ≡ asked
        unfolding flip_reads flip_core_reads
        flip_goes n k x s y r z = rw (t, small, o, n) (z ∙ (λ i. found (q i) (x i) (y i)))
