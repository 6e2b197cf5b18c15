-- Laws of the rows as one list, and of a tally over it, in any edition.
use Prim.Native.Nat.{ℕ, zero, suc, ◌+◌, ◌*◌}
use mathlib.Core.Path.{◌≡◌, refl, sym, ap, ◌∙◌}
use mathlib.Core.Bool.{Bool, true, false, cond, ◌&&◌}
use mathlib.Core.List.{List, [], ◌++◌}
use native.Mathlib.Omega.{arith}
use lib.Dec.{eqb}
use lib.IntN.{ℤ, nat_abs}
use lib.ListN.{length, take, length-append}
use borrow.Author.Tests.{eqb-true}
use Rattle.signed.specs.Sign.{is_negative}
use Rattle.index_types.specs.declared.ListCounts.{ListCounts}
use Rattle.records.proofs.CheckLaws.{and_left}
use Rattle.index_types.specs.declared.Tally.{Tally}
use Rattle.entries.specs.Order.{order_ok}
use Rattle.entries.specs.Tally.{figures}
use Rattle.entries.proofs.TallyLaws.{adds_up}
use Rattle.index_types.specs.declared.HeadCounts.{HeadCounts}
use Rattle.std.specs.Prelude.{Ok, Err}
use Rattle.index_types.specs.Answers.{Tallied}
use Rattle.buffer_core.specs.Edition.{Edition, RowRead, bad, good}
use Rattle.buffer_core.specs.Spills.{Sources, sources, spill_read}
use Rattle.buffer_core.specs.Rows.{then_more, then_rows, rows_up}
use Rattle.buffer_core.specs.Flip.{check_row, row_checked, flip_ok}
use Rattle.buffer_core.specs.Tally.{tally_over, tally_core, tally_of}

-- a list of n numbers, or a refusal
abbrev pub Sized : ℕ → RowRead → Type 0
Sized n (bad code) = Unit {0}
Sized n (good zs) = length zs ≡ n

-- a checked row has 512
pub checked_512 : (r : RowRead) → Sized 512 (check_row r)
checked_512 (bad code) = tt
checked_512 (good zs) = by_test (eqb (length zs) 512 && order_ok zs) refl
  where
    by_test : (b : Bool) → eqb (length zs) 512 && order_ok zs ≡ b → Sized 512 (cond b (good zs) (bad 13))
    by_test true p = eqb-true (length zs) 512 (and_left (eqb (length zs) 512) (order_ok zs) p)
    by_test false p = tt

-- k rows of 512 each have 512 times k
pub rows_512 : (f : ℕ → RowRead) → ((i : ℕ) → Sized 512 (f i)) → (n k : ℕ) → Sized (k * 512) (rows_up f n k)
unfolding rows_up
rows_512 f h n zero = refl
rows_512 f h n (suc k) = by_row (f n) (h n) (rows_up f (n + 1) k) (rows_512 f h (n + 1) k)
  where
    by_row : (x : RowRead) → Sized 512 x → (y : RowRead) → Sized (k * 512) y → Sized (suc k * 512) (then_rows x y)
    by_row (bad code) p y q = tt
    by_row (good zs) p (bad code) q = tt
    by_row (good zs) p (good ys) q = length-append zs ys ∙ omega arith

-- document 02, U4: "The three add up to the number of entries": 512 times the spill count, and the head
abbrev pub AddsUp : ℕ → Tallied → Type 0
AddsUp n (Ok t) = t.unspent + t.spent + t.unknown ≡ n
AddsUp n (Err code) = Unit {0}

module _ (E : Edition) where
  core_adds_up : (w : Sources) (spills : ℤ) (zs : List ℤ) → AddsUp (nat_abs spills * 512 + length zs) (tally_core E w spills zs)
  unfolding tally_core
  core_adds_up w spills zs = by_order (order_ok zs) (is_negative spills)
    where
      over : (r : RowRead) → Sized (nat_abs spills * 512) r → AddsUp (nat_abs spills * 512 + length zs) (tally_over r zs)
      over (bad code) p = tt
      over (good ys) p = adds_up (ys ++ zs) ∙ length-append ys zs ∙ ap (λ (n : ℕ). n + length zs) p

      by_order : (a b : Bool) → AddsUp (nat_abs spills * 512 + length zs) (cond a (cond b (Err 11) (tally_over (rows_up (row_checked E w) 0 (nat_abs spills)) zs)) (Err 10))
      by_order false b = tt
      by_order true true = tt
      by_order true false =
          over (rows_up (row_checked E w) 0 (nat_abs spills)) (rows_512 (row_checked E w) (λ i. checked_512 (spill_read E _ w i)) 0 (nat_abs spills))

  pub tally_adds_up : (parent : List ℕ) (h : HeadCounts) (c : ListCounts) (staged : List ℕ) (e : ListCounts) (table : List ℕ) (head : List ℤ)
      → AddsUp (nat_abs h.spills * 512 + length (take h.len head)) (tally_of E parent h c staged e table head)
  unfolding tally_of
  tally_adds_up parent h c staged e table head = by_ok (flip_ok E h c staged e table head)
    where
      by_ok : (b : Bool) → AddsUp (nat_abs h.spills * 512 + length (take h.len head))
          (cond b (tally_core E (sources parent staged c.count table e.count) h.spills (take h.len head)) (Err 25))
      by_ok true = core_adds_up (sources parent staged c.count table e.count) h.spills (take h.len head)
      by_ok false = tt
