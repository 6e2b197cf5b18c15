-- The ways out of a tally: each refusal, and the rows behind the head's figures.
use Prim.Native.Nat.{ℕ}
use mathlib.Core.Path.{◌≡◌, ◌∙◌}
use mathlib.Core.Bool.{true, false}
use mathlib.Core.List.{List}
use lib.IntN.{ℤ, nat_abs}
use Rattle.signed.specs.Sign.{is_negative}
use Rattle.index_types.specs.declared.Tally.{Tally}
use Rattle.std.specs.Prelude.{Err}
use Rattle.index_types.specs.Answers.{Tallied}
use Rattle.entries.specs.Order.{order_ok}
use Rattle.entries.specs.Tally.{figures}
use Rattle.buffer_core.specs.Edition.{Edition}
use Rattle.buffer_core.specs.Spills.{Sources}
use Rattle.buffer_core.specs.Flip.{row_checked}
use Rattle.buffer_core.specs.Tally.{tally_core}
use Rattle.row_tallies.specs.Internal.{tally_rows}
use Rattle.row_tallies.proofs.TallyLaws.{rows_then_head}

module _ (E : Edition) (w : Sources) (spills : ℤ) (zs : List ℤ) where
  pub tally_10 : order_ok zs ≡ false → Err 10 ≡ tally_core E w spills zs
  unfolding tally_core
  tally_10 e = rw e

  pub tally_11 : order_ok zs ≡ true → is_negative spills ≡ true → Err 11 ≡ tally_core E w spills zs
  unfolding tally_core
  tally_11 e f = rw (e, f)

  pub tally_on : order_ok zs ≡ true → is_negative spills ≡ false → (n : ℕ) (t : Tally) → n ≡ nat_abs spills → t ≡ figures zs
      → (r : Tallied) → r ≡ tally_rows (row_checked E w) 0 n t → r ≡ tally_core E w spills zs
  unfolding tally_core
  tally_on e f n t a b r q =
      rw (e, f) (q ∙ (λ i. tally_rows (row_checked E w) 0 (a i) (b i)) ∙ rows_then_head (row_checked E w) (nat_abs spills) zs)
