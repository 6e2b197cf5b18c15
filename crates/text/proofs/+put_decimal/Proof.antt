-- All digits but the last are written by the call, and the last one behind them.
use mathlib.Core.Path.{ap}
use lib.ListN.{length}
use native.Mathlib.Omega.{arith}
use borrow.Author.Rules.{rules}
use Rattle.text.proofs.TextLaws.{decimal_last, decimal_room, decimal_turn, decimal_small}
use Prim.Native.Nat.{ℕ, ◌<◌}
use borrow.Fn.Kinds.{In}
use borrow.Fn.PlainCycle.{Measures, is, falls, and}
use Rattle.text.proofs.put_decimal.Reads as put_decimal
use Rattle.text.proofs.put_decimal.Kinds as put_decimal_kinds
use Rattle.text.proofs.+put_decimal.Lts-put_decimal as put_decimal_lts
use Rattle.text.proofs.+put_decimal.{statement}
use Rattle.text.proofs.+put_decimal.Tie.{close}

abbrev μ_put_decimal : Measures 1 put_decimal_kinds.ps ℕ
μ_put_decimal κs a = a.0

abbrev put_decimal_at : ℕ → In 1 put_decimal_kinds.ps
put_decimal_at t =
    and 1 put_decimal_kinds.ps (is 1 put_decimal_kinds.ps μ_put_decimal t) put_decimal.Pre

abbrev put_decimal_below : ℕ → In 1 put_decimal_kinds.ps
put_decimal_below t =
    and 1 put_decimal_kinds.ps (falls 1 put_decimal_kinds.ps ◌<◌ μ_put_decimal t) put_decimal.Pre

put_decimal_add_out : (t : ℕ) → put_decimal_lts.Need-overflow_add-out (
  put_decimal_below t,
  put_decimal.Post,
) (put_decimal_at t) put_decimal.Post
put_decimal_add_out t c = search rules

put_decimal_cast_out : (t : ℕ) → put_decimal_lts.Need-overflow_cast-out (
  put_decimal_below t,
  put_decimal.Post,
) (put_decimal_at t) put_decimal.Post
put_decimal_cast_out t c = search rules

put_decimal_slice_write_out : (t : ℕ) → put_decimal_lts.Need-bounds-out-at (
  put_decimal_below t,
  put_decimal.Post,
) (put_decimal_at t) put_decimal.Post
put_decimal_slice_write_out t c = omega (arith, ap length (decimal_small _ c.if-n-lt10.true))

put_decimal_add_result : (t : ℕ) → put_decimal_lts.Need-overflow_add-result (
  put_decimal_below t,
  put_decimal.Post,
) (put_decimal_at t) put_decimal.Post
put_decimal_add_result t c = search rules

put_decimal_same_length : (t : ℕ) → put_decimal_lts.Need-shape_of-out-then-n-lt10 (
  put_decimal_below t,
  put_decimal.Post,
) (put_decimal_at t) put_decimal.Post
put_decimal_same_length t c = search rules

put_decimal_returns : (t : ℕ) → put_decimal_lts.Need-returns-then-n-lt10 (
  put_decimal_below t,
  put_decimal.Post,
) (put_decimal_at t) put_decimal.Post
put_decimal_returns t c = decimal_last _ _ _ c.if-n-lt10.true

put_decimal_put_decimal_requires : (t : ℕ) → put_decimal_lts.Need-put_decimal-o-requires (
  put_decimal_below t,
  put_decimal.Post,
) (put_decimal_at t) put_decimal.Post
put_decimal_put_decimal_requires t c κs =
    let s = c.before.before.before in
    (omega arith, omega (arith, decimal_room _ c.before.if-n-lt10.false s.ranges.n.fits))

put_decimal_add_out_2 : (t : ℕ) → put_decimal_lts.Need-overflow_add-out-2 (
  put_decimal_below t,
  put_decimal.Post,
) (put_decimal_at t) put_decimal.Post
put_decimal_add_out_2 t c = search rules

put_decimal_cast_out_2 : (t : ℕ) → put_decimal_lts.Need-overflow_cast-out-2 (
  put_decimal_below t,
  put_decimal.Post,
) (put_decimal_at t) put_decimal.Post
put_decimal_cast_out_2 t c = search rules

put_decimal_slice_write_out_2 : (t : ℕ) → put_decimal_lts.Need-bounds-out-o (
  put_decimal_below t,
  put_decimal.Post,
) (put_decimal_at t) put_decimal.Post
put_decimal_slice_write_out_2 t c =
    let s = c.before.before.before.before.before.before in
    omega (arith, decimal_room _ c.before.before.before.before.if-n-lt10.false s.ranges.n.fits, c.before.before.put_decimal-o.auto.out)

put_decimal_add_result_2 : (t : ℕ) → put_decimal_lts.Need-overflow_add-result-2 (
  put_decimal_below t,
  put_decimal.Post,
) (put_decimal_at t) put_decimal.Post
put_decimal_add_result_2 t c =
    let s = c.before.before.before.before.before.before in
    omega (arith, decimal_room _ c.before.before.before.before.if-n-lt10.false s.ranges.n.fits, c.before.before.put_decimal-o.auto.out)

put_decimal_same_length_2 : (t : ℕ) → put_decimal_lts.Need-shape_of-out (
  put_decimal_below t,
  put_decimal.Post,
) (put_decimal_at t) put_decimal.Post
put_decimal_same_length_2 t c = search rules

put_decimal_returns_2 : (t : ℕ) → put_decimal_lts.Need-returns (
  put_decimal_below t,
  put_decimal.Post,
) (put_decimal_at t) put_decimal.Post
put_decimal_returns_2 t c =
    let s = c.before.before.before.before.before.before in
    decimal_turn s.args.n s.args.out.now s.args.at _ _ c.before.before.before.before.if-n-lt10.false s.ranges.n.fits c.before.before.put_decimal-o.ensures

pub +put_decimal_spec : {M : Type 1} → statement M
+put_decimal_spec = close μ_put_decimal λ t. put_decimal_lts.spec (
  put_decimal_below t,
  put_decimal.Post,
)
    (put_decimal_at t)
    put_decimal.Post
    (put_decimal_add_out t)
    (put_decimal_cast_out t)
    (put_decimal_slice_write_out t)
    (put_decimal_add_result t)
    (put_decimal_same_length t)
    (put_decimal_returns t)
    (put_decimal_put_decimal_requires t)
    (put_decimal_add_out_2 t)
    (put_decimal_cast_out_2 t)
    (put_decimal_slice_write_out_2 t)
    (put_decimal_add_result_2 t)
    (put_decimal_same_length_2 t)
    (put_decimal_returns_2 t)
