-- The space stands before the decimal.
use native.Mathlib.Omega.{arith}
use lib.ListN.{length-set}
use Rattle.stores.proofs.PutLaws.{put_cons}
use Rattle.text.specs.Text.{decimal}
use Rattle.line_parts.proofs.PartLaws.{decimal_most}
use Rattle.line_parts.proofs.put_spaced.Goals as goal

pub put_decimal-requires : goal.put_decimal-requires
put_decimal-requires c = rw length-set (omega (arith, decimal_most c.args.n))

pub returns : goal.returns
returns c =
    let a = c.args in
    let e = c.put_decimal.ensures in
    (put_cons 32 (decimal a.n) a.out.now a.at _ _ e, omega (arith, decimal_most a.n, e.0))
