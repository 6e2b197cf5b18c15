-- The space stands before the number.
use mathlib.Core.Path.{ap}
use native.Mathlib.Omega.{arith}
use lib.ListN.{length-set}
use mir.Syntax.{w64}
use mir.Val.{to_z, of_z}
use Rattle.signed.proofs.SignedLaws.{back}
use Rattle.stores.proofs.PutLaws.{put_as, put_cons}
use Rattle.text.specs.Text.{number}
use Rattle.line_parts.specs.Parts.{spaced_number}
use Rattle.line_parts.proofs.PartLaws.{number_most}
use Rattle.line_parts.proofs.put_spaced_number.Goals as goal

pub put_number-requires : goal.put_number-requires
put_number-requires c = rw length-set (omega (arith, number_most (to_z w64 (of_z w64 c.args.z))))

pub returns : goal.returns
returns c =
    let a = c.args in
    let z = to_z w64 (of_z w64 a.z) in
    let e = c.put_number.ensures in (
      put_as (ap spaced_number (back w64 a.z c.ranges.z)) a.out.now a.at _ _ (put_cons 32 (number z) a.out.now a.at _ _ e),
      omega (arith, number_most z, e.0),
    )
