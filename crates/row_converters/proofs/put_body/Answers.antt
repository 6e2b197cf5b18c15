-- `row_converters::put_body` meets its contract: the rest of the row goes to the front where it fits.
use native.Mathlib.Omega.{arith}
use lib.ListN.{drop, length-drop}
use Rattle.stores.proofs.PutLaws.{put_as}
use Rattle.row_fronts.proofs.FrontLaws.{no_room, with_room}
use Rattle.row_converters.proofs.ConvertLaws.{rest}
use Rattle.row_converters.proofs.put_body.Goals as goal

pub returns-then-out-body : goal.returns-then-out-body
returns-then-out-body c =
    let a = c.args in
    no_room (drop a.at a.row.now) a.out.now (omega (arith, length-drop a.at a.row.now))

pub returns : goal.returns
returns c =
    let a = c.args in
    with_room (drop a.at a.row.now) a.out.now _ _ (omega (arith, length-drop a.at a.row.now)) (put_as (rest a.at a.row.now) a.out.now 0 _ _ c.put_bytes.ensures)
