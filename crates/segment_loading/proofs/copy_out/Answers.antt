-- A copy to the front of the list is a write at 0.
use Rattle.std.proofs.Common.{◌≡◌, ◌+◌, length, arith}
use Rattle.stores.specs.Stores.{write}
use lib.Seq.{length-take-le}
use Rattle.segment_loading.proofs.copy_out.Goals as goal

pub copy_from_slice-requires : goal.copy_from_slice-requires
copy_from_slice-requires c =
    let e = length-take-le 512 c.args.dst.now c.requires.1 in
    omega arith

pub returns : goal.returns
unfolding write
returns c =
    let e : 0 + length c.args.src.now ≡ 512 = omega arith in
    rw (c.copy_from_slice.ensures.after, e)
