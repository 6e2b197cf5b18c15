-- `undo_entries::put_numbers` meets its contract: eight bytes and then eight more.
use native.Mathlib.Omega.{arith}
use Rattle.big_endian.specs.BigEndian.{eight_bytes}
use Rattle.stores.proofs.PutLaws.{put_both}
use Rattle.big_endian.proofs.ByteLaws.{length_eight}
use Rattle.undo_entries.proofs.put_numbers.Goals as goal

pub put_u64-requires : goal.put_u64-requires
put_u64-requires c = omega (arith, c.put_u64-next.ensures.0, length_eight c.args.txs)

pub returns : goal.returns
returns c = let a = c.args in put_both (eight_bytes a.txs) (eight_bytes a.boxes) a.out.now a.at _ _ _ _ c.put_u64-next.ensures c.put_u64.ensures
