-- `big_endian::put_u64` meets its contract: eight stores, one for each byte.
use mathlib.Core.Path.{refl}
use Rattle.big_endian.specs.BigEndian.{eight_bytes}
use Rattle.big_endian.proofs.ByteLaws.{eight_put}
use Rattle.big_endian.proofs.put_u64.Goals as goal

pub returns : goal.returns
unfolding eight_bytes
returns c = (refl, eight_put c.args.out.now c.args.at c.args.n)
