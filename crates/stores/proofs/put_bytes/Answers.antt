-- The copy is the write that `Put` asks for.
use Rattle.stores.proofs.PutLaws.{put_write}
use Rattle.stores.proofs.put_bytes.Goals as goal

pub returns : goal.returns
returns c =
    put_write c.args.src.now c.args.out.now c.args.at _ c.requires c.copy_bytes.ensures
