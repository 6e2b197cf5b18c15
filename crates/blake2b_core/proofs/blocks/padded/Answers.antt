-- The rest of the list, and zeros behind it.
use Rattle.blake2b_core.proofs.BlockLaws.{copied_rest}
use Rattle.blake2b_core.proofs.blocks.padded.Goals as goal

pub returns : goal.returns
returns c = copied_rest 128 c.args.s.now _ c.args.at c.requires.0 c.requires.1 c.copy_from_slice.ensures.after
