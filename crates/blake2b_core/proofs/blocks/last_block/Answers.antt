-- The padded copy agrees with the bytes left, so that its block is theirs.
use mathlib.Core.Path.{◌∙◌}
use Rattle.blake2b_core.proofs.BlockLaws.{block_padded}
use Rattle.blake2b_core.proofs.blocks.last_block.Goals as goal

pub returns : goal.returns
returns c = c.block.ensures ∙ block_padded _ _ _ c.padded-p.ensures.1
