use mathlib.Core.Path.{◌∙◌}
use Rattle.trial_buffers.proofs.BufferLaws.{write_all}
use Rattle.trial_buffers.proofs.zero_bytes.Goals as goal

pub returns : goal.returns
returns c = c.clear_bytes.ensures ∙ write_all 0 c.args.dst.now
