use mathlib.Core.Path.{◌∙◌}
use lib.IntN.{pos}
use Rattle.trial_buffers.proofs.BufferLaws.{write_all}
use Rattle.trial_buffers.proofs.zero_numbers.Goals as goal

pub returns : goal.returns
returns c = c.clear_numbers.ensures ∙ write_all (pos 0) c.args.dst.now
