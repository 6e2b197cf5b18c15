-- `distinct_keys::word` meets its contract: the lower half and the higher half.
use Rattle.std.proofs.Common.{◌+◌, ◌*◌, ◌^◌}
use Rattle.distinct_keys.specs.Internal.{word_at}
use Rattle.distinct_keys.proofs.word.Goals as goal

pub returns : goal.returns
unfolding word_at
returns c = λ i. c.half.ensures.value i + c.half-2.ensures.value i * 2 ^ 32
