-- Four bytes, the lowest first.
use Rattle.std.proofs.Common.{◌+◌, ◌*◌, ◌^◌}
use Rattle.distinct_keys.specs.Internal.{half_at}
use Rattle.distinct_keys.proofs.half.Goals as goal

pub returns-clause-value : goal.returns-clause-value
unfolding half_at
returns-clause-value c =
    λ i. c.wide.ensures.value i + c.wide-2.ensures.value i * 2 ^ 8 + c.wide-3.ensures.value i * 2 ^ 16 + c.wide-4.ensures.value i * 2 ^ 24
