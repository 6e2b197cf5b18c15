-- `vlq_reading::get_coded_32` meets its contract, by one law for each way out.
use mathlib.Core.Path.{◌∙◌}
use Rattle.vlq_core.proofs.ReadLaws.{any_in, any_next, any_over, any_refused, of_any, read_refused}
use Rattle.vlq_reading.proofs.get_coded_32.Goals as goal

pub take_shortest-requires : goal.take_shortest-requires
take_shortest-requires c =
    any_next 32 _ _ _ _ (any_in 32 _ _ c.get_groups.ensures _ _ c.in-Ok.is c.if-coded-lt4294967296.true)

pub returns-then-coded-lt4294967296 : goal.returns-then-coded-lt4294967296
returns-then-coded-lt4294967296 c =
    c.take_shortest.ensures ∙ of_any 32 _ _ _ (any_in 32 _ _ c.get_groups.ensures _ _ c.in-Ok.is c.if-coded-lt4294967296.true)

pub returns-else-coded-lt4294967296 : goal.returns-else-coded-lt4294967296
returns-else-coded-lt4294967296 c = read_refused 32 _ _ _ (any_over 32 _ _ c.get_groups.ensures _ _ c.in-Ok.is c.if-coded-lt4294967296.false)

pub returns-in-Err : goal.returns-in-Err
returns-in-Err c = read_refused 32 _ _ _ (any_refused 32 _ _ c.get_groups.ensures _ c.in-Err.is)
