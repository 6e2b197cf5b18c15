-- `segment_reading::read_list` meets its contract: the length, then as many numbers.
use mathlib.Core.Path.{sym, ◌∙◌}
use Rattle.segment_core.proofs.ListLaws.{length_most, list_numbers, list_bad}
use Rattle.segment_reading.proofs.read_list.Goals as goal

pub read_numbers-requires : goal.read_numbers-requires
read_numbers-requires c = (length_most _ _ _ _ (sym c.read_length.ensures ∙ c.in-Ok.is)).0

pub returns-in-Ok : goal.returns-in-Ok
returns-in-Ok c = list_numbers _ _ _ c.read_length.ensures _ _ c.in-Ok.is _ _ _ c.read_numbers.ensures

pub returns-in-Err : goal.returns-in-Err
returns-in-Err c = list_bad _ _ _ c.read_length.ensures _ c.in-Err.is _ _
