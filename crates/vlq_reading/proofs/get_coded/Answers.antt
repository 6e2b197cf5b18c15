-- `vlq_reading::get_coded` meets its contract: ten groups hold no more than 64 bits, and a padded number is refused.
use mathlib.Core.Path.{sym, ◌∙◌}
use Rattle.vlq_core.proofs.ReadLaws.{any_64, any_next, of_any, read_refused}
use Rattle.vlq_reading.proofs.get_coded.Goals as goal

pub take_shortest-requires : goal.take_shortest-requires
take_shortest-requires c =
    any_next 64 _ _ _ _ (sym c.in-Ok.is ∙ c.get_groups.ensures ∙ any_64 _ _)

pub returns-in-Ok : goal.returns-in-Ok
returns-in-Ok c = c.take_shortest.ensures ∙ of_any 64 _ _ _ (sym c.in-Ok.is ∙ c.get_groups.ensures ∙ any_64 _ _)

pub returns-in-Err : goal.returns-in-Err
returns-in-Err c = read_refused 64 _ _ _ (sym c.in-Err.is ∙ c.get_groups.ensures ∙ any_64 _ _)
