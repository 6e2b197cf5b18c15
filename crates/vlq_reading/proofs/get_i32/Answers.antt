-- `vlq_reading::get_i32` meets its contract: what the coded number gives, as a signed one.
use mathlib.Core.Path.{sym, ◌∙◌}
use Rattle.vlq_core.proofs.ReadLaws.{read_fits}
use Rattle.vlq_reading.proofs.get_i32.Goals as goal

pub overflow_cast-coded : goal.overflow_cast-coded
overflow_cast-coded c = record { fits = read_fits 32 _ _ _ _ (sym c.in-Ok.is ∙ c.get_coded_32.ensures) }
