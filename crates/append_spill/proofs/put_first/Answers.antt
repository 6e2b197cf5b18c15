-- `append_spill::put_first` meets its contract: a store, and zeros behind it.
use mathlib.Core.Path.{ap, ◌∙◌}
use lib.ListN.{set}
use mir.Syntax.{w64}
use Rattle.signed.proofs.SignedLaws.{back}
use Rattle.append_spill.proofs.SpillLaws.{one_written}
use Rattle.append_spill.proofs.put_first.Goals as goal

pub returns : goal.returns
returns c =
    one_written c.args.number c.args.head.now _ _ c.requires (c.put_number.ensures ∙ ap (set c.args.head.now 0) (back w64 c.args.number c.ranges.number)) c.clear_numbers.ensures
