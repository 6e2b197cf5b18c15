-- `record_changes::remove` meets its contract: the last record is moved and its old place cleared.
use mathlib.Core.Path.{◌∙◌}
use Rattle.records.specs.Changes.{remove_record}
use Rattle.record_changes.proofs.remove.Goals as goal

pub returns : goal.returns
unfolding remove_record
returns c =
    let a = c.args in
    c.clear_bytes.ensures ∙ rw c.move_bytes.ensures
