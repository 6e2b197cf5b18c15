-- `record_changes::clear_list` meets its contract: one run of zeros.
use Rattle.records.specs.Changes.{clear_records}
use Rattle.record_changes.proofs.clear_list.Goals as goal

pub returns : goal.returns
unfolding clear_records
returns c = c.clear_bytes.ensures
