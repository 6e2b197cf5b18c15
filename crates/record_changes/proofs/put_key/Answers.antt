-- `record_changes::put_key` meets its contract: the key goes to the slot that the search gives.
use Rattle.records.specs.Changes.{put_record}
use Rattle.record_changes.proofs.put_key.Goals as goal

pub returns : goal.returns
unfolding put_record
returns c = (
  rw (← c.find-found.ensures) c.count_with.ensures,
  rw (← c.find-found.ensures, ← c.slot_of-index.ensures) c.copy_bytes.ensures,
)
