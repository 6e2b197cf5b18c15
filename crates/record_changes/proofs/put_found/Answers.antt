-- `record_changes::put_found` meets its contract: the record goes to the slot that the search gives.
use Rattle.records.specs.Changes.{put_record}
use Rattle.record_changes.proofs.put_found.Goals as goal

pub returns : goal.returns
unfolding put_record
returns c =
    let f = c.requires.4 in
    (rw (← f) c.count_with.ensures, rw (← f, ← c.slot_of-index.ensures) c.store.ensures)
