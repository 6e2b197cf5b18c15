-- `record_writing::store` meets its contract: key, length, row and zeros stand one behind the other.
use Rattle.records.proofs.RecordLaws.{store_writes}
use Rattle.record_writing.proofs.store.Goals as goal

pub returns : goal.returns
returns c =
    let a = c.args in
    cc (store_writes a.size a.at a.key.now a.row.now a.list.now c.requires.1 c.requires.0 c.requires.2)
