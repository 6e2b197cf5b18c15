-- `record_writing::put_length` meets its contract: two stores are one write of two bytes.
use Rattle.records.proofs.RecordLaws.{write_two}
use Rattle.record_writing.proofs.put_length.Goals as goal

pub returns : goal.returns
returns c = write_two _ _ _ _ c.requires
