-- The starred trial values of document 01 hold, each computed by the definitions.
use mathlib.Core.Path.{refl}
use Rattle.stores.specs.Stores.{write}
use Rattle.records.specs.Records.{records}
use Rattle.records.specs.Find.{distinct}
use Rattle.records.specs.Checks.{lengths_ok, records_ok}
use Rattle.vlq_core.specs.Groups.{groups, enc}
use Rattle.vlq_core.specs.Writing.{put_bytes}
use Rattle.segment_core.specs.Row.{numbers_bytes, row_bytes}
use Rattle.segment.specs.Calls.{write_of}
use Rattle.buffer_core.specs.Flip.{search_by, walk_from, in_rows, in_order, flip_effect, flip_core, flip_ok, flip_of}
use Rattle.segment_buffer.specs.TestVectors.{TestVectors}

pub test_vectors : TestVectors
unfolding enc groups numbers_bytes row_bytes put_bytes write write_of records distinct lengths_ok records_ok search_by walk_from in_rows in_order flip_effect flip_core flip_ok flip_of
test_vectors = record {
  coded_0 = refl;
  coded_63 = refl;
  coded_64 = refl;
  coded_minus_64 = refl;
  coded_minus_65 = refl;
  coded_minimum = refl;
  row = refl;
  row_empty = refl;
  spent_once = λ parent. refl;
  spent_twice_unspent = λ parent. (refl, refl);
  no_copy_left = λ parent. refl;
  not_seen = λ parent. refl;
  zero_spent = λ parent. refl;
}
