-- One law for each way out of a flush.
use mathlib.Core.Path.{◌≡◌}
use mathlib.Core.Bool.{true, false}
use Rattle.std.specs.Prelude.{Err}
use Rattle.index_types.specs.declared.RowEdition.{RowEdition}
use Rattle.buffer_core.specs.Edition.{edition_of}
use Rattle.buffer_core.specs.Pop.{Lists, lists_ok}
use Rattle.buffer_core.specs.Flush.{Flushing, flushing, flush_core, flush_of}

module _ (v : RowEdition) (b : Lists) where
  pub flush_25 : lists_ok (edition_of v) b ≡ false → flushing (Err 25) b.table b.staged b.deleted ≡ flush_of (edition_of v) b
  unfolding flush_of
  flush_25 e = rw e

  pub flush_goes : lists_ok (edition_of v) b ≡ true → (o : Flushing) → o ≡ flush_core (edition_of v) b → o ≡ flush_of (edition_of v) b
  unfolding flush_of
  flush_goes e o d = rw e d
