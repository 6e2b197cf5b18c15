-- The export of a flush tells what the call left.
use Prim.Native.Nat.{ℕ}
use mathlib.Core.Path.{◌≡◌, ap}
use mathlib.Core.List.{List}
use Rattle.index_types.specs.Answers.{Flushed}
use Rattle.buffer_core.specs.Flush.{Flushing, flushing}
use Rattle.ergo_index_outs.specs.Outs.{flush_by}
use Rattle.ergo_index_flush.specs.Flush.{flush_export}

-- r and the lists are what the public call left
pub flush_told : (r : Flushed) (table staged deleted : List ℕ) (o : Flushing) → flushing r table staged deleted ≡ o → (s t d : ℕ) → flush_by r s t d staged table deleted ≡ flush_export s t d o
flush_told r table staged deleted o e s t d = ap (λ (f : Flushing). flush_export s t d f) e
