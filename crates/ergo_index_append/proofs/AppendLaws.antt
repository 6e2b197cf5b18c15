-- The export of an append tells what the call left.
use Prim.Native.Nat.{ℕ}
use mathlib.Core.Path.{◌≡◌, ap}
use mathlib.Core.List.{List}
use lib.IntN.{ℤ}
use Rattle.index_types.specs.Answers.{Appended}
use Rattle.buffer_core.specs.Append.{Appending, appending}
use Rattle.ergo_index_outs.specs.Outs.{append_by}
use Rattle.ergo_index_append.specs.Append.{append_export}

-- r, head and staged are what the public call left
pub append_told : (r : Appended) (head : List ℤ) (staged : List ℕ) (o : Appending) → appending r head staged ≡ o → (len : ℕ) (spills : ℤ) (count : ℕ)
    → append_by r len spills count head staged ≡ append_export len spills count o
append_told r head staged o e len spills count = ap (λ (a : Appending). append_export len spills count a) e
