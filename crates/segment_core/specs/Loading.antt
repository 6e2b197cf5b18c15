-- What a reader answers and leaves in the borrowed lists (document 01): "a list put into a head or lent list is followed by zeros to its capacity",
-- which is 512; "Bytes past a capacity .. stay"; "A refusal returns its number only and changes nothing."
use Rattle.std.specs.Prelude.{◌-◌, List, ◌++◌, ℤ, pos, length, replicate}
use Rattle.index_types.specs.Limits.{segment_threshold}
use Rattle.stores.specs.Stores.{write}
use Rattle.index_types.specs.declared.Loaded.{Loaded}
use Rattle.index_types.specs.declared.Loaded.TheVariants.{Read, Refused}
use Rattle.segment_core.specs.Reading.{Seg, seg, no_seg}

-- the answer, and both lists at exit
pub record Loading : Type 0 where
  pub answer : Loaded
  pub txs : List ℤ
  pub boxes : List ℤ

abbrev pub loading : Loaded → List ℤ → List ℤ → Loading
loading r l m = record { answer = r; txs = l; boxes = m }

abbrev pub padded : List ℤ → List ℤ
padded zs = zs ++ replicate (segment_threshold - length zs) (pos 0)

-- a segment that was read, put into the lists l and m
abbrev pub load : Seg → List ℤ → List ℤ → Loading
load (seg ts bs b t n) l m = loading (Read (length ts) (length bs) b t n) (write 0 (padded ts) l) (write 0 (padded bs) m)
load (no_seg r) l m = loading (Refused r) l m
