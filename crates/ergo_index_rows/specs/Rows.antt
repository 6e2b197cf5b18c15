-- What the reader's export leaves: the code, the outs and both lists at exit. A refusal changes nothing.
use Rattle.std.specs.Prelude.{ℕ, List, ℤ}
use Rattle.index_types.specs.declared.Loaded.{Loaded}
use Rattle.index_types.specs.declared.Loaded.TheVariants as loaded
use Rattle.segment_core.specs.Loading.{Loading}

-- how many transactions and boxes, and the spill counts
pub record Counted : Type 0 where
  pub txs : ℕ
  pub boxes : ℕ
  pub box_spills : ℤ
  pub tx_spills : ℤ

abbrev pub counted : ℕ → ℕ → ℤ → ℤ → Counted
counted n m b t = record { txs = n; boxes = m; box_spills = b; tx_spills = t }

pub record RowOut : Type 0 where
  pub code : ℕ
  pub counts : Counted
  pub txs : List ℤ
  pub boxes : List ℤ

abbrev pub row_out : ℕ → Counted → List ℤ → List ℤ → RowOut
row_out code c l m = record { code = code; counts = c; txs = l; boxes = m }

-- a row that was read takes up all its bytes, so the position after it is not an out
abbrev pub row_by : Loaded → Counted → List ℤ → List ℤ → RowOut
row_by (loaded.Read n m b t next) c txs boxes = row_out 0 (counted n m b t) txs boxes
row_by (loaded.Refused code) c txs boxes = row_out code c txs boxes

abbrev pub row_export : Counted → Loading → RowOut
row_export c l = row_by l.answer c l.txs l.boxes
