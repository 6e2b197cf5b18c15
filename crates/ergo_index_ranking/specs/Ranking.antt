-- What the export of a rank leaves: the code, and the order as a number, -1, 0 or 1. A refusal leaves the number as it was.
use Rattle.std.specs.Prelude.{ℕ, Bool, ℤ, pos, negsuc, Ok, Err}
use Rattle.index_types.specs.declared.Order.{Order}
use Rattle.index_types.specs.declared.Order.TheVariants.{Less, Equal, Greater}
use Rattle.index_types.specs.declared.AddressCounts.{AddressCounts}
use Rattle.index_types.specs.Answers.{Ranked}
use Rattle.buffer_core.specs.Append.{counts_of}
use Rattle.ergo_index_lists.specs.Lists.{list_of}

-- the counts of an address, as the export takes them
abbrev pub address_counts : (held : Bool) (nanos : ℤ) (tokens box_len : ℕ) (box_spills : ℤ) (tx_len : ℕ) (tx_spills : ℤ) (staged staged_capacity table table_capacity : ℕ) → AddressCounts
address_counts held nanos tokens bl bs tl ts s sc t tc =
    record { held = held; nanos = nanos; tokens = tokens; boxes = counts_of bl bs; txs = counts_of tl ts; staged = list_of s sc; table = list_of t tc }

abbrev pub order_number : Order → ℤ
order_number Less = negsuc 0
order_number Equal = pos 0
order_number Greater = pos 1

pub record RankOut : Type 0 where
  pub code : ℕ
  pub order : ℤ

abbrev pub rank_out : ℕ → ℤ → RankOut
rank_out code order = record { code = code; order = order }

abbrev pub rank_by : Ranked → ℤ → RankOut
rank_by (Ok o) order = rank_out 0 (order_number o)
rank_by (Err code) order = rank_out code order
