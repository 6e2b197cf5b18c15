-- What the comparison of two addresses asks: sides and addresses that passed the checks before it.
use Rattle.std.specs.Prelude.{ℕ, ◌≤◌, ◌≡◌, true, false, List, ℤ, length, take, Ok}
use Rattle.index_types.specs.Limits.{segment_threshold}
use Rattle.index_types.specs.declared.RowEdition.{RowEdition}
use Rattle.index_types.specs.declared.HeadCounts.{HeadCounts}
use Rattle.segment_id.specs.declared.Kind.{Kind}
use Rattle.segment_id.specs.declared.Kind.TheVariants.{Box, Tx}
use Rattle.buffer_core.specs.Edition.{RowRead, edition_of}
use Rattle.buffer_core.specs.Spills.{Sources, sources}
use Rattle.spill_rows.specs.Answers.{Read}
use Rattle.spill_rows.specs.Internal.{read_of}
use Rattle.index_types.specs.declared.Order.{Order}
use Rattle.address_order.specs.Order.{of_lists, of_signed}
use Rattle.side_order.specs.Side.{side_of, numbers_in}
use Rattle.side_order.specs.Internal.{RowsReady}
use Rattle.index_types.specs.declared.AddressCounts.{AddressCounts}
use Rattle.address_ranking.specs.Rank.{Address, box_side, tx_side, id_twice, passes}
use Rattle.address_ranking.specs.Internal.{first_fault}

abbrev pub sources_of : AddressCounts → (hash staged table : List ℕ) → Sources
sources_of c hash staged table = sources hash staged c.staged.count table c.table.count

-- a side as it is read
abbrev pub side_in : RowEdition → Kind → Sources → HeadCounts → (head : List ℤ) → RowRead
side_in v kind w c head = side_of (edition_of v) kind w c.spills (take c.len head)

-- a side that passed its checks
pub record PassedSide (v : RowEdition) (kind : Kind) (w : Sources) (c : HeadCounts) (head : List ℤ) : Type 0 where
  pub rows : RowsReady v w 0
  pub places : segment_threshold ≤ length head
  pub few : c.len ≤ segment_threshold
  pub taken : read_of (side_in v kind w c head) ≡ Ok tt

-- both sides of an address
pub record PassedSides (v : RowEdition) (c : AddressCounts) (w : Sources) (boxes txs : List ℤ) : Type 0 where
  pub box_side : PassedSide v Box w c.boxes boxes
  pub tx_side : PassedSide v Tx w c.txs txs

-- how the entries of two sides compare
abbrev pub of_sides : RowRead → RowRead → Order
of_sides x y = of_lists of_signed (numbers_in x) (numbers_in y)

-- an address that passes 25 and 41
pub record Passed (a : Address) : Type 0 where
  pub buffers : passes a ≡ true
  pub once : id_twice a.counts a.ids ≡ false

-- and whose rows a pop would take
pub record Taken (a : Address) : Type 0 where
  pub passed : Passed a
  pub boxes : read_of (box_side a) ≡ Ok tt
  pub txs : read_of (tx_side a) ≡ Ok tt

-- whether a pop would refuse one of four sides, the first that it refuses
abbrev pub fault_of_four : RowRead → RowRead → RowRead → RowRead → Read
fault_of_four x y z w = first_fault (first_fault (read_of x) (read_of y)) (first_fault (read_of z) (read_of w))
