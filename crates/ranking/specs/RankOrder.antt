-- "It is a total order. Two addresses rank equal exactly when all these agree, whatever the sequence of their tokens and however entries are divided between
-- spills and head." (document 02, U14) Said of `rank_of`, which the contract of `rank` sets its answer equal to for all inputs.
use Rattle.std.specs.Prelude.{◌≡◌, true, false, List, ℤ, Ok}
use Rattle.buffer_core.specs.Edition.{good}
use Rattle.index_types.specs.declared.Order.{Order}
use Rattle.address_order.specs.Order.{Account, of_accounts, Total, SameAccount}
use Rattle.address_ranking.specs.Rank.{Address, passes, id_twice, box_side, tx_side, held_in, rank_of}

-- an address that is not turned away, with the entries that its spills and its head hold as one list
pub record Accepted : Type 0 where
  pub address : Address
  pub buffers : passes address ≡ true
  pub once : id_twice address.counts address.ids ≡ false
  pub boxes : List ℤ
  pub boxes_read : box_side address ≡ good boxes
  pub txs : List ℤ
  pub txs_read : tx_side address ≡ good txs

-- what it holds
abbrev pub account_of : Accepted → Account
account_of x = record { hash = x.address.hash; held = held_in x.address; boxes = x.boxes; txs = x.txs }

abbrev pub order_of : Accepted → Accepted → Order
order_of x y = of_accounts (account_of x) (account_of y)

-- the two addresses of a call that is not refused
pub record Both (a b : Address) : Type 0 where
  pub first : Accepted
  pub first_is : first.address ≡ a
  pub second : Accepted
  pub second_is : second.address ≡ b

pub record RankOrder : Type 0 where
  pub accepts : (a b : Address) (o : Order) → rank_of a b ≡ Ok o → Both a b
  pub ranks : (x y : Accepted) → rank_of x.address y.address ≡ Ok (order_of x y)
  pub total : Total order_of (λ x y. SameAccount (account_of x) (account_of y))
