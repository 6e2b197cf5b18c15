-- Two addresses that are not refused rank as what they hold is ordered.
use mathlib.Core.Path.{◌≡◌}
use mathlib.Core.Bool.{true, false}
use mathlib.Core.List.{List}
use lib.IntN.{ℤ}
use Rattle.buffer_core.specs.Edition.{good}
use Rattle.address_order.specs.Order.{Account, of_accounts}
use Rattle.std.specs.Prelude.{Ok}
use Rattle.address_ranking.specs.Rank.{Address, passes, id_twice, box_side, tx_side, held_in, read_and_rank, rank_of}

-- an address with the entries that were read
abbrev pub account_of : Address → (boxes txs : List ℤ) → Account
account_of a bs ts = record { hash = a.hash; held = held_in a; boxes = bs; txs = ts }

pub ranks_by_content : (a b : Address)
    → passes a ≡ true → passes b ≡ true → id_twice a.counts a.ids ≡ false → id_twice b.counts b.ids ≡ false
    → (w x y z : List ℤ) → box_side a ≡ good w → tx_side a ≡ good x → box_side b ≡ good y → tx_side b ≡ good z
    → rank_of a b ≡ Ok (of_accounts (account_of a w x) (account_of b y z))
unfolding rank_of read_and_rank
ranks_by_content a b p q s t w x y z e f g h = rw (p, q, s, t, e, f, g, h)
