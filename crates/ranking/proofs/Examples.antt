-- Small addresses ranked by computation: tokens in any sequence, entries with their signs, a token id that stands twice. The first address of each pair has
-- rows of edition 1, the second of edition 2.
use Prim.Native.Nat.{ℕ}
use mathlib.Core.Path.{◌≡◌, refl}
use mathlib.Core.Bool.{true}
use mathlib.Core.List.{List, [], ◌∷◌, ◌++◌}
use lib.IntN.{ℤ, pos, negsuc}
use lib.ListN.{replicate}
use Rattle.index_types.specs.declared.RowEdition.TheVariants.{One, Two}
use Rattle.stores.specs.Equal.{same_bytes}
use Rattle.records.specs.Records.{records}
use Rattle.records.specs.Find.{find_from, distinct}
use Rattle.records.specs.Checks.{lengths_ok, records_ok}
use Rattle.buffer_core.specs.Rows.{rows_up}
use Rattle.index_types.specs.declared.Order.TheVariants.{Equal, Greater}
use Rattle.address_order.specs.Order.{of_numbers, of_signed, of_lists, of_tokens, insert, ascending, of_held, of_accounts}
use Rattle.side_order.specs.Side.{side_of}
use Rattle.index_types.specs.declared.AddressCounts.{AddressCounts}
use Rattle.std.specs.Prelude.{Ok, Err}
use Rattle.address_ranking.specs.Rank.{Address, address_ok, id_twice, address_of, read_and_rank, rank_of}

-- 10 nanoErgs, two tokens, one box, no spills
abbrev counts : AddressCounts
counts = record {
  held = true;
  nanos = pos 10;
  tokens = 2;
  boxes = record { len = 1; spills = pos 0 };
  txs = record { len = 0; spills = pos 0 };
  staged = record { count = 0; capacity = 0 };
  table = record { count = 0; capacity = 0 };
}

abbrev id_of : ℕ → List ℕ
id_of n = replicate 32 n

abbrev hash : List ℕ
hash = id_of 7

abbrev head : ℤ → List ℤ
head z = z ∷ replicate 511 (pos 0)

-- the parts of an address that the examples differ in
abbrev first : (ids : List ℕ) → (amounts : List ℤ) → (number : ℤ) → Address
first ids amounts z = address_of One counts hash ids amounts (head z) (head (pos 0)) [] []

abbrev second : (ids : List ℕ) → (amounts : List ℤ) → (number : ℤ) → Address
second ids amounts z = address_of Two counts hash ids amounts (head z) (head (pos 0)) [] []

tokens_in_any_sequence : rank_of (first (id_of 1 ++ id_of 2) (pos 5 ∷ pos 9 ∷ []) (pos 3)) (second (id_of 2 ++ id_of 1) (pos 9 ∷ pos 5 ∷ []) (pos 3)) ≡ Ok Equal
unfolding rank_of read_and_rank address_ok id_twice side_of rows_up records records_ok lengths_ok distinct find_from same_bytes of_accounts of_held of_lists of_numbers of_signed of_tokens insert ascending
tokens_in_any_sequence = refl

spent_box_first : rank_of (first (id_of 1 ++ id_of 2) (pos 5 ∷ pos 9 ∷ []) (pos 3)) (second (id_of 1 ++ id_of 2) (pos 5 ∷ pos 9 ∷ []) (negsuc 2)) ≡ Ok Greater
unfolding rank_of read_and_rank address_ok id_twice side_of rows_up records records_ok lengths_ok distinct find_from same_bytes of_accounts of_held of_lists of_numbers of_signed of_tokens insert ascending
spent_box_first = refl

id_stands_twice : rank_of (first (id_of 1 ++ id_of 2) (pos 5 ∷ pos 9 ∷ []) (pos 3)) (second (id_of 4 ++ id_of 4) (pos 5 ∷ pos 9 ∷ []) (pos 3)) ≡ Err 41
unfolding rank_of address_ok id_twice records records_ok lengths_ok distinct find_from same_bytes
id_stands_twice = refl
