-- One law for each way out of the checks of an address and of the comparison of two balances.
use Prim.Native.Nat.{ℕ, ◌≤◌}
use native.Mathlib.Omega.{arith}
use mathlib.Core.Path.{◌≡◌, sym, ◌∙◌, ap}
use mathlib.Core.Bool.{Bool, true, false, not, ◌&&◌, ◌||◌}
use mathlib.Core.List.{List}
use lib.Dec.{leb}
use lib.IntN.{ℤ}
use lib.ListN.{length}
use borrow.Author.Tests.{leb-true}
use Rattle.index_types.specs.Limits.{token_limit}
use Rattle.index_types.specs.declared.RowEdition.{RowEdition}
use Rattle.records.specs.Records.{keys}
use Rattle.records.specs.Find.{distinct}
use Rattle.records.specs.Checks.{records_ok, keys_ok}
use Rattle.records.proofs.CheckLaws.{bounds_test, bounds_of}
use Rattle.buffer_core.specs.Edition.{record_size, row_limit_of}
use Rattle.buffer_core.specs.Spills.{head_ok}
use Rattle.balance_laws.specs.Calls.{tokens_from}
use Rattle.std.specs.Prelude.{Ok, Err}
use Rattle.spill_rows.specs.Answers.{Read}
use Rattle.index_types.specs.declared.Order.{Order}
use Rattle.index_types.specs.declared.Order.TheVariants.{Less, Equal, Greater}
use Rattle.address_order.specs.Order.{or_else, of_signed, of_lists, of_tokens, ascending, of_held}
use Rattle.index_types.specs.declared.AddressCounts.{AddressCounts}
use Rattle.address_ranking.specs.Rank.{address_ok, id_twice, balance_of}
use Rattle.address_ranking.specs.Internal.{first_fault}

module _ (v : RowEdition) (c : AddressCounts) (boxes txs : List ℤ) (staged table : List ℕ) where
  abbrev tokens_ok : Bool
  tokens_ok = not c.held || leb c.tokens token_limit

  abbrev staged_ok : Bool
  staged_ok = records_ok (record_size v) (row_limit_of v) c.staged staged

  pub ok_tokens : tokens_ok ≡ false → false ≡ address_ok v c boxes txs staged table
  unfolding address_ok
  ok_tokens e = rw e

  pub ok_boxes : tokens_ok ≡ true → (b : Bool) → b ≡ head_ok c.boxes boxes → b ≡ false → false ≡ address_ok v c boxes txs staged table
  unfolding address_ok
  ok_boxes e b f g = rw (e, sym f ∙ g)

  pub ok_txs : tokens_ok ≡ true → (b : Bool) → b ≡ head_ok c.boxes boxes → b ≡ true → (d : Bool) → d ≡ head_ok c.txs txs → d ≡ false → false ≡ address_ok v c boxes txs staged table
  unfolding address_ok
  ok_txs e b f g d h i = rw (e, sym f ∙ g, sym h ∙ i)

  module _ (e : tokens_ok ≡ true) (b : Bool) (f : b ≡ head_ok c.boxes boxes) (g : b ≡ true) (d : Bool) (h : d ≡ head_ok c.txs txs) (i : d ≡ true) (s : Bool) (j : s ≡ staged_ok) where
    pub ok_staged : s ≡ false → false ≡ address_ok v c boxes txs staged table
    unfolding address_ok
    ok_staged k = rw (e, sym f ∙ g, sym h ∙ i, sym j ∙ k)

    pub ok_table : s ≡ true → (r : Bool) → r ≡ records_ok (record_size v) (row_limit_of v) c.table table → r ≡ address_ok v c boxes txs staged table
    unfolding address_ok
    ok_table k r l = rw (e, sym f ∙ g, sym h ∙ i, sym j ∙ k) l

pub fault_first : (code : ℕ) (x y : Read) → Err code ≡ x → Err code ≡ first_fault x y
fault_first code x y e = ap (λ u. first_fault u y) e

pub fault_second : (x y r : Read) → (Ok tt) ≡ x → r ≡ y → r ≡ first_fault x y
fault_second x y r e q = q ∙ ap (λ u. first_fault u y) e

module _ (h : Bool) (m : ℤ) (ids : List ℕ) (amounts : List ℤ) (n : ℕ) (h' : Bool) (m' : ℤ) (ids' : List ℕ) (amounts' : List ℤ) (n' : ℕ) where
  abbrev order : Order
  order = of_held (balance_of h m ids amounts n) (balance_of h' m' ids' amounts' n')

  abbrev by_tokens : Order
  by_tokens = of_lists of_tokens (ascending (tokens_from ids amounts 0 n)) (ascending (tokens_from ids' amounts' 0 n'))

  pub none_before : h ≡ false → h' ≡ true → Less ≡ order
  unfolding of_held
  none_before e f = rw (e, f)

  pub none_both : h ≡ false → h' ≡ false → Equal ≡ order
  unfolding of_held
  none_both e f = rw (e, f)

  pub one_after : h ≡ true → h' ≡ false → Greater ≡ order
  unfolding of_held
  one_after e f = rw (e, f)

  pub both_held : h ≡ true → h' ≡ true → (o : Order) → o ≡ of_signed m m' → order ≡ or_else o by_tokens
  unfolding of_held
  both_held e f o q = rw (e, f) (ap (λ u. or_else u by_tokens) (sym q))

-- ---- 41

module _ (c : AddressCounts) (ids : List ℕ) where
  pub twice_none : c.held ≡ false → false ≡ id_twice c ids
  unfolding id_twice
  twice_none e = rw e

  pub twice_of : c.held ≡ true → not c.held || leb c.tokens token_limit ≡ true → length ids ≡ 4096 → (r : Bool)
      → r ≡ keys_ok (record { count = c.tokens; capacity = 128 }) ids → not r ≡ id_twice c ids
  unfolding id_twice keys_ok
  twice_of e p l r q =
      let k : c.tokens ≤ 128 = leb-true c.tokens 128 (rw e at p) in
      let b = bounds_test 32 (record { count = c.tokens; capacity = 128 }) ids (bounds_of 32 (record { count = c.tokens; capacity = 128 }) ids k (omega arith)) in
      rw e (ap not (q ∙ ap (λ (t : Bool). t && distinct (keys 32 c.tokens ids)) b))
