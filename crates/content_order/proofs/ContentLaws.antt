-- One law for each way out of the comparison of two addresses, and of reading them.
use Prim.Native.Nat.{ℕ}
use mathlib.Core.Path.{◌≡◌, refl, sym, ◌∙◌, ap}
use mathlib.Core.List.{List}
use native.Mathlib.Omega.{arith}
use lib.ListN.{length}
use lib.Seq.{take_all}
use Rattle.balance_tokens.specs.Tokens.{id_at}
use Rattle.buffer_core.specs.Edition.{RowRead, bad, good}
use Rattle.std.specs.Prelude.{Ok, Err}
use Rattle.spill_rows.specs.Answers.{Read}
use Rattle.spill_rows.specs.Internal.{read_of}
use Rattle.spill_rows.proofs.CheckedLaws.{nope}
use Rattle.index_types.specs.declared.Order.{Order}
use Rattle.index_types.specs.declared.Order.TheVariants.{Equal}
use Rattle.address_order.specs.Order.{or_else, of_ids, of_held, Account, of_lists, of_signed, of_accounts}
use Rattle.index_types.specs.Answers.{Ranked}
use Rattle.address_ranking.specs.Rank.{Address, box_side, tx_side, account_in, unless_bad, read_and_rank}
use Rattle.content_order.specs.Internal.{Passed, Taken, fault_of_four}

-- ---- the comparison

-- a hash is the only id in its bytes
pub one_id : (hash : List ℕ) → length hash ≡ 32 → id_at hash 0 ≡ hash
one_id hash e = take_all 32 hash (omega (arith, e))

module _ (a b : Account) where
  abbrev by_entries : Order
  by_entries = or_else (of_lists of_signed a.boxes b.boxes) (of_lists of_signed a.txs b.txs)

  pub by_hash : length a.hash ≡ 32 → length b.hash ≡ 32 → (o : Order) → o ≡ of_ids (id_at a.hash 0) (id_at b.hash 0)
      → of_accounts a b ≡ or_else o (or_else (of_held a.held b.held) by_entries)
  unfolding of_accounts
  by_hash l m o e =
      let q : of_ids (id_at a.hash 0) (id_at b.hash 0) ≡ of_ids a.hash b.hash = λ i. of_ids (one_id a.hash l i) (one_id b.hash m i) in
      ap (λ u. or_else u (or_else (of_held a.held b.held) by_entries)) (sym (e ∙ q))

  pub by_balance : length a.hash ≡ 32 → length b.hash ≡ 32 → Equal ≡ of_ids (id_at a.hash 0) (id_at b.hash 0)
      → (o : Order) → o ≡ of_held a.held b.held → of_accounts a b ≡ or_else o by_entries
  by_balance l m e o q = by_hash l m Equal e ∙ ap (λ u. or_else u by_entries) (sym q)

-- the first of two comparisons that differs decides
pub first_decides : (o p q : Order) → o ≡ p → or_else p q ≡ or_else o q
first_decides o p q e = ap (λ u. or_else u q) (sym e)

-- ---- four sides read one after the other

four_faulty : (x y z w : RowRead) (rest : Ranked) (code : ℕ) → Err code ≡ fault_of_four x y z w → Err code ≡ unless_bad x (unless_bad y (unless_bad z (unless_bad w rest)))
four_faulty (bad c) y z w rest code e = let d : code ≡ c = cc in ap Err d
four_faulty (good xs) (bad c) z w rest code e = let d : code ≡ c = cc in ap Err d
four_faulty (good xs) (good ys) (bad c) w rest code e = let d : code ≡ c = cc in ap Err d
four_faulty (good xs) (good ys) (good zs) (bad c) rest code e = let d : code ≡ c = cc in ap Err d
four_faulty (good xs) (good ys) (good zs) (good ws) rest code e = nope (cc)

four_good : (x y z w : RowRead) (rest : Ranked) → (Ok tt) ≡ fault_of_four x y z w → rest ≡ unless_bad x (unless_bad y (unless_bad z (unless_bad w rest)))
four_good (bad c) y z w rest e = nope (cc)
four_good (good xs) (bad c) z w rest e = nope (cc)
four_good (good xs) (good ys) (bad c) w rest e = nope (cc)
four_good (good xs) (good ys) (good zs) (bad c) rest e = nope (cc)
four_good (good xs) (good ys) (good zs) (good ws) rest e = refl

four_taken : (x y z w : RowRead) → (Ok tt) ≡ fault_of_four x y z w → (read_of x ≡ (Ok tt)) × (read_of y ≡ (Ok tt)) × (read_of z ≡ (Ok tt)) × (read_of w ≡ (Ok tt))
four_taken (bad c) y z w e = nope (cc)
four_taken (good xs) (bad c) z w e = nope (cc)
four_taken (good xs) (good ys) (bad c) w e = nope (cc)
four_taken (good xs) (good ys) (good zs) (bad c) e = nope (cc)
four_taken (good xs) (good ys) (good zs) (good ws) e = (refl, refl, refl, refl)

module _ (a b : Address) where
  abbrev fault : Read
  fault = fault_of_four (box_side a) (tx_side a) (box_side b) (tx_side b)

  pub both_taken : Passed a → Passed b → (Ok tt) ≡ fault → Taken a × Taken b
  both_taken p q e = let t = four_taken (box_side a) (tx_side a) (box_side b) (tx_side b) e in (record { passed = p; boxes = t.0; txs = t.1 }, record { passed = q; boxes = t.2; txs = t.3 })

  pub read_refused : (code : ℕ) → Err code ≡ fault → Err code ≡ read_and_rank a b
  unfolding read_and_rank
  read_refused code e = four_faulty (box_side a) (tx_side a) (box_side b) (tx_side b) _ code e

  pub read_ranked : (Ok tt) ≡ fault → (o : Order) → o ≡ of_accounts (account_in a) (account_in b) → Ok o ≡ read_and_rank a b
  unfolding read_and_rank
  read_ranked e o q = ap Ok q ∙ four_good (box_side a) (tx_side a) (box_side b) (tx_side b) (Ok (of_accounts (account_in a) (account_in b))) e
