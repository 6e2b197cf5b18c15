-- Two ids compared byte by byte.
use mathlib.Core.Path.{◌≡◌, sym, ◌∙◌, ap}
use mathlib.Core.List.{List}
use Prim.Native.Nat.{ℕ, ◌+◌, ◌*◌, ◌≤◌, ◌<◌}
use native.Mathlib.Omega.{arith}
use lib.IntN.{ℤ}
use lib.ListN.{length, get_or, drop}
use Rattle.balance_tokens.specs.Tokens.{id_at}
use Rattle.balance_tokens.proofs.IdLaws.{id_length, id_byte}
use Rattle.index_types.specs.declared.Order.{Order}
use Rattle.index_types.specs.declared.Order.TheVariants.{Less, Equal, Greater}
use Rattle.address_order.specs.Order.{or_else, of_numbers, of_signed, of_lists, of_ids, of_tokens}
use Rattle.address_order.proofs.ListOrder.{list_decides, list_end}

module _ (a b : List ℕ) (i j : ℕ) (h : i * 32 + 32 ≤ length a) (g : j * 32 + 32 ≤ length b) where
  pub id_turn : (k : ℕ) (o : Order) → k < 32 → o ≡ of_numbers (get_or a (i * 32 + k) 0) (get_or b (j * 32 + k) 0)
      → of_lists of_numbers (drop k (id_at a i)) (drop k (id_at b j)) ≡ or_else o (of_lists of_numbers (drop (k + 1) (id_at a i)) (drop (k + 1) (id_at b j)))
  id_turn k o u e =
      let n = id_length a i h in
      let m = id_length b j g in
      list_decides of_numbers 0 (id_at a i) (id_at b j) k o (omega arith) (omega arith) (e ∙ (λ t. of_numbers (sym (id_byte a i k u) t) (sym (id_byte b j k u) t)))

  pub id_end : (k : ℕ) → 32 ≤ k → of_lists of_numbers (drop k (id_at a i)) (drop k (id_at b j)) ≡ Equal
  id_end k u =
      let n = id_length a i h in
      let m = id_length b j g in
      list_end of_numbers 0 (id_at a i) (id_at b j) k (omega arith) (omega arith)

-- "id, then amount"
module _ (x y : List ℕ × ℤ) where
  pub by_less : Less ≡ of_ids x.0 y.0 → Less ≡ of_tokens x y
  unfolding of_tokens
  by_less e = ap (λ o. or_else o (of_signed x.1 y.1)) e

  pub by_greater : Greater ≡ of_ids x.0 y.0 → Greater ≡ of_tokens x y
  unfolding of_tokens
  by_greater e = ap (λ o. or_else o (of_signed x.1 y.1)) e

  pub by_amount : Equal ≡ of_ids x.0 y.0 → (o : Order) → o ≡ of_signed x.1 y.1 → o ≡ of_tokens x y
  unfolding of_tokens
  by_amount e o q = q ∙ ap (λ u. or_else u (of_signed x.1 y.1)) e
