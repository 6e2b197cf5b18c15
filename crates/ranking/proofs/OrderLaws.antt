-- The ranks of accepted addresses are the order of what they hold.
use Prim.Native.Nat.{ℕ}
use mathlib.Core.Path.{◌≡◌, refl}
use mathlib.Core.Bool.{Bool, true, false, cond, ◌&&◌, ◌||◌}
use mathlib.Core.List.{List}
use lib.IntN.{ℤ}
use Rattle.records.specs.Records.{keys}
use Rattle.records.specs.Find.{distinct}
use Rattle.buffer_core.specs.Edition.{RowRead, bad, good}
use Rattle.spill_rows.proofs.CheckedLaws.{nope}
use Rattle.index_types.specs.declared.Order.{Order}
use Rattle.address_order.proofs.AccountOrder.{Once, account_reverses, account_follows, equal_same, same_equal}
use Rattle.token_order.proofs.PickLaws.{tokens_apart}
use Rattle.std.specs.Prelude.{Ok, Err}
use Rattle.index_types.specs.Answers.{Ranked}
use Rattle.address_ranking.specs.Rank.{Address, passes, id_twice, box_side, tx_side, balance_of, held_in, unless_bad, read_and_rank, rank_of}
use Rattle.address_ranking.proofs.RankLaws.{ranks_by_content}
use Rattle.content_order.proofs.PassedLaws.{ids_apart}
use Rattle.ranking.specs.RankOrder.{Accepted, account_of, Both, RankOrder}

-- ---- 41 leaves no id twice

once_by : (held : Bool) (nanos : ℤ) (ids : List ℕ) (amounts : List ℤ) (n : ℕ) → (held ≡ true → distinct (keys 32 n ids) ≡ true) → Once (balance_of held nanos ids amounts n)
once_by true nanos ids amounts n d = tokens_apart ids amounts n (d refl)
once_by false nanos ids amounts n d = tt

once_in : (x : Accepted) → Once (held_in x.address)
once_in x =
    let a = x.address in
    once_by a.counts.held a.counts.nanos a.ids a.amounts a.counts.tokens (ids_apart a x.once)

-- ---- what a call that is not refused tells

record Tests (p q s t : Bool) (w x y z : RowRead) : Type 0 where
  first_passes : p ≡ true
  second_passes : q ≡ true
  first_once : s ≡ false
  second_once : t ≡ false
  a : List ℤ
  b : List ℤ
  c : List ℤ
  d : List ℤ
  first_boxes : w ≡ good a
  first_txs : x ≡ good b
  second_boxes : y ≡ good c
  second_txs : z ≡ good d

not_refused : (p q s t : Bool) (w x y z : RowRead) (r : Ranked) (o : Order)
    → cond (p && q) (cond (s || t) (Err 41) (unless_bad w (unless_bad x (unless_bad y (unless_bad z r))))) (Err 25) ≡ Ok o → Tests p q s t w x y z
not_refused false q s t w x y z r o e = nope (cc)
not_refused true false s t w x y z r o e = nope (cc)
not_refused true true true t w x y z r o e = nope (cc)
not_refused true true false true w x y z r o e = nope (cc)
not_refused true true false false (bad k) x y z r o e = nope (cc)
not_refused true true false false (good a) (bad k) y z r o e = nope (cc)
not_refused true true false false (good a) (good b) (bad k) z r o e = nope (cc)
not_refused true true false false (good a) (good b) (good c) (bad k) r o e = nope (cc)
not_refused true true false false (good a) (good b) (good c) (good d) r o e = record {
  first_passes = refl;
  second_passes = refl;
  first_once = refl;
  second_once = refl;
  a = a;
  b = b;
  c = c;
  d = d;
  first_boxes = refl;
  first_txs = refl;
  second_boxes = refl;
  second_txs = refl;
}

both_accepted : (a b : Address) (o : Order) → rank_of a b ≡ Ok o → Both a b
unfolding rank_of read_and_rank
both_accepted a b o e =
    let t = not_refused (passes a) (passes b) (id_twice a.counts a.ids) (id_twice b.counts b.ids) (box_side a) (tx_side a) (box_side b) (tx_side b) _ o e in
    record {
      first = record { address = a; buffers = t.first_passes; once = t.first_once; boxes = t.a; boxes_read = t.first_boxes; txs = t.b; txs_read = t.first_txs };
      first_is = refl;
      second = record { address = b; buffers = t.second_passes; once = t.second_once; boxes = t.c; boxes_read = t.second_boxes; txs = t.d; txs_read = t.second_txs };
      second_is = refl;
    }

pub rank_order : RankOrder
rank_order = record {
  accepts = both_accepted;
  ranks = λ x y. ranks_by_content x.address y.address x.buffers y.buffers x.once y.once x.boxes x.txs y.boxes y.txs x.boxes_read x.txs_read y.boxes_read y.txs_read;
  total = record {
    equal_of = λ x y s. same_equal (account_of x) (account_of y) (once_in x) (once_in y) s;
    same_of = λ x y e. equal_same (account_of x) (account_of y) e;
    reverses = λ x y. account_reverses (account_of x) (account_of y);
    follows = λ x y z p q. account_follows (account_of x) (account_of y) (account_of z) p q;
  };
}
