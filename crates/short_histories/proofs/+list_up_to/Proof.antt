-- The shorter histories are written by the call, and those of n calls behind them.
use mathlib.Core.Path.{ap}
use Prim.Native.Nat.{ℕ, ◌-◌, ◌<◌}
use native.Mathlib.Omega.{arith}
use lib.ListN.{length, length-append}
use borrow.Author.Rules.{rules}
use Rattle.stores.proofs.PutLaws.{put_as, put_both}
use Rattle.history_steps.specs.declared.Rank.TheVariants.{Flush}
use Rattle.history_steps.specs.Ranks.{ranks_in}
use Rattle.history_growth.specs.Listing.{histories_up_to, bytes_of}
use Rattle.history_growth.specs.Internal.{going_on}
use Rattle.history_growth.proofs.GrowLaws.{up_to_none, up_to_turn}
use borrow.Fn.Kinds.{In}
use borrow.Fn.PlainCycle.{Measures, is, falls, and}
use Rattle.short_histories.proofs.list_up_to.Reads as list_up_to
use Rattle.short_histories.proofs.list_up_to.Kinds as list_up_to_kinds
use Rattle.short_histories.proofs.+list_up_to.Lts-list_up_to as list_up_to_lts
use Rattle.history_steps.proofs.no_calls.Reads as no_calls_reads
use Rattle.history_growth.proofs.grow.Reads as grow_reads
use Rattle.short_histories.proofs.+list_up_to.{statement}
use Rattle.short_histories.proofs.+list_up_to.Tie.{close}

abbrev μ_list_up_to : Measures 1 list_up_to_kinds.ps ℕ
μ_list_up_to κs a = a.0

abbrev list_up_to_at : ℕ → In 1 list_up_to_kinds.ps
list_up_to_at t =
    and 1 list_up_to_kinds.ps (is 1 list_up_to_kinds.ps μ_list_up_to t) list_up_to.Pre

abbrev list_up_to_below : ℕ → In 1 list_up_to_kinds.ps
list_up_to_below t =
    and 1 list_up_to_kinds.ps (falls 1 list_up_to_kinds.ps ◌<◌ μ_list_up_to t) list_up_to.Pre

list_up_to_no_calls_requires : (t : ℕ) → list_up_to_lts.Need-no_calls-none-requires (
  no_calls_reads.Asked,
  no_calls_reads.Learnt,
  grow_reads.Asked,
  grow_reads.Learnt,
  list_up_to_below t,
  list_up_to.Post,
) (list_up_to_at t) list_up_to.Post
list_up_to_no_calls_requires t c κs = search rules

list_up_to_grow_requires : (t : ℕ) → list_up_to_lts.Need-grow-requires (
  no_calls_reads.Asked,
  no_calls_reads.Learnt,
  grow_reads.Asked,
  grow_reads.Learnt,
  list_up_to_below t,
  list_up_to.Post,
) (list_up_to_at t) list_up_to.Post
list_up_to_grow_requires t c κs =
    let s = c.before.before.before.before in
    let e = c.before.before.no_calls-none.ensures.1 in
    (omega arith, omega (arith, e), omega (arith, e), omega (arith, s.requires.1.1, ap length (up_to_none (ranks_in c.before.before.no_calls-none.result) c.before.before.no_calls-none.ensures.0 s.args.n c.before.if-n-eq0.true)))

list_up_to_same_length : (t : ℕ) → list_up_to_lts.Need-shape_of-out-then-n-eq0 (
  no_calls_reads.Asked,
  no_calls_reads.Learnt,
  grow_reads.Asked,
  grow_reads.Learnt,
  list_up_to_below t,
  list_up_to.Post,
) (list_up_to_at t) list_up_to.Post
list_up_to_same_length t c = search rules

list_up_to_returns : (t : ℕ) → list_up_to_lts.Need-returns-then-n-eq0 (
  no_calls_reads.Asked,
  no_calls_reads.Learnt,
  grow_reads.Asked,
  grow_reads.Learnt,
  list_up_to_below t,
  list_up_to.Post,
) (list_up_to_at t) list_up_to.Post
list_up_to_returns t c = let s = c.before.before.before.before.before.before.before in put_as (up_to_none (ranks_in c.before.before.before.before.before.no_calls-none.result) c.before.before.before.before.before.no_calls-none.ensures.0 s.args.n c.before.before.before.before.if-n-eq0.true) _ _ _ _ c.before.before.grow.ensures

list_up_to_sub_list_up_to : (t : ℕ) → list_up_to_lts.Need-overflow_sub-n (
  no_calls_reads.Asked,
  no_calls_reads.Learnt,
  grow_reads.Asked,
  grow_reads.Learnt,
  list_up_to_below t,
  list_up_to.Post,
) (list_up_to_at t) list_up_to.Post
list_up_to_sub_list_up_to t c = omega (arith, c.if-n-eq0.false)

list_up_to_list_up_to_requires : (t : ℕ) → list_up_to_lts.Need-list_up_to-at-requires (
  no_calls_reads.Asked,
  no_calls_reads.Learnt,
  grow_reads.Asked,
  grow_reads.Learnt,
  list_up_to_below t,
  list_up_to.Post,
) (list_up_to_at t) list_up_to.Post
list_up_to_list_up_to_requires t c κs =
    let s = c.before.before.before.before in
    let turn = up_to_turn (ranks_in c.before.before.no_calls-none.result) c.before.before.no_calls-none.ensures.0 s.args.n (omega (arith, c.before.if-n-eq0.false)) in
    let none = ranks_in c.before.before.no_calls-none.result in
    (omega (arith, s.requires.0, c.before.if-n-eq0.false), (omega (arith, s.requires.1.0), omega (arith, s.requires.1.1, ap length turn, length-append (bytes_of (histories_up_to (s.args.n - 1))) (bytes_of (going_on s.args.n 0 none Flush none)))))

list_up_to_grow_requires_2 : (t : ℕ) → list_up_to_lts.Need-grow-requires-2 (
  no_calls_reads.Asked,
  no_calls_reads.Learnt,
  grow_reads.Asked,
  grow_reads.Learnt,
  list_up_to_below t,
  list_up_to.Post,
) (list_up_to_at t) list_up_to.Post
list_up_to_grow_requires_2 t c κs =
    let s = c.before.before.before.before.before.before.before.before in
    let e = c.before.before.before.before.before.before.no_calls-none.ensures.1 in
    let turn = up_to_turn (ranks_in c.before.before.before.before.before.before.no_calls-none.result) c.before.before.before.before.before.before.no_calls-none.ensures.0 s.args.n (omega (arith, c.before.before.before.before.before.if-n-eq0.false)) in
    let none = ranks_in c.before.before.before.before.before.before.no_calls-none.result in
    let p = c.before.before.before.list_up_to-at in
    (omega arith, omega (arith, e, s.requires.1.0), omega (arith, e, s.requires.1.0), omega (arith, s.requires.1.1, ap length turn, length-append (bytes_of (histories_up_to (s.args.n - 1))) (bytes_of (going_on s.args.n 0 none Flush none)), p.ensures.0, c.before.before.before.list_up_to-at.auto.out))

list_up_to_same_length_2 : (t : ℕ) → list_up_to_lts.Need-shape_of-out (
  no_calls_reads.Asked,
  no_calls_reads.Learnt,
  grow_reads.Asked,
  grow_reads.Learnt,
  list_up_to_below t,
  list_up_to.Post,
) (list_up_to_at t) list_up_to.Post
list_up_to_same_length_2 t c = search rules

list_up_to_returns_2 : (t : ℕ) → list_up_to_lts.Need-returns (
  no_calls_reads.Asked,
  no_calls_reads.Learnt,
  grow_reads.Asked,
  grow_reads.Learnt,
  list_up_to_below t,
  list_up_to.Post,
) (list_up_to_at t) list_up_to.Post
list_up_to_returns_2 t c =
    let s = c.before.before.before.before.before.before.before.before.before.before.before in
    let none = ranks_in c.before.before.before.before.before.before.before.before.before.no_calls-none.result in
    put_as (up_to_turn (ranks_in c.before.before.before.before.before.before.before.before.before.no_calls-none.result) c.before.before.before.before.before.before.before.before.before.no_calls-none.ensures.0 s.args.n (omega (arith, c.before.before.before.before.before.before.before.before.if-n-eq0.false))) _ _ _ _
    (put_both (bytes_of (histories_up_to (s.args.n - 1))) (bytes_of (going_on s.args.n 0 none Flush none)) s.args.out.now _ _ _ _ _ c.before.before.before.before.before.before.list_up_to-at.ensures c.before.before.grow-2.ensures)

pub +list_up_to_spec : {M : Type 1} → statement M
+list_up_to_spec = close μ_list_up_to λ t. list_up_to_lts.spec (
  no_calls_reads.Asked,
  no_calls_reads.Learnt,
  grow_reads.Asked,
  grow_reads.Learnt,
  list_up_to_below t,
  list_up_to.Post,
)
    (list_up_to_at t)
    list_up_to.Post
    (list_up_to_no_calls_requires t)
    (list_up_to_grow_requires t)
    (list_up_to_same_length t)
    (list_up_to_returns t)
    (list_up_to_sub_list_up_to t)
    (list_up_to_list_up_to_requires t)
    (list_up_to_grow_requires_2 t)
    (list_up_to_same_length_2 t)
    (list_up_to_returns_2 t)
