-- No call left, no rank left, or the call at place i, where it may come, and then the later ones.
use mathlib.Core.Path.{refl, sym, ap, ◌∙◌}
use Prim.Native.Nat.{ℕ, ◌+◌, ◌-◌, ◌*◌, ◌<◌}
use native.Mathlib.Omega.{arith}
use lib.ListN.{length, length-append}
use borrow.Author.Rules.{rules}
use Rattle.stores.proofs.PutLaws.{put_as, put_both}
use Rattle.history_steps.specs.Ranks.{ranks_in}
use Rattle.history_growth.specs.Listing.{bytes_of}
use Rattle.history_growth.specs.Internal.{going_on}
use Rattle.history_growth.proofs.GrowLaws.{going_none, going_last, going_turn, going_past, length_history}
use borrow.Fn.Kinds.{In}
use borrow.Fn.PlainCycle.{Measures, is, falls, and}
use Rattle.history_growth.proofs.grow.Reads as grow
use Rattle.history_growth.proofs.grow.Kinds as grow_kinds
use Rattle.history_growth.proofs.+grow.Lts-grow as grow_lts
use Rattle.history_steps.proofs.may.Reads as may_reads
use Rattle.history_steps.proofs.rank_at.Reads as rank_at_reads
use Rattle.history_steps.proofs.stood.Reads as stood_reads
use Rattle.history_steps.proofs.with_newest.Reads as with_newest_reads
use Rattle.history_growth.proofs.put_history.Reads as put_history_reads
use Rattle.history_growth.proofs.+grow.{statement}
use Rattle.history_growth.proofs.+grow.Tie.{close}

abbrev μ_grow : Measures 1 grow_kinds.ps ℕ
μ_grow κs a = a.0 * 8 + (6 - a.1.0)

abbrev grow_at : ℕ → In 1 grow_kinds.ps
grow_at t = and 1 grow_kinds.ps (is 1 grow_kinds.ps μ_grow t) grow.Pre

abbrev grow_below : ℕ → In 1 grow_kinds.ps
grow_below t = and 1 grow_kinds.ps (falls 1 grow_kinds.ps ◌<◌ μ_grow t) grow.Pre

grow_put_history_requires : (t : ℕ) → grow_lts.Need-put_history-requires (
  put_history_reads.Asked,
  put_history_reads.Learnt,
  rank_at_reads.Asked,
  rank_at_reads.Learnt,
  may_reads.Asked,
  may_reads.Learnt,
  stood_reads.Asked,
  stood_reads.Learnt,
  with_newest_reads.Asked,
  with_newest_reads.Learnt,
  grow_below t,
  grow.Post,
) (grow_at t) grow.Post
grow_put_history_requires t c κs =
    let s = c.before.before.before in
    let a = s.args in
    let none = going_none (ranks_in a.standing) a.last (ranks_in a.so_far) a.left a.i c.before.if-left-eq0.true in
    (omega (arith, s.requires.1.2), omega (arith, s.requires.1.2, s.requires.1.3, ap length none, length_history a.so_far (omega (arith, s.requires.1.2))))

grow_same_length : (t : ℕ) → grow_lts.Need-shape_of-out-then-left-eq0 (
  put_history_reads.Asked,
  put_history_reads.Learnt,
  rank_at_reads.Asked,
  rank_at_reads.Learnt,
  may_reads.Asked,
  may_reads.Learnt,
  stood_reads.Asked,
  stood_reads.Learnt,
  with_newest_reads.Asked,
  with_newest_reads.Learnt,
  grow_below t,
  grow.Post,
) (grow_at t) grow.Post
grow_same_length t c = search rules

grow_returns : (t : ℕ) → grow_lts.Need-returns-then-left-eq0 (
  put_history_reads.Asked,
  put_history_reads.Learnt,
  rank_at_reads.Asked,
  rank_at_reads.Learnt,
  may_reads.Asked,
  may_reads.Learnt,
  stood_reads.Asked,
  stood_reads.Learnt,
  with_newest_reads.Asked,
  with_newest_reads.Learnt,
  grow_below t,
  grow.Post,
) (grow_at t) grow.Post
grow_returns t c =
    let s = c.before.before.before.before.before.before in
    let a = s.args in
    put_as (sym (going_none (ranks_in a.standing) a.last (ranks_in a.so_far) a.left a.i c.before.before.before.before.if-left-eq0.true)) _ _ _ _ c.before.before.put_history.ensures

grow_returns_2 : (t : ℕ) → grow_lts.Need-returns-then-i-ge-RANKS (
  put_history_reads.Asked,
  put_history_reads.Learnt,
  rank_at_reads.Asked,
  rank_at_reads.Learnt,
  may_reads.Asked,
  may_reads.Learnt,
  stood_reads.Asked,
  stood_reads.Learnt,
  with_newest_reads.Asked,
  with_newest_reads.Learnt,
  grow_below t,
  grow.Post,
) (grow_at t) grow.Post
grow_returns_2 t c =
    let s = c.before.before.before in
    let a = s.args in
    put_as (sym (going_last (ranks_in a.standing) a.last (ranks_in a.so_far) a.left a.i (omega (arith, c.before.if-left-eq0.false)) c.if-i-ge-RANKS.true)) _ _ _ _ (omega arith, refl)

grow_rank_at_requires : (t : ℕ) → grow_lts.Need-rank_at-k-requires (
  put_history_reads.Asked,
  put_history_reads.Learnt,
  rank_at_reads.Asked,
  rank_at_reads.Learnt,
  may_reads.Asked,
  may_reads.Learnt,
  stood_reads.Asked,
  stood_reads.Learnt,
  with_newest_reads.Asked,
  with_newest_reads.Learnt,
  grow_below t,
  grow.Post,
) (grow_at t) grow.Post
grow_rank_at_requires t c κs = search rules

grow_may_requires : (t : ℕ) → grow_lts.Need-may-requires (
  put_history_reads.Asked,
  put_history_reads.Learnt,
  rank_at_reads.Asked,
  rank_at_reads.Learnt,
  may_reads.Asked,
  may_reads.Learnt,
  stood_reads.Asked,
  stood_reads.Learnt,
  with_newest_reads.Asked,
  with_newest_reads.Learnt,
  grow_below t,
  grow.Post,
) (grow_at t) grow.Post
grow_may_requires t c κs = omega (arith, c.before.before.before.before.requires.1.1)

grow_stood_requires : (t : ℕ) → grow_lts.Need-stood-next-requires (
  put_history_reads.Asked,
  put_history_reads.Learnt,
  rank_at_reads.Asked,
  rank_at_reads.Learnt,
  may_reads.Asked,
  may_reads.Learnt,
  stood_reads.Asked,
  stood_reads.Learnt,
  with_newest_reads.Asked,
  with_newest_reads.Learnt,
  grow_below t,
  grow.Post,
) (grow_at t) grow.Post
grow_stood_requires t c κs = omega (arith, c.before.before.before.before.before.before.requires.1.1, c.before.before.before.before.if-left-eq0.false)

grow_with_newest_requires : (t : ℕ) → grow_lts.Need-with_newest-longer-requires (
  put_history_reads.Asked,
  put_history_reads.Learnt,
  rank_at_reads.Asked,
  rank_at_reads.Learnt,
  may_reads.Asked,
  may_reads.Learnt,
  stood_reads.Asked,
  stood_reads.Learnt,
  with_newest_reads.Asked,
  with_newest_reads.Learnt,
  grow_below t,
  grow.Post,
) (grow_at t) grow.Post
grow_with_newest_requires t c κs = omega (arith, c.before.before.before.before.before.before.before.requires.1.2, c.before.before.before.before.before.if-left-eq0.false)

grow_sub_grow : (t : ℕ) → grow_lts.Need-overflow_sub-left (
  put_history_reads.Asked,
  put_history_reads.Learnt,
  rank_at_reads.Asked,
  rank_at_reads.Learnt,
  may_reads.Asked,
  may_reads.Learnt,
  stood_reads.Asked,
  stood_reads.Learnt,
  with_newest_reads.Asked,
  with_newest_reads.Learnt,
  grow_below t,
  grow.Post,
) (grow_at t) grow.Post
grow_sub_grow t c = omega (arith, c.before.before.before.before.before.before.if-left-eq0.false)

grow_grow_requires : (t : ℕ) → grow_lts.Need-grow-o-requires (
  put_history_reads.Asked,
  put_history_reads.Learnt,
  rank_at_reads.Asked,
  rank_at_reads.Learnt,
  may_reads.Asked,
  may_reads.Learnt,
  stood_reads.Asked,
  stood_reads.Learnt,
  with_newest_reads.Asked,
  with_newest_reads.Learnt,
  grow_below t,
  grow.Post,
) (grow_at t) grow.Post
grow_grow_requires t c κs =
    let s = c.before.before.before.before.before.before.before.before.before in
    let a = s.args in
    let turn = going_turn (ranks_in a.standing) a.last (ranks_in a.so_far) a.left a.i (omega (arith, c.before.before.before.before.before.before.before.if-left-eq0.false)) (omega (arith, c.before.before.before.before.before.before.if-i-ge-RANKS.false)) c.before.before.before.before.before.rank_at-k.result c.before.before.before.before.before.rank_at-k.ensures
    (sym c.before.before.before.before.may.ensures ∙ c.before.before.before.if-may.true) (ranks_in c.before.before.stood-next.result) c.before.before.stood-next.ensures.0 (ranks_in c.before.with_newest-longer.result) c.before.with_newest-longer.ensures.0 in
    (omega (arith, s.requires.0, c.before.before.before.before.before.before.before.if-left-eq0.false, c.before.before.before.before.before.before.if-i-ge-RANKS.false), (omega arith, omega (arith, c.before.before.stood-next.ensures.1, s.requires.1.1, c.before.before.before.before.before.before.before.if-left-eq0.false), omega (arith, c.before.with_newest-longer.ensures.1, s.requires.1.2, c.before.before.before.before.before.before.before.if-left-eq0.false), omega (arith, s.requires.1.3, ap length turn, length-append (bytes_of (going_on (a.left - 1) 0 (ranks_in c.before.before.stood-next.result) c.before.before.before.before.before.rank_at-k.result (ranks_in c.before.with_newest-longer.result))) (bytes_of (going_on a.left (a.i + 1) (ranks_in a.standing) a.last (ranks_in a.so_far))))))

grow_add_grow : (t : ℕ) → grow_lts.Need-overflow_add-i (
  put_history_reads.Asked,
  put_history_reads.Learnt,
  rank_at_reads.Asked,
  rank_at_reads.Learnt,
  may_reads.Asked,
  may_reads.Learnt,
  stood_reads.Asked,
  stood_reads.Learnt,
  with_newest_reads.Asked,
  with_newest_reads.Learnt,
  grow_below t,
  grow.Post,
) (grow_at t) grow.Post
grow_add_grow t c = omega (arith, c.before.before.before.before.before.before.before.before.before.if-i-ge-RANKS.false)

grow_grow_requires_2 : (t : ℕ) → grow_lts.Need-grow-requires (
  put_history_reads.Asked,
  put_history_reads.Learnt,
  rank_at_reads.Asked,
  rank_at_reads.Learnt,
  may_reads.Asked,
  may_reads.Learnt,
  stood_reads.Asked,
  stood_reads.Learnt,
  with_newest_reads.Asked,
  with_newest_reads.Learnt,
  grow_below t,
  grow.Post,
) (grow_at t) grow.Post
grow_grow_requires_2 t c κs =
    let s = c.before.before.before.before.before.before.before.before.before.before.before.before.before in
    let a = s.args in
    let turn = going_turn (ranks_in a.standing) a.last (ranks_in a.so_far) a.left a.i (omega (arith, c.before.before.before.before.before.before.before.before.before.before.before.if-left-eq0.false)) (omega (arith, c.before.before.before.before.before.before.before.before.before.before.if-i-ge-RANKS.false)) c.before.before.before.before.before.before.before.before.before.rank_at-k.result c.before.before.before.before.before.before.before.before.before.rank_at-k.ensures
    (sym c.before.before.before.before.before.before.before.before.may.ensures ∙ c.before.before.before.before.before.before.before.if-may.true) (ranks_in c.before.before.before.before.before.before.stood-next.result) c.before.before.before.before.before.before.stood-next.ensures.0 (ranks_in c.before.before.before.before.before.with_newest-longer.result) c.before.before.before.before.before.with_newest-longer.ensures.0 in
    (omega (arith, s.requires.0, c.before.before.before.before.before.before.before.before.before.before.if-i-ge-RANKS.false), (omega (arith, c.before.before.before.before.before.before.before.before.before.before.if-i-ge-RANKS.false), s.requires.1.1, s.requires.1.2, omega (arith, s.requires.1.3, ap length turn, length-append (bytes_of (going_on (a.left - 1) 0 (ranks_in c.before.before.before.before.before.before.stood-next.result) c.before.before.before.before.before.before.before.before.before.rank_at-k.result (ranks_in c.before.before.before.before.before.with_newest-longer.result))) (bytes_of (going_on a.left (a.i + 1) (ranks_in a.standing) a.last (ranks_in a.so_far))), c.before.before.before.grow-o.ensures.0, c.before.before.before.grow-o.auto.out)))

grow_same_length_2 : (t : ℕ) → grow_lts.Need-shape_of-out-then-may (
  put_history_reads.Asked,
  put_history_reads.Learnt,
  rank_at_reads.Asked,
  rank_at_reads.Learnt,
  may_reads.Asked,
  may_reads.Learnt,
  stood_reads.Asked,
  stood_reads.Learnt,
  with_newest_reads.Asked,
  with_newest_reads.Learnt,
  grow_below t,
  grow.Post,
) (grow_at t) grow.Post
grow_same_length_2 t c = search rules

grow_returns_3 : (t : ℕ) → grow_lts.Need-returns-then-may (
  put_history_reads.Asked,
  put_history_reads.Learnt,
  rank_at_reads.Asked,
  rank_at_reads.Learnt,
  may_reads.Asked,
  may_reads.Learnt,
  stood_reads.Asked,
  stood_reads.Learnt,
  with_newest_reads.Asked,
  with_newest_reads.Learnt,
  grow_below t,
  grow.Post,
) (grow_at t) grow.Post
grow_returns_3 t c =
    let s = c.before.before.before.before.before.before.before.before.before.before.before.before.before.before.before.before in
    let a = s.args in
    let turn = going_turn (ranks_in a.standing) a.last (ranks_in a.so_far) a.left a.i (omega (arith, c.before.before.before.before.before.before.before.before.before.before.before.before.before.before.if-left-eq0.false)) (omega (arith, c.before.before.before.before.before.before.before.before.before.before.before.before.before.if-i-ge-RANKS.false)) c.before.before.before.before.before.before.before.before.before.before.before.before.rank_at-k.result c.before.before.before.before.before.before.before.before.before.before.before.before.rank_at-k.ensures
    (sym c.before.before.before.before.before.before.before.before.before.before.before.may.ensures ∙ c.before.before.before.before.before.before.before.before.before.before.if-may.true) (ranks_in c.before.before.before.before.before.before.before.before.before.stood-next.result) c.before.before.before.before.before.before.before.before.before.stood-next.ensures.0 (ranks_in c.before.before.before.before.before.before.before.before.with_newest-longer.result) c.before.before.before.before.before.before.before.before.with_newest-longer.ensures.0 in
    put_as turn _ _ _ _ (put_both (bytes_of (going_on (a.left - 1) 0 (ranks_in c.before.before.before.before.before.before.before.before.before.stood-next.result) c.before.before.before.before.before.before.before.before.before.before.before.before.rank_at-k.result (ranks_in c.before.before.before.before.before.before.before.before.with_newest-longer.result))) (bytes_of (going_on a.left (a.i + 1) (ranks_in a.standing) a.last (ranks_in a.so_far))) a.out.now _ _ _ _ _ c.before.before.before.before.before.before.grow-o.ensures c.before.before.grow.ensures)

grow_add_grow_2 : (t : ℕ) → grow_lts.Need-overflow_add-i-2 (
  put_history_reads.Asked,
  put_history_reads.Learnt,
  rank_at_reads.Asked,
  rank_at_reads.Learnt,
  may_reads.Asked,
  may_reads.Learnt,
  stood_reads.Asked,
  stood_reads.Learnt,
  with_newest_reads.Asked,
  with_newest_reads.Learnt,
  grow_below t,
  grow.Post,
) (grow_at t) grow.Post
grow_add_grow_2 t c = omega (arith, c.before.before.before.if-i-ge-RANKS.false)

grow_grow_requires_3 : (t : ℕ) → grow_lts.Need-grow-requires-2 (
  put_history_reads.Asked,
  put_history_reads.Learnt,
  rank_at_reads.Asked,
  rank_at_reads.Learnt,
  may_reads.Asked,
  may_reads.Learnt,
  stood_reads.Asked,
  stood_reads.Learnt,
  with_newest_reads.Asked,
  with_newest_reads.Learnt,
  grow_below t,
  grow.Post,
) (grow_at t) grow.Post
grow_grow_requires_3 t c κs =
    let s = c.before.before.before.before.before.before.before in
    let a = s.args in
    let past = going_past (ranks_in a.standing) a.last (ranks_in a.so_far) a.left a.i (omega (arith, c.before.before.before.before.before.if-left-eq0.false)) (omega (arith, c.before.before.before.before.if-i-ge-RANKS.false)) c.before.before.before.rank_at-k.result c.before.before.before.rank_at-k.ensures
    (sym c.before.before.may.ensures ∙ c.before.if-may.false) in
    (omega (arith, s.requires.0, c.before.before.before.before.if-i-ge-RANKS.false), (omega (arith, c.before.before.before.before.if-i-ge-RANKS.false), s.requires.1.1, s.requires.1.2, omega (arith, s.requires.1.3, ap length past)))

grow_same_length_3 : (t : ℕ) → grow_lts.Need-shape_of-out (
  put_history_reads.Asked,
  put_history_reads.Learnt,
  rank_at_reads.Asked,
  rank_at_reads.Learnt,
  may_reads.Asked,
  may_reads.Learnt,
  stood_reads.Asked,
  stood_reads.Learnt,
  with_newest_reads.Asked,
  with_newest_reads.Learnt,
  grow_below t,
  grow.Post,
) (grow_at t) grow.Post
grow_same_length_3 t c = search rules

grow_returns_4 : (t : ℕ) → grow_lts.Need-returns (
  put_history_reads.Asked,
  put_history_reads.Learnt,
  rank_at_reads.Asked,
  rank_at_reads.Learnt,
  may_reads.Asked,
  may_reads.Learnt,
  stood_reads.Asked,
  stood_reads.Learnt,
  with_newest_reads.Asked,
  with_newest_reads.Learnt,
  grow_below t,
  grow.Post,
) (grow_at t) grow.Post
grow_returns_4 t c =
    let s = c.before.before.before.before.before.before.before.before.before.before in
    let a = s.args in
    let past = going_past (ranks_in a.standing) a.last (ranks_in a.so_far) a.left a.i (omega (arith, c.before.before.before.before.before.before.before.before.if-left-eq0.false)) (omega (arith, c.before.before.before.before.before.before.before.if-i-ge-RANKS.false)) c.before.before.before.before.before.before.rank_at-k.result c.before.before.before.before.before.before.rank_at-k.ensures
    (sym c.before.before.before.before.before.may.ensures ∙ c.before.before.before.before.if-may.false) in
    put_as (sym past) _ _ _ _ c.before.before.grow-2.ensures

pub +grow_spec : {M : Type 1} → statement M
+grow_spec = close μ_grow λ t. grow_lts.spec (
  put_history_reads.Asked,
  put_history_reads.Learnt,
  rank_at_reads.Asked,
  rank_at_reads.Learnt,
  may_reads.Asked,
  may_reads.Learnt,
  stood_reads.Asked,
  stood_reads.Learnt,
  with_newest_reads.Asked,
  with_newest_reads.Learnt,
  grow_below t,
  grow.Post,
)
    (grow_at t)
    grow.Post
    (grow_put_history_requires t)
    (grow_same_length t)
    (grow_returns t)
    (grow_returns_2 t)
    (grow_rank_at_requires t)
    (grow_may_requires t)
    (grow_stood_requires t)
    (grow_with_newest_requires t)
    (grow_sub_grow t)
    (grow_grow_requires t)
    (grow_add_grow t)
    (grow_grow_requires_2 t)
    (grow_same_length_2 t)
    (grow_returns_3 t)
    (grow_add_grow_2 t)
    (grow_grow_requires_3 t)
    (grow_same_length_3 t)
    (grow_returns_4 t)
