-- The older calls are written by the call, and the newest behind them.
use mathlib.Core.Path.{refl}
use native.Mathlib.Omega.{arith}
use borrow.Author.Rules.{rules}
use mathlib.Core.List.{[], ◌∷◌, map}
use Rattle.history_steps.specs.Ranks.{number, ranks_in}
use Rattle.history_growth.specs.Internal.{oldest_first}
use Rattle.stores.proofs.PutLaws.{put_as, put_both}
use Rattle.history_growth.proofs.GrowLaws.{no_calls, calls_turn, length_calls}
use Prim.Native.Nat.{ℕ, ◌<◌}
use borrow.Fn.Kinds.{In}
use borrow.Fn.PlainCycle.{Measures, is, falls, and}
use Rattle.history_growth.proofs.put_calls.Reads as put_calls
use Rattle.history_growth.proofs.put_calls.Kinds as put_calls_kinds
use Rattle.history_growth.proofs.+put_calls.Lts-put_calls as put_calls_lts
use Rattle.history_steps.proofs.number.Reads as number_reads
use Rattle.history_steps.proofs.without_newest.Reads as without_newest_reads
use mathlib.Core.List.{[], ◌∷◌, map}
use Rattle.history_steps.specs.Ranks.{number, ranks_in}
use Rattle.history_growth.specs.Internal.{oldest_first}
use Rattle.stores.proofs.put_byte.Reads as put_byte_reads
use Rattle.history_growth.proofs.+put_calls.{statement}
use Rattle.history_growth.proofs.+put_calls.Tie.{close}

abbrev μ_put_calls : Measures 1 put_calls_kinds.ps ℕ
μ_put_calls κs a = a.0.len

abbrev put_calls_at : ℕ → In 1 put_calls_kinds.ps
put_calls_at t = and 1 put_calls_kinds.ps (is 1 put_calls_kinds.ps μ_put_calls t) put_calls.Pre

abbrev put_calls_below : ℕ → In 1 put_calls_kinds.ps
put_calls_below t =
    and 1 put_calls_kinds.ps (falls 1 put_calls_kinds.ps ◌<◌ μ_put_calls t) put_calls.Pre

put_calls_returns : (t : ℕ) → put_calls_lts.Need-returns-then-len-eq0 (
  without_newest_reads.Asked,
  without_newest_reads.Learnt,
  put_calls_below t,
  put_calls.Post,
  number_reads.Asked,
  number_reads.Learnt,
  put_byte_reads.Asked,
  put_byte_reads.Learnt,
) (put_calls_at t) put_calls.Post
put_calls_returns t c =
    let s = c.before.before in
    put_as (no_calls s.args.l c.if-len-eq0.true) _ _ _ _ (omega arith, refl)

put_calls_without_newest_requires : (t : ℕ) → put_calls_lts.Need-without_newest-requires (
  without_newest_reads.Asked,
  without_newest_reads.Learnt,
  put_calls_below t,
  put_calls.Post,
  number_reads.Asked,
  number_reads.Learnt,
  put_byte_reads.Asked,
  put_byte_reads.Learnt,
) (put_calls_at t) put_calls.Post
put_calls_without_newest_requires t c κs = c.before.before.requires.1.0

put_calls_put_calls_requires : (t : ℕ) → put_calls_lts.Need-put_calls-o-requires (
  without_newest_reads.Asked,
  without_newest_reads.Learnt,
  put_calls_below t,
  put_calls.Post,
  number_reads.Asked,
  number_reads.Learnt,
  put_byte_reads.Asked,
  put_byte_reads.Learnt,
) (put_calls_at t) put_calls.Post
put_calls_put_calls_requires t c κs =
    let s = c.before.before.before.before in
    let r = c.before.without_newest.ensures.1 in
    (omega (arith, r, s.requires.0, c.before.before.if-len-eq0.false), (omega (arith, r, s.requires.1.0), omega (arith, r, s.requires.1.1)))

put_calls_number_requires : (t : ℕ) → put_calls_lts.Need-number-requires (
  without_newest_reads.Asked,
  without_newest_reads.Learnt,
  put_calls_below t,
  put_calls.Post,
  number_reads.Asked,
  number_reads.Learnt,
  put_byte_reads.Asked,
  put_byte_reads.Learnt,
) (put_calls_at t) put_calls.Post
put_calls_number_requires t c κs = search rules

put_calls_put_byte_requires : (t : ℕ) → put_calls_lts.Need-put_byte-requires (
  without_newest_reads.Asked,
  without_newest_reads.Learnt,
  put_calls_below t,
  put_calls.Post,
  number_reads.Asked,
  number_reads.Learnt,
  put_byte_reads.Asked,
  put_byte_reads.Learnt,
) (put_calls_at t) put_calls.Post
put_calls_put_byte_requires t c κs =
    let s = c.before.before.before.before.before.before.before.before.before in
    let r = c.before.before.before.before.before.before.without_newest in
    let p = c.before.before.before.before.put_calls-o in
    omega (arith, r.ensures.1, s.requires.1.1, c.before.before.before.before.before.before.before.if-len-eq0.false, p.ensures.0, length_calls r.result, c.before.before.before.before.put_calls-o.auto.out)

put_calls_same_length : (t : ℕ) → put_calls_lts.Need-shape_of-out (
  without_newest_reads.Asked,
  without_newest_reads.Learnt,
  put_calls_below t,
  put_calls.Post,
  number_reads.Asked,
  number_reads.Learnt,
  put_byte_reads.Asked,
  put_byte_reads.Learnt,
) (put_calls_at t) put_calls.Post
put_calls_same_length t c = search rules

put_calls_returns_2 : (t : ℕ) → put_calls_lts.Need-returns (
  without_newest_reads.Asked,
  without_newest_reads.Learnt,
  put_calls_below t,
  put_calls.Post,
  number_reads.Asked,
  number_reads.Learnt,
  put_byte_reads.Asked,
  put_byte_reads.Learnt,
) (put_calls_at t) put_calls.Post
put_calls_returns_2 t c =
    let s = c.before.before.before.before.before.before.before.before.before.before.before.before in
    let r = c.before.before.before.before.before.before.before.before.before.without_newest in
    put_as (calls_turn s.args.l (omega (arith, c.before.before.before.before.before.before.before.before.before.before.if-len-eq0.false)) s.requires.1.0 r.result r.ensures.0 _ c.before.before.before.before.number.ensures) _ _ _ _
    (put_both (map number (oldest_first (ranks_in r.result))) (c.before.before.before.before.number.result ∷ []) s.args.out.now _ _ _ _ _ c.before.before.before.before.before.before.before.put_calls-o.ensures c.before.before.put_byte.ensures)

pub +put_calls_spec : {M : Type 1} → statement M
+put_calls_spec = close μ_put_calls λ t. put_calls_lts.spec (
  without_newest_reads.Asked,
  without_newest_reads.Learnt,
  put_calls_below t,
  put_calls.Post,
  number_reads.Asked,
  number_reads.Learnt,
  put_byte_reads.Asked,
  put_byte_reads.Learnt,
)
    (put_calls_at t)
    put_calls.Post
    (put_calls_returns t)
    (put_calls_without_newest_requires t)
    (put_calls_put_calls_requires t)
    (put_calls_number_requires t)
    (put_calls_put_byte_requires t)
    (put_calls_same_length t)
    (put_calls_returns_2 t)
