-- The newest call, and how many there are before it.
use mathlib.Core.Path.{sym, ap, ◌∙◌}
use native.Mathlib.Omega.{arith}
use borrow.Author.Rules.{rules}
use Rattle.history_steps.specs.Ranks.{ranks_in}
use Rattle.history_steps.specs.Legal as legal
use Rattle.history_steps.proofs.ListLaws.{length_ranks, most_counted, counted_none, counted_same, counted_other}
use Prim.Native.Nat.{ℕ, ◌<◌}
use borrow.Fn.Kinds.{In}
use borrow.Fn.PlainCycle.{Measures, is, falls, and}
use Rattle.history_steps.proofs.count.Reads as count
use Rattle.history_steps.proofs.count.Kinds as count_kinds
use Rattle.history_steps.proofs.+count.Lts-count as count_lts
use Rattle.history_steps.proofs.number.Reads as number_reads
use Rattle.history_steps.proofs.without_newest.Reads as without_newest_reads
use Rattle.history_steps.proofs.+count.{statement}
use Rattle.history_steps.proofs.+count.Tie.{close}

abbrev μ_count : Measures 0 count_kinds.ps ℕ
μ_count κs a = a.1.0.len

abbrev count_at : ℕ → In 0 count_kinds.ps
count_at t = and 0 count_kinds.ps (is 0 count_kinds.ps μ_count t) count.Pre

abbrev count_below : ℕ → In 0 count_kinds.ps
count_below t = and 0 count_kinds.ps (falls 0 count_kinds.ps ◌<◌ μ_count t) count.Pre

count_returns : (t : ℕ) → count_lts.Need-returns-then-len-eq0 (
  without_newest_reads.Asked,
  without_newest_reads.Learnt,
  count_below t,
  count.Post,
  number_reads.Asked,
  number_reads.Learnt,
) (count_at t) count.Post
count_returns t c = counted_none c.before.args.k c.before.args.l c.if-len-eq0.true

count_without_newest_requires : (t : ℕ) → count_lts.Need-without_newest-requires (
  without_newest_reads.Asked,
  without_newest_reads.Learnt,
  count_below t,
  count.Post,
  number_reads.Asked,
  number_reads.Learnt,
) (count_at t) count.Post
count_without_newest_requires t c κs = c.before.requires.1

count_count_requires : (t : ℕ) → count_lts.Need-count-rest-requires (
  without_newest_reads.Asked,
  without_newest_reads.Learnt,
  count_below t,
  count.Post,
  number_reads.Asked,
  number_reads.Learnt,
) (count_at t) count.Post
count_count_requires t c κs =
    let s = c.before.before in
    let r = c.without_newest.ensures.1 in
    (omega (arith, r, s.requires.0, s.requires.1, c.before.if-len-eq0.false), omega (arith, r, s.requires.1))

count_number_requires : (t : ℕ) → count_lts.Need-number-requires (
  without_newest_reads.Asked,
  without_newest_reads.Learnt,
  count_below t,
  count.Post,
  number_reads.Asked,
  number_reads.Learnt,
) (count_at t) count.Post
count_number_requires t c κs = search rules

count_number_requires_2 : (t : ℕ) → count_lts.Need-number-requires-2 (
  without_newest_reads.Asked,
  without_newest_reads.Learnt,
  count_below t,
  count.Post,
  number_reads.Asked,
  number_reads.Learnt,
) (count_at t) count.Post
count_number_requires_2 t c κs = search rules

count_add_result : (t : ℕ) → count_lts.Need-overflow_add-result (
  without_newest_reads.Asked,
  without_newest_reads.Learnt,
  count_below t,
  count.Post,
  number_reads.Asked,
  number_reads.Learnt,
) (count_at t) count.Post
count_add_result t c =
    let s = c.before.before.before.before.before.before in
    let r = c.before.before.before.before.without_newest in
    omega (arith, c.before.before.before.count-rest.ensures, most_counted s.args.k (ranks_in r.result), length_ranks r.result, r.ensures.1, s.requires.1)

count_returns_2 : (t : ℕ) → count_lts.Need-returns-then-number (
  without_newest_reads.Asked,
  without_newest_reads.Learnt,
  count_below t,
  count.Post,
  number_reads.Asked,
  number_reads.Learnt,
) (count_at t) count.Post
count_returns_2 t c =
    let s = c.before.before.before.before.before.before in
    let r = c.before.before.before.before.without_newest in
    counted_same s.args.k s.args.l (omega (arith, c.before.before.before.before.before.if-len-eq0.false)) s.requires.1 _
    (c.before.before.before.count-rest.ensures ∙ ap (legal.count s.args.k) r.ensures.0)
    (sym c.before.before.number.ensures ∙ c.if-number.true ∙ c.before.number-2.ensures)

count_returns_3 : (t : ℕ) → count_lts.Need-returns (
  without_newest_reads.Asked,
  without_newest_reads.Learnt,
  count_below t,
  count.Post,
  number_reads.Asked,
  number_reads.Learnt,
) (count_at t) count.Post
count_returns_3 t c =
    let s = c.before.before.before.before.before.before in
    let r = c.before.before.before.before.without_newest in
    counted_other s.args.k s.args.l (omega (arith, c.before.before.before.before.before.if-len-eq0.false)) s.requires.1 _
    (c.before.before.before.count-rest.ensures ∙ ap (legal.count s.args.k) r.ensures.0)
    (λ q. c.if-number.false (c.before.before.number.ensures ∙ q ∙ sym c.before.number-2.ensures))

pub +count_spec : {M : Type 1} → statement M
+count_spec = close μ_count λ t. count_lts.spec (
  without_newest_reads.Asked,
  without_newest_reads.Learnt,
  count_below t,
  count.Post,
  number_reads.Asked,
  number_reads.Learnt,
)
    (count_at t)
    count.Post
    (count_returns t)
    (count_without_newest_requires t)
    (count_count_requires t)
    (count_number_requires t)
    (count_number_requires_2 t)
    (count_add_result t)
    (count_returns_2 t)
    (count_returns_3 t)
