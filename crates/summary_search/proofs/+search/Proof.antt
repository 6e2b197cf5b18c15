-- `summary_search::search` meets its contract: each call halves what is left between low and high, and the middle line says which half.
use Prim.Native.Nat.{ℕ, ◌<◌, ◌-◌}
use mathlib.Core.Path.{refl, ap}
use native.Mathlib.Omega.{arith}
use borrow.Author.Rules.{rules}
use Rattle.std.specs.Prelude.{Ok}
use Rattle.summary_core.specs.Flip.{line_lead}
use Rattle.flip_search.proofs.SearchLaws.{middle_below, falls_up, falls_down, search_up, search_down, search_end}
use borrow.Fn.Kinds.{In}
use borrow.Fn.PlainCycle.{Measures, is, falls, and}
use Rattle.summary_search.proofs.search.Reads as search'
use Rattle.summary_search.proofs.search.Kinds as search_kinds
use Rattle.summary_lines.proofs.number_at.Reads as number_at_reads
use Rattle.summary_search.proofs.+search.Lts-search as search_lts
use Rattle.summary_search.proofs.+search.{statement}
use Rattle.summary_search.proofs.+search.Tie.{close}

abbrev μ_search : Measures 1 search_kinds.ps ℕ
μ_search κs a = a.1.1.1.0 - a.1.1.0

abbrev search_at : ℕ → In 1 search_kinds.ps
search_at t = and 1 search_kinds.ps (is 1 search_kinds.ps μ_search t) search'.Pre

abbrev search_below : ℕ → In 1 search_kinds.ps
search_below t = and 1 search_kinds.ps (falls 1 search_kinds.ps ◌<◌ μ_search t) search'.Pre

search_sub_middle : (t : ℕ) → search_lts.Need-overflow_sub-middle (
  number_at_reads.Asked,
  number_at_reads.Learnt,
  search_below t,
  search'.Post,
) (search_at t) search'.Post
search_sub_middle t c = search rules

search_add_middle : (t : ℕ) → search_lts.Need-overflow_add-middle (
  number_at_reads.Asked,
  number_at_reads.Learnt,
  search_below t,
  search'.Post,
) (search_at t) search'.Post
search_add_middle t c = omega (arith, middle_below c.before.before.args.low c.before.before.args.high c.if-low-high.true)

search_number_at_requires : (t : ℕ) → search_lts.Need-number_at-first-requires (
  number_at_reads.Asked,
  number_at_reads.Learnt,
  search_below t,
  search'.Post,
) (search_at t) search'.Post
search_number_at_requires t c κs =
    (omega arith, omega (arith, c.before.before.requires.1, middle_below c.before.before.args.low c.before.before.args.high c.if-low-high.true))

search_add_search : (t : ℕ) → search_lts.Need-overflow_add-middle-then-first-target (
  number_at_reads.Asked,
  number_at_reads.Learnt,
  search_below t,
  search'.Post,
) (search_at t) search'.Post
search_add_search t c =
    omega (arith, c.before.before.before.before.requires.1, middle_below c.before.before.before.before.args.low c.before.before.before.before.args.high c.before.before.if-low-high.true)

search_search_requires : (t : ℕ) → search_lts.Need-search-requires (
  number_at_reads.Asked,
  number_at_reads.Learnt,
  search_below t,
  search'.Post,
) (search_at t) search'.Post
search_search_requires t c κs =
    (falls_up c.before.before.before.before.args.low c.before.before.before.before.args.high t c.before.before.before.before.requires.0 c.before.before.if-low-high.true, c.before.before.before.before.requires.1)

search_search_requires_2 : (t : ℕ) → search_lts.Need-search-requires-else-first-target (
  number_at_reads.Asked,
  number_at_reads.Learnt,
  search_below t,
  search'.Post,
) (search_at t) search'.Post
search_search_requires_2 t c κs =
    (falls_down c.before.before.before.before.args.low c.before.before.before.before.args.high t c.before.before.before.before.requires.0 c.before.before.if-low-high.true, omega (arith, c.before.before.before.before.requires.1, middle_below c.before.before.before.before.args.low c.before.before.before.before.args.high c.before.before.if-low-high.true))

search_returns : (t : ℕ) → search_lts.Need-returns-then-first-target (
  number_at_reads.Asked,
  number_at_reads.Learnt,
  search_below t,
  search'.Post,
) (search_at t) search'.Post
search_returns t c =
    let a = c.before.before.before.before.before.args in
    search_up (line_lead a.summary.now) a.target a.low a.high c.before.before.before.if-low-high.true _ (ap Ok c.before.before.number_at-first.ensures) _ _ refl c.before.if-first-target.true c.search.ensures

search_returns_2 : (t : ℕ) → search_lts.Need-returns-else-first-target (
  number_at_reads.Asked,
  number_at_reads.Learnt,
  search_below t,
  search'.Post,
) (search_at t) search'.Post
search_returns_2 t c =
    let a = c.before.before.before.before.before.args in
    search_down (line_lead a.summary.now) a.target a.low a.high c.before.before.before.if-low-high.true _ (ap Ok c.before.before.number_at-first.ensures) _ _ refl c.before.if-first-target.false c.search-else-first-target.ensures

search_returns_3 : (t : ℕ) → search_lts.Need-returns-else-low-high (
  number_at_reads.Asked,
  number_at_reads.Learnt,
  search_below t,
  search'.Post,
) (search_at t) search'.Post
search_returns_3 t c =
    let a = c.before.before.args in
    search_end (line_lead a.summary.now) a.target a.low a.high c.if-low-high.false

pub +search_spec : {M : Type 1} → statement M
+search_spec = close μ_search λ t. search_lts.spec (
  number_at_reads.Asked,
  number_at_reads.Learnt,
  search_below t,
  search'.Post,
)
    (search_at t)
    search'.Post
    (search_sub_middle t)
    (search_add_middle t)
    (search_number_at_requires t)
    (search_add_search t)
    (search_search_requires t)
    (search_search_requires_2 t)
    (search_returns t)
    (search_returns_2 t)
    (search_returns_3 t)
