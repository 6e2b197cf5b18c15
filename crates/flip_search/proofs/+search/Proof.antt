-- `flip_search::search` meets its contract: each call halves what is left between low and high, and the middle row says which half.
use borrow.Author.Rules.{rules}
use native.Mathlib.Omega.{arith}
use Rattle.buffer_core.specs.Edition.{edition_of}
use Rattle.buffer_core.specs.Spills.{sources}
use Rattle.buffer_core.specs.Flip.{lead_at}
use Rattle.flip_search.proofs.SearchLaws.{middle_below, falls_up, falls_down, search_up, search_down, search_bad, search_end}
use Prim.Native.Nat.{ℕ, ◌<◌, ◌-◌}
use borrow.Fn.Kinds.{In}
use borrow.Fn.PlainCycle.{Measures, is, falls, and}
use Rattle.flip_search.proofs.search.Reads as search'
use Rattle.flip_search.proofs.search.Kinds as search_kinds
use Rattle.flip_search.proofs.+search.Lts-search as search_lts
use Rattle.flip_search.proofs.lead_of.Reads as lead_of_reads
use Rattle.flip_search.proofs.+search.{statement}
use Rattle.flip_search.proofs.+search.Tie.{close}

abbrev μ_search : Measures 3 search_kinds.ps ℕ
μ_search κs a = a.1.1.1.1.1.1.1.1.1.0 - a.1.1.1.1.1.1.1.1.0

abbrev search_at : ℕ → In 3 search_kinds.ps
search_at t = and 3 search_kinds.ps (is 3 search_kinds.ps μ_search t) search'.Pre

abbrev search_below : ℕ → In 3 search_kinds.ps
search_below t = and 3 search_kinds.ps (falls 3 search_kinds.ps ◌<◌ μ_search t) search'.Pre

search_sub_middle : (t : ℕ) → search_lts.Need-overflow_sub-middle (
  lead_of_reads.Asked,
  lead_of_reads.Learnt,
  search_below t,
  search'.Post,
) (search_at t) search'.Post
search_sub_middle t c = search rules

search_add_middle : (t : ℕ) → search_lts.Need-overflow_add-middle (
  lead_of_reads.Asked,
  lead_of_reads.Learnt,
  search_below t,
  search'.Post,
) (search_at t) search'.Post
search_add_middle t c = omega (arith, middle_below c.before.before.before.before.args.low c.before.before.before.before.args.high c.if-low-high.true)

search_lead_of_requires : (t : ℕ) → search_lts.Need-lead_of-lead-requires (
  lead_of_reads.Asked,
  lead_of_reads.Learnt,
  search_below t,
  search'.Post,
) (search_at t) search'.Post
search_lead_of_requires t c κs = (c.before.before.before.before.requires.1.0, c.before.before.before.before.requires.1.1, omega (arith, middle_below c.before.before.before.before.args.low c.before.before.before.before.args.high c.if-low-high.true), c.before.before.before.before.requires.1.3)

search_enum_known_lead : (t : ℕ) → search_lts.Need-enum_known-lead (
  lead_of_reads.Asked,
  lead_of_reads.Learnt,
  search_below t,
  search'.Post,
) (search_at t) search'.Post
search_enum_known_lead t c = search rules

search_add_search : (t : ℕ) → search_lts.Need-overflow_add-middle-then-first-target (
  lead_of_reads.Asked,
  lead_of_reads.Learnt,
  search_below t,
  search'.Post,
) (search_at t) search'.Post
search_add_search t c = omega (arith, middle_below c.before.before.before.before.before.before.before.args.low c.before.before.before.before.before.before.before.args.high c.before.before.before.if-low-high.true)

search_search_requires : (t : ℕ) → search_lts.Need-search-requires (
  lead_of_reads.Asked,
  lead_of_reads.Learnt,
  search_below t,
  search'.Post,
) (search_at t) search'.Post
search_search_requires t c κs = (falls_up c.before.before.before.before.before.before.before.args.low c.before.before.before.before.before.before.before.args.high t c.before.before.before.before.before.before.before.requires.0 c.before.before.before.if-low-high.true, c.before.before.before.before.before.before.before.requires.1)

search_search_requires_2 : (t : ℕ) → search_lts.Need-search-requires-else-first-target (
  lead_of_reads.Asked,
  lead_of_reads.Learnt,
  search_below t,
  search'.Post,
) (search_at t) search'.Post
search_search_requires_2 t c κs = (falls_down c.before.before.before.before.before.before.before.args.low c.before.before.before.before.before.before.before.args.high t c.before.before.before.before.before.before.before.requires.0 c.before.before.before.if-low-high.true, (c.before.before.before.before.before.before.before.requires.1.0, c.before.before.before.before.before.before.before.requires.1.1, omega (arith, middle_below c.before.before.before.before.before.before.before.args.low c.before.before.before.before.before.before.before.args.high c.before.before.before.if-low-high.true), c.before.before.before.before.before.before.before.requires.1.3))

search_enum_known_lead_2 : (t : ℕ) → search_lts.Need-enum_known-lead-in-Err-1 (
  lead_of_reads.Asked,
  lead_of_reads.Learnt,
  search_below t,
  search'.Post,
) (search_at t) search'.Post
search_enum_known_lead_2 t c = search rules

search_returns : (t : ℕ) → search_lts.Need-returns-then-first-target (
  lead_of_reads.Asked,
  lead_of_reads.Learnt,
  search_below t,
  search'.Post,
) (search_at t) search'.Post
search_returns t c =
    let a = c.before.before.before.before.before.before.before.before.args in
    let w = sources a.parent.now a.staged.now a.staged_count a.table.now a.table_count in
    search_up (lead_at (edition_of a.edition) w) a.target a.low a.high c.before.before.before.before.if-low-high.true _ c.before.before.before.lead_of-lead.ensures _ _ c.before.before.in-Ok.is c.before.if-first-target.true c.search.ensures

search_returns_2 : (t : ℕ) → search_lts.Need-returns-else-first-target (
  lead_of_reads.Asked,
  lead_of_reads.Learnt,
  search_below t,
  search'.Post,
) (search_at t) search'.Post
search_returns_2 t c =
    let a = c.before.before.before.before.before.before.before.before.args in
    let w = sources a.parent.now a.staged.now a.staged_count a.table.now a.table_count in
    search_down (lead_at (edition_of a.edition) w) a.target a.low a.high c.before.before.before.before.if-low-high.true _ c.before.before.before.lead_of-lead.ensures _ _ c.before.before.in-Ok.is c.before.if-first-target.false c.search-else-first-target.ensures

search_returns_3 : (t : ℕ) → search_lts.Need-returns-in-Err (
  lead_of_reads.Asked,
  lead_of_reads.Learnt,
  search_below t,
  search'.Post,
) (search_at t) search'.Post
search_returns_3 t c =
    let a = c.before.before.before.before.before.before.args in
    let w = sources a.parent.now a.staged.now a.staged_count a.table.now a.table_count in
    search_bad (lead_at (edition_of a.edition) w) a.target a.low a.high c.before.before.if-low-high.true _ c.before.lead_of-lead.ensures _ c.in-Err.is

search_returns_4 : (t : ℕ) → search_lts.Need-returns-else-low-high (
  lead_of_reads.Asked,
  lead_of_reads.Learnt,
  search_below t,
  search'.Post,
) (search_at t) search'.Post
search_returns_4 t c =
    let a = c.before.before.before.before.args in
    let w = sources a.parent.now a.staged.now a.staged_count a.table.now a.table_count in
    search_end (lead_at (edition_of a.edition) w) a.target a.low a.high c.if-low-high.false

pub +search_spec : {M : Type 1} → statement M
+search_spec = close μ_search λ t. search_lts.spec (
  lead_of_reads.Asked,
  lead_of_reads.Learnt,
  search_below t,
  search'.Post,
)
    (search_at t)
    search'.Post
    (search_sub_middle t)
    (search_add_middle t)
    (search_lead_of_requires t)
    (search_enum_known_lead t)
    (search_add_search t)
    (search_search_requires t)
    (search_search_requires_2 t)
    (search_enum_known_lead_2 t)
    (search_returns t)
    (search_returns_2 t)
    (search_returns_3 t)
    (search_returns_4 t)
