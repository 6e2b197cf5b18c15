-- `row_seeking::seek_rows` meets its contract: the rows that the halving has read are there, and the first missing one is among those that it still reads.
use Prim.Native.Nat.{◌-◌, ◌<◌}
use mathlib.Core.Path.{◌≡◌, refl, sym, ◌∙◌}
use native.Mathlib.Omega.{arith}
use borrow.Author.Rules.{rules}
use Rattle.segment_id.specs.declared.Kind.TheVariants.{Box}
use Rattle.buffer_core.specs.Edition.{edition_of}
use Rattle.buffer_core.specs.Spills.{sources}
use Rattle.flip_search.proofs.SearchLaws.{middle_below, falls_up, falls_down}
use Rattle.row_seeking.specs.Seeking.{among}
use Rattle.row_seeking.specs.Internal.{reads_between}
use Rattle.row_seeking.proofs.SeekLaws.{inside_up, inside_down, inside_asks, inside_ends}
use Rattle.row_seeking.proofs.seek_rows.Statement.{statement}
use Rattle.row_seeking.proofs.seek_rows.Tie as tie

abbrev invariant_loop : tie.invariant-loop-low
invariant_loop edition parent staged staged_count table table_count hints target spend spills low₀ high₀ low high =
    let w = sources parent staged staged_count table table_count in
    (high < 2147483648) × (low < 2147483648)
    × (among (edition_of edition) Box w (reads_between (edition_of edition) w target spend 0 spills) ≡ among (edition_of edition) Box w (reads_between (edition_of edition) w target spend low high))

abbrev decreases_loop : tie.decreases-loop-low
decreases_loop edition parent staged staged_count table table_count hints target spend spills low₀ high₀ low high = high - low

loop-holds : tie.Need-loop-low-init invariant_loop decreases_loop
loop-holds c = (search rules, search rules, refl)

sub_middle : tie.Need-overflow_sub-middle invariant_loop decreases_loop
sub_middle c = search rules

add_middle : tie.Need-overflow_add-middle invariant_loop decreases_loop
add_middle c = omega (arith, middle_below c.before.loop-low.low c.before.loop-low.high c.loop-low-test.true, c.before.loop-low.invariant.0)

lead_of_requires : tie.Need-lead_of-lead-requires invariant_loop decreases_loop
lead_of_requires c κs =
    let s = c.before.before.before.before.before in
    (s.requires.0.in_staged, s.requires.0.in_table, omega (arith, middle_below c.before.loop-low.low c.before.loop-low.high c.loop-low-test.true, c.before.loop-low.invariant.0), s.requires.0.apart)

enum_known_lead : tie.Need-enum_known-lead invariant_loop decreases_loop
enum_known_lead c = search rules

add_low : tie.Need-overflow_add-low invariant_loop decreases_loop
add_low c = omega (arith, middle_below c.before.before.before.before.loop-low.low c.before.before.before.before.loop-low.high c.before.before.before.loop-low-test.true, c.before.before.before.before.loop-low.invariant.0)

loop-less : tie.Need-loop-low-smaller-then-first-target invariant_loop decreases_loop
loop-less c = falls_up c.before.before.before.before.loop-low.low c.before.before.before.before.loop-low.high _ refl c.before.before.before.loop-low-test.true

loop-again : tie.Need-loop-low-preserved-then-first-target invariant_loop decreases_loop
loop-again c =
    let a = c.before.before.before.before.before.before.before.before.args in
    let l = c.before.before.before.before.loop-low in
    (l.invariant.0, omega (arith, middle_below l.low l.high c.before.before.before.loop-low-test.true, l.invariant.0), l.invariant.2 ∙ inside_up (edition_of a.edition) (sources a.parent.now a.staged.now a.staged_count a.table.now a.table_count) a.target a.spend l.low l.high c.before.before.before.loop-low-test.true _ c.before.before.lead_of-lead.ensures _ c.before.in-Ok.is c.if-first-target.true)

loop-less-2 : tie.Need-loop-low-smaller invariant_loop decreases_loop
loop-less-2 c = falls_down c.before.before.before.before.loop-low.low c.before.before.before.before.loop-low.high _ refl c.before.before.before.loop-low-test.true

loop-again-2 : tie.Need-loop-low-preserved invariant_loop decreases_loop
loop-again-2 c =
    let a = c.before.before.before.before.before.before.before.before.args in
    let l = c.before.before.before.before.loop-low in
    (omega (arith, middle_below l.low l.high c.before.before.before.loop-low-test.true, l.invariant.0), l.invariant.1, l.invariant.2 ∙ inside_down (edition_of a.edition) (sources a.parent.now a.staged.now a.staged_count a.table.now a.table_count) a.target a.spend l.low l.high c.before.before.before.loop-low-test.true _ c.before.before.lead_of-lead.ensures _ c.before.in-Ok.is c.if-first-target.false)

enum_told : tie.Need-enum_told-1 invariant_loop decreases_loop
enum_told c = search rules

ask_requires : tie.Need-ask-requires invariant_loop decreases_loop
ask_requires c κs =
    let s = c.before.before.before.before.before.before.before in
    let l = c.before.before.before.loop-low in
    (s.requires.0, omega (arith, middle_below l.low l.high c.before.before.loop-low-test.true, l.invariant.0))

returns : tie.Need-returns-in-Err invariant_loop decreases_loop
returns c =
    let a = c.before.before.before.before.before.before.before.before.args in
    let l = c.before.before.before.before.loop-low in
    c.ask.ensures ∙ inside_asks (edition_of a.edition) (sources a.parent.now a.staged.now a.staged_count a.table.now a.table_count) a.target a.spend l.low l.high c.before.before.before.loop-low-test.true _ c.before.before.lead_of-lead.ensures _ c.before.in-Err.is ∙ sym l.invariant.2

seek_down_requires : tie.Need-seek_down-requires invariant_loop decreases_loop
seek_down_requires c κs = (c.before.before.before.before.before.requires.0, c.before.loop-low.invariant.1)

returns-2 : tie.Need-returns invariant_loop decreases_loop
returns-2 c =
    let a = c.before.before.before.before.before.before.args in
    let l = c.before.before.loop-low in
    c.seek_down.ensures ∙ inside_ends (edition_of a.edition) (sources a.parent.now a.staged.now a.staged_count a.table.now a.table_count) a.target a.spend l.low l.high c.before.loop-low-test.false ∙ sym l.invariant.2

pub seek_rows_spec : {M : Type 1} → statement M
seek_rows_spec =
    tie.close
    (tie.spec
    invariant_loop
    decreases_loop
    loop-holds
    sub_middle
    add_middle
    lead_of_requires
    enum_known_lead
    add_low
    loop-less
    loop-again
    loop-less-2
    loop-again-2
    enum_told
    ask_requires
    returns
    seek_down_requires
    returns-2)
