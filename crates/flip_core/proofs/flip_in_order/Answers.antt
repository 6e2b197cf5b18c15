-- `flip_core::flip_in_order` meets its contract: the entry of the head, or else what the rows give, with whether the head showed the target.
use mathlib.Core.Path.{sym, ◌∙◌}
use native.Mathlib.Omega.{arith}
use Rattle.entries.proofs.PositionLaws.{hit}
use Rattle.buffer_core.specs.Spills.{sources}
use Rattle.flip_core.proofs.EffectLaws.{order_head, order_seen, order_absent}
use Rattle.flip_core.proofs.flip_in_order.Goals as goal

pub flip_at-requires : goal.flip_at-requires
flip_at-requires c =
    let a = c.args in
    let h = hit a.spend a.target a.len a.head.now _ c.requires.3 (sym c.flip_position-position.ensures ∙ c.in-At.is) in
    (h.inside, omega (arith, h.size, c.requires.2))

pub returns-in-At : goal.returns-in-At
returns-in-At c =
    let a = c.args in
    let w = sources a.parent.now a.staged.now a.staged_counts.count a.table.now a.table_count in
    order_head a.edition w a.staged_counts a.staged.now a.target a.spend a.spills a.len a.head.now _ c.flip_position-position.ensures _ _ c.in-At.is c.flip_at.ensures

pub returns-in-Seen : goal.returns-in-Seen
returns-in-Seen c =
    let a = c.args in
    let w = sources a.parent.now a.staged.now a.staged_counts.count a.table.now a.table_count in
    order_seen a.edition w a.staged_counts a.staged.now a.target a.spend a.spills a.len a.head.now _ c.flip_position-position.ensures _ _ c.in-Seen.is c.flip_rows.ensures

pub returns-in-Absent : goal.returns-in-Absent
returns-in-Absent c =
    let a = c.args in
    let w = sources a.parent.now a.staged.now a.staged_counts.count a.table.now a.table_count in
    order_absent a.edition w a.staged_counts a.staged.now a.target a.spend a.spills a.len a.head.now _ c.flip_position-position.ensures _ _ c.in-Absent.is c.flip_rows-in-Absent.ensures
