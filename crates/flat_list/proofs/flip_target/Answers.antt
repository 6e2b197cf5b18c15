-- `flat_list::flip_target` meets its contract: the entry, 14 or 15.
use mathlib.Core.Path.{sym, ◌∙◌}
use native.Mathlib.Omega.{arith}
use Rattle.entries.proofs.PositionLaws.{hit}
use Rattle.flat_list.proofs.FlatLaws.{target_at, target_14, target_15}
use Rattle.flat_list.proofs.flip_target.Goals as goal

pub flip_at-requires : goal.flip_at-requires
flip_at-requires c =
    let a = c.args in
    let h = hit a.spend a.target a.count a.list.now _ c.requires.0 (sym c.flip_position-position.ensures ∙ c.in-At.is) in
    (h.inside, omega (arith, h.size, c.requires.2))

pub returns-in-At : goal.returns-in-At
returns-in-At c =
    let a = c.args in
    let n = a.count in
    let l = a.list.now in
    target_at n l a.spend a.target _ _ (sym c.flip_position-position.ensures ∙ c.in-At.is) c.flip_at.ensures

pub returns-in-Seen : goal.returns-in-Seen
returns-in-Seen c =
    let a = c.args in
    let n = a.count in
    let l = a.list.now in
    target_14 n l a.spend a.target (sym c.flip_position-position.ensures ∙ c.in-Seen.is)

pub returns-in-Absent : goal.returns-in-Absent
returns-in-Absent c =
    let a = c.args in
    let n = a.count in
    let l = a.list.now in
    target_15 n l a.spend a.target (sym c.flip_position-position.ensures ∙ c.in-Absent.is)
