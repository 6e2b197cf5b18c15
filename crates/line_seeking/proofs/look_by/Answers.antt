-- `line_seeking::look_by` meets its contract: the position of the entry, and whether the line ends the walk.
use Rattle.line_seeking.proofs.LineLaws.{by_take, seen_stop, seen_next, absent_stop, absent_next}
use Rattle.line_seeking.proofs.look_by.Goals as goal

pub returns-in-At : goal.returns-in-At
returns-in-At c =
    let a = c.args in
    by_take a.row.now a.first a.target a.spend c.requires.0 _ c.flip_position-position.ensures _ c.in-At.is

pub returns-then-first-target : goal.returns-then-first-target
returns-then-first-target c =
    let a = c.args in
    seen_stop a.row.now a.first a.target a.spend c.requires.0 _ c.flip_position-position.ensures c.in-Seen.is c.if-first-target.true

pub returns-else-first-target : goal.returns-else-first-target
returns-else-first-target c =
    let a = c.args in
    seen_next a.row.now a.first a.target a.spend c.requires.0 _ c.flip_position-position.ensures c.in-Seen.is c.if-first-target.false

pub returns-then-first-target-2 : goal.returns-then-first-target-2
returns-then-first-target-2 c =
    let a = c.args in
    absent_stop a.row.now a.first a.target a.spend c.requires.0 _ c.flip_position-position.ensures c.in-Absent.is c.if-first-target-2.true

pub returns-else-first-target-2 : goal.returns-else-first-target-2
returns-else-first-target-2 c =
    let a = c.args in
    absent_next a.row.now a.first a.target a.spend c.requires.0 _ c.flip_position-position.ensures c.in-Absent.is c.if-first-target-2.false
