-- `flip_stage::rewrite` meets its contract: what was read of the row, written back with an entry negated.
use mathlib.Core.Path.{refl}
use mathlib.Core.Logic.{inr}
use native.Mathlib.Omega.{arith}
use mir.Syntax.{w32}
use borrow.Author.Rules.{rules}
use Rattle.signed.proofs.SignedLaws.{back}
use Rattle.flip_stage.proofs.RewriteLaws.{parsed, not_refused, flip_ready, held_txs, held_boxes, row_written}
use Rattle.flip_stage.proofs.rewrite.Goals as goal

pub flip_at-requires : goal.flip_at-requires
flip_at-requires c =
    let a = c.args in
    flip_ready _ _ _ _ _ _ _ _ _ _ _
    (parsed a.edition a.parent.now a.number a.row.now c.requires.0 a.at c.requires.3 _ c.body_start-start.ensures _ _ _ _ _ c.read_last_segment.ensures refl refl _ _ _ _ _ c.in-Read.is)

pub emit_segment-requires : goal.emit_segment-requires
emit_segment-requires c =
    let a = c.args in
    let p =
    parsed a.edition a.parent.now a.number a.row.now c.requires.0 a.at c.requires.3 _ c.body_start-start.ensures _ _ _ _ _ c.read_last_segment.ensures refl refl _ _ _ _ _ c.in-Read.is in
    (held_txs _ _ _ _ _ _ _ _ _ _ _ p, held_boxes _ _ _ _ _ _ _ _ _ _ _ p _ c.flip_at.ensures, inr (omega (arith, c.requires.2, c.emit_header-o.ensures.1, c.emit_header-o.auto)))

pub returns-in-Read : goal.returns-in-Read
returns-in-Read c =
    let a = c.args in
    let p =
    parsed a.edition a.parent.now a.number a.row.now c.requires.0 a.at c.requires.3 _ c.body_start-start.ensures _ _ _ _ _ c.read_last_segment.ensures refl refl _ _ _ _ _ c.in-Read.is in
    row_written _ _ _ _ _ _ _ _ _ _ _ p _ c.flip_at.ensures _ _ (back w32 _ (search rules)) (back w32 _ (search rules)) _ c.requires.2 _ _ _ _ c.emit_header-o.ensures.0 c.emit_header-o.ensures.1 c.emit_segment.ensures.0 c.emit_segment.ensures.1

pub returns-in-Refused : goal.returns-in-Refused
returns-in-Refused c =
    let a = c.args in
    not_refused a.edition a.parent.now a.number a.row.now c.requires.0 a.at c.requires.3 _ c.body_start-start.ensures _ _ _ _ _ c.read_last_segment.ensures _ c.in-Refused.is
