-- The one test of the definition.
use Rattle.vlq_positions.proofs.SpanLaws.{span_in, span_cut}
use Rattle.vlq_positions.proofs.get_bytes.Goals as goal

pub returns-then-not-has_room : goal.returns-then-not-has_room
returns-then-not-has_room c = span_cut c.args.src.now c.args.at c.args.n _ c.has_room.ensures (c.if-not-has_room.true)

pub returns : goal.returns
returns c = span_in c.args.src.now c.args.at c.args.n _ c.has_room.ensures (c.if-not-has_room.false)
