-- `flip_walk::look_in` meets its contract: the last number, then the entry to take, then the first number decide.
use Rattle.signed.proofs.SignedLaws.{back64}
use Rattle.flip_walk.proofs.WalkLaws.{look_below, look_take, look_seen, look_absent}
use Rattle.flip_walk.proofs.look_in.Goals as goal

pub returns-then-magnitude-target : goal.returns-then-magnitude-target
returns-then-magnitude-target c =
    look_below c.args.row.now c.args.target c.args.spend c.requires.0 _ _ (back64 _ c.magnitude-arg-1.given) c.magnitude.ensures c.if-magnitude-target.true

pub returns-in-At : goal.returns-in-At
returns-in-At c =
    look_take c.args.row.now c.args.target c.args.spend c.requires.0 _ _ (back64 _ c.magnitude-arg-1.given) c.magnitude.ensures c.if-magnitude-target.false _ c.flip_position-position.ensures _ c.in-At.is

pub returns-in-Seen : goal.returns-in-Seen
returns-in-Seen c =
    look_seen c.args.row.now c.args.target c.args.spend c.requires.0 _ _ (back64 _ c.magnitude-arg-1.given) c.magnitude.ensures c.if-magnitude-target.false _ c.flip_position-position.ensures _ _ _ (back64 _ c.magnitude-arg-2-1.given) c.magnitude-first.ensures c.in-Seen.is c.look_past.ensures

pub returns-in-Absent : goal.returns-in-Absent
returns-in-Absent c =
    look_absent c.args.row.now c.args.target c.args.spend c.requires.0 _ _ (back64 _ c.magnitude-arg-1.given) c.magnitude.ensures c.if-magnitude-target.false _ c.flip_position-position.ensures _ _ _ (back64 _ c.magnitude-arg-2-1.given) c.magnitude-first.ensures c.in-Absent.is c.look_past-in-Absent.ensures
