use Rattle.std.proofs.Common.{◌≡◌, ◌-◌, ◌+◌, arith}
use Rattle.load.proofs.LoadLaws.{writing_room, writing_turn, writing_end}
use Rattle.load.proofs.write_calls.Goals as goal

pub put_call-at-requires : goal.put_call-at-requires
put_call-at-requires c =
    let l = c.loop in
    writing_room _ _ _ (c.args.count - l.counter) l.source l.out l.at l.invariant (omega arith) c.next_call-d.result c.next_call-d.ensures

pub loop-preserved : goal.loop-preserved
loop-preserved c =
    let l = c.loop in
    let r = c.next_call-d in
    let p = c.put_call-at in
    let less : c.args.count - (l.counter + 1) ≡ c.args.count - l.counter - 1 = omega arith in
    rw less (writing_turn _ _ _ (c.args.count - l.counter) l.source l.out l.at l.invariant (omega arith) r.result r.ensures p.result _ p.auto.out p.ensures)

pub returns : goal.returns
returns c =
    let l = c.loop in
    writing_end _ _ _ (c.args.count - l.counter) l.source l.out l.at l.invariant (omega arith)
