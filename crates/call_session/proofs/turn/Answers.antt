-- Both what makes calls and what reads keep where the session stands.
use Rattle.std.proofs.Common.{rules, arith, ◌+◌, ◌≤◌}
use Rattle.call_session.proofs.SessionLaws.{same_keeps, makes_keeps, fed_places, read_keeps}
use Rattle.call_session.proofs.turn.Goals as goal

pub returns-in-Run : goal.returns-in-Run
returns-in-Run g c =
    let p = c.args.s.place in
    let r = c.run.result.place in
    let m = c.run.ensures in
    let h : r.have ≤ 65536 = omega (arith, m.have_is, c.requires.1) in
    let k : r.made ≤ p.made + 1024 = omega (arith, m.made_is, m.few) in
    let l : r.at ≤ r.have = omega (arith, m.at_is, m.have_is, m.within) in
    (l, h, k, makes_keeps _ p _ _ r _ _ (omega (arith, c.requires.1, c.told-input)) m)

pub returns-in-Read : goal.returns-in-Read
returns-in-Read g c =
    let p = c.args.s.place in
    let r = c.read.result.place in
    let F = c.read.ensures.1 in
    let b = fed_places p.at p.have p.made _ c.args.input.now r _ F c.requires.0 (omega (arith, c.requires.1, c.told-input)) in
    let k : r.made ≤ p.made + 1024 = omega (arith, b.2) in
    let h : r.have ≤ 65536 = omega (arith, b.1, c.told-input) in
    (b.0, h, k, read_keeps _ p c.in-Read.code _ r _ _ _ _ c.args.s.counts c.read.result.counts _ _ _ c.in-Read.is c.read.ensures.0 F)

pub returns-in-End : goal.returns-in-End
returns-in-End g c = (search rules, search rules, search rules, same_keeps _ c.args.s.place _)

pub returns-in-ReadFailed : goal.returns-in-ReadFailed
returns-in-ReadFailed g c = (search rules, search rules, search rules, same_keeps _ c.args.s.place _)

pub returns-in-WriteFailed : goal.returns-in-WriteFailed
returns-in-WriteFailed g c = (search rules, search rules, search rules, same_keeps _ c.args.s.place _)
