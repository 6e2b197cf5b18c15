-- What waited stays in front of what was read.
use Rattle.std.proofs.Common.{rules, ◌-◌, length}
use Rattle.call_input.proofs.ReadLaws.{front_kept}
use Rattle.call_input.proofs.read.Goals as goal

pub returns : goal.returns
returns g c =
    let a = c.args in
    let left = a.p.have - a.p.at in
    let m = c.move_bytes.new.dst in
    front_kept a.p.at a.p.have a.p.made a.code (length m - left) _ a.input.now m c.read_once-got.new.part c.took.result c.requires.0 c.requires.1 c.move_bytes.ensures (search rules) c.took.ensures
