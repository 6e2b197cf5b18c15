-- What is handed over is what the load has written.
use Rattle.std.proofs.Common.{sym, ap, ◌∙◌}
use Rattle.load.specs.Answers.{Generated}
use Rattle.load.specs.Generated.{generated}
use Rattle.load.proofs.PieceLaws.{accepted, go_on_is}
use Rattle.load_writer.proofs.write_piece.Goals as goal

pub hand_calls-requires : goal.hand_calls-requires
hand_calls-requires g c =
    let a = c.args in
    let w = c.in-Ok in
    let out' = c.go_on.new.out in
    let e = sym c.go_on.ensures ∙ ap (λ (r : Generated). generated r out') w.is in
    let x = accepted a.count a.g a.out.now w.n w.after out' (go_on_is a.count a.g a.out.now w.n w.after out' e) in
    (x.within, x.front)
