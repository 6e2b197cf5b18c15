-- The bounds of a run over a part of the input.
use Rattle.std.proofs.Common.{ℕ, ◌≤◌, subst}
use Rattle.call_runs.proofs.RunRoom.{part_room}
use Rattle.call_session.proofs.make_calls.Goals as goal

pub returns : goal.returns
returns c =
    let a = c.args in
    let p = c.run_calls in
    let b = part_room 2 a.at a.have a.input.now _ a.answers.now a.popped.now _ c.requires.0 c.requires.1 p.ensures in
    (b.0, subst (λ (n : ℕ). p.result.made ≤ n) c.requires.2 b.1, p.ensures)
