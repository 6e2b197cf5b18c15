-- A run makes at most 1,024 calls, for which there is room in the answers and in the output, and stays within the bytes that are there.
use Rattle.call_session.proofs.CallLaws.{run_makes}
use Rattle.call_session.proofs.run.Goals as goal

pub returns : goal.returns
returns g c =
    let a = c.args in
    let p = c.make_calls-p in
    run_makes a.input.now a.s.place _ a.answers.now a.popped.now _ a.out.now _ _ c.requires.0 c.requires.1 c.requires.3 p.ensures.2 c.tell_calls-place_after.ensures
