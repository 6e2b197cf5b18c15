-- The three parts stand one behind the other, and 64 + 160 + 160 bytes hold them.
use native.Mathlib.Omega.{arith}
use Rattle.end_lines.proofs.EndRoom.{refusal_end, first_end, put_end_parts}
use Rattle.end_lines.proofs.put_end.Goals as goal

pub put_parent-after_first-requires : goal.put_parent-after_first-requires
put_parent-after_first-requires c =
    let e = c.put_refusal-after_refusal in
    (omega arith, c.requires.0, c.requires.1, c.requires.2, omega (arith, c.requires.3, refusal_end c.args.ordinal c.args.code c.args.numbers.now c.args.lengths.now c.args.spills.now _ e.result _ e.ensures, c.put_refusal-after_refusal.auto.out))

pub put_parent-requires : goal.put_parent-requires
put_parent-requires c =
    let e = c.put_refusal-after_refusal in
    let f = c.put_parent-after_first in
    (omega arith, c.requires.0, c.requires.1, c.requires.2, omega (arith, c.requires.3, first_end c.args.ordinal c.args.code c.args.numbers.now c.args.lengths.now c.args.spills.now _ e.result _ e.ensures f.result _ f.ensures, c.put_refusal-after_refusal.auto.out, c.put_parent-after_first.auto.out))

pub returns : goal.returns
returns c =
    let a = c.args in
    let e = c.put_refusal-after_refusal in
    let f = c.put_parent-after_first in
    put_end_parts a.ordinal a.code a.numbers.now a.lengths.now a.spills.now a.out.now e.result _ e.ensures f.result _ f.ensures _ _ c.put_parent.ensures
