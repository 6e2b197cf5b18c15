-- The two parts are the ids. Their first bytes decide where they differ, and else `==` of arrays is the test of all.
use native.Mathlib.Omega.{arith}
use Prim.Native.Nat.{◌/◌}
use mathlib.Core.Path.{sym, ◌∙◌}
use lib.ListN.{length}
use Rattle.stores.proofs.EqualLaws.{same_is_eq}
use Rattle.token_ids.proofs.ChunkLaws.{id_in, same_first}
use Rattle.token_ids.proofs.same_id.Goals as goal

pub returns-then-a-i : goal.returns-then-a-i
returns-then-a-i c =
    let a = c.args in
    let x = id_in _ (length a.a.now / 32) a.i a.a.now c.as_chunks.ensures.front (omega arith) in
    let y = id_in _ (length a.b.now / 32) a.j a.b.now c.as_chunks-2.ensures.front (omega arith) in
    sym (same_first _ _ (rw (x, y) at c.if-a-i.true))

pub returns : goal.returns
returns c =
    let a = c.args in
    let x = id_in _ (length a.a.now / 32) a.i a.a.now c.as_chunks.ensures.front (omega arith) in
    let y = id_in _ (length a.b.now / 32) a.j a.b.now c.as_chunks-2.ensures.front (omega arith) in
    c.eq.ensures ∙ rw (x, y, same_is_eq)
