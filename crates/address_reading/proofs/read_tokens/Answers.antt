-- By the laws of reading a token and then the rest.
use Rattle.address_core.proofs.TokenLaws.{tokens_end, tokens_more, tokens_bad}
use Rattle.address_reading.proofs.read_tokens.Goals as goal

pub returns-in-Err : goal.returns-in-Err
returns-in-Err c =
    let a = c.args in
    let l = c.loop-i in
    l.invariant _ _ _ (tokens_bad a.k a.row.now l.i l.next l.ids l.amounts c.loop-i-test.true _ _ _ c.read_token.ensures _ c.in-Err.is _ _)

pub loop-i-preserved : goal.loop-i-preserved
loop-i-preserved c =
    let a = c.args in
    let l = c.loop-i in
    λ r b d p. l.invariant r b d (tokens_more a.k a.row.now l.i l.next l.ids l.amounts c.loop-i-test.true _ _ _ c.read_token.ensures _ _ c.in-Ok.is r b d p)

pub returns : goal.returns
returns c =
    let a = c.args in
    let l = c.loop-i in
    l.invariant _ _ _ (tokens_end a.k a.row.now l.i l.next l.ids l.amounts c.loop-i-test.false)
