-- The three tests of the definition, one by one.
use Rattle.balance.proofs.BoxLaws.{count_above, amounts_short, ids_decide}
use Rattle.balance.proofs.buffers_ok.Goals as goal

pub returns-then-count-gt-TOKEN_LIMIT : goal.returns-then-count-gt-TOKEN_LIMIT
returns-then-count-gt-TOKEN_LIMIT c = count_above _ _ _ _ c.if-count-gt-TOKEN_LIMIT.true

pub returns-then-amounts-n : goal.returns-then-amounts-n
returns-then-amounts-n c = amounts_short _ _ _ _ c.if-count-gt-TOKEN_LIMIT.false c.if-amounts-n.true

pub returns : goal.returns
returns c = ids_decide _ _ _ _ c.if-count-gt-TOKEN_LIMIT.false c.if-amounts-n.false
