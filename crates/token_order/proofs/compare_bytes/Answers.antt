-- The two tests are those of the comparison.
use Rattle.address_order.proofs.ListOrder.{number_below, number_above, number_equal}
use Rattle.token_order.proofs.compare_bytes.Goals as goal

pub returns-then-p-q : goal.returns-then-p-q
returns-then-p-q c = number_below _ _ c.if-p-q.true

pub returns-then-q-p : goal.returns-then-q-p
returns-then-q-p c = number_above _ _ c.if-q-p.true

pub returns : goal.returns
returns c = number_equal _ _ c.if-p-q.false c.if-q-p.false
