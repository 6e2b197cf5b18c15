-- `address_writing::buffers_ok` meets its contract: one law for each way out.
use mathlib.Core.Path.{sym, ◌∙◌}
use Rattle.address_core.proofs.WriteLaws.{not_txs, not_boxes, count_decides}
use Rattle.address_writing.proofs.buffers_ok.Goals as goal

pub returns-then-not-is_held : goal.returns-then-not-is_held
returns-then-not-is_held c = let a = c.args in not_txs a.n_txs a.len_txs a.n_boxes a.len_boxes a.count (sym c.is_held.ensures ∙ c.if-not-is_held.true)

pub returns-then-not-is_held-2 : goal.returns-then-not-is_held-2
returns-then-not-is_held-2 c = let a = c.args in not_boxes a.n_txs a.len_txs a.n_boxes a.len_boxes a.count (sym c.is_held.ensures ∙ c.if-not-is_held.false) (sym c.is_held-2.ensures ∙ c.if-not-is_held-2.true)

pub returns : goal.returns
returns c = let a = c.args in count_decides a.n_txs a.len_txs a.n_boxes a.len_boxes a.count (sym c.is_held.ensures ∙ c.if-not-is_held.false) (sym c.is_held-2.ensures ∙ c.if-not-is_held-2.false)
