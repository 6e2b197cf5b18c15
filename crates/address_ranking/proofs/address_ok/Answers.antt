-- One law for each way out.
use Rattle.address_ranking.proofs.CheckLaws.{ok_tokens, ok_boxes, ok_txs, ok_staged, ok_table}
use Rattle.address_ranking.proofs.address_ok.Goals as goal

pub returns-then-not-tokens_ok : goal.returns-then-not-tokens_ok
returns-then-not-tokens_ok c =
    let a = c.args in
    ok_tokens a.edition a.counts a.boxes.now a.txs.now a.staged.now a.table.now (c.if-not-tokens_ok.true)

pub returns-then-not-head_ok : goal.returns-then-not-head_ok
returns-then-not-head_ok c =
    let a = c.args in
    ok_boxes a.edition a.counts a.boxes.now a.txs.now a.staged.now a.table.now (c.if-not-tokens_ok.false) _ c.head_ok.ensures (c.if-not-head_ok.true)

pub returns-then-not-head_ok-2 : goal.returns-then-not-head_ok-2
returns-then-not-head_ok-2 c =
    let a = c.args in
    ok_txs a.edition a.counts a.boxes.now a.txs.now a.staged.now a.table.now (c.if-not-tokens_ok.false) _ c.head_ok.ensures (c.if-not-head_ok.false) _ c.head_ok-2.ensures (c.if-not-head_ok-2.true)

pub returns-then-not-spills_ok : goal.returns-then-not-spills_ok
returns-then-not-spills_ok c =
    let a = c.args in
    ok_staged a.edition a.counts a.boxes.now a.txs.now a.staged.now a.table.now (c.if-not-tokens_ok.false) _ c.head_ok.ensures (c.if-not-head_ok.false) _ c.head_ok-2.ensures (c.if-not-head_ok-2.false) _ c.spills_ok.ensures (c.if-not-spills_ok.true)

pub returns : goal.returns
returns c =
    let a = c.args in
    ok_table a.edition a.counts a.boxes.now a.txs.now a.staged.now a.table.now (c.if-not-tokens_ok.false) _ c.head_ok.ensures (c.if-not-head_ok.false) _ c.head_ok-2.ensures (c.if-not-head_ok-2.false) _ c.spills_ok.ensures (c.if-not-spills_ok.false) _ c.spills_ok-2.ensures
