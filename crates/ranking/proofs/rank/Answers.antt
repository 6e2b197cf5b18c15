-- 25 of both addresses is tested, then 41 of both.
use Rattle.address_ranking.specs.Rank.{address_of}
use Rattle.ranking.proofs.RankLaws.{rank_25, rank_41, rank_on, both_passed}
use Rattle.ranking.proofs.rank.Goals as goal

pub returns-then-not-buffers_ok : goal.returns-then-not-buffers_ok
returns-then-not-buffers_ok c =
    let a = c.args in
    let x = address_of a.edition a.counts a.hash.now a.ids.now a.amounts.now a.boxes.now a.txs.now a.staged.now a.table.now in
    let y = address_of a.other_edition a.other_counts a.other_hash.now a.other_ids.now a.other_amounts.now a.other_boxes.now a.other_txs.now a.other_staged.now a.other_table.now in
    rank_25 x y _ _ c.address_ok-ok.ensures c.address_ok-other_ok.ensures (c.if-not-buffers_ok.true)

pub returns-then-id_twice : goal.returns-then-id_twice
returns-then-id_twice c =
    let a = c.args in
    let x = address_of a.edition a.counts a.hash.now a.ids.now a.amounts.now a.boxes.now a.txs.now a.staged.now a.table.now in
    let y = address_of a.other_edition a.other_counts a.other_hash.now a.other_ids.now a.other_amounts.now a.other_boxes.now a.other_txs.now a.other_staged.now a.other_table.now in
    rank_41 x y _ _ c.address_ok-ok.ensures c.address_ok-other_ok.ensures (c.if-not-buffers_ok.false) _ _ c.id_twice-twice.ensures c.id_twice-other_twice.ensures c.if-id_twice.true

pub rank_noted-requires : goal.rank_noted-requires
rank_noted-requires c =
    let a = c.args in
    let x = address_of a.edition a.counts a.hash.now a.ids.now a.amounts.now a.boxes.now a.txs.now a.staged.now a.table.now in
    let y = address_of a.other_edition a.other_counts a.other_hash.now a.other_ids.now a.other_amounts.now a.other_boxes.now a.other_txs.now a.other_staged.now a.other_table.now in
    both_passed x y _ _ c.address_ok-ok.ensures c.address_ok-other_ok.ensures (c.if-not-buffers_ok.false) _ _ c.id_twice-twice.ensures c.id_twice-other_twice.ensures c.if-id_twice.false

pub returns : goal.returns
returns c =
    let a = c.args in
    let x = address_of a.edition a.counts a.hash.now a.ids.now a.amounts.now a.boxes.now a.txs.now a.staged.now a.table.now in
    let y = address_of a.other_edition a.other_counts a.other_hash.now a.other_ids.now a.other_amounts.now a.other_boxes.now a.other_txs.now a.other_staged.now a.other_table.now in
    rank_on x y _ _ c.address_ok-ok.ensures c.address_ok-other_ok.ensures (c.if-not-buffers_ok.false) _ _ c.id_twice-twice.ensures c.id_twice-other_twice.ensures c.if-id_twice.false _ c.rank_noted.ensures
