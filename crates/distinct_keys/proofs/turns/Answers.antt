-- `distinct_keys::turns` meets its contract: the four words of the key.
use Rattle.distinct_keys.proofs.TreeLaws.{turns_bytes}
use Rattle.distinct_keys.proofs.turns.Goals as goal

pub returns : goal.returns
returns c =
    let a = c.args in
    let w1 = c.word-a.ensures in
    let w2 = c.word-b.ensures in
    let w3 = c.word-c.ensures in
    let w4 = c.word-d.ensures in
    rw (turns_bytes a.at a.list.now, c.sum4.ensures, w1, w2, w3, w4)
