-- `undo_entries::put_known` meets its contract: the tag, the header, and then the numbers.
use Prim.Native.Nat.{ℕ}
use mathlib.Core.List.{List, [], ◌∷◌, ◌++◌}
use Rattle.big_endian.specs.BigEndian.{eight_bytes}
use Rattle.stores.proofs.PutLaws.{put_both}
use Rattle.undo_entries.proofs.put_known.Goals as goal

pub returns : goal.returns
returns c =
    let a = c.args in
    let numbers : List ℕ = eight_bytes a.txs ++ eight_bytes a.boxes in
    put_both (1 ∷ []) (a.header.now ++ numbers) a.out.now 0 _ _ _ _ c.put_byte-tag_end.ensures
    (put_both a.header.now numbers _ _ _ _ _ _ c.put_bytes-id_end.ensures c.put_numbers.ensures)
