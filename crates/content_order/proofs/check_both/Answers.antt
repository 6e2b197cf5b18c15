-- Each address is checked for any heads.
use mathlib.Core.Path.{◌∙◌}
use lib.ListN.{take}
use mir.Syntax.{w32}
use Rattle.signed.proofs.SignedLaws.{back}
use Rattle.segment_id.specs.declared.Kind.TheVariants.{Box, Tx}
use Rattle.buffer_core.specs.Edition.{edition_of}
use Rattle.spill_rows.specs.Internal.{read_of}
use Rattle.side_order.specs.Side.{side_of}
use Rattle.address_ranking.specs.Internal.{first_fault}
use Rattle.content_order.specs.Internal.{sources_of}
use borrow.Author.Rules.{rules}
use Rattle.content_order.proofs.check_both.Goals as goal

pub returns : goal.returns
returns c = λ bs ts bs' ts'.
    let a = c.args in
    let w = sources_of a.counts a.hash.now a.staged.now a.table.now in
    let w' = sources_of a.other_counts a.other_hash.now a.other_staged.now a.other_table.now in
    let h = take a.counts.boxes.len bs in
    let k = take a.counts.txs.len ts in
    let h' = take a.other_counts.boxes.len bs' in
    let k' = take a.other_counts.txs.len ts' in
    let e = back w32 a.counts.boxes.spills (search rules) in
    let f = back w32 a.counts.txs.spills (search rules) in
    let e' = back w32 a.other_counts.boxes.spills (search rules) in
    let f' = back w32 a.other_counts.txs.spills (search rules) in
    let p = c.check_address-first.ensures h k ∙ (λ i. first_fault (read_of (side_of (edition_of a.edition) Box w (e i) h)) (read_of (side_of (edition_of a.edition) Tx w (f i) k))) in
    let q = c.check_address-second.ensures h' k' ∙ (λ i. first_fault (read_of (side_of (edition_of a.other_edition) Box w' (e' i) h')) (read_of (side_of (edition_of a.other_edition) Tx w' (f' i) k'))) in
    c.first_fault.ensures ∙ (λ i. first_fault (p i) (q i))
