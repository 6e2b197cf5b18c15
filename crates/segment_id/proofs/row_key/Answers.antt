-- What is hashed is the front of the buffer that the text was written to.
use mathlib.Core.Path.{sym, ap, ◌∙◌}
use borrow.Author.Rules.{rules}
use lib.ListN.{replicate}
use lib.Seq.{length-take-le}
use mir.Syntax.{w32}
use Rattle.signed.proofs.SignedLaws.{back}
use Rattle.stores.proofs.PutLaws.{put_as, put_within, put_front}
use Rattle.blake2b_core.specs.Blake2b.{blake2b256}
use Rattle.segment_id.specs.Key.{key_text, row_key}
use Rattle.segment_id.proofs.KeyLaws.{text_most}
use Rattle.segment_id.proofs.row_key.Goals as goal

pub slice_bounds-buf-end : goal.slice_bounds-buf-end
slice_bounds-buf-end c = (put_within (key_text c.args.parent.now c.args.kind c.args.number) (replicate 88 0) _ _ ((put_as (ap (key_text c.args.parent.now c.args.kind) (back w32 c.args.number c.ranges.number)) (replicate 88 0) 0 _ _ c.put_key_text-n.ensures)) (text_most c.args.parent.now c.args.kind c.args.number (search rules) c.ranges.number))

pub slice_bounds-blake2b256-end : goal.slice_bounds-blake2b256-end
slice_bounds-blake2b256-end c = sym (length-take-le _ _ ((put_within (key_text c.args.parent.now c.args.kind c.args.number) (replicate 88 0) _ _ ((put_as (ap (key_text c.args.parent.now c.args.kind) (back w32 c.args.number c.ranges.number)) (replicate 88 0) 0 _ _ c.put_key_text-n.ensures)) (text_most c.args.parent.now c.args.kind c.args.number (search rules) c.ranges.number))))

pub returns : goal.returns
unfolding row_key
returns c =
    let t = key_text c.args.parent.now c.args.kind c.args.number in
    (c.blake2b256.ensures.0 ∙ ap blake2b256 (put_front t (replicate 88 0) _ _ ((put_as (ap (key_text c.args.parent.now c.args.kind) (back w32 c.args.number c.ranges.number)) (replicate 88 0) 0 _ _ c.put_key_text-n.ensures)) (text_most c.args.parent.now c.args.kind c.args.number (search rules) c.ranges.number)), c.blake2b256.ensures.1)
