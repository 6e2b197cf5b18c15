-- The spill count stands behind the length.
use mathlib.Core.Path.{ap, ◌∙◌}
use native.Mathlib.Omega.{arith}
use mir.Syntax.{w32}
use Rattle.signed.proofs.SignedLaws.{back, back64}
use Rattle.stores.proofs.PutLaws.{put_as, put_both}
use Rattle.line_parts.specs.Parts.{spaced, spaced_number}
use Rattle.parent_lines.proofs.put_head.Goals as goal

pub returns : goal.returns
returns c =
    let a = c.args in
    let m = c.put_spaced-after_len in
    let e = c.put_spaced_number.ensures in (
      put_both (spaced a.len) (spaced_number a.spills) a.out.now a.at _ _ _ _ m.ensures.0
          (put_as (ap spaced_number (back64 c.i64_from_i32-wide.result c.i64_from_i32-wide.type_inv ∙ c.i64_from_i32-wide.ensures ∙ back w32 c.args.spills c.ranges.spills)) c.put_spaced-after_len.new.out m.result _ _ e.0),
      omega arith,
    )
