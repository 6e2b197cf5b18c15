-- The token count stands behind the nanoErgs, the line's end behind both.
use mathlib.Core.Path.{ap}
use mir.Syntax.{w64}
use Rattle.signed.proofs.SignedLaws.{back}
use Rattle.stores.proofs.PutLaws.{put_as}
use Rattle.line_parts.specs.Parts.{spaced_number}
use Rattle.parent_lines.proofs.ParentLaws.{put_balance_parts}
use Rattle.parent_lines.proofs.put_balance.Goals as goal

pub returns : goal.returns
returns c =
    let a = c.args in
    put_balance_parts a.out.now a.at _ _ _ _ _ _ a.nanos a.tokens
    (put_as (ap spaced_number (back w64 a.nanos c.ranges.nanos)) a.out.now a.at _ _ c.put_spaced_number-after_nanos.ensures.0)
    c.put_spaced-after_tokens.ensures.0 c.put_byte.ensures
