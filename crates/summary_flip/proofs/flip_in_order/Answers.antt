-- The entry of the head, or else what the lines give, with whether the head showed the target.
use mathlib.Core.Path.{sym, ◌∙◌}
use native.Mathlib.Omega.{arith}
use Rattle.entries.proofs.PositionLaws.{hit}
use Rattle.summary_flip.proofs.flip_in_order.Goals as goal

pub flip_at-requires : goal.flip_at-requires
flip_at-requires c =
    let a = c.args in
    let h = hit a.spend a.target a.len a.head.now _ c.requires.3 (sym c.flip_position-position.ensures ∙ c.in-At.is) in
    (h.inside, omega (arith, h.size, c.requires.2))
