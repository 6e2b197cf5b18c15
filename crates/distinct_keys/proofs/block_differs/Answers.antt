-- `distinct_keys::block_differs` meets its contract: the trees start empty; the block differs, and none of it stands again.
use Rattle.std.proofs.Common.{sym, refl, ◌∙◌, mul-le-mul_right, arith}
use Rattle.records.proofs.KeyLaws.{clash}
use Rattle.distinct_keys.proofs.TreeLaws.{block_past, block_stop, zeros}
use Rattle.distinct_keys.proofs.block_differs.Goals as goal

pub grow-requires : goal.grow-requires
grow-requires c =
    (c.requires.0, omega (arith, mul-le-mul_right c.args.size c.requires.2), omega arith, omega arith, omega arith, zeros 40955)

pub returns-then-grow : goal.returns-then-grow
returns-then-grow c =
    let a = c.args in (
      λ e. block_past a.size a.list.now a.block a.count c.requires.0 c.requires.2 (sym c.grow.ensures.0 ∙ c.if-grow.true) (c.none_again.ensures.0 e),
      c.none_again.ensures.1,
    )

pub returns : goal.returns
returns c =
    let a = c.args in
    (λ e. absurd (clash e refl), λ e. block_stop a.size a.list.now a.block a.count c.requires.0 c.requires.2 (sym c.grow.ensures.0 ∙ c.if-grow.false))
