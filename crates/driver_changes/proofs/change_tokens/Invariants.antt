-- What is left of the box starts at token k, with what is held by then.
use Rattle.std.proofs.Common.{◌≡◌, ◌+◌, ◌*◌, ◌-◌, ◌≤◌, length}
use Rattle.driver_core.specs.Bytes.{tokens_at}
use Rattle.driver_changes.specs.Internal.{change_each}
use Rattle.driver_changes.proofs.change_tokens.Given as goal

abbrev pub invariant-loop-k : goal.invariant-loop-k
invariant-loop-k l =
    (length l.table ≡ 4096) × (length l.sums ≡ 128) × (l.held ≤ 128)
    × (change_each l.adding (tokens_at l.s l.i l.a l.n) (record { ids = l.fn.table; amounts = l.fn.sums; count = l.count })
    ≡ change_each l.adding (tokens_at l.s (l.i + l.k * 32) (l.a + l.k * 8) (l.n - l.k)) (record { ids = l.table; amounts = l.sums; count = l.held }))
