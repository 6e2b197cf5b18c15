-- What is left of the box starts at token j, with what is held by then.
use Rattle.std.proofs.Common.{ℕ, ℤ, List, ◌≡◌, ◌≤◌, ◌-◌, length}
use Rattle.balance_tokens.specs.Tokens.{Held, change_tokens}
use Rattle.token_changes.proofs.change_tokens.Given as goal

abbrev pub holding : List ℕ → List ℤ → ℕ → Held
holding table sums count = record { ids = table; amounts = sums; count = count }

abbrev pub invariant-loop-j : goal.invariant-loop-j
invariant-loop-j l =
    (length l.table ≡ 4096) × (length l.sums ≡ 128) × (l.held ≤ 128)
    × (change_tokens l.adding l.ids l.amounts 0 l.n (holding l.fn.table l.fn.sums l.count) ≡ change_tokens l.adding l.ids l.amounts l.j (l.n - l.j) (holding l.table l.sums l.held))
