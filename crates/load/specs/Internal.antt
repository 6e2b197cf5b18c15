-- What the steps of a load ask: so many bytes hold too few appends to bring a count to 2^63.
use Rattle.std.specs.Prelude.{ℕ, ◌+◌, ◌*◌, ◌≤◌}
use Rattle.load_core.specs.declared.Source.{Source}

pub record Countable (room : ℕ) (g : Source) : Type 0 where
  pub boxes : g.boxes * 10 + room ≤ 92233720368547758070
  pub txs : g.txs * 10 + room ≤ 92233720368547758070
