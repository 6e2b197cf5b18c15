-- The runner's state as a copy of the accounts: rows of edition 1, no summaries.
use Rattle.buffer_core.specs.Edition.{edition_1}
use Rattle.call_steps.specs.State.{State}
use Rattle.history_runs.specs.View.{ids_in, view, balance_in}
use Rattle.copies.specs.Copies.{Copy, tally_by}

abbrev pub copy_of : State → Copy
copy_of s = record {
  edition = edition_1;
  ids = ids_in s;
  index = view s;
  balances = balance_in s;
  summary_tally = λ p. tally_by edition_1 (ids_in s) (view s) p;
}
