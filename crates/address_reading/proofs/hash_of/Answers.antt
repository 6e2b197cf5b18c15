-- `address_reading::hash_of` meets its contract: 32 bytes over 32 zeros.
use mathlib.Core.Path.{◌∙◌}
use Rattle.stores.proofs.StoreLaws.{write_whole}
use borrow.Author.Rules.{rules}
use Rattle.address_reading.proofs.hash_of.Goals as goal

pub returns : goal.returns
returns c = c.copy_bytes.ensures ∙ write_whole _ _ (search rules)
