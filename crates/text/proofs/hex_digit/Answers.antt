-- The array is the definition's row, read at the same place.
use borrow.Author.Rules.{rules}
use Rattle.text.specs.Text.{hex_digits, hex_digit}
use Rattle.text.proofs.hex_digit.Goals as goal

pub returns : goal.returns
unfolding hex_digits hex_digit
returns c = search rules
