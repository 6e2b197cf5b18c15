-- A line by value, as its numbers in order.
use Rattle.std.specs.Prelude.{ℕ, List, [], ◌∷◌}
use Rattle.summary_lines.specs.declared.Line.{Line}

abbrev pub line_numbers : Line → List ℕ
line_numbers l = l.first ∷ l.last ∷ l.above ∷ l.zeros ∷ l.below ∷ []
