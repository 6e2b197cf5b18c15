-- The parts of a line of the call runner: in decimal with a space between them, as in "4 0 -5" and "p 0 0 0 0 0 0 0" (document 01, "Trial values").
use Rattle.std.specs.Prelude.{ℕ, List, ◌∷◌, ℤ}
use Rattle.text.specs.Text.{decimal, number}

-- a space, then a number
abbrev pub spaced : ℕ → List ℕ
spaced n = 32 ∷ decimal n

abbrev pub spaced_number : ℤ → List ℕ
spaced_number z = 32 ∷ number z
