-- Tests of a number's sign, as Bools.
use Rattle.std.specs.Prelude.{Bool, true, false, eqb, ℤ, pos, negsuc}

abbrev pub is_negative : ℤ → Bool
is_negative (pos n) = false
is_negative (negsuc n) = true

-- the sign that a spend (true) or an unspend (false) looks for: not below zero, not above zero
-- (document 01, "Spend and unspend": the entry of the wanted sign is negated; 0 serves both)
abbrev pub wanted : Bool → ℤ → Bool
wanted true (pos n) = true
wanted true (negsuc n) = false
wanted false (pos n) = eqb n 0
wanted false (negsuc n) = true
