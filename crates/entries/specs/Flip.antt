-- Where a spend or an unspend finds its entry in a head or a row, and what it leaves (document 01, "Spend and unspend"):
-- "its first entry of the wanted sign is negated".
use Rattle.std.specs.Prelude.{Bool, true, false, cond, List, [], ◌∷◌, ℕ, ◌+◌, eqb, ℤ, pos, nat_abs, neg_ℤ, get_or, set}
use Rattle.signed.specs.Sign.{wanted}
use Rattle.entries.specs.declared.Position.{Position}
use Rattle.entries.specs.declared.Position.TheVariants.{At, Seen, Absent}

-- the first entry whose absolute value is t and whose sign is wanted; i counts the entries passed, and seen tells whether one of them was t or -t
abbrev pub position : (spend : Bool) (t : ℕ) → List ℤ → (i : ℕ) (seen : Bool) → Position
position d t [] i seen = cond seen Seen Absent
position d t (z ∷ zs) i seen =
    cond (eqb (nat_abs z) t)
    (cond (wanted d z) (At i) (position d t zs (i + 1) true))
    (position d t zs (i + 1) seen)

-- the list with the entry that was found negated
abbrev pub flipped_at : Position → List ℤ → List ℤ
flipped_at (At i) zs = set zs i (neg_ℤ (get_or zs i (pos 0)))
flipped_at Seen zs = zs
flipped_at Absent zs = zs
