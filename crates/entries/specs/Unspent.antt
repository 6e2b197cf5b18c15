-- The unspent box numbers of a list of entries, and a page of them (document 02, U2): "an offset and a length and gives, in a lent list of 64, the unspent box
-- numbers, newest first"; "the matching stretch of the full reversed list of entries above 0, and shorter only at its end".
use Rattle.std.specs.Prelude.{ℕ, cond, List, [], ◌∷◌, reverse, ℤ, take, drop}
use Rattle.entries.specs.Tally.{is_above}

-- "entries above 0"
unfoldable pub only_above : List ℤ → List ℤ
only_above [] = []
only_above (z ∷ zs) = cond (is_above z) (z ∷ only_above zs) (only_above zs)

-- "the full reversed list of entries above 0"
unfoldable pub unspent_newest_first : List ℤ → List ℤ
unspent_newest_first zs = reverse (only_above zs)

-- "the matching stretch"
abbrev pub stretch : (offset n : ℕ) → List ℤ → List ℤ
stretch offset n zs = take n (drop offset zs)

-- "a lent list of 64"
abbrev pub page_places : ℕ
page_places = 64
