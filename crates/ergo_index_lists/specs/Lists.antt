-- What the exports on lists of spills share.
use Rattle.std.specs.Prelude.{ℕ, Bool, true, false}
use Rattle.index_types.specs.declared.RowEdition.{RowEdition}
use Rattle.index_types.specs.declared.RowEdition.TheVariants.{One, Two}
use Rattle.index_types.specs.declared.ListCounts.{ListCounts}

-- a list of spills is borrowed bytes beside two numbers: how many records it holds and for how many it has room
abbrev pub list_of : (count capacity : ℕ) → ListCounts
list_of count capacity = record { count = count; capacity = capacity }

-- "A shelf and its staging hold one edition, named by the caller" (document 02, U7): by a flag, set for the second
abbrev pub named_edition : Bool → RowEdition
named_edition true = Two
named_edition false = One
