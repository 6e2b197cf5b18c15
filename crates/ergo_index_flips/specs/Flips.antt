-- What the exports of the spend, the unspend and the tally leave: the code, and every out and borrowed list at exit, from the definition of the public call.
use Rattle.std.specs.Prelude.{ℕ, List, ℤ}
use Rattle.buffer_core.specs.declared.Direction.{Direction}
use Rattle.index_types.specs.declared.RowEdition.{RowEdition}
use Rattle.buffer_core.specs.Edition.{edition_of}
use Rattle.buffer_core.specs.Append.{counts_of}
use Rattle.buffer_core.specs.Flip.{Flipping, flip_of}
use Rattle.buffer_core.specs.Tally.{tally_of}
use Rattle.ergo_index_lists.specs.Lists.{list_of}
use Rattle.ergo_index_outs.specs.Outs.{FlipOut, flip_by, TallyOut, tally_export}

abbrev pub flip_export : ℕ → Flipping → FlipOut
flip_export count f = flip_by f.answer count f.head f.staged

abbrev pub flip_call : RowEdition → Direction → (parent : List ℕ) (len : ℕ) (spills : ℤ) → List ℤ → (target : ℤ) (s s_capacity : ℕ) → List ℕ → (t t_capacity : ℕ) → List ℕ → FlipOut
flip_call v d parent len spills head target s sc staged t tc table =
    flip_export s (flip_of (edition_of v) d parent (counts_of len spills) target (list_of s sc) staged (list_of t tc) table head)

abbrev pub tally_call : RowEdition → (parent : List ℕ) (len : ℕ) (spills : ℤ) → List ℤ → (s s_capacity : ℕ) → List ℕ → (t t_capacity : ℕ) → List ℕ → (unspent spent unknown : ℕ) → TallyOut
tally_call v parent len spills head s sc staged t tc table u d z =
    tally_export u d z (tally_of (edition_of v) parent (counts_of len spills) (list_of s sc) staged (list_of t tc) table head)
