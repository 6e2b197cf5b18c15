-- The way out of each export: the outs hold what the call left, or are as they were where it was refused.
use Prim.Native.Nat.{ℕ}
use mathlib.Core.Path.{◌≡◌}
use mathlib.Core.Bool.{true, false}
use mathlib.Core.List.{List, []}
use lib.IntN.{ℤ}
use Rattle.index_types.specs.declared.SpillCounts.{SpillCounts}
use Rattle.call_steps.specs.State.{state}
use Rattle.call_steps.specs.Steps.{spill_counts, lists_with}
use Rattle.driver_core.specs.Bytes.{Journal, journal}
use Rattle.driver_core.specs.Apply.{apply_of, undo_of}
use Rattle.index_types.specs.declared.Applied.{Applied}
use Rattle.driver_turns.specs.Batch.{applied}
use Rattle.index_types.specs.declared.Undone.{Undone}
use Rattle.driver_undo.specs.Undos.{undone}
use Rattle.driver_outs.specs.declared.Outs.{Outs}
use Rattle.driver_outs.specs.Outs.{outs_of}
use Rattle.ergo_index_lists.specs.Lists.{list_of}
use Rattle.ergo_index_driver.specs.Driver.{state_in, state_out, apply_out, apply_call, make_out, make_call, undo_out, undo_call}

-- n is the counts that the call was given, q what goes to the outs; what it left is named with a 2
module _ (s sc t tc d dc : ℕ) (ids : List ℕ) (numbers : List ℤ) (lengths : List ℕ) (spills : List ℤ) (staged table deleted : List ℕ) (n : SpillCounts) (f : n ≡ spill_counts (list_of s sc) (list_of t tc) (list_of d dc))
    (ids2 : List ℕ) (numbers2 : List ℤ) (lengths2 : List ℕ) (spills2 : List ℤ) (staged2 table2 deleted2 : List ℕ) where
  module _ (input : List ℕ) (parents : ℕ) (answers : List ℕ) (at made end : ℕ) (p : Applied) (answers2 : List ℕ) (q : Outs) (g : q ≡ outs_of p at made end) where
    pub apply_told : (entries : List ℕ) (used standing : ℕ) (entries2 : List ℕ)
        → applied p ids2 numbers2 lengths2 spills2 staged2 table2 deleted2 entries2 answers2 []
        ≡ apply_of true parents input (state ids numbers lengths spills (lists_with n staged table deleted)) (journal entries used standing) answers []
        → apply_out q.code q.at q.made q.end q.used q.standing
        (state_out q.staged q.table q.deleted ids2 numbers2 lengths2 spills2 staged2 table2 deleted2) entries2 answers2
        ≡ apply_call input parents (state_in s sc t tc d dc ids numbers lengths spills staged table deleted) (journal entries used standing) answers at made end
    apply_told entries used standing entries2 e = rw (← (rw f at e), g)

    pub make_told : (popped popped2 : List ℤ)
        → applied p ids2 numbers2 lengths2 spills2 staged2 table2 deleted2 [] answers2 popped2
        ≡ apply_of false parents input (state ids numbers lengths spills (lists_with n staged table deleted)) (journal [] 0 0) answers popped
        → make_out q.code q.at q.made q.end
        (state_out q.staged q.table q.deleted ids2 numbers2 lengths2 spills2 staged2 table2 deleted2) answers2 popped2
        ≡ make_call input parents (state_in s sc t tc d dc ids numbers lengths spills staged table deleted) answers popped at made end
    make_told popped popped2 e = rw (← (rw f at e), g)

  pub undo_told : (parents mark : ℕ) (j : Journal) (u : Undone)
      → undone u ids2 numbers2 lengths2 spills2 staged2 table2 deleted2 j.bytes
      ≡ undo_of parents mark (state ids numbers lengths spills (lists_with n staged table deleted)) j
      → undo_out u.code u.used u.standing
      (state_out u.counts.staged.count u.counts.table.count u.counts.deleted.count ids2 numbers2 lengths2 spills2 staged2 table2 deleted2)
      ≡ undo_call parents mark (state_in s sc t tc d dc ids numbers lengths spills staged table deleted) j
  undo_told parents mark j u e = rw (← (rw f at e))
