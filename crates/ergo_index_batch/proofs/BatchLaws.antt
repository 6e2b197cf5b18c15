-- The way out of the export of the batch: the outs hold what the run left, or are as they were where it was refused; and what a refusal leaves.
use Prim.Native.Nat.{ℕ}
use mathlib.Core.Path.{◌≡◌}
use mathlib.Core.Bool.{false}
use mathlib.Core.List.{List}
use lib.IntN.{ℤ}
use Rattle.buffer_core.specs.Edition.{edition_1}
use Rattle.buffer_core.specs.Pop.{lists}
use Rattle.index_types.specs.declared.SpillCounts.{SpillCounts}
use Rattle.call_steps.specs.State.{state, state_ok}
use Rattle.call_steps.specs.Steps.{spill_counts, lists_with}
use Rattle.runner.specs.declared.Progress.{Progress}
use Rattle.runner.specs.Run.{run, run_of}
use Rattle.ergo_index_batch.specs.declared.Outs.{Outs}
use Rattle.ergo_index_lists.specs.Lists.{list_of}
use Rattle.batch_answers.specs.Answers.{code_of, kept}
use Rattle.ergo_index_batch.specs.Batch.{outs_of, run_out, run_call}

module _ (p : Progress) (at made end : ℕ) where
  abbrev outs : (c x y z : ℕ) → Outs
  outs c x y z =
      record { code = c; at = x; made = y; end = z; staged = p.counts.staged.count; table = p.counts.table.count; deleted = p.counts.deleted.count }

  pub outs_told : (c : ℕ) → c ≡ code_of p.end → (x : ℕ) → x ≡ kept p.end at p.at → (y : ℕ) → y ≡ kept p.end made p.made → (z : ℕ) → z ≡ kept p.end end p.end
      → outs c x y z ≡ outs_of p at made end
  outs_told c f x g y h z i = rw (f, g, h, i)

-- n is the counts that the runner was given, q what goes to the outs
pub run_told : (input : List ℕ) (parents : ℕ) (ids : List ℕ) (numbers : List ℤ) (lengths : List ℕ) (spills : List ℤ) (s sc : ℕ) (staged : List ℕ) (t tc : ℕ) (table : List ℕ) (d dc : ℕ)
    (deleted answers : List ℕ) (popped : List ℤ) (at made end : ℕ) (n : SpillCounts) → n ≡ spill_counts (list_of s sc) (list_of t tc) (list_of d dc)
    → (p : Progress) (ids2 : List ℕ) (numbers2 : List ℤ) (lengths2 : List ℕ) (spills2 : List ℤ) (staged2 table2 deleted2 answers2 : List ℕ) (popped2 : List ℤ)
    → run p ids2 numbers2 lengths2 spills2 staged2 table2 deleted2 answers2 popped2
    ≡ run_of edition_1 parents input (state ids numbers lengths spills (lists_with n staged table deleted)) answers popped
    → (q : Outs) → q ≡ outs_of p at made end
    → run_out q.code q.at q.made q.end q.staged q.table q.deleted ids2 numbers2 lengths2 spills2 staged2 table2 deleted2 answers2 popped2
    ≡ run_call input parents ids numbers lengths spills s sc staged t tc table d dc deleted answers popped at made end
run_told input parents ids numbers lengths spills s sc staged t tc table d dc deleted answers popped at made end n f p ids2 numbers2 lengths2 spills2 staged2 table2 deleted2 answers2 popped2 e q g =
    rw (← (rw f at e), g)

-- a state that is refused: the result is 25, and every out and every buffer is as it was
pub state_refused : (input : List ℕ) (parents : ℕ) (ids : List ℕ) (numbers : List ℤ) (lengths : List ℕ) (spills : List ℤ) (s sc : ℕ) (staged : List ℕ) (t tc : ℕ) (table : List ℕ) (d dc : ℕ)
    (deleted answers : List ℕ) (popped : List ℤ) (at made end : ℕ)
    → state_ok edition_1 parents (state ids numbers lengths spills (lists (list_of s sc) staged (list_of t tc) table (list_of d dc) deleted)) ≡ false
    → run_call input parents ids numbers lengths spills s sc staged t tc table d dc deleted answers popped at made end
    ≡ run_out 25 at made end s t d ids numbers lengths spills staged table deleted answers popped
unfolding run_of
state_refused input parents ids numbers lengths spills s sc staged t tc table d dc deleted answers popped at made end e = rw e
