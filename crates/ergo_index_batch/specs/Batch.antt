-- What the export of the batch leaves: the code, and every out and borrowed list at exit, from the definition of the run.
use Rattle.std.specs.Prelude.{ℕ, List, ℤ}
use Rattle.buffer_core.specs.Edition.{edition_1}
use Rattle.buffer_core.specs.Pop.{lists}
use Rattle.call_steps.specs.State.{state}
use Rattle.runner.specs.declared.Progress.{Progress}
use Rattle.runner.specs.Run.{Run, run_of}
use Rattle.ergo_index_batch.specs.declared.Outs.{Outs}
use Rattle.ergo_index_lists.specs.Lists.{list_of}
use Rattle.batch_answers.specs.Answers.{code_of, kept}

-- the code and the outs that are numbers, after a run that made this progress; three of them were at, made and end
abbrev pub outs_of : Progress → (at made end : ℕ) → Outs
outs_of p at made end =
    record {
      code = code_of p.end;
      at = kept p.end at p.at;
      made = kept p.end made p.made;
      end = kept p.end end p.end;
      staged = p.counts.staged.count;
      table = p.counts.table.count;
      deleted = p.counts.deleted.count;
    }

-- the code, the next byte, the calls made, how reading ended, the counts of the three lists, and all that is borrowed
pub record RunOut : Type 0 where
  pub code : ℕ
  pub at : ℕ
  pub made : ℕ
  pub end : ℕ
  pub staged_count : ℕ
  pub table_count : ℕ
  pub deleted_count : ℕ
  pub ids : List ℕ
  pub numbers : List ℤ
  pub lengths : List ℕ
  pub spills : List ℤ
  pub staged : List ℕ
  pub table : List ℕ
  pub deleted : List ℕ
  pub answers : List ℕ
  pub popped : List ℤ

abbrev pub run_out : (code at made end s t d : ℕ) → (ids : List ℕ) → (numbers : List ℤ) → (lengths : List ℕ) → (spills : List ℤ) → (staged table deleted answers : List ℕ) → (popped : List ℤ)
    → RunOut
run_out code at made end s t d ids numbers lengths spills staged table deleted answers popped =
    record {
      code = code;
      at = at;
      made = made;
      end = end;
      staged_count = s;
      table_count = t;
      deleted_count = d;
      ids = ids;
      numbers = numbers;
      lengths = lengths;
      spills = spills;
      staged = staged;
      table = table;
      deleted = deleted;
      answers = answers;
      popped = popped;
    }

abbrev pub run_export : (at made end : ℕ) → Run → RunOut
run_export at made end r =
    run_out (code_of r.end) (kept r.end at r.at) (kept r.end made r.made) (kept r.end end r.end)
    r.now.lists.staged_counts.count r.now.lists.table_counts.count r.now.lists.deleted_counts.count
    r.now.ids r.now.numbers r.now.lengths r.now.spills r.now.lists.staged r.now.lists.table r.now.lists.deleted
    r.answers r.popped

abbrev pub run_call : (input : List ℕ) (parents : ℕ) (ids : List ℕ) (numbers : List ℤ) (lengths : List ℕ) (spills : List ℤ) → (s s_capacity : ℕ) → List ℕ → (t t_capacity : ℕ) → List ℕ
    → (d d_capacity : ℕ) → List ℕ → (answers : List ℕ) (popped : List ℤ) (at made end : ℕ) → RunOut
run_call input parents ids numbers lengths spills s sc staged t tc table d dc deleted answers popped at made end =
    run_export at made end
    (run_of edition_1 parents input (state ids numbers lengths spills (lists (list_of s sc) staged (list_of t tc) table (list_of d dc) deleted)) answers popped)
