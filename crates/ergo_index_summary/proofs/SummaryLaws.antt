-- What the outs hold beside the summary, where a call with a summary left its answer and its lists.
use Prim.Native.Nat.{ℕ}
use mathlib.Core.Path.{◌≡◌}
use mathlib.Core.List.{List}
use Rattle.std.specs.Prelude.{Ok, Err}
use Rattle.index_types.specs.Answers.{Summarized}
use Rattle.summary_core.specs.Lines.{WithSummary, with_summary}
use Rattle.ergo_index_summary.specs.Summary.{exported, summarized_code}

-- a and S are what the public call left, b what the outs hold of a
pub told_beside : {A B : Type 0} (out : A → B) (a : A) (S : List ℕ) (o : WithSummary A) → with_summary a S ≡ o → (b : B) → b ≡ out a → with_summary b S ≡ exported out o
told_beside out a S o e b f = rw (f, ← e)

-- ---- a summary made afresh: accepted or refused
module _ (r : Summarized) (S : List ℕ) (o : WithSummary Summarized) (e : with_summary r S ≡ o) where
  pub made_done : r ≡ (Ok tt) → with_summary 0 S ≡ exported summarized_code o
  made_done f = told_beside summarized_code r S o e 0 (rw f)

  pub made_refused : (code : ℕ) → r ≡ Err code → with_summary code S ≡ exported summarized_code o
  made_refused code f = told_beside summarized_code r S o e code (rw f)
