-- Document 02, U8: "with a summary, comparison speaks of heads and rows that pass and a summary equal to the fresh one". There every call with the summary does
-- what it does without one; only an append that needs a new line where none is free is refused by 36.
use Prim.Native.Nat.{ℕ, ◌*◌, ◌<◌}
use mathlib.Core.Path.{◌≡◌, ap}
use mathlib.Core.Bool.{true, false}
use mathlib.Core.List.{List}
use lib.IntN.{ℤ, nat_abs}
use lib.ListN.{length}
use borrow.Author.Tests.{le-leb}
use Rattle.index_types.specs.declared.ListCounts.{ListCounts}
use Rattle.index_types.specs.declared.HeadCounts.{HeadCounts}
use Rattle.std.specs.Prelude.{Ok}
use Rattle.index_types.specs.Answers.{Summarized}
use Rattle.segment_id.specs.declared.Kind.TheVariants.{Box}
use Rattle.buffer_core.specs.declared.Direction.{Direction}
use Rattle.buffer_core.specs.Edition.{Edition}
use Rattle.buffer_core.specs.Spills.{Sources, sources}
use Rattle.buffer_core.specs.Append.{append_of}
use Rattle.buffer_core.specs.Pop.{Lists, pop_of}
use Rattle.buffer_core.specs.Flip.{flip_of}
use Rattle.buffer_core.specs.Tally.{tally_of}
use Rattle.summary_core.specs.Lines.{lines_ok, WithSummary, with_summary}
use Rattle.summary_core.specs.Making.{summary_of}
use Rattle.summary_core.specs.Moves.{no_free_line, append_lines_of, pop_lines_of}
use Rattle.summary_core.specs.Flip.{flip_lines_of}
use Rattle.summary_core.specs.Tally.{tally_lines_of}
use Rattle.summary_core.proofs.MakingLaws as Mk
use Rattle.summary_core.proofs.MakingLaws.{Passing}
use Rattle.summary_core.proofs.MoveLaws.{append_plain, pop_plain}
use Rattle.summary_core.proofs.SearchLaws.{Right, row_right, flip_plain}
use Rattle.summary_core.proofs.TallyLaws as Ta

module _ (E : Edition) (parent : List ℕ) (h : HeadCounts) (c : ListCounts) (staged : List ℕ) (e : ListCounts) (table : List ℕ) (head : List ℤ) (lines : ℕ) (S : List ℕ)
    (current : summary_of E parent h c staged e table head lines S ≡ with_summary (Ok tt) S) where
  abbrev w : Sources
  w = sources parent staged c.count table e.count

  passing : Passing E parent h c staged e table head lines S
  passing = Mk.passing E parent h c staged e table head lines S (ap (λ (x : WithSummary Summarized). x.result) current)

  long : lines_ok lines S ≡ true
  long = le-leb (lines * 5) (length S) passing.long

  right : (n : ℕ) → n < nat_abs h.spills → Right E w S (nat_abs h.spills) n
  right n g =
      let r = Mk.passes E parent h c staged e table head passing.checks n g in
      row_right E w S (nat_abs h.spills) n r.0 r.1 (Mk.current_row E parent h c staged e table head lines S passing current n r.0 g r.1)

  pub append_current : (number : ℤ) → no_free_line h number lines ≡ false
      → (append_lines_of E parent h number c head staged lines S).result ≡ append_of E Box parent h number c head staged
  append_current number free = append_plain E parent h lines S number c head staged long passing.room free

  pub pop_current : (b : Lists) → (pop_lines_of E parent h b head lines S).result ≡ pop_of E Box parent h b head
  pop_current b = pop_plain E parent h lines S b head long passing.room

  pub flip_current : (d : Direction) (target : ℤ) → (flip_lines_of E d parent h target c staged e table head lines S).result ≡ flip_of E d parent h target c staged e table head
  flip_current d target = flip_plain E parent h lines S long passing.room d target c staged e table head right

  pub tally_current : tally_lines_of h head lines S ≡ tally_of E parent h c staged e table head
  tally_current = Ta.tally_plain E parent h c staged e table head lines S passing (Mk.current_row E parent h c staged e table head lines S passing current)
