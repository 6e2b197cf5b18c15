-- One law for each way out of a call with a summary: 25, or what passed goes on.
use Prim.Native.Nat.{ℕ, ◌≤◌, ◌*◌}
use mathlib.Core.Path.{◌≡◌}
use mathlib.Core.Bool.{Bool, true, false, ◌&&◌}
use mathlib.Core.List.{List}
use lib.IntN.{ℤ}
use lib.ListN.{length, take}
use Rattle.index_types.specs.declared.ListCounts.{ListCounts}
use Rattle.index_types.specs.declared.HeadCounts.{HeadCounts}
use Rattle.index_types.specs.declared.RowEdition.{RowEdition}
use Rattle.std.specs.Prelude.{Ok, Err}
use Rattle.index_types.specs.Answers.{Popped}
use Rattle.index_types.specs.Answers.{Summarized}
use Rattle.index_types.specs.Answers.{Tallied}
use Rattle.records.proofs.CheckLaws.{and_left}
use Rattle.buffer_core.specs.declared.Direction.{Direction}
use Rattle.buffer_core.specs.Edition.{edition_of}
use Rattle.buffer_core.specs.Spills.{sources, head_ok}
use Rattle.buffer_core.specs.Append.{Appending, appending, append_ok}
use Rattle.buffer_core.specs.Pop.{Popping, popping, Lists, pop_ok}
use Rattle.buffer_core.specs.Flip.{Flipping, flipping, flip_ok}
use Rattle.append_core.specs.Internal.{AppendReady}
use Rattle.append_core.proofs.KeepLaws.{append_ready}
use Rattle.pop_row.specs.Internal.{PopReady}
use Rattle.pop_core.proofs.KeepLaws.{pop_ready}
use Rattle.flip_core.specs.Internal.{FlipReady}
use Rattle.flip_core.proofs.KeepLaws.{flip_facts}
use Rattle.buffer_core.proofs.HeadLaws.{head_facts}
use Rattle.summary_core.specs.Lines.{lines_ok, WithSummary, with_summary}
use Rattle.summary_core.specs.Making.{summary_core, summary_of}
use Rattle.summary_core.specs.Moves.{append_lines, append_lines_of, pop_lines, pop_lines_of}
use Rattle.summary_core.specs.Flip.{flip_lines_core, flip_lines_of}
use Rattle.summary_core.specs.Tally.{tally_lines, tally_lines_of}
use Rattle.summary_checks.proofs.CheckLaws.{room}

module _ (lines : ℕ) (S : List ℕ) where
  -- ---- append

  module _ (v : RowEdition) (parent : List ℕ) (h : HeadCounts) (number : ℤ) (c : ListCounts) (head : List ℤ) (staged : List ℕ) where
    abbrev append_passes : Bool
    append_passes = append_ok (edition_of v) h c head staged && lines_ok lines S

    pub append_25 : append_passes ≡ false → with_summary (appending (Err 25) head staged) S ≡ append_lines_of (edition_of v) parent h number c head staged lines S
    unfolding append_lines_of
    append_25 e = rw e

    pub append_goes : append_passes ≡ true → (o : WithSummary Appending) → o ≡ append_lines (edition_of v) parent h number c head staged lines S
        → o ≡ append_lines_of (edition_of v) parent h number c head staged lines S
    unfolding append_lines_of
    append_goes e o d = rw e d

    pub append_asks : append_passes ≡ true → AppendReady v h c head staged × (lines * 5 ≤ length S)
    append_asks e = (append_ready v h c head staged (and_left (append_ok (edition_of v) h c head staged) (lines_ok lines S) e), room (append_ok (edition_of v) h c head staged) lines S e)

  -- ---- pop

  module _ (v : RowEdition) (parent : List ℕ) (h : HeadCounts) (b : Lists) (head : List ℤ) where
    abbrev pop_passes : Bool
    pop_passes = pop_ok (edition_of v) h b head && lines_ok lines S

    pub pop_25 : pop_passes ≡ false → with_summary (popping (Err 25) head b.staged b.deleted) S ≡ pop_lines_of (edition_of v) parent h b head lines S
    unfolding pop_lines_of
    pop_25 e = rw e

    pub pop_goes : pop_passes ≡ true → (o : WithSummary Popping) → o ≡ pop_lines (edition_of v) parent h b head lines S → o ≡ pop_lines_of (edition_of v) parent h b head lines S
    unfolding pop_lines_of
    pop_goes e o d = rw e d

    pub pop_asks : pop_passes ≡ true → (h.len ≤ 512) × PopReady v b head × (lines * 5 ≤ length S)
    pop_asks e =
        let r = pop_ready v h b head (and_left (pop_ok (edition_of v) h b head) (lines_ok lines S) e) in
        (r.0, r.1, room (pop_ok (edition_of v) h b head) lines S e)

  -- ---- spend, unspend, and a summary made afresh

  module _ (v : RowEdition) (parent : List ℕ) (h : HeadCounts) (c : ListCounts) (staged : List ℕ) (e : ListCounts) (table : List ℕ) (head : List ℤ) where
    abbrev flip_passes : Bool
    flip_passes = flip_ok (edition_of v) h c staged e table head && lines_ok lines S

    pub flip_asks : flip_passes ≡ true → FlipReady v h c staged e table head × (lines * 5 ≤ length S)
    flip_asks q =
        (flip_facts v h c staged e table head (and_left (flip_ok (edition_of v) h c staged e table head) (lines_ok lines S) q), room (flip_ok (edition_of v) h c staged e table head) lines S q)

    module _ (d : Direction) (target : ℤ) where
      pub flip_25 : flip_passes ≡ false → with_summary (flipping (Err 25) head staged) S ≡ flip_lines_of (edition_of v) d parent h target c staged e table head lines S
      unfolding flip_lines_of
      flip_25 q = rw q

      pub flip_goes : flip_passes ≡ true → (o : WithSummary Flipping) → o ≡ flip_lines_core (edition_of v) d parent h target c staged e table head lines S
          → o ≡ flip_lines_of (edition_of v) d parent h target c staged e table head lines S
      unfolding flip_lines_of
      flip_goes q o f = rw q f

    pub made_25 : flip_passes ≡ false → with_summary (Err 25) S ≡ summary_of (edition_of v) parent h c staged e table head lines S
    unfolding summary_of
    made_25 q = rw q

    pub made_goes : flip_passes ≡ true → (o : WithSummary Summarized)
        → o ≡ summary_core (edition_of v) (sources parent staged c.count table e.count) h.spills (take h.len head) lines S
        → o ≡ summary_of (edition_of v) parent h c staged e table head lines S
    unfolding summary_of
    made_goes q o f = rw q f

  -- ---- tally

  module _ (h : HeadCounts) (head : List ℤ) where
    abbrev tally_passes : Bool
    tally_passes = head_ok h head && lines_ok lines S

    pub tally_25 : tally_passes ≡ false → Err 25 ≡ tally_lines_of h head lines S
    unfolding tally_lines_of
    tally_25 e = rw e

    pub tally_goes : tally_passes ≡ true → (r : Tallied) → r ≡ tally_lines h.spills (take h.len head) lines S → r ≡ tally_lines_of h head lines S
    unfolding tally_lines_of
    tally_goes e r d = rw e d

    pub tally_asks : tally_passes ≡ true → (h.len ≤ 512) × (512 ≤ length head) × (lines * 5 ≤ length S)
    tally_asks e = let f = head_facts h head (and_left (head_ok h head) (lines_ok lines S) e) in (f.few, f.long, room (head_ok h head) lines S e)

-- the popped number, as the number of a box
pub same_number : (r : Popped) (n : ℤ) (h : HeadCounts) (c d : ListCounts) (head : List ℤ) (staged deleted S : List ℕ) (o : WithSummary Popping) → with_summary (popping r head staged deleted) S ≡ o
    → r ≡ Ok (n, h, c, d) → (m : ℤ) → m ≡ n → with_summary (popping (Ok (m, h, c, d)) head staged deleted) S ≡ o
same_number r n h c d head staged deleted S o e f m g = rw (g, ← f) e
