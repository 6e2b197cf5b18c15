-- A row that a spend reads by a summary is one of its parent's spills.
use Prim.Native.Nat.{ℕ, ◌≤◌}
use mathlib.Core.Path.{◌≡◌, refl}
use mathlib.Core.Bool.{Bool, true, false, cond, ◌&&◌}
use mathlib.Core.List.{List, [], ◌∷◌}
use native.Mathlib.Omega.{arith}
use lib.Dec.{ltb, leb}
use lib.IntN.{ℤ, nat_abs}
use lib.ListN.{take}
use Rattle.signed.specs.Sign.{is_negative}
use Rattle.entries.specs.Order.{order_ok}
use Rattle.entries.specs.Flip.{position}
use Rattle.index_types.specs.declared.ListCounts.{ListCounts}
use Rattle.index_types.specs.declared.HeadCounts.{HeadCounts}
use Rattle.buffer_core.specs.declared.Direction.{Direction}
use Rattle.std.specs.Prelude.{Ok, Err}
use Rattle.buffer_core.specs.Answers.{Low}
use Rattle.buffer_core.specs.Edition.{Edition}
use Rattle.buffer_core.specs.Spills.{Sources, sources}
use Rattle.buffer_core.specs.Flip.{search_in, spends, flip_ok}
use Rattle.summary_core.specs.Lines.{lines_ok}
use Rattle.summary_core.specs.Flip.{line_lead, line_look}
use Rattle.flip_search.proofs.SearchLaws.{search_most}
use Rattle.working_set.specs.Reads.{walk_reads}
use Rattle.working_summaries.specs.Reads.{passed_over, searched, line_reads, below_reads, in_lines_reads, flip_lines_core_reads, flip_lines_reads}
use Rattle.missing_outs.proofs.BoundLaws.{Below, none, more, wider, on_true, on_false, walk_below, head_below}

searched_below : (b : ℕ) (p : ℕ → Bool) (ns : List ℕ) → Below b ns → Below b (searched p ns)
unfolding searched
searched_below b p [] none = none
searched_below b p (n ∷ ns) (more h t) = by_passed (p n) (searched_below b p ns t)
  where
    by_passed : (a : Bool) → Below b (searched p ns) → Below b (cond a (searched p ns) (n ∷ searched p ns))
    by_passed true r = r
    by_passed false r = more h r

module _ (E : Edition) where
  lines_below : (w : Sources) (S : List ℕ) (target : ℕ) (d : Bool) (spills : ℕ) → Below spills (in_lines_reads E w S target d spills)
  unfolding in_lines_reads line_reads
  lines_below w S target d spills = by_low (search_in (line_lead S) target 0 spills) (λ l e. search_most (line_lead S) target 0 spills l _ (omega arith) refl e)
    where
      by_low : (x : Low) → ((l : ℕ) → x ≡ Ok l → l ≤ spills) → Below spills (below_reads E w S target d x)
      by_low (Ok low) h = searched_below spills (passed_over S target) (walk_reads (line_look E w S target d) low) (wider low spills _ (h low refl) (walk_below (line_look E w S target d) low))
      by_low (Err code) h = none

  pub flip_lines_reads_below : (parent : List ℕ) (h : HeadCounts) (c : ListCounts) (staged : List ℕ) (e : ListCounts) (table : List ℕ) (head : List ℤ) (lines : ℕ) (S : List ℕ) (d : Direction) (target : ℤ)
      → Below (nat_abs h.spills) (flip_lines_reads E d parent h target c staged e table head lines S)
  unfolding flip_lines_reads flip_lines_core_reads
  flip_lines_reads_below parent h c staged e table head lines S d target =
      on_true _ (flip_ok E h c staged e table head && lines_ok lines S) _
      (on_false _ (leb 9223372036854775808 (nat_abs target)) _
      (on_true _ (order_ok (take h.len head)) _
      (on_false _ (is_negative h.spills) _
      (on_false _ (ltb lines (nat_abs h.spills)) _
      (head_below _ (position (spends d) (nat_abs target) (take h.len head) 0 false) _
      (lines_below (sources parent staged c.count table e.count) S (nat_abs target) (spends d) (nat_abs h.spills)))))))
