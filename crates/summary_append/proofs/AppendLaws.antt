-- Laws of an append with a summary: what an accepted append to a full head tells, and one law for each way out.
use Prim.Native.Nat.{ℕ, ◌+◌, ◌≤◌, ◌<◌}
use mathlib.Core.Path.{◌≡◌, refl, sym, ap, ◌∙◌}
use mathlib.Core.Bool.{Bool, true, false, not, cond, ◌&&◌, ◌||◌}
use mathlib.Core.List.{List}
use native.Mathlib.Omega.{arith}
use lib.Dec.{ltb, leb}
use lib.IntN.{ℤ, pos, nat_abs}
use lib.ListN.{take, set}
use borrow.Author.Tests.{lt-ltb, le-ltb, leb-false}
use Rattle.signed.specs.Sign.{is_negative}
use Rattle.index_types.specs.declared.ListCounts.{ListCounts}
use Rattle.index_types.specs.declared.HeadCounts.{HeadCounts}
use Rattle.std.specs.Prelude.{Ok, Err}
use Rattle.index_types.specs.Answers.{Appended}
use Rattle.records.specs.Changes.{full_for}
use Rattle.segment_id.specs.declared.Kind.TheVariants.{Box}
use Rattle.buffer_core.specs.Edition.{Edition}
use Rattle.buffer_core.specs.Append.{Appending, appending, counts_of, spilled, spill_of, append_core}
use Rattle.spill_rows.proofs.CheckedLaws.{nope}
use Rattle.summary_core.specs.Lines.{line_of, put_line, WithSummary, with_summary}
use Rattle.summary_core.specs.Moves.{too_few_lines, no_free_line, summary_appended, after_append, append_lines}
use Rattle.summary_moves.specs.Internal.{is_done}
use Rattle.summary_moves.proofs.MoveLaws.{missing}

-- ---- the tests of 36

or_right : (a b : Bool) → (a || b) ≡ false → b ≡ false
or_right true b e = nope (cc)
or_right false b e = e

pub free_line : (h : HeadCounts) (number : ℤ) (lines : ℕ) → missing h number lines ≡ false → no_free_line h number lines ≡ false
free_line h number lines e = or_right (too_few_lines h lines) (no_free_line h number lines) e

-- ---- an append to a full head

module _ (E : Edition) (parent : List ℕ) (h : HeadCounts) (number : ℤ) (c : ListCounts) (head : List ℤ) (staged : List ℕ) where
  abbrev plain : Appending
  plain = append_core E Box parent h number c head staged

  -- an accepted one has a line for its row
  pub done_told : (o : Appending) → o ≡ plain → 512 ≤ h.len → (lines : ℕ) → no_free_line h number lines ≡ false → (d : Bool) → d ≡ is_done o.answer → d ≡ true
      → (is_negative h.spills ≡ false) × (nat_abs h.spills < lines)
  unfolding append_core spill_of spilled
  done_told o e k lines free d q t =
      by_tests (is_negative h.spills) refl (is_negative number) (ltb h.len 512) (le-ltb h.len 512 k) (leb 2147483647 (nat_abs h.spills))
      (full_for E.size c (E.key Box parent (pos (nat_abs h.spills))) staged) (leb lines (nat_abs h.spills)) refl
      (ap (λ (x : Appending). is_done x.answer) (sym e) ∙ sym q ∙ t) free
    where
      by_tests : (a : Bool) → is_negative h.spills ≡ a → (b u : Bool) → u ≡ false → (l g f : Bool) → leb lines (nat_abs h.spills) ≡ f
          → is_done (cond a (appending (Err 11) head staged) (cond b (appending (Err 17) head staged)
          (cond u (appending (Ok (counts_of (h.len + 1) h.spills, c)) (set head h.len number) staged)
          (cond l (appending (Err 18) head staged) (cond g (appending (Err 16) head staged)
          (spilled E Box (E.key Box parent (pos (nat_abs h.spills))) parent (nat_abs h.spills) number c head staged)))))).answer ≡ true
          → (not a && (not b && (not u && (not l && f)))) ≡ false → (is_negative h.spills ≡ false) × (nat_abs h.spills < lines)
      by_tests true p b u w l g f r s t = nope (cc)
      by_tests false p true u w l g f r s t = nope (cc)
      by_tests false p false true w l g f r s t = nope (cc)
      by_tests false p false false w true g f r s t = nope (cc)
      by_tests false p false false w false true f r s t = nope (cc)
      by_tests false p false false w false false true r s t = nope (cc)
      by_tests false p false false w false false false r s t = (p, omega (arith, leb-false lines (nat_abs h.spills) r))

  -- d is what a local holds of whether it was accepted, l of the line
  pub full_after : (o : Appending) → o ≡ plain → 512 ≤ h.len → (d : Bool) → d ≡ is_done o.answer → (l : List ℕ) → l ≡ line_of (take 512 head) → (S S' : List ℕ)
      → S' ≡ cond d (put_line (nat_abs h.spills) l S) S → with_summary o S' ≡ after_append plain h head S
  full_after o e k d q l m S S' w = ap (with_summary o) (w ∙ by_answer o.answer q) ∙ ap (λ (x : Appending). after_append x h head S) e
    where
      by_answer : (a : Appended) → d ≡ is_done a → cond d (put_line (nat_abs h.spills) l S) S ≡ summary_appended a h head S
      by_answer (Ok (h', c')) q = rw (q, le-ltb h.len 512 k) (ap (λ (x : List ℕ). put_line (nat_abs h.spills) x S) m)
      by_answer (Err code) q = rw q

  -- ---- the ways out

  module _ (lines : ℕ) (S : List ℕ) where
    pub append_36 : missing h number lines ≡ true → with_summary (appending (Err 36) head staged) S ≡ append_lines E parent h number c head staged lines S
    unfolding append_lines
    append_36 e = rw e

    module _ (e : missing h number lines ≡ false) where
      pub append_end : h.len < 512 → (o : Appending) → o ≡ plain → with_summary o S ≡ append_lines E parent h number c head staged lines S
      unfolding append_lines
      append_end k o q = rw e (ap (with_summary o) (by_answer o.answer) ∙ ap (λ (x : Appending). after_append x h head S) q)
        where
          by_answer : (a : Appended) → S ≡ summary_appended a h head S
          by_answer (Ok (h', c')) = rw (lt-ltb h.len 512 k)
          by_answer (Err code) = refl

      pub append_full : (x : WithSummary Appending) → x ≡ after_append plain h head S → x ≡ append_lines E parent h number c head staged lines S
      unfolding append_lines
      append_full x q = rw e q
