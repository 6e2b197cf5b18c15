-- Laws of a pop with a summary: what an accepted pop from an empty head tells, and one law for each way out.
use Prim.Native.Nat.{ℕ, ◌-◌, ◌≤◌, ◌<◌}
use mathlib.Core.Path.{◌≡◌, refl, sym, ap, ◌∙◌}
use mathlib.Core.Bool.{Bool, true, false, not, cond, ◌&&◌}
use mathlib.Core.List.{List}
use native.Mathlib.Omega.{arith}
use lib.Dec.{ltb, eqb}
use lib.IntN.{ℤ, nat_abs}
use borrow.Author.Tests.{lt-ltb, le-ltb, ltb-false, eqb-false}
use Rattle.signed.specs.Sign.{is_negative}
use Rattle.index_types.specs.declared.HeadCounts.{HeadCounts}
use Rattle.std.specs.Prelude.{Ok, Err}
use Rattle.index_types.specs.Answers.{Popped}
use Rattle.segment_id.specs.declared.Kind.TheVariants.{Box}
use Rattle.buffer_core.specs.Edition.{Edition}
use Rattle.buffer_core.specs.Append.{counts_of}
use Rattle.buffer_core.specs.Pop.{Popping, popping, Lists, last_of, without_last, unspill_of, pop_core}
use Rattle.spill_rows.proofs.CheckedLaws.{nope}
use Rattle.summary_core.specs.Lines.{no_line, put_line, WithSummary, with_summary}
use Rattle.summary_core.specs.Moves.{too_few_lines, summary_popped, after_pop, pop_lines}
use Rattle.summary_moves.specs.Internal.{is_number}

-- ---- a pop from an empty head

module _ (E : Edition) (parent : List ℕ) (h : HeadCounts) (b : Lists) (head : List ℤ) where
  abbrev plain : Popping
  plain = pop_core E Box parent h b head

  -- an accepted one vacates a line that the summary has
  pub record Vacates (lines : ℕ) : Type 0 where
    pub counted : is_negative h.spills ≡ false
    pub some : 0 < nat_abs h.spills
    pub inside : nat_abs h.spills ≤ lines

  pub number_told : (o : Popping) → o ≡ plain → h.len ≤ 0 → (lines : ℕ) → too_few_lines h lines ≡ false → (d : Bool) → d ≡ is_number o.answer → d ≡ true → Vacates lines
  unfolding pop_core
  number_told o e k lines enough d q t =
      by_tests (is_negative h.spills) refl (ltb 0 h.len) (le-ltb 0 h.len k) (eqb (nat_abs h.spills) 0) refl (ltb lines (nat_abs h.spills)) refl
      (ap (λ (x : Popping). is_number x.answer) (sym e) ∙ sym q ∙ t) enough
    where
      by_tests : (a : Bool) → is_negative h.spills ≡ a → (u : Bool) → u ≡ false → (z : Bool) → eqb (nat_abs h.spills) 0 ≡ z → (f : Bool) → ltb lines (nat_abs h.spills) ≡ f
          → is_number (cond a (popping (Err 11) head b.staged b.deleted) (cond u
          (popping (Ok (last_of h.len head, counts_of (h.len - 1) h.spills, b.staged_counts, b.deleted_counts)) (without_last h.len head) b.staged b.deleted)
          (cond z (popping (Err 19) head b.staged b.deleted) (unspill_of E Box parent (nat_abs h.spills - 1) b head)))).answer ≡ true
          → (not a && f) ≡ false → Vacates lines
      by_tests true p u w z y f r s t = nope (cc)
      by_tests false p true w z y f r s t = nope (cc)
      by_tests false p false w true y f r s t = nope (cc)
      by_tests false p false w false y true r s t = nope (cc)
      by_tests false p false w false y false r s t =
          record {
            counted = p;
            some = let n = eqb-false (nat_abs h.spills) 0 y in omega arith;
            inside = omega (arith, ltb-false lines (nat_abs h.spills) r);
          }

  -- d is what a local holds of whether it was accepted
  pub empty_after : (o : Popping) → o ≡ plain → h.len ≤ 0 → (d : Bool) → d ≡ is_number o.answer → (S S' : List ℕ)
      → S' ≡ cond d (put_line (nat_abs h.spills - 1) no_line S) S → with_summary o S' ≡ after_pop plain h S
  empty_after o e k d q S S' w = ap (with_summary o) (w ∙ by_answer o.answer q) ∙ ap (λ (x : Popping). after_pop x h S) e
    where
      by_answer : (a : Popped) → d ≡ is_number a → cond d (put_line (nat_abs h.spills - 1) no_line S) S ≡ summary_popped a h S
      by_answer (Ok (z, h', c', d')) q = rw (q, le-ltb 0 h.len k)
      by_answer (Err code) q = rw q

  -- ---- the ways out

  module _ (lines : ℕ) (S : List ℕ) where
    pub pop_36 : too_few_lines h lines ≡ true → with_summary (popping (Err 36) head b.staged b.deleted) S ≡ pop_lines E parent h b head lines S
    unfolding pop_lines
    pop_36 e = rw e

    module _ (e : too_few_lines h lines ≡ false) where
      pub pop_last : 0 < h.len → (o : Popping) → o ≡ plain → with_summary o S ≡ pop_lines E parent h b head lines S
      unfolding pop_lines
      pop_last k o q = rw e (ap (with_summary o) (by_answer o.answer) ∙ ap (λ (x : Popping). after_pop x h S) q)
        where
          by_answer : (a : Popped) → S ≡ summary_popped a h S
          by_answer (Ok (z, h', c', d')) = rw (lt-ltb 0 h.len k)
          by_answer (Err code) = refl

      pub pop_row : (x : WithSummary Popping) → x ≡ after_pop plain h S → x ≡ pop_lines E parent h b head lines S
      unfolding pop_lines
      pop_row x q = rw e q
