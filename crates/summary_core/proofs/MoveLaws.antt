-- Box appends and box pops with a summary: what an accepted one was, that with lines enough they do what they do without a summary, and that a refused one
-- leaves what it borrows as it was.
use Prim.Native.Nat.{ℕ, ◌-◌, ◌≤◌, ◌<◌}
use mathlib.Core.Path.{◌≡◌, refl, ap, ◌∙◌}
use mathlib.Core.Logic.{◌⊎◌, inl, inr}
use mathlib.Core.Bool.{Bool, true, false, cond, not, ◌&&◌, ◌||◌}
use mathlib.Core.List.{List}
use native.Mathlib.Omega.{arith}
use lib.Dec.{ltb, leb}
use lib.IntN.{ℤ, nat_abs}
use lib.ListN.{take}
use borrow.Author.Tests.{leb-false, lt-leb, le-ltb}
use Rattle.index_types.specs.declared.ListCounts.{ListCounts}
use Rattle.index_types.specs.declared.HeadCounts.{HeadCounts}
use Rattle.std.specs.Prelude.{Ok, Err}
use Rattle.index_types.specs.Answers.{Appended}
use Rattle.index_types.specs.Answers.{Popped}
use Rattle.signed.specs.Sign.{is_negative}
use Rattle.segment_id.specs.declared.Kind.TheVariants.{Box}
use Rattle.buffer_core.specs.Edition.{Edition}
use Rattle.buffer_core.specs.Append.{Appending, appending, append_core, append_ok, append_of}
use Rattle.buffer_core.specs.Pop.{Popping, popping, Lists, pop_core, pop_ok, pop_of}
use Rattle.buffer_core.proofs.RefusedLaws.{both, append_core_same, pop_core_same}
use Rattle.summary_core.specs.Lines.{line_of, no_line, put_line, lines_ok, WithSummary, with_summary}
use Rattle.summary_core.specs.Moves.{too_few_lines, no_free_line, summary_appended, after_append, append_lines, append_lines_of, summary_popped, after_pop, pop_lines, pop_lines_of}
use Rattle.summary_core.proofs.AcceptedLaws.{IsAppended, AppendCase, grew, spilt, core_took, IsPopped}

and_false : (x : Bool) → x && false ≡ false
and_false true = refl
and_false false = refl

or_right : (x y : Bool) → x || y ≡ false → y ≡ false
or_right true y e = let z : ◌≡◌ {A = ℕ} 0 1 = cc in absurd (omega arith)
or_right false y e = e

-- a line that no spill has is free
pub free_line : (h : HeadCounts) (n : ℤ) (lines : ℕ) → nat_abs h.spills < lines → no_free_line h n lines ≡ false
free_line h n lines g =
    let a = not (is_negative h.spills) in
    let b = not (is_negative n) in
    let c = not (ltb h.len 512) in
    let d = not (leb 2147483647 (nat_abs h.spills)) in
    ap (λ (x : Bool). a && (b && (c && (d && x)))) (lt-leb lines (nat_abs h.spills) g)
    ∙ ap (λ (x : Bool). a && (b && (c && x))) (and_false d) ∙ ap (λ (x : Bool). a && (b && x)) (and_false c) ∙ ap (λ (x : Bool). a && x) (and_false b) ∙ and_false a

module _ (E : Edition) (parent : List ℕ) (h : HeadCounts) (lines : ℕ) (S : List ℕ) where
  -- where there is a line for every spill, 36 comes only for a new one
  enough : nat_abs h.spills ≤ lines → too_few_lines h lines ≡ false
  enough room = ap (λ (x : Bool). not (is_negative h.spills) && x) (le-ltb lines (nat_abs h.spills) room) ∙ and_false (not (is_negative h.spills))

  -- ---- append
  module _ (number : ℤ) (c : ListCounts) (head : List ℤ) (staged : List ℕ) where
    abbrev appended_lines : WithSummary Appending
    appended_lines = append_lines_of E parent h number c head staged lines S

    abbrev core : Appending
    core = append_core E Box parent h number c head staged

    abbrev no_append : ℕ → WithSummary Appending
    no_append code = with_summary (appending (Err code) head staged) S

    core_is : append_ok E h c head staged ≡ true → core ≡ append_of E Box parent h number c head staged
    unfolding append_of
    core_is a = rw a

    -- the append without a summary, and the line of the new row where there is one
    pub record AppendLinesTook (o : WithSummary Appending) : Type 0 where
      pub plain : o.result ≡ append_of E Box parent h number c head staged
      pub summary : o.summary ≡ cond (ltb h.len 512) S (put_line (nat_abs h.spills) (line_of (take 512 head)) S)
      pub free : ltb h.len 512 ≡ false → nat_abs h.spills < lines

    made_line : (a : Appended) → IsAppended a → summary_appended a h head S ≡ cond (ltb h.len 512) S (put_line (nat_abs h.spills) (line_of (take 512 head)) S)
    made_line (Ok (h', c')) x = refl
    made_line (Err code) x = absurd x

    -- the second 36 was not met
    line_free : too_few_lines h lines || no_free_line h number lines ≡ false → is_negative h.spills ≡ false → is_negative number ≡ false
        → (o : Appending) → AppendCase E Box parent h number c head staged o → ltb h.len 512 ≡ false → nat_abs h.spills < lines
    line_free t p q o (grew r e) s = let z : ◌≡◌ {A = ℕ} 0 1 = cc in absurd (omega arith)
    line_free t p q o (spilt r u f e) s =
        let g = lt-leb 2147483647 (nat_abs h.spills) u in
        let y = or_right (too_few_lines h lines) (no_free_line h number lines) t in
        leb-false lines (nat_abs h.spills) (rw (p, q, r, g) at y)

    pub append_lines_took : IsAppended appended_lines.result.answer → AppendLinesTook appended_lines
    unfolding append_lines_of append_lines
    append_lines_took = by_ok (append_ok E h c head staged) refl (lines_ok lines S) (too_few_lines h lines || no_free_line h number lines) refl
      where
        by_ok : (x : Bool) → append_ok E h c head staged ≡ x → (y t : Bool) → too_few_lines h lines || no_free_line h number lines ≡ t
            → IsAppended (cond (x && y) (cond t (no_append 36) (after_append core h head S)) (no_append 25)).result.answer
            → AppendLinesTook (cond (x && y) (cond t (no_append 36) (after_append core h head S)) (no_append 25))
        by_ok false a y t e x = absurd x
        by_ok true a false t e x = absurd x
        by_ok true a true true e x = absurd x
        by_ok true a true false e x =
            let k = core_took E Box parent h number c head staged a x in
            record { plain = core_is a; summary = made_line core.answer x; free = line_free e k.not_below k.positive core k.kind_of_append }

    -- the append without a summary, or 36
    module _ (long : lines_ok lines S ≡ true) (room : nat_abs h.spills ≤ lines) where
      by_free : (t : Bool) → no_free_line h number lines ≡ t
          → appended_lines.result ≡ cond (append_ok E h c head staged) (cond t (appending (Err 36) head staged) core) (appending (Err 25) head staged)
      unfolding append_lines_of append_lines
      by_free t e = by_ok (append_ok E h c head staged)
        where
          by_test : (x : Bool) → (cond x (no_append 36) (after_append core h head S)).result ≡ cond x (appending (Err 36) head staged) core
          by_test true = refl
          by_test false = refl

          by_ok : (x : Bool) → (cond (x && lines_ok lines S) (append_lines E parent h number c head staged lines S) (no_append 25)).result
              ≡ cond x (cond t (appending (Err 36) head staged) core) (appending (Err 25) head staged)
          by_ok true = rw (long, enough room, e) (by_test t)
          by_ok false = refl

      pub append_plain : no_free_line h number lines ≡ false → appended_lines.result ≡ append_of E Box parent h number c head staged
      unfolding append_of
      append_plain e = by_free false e

      pub append_plain_or_36 : (appended_lines.result ≡ append_of E Box parent h number c head staged) ⊎ (appended_lines.result.answer ≡ Err 36)
      unfolding append_of
      append_plain_or_36 = by_test (no_free_line h number lines) refl
        where
          by_ok : (x : Bool) → append_ok E h c head staged ≡ x
              → appended_lines.result ≡ cond x (appending (Err 36) head staged) (appending (Err 25) head staged)
              → (appended_lines.result ≡ append_of E Box parent h number c head staged) ⊎ (appended_lines.result.answer ≡ Err 36)
          by_ok true a q = inr (ap (λ (o : Appending). o.answer) q)
          by_ok false a q = inl (q ∙ rw a)

          by_test : (t : Bool) → no_free_line h number lines ≡ t
              → (appended_lines.result ≡ append_of E Box parent h number c head staged) ⊎ (appended_lines.result.answer ≡ Err 36)
          by_test true e = by_ok (append_ok E h c head staged) refl (by_free true e)
          by_test false e = inl (append_plain e)

    -- a refused append
    abbrev pub AppendLinesSame : WithSummary Appending → Type 0
    AppendLinesSame o = (code : ℕ) → o.result.answer ≡ Err code → (o.result.head ≡ head) × (o.result.staged ≡ staged) × (o.summary ≡ S)

    pub append_lines_same : AppendLinesSame appended_lines
    unfolding append_lines_of append_lines
    append_lines_same =
        both AppendLinesSame (append_ok E h c head staged && lines_ok lines S)
        (both AppendLinesSame (too_few_lines h lines || no_free_line h number lines) (λ code e. (refl, refl, refl))
        (λ code e. let s = append_core_same E head staged Box parent h number c code e in (s.0, s.1, ap (λ (a : Appended). summary_appended a h head S) e)))
        (λ code e. (refl, refl, refl))

  -- ---- pop
  module _ (b : Lists) (head : List ℤ) where
    abbrev popped_lines : WithSummary Popping
    popped_lines = pop_lines_of E parent h b head lines S

    abbrev no_pop : ℕ → WithSummary Popping
    no_pop code = with_summary (popping (Err code) head b.staged b.deleted) S

    pub record PopLinesTook (o : WithSummary Popping) : Type 0 where
      pub plain : o.result ≡ pop_of E Box parent h b head
      pub summary : o.summary ≡ cond (ltb 0 h.len) S (put_line (nat_abs h.spills - 1) no_line S)

    left_line : (a : Popped) → IsPopped a → summary_popped a h S ≡ cond (ltb 0 h.len) S (put_line (nat_abs h.spills - 1) no_line S)
    left_line (Ok (m, h', c, d)) x = refl
    left_line (Err code) x = absurd x

    pop_core_is : pop_ok E h b head ≡ true → pop_core E Box parent h b head ≡ pop_of E Box parent h b head
    unfolding pop_of
    pop_core_is a = rw a

    pub pop_lines_took : IsPopped popped_lines.result.answer → PopLinesTook popped_lines
    unfolding pop_lines_of pop_lines
    pop_lines_took = by_ok (pop_ok E h b head) refl (lines_ok lines S) (too_few_lines h lines)
      where
        by_ok : (x : Bool) → pop_ok E h b head ≡ x → (y t : Bool)
            → IsPopped (cond (x && y) (cond t (no_pop 36) (after_pop (pop_core E Box parent h b head) h S)) (no_pop 25)).result.answer
            → PopLinesTook (cond (x && y) (cond t (no_pop 36) (after_pop (pop_core E Box parent h b head) h S)) (no_pop 25))
        by_ok false a y t x = absurd x
        by_ok true a false t x = absurd x
        by_ok true a true true x = absurd x
        by_ok true a true false x = record { plain = pop_core_is a; summary = left_line (pop_core E Box parent h b head).answer x }

    pub pop_plain : lines_ok lines S ≡ true → nat_abs h.spills ≤ lines → popped_lines.result ≡ pop_of E Box parent h b head
    unfolding pop_lines_of pop_lines pop_of
    pop_plain long room = by_ok (pop_ok E h b head)
      where
        by_ok : (x : Bool) → (cond (x && lines_ok lines S) (pop_lines E parent h b head lines S) (no_pop 25)).result
            ≡ cond x (pop_core E Box parent h b head) (popping (Err 25) head b.staged b.deleted)
        by_ok true = rw (long, enough room) refl
        by_ok false = refl

    -- a refused pop
    abbrev pub PopLinesSame : WithSummary Popping → Type 0
    PopLinesSame o =
        (code : ℕ) → o.result.answer ≡ Err code
        → (o.result.head ≡ head) × (o.result.staged ≡ b.staged) × (o.result.deleted ≡ b.deleted) × (o.summary ≡ S)

    pub pop_lines_same : PopLinesSame popped_lines
    unfolding pop_lines_of pop_lines
    pop_lines_same =
        both PopLinesSame (pop_ok E h b head && lines_ok lines S)
        (both PopLinesSame (too_few_lines h lines) (λ code e. (refl, refl, refl, refl))
        (λ code e. let s = pop_core_same E head b Box parent h code e in (s.0, s.1, s.2, ap (λ (a : Popped). summary_popped a h S) e)))
        (λ code e. (refl, refl, refl, refl))
