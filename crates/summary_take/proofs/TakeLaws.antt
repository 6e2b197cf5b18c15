-- Laws of a match in a row, with a summary: what a row that passed the checks is, and the line behind what was staged.
use Prim.Native.Nat.{ℕ, ◌*◌, ◌<◌}
use mathlib.Core.Path.{◌≡◌, refl, sym, ap, ◌∙◌}
use mathlib.Core.Bool.{Bool, true, false, cond, ◌&&◌}
use mathlib.Core.List.{List}
use native.Mathlib.Omega.{arith}
use lib.Dec.{eqb, ltb}
use lib.IntN.{ℤ, pos, neg_ℤ, nat_abs}
use lib.ListN.{length, take, get_or, length-set}
use lib.Seq.{take_all}
use Rattle.entries.specs.Order.{order_ok}
use Rattle.entries.specs.Flip.{flipped_at}
use Rattle.entries.specs.declared.Position.TheVariants.{At}
use Rattle.index_types.specs.declared.ListCounts.{ListCounts}
use Rattle.index_types.specs.declared.RowEdition.{RowEdition}
use Rattle.std.specs.Prelude.{Ok, Err}
use Rattle.index_types.specs.Answers.{Flipped}
use Rattle.records.specs.declared.Place.{Place}
use Rattle.records.specs.declared.Place.TheVariants.{Staged, Table, Missing}
use Rattle.segment_id.specs.declared.Kind.TheVariants.{Box}
use Rattle.buffer_core.specs.declared.Walk.TheVariants.{Hit}
use Rattle.buffer_core.specs.Edition.{RowRead, good, bad, edition_of}
use Rattle.buffer_core.specs.Spills.{Sources, place_at, spill_read}
use Rattle.buffer_core.specs.Flip.{check_row, Effect, refuse, flip_head, stage, Flipping, flipping, done_by, row_checked, stage_from, stage_at}
use Rattle.spill_rows.proofs.CheckedLaws.{nope}
use Rattle.flip_stage.specs.Internal.{Takes, Stages}
use Rattle.summary_core.specs.Lines.{line_of, put_line, with_summary}
use Rattle.summary_core.specs.Flip.{summary_staged, after_lines}
use Rattle.summary_take.specs.Internal.{is_done, StagesLines}

-- a row that passed is the row that was read
unchecked : (y : RowRead) (zs : List ℤ) → check_row y ≡ good zs → y ≡ good zs
unchecked (bad code) zs e = nope (cc)
unchecked (good ys) zs e = by_test (eqb (length ys) 512 && order_ok ys) e
  where
    by_test : (b : Bool) → cond b (good ys) (bad 13) ≡ good zs → good ys ≡ good zs
    by_test true e = e
    by_test false e = nope (cc)

pub takes_read : (y : RowRead) (zs : List ℤ) (at : ℕ) → check_row y ≡ good zs → Takes (good zs) at → Takes y at
takes_read y zs at e t = rw (unchecked y zs e) t

pub takes_flip : (zs : List ℤ) (at : ℕ) → Takes (good zs) at → (at < length zs) × (nat_abs (get_or zs at (pos 0)) < 9223372036854775808)
takes_flip zs at t =
    let q : zs ≡ t.numbers = let r = t.read in cc in
    (omega (arith, t.inside, ap length q), omega (arith, t.small, ap (λ (l : List ℤ). nat_abs (get_or l at (pos 0))) q))

-- staging never negates an entry of the head
abbrev Shelf : Effect → Type 0
Shelf (refuse code) = Unit
Shelf (flip_head i) = ⊥
Shelf (stage slot count key row) = Unit

module _ (ed : RowEdition) (w : Sources) (c : ListCounts) (staged : List ℕ) (n at : ℕ) (row : List ℤ) (is : row_checked (edition_of ed) w n ≡ good row) (long : length row ≡ 512) where
  shelf : Shelf (stage_at (edition_of ed) w c.capacity n at)
  unfolding stage_at
  shelf = by_place (place_at (edition_of ed) Box w n)
    where
      by_room : (b : Bool) (x y : ℕ) (k r : List ℕ) → Shelf (cond b (stage x y k r) (refuse 16))
      by_room true x y k r = tt
      by_room false x y k r = tt

      by_place : (p : Place) → Shelf (stage_from (edition_of ed) w c.capacity n at p)
      by_place (Staged i) = tt
      by_place (Table i) = by_room (ltb w.staged_count c.capacity) _ _ _ _
      by_place Missing = tt

  -- d is what a local holds of whether the row was staged, l of the line
  pub take_after : (r : Flipped) (staged' : List ℕ) → Stages ed (stage_at (edition_of ed) w c.capacity n at) c staged r staged'
      → (d : Bool) → d ≡ is_done r → (row' : List ℤ) → row' ≡ flipped_at (At at) row → (l : List ℕ) → l ≡ line_of (take 512 row')
      → (S S' : List ℕ) → S' ≡ cond d (put_line n l S) S
      → StagesLines ed (after_lines (edition_of ed) w c.capacity S (Hit n at)) c staged r staged' S'
  take_after r staged' s d ed' row' er l el S S' e head = by_effect (stage_at (edition_of ed) w c.capacity n at) shelf (s head)
    where
      line_is : l ≡ line_of (flipped_at (At at) row)
      line_is =
          let k : length row' ≡ 512 = ap length er ∙ length-set row at (neg_ℤ (get_or row at (pos 0))) ∙ long in
          el ∙ ap line_of (take_all 512 row' (omega arith) ∙ er)

      refused : (code : ℕ) → r ≡ Err code → S' ≡ S
      refused code q = let f : d ≡ false = ed' ∙ ap is_done q in e ∙ rw f

      done : (c' : ListCounts) → r ≡ Ok c' → S' ≡ put_line n l S
      done c' q = let f : d ≡ true = ed' ∙ ap is_done q in e ∙ rw f

      by_effect : (x : Effect) → Shelf x → flipping r head staged' ≡ done_by (edition_of ed) x c head staged
          → with_summary (flipping r head staged') S' ≡ with_summary (done_by (edition_of ed) x c head staged) (summary_staged (edition_of ed) w (Hit n at) x S)
      by_effect (refuse code) h q =
          let a : r ≡ Err code = ap (λ (y : Flipping). y.answer) q in
          λ i. with_summary (q i) (refused code a i)
      by_effect (flip_head i) h q = absurd h
      by_effect (stage slot count key bytes) h q =
          let a = ap (λ (y : Flipping). y.answer) q in
          let b : put_line n l S ≡ summary_staged (edition_of ed) w (Hit n at) (stage slot count key bytes) S = rw is (ap (λ (m : List ℕ). put_line n m S) line_is) in
          λ i. with_summary (q i) ((done _ a ∙ b) i)
