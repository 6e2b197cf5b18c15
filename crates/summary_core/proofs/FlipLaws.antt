-- What an accepted spend or unspend was, with a summary or without one: an entry of the head negated, or a row that was read and checked staged anew; and with
-- a summary, the line made from it. A refused one leaves what it borrows as it was.
use Prim.Native.Nat.{ℕ, zero, suc, ◌+◌, ◌*◌, ◌-◌, ◌≤◌, ◌<◌}
use mathlib.Core.Path.{◌≡◌, refl, sym, ap, ◌∙◌}
use mathlib.Core.Bool.{Bool, true, false, cond, not, ◌&&◌, ◌||◌}
use mathlib.Core.List.{List}
use native.Mathlib.Omega.{arith}
use lib.Dec.{ltb, leb, eqb}
use lib.IntN.{ℤ, pos, nat_abs}
use lib.ListN.{length, take}
use borrow.Author.Tests.{ltb-true, lt-leb, eqb-true}
use Rattle.index_types.specs.declared.ListCounts.{ListCounts}
use Rattle.index_types.specs.declared.HeadCounts.{HeadCounts}
use Rattle.index_types.specs.Answers.{Flipped}
use Rattle.stores.specs.Stores.{write}
use Rattle.signed.specs.Sign.{is_negative}
use Rattle.entries.specs.Order.{order_ok}
use Rattle.entries.specs.Flip.{position, flipped_at}
use Rattle.entries.specs.declared.Position.{Position}
use Rattle.entries.specs.declared.Position.TheVariants.{At, Seen, Absent}
use Rattle.std.specs.Prelude.{Option, Some, None, Ok, Err}
use Rattle.records.specs.Records.{keys, record_of}
use Rattle.records.specs.Find.{find_key, is_found, place_of, row_at}
use Rattle.records.specs.Changes.{slot, count_after, with_count, put_record, full_for}
use Rattle.segment_id.specs.declared.Kind.TheVariants.{Box}
use Rattle.buffer_core.specs.declared.Direction.{Direction}
use Rattle.buffer_core.specs.Answers.{Low}
use Rattle.buffer_core.specs.declared.Look.{Look}
use Rattle.buffer_core.specs.declared.Look.TheVariants.{Take, Stop, Next, Fail}
use Rattle.buffer_core.specs.declared.Walk.{Walk}
use Rattle.buffer_core.specs.declared.Walk.TheVariants.{Hit, Ended, Failed}
use Rattle.buffer_core.specs.Edition.{Edition, RowRead, bad, good}
use Rattle.buffer_core.specs.Spills.{Sources, sources, key_at, place_at, read_placed, spill_read}
use Rattle.buffer_core.specs.Append.{counts_with, bytes_with}
use Rattle.buffer_core.specs.Flip.{check_row, look_of, walk_by, walk_from, search_in, Effect, refuse, flip_head, stage, spends, head_first, Flipping, flipping, done_by, row_checked, lead_at, look_at, boxes_in, row_flipped, stage_from, stage_at, after_walk, after_search, in_rows, in_order, flip_effect, flip_core, flip_ok, flip_of}
use Rattle.buffer_core.proofs.RefusedLaws.{both}
use Rattle.summary_core.specs.Lines.{at_line, line_of, put_line, lines_ok, WithSummary, with_summary}
use Rattle.summary_core.specs.Flip.{line_lead, line_look, look_in_row, walk_after, walk_lines, summary_staged, after_lines, in_lines, head_or_lines, flip_lines, done_lines, flip_lines_core, flip_lines_of}
use Rattle.summary_core.proofs.SearchLaws.{Within, search_within}

abbrev pub IsFlipped : Flipped → Type 0
IsFlipped (Ok c) = Unit {0}
IsFlipped (Err code) = ⊥

-- ---- a row that passes the checks of a spend was read
pub record Checked (r : RowRead) (zs : List ℤ) : Type 0 where
  pub read : r ≡ good zs
  pub full : length zs ≡ 512
  pub in_order : order_ok zs ≡ true

pub checked : (r : RowRead) (zs : List ℤ) → check_row r ≡ good zs → Checked r zs
checked (bad code) zs e = let z : ◌≡◌ {A = ℕ} 0 1 = cc in absurd (omega arith)
checked (good ys) zs e = by_size (eqb (length ys) 512) refl (order_ok ys) refl e
  where
    by_size : (u : Bool) → eqb (length ys) 512 ≡ u → (v : Bool) → order_ok ys ≡ v → cond (u && v) (good ys) (bad 13) ≡ good zs → Checked (good ys) zs
    by_size true a true b e = let q : ys ≡ zs = cc in rw (← q) (record { read = refl; full = eqb-true (length ys) 512 a; in_order = b })
    by_size true a false b e = let z : ◌≡◌ {A = ℕ} 0 1 = cc in absurd (omega arith)
    by_size false a v b e = let z : ◌≡◌ {A = ℕ} 0 1 = cc in absurd (omega arith)

-- ---- a walk that ended at a match looked there last
hit_look : (f : ℕ → Look) (m : ℕ) (seen : Bool) (n at : ℕ) → walk_from f m seen ≡ Hit n at → (n < m) × (f n ≡ Take at)
unfolding walk_from
hit_look f zero seen n at e = let z : ◌≡◌ {A = ℕ} 0 1 = cc in absurd (omega arith)
hit_look f (suc m) seen n at e = by_look (f m) refl e (λ s. hit_look f m s n at)
  where
    by_look : (x : Look) → f m ≡ x → walk_by x m seen (λ s. walk_from f m s) ≡ Hit n at → ((s : Bool) → walk_from f m s ≡ Hit n at → (n < m) × (f n ≡ Take at))
        → (n < suc m) × (f n ≡ Take at)
    by_look (Take i) d e ih = let p : m ≡ n = cc in let q : i ≡ at = cc in (omega arith, ap f (sym p) ∙ d ∙ ap Take q)
    by_look (Stop s) d e ih = let z : ◌≡◌ {A = ℕ} 0 1 = cc in absurd (omega arith)
    by_look (Next s) d e ih = let r = ih (seen || s) e in (omega (arith, r.0), r.1)
    by_look (Fail code) d e ih = let z : ◌≡◌ {A = ℕ} 0 1 = cc in absurd (omega arith)

module _ (E : Edition) (parent : List ℕ) (c : ListCounts) (staged : List ℕ) (e : ListCounts) (table : List ℕ) where
  abbrev w : Sources
  w = sources parent staged c.count table e.count

  -- a row is looked into only where it passes
  abbrev Takes : (ℕ → Look) → Type 0
  Takes look = (n at : ℕ) → look n ≡ Take at → (zs : List ℤ) × (row_checked E w n ≡ good zs)

  row_takes : (t : ℕ) (d : Bool) → Takes (look_at E w t d)
  row_takes t d n at q = by_row (row_checked E w n) refl q
    where
      by_row : (r : RowRead) → row_checked E w n ≡ r → look_of r t d ≡ Take at → (zs : List ℤ) × (row_checked E w n ≡ good zs)
      by_row (bad code) a q = let z : ◌≡◌ {A = ℕ} 0 1 = cc in absurd (omega arith)
      by_row (good zs) a q = (zs, a)

  line_takes : (S : List ℕ) (t : ℕ) (d : Bool) → Takes (line_look E w S t d)
  line_takes S t d n at q = by_last (ltb (at_line S n 1) t) (row_checked E w n) refl q
    where
      by_last : (x : Bool) (r : RowRead) → row_checked E w n ≡ r → cond x (Stop false) (look_in_row r t d (ltb (at_line S n 0) t)) ≡ Take at → (zs : List ℤ) × (row_checked E w n ≡ good zs)
      by_last true r a q = let z : ◌≡◌ {A = ℕ} 0 1 = cc in absurd (omega arith)
      by_last false (bad code) a q = let z : ◌≡◌ {A = ℕ} 0 1 = cc in absurd (omega arith)
      by_last false (good zs) a q = (zs, a)

  module _ (k : ℕ) (head : List ℤ) where
    -- row n of k was staged anew with the entry at `at` negated, and what its line then is
    pub record RowFlipped (x : Effect) (n at : ℕ) (zs : List ℤ) : Type 0 where
      pub row : List ℕ
      pub below : n < k
      pub passes : row_checked E w n ≡ good zs
      pub coded : E.decode Box parent (pos n) row ≡ good zs
      pub room : full_for E.size c (key_at E Box w n) staged ≡ false
      pub flipped : done_by E x c head staged
          ≡ flipping (Ok (counts_with E (key_at E Box w n) c staged)) head (bytes_with E (key_at E Box w n) (E.with_boxes parent (pos n) row (flipped_at (At at) zs)) c staged)
      pub lined : (S : List ℕ) → summary_staged E w (Hit n at) x S ≡ put_line n (line_of (flipped_at (At at) zs)) S

    -- ---- the match in a row
    module _ (n at : ℕ) (zs : List ℤ) (below : n < k) (passes : row_checked E w n ≡ good zs) where
      abbrev key : List ℕ
      key = key_at E Box w n

      line_is : (S : List ℕ) → put_line n (line_of (flipped_at (At at) (boxes_in E (row_checked E w n)))) S ≡ put_line n (line_of (flipped_at (At at) zs)) S
      line_is S = ap (λ (r : RowRead). put_line n (line_of (flipped_at (At at) (boxes_in E r))) S) passes

      flipped_row : (row : List ℕ) → E.decode Box parent (pos n) row ≡ good zs → row_flipped E w n row at ≡ E.with_boxes parent (pos n) row (flipped_at (At at) zs)
      unfolding row_flipped
      flipped_row row h = ap (λ (r : RowRead). E.with_boxes parent (pos n) row (flipped_at (At at) (boxes_in E r))) h

      put_is : (f : Option ℕ) → f ≡ find_key key (keys E.size c.count staged) → (row : List ℕ)
          → flipping (Ok (with_count (count_after f c.count) c)) head (write (slot f c.count * E.size) (record_of E.size key row) staged)
          ≡ flipping (Ok (counts_with E key c staged)) head (bytes_with E key row c staged)
      unfolding put_record
      put_is f q row = rw q

      not_full : (f : Option ℕ) → f ≡ find_key key (keys E.size c.count staged) → not (is_found f) && leb c.capacity c.count ≡ false → full_for E.size c key staged ≡ false
      unfolding full_for
      not_full f q r = rw (← q) r

      by_place : (f g : Option ℕ) → f ≡ find_key key (keys E.size c.count staged) → read_placed E Box w n (place_of f g) ≡ good zs
          → IsFlipped (done_by E (stage_from E w c.capacity n at (place_of f g)) c head staged).answer → RowFlipped (stage_from E w c.capacity n at (place_of f g)) n at zs
      by_place (Some i) g q h x =
          let row : List ℕ = row_at E.size i staged in
          record {
            row = row;
            below = below;
            passes = passes;
            coded = h;
            room = not_full (Some i) q refl;
            flipped = ap (λ (y : List ℕ). done_by E (stage i c.count key y) c head staged) (flipped_row row h) ∙ put_is (Some i) q (E.with_boxes parent (pos n) row (flipped_at (At at) zs));
            lined = line_is;
          }
      by_place None (Some j) q h x = by_room (ltb c.count c.capacity) refl x
        where
          row : List ℕ
          row = row_at E.size j table

          by_room : (u : Bool) → ltb c.count c.capacity ≡ u
              → IsFlipped (done_by E (cond u (stage c.count (c.count + 1) key (row_flipped E w n row at)) (refuse 16)) c head staged).answer
              → RowFlipped (cond u (stage c.count (c.count + 1) key (row_flipped E w n row at)) (refuse 16)) n at zs
          by_room true r x = record {
            row = row;
            below = below;
            passes = passes;
            coded = h;
            room = not_full None q (lt-leb c.capacity c.count (ltb-true c.count c.capacity r));
            flipped = ap (λ (y : List ℕ). done_by E (stage c.count (c.count + 1) key y) c head staged) (flipped_row row h) ∙ put_is None q (E.with_boxes parent (pos n) row (flipped_at (At at) zs));
            lined = line_is;
          }
          by_room false r x = absurd x
      by_place None None q h x = absurd x

      staged_row : IsFlipped (done_by E (stage_at E w c.capacity n at) c head staged).answer → RowFlipped (stage_at E w c.capacity n at) n at zs
      unfolding stage_at place_at spill_read
      staged_row x = by_place (find_key key (keys E.size c.count staged)) (find_key key (keys E.size e.count table)) refl (checked (spill_read E Box w n) zs passes).read x

    -- ---- the rows: the walk ended at one of them
    record Ends (x : Walk) : Type 0 where
      pub n : ℕ
      pub at : ℕ
      pub zs : List ℤ
      pub is : x ≡ Hit n at
      pub flipped : RowFlipped (stage_at E w c.capacity n at) n at zs

    abbrev Walked : Walk → Type 0
    Walked x = IsFlipped (done_by E (after_walk E w c.capacity x) c head staged).answer

    by_walk : (look : ℕ → Look) → Takes look → (low : ℕ) (seen : Bool) → low ≤ k → (x : Walk) → walk_from look low seen ≡ x → Walked x → Ends x
    by_walk look takes low seen m (Hit n at) q x =
        let h = hit_look look low seen n at q in
        let z = takes n at h.1 in
        record { n = n; at = at; zs = z.0; is = refl; flipped = staged_row n at z.0 (omega (arith, h.0)) z.1 x }
    by_walk look takes low seen m (Ended s) q x = absurd x
    by_walk look takes low seen m (Failed code) q x = absurd x

    by_low : (look : ℕ → Look) → Takes look → (seen : Bool) (y : Low) → Within k y → Walked (walk_after look seen y) → Ends (walk_after look seen y)
    by_low look takes seen (Ok low) m x = by_walk look takes low seen m (walk_from look low seen) refl x
    by_low look takes seen (Err code) m x = absurd x

    -- ---- without a summary
    pub data FlipCase (x : Effect) : Type 0 where
      in_head : (i : ℕ) → x ≡ flip_head i → FlipCase x
      in_row : (n at : ℕ) (zs : List ℤ) → RowFlipped x n at zs → FlipCase x

    ended : (x : Walk) → Ends x → FlipCase (after_walk E w c.capacity x)
    ended x y = let q = y.is in rw q (in_row y.n y.at y.zs y.flipped)

    search_is : (t : ℕ) (d seen : Bool) (y : Low) → after_search E w c.capacity t d seen y ≡ after_walk E w c.capacity (walk_after (look_at E w t d) seen y)
    search_is t d seen (Ok low) = refl
    search_is t d seen (Err code) = refl

    rows_took : (t : ℕ) (d seen : Bool) → IsFlipped (done_by E (in_rows E w c.capacity t d k seen) c head staged).answer → FlipCase (in_rows E w c.capacity t d k seen)
    unfolding in_rows
    rows_took t d seen =
        let y = search_in (lead_at E w) t 0 k in
        rw (search_is t d seen y) (λ x. ended (walk_after (look_at E w t d) seen y) (by_low (look_at E w t d) (row_takes t d) seen y (search_within (lead_at E w) t (k - 0) 0 k (omega arith)) x))

    by_position : (t : ℕ) (d : Bool) (p : Position) → IsFlipped (done_by E (head_first p (λ seen. in_rows E w c.capacity t d k seen)) c head staged).answer
        → FlipCase (head_first p (λ seen. in_rows E w c.capacity t d k seen))
    by_position t d (At i) x = in_head i refl
    by_position t d Seen x = rows_took t d true x
    by_position t d Absent x = rows_took t d false x

    -- ---- with one
    module _ (S : List ℕ) where
      pub data LinesCase (a : WithSummary Effect) : Type 0 where
        head_kept : (i : ℕ) → a.result ≡ flip_head i → a.summary ≡ S → LinesCase a
        row_lined : (n at : ℕ) (zs : List ℤ) → RowFlipped a.result n at zs → a.summary ≡ put_line n (line_of (flipped_at (At at) zs)) S → LinesCase a

      lines_ended : (x : Walk) → Ends x → LinesCase (after_lines E w c.capacity S x)
      lines_ended x y = let q = y.is in rw q (row_lined y.n y.at y.zs y.flipped (y.flipped.lined S))

      lines_searched : (t : ℕ) (d seen : Bool) → IsFlipped (done_by E (in_lines E w c.capacity t d k S seen).result c head staged).answer → LinesCase (in_lines E w c.capacity t d k S seen)
      unfolding in_lines walk_lines
      lines_searched t d seen x =
          let y = search_in (line_lead S) t 0 k in
          lines_ended (walk_after (line_look E w S t d) seen y) (by_low (line_look E w S t d) (line_takes S t d) seen y (search_within (line_lead S) t (k - 0) 0 k (omega arith)) x)

      lines_by_position : (t : ℕ) (d : Bool) (p : Position) → IsFlipped (done_by E (head_or_lines p (in_lines E w c.capacity t d k S) S).result c head staged).answer
          → LinesCase (head_or_lines p (in_lines E w c.capacity t d k S) S)
      lines_by_position t d (At i) x = head_kept i refl refl
      lines_by_position t d Seen x = lines_searched t d true x
      lines_by_position t d Absent x = lines_searched t d false x

  -- ---- the calls
  module _ (h : HeadCounts) (head : List ℤ) (d : Direction) (target : ℤ) where
    abbrev zs₀ : List ℤ
    zs₀ = take h.len head

    abbrev k : ℕ
    k = nat_abs h.spills

    abbrev place : Position
    place = position (spends d) (nat_abs target) zs₀ 0 false

    -- ---- without a summary
    abbrev plain_effect : Effect
    plain_effect = flip_effect E w c.capacity d target h.spills zs₀

    effect_took : IsFlipped (done_by E plain_effect c head staged).answer → FlipCase k head plain_effect
    unfolding flip_effect in_order
    effect_took = by_tests (leb 9223372036854775808 (nat_abs target)) (order_ok zs₀) (is_negative h.spills)
      where
        searched : Effect
        searched = head_first place (λ seen. in_rows E w c.capacity (nat_abs target) (spends d) k seen)

        by_tests : (u v x : Bool) → IsFlipped (done_by E (cond u (refuse 9) (cond v (cond x (refuse 11) searched) (refuse 10))) c head staged).answer
            → FlipCase k head (cond u (refuse 9) (cond v (cond x (refuse 11) searched) (refuse 10)))
        by_tests true v x q = absurd q
        by_tests false true true q = absurd q
        by_tests false true false q = by_position k head (nat_abs target) (spends d) place q
        by_tests false false x q = absurd q

    pub record FlipTook (o : Flipping) : Type 0 where
      pub fits : flip_ok E h c staged e table head ≡ true
      pub effect : Effect
      pub result : o ≡ done_by E effect c head staged
      pub kind_of_flip : FlipCase k head effect

    pub flip_took : IsFlipped (flip_of E d parent h target c staged e table head).answer → FlipTook (flip_of E d parent h target c staged e table head)
    unfolding flip_of flip_core
    flip_took = by_ok (flip_ok E h c staged e table head) refl
      where
        no_flip : Flipping
        no_flip = flipping (Err 25) head staged

        by_ok : (x : Bool) → flip_ok E h c staged e table head ≡ x → IsFlipped (cond x (done_by E plain_effect c head staged) no_flip).answer → FlipTook (cond x (done_by E plain_effect c head staged) no_flip)
        by_ok false a q = absurd q
        by_ok true a q = record { fits = a; effect = plain_effect; result = refl; kind_of_flip = effect_took q }

    -- ---- with a summary
    module _ (lines : ℕ) (S : List ℕ) where
      abbrev act : WithSummary Effect
      act = flip_lines E w c.capacity d target h.spills zs₀ lines S

      abbrev refused_by : ℕ → WithSummary Effect
      refused_by code = with_summary (refuse code) S

      abbrev searched : WithSummary Effect
      searched = head_or_lines place (in_lines E w c.capacity (nat_abs target) (spends d) k S) S

      lines_took : IsFlipped (done_by E act.result c head staged).answer → LinesCase k head S act
      unfolding flip_lines
      lines_took = by_tests (leb 9223372036854775808 (nat_abs target)) (order_ok zs₀) (is_negative h.spills) (ltb lines k)
        where
          by_tests : (u v x y : Bool) → IsFlipped (done_by E (cond u (refused_by 9) (cond v (cond x (refused_by 11) (cond y (refused_by 36) searched)) (refused_by 10))).result c head staged).answer
              → LinesCase k head S (cond u (refused_by 9) (cond v (cond x (refused_by 11) (cond y (refused_by 36) searched)) (refused_by 10)))
          by_tests true v x y q = absurd q
          by_tests false true true y q = absurd q
          by_tests false true false true q = absurd q
          by_tests false true false false q = lines_by_position k head S (nat_abs target) (spends d) place q
          by_tests false false x y q = absurd q

      pub record FlipLinesTook (o : WithSummary Flipping) : Type 0 where
        pub fits : flip_ok E h c staged e table head ≡ true
        pub act : WithSummary Effect
        pub result : o ≡ done_lines E act c head staged
        pub kind_of_flip : LinesCase k head S act

      pub flip_lines_took : IsFlipped (flip_lines_of E d parent h target c staged e table head lines S).result.answer → FlipLinesTook (flip_lines_of E d parent h target c staged e table head lines S)
      unfolding flip_lines_of flip_lines_core
      flip_lines_took = by_ok (flip_ok E h c staged e table head) refl (lines_ok lines S)
        where
          no_flip : WithSummary Flipping
          no_flip = with_summary (flipping (Err 25) head staged) S

          by_ok : (x : Bool) → flip_ok E h c staged e table head ≡ x → (y : Bool) → IsFlipped (cond (x && y) (done_lines E act c head staged) no_flip).result.answer
              → FlipLinesTook (cond (x && y) (done_lines E act c head staged) no_flip)
          by_ok false a y q = absurd q
          by_ok true a false q = absurd q
          by_ok true a true q = record { fits = a; act = act; result = refl; kind_of_flip = lines_took q }

      -- ---- a refused call leaves what it borrows as it was
      abbrev pub FlipLinesSame : WithSummary Flipping → Type 0
      FlipLinesSame o = (code : ℕ) → o.result.answer ≡ Err code → (o.result.head ≡ head) × (o.result.staged ≡ staged) × (o.summary ≡ S)

      abbrev EffectSame : WithSummary Effect → Type 0
      EffectSame a = FlipLinesSame (done_lines E a c head staged)

      staged_same : (x : Walk) (y : Effect) → EffectSame (with_summary y (summary_staged E w x y S))
      staged_same (Hit n at) (refuse r) code q = (refl, refl, refl)
      staged_same (Ended seen) (refuse r) code q = (refl, refl, refl)
      staged_same (Failed f) (refuse r) code q = (refl, refl, refl)
      staged_same x (flip_head i) code q = let z : ◌≡◌ {A = ℕ} 0 1 = cc in absurd (omega arith)
      staged_same x (stage i count key row) code q = let z : ◌≡◌ {A = ℕ} 0 1 = cc in absurd (omega arith)

      lines_same : (seen : Bool) → EffectSame (in_lines E w c.capacity (nat_abs target) (spends d) k S seen)
      unfolding in_lines
      lines_same seen =
          let x = walk_lines E w S (nat_abs target) (spends d) k seen in
          staged_same x (after_walk E w c.capacity x)

      searched_same : (p : Position) → EffectSame (head_or_lines p (in_lines E w c.capacity (nat_abs target) (spends d) k S) S)
      searched_same (At i) = λ code q. let z : ◌≡◌ {A = ℕ} 0 1 = cc in absurd (omega arith)
      searched_same Seen = lines_same true
      searched_same Absent = lines_same false

      effect_same : EffectSame act
      unfolding flip_lines
      effect_same =
          both EffectSame (leb 9223372036854775808 (nat_abs target)) (λ code q. (refl, refl, refl))
          (both EffectSame (order_ok zs₀)
          (both EffectSame (is_negative h.spills) (λ code q. (refl, refl, refl))
          (both EffectSame (ltb lines k) (λ code q. (refl, refl, refl)) (searched_same place)))
          (λ code q. (refl, refl, refl)))

      pub flip_lines_same : FlipLinesSame (flip_lines_of E d parent h target c staged e table head lines S)
      unfolding flip_lines_of flip_lines_core
      flip_lines_same = both FlipLinesSame (flip_ok E h c staged e table head && lines_ok lines S) effect_same (λ code q. (refl, refl, refl))
