-- Laws of the walk over a summary: what a row that is read and a line come to, and one law for each way out of the walk.
use Prim.Native.Nat.{ℕ, ◌-◌, ◌≤◌, ◌<◌}
use mathlib.Core.Path.{◌≡◌, refl, sym, ap, ◌∙◌}
use mathlib.Core.Bool.{Bool, true, false, cond, ◌||◌}
use mathlib.Core.List.{List}
use native.Mathlib.Omega.{arith}
use lib.Dec.{ltb}
use lib.IntN.{ℤ}
use lib.ListN.{take}
use borrow.Author.Tests.{lt-ltb, le-ltb}
use Rattle.entries.specs.Flip.{position}
use Rattle.entries.specs.declared.Position.{Position}
use Rattle.entries.specs.declared.Position.TheVariants.{At, Seen, Absent}
use Rattle.index_types.specs.declared.ListCounts.{ListCounts}
use Rattle.index_types.specs.declared.RowEdition.{RowEdition}
use Rattle.std.specs.Prelude.{Err}
use Rattle.index_types.specs.Answers.{Flipped}
use Rattle.buffer_core.specs.declared.Look.{Look}
use Rattle.buffer_core.specs.declared.Look.TheVariants as look
use Rattle.buffer_core.specs.declared.Walk.{Walk}
use Rattle.buffer_core.specs.declared.Walk.TheVariants.{Hit}
use Rattle.buffer_core.specs.declared.Walk.TheVariants as walk
use Rattle.buffer_core.specs.Edition.{RowRead, good, bad, edition_of}
use Rattle.buffer_core.specs.Spills.{Sources}
use Rattle.buffer_core.specs.Flip.{look_past, look_by, walk_by, walk_from, row_checked}
use Rattle.spill_rows.proofs.CheckedLaws.{nope}
use Rattle.flip_stage.specs.Internal.{Takes}
use Rattle.flip_walk.proofs.WalkLaws.{walk_step, walk_stop, walk_end}
use Rattle.flip_rows.proofs.TakeLaws.{position_takes}
use Rattle.summary_core.specs.Lines.{at_line}
use Rattle.summary_core.specs.Flip.{look_in_row, line_look, after_lines}
use Rattle.summary_take.specs.Internal.{StagesLines}
use Rattle.summary_walk.specs.declared.Tried.{Tried}
use Rattle.summary_walk.specs.declared.Tried.TheVariants.{Ended, Stop, Next}
use Rattle.summary_walk.specs.Internal.{past, Tries}

pub past_stop : (first t : ℕ) (seen : Bool) → first < t → Stop seen ≡ past (ltb first t) seen
past_stop first t seen h = rw (lt-ltb first t h)

pub past_next : (first t : ℕ) (seen : Bool) → t ≤ first → Next seen ≡ past (ltb first t) seen
past_next first t seen h = rw (le-ltb first t h)

module _ (v : RowEdition) (w : Sources) (n : ℕ) (c : ListCounts) (staged S : List ℕ) (t : ℕ) (d : Bool) where
  -- ---- each way that a line comes to

  tries_ended : (x : Look) (f : Flipped) (staged' S' : List ℕ) → ((seen : Bool) (rest : Bool → Walk) → StagesLines v (after_lines (edition_of v) w c.capacity S (walk_by x n seen rest)) c staged f staged' S')
      → Tries v w x n c staged S (Ended f) staged' S'
  tries_ended x f staged' S' s = record { ended = λ g e. let q : f ≡ g = cc in rw (← q) s; stops = λ z e. nope (cc); goes_on = λ z e. nope (cc) }

  tries_stop : (x : Look) (s : Bool) → x ≡ look.Stop s → Tries v w x n c staged S (Stop s) staged S
  tries_stop x s e = record { ended = λ g q. nope (cc); stops = λ z q. let r : s ≡ z = cc in (e ∙ ap look.Stop r, refl, refl); goes_on = λ z q. nope (cc) }

  tries_next : (x : Look) (s : Bool) → x ≡ look.Next s → Tries v w x n c staged S (Next s) staged S
  tries_next x s e = record { ended = λ g q. nope (cc); stops = λ z q. nope (cc); goes_on = λ z q. let r : s ≡ z = cc in (e ∙ ap look.Next r, refl, refl) }

  -- ---- a row that is read; b says whether the walk ends behind it

  module _ (x : RowRead) (b : Bool) where
    pub row_bad : (code : ℕ) → x ≡ bad code → Tries v w (look_in_row x t d b) n c staged S (Ended (Err code)) staged S
    row_bad code e = tries_ended (look_in_row x t d b) (Err code) staged S (λ seen rest head. rw e)

    -- p is what a local holds of the place of the entry
    module _ (out : List ℤ) (e : x ≡ good out) (whole : take 512 out ≡ out) (p : Position) (q : p ≡ position d t (take 512 out) 0 false) where
      shows : look_in_row x t d b ≡ look_by p b
      shows = ap (λ (y : RowRead). look_in_row y t d b) e ∙ ap (λ (l : List ℤ). look_by (position d t l 0 false) b) (sym whole) ∙ ap (λ (y : Position). look_by y b) (sym q)

      pub row_takes : t < 9223372036854775808 → (i : ℕ) → p ≡ At i → Takes (good out) i
      row_takes small i h = position_takes out t d i small (ap (λ (l : List ℤ). position d t l 0 false) (sym whole) ∙ sym q ∙ h)

      pub row_take : (i : ℕ) → p ≡ At i → (f : Flipped) (staged' S' : List ℕ) → StagesLines v (after_lines (edition_of v) w c.capacity S (Hit n i)) c staged f staged' S'
          → Tries v w (look_in_row x t d b) n c staged S (Ended f) staged' S'
      row_take i h f staged' S' s = tries_ended (look_in_row x t d b) f staged' S' (λ seen rest. rw (shows ∙ ap (λ (y : Position). look_by y b) h) s)

      past_tries : (s : Bool) (r : Tried) → r ≡ past b s → look_in_row x t d b ≡ look_past b s → Tries v w (look_in_row x t d b) n c staged S r staged S
      past_tries s r er el = rw (er, el) (by_end b)
        where
          by_end : (z : Bool) → Tries v w (look_past z s) n c staged S (past z s) staged S
          by_end true = tries_stop (look.Stop s) s refl
          by_end false = tries_next (look.Next s) s refl

      pub row_seen : p ≡ Seen → (r : Tried) → r ≡ past b true → Tries v w (look_in_row x t d b) n c staged S r staged S
      row_seen h r er = past_tries true r er (shows ∙ ap (λ (y : Position). look_by y b) h)

      pub row_absent : p ≡ Absent → (r : Tried) → r ≡ past b false → Tries v w (look_in_row x t d b) n c staged S r staged S
      row_absent h r er = past_tries false r er (shows ∙ ap (λ (y : Position). look_by y b) h)

  -- ---- a line; l and f are what locals hold of its last and its first value

  module _ (l : ℕ) (el : l ≡ at_line S n 1) where
    pub line_stop : l < t → Tries v w (line_look (edition_of v) w S t d n) n c staged S (Stop false) staged S
    line_stop h = let k : at_line S n 1 < t = omega arith in
        tries_stop (line_look (edition_of v) w S t d n) false (rw (lt-ltb (at_line S n 1) t k))

    pub line_on : t ≤ l → (f : ℕ) → f ≡ at_line S n 0 → (r : Tried) (staged' S' : List ℕ)
        → Tries v w (look_in_row (row_checked (edition_of v) w n) t d (ltb f t)) n c staged S r staged' S'
        → Tries v w (line_look (edition_of v) w S t d n) n c staged S r staged' S'
    line_on h f ef r staged' S' s =
        let k : t ≤ at_line S n 1 = omega arith in
        let q : look_in_row (row_checked (edition_of v) w n) t d (ltb f t) ≡ line_look (edition_of v) w S t d n
        = rw (le-ltb (at_line S n 1) t k) (ap (λ (m : ℕ). look_in_row (row_checked (edition_of v) w n) t d (ltb m t)) ef) in
        rw (← q) s

-- ---- the walk

module _ (v : RowEdition) (w : Sources) (c : ListCounts) (staged S : List ℕ) (t : ℕ) (d : Bool) where
  abbrev f : ℕ → Look
  f n = line_look (edition_of v) w S t d n

  -- the walk x, and what it comes to
  abbrev Comes : Walk → Flipped → (staged' S' : List ℕ) → Type 0
  Comes x r staged' S' = StagesLines v (after_lines (edition_of v) w c.capacity S x) c staged r staged' S'

  none : (x : Walk) (b : Bool) → walk.Ended b ≡ x → (r : Flipped) → r ≡ Err (cond b 14 15) → Comes x r staged S
  none x b e r er head = rw (← e, er)

  module _ (from : ℕ) (seen : Bool) (low : ℕ) (saw : Bool) (inv : walk_from f from seen ≡ walk_from f low saw) where
    pub walk_over : low ≤ 0 → (r : Flipped) → r ≡ Err (cond saw 14 15) → Comes (walk_from f from seen) r staged S
    walk_over h r er = none (walk_from f from seen) saw (walk_end f low saw h ∙ sym inv) r er

    module _ (h : 0 < low) (tried : Tried) (staged' S' : List ℕ) (s : Tries v w (f (low - 1)) (low - 1) c staged S tried staged' S') where
      pub walk_ended : (a : Flipped) → tried ≡ Ended a → Comes (walk_from f from seen) a staged' S'
      walk_ended a e = rw (inv ∙ walk_step f low saw h) (s.ended a e saw (λ b. walk_from f (low - 1) b))

      pub walk_stopped : (z b : Bool) → tried ≡ Stop z → b ≡ (saw || z) → (r : Flipped) → r ≡ Err (cond b 14 15) → Comes (walk_from f from seen) r staged' S'
      walk_stopped z b e eb r er =
          let p = s.stops z e in
          rw (p.1, p.2) (none (walk_from f from seen) b (walk_stop f low saw h (f (low - 1)) refl z b p.0 eb ∙ sym inv) r er)

      pub stays : (z : Bool) → tried ≡ Next z → (f (low - 1) ≡ look.Next z) × (staged' ≡ staged) × (S' ≡ S)
      stays z e = s.goes_on z e
