-- Laws of looking over the lines for the row that is missing: a row that shows something is there, a line that is passed over asks for none; one law for each way out.
use Prim.Native.Nat.{ℕ, suc, ◌-◌, ◌<◌, ◌≤◌}
use mathlib.Core.Path.{◌≡◌, refl, sym, ap, ◌∙◌}
use mathlib.Core.Bool.{Bool, true, false, cond}
use mathlib.Core.List.{List, [], ◌∷◌}
use native.Mathlib.Omega.{arith}
use borrow.Author.Tests.{lt-ltb, le-ltb}
use lib.Dec.{ltb}
use lib.IntN.{ℤ}
use lib.ListN.{length, take}
use lib.Seq.{take_all}
use Rattle.entries.specs.Flip.{position}
use Rattle.entries.specs.declared.Position.{Position}
use Rattle.entries.specs.declared.Position.TheVariants.{At, Seen, Absent}
use Rattle.segment_id.specs.declared.Kind.TheVariants.{Box}
use Rattle.std.specs.Prelude.{Option, None, Ok, Err}
use Rattle.buffer_core.specs.declared.Look.{Look}
use Rattle.buffer_core.specs.declared.Look.TheVariants.{Take, Stop, Next, Fail}
use Rattle.buffer_core.specs.Answers.{Low}
use Rattle.buffer_core.specs.Edition.{Edition, RowRead}
use Rattle.buffer_core.specs.Spills.{Sources, sources}
use Rattle.buffer_core.specs.Flip.{look_by, row_checked, search_in}
use Rattle.spill_rows.specs.Answers.{Read}
use Rattle.spill_rows.specs.Internal.{CheckedInto}
use Rattle.spill_rows.proofs.CheckedLaws.{nope, faulty}
use Rattle.summary_core.specs.Lines.{at_line}
use Rattle.summary_core.specs.Flip.{line_lead, look_in_row, line_look}
use Rattle.working_set.specs.Part.{lacks}
use Rattle.working_set.specs.Reads.{Need, nothing, first_missing, look_reads, walk_reads}
use Rattle.working_set.proofs.CallLaws.{checked_12}
use Rattle.working_summaries.specs.Reads.{passed_over, searched, line_reads, below_reads, in_lines_reads}
use Rattle.row_seeking.specs.Seeking.{told, among}

-- ---- what a row shows
module _ (zs : List ℤ) (first target : ℕ) (d : Bool) (n : length zs ≡ 512) (p : Position) (ep : p ≡ position d target (take 512 zs) 0 false) where
  by_position : (q : Position) → p ≡ q → (l : Look) → l ≡ look_by q (ltb first target) → l ≡ look_by (position d target zs 0 false) (ltb first target)
  by_position q e l h =
      let k : take 512 zs ≡ zs = take_all 512 zs (omega arith) in
      h ∙ ap (λ (x : Position). look_by x (ltb first target)) (sym e ∙ ep ∙ ap (λ (u : List ℤ). position d target u 0 false) k)

  pub by_take : (i : ℕ) → p ≡ At i → Take i ≡ look_by (position d target zs 0 false) (ltb first target)
  by_take i e = by_position (At i) e (Take i) refl

  pub seen_stop : p ≡ Seen → first < target → Stop true ≡ look_by (position d target zs 0 false) (ltb first target)
  seen_stop e h = by_position Seen e (Stop true) (rw (lt-ltb first target h))

  pub seen_next : p ≡ Seen → target ≤ first → Next true ≡ look_by (position d target zs 0 false) (ltb first target)
  seen_next e h = by_position Seen e (Next true) (rw (le-ltb first target h))

  pub absent_stop : p ≡ Absent → first < target → Stop false ≡ look_by (position d target zs 0 false) (ltb first target)
  absent_stop e h = by_position Absent e (Stop false) (rw (lt-ltb first target h))

  pub absent_next : p ≡ Absent → target ≤ first → Next false ≡ look_by (position d target zs 0 false) (ltb first target)
  absent_next e h = by_position Absent e (Next false) (rw (le-ltb first target h))

-- x is the checked row
module _ (x : RowRead) (r : Read) (out : List ℤ) (s : CheckedInto x r out) (target : ℕ) (d ends : Bool) where
  pub row_good : r ≡ (Ok tt) → (l : Look) → l ≡ look_by (position d target out 0 false) ends → l ≡ look_in_row x target d ends
  row_good e l p = rw (s.numbers e) p

  pub row_bad : (code : ℕ) → r ≡ Err code → Fail code ≡ look_in_row x target d ends
  row_bad code e = rw (faulty x r out s code e)

-- ---- what a line shows
module _ (E : Edition) (w : Sources) (S : List ℕ) (target : ℕ) (d : Bool) (n last : ℕ) (el : last ≡ at_line S n 1) where
  pub line_stop : last < target → Stop false ≡ line_look E w S target d n
  line_stop h = let q : at_line S n 1 < target = omega arith in rw (lt-ltb (at_line S n 1) target q)

  pub line_on : target ≤ last → (first : ℕ) → first ≡ at_line S n 0 → (l : Look) → l ≡ look_in_row (row_checked E w n) target d (ltb first target) → l ≡ line_look E w S target d n
  line_on h first e l q =
      let k : target ≤ at_line S n 1 = omega arith in
      rw (le-ltb (at_line S n 1) target k) (q ∙ ap (λ (x : ℕ). look_in_row (row_checked E w n) target d (ltb x target)) e)

-- ---- one line of the walk: whether it is passed over, and what it shows
abbrev left_by : (m p : ℕ → Bool) (n : ℕ) → Look → List ℕ → Need
left_by m p n (Take i) rest = nothing
left_by m p n (Stop s) rest = nothing
left_by m p n (Next s) rest = first_missing m (searched p rest)
left_by m p n (Fail code) rest = first_missing m (n ∷ [])

module _ (m p : ℕ → Bool) (n : ℕ) (rest : List ℕ) where
  read_line : (y : Look) → (((c : ℕ) → y ≡ Fail c → ⊥) → m n ≡ false) → first_missing m (n ∷ searched p (look_reads y rest)) ≡ left_by m p n y rest
  unfolding first_missing searched
  read_line (Take i) h = let q = h (λ c z. nope (cc)) in rw q
  read_line (Stop s) h = let q = h (λ c z. nope (cc)) in rw q
  read_line (Next s) h = let q = h (λ c z. nope (cc)) in rw q
  read_line (Fail code) h = refl

  one_line : (a : Bool) (y x : Look) → cond a (Stop false) y ≡ x → (((c : ℕ) → y ≡ Fail c → ⊥) → m n ≡ false)
      → first_missing m (cond a (searched p (look_reads (cond a (Stop false) y) rest)) (n ∷ searched p (look_reads (cond a (Stop false) y) rest))) ≡ left_by m p n x rest
  unfolding first_missing searched
  one_line true y x e h = ap (λ (z : Look). left_by m p n z rest) e
  one_line false y x e h = read_line y h ∙ ap (λ (z : Look). left_by m p n z rest) e

module _ (E : Edition) (parent staged : List ℕ) (s : ℕ) (work : List ℕ) (t : ℕ) (S : List ℕ) (target : ℕ) (d : Bool) where
  abbrev w : Sources
  w = sources parent staged s work t

  abbrev m : ℕ → Bool
  m n = lacks E Box w n

  abbrev in_row : RowRead → ℕ → Look
  in_row x n = look_in_row x target d (ltb (at_line S n 0) target)

  shown : (n : ℕ) → ((c : ℕ) → in_row (row_checked E w n) n ≡ Fail c → ⊥) → m n ≡ false
  shown n h = by_test (m n) refl
    where
      by_test : (b : Bool) → m n ≡ b → b ≡ false
      by_test false q = refl
      by_test true q = absurd (h 12 (ap (λ (x : RowRead). in_row x n) (checked_12 E parent staged s work t work t (λ key row e. e) n q)))

  line_turn : (n : ℕ) (x : Look) → line_look E w S target d n ≡ x
      → first_missing m (line_reads E w S target d (suc n)) ≡ left_by m (passed_over S target) n x (walk_reads (line_look E w S target d) n)
  unfolding line_reads walk_reads searched
  line_turn n x e = one_line m (passed_over S target) n (walk_reads (line_look E w S target d) n) (passed_over S target n) (in_row (row_checked E w n) n) x e (shown n)

  -- as the loop cites them: r is what a local holds of the line
  abbrev downward : ℕ → Option ℕ
  downward k = among E Box w (line_reads E w S target d k)

  module _ (low : ℕ) where
    module _ (h : 0 < low) (r : Look) (e : r ≡ line_look E w S target d (low - 1)) where
      above : downward low ≡ downward (suc (low - 1))
      above = let q : low ≡ suc (low - 1) = omega arith in ap downward q

      pub down_goes : (b : Bool) → r ≡ Next b → downward low ≡ downward (low - 1)
      unfolding line_reads
      down_goes b q = above ∙ ap told (line_turn (low - 1) (Next b) (sym e ∙ q))

      pub down_takes : (i : ℕ) → r ≡ Take i → None ≡ downward low
      down_takes i q = sym (above ∙ ap told (line_turn (low - 1) (Take i) (sym e ∙ q)))

      pub down_stops : (b : Bool) → r ≡ Stop b → None ≡ downward low
      down_stops b q = sym (above ∙ ap told (line_turn (low - 1) (Stop b) (sym e ∙ q)))

      pub down_asks : (c : ℕ) → r ≡ Fail c → among E Box w ((low - 1) ∷ []) ≡ downward low
      down_asks c q = sym (above ∙ ap told (line_turn (low - 1) (Fail c) (sym e ∙ q)))

    pub down_ends : low ≤ 0 → None ≡ downward low
    unfolding line_reads walk_reads searched first_missing
    down_ends h = let e : low ≡ 0 = omega arith in rw e

  -- behind the halving
  pub sought : (spills low : ℕ) → Ok low ≡ search_in (line_lead S) target 0 spills → (r : Option ℕ) → r ≡ downward low → r ≡ among E Box w (in_lines_reads E w S target d spills)
  unfolding in_lines_reads
  sought spills low q r e = e ∙ ap (λ (x : Low). among E Box w (below_reads E w S target d x)) q
