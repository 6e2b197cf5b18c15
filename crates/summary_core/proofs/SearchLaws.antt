-- With a summary that is right and rows that pass, a spend does what it does without one: the halving and the walk read the same from the lines as from the rows.
use Prim.Native.Nat.{ℕ, zero, suc, ◌+◌, ◌-◌, ◌≤◌, ◌<◌}
use mathlib.Core.Path.{◌≡◌, refl, sym, ap, ◌∙◌}
use mathlib.Core.Bool.{Bool, true, false, cond, ◌&&◌}
use mathlib.Core.List.{List}
use native.Mathlib.Omega.{arith}
use lib.Dec.{ltb, leb}
use lib.IntN.{ℤ, nat_abs}
use lib.ListN.{take, get_or}
use borrow.Author.Tests.{ltb-true, le-ltb}
use Rattle.index_types.specs.declared.ListCounts.{ListCounts}
use Rattle.index_types.specs.declared.HeadCounts.{HeadCounts}
use Rattle.std.specs.Prelude.{Ok, Err}
use Rattle.signed.specs.Sign.{is_negative}
use Rattle.entries.specs.Order.{order_ok}
use Rattle.entries.specs.Flip.{position}
use Rattle.entries.specs.declared.Position.{Position}
use Rattle.entries.specs.declared.Position.TheVariants.{At, Seen, Absent}
use Rattle.buffer_core.specs.declared.Direction.{Direction}
use Rattle.buffer_core.specs.Answers.{Lead}
use Rattle.buffer_core.specs.Answers.{Low}
use Rattle.buffer_core.specs.declared.Look.{Look}
use Rattle.buffer_core.specs.declared.Look.TheVariants.{Take, Stop, Next, Fail}
use Rattle.buffer_core.specs.Edition.{Edition, RowRead, good}
use Rattle.buffer_core.specs.Spills.{Sources, sources}
use Rattle.buffer_core.specs.Flip.{first_of, last_in, lead_of, half, middle, search_by, search_in, look_in, look_of, walk_by, walk_from, refuse, head_first, spends, row_checked, lead_at, look_at, after_walk, after_search, in_rows, in_order, Effect, flipping, done_by, flip_effect, flip_core, flip_ok, flip_of}
use Rattle.summary_core.specs.Lines.{at_line, line_of, lines_ok, with_summary}
use Rattle.summary_core.specs.Flip.{line_lead, look_in_row, walk_after, line_look, walk_lines, in_lines, head_or_lines, flip_lines, done_lines, flip_lines_core, flip_lines_of}
use Rattle.summary_core.proofs.LineLaws.{line_at, number_at, first_number, last_number}

-- ---- the halving depends on the rows below its high end, and ends within it

pub search_cong : (f g : ℕ → Lead) (t k lo hi : ℕ) → ((n : ℕ) → n < hi → f n ≡ g n) → search_by f t k lo hi ≡ search_by g t k lo hi
unfolding search_by
search_cong f g t zero lo hi h = refl
search_cong f g t (suc k) lo hi h =
    by_order (ltb lo hi) refl (search_cong f g t k (middle lo hi + 1) hi h) (λ o. search_cong f g t k lo (middle lo hi) (λ n q. h n (omega arith)))
  where
    by_order : (x : Bool) → ltb lo hi ≡ x → search_by f t k (middle lo hi + 1) hi ≡ search_by g t k (middle lo hi + 1) hi
        → (lo < hi → search_by f t k lo (middle lo hi) ≡ search_by g t k lo (middle lo hi))
        → cond x (half (f (middle lo hi)) t (search_by f t k (middle lo hi + 1) hi) (search_by f t k lo (middle lo hi))) (Ok lo)
        ≡ cond x (half (g (middle lo hi)) t (search_by g t k (middle lo hi + 1) hi) (search_by g t k lo (middle lo hi))) (Ok lo)
    by_order true e a b =
        let o : lo < hi = ltb-true lo hi e in
        λ i. half (h (middle lo hi) (omega arith) i) t (a i) (b o i)
    by_order false e a b = refl

-- a halving ends at most at its high end
abbrev pub Within : ℕ → Low → Type 0
Within hi (Ok low) = low ≤ hi
Within hi (Err code) = Unit {0}

within_half : (hi : ℕ) (x : Lead) (t : ℕ) (a b : Low) → Within hi a → Within hi b → Within hi (half x t a b)
within_half hi (Ok y) t a b p q = by (leb y t)
  where
    by : (z : Bool) → Within hi (cond z a b)
    by true = p
    by false = q
within_half hi (Err code) t a b p q = tt

within_up : (hi hi' : ℕ) (x : Low) → hi ≤ hi' → Within hi x → Within hi' x
within_up hi hi' (Ok low) h w = omega arith
within_up hi hi' (Err code) h w = tt

pub search_within : (f : ℕ → Lead) (t k lo hi : ℕ) → lo ≤ hi → Within hi (search_by f t k lo hi)
unfolding search_by
search_within f t zero lo hi h = h
search_within f t (suc k) lo hi h =
    by_order (ltb lo hi) refl (λ o. search_within f t k (middle lo hi + 1) hi (omega arith)) (λ o. search_within f t k lo (middle lo hi) (omega arith))
  where
    by_order : (x : Bool) → ltb lo hi ≡ x → (lo < hi → Within hi (search_by f t k (middle lo hi + 1) hi)) → (lo < hi → Within (middle lo hi) (search_by f t k lo (middle lo hi)))
        → Within hi (cond x (half (f (middle lo hi)) t (search_by f t k (middle lo hi + 1) hi) (search_by f t k lo (middle lo hi))) (Ok lo))
    by_order true e a b =
        let o : lo < hi = ltb-true lo hi e in
        within_half hi (f (middle lo hi)) t (search_by f t k (middle lo hi + 1) hi) (search_by f t k lo (middle lo hi)) (a o)
        (within_up (middle lo hi) hi (search_by f t k lo (middle lo hi)) (omega arith) (b o))
    by_order false e a b = h

-- ---- so does the walk on the rows below where it starts

pub walk_cong : (f g : ℕ → Look) (n : ℕ) (seen : Bool) → ((m : ℕ) → m < n → f m ≡ g m) → walk_from f n seen ≡ walk_from g n seen
unfolding walk_from
walk_cong f g zero seen h = refl
walk_cong f g (suc n) seen h =
    ap (λ (x : Look). walk_by x n seen (λ s. walk_from f n s)) (h n (omega arith)) ∙ rest (g n) (λ s. walk_cong f g n s (λ m q. h m (omega arith)))
  where
    rest : (x : Look) → ((s : Bool) → walk_from f n s ≡ walk_from g n s) → walk_by x n seen (λ s. walk_from f n s) ≡ walk_by x n seen (λ s. walk_from g n s)
    rest (Take i) k = refl
    rest (Stop s) k = refl
    rest (Next s) k = k _
    rest (Fail code) k = refl

-- ---- a summary that is right

module _ (E : Edition) (w : Sources) (S : List ℕ) (spills : ℕ) where
  -- every row passes, and its line says its first and last absolute value
  pub record Right (n : ℕ) : Type 0 where
    pub numbers : List ℤ
    pub passes : row_checked E w n ≡ good numbers
    pub first : at_line S n 0 ≡ first_of numbers
    pub last : at_line S n 1 ≡ last_in numbers

  -- a row that passes, and its line
  pub row_right : (n : ℕ) (zs : List ℤ) → row_checked E w n ≡ good zs → line_at S n ≡ line_of zs → Right n
  row_right n zs e l = record {
    numbers = zs;
    passes = e;
    first = number_at S n 0 (omega arith) ∙ ap (λ (x : List ℕ). get_or x 0 0) l ∙ first_number zs;
    last = number_at S n 1 (omega arith) ∙ ap (λ (x : List ℕ). get_or x 1 0) l ∙ last_number zs;
  }

  module _ (right : (n : ℕ) → n < spills → Right n) where
    lead_same : (n : ℕ) → n < spills → line_lead S n ≡ lead_at E w n
    lead_same n h = let r = right n h in ap Ok r.first ∙ sym (ap lead_of r.passes)

    look_same : (t : ℕ) (d : Bool) (n : ℕ) → n < spills → line_look E w S t d n ≡ look_at E w t d n
    unfolding look_in
    look_same t d n h =
        let r = right n h in
        (λ i. cond (ltb (r.last i) t) (Stop false) (look_in_row (r.passes i) t d (ltb (r.first i) t))) ∙ sym (ap (λ (x : RowRead). look_of x t d) r.passes)

    by_low : (t : ℕ) (d seen : Bool) (capacity : ℕ) (x : Low) → Within spills x
        → after_walk E w capacity (walk_after (line_look E w S t d) seen x) ≡ after_search E w capacity t d seen x
    by_low t d seen capacity (Ok low) h = ap (after_walk E w capacity) (walk_cong (line_look E w S t d) (look_at E w t d) low seen (λ m q. look_same t d m (omega arith)))
    by_low t d seen capacity (Err code) h = refl

    pub rows_same : (capacity t : ℕ) (d seen : Bool) → (in_lines E w capacity t d spills S seen).result ≡ in_rows E w capacity t d spills seen
    unfolding in_lines walk_lines in_rows
    rows_same capacity t d seen =
        by_low t d seen capacity (search_in (line_lead S) t 0 spills) (search_within (line_lead S) t (spills - 0) 0 spills (omega arith))
        ∙ ap (after_search E w capacity t d seen) (search_cong (line_lead S) (lead_at E w) t (spills - 0) 0 spills lead_same)

    first_same : (capacity t : ℕ) (d : Bool) (p : Position) → (head_or_lines p (in_lines E w capacity t d spills S) S).result ≡ head_first p (λ seen. in_rows E w capacity t d spills seen)
    first_same capacity t d (At i) = refl
    first_same capacity t d Seen = rows_same capacity t d true
    first_same capacity t d Absent = rows_same capacity t d false

-- a spend or an unspend, where the summary has a line for every spill
pub flip_same : (E : Edition) (w : Sources) (capacity : ℕ) (d : Direction) (target spills : ℤ) (zs : List ℤ) (lines : ℕ) (S : List ℕ)
    → nat_abs spills ≤ lines → ((n : ℕ) → n < nat_abs spills → Right E w S (nat_abs spills) n)
    → (flip_lines E w capacity d target spills zs lines S).result ≡ flip_effect E w capacity d target spills zs
unfolding flip_lines flip_effect in_order
flip_same E w capacity d target spills zs lines S room right = by_target (leb 9223372036854775808 (nat_abs target))
  where
    rows : (head_or_lines (position (spends d) (nat_abs target) zs 0 false) (in_lines E w capacity (nat_abs target) (spends d) (nat_abs spills) S) S).result
        ≡ head_first (position (spends d) (nat_abs target) zs 0 false) (λ seen. in_rows E w capacity (nat_abs target) (spends d) (nat_abs spills) seen)
    rows = first_same E w S (nat_abs spills) right capacity (nat_abs target) (spends d) (position (spends d) (nat_abs target) zs 0 false)

    by_sign : (x : Bool) → (cond x (with_summary (refuse 11) S) (cond (ltb lines (nat_abs spills)) (with_summary (refuse 36) S)
        (head_or_lines (position (spends d) (nat_abs target) zs 0 false) (in_lines E w capacity (nat_abs target) (spends d) (nat_abs spills) S) S))).result
        ≡ cond x (refuse 11) (head_first (position (spends d) (nat_abs target) zs 0 false) (λ seen. in_rows E w capacity (nat_abs target) (spends d) (nat_abs spills) seen))
    by_sign true = refl
    by_sign false = rw (le-ltb lines (nat_abs spills) room) rows

    by_order : (x : Bool) → (cond x (cond (is_negative spills) (with_summary (refuse 11) S) (cond (ltb lines (nat_abs spills)) (with_summary (refuse 36) S)
        (head_or_lines (position (spends d) (nat_abs target) zs 0 false) (in_lines E w capacity (nat_abs target) (spends d) (nat_abs spills) S) S))) (with_summary (refuse 10) S)).result
        ≡ cond x (cond (is_negative spills) (refuse 11) (head_first (position (spends d) (nat_abs target) zs 0 false) (λ seen. in_rows E w capacity (nat_abs target) (spends d) (nat_abs spills) seen))) (refuse 10)
    by_order true = by_sign (is_negative spills)
    by_order false = refl

    by_target : (x : Bool) → (cond x (with_summary (refuse 9) S) (cond (order_ok zs) (cond (is_negative spills) (with_summary (refuse 11) S) (cond (ltb lines (nat_abs spills)) (with_summary (refuse 36) S)
        (head_or_lines (position (spends d) (nat_abs target) zs 0 false) (in_lines E w capacity (nat_abs target) (spends d) (nat_abs spills) S) S))) (with_summary (refuse 10) S))).result
        ≡ cond x (refuse 9) (cond (order_ok zs) (cond (is_negative spills) (refuse 11) (head_first (position (spends d) (nat_abs target) zs 0 false) (λ seen. in_rows E w capacity (nat_abs target) (spends d) (nat_abs spills) seen))) (refuse 10))
    by_target true = refl
    by_target false = by_order (order_ok zs)

-- a call, where the summary has room, every row passes and its line is right
module _ (E : Edition) (parent : List ℕ) (h : HeadCounts) (lines : ℕ) (S : List ℕ) (long : lines_ok lines S ≡ true) (room : nat_abs h.spills ≤ lines) where
  pub flip_plain : (d : Direction) (target : ℤ) (c : ListCounts) (staged : List ℕ) (e : ListCounts) (table : List ℕ) (head : List ℤ)
      → ((n : ℕ) → n < nat_abs h.spills → Right E (sources parent staged c.count table e.count) S (nat_abs h.spills) n)
      → (flip_lines_of E d parent h target c staged e table head lines S).result ≡ flip_of E d parent h target c staged e table head
  unfolding flip_lines_of flip_lines_core flip_of flip_core
  flip_plain d target c staged e table head right = by_ok (flip_ok E h c staged e table head)
    where
      same : (flip_lines E (sources parent staged c.count table e.count) c.capacity d target h.spills (take h.len head) lines S).result
          ≡ flip_effect E (sources parent staged c.count table e.count) c.capacity d target h.spills (take h.len head)
      same = flip_same E (sources parent staged c.count table e.count) c.capacity d target h.spills (take h.len head) lines S room right

      by_ok : (x : Bool)
          → (cond (x && lines_ok lines S) (done_lines E (flip_lines E (sources parent staged c.count table e.count) c.capacity d target h.spills (take h.len head) lines S) c head staged)
          (with_summary (flipping (Err 25) head staged) S)).result
          ≡ cond x (done_by E (flip_effect E (sources parent staged c.count table e.count) c.capacity d target h.spills (take h.len head)) c head staged) (flipping (Err 25) head staged)
      by_ok true = rw long (ap (λ (a : Effect). done_by E a c head staged) same)
      by_ok false = refl
