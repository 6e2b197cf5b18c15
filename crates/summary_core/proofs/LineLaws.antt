-- The lines of a summary: what stands at each line after one is written, and after all are made afresh.
use Prim.Native.Nat.{ℕ, zero, suc, ◌+◌, ◌*◌, ◌-◌, ◌≤◌, ◌<◌}
use mathlib.Core.Path.{◌≡◌, refl, sym, ap, ◌∙◌, subst}
use mathlib.Core.List.{List, [], ◌++◌}
use native.Mathlib.Omega.{arith}
use native.Mathlib.Decide.{dec_le}
use lib.IntN.{ℤ}
use lib.ListN.{length, take, drop, get_or, replicate, length-append, length-replicate, replicate-append-replicate, length-drop, take-append-drop}
use lib.Seq.{take_all, take_at, drop_at, take-add, drop-drop, take-append-le, drop-append-le, get_or-set_same, get_or-set_other}
use Rattle.stores.specs.Stores.{write}
use Rattle.stores.proofs.StoreLaws.{length_write, part_at}
use Rattle.records.specs.Records.{records}
use Rattle.records.proofs.TurnLaws.{length_records}
use Rattle.records.proofs.RecordLaws.{records_write, record_at}
use Rattle.segment_core.proofs.ListLaws.{drop_replicate}
use Rattle.buffer_core.specs.Edition.{RowRead, bad, good}
use Rattle.buffer_core.specs.Rows.{then_rows, rows_up}
use Rattle.buffer_core.specs.Flip.{first_of, last_in}
use Rattle.buffer_core.proofs.RowLaws.{Sized}
use Rattle.summary_core.specs.Lines.{line_of, no_line, at_line, put_line}
use Rattle.summary_core.specs.Making.{lines_of}

-- line n
abbrev pub line_at : List ℕ → ℕ → List ℕ
line_at S n = take 5 (drop (n * 5) S)

pub length_line : (zs : List ℤ) → length (line_of zs) ≡ 5
unfolding line_of
length_line zs = refl

-- the numbers of a line
pub number_at : (S : List ℕ) (n j : ℕ) → j < 5 → at_line S n j ≡ get_or (line_at S n) j 0
number_at S n j h = sym (part_at (n * 5) 5 j S 0 h)

pub first_number : (zs : List ℤ) → get_or (line_of zs) 0 0 ≡ first_of zs
unfolding line_of
first_number zs = refl

pub last_number : (zs : List ℤ) → get_or (line_of zs) 1 0 ≡ last_in zs
unfolding line_of
last_number zs = refl

-- ---- one line written
module _ (lines n : ℕ) (l S : List ℕ) (five : length l ≡ 5) (room : n < lines) (long : lines * 5 ≤ length S) where
  lines_put : (m : ℕ) → m < lines → line_at (put_line n l S) m ≡ get_or (records 5 lines (write (n * 5) l S)) m []
  unfolding put_line
  lines_put m h = sym (record_at 5 lines m (write (n * 5) l S) h)

  pub line_put_same : line_at (put_line n l S) n ≡ l
  line_put_same =
      lines_put n room ∙ ap (λ (rs : List (List ℕ)). get_or rs n []) (records_write 5 lines n l S five room long)
      ∙ get_or-set_same (records 5 lines S) n l [] (omega (arith, length_records 5 lines S))

  pub line_put_other : (m : ℕ) → m < lines → (m ≡ n → ⊥) → line_at (put_line n l S) m ≡ line_at S m
  line_put_other m h q =
      lines_put m h ∙ ap (λ (rs : List (List ℕ)). get_or rs m []) (records_write 5 lines n l S five room long)
      ∙ get_or-set_other (records 5 lines S) n m l [] q ∙ record_at 5 lines m S h

  pub length_put_line : length (put_line n l S) ≡ length S
  unfolding put_line
  length_put_line = length_write (n * 5) l S (omega arith)

-- ---- the lines of rows that were all read
pub record Made (f : ℕ → RowRead) (n k : ℕ) (ls : List ℕ) : Type 0 where
  pub long : length ls ≡ k * 5
  pub rows : (i : ℕ) → i < k → (zs : List ℤ) × (f (n + i) ≡ good zs) × (line_at ls i ≡ line_of zs)

-- a row of 512 numbers before the others gives the first line
lines_more : (k : ℕ) (zs ys : List ℤ) → length zs ≡ 512 → lines_of (suc k) (zs ++ ys) ≡ line_of zs ++ lines_of k ys
unfolding lines_of
lines_more k zs ys h = λ i. line_of (take_at zs ys 512 h i) ++ lines_of k (drop_at zs ys 512 h i)

pub made : (f : ℕ → RowRead) → ((i : ℕ) → Sized 512 (f i)) → (n k : ℕ) (zs : List ℤ) → rows_up f n k ≡ good zs → Made f n k (lines_of k zs)
unfolding rows_up lines_of
made f sized n zero zs e = record { long = refl; rows = λ i h. absurd (omega arith) }
made f sized n (suc k) all e = by_read (f n) refl (rows_up f (n + 1) k) refl e (made f sized (n + 1) k)
  where
    by_read : (r : RowRead) → f n ≡ r → (rest : RowRead) → rows_up f (n + 1) k ≡ rest → then_rows r rest ≡ good all
        → ((ys : List ℤ) → rows_up f (n + 1) k ≡ good ys → Made f (n + 1) k (lines_of k ys)) → Made f n (suc k) (lines_of (suc k) all)
    by_read (bad code) d rest g e ih = let z : ◌≡◌ {A = ℕ} 0 1 = cc in absurd (omega arith)
    by_read (good zs) d (bad code) g e ih = let z : ◌≡◌ {A = ℕ} 0 1 = cc in absurd (omega arith)
    by_read (good zs) d (good ys) g e ih =
        let q : zs ++ ys ≡ all = cc in
        subst (Made f n (suc k)) (sym (lines_more k zs ys full) ∙ ap (lines_of (suc k)) q) (record {
          long = length-append (line_of zs) (lines_of k ys) ∙ omega (arith, length_line zs, m.long);
          rows = by_place;
        })
      where
        m : Made f (n + 1) k (lines_of k ys)
        m = ih ys g

        full : length zs ≡ 512
        full = subst (Sized 512) d (sized n)

        by_place : (i : ℕ) → i < suc k → (xs : List ℤ) × (f (n + i) ≡ good xs) × (line_at (line_of zs ++ lines_of k ys) i ≡ line_of xs)
        by_place zero h =
            let z : n + 0 ≡ n = omega arith in
            (zs, ap f z ∙ d, take_at (line_of zs) (lines_of k ys) 5 (length_line zs))
        by_place (suc i) h =
            let r = m.rows i (omega arith) in
            let z : n + suc i ≡ n + 1 + i = omega arith in
            let y : suc i * 5 ≡ 5 + i * 5 = omega arith in
            let w : drop (suc i * 5) (line_of zs ++ lines_of k ys) ≡ drop (i * 5) (lines_of k ys)
            = ap (λ (j : ℕ). drop j (line_of zs ++ lines_of k ys)) y ∙ sym (drop-drop (i * 5) 5 (line_of zs ++ lines_of k ys)) ∙ ap (drop (i * 5)) (drop_at (line_of zs) (lines_of k ys) 5 (length_line zs)) in
            (r.0, ap f z ∙ r.1, ap (take 5) w ∙ r.2)

-- ---- with zeros to the capacity
take_zeros : (m : ℕ) → 5 ≤ m → take 5 (replicate {A = ℕ} m 0) ≡ no_line
take_zeros m h =
    let e : m ≡ 5 + (m - 5) = omega arith in
    ap (λ (j : ℕ). take 5 (replicate j 0)) e ∙ ap (take 5) (sym (replicate-append-replicate 5 (m - 5) 0)) ∙ take_at (replicate 5 0) (replicate (m - 5) 0) 5 (length-replicate {A = ℕ} 5 0)

-- a summary that is all zero
pub zero_line : (lines n : ℕ) (S : List ℕ) → lines * 5 ≤ length S → take (lines * 5) S ≡ replicate (lines * 5) 0 → n < lines → line_at S n ≡ no_line
zero_line lines n S long e h =
    let z : List ℕ = replicate (lines * 5) 0 in
    let y : length z ≡ lines * 5 = length-replicate (lines * 5) 0 in
    ap (λ (l : List ℕ). line_at l n) (sym (take-append-drop (lines * 5) S) ∙ ap (λ (l : List ℕ). l ++ drop (lines * 5) S) e)
    ∙ ap (take 5) (drop-append-le (n * 5) z (drop (lines * 5) S) (omega arith)) ∙ take-append-le 5 (drop (n * 5) z) (drop (lines * 5) S) (rw length-drop (omega arith))
    ∙ ap (take 5) (drop_replicate (lines * 5) (n * 5) 0) ∙ take_zeros (lines * 5 - n * 5) (omega arith)

module _ (f : ℕ → RowRead) (k lines : ℕ) (ls S : List ℕ) (m : Made f 0 k ls) (enough : k ≤ lines) (room : lines * 5 ≤ length S) where
  -- all lines that are written
  abbrev all : List ℕ
  all = ls ++ replicate ((lines - k) * 5) 0

  pub length_all : length all ≡ lines * 5
  length_all = length-append ls (replicate ((lines - k) * 5) 0) ∙ omega (arith, m.long, length-replicate {A = ℕ} ((lines - k) * 5) 0)

  all_row : (i : ℕ) → i < k → line_at all i ≡ line_at ls i
  all_row i h =
      ap (take 5) (drop-append-le (i * 5) ls (replicate ((lines - k) * 5) 0) (omega (arith, m.long)))
      ∙ take-append-le 5 (drop (i * 5) ls) (replicate ((lines - k) * 5) 0) (rw length-drop (omega (arith, m.long)))

  all_free : (i : ℕ) → k ≤ i → i < lines → line_at all i ≡ no_line
  all_free i h g =
      let e : i * 5 ≡ k * 5 + (i * 5 - k * 5) = omega arith in
      ap (λ (j : ℕ). take 5 (drop j all)) e
      ∙ ap (take 5) (sym (drop-drop (i * 5 - k * 5) (k * 5) all) ∙ ap (drop (i * 5 - k * 5)) (drop_at ls (replicate ((lines - k) * 5) 0) (k * 5) m.long)
      ∙ drop_replicate ((lines - k) * 5) (i * 5 - k * 5) 0)
      ∙ take_zeros ((lines - k) * 5 - (i * 5 - k * 5)) (omega arith)

  -- where they are written
  written : (i : ℕ) → i < lines → line_at (write 0 all S) i ≡ line_at all i
  unfolding write
  written i h =
      ap (take 5) (drop-append-le (i * 5) all (drop (0 + length all) S) (omega (arith, length_all)))
      ∙ take-append-le 5 (drop (i * 5) all) (drop (0 + length all) S) (rw length-drop (omega (arith, length_all)))

  -- a summary that stays as it is when made afresh has the lines of the rows
  pub afresh_row : write 0 all S ≡ S → (i : ℕ) (zs : List ℤ) → i < k → f i ≡ good zs → line_at S i ≡ line_of zs
  afresh_row e i zs h r =
      let g = m.rows i h in
      let j : 0 + i ≡ i = omega arith in
      let q : f i ≡ good g.0 = ap f (sym j) ∙ g.1 in
      let z : g.0 ≡ zs = cc in
      ap (λ (l : List ℕ). line_at l i) (sym e) ∙ written i (omega arith) ∙ all_row i h ∙ g.2 ∙ ap line_of z

  pub afresh_free : write 0 all S ≡ S → (i : ℕ) → k ≤ i → i < lines → line_at S i ≡ no_line
  afresh_free e i h g = ap (λ (l : List ℕ). line_at l i) (sym e) ∙ written i g ∙ all_free i h g

  -- and one that has them stays as it is
  pub afresh_same : ((i : ℕ) (zs : List ℤ) → i < k → f i ≡ good zs → line_at S i ≡ line_of zs) → ((i : ℕ) → k ≤ i → i < lines → line_at S i ≡ no_line) → write 0 all S ≡ S
  unfolding write
  afresh_same rows free =
      let e : 0 + length all ≡ lines * 5 = omega (arith, length_all) in
      let z : take (lines * 5) all ≡ all = take_all (lines * 5) all (omega (arith, length_all)) in
      ap (λ (j : ℕ). all ++ drop j S) e ∙ ap (λ (l : List ℕ). l ++ drop (lines * 5) S) (sym z ∙ upto lines (omega arith)) ∙ take-append-drop (lines * 5) S
    where
      alike : (i : ℕ) → i < lines → line_at all i ≡ line_at S i
      alike i h = by_dec (dec_le k i)
        where
          by_dec : Dec (k ≤ i) → line_at all i ≡ line_at S i
          by_dec (yes g) = all_free i g h ∙ sym (free i g h)
          by_dec (no g) =
              let r = m.rows i (omega arith) in
              let j : 0 + i ≡ i = omega arith in
              all_row i (omega arith) ∙ r.2 ∙ sym (rows i r.0 (omega arith) (ap f (sym j) ∙ r.1))

      upto : (i : ℕ) → i ≤ lines → take (i * 5) all ≡ take (i * 5) S
      upto zero h = refl
      upto (suc i) h =
          let y : suc i * 5 ≡ i * 5 + 5 = omega arith in
          ap (λ (j : ℕ). take j all) y ∙ take-add (i * 5) 5 all ∙ (λ j. upto i (omega arith) j ++ alike i (omega arith) j) ∙ sym (take-add (i * 5) 5 S) ∙ ap (λ (j : ℕ). take j S) (sym y)
