-- Laws of a summary made afresh: what a row writes, a turn of the loop and its end, that the lines one after the other are all lines, and each way out.
use Prim.Native.Nat.{ℕ, zero, suc, ◌+◌, ◌*◌, ◌-◌, ◌≤◌, ◌<◌}
use mathlib.Core.Path.{◌≡◌, refl, sym, ap, ◌∙◌}
use mathlib.Core.Bool.{Bool, true, false, cond, ◌&&◌}
use mathlib.Core.List.{List, [], ◌++◌, append-nil}
use native.Mathlib.Omega.{arith}
use lib.Dec.{eqb}
use lib.IntN.{ℤ, nat_abs}
use lib.ListN.{length, take, drop, replicate, take-append-drop, length-append, length-replicate}
use lib.Seq.{take_at, drop_at}
use borrow.Author.Tests.{eqb-true, lt-ltb, le-ltb}
use Rattle.stores.specs.Stores.{write}
use Rattle.stores.proofs.StoreLaws.{length_write, write_write}
use Rattle.signed.specs.Sign.{is_negative}
use Rattle.entries.specs.Order.{order_ok}
use Rattle.records.proofs.CheckLaws.{and_left}
use Rattle.std.specs.Prelude.{Ok, Err}
use Rattle.index_types.specs.Answers.{Summarized}
use Rattle.segment_id.specs.declared.Kind.TheVariants.{Box}
use Rattle.buffer_core.specs.Edition.{Edition, RowRead, good, bad}
use Rattle.buffer_core.specs.Spills.{Sources, spill_read}
use Rattle.buffer_core.specs.Rows.{then_rows, rows_up}
use Rattle.buffer_core.specs.Flip.{check_row, row_checked}
use Rattle.spill_rows.specs.Answers.{Read}
use Rattle.spill_rows.specs.Internal.{CheckedInto, read_of}
use Rattle.spill_rows.proofs.CheckedLaws.{nope, faulty}
use Rattle.summary_core.specs.Lines.{line_of, put_line, WithSummary, with_summary}
use Rattle.summary_core.proofs.LineLaws.{length_line}
use Rattle.summary_core.specs.Making.{lines_of, put_lines, summary_core}
use Rattle.summary_rows.specs.Internal.{row_line, row_lines}

-- ---- one row

module _ (x : RowRead) (r : Read) (out : List ℤ) (s : CheckedInto x r out) (n : ℕ) (S S' : List ℕ) where
  -- l is what a local holds of the line
  pub row_written : r ≡ (Ok tt) → take 512 out ≡ out → (l : List ℕ) → l ≡ line_of (take 512 out) → S' ≡ put_line n l S → S' ≡ row_line x n S
  row_written e q l p h = h ∙ rw (s.numbers e) (ap (λ (m : List ℕ). put_line n m S) (p ∙ ap line_of q))

pub row_unwritten : (x : RowRead) (r : Read) (out : List ℤ) → CheckedInto x r out → (n : ℕ) (S : List ℕ) (code : ℕ) → r ≡ Err code → S ≡ row_line x n S
row_unwritten x r out s n S code e = rw (faulty x r out s code e)

pub put_line_long : (n : ℕ) (l S : List ℕ) → length l ≡ 5 → n * 5 + 5 ≤ length S → length (put_line n l S) ≡ length S
unfolding put_line
put_line_long n l S e h = length_write (n * 5) l S (omega arith)

-- ---- a turn of the loop, and its end

pub row_turn : (f : ℕ → RowRead) (n m : ℕ) (S S' : List ℕ) → n < m → S' ≡ row_line (f n) n S → row_lines f n (m - n) S ≡ row_lines f (n + 1) (m - (n + 1)) S'
unfolding row_lines
row_turn f n m S S' h e = let k : m - n ≡ suc (m - (n + 1)) = omega arith in rw k (ap (row_lines f (n + 1) (m - (n + 1))) (sym e))

pub row_past : (f : ℕ → RowRead) (n m : ℕ) (S : List ℕ) → m ≤ n → row_lines f n (m - n) S ≡ S
unfolding row_lines
row_past f n m S h = let k : m - n ≡ 0 = omega arith in rw k

-- ---- rows that pass: the lines of all of them

-- a row that passed has 512 numbers
pub row_512 : (y : RowRead) (zs : List ℤ) → check_row y ≡ good zs → length zs ≡ 512
row_512 (bad code) zs e = nope (cc)
row_512 (good ys) zs e = by_test (eqb (length ys) 512 && order_ok ys) refl e
  where
    by_test : (b : Bool) → eqb (length ys) 512 && order_ok ys ≡ b → cond b (good ys) (bad 13) ≡ good zs → length zs ≡ 512
    by_test true p e = let q : ys ≡ zs = cc in ap length (sym q) ∙ eqb-true (length ys) 512 (and_left (eqb (length ys) 512) (order_ok ys) p)
    by_test false p e = nope (cc)

write_none : (at : ℕ) (S : List ℕ) → write at [] S ≡ S
unfolding write
write_none at S = let e : at + 0 ≡ at = omega arith in rw e (ap (λ (l : List ℕ). l ++ drop at S) (append-nil (take at S)) ∙ take-append-drop at S)

lines_long : (k : ℕ) (zs : List ℤ) → length (lines_of k zs) ≡ k * 5
unfolding lines_of
lines_long zero zs = refl
lines_long (suc k) zs = length-append (line_of (take 512 zs)) (lines_of k (drop 512 zs)) ∙ omega (arith, length_line (take 512 zs), lines_long k (drop 512 zs))

-- a line, and the lines of k rows behind it
behind : (n : ℕ) (zs more : List ℤ) (k : ℕ) (S : List ℕ) → (n + 1) * 5 + length (lines_of k more) ≤ length S
    → write ((n + 1) * 5) (lines_of k more) (put_line n (line_of zs) S) ≡ write (n * 5) (line_of zs ++ lines_of k more) S
unfolding put_line
behind n zs more k S room = write_write (n * 5) ((n + 1) * 5) (line_of zs) (lines_of k more) S (omega (arith, length_line zs)) room

module _ (E : Edition) (w : Sources) where
  abbrev f : ℕ → RowRead
  f i = row_checked E w i

  all_lines : (n k : ℕ) (S : List ℕ) → (n + k) * 5 ≤ length S → (rows : List ℤ) → rows_up f n k ≡ good rows → row_lines f n k S ≡ write (n * 5) (lines_of k rows) S
  unfolding row_lines rows_up lines_of
  all_lines n zero S h rows e = sym (write_none (n * 5) S)
  all_lines n (suc k) S h rows e = by_row (f n) (row_512 (spill_read E Box w n)) (rows_up f (n + 1) k) refl (λ T g more q. all_lines (n + 1) k T g more q) e
    where
      by_row : (x : RowRead) → ((zs : List ℤ) → x ≡ good zs → length zs ≡ 512) → (y : RowRead) → rows_up f (n + 1) k ≡ y
          → ((T : List ℕ) → (n + 1 + k) * 5 ≤ length T → (more : List ℤ) → rows_up f (n + 1) k ≡ good more → row_lines f (n + 1) k T ≡ write ((n + 1) * 5) (lines_of k more) T)
          → then_rows x y ≡ good rows
          → row_lines f (n + 1) k (row_line x n S) ≡ write (n * 5) (line_of (take 512 rows) ++ lines_of k (drop 512 rows)) S
      by_row (bad code) long y q rest e = nope (cc)
      by_row (good zs) long (bad code) q rest e = nope (cc)
      by_row (good zs) long (good more) q rest e =
          let d : zs ++ more ≡ rows = cc in
          let l : length zs ≡ 512 = long zs refl in
          let a : take 512 rows ≡ zs = ap (take 512) (sym d) ∙ take_at zs more 512 l in
          let b : drop 512 rows ≡ more = ap (drop 512) (sym d) ∙ drop_at zs more 512 l in
          let p : length (put_line n (line_of zs) S) ≡ length S = put_line_long n (line_of zs) S (length_line zs) (omega arith) in
          rest (put_line n (line_of zs) S) (omega arith) more q
          ∙ behind n zs more k S (omega (arith, lines_long k more))
          ∙ (λ i. write (n * 5) (line_of (sym a i) ++ lines_of k (sym b i)) S)

  -- ---- the summary that is left

  module _ (spills lines : ℕ) (S : List ℕ) where
    pub made_good : spills ≤ lines → lines * 5 ≤ length S → (Ok tt) ≡ read_of (rows_up f 0 spills) → (S' : List ℕ)
        → S' ≡ write (spills * 5) (replicate ((lines - spills) * 5) 0) (row_lines f 0 spills S)
        → with_summary (Ok tt) S' ≡ put_lines (rows_up f 0 spills) spills lines S
    made_good few room e S' q = by_rows (rows_up f 0 spills) refl e
      where
        by_rows : (x : RowRead) → rows_up f 0 spills ≡ x → (Ok tt) ≡ read_of x → with_summary (Ok tt) S' ≡ put_lines x spills lines S
        by_rows (bad code) r e = nope (cc)
        by_rows (good rows) r e =
            let z : List ℕ = replicate ((lines - spills) * 5) 0 in
            let l : length z ≡ (lines - spills) * 5 = length-replicate ((lines - spills) * 5) 0 in
            let k = lines_long spills rows in
            let a : row_lines f 0 spills S ≡ write 0 (lines_of spills rows) S = all_lines 0 spills S (omega arith) rows r in
            let b : write (spills * 5) z (write 0 (lines_of spills rows) S) ≡ write 0 (lines_of spills rows ++ z) S
            = write_write 0 (spills * 5) (lines_of spills rows) z S (omega arith) (omega arith) in
            ap (with_summary (Ok tt)) (q ∙ ap (write (spills * 5) z) a ∙ b)

    pub made_bad : (code : ℕ) → Err code ≡ read_of (rows_up f 0 spills) → with_summary (Err code) S ≡ put_lines (rows_up f 0 spills) spills lines S
    made_bad code e = by_rows (rows_up f 0 spills) e
      where
        by_rows : (x : RowRead) → Err code ≡ read_of x → with_summary (Err code) S ≡ put_lines x spills lines S
        by_rows (good rows) e = nope (cc)
        by_rows (bad d) e = let z : code ≡ d = cc in ap (λ (c : ℕ). with_summary (Err c) S) z

  -- ---- the ways out

  module _ (spills : ℤ) (zs : List ℤ) (lines : ℕ) (S : List ℕ) where
    pub made_10 : order_ok zs ≡ false → with_summary (Err 10) S ≡ summary_core E w spills zs lines S
    unfolding summary_core
    made_10 e = rw e

    module _ (e : order_ok zs ≡ true) where
      pub made_11 : is_negative spills ≡ true → with_summary (Err 11) S ≡ summary_core E w spills zs lines S
      unfolding summary_core
      made_11 d = rw (e, d)

      module _ (d : is_negative spills ≡ false) (n : ℕ) (a : n ≡ nat_abs spills) where
        pub made_36 : lines < n → with_summary (Err 36) S ≡ summary_core E w spills zs lines S
        unfolding summary_core
        made_36 h = rw (e, d, ← a, lt-ltb lines n h)

        pub made_on : n ≤ lines → (o : WithSummary Summarized) → o ≡ put_lines (rows_up f 0 n) n lines S → o ≡ summary_core E w spills zs lines S
        unfolding summary_core
        made_on h o q = rw (e, d, ← a, le-ltb lines n h) q
