-- Laws of the rows of a tally: what a counted row tells, one law for a turn of the loop and for each way out, and that the rows one after the other are the rows as one list.
use Prim.Native.Nat.{ℕ, zero, suc, ◌+◌, ◌-◌, ◌≤◌, ◌<◌}
use mathlib.Core.Path.{◌≡◌, refl, sym, ap, ◌∙◌}
use mathlib.Core.Bool.{Bool, true, false, ◌&&◌, cond}
use mathlib.Core.List.{List}
use native.Mathlib.Omega.{arith}
use lib.Dec.{eqb}
use lib.IntN.{ℤ}
use lib.ListN.{length, take}
use borrow.Author.Tests.{eqb-true}
use Rattle.records.proofs.CheckLaws.{and_left}
use Rattle.index_types.specs.declared.Tally.{Tally}
use Rattle.entries.specs.Order.{order_ok}
use Rattle.entries.specs.Tally.{figures, plus}
use Rattle.entries.proofs.TallyLaws.{adds_up, figures_append, plus_none, plus_comm, plus_assoc}
use Rattle.std.specs.Prelude.{Ok, Err}
use Rattle.index_types.specs.Answers.{Tallied}
use Rattle.buffer_core.specs.Edition.{Edition, RowRead, good, bad}
use Rattle.buffer_core.specs.Spills.{Sources, spill_read}
use Rattle.buffer_core.specs.Rows.{then_more, then_rows, rows_up}
use Rattle.buffer_core.specs.Flip.{check_row, row_checked}
use Rattle.buffer_core.specs.Tally.{tally_over}
use Rattle.spill_rows.specs.Answers.{Read}
use Rattle.spill_rows.specs.Internal.{CheckedInto, read_of}
use Rattle.spill_rows.proofs.CheckedLaws.{nope}
use Rattle.row_tallies.specs.Internal.{counted, tally_row, tally_rows}

-- ---- a row

no_counts : (code : ℕ) (t : Tally) → Err code ≡ Ok t → ⊥
no_counts code t e = let z : ◌≡◌ {A = ℕ} 0 1 = cc in omega arith

-- a row that was counted has 512 entries
pub record Row (x : RowRead) (t : Tally) : Type 0 where
  pub numbers : List ℤ
  pub is : x ≡ good numbers
  pub long : length numbers ≡ 512
  pub figured : t ≡ figures numbers

pub row_of : (y : RowRead) (t : Tally) → Ok t ≡ counted (check_row y) → Row (check_row y) t
row_of (bad code) t e = absurd (no_counts code t (sym e))
row_of (good zs) t e = by_test (eqb (length zs) 512 && order_ok zs) refl e
  where
    by_test : (b : Bool) → eqb (length zs) 512 && order_ok zs ≡ b → Ok t ≡ counted (cond b (good zs) (bad 13)) → Row (cond b (good zs) (bad 13)) t
    by_test true p e =
        let q : t ≡ figures zs = cc in
        record { numbers = zs; is = refl; long = eqb-true (length zs) 512 (and_left (eqb (length zs) 512) (order_ok zs) p); figured = q }
    by_test false p e = absurd (no_counts 13 t (sym e))

pub counted_all : (y : RowRead) (t : Tally) → Ok t ≡ counted (check_row y) → t.unspent + t.spent + t.unknown ≡ 512
counted_all y t e =
    let r = row_of y t e in
    ap (λ (x : Tally). x.unspent + x.spent + x.unknown) r.figured ∙ adds_up r.numbers ∙ r.long

-- what a checked read tells
pub counted_good : (x : RowRead) (r : Read) (out : List ℤ) → CheckedInto x r out → r ≡ (Ok tt) → (t : Tally) → t ≡ figures (take 512 out) → take 512 out ≡ out → Ok t ≡ counted x
counted_good x r out c e t q f = rw (c.numbers e) (ap Ok (q ∙ ap figures f))

pub counted_bad : (x : RowRead) (r : Read) (out : List ℤ) → CheckedInto x r out → (code : ℕ) → r ≡ Err code → Err code ≡ counted x
counted_bad (good zs) r out c code e = let a = c.answer in let z : ◌≡◌ {A = ℕ} 0 1 = cc in absurd (omega arith)
counted_bad (bad d) r out c code e = let a = c.answer in let z : code ≡ d = cc in ap Err z

-- ---- a turn of the loop, and its end

module _ (E : Edition) (w : Sources) (n m : ℕ) (t : Tally) (h : n < m) where
  abbrev f : ℕ → RowRead
  f i = row_checked E w i

  left : m - n ≡ suc (m - (n + 1))
  left = omega arith

  pub turn : (more : Tally) → Ok more ≡ counted (f n) → (t' : Tally) → t' ≡ plus t more → tally_rows f n (m - n) t ≡ tally_rows f (n + 1) (m - (n + 1)) t'
  unfolding tally_rows
  turn more e t' p =
      let r = row_of (spill_read E _ w n) more e in
      let a : t' ≡ plus t (figures r.numbers) = p ∙ ap (plus t) r.figured in
      rw left (ap (λ (x : RowRead). tally_row x t (λ u. tally_rows f (n + 1) (m - (n + 1)) u)) r.is ∙ ap (λ (u : Tally). tally_rows f (n + 1) (m - (n + 1)) u) (sym a))

  pub stop : (code : ℕ) → Err code ≡ counted (f n) → Err code ≡ tally_rows f n (m - n) t
  unfolding tally_rows
  stop code e = rw left (by_row (f n) e)
    where
      by_row : (x : RowRead) → Err code ≡ counted x → Err code ≡ tally_row x t (λ u. tally_rows f (n + 1) (m - (n + 1)) u)
      by_row (good zs) e = absurd (no_counts code (figures zs) e)
      by_row (bad d) e = let z : code ≡ d = cc in ap Err z

pub past : (E : Edition) (w : Sources) (n m : ℕ) (t : Tally) → m ≤ n → tally_rows (row_checked E w) n (m - n) t ≡ Ok t
unfolding tally_rows
past E w n m t h = let z : m - n ≡ 0 = omega arith in rw z

-- ---- row by row, and as one list

abbrev pub added : RowRead → Tally → Tallied
added (bad code) t = Err code
added (good zs) t = Ok (plus t (figures zs))

module _ (f : ℕ → RowRead) where
  pub all_added : (n k : ℕ) (t : Tally) → tally_rows f n k t ≡ added (rows_up f n k) t
  unfolding tally_rows rows_up
  all_added n zero t = ap Ok (sym (plus_none t))
  all_added n (suc k) t = by_row (f n) (λ u. all_added (n + 1) k u)
    where
      more : (zs : List ℤ) (x : RowRead) → added x (plus t (figures zs)) ≡ added (then_more zs x) t
      more zs (bad code) = refl
      more zs (good ys) = ap Ok (plus_assoc t (figures zs) (figures ys) ∙ ap (plus t) (sym (figures_append zs ys)))

      by_row : (x : RowRead) → ((u : Tally) → tally_rows f (n + 1) k u ≡ added (rows_up f (n + 1) k) u)
          → tally_row x t (λ u. tally_rows f (n + 1) k u) ≡ added (then_rows x (rows_up f (n + 1) k)) t
      by_row (bad code) rest = refl
      by_row (good zs) rest = rest (plus t (figures zs)) ∙ more zs (rows_up f (n + 1) k)

  pub rows_then_head : (k : ℕ) (zs : List ℤ) → tally_rows f 0 k (figures zs) ≡ tally_over (rows_up f 0 k) zs
  rows_then_head k zs = all_added 0 k (figures zs) ∙ by_rows (rows_up f 0 k)
    where
      by_rows : (x : RowRead) → added x (figures zs) ≡ tally_over x zs
      by_rows (bad code) = refl
      by_rows (good ys) = ap Ok (plus_comm (figures zs) (figures ys) ∙ sym (figures_append ys zs))

-- ---- what the checks tell

module _ (g : ℕ → RowRead) (k : ℕ) (t : Tally) where
  pub all_good : (s : Tally) → Ok s ≡ tally_rows g 0 k t → (Ok tt) ≡ read_of (rows_up g 0 k)
  all_good s e = by_rows (rows_up g 0 k) (e ∙ all_added g 0 k t)
    where
      by_rows : (x : RowRead) → Ok s ≡ added x t → (Ok tt) ≡ read_of x
      by_rows (good zs) q = refl
      by_rows (bad code) q = nope (cc)

  pub first_bad : (code : ℕ) → Err code ≡ tally_rows g 0 k t → Err code ≡ read_of (rows_up g 0 k)
  first_bad code e = by_rows (rows_up g 0 k) (e ∙ all_added g 0 k t)
    where
      by_rows : (x : RowRead) → Err code ≡ added x t → Err code ≡ read_of x
      by_rows (good zs) q = nope (cc)
      by_rows (bad d) q = let z : code ≡ d = cc in ap Err z
