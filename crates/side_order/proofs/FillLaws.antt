-- One law for each way that a cursor is filled: it stays, steps to the next row, to the head, or is at the end.
use mathlib.Core.Path.{◌≡◌, refl, sym, ◌∙◌, ap}
use mathlib.Core.List.{List, [], ◌∷◌, ◌++◌, append-nil, append_assoc}
use Prim.Native.Nat.{ℕ, suc, ◌+◌, ◌-◌, ◌≤◌, ◌<◌}
use native.Mathlib.Omega.{arith}
use native.Mathlib.Numerals.{add-one}
use lib.IntN.{ℤ, pos}
use lib.ListN.{length, get_or, take, drop, replicate, length-append, length-take}
use lib.Seq.{take-append_seam, drop-cons}
use borrow.Author.Tests.{le-leb, lt-leb}
use Rattle.records.proofs.TurnLaws.{left_all}
use Rattle.stores.specs.Stores.{write}
use Rattle.stores.proofs.StoreLaws.{length_write}
use Rattle.index_types.specs.declared.RowEdition.{RowEdition}
use Rattle.segment_id.specs.declared.Kind.{Kind}
use Rattle.buffer_core.specs.Edition.{RowRead, bad, good, edition_of}
use Rattle.buffer_core.specs.Spills.{Sources, spill_read}
use Rattle.buffer_core.specs.Rows.{then_more, then_rows, rows_up}
use Rattle.std.specs.Prelude.{Ok, Err}
use Rattle.row_edition.specs.Answers.{SpillRead}
use Rattle.row_edition.specs.Internal.{SpillInto}
use Rattle.spill_rows.specs.Internal.{read_of}
use Rattle.spill_rows.proofs.CheckedLaws.{nope}
use Rattle.side_order.specs.declared.Cursor.{Cursor}
use Rattle.side_order.specs.Side.{taken_row, row_taken, numbers_in}
use Rattle.side_order.specs.Internal.{from_row, to_compare, TakenInto, Standing, Filled}

abbrev pub cursor_of : (next at end : ℕ) → Cursor
cursor_of next at end = record { next = next; at = at; end = end }

module _ (f : ℕ → RowRead) (spills : ℕ) (head : List ℤ) where
  -- nothing is left of the row in hand
  used_up : (c : Cursor) (row : List ℤ) → c.end ≤ c.at → to_compare f spills head c row ≡ from_row f spills head c.next
  unfolding to_compare
  used_up c row h = let z : c.end - c.at ≡ 0 = omega arith in rw z

  at_head : from_row f spills head spills ≡ head
  unfolding from_row rows_up
  at_head = let z : spills - spills ≡ 0 = omega arith in rw (le-leb spills spills (omega arith), z)

  past_head : (n : ℕ) → spills < n → from_row f spills head n ≡ []
  unfolding from_row
  past_head n h = rw (lt-leb n spills h)

  -- a row, then the rows behind it
  row_first : (n : ℕ) (zs : List ℤ) → n < spills → f n ≡ good zs → read_of (rows_up f n (spills - n)) ≡ (Ok tt) → from_row f spills head n ≡ zs ++ from_row f spills head (n + 1)
  unfolding from_row rows_up
  row_first n zs h e g =
      let left : spills - n ≡ suc (spills - (n + 1)) = omega arith in
      rw (le-leb n spills (omega arith), le-leb (n + 1) spills (omega arith), left, e) (by_rows (rows_up f (n + 1) (spills - (n + 1))) (rw (left, e) at g))
    where
      by_rows : (x : RowRead) → read_of (then_rows (good zs) x) ≡ (Ok tt) → numbers_in (then_more zs x) ++ head ≡ zs ++ (numbers_in x ++ head)
      by_rows (bad c) q = nope (cc)
      by_rows (good ys) q = append_assoc zs ys head

  rows_on : (n : ℕ) → n < spills → read_of (rows_up f n (spills - n)) ≡ (Ok tt) → read_of (rows_up f (n + 1) (spills - (n + 1))) ≡ Ok tt
  unfolding rows_up
  rows_on n h g = let left : spills - n ≡ suc (spills - (n + 1)) = omega arith in by_rows (f n) (rows_up f (n + 1) (spills - (n + 1))) (rw left at g)
    where
      by_rows : (x y : RowRead) → read_of (then_rows x y) ≡ (Ok tt) → read_of y ≡ Ok tt
      by_rows (bad c) y q = nope (cc)
      by_rows (good zs) (bad c) q = nope (cc)
      by_rows (good zs) (good ys) q = refl

  row_is_good : (n : ℕ) → n < spills → read_of (rows_up f n (spills - n)) ≡ (Ok tt) → read_of (f n) ≡ Ok tt
  unfolding rows_up
  row_is_good n h g = let left : spills - n ≡ suc (spills - (n + 1)) = omega arith in by_rows (f n) (rows_up f (n + 1) (spills - (n + 1))) (rw left at g)
    where
      by_rows : (x y : RowRead) → read_of (then_rows x y) ≡ (Ok tt) → read_of x ≡ Ok tt
      by_rows (bad c) y q = nope (cc)
      by_rows (good zs) y q = refl

  rows_none : (n : ℕ) → spills ≤ n → read_of (rows_up f n (spills - n)) ≡ Ok tt
  unfolding rows_up
  rows_none n h = let z : spills - n ≡ 0 = omega arith in rw z

less_none : (n : ℕ) → n - 0 ≡ n
less_none n = omega arith

pub took : (n : ℕ) (l : List ℤ) → n ≤ length l → length (take n l) ≡ n
took n l h = simp length-take (omega arith)

-- a row that was taken has its numbers first in the places
record Row (x : RowRead) (n : ℕ) (out : List ℤ) : Type 0 where
  numbers : List ℤ
  is : x ≡ good numbers
  counted : length numbers ≡ n
  some : 0 < n
  few : n ≤ 512
  placed : take n out ≡ numbers

row_of : (y : RowRead) (r : SpillRead) (out : List ℤ) → TakenInto (taken_row y) r out → (n : ℕ) → r ≡ Ok n → length out ≡ 512 → Row (taken_row y) n out
row_of (bad c) r out t n e l = let s = t.read in nope (cc)
row_of (good []) r out t n e l = let s = t.read in nope (cc)
row_of (good (z ∷ zs)) r out t n e l =
    let s = t.read in
    let p = s.0 in
    let d : suc (length zs) ≡ n = cc in
    let w : length out ≡ suc (length zs) + length (replicate (512 - suc (length zs)) (pos 0)) = ap length s.1 ∙ length-append (z ∷ zs) (replicate (512 - suc (length zs)) (pos 0)) in
    record {
      numbers = z ∷ zs;
      is = refl;
      counted = d;
      some = omega arith;
      few = omega arith;
      placed = (λ i. take (sym d i) (s.1 i)) ∙ take-append_seam (z ∷ zs) (replicate (512 - suc (length zs)) (pos 0));
    }

module _ (v : RowEdition) (kind : Kind) (w : Sources) (spills : ℕ) (head : List ℤ) (c : Cursor) (before : List ℤ) (S : Standing v kind w spills c before) where
  abbrev g : ℕ → RowRead
  g n = row_taken (edition_of v) kind w n

  pub stays : c.at < c.end → Filled v kind w spills head c before c before
  stays h = record { standing = S; same = refl; ended = λ k. absurd (omega arith) }

  pub to_row : c.end ≤ c.at → c.next < spills → (r : SpillRead) (out : List ℤ) → TakenInto (g c.next) r out → (n : ℕ) → r ≡ Ok n → length out ≡ 512
      → Filled v kind w spills head c before (cursor_of (c.next + 1) 0 n) out
  unfolding to_compare
  to_row h k r out t n e l =
      let o = row_of (spill_read (edition_of v) kind w c.next) r out t n e l in
      let q : to_compare g spills head (cursor_of (c.next + 1) 0 n) out ≡ o.numbers ++ from_row g spills head (c.next + 1) = ap (λ (m : ℕ). take m out ++ from_row g spills head (c.next + 1)) (less_none n) ∙ ap (λ (u : List ℤ). u ++ from_row g spills head (c.next + 1)) o.placed in
      record {
        standing = record { within = omega arith; bounded = o.few; counted = omega arith; long = l; taken = rows_on g spills head c.next k S.taken };
        same = q ∙ sym (row_first g spills head c.next o.numbers k o.is S.taken) ∙ sym (used_up g spills head c before h);
        ended = λ m. absurd (omega (arith, o.some));
      }

  -- a row that is behind the cursor is not refused
  pub not_refused : c.next < spills → (r : SpillRead) (out : List ℤ) → TakenInto (g c.next) r out → (code : ℕ) → r ≡ Err code → ⊥
  not_refused k r out t code e = by_row (g c.next) t.read (row_is_good g spills head c.next k S.taken)
    where
      by_row : (x : RowRead) → SpillInto x r out → read_of x ≡ (Ok tt) → ⊥
      by_row (good zs) s q = let p = s.0 in nope (cc)
      by_row (bad d) s q = nope (cc)

  pub to_head : c.end ≤ c.at → c.next ≡ spills → (n : ℕ) → length head ≡ n → n ≤ 512 → (out : List ℤ) → out ≡ write 0 head before → Filled v kind w spills head c before (cursor_of (c.next + 1) 0 n) out
  unfolding to_compare write
  to_head h k n d m out e =
      let l : length out ≡ 512 = ap length e ∙ length_write 0 head before (omega (arith, S.long)) ∙ S.long in
      let p : take n out ≡ head = (λ i. take (sym d i) (e i)) ∙ take-append_seam head (drop (0 + length head) before) in
      let z : from_row g spills head (c.next + 1) ≡ [] = past_head g spills head (c.next + 1) (omega arith) in
      let q : to_compare g spills head (cursor_of (c.next + 1) 0 n) out ≡ head = ap (λ (m : ℕ). take m out ++ from_row g spills head (c.next + 1)) (less_none n) ∙ (λ i. p i ++ z i) ∙ append-nil head in
      record {
        standing = record { within = omega arith; bounded = m; counted = omega arith; long = l; taken = rows_none g spills head (c.next + 1) (omega arith) };
        same = q ∙ sym (used_up g spills head c before h ∙ ap (from_row g spills head) k ∙ at_head g spills head);
        ended = λ u. q ∙ none_in head (omega (arith, d, u));
      }
    where
      none_in : (l : List ℤ) → length l ≤ 0 → l ≡ []
      none_in [] u = refl
      none_in (x ∷ l) u = absurd (omega arith)

  pub at_end : c.end ≤ c.at → spills < c.next → Filled v kind w spills head c before c before
  at_end h k = record { standing = S; same = refl; ended = λ u. used_up g spills head c before h ∙ past_head g spills head c.next k }

-- ---- a turn of the comparison, and its ways out

-- the cursor behind the entry that it stands at
abbrev pub stepped : Cursor → Cursor
stepped c = cursor_of c.next (c.at + 1) c.end

module _ (v : RowEdition) (kind : Kind) (w : Sources) (spills : ℕ) (head : List ℤ) (c : Cursor) (row : List ℤ) (S : Standing v kind w spills c row) where
  abbrev left_at : Cursor → List ℤ
  left_at d = to_compare (λ n. row_taken (edition_of v) kind w n) spills head d row

  pub entry_first : c.at < c.end → left_at c ≡ get_or row c.at (pos 0) ∷ left_at (stepped c)
  unfolding to_compare
  entry_first h =
      let l = S.long in
      let b = S.bounded in
      let e : c.end - c.at ≡ suc (c.end - (c.at + 1)) = omega arith in
      let k : c.at < length row = omega arith in
      rw (e, drop-cons row c.at (pos 0), sym (add-one c.at))

  pub step_stands : c.at < c.end → Standing v kind w spills (stepped c) row
  step_stands h = record { within = omega arith; bounded = S.bounded; counted = S.counted; long = S.long; taken = S.taken }

pub starts : (v : RowEdition) (kind : Kind) (w : Sources) (spills : ℕ) (row : List ℤ) → length row ≡ 512 → read_of (rows_up (row_taken (edition_of v) kind w) 0 spills) ≡ (Ok tt) → Standing v kind w spills (cursor_of 0 0 0) row
starts v kind w spills row l t = record { within = omega arith; bounded = omega arith; counted = omega arith; long = l; taken = rw left_all t }

pub all_to_compare : (f : ℕ → RowRead) (spills : ℕ) (head row : List ℤ) → to_compare f spills head (cursor_of 0 0 0) row ≡ numbers_in (rows_up f 0 spills) ++ head
unfolding to_compare from_row
all_to_compare f spills head row = rw (le-leb 0 spills (omega arith), left_all)
