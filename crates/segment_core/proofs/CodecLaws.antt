-- Laws of the row as a code: how long a row is, what an accepted read gives, which refusals there are, and that rows read back, also with other boxes.
use Prim.Native.Nat.{ℕ, zero, suc, ◌*◌, ◌-◌, ◌≤◌, ◌<◌}
use mathlib.Core.Path.{◌≡◌, refl, sym, ap, subst, ◌∙◌}
use mathlib.Core.Logic.{◌⊎◌, inl, inr, ⊎_elim}
use mathlib.Core.Bool.{Bool, true, false, cond, ◌||◌}
use mathlib.Core.List.{List, [], ◌∷◌, append-nil}
use native.Mathlib.Omega.{arith}
use native.Mathlib.Nat.{zero-add}
use lib.Dec.{leb, ltb, eqb}
use lib.IntN.{ℤ, pos, negsuc}
use lib.ListN.{length, length-append}
use borrow.Author.Tests.{eq-eqb, eqb-true, le-leb, leb-true}
use mir.Syntax.{w32, w64}
use mir.Val.{SFits}
use Rattle.signed.specs.Sign.{is_negative}
use Rattle.vlq_core.specs.Zigzag.{zig, zag}
use Rattle.vlq_core.specs.Groups.{enc}
use Rattle.std.specs.Prelude.{Ok, Err}
use Rattle.vlq_core.specs.Answers.{Got}
use Rattle.vlq_core.specs.Reading.{read_at, signed_of}
use Rattle.vlq_core.proofs.ZigzagLaws.{zag_fits}
use Rattle.vlq_core.proofs.GroupLaws.{number_length}
use Rattle.vlq_core.proofs.ReadLaws.{read_fits, read_next, read_refusals}
use Rattle.segment_core.specs.Answers.{Counts}
use Rattle.segment_core.specs.Row.{numbers_bytes, list_bytes, row_bytes, row_limit}
use Rattle.segment_core.specs.Reading.{length_of, length_at, Nums, nums, bad, cons_nums, numbers_at, numbers_from, list_at, both_counts, counts_at, Seg, seg, no_seg, list_then, counts_then, segment_at, ended, row_of, with_boxes, redo}
use Rattle.segment_core.specs.Loading.{load}
use Rattle.segment_core.proofs.RowLaws.{row_length, length_size, counts_size}
use Rattle.segment_core.proofs.ListLaws.{list_most}
use Rattle.segment_core.proofs.BackLaws.{All64, Count, Writable, segment_back}

-- ---- a row has at most 10,254 bytes

pub numbers_size : (zs : List ℤ) → All64 zs → length (numbers_bytes zs) ≤ 10 * length zs
unfolding numbers_bytes
numbers_size [] f = omega arith
numbers_size (z ∷ zs) f = omega (arith, length-append (enc (zig z)) (numbers_bytes zs), numbers_size zs f.1, (number_length w64 9 (omega arith) z f.0).1)

list_size : (zs : List ℤ) → length zs ≤ 512 → All64 zs → length (list_bytes zs) ≤ 5122
list_size zs h f = omega (arith, length-append (enc (zig (pos (length zs)))) (numbers_bytes zs), numbers_size zs f, length_size (length zs) h)

pub row_size : (ts bs : List ℤ) (b t : ℤ) → Writable ts bs b t → length (row_bytes ts bs b t) ≤ row_limit
row_size ts bs b t w =
    omega (
      arith,
      row_length ts bs b t,
      list_size ts w.txs_few w.txs_fit,
      list_size bs w.boxes_few w.boxes_fit,
      counts_size b t w.box_count.1 w.tx_count.1,
    )

-- ---- what reading gives: accepted, it is writable and lies within the bytes; refused, the number is one of a few

-- a refusal from 1 to m, or 34
abbrev pub Few : ℕ → ℕ → Type 0
Few m r = ((1 ≤ r) × (r ≤ m)) ⊎ (r ≡ 34)

few : (m r : ℕ) → 1 ≤ r → r ≤ m → Few m r
few m r h k = inl (h, k)

one_or_two : (m r : ℕ) → 2 ≤ m → (r ≡ 1) ⊎ ((r ≡ 2) ⊎ (r ≡ 34)) → Few m r
one_or_two m r h e = ⊎_elim (λ (q : r ≡ 1). few m r (omega arith) (omega arith)) (λ x. ⊎_elim (λ (q : r ≡ 2). few m r (omega arith) (omega arith)) (λ (q : r ≡ 34). inr q) x) e

module _ (s : List ℕ) where
  abbrev GoodNums : ℕ → Nums → Type 0
  GoodNums at (nums zs n) = All64 zs × (at ≤ n) × (n ≤ length s)
  GoodNums at (bad r) = Few 5 r

  numbers_good : (k at : ℕ) → at ≤ length s → GoodNums at (numbers_at k s at)
  unfolding numbers_at
  numbers_good zero at h = (tt, omega arith, h)
  numbers_good (suc k) at h = by_answer (read_at 64 s at) refl (λ n q. numbers_good k n q)
    where
      more : (z : ℤ) (n : ℕ) → SFits w64 z → at < n → (ns : Nums) → GoodNums n ns → GoodNums at (cons_nums z ns)
      more z n f g (nums zs m) p = ((f, p.0), omega arith, p.2)
      more z n f g (bad r) p = p

      by_answer : (g : Got) → read_at 64 s at ≡ g → ((n : ℕ) → n ≤ length s → GoodNums n (numbers_at k s n)) → GoodNums at (signed_of (λ z n. cons_nums z (numbers_at k s n)) bad g)
      by_answer (Ok (v, n)) e rest =
          let q = read_next 64 s at v n (sym e) in
          more (zag v) n (zag_fits w64 v (read_fits 64 s at v n (sym e))) q.0 (numbers_at k s n) (rest n q.1)
      by_answer (Err r) e rest = one_or_two 5 r (omega arith) (read_refusals 64 s at r (sym e))

  abbrev GoodLength : ℕ → Got → Type 0
  GoodLength at (Ok (k, n)) = (at < n) × (n ≤ length s)
  GoodLength at (Err r) = Few 5 r

  length_good : (at : ℕ) → GoodLength at (length_at s at)
  unfolding length_at
  length_good at = by_answer (read_at 32 s at) refl
    where
      by_tests : (p q : Bool) (k n : ℕ) → at < n → n ≤ length s → GoodLength at (cond p (Err 4) (cond q (Err 5) (Ok (k, n))))
      by_tests true q k n f g = few 5 4 (omega arith) (omega arith)
      by_tests false true k n f g = few 5 5 (omega arith) (omega arith)
      by_tests false false k n f g = (f, g)

      by_sign : (z : ℤ) (n : ℕ) → at < n → n ≤ length s → GoodLength at (length_of s z n)
      by_sign (pos k) n f g = by_tests (ltb 512 k) (ltb (length s - n) k) k n f g
      by_sign (negsuc k) n f g = few 5 3 (omega arith) (omega arith)

      by_answer : (g : Got) → read_at 32 s at ≡ g → GoodLength at (signed_of (length_of s) Err g)
      by_answer (Ok (v, n)) e = let q = read_next 32 s at v n (sym e) in by_sign (zag v) n q.0 q.1
      by_answer (Err r) e = one_or_two 5 r (omega arith) (read_refusals 32 s at r (sym e))

  abbrev GoodList : ℕ → Nums → Type 0
  GoodList at (nums zs n) = All64 zs × (at < n) × (n ≤ length s)
  GoodList at (bad r) = Few 5 r

  pub list_good : (at : ℕ) → GoodList at (list_at s at)
  unfolding list_at
  list_good at = by_answer (length_at s at) (length_good at)
    where
      past : (n : ℕ) → at < n → (ns : Nums) → GoodNums n ns → GoodList at ns
      past n f (nums zs m) p = (p.0, omega arith, p.2)
      past n f (bad r) p = p

      by_answer : (g : Got) → GoodLength at g → GoodList at (numbers_from s g)
      by_answer (Ok (k, n)) q = past n q.0 (numbers_at k s n) (numbers_good k n q.1)
      by_answer (Err r) q = q

  abbrev GoodCounts : ℕ → Counts → Type 0
  GoodCounts at (Ok (b, t, n)) = Count b × Count t × (at < n) × (n ≤ length s)
  GoodCounts at (Err r) = Few 6 r

  pub counts_good : (at : ℕ) → GoodCounts at (counts_at s at)
  unfolding counts_at
  counts_good at = by_first (read_at 32 s at) refl
    where
      by_signs : (b t : ℤ) (n : ℕ) (p q : Bool) → is_negative b ≡ p → is_negative t ≡ q → SFits w32 b → SFits w32 t → at < n → n ≤ length s
          → GoodCounts at (cond (p || q) (Err 6) (Ok (b, t, n)))
      by_signs b t n true q e f g h i j = few 6 6 (omega arith) (omega arith)
      by_signs b t n false true e f g h i j = few 6 6 (omega arith) (omega arith)
      by_signs b t n false false e f g h i j = ((e, g), (f, h), i, j)

      by_second : (b : ℤ) (m : ℕ) → SFits w32 b → at < m → (g : Got) → read_at 32 s m ≡ g → GoodCounts at (signed_of (both_counts b) Err g)
      by_second b m f h (Ok (v, n)) e =
          let q = read_next 32 s m v n (sym e) in
          by_signs b (zag v) n (is_negative b) (is_negative (zag v)) refl refl f (zag_fits w32 v (read_fits 32 s m v n (sym e))) (omega arith) q.1
      by_second b m f h (Err r) e = one_or_two 6 r (omega arith) (read_refusals 32 s m r (sym e))

      by_first : (g : Got) → read_at 32 s at ≡ g → GoodCounts at (signed_of (λ b n. signed_of (both_counts b) Err (read_at 32 s n)) Err g)
      by_first (Ok (v, n)) e = by_second (zag v) n (zag_fits w32 v (read_fits 32 s at v n (sym e))) (read_next 32 s at v n (sym e)).0 (read_at 32 s n) refl
      by_first (Err r) e = one_or_two 6 r (omega arith) (read_refusals 32 s at r (sym e))

-- an accepted segment
pub record Accepted (s : List ℕ) (at : ℕ) (ts bs : List ℤ) (b t : ℤ) (n : ℕ) : Type 0 where
  pub content : Writable ts bs b t
  pub after : at < n
  pub within : n ≤ length s

module _ (s : List ℕ) (at : ℕ) where
  abbrev GoodSeg : Seg → Type 0
  GoodSeg (seg ts bs b t n) = Accepted s at ts bs b t n
  GoodSeg (no_seg r) = Few 6 r

  six : (r : ℕ) → Few 5 r → Few 6 r
  six r h = ⊎_elim (λ (x : (1 ≤ r) × (r ≤ 5)). few 6 r x.0 (omega (arith, x.1))) (λ (q : r ≡ 34). inr q) h

  segment_good : GoodSeg (segment_at s at)
  unfolding segment_at
  segment_good = by_txs (list_at s at) refl (list_good s at)
    where
      by_counts : (ts bs : List ℤ) (q : ℕ) → length ts ≤ 512 → All64 ts → length bs ≤ 512 → All64 bs → at < q → (g : Counts) → GoodCounts s q g → GoodSeg (counts_then (seg ts bs) g)
      by_counts ts bs q a f d g h (Ok (b, t, n)) p = record {
        content = record { txs_few = a; txs_fit = f; boxes_few = d; boxes_fit = g; box_count = p.0; tx_count = p.1 };
        after = omega (arith, p.2);
        within = p.3;
      }
      by_counts ts bs q a f d g h (Err r) p = p

      by_boxes : (ts : List ℤ) (p : ℕ) → length ts ≤ 512 → All64 ts → at < p → (g : Nums) → list_at s p ≡ g → GoodList s p g
          → GoodSeg (list_then (λ bs q. counts_then (seg ts bs) (counts_at s q)) g)
      by_boxes ts p a f h (nums bs q) e g = by_counts ts bs q a f (list_most s p bs q e) g.0 (omega (arith, g.1)) (counts_at s q) (counts_good s q)
      by_boxes ts p a f h (bad r) e g = six r g

      by_txs : (g : Nums) → list_at s at ≡ g → GoodList s at g → GoodSeg (list_then (λ ts p. list_then (λ bs q. counts_then (seg ts bs) (counts_at s q)) (list_at s p)) g)
      by_txs (nums ts p) e g = by_boxes ts p (list_most s at ts p e) g.0 g.1 (list_at s p) refl (list_good s p)
      by_txs (bad r) e g = six r g

  pub segment_accepted : (ts bs : List ℤ) (b t : ℤ) (n : ℕ) → segment_at s at ≡ seg ts bs b t n → Accepted s at ts bs b t n
  segment_accepted ts bs b t n e = subst GoodSeg e segment_good

  pub segment_refusals : (r : ℕ) → segment_at s at ≡ no_seg r → Few 6 r
  segment_refusals r e = subst GoodSeg e segment_good

-- ---- the row call

-- a row that was accepted
pub record Row (limit : ℕ) (s : List ℕ) (ts bs : List ℤ) (b t : ℤ) (n : ℕ) : Type 0 where
  pub is : segment_at s 0 ≡ seg ts bs b t n
  pub whole : n ≡ length s
  pub size : length s ≤ limit

module _ (limit : ℕ) (s : List ℕ) where
  abbrev GoodRow : Seg → Type 0
  GoodRow (seg ts bs b t n) = Row limit s ts bs b t n
  GoodRow (no_seg r) = Few 6 r ⊎ ((r ≡ 8) ⊎ (r ≡ 25))

  row_good : GoodRow (row_of limit s)
  unfolding row_of
  row_good = by_limit (leb (length s) limit) refl
    where
      by_end : (t : Bool) (ts bs : List ℤ) (b u : ℤ) (n : ℕ) → eqb n (length s) ≡ t → length s ≤ limit → segment_at s 0 ≡ seg ts bs b u n → GoodRow (cond t (seg ts bs b u n) (no_seg 8))
      by_end true ts bs b u n e h f = record { is = f; whole = eqb-true n (length s) e; size = h }
      by_end false ts bs b u n e h f = inr (inl refl)

      by_segment : (g : Seg) → segment_at s 0 ≡ g → length s ≤ limit → GoodRow (ended true (length s) g)
      by_segment (seg ts bs b u n) e h = by_end (eqb n (length s)) ts bs b u n refl h e
      by_segment (no_seg r) e h = inl (segment_refusals s 0 r e)

      by_limit : (t : Bool) → leb (length s) limit ≡ t → GoodRow (cond t (ended true (length s) (segment_at s 0)) (no_seg 25))
      by_limit true e = by_segment (segment_at s 0) refl (leb-true (length s) limit e)
      by_limit false e = inr (inr refl)

  pub row_accepted : (ts bs : List ℤ) (b t : ℤ) (n : ℕ) → row_of limit s ≡ seg ts bs b t n → Row limit s ts bs b t n
  row_accepted ts bs b t n e = subst GoodRow e row_good

  pub row_writable : (ts bs : List ℤ) (b t : ℤ) (n : ℕ) → row_of limit s ≡ seg ts bs b t n → Writable ts bs b t
  row_writable ts bs b t n e = (segment_accepted s 0 ts bs b t n (row_accepted ts bs b t n e).is).content

  pub row_refusals : (r : ℕ) → row_of limit s ≡ no_seg r → Few 6 r ⊎ ((r ≡ 8) ⊎ (r ≡ 25))
  row_refusals r e = subst GoodRow e row_good

-- a row within the limit is what its segment is, with nothing left over
pub row_within : (limit : ℕ) (s : List ℕ) → length s ≤ limit → row_of limit s ≡ ended true (length s) (segment_at s 0)
unfolding row_of
row_within limit s h = rw (le-leb (length s) limit h)

-- what was written is read back by the row call
pub row_back : (limit : ℕ) → row_limit ≤ limit → (ts bs : List ℤ) (b t : ℤ) → Writable ts bs b t
    → row_of limit (row_bytes ts bs b t) ≡ seg ts bs b t (length (row_bytes ts bs b t))
unfolding row_of
row_back limit h ts bs b t w =
    let s : List ℕ = row_bytes ts bs b t in
    let e : segment_at s 0 ≡ seg ts bs b t (length s) = segment_back ts bs b t w s [] [] 0 (sym (append-nil s)) refl ∙ ap (seg ts bs b t) (zero-add (length s)) in
    rw (le-leb (length s) limit (omega (arith, row_size ts bs b t w)), e, eq-eqb (length s) (length s) refl)

-- ---- a row with other boxes

module _ (limit : ℕ) (h : row_limit ≤ limit) (s : List ℕ) (ts bs : List ℤ) (b t : ℤ) (n : ℕ) (e : row_of limit s ≡ seg ts bs b t n)
    (bs' : List ℤ) (few : length bs' ≤ 512) (fit : All64 bs') where
  other : Writable ts bs' b t
  other =
      let w = row_writable limit s ts bs b t n e in
      record { txs_few = w.txs_few; txs_fit = w.txs_fit; boxes_few = few; boxes_fit = fit; box_count = w.box_count; tx_count = w.tx_count }

  pub redo_is : redo s bs' ≡ row_bytes ts bs' b t
  unfolding redo
  redo_is = ap (λ (g : Seg). with_boxes g s bs') (row_accepted limit s ts bs b t n e).is

  -- it has the new boxes, and what else the row had
  pub redo_back : row_of limit (redo s bs') ≡ seg ts bs' b t (length (redo s bs'))
  redo_back = rw redo_is (row_back limit h ts bs' b t other)

  pub redo_size : length (redo s bs') ≤ row_limit
  redo_size = rw redo_is (row_size ts bs' b t other)

-- ---- the answer depends on the bytes only, not on what the borrowed lists held
pub answer_only : (g : Seg) (l m l' m' : List ℤ) → (load g l m).answer ≡ (load g l' m').answer
answer_only (seg ts bs b t n) l m l' m' = refl
answer_only (no_seg r) l m l' m' = refl
