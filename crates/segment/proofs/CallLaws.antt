-- Laws of the calls on segment rows: one for each way out, that what was written is read back, and that what was read is written as it was.
use Prim.Native.Nat.{ℕ, ◌+◌, ◌-◌, ◌≤◌, ◌<◌}
use mathlib.Core.Path.{◌≡◌, refl, sym, ap, ◌∙◌}
use mathlib.Core.Bool.{Bool, true, false, ◌&&◌, cond}
use mathlib.Core.List.{List, ◌++◌, append_assoc}
use native.Mathlib.Omega.{arith}
use lib.Dec.{leb}
use lib.IntN.{ℤ}
use lib.ListN.{length, take, drop}
use lib.Seq.{take_at, drop_at, length-take-le}
use borrow.Author.Tests.{le-leb, lt-leb, leb-true}
use Rattle.stores.specs.Stores.{write}
use Rattle.std.specs.Prelude.{Ok, Err}
use Rattle.vlq_core.specs.Writing.{written, put_bytes}
use Rattle.vlq_core.proofs.UniqueLaws.{Bytes}
use Rattle.index_types.specs.declared.Loaded.TheVariants as loaded
use Rattle.segment_core.specs.Row.{row_bytes, row_limit}
use Rattle.segment_core.specs.Reading.{Seg, seg, no_seg, segment_at, ended, row_of}
use Rattle.segment_core.specs.Loading.{loading, padded, load}
use Rattle.segment_core.proofs.BackLaws.{Writable}
use Rattle.segment_core.proofs.CodecLaws.{row_within, row_back, row_writable}
use Rattle.segment_core.proofs.UniqueLaws.{row_unique, listed, listed_size}
use Rattle.segment.specs.Calls.{held, write_of, read_of}

-- ---- writing

pub held_over : (n len : ℕ) → 512 < n → false ≡ held n len
held_over n len h = rw (lt-leb n 512 h)

pub held_within : (n len : ℕ) → n ≤ 512 → leb n len ≡ held n len
held_within n len h = rw (le-leb n 512 h)

pub held_true : (n len : ℕ) → held n len ≡ true → (n ≤ 512) × (n ≤ len)
held_true n len h = by_tests (leb n 512) (leb n len) refl refl h
  where
    by_tests : (p q : Bool) → leb n 512 ≡ p → leb n len ≡ q → p && q ≡ true → (n ≤ 512) × (n ≤ len)
    by_tests true true e f g = (leb-true n 512 e, leb-true n len f)
    by_tests true false e f g = let x : ◌≡◌ {A = ℕ} 0 1 = cc in absurd (omega arith)
    by_tests false q e f g = let x : ◌≡◌ {A = ℕ} 0 1 = cc in absurd (omega arith)

module _ (ts : List ℤ) (n : ℕ) (bs : List ℤ) (m : ℕ) (b t : ℤ) (l : List ℕ) (at : ℕ) where
  pub write_25_txs : held n (length ts) ≡ false → written (Err 25) l ≡ write_of ts n bs m b t l at
  unfolding write_of
  write_25_txs h = rw h

  module _ (h : held n (length ts) ≡ true) where
    pub write_25_boxes : held m (length bs) ≡ false → written (Err 25) l ≡ write_of ts n bs m b t l at
    unfolding write_of
    write_25_boxes k = rw (h, k)

    pub write_row : held m (length bs) ≡ true → put_bytes (row_bytes (take n ts) (take m bs) b t) l at ≡ write_of ts n bs m b t l at
    unfolding write_of
    write_row k = rw (h, k)

-- ---- reading

module _ (limit : ℕ) (s : List ℕ) (l m : List ℤ) where
  pub read_25_lists : leb 512 (length l) && leb 512 (length m) ≡ false → loading (loaded.Refused 25) l m ≡ read_of limit s l m
  unfolding read_of
  read_25_lists h = rw h

  pub read_25_txs : length l < 512 → loading (loaded.Refused 25) l m ≡ read_of limit s l m
  read_25_txs h = read_25_lists (rw (lt-leb 512 (length l) h))

  module _ (h : 512 ≤ length l) where
    pub read_25_boxes : length m < 512 → loading (loaded.Refused 25) l m ≡ read_of limit s l m
    read_25_boxes k = read_25_lists (rw (le-leb 512 (length l) h, lt-leb 512 (length m) k))

    module _ (k : 512 ≤ length m) where
      read_row : load (row_of limit s) l m ≡ read_of limit s l m
      unfolding read_of
      read_row = rw (le-leb 512 (length l) h, le-leb 512 (length m) k)

      pub read_within : length s ≤ limit → load (ended true (length s) (segment_at s 0)) l m ≡ read_of limit s l m
      read_within g = ap (λ (x : Seg). load x l m) (sym (row_within limit s g)) ∙ read_row

  pub read_25_row : limit < length s → loading (loaded.Refused 25) l m ≡ read_of limit s l m
  unfolding read_of row_of
  read_25_row g = by_lists (leb 512 (length l) && leb 512 (length m))
    where
      by_lists : (t : Bool) → loading (loaded.Refused 25) l m ≡ load (cond t (row_of limit s) (no_seg 25)) l m
      by_lists true = rw (lt-leb (length s) limit g)
      by_lists false = refl

-- ---- what write_segment wrote, read_persisted_segment reads

-- the bytes of the output that a writer of s says it wrote are s
module _ (s l : List ℕ) (at k : ℕ) where
  bytes_written : at + length s ≤ length l → at + length s ≡ k → take (k - at) (drop at (write at s l)) ≡ s
  unfolding write
  bytes_written h e =
      let n : length s ≡ k - at = omega arith in
      rw (append_assoc (take at l) s (drop (at + length s) l)) (ap (take (k - at)) (drop_at (take at l) (s ++ drop (at + length s) l) at (length-take-le at l (omega arith))) ∙ take_at s (drop (at + length s) l) (k - at) n)

  pub answered : (p : Bool) → (cond p (put_bytes s l at) (written (Err 25) l)).answer ≡ Ok k
      → (k - at ≡ length s) × (take (k - at) (drop at (cond p (put_bytes s l at) (written (Err 25) l)).out) ≡ s)
  unfolding put_bytes
  answered true e = by_room (leb (at + length s) (length l)) refl e
    where
      by_room : (q : Bool) → leb (at + length s) (length l) ≡ q → (cond q (written (Ok (at + length s)) (write at s l)) (written (Err 32) l)).answer ≡ Ok k
          → (k - at ≡ length s) × (take (k - at) (drop at (cond q (written (Ok (at + length s)) (write at s l)) (written (Err 32) l)).out) ≡ s)
      by_room true h e = let f : at + length s ≡ k = cc in (omega arith, bytes_written (leb-true (at + length s) (length l) h) f)
      by_room false h e = let x : ◌≡◌ {A = ℕ} 0 1 = cc in absurd (omega arith)
  answered false e = let x : ◌≡◌ {A = ℕ} 0 1 = cc in absurd (omega arith)

pub round_trip : (ts : List ℤ) (n : ℕ) (bs : List ℤ) (m : ℕ) (b t : ℤ) (l : List ℕ) (at k : ℕ) → (write_of ts n bs m b t l at).answer ≡ Ok k
    → Writable (take n ts) (take m bs) b t → (xs ys : List ℤ) → 512 ≤ length xs → 512 ≤ length ys
    → read_of row_limit (take (k - at) (drop at (write_of ts n bs m b t l at).out)) xs ys ≡ load (seg (take n ts) (take m bs) b t (k - at)) xs ys
unfolding write_of
round_trip ts n bs m b t l at k e w xs ys f g =
    let s : List ℕ = row_bytes (take n ts) (take m bs) b t in
    let a = answered s l at k (held n (length ts) && held m (length bs)) e in
    ap (λ (x : List ℕ). read_of row_limit x xs ys) a.1 ∙ sym (read_row row_limit s xs ys f g)
    ∙ ap (λ (x : Seg). load x xs ys) (row_back row_limit (omega arith) (take n ts) (take m bs) b t w ∙ ap (seg (take n ts) (take m bs) b t) (sym a.0))

-- ---- a row that was read and is written again is the same row

pub held_listed : (zs l : List ℤ) → length zs ≤ 512 → 512 ≤ length l → held (length zs) (length (write 0 (padded zs) l)) ≡ true
held_listed zs l h k = rw (listed_size zs l h k, le-leb (length zs) 512 h, le-leb (length zs) (length l) (omega arith)) refl

pub rewritten : (limit : ℕ) (s : List ℕ) → Bytes s → (l m : List ℤ) (i j : ℕ) (b t : ℤ) (n : ℕ) → (read_of limit s l m).answer ≡ loaded.Read i j b t n
    → (out : List ℕ) (at : ℕ) → write_of (read_of limit s l m).txs i (read_of limit s l m).boxes j b t out at ≡ put_bytes s out at
unfolding read_of write_of
rewritten limit s all l m i j b t n e out at = by_lists (leb 512 (length l)) (leb 512 (length m)) refl refl e
  where
    by_row : 512 ≤ length l → 512 ≤ length m → (g : Seg) → row_of limit s ≡ g → (load g l m).answer ≡ loaded.Read i j b t n
        → write_of (load g l m).txs i (load g l m).boxes j b t out at ≡ put_bytes s out at
    by_row h k (seg ts bs b' t' n') g e =
        let w = row_writable limit s ts bs b' t' n' g in
        let i' : i ≡ length ts = cc in
        let j' : j ≡ length bs = cc in
        let b'' : b ≡ b' = cc in
        let t'' : t ≡ t' = cc in
        rw (i', j', b'', t'', held_listed ts l w.txs_few h, held_listed bs m w.boxes_few k, listed ts l, listed bs m)
        (ap (λ (x : List ℕ). put_bytes x out at) (sym (row_unique s all limit ts bs b' t' n' g)))
    by_row h k (no_seg r) g e = let x : ◌≡◌ {A = ℕ} 0 1 = cc in absurd (omega arith)

    by_lists : (p q : Bool) → leb 512 (length l) ≡ p → leb 512 (length m) ≡ q → (load (cond (p && q) (row_of limit s) (no_seg 25)) l m).answer ≡ loaded.Read i j b t n
        → write_of (load (cond (p && q) (row_of limit s) (no_seg 25)) l m).txs i (load (cond (p && q) (row_of limit s) (no_seg 25)) l m).boxes j b t out at ≡ put_bytes s out at
    by_lists true true x y e = by_row (leb-true 512 (length l) x) (leb-true 512 (length m) y) (row_of limit s) refl e
    by_lists true false x y e = let z : ◌≡◌ {A = ℕ} 0 1 = cc in absurd (omega arith)
    by_lists false q x y e = let z : ◌≡◌ {A = ℕ} 0 1 = cc in absurd (omega arith)
