-- An accepted row has the bytes that `write_segment` gives its content (document 02, U5): "Two accepted rows are then equal in bytes exactly when their contents are."
use Prim.Native.Nat.{ℕ, zero, suc, ◌+◌, ◌-◌, ◌*◌, ◌/◌, ◌%◌, ◌≤◌, ◌<◌}
use mathlib.Core.Path.{◌≡◌, refl, sym, ap, ap₂, subst, ◌∙◌}
use mathlib.Core.Logic.{⊎_elim}
use mathlib.Core.Bool.{Bool, true, false, cond, ◌||◌}
use mathlib.Core.List.{List, [], ◌∷◌, ◌++◌, append_assoc, append-nil}
use native.Mathlib.Omega.{arith}
use lib.Dec.{eqb, ltb}
use lib.IntN.{ℤ, pos, negsuc}
use lib.ListN.{length, take, drop, replicate, length-append, length-replicate}
use lib.Seq.{take-add, take_all, take-append_seam, drop-drop}
use borrow.Author.Tests.{eq-eqb, eqb-true, ne_eqb, lt-ltb, le-ltb}
use Rattle.stores.specs.Stores.{write}
use Rattle.stores.proofs.StoreLaws.{length_write}
use Rattle.signed.specs.Sign.{is_negative}
use Rattle.vlq_core.specs.Zigzag.{zig, zag}
use Rattle.vlq_core.specs.Groups.{enc}
use Rattle.std.specs.Prelude.{Ok, Err}
use Rattle.vlq_core.specs.Answers.{Got}
use Rattle.vlq_core.specs.Reading.{read_at, signed_of}
use Rattle.vlq_core.proofs.Split.{split}
use Rattle.vlq_core.proofs.ReadLaws.{read_next}
use Rattle.vlq_core.proofs.UniqueLaws.{Bytes, read_unique}
use Rattle.segment_core.specs.Answers.{Counts}
use Rattle.segment_core.specs.Row.{numbers_bytes, list_bytes, counts_bytes, row_bytes}
use Rattle.segment_core.specs.Reading.{length_of, length_at, Nums, nums, bad, cons_nums, numbers_at, numbers_from, list_at, both_counts, counts_at, Seg, seg, no_seg, list_then, counts_then, segment_at, ended, row_of}
use Rattle.segment_core.specs.Loading.{padded}
use Rattle.segment_core.proofs.BackLaws.{Writable}
use Rattle.segment_core.proofs.CodecLaws.{segment_accepted, row_accepted}

pub zig_zag : (c : ℕ) → zig (zag c) ≡ c
zig_zag c = ⊎_elim (λ (q : c % 2 < 1). rw (eq-eqb (c % 2) 0 (omega arith)) (omega arith)) (λ (q : 1 ≤ c % 2). rw (ne_eqb (c % 2) 0 (λ e. omega arith)) (omega arith)) (split (c % 2) 1)

module _ (s : List ℕ) (all : Bytes s) where
  -- the bytes from `at` to n are bs
  pub record Span (at n : ℕ) (bs : List ℕ) : Type 0 where
    pub past : at ≤ n
    pub is : take (n - at) (drop at s) ≡ bs

  pub none : (at : ℕ) → Span at at []
  none at = record { past = omega arith; is = let e : at - at ≡ 0 = omega arith in rw e refl }

  pub both : (a m n : ℕ) (x y : List ℕ) → Span a m x → Span m n y → Span a n (x ++ y)
  both a m n x y p q =
      let e : n - a ≡ (m - a) + (n - m) = omega (arith, p.past, q.past) in
      let f : a + (m - a) ≡ m = omega (arith, p.past) in
      record {
        past = omega (arith, p.past, q.past);
        is = ap (λ (k : ℕ). take k (drop a s)) e ∙ take-add (m - a) (n - m) (drop a s)
            ∙ ap₂ ◌++◌ p.is (ap (take (n - m)) (drop-drop (m - a) a s ∙ ap (λ (k : ℕ). drop k s) f) ∙ q.is);
      }

  pub number : (k at v n : ℕ) → read_at k s at ≡ Ok (v, n) → Span at n (enc (zig (zag v)))
  number k at v n e = let r = read_next k s at v n (sym e) in record { past = omega (arith, r.0); is = read_unique k s at v n all e ∙ ap enc (sym (zig_zag v)) }

  abbrev NumsSpan : ℕ → Nums → Type 0
  NumsSpan at (nums zs n) = Span at n (numbers_bytes zs)
  NumsSpan at (bad r) = Unit {0}

  numbers_span : (k at : ℕ) → NumsSpan at (numbers_at k s at)
  unfolding numbers_at numbers_bytes
  numbers_span zero at = none at
  numbers_span (suc k) at = by_answer (read_at 64 s at) refl (λ n. numbers_span k n)
    where
      more : (v n : ℕ) → Span at n (enc (zig (zag v))) → (ns : Nums) → NumsSpan n ns → NumsSpan at (cons_nums (zag v) ns)
      more v n p (nums zs m) q = both at n m (enc (zig (zag v))) (numbers_bytes zs) p q
      more v n p (bad r) q = tt

      by_answer : (g : Got) → read_at 64 s at ≡ g → ((n : ℕ) → NumsSpan n (numbers_at k s n)) → NumsSpan at (signed_of (λ z n. cons_nums z (numbers_at k s n)) bad g)
      by_answer (Ok (v, n)) e rest = more v n (number 64 at v n e) (numbers_at k s n) (rest n)
      by_answer (Err r) e rest = tt

  -- k numbers are as many
  numbers_many : (k at : ℕ) (zs : List ℤ) (n : ℕ) → numbers_at k s at ≡ nums zs n → length zs ≡ k
  unfolding numbers_at
  numbers_many zero at zs n e = let q : [] ≡ zs = cc in ap length (sym q)
  numbers_many (suc k) at zs n e = by_answer (read_at 64 s at) e (λ m ys j. numbers_many k m ys j)
    where
      more : (z : ℤ) (ns : Nums) → cons_nums z ns ≡ nums zs n → ((ys : List ℤ) (j : ℕ) → ns ≡ nums ys j → length ys ≡ k) → length zs ≡ suc k
      more z (nums ys j) e h = let q : (z ∷ ys) ≡ zs = cc in ap length (sym q) ∙ ap suc (h ys j refl)
      more z (bad r) e h = let x : ◌≡◌ {A = ℕ} 0 1 = cc in absurd (omega arith)

      by_answer : (g : Got) → signed_of (λ z n. cons_nums z (numbers_at k s n)) bad g ≡ nums zs n → ((m : ℕ) (ys : List ℤ) (j : ℕ) → numbers_at k s m ≡ nums ys j → length ys ≡ k) → length zs ≡ suc k
      by_answer (Ok (v, m)) e h = more (zag v) (numbers_at k s m) e (h m)
      by_answer (Err r) e h = let x : ◌≡◌ {A = ℕ} 0 1 = cc in absurd (omega arith)

  abbrev LengthSpan : ℕ → Got → Type 0
  LengthSpan at (Ok (k, n)) = Span at n (enc (zig (pos k)))
  LengthSpan at (Err r) = Unit {0}

  length_span : (at : ℕ) → LengthSpan at (length_at s at)
  unfolding length_at
  length_span at = by_answer (read_at 32 s at) refl
    where
      by_tests : (p q : Bool) (k n : ℕ) → Span at n (enc (zig (pos k))) → LengthSpan at (cond p (Err 4) (cond q (Err 5) (Ok (k, n))))
      by_tests true q k n x = tt
      by_tests false true k n x = tt
      by_tests false false k n x = x

      by_sign : (z : ℤ) (n : ℕ) → Span at n (enc (zig z)) → LengthSpan at (length_of s z n)
      by_sign (pos k) n x = by_tests (ltb 512 k) (ltb (length s - n) k) k n x
      by_sign (negsuc k) n x = tt

      by_answer : (g : Got) → read_at 32 s at ≡ g → LengthSpan at (signed_of (length_of s) Err g)
      by_answer (Ok (v, n)) e = by_sign (zag v) n (number 32 at v n e)
      by_answer (Err r) e = tt

  abbrev ListSpan : ℕ → Nums → Type 0
  ListSpan at (nums zs n) = Span at n (list_bytes zs)
  ListSpan at (bad r) = Unit {0}

  list_span : (at : ℕ) → ListSpan at (list_at s at)
  unfolding list_at
  list_span at = by_answer (length_at s at) (length_span at)
    where
      more : (k n : ℕ) → Span at n (enc (zig (pos k))) → (ns : Nums) → numbers_at k s n ≡ ns → NumsSpan n ns → ListSpan at ns
      more k n p (nums zs m) e q = rw (numbers_many k n zs m e) (both at n m (enc (zig (pos k))) (numbers_bytes zs) p q)
      more k n p (bad r) e q = tt

      by_answer : (g : Got) → LengthSpan at g → ListSpan at (numbers_from s g)
      by_answer (Ok (k, n)) p = more k n p (numbers_at k s n) refl (numbers_span k n)
      by_answer (Err r) p = tt

  abbrev CountsSpan : ℕ → Counts → Type 0
  CountsSpan at (Ok (b, t, n)) = Span at n (counts_bytes b t)
  CountsSpan at (Err r) = Unit {0}

  counts_span : (at : ℕ) → CountsSpan at (counts_at s at)
  unfolding counts_at
  counts_span at = by_first (read_at 32 s at) refl
    where
      by_signs : (x : Bool) (b t : ℤ) (n : ℕ) → Span at n (counts_bytes b t) → CountsSpan at (cond x (Err 6) (Ok (b, t, n)))
      by_signs true b t n p = tt
      by_signs false b t n p = p

      by_second : (b : ℤ) (m : ℕ) → Span at m (enc (zig b)) → (g : Got) → read_at 32 s m ≡ g → CountsSpan at (signed_of (both_counts b) Err g)
      by_second b m p (Ok (v, n)) e = by_signs (is_negative b || is_negative (zag v)) b (zag v) n (both at m n (enc (zig b)) (enc (zig (zag v))) p (number 32 m v n e))
      by_second b m p (Err r) e = tt

      by_first : (g : Got) → read_at 32 s at ≡ g → CountsSpan at (signed_of (λ b n. signed_of (both_counts b) Err (read_at 32 s n)) Err g)
      by_first (Ok (v, n)) e = by_second (zag v) n (number 32 at v n e) (read_at 32 s n) refl
      by_first (Err r) e = tt

  abbrev SegSpan : ℕ → Seg → Type 0
  SegSpan at (seg ts bs b t n) = Span at n (row_bytes ts bs b t)
  SegSpan at (no_seg r) = Unit {0}

  segment_span : (at : ℕ) → SegSpan at (segment_at s at)
  unfolding segment_at row_bytes
  segment_span at = by_txs (list_at s at) (list_span at)
    where
      by_counts : (ts bs : List ℤ) (p q : ℕ) → Span at p (list_bytes ts) → Span p q (list_bytes bs) → (x : Counts) → CountsSpan q x → SegSpan at (counts_then (seg ts bs) x)
      by_counts ts bs p q a c (Ok (b, t, n)) d = both at p n (list_bytes ts) (list_bytes bs ++ counts_bytes b t) a (both p q n (list_bytes bs) (counts_bytes b t) c d)
      by_counts ts bs p q a c (Err r) d = tt

      by_boxes : (ts : List ℤ) (p : ℕ) → Span at p (list_bytes ts) → (x : Nums) → ListSpan p x → SegSpan at (list_then (λ bs q. counts_then (seg ts bs) (counts_at s q)) x)
      by_boxes ts p a (nums bs q) c = by_counts ts bs p q a c (counts_at s q) (counts_span q)
      by_boxes ts p a (bad r) c = tt

      by_txs : (x : Nums) → ListSpan at x → SegSpan at (list_then (λ ts p. list_then (λ bs q. counts_then (seg ts bs) (counts_at s q)) (list_at s p)) x)
      by_txs (nums ts p) a = by_boxes ts p a (list_at s p) (list_span p)
      by_txs (bad r) a = tt

  -- a segment that ends the bytes takes up all of them from `at` on, and can be written
  pub record Last (at : ℕ) (ts bs : List ℤ) (b t : ℤ) : Type 0 where
    pub span : Span at (length s) (row_bytes ts bs b t)
    pub content : Writable ts bs b t

  abbrev pub LastSpan : ℕ → Seg → Type 0
  LastSpan at (seg ts bs b t n) = Last at ts bs b t
  LastSpan at (no_seg r) = Unit {0}

  pub last_span : (at : ℕ) → LastSpan at (ended true (length s) (segment_at s at))
  last_span at = by_segment (segment_at s at) refl (segment_span at)
    where
      by_end : (x : Bool) (ts bs : List ℤ) (b t : ℤ) (n : ℕ) → eqb n (length s) ≡ x → Span at n (row_bytes ts bs b t) → Writable ts bs b t → LastSpan at (cond x (seg ts bs b t n) (no_seg 8))
      by_end true ts bs b t n e p w = record { span = subst (λ (k : ℕ). Span at k (row_bytes ts bs b t)) (eqb-true n (length s) e) p; content = w }
      by_end false ts bs b t n e p w = tt

      by_segment : (g : Seg) → segment_at s at ≡ g → SegSpan at g → LastSpan at (ended true (length s) g)
      by_segment (seg ts bs b t n) e p = by_end (eqb n (length s)) ts bs b t n refl p (segment_accepted s at ts bs b t n e).content
      by_segment (no_seg r) e p = tt

  -- an accepted row is the row of its content
  pub row_unique : (limit : ℕ) (ts bs : List ℤ) (b t : ℤ) (n : ℕ) → row_of limit s ≡ seg ts bs b t n → s ≡ row_bytes ts bs b t
  row_unique limit ts bs b t n e =
      let r = row_accepted limit s ts bs b t n e in
      let p : SegSpan 0 (seg ts bs b t n) = rw r.is at (segment_span 0) in
      sym (take_all (n - 0) s (omega (arith, r.whole))) ∙ p.is

-- "Two accepted rows are then equal in bytes exactly when their contents are"
pub rows_equal : (limit : ℕ) (s s' : List ℕ) → Bytes s → Bytes s' → (ts bs : List ℤ) (b t : ℤ) (n n' : ℕ) → row_of limit s ≡ seg ts bs b t n → row_of limit s' ≡ seg ts bs b t n' → s ≡ s'
rows_equal limit s s' h h' ts bs b t n n' e e' = row_unique s h limit ts bs b t n e ∙ sym (row_unique s' h' limit ts bs b t n' e')

-- ---- the numbers that a reader left in a borrowed list

pub listed : (zs l : List ℤ) → take (length zs) (write 0 (padded zs) l) ≡ zs
unfolding write
listed zs l =
    let rest : List ℤ = replicate (512 - length zs) (pos 0) in
    let behind : List ℤ = drop (0 + length (padded zs)) l in
    ap (take (length zs)) (append_assoc zs rest behind) ∙ take-append_seam zs (rest ++ behind)

pub listed_size : (zs l : List ℤ) → length zs ≤ 512 → 512 ≤ length l → length (write 0 (padded zs) l) ≡ length l
listed_size zs l h k =
    let e : length (padded zs) ≡ length zs + (512 - length zs) = length-append zs (replicate (512 - length zs) (pos 0)) ∙ ap (λ (n : ℕ). length zs + n) (length-replicate (512 - length zs) (pos 0)) in
    length_write 0 (padded zs) l (omega arith)
