-- Laws of what a segment's reader answers and leaves, one for each way out.
use Prim.Native.Nat.{ℕ}
use mathlib.Core.Path.{◌≡◌, refl, ap, ◌∙◌}
use mathlib.Core.Bool.{Bool, true, false, not, ◌||◌}
use mathlib.Core.List.{List}
use lib.Dec.{eqb}
use lib.IntN.{ℤ}
use lib.ListN.{length}
use Rattle.stores.specs.Stores.{write}
use Rattle.std.specs.Prelude.{Ok, Err}
use Rattle.index_types.specs.declared.Loaded.TheVariants.{Read, Refused}
use Rattle.segment_core.specs.Reading.{nums, bad, list_at, counts_at, Seg, seg, no_seg, list_then, counts_then, segment_at, ended}
use Rattle.segment_core.specs.Loading.{loading, load, padded}

-- ---- a segment from its parts

module _ (s : List ℕ) (at : ℕ) where
  boxes_then : List ℤ → ℕ → Seg
  boxes_then ts p = list_then (λ bs q. counts_then (seg ts bs) (counts_at s q)) (list_at s p)

  pub segment_txs_bad : (x : ℕ) → list_at s at ≡ bad x → segment_at s at ≡ no_seg x
  unfolding segment_at boxes_then
  segment_txs_bad x e = ap (list_then boxes_then) e

  module _ (ts : List ℤ) (p : ℕ) (e : list_at s at ≡ nums ts p) where
    counts_from : List ℤ → ℕ → Seg
    counts_from bs q = counts_then (seg ts bs) (counts_at s q)

    pub segment_boxes_bad : (x : ℕ) → list_at s p ≡ bad x → segment_at s at ≡ no_seg x
    unfolding segment_at boxes_then counts_from
    segment_boxes_bad x f = ap (list_then boxes_then) e ∙ ap (list_then counts_from) f

    module _ (bs : List ℤ) (q : ℕ) (f : list_at s p ≡ nums bs q) where
      pub segment_counts_bad : (x : ℕ) → counts_at s q ≡ Err x → segment_at s at ≡ no_seg x
      unfolding segment_at boxes_then counts_from
      segment_counts_bad x g = ap (list_then boxes_then) e ∙ ap (list_then counts_from) f ∙ ap (counts_then (seg ts bs)) g

      pub segment_is : (b t : ℤ) (n : ℕ) → counts_at s q ≡ Ok (b, t, n) → segment_at s at ≡ seg ts bs b t n
      unfolding segment_at boxes_then counts_from
      segment_is b t n g = ap (list_then boxes_then) e ∙ ap (list_then counts_from) f ∙ ap (counts_then (seg ts bs)) g

-- ---- its answer and the borrowed lists

module _ (must : Bool) (len : ℕ) (l m : List ℤ) (g : Seg) where
  pub load_refused : (x : ℕ) → g ≡ no_seg x → loading (Refused x) l m ≡ load (ended must len g) l m
  load_refused x e = rw e

  module _ (ts bs : List ℤ) (b t : ℤ) (n : ℕ) (e : g ≡ seg ts bs b t n) where
    pub load_left_over : (not must || eqb n len) ≡ false → loading (Refused 8) l m ≡ load (ended must len g) l m
    load_left_over h = rw (e, h)

    -- x and y are what locals hold of b and t, c and d the buffers
    pub load_done : (not must || eqb n len) ≡ true → (x y : ℤ) → x ≡ b → y ≡ t → (j k : ℕ) → length ts ≡ j → length bs ≡ k
        → (c d l' m' : List ℤ) → c ≡ padded ts → d ≡ padded bs → l' ≡ write 0 c l → m' ≡ write 0 d m
        → loading (Read j k x y n) l' m' ≡ load (ended must len g) l m
    load_done h x y p q j k a i c d l' m' u v w z = rw (e, h, p, q, ← a, ← i, w, z, u, v)

-- a segment that need not end the bytes
pub load_open : (len : ℕ) (g : Seg) (l m : List ℤ) → load (ended false len g) l m ≡ load g l m
load_open len (seg ts bs b t n) l m = refl
load_open len (no_seg x) l m = refl
