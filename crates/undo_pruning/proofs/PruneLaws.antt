-- Laws of pruning: the turn of the compaction, and the answers.
use Prim.Native.Nat.{ℕ, suc, ◌+◌, ◌-◌, ◌≤◌, ◌<◌}
use mathlib.Core.Path.{◌≡◌, refl, sym, ap, ◌∙◌}
use mathlib.Core.Bool.{Bool, true, false, cond}
use mathlib.Core.List.{List, [], ◌∷◌, ◌++◌, append_assoc, append-nil}
use native.Mathlib.Omega.{arith}
use native.Mathlib.Numerals.{add-one}
use lib.Dec.{leb, ltb}
use lib.ListN.{length, get_or, take, drop, set, replicate, length-append, length-set, length-replicate}
use lib.Seq.{take-suc, take-suc-set, drop-drop, drop-set-lt, take-set-le, get_or-drop}
use borrow.Author.Tests.{le-leb, lt-leb, ltb-false}
use Rattle.stores.specs.Stores.{write}
use Rattle.undo_pruning.specs.Prune.{keeps, kept, pruning, pruned_of, Compacts}
use Rattle.std.specs.Prelude.{Ok, Err}

-- ---- the heights that pass
pub kept_append : (f : ℕ → Bool) (a b : List ℕ) → kept f (a ++ b) ≡ kept f a ++ kept f b
unfolding kept
kept_append f [] b = refl
kept_append f (h ∷ a) b = by_test (f h) (kept_append f a b)
  where
    by_test : (t : Bool) → kept f (a ++ b) ≡ kept f a ++ kept f b → cond t (h ∷ kept f (a ++ b)) (kept f (a ++ b)) ≡ cond t (h ∷ kept f a) (kept f a) ++ kept f b
    by_test true ih = ap (λ (l : List ℕ). h ∷ l) ih
    by_test false ih = ih

pub kept_few : (f : ℕ → Bool) (l : List ℕ) → length (kept f l) ≤ length l
unfolding kept
kept_few f [] = omega arith
kept_few f (h ∷ l) = by_test (f h) (kept_few f l)
  where
    by_test : (t : Bool) → length (kept f l) ≤ length l → length (cond t (h ∷ kept f l) (kept f l)) ≤ suc (length l)
    by_test true ih = omega arith
    by_test false ih = omega arith

-- tests that agree keep the same heights
pub kept_same : (f g : ℕ → Bool) (l : List ℕ) → ((h : ℕ) → f h ≡ g h) → kept f l ≡ kept g l
unfolding kept
kept_same f g [] e = refl
kept_same f g (h ∷ l) e = rw (e h, kept_same f g l e)

-- the difference that stops at 0 is the rule of the window
pub lowest_keeps : (current window h : ℕ) → leb (current - window) h ≡ keeps current window h
lowest_keeps current window h = by_test (ltb window current) refl
  where
    by_test : (t : Bool) → ltb window current ≡ t → leb (current - window) h ≡ cond t (leb (current - window) h) true
    by_test true e = refl
    by_test false e = let z : current - window ≤ h = omega (arith, ltb-false window current e) in le-leb _ _ z

-- ---- the compaction: i heights are passed, n of them kept
pub record Passed (lowest i : ℕ) (l : List ℕ) (n : ℕ) (l' : List ℕ) : Type 0 where
  pub sized : length l' ≡ length l
  pub number : n ≡ length (kept (leb lowest) (take i l))
  pub front : take n l' ≡ kept (leb lowest) (take i l)
  pub few : n ≤ i
  pub behind : drop i l' ≡ drop i l

pub passed_none : (lowest : ℕ) (l : List ℕ) → Passed lowest 0 l 0 l
unfolding kept
passed_none lowest l = record { sized = refl; number = refl; front = refl; few = omega arith; behind = refl }

module _ (lowest i n : ℕ) (l l' : List ℕ) (h : i < length l) (p : Passed lowest i l n l') where
  -- the height at i
  same_height : get_or l' i 0 ≡ get_or l i 0
  same_height =
      let e : get_or (drop i l') 0 0 ≡ get_or (drop i l) 0 0 = ap (λ (x : List ℕ). get_or x 0 0) p.behind in
      let z : i + 0 ≡ i = omega arith in
      rw (get_or-drop, get_or-drop, z) at e

  one_more : kept (leb lowest) (take (i + 1) l) ≡ kept (leb lowest) (take i l) ++ kept (leb lowest) (get_or l i 0 ∷ [])
  one_more = ap (λ (k : ℕ). kept (leb lowest) (take k l)) (add-one i) ∙ ap (kept (leb lowest)) (take-suc l i 0 h) ∙ kept_append (leb lowest) (take i l) (get_or l i 0 ∷ [])

  drop_one : (a b : List ℕ) → drop i a ≡ drop i b → drop (i + 1) a ≡ drop (i + 1) b
  drop_one a b e = sym (drop-drop 1 i a) ∙ ap (drop 1) e ∙ drop-drop 1 i b

  pub passed_kept : (v m : ℕ) → v ≡ get_or l' i 0 → lowest ≤ v → m ≡ n + 1 → Passed lowest (i + 1) l m (set l' n v)
  unfolding kept
  passed_kept v m e k en =
      let w : v ≡ get_or l i 0 = e ∙ same_height in
      let t : leb lowest (get_or l i 0) ≡ true = rw (← w) (le-leb lowest v k) in
      let more : kept (leb lowest) (take (i + 1) l) ≡ kept (leb lowest) (take i l) ++ (v ∷ []) = one_more ∙ rw (t, w) in
      record {
        sized = length-set l' n v ∙ p.sized;
        number = rw (more, length-append) (omega (arith, p.number));
        front = ap (λ (m : ℕ). take m (set l' n v)) (en ∙ add-one n) ∙ take-suc-set l' n v (omega (arith, p.sized, p.few)) ∙ ap (λ (x : List ℕ). x ++ (v ∷ [])) p.front ∙ sym more;
        few = omega (arith, p.few);
        behind = drop-set-lt (i + 1) l' n v (omega (arith, p.few)) ∙ drop_one l' l p.behind;
      }

  pub passed_dropped : (v m : ℕ) → v ≡ get_or l' i 0 → v < lowest → m ≡ n → Passed lowest (i + 1) l m (set l' n v)
  unfolding kept
  passed_dropped v m e k en =
      let w : v ≡ get_or l i 0 = e ∙ same_height in
      let t : leb lowest (get_or l i 0) ≡ false = rw (← w) (lt-leb lowest v k) in
      let more : kept (leb lowest) (take (i + 1) l) ≡ kept (leb lowest) (take i l) = one_more ∙ rw t (append-nil _) in
      record {
        sized = length-set l' n v ∙ p.sized;
        number = en ∙ p.number ∙ ap length (sym more);
        front = take-set-le m l' n v (omega arith) ∙ ap (λ (j : ℕ). take j l') en ∙ p.front ∙ sym more;
        few = omega (arith, p.few);
        behind = drop-set-lt (i + 1) l' n v (omega (arith, p.few)) ∙ drop_one l' l p.behind;
      }

pub passed_all : (lowest count : ℕ) (l : List ℕ) (n : ℕ) (l' : List ℕ) → Passed lowest count l n l' → Compacts lowest count l n l'
passed_all lowest count l n l' p = record { number = p.number; front = p.front; few = p.few; behind = p.behind }

-- ---- the answers
module _ (count capacity current window : ℕ) (l : List ℕ) where
  pub prune_count : capacity < count → pruning (Err 25) l ≡ pruned_of count capacity current window l
  unfolding pruned_of
  prune_count h = rw (lt-leb count capacity h)

  pub prune_short : count ≤ capacity → length l < capacity → pruning (Err 25) l ≡ pruned_of count capacity current window l
  unfolding pruned_of
  prune_short h k = rw (le-leb count capacity h, lt-leb capacity (length l) k)

  pub prune_done : count ≤ capacity → capacity ≤ length l → (lowest n : ℕ) (l₁ l₂ : List ℕ) → lowest ≡ current - window
      → Compacts lowest count l n l₁ → l₂ ≡ write n (replicate (capacity - n) 0) l₁ → pruning (Ok n) l₂ ≡ pruned_of count capacity current window l
  unfolding pruned_of write
  prune_done h k lowest n l₁ l₂ e c w =
      let same : kept (leb lowest) (take count l) ≡ kept (keeps current window) (take count l)
      = kept_same (leb lowest) (keeps current window) (take count l) (λ x. rw e (lowest_keeps current window x)) in
      let size : n ≡ length (kept (keeps current window) (take count l)) = c.number ∙ ap length same in
      let zeros : List ℕ = replicate (capacity - n) 0 in
      let few_zeros : length zeros ≡ capacity - n = length-replicate (capacity - n) 0 in
      let all : n + length zeros ≡ capacity = omega (arith, c.few) in
      let tail : drop (n + length zeros) l₁ ≡ drop capacity l = ap (λ (m : ℕ). drop m l₁) all ∙ behind c in
      rw (le-leb count capacity h, le-leb capacity (length l) k, ← size, ← same, ← c.front) (ap (pruning (Ok n)) (w ∙ rw tail (append_assoc (take n l₁) zeros (drop capacity l))))
    where
      behind : Compacts lowest count l n l₁ → drop capacity l₁ ≡ drop capacity l
      behind c =
          let m : count + (capacity - count) ≡ capacity = omega arith in
          let q = ap (drop (capacity - count)) c.behind in
          rw (drop-drop, drop-drop, m) at q
