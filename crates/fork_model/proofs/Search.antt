-- Facts about the searches in lists and rows.
use Rattle.ledger.proofs.TestLaws.{ite_yes}
use Rattle.ledger.specs.Run.{flat, row_or}
use mathlib.Core.Path.{◌≡◌, refl, sym, ◌∙◌, ap, subst}
use mathlib.Core.Logic.{⊎_elim, ◌≢◌}
use mathlib.Core.Bool.{Bool, true, false}
use mathlib.Core.List.Memᴰ
use mathlib.Core.List.{List, [], ◌∷◌, ◌++◌, map, append_assoc, append-nil, Memᴰ}
use Prim.Native.Nat.{ℕ, zero, suc, ◌+◌, ◌*◌, ◌≤◌, ◌<◌}
use native.Mathlib.Decide.{ℕ_discrete, dec_le, dec_lt}
use native.Mathlib.Omega.{arith}
use native.Mathlib.Nat.{mul-suc}
use lib.IntN.{ℤ, pos, neg_ℤ, nat_abs}
use lib.ListN.{length, get_or, length-append}
use Rattle.ledger.specs.Ledger.{int_dec, ite, absℤ}
use Rattle.ledger.specs.Run.{Res, done, refused}
use Rattle.fork_model.proofs.Table.{Found, missing, found}
use Rattle.fork_model.proofs.EntryLaws.{Sorted, Flip, mem_map}
use Rattle.fork_model.proofs.Store.{then_do, Ends, nothing, ends, cons_end, unsnoc, cons_found, flip_first, ordered, or_bool, seen_in, Hit, on_hit, first_abs, half_way, halve, none_found, last_abs, walk}

-- two constructors are never equal
pub done≢refused : {A : Type 0} {a : A} {k : ℕ} → ◌≡◌ {A = Res A} (done a) (refused k) → ⊥
done≢refused e = let z : ◌≡◌ {A = ℕ} 0 1 = cc in omega arith

pub found≢missing : {A : Type 0} {l : A} → ◌≡◌ {A = Found A} (found l) missing → ⊥
found≢missing e = let z : ◌≡◌ {A = ℕ} 0 1 = cc in omega arith

-- UNSNOC
cons_nothing : (x : ℤ) (E : Ends) → cons_end x E ≡ nothing → ⊥
cons_nothing x nothing e = let z : ◌≡◌ {A = ℕ} 0 1 = cc in omega arith
cons_nothing x (ends f v) e = let z : ◌≡◌ {A = ℕ} 0 1 = cc in omega arith

pub unsnoc_nothing : (l : List ℤ) → unsnoc l ≡ nothing → l ≡ []
unfolding unsnoc
unsnoc_nothing [] e = refl
unsnoc_nothing (x ∷ l) e = absurd (cons_nothing x (unsnoc l) e)

cons_ends : (x : ℤ) (l : List ℤ) (E : Ends) (f : List ℤ) (v : ℤ) → unsnoc l ≡ E → cons_end x E ≡ ends f v → ((g : List ℤ) (w : ℤ) → unsnoc l ≡ ends g w → l ≡ g ++ (w ∷ [])) → x ∷ l ≡ f ++ (v ∷ [])
cons_ends x l nothing f v h e ih =
    let ef : [] ≡ f = cc in let ev : x ≡ v = cc in let el : l ≡ [] = unsnoc_nothing l h in
    ap (λ y. x ∷ y) el ∙ (λ i. ef i ++ (ev i ∷ []))
cons_ends x l (ends g w) f v h e ih =
    let ef : x ∷ g ≡ f = cc in let ev : w ≡ v = cc in
    ap (λ y. x ∷ y) (ih g w h) ∙ (λ i. ef i ++ (ev i ∷ []))

pub unsnoc_ends : (l : List ℤ) (f : List ℤ) (v : ℤ) → unsnoc l ≡ ends f v → l ≡ f ++ (v ∷ [])
unfolding unsnoc
unsnoc_ends [] f v e = absurd (let z : ◌≡◌ {A = ℕ} 0 1 = cc in omega arith)
unsnoc_ends (x ∷ l) f v e = cons_ends x l (unsnoc l) f v refl e (λ g w h. unsnoc_ends l g w h)

-- THE FIRST COPY
pub record Split (e : ℤ) (l l' : List ℤ) : Type 0 where
  pub front : List ℤ
  pub back : List ℤ
  pub was : l ≡ front ++ e ∷ back
  pub is : l' ≡ front ++ neg_ℤ e ∷ back

first_cons : (e x : ℤ) (l l' : List ℤ) (E : Found (List ℤ)) (w : Dec (x ≡ e)) → flip_first e l ≡ E → ite w (found (neg_ℤ x ∷ l)) (cons_found x E) ≡ found l' → ((m : List ℤ) → flip_first e l ≡ found m → Split e l m) → Split e (x ∷ l) l'
unfolding ite
first_cons e x l l' E (yes q) h g ih =
    let el : neg_ℤ x ∷ l ≡ l' = cc in
    record { front = []; back = l; was = ap (λ y. y ∷ l) q; is = sym el ∙ ap (λ y. neg_ℤ y ∷ l) q }
first_cons e x l l' missing (no q) h g ih = absurd (found≢missing (sym g))
first_cons e x l l' (found m) (no q) h g ih =
    let el : x ∷ m ≡ l' = cc in let s = ih m h in
    record { front = x ∷ s.front; back = s.back; was = ap (λ y. x ∷ y) s.was; is = sym el ∙ ap (λ y. x ∷ y) s.is }

pub first_split : (e : ℤ) (l l' : List ℤ) → flip_first e l ≡ found l' → Split e l l'
unfolding flip_first
first_split e [] l' h = absurd (found≢missing (sym h))
first_split e (x ∷ l) l' h = first_cons e x l l' (flip_first e l) (int_dec x e) refl h (λ m g. first_split e l m g)

miss_cons : (e x : ℤ) (l : List ℤ) (E : Found (List ℤ)) (w : Dec (x ≡ e)) → flip_first e l ≡ E → ite w (found (neg_ℤ x ∷ l)) (cons_found x E) ≡ missing → (x ≢ e) × (flip_first e l ≡ missing)
unfolding ite
miss_cons e x l E (yes q) h g = absurd (found≢missing g)
miss_cons e x l missing (no q) h g = (q, h)
miss_cons e x l (found m) (no q) h g = absurd (found≢missing g)

pub first_missing : (e : ℤ) (l : List ℤ) → flip_first e l ≡ missing → Memᴰ e l → ⊥
unfolding flip_first
first_missing e [] h t = Memᴰ.not-nil t
first_missing e (x ∷ l) h t =
    let m = miss_cons e x l (flip_first e l) (int_dec x e) refl h in
    ⊎_elim (λ q. m.0 (sym q)) (λ u. first_missing e l m.1 u) (Memᴰ.cases_cons t)

pub flip_of_split : (m : ℕ) {l l' : List ℤ} → Split (pos m) l l' → Flip m l l'
flip_of_split m s = record { front = s.front; back = s.back; was = s.was; is = s.is }

neg_neg : (m : ℕ) → neg_ℤ (neg_ℤ (pos m)) ≡ pos m
neg_neg zero = refl
neg_neg (suc m) = refl

pub unflip_of_split : (m : ℕ) {l l' : List ℤ} → Split (neg_ℤ (pos m)) l l' → Flip m l' l
unflip_of_split m s = record { front = s.front; back = s.back; was = s.is ∙ ap (λ y. s.front ++ y ∷ s.back) (neg_neg m); is = s.was }

pub split_in : {e : ℤ} {l l' : List ℤ} (a b : List ℤ) → Split e l l' → Split e (a ++ (l ++ b)) (a ++ (l' ++ b))
split_in {e} a b s = record {
  front = a ++ s.front;
  back = s.back ++ b;
  was = ap (λ y. a ++ (y ++ b)) s.was ∙ simp append_assoc;
  is = ap (λ y. a ++ (y ++ b)) s.is ∙ simp append_assoc;
}

pub split_length : {e : ℤ} {l l' : List ℤ} → Split e l l' → length l' ≡ length l
split_length {e} s = ap length s.is ∙ length-append s.front (neg_ℤ e ∷ s.back) ∙ sym (length-append s.front (e ∷ s.back)) ∙ sym (ap length s.was)

-- ORDER
pub sorted_unmap : (l : List ℤ) → Sorted (map absℤ l) → Sorted l
sorted_unmap [] s = tt
sorted_unmap (x ∷ l) s = ((λ m t. s.0 (absℤ m) (mem_map l m t)), sorted_unmap l s.1)

pub sorted_left : (a b : List ℤ) → Sorted (a ++ b) → Sorted a
sorted_left [] b s = tt
sorted_left (x ∷ a) b s = ((λ m t. s.0 m (Memᴰ.append_left b t)), sorted_left a b s.1)

pub sorted_right : (a b : List ℤ) → Sorted (a ++ b) → Sorted b
sorted_right [] b s = s
sorted_right (x ∷ a) b s = sorted_right a b s.1

pub sorted_cross : (a b : List ℤ) (x y : ℤ) → Sorted (a ++ b) → Memᴰ x a → Memᴰ y b → nat_abs x ≤ nat_abs y
sorted_cross [] b x y s t u = absurd (Memᴰ.not-nil t)
sorted_cross (z ∷ a) b x y s t u =
    ⊎_elim (λ e. subst (λ (w : ℤ). nat_abs w ≤ nat_abs y) (sym e) (s.0 y (Memᴰ.append_right a u))) (λ v. sorted_cross a b x y s.1 v u) (Memᴰ.cases_cons t)

pub sorted_ordered : (l : List ℤ) (a : ℕ) → Sorted l → ((m : ℤ) → Memᴰ m l → a ≤ nat_abs m) → ordered a l ≡ true
unfolding ordered
sorted_ordered [] a s h = refl
sorted_ordered (x ∷ l) a s h = ite_yes (dec_le a (nat_abs x)) (ordered (nat_abs x) l) false (h x (Memᴰ.head refl)) ∙ sorted_ordered l (nat_abs x) s.1 s.0

pub mem_at : (l : List ℤ) (i : ℕ) → i < length l → Memᴰ (get_or l i (pos 0)) l
mem_at [] i h = absurd (omega arith)
mem_at (x ∷ l) zero h = Memᴰ.head refl
mem_at (x ∷ l) (suc i) h = Memᴰ.tail (mem_at l i (omega arith))

-- in a sorted list the last number is at or above each
pub last_above : (l : List ℤ) (i : ℕ) (x : ℤ) → Sorted l → length l ≡ suc i → Memᴰ x l → nat_abs x ≤ nat_abs (get_or l i (pos 0))
last_above [] i x s e t = absurd (Memᴰ.not-nil t)
last_above (y ∷ l) zero x s e t = ⊎_elim (λ q. let z : nat_abs x ≡ nat_abs y = ap nat_abs q in omega arith) (λ u. absurd (short l u (omega arith))) (Memᴰ.cases_cons t)
  where
    short : (m : List ℤ) → Memᴰ x m → length m ≡ 0 → ⊥
    short [] h q = Memᴰ.not-nil h
    short (z ∷ m) h q = omega arith
last_above (y ∷ l) (suc i) x s e t =
    ⊎_elim (λ q. let z : nat_abs x ≡ nat_abs y = ap nat_abs q in omega (arith, s.0 (get_or l i (pos 0)) (mem_at l i (omega arith)))) (λ u. last_above l i x s.1 (omega arith) u) (Memᴰ.cases_cons t)

-- FLAT
pub flat_cong : (f g : ℕ → Res (List ℤ)) (n : ℕ) → ((s : ℕ) → s < n → f s ≡ g s) → flat f n ≡ flat g n
unfolding flat
flat_cong f g zero h = refl
flat_cong f g (suc n) h = (λ i. flat_cong f g n (λ s l. h s (omega arith)) i ++ row_or (h n (omega arith) i))

pub flat_length : (f : ℕ → Res (List ℤ)) (r n : ℕ) → ((s : ℕ) → s < n → length (row_or (f s)) ≡ r) → length (flat f n) ≡ r * n
unfolding flat
flat_length f r zero h = omega arith
flat_length f r (suc n) h = length-append (flat f n) (row_or (f n)) ∙ omega (arith, flat_length f r n (λ s l. h s (omega arith)), h n (omega arith), mul-suc r n)

-- the rows before s, row s, the rows after it
pub record Parts (f : ℕ → Res (List ℤ)) (n s : ℕ) : Type 0 where
  pub rest : List ℤ
  pub parts : flat f n ≡ flat f s ++ (row_or (f s) ++ rest)
  pub alike : (g : ℕ → Res (List ℤ)) → ((t : ℕ) → s < t → t < n → g t ≡ f t) → flat g n ≡ flat g s ++ (row_or (g s) ++ rest)

parts_here : (f : ℕ → Res (List ℤ)) (n s : ℕ) → s ≡ n → flat f (suc n) ≡ flat f s ++ (row_or (f s) ++ [])
unfolding flat
parts_here f n s e = rw (e, append-nil)

parts_step : (f : ℕ → Res (List ℤ)) (n s : ℕ) → (s ≢ n → s < n) → (s ≢ n → Parts f n s) → Dec (s ≡ n) → Parts f (suc n) s
unfolding flat
parts_step f n s below ih (yes e) = record { rest = []; parts = parts_here f n s e; alike = λ g h. parts_here g n s e }
parts_step f n s below ih (no q) =
    let p = ih q in
    record {
      rest = p.rest ++ row_or (f n);
      parts = ap (λ y. y ++ row_or (f n)) p.parts ∙ simp append_assoc;
      alike = λ g h. ap (λ y. y ++ row_or (g n)) (p.alike g (λ t a b. h t a (omega arith))) ∙ ap (λ y. (flat g s ++ (row_or (g s) ++ p.rest)) ++ row_or y) (h n (below q) (omega arith)) ∙ simp append_assoc;
    }

pub flat_parts : (f : ℕ → Res (List ℤ)) (n s : ℕ) → s < n → Parts f n s
flat_parts f zero s h = absurd (omega arith)
flat_parts f (suc n) s h = parts_step f n s (λ q. omega arith) (λ q. flat_parts f n s (omega arith)) (ℕ_discrete s n)

pub mem_flat : (f : ℕ → Res (List ℤ)) (n s : ℕ) (x : ℤ) → s < n → Memᴰ x (row_or (f s)) → Memᴰ x (flat f n)
mem_flat f n s x h t = let p = flat_parts f n s h in rw p.parts (Memᴰ.append_right (flat f s) (Memᴰ.append_left p.rest t))

pub flat_mem : (f : ℕ → Res (List ℤ)) (n : ℕ) (x : ℤ) → Memᴰ x (flat f n) → (s : ℕ) × (s < n) × Memᴰ x (row_or (f s))
unfolding flat
flat_mem f zero x t = absurd (Memᴰ.not-nil t)
flat_mem f (suc n) x t = ⊎_elim (λ u. let q = flat_mem f n x u in (q.0, omega (arith, q.1), q.2)) (λ u. (n, omega arith, u)) (Memᴰ.append_cases (flat f n) t)

pub sorted_row : (f : ℕ → Res (List ℤ)) (n s : ℕ) → s < n → Sorted (flat f n) → Sorted (row_or (f s))
sorted_row f n s h S = let p = flat_parts f n s h in
    sorted_left (row_or (f s)) p.rest (sorted_right (flat f s) (row_or (f s) ++ p.rest) (subst Sorted p.parts S))

pub sorted_rows : (f : ℕ → Res (List ℤ)) (n s t : ℕ) (x y : ℤ) → s < t → t < n → Sorted (flat f n) → Memᴰ x (row_or (f s)) → Memᴰ y (row_or (f t)) → nat_abs x ≤ nat_abs y
sorted_rows f n s t x y a b S u v = let p = flat_parts f n t b in
    sorted_cross (flat f t) (row_or (f t) ++ p.rest) x y (subst Sorted p.parts S) (mem_flat f t s x a u) (Memᴰ.append_left p.rest v)

pub first_below : (l : List ℤ) (x : ℤ) → Sorted l → Memᴰ x l → first_abs l ≤ nat_abs x
first_below [] x s t = absurd (Memᴰ.not-nil t)
first_below (y ∷ l) x s t = ⊎_elim (λ q. let z : nat_abs x ≡ nat_abs y = ap nat_abs q in omega arith) (λ u. s.0 x u) (Memᴰ.cases_cons t)

pub split_left : {e : ℤ} {l l' : List ℤ} (b : List ℤ) → Split e l l' → Split e (l ++ b) (l' ++ b)
split_left b s = split_in [] b s

pub split_right : {e : ℤ} {l l' : List ℤ} (a : List ℤ) → Split e l l' → Split e (a ++ l) (a ++ l')
split_right {e} a s = record {
  front = a ++ s.front;
  back = s.back;
  was = ap (λ y. a ++ y) s.was ∙ sym (append_assoc a s.front (e ∷ s.back));
  is = ap (λ y. a ++ y) s.is ∙ sym (append_assoc a s.front (neg_ℤ e ∷ s.back));
}

-- THE HALVING
pub ite_cases : {P : Type 0} {A C : Type 0} (w : Dec P) (p q c : A) → ite w p q ≡ c → (P → p ≡ c → C) → ((P → ⊥) → q ≡ c → C) → C
unfolding ite
ite_cases (yes e) p q c h f g = f e h
ite_cases (no n) p q c h f g = g n h

module _ (rd : ℕ → Res (List ℤ)) (m : ℕ) where
  halve_row : (X : Res (List ℤ)) (x hi : ℕ) (p q : Res ℕ) → then_do X (λ l. ite (dec_le (first_abs l) m) p q) ≡ done x → (p ≡ done x → x ≤ hi) → (q ≡ done x → x ≤ hi) → x ≤ hi
  halve_row (refused k) x hi p q e f g = absurd (done≢refused (sym e))
  halve_row (done l) x hi p q e f g = ite_cases (dec_le (first_abs l) m) p q (done x) e (λ u. f) (λ u. g)

  pub halve_le : (f lo hi x : ℕ) → lo ≤ hi → halve rd m f lo hi ≡ done x → x ≤ hi
  unfolding halve
  halve_le zero lo hi x h e = let q : lo ≡ x = cc in omega arith
  halve_le (suc f) lo hi x h e =
      ite_cases (dec_lt lo hi) (then_do (rd (half_way lo hi)) (λ l. ite (dec_le (first_abs l) m) (halve rd m f (suc (half_way lo hi)) hi) (halve rd m f lo (half_way lo hi)))) (done lo) (done x) e
      (λ l a. halve_row (rd (half_way lo hi)) x hi (halve rd m f (suc (half_way lo hi)) hi) (halve rd m f lo (half_way lo hi)) a
      (λ b. halve_le f (suc (half_way lo hi)) hi x (omega arith) b)
      (λ b. let z : x ≤ half_way lo hi = halve_le f lo (half_way lo hi) x (omega arith) b in omega arith))
      (λ l a. let q : lo ≡ x = cc in omega arith)

  -- rows that can be read, whose first numbers do not fall
  module _ (n : ℕ) (row : ℕ → List ℤ) (reads : (s : ℕ) → s < n → rd s ≡ done (row s)) (rises : (s t : ℕ) → s ≤ t → t < n → first_abs (row s) ≤ first_abs (row t)) where
    pub record Halved (x : ℕ) : Type 0 where
      pub within : x ≤ n
      pub above : (s : ℕ) → x ≤ s → s < n → m < first_abs (row s)

    abbrev Answers : Res ℕ → Type 0
    Answers q = (x : ℕ) × (q ≡ done x) × Halved x

    pick_half : {P : Type 0} (w : Dec P) (p q : Res ℕ) → (P → Answers p) → ((P → ⊥) → Answers q) → Answers (ite w p q)
    unfolding ite
    pick_half (yes e) p q f g = f e
    pick_half (no e) p q f g = g e

    pub halve_spec : (f lo hi : ℕ) → hi ≤ n → lo ≤ hi → hi ≤ lo + f → ((s : ℕ) → hi ≤ s → s < n → m < first_abs (row s)) → Answers (halve rd m f lo hi)
    unfolding halve
    halve_spec zero lo hi a b c h = (lo, refl, record { within = omega arith; above = λ s u v. h s (omega arith) v })
    halve_spec (suc f) lo hi a b c h =
        pick_half (dec_lt lo hi) (then_do (rd (half_way lo hi)) (λ l. ite (dec_le (first_abs l) m) (halve rd m f (suc (half_way lo hi)) hi) (halve rd m f lo (half_way lo hi)))) (done lo)
        (λ l. subst (λ (X : Res (List ℤ)). Answers (then_do X (λ k. ite (dec_le (first_abs k) m) (halve rd m f (suc (half_way lo hi)) hi) (halve rd m f lo (half_way lo hi))))) (sym (reads (half_way lo hi) (omega arith)))
        (pick_half (dec_le (first_abs (row (half_way lo hi))) m) (halve rd m f (suc (half_way lo hi)) hi) (halve rd m f lo (half_way lo hi))
        (λ u. halve_spec f (suc (half_way lo hi)) hi a (omega arith) (omega arith) h)
        (λ u. halve_spec f lo (half_way lo hi) (omega arith) (omega arith) (omega arith) (λ s v w. omega (arith, rises (half_way lo hi) s v w)))))
        (λ l. (lo, refl, record { within = omega arith; above = λ s u v. h s (omega arith) v }))

-- THE WALK
module _ (r : ℕ) (rd : ℕ → Res (List ℤ)) (e : ℤ) where
  pub record Stopped (n : ℕ) (h : Hit) : Type 0 where
    pub below : h.at < n
    pub row : List ℤ
    pub read : rd h.at ≡ done row
    pub hit : flip_first e row ≡ found h.new

  later : {n : ℕ} {h : Hit} → Stopped n h → Stopped (suc n) h
  later s = record { below = omega (arith, s.below); row = s.row; read = s.read; hit = s.hit }

  hit_cases : (s : ℕ) (l : List ℤ) (F : Found (List ℤ)) (q : Res Hit) (h : Hit) → rd s ≡ done l → flip_first e l ≡ F → on_hit s F q ≡ done h → (q ≡ done h → Stopped (suc s) h) → Stopped (suc s) h
  hit_cases s l missing q h a b c g = g c
  hit_cases s l (found k) q h a b c g =
      let z : record { at = s; new = k } ≡ h = cc in
      subst (Stopped (suc s)) z (record { below = omega arith; row = l; read = a; hit = b })

  walk_row : (s : ℕ) (X : Res (List ℤ)) (seen : Bool) (h : Hit) → rd s ≡ X
      → then_do X (λ l. ite (dec_lt (last_abs r l) (nat_abs e)) (refused (none_found seen))
      (on_hit s (flip_first e l) (ite (dec_lt (first_abs l) (nat_abs e)) (refused (none_found (or_bool (seen_in (nat_abs e) l) seen))) (walk r rd e s (or_bool (seen_in (nat_abs e) l) seen))))) ≡ done h
      → ((b : Bool) → walk r rd e s b ≡ done h → Stopped s h) → Stopped (suc s) h
  walk_row s (refused k) seen h a c ih = absurd (done≢refused (sym c))
  walk_row s (done l) seen h a c ih =
      ite_cases (dec_lt (last_abs r l) (nat_abs e)) (refused (none_found seen)) _ (done h) c (λ u v. absurd (done≢refused (sym v)))
      (λ u v. hit_cases s l (flip_first e l) _ h a refl v
      (λ w. ite_cases (dec_lt (first_abs l) (nat_abs e)) (refused (none_found (or_bool (seen_in (nat_abs e) l) seen))) (walk r rd e s (or_bool (seen_in (nat_abs e) l) seen)) (done h) w
      (λ x y. absurd (done≢refused (sym y))) (λ x y. later (ih (or_bool (seen_in (nat_abs e) l) seen) y))))

  pub walk_stopped : (n : ℕ) (seen : Bool) (h : Hit) → walk r rd e n seen ≡ done h → Stopped n h
  unfolding walk
  walk_stopped zero seen h c = absurd (done≢refused (sym c))
  walk_stopped (suc s) seen h c = walk_row s (rd s) seen h refl c (λ b g. walk_stopped s b h g)

  -- a copy in row s is found by a walk that starts above it
  module _ (n : ℕ) (row : ℕ → List ℤ) (reads : (s : ℕ) → s < n → rd s ≡ done (row s)) (s : ℕ) (there : Memᴰ e (row s))
      (lasts : (t : ℕ) → s ≤ t → t < n → nat_abs e ≤ last_abs r (row t)) (firsts : (t : ℕ) → s < t → t < n → nat_abs e ≤ first_abs (row t)) where
    hit_some : (t : ℕ) (F : Found (List ℤ)) (q : Res Hit) (k : ℕ) → flip_first e (row t) ≡ F → on_hit t F q ≡ refused k → (F ≡ missing → q ≡ refused k → ⊥) → ⊥
    hit_some t missing q k a b g = g refl b
    hit_some t (found l) q k a b g = done≢refused b

    walk_miss : (t : ℕ) (seen : Bool) (k : ℕ) → s ≤ t → t < n → flip_first e (row t) ≡ missing
        → ite (dec_lt (first_abs (row t)) (nat_abs e)) (refused (none_found (or_bool (seen_in (nat_abs e) (row t)) seen))) (walk r rd e t (or_bool (seen_in (nat_abs e) (row t)) seen)) ≡ refused k
        → ((b : Bool) → s < t → walk r rd e t b ≡ refused k → ⊥) → Dec (s ≡ t) → ⊥
    walk_miss t seen k a b f d ih (yes q) = first_missing e (row t) f (subst (λ (x : ℕ). Memᴰ e (row x)) q there)
    walk_miss t seen k a b f d ih (no q) =
        ite_cases (dec_lt (first_abs (row t)) (nat_abs e)) (refused (none_found (or_bool (seen_in (nat_abs e) (row t)) seen))) (walk r rd e t (or_bool (seen_in (nat_abs e) (row t)) seen)) (refused k) d
        (λ x y. omega (arith, firsts t (omega arith) b)) (λ x y. ih (or_bool (seen_in (nat_abs e) (row t)) seen) (omega arith) y)

    walk_at : (t : ℕ) (seen : Bool) (k : ℕ) → s ≤ t → t < n
        → ite (dec_lt (last_abs r (row t)) (nat_abs e)) (refused (none_found seen))
        (on_hit t (flip_first e (row t)) (ite (dec_lt (first_abs (row t)) (nat_abs e)) (refused (none_found (or_bool (seen_in (nat_abs e) (row t)) seen))) (walk r rd e t (or_bool (seen_in (nat_abs e) (row t)) seen)))) ≡ refused k
        → ((b : Bool) → s < t → walk r rd e t b ≡ refused k → ⊥) → Dec (s ≡ t) → ⊥
    walk_at t seen k a b d ih w =
        ite_cases (dec_lt (last_abs r (row t)) (nat_abs e)) (refused (none_found seen)) _ (refused k) d
        (λ u v. omega (arith, lasts t a b))
        (λ u v. hit_some t (flip_first e (row t)) _ k refl v (λ f g. walk_miss t seen k a b f g ih w))

    walk_in : (t : ℕ) (X : Res (List ℤ)) (seen : Bool) (k : ℕ) → s ≤ t → t < n → X ≡ done (row t)
        → then_do X (λ l. ite (dec_lt (last_abs r l) (nat_abs e)) (refused (none_found seen))
        (on_hit t (flip_first e l) (ite (dec_lt (first_abs l) (nat_abs e)) (refused (none_found (or_bool (seen_in (nat_abs e) l) seen))) (walk r rd e t (or_bool (seen_in (nat_abs e) l) seen))))) ≡ refused k
        → ((b : Bool) → s < t → walk r rd e t b ≡ refused k → ⊥) → Dec (s ≡ t) → ⊥
    walk_in t (refused j) seen k a b c d ih w = done≢refused (sym c)
    walk_in t (done l) seen k a b c d ih w =
        let q : l ≡ row t = cc in
        walk_at t seen k a b (subst (λ (x : List ℤ). then_do (done x) (λ l. ite (dec_lt (last_abs r l) (nat_abs e)) (refused (none_found seen))
        (on_hit t (flip_first e l) (ite (dec_lt (first_abs l) (nat_abs e)) (refused (none_found (or_bool (seen_in (nat_abs e) l) seen))) (walk r rd e t (or_bool (seen_in (nat_abs e) l) seen))))) ≡ refused k) q d) ih w

    pub walk_finds : (t : ℕ) (seen : Bool) (k : ℕ) → t ≤ n → s < t → walk r rd e t seen ≡ refused k → ⊥
    unfolding walk
    walk_finds zero seen k a b c = omega arith
    walk_finds (suc t) seen k a b c = walk_in t (rd t) seen k (omega arith) (omega arith) (reads t (omega arith)) c (λ x y z. walk_finds t x k (omega arith) y z) (ℕ_discrete s t)
