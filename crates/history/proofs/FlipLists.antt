-- Searching a list, the halving and the walk: as the contracts say it, and as the tables' machine does.
use Rattle.ledger.specs.Run.{row_or}
use mathlib.Core.Path.{◌≡◌, refl, sym, ◌∙◌, ap}
use mathlib.Core.Logic.{◌≢◌}
use mathlib.Core.Bool.{Bool, true, false, cond, ◌||◌, ◌&&◌}
use mathlib.Core.List.{List, [], ◌∷◌, map, Memᴰ}
use Prim.Native.Nat.{ℕ, zero, suc, ◌+◌, ◌*◌, ◌-◌, ◌/◌, ◌≤◌, ◌<◌}
use native.Mathlib.Omega.{arith}
use native.Mathlib.Numerals.{add-one}
use native.Mathlib.Decide.{ℕ_discrete, dec_le, dec_lt}
use lib.Dec.{eqb, ltb, leb}
use lib.IntN.{ℤ, pos, negsuc, neg_ℤ, nat_abs}
use lib.ListN.{length, take, set, get_or, length-set}
use borrow.Author.Tests.{leb-true, leb-false, le-leb, lt-leb, ltb-true, ltb-false, lt-ltb, le-ltb, eqb-true, eqb-false, eq-eqb, ne_eqb}
use Rattle.entries.specs.Order.{order_ok, ordered}
use Rattle.signed.specs.Sign.{wanted}
use Rattle.entries.specs.Flip.{position, flipped_at}
use Rattle.entries.specs.declared.Position.{Position}
use Rattle.entries.specs.declared.Position.TheVariants.{At, Seen, Absent}
use Rattle.std.specs.Prelude.{Ok, Err}
use Rattle.buffer_core.specs.Answers.{Lead}
use Rattle.buffer_core.specs.Answers.{Low}
use Rattle.buffer_core.specs.declared.Look.{Look}
use Rattle.buffer_core.specs.declared.Look.TheVariants.{Take, Stop, Next, Fail}
use Rattle.buffer_core.specs.declared.Walk.{Walk}
use Rattle.buffer_core.specs.declared.Walk.TheVariants.{Hit, Ended, Failed}
use Rattle.buffer_core.specs.Flip.{half, middle, search_by, look_past, look_by, look_in, walk_by, walk_from}
use Rattle.history.proofs.Lists.{ite_le}
use Rattle.ledger.specs.Ledger.{ite, int_dec}
use Rattle.ledger.specs.Run.{Res, done, refused}
use Rattle.fork_model.proofs.Store as St
use Rattle.fork_model.proofs.Store.{then_do, flip_first, cons_found, seen_in, or_bool, on_hit, first_abs, last_abs, half_way, none_found}
use Rattle.fork_model.proofs.Table.{missing, found}
use Rattle.fork_model.proofs.Table as Tb

-- the copy that is looked for
abbrev pub copy_of : Bool → ℕ → ℤ
copy_of true t = pos t
copy_of false t = neg_ℤ (pos t)

pub copy_abs : (d : Bool) (t : ℕ) → nat_abs (copy_of d t) ≡ t
copy_abs true t = refl
copy_abs false zero = refl
copy_abs false (suc t) = refl

-- an entry is that copy if its absolute value and its sign say so
wanted_is : (d : Bool) (t : ℕ) (z : ℤ) → nat_abs z ≡ t → wanted d z ≡ true → z ≡ copy_of d t
wanted_is true t (pos n) e w = ap pos e
wanted_is true t (negsuc n) e w = let x : ◌≡◌ {A = ℕ} 0 1 = cc in absurd (omega arith)
wanted_is false t (pos n) e w = let x = eqb-true n 0 w in let y : t ≡ 0 = omega arith in rw (x, y)
wanted_is false t (negsuc n) e w = ap (λ (m : ℕ). neg_ℤ (pos m)) e

is_wanted : (d : Bool) (t : ℕ) → wanted d (copy_of d t) ≡ true
is_wanted true t = refl
is_wanted false zero = eq-eqb 0 0 refl
is_wanted false (suc t) = refl

cond_same : {A : Type 0} (u : Bool) (a : A) → cond u a a ≡ a
cond_same true a = refl
cond_same false a = refl

pub ite_copy : {A : Type 0} (d : Bool) (t : ℕ) (z : ℤ) (w : Dec (z ≡ copy_of d t)) (a b : A) → ite w a b ≡ cond (eqb (nat_abs z) t) (cond (wanted d z) a b) b
unfolding ite
ite_copy d t z (yes e) a b = rw (eq-eqb (nat_abs z) t (ap nat_abs e ∙ copy_abs d t), ap (wanted d) e ∙ is_wanted d t)
ite_copy {A} d t z (no n) a b = by_tests (eqb (nat_abs z) t) (wanted d z) refl refl
  where
    by_tests : (u v : Bool) → eqb (nat_abs z) t ≡ u → wanted d z ≡ v → b ≡ cond u (cond v a b) b
    by_tests true true p q = absurd (n (wanted_is d t z (eqb-true (nat_abs z) t p) q))
    by_tests true false p q = refl
    by_tests false v p q = refl

-- ---- places
abbrev bump : Position → Position
bump (At i) = At (suc i)
bump Seen = Seen
bump Absent = Absent

abbrev or_seen : Bool → Position → Position
or_seen true (At i) = At i
or_seen true Seen = Seen
or_seen true Absent = Seen
or_seen false p = p

bump_cond : (u v : Bool) (i : ℕ) (p q : Position) → cond u (cond v (At (suc i)) (bump p)) (bump q) ≡ bump (cond u (cond v (At i) p) q)
bump_cond true true i p q = refl
bump_cond true false i p q = refl
bump_cond false v i p q = refl

bump_end : (s : Bool) → cond s Seen Absent ≡ bump (cond s Seen Absent)
bump_end true = refl
bump_end false = refl

place_bump : (d : Bool) (t : ℕ) (zs : List ℤ) (i : ℕ) (s : Bool) → position d t zs (suc i) s ≡ bump (position d t zs i s)
place_bump d t [] i s = bump_end s
place_bump d t (z ∷ zs) i s =
    let e : suc i + 1 ≡ suc (i + 1) = omega arith in
    ap (λ (n : ℕ). cond (eqb (nat_abs z) t) (cond (wanted d z) (At (suc i)) (position d t zs n true)) (position d t zs n s)) e
    ∙ (λ j. cond (eqb (nat_abs z) t) (cond (wanted d z) (At (suc i)) (place_bump d t zs (i + 1) true j)) (place_bump d t zs (i + 1) s j))
    ∙ bump_cond (eqb (nat_abs z) t) (wanted d z) i (position d t zs (i + 1) true) (position d t zs (i + 1) s)

seen_cond : (u v : Bool) (i : ℕ) (p q : Position) → p ≡ or_seen true p → cond u (cond v (At i) p) (or_seen true q) ≡ or_seen true (cond u (cond v (At i) p) q)
seen_cond true true i p q e = refl
seen_cond true false i p q e = e
seen_cond false v i p q e = refl

seen_twice : (p : Position) → or_seen true p ≡ or_seen true (or_seen true p)
seen_twice (At i) = refl
seen_twice Seen = refl
seen_twice Absent = refl

place_seen : (d : Bool) (t : ℕ) (zs : List ℤ) (i : ℕ) → position d t zs i true ≡ or_seen true (position d t zs i false)
place_seen d t [] i = refl
place_seen d t (z ∷ zs) i =
    let e = place_seen d t zs (i + 1) in
    ap (λ (q : Position). cond (eqb (nat_abs z) t) (cond (wanted d z) (At i) (position d t zs (i + 1) true)) q) e
    ∙ seen_cond (eqb (nat_abs z) t) (wanted d z) i (position d t zs (i + 1) true) (position d t zs (i + 1) false) (e ∙ seen_twice (position d t zs (i + 1) false) ∙ ap (or_seen true) (sym e))

abbrev first : Bool → ℕ → List ℤ → Position
first d t zs = position d t zs 0 false

place_cons : (d : Bool) (t : ℕ) (z : ℤ) (zs : List ℤ) → first d t (z ∷ zs) ≡ cond (eqb (nat_abs z) t) (cond (wanted d z) (At 0) (or_seen true (bump (first d t zs)))) (bump (first d t zs))
place_cons d t z zs =
    let e : position d t zs 1 false ≡ bump (first d t zs) = place_bump d t zs 0 false in
    let f : position d t zs 1 true ≡ or_seen true (bump (first d t zs)) = place_seen d t zs 1 ∙ ap (or_seen true) e in
    let n : 0 + 1 ≡ 1 = omega arith in
    ap (λ (m : ℕ). cond (eqb (nat_abs z) t) (cond (wanted d z) (At 0) (position d t zs m true)) (position d t zs m false)) n
    ∙ (λ j. cond (eqb (nat_abs z) t) (cond (wanted d z) (At 0) (f j)) (e j))

-- the list that a place leaves
abbrev pub new_of : Position → List ℤ → Tb.Found (List ℤ)
new_of (At i) zs = found (flipped_at (At i) zs)
new_of Seen zs = missing
new_of Absent zs = missing

new_bump : (p : Position) (z : ℤ) (zs : List ℤ) → cons_found z (new_of p zs) ≡ new_of (bump p) (z ∷ zs)
new_bump (At i) z zs = refl
new_bump Seen z zs = refl
new_bump Absent z zs = refl

new_seen : (p : Position) (zs : List ℤ) → new_of p zs ≡ new_of (or_seen true p) zs
new_seen (At i) zs = refl
new_seen Seen zs = refl
new_seen Absent zs = refl

new_cond : (u v : Bool) (p : Position) (z : ℤ) (zs : List ℤ)
    → cond u (cond v (found (neg_ℤ z ∷ zs)) (new_of (bump p) (z ∷ zs))) (new_of (bump p) (z ∷ zs)) ≡ new_of (cond u (cond v (At 0) (or_seen true (bump p))) (bump p)) (z ∷ zs)
new_cond true true p z zs = refl
new_cond true false p z zs = new_seen (bump p) (z ∷ zs)
new_cond false v p z zs = refl

pub first_new : (d : Bool) (t : ℕ) (zs : List ℤ) → flip_first (copy_of d t) zs ≡ new_of (first d t zs) zs
unfolding flip_first
first_new d t [] = refl
first_new d t (z ∷ zs) =
    ite_copy d t z (int_dec z (copy_of d t)) (found (neg_ℤ z ∷ zs)) (cons_found z (flip_first (copy_of d t) zs))
    ∙ ap (λ (x : Tb.Found (List ℤ)). cond (eqb (nat_abs z) t) (cond (wanted d z) (found (neg_ℤ z ∷ zs)) x) x) (ap (cons_found z) (first_new d t zs) ∙ new_bump (first d t zs) z zs)
    ∙ new_cond (eqb (nat_abs z) t) (wanted d z) (first d t zs) z zs
    ∙ ap (λ (p : Position). new_of p (z ∷ zs)) (sym (place_cons d t z zs))

abbrev pub is_seen : Position → Bool
is_seen (At i) = true
is_seen Seen = true
is_seen Absent = false

seen_or : (u v : Bool) (p : Position) → cond u true (is_seen p) ≡ is_seen (cond u (cond v (At 0) (or_seen true (bump p))) (bump p))
seen_or true true p = refl
seen_or true false (At i) = refl
seen_or true false Seen = refl
seen_or true false Absent = refl
seen_or false v (At i) = refl
seen_or false v Seen = refl
seen_or false v Absent = refl

ite_eq : {A : Type 0} (m n : ℕ) (w : Dec (m ≡ n)) (a b : A) → ite w a b ≡ cond (eqb m n) a b
unfolding ite
ite_eq m n (yes e) a b = rw (eq-eqb m n e)
ite_eq m n (no e) a b = rw (ne_eqb m n e)

pub first_seen : (d : Bool) (t : ℕ) (zs : List ℤ) → seen_in t zs ≡ is_seen (first d t zs)
unfolding seen_in
first_seen d t [] = refl
first_seen d t (z ∷ zs) =
    ite_eq (nat_abs z) t (ℕ_discrete (nat_abs z) t) true (seen_in t zs)
    ∙ ap (cond (eqb (nat_abs z) t) true) (first_seen d t zs)
    ∙ seen_or (eqb (nat_abs z) t) (wanted d z) (first d t zs)
    ∙ ap is_seen (sym (place_cons d t z zs))

-- a place lies in the list
abbrev pub InPlace : Position → ℕ → Type 0
InPlace (At i) n = i < n
InPlace Seen n = Unit {0}
InPlace Absent n = Unit {0}

in_cond : (u v : Bool) (p : Position) (n : ℕ) → InPlace p n → InPlace (cond u (cond v (At 0) (or_seen true (bump p))) (bump p)) (suc n)
in_cond true true p n h = omega arith
in_cond true false (At i) n h = omega arith
in_cond true false Seen n h = tt
in_cond true false Absent n h = tt
in_cond false v (At i) n h = omega arith
in_cond false v Seen n h = tt
in_cond false v Absent n h = tt

pub first_in : (d : Bool) (t : ℕ) (zs : List ℤ) → InPlace (first d t zs) (length zs)
first_in d t [] = tt
first_in d t (z ∷ zs) = rw (place_cons d t z zs) (in_cond (eqb (nat_abs z) t) (wanted d z) (first d t zs) (length zs) (first_in d t zs))

-- ---- order
order_cond : (u v : Bool) (x y : Bool) → v ≡ true → x ≡ y → u && (v && x) ≡ cond u y false
order_cond true v x y e f = rw (e, f)
order_cond false v x y e f = refl

pub order_same : (lo : ℕ) (zs : List ℤ) → ((x : ℤ) → Memᴰ x zs → nat_abs x < 9223372036854775808) → ordered lo (map nat_abs zs) ≡ St.ordered lo zs
unfolding St.ordered
order_same lo [] h = refl
order_same lo (z ∷ zs) h =
    order_cond (leb lo (nat_abs z)) (ltb (nat_abs z) 9223372036854775808) (ordered (nat_abs z) (map nat_abs zs)) (St.ordered (nat_abs z) zs)
    (lt-ltb (nat_abs z) 9223372036854775808 (h z (Memᴰ.head refl))) (order_same (nat_abs z) zs (λ x m. h x (Memᴰ.tail m)))
    ∙ sym (ite_le lo (nat_abs z) (dec_le lo (nat_abs z)) (St.ordered (nat_abs z) zs) false)

-- ---- the halving
abbrev pub lead_res : Res (List ℤ) → Lead
lead_res (done l) = Ok (first_abs l)
lead_res (refused c) = Err c

abbrev pub low_of : Res ℕ → Low
low_of (done n) = Ok n
low_of (refused c) = Err c

ite_lt : {A : Type 0} (m n : ℕ) (w : Dec (m < n)) (a b : A) → ite w a b ≡ cond (ltb m n) a b
unfolding ite
ite_lt m n (yes e) a b = rw (lt-ltb m n e)
ite_lt m n (no e) a b = rw (le-ltb m n (omega arith))

mid_in : (lo hi : ℕ) → lo < hi → middle lo hi < hi
mid_in lo hi h = omega arith

module _ (f : ℕ → Lead) (rd : ℕ → Res (List ℤ)) (t most : ℕ) (h : (n : ℕ) → n < most → f n ≡ lead_res (rd n)) where
  low_if : (u : Bool) (x y : Res ℕ) → cond u (low_of x) (low_of y) ≡ low_of (cond u x y)
  low_if true x y = refl
  low_if false x y = refl

  abbrev after : ℕ → (lo hi : ℕ) → List ℤ → Res ℕ
  after k lo hi l = ite (dec_le (first_abs l) t) (St.halve rd t k (suc (half_way lo hi)) hi) (St.halve rd t k lo (half_way lo hi))

  search_read : (r : Res (List ℤ)) (k lo hi : ℕ) (a b : Low) → a ≡ low_of (St.halve rd t k (suc (half_way lo hi)) hi) → b ≡ low_of (St.halve rd t k lo (half_way lo hi))
      → half (lead_res r) t a b ≡ low_of (then_do r (after k lo hi))
  search_read (refused c) k lo hi a b p q = refl
  search_read (done l) k lo hi a b p q =
      (λ i. cond (leb (first_abs l) t) (p i) (q i))
      ∙ low_if (leb (first_abs l) t) (St.halve rd t k (suc (half_way lo hi)) hi) (St.halve rd t k lo (half_way lo hi))
      ∙ ap low_of (sym (ite_le (first_abs l) t (dec_le (first_abs l) t) (St.halve rd t k (suc (half_way lo hi)) hi) (St.halve rd t k lo (half_way lo hi))))

  search_test : (u : Bool) (lo : ℕ) (a : Low) (x : Res ℕ) → (u ≡ true → a ≡ low_of x) → cond u a (Ok lo) ≡ low_of (cond u x (done lo))
  search_test true lo a x e = e refl
  search_test false lo a x e = refl

  pub search_same : (k lo hi : ℕ) → hi ≤ most → search_by f t k lo hi ≡ low_of (St.halve rd t k lo hi)
  unfolding search_by St.halve
  search_same zero lo hi b = refl
  search_same (suc k) lo hi b =
      search_test (ltb lo hi) lo (half (f (middle lo hi)) t (search_by f t k (middle lo hi + 1) hi) (search_by f t k lo (middle lo hi))) (then_do (rd (half_way lo hi)) (after k lo hi))
      (λ e. let g = ltb-true lo hi e in let m = mid_in lo hi g in
      ap (λ (x : Lead). half x t (search_by f t k (middle lo hi + 1) hi) (search_by f t k lo (middle lo hi))) (h (middle lo hi) (omega arith))
      ∙ search_read (rd (middle lo hi)) k lo hi (search_by f t k (middle lo hi + 1) hi) (search_by f t k lo (middle lo hi))
      (ap (λ (n : ℕ). search_by f t k n hi) (add-one (middle lo hi)) ∙ search_same k (suc (middle lo hi)) hi b) (search_same k lo (middle lo hi) (omega arith)))
      ∙ ap low_of (sym (ite_lt lo hi (dec_lt lo hi) (then_do (rd (half_way lo hi)) (after k lo hi)) (done lo)))

-- ---- the walk
abbrev pub look_res : ℕ → Bool → Res (List ℤ) → Look
look_res t d (done l) = look_in l t d
look_res t d (refused c) = Fail c

or_true : (s : Bool) → s || true ≡ true
or_true true = refl
or_true false = refl

or_false : (s : Bool) → s || false ≡ s
or_false true = refl
or_false false = refl

module _ (f : ℕ → Look) (rd : ℕ → Res (List ℤ)) (t : ℕ) (d : Bool) (most : ℕ) (h : (n : ℕ) → n < most → f n ≡ look_res t d (rd n)) where
  abbrev e : ℤ
  e = copy_of d t

  abbrev pub hit_of : Walk → Res St.Hit
  hit_of (Hit n i) = done (record { at = n; new = flipped_at (At i) (row_or (rd n)) })
  hit_of (Ended s) = refused (none_found s)
  hit_of (Failed c) = refused c

  abbrev past : ℕ → Bool → List ℤ → Res St.Hit
  past n s l = cond (ltb (first_abs l) t) (refused (none_found s)) (St.walk 511 rd e n s)

  next : (n : ℕ) (l : List ℤ) (seen s : Bool) (b : Bool) → ((x : Bool) → hit_of (walk_from f n x) ≡ St.walk 511 rd e n x) → (u : Bool) → seen || s ≡ u
      → hit_of (walk_by (look_past b s) n seen (λ x. walk_from f n x)) ≡ cond b (refused (none_found u)) (St.walk 511 rd e n u)
  next n l seen s true ih u q = ap (λ (x : Bool). refused (none_found x)) q
  next n l seen s false ih u q = ih (seen || s) ∙ ap (St.walk 511 rd e n) q

  by_place : (n : ℕ) (l : List ℤ) (seen : Bool) → rd n ≡ done l → ((x : Bool) → hit_of (walk_from f n x) ≡ St.walk 511 rd e n x) → (p : Position)
      → hit_of (walk_by (look_by p (ltb (first_abs l) t)) n seen (λ x. walk_from f n x)) ≡ on_hit n (new_of p l) (past n (or_bool (is_seen p) seen) l)
  by_place n l seen q ih (At i) = ap (λ (x : Res (List ℤ)). done (record { at = n; new = flipped_at (At i) (row_or x) })) q
  by_place n l seen q ih Seen = next n l seen true (ltb (first_abs l) t) ih true (or_true seen)
  by_place n l seen q ih Absent = next n l seen false (ltb (first_abs l) t) ih seen (or_false seen)

  by_last : (n : ℕ) (l : List ℤ) (seen : Bool) → rd n ≡ done l → ((x : Bool) → hit_of (walk_from f n x) ≡ St.walk 511 rd e n x) → (u : Bool)
      → hit_of (walk_by (cond u (Stop false) (look_by (first d t l) (ltb (first_abs l) t))) n seen (λ x. walk_from f n x))
      ≡ cond u (refused (none_found seen)) (on_hit n (new_of (first d t l) l) (past n (or_bool (is_seen (first d t l)) seen) l))
  by_last n l seen q ih true = ap (λ (x : Bool). refused (none_found x)) (or_false seen)
  by_last n l seen q ih false = by_place n l seen q ih (first d t l)

  abbrev rest : ℕ → Bool → List ℤ → Res St.Hit
  rest n seen l = ite (dec_lt (last_abs 511 l) (nat_abs e)) (refused (none_found seen))
      (on_hit n (flip_first e l) (ite (dec_lt (first_abs l) (nat_abs e)) (refused (none_found (or_bool (seen_in (nat_abs e) l) seen))) (St.walk 511 rd e n (or_bool (seen_in (nat_abs e) l) seen))))

  rest_is : (n : ℕ) (seen : Bool) (l : List ℤ) → rest n seen l ≡ cond (ltb (last_abs 511 l) t) (refused (none_found seen)) (on_hit n (new_of (first d t l) l) (past n (or_bool (is_seen (first d t l)) seen) l))
  rest_is n seen l =
      ite_lt (last_abs 511 l) (nat_abs e) (dec_lt (last_abs 511 l) (nat_abs e)) _ _
      ∙ ap (λ (x : Res St.Hit). cond (ltb (last_abs 511 l) (nat_abs e)) (refused (none_found seen)) (on_hit n (flip_first e l) x)) (ite_lt (first_abs l) (nat_abs e) (dec_lt (first_abs l) (nat_abs e)) _ _)
      ∙ (λ i. cond (ltb (last_abs 511 l) (copy_abs d t i)) (refused (none_found seen))
      (on_hit n (first_new d t l i) (cond (ltb (first_abs l) (copy_abs d t i)) (refused (none_found (or_bool (seen_in (copy_abs d t i) l) seen))) (St.walk 511 rd e n (or_bool (seen_in (copy_abs d t i) l) seen)))))
      ∙ ap (λ (s : Bool). cond (ltb (last_abs 511 l) t) (refused (none_found seen)) (on_hit n (new_of (first d t l) l) (past n (or_bool s seen) l))) (first_seen d t l)

  by_read : (n : ℕ) (seen : Bool) (r : Res (List ℤ)) → rd n ≡ r → ((x : Bool) → hit_of (walk_from f n x) ≡ St.walk 511 rd e n x)
      → hit_of (walk_by (look_res t d r) n seen (λ x. walk_from f n x)) ≡ then_do r (rest n seen)
  unfolding look_in
  by_read n seen (refused c) q ih = refl
  by_read n seen (done l) q ih = by_last n l seen q ih (ltb (last_abs 511 l) t) ∙ sym (rest_is n seen l)

  pub walk_same : (n : ℕ) (seen : Bool) → n ≤ most → hit_of (walk_from f n seen) ≡ St.walk 511 rd e n seen
  unfolding walk_from St.walk
  walk_same zero seen b = refl
  walk_same (suc n) seen b =
      ap (λ (x : Look). hit_of (walk_by x n seen (λ s. walk_from f n s))) (h n (omega arith))
      ∙ by_read n seen (rd n) refl (λ x. walk_same n x (omega arith))
