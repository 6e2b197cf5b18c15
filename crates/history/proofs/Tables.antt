-- From records to tables: a record list in bytes, as a table of the abstract index.
use mathlib.Core.Path.{◌≡◌, refl, sym, ◌∙◌, ap}
use mathlib.Core.Logic.{◌⊎◌, inl, inr, ◌≢◌}
use mathlib.Core.List.{List, [], ◌∷◌, ◌++◌, map}
use mathlib.Core.Bool.{Bool, true, false, not, ◌&&◌, cond}
use Prim.Native.Nat.{ℕ, zero, suc, ◌+◌, ◌*◌, ◌-◌, ◌≤◌, ◌<◌}
use native.Mathlib.Omega.{arith}
use lib.ListN.{length, get_or, take, set, length-map}
use Rattle.std.specs.Prelude.{Option, Some, None}
use Rattle.stores.specs.Equal.{same_bytes}
use Rattle.records.specs.Records.{key_of, stored_row}
use Rattle.records.specs.Find.{find_from, find_key, is_found}
use Rattle.records.proofs.Views.{put_at, remove_at}
use Rattle.stores.proofs.EqualLaws.{same_true}
use Rattle.records.proofs.KeyLaws.{same_eq, same_false, PutCase, put_cases, replaced, added}
use Rattle.buffer_core.specs.Flush.{new_count}
use Rattle.entries.specs.Tally.{one_if}
use Rattle.ledger.specs.Ledger.{ite, id_dec}
use Rattle.fork_model.proofs.Table as Tb
use Rattle.fork_model.proofs.Table.{missing, found}

abbrev pub Bytes : Type 0
Bytes = List ℕ

abbrev pub Rec : Type 0
Rec = Tb.Rec Bytes Bytes id_dec

abbrev pub Table : Type 0
Table = List Rec

abbrev pub rec : Bytes → Bytes → Rec
rec k l = record { name = k; row = l }

abbrev pub rec_of : Bytes → Rec
rec_of r = rec (key_of r) (stored_row r)

-- the table of a list of records
abbrev pub tab : List Bytes → Table
tab rs = map rec_of rs

-- ---- a decision on keys is the comparison of bytes
pub ite_same : {A : Type 0} (x y : Bytes) (w : Dec (x ≡ y)) (a b : A) → ite w a b ≡ cond (same_bytes x y) a b
unfolding ite
ite_same x y (yes e) a b = rw (same_eq x y e)
ite_same x y (no n) a b = rw (same_false x y n)

abbrev bump : Option ℕ → Option ℕ
bump (Some i) = Some (suc i)
bump None = None

bump_pick : (t : Bool) (i : ℕ) (f : Option ℕ) → cond t (Some (suc i)) (bump f) ≡ bump (cond t (Some i) f)
bump_pick true i f = refl
bump_pick false i f = refl

find_bump : (k : Bytes) (i : ℕ) (ks : List Bytes) → find_from k (suc i) ks ≡ bump (find_from k i ks)
unfolding find_from
find_bump k i [] = refl
find_bump k i (x ∷ ks) = ap (cond (same_bytes x k) (Some (suc i))) (find_bump k (suc i) ks) ∙ bump_pick (same_bytes x k) i (find_from k (suc i) ks)

find_cons : (k x : Bytes) (ks : List Bytes) → find_key k (x ∷ ks) ≡ cond (same_bytes x k) (Some 0) (bump (find_key k ks))
unfolding find_from
find_cons k x ks = ap (cond (same_bytes x k) (Some 0)) (find_bump k 0 ks)

-- ---- lookup
abbrev pub row_opt : Option ℕ → List Bytes → Tb.Found Bytes
row_opt (Some i) rs = found (stored_row (get_or rs i []))
row_opt None rs = missing

abbrev pub lookup : Table → Bytes → Tb.Found Bytes
lookup t k = Tb.lookup Bytes Bytes id_dec t k

look_step : (t : Bool) (f : Option ℕ) (r : Bytes) (rs : List Bytes) → cond t (found (stored_row r)) (row_opt f rs) ≡ row_opt (cond t (Some 0) (bump f)) (r ∷ rs)
look_step true f r rs = refl
look_step false (Some i) r rs = refl
look_step false None r rs = refl

pub lookup_is : (rs : List Bytes) (k : Bytes) → lookup (tab rs) k ≡ row_opt (find_key k (map key_of rs)) rs
unfolding find_from
lookup_is [] k = refl
lookup_is (r ∷ rs) k =
    ite_same (key_of r) k (id_dec (key_of r) k) (found (stored_row r)) (lookup (tab rs) k)
    ∙ ap (cond (same_bytes (key_of r) k) (found (stored_row r))) (lookup_is rs k)
    ∙ look_step (same_bytes (key_of r) k) (find_key k (map key_of rs)) r rs
    ∙ ap (λ (f : Option ℕ). row_opt f (r ∷ rs)) (sym (find_cons k (key_of r) (map key_of rs)))

-- ---- put
abbrev pub put : Table → Bytes → Bytes → Table
put t k l = Tb.put Bytes Bytes id_dec t k l

put_step : (t : Bool) (f : Option ℕ) (r new : Bytes) (rs : List Bytes) (k l : Bytes) → rec_of new ≡ rec k l
    → cond t (rec k l ∷ tab rs) (rec_of r ∷ tab (put_at f new rs)) ≡ tab (put_at (cond t (Some 0) (bump f)) new (r ∷ rs))
put_step true f r new rs k l e = ap (λ (x : Rec). x ∷ tab rs) (sym e)
put_step false (Some i) r new rs k l e = refl
put_step false None r new rs k l e = refl

pub put_is : (rs : List Bytes) (k l new : Bytes) → rec_of new ≡ rec k l → put (tab rs) k l ≡ tab (put_at (find_key k (map key_of rs)) new rs)
unfolding find_from
put_is [] k l new e = ap (λ (x : Rec). x ∷ []) (sym e)
put_is (r ∷ rs) k l new e =
    ite_same (key_of r) k (id_dec (key_of r) k) (rec k l ∷ tab rs) (rec_of r ∷ put (tab rs) k l)
    ∙ ap (λ (t : Table). cond (same_bytes (key_of r) k) (rec k l ∷ tab rs) (rec_of r ∷ t)) (put_is rs k l new e)
    ∙ put_step (same_bytes (key_of r) k) (find_key k (map key_of rs)) r new rs k l e
    ∙ ap (λ (f : Option ℕ). tab (put_at f new (r ∷ rs))) (sym (find_cons k (key_of r) (map key_of rs)))

-- ---- removal
abbrev pub remove : Table → Bytes → Table
remove t k = Tb.remove Bytes Bytes id_dec t k

abbrev pub remove_found : Option ℕ → List Bytes → List Bytes
remove_found (Some i) rs = remove_at [] i rs
remove_found None rs = rs

last_first : (y : Bytes) (t : List Bytes) → Tb.newest_first Bytes Bytes id_dec (rec_of y) (tab t) ≡ tab (get_or (y ∷ t) (length t) [] ∷ take (length t) (y ∷ t))
last_first y [] = refl
last_first y (z ∷ t) = ap (Tb.second Bytes Bytes id_dec (rec_of y)) (last_first z t)

gap_first : (r : Bytes) (rs : List Bytes) → Tb.gapped Bytes Bytes id_dec (tab rs) ≡ tab (remove_at [] 0 (r ∷ rs))
unfolding remove_at
gap_first r [] = refl
gap_first r (y ∷ t) = let e : suc (suc (length t)) - 1 ≡ suc (length t) = omega arith in last_first y t ∙ rw e

remove_cons : (r y : Bytes) (t : List Bytes) (i : ℕ) → remove_at [] (suc i) (r ∷ y ∷ t) ≡ r ∷ remove_at [] i (y ∷ t)
unfolding remove_at
remove_cons r y t i =
    let e : suc (suc (length t)) - 1 ≡ suc (length t) = omega arith in
    let d : suc (length t) - 1 ≡ length t = omega arith in
    rw (e, d)

rem_step : (t : Bool) (f : Option ℕ) (r y : Bytes) (rs : List Bytes)
    → cond t (Tb.gapped Bytes Bytes id_dec (tab (y ∷ rs))) (rec_of r ∷ tab (remove_found f (y ∷ rs))) ≡ tab (remove_found (cond t (Some 0) (bump f)) (r ∷ y ∷ rs))
rem_step true f r y rs = gap_first r (y ∷ rs)
rem_step false (Some i) r y rs = ap tab (sym (remove_cons r y rs i))
rem_step false None r y rs = refl

rem_one : (t : Bool) (r : Bytes) → cond t [] (rec_of r ∷ []) ≡ tab (remove_found (cond t (Some 0) None) (r ∷ []))
unfolding remove_at
rem_one true r = refl
rem_one false r = refl

pub remove_is : (rs : List Bytes) (k : Bytes) → remove (tab rs) k ≡ tab (remove_found (find_key k (map key_of rs)) rs)
unfolding find_from
remove_is [] k = refl
remove_is (r ∷ []) k =
    ite_same (key_of r) k (id_dec (key_of r) k) [] (rec_of r ∷ [])
    ∙ rem_one (same_bytes (key_of r) k) r
    ∙ ap (λ (f : Option ℕ). tab (remove_found f (r ∷ []))) (sym (find_cons k (key_of r) []))
remove_is (r ∷ y ∷ rs) k =
    ite_same (key_of r) k (id_dec (key_of r) k) (Tb.gapped Bytes Bytes id_dec (tab (y ∷ rs))) (rec_of r ∷ remove (tab (y ∷ rs)) k)
    ∙ ap (λ (t : Table). cond (same_bytes (key_of r) k) (Tb.gapped Bytes Bytes id_dec (tab (y ∷ rs))) (rec_of r ∷ t)) (remove_is (y ∷ rs) k)
    ∙ rem_step (same_bytes (key_of r) k) (find_key k (map key_of (y ∷ rs))) r y rs
    ∙ ap (λ (f : Option ℕ). tab (remove_found f (r ∷ y ∷ rs))) (sym (find_cons k (key_of r) (map key_of (y ∷ rs))))

-- ---- keys
abbrev pub In : Bytes → List Bytes → Type 0
In k ks = Tb.In Bytes Bytes id_dec k ks

found_pick : (t : Bool) (f : Option ℕ) → is_found (cond t (Some 0) (bump f)) ≡ cond t true (is_found f)
found_pick true f = refl
found_pick false (Some i) = refl
found_pick false None = refl

pub in_found : (k : Bytes) (ks : List Bytes) → In k ks → is_found (find_key k ks) ≡ true
unfolding find_from
in_found k [] h = absurd h
in_found k (x ∷ ks) (inl e) = rw (find_cons k x ks, found_pick (same_bytes x k) (find_key k ks), same_eq x k e)
in_found k (x ∷ ks) (inr h) = rw (find_cons k x ks, found_pick (same_bytes x k) (find_key k ks), in_found k ks h) (both_ways (same_bytes x k))
  where
    both_ways : (t : Bool) → cond t true true ≡ true
    both_ways true = refl
    both_ways false = refl

pub found_in_list : (k : Bytes) (ks : List Bytes) → is_found (find_key k ks) ≡ true → In k ks
unfolding find_from
found_in_list k [] h = let z : ◌≡◌ {A = ℕ} 0 1 = cc in absurd (omega arith)
found_in_list k (x ∷ ks) h = by_test (same_bytes x k) refl (found_in_list k ks) (sym (found_pick (same_bytes x k) (find_key k ks)) ∙ ap is_found (sym (find_cons k x ks)) ∙ h)
  where
    by_test : (t : Bool) → same_bytes x k ≡ t → (is_found (find_key k ks) ≡ true → In k ks) → cond t true (is_found (find_key k ks)) ≡ true → In k (x ∷ ks)
    by_test true e f g = inl (same_true x k e)
    by_test false e f g = inr (f g)

bool_eq : (t : Bool) → (t ≡ true → ⊥) → t ≡ false
bool_eq true h = absurd (h refl)
bool_eq false h = refl

pub ite_in : {A : Type 0} (k : Bytes) (ks : List Bytes) (w : Dec (In k ks)) (a b : A) → ite w a b ≡ cond (is_found (find_key k ks)) a b
unfolding ite
ite_in k ks (yes h) a b = rw (in_found k ks h)
ite_in k ks (no n) a b = rw (bool_eq (is_found (find_key k ks)) (λ e. n (found_in_list k ks e)))

abbrev pub in_dec : (k : Bytes) (ks : List Bytes) → Dec (In k ks)
in_dec k ks = Tb.in_dec Bytes Bytes id_dec k ks

found_cond : {A : Type 0} (f : Option ℕ) (t : Bool) (a b : A) → is_found f ≡ t → cond (is_found f) a b ≡ cond t a b
found_cond f t a b e = rw e

-- a key put into the deletion list
pub add_is : (k : Bytes) (ks : List Bytes) → ite (in_dec k ks) ks (ks ++ k ∷ []) ≡ put_at (find_key k ks) k ks
add_is k ks = ite_in k ks (in_dec k ks) ks (ks ++ k ∷ []) ∙ by_case (put_cases k ks)
  where
    by_case : PutCase k ks → cond (is_found (find_key k ks)) ks (ks ++ k ∷ []) ≡ put_at (find_key k ks) k ks
    by_case (replaced j a b c d) = rw (d, c)
    by_case (added a c d) = rw (d, c)

-- ---- what a flush does
abbrev pub write_all : Table → List Bytes → Table → Table
write_all t ks table = Tb.write_all Bytes Bytes id_dec t ks table

abbrev pub remove_all : List Bytes → Table → Table
remove_all ks t = Tb.remove_all Bytes Bytes id_dec ks t

abbrev pub fresh : Table → List Bytes → Table → ℕ
fresh t ks table = Tb.fresh Bytes Bytes id_dec t ks table

new_one : {A B : Type 0} (x y : Bool) (w : Dec A) (v : Dec B) (n : ℕ) → ((a b : ℕ) → ite w a b ≡ cond x a b) → ((a b : ℕ) → ite v a b ≡ cond (not y) a b)
    → ite (Tb.new_dec Bytes Bytes id_dec w v) (suc n) n ≡ one_if (not x && not y) + n
unfolding ite Tb.new_dec
new_one true y (yes a) v n p q = omega arith
new_one false y (yes a) v n p q = absurd (let z : ◌≡◌ {A = ℕ} 0 1 = p 0 1 in omega arith)
new_one true y (no a) v n p q = absurd (let z : ◌≡◌ {A = ℕ} 1 0 = p 0 1 in omega arith)
new_one false true (no a) (yes b) n p q = absurd (let z : ◌≡◌ {A = ℕ} 0 1 = q 0 1 in omega arith)
new_one false true (no a) (no b) n p q = omega arith
new_one false false (no a) (yes b) n p q = omega arith
new_one false false (no a) (no b) n p q = absurd (let z : ◌≡◌ {A = ℕ} 1 0 = q 0 1 in omega arith)

lacks_opt : {A : Type 0} (f : Option ℕ) (rs : List Bytes) (g : Tb.Found Bytes) → g ≡ row_opt f rs → (a b : A) → ite (Tb.lacks_dec Bytes Bytes id_dec g) a b ≡ cond (not (is_found f)) a b
unfolding ite Tb.lacks_dec
lacks_opt (Some i) rs g e a b = rw e
lacks_opt None rs g e a b = rw e

pub ite_lacks : {A : Type 0} (rs : List Bytes) (k : Bytes) (a b : A) → ite (Tb.lacks_dec Bytes Bytes id_dec (lookup (tab rs) k)) a b ≡ cond (not (is_found (find_key k (map key_of rs)))) a b
ite_lacks rs k a b = lacks_opt (find_key k (map key_of rs)) rs (lookup (tab rs) k) (lookup_is rs k) a b

pub fresh_is : (rs : List Bytes) (ks table : List Bytes) → fresh (tab rs) ks (tab table) ≡ new_count (map key_of table) ks (map key_of rs)
unfolding Tb.fresh new_count
fresh_is [] ks table = refl
fresh_is (r ∷ rs) ks table =
    new_one (is_found (find_key (key_of r) ks)) (is_found (find_key (key_of r) (map key_of table))) (in_dec (key_of r) ks)
    (Tb.lacks_dec Bytes Bytes id_dec (lookup (tab table) (key_of r))) (fresh (tab rs) ks (tab table))
    (ite_in (key_of r) ks (in_dec (key_of r) ks)) (ite_lacks table (key_of r))
    ∙ ap (λ (n : ℕ). one_if (not (is_found (find_key (key_of r) ks)) && not (is_found (find_key (key_of r) (map key_of table)))) + n) (fresh_is rs ks table)
