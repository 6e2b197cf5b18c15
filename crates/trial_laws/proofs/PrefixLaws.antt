-- Lists of records that agree in their first k bytes: what is read below k agrees, and what is written keeps the agreement.
use mathlib.Core.Path.{◌≡◌, refl, sym, ◌∙◌, ap, subst}
use mathlib.Core.List.{List, [], ◌∷◌, ◌++◌, append_assoc}
use Prim.Native.Nat.{ℕ, zero, suc, ◌+◌, ◌*◌, ◌-◌, ◌≤◌, ◌<◌}
use native.Mathlib.Decide.{dec_le}
use native.Mathlib.Omega.{arith}
use native.Mathlib.Nat.{suc-mul}
use lib.ListN.{length, take, drop, get_or, replicate, length-append, length-replicate}
use lib.Seq.{take-take, take-append-le, take-append-add, length-take-le}
use Rattle.stores.specs.Stores.{write}
use Rattle.std.specs.Prelude.{Option}
use Rattle.records.specs.Records.{records, keys}
use Rattle.records.specs.Find.{find_key}
use Rattle.records.specs.Changes.{slot, put_record, remove_record, clear_records}
use Rattle.records.proofs.RecordLaws.{record_at}
use Rattle.records.proofs.TurnLaws.{last_mul, below_mul}

-- the first k are the same; both lists are that long
pub record Agree {A : Type 0} (k : ℕ) (l m : List A) : Type 0 where
  pub same : take k l ≡ take k m
  pub in_l : k ≤ length l
  pub in_m : k ≤ length m

pub fewer : {A : Type 0} (j k : ℕ) (l m : List A) → j ≤ k → take k l ≡ take k m → take j l ≡ take j m
fewer j k l m h e = sym (take-take j k l h) ∙ ap (take j) e ∙ take-take j k m h

tails : {A : Type 0} (n j : ℕ) (l m : List A) → take (n + j) l ≡ take (n + j) m → n ≤ length l → n ≤ length m → take j (drop n l) ≡ take j (drop n m)
tails zero j l m e a b = let z : 0 + j ≡ j = omega arith in ap (λ x. take x l) (sym z) ∙ e ∙ ap (λ x. take x m) z
tails (suc n) j [] m e a b = absurd (omega arith)
tails (suc n) j (x ∷ l) [] e a b = absurd (omega arith)
tails (suc n) j (x ∷ l) (y ∷ m) e a b =
    let z : suc n + j ≡ suc (n + j) = omega arith in
    let q : x ∷ take (n + j) l ≡ y ∷ take (n + j) m = ap (λ w. take w (x ∷ l)) (sym z) ∙ e ∙ ap (λ w. take w (y ∷ m)) z in
    tails n j l m (mathlib.Core.List.tail-eq_of_cons-eq q) (omega arith) (omega arith)

-- ---- writes
module _ {A : Type 0} (k at : ℕ) (s l m : List A) (G : Agree k l m) (h : at ≤ k) where
  front : take at l ≡ take at m
  front = fewer at k l m h G.same

  abbrev i : ℕ
  i = k - at

  opened : (x : List A) → at ≤ length x → take k (write at s x) ≡ take at x ++ take i (s ++ drop (at + length s) x)
  unfolding write
  opened x g =
      let z : k ≡ length (take at x) + i = omega (arith, length-take-le at x g) in
      ap (take k) (append_assoc (take at x) s (drop (at + length s) x)) ∙ ap (λ n. take n (take at x ++ (s ++ drop (at + length s) x))) z ∙ take-append-add (take at x) (s ++ drop (at + length s) x) i

  behind : Dec (i ≤ length s) → take i (s ++ drop (at + length s) l) ≡ take i (s ++ drop (at + length s) m)
  behind (yes q) = take-append-le i s (drop (at + length s) l) q ∙ sym (take-append-le i s (drop (at + length s) m) q)
  behind (no q) =
      let j : ℕ = i - length s in
      let z : i ≡ length s + j = omega arith in
      let w : (at + length s) + j ≡ k = omega arith in
      let t = tails (at + length s) j l m (subst (λ (n : ℕ). take n l ≡ take n m) (sym w) G.same) (omega (arith, G.in_l)) (omega (arith, G.in_m)) in
      ap (λ n. take n (s ++ drop (at + length s) l)) z ∙ take-append-add s (drop (at + length s) l) j ∙ ap (λ (x : List A). s ++ x) t
      ∙ sym (take-append-add s (drop (at + length s) m) j) ∙ ap (λ n. take n (s ++ drop (at + length s) m)) (sym z)

  long : (x : List A) → at ≤ length x → length x ≤ length (write at s x)
  unfolding write
  long x g = omega (arith, length-append (take at x ++ s) (drop (at + length s) x), length-append (take at x) s, length-take-le at x g, lib.ListN.length-drop (at + length s) x)

  pub write_agree : Agree k (write at s l) (write at s m)
  write_agree = record {
    same = opened l (omega (arith, G.in_l)) ∙ (λ j. front j ++ behind (dec_le i (length s)) j) ∙ sym (opened m (omega (arith, G.in_m)));
    in_l = omega (arith, G.in_l, long l (omega (arith, G.in_l)));
    in_m = omega (arith, G.in_m, long m (omega (arith, G.in_m)));
  }

pub write_long : {A : Type 0} (at : ℕ) (s x : List A) → length x ≤ length (write at s x)
unfolding write
write_long {A} at s x = by (dec_le at (length x))
  where
    all : length ((take at x ++ s) ++ drop (at + length s) x) ≡ length (take at x) + length s + length (drop (at + length s) x)
    all = length-append (take at x ++ s) (drop (at + length s) x) ∙ ap (λ n. n + length (drop (at + length s) x)) (length-append (take at x) s)

    by : Dec (at ≤ length x) → length x ≤ length ((take at x ++ s) ++ drop (at + length s) x)
    by (yes h) = omega (arith, all, length-take-le at x h, lib.ListN.length-drop (at + length s) x)
    by (no h) = omega (arith, all, ap length (lib.Seq.take_all at x (omega arith)))

-- behind k nothing changes before k
past_agree : {A : Type 0} (k at : ℕ) (s x : List A) → k ≤ at → k ≤ length x → take k (write at s x) ≡ take k x
unfolding write
past_agree {A} k at s x h g =
    ap (take k) (append_assoc (take at x) s (drop (at + length s) x))
    ∙ take-append-le k (take at x) (s ++ drop (at + length s) x) (by (dec_le at (length x))) ∙ take-take k at x h
  where
    by : Dec (at ≤ length x) → k ≤ length (take at x)
    by (yes q) = omega (arith, length-take-le at x q, h)
    by (no q) = omega (arith, ap length (lib.Seq.take_all at x (omega arith)), g)

-- a write anywhere keeps the agreement
pub write_anywhere : {A : Type 0} (k at : ℕ) (s l m : List A) → Agree k l m → Agree k (write at s l) (write at s m)
write_anywhere {A} k at s l m G = by (dec_le at k)
  where
    by : Dec (at ≤ k) → Agree k (write at s l) (write at s m)
    by (yes h) = write_agree k at s l m G h
    by (no h) = record {
      same = past_agree k at s l (omega arith) G.in_l ∙ G.same ∙ sym (past_agree k at s m (omega arith) G.in_m);
      in_l = omega (arith, G.in_l, write_long at s l);
      in_m = omega (arith, G.in_m, write_long at s m);
    }

-- ---- records
pub records_agree : (size n k : ℕ) (l m : List ℕ) → Agree k l m → n * size ≤ k → records size n l ≡ records size n m
unfolding records
records_agree size zero k l m G h = refl
records_agree size (suc n) k l m G h =
    let a : size ≤ k = omega (arith, h, suc-mul n size) in
    let w : size + (k - size) ≡ k = omega arith in
    let d : Agree (k - size) (drop size l) (drop size m) = record {
      same = tails size (k - size) l m (subst (λ (x : ℕ). take x l ≡ take x m) (sym w) G.same) (omega (arith, G.in_l)) (omega (arith, G.in_m));
      in_l = omega (arith, G.in_l, lib.ListN.length-drop size l);
      in_m = omega (arith, G.in_m, lib.ListN.length-drop size m);
    } in
    λ j. fewer size k l m a G.same j ∷ records_agree size n (k - size) (drop size l) (drop size m) d (omega (arith, h, suc-mul n size)) j

pub record_agree : (size n k i : ℕ) (l m : List ℕ) → Agree k l m → n * size ≤ k → i < n → take size (drop (i * size) l) ≡ take size (drop (i * size) m)
record_agree size n k i l m G h g =
    sym (record_at size n i l g) ∙ ap (λ (rs : List (List ℕ)). get_or rs i []) (records_agree size n k l m G h) ∙ record_at size n i m g

-- a put, a removal, a cleared list
pub put_agree : (size n k : ℕ) (key rec l m : List ℕ) → Agree k l m → (f : Option ℕ) → slot f n * size ≤ k → find_key key (keys size n l) ≡ f → find_key key (keys size n m) ≡ f
    → Agree k (put_record size n key rec l) (put_record size n key rec m)
unfolding put_record
put_agree size n k key rec l m G f h a b = rw (a, b) (write_agree k (slot f n * size) rec l m G h)

pub remove_agree : (size n k i : ℕ) (l m : List ℕ) → Agree k l m → n * size ≤ k → i < n → Agree k (remove_record size n i l) (remove_record size n i m)
unfolding remove_record
remove_agree size n k i l m G h g =
    let last : (n - 1) * size ≤ k = omega (arith, h, last_mul size n (omega arith)) in
    let e = record_agree size n k (n - 1) l m G h (omega arith) in
    let w = write_agree k (i * size) (take size (drop ((n - 1) * size) l)) l m G (omega (arith, h, below_mul size n i g)) in
    write_agree k ((n - 1) * size) (replicate size 0) (write (i * size) (take size (drop ((n - 1) * size) l)) l) (write (i * size) (take size (drop ((n - 1) * size) m)) m)
    (subst (λ (x : List ℕ). Agree k (write (i * size) (take size (drop ((n - 1) * size) l)) l) (write (i * size) x m)) e w) last

pub take_replicate : (j n : ℕ) → j ≤ n → take j (replicate {A = ℕ} n 0) ≡ replicate j 0
take_replicate zero n h = refl
take_replicate (suc j) zero h = absurd (omega arith)
take_replicate (suc j) (suc n) h = ap (λ (x : List ℕ). 0 ∷ x) (take_replicate j n (omega arith))

cleared : (size cap k : ℕ) (l : List ℕ) → k ≤ cap * size → take k (clear_records size cap l) ≡ replicate k 0
unfolding clear_records write
cleared size cap k l h =
    let z : length (replicate {A = ℕ} (cap * size) 0) ≡ cap * size = length-replicate (cap * size) 0 in
    take-append-le k (replicate (cap * size) 0) (drop (0 + length (replicate {A = ℕ} (cap * size) 0)) l) (omega arith) ∙ take_replicate k (cap * size) h

clear_long : (size cap : ℕ) (l : List ℕ) → cap * size ≤ length (clear_records size cap l)
unfolding clear_records write
clear_long size cap l = omega (arith, length-append (replicate {A = ℕ} (cap * size) 0) (drop (0 + length (replicate {A = ℕ} (cap * size) 0)) l), length-replicate {A = ℕ} (cap * size) 0)

pub clear_agree : (size cap cap' k : ℕ) (l m : List ℕ) → k ≤ cap * size → k ≤ cap' * size → Agree k (clear_records size cap l) (clear_records size cap' m)
clear_agree size cap cap' k l m h g = record {
  same = cleared size cap k l h ∙ sym (cleared size cap' k m g);
  in_l = omega (arith, clear_long size cap l);
  in_m = omega (arith, clear_long size cap' m);
}
