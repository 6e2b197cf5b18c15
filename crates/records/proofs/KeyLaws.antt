-- What a search finds in a key list, before and after a key is put in or taken out.
use Prim.Native.Nat.{ℕ, zero, suc, ◌+◌, ◌-◌, ◌≤◌, ◌<◌}
use mathlib.Core.Path.{◌≡◌, refl, sym, ap, ◌∙◌}
use mathlib.Core.List.{List, [], ◌∷◌, ◌++◌}
use mathlib.Core.Logic.{⊎_elim}
use mathlib.Core.Bool.{Bool, true, false, not, ◌&&◌}
use native.Mathlib.Omega.{arith}
use native.Mathlib.Nat.{add-zero}
use lib.ListN.{length, get_or, length-append, get_or-append}
use lib.Seq.{set-get_or, get_or-append_seam}
use lib.Dec.{eqb, ltb}
use borrow.Author.Tests.{eqb-true, eqb-false, ltb-true, ltb-false}
use Rattle.std.specs.Prelude.{Some, None}
use Rattle.stores.specs.Equal.{same_bytes}
use Rattle.records.specs.Find.{find_from, find_key, is_found, distinct}
use Rattle.records.specs.Changes.{slot}
use Rattle.stores.proofs.EqualLaws.{same_refl, same_true}
use Rattle.records.proofs.Views.{put_at, remove_at, length_remove, remove_same, remove_other, From, came_from}

abbrev pub Key : Type 0
Key = List ℕ

pub clash : {t : Bool} → t ≡ true → t ≡ false → ⊥
clash p q = let z : ◌≡◌ {A = ℕ} 0 1 = cc in omega arith

-- ---- a search by indices

pub same_eq : (a b : Key) → a ≡ b → same_bytes a b ≡ true
same_eq a b e = rw e (same_refl b)

pub differ : (a b : Key) → same_bytes a b ≡ false → a ≡ b → ⊥
differ a b e d = clash (same_eq a b d) e

pub same_false : (a b : Key) → (a ≡ b → ⊥) → same_bytes a b ≡ false
same_false a b h = by_test (same_bytes a b) refl
  where
    by_test : (t : Bool) → same_bytes a b ≡ t → t ≡ false
    by_test true e = absurd (h (same_true a b e))
    by_test false e = refl

-- none of the first n keys is the key
abbrev pub Lacks : Key → List Key → ℕ → Type 0
Lacks key ks n = (m : ℕ) → m < n → get_or ks m [] ≡ key → ⊥

-- what a search comes to: the first place of the key, or no place
pub data Search (key : Key) (ks : List Key) : Type 0 where
  hit : (j : ℕ) → j < length ks → get_or ks j [] ≡ key → Lacks key ks j → Search key ks
  miss : Lacks key ks (length ks) → Search key ks

none_cons : (key k : Key) (ks : List Key) (n : ℕ) → (k ≡ key → ⊥) → Lacks key ks n → Lacks key (k ∷ ks) (suc n)
none_cons key k ks n h q zero l e = h e
none_cons key k ks n h q (suc m) l e = q m (omega arith) e

pub look : (key : Key) (ks : List Key) → Search key ks
look key [] = miss (λ m h e. omega arith)
look key (k ∷ ks) = by_test (same_bytes k key) refl (look key ks)
  where
    by_test : (t : Bool) → same_bytes k key ≡ t → Search key ks → Search key (k ∷ ks)
    by_test true e s = hit 0 (omega arith) (same_true k key e) (λ m h p. omega arith)
    by_test false e (hit j h p q) = hit (suc j) (omega arith) p (none_cons key k ks j (differ k key e) q)
    by_test false e (miss q) = miss (none_cons key k ks (length ks) (differ k key e) q)

pub find_from_at : (key : Key) (ks : List Key) (j i : ℕ) → j < length ks → get_or ks j [] ≡ key → Lacks key ks j → find_from key i ks ≡ Some (i + j)
unfolding find_from
find_from_at key [] j i h e q = absurd (omega arith)
find_from_at key (k ∷ ks) zero i h e q = rw (same_eq k key e, add-zero i)
find_from_at key (k ∷ ks) (suc j) i h e q =
    let n : suc i + j ≡ i + suc j = omega arith in
    rw (same_false k key (q 0 (omega arith)))
    (find_from_at key ks j (suc i) (omega arith) e (λ m l d. q (suc m) (omega arith) d) ∙ ap Some n)

pub find_from_none : (key : Key) (ks : List Key) (i : ℕ) → Lacks key ks (length ks) → find_from key i ks ≡ None
unfolding find_from
find_from_none key [] i q = refl
find_from_none key (k ∷ ks) i q =
    rw (same_false k key (q 0 (omega arith))) (find_from_none key ks (suc i) (λ m l d. q (suc m) (omega arith) d))

-- a key is found at its first place
pub find_at : (key : Key) (ks : List Key) (j : ℕ) → j < length ks → get_or ks j [] ≡ key → Lacks key ks j → find_key key ks ≡ Some j
find_at key ks j h e q = let n : 0 + j ≡ j = omega arith in find_from_at key ks j 0 h e q ∙ ap Some n

-- a key that stands nowhere is not found
pub find_none : (key : Key) (ks : List Key) → Lacks key ks (length ks) → find_key key ks ≡ None
find_none key ks q = find_from_none key ks 0 q

-- ---- distinct keys, by indices

-- no two places hold the same key
abbrev pub Distinct : List Key → Type 0
Distinct ks = (i j : ℕ) → i < j → j < length ks → get_or ks i [] ≡ get_or ks j [] → ⊥

pub distinct_of : (ks : List Key) → Distinct ks → distinct ks ≡ true
unfolding distinct
distinct_of [] d = refl
distinct_of (k ∷ ks) d =
    rw (find_none k ks (λ m l e. d 0 (suc m) (omega arith) (omega arith) (sym e)))
    (distinct_of ks (λ i j h l e. d (suc i) (suc j) (omega arith) (omega arith) e))

pub of_distinct : (ks : List Key) → distinct ks ≡ true → Distinct ks
unfolding distinct
of_distinct [] t i j h l e = omega arith
of_distinct (k ∷ ks) t i j h l e = by_look (look k ks) t (of_distinct ks) i j h l e
  where
    step : Lacks k ks (length ks) → Distinct ks → Distinct (k ∷ ks)
    step q d i zero h l e = omega arith
    step q d zero (suc j) h l e = q j (omega arith) (sym e)
    step q d (suc i) (suc j) h l e = d i j (omega arith) (omega arith) e

    by_look : Search k ks → not (is_found (find_key k ks)) && distinct ks ≡ true → (distinct ks ≡ true → Distinct ks) → Distinct (k ∷ ks)
    by_look (hit m a b q) t d = let f = find_at k ks m a b q in absurd (clash (rw f at t) refl)
    by_look (miss q) t d = let f = find_none k ks q in step q (d (rw f at t))

-- where no key stands twice, it is found where it stands
pub find_unique : (key : Key) (ks : List Key) (j : ℕ) → Distinct ks → j < length ks → get_or ks j [] ≡ key → find_key key ks ≡ Some j
find_unique key ks j d h e = find_at key ks j h e (λ m l p. d m j l h (p ∙ sym e))

-- ---- after a key is put in

-- the keys of the list are as they were, or the key is last
pub data PutCase (key : Key) (ks : List Key) : Type 0 where
  replaced : (j : ℕ) → j < length ks → get_or ks j [] ≡ key → find_key key ks ≡ Some j → put_at (find_key key ks) key ks ≡ ks → PutCase key ks
  added : Lacks key ks (length ks) → find_key key ks ≡ None → put_at (find_key key ks) key ks ≡ ks ++ key ∷ [] → PutCase key ks

pub put_cases : (key : Key) (ks : List Key) → PutCase key ks
put_cases key ks = by_look (look key ks)
  where
    by_look : Search key ks → PutCase key ks
    by_look (hit j h e q) = let f = find_at key ks j h e q in replaced j h e f (rw (f, ← e) (set-get_or ks j []))
    by_look (miss q) = let f = find_none key ks q in added q f (rw f)

-- one more key: those before it stand where they stood
pub none_more : (other key : Key) (ks : List Key) (n : ℕ) → n ≤ length ks → Lacks other ks n → Lacks other (ks ++ key ∷ []) n
none_more other key ks n h q m l e = q m l (sym (get_or-append ks (key ∷ []) [] m (omega arith)) ∙ e)

length_more : (key : Key) (ks : List Key) → length (ks ++ key ∷ []) ≡ length ks + 1
length_more key ks = length-append ks (key ∷ [])

-- a key that was put is found where it was put
pub find_put_same : (key : Key) (ks : List Key) → find_key key (put_at (find_key key ks) key ks) ≡ Some (slot (find_key key ks) (length ks))
find_put_same key ks = by_case (put_cases key ks)
  where
    by_case : PutCase key ks → find_key key (put_at (find_key key ks) key ks) ≡ Some (slot (find_key key ks) (length ks))
    by_case (replaced j h e f p) = rw (p, f)
    by_case (added q f p) =
        rw (p, f) (find_at key (ks ++ key ∷ []) (length ks) (omega (arith, length_more key ks)) (get_or-append_seam ks key [] []) (none_more key key ks (length ks) (omega arith) q))

-- any other key is found where it was
pub find_put_other : (key other : Key) (ks : List Key) → (key ≡ other → ⊥) → find_key other (put_at (find_key key ks) key ks) ≡ find_key other ks
find_put_other key other ks ne = by_case (put_cases key ks) (look other ks)
  where
    last_not : Lacks other ks (length ks) → Lacks other (ks ++ key ∷ []) (length ks + 1)
    last_not q m l e = by_test (eqb m (length ks)) refl
      where
        by_test : (t : Bool) → eqb m (length ks) ≡ t → ⊥
        by_test true t = let d = eqb-true m (length ks) t in ne (sym (get_or-append_seam ks key [] []) ∙ (rw d at e))
        by_test false t = let d = eqb-false m (length ks) t in none_more other key ks (length ks) (omega arith) q m (omega arith) e

    by_case : PutCase key ks → Search other ks → find_key other (put_at (find_key key ks) key ks) ≡ find_key other ks
    by_case (replaced j h e f p) s = rw p
    by_case (added q f p) (hit j h e r) =
        p_then (find_at other (ks ++ key ∷ []) j (omega (arith, length_more key ks)) (get_or-append ks (key ∷ []) [] j h ∙ e) (none_more other key ks j (omega arith) r))
        (find_at other ks j h e r)
      where
        p_then : find_key other (ks ++ key ∷ []) ≡ Some j → find_key other ks ≡ Some j → find_key other (put_at (find_key key ks) key ks) ≡ find_key other ks
        p_then a b = rw (p, a, b)
    by_case (added q f p) (miss r) =
        let a = find_none other (ks ++ key ∷ []) (rw (length_more key ks) (last_not r)) in
        let b = find_none other ks r in
        rw (p, a, b)

-- a put makes no key stand twice
pub distinct_put : (key : Key) (ks : List Key) → distinct ks ≡ true → distinct (put_at (find_key key ks) key ks) ≡ true
distinct_put key ks t = by_case (put_cases key ks)
  where
    more : Lacks key ks (length ks) → Distinct ks → Distinct (ks ++ key ∷ [])
    more q d i j h l e = by_test (eqb j (length ks)) refl
      where
        before : (m : ℕ) → m < length ks → get_or (ks ++ key ∷ []) m [] ≡ get_or ks m []
        before m b = get_or-append ks (key ∷ []) [] m b

        by_test : (t : Bool) → eqb j (length ks) ≡ t → ⊥
        by_test true t =
            let g = eqb-true j (length ks) t in
            q i (omega arith) (sym (before i (omega arith)) ∙ (rw g at e) ∙ get_or-append_seam ks key [] [])
        by_test false t =
            let g = eqb-false j (length ks) t in
            let b : j < length ks = omega (arith, length_more key ks) in
            d i j h b (sym (before i (omega arith)) ∙ e ∙ before j b)

    by_case : PutCase key ks → distinct (put_at (find_key key ks) key ks) ≡ true
    by_case (replaced j h e f p) = rw p t
    by_case (added q f p) = rw p (distinct_of (ks ++ key ∷ []) (more q (of_distinct ks t)))

-- ---- after a key is taken out

-- keys at different places differ
pub apart : (ks : List Key) → Distinct ks → (a b : ℕ) → a < length ks → b < length ks → (a ≡ b → ⊥) → get_or ks a [] ≡ get_or ks b [] → ⊥
apart ks d a b la lb n e = by_test (ltb a b) refl
  where
    by_test : (t : Bool) → ltb a b ≡ t → ⊥
    by_test true t = d a b (ltb-true a b t) lb e
    by_test false t = let g = ltb-false a b t in d b a (omega arith) la (sym e)

module _ (ks : List Key) (i : ℕ) (h : i < length ks) (t : distinct ks ≡ true) where
  from_apart : (a b : ℕ) → a < b → b < length ks - 1 → (p : From [] ks i h a) (q : From [] ks i h b) → p.from ≡ q.from → ⊥
  from_apart a b l m p q e =
      ⊎_elim (λ x. ⊎_elim (λ y. omega arith) (λ y. omega arith) q.which) (λ x. ⊎_elim (λ y. omega arith) (λ y. omega arith) q.which) p.which

  pub distinct_remove : distinct (remove_at [] i ks) ≡ true
  distinct_remove = distinct_of (remove_at [] i ks) (λ a b l m e.
      let n : b < length ks - 1 = rw (length_remove [] ks i h) at m in
      let p = came_from [] ks i h a (omega arith) in
      let q = came_from [] ks i h b n in
      apart ks (of_distinct ks t) p.from q.from p.in_list q.in_list (from_apart a b l n p q) (sym p.stands ∙ e ∙ q.stands))

  -- the removed key is gone
  pub find_removed : find_key (get_or ks i []) (remove_at [] i ks) ≡ None
  find_removed = find_none (get_or ks i []) (remove_at [] i ks) (λ m l e.
      let p = came_from [] ks i h m (rw (length_remove [] ks i h) at l) in
      apart ks (of_distinct ks t) p.from i p.in_list h p.not_gap (sym p.stands ∙ e))

  -- a key that was not there is not there
  pub find_remove_none : (other : Key) → Lacks other ks (length ks) → find_key other (remove_at [] i ks) ≡ None
  find_remove_none other q = find_none other (remove_at [] i ks) (λ m l e.
      let p = came_from [] ks i h m (rw (length_remove [] ks i h) at l) in
      q p.from p.in_list (sym p.stands ∙ e))

  -- any other key is found where it stood, or in the gap if it was last
  pub find_remove_kept : (other : Key) (j : ℕ) → j < length ks - 1 → (j ≡ i → ⊥) → get_or ks j [] ≡ other → find_key other (remove_at [] i ks) ≡ Some j
  find_remove_kept other j l n e =
      find_unique other (remove_at [] i ks) j (of_distinct (remove_at [] i ks) distinct_remove) (rw (length_remove [] ks i h) l) (remove_other [] ks i h j l n ∙ e)

  pub find_remove_moved : (other : Key) → i < length ks - 1 → get_or ks (length ks - 1) [] ≡ other → find_key other (remove_at [] i ks) ≡ Some i
  find_remove_moved other l e =
      find_unique other (remove_at [] i ks) i (of_distinct (remove_at [] i ks) distinct_remove) (rw (length_remove [] ks i h) l) (remove_same [] ks i h l ∙ e)

-- what a search says of the index that it gives
pub found_is : (key : Key) (ks : List Key) (i : ℕ) → find_key key ks ≡ Some i → (i < length ks) × (get_or ks i [] ≡ key)
found_is key ks i e = by_look (look key ks)
  where
    by_look : Search key ks → (i < length ks) × (get_or ks i [] ≡ key)
    by_look (hit j h p q) = let f = find_at key ks j h p q in let d : j ≡ i = cc in (omega arith, rw d at p)
    by_look (miss q) = let f = find_none key ks q in let z : ◌≡◌ {A = ℕ} 0 1 = cc in absurd (omega arith)

-- and where it gives none
pub found_none : (key : Key) (ks : List Key) → find_key key ks ≡ None → Lacks key ks (length ks)
found_none key ks e = by_look (look key ks)
  where
    by_look : Search key ks → Lacks key ks (length ks)
    by_look (hit j h p q) = let f = find_at key ks j h p q in let z : ◌≡◌ {A = ℕ} 0 1 = cc in absurd (omega arith)
    by_look (miss q) = q
