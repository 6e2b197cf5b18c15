-- Tables of rows by key, as the table and staging are: a new key goes last, removal moves the last record into the gap.
use Rattle.ledger.proofs.TestLaws.{ite_yes, ite_no}
use mathlib.Core.Path.{◌≡◌, refl, sym, ◌∙◌, ap, subst}
use mathlib.Core.Logic.{◌⊎◌, inl, inr, ⊎_elim, ◌≢◌}
use mathlib.Core.HLevel.{Discrete}
use mathlib.Core.List.{List, [], ◌∷◌, ◌++◌, map, Memᴰ}
use Prim.Native.Nat.{ℕ, zero, suc, ◌+◌, ◌≤◌, ◌<◌}
use native.Mathlib.Omega.{arith}
use lib.IntN.{ℤ}
use lib.ListN.{length}
use Rattle.ledger.specs.Ledger.{ite}

pub data Found (A : Type 0) : Type 0 where
  missing : Found A
  found : A → Found A

abbrev pub or_else : {A : Type 0} → Found A → Found A → Found A
or_else missing b = b
or_else (found l) b = found l

module _ (Row : Type 0) (Key : Type 0) (key_dec : Discrete Key) where
  pub record Rec : Type 0 where
    pub name : Key
    pub row : Row

  abbrev pub Table : Type 0
  Table = List Rec

  abbrev pub lookup : Table → Key → Found Row
  lookup [] k = missing
  lookup (x ∷ t) k = ite (key_dec x.name k) (found x.row) (lookup t k)

  abbrev pub put : Table → Key → Row → Table
  put [] k l = record { name = k; row = l } ∷ []
  put (x ∷ t) k l = ite (key_dec x.name k) (record { name = k; row = l } ∷ t) (x ∷ put t k l)

  abbrev pub second : Rec → Table → Table
  second a [] = a ∷ []
  second a (z ∷ u) = z ∷ (a ∷ u)

  -- the last record first, then the others
  abbrev pub newest_first : Rec → Table → Table
  newest_first x [] = x ∷ []
  newest_first x (y ∷ t) = second x (newest_first y t)

  abbrev pub gapped : Table → Table
  gapped [] = []
  gapped (y ∷ t) = newest_first y t

  abbrev pub remove : Table → Key → Table
  remove [] k = []
  remove (x ∷ t) k = ite (key_dec x.name k) (gapped t) (x ∷ remove t k)

  abbrev pub Absent : Key → Table → Type 0
  Absent k [] = Unit {0}
  Absent k (x ∷ t) = (x.name ≢ k) × Absent k t

  abbrev pub Distinct : Table → Type 0
  Distinct [] = Unit {0}
  Distinct (x ∷ t) = Absent x.name t × Distinct t

  -- LAWS
  put_same : (t : Table) (k : Key) (l : Row) (x : Rec) (w : Dec (x.name ≡ k)) → lookup (put t k l) k ≡ found l → lookup (ite w (record { name = k; row = l } ∷ t) (x ∷ put t k l)) k ≡ found l
  unfolding ite
  put_same t k l x (yes e) h = ite_yes (key_dec k k) (found l) (lookup t k) refl
  put_same t k l x (no q) h = ite_no (key_dec x.name k) (found x.row) (lookup (put t k l) k) q ∙ h

  pub lookup_put_same : (t : Table) (k : Key) (l : Row) → lookup (put t k l) k ≡ found l
  lookup_put_same [] k l = ite_yes (key_dec k k) (found l) missing refl
  lookup_put_same (x ∷ t) k l = put_same t k l x (key_dec x.name k) (lookup_put_same t k l)

  put_other : (t : Table) (k j : Key) (l : Row) (x : Rec) → k ≢ j → (w : Dec (x.name ≡ k)) → lookup (put t k l) j ≡ lookup t j → lookup (ite w (record { name = k; row = l } ∷ t) (x ∷ put t k l)) j ≡ lookup (x ∷ t) j
  unfolding ite
  put_other t k j l x n (yes e) h = ite_no (key_dec k j) (found l) (lookup t j) n ∙ sym (ite_no (key_dec x.name j) (found x.row) (lookup t j) (λ q. n (sym e ∙ q)))
  put_other t k j l x n (no q) h = ap (ite (key_dec x.name j) (found x.row)) h

  pub lookup_put_other : (t : Table) (k j : Key) (l : Row) → k ≢ j → lookup (put t k l) j ≡ lookup t j
  lookup_put_other [] k j l n = ite_no (key_dec k j) (found l) missing n
  lookup_put_other (x ∷ t) k j l n = put_other t k j l x n (key_dec x.name k) (lookup_put_other t k j l n)

  put_absent : (t : Table) (k j : Key) (l : Row) (x : Rec) → k ≢ j → (w : Dec (x.name ≡ k)) → Absent j (x ∷ t) → Absent j (put t k l) → Absent j (ite w (record { name = k; row = l } ∷ t) (x ∷ put t k l))
  unfolding ite
  put_absent t k j l x n (yes e) a h = (n, a.1)
  put_absent t k j l x n (no q) a h = (a.0, h)

  pub absent_put : (t : Table) (k j : Key) (l : Row) → k ≢ j → Absent j t → Absent j (put t k l)
  absent_put [] k j l n a = (n, tt)
  absent_put (x ∷ t) k j l n a = put_absent t k j l x n (key_dec x.name k) a (absent_put t k j l n a.1)

  put_distinct : (t : Table) (k : Key) (l : Row) (x : Rec) (w : Dec (x.name ≡ k)) → Distinct (x ∷ t) → Distinct (put t k l) → Distinct (ite w (record { name = k; row = l } ∷ t) (x ∷ put t k l))
  unfolding ite
  put_distinct t k l x (yes e) d h = (subst (λ (y : Key). Absent y t) e d.0, d.1)
  put_distinct t k l x (no q) d h = (absent_put t k x.name l (λ e. q (sym e)) d.0, h)

  pub distinct_put : (t : Table) (k : Key) (l : Row) → Distinct t → Distinct (put t k l)
  distinct_put [] k l d = (tt, tt)
  distinct_put (x ∷ t) k l d = put_distinct t k l x (key_dec x.name k) d (distinct_put t k l d.1)

  pub lookup_absent : (t : Table) (k : Key) → Absent k t → lookup t k ≡ missing
  lookup_absent [] k a = refl
  lookup_absent (x ∷ t) k a = ite_no (key_dec x.name k) (found x.row) (lookup t k) a.0 ∙ lookup_absent t k a.1

  -- removal
  swap_at : (x z : Rec) (r : Found Row) (k : Key) → x.name ≢ z.name → (w : Dec (x.name ≡ k)) (v : Dec (z.name ≡ k))
      → ite v (found z.row) (ite w (found x.row) r) ≡ ite w (found x.row) (ite v (found z.row) r)
  unfolding ite
  swap_at x z r k n (yes e) (yes q) = absurd (n (e ∙ sym q))
  swap_at x z r k n (yes e) (no q) = refl
  swap_at x z r k n (no e) (yes q) = refl
  swap_at x z r k n (no e) (no q) = refl

  lookup_second : (x : Rec) (u : Table) (k : Key) → Absent x.name u → lookup (second x u) k ≡ lookup (x ∷ u) k
  lookup_second x [] k a = refl
  lookup_second x (z ∷ u) k a = swap_at x z (lookup u k) k (λ e. a.0 (sym e)) (key_dec x.name k) (key_dec z.name k)

  absent_second : (x : Rec) (u : Table) (j : Key) → Absent j (x ∷ u) → Absent j (second x u)
  absent_second x [] j a = a
  absent_second x (z ∷ u) j a = (a.1.0, (a.0, a.1.1))

  distinct_second : (x : Rec) (u : Table) → Distinct (x ∷ u) → Distinct (second x u)
  distinct_second x [] d = d
  distinct_second x (z ∷ u) d = (((λ e. d.0.0 (sym e)), d.1.0), (d.0.1, d.1.1))

  absent_last : (x : Rec) (t : Table) (j : Key) → Absent j (x ∷ t) → Absent j (newest_first x t)
  absent_last x [] j a = a
  absent_last x (y ∷ t) j a = absent_second x (newest_first y t) j (a.0, absent_last y t j a.1)

  distinct_last : (x : Rec) (t : Table) → Distinct (x ∷ t) → Distinct (newest_first x t)
  distinct_last x [] d = d
  distinct_last x (y ∷ t) d = distinct_second x (newest_first y t) (absent_last y t x.name d.0, distinct_last y t d.1)

  lookup_last : (x : Rec) (t : Table) (k : Key) → Distinct (x ∷ t) → lookup (newest_first x t) k ≡ lookup (x ∷ t) k
  lookup_last x [] k d = refl
  lookup_last x (y ∷ t) k d = lookup_second x (newest_first y t) k (absent_last y t x.name d.0) ∙ ap (ite (key_dec x.name k) (found x.row)) (lookup_last y t k d.1)

  lookup_gapped : (t : Table) (k : Key) → Distinct t → lookup (gapped t) k ≡ lookup t k
  lookup_gapped [] k d = refl
  lookup_gapped (y ∷ t) k d = lookup_last y t k d

  absent_gapped : (t : Table) (j : Key) → Absent j t → Absent j (gapped t)
  absent_gapped [] j a = a
  absent_gapped (y ∷ t) j a = absent_last y t j a

  distinct_gapped : (t : Table) → Distinct t → Distinct (gapped t)
  distinct_gapped [] d = d
  distinct_gapped (y ∷ t) d = distinct_last y t d

  remove_other : (t : Table) (k j : Key) (x : Rec) → Distinct t → k ≢ j → (w : Dec (x.name ≡ k)) → lookup (remove t k) j ≡ lookup t j → lookup (ite w (gapped t) (x ∷ remove t k)) j ≡ lookup (x ∷ t) j
  unfolding ite
  remove_other t k j x d n (yes e) h = lookup_gapped t j d ∙ sym (ite_no (key_dec x.name j) (found x.row) (lookup t j) (λ q. n (sym e ∙ q)))
  remove_other t k j x d n (no q) h = ap (ite (key_dec x.name j) (found x.row)) h

  pub lookup_remove_other : (t : Table) (k j : Key) → Distinct t → k ≢ j → lookup (remove t k) j ≡ lookup t j
  lookup_remove_other [] k j d n = refl
  lookup_remove_other (x ∷ t) k j d n = remove_other t k j x d.1 n (key_dec x.name k) (lookup_remove_other t k j d.1 n)

  remove_absent : (t : Table) (k j : Key) (x : Rec) (w : Dec (x.name ≡ k)) → Absent j (x ∷ t) → Absent j (remove t k) → Absent j (ite w (gapped t) (x ∷ remove t k))
  unfolding ite
  remove_absent t k j x (yes e) a h = absent_gapped t j a.1
  remove_absent t k j x (no q) a h = (a.0, h)

  absent_remove : (t : Table) (k j : Key) → Absent j t → Absent j (remove t k)
  absent_remove [] k j a = a
  absent_remove (x ∷ t) k j a = remove_absent t k j x (key_dec x.name k) a (absent_remove t k j a.1)

  remove_distinct : (t : Table) (k : Key) (x : Rec) (w : Dec (x.name ≡ k)) → Distinct (x ∷ t) → Distinct (remove t k) → Distinct (ite w (gapped t) (x ∷ remove t k))
  unfolding ite
  remove_distinct t k x (yes e) d h = distinct_gapped t d.1
  remove_distinct t k x (no q) d h = (absent_remove t k x.name d.0, h)

  pub distinct_remove : (t : Table) (k : Key) → Distinct t → Distinct (remove t k)
  distinct_remove [] k d = d
  distinct_remove (x ∷ t) k d = remove_distinct t k x (key_dec x.name k) d (distinct_remove t k d.1)

  -- FLUSH: staged rows whose key is not deleted are written, in list order; then deleted keys are removed
  abbrev pub In : Key → List Key → Type 0
  In k [] = ⊥
  In k (x ∷ ks) = (x ≡ k) ⊎ In k ks

  in_step : {A B : Type 0} → Dec A → Dec B → Dec (A ⊎ B)
  in_step (yes a) b = yes (inl a)
  in_step (no a) (yes b) = yes (inr b)
  in_step (no a) (no b) = no (λ s. ⊎_elim a b s)

  unfoldable pub in_dec : (k : Key) (ks : List Key) → Dec (In k ks)
  unfolding in_step
  in_dec k [] = no (λ h. h)
  in_dec k (x ∷ ks) = in_step (key_dec x k) (in_dec k ks)

  abbrev pub write_all : Table → List Key → Table → Table
  write_all [] ks table = table
  write_all (x ∷ t) ks table = write_all t ks (ite (in_dec x.name ks) table (put table x.name x.row))

  abbrev pub remove_all : List Key → Table → Table
  remove_all [] table = table
  remove_all (k ∷ ks) table = remove_all ks (remove table k)

  write_distinct : {P : Type 0} (w : Dec P) (table : Table) (k : Key) (l : Row) → Distinct table → Distinct (ite w table (put table k l))
  unfolding ite
  write_distinct (yes e) table k l d = d
  write_distinct (no q) table k l d = distinct_put table k l d

  pub distinct_write : (t : Table) (ks : List Key) (table : Table) → Distinct table → Distinct (write_all t ks table)
  distinct_write [] ks table d = d
  distinct_write (x ∷ t) ks table d = distinct_write t ks (ite (in_dec x.name ks) table (put table x.name x.row)) (write_distinct (in_dec x.name ks) table x.name x.row d)

  pub distinct_removeAll : (ks : List Key) (table : Table) → Distinct table → Distinct (remove_all ks table)
  distinct_removeAll [] table d = d
  distinct_removeAll (k ∷ ks) table d = distinct_removeAll ks (remove table k) (distinct_remove table k d)

  removed_at : (t : Table) (k : Key) (x : Rec) (w : Dec (x.name ≡ k)) → Distinct (x ∷ t) → Absent k (remove t k) → Absent k (ite w (gapped t) (x ∷ remove t k))
  unfolding ite
  removed_at t k x (yes e) d h = absent_gapped t k (subst (λ (y : Key). Absent y t) e d.0)
  removed_at t k x (no q) d h = (q, h)

  removed : (t : Table) (k : Key) → Distinct t → Absent k (remove t k)
  removed [] k d = tt
  removed (x ∷ t) k d = removed_at t k x (key_dec x.name k) d (removed t k d.1)

  absent_removeAll : (ks : List Key) (t : Table) (k : Key) → Absent k t → Absent k (remove_all ks t)
  absent_removeAll [] t k a = a
  absent_removeAll (j ∷ ks) t k a = absent_removeAll ks (remove t j) k (absent_remove t j k a)

  -- a deleted key has no row any more
  pub deleted_gone : (ks : List Key) (t : Table) (k : Key) → Distinct t → In k ks → Absent k (remove_all ks t)
  deleted_gone [] t k d h = absurd h
  deleted_gone (j ∷ ks) t k d (inl e) = absent_removeAll ks (remove t j) k (subst (λ (y : Key). Absent y (remove t j)) e (removed t j d))
  deleted_gone (j ∷ ks) t k d (inr h) = deleted_gone ks (remove t j) k (distinct_remove t j d) h

  pub lookup_removeAll : (ks : List Key) (table : Table) (j : Key) → Distinct table → (In j ks → ⊥) → lookup (remove_all ks table) j ≡ lookup table j
  lookup_removeAll [] table j d n = refl
  lookup_removeAll (k ∷ ks) table j d n =
      lookup_removeAll ks (remove table k) j (distinct_remove table k d) (λ h. n (inr h)) ∙ lookup_remove_other table k j d (λ e. n (inl e))

  -- one staged record x, then the others
  write_one : (x : Rec) (table : Table) (ks : List Key) (j : Key) → (In j ks → ⊥) → (w : Dec (In x.name ks)) (v : Dec (x.name ≡ j))
      → lookup (ite w table (put table x.name x.row)) j ≡ ite v (found x.row) (lookup table j)
  unfolding ite
  write_one x table ks j n (yes h) (yes e) = absurd (n (subst (λ (y : Key). In y ks) e h))
  write_one x table ks j n (yes h) (no q) = refl
  write_one x table ks j n (no h) (yes e) = ap (lookup (put table x.name x.row)) (sym e) ∙ lookup_put_same table x.name x.row
  write_one x table ks j n (no h) (no q) = lookup_put_other table x.name j x.row q

  write_rest : (x : Rec) (r : Found Row) (t : Table) (j : Key) → Absent x.name t → (s : Found Row) → (v : Dec (x.name ≡ j)) → s ≡ ite v (found x.row) r → or_else (lookup t j) s ≡ or_else (ite v (found x.row) (lookup t j)) r
  unfolding ite
  write_rest x r t j a s (yes e) h = ap (λ z. or_else z s) (lookup_absent t j (subst (λ (y : Key). Absent y t) e a)) ∙ h
  write_rest x r t j a s (no q) h = ap (or_else (lookup t j)) h

  pub lookup_write : (t : Table) (ks : List Key) (table : Table) (j : Key) → Distinct t → (In j ks → ⊥) → lookup (write_all t ks table) j ≡ or_else (lookup t j) (lookup table j)
  lookup_write [] ks table j d n = refl
  lookup_write (x ∷ t) ks table j d n =
      lookup_write t ks (ite (in_dec x.name ks) table (put table x.name x.row)) j d.1 n
      ∙ write_rest x (lookup table j) t j d.0 (lookup (ite (in_dec x.name ks) table (put table x.name x.row)) j) (key_dec x.name j)
      (write_one x table ks j n (in_dec x.name ks) (key_dec x.name j))

  -- SIZES
  len_put : (t : Table) (k : Key) (l : Row) (x : Rec) (w : Dec (x.name ≡ k)) → length (put t k l) ≤ suc (length t) → length (ite w (record { name = k; row = l } ∷ t) (x ∷ put t k l)) ≤ suc (suc (length t))
  unfolding ite
  len_put t k l x (yes e) h = omega arith
  len_put t k l x (no n) h = omega arith

  pub length_put : (t : Table) (k : Key) (l : Row) → length (put t k l) ≤ suc (length t)
  length_put [] k l = omega arith
  length_put (x ∷ t) k l = len_put t k l x (key_dec x.name k) (length_put t k l)

  abbrev pub Lacks : Found Row → Type 0
  Lacks missing = Unit {0}
  Lacks (found l) = ⊥

  len_put_has : (t : Table) (k : Key) (l : Row) (x : Rec) (w : Dec (x.name ≡ k)) → (Lacks (ite w (found x.row) (lookup t k)) → ⊥) → ((Lacks (lookup t k) → ⊥) → length (put t k l) ≡ length t)
      → length (ite w (record { name = k; row = l } ∷ t) (x ∷ put t k l)) ≡ suc (length t)
  unfolding ite
  len_put_has t k l x (yes e) h ih = refl
  len_put_has t k l x (no n) h ih = ap suc (ih h)

  pub length_put_has : (t : Table) (k : Key) (l : Row) → (Lacks (lookup t k) → ⊥) → length (put t k l) ≡ length t
  length_put_has [] k l h = absurd (h tt)
  length_put_has (x ∷ t) k l h = len_put_has t k l x (key_dec x.name k) h (length_put_has t k l)

  len_second : (x : Rec) (u : Table) → length (second x u) ≡ suc (length u)
  len_second x [] = refl
  len_second x (z ∷ u) = refl

  len_last : (x : Rec) (t : Table) → length (newest_first x t) ≡ suc (length t)
  len_last x [] = refl
  len_last x (y ∷ t) = len_second x (newest_first y t) ∙ ap suc (len_last y t)

  len_gapped : (t : Table) → length (gapped t) ≡ length t
  len_gapped [] = refl
  len_gapped (y ∷ t) = len_last y t

  len_remove : (t : Table) (k : Key) (x : Rec) (w : Dec (x.name ≡ k)) → length (remove t k) ≤ length t → length (ite w (gapped t) (x ∷ remove t k)) ≤ suc (length t)
  unfolding ite
  len_remove t k x (yes e) h = omega (arith, len_gapped t)
  len_remove t k x (no n) h = omega arith

  pub length_remove : (t : Table) (k : Key) → length (remove t k) ≤ length t
  length_remove [] k = omega arith
  length_remove (x ∷ t) k = len_remove t k x (key_dec x.name k) (length_remove t k)

  pub length_removeAll : (ks : List Key) (t : Table) → length (remove_all ks t) ≤ length t
  length_removeAll [] t = omega arith
  length_removeAll (k ∷ ks) t = omega (arith, length_removeAll ks (remove t k), length_remove t k)

  -- staged keys, not deleted, that the table lacks
  unfoldable pub lacks_dec : (f : Found Row) → Dec (Lacks f)
  lacks_dec missing = yes tt
  lacks_dec (found l) = no (λ h. h)

  unfoldable pub new_dec : {A B : Type 0} → Dec A → Dec B → Dec ((A → ⊥) × B)
  new_dec (yes a) b = no (λ h. h.0 a)
  new_dec (no a) (yes b) = yes (a, b)
  new_dec (no a) (no b) = no (λ h. b h.1)

  unfoldable pub fresh : Table → List Key → Table → ℕ
  unfolding new_dec lacks_dec
  fresh [] ks table = 0
  fresh (x ∷ t) ks table = ite (new_dec (in_dec x.name ks) (lacks_dec (lookup table x.name))) (suc (fresh t ks table)) (fresh t ks table)

  fresh_same : (t : Table) (ks : List Key) (a b : Table) (k : Key) → Absent k t → ((j : Key) → k ≢ j → lookup a j ≡ lookup b j) → fresh t ks a ≡ fresh t ks b
  unfolding fresh
  fresh_same [] ks a b k n h = refl
  fresh_same (x ∷ t) ks a b k n h =
      (λ i. ite (new_dec (in_dec x.name ks) (lacks_dec (h x.name (λ e. n.0 (sym e)) i))) (suc (fresh_same t ks a b k n.1 h i)) (fresh_same t ks a b k n.1 h i))

  write_len : (x : Rec) (table : Table) (ks : List Key) (f : ℕ) (w : Dec (In x.name ks)) (v : Dec (Lacks (lookup table x.name)))
      → length (ite w table (put table x.name x.row)) + f ≤ length table + ite (new_dec w v) (suc f) f
  unfolding ite new_dec
  write_len x table ks f (yes h) v = omega arith
  write_len x table ks f (no h) (yes l) = omega (arith, length_put table x.name x.row)
  write_len x table ks f (no h) (no l) = omega (arith, length_put_has table x.name x.row l)

  write_look : (x : Rec) (table : Table) (ks : List Key) (w : Dec (In x.name ks)) (j : Key) → x.name ≢ j → lookup (ite w table (put table x.name x.row)) j ≡ lookup table j
  unfolding ite
  write_look x table ks (yes h) j n = refl
  write_look x table ks (no h) j n = lookup_put_other table x.name j x.row n

  pub length_write : (t : Table) (ks : List Key) (table : Table) → Distinct t → length (write_all t ks table) ≤ length table + fresh t ks table
  unfolding fresh
  length_write [] ks table d = omega arith
  length_write (x ∷ t) ks table d =
      omega (
        arith,
        length_write t ks (ite (in_dec x.name ks) table (put table x.name x.row)) d.1,
        fresh_same t ks (ite (in_dec x.name ks) table (put table x.name x.row)) table x.name d.0 (write_look x table ks (in_dec x.name ks)),
        write_len x table ks (fresh t ks table) (in_dec x.name ks) (lacks_dec (lookup table x.name)),
      )
