-- What a flip answers in a sorted history that holds no copy of the wanted sign: 14 if the number is there, else 15. The halving and the walk pass no copy by.
use Rattle.ledger.proofs.TestLaws.{ite_yes, ite_no}
use mathlib.Core.Path.{◌≡◌, refl, sym, ◌∙◌, ap}
use mathlib.Core.Logic.{⊎_elim}
use mathlib.Core.Bool.{Bool, true, false}
use mathlib.Core.List.Memᴰ
use mathlib.Core.List.{List, [], ◌∷◌, ◌++◌, Memᴰ}
use Prim.Native.Nat.{ℕ, zero, suc, ◌≤◌, ◌<◌}
use native.Mathlib.Decide.{ℕ_discrete, dec_lt}
use native.Mathlib.Omega.{arith}
use lib.IntN.{ℤ, pos, nat_abs}
use lib.ListN.{length, get_or}
use Rattle.ledger.specs.Ledger.{Series, ite}
use Rattle.ledger.specs.Run.{Res, done, refused, row_or, flat}
use Rattle.fork_model.proofs.Table.{Found, missing, found}
use Rattle.fork_model.proofs.EntryLaws.{Sorted, mem_mid}
use Rattle.fork_model.proofs.Store.{then_do, flip_first, ordered, or_bool, seen_in, when_b, on_hit, none_found, first_abs, halve, last_abs, walk}
use Rattle.fork_model.proofs.Store as St
use Rattle.fork_model.proofs.Search as Se
use Rattle.fork_model.proofs.GoodStore.{Coded}
use Rattle.fork_model.proofs.GoodStore as Gs
use Rattle.fork_model.proofs.FlipLaws as Fp

or_ite : {P : Type 0} (w : Dec P) (a b : Bool) → ite w true (or_bool a b) ≡ or_bool (ite w true a) b
unfolding ite
or_ite (yes p) a b = refl
or_ite (no q) a b = refl

pub seen_append : (t : ℕ) (a b : List ℤ) → seen_in t (a ++ b) ≡ or_bool (seen_in t a) (seen_in t b)
unfolding seen_in
seen_append t [] b = refl
seen_append t (x ∷ a) b = ap (ite (ℕ_discrete (nat_abs x) t) true) (seen_append t a b) ∙ or_ite (ℕ_discrete (nat_abs x) t) (seen_in t a) (seen_in t b)

pub not_seen : (t : ℕ) (l : List ℤ) → ((x : ℤ) → Memᴰ x l → nat_abs x ≡ t → ⊥) → seen_in t l ≡ false
unfolding seen_in
not_seen t [] h = refl
not_seen t (x ∷ l) h = ite_no (ℕ_discrete (nat_abs x) t) true (seen_in t l) (h x (Memᴰ.head refl)) ∙ not_seen t l (λ y u. h y (Memᴰ.tail u))

missing_of : (e : ℤ) (l : List ℤ) → (Memᴰ e l → ⊥) → flip_first e l ≡ missing
missing_of e l h = by (flip_first e l) refl
  where
    by : (F : Found (List ℤ)) → flip_first e l ≡ F → F ≡ missing
    by missing q = refl
    by (found k) q = let s = Se.first_split e l k q in absurd (h (rw s.was (mem_mid s.front e s.back)))

or_assoc : (a b c : Bool) → or_bool a (or_bool b c) ≡ or_bool (or_bool a b) c
or_assoc true b c = refl
or_assoc false b c = refl

or_false : (a : Bool) → or_bool a false ≡ a
or_false true = refl
or_false false = refl

module _ (E : St.Env) (code : Coded E) (U : Series → ℕ → Type 0) (apart : (d e : Series) (s t : ℕ) → U d s → U e t → E.key d s ≡ E.key e t → (d ≡ e) × (s ≡ t))
    (σ : St.Store E) (ch : Series) (e : ℤ) (G : Gs.Good E code U σ) (S : Sorted (St.entries E σ ch)) where
  open E use {r, lim}

  abbrev n : ℕ
  n = σ.counts ch

  abbrev m : ℕ
  m = nat_abs e

  abbrev row : ℕ → List ℤ
  row s = row_or (St.store_row E σ ch s)

  abbrev rows : ℕ → List ℤ
  rows s = flat (St.store_row E σ ch) s

  abbrev rows_sorted : Sorted (rows n)
  rows_sorted = Fp.rows_sorted E code U apart σ ch e G S

  abbrev row_size : (s : ℕ) → s < n → length (row s) ≡ suc r
  row_size = Fp.row_size E code U apart σ ch e G S

  abbrev reads : (s : ℕ) → s < n → St.read_row E σ ch s ≡ done (row s)
  reads = Fp.reads E code U apart σ ch e G S

  abbrev head_in : (s : ℕ) → s < n → Memᴰ (get_or (row s) 0 (pos 0)) (row s)
  head_in = Fp.head_in E code U apart σ ch e G S

  row_sorted : (s : ℕ) → s < n → Sorted (row s)
  row_sorted s h = Se.sorted_row (St.store_row E σ ch) n s h rows_sorted

  -- what stands in an older row is at or below what stands in row s
  older : (s : ℕ) → s < n → (x y : ℤ) → Memᴰ x (rows s) → Memᴰ y (row s) → nat_abs x ≤ nat_abs y
  older s h x y t u =
      let p = Se.flat_mem (St.store_row E σ ch) s x t in
      Se.sorted_rows (St.store_row E σ ch) n p.0 s x y p.1 h rows_sorted p.2 u

  module _ (none : Memᴰ e (St.entries E σ ch) → ⊥) where
    none_row : (s : ℕ) → s < n → flip_first e (row s) ≡ missing
    none_row s h = missing_of e (row s) (λ t. none (Memᴰ.append_left (σ.heads ch) (Se.mem_flat (St.store_row E σ ch) n s e h t)))

    low_row : (s : ℕ) → s < n → last_abs r (row s) < m → seen_in m (rows (suc s)) ≡ false
    unfolding flat
    low_row s h l = not_seen m (rows (suc s)) (λ x t q.
        ⊎_elim (λ u. omega (arith, l, q, older s h x (get_or (row s) r (pos 0)) u (Se.mem_at (row s) r (omega (arith, row_size s h)))))
        (λ u. omega (arith, l, q, Se.last_above (row s) r x (row_sorted s h) (row_size s h) u)) (Memᴰ.append_cases (rows s) t))

    mid_row : (s : ℕ) → s < n → first_abs (row s) < m → seen_in m (rows (suc s)) ≡ seen_in m (row s)
    unfolding flat
    mid_row s h l = seen_append m (rows s) (row s) ∙ ap (λ b. or_bool b (seen_in m (row s)))
        (not_seen m (rows s) (λ x t q. omega (arith, l, q, older s h x (get_or (row s) 0 (pos 0)) t (head_in s h))))

    module _ (s : ℕ) (h : s < n) (seen : Bool) (ih : (b : Bool) → walk r (St.read_row E σ ch) e s b ≡ refused (none_found (or_bool (seen_in m (rows s)) b))) where
      abbrev past : Res St.Hit
      past = ite (dec_lt (first_abs (row s)) m) (refused (none_found (or_bool (seen_in m (row s)) seen))) (walk r (St.read_row E σ ch) e s (or_bool (seen_in m (row s)) seen))

      abbrev Says : Res St.Hit → Type 0
      Says X = X ≡ refused (none_found (or_bool (seen_in m (rows (suc s))) seen))

      by_first : Dec (first_abs (row s) < m) → Says past
      unfolding flat
      by_first (yes q) = ite_yes (dec_lt (first_abs (row s)) m) (refused (none_found (or_bool (seen_in m (row s)) seen))) _ q ∙ ap (λ b. refused (none_found (or_bool b seen))) (sym (mid_row s h q))
      by_first (no q) = ite_no (dec_lt (first_abs (row s)) m) (refused (none_found (or_bool (seen_in m (row s)) seen))) _ q ∙ ih (or_bool (seen_in m (row s)) seen)
          ∙ ap (λ b. refused (none_found b)) (or_assoc (seen_in m (rows s)) (seen_in m (row s)) seen ∙ ap (λ b. or_bool b seen) (sym (seen_append m (rows s) (row s))))

      by_last : Dec (last_abs r (row s) < m) → Says (ite (dec_lt (last_abs r (row s)) m) (refused (none_found seen)) (on_hit s (flip_first e (row s)) past))
      by_last (yes q) = ite_yes (dec_lt (last_abs r (row s)) m) (refused (none_found seen)) _ q ∙ ap (λ b. refused (none_found (or_bool b seen))) (sym (low_row s h q))
      by_last (no q) = ite_no (dec_lt (last_abs r (row s)) m) (refused (none_found seen)) _ q ∙ ap (λ F. on_hit s F past) (none_row s h) ∙ by_first (dec_lt (first_abs (row s)) m)

    walked : (s : ℕ) → s ≤ n → (seen : Bool) → walk r (St.read_row E σ ch) e s seen ≡ refused (none_found (or_bool (seen_in m (rows s)) seen))
    unfolding walk flat seen_in
    walked zero h seen = refl
    walked (suc s) h seen =
        ap (λ (X : Res (List ℤ)). then_do X (λ l. ite (dec_lt (last_abs r l) m) (refused (none_found seen))
        (on_hit s (flip_first e l) (ite (dec_lt (first_abs l) m) (refused (none_found (or_bool (seen_in m l) seen))) (walk r (St.read_row E σ ch) e s (or_bool (seen_in m l) seen)))))) (reads s (omega arith))
        ∙ by_last s (omega arith) seen (walked s (omega arith)) (dec_lt (last_abs r (row s)) m)

    -- rows that start above the number do not hold it
    high_row : (s : ℕ) → s < n → m < first_abs (row s) → seen_in m (row s) ≡ false
    high_row s h l = not_seen m (row s) (λ x t q. omega (arith, l, q, Se.first_below (row s) x (row_sorted s h) t))

    rest_by : (x s : ℕ) → s < n → (x ≤ s → m < first_abs (row s)) → (x ≤ s → seen_in m (rows s) ≡ seen_in m (rows x)) → x ≤ suc s → Dec (x ≡ suc s) → seen_in m (rows (suc s)) ≡ seen_in m (rows x)
    unfolding flat
    rest_by x s b h ih a (yes q) = ap (λ k. seen_in m (rows k)) (sym q)
    rest_by x s b h ih a (no q) = seen_append m (rows s) (row s) ∙ ap (or_bool (seen_in m (rows s))) (high_row s b (h (omega arith))) ∙ or_false (seen_in m (rows s)) ∙ ih (omega arith)

    rest_unseen : (x s : ℕ) → x ≤ s → s ≤ n → ((t : ℕ) → x ≤ t → t < n → m < first_abs (row t)) → seen_in m (rows s) ≡ seen_in m (rows x)
    rest_unseen x zero a b h = let z : x ≡ 0 = omega arith in ap (λ k. seen_in m (rows k)) (sym z)
    rest_unseen x (suc s) a b h = rest_by x s (omega arith) (λ u. h s u (omega arith)) (λ u. rest_unseen x s u (omega arith) h) a (ℕ_discrete x (suc s))

    abbrev go : Res ℕ → Res (St.Store E)
    go X = then_do X (λ lo. then_do (walk r (St.read_row E σ ch) e lo (seen_in m (σ.heads ch))) (λ k.
        then_do (St.stage E σ (E.key ch k.at) (St.redone E σ ch k.at k.new)) (λ t. done (St.with_staging E σ t))))

    rows_none : St.flip_rows E σ ch e ≡ refused (none_found (seen_in m (St.entries E σ ch)))
    rows_none =
        let a = Se.halve_spec (St.read_row E σ ch) m n row reads (Fp.rises E code U apart σ ch e G S) n 0 n (omega arith) (omega arith) (omega arith) (λ t x y. absurd (omega arith)) in
        ap go a.1
        ∙ ap (λ (X : Res St.Hit). then_do X (λ k. then_do (St.stage E σ (E.key ch k.at) (St.redone E σ ch k.at k.new)) (λ t. done (St.with_staging E σ t))))
        (walked a.0 a.2.within (seen_in m (σ.heads ch)))
        ∙ ap (λ b. refused (none_found b)) (ap (λ b. or_bool b (seen_in m (σ.heads ch))) (sym (rest_unseen a.0 n a.2.within (omega arith) a.2.above)) ∙ sym (seen_append m (rows n) (σ.heads ch)))

    pub flip_none : St.flip_store E σ ch e ≡ refused (none_found (seen_in m (St.entries E σ ch)))
    flip_none =
        ap (λ b. when_b b (St.head_flipped E σ ch e (flip_first e (σ.heads ch))) (refused 10)) (Se.sorted_ordered (σ.heads ch) 0 (Se.sorted_right (rows n) (σ.heads ch) S) (λ k t. omega arith))
        ∙ ap (St.head_flipped E σ ch e) (missing_of e (σ.heads ch) (λ t. none (Memᴰ.append_right (rows n) t))) ∙ rows_none
