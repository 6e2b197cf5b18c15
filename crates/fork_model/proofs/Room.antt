-- How many records the lists of the store of tables hold: each call adds at most one, so that lists with room for as many as there are calls are never full.
use mathlib.Core.Path.{◌≡◌, refl, sym, ap, subst}
use mathlib.Core.Bool.{Bool, true, false}
use mathlib.Core.List.{List, [], ◌∷◌, ◌++◌}
use Prim.Native.Nat.{ℕ, zero, suc, ◌+◌, ◌≤◌, ◌<◌}
use native.Mathlib.Decide.{ℕ_discrete, dec_le, dec_lt}
use native.Mathlib.Omega.{arith}
use lib.IntN.{ℤ, pos, nat_abs}
use lib.ListN.{length, length-append}
use Rattle.ledger.specs.Ledger.{Series, ite}
use Rattle.ledger.specs.Run.{Res, done, refused, Popped}
use Rattle.fork_model.proofs.Table.{Found, missing, found}
use Rattle.fork_model.proofs.Table as Tb
use Rattle.fork_model.proofs.Store.{then_do, Ends, nothing, ends, unsnoc, flip_first, ordered, seen_in, when_b, Hit, halve, walk, both, not_dec}
use Rattle.fork_model.proofs.Store as St
use Rattle.fork_model.proofs.GoodStore as Gs
use Rattle.fork_model.proofs.Search.{done≢refused, ite_cases}

and_then : {A B : Type 0} (X : Res A) (f : A → Res B) (b : B) → then_do X f ≡ done b → (a : A) × (X ≡ done a) × (f a ≡ done b)
and_then (done a) f b e = (a, refl, e)
and_then (refused k) f b e = absurd (done≢refused (sym e))

done_is : {A : Type 0} {a b : A} → ◌≡◌ {A = Res A} (done a) (done b) → a ≡ b
done_is e = cc

module _ (E : St.Env) (code : Gs.Coded E) where
  open E use {r, lim, Key, key_dec, key, Row, enc, staged_cap, table_cap, deleted_cap, max_count}

  abbrev Store : Type 0
  Store = St.Store E

  -- at most n records are staged or in the table, and at most n keys deleted
  pub record Room (n : ℕ) (σ : Store) : Type 0 where
    pub rows : length σ.staging + length σ.table ≤ n
    pub deleted : length σ.deletion ≤ n

  -- one staged record more, at most
  more_staged : (n : ℕ) (σ τ : Store) → Room n σ → length τ.staging ≤ suc (length σ.staging) → τ.table ≡ σ.table → τ.deletion ≡ σ.deletion → Room (suc n) τ
  more_staged n σ τ R h p q = record { rows = omega (arith, R.rows, ap length p); deleted = omega (arith, R.deleted, ap length q) }

  stage_length : (σ : Store) (k : Key) (l : Row) (t : St.Table E) → St.stage E σ k l ≡ done t → length t ≤ suc (length σ.staging)
  stage_length σ k l t e = omega (arith, ap length (Gs.stage_done E code σ k l t e), Tb.length_put Row Key key_dec σ.staging k l)

  -- ---- append: refused only where the number of rows is the greatest or staging is full
  module _ (σ : Store) (ch : Series) (m : ℕ) where
    abbrev spill : Res Store
    spill = then_do (St.stage E σ (key ch (σ.counts ch)) (enc ch (σ.counts ch) (σ.heads ch))) (λ t. done (St.spilled E σ ch (pos m) t))

    abbrev at_count : Res Store
    at_count = ite (ℕ_discrete (σ.counts ch) max_count) (refused 18) spill

    staged_no : (k : ℕ) (X : Res (St.Table E)) → St.stage E σ (key ch (σ.counts ch)) (enc ch (σ.counts ch) (σ.heads ch)) ≡ X → then_do X (λ t. done (St.spilled E σ ch (pos m) t)) ≡ refused k → staged_cap ≤ length σ.staging
    staged_no k (done t) e h = absurd (done≢refused h)
    staged_no k (refused j) e h = (Gs.stage_refused E code σ (key ch (σ.counts ch)) (enc ch (σ.counts ch) (σ.heads ch)) j e).1

    pub append_accepted : (k : ℕ) → (σ.counts ch ≡ max_count → ⊥) → length σ.staging < staged_cap → St.append_store E σ ch (pos m) ≡ refused k → ⊥
    append_accepted k c s e =
        ite_cases (dec_le (length (σ.heads ch)) r) (done (St.with_head E σ ch (σ.heads ch ++ (pos m ∷ [])))) at_count (refused k) e (λ a b. done≢refused b)
        (λ a b. ite_cases (ℕ_discrete (σ.counts ch) max_count) (refused 18) spill (refused k) b (λ x y. c x) (λ x y. omega (arith, staged_no k (St.stage E σ (key ch (σ.counts ch)) (enc ch (σ.counts ch) (σ.heads ch))) refl y)))

    pub append_room : (n : ℕ) (τ : Store) → Room n σ → St.append_store E σ ch (pos m) ≡ done τ → Room (suc n) τ
    append_room n τ R e =
        ite_cases (dec_le (length (σ.heads ch)) r) (done (St.with_head E σ ch (σ.heads ch ++ (pos m ∷ [])))) at_count (done τ) e
        (λ a b. subst (Room (suc n)) (done_is b) (record { rows = omega (arith, R.rows); deleted = omega (arith, R.deleted) }))
        (λ a b. ite_cases (ℕ_discrete (σ.counts ch) max_count) (refused 18) spill (done τ) b (λ x y. absurd (done≢refused (sym y)))
        (λ x y. let w = and_then (St.stage E σ (key ch (σ.counts ch)) (enc ch (σ.counts ch) (σ.heads ch))) (λ t. done (St.spilled E σ ch (pos m) t)) τ y in
        subst (Room (suc n)) (done_is w.2) (more_staged n σ (St.spilled E σ ch (pos m) w.0) R (stage_length σ (key ch (σ.counts ch)) (enc ch (σ.counts ch) (σ.heads ch)) w.0 w.1) refl refl)))

  -- ---- spend and unspend
  module _ (σ : Store) (ch : Series) (e : ℤ) (n : ℕ) (R : Room n σ) (τ : Store) where
    abbrev put_back : Hit → Res Store
    put_back h = then_do (St.stage E σ (key ch h.at) (St.redone E σ ch h.at h.new)) (λ t. done (St.with_staging E σ t))

    abbrev walk_on : ℕ → Res Store
    walk_on lo = then_do (walk r (St.read_row E σ ch) e lo (seen_in (nat_abs e) (σ.heads ch))) put_back

    by_head : (F : Found (List ℤ)) → St.head_flipped E σ ch e F ≡ done τ → Room (suc n) τ
    by_head (found l) h = subst (Room (suc n)) (done_is h) (record { rows = omega (arith, R.rows); deleted = omega (arith, R.deleted) })
    by_head missing h =
        let a = and_then (halve (St.read_row E σ ch) (nat_abs e) (σ.counts ch) 0 (σ.counts ch)) walk_on τ h in
        let b = and_then (walk r (St.read_row E σ ch) e a.0 (seen_in (nat_abs e) (σ.heads ch))) put_back τ a.2 in
        let c = and_then (St.stage E σ (key ch b.0.at) (St.redone E σ ch b.0.at b.0.new)) (λ t. done (St.with_staging E σ t)) τ b.2 in
        subst (Room (suc n)) (done_is c.2) (more_staged n σ (St.with_staging E σ c.0) R (stage_length σ (key ch b.0.at) (St.redone E σ ch b.0.at b.0.new) c.0 c.1) refl refl)

    by_order : (b : Bool) → when_b b (St.head_flipped E σ ch e (flip_first e (σ.heads ch))) (refused 10) ≡ done τ → Room (suc n) τ
    by_order true h = by_head (flip_first e (σ.heads ch)) h
    by_order false h = absurd (done≢refused (sym h))

    pub flip_room : (t : ℤ) → ite (dec_le lim (nat_abs t)) (refused 9) (St.flip_store E σ ch e) ≡ done τ → Room (suc n) τ
    flip_room t h = ite_cases (dec_le lim (nat_abs t)) (refused 9) (St.flip_store E σ ch e) (done τ) h (λ a b. absurd (done≢refused (sym b))) (λ a b. by_order (ordered 0 (σ.heads ch)) b)

  -- ---- pop
  add_length : (k : Key) (ks : List Key) → length (St.add_key E k ks) ≤ suc (length ks)
  add_length k ks = ite_cases (Tb.in_dec Row Key key_dec k ks) ks (ks ++ k ∷ []) (St.add_key E k ks) refl (λ a b. omega (arith, ap length b)) (λ a b. omega (arith, ap length b, length-append ks (k ∷ [])))

  module _ (σ : Store) (ch : Series) (n : ℕ) (R : Room n σ) (x : Popped Store) where
    pop_merged : (s : ℕ) (l : Ends) → St.merged_out E σ ch s l ≡ done x → Room (suc n) x.left
    pop_merged s nothing h = absurd (done≢refused (sym h))
    pop_merged s (ends f v) h =
        ite_cases (both (dec_le deleted_cap (length σ.deletion)) (not_dec (Tb.in_dec Row Key key_dec (key ch s) σ.deletion))) (refused 21) (done (record { left = St.merged E σ ch s f; value = v })) (done x) h
        (λ a b. absurd (done≢refused (sym b)))
        (λ a b. subst (λ (y : Popped Store). Room (suc n) y.left) (done_is b)
        (record { rows = omega (arith, R.rows, Tb.length_remove Row Key key_dec σ.staging (key ch s)); deleted = omega (arith, R.deleted, add_length (key ch s) σ.deletion) }))

    pop_merge : (s : ℕ) (X : Res (List ℤ)) → St.merge_out E σ ch s X ≡ done x → Room (suc n) x.left
    pop_merge s (refused k) h = absurd (done≢refused (sym h))
    pop_merge s (done l) h = pop_merged s (unsnoc l) h

    pop_row : (s : ℕ) → St.row_out E σ ch s ≡ done x → Room (suc n) x.left
    pop_row zero h = absurd (done≢refused (sym h))
    pop_row (suc s) h = pop_merge s (St.store_row E σ ch s) h

    pop_from : (l : Ends) → St.pop_out E σ ch l ≡ done x → Room (suc n) x.left
    pop_from nothing h = pop_row (σ.counts ch) h
    pop_from (ends f v) h = subst (λ (y : Popped Store). Room (suc n) y.left) (done_is h) (record { rows = omega (arith, R.rows); deleted = omega (arith, R.deleted) })

    pub pop_room : St.pop_store E σ ch ≡ done x → Room (suc n) x.left
    pop_room h = pop_from (unsnoc (σ.heads ch)) h

  -- ---- flush
  fresh_few : (t : St.Table E) (ks : List Key) (s : St.Table E) → Tb.fresh Row Key key_dec t ks s ≤ length t
  unfolding Tb.fresh
  fresh_few [] ks s = omega arith
  fresh_few (x ∷ t) ks s =
      let w = Tb.new_dec Row Key key_dec (Tb.in_dec Row Key key_dec x.name ks) (Tb.lacks_dec Row Key key_dec (Tb.lookup Row Key key_dec s x.name)) in
      let f = Tb.fresh Row Key key_dec t ks s in
      ite_cases w (suc f) f (ite w (suc f) f) refl (λ a b. omega (arith, b, fresh_few t ks s)) (λ a b. omega (arith, b, fresh_few t ks s))

  module _ (σ : Store) (n : ℕ) (R : Room n σ) where
    abbrev new_rows : ℕ
    new_rows = Tb.fresh Row Key key_dec σ.staging σ.deletion σ.table

    pub flush_accepted : (k : ℕ) → n ≤ table_cap → St.flush_store E σ ≡ refused k → ⊥
    flush_accepted k c e =
        ite_cases (dec_lt table_cap (length σ.table + new_rows)) (refused 22) (done (St.flushed E σ)) (refused k) e
        (λ a b. omega (arith, R.rows, fresh_few σ.staging σ.deletion σ.table)) (λ a b. done≢refused b)

    pub flush_room : (τ : Store) → Tb.Distinct Row Key key_dec σ.staging → St.flush_store E σ ≡ done τ → Room (suc n) τ
    flush_room τ d e =
        ite_cases (dec_lt table_cap (length σ.table + new_rows)) (refused 22) (done (St.flushed E σ)) (done τ) e
        (λ a b. absurd (done≢refused (sym b)))
        (λ a b. subst (Room (suc n)) (done_is b) (record {
          rows = omega (arith, R.rows, fresh_few σ.staging σ.deletion σ.table, Tb.length_write Row Key key_dec σ.staging σ.deletion σ.table d, Tb.length_removeAll Row Key key_dec σ.deletion (Tb.write_all Row Key key_dec σ.staging σ.deletion σ.table));
          deleted = omega arith;
        }))
