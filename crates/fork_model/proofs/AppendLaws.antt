-- What an append does to the store of tables.
use Rattle.ledger.proofs.TestLaws.{ite_yes, ite_no}
use Rattle.ledger.specs.Run.{flat, row_or}
use mathlib.Core.Path.{◌≡◌, refl, sym, ◌∙◌, ap, subst}
use mathlib.Core.Logic.{◌⊎◌, inl, inr, ⊎_elim, ◌≢◌}
use mathlib.Core.List.{List, [], ◌∷◌, ◌++◌, append_assoc}
use Prim.Native.Nat.{ℕ, suc, ◌*◌, ◌≤◌, ◌<◌}
use native.Mathlib.Decide.{ℕ_discrete, dec_le}
use native.Mathlib.Omega.{arith}
use native.Mathlib.Nat.{mul-suc}
use lib.IntN.{ℤ, pos, negsuc}
use lib.Signed.{mag}
use lib.ListN.{length, length-append}
use Rattle.ledger.specs.Ledger.{Series, series_dec, ite}
use Rattle.ledger.specs.Run.{Res, done, refused}
use Rattle.fork_model.proofs.Table as Tb
use Rattle.fork_model.proofs.Store.{then_do}
use Rattle.fork_model.proofs.OperationLaws as Op
use Rattle.fork_model.proofs.Store as St
use Rattle.fork_model.proofs.Search as Se
use Rattle.fork_model.proofs.Search.{done≢refused, ite_cases}
use Rattle.fork_model.proofs.GoodStore.{ite_both, Small, small_snoc, small_one, Coded}
use Rattle.fork_model.proofs.GoodStore as Gs

module _ (E : St.Env) (code : Coded E) (U : Series → ℕ → Type 0) (apart : (d e : Series) (s t : ℕ) → U d s → U e t → E.key d s ≡ E.key e t → (d ≡ e) × (s ≡ t)) where
  open E use {r, lim, Key, key_dec, key, Row, enc, staged_cap, max_count}

  abbrev put : St.Table E → Key → Row → St.Table E
  put t k l = Tb.put Row Key key_dec t k l

  abbrev Good : St.Store E → Type 0
  Good σ = Gs.Good E code U σ

  abbrev pub Appended : St.Store E → Series → ℤ → St.Store E → Type 0
  Appended σ ch n τ = Op.Appended (St.Store E) (St.entries E) Good (Gs.Tidy E code U) σ ch n τ

  append_short : (σ : St.Store E) (ch : Series) (m : ℕ) → Good σ → Gs.Tidy E code U σ → m < lim → length (σ.heads ch) ≤ r → Appended σ ch (pos m) (St.with_head E σ ch (σ.heads ch ++ (pos m ∷ [])))
  append_short σ ch m G td v h = record {
    good = Gs.head_good E code U σ ch (σ.heads ch ++ (pos m ∷ [])) G (omega (arith, length-append (σ.heads ch) (pos m ∷ []))) (small_snoc lim (σ.heads ch) m (G.small ch) v);
    tidy = td;
    nonneg = refl;
    grown = Gs.head_entries E code U σ ch (σ.heads ch ++ (pos m ∷ [])) ∙ sym (append_assoc (flat (St.store_row E σ ch) (σ.counts ch)) (σ.heads ch) (pos m ∷ []));
    beside = Gs.head_beside E code U σ ch (σ.heads ch ++ (pos m ∷ []));
  }

  -- the rows that are live after row c of ch was spilled
  Live : St.Store E → Series → Series → ℕ → Type 0
  Live σ ch d s = ((s < σ.counts d) × (key ch (σ.counts ch) ≢ key d s)) ⊎ ((ch ≡ d) × (s ≡ σ.counts ch))

  live : (σ : St.Store E) (ch d : Series) (s : ℕ) → Good σ → U ch (σ.counts ch) → (w : Dec (ch ≡ d)) → s < ite w (suc (σ.counts ch)) (σ.counts d) → Dec (s ≡ σ.counts ch) → Live σ ch d s
  unfolding ite Live
  live σ ch d s G u (yes e) h (yes q) = inr (e, q)
  live σ ch d s G u (yes e) h (no q) =
      let b : s < σ.counts d = subst (λ (x : Series). s < σ.counts x) e (omega arith) in
      inl (b, λ k. q (sym (apart ch d (σ.counts ch) s u (G.used d s b) k).1))
  live σ ch d s G u (no n) h z = inl (h, λ k. n (apart ch d (σ.counts ch) s u (G.used d s h) k).0)

  append_spill : (σ : St.Store E) (ch : Series) (m : ℕ) → Good σ → Gs.Tidy E code U σ → m < lim → length (put σ.staging (key ch (σ.counts ch)) (enc ch (σ.counts ch) (σ.heads ch))) ≤ staged_cap → (length (σ.heads ch) ≤ r → ⊥) → (σ.counts ch ≢ max_count) → U ch (σ.counts ch) → Appended σ ch (pos m) (St.spilled E σ ch (pos m) (put σ.staging (key ch (σ.counts ch)) (enc ch (σ.counts ch) (σ.heads ch))))
  unfolding Live flat
  append_spill σ ch m G td v cap h room u = record {
    good = record {
      full = λ d s l. Gs.full_put E code U σ.staging σ.table ch d (σ.counts ch) s (key ch (σ.counts ch)) (key d s) (σ.heads ch) free size (G.small ch)
          (⊎_elim (λ a. inl (G.full d s a.0, a.1)) (λ a. inr (a.0, sym a.1, named d s a)) (at d s l));
      used = λ d s l. ⊎_elim (λ a. G.used d s a.0) (λ a. subst (λ (x : Series). U x s) a.0 (subst (U ch) (sym a.1) u)) (at d s l);
      kept = λ d s l i. subst (Tb.In Row Key key_dec (key d s)) td i;
      counted = λ d. ite_both (λ (x : ℕ). x ≤ max_count) (series_dec ch d) (suc (σ.counts ch)) (σ.counts d) (omega (arith, free)) (G.counted d);
      fits = λ d. ite_both (λ (x : List ℤ). length x ≤ suc r) (series_dec ch d) (pos m ∷ []) (σ.heads d) (omega arith) (G.fits d);
      small = λ d. ite_both (Small lim) (series_dec ch d) (pos m ∷ []) (σ.heads d) (small_one lim m v) (G.small d);
      one_staged = Tb.distinct_put Row Key key_dec σ.staging (key ch (σ.counts ch)) (enc ch (σ.counts ch) (σ.heads ch)) G.one_staged;
      one_table = G.one_table;
      cap_staged = cap;
      cap_table = G.cap_table;
      cap_deleted = G.cap_deleted;
    };
    tidy = td;
    nonneg = refl;
    grown = (λ i. flat (St.store_row E (St.spilled E σ ch (pos m) (put σ.staging (key ch (σ.counts ch)) (enc ch (σ.counts ch) (σ.heads ch)))) ch) (ite_yes (series_dec ch ch) (suc (σ.counts ch)) (σ.counts ch) refl i)
        ++ ite_yes (series_dec ch ch) (pos m ∷ []) (σ.heads ch) refl i)
        ∙ (λ i. (Se.flat_cong (St.store_row E (St.spilled E σ ch (pos m) (put σ.staging (key ch (σ.counts ch)) (enc ch (σ.counts ch) (σ.heads ch)))) ch) (St.store_row E σ ch) (σ.counts ch)
        (λ s l. ap (St.decoded E ch s) (Gs.view_put_other E code U σ.staging σ.table (key ch (σ.counts ch)) (key ch s) (enc ch (σ.counts ch) (σ.heads ch)) (own s l))) i
        ++ row_or (Gs.read_put_same E code U σ.staging σ.table ch (σ.counts ch) (key ch (σ.counts ch)) (σ.heads ch) free (G.fits ch) (G.small ch) i)) ++ (pos m ∷ []));
    beside = λ d q. (λ i. flat (St.store_row E (St.spilled E σ ch (pos m) (put σ.staging (key ch (σ.counts ch)) (enc ch (σ.counts ch) (σ.heads ch)))) d) (ite_no (series_dec ch d) (suc (σ.counts ch)) (σ.counts d) q i)
        ++ ite_no (series_dec ch d) (pos m ∷ []) (σ.heads d) q i)
        ∙ ap (λ (x : List ℤ). x ++ σ.heads d) (Se.flat_cong (St.store_row E (St.spilled E σ ch (pos m) (put σ.staging (key ch (σ.counts ch)) (enc ch (σ.counts ch) (σ.heads ch)))) d) (St.store_row E σ d) (σ.counts d)
        (λ s l. ap (St.decoded E d s) (Gs.view_put_other E code U σ.staging σ.table (key ch (σ.counts ch)) (key d s) (enc ch (σ.counts ch) (σ.heads ch)) (λ k. q (apart ch d (σ.counts ch) s u (G.used d s l) k).0))));
  }
    where
      free : σ.counts ch < max_count
      free = omega (arith, room, G.counted ch)

      size : length (σ.heads ch) ≡ suc r
      size = omega (arith, G.fits ch, h)

      at : (d : Series) (s : ℕ) → s < ite (series_dec ch d) (suc (σ.counts ch)) (σ.counts d) → Live σ ch d s
      at d s l = live σ ch d s G u (series_dec ch d) l (ℕ_discrete s (σ.counts ch))

      named : (d : Series) (s : ℕ) → (ch ≡ d) × (s ≡ σ.counts ch) → key ch (σ.counts ch) ≡ key d s
      named d s a = λ i. key (a.0 i) (sym a.1 i)

      own : (s : ℕ) → s < σ.counts ch → key ch (σ.counts ch) ≢ key ch s
      own s l k = let z : σ.counts ch ≡ s = (apart ch ch (σ.counts ch) s u (G.used ch s l) k).1 in omega arith

  append_size : (σ : St.Store E) (ch : Series) (m : ℕ) (τ : St.Store E) (X : Res (St.Table E)) → Good σ → St.stage E σ (key ch (σ.counts ch)) (enc ch (σ.counts ch) (σ.heads ch)) ≡ X → then_do X (λ t. done (St.spilled E σ ch (pos m) t)) ≡ done τ
      → length (put σ.staging (key ch (σ.counts ch)) (enc ch (σ.counts ch) (σ.heads ch))) ≤ staged_cap
  append_size σ ch m τ (refused k) G a b = absurd (done≢refused (sym b))
  append_size σ ch m τ (done t) G a b = Gs.stage_size E code σ (key ch (σ.counts ch)) (enc ch (σ.counts ch) (σ.heads ch)) t G.cap_staged a

  append_staged : (σ : St.Store E) (ch : Series) (m : ℕ) (τ : St.Store E) (X : Res (St.Table E)) → St.stage E σ (key ch (σ.counts ch)) (enc ch (σ.counts ch) (σ.heads ch)) ≡ X → then_do X (λ t. done (St.spilled E σ ch (pos m) t)) ≡ done τ
      → St.spilled E σ ch (pos m) (put σ.staging (key ch (σ.counts ch)) (enc ch (σ.counts ch) (σ.heads ch))) ≡ τ
  append_staged σ ch m τ (refused k) a b = absurd (done≢refused (sym b))
  append_staged σ ch m τ (done t) a b =
      let q : St.spilled E σ ch (pos m) t ≡ τ = cc in
      ap (St.spilled E σ ch (pos m)) (sym (Gs.stage_done E code σ (key ch (σ.counts ch)) (enc ch (σ.counts ch) (σ.heads ch)) t a)) ∙ q

  pub append_ok : (σ : St.Store E) (ch : Series) (n : ℤ) (τ : St.Store E) → Good σ → Gs.Tidy E code U σ → mag n < lim → St.append_store E σ ch n ≡ done τ → ((s : ℕ) → suc r * suc s < suc (length (St.entries E σ ch)) → U ch s) → Appended σ ch n τ
  append_ok σ ch (negsuc k) τ G td v e C = absurd (done≢refused (sym e))
  append_ok σ ch (pos m) τ G td v e C =
      ite_cases (dec_le (length (σ.heads ch)) r) (done (St.with_head E σ ch (σ.heads ch ++ (pos m ∷ [])))) _ (done τ) e
      (λ h a. let q : St.with_head E σ ch (σ.heads ch ++ (pos m ∷ [])) ≡ τ = cc in subst (Appended σ ch (pos m)) q (append_short σ ch m G td v h))
      (λ h a. ite_cases (ℕ_discrete (σ.counts ch) max_count) (refused 18) _ (done τ) a (λ x b. absurd (done≢refused (sym b)))
      (λ x b. subst (Appended σ ch (pos m)) (append_staged σ ch m τ (St.stage E σ (key ch (σ.counts ch)) (enc ch (σ.counts ch) (σ.heads ch))) refl b)
      (append_spill σ ch m G td v (append_size σ ch m τ (St.stage E σ (key ch (σ.counts ch)) (enc ch (σ.counts ch) (σ.heads ch))) G refl b) h x (C (σ.counts ch) (omega (arith, h, G.fits ch, Gs.entries_length E code U σ ch G, mul-suc (suc r) (σ.counts ch)))))))

-- an append of a number that is not below 0 is refused only by 16, or where the spill count is full
module _ (E : St.Env) (code : Coded E) where
  stage_no : (σ : St.Store E) (ch : Series) (m k : ℕ) (X : Res (St.Table E)) → St.stage E σ (E.key ch (σ.counts ch)) (E.enc ch (σ.counts ch) (σ.heads ch)) ≡ X
      → then_do X (λ t. done (St.spilled E σ ch (pos m) t)) ≡ refused k → k ≡ 16
  stage_no σ ch m k (done t) a c = absurd (done≢refused c)
  stage_no σ ch m k (refused j) a c =
      let z : j ≡ k = cc in sym z ∙ (Gs.stage_refused E code σ (E.key ch (σ.counts ch)) (E.enc ch (σ.counts ch) (σ.heads ch)) j a).0

  pub append_no : (σ : St.Store E) (ch : Series) (m k : ℕ) → St.append_store E σ ch (pos m) ≡ refused k → (k ≡ 16) ⊎ (σ.counts ch ≡ E.max_count)
  append_no σ ch m k e =
      ite_cases (dec_le (length (σ.heads ch)) E.r) (done (St.with_head E σ ch (σ.heads ch ++ (pos m ∷ [])))) _ (refused k) e (λ a b. absurd (done≢refused b))
      (λ a b. ite_cases (ℕ_discrete (σ.counts ch) E.max_count) (refused 18) _ (refused k) b (λ x y. inr x)
      (λ x y. inl (stage_no σ ch m k (St.stage E σ (E.key ch (σ.counts ch)) (E.enc ch (σ.counts ch) (σ.heads ch))) refl y)))
