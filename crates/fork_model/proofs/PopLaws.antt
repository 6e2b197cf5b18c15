-- What a pop does to the store of tables, and when it refuses.
use Rattle.ledger.proofs.TestLaws.{ite_yes, ite_no}
use Rattle.ledger.specs.Run.{flat, row_or}
use mathlib.Core.Path.{◌≡◌, refl, sym, ◌∙◌, ap, subst}
use mathlib.Core.Logic.{◌⊎◌, inl, inr, ⊎_elim, ◌≢◌}
use mathlib.Core.List.Memᴰ
use mathlib.Core.List.{List, [], ◌∷◌, ◌++◌, append_assoc, append-nil}
use Prim.Native.Nat.{ℕ, zero, suc, ◌≤◌, ◌<◌}
use native.Mathlib.Decide.{dec_le}
use native.Mathlib.Omega.{arith}
use lib.IntN.{ℤ}
use lib.ListN.{length, length-append}
use Rattle.ledger.specs.Ledger.{Series, series_dec, ite}
use Rattle.ledger.specs.Run.{Res, done, refused, Popped}
use Rattle.fork_model.proofs.Table.{or_else}
use Rattle.fork_model.proofs.Table as Tb
use Rattle.fork_model.proofs.Store.{Ends, nothing, ends, unsnoc, both, not_dec}
use Rattle.fork_model.proofs.OperationLaws as Op
use Rattle.fork_model.proofs.Store as St
use Rattle.fork_model.proofs.Search as Se
use Rattle.fork_model.proofs.Search.{done≢refused, ite_cases}
use Rattle.fork_model.proofs.GoodStore.{ite_both, Small, FullRow, Coded}
use Rattle.fork_model.proofs.GoodStore as Gs

module _ (E : St.Env) (code : Coded E) (U : Series → ℕ → Type 0) (apart : (d e : Series) (s t : ℕ) → U d s → U e t → E.key d s ≡ E.key e t → (d ≡ e) × (s ≡ t)) where
  open E use {r, lim, Key, key_dec, key, Row, deleted_cap, max_count}

  abbrev Good : St.Store E → Type 0
  Good σ = Gs.Good E code U σ

  abbrev pub PoppedOff : St.Store E → Series → ℤ → St.Store E → Type 0
  PoppedOff σ ch v τ = Op.PoppedOff (St.Store E) (St.entries E) Good (Gs.Tidy E code U) σ ch v τ

  pop_short : (σ : St.Store E) (ch : Series) (f : List ℤ) (v : ℤ) → Good σ → σ.heads ch ≡ f ++ (v ∷ []) → PoppedOff σ ch v (St.with_head E σ ch f)
  pop_short σ ch f v G e = record {
    good = Gs.head_good E code U σ ch f G (omega (arith, G.fits ch, ap length e, length-append f (v ∷ []))) (λ x t. G.small ch x (rw e (Memᴰ.append_left (v ∷ []) t)));
    last = ap (λ (x : List ℤ). flat (St.store_row E σ ch) (σ.counts ch) ++ x) e ∙ sym (append_assoc (flat (St.store_row E σ ch) (σ.counts ch)) f (v ∷ [])) ∙ ap (λ (x : List ℤ). x ++ (v ∷ [])) (sym (Gs.head_entries E code U σ ch f));
    beside = Gs.head_beside E code U σ ch f;
  }

  in_snoc : (k j : Key) (ks : List Key) → Tb.In Row Key key_dec k (ks ++ (j ∷ [])) → Tb.In Row Key key_dec k ks ⊎ (j ≡ k)
  in_snoc k j [] h = ⊎_elim (λ e. inr e) (λ e. inl e) h
  in_snoc k j (x ∷ ks) h = ⊎_elim (λ e. inl (inl e)) (λ t. ⊎_elim (λ a. inl (inr a)) (λ e. inr e) (in_snoc k j ks t)) h

  in_add : {P : Type 0} (w : Dec P) (k j : Key) (ks : List Key) → Tb.In Row Key key_dec k (ite w ks (ks ++ (j ∷ []))) → Tb.In Row Key key_dec k ks ⊎ (j ≡ k)
  unfolding ite
  in_add (yes e) k j ks h = inl h
  in_add (no n) k j ks h = in_snoc k j ks h

  add_size : (k : Key) (ks : List Key) → length ks ≤ deleted_cap → ((deleted_cap ≤ length ks) × (Tb.In Row Key key_dec k ks → ⊥) → ⊥) → (w : Dec (Tb.In Row Key key_dec k ks)) → length (ite w ks (ks ++ (k ∷ []))) ≤ deleted_cap
  unfolding ite
  add_size k ks c ok (yes h) = c
  add_size k ks c ok (no n) = go (dec_le deleted_cap (length ks))
    where
      go : Dec (deleted_cap ≤ length ks) → length (ks ++ (k ∷ [])) ≤ deleted_cap
      go (yes q) = absurd (ok (q, n))
      go (no q) = omega (arith, q, length-append ks (k ∷ []))

  view_remove : (a b : St.Table E) (ch : Series) (s : ℕ) (k j : Key) → Tb.Distinct Row Key key_dec a → k ≢ j → St.decoded E ch s (St.view E (Tb.remove Row Key key_dec a k) b j) ≡ St.decoded E ch s (St.view E a b j)
  view_remove a b ch s k j d n = ap (λ x. St.decoded E ch s (or_else x (Tb.lookup Row Key key_dec b j))) (Tb.lookup_remove_other Row Key key_dec a k j d n)

  -- the rows that are live after row s of ch was merged back
  left : (σ : St.Store E) (ch d : Series) (s t : ℕ) → Good σ → σ.counts ch ≡ suc s → (w : Dec (ch ≡ d)) → t < ite w s (σ.counts d) → (t < σ.counts d) × (key ch s ≢ key d t)
  unfolding ite
  left σ ch d s t G c (yes e) h =
      let b : t < σ.counts d = subst (λ (x : Series). t < σ.counts x) e (omega arith) in
      (b, λ k. let z : s ≡ t = (apart ch d s t (G.used ch s (omega arith)) (G.used d t b) k).1 in omega arith)
  left σ ch d s t G c (no n) h = (h, λ k. n (apart ch d s t (G.used ch s (omega arith)) (G.used d t h) k).0)

  pop_merged : (σ : St.Store E) (ch : Series) (s : ℕ) (l f : List ℤ) (v : ℤ) → Good σ → σ.heads ch ≡ [] → σ.counts ch ≡ suc s → St.store_row E σ ch s ≡ done l → l ≡ f ++ (v ∷ []) → ((deleted_cap ≤ length σ.deletion) × (Tb.In Row Key key_dec (key ch s) σ.deletion → ⊥) → ⊥) → PoppedOff σ ch v (St.merged E σ ch s f)
  unfolding flat
  pop_merged σ ch s l f v G hd c e q ok = record {
    good = record {
      full = λ d t h. let a = left σ ch d s t G c (series_dec ch d) h in let g = G.full d t a.0 in
          (g.0, view_remove σ.staging σ.table d t (key ch s) (key d t) G.one_staged a.1 ∙ g.1, g.2, g.3);
      used = λ d t h. G.used d t (left σ ch d s t G c (series_dec ch d) h).0;
      kept = λ d t h i. let a = left σ ch d s t G c (series_dec ch d) h in
          ⊎_elim (G.kept d t a.0) a.1 (in_add (Tb.in_dec Row Key key_dec (key ch s) σ.deletion) (key d t) (key ch s) σ.deletion i);
      counted = λ d. ite_both (λ (x : ℕ). x ≤ max_count) (series_dec ch d) s (σ.counts d) (omega (arith, c, G.counted ch)) (G.counted d);
      fits = λ d. ite_both (λ (x : List ℤ). length x ≤ suc r) (series_dec ch d) f (σ.heads d) short (G.fits d);
      small = λ d. ite_both (Small lim) (series_dec ch d) f (σ.heads d) little (G.small d);
      one_staged = Tb.distinct_remove Row Key key_dec σ.staging (key ch s) G.one_staged;
      one_table = G.one_table;
      cap_staged = omega (arith, G.cap_staged, Tb.length_remove Row Key key_dec σ.staging (key ch s));
      cap_table = G.cap_table;
      cap_deleted = add_size (key ch s) σ.deletion G.cap_deleted ok (Tb.in_dec Row Key key_dec (key ch s) σ.deletion);
    };
    last = (λ i. flat (St.store_row E σ ch) (c i) ++ hd i) ∙ append-nil (flat (St.store_row E σ ch) s ++ row_or (St.store_row E σ ch s)) ∙ ap (λ x. flat (St.store_row E σ ch) s ++ row_or x) e ∙ ap (λ x. flat (St.store_row E σ ch) s ++ x) q
        ∙ sym (append_assoc (flat (St.store_row E σ ch) s) f (v ∷ [])) ∙ ap (λ (x : List ℤ). x ++ (v ∷ [])) (sym after);
    beside = λ d n. (λ i. flat (St.store_row E (St.merged E σ ch s f) d) (ite_no (series_dec ch d) s (σ.counts d) n i) ++ ite_no (series_dec ch d) f (σ.heads d) n i)
        ∙ ap (λ (x : List ℤ). x ++ σ.heads d) (Se.flat_cong (St.store_row E (St.merged E σ ch s f) d) (St.store_row E σ d) (σ.counts d)
        (λ t h. view_remove σ.staging σ.table d t (key ch s) (key d t) G.one_staged (λ k. n (apart ch d s t (G.used ch s (omega arith)) (G.used d t h) k).0)));
  }
    where
      short : length f ≤ suc r
      short = let g = G.full ch s (omega arith) in let z : g.0 ≡ l = cc in omega (arith, g.2, ap length z, ap length q, length-append f (v ∷ []))

      little : Small lim f
      little x t = let g = G.full ch s (omega arith) in let z : g.0 ≡ f ++ (v ∷ []) = cc in g.3 x (rw z (Memᴰ.append_left (v ∷ []) t))

      after : St.entries E (St.merged E σ ch s f) ch ≡ flat (St.store_row E σ ch) s ++ f
      after = (λ i. flat (St.store_row E (St.merged E σ ch s f) ch) (ite_yes (series_dec ch ch) s (σ.counts ch) refl i) ++ ite_yes (series_dec ch ch) f (σ.heads ch) refl i)
          ∙ ap (λ (x : List ℤ). x ++ f) (Se.flat_cong (St.store_row E (St.merged E σ ch s f) ch) (St.store_row E σ ch) s
          (λ t h. view_remove σ.staging σ.table ch t (key ch s) (key ch t) G.one_staged
          (λ k. let z : s ≡ t = (apart ch ch s t (G.used ch s (omega arith)) (G.used ch t (omega arith)) k).1 in omega arith)))

  -- what pop answers
  abbrev Popping : St.Store E → Series → Popped (St.Store E) → Type 0
  Popping σ ch x = PoppedOff σ ch x.value x.left

  popped_merged : (σ : St.Store E) (ch : Series) (s : ℕ) (l : List ℤ) (ed : Ends) (x : Popped (St.Store E)) → Good σ → σ.heads ch ≡ [] → σ.counts ch ≡ suc s → St.store_row E σ ch s ≡ done l → unsnoc l ≡ ed → St.merged_out E σ ch s ed ≡ done x → Popping σ ch x
  popped_merged σ ch s l nothing x G hd c e u h = absurd (done≢refused (sym h))
  popped_merged σ ch s l (ends f v) x G hd c e u h =
      ite_cases (both (dec_le deleted_cap (length σ.deletion)) (not_dec (Tb.in_dec Row Key key_dec (key ch s) σ.deletion))) (refused 21) (done (record { left = St.merged E σ ch s f; value = v })) (done x) h
      (λ a b. absurd (done≢refused (sym b)))
      (λ a b. let q : record { left = St.merged E σ ch s f; value = v } ≡ x = cc in subst (Popping σ ch) q (pop_merged σ ch s l f v G hd c e (Se.unsnoc_ends l f v u) a))

  popped_merge : (σ : St.Store E) (ch : Series) (s : ℕ) (F : Res (List ℤ)) (x : Popped (St.Store E)) → Good σ → σ.heads ch ≡ [] → σ.counts ch ≡ suc s → St.store_row E σ ch s ≡ F → St.merge_out E σ ch s F ≡ done x → Popping σ ch x
  popped_merge σ ch s (refused j) x G hd c e h = absurd (done≢refused (sym h))
  popped_merge σ ch s (done l) x G hd c e h = popped_merged σ ch s l (unsnoc l) x G hd c e refl h

  popped_row : (σ : St.Store E) (ch : Series) (n : ℕ) (x : Popped (St.Store E)) → Good σ → σ.heads ch ≡ [] → σ.counts ch ≡ n → St.row_out E σ ch n ≡ done x → Popping σ ch x
  popped_row σ ch zero x G hd c h = absurd (done≢refused (sym h))
  popped_row σ ch (suc s) x G hd c h = popped_merge σ ch s (St.store_row E σ ch s) x G hd c refl h

  popped_from : (σ : St.Store E) (ch : Series) (ed : Ends) (x : Popped (St.Store E)) → Good σ → unsnoc (σ.heads ch) ≡ ed → St.pop_out E σ ch ed ≡ done x → Popping σ ch x
  popped_from σ ch nothing x G u h = popped_row σ ch (σ.counts ch) x G (Se.unsnoc_nothing (σ.heads ch) u) refl h
  popped_from σ ch (ends f v) x G u h =
      let q : record { left = St.with_head E σ ch f; value = v } ≡ x = cc in subst (Popping σ ch) q (pop_short σ ch f v G (Se.unsnoc_ends (σ.heads ch) f v u))

  pub pop_ok : (σ : St.Store E) (ch : Series) (x : Popped (St.Store E)) → Good σ → St.pop_store E σ ch ≡ done x → PoppedOff σ ch x.value x.left
  pop_ok σ ch x G h = popped_from σ ch (unsnoc (σ.heads ch)) x G refl h

  -- what pop refuses
  refused_merged : (σ : St.Store E) (ch : Series) (s k : ℕ) (l : List ℤ) (ed : Ends) → length l ≡ suc r → unsnoc l ≡ ed → St.merged_out E σ ch s ed ≡ refused k → (k ≡ 21) × St.DeletionFull E σ
  refused_merged σ ch s k l nothing n u h = absurd (let z = ap length (Se.unsnoc_nothing l u) in omega arith)
  refused_merged σ ch s k l (ends f v) n u h =
      ite_cases (both (dec_le deleted_cap (length σ.deletion)) (not_dec (Tb.in_dec Row Key key_dec (key ch s) σ.deletion))) (refused 21) (done (record { left = St.merged E σ ch s f; value = v })) (refused k) h
      (λ a b. let q : 21 ≡ k = cc in (sym q, a.0)) (λ a b. absurd (done≢refused b))

  refused_merge : (σ : St.Store E) (ch : Series) (s k : ℕ) (F : Res (List ℤ)) → FullRow lim r F → St.merge_out E σ ch s F ≡ refused k → (k ≡ 21) × St.DeletionFull E σ
  refused_merge σ ch s k (refused j) g h = absurd (done≢refused (sym g.1))
  refused_merge σ ch s k (done l) g h = refused_merged σ ch s k l (unsnoc l) (let z : l ≡ g.0 = cc g.1 in ap length z ∙ g.2) refl h

  refused_row : (σ : St.Store E) (ch : Series) (n k : ℕ) → Good σ → σ.heads ch ≡ [] → σ.counts ch ≡ n → St.entries E σ ch ≢ [] → St.row_out E σ ch n ≡ refused k → (k ≡ 21) × St.DeletionFull E σ
  unfolding flat
  refused_row σ ch zero k G hd c ne h = absurd (ne (λ i. flat (St.store_row E σ ch) (c i) ++ hd i))
  refused_row σ ch (suc s) k G hd c ne h = refused_merge σ ch s k (St.store_row E σ ch s) (G.full ch s (omega arith)) h

  refused_from : (σ : St.Store E) (ch : Series) (ed : Ends) (k : ℕ) → Good σ → St.entries E σ ch ≢ [] → unsnoc (σ.heads ch) ≡ ed → St.pop_out E σ ch ed ≡ refused k → (k ≡ 21) × St.DeletionFull E σ
  refused_from σ ch nothing k G ne u h = refused_row σ ch (σ.counts ch) k G (Se.unsnoc_nothing (σ.heads ch) u) refl ne h
  refused_from σ ch (ends f v) k G ne u h = absurd (done≢refused h)

  pub pop_no : (σ : St.Store E) (ch : Series) (k : ℕ) → Good σ → St.entries E σ ch ≢ [] → St.pop_store E σ ch ≡ refused k → (k ≡ 21) × St.DeletionFull E σ
  pop_no σ ch k G ne h = refused_from σ ch (unsnoc (σ.heads ch)) k G ne refl h
