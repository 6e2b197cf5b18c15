-- What a spend and an unspend do to the store of tables, and when they refuse.
use Rattle.ledger.proofs.TestLaws.{ite_yes}
use Rattle.ledger.specs.Run.{flat, row_or}
use mathlib.Core.Path.{◌≡◌, refl, sym, ◌∙◌, ap, subst}
use mathlib.Core.Logic.{◌⊎◌, inl, inr, ⊎_elim, ◌≢◌}
use mathlib.Core.Bool.{Bool, true, false}
use mathlib.Core.List.Memᴰ
use mathlib.Core.List.{List, ◌++◌, Memᴰ}
use Prim.Native.Nat.{ℕ, suc, ◌≤◌, ◌<◌}
use native.Mathlib.Decide.{ℕ_discrete, dec_le, dec_lt}
use native.Mathlib.Omega.{arith}
use lib.IntN.{ℤ, pos, nat_abs}
use lib.ListN.{length, get_or}
use Rattle.ledger.specs.Ledger.{Series, ite}
use Rattle.ledger.specs.Run.{Res, done, refused}
use Rattle.fork_model.proofs.Table.{Found, missing, found}
use Rattle.fork_model.proofs.Table as Tb
use Rattle.fork_model.proofs.EntryLaws.{Sorted}
use Rattle.fork_model.proofs.Store.{then_do, flip_first, ordered, seen_in, when_b, Hit, first_abs, halve, last_abs, walk}
use Rattle.fork_model.proofs.Store as St
use Rattle.fork_model.proofs.Search as Se
use Rattle.fork_model.proofs.Search.{done≢refused, ite_cases, Split}
use Rattle.fork_model.proofs.GoodStore.{Small, small_split, FullRow, full_length, Coded}
use Rattle.fork_model.proofs.GoodStore as Gs

module _ (E : St.Env) (code : Coded E) (U : Series → ℕ → Type 0) (apart : (d e : Series) (s t : ℕ) → U d s → U e t → E.key d s ≡ E.key e t → (d ≡ e) × (s ≡ t)) where
  open E use {r, lim, Key, key_dec, key, Row, dec, staged_cap}

  abbrev Good : St.Store E → Type 0
  Good σ = Gs.Good E code U σ

  when_done : (b : Bool) (l k : List ℤ) → when_b b (done l) (refused 13) ≡ done k → l ≡ k
  when_done true l k h = cc
  when_done false l k h = absurd (done≢refused (sym h))

  read_found : (F : Res (List ℤ)) (l : List ℤ) → St.checked_store_row E F ≡ done l → F ≡ done l
  read_found (refused j) l h = absurd (done≢refused (sym h))
  read_found (done k) l h =
      ite_cases (ℕ_discrete (length k) (suc r)) (when_b (ordered 0 k) (done k) (refused 13)) (refused 13) (done l) h
      (λ a b. ap {B = Res (List ℤ)} done (when_done (ordered 0 k) k l b)) (λ a b. absurd (done≢refused (sym b)))

  pub record Flipped (σ : St.Store E) (ch : Series) (e : ℤ) (τ : St.Store E) : Type 0 where
    pub good : Good τ
    pub tidy : Gs.Tidy E code U σ → Gs.Tidy E code U τ
    pub split : Split e (St.entries E σ ch) (St.entries E τ ch)
    pub beside : Gs.Beside E code U ch σ τ

  flip_row : (σ : St.Store E) (ch : Series) (e : ℤ) (s : ℕ) (row new : List ℤ) → Good σ → s < σ.counts ch → St.store_row E σ ch s ≡ done row → flip_first e row ≡ found new → length (Tb.put Row Key key_dec σ.staging (key ch s) (St.redone E σ ch s new)) ≤ staged_cap
      → Flipped σ ch e (St.with_staging E σ (Tb.put Row Key key_dec σ.staging (key ch s) (St.redone E σ ch s new)))
  flip_row σ ch e s row new G b a h cap = record {
    good = record {
      full = λ d t l. Gs.full_put_any E code U σ.staging σ.table ch d s t (key ch s) (key d t) (St.redone E σ ch s new) new reads size little (who d t l (key_dec (key ch s) (key d t)));
      used = G.used;
      kept = G.kept;
      counted = G.counted;
      fits = G.fits;
      small = G.small;
      one_staged = Tb.distinct_put Row Key key_dec σ.staging (key ch s) (St.redone E σ ch s new) G.one_staged;
      one_table = G.one_table;
      cap_staged = cap;
      cap_table = G.cap_table;
      cap_deleted = G.cap_deleted;
    };
    tidy = λ t. t;
    split = Se.split_left (σ.heads ch) (subst (λ (x : List ℤ). Split e x (flat (St.store_row E τ ch) (σ.counts ch))) (sym p.parts)
        (subst (λ (x : List ℤ). Split e (flat (St.store_row E σ ch) s ++ (row_or (St.store_row E σ ch s) ++ p.rest)) x) (sym there)
        (Se.split_in (flat (St.store_row E σ ch) s) p.rest (subst (λ (x : Res (List ℤ)). Split e (row_or x) new) (sym a) sp))));
    beside = λ d q. ap (λ (x : List ℤ). x ++ σ.heads d) (Se.flat_cong (St.store_row E τ d) (St.store_row E σ d) (σ.counts d)
        (λ t l. ap (St.decoded E d t) (Gs.view_put_other E code U σ.staging σ.table (key ch s) (key d t) (St.redone E σ ch s new) (λ k. q (apart ch d s t (G.used ch s b) (G.used d t l) k).0))));
  }
    where
      τ : St.Store E
      τ = St.with_staging E σ (Tb.put Row Key key_dec σ.staging (key ch s) (St.redone E σ ch s new))

      sp : Split e row new
      sp = Se.first_split e row new h

      size : length new ≡ suc r
      size = let g = G.full ch s b in let z : g.0 ≡ row = cc in Se.split_length sp ∙ ap length (sym z) ∙ g.2

      little : Small lim new
      little = let g = G.full ch s b in let z : g.0 ≡ row = cc in small_split sp (subst (Small lim) z g.3)

      reads : dec ch s (St.redone E σ ch s new) ≡ done new
      reads = Gs.redo_found E code U ch s (St.view E σ.staging σ.table (key ch s)) row new (omega (arith, b, G.counted ch)) a (omega (arith, size)) little

      who : (d : Series) (t : ℕ) → t < σ.counts d → Dec (key ch s ≡ key d t) → (FullRow lim r (St.store_row E σ d t) × (key ch s ≢ key d t)) ⊎ ((ch ≡ d) × (s ≡ t) × (key ch s ≡ key d t))
      who d t l (yes k) = let a = apart ch d s t (G.used ch s b) (G.used d t l) k in inr (a.0, a.1, k)
      who d t l (no n) = inl (G.full d t l, n)

      p : Se.Parts (St.store_row E σ ch) (σ.counts ch) s
      p = Se.flat_parts (St.store_row E σ ch) (σ.counts ch) s b

      other : (t : ℕ) → t < σ.counts ch → t ≢ s → St.store_row E τ ch t ≡ St.store_row E σ ch t
      other t l n = ap (St.decoded E ch t) (Gs.view_put_other E code U σ.staging σ.table (key ch s) (key ch t) (St.redone E σ ch s new) (λ k. n (sym (apart ch ch s t (G.used ch s b) (G.used ch t l) k).1)))

      there : flat (St.store_row E τ ch) (σ.counts ch) ≡ flat (St.store_row E σ ch) s ++ (new ++ p.rest)
      there = p.alike (St.store_row E τ ch) (λ t x y. other t y (λ z. omega arith))
          ∙ (λ i. Se.flat_cong (St.store_row E τ ch) (St.store_row E σ ch) s (λ t x. other t (omega arith) (λ z. omega arith)) i ++ (row_or (Gs.read_put_any E code U σ.staging σ.table ch s (key ch s) (St.redone E σ ch s new) new reads i) ++ p.rest))

  flip_staged : (σ : St.Store E) (ch : Series) (e : ℤ) (h : Hit) (τ : St.Store E) (X : Res (St.Table E)) → Good σ → (n : ℕ) → n ≤ σ.counts ch → Se.Stopped r (St.read_row E σ ch) e n h → St.stage E σ (key ch h.at) (St.redone E σ ch h.at h.new) ≡ X
      → then_do X (λ t. done (St.with_staging E σ t)) ≡ done τ → Flipped σ ch e τ
  flip_staged σ ch e h τ (refused k) G n b w a c = absurd (done≢refused (sym c))
  flip_staged σ ch e h τ (done t) G n b w a c =
      let q : St.with_staging E σ t ≡ τ = cc in
      subst (Flipped σ ch e) (ap (St.with_staging E σ) (sym (Gs.stage_done E code σ (key ch h.at) (St.redone E σ ch h.at h.new) t a)) ∙ q)
      (flip_row σ ch e h.at w.row h.new G (omega (arith, w.below)) (read_found (St.store_row E σ ch h.at) w.row w.read) w.hit (Gs.stage_size E code σ (key ch h.at) (St.redone E σ ch h.at h.new) t G.cap_staged a))

  flip_walked : (σ : St.Store E) (ch : Series) (e : ℤ) (lo : ℕ) (τ : St.Store E) (X : Res Hit) → Good σ → lo ≤ σ.counts ch → walk r (St.read_row E σ ch) e lo (seen_in (nat_abs e) (σ.heads ch)) ≡ X
      → then_do X (λ h. then_do (St.stage E σ (key ch h.at) (St.redone E σ ch h.at h.new)) (λ t. done (St.with_staging E σ t))) ≡ done τ → Flipped σ ch e τ
  flip_walked σ ch e lo τ (refused k) G b a c = absurd (done≢refused (sym c))
  flip_walked σ ch e lo τ (done h) G b a c =
      flip_staged σ ch e h τ (St.stage E σ (key ch h.at) (St.redone E σ ch h.at h.new)) G lo b (Se.walk_stopped r (St.read_row E σ ch) e lo (seen_in (nat_abs e) (σ.heads ch)) h a) refl c

  flip_halved : (σ : St.Store E) (ch : Series) (e : ℤ) (τ : St.Store E) (X : Res ℕ) → Good σ → halve (St.read_row E σ ch) (nat_abs e) (σ.counts ch) 0 (σ.counts ch) ≡ X
      → then_do X (λ lo. then_do (walk r (St.read_row E σ ch) e lo (seen_in (nat_abs e) (σ.heads ch))) (λ h. then_do (St.stage E σ (key ch h.at) (St.redone E σ ch h.at h.new)) (λ t. done (St.with_staging E σ t)))) ≡ done τ → Flipped σ ch e τ
  flip_halved σ ch e τ (refused k) G a c = absurd (done≢refused (sym c))
  flip_halved σ ch e τ (done lo) G a c =
      flip_walked σ ch e lo τ (walk r (St.read_row E σ ch) e lo (seen_in (nat_abs e) (σ.heads ch))) G (Se.halve_le (St.read_row E σ ch) (nat_abs e) (σ.counts ch) 0 (σ.counts ch) lo (omega arith) a) refl c

  flip_head : (σ : St.Store E) (ch : Series) (e : ℤ) (τ : St.Store E) (F : Found (List ℤ)) → Good σ → flip_first e (σ.heads ch) ≡ F → St.head_flipped E σ ch e F ≡ done τ → Flipped σ ch e τ
  flip_head σ ch e τ missing G a c = flip_halved σ ch e τ (halve (St.read_row E σ ch) (nat_abs e) (σ.counts ch) 0 (σ.counts ch)) G refl c
  flip_head σ ch e τ (found l) G a c =
      let q : St.with_head E σ ch l ≡ τ = cc in let sp = Se.first_split e (σ.heads ch) l a in
      subst (Flipped σ ch e) q (record {
        good = Gs.head_good E code U σ ch l G (omega (arith, Se.split_length sp, G.fits ch)) (small_split sp (G.small ch));
        tidy = λ t. t;
        split = subst (Split e (St.entries E σ ch)) (sym (Gs.head_entries E code U σ ch l)) (Se.split_right (flat (St.store_row E σ ch) (σ.counts ch)) sp);
        beside = Gs.head_beside E code U σ ch l;
      })

  when_flip : (σ : St.Store E) (ch : Series) (e : ℤ) (τ : St.Store E) (b : Bool) → Good σ → when_b b (St.head_flipped E σ ch e (flip_first e (σ.heads ch))) (refused 10) ≡ done τ → Flipped σ ch e τ
  when_flip σ ch e τ true G c = flip_head σ ch e τ (flip_first e (σ.heads ch)) G refl c
  when_flip σ ch e τ false G c = absurd (done≢refused (sym c))

  pub flip_ok : (σ : St.Store E) (ch : Series) (e : ℤ) (τ : St.Store E) → Good σ → St.flip_store E σ ch e ≡ done τ → Flipped σ ch e τ
  flip_ok σ ch e τ G c = when_flip σ ch e τ (ordered 0 (σ.heads ch)) G c

  -- what a flip refuses, in a sorted history that holds the copy
  read_ok : (F : Res (List ℤ)) → FullRow lim r F → Sorted (row_or F) → St.checked_store_row E F ≡ done (row_or F)
  read_ok (refused j) g S = absurd (done≢refused (sym g.1))
  read_ok (done l) g S =
      let z : l ≡ g.0 = cc g.1 in
      ite_yes (ℕ_discrete (length l) (suc r)) (when_b (ordered 0 l) (done l) (refused 13)) (refused 13) (ap length z ∙ g.2)
      ∙ ap (λ b. when_b b (done l) (refused 13)) (Se.sorted_ordered l 0 S (λ m t. omega arith))

  module _ (σ : St.Store E) (ch : Series) (e : ℤ) (G : Good σ) (S : Sorted (St.entries E σ ch)) where
    pub rows_sorted : Sorted (flat (St.store_row E σ ch) (σ.counts ch))
    rows_sorted = Se.sorted_left (flat (St.store_row E σ ch) (σ.counts ch)) (σ.heads ch) S

    abbrev pub row : ℕ → List ℤ
    row s = row_or (St.store_row E σ ch s)

    pub row_size : (s : ℕ) → s < σ.counts ch → length (row s) ≡ suc r
    row_size s h = full_length lim r (St.store_row E σ ch s) (G.full ch s h)

    pub reads : (s : ℕ) → s < σ.counts ch → St.read_row E σ ch s ≡ done (row s)
    reads s h = read_ok (St.store_row E σ ch s) (G.full ch s h) (Se.sorted_row (St.store_row E σ ch) (σ.counts ch) s h rows_sorted)

    pub head_in : (s : ℕ) → s < σ.counts ch → Memᴰ (get_or (row s) 0 (pos 0)) (row s)
    head_in s h = Se.mem_at (row s) 0 (omega (arith, row_size s h))

    pub rises : (s t : ℕ) → s ≤ t → t < σ.counts ch → first_abs (row s) ≤ first_abs (row t)
    rises s t a b = go (ℕ_discrete s t)
      where
        go : Dec (s ≡ t) → first_abs (row s) ≤ first_abs (row t)
        go (yes q) = let z : first_abs (row s) ≡ first_abs (row t) = ap (λ x. first_abs (row x)) q in omega arith
        go (no q) = Se.sorted_rows (St.store_row E σ ch) (σ.counts ch) s t (get_or (row s) 0 (pos 0)) (get_or (row t) 0 (pos 0)) (omega arith) b rows_sorted (head_in s (omega arith)) (head_in t b)

    module _ (s : ℕ) (h : s < σ.counts ch) (there : Memᴰ e (row s)) where
      lasts : (t : ℕ) → s ≤ t → t < σ.counts ch → nat_abs e ≤ last_abs r (row t)
      lasts t a b = go (ℕ_discrete s t)
        where
          go : Dec (s ≡ t) → nat_abs e ≤ last_abs r (row t)
          go (yes q) = Se.last_above (row t) r e (Se.sorted_row (St.store_row E σ ch) (σ.counts ch) t b rows_sorted) (row_size t b) (subst (λ (x : ℕ). Memᴰ e (row x)) q there)
          go (no q) = Se.sorted_rows (St.store_row E σ ch) (σ.counts ch) s t e (get_or (row t) r (pos 0)) (omega arith) b rows_sorted there (Se.mem_at (row t) r (omega (arith, row_size t b)))

      firsts : (t : ℕ) → s < t → t < σ.counts ch → nat_abs e ≤ first_abs (row t)
      firsts t a b = Se.sorted_rows (St.store_row E σ ch) (σ.counts ch) s t e (get_or (row t) 0 (pos 0)) a b rows_sorted there (head_in t b)

      no_staged : (k : ℕ) (h : Hit) (X : Res (St.Table E)) → St.stage E σ (key ch h.at) (St.redone E σ ch h.at h.new) ≡ X → then_do X (λ t. done (St.with_staging E σ t)) ≡ refused k → (k ≡ 16) × St.StagingFull E σ
      no_staged k h (done t) a c = absurd (done≢refused c)
      no_staged k h (refused j) a c = let q : j ≡ k = cc in let z = Gs.stage_refused E code σ (key ch h.at) (St.redone E σ ch h.at h.new) j a in (sym q ∙ z.0, z.1)

      no_walked : (k lo : ℕ) (X : Res Hit) → s < lo → lo ≤ σ.counts ch → walk r (St.read_row E σ ch) e lo (seen_in (nat_abs e) (σ.heads ch)) ≡ X
          → then_do X (λ h. then_do (St.stage E σ (key ch h.at) (St.redone E σ ch h.at h.new)) (λ t. done (St.with_staging E σ t))) ≡ refused k → (k ≡ 16) × St.StagingFull E σ
      no_walked k lo (done h) b d a c = no_staged k h (St.stage E σ (key ch h.at) (St.redone E σ ch h.at h.new)) refl c
      no_walked k lo (refused j) b d a c = absurd (Se.walk_finds r (St.read_row E σ ch) e (σ.counts ch) row reads s there lasts firsts lo (seen_in (nat_abs e) (σ.heads ch)) j d b a)

      no_halved : (k : ℕ) → St.flip_rows E σ ch e ≡ refused k → (k ≡ 16) × St.StagingFull E σ
      no_halved k c =
          let a = Se.halve_spec (St.read_row E σ ch) (nat_abs e) (σ.counts ch) row reads rises (σ.counts ch) 0 (σ.counts ch) (omega arith) (omega arith) (omega arith) (λ t x y. absurd (omega arith)) in
          no_walked k a.0 (walk r (St.read_row E σ ch) e a.0 (seen_in (nat_abs e) (σ.heads ch))) (start a.0 a.2) a.2.within refl
          (subst (λ (X : Res ℕ). then_do X (λ lo. then_do (walk r (St.read_row E σ ch) e lo (seen_in (nat_abs e) (σ.heads ch))) (λ h. then_do (St.stage E σ (key ch h.at) (St.redone E σ ch h.at h.new)) (λ t. done (St.with_staging E σ t)))) ≡ refused k) a.1 c)
        where
          start : (x : ℕ) → Se.Halved (St.read_row E σ ch) (nat_abs e) (σ.counts ch) row reads rises x → s < x
          start x H = go (dec_lt s x)
            where
              go : Dec (s < x) → s < x
              go (yes q) = q
              go (no q) = absurd (omega (arith, q, H.above s (omega arith) h, Se.first_below (row s) e (Se.sorted_row (St.store_row E σ ch) (σ.counts ch) s h rows_sorted) there))

    no_head : (k : ℕ) (F : Found (List ℤ)) → flip_first e (σ.heads ch) ≡ F → Memᴰ e (St.entries E σ ch) → St.head_flipped E σ ch e F ≡ refused k → (k ≡ 16) × St.StagingFull E σ
    no_head k (found l) a t c = absurd (done≢refused c)
    no_head k missing a t c =
        ⊎_elim (λ u. let m = Se.flat_mem (St.store_row E σ ch) (σ.counts ch) e u in no_halved m.0 m.1 m.2 k c)
        (λ u. absurd (Se.first_missing e (σ.heads ch) a u)) (Memᴰ.append_cases (flat (St.store_row E σ ch) (σ.counts ch)) t)

    pub flip_no : (k : ℕ) → Memᴰ e (St.entries E σ ch) → St.flip_store E σ ch e ≡ refused k → (k ≡ 16) × St.StagingFull E σ
    flip_no k t c =
        no_head k (flip_first e (σ.heads ch)) refl t
        (subst (λ (b : Bool). when_b b (St.head_flipped E σ ch e (flip_first e (σ.heads ch))) (refused 10) ≡ refused k)
        (Se.sorted_ordered (σ.heads ch) 0 (Se.sorted_right (flat (St.store_row E σ ch) (σ.counts ch)) (σ.heads ch) S) (λ m u. omega arith)) c)

  -- small entries
  pub small_entries : (σ : St.Store E) (ch : Series) → Good σ → Small lim (St.entries E σ ch)
  small_entries σ ch G x t =
      ⊎_elim (λ u. let m = Se.flat_mem (St.store_row E σ ch) (σ.counts ch) x u in let g = G.full ch m.0 m.1 in
      g.3 x (subst (λ (f : Res (List ℤ)). Memᴰ x (row_or f)) g.1 m.2))
      (λ u. G.small ch x u) (Memᴰ.append_cases (flat (St.store_row E σ ch) (σ.counts ch)) t)

  pub guard_ok : (σ : St.Store E) (ch : Series) (e t : ℤ) (τ : St.Store E) → Good σ → ite (dec_le lim (nat_abs t)) (refused 9) (St.flip_store E σ ch e) ≡ done τ → Flipped σ ch e τ
  guard_ok σ ch e t τ G c = ite_cases (dec_le lim (nat_abs t)) (refused 9) (St.flip_store E σ ch e) (done τ) c (λ a b. absurd (done≢refused (sym b))) (λ a b. flip_ok σ ch e τ G b)

  pub guard_no : (σ : St.Store E) (ch : Series) (e t : ℤ) (k : ℕ) → Good σ → Sorted (St.entries E σ ch) → nat_abs e ≡ nat_abs t → Memᴰ e (St.entries E σ ch)
      → ite (dec_le lim (nat_abs t)) (refused 9) (St.flip_store E σ ch e) ≡ refused k → (k ≡ 16) × St.StagingFull E σ
  guard_no σ ch e t k G S q m c = ite_cases (dec_le lim (nat_abs t)) (refused 9) (St.flip_store E σ ch e) (refused k) c
      (λ a b. absurd (omega (arith, small_entries σ ch G e m))) (λ a b. flip_no σ ch e G S k m b)
