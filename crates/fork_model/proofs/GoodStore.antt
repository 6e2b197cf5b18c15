-- What holds of the store of tables between calls: full rows under the keys in use, heads within a row, lists within their capacities.
use Rattle.ledger.proofs.TestLaws.{ite_yes, ite_no}
use Rattle.ledger.specs.Run.{flat, row_or}
use mathlib.Core.Path.{◌≡◌, refl, sym, ◌∙◌, ap}
use mathlib.Core.Logic.{◌⊎◌, ⊎_elim, ◌≢◌}
use mathlib.Core.List.Memᴰ
use mathlib.Core.List.{List, [], ◌∷◌, ◌++◌, Memᴰ}
use Prim.Native.Nat.{ℕ, zero, suc, ◌+◌, ◌*◌, ◌≤◌, ◌<◌}
use native.Mathlib.Decide.{dec_le}
use native.Mathlib.Omega.{arith}
use lib.IntN.{ℤ, pos, negsuc, neg_ℤ, nat_abs}
use lib.ListN.{length, length-append}
use Rattle.ledger.specs.Ledger.{Series, series_dec, ite}
use Rattle.ledger.specs.Run.{Res, done, refused}
use Rattle.fork_model.proofs.Table.{Found, missing, found, or_else}
use Rattle.fork_model.proofs.Table as Tb
use Rattle.fork_model.proofs.EntryLaws.{mem_mid}
use Rattle.fork_model.proofs.Store.{both}
use Rattle.fork_model.proofs.OperationLaws as Op
use Rattle.fork_model.proofs.Store as St
use Rattle.fork_model.proofs.Search as Se
use Rattle.fork_model.proofs.Search.{done≢refused, ite_cases, Split}

pub ite_both : {P : Type 0} {A : Type 0} (Q : A → Type 0) (w : Dec P) (a b : A) → Q a → Q b → Q (ite w a b)
unfolding ite
ite_both Q (yes e) a b x y = x
ite_both Q (no n) a b x y = y

-- numbers that can be coded
abbrev pub Small : ℕ → List ℤ → Type 0
Small lim l = (x : ℤ) → Memᴰ x l → nat_abs x < lim

pub small_snoc : (lim : ℕ) (l : List ℤ) (m : ℕ) → Small lim l → m < lim → Small lim (l ++ (pos m ∷ []))
small_snoc lim l m s h x t = ⊎_elim (λ u. s x u) (λ u. let e : nat_abs x ≡ m = ap nat_abs (Memᴰ.eq_of_singleton u) in omega arith) (Memᴰ.append_cases l t)

pub small_one : (lim m : ℕ) → m < lim → Small lim (pos m ∷ [])
small_one lim m h x t = let e : nat_abs x ≡ m = ap nat_abs (Memᴰ.eq_of_singleton t) in omega arith

pub abs_neg : (e : ℤ) → nat_abs (neg_ℤ e) ≡ nat_abs e
abs_neg (pos zero) = refl
abs_neg (pos (suc m)) = refl
abs_neg (negsuc m) = refl

pub small_split : {lim : ℕ} {e : ℤ} {l k : List ℤ} → Split e l k → Small lim l → Small lim k
small_split {lim} {e} {l} {k} p s x t =
    ⊎_elim (λ u. s x (rw p.was (Memᴰ.append_left (e ∷ p.back) u)))
    (λ u. ⊎_elim (λ q. let z : nat_abs x ≡ nat_abs e = ap nat_abs q ∙ abs_neg e in omega (arith, z, s e (rw p.was (mem_mid p.front e p.back))))
    (λ v. s x (rw p.was (Memᴰ.append_right p.front (Memᴰ.tail v)))) (Memᴰ.cases_cons u))
    (Memᴰ.append_cases p.front (rw p.is at t))

abbrev pub FullRow : ℕ → ℕ → Res (List ℤ) → Type 0
FullRow lim r f = (l : List ℤ) × (f ≡ done l) × (length l ≡ suc r) × Small lim l

pub full_length : (lim r : ℕ) (f : Res (List ℤ)) → FullRow lim r f → length (row_or f) ≡ suc r
full_length lim r f h = ap (λ x. length (row_or x)) h.1 ∙ h.2

-- what is asked of the coding
pub record Coded (E : St.Env) : Type 0 where
  pub plain : (ch : Series) (s : ℕ) (l : List ℤ) → s < E.max_count → length l ≤ suc E.r → Small E.lim l → E.dec ch s (E.enc ch s l) ≡ done l
  pub again : (ch : Series) (s : ℕ) (b : E.Row) (l new : List ℤ) → s < E.max_count → E.dec ch s b ≡ done l → length new ≤ suc E.r → Small E.lim new → E.dec ch s (E.redo ch s b new) ≡ done new

module _ (E : St.Env) (code : Coded E) where
  open E use {r, lim, Key, key_dec, key, Row, enc, dec, redo, table_cap, staged_cap, deleted_cap, max_count}

  abbrev pub Store : Type 0
  Store = St.Store E

  abbrev pub Table : Type 0
  Table = Tb.Table Row Key key_dec

  abbrev pub entries : Store → Series → List ℤ
  entries σ ch = St.entries E σ ch

  abbrev pub store_row : Store → Series → ℕ → Res (List ℤ)
  store_row σ ch s = St.store_row E σ ch s

  abbrev pub view : Table → Table → Key → Found Row
  view a b k = or_else (Tb.lookup Row Key key_dec a k) (Tb.lookup Row Key key_dec b k)

  abbrev put : Table → Key → Row → Table
  put t k l = Tb.put Row Key key_dec t k l

  abbrev pub In : Key → List Key → Type 0
  In k ks = Tb.In Row Key key_dec k ks

  abbrev pub Distinct : Table → Type 0
  Distinct t = Tb.Distinct Row Key key_dec t

  abbrev with_head : Store → Series → List ℤ → Store
  with_head σ ch l = St.with_head E σ ch l

  abbrev spilled : Store → Series → ℤ → Table → Store
  spilled σ ch n t = St.spilled E σ ch n t

  abbrev merged : Store → Series → ℕ → List ℤ → Store
  merged σ ch s l = St.merged E σ ch s l

  abbrev stage : Store → Key → Row → Res Table
  stage σ k l = St.stage E σ k l

  abbrev flushed : Store → Store
  flushed σ = St.flushed E σ

  abbrev pub StagingFull : Store → Type 0
  StagingFull σ = staged_cap ≤ length σ.staging

  abbrev pub DeletionFull : Store → Type 0
  DeletionFull σ = deleted_cap ≤ length σ.deletion

  -- staging
  pub stage_done : (σ : Store) (k : Key) (l : Row) (t : Table) → stage σ k l ≡ done t → t ≡ put σ.staging k l
  stage_done σ k l t h =
      ite_cases (both (dec_le staged_cap (length σ.staging)) (Tb.lacks_dec Row Key key_dec (Tb.lookup Row Key key_dec σ.staging k))) (refused 16) (done (put σ.staging k l)) (done t) h
      (λ a b. absurd (done≢refused (sym b))) (λ a b. let q : put σ.staging k l ≡ t = cc in sym q)

  pub stage_size : (σ : Store) (k : Key) (l : Row) (t : Table) → length σ.staging ≤ staged_cap → stage σ k l ≡ done t → length (put σ.staging k l) ≤ staged_cap
  stage_size σ k l t c h =
      ite_cases (both (dec_le staged_cap (length σ.staging)) (Tb.lacks_dec Row Key key_dec (Tb.lookup Row Key key_dec σ.staging k))) (refused 16) (done (put σ.staging k l)) (done t) h
      (λ a b. absurd (done≢refused (sym b)))
      (λ a b. size (dec_le staged_cap (length σ.staging)) a)
    where
      size : Dec (staged_cap ≤ length σ.staging) → ((staged_cap ≤ length σ.staging) × Tb.Lacks Row Key key_dec (Tb.lookup Row Key key_dec σ.staging k) → ⊥) → length (put σ.staging k l) ≤ staged_cap
      size (yes q) a = omega (arith, Tb.length_put_has Row Key key_dec σ.staging k l (λ z. a (q, z)))
      size (no q) a = omega (arith, q, Tb.length_put Row Key key_dec σ.staging k l)

  pub stage_refused : (σ : Store) (k : Key) (l : Row) (j : ℕ) → stage σ k l ≡ refused j → (j ≡ 16) × StagingFull σ
  stage_refused σ k l j h =
      ite_cases (both (dec_le staged_cap (length σ.staging)) (Tb.lacks_dec Row Key key_dec (Tb.lookup Row Key key_dec σ.staging k))) (refused 16) (done (put σ.staging k l)) (refused j) h
      (λ a b. let q : 16 ≡ j = cc in (sym q, a.0)) (λ a b. absurd (done≢refused b))

  module _ (U : Series → ℕ → Type 0) where
    pub record Good (σ : Store) : Type 0 where
      pub full : (ch : Series) (s : ℕ) → s < σ.counts ch → FullRow lim r (store_row σ ch s)
      pub used : (ch : Series) (s : ℕ) → s < σ.counts ch → U ch s
      pub kept : (ch : Series) (s : ℕ) → s < σ.counts ch → In (key ch s) σ.deletion → ⊥
      pub counted : (ch : Series) → σ.counts ch ≤ max_count
      pub fits : (ch : Series) → length (σ.heads ch) ≤ suc r
      pub small : (ch : Series) → Small lim (σ.heads ch)
      pub one_staged : Distinct σ.staging
      pub one_table : Distinct σ.table
      -- 25 never arises
      pub cap_staged : length σ.staging ≤ staged_cap
      pub cap_table : length σ.table ≤ table_cap
      pub cap_deleted : length σ.deletion ≤ deleted_cap

    abbrev pub Tidy : Store → Type 0
    Tidy σ = σ.deletion ≡ []

    abbrev pub Beside : Series → Store → Store → Type 0
    Beside ch σ τ = Op.Beside Store entries ch σ τ

    -- a new head
    pub head_good : (σ : Store) (ch : Series) (l : List ℤ) → Good σ → length l ≤ suc r → Small lim l → Good (with_head σ ch l)
    head_good σ ch l G h sm = record {
      full = G.full;
      used = G.used;
      kept = G.kept;
      counted = G.counted;
      fits = λ d. ite_both (λ (x : List ℤ). length x ≤ suc r) (series_dec ch d) l (σ.heads d) h (G.fits d);
      small = λ d. ite_both (Small lim) (series_dec ch d) l (σ.heads d) sm (G.small d);
      one_staged = G.one_staged;
      one_table = G.one_table;
      cap_staged = G.cap_staged;
      cap_table = G.cap_table;
      cap_deleted = G.cap_deleted;
    }

    pub head_entries : (σ : Store) (ch : Series) (l : List ℤ) → entries (with_head σ ch l) ch ≡ flat (store_row σ ch) (σ.counts ch) ++ l
    head_entries σ ch l = ap (λ (x : List ℤ). flat (store_row σ ch) (σ.counts ch) ++ x) (ite_yes (series_dec ch ch) l (σ.heads ch) refl)

    pub head_beside : (σ : Store) (ch : Series) (l : List ℤ) → Beside ch σ (with_head σ ch l)
    head_beside σ ch l d q = ap (λ (x : List ℤ). flat (store_row σ d) (σ.counts d) ++ x) (ite_no (series_dec ch d) l (σ.heads d) q)

    pub entries_length : (σ : Store) (ch : Series) → Good σ → length (entries σ ch) ≡ suc r * σ.counts ch + length (σ.heads ch)
    entries_length σ ch G = length-append (flat (store_row σ ch) (σ.counts ch)) (σ.heads ch)
        ∙ ap (λ x. x + length (σ.heads ch)) (Se.flat_length (store_row σ ch) (suc r) (σ.counts ch) (λ s h. full_length lim r (store_row σ ch s) (G.full ch s h)))

    -- a row put into staging
    view_put_same : (a b : Table) (k : Key) (l : Row) → view (put a k l) b k ≡ found l
    view_put_same a b k l = ap (λ x. or_else x (Tb.lookup Row Key key_dec b k)) (Tb.lookup_put_same Row Key key_dec a k l)

    pub view_put_other : (a b : Table) (k j : Key) (l : Row) → k ≢ j → view (put a k l) b j ≡ view a b j
    view_put_other a b k j l n = ap (λ x. or_else x (Tb.lookup Row Key key_dec b j)) (Tb.lookup_put_other Row Key key_dec a k j l n)

    abbrev decoded : Series → ℕ → Found Row → Res (List ℤ)
    decoded ch s f = St.decoded E ch s f

    pub read_put_same : (a b : Table) (ch : Series) (s : ℕ) (k : Key) (l : List ℤ) → s < max_count → length l ≤ suc r → Small lim l → decoded ch s (view (put a k (enc ch s l)) b k) ≡ done l
    read_put_same a b ch s k l u h sm = ap (decoded ch s) (view_put_same a b k (enc ch s l)) ∙ code.plain ch s l u h sm

    pub full_put : (a b : Table) (ch d : Series) (s t : ℕ) (k j : Key) (l : List ℤ) → s < max_count → length l ≡ suc r → Small lim l → (FullRow lim r (decoded d t (view a b j)) × (k ≢ j)) ⊎ ((ch ≡ d) × (s ≡ t) × (k ≡ j)) → FullRow lim r (decoded d t (view (put a k (enc ch s l)) b j))
    full_put a b ch d s t k j l u h sm f =
        ⊎_elim (λ g. (g.0.0, ap (decoded d t) (view_put_other a b k j (enc ch s l) g.1) ∙ g.0.1, g.0.2, g.0.3))
        (λ q. (l, (λ i. decoded (sym q.0 i) (sym q.1 i) (view (put a k (enc ch s l)) b (sym q.2 i))) ∙ read_put_same a b ch s k l u (omega arith) sm, h, sm)) f

    pub read_put_any : (a b : Table) (ch : Series) (s : ℕ) (k : Key) (y : Row) (l : List ℤ) → dec ch s y ≡ done l → decoded ch s (view (put a k y) b k) ≡ done l
    read_put_any a b ch s k y l e = ap (decoded ch s) (view_put_same a b k y) ∙ e

    pub full_put_any : (a b : Table) (ch d : Series) (s t : ℕ) (k j : Key) (y : Row) (l : List ℤ) → dec ch s y ≡ done l → length l ≡ suc r → Small lim l → (FullRow lim r (decoded d t (view a b j)) × (k ≢ j)) ⊎ ((ch ≡ d) × (s ≡ t) × (k ≡ j)) → FullRow lim r (decoded d t (view (put a k y) b j))
    full_put_any a b ch d s t k j y l e h sm f =
        ⊎_elim (λ g. (g.0.0, ap (decoded d t) (view_put_other a b k j y g.1) ∙ g.0.1, g.0.2, g.0.3))
        (λ q. (l, (λ i. decoded (sym q.0 i) (sym q.1 i) (view (put a k y) b (sym q.2 i))) ∙ read_put_any a b ch s k y l e, h, sm)) f

    abbrev redone : Store → Series → ℕ → List ℤ → Row
    redone σ ch s new = St.redone E σ ch s new

    pub redo_found : (ch : Series) (s : ℕ) (f : Found Row) (l new : List ℤ) → s < max_count → decoded ch s f ≡ done l → length new ≤ suc r → Small lim new → dec ch s (St.found_redone E ch s f new) ≡ done new
    redo_found ch s missing l new u e h sm = absurd (done≢refused (sym e))
    redo_found ch s (found b) l new u e h sm = code.again ch s b l new u e h sm
