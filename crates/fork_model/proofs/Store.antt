-- The index over tables of rows of signed numbers: document 01's calls with the row size, the capacities and the keys as parameters.
use Rattle.ledger.specs.Run.{flat}
use mathlib.Core.Path.{◌≡◌, refl, sym, ◌∙◌, ap, subst}
use mathlib.Core.Logic.{◌⊎◌, inl, inr, ⊎_elim, ◌≢◌}
use mathlib.Core.HLevel.{Discrete}
use mathlib.Core.Bool.{Bool, true, false}
use mathlib.Core.List.{List, [], ◌∷◌, ◌++◌, map}
use Prim.Native.Nat.{ℕ, zero, suc, ◌+◌, ◌*◌, ◌-◌, ◌/◌, ◌≤◌, ◌<◌}
use native.Mathlib.Decide.{ℕ_discrete, dec_le, dec_lt}
use lib.IntN.{ℤ, pos, negsuc, neg_ℤ, nat_abs}
use lib.ListN.{length, get_or}
use Rattle.ledger.specs.Ledger.{int_dec, TokenId, Parent, parent_dec, Series, boxes, txs, series_dec, ite}
use Rattle.ledger.specs.Run.{Res, done, refused, Popped}
use Rattle.fork_model.proofs.Table.{Found, missing, found, or_else}
use Rattle.fork_model.proofs.Table as Tb

abbrev pub then_do : {A B : Type 0} → Res A → (A → Res B) → Res B
then_do (done a) f = f a
then_do (refused k) f = refused k

pub data Ends : Type 0 where
  nothing : Ends
  ends : List ℤ → ℤ → Ends

abbrev pub cons_end : ℤ → Ends → Ends
cons_end x nothing = ends [] x
cons_end x (ends f v) = ends (x ∷ f) v

-- a list's last number, and the others
unfoldable pub unsnoc : List ℤ → Ends
unsnoc [] = nothing
unsnoc (x ∷ l) = cons_end x (unsnoc l)

abbrev pub cons_found : ℤ → Found (List ℤ) → Found (List ℤ)
cons_found x missing = missing
cons_found x (found l) = found (x ∷ l)

-- the first copy of e negated
unfoldable pub flip_first : ℤ → List ℤ → Found (List ℤ)
flip_first e [] = missing
flip_first e (x ∷ l) = ite (int_dec x e) (found (neg_ℤ x ∷ l)) (cons_found x (flip_first e l))

unfoldable pub ordered : ℕ → List ℤ → Bool
ordered a [] = true
ordered a (x ∷ l) = ite (dec_le a (nat_abs x)) (ordered (nat_abs x) l) false

abbrev pub or_bool : Bool → Bool → Bool
or_bool true b = true
or_bool false b = b

unfoldable pub seen_in : ℕ → List ℤ → Bool
seen_in m [] = false
seen_in m (x ∷ l) = ite (ℕ_discrete (nat_abs x) m) true (seen_in m l)

abbrev pub when_b {ℓ} : {A : Type ℓ} → Bool → A → A → A
when_b true a b = a
when_b false a b = b

pub record Hit : Type 0 where
  pub at : ℕ
  pub new : List ℤ

abbrev pub on_hit : ℕ → Found (List ℤ) → Res Hit → Res Hit
on_hit s (found l) r = done (record { at = s; new = l })
on_hit s missing r = r

abbrev pub first_abs : List ℤ → ℕ
first_abs l = nat_abs (get_or l 0 (pos 0))

abbrev pub both : {A B : Type 0} → Dec A → Dec B → Dec (A × B)
both (yes a) (yes b) = yes (a, b)
both (yes a) (no b) = no (λ h. b h.1)
both (no a) b = no (λ h. a h.0)

abbrev pub not_dec : {A : Type 0} → Dec A → Dec (A → ⊥)
not_dec (yes a) = no (λ h. h a)
not_dec (no a) = yes a

abbrev pub IsMissing : {A : Type 0} → Found A → Type 0
IsMissing missing = Unit {0}
IsMissing (found l) = ⊥

abbrev pub missing_dec : {A : Type 0} (f : Found A) → Dec (IsMissing f)
missing_dec missing = yes tt
missing_dec (found l) = no (λ h. h)

abbrev pub half_way : ℕ → ℕ → ℕ
half_way lo hi = lo + (hi - lo) / 2

-- the halving, over a reader of rows: the number of rows that start at or below m
unfoldable pub halve : (ℕ → Res (List ℤ)) → ℕ → ℕ → ℕ → ℕ → Res ℕ
halve rd m zero lo hi = done lo
halve rd m (suc f) lo hi =
    ite (dec_lt lo hi) (then_do (rd (half_way lo hi)) (λ l. ite (dec_le (first_abs l) m) (halve rd m f (suc (half_way lo hi)) hi) (halve rd m f lo (half_way lo hi)))) (done lo)

abbrev pub none_found : Bool → ℕ
none_found true = 14
none_found false = 15

module _ (r : ℕ) where
  abbrev pub last_abs : List ℤ → ℕ
  last_abs l = nat_abs (get_or l r (pos 0))

  unfoldable pub walk : (ℕ → Res (List ℤ)) → ℤ → ℕ → Bool → Res Hit
  walk rd e zero seen = refused (none_found seen)
  walk rd e (suc s) seen =
      then_do (rd s) (λ l. ite (dec_lt (last_abs l) (nat_abs e)) (refused (none_found seen))
      (on_hit s (flip_first e l) (ite (dec_lt (first_abs l) (nat_abs e)) (refused (none_found (or_bool (seen_in (nat_abs e) l) seen))) (walk rd e s (or_bool (seen_in (nat_abs e) l) seen)))))

-- what the index is over: keys, coded rows, sizes
pub record Env : Type 1 where
  pub r : ℕ
  pub lim : ℕ
  pub Key : Type 0
  pub key_dec : Discrete Key
  pub key : Series → ℕ → Key
  pub Row : Type 0
  -- a row may say which spill it is of: the series and the spill number
  pub enc : Series → ℕ → List ℤ → Row
  pub dec : Series → ℕ → Row → Res (List ℤ)
  -- a row that was read, with other numbers of its kind
  pub redo : Series → ℕ → Row → List ℤ → Row
  pub table_cap : ℕ
  pub staged_cap : ℕ
  pub deleted_cap : ℕ
  pub max_count : ℕ

module _ (E : Env) where
  open E use {r, lim, Key, key_dec, key, Row, enc, dec, redo, table_cap, staged_cap, deleted_cap, max_count}

  abbrev pub Table : Type 0
  Table = Tb.Table Row Key key_dec

  pub record Store : Type 0 where
    pub heads : Series → List ℤ
    pub counts : Series → ℕ
    pub staging : Table
    pub table : Table
    pub deletion : List Key

  abbrev pub set_c {ℓ} : {A : Type ℓ} → (Series → A) → Series → A → Series → A
  set_c f ch v d = ite (series_dec ch d) v (f d)

  abbrev pub view : Table → Table → Key → Found Row
  view a b k = or_else (Tb.lookup Row Key key_dec a k) (Tb.lookup Row Key key_dec b k)

  abbrev pub decoded : Series → ℕ → Found Row → Res (List ℤ)
  decoded ch s missing = refused 12
  decoded ch s (found b) = dec ch s b

  -- a row as inspection shows it, read
  abbrev pub store_row : Store → Series → ℕ → Res (List ℤ)
  store_row σ ch s = decoded ch s (view σ.staging σ.table (key ch s))

  abbrev pub entries : Store → Series → List ℤ
  entries σ ch = flat (store_row σ ch) (σ.counts ch) ++ σ.heads ch

  abbrev pub no_store : Store
  no_store = record { heads = λ ch. []; counts = λ ch. 0; staging = []; table = []; deletion = [] }

  abbrev pub StagingFull : Store → Type 0
  StagingFull σ = staged_cap ≤ length σ.staging

  abbrev pub DeletionFull : Store → Type 0
  DeletionFull σ = deleted_cap ≤ length σ.deletion

  abbrev pub stage : Store → Key → Row → Res Table
  stage σ k l = ite (both (dec_le staged_cap (length σ.staging)) (Tb.lacks_dec Row Key key_dec (Tb.lookup Row Key key_dec σ.staging k))) (refused 16) (done (Tb.put Row Key key_dec σ.staging k l))

  -- APPEND
  abbrev pub with_head : Store → Series → List ℤ → Store
  with_head σ ch l = record { heads = set_c σ.heads ch l; counts = σ.counts; staging = σ.staging; table = σ.table; deletion = σ.deletion }

  abbrev pub spilled : Store → Series → ℤ → Table → Store
  spilled σ ch n t = record { heads = set_c σ.heads ch (n ∷ []); counts = set_c σ.counts ch (suc (σ.counts ch)); staging = t; table = σ.table; deletion = σ.deletion }

  abbrev pub append_store : Store → Series → ℤ → Res Store
  append_store σ ch (negsuc k) = refused 17
  append_store σ ch (pos m) =
      ite (dec_le (length (σ.heads ch)) r) (done (with_head σ ch (σ.heads ch ++ (pos m ∷ []))))
      (ite (ℕ_discrete (σ.counts ch) max_count) (refused 18)
      (then_do (stage σ (key ch (σ.counts ch)) (enc ch (σ.counts ch) (σ.heads ch))) (λ t. done (spilled σ ch (pos m) t))))

  -- POP
  abbrev pub add_key : Key → List Key → List Key
  add_key k ks = ite (Tb.in_dec Row Key key_dec k ks) ks (ks ++ (k ∷ []))

  abbrev pub merged : Store → Series → ℕ → List ℤ → Store
  merged σ ch s l = record { heads = set_c σ.heads ch l; counts = set_c σ.counts ch s; staging = Tb.remove Row Key key_dec σ.staging (key ch s); table = σ.table; deletion = add_key (key ch s) σ.deletion }

  abbrev pub merged_out : Store → Series → ℕ → Ends → Res (Popped Store)
  merged_out σ ch s nothing = refused 20
  merged_out σ ch s (ends f v) =
      ite (both (dec_le deleted_cap (length σ.deletion)) (not_dec (Tb.in_dec Row Key key_dec (key ch s) σ.deletion))) (refused 21) (done (record { left = merged σ ch s f; value = v }))

  abbrev pub merge_out : Store → Series → ℕ → Res (List ℤ) → Res (Popped Store)
  merge_out σ ch s (refused k) = refused k
  merge_out σ ch s (done l) = merged_out σ ch s (unsnoc l)

  abbrev pub row_out : Store → Series → ℕ → Res (Popped Store)
  row_out σ ch zero = refused 19
  row_out σ ch (suc s) = merge_out σ ch s (store_row σ ch s)

  abbrev pub pop_out : Store → Series → Ends → Res (Popped Store)
  pop_out σ ch nothing = row_out σ ch (σ.counts ch)
  pop_out σ ch (ends f v) = done (record { left = with_head σ ch f; value = v })

  abbrev pub pop_store : Store → Series → Res (Popped Store)
  pop_store σ ch = pop_out σ ch (unsnoc (σ.heads ch))

  -- FLUSH
  abbrev pub flushed : Store → Store
  flushed σ = record { heads = σ.heads; counts = σ.counts; staging = []; table = Tb.remove_all Row Key key_dec σ.deletion (Tb.write_all Row Key key_dec σ.staging σ.deletion σ.table); deletion = [] }

  abbrev pub flush_store : Store → Res Store
  flush_store σ = ite (dec_lt table_cap (length σ.table + Tb.fresh Row Key key_dec σ.staging σ.deletion σ.table)) (refused 22) (done (flushed σ))

  -- SPEND AND UNSPEND: e is the copy that is looked for
  abbrev pub checked_store_row : Res (List ℤ) → Res (List ℤ)
  checked_store_row (refused k) = refused k
  checked_store_row (done l) = ite (ℕ_discrete (length l) (suc r)) (when_b (ordered 0 l) (done l) (refused 13)) (refused 13)

  abbrev pub read_row : Store → Series → ℕ → Res (List ℤ)
  read_row σ ch s = checked_store_row (store_row σ ch s)

  abbrev pub with_staging : Store → Table → Store
  with_staging σ t = record { heads = σ.heads; counts = σ.counts; staging = t; table = σ.table; deletion = σ.deletion }

  abbrev pub found_redone : Series → ℕ → Found Row → List ℤ → Row
  found_redone ch s missing new = enc ch s new
  found_redone ch s (found b) new = redo ch s b new

  -- the row as inspection shows it, with other numbers
  abbrev pub redone : Store → Series → ℕ → List ℤ → Row
  redone σ ch s new = found_redone ch s (view σ.staging σ.table (key ch s)) new

  abbrev pub flip_rows : Store → Series → ℤ → Res Store
  flip_rows σ ch e =
      then_do (halve (read_row σ ch) (nat_abs e) (σ.counts ch) 0 (σ.counts ch)) (λ lo.
      then_do (walk r (read_row σ ch) e lo (seen_in (nat_abs e) (σ.heads ch))) (λ h.
      then_do (stage σ (key ch h.at) (redone σ ch h.at h.new)) (λ t. done (with_staging σ t))))

  abbrev pub head_flipped : Store → Series → ℤ → Found (List ℤ) → Res Store
  head_flipped σ ch e (found l) = done (with_head σ ch l)
  head_flipped σ ch e missing = flip_rows σ ch e

  abbrev pub flip_store : Store → Series → ℤ → Res Store
  flip_store σ ch e = when_b (ordered 0 (σ.heads ch)) (head_flipped σ ch e (flip_first e (σ.heads ch))) (refused 10)

  abbrev pub spend_store : Store → Parent → ℤ → Res Store
  spend_store σ p t = ite (dec_le lim (nat_abs t)) (refused 9) (flip_store σ (boxes p) (pos (nat_abs t)))

  abbrev pub unspend_store : Store → Parent → ℤ → Res Store
  unspend_store σ p t = ite (dec_le lim (nat_abs t)) (refused 9) (flip_store σ (boxes p) (neg_ℤ (pos (nat_abs t))))
