-- What the index in bytes stands for: heads, spill counts and tables; and what holds of it between calls.
use mathlib.Core.Path.{◌≡◌, refl, sym, ◌∙◌, ap, fun_ext}
use mathlib.Core.List.{List, [], ◌∷◌, ◌++◌, map, Memᴰ}
use mathlib.Core.Bool.{Bool, true, false, cond, ◌&&◌}
use Prim.Native.Nat.{ℕ, zero, suc, ◌+◌, ◌*◌, ◌-◌, ◌≤◌, ◌<◌}
use native.Mathlib.Omega.{arith}
use lib.Dec.{leb}
use lib.IntN.{ℤ, pos, nat_abs}
use lib.ListN.{length, take}
use borrow.Author.Tests.{leb-true, le-leb}
use Rattle.signed.specs.Sign.{is_negative}
use Rattle.index_types.specs.declared.ListCounts.{ListCounts}
use Rattle.records.specs.Records.{records, keys}
use Rattle.records.proofs.CheckLaws.{and_left, and_right, and_true}
use Rattle.segment_id.specs.declared.Kind.{Kind}
use Rattle.segment_id.specs.declared.Kind.TheVariants.{Box, Tx}
use Rattle.index_types.specs.declared.HeadCounts.{HeadCounts}
use Rattle.buffer_core.specs.Edition.{Edition, RowRead, bad, good}
use Rattle.buffer_core.specs.Spills.{head_ok}
use Rattle.buffer_core.specs.Pop.{lists_ok}
use Rattle.ledger.specs.Ledger.{Parent, Series, boxes, txs, parent_of, series_dec, ite, id_dec}
use Rattle.fork_model.proofs.Store as St
use Rattle.history.specs.Index.{Part, part, Index, kind_of, set_part, to_res, id_of}
use Rattle.history.proofs.Tables.{Bytes, Table, tab}

-- ---- a head that passes 25
pub record HeadFits (p : Part) : Type 0 where
  pub len_in : p.head.len ≤ 512
  pub places_in : 512 ≤ length p.places

pub head_fits : (p : Part) → head_ok p.head p.places ≡ true → HeadFits p
head_fits p h =
    let a = leb p.head.len 512 in
    let b = leb 512 (length p.places) in
    record { len_in = leb-true _ _ (and_left a b h); places_in = leb-true _ _ (and_right a b h) }

pub fit_head : (p : Part) → p.head.len ≤ 512 → 512 ≤ length p.places → head_ok p.head p.places ≡ true
fit_head p h k = and_true (leb p.head.len 512) (leb 512 (length p.places)) (le-leb _ _ h) (le-leb _ _ k)

-- ---- a part's numbers and rows
abbrev pub head_of : Part → List ℤ
head_of p = take p.head.len p.places

abbrev pub spills_of : Part → ℕ
spills_of p = nat_abs p.head.spills

-- ---- the tables
pub record Capacities : Type 0 where
  pub table : ℕ
  pub staged : ℕ
  pub deleted : ℕ

module _ (E : Edition) (ids : Parent → List ℕ) (caps : Capacities) where
  abbrev pub key_of_spill : Series → ℕ → List ℕ
  key_of_spill ch s = E.key (kind_of ch) (id_of E ids ch) (pos s)

  -- a row with other numbers of its kind
  abbrev pub redone : Series → ℕ → List ℕ → List ℤ → List ℕ
  redone (boxes p) s row l = E.with_boxes (ids p) (pos s) row l
  redone (txs p) s row l = E.encode Tx (ids p) (pos s) l

  abbrev pub env : St.Env
  env = record {
    r = 511;
    lim = 9223372036854775808;
    Key = Bytes;
    key_dec = id_dec;
    key = key_of_spill;
    Row = Bytes;
    enc = λ ch s l. E.encode (kind_of ch) (id_of E ids ch) (pos s) l;
    dec = λ ch s row. to_res (E.decode (kind_of ch) (id_of E ids ch) (pos s) row);
    redo = redone;
    table_cap = caps.table;
    staged_cap = caps.staged;
    deleted_cap = caps.deleted;
    max_count = 2147483647;
  }

  abbrev pub abs : Index → St.Store env
  abs b = record {
    heads = λ ch. head_of (b.parts ch);
    counts = λ ch. spills_of (b.parts ch);
    staging = tab (records E.size b.lists.staged_counts.count b.lists.staged);
    table = tab (records E.size b.lists.table_counts.count b.lists.table);
    deletion = keys 32 b.lists.deleted_counts.count b.lists.deleted;
  }

  -- between calls: 25 does not arise, and no spill count is negative or above the greatest
  pub record Inv (b : Index) : Type 0 where
    pub heads_in : (ch : Series) → head_ok (b.parts ch).head (b.parts ch).places ≡ true
    pub not_below : (ch : Series) → is_negative (b.parts ch).head.spills ≡ false
    pub spills_in : (ch : Series) → spills_of (b.parts ch) ≤ 2147483647
    pub lists_in : lists_ok E b.lists ≡ true
    pub table_at : b.lists.table_counts.capacity ≡ caps.table
    pub staged_at : b.lists.staged_counts.capacity ≡ caps.staged
    pub deleted_at : b.lists.deleted_counts.capacity ≡ caps.deleted

-- ---- a function of the part that is set
push_at : {A : Type 0} (f : Part → A) (g : Series → Part) (ch d : Series) (v : Part) (w : Dec (ch ≡ d)) → f (ite w v (g d)) ≡ ite w (f v) (f (g d))
unfolding ite
push_at f g ch d v (yes e) = refl
push_at f g ch d v (no n) = refl

push_set : {A : Type 0} (f : Part → A) (g : Series → Part) (ch : Series) (v : Part) → ◌≡◌ {A = Series → A} (λ d. f (set_part g ch v d)) (λ d. ite (series_dec ch d) (f v) (f (g d)))
push_set f g ch v = fun_ext (λ d. push_at f g ch d v (series_dec ch d))

pub push_to : {A : Type 0} (f : Part → A) (g : Series → Part) (ch : Series) (v : Part) (a : A) → f v ≡ a → ◌≡◌ {A = Series → A} (λ d. f (set_part g ch v d)) (λ d. ite (series_dec ch d) a (f (g d)))
push_to {A} f g ch v a e = push_set f g ch v ∙ ap {B = Series → A} (λ x d. ite (series_dec ch d) x (f (g d))) e

pub all_set : (Q : Part → Type 0) (g : Series → Part) (ch : Series) (v : Part) → Q v → ((d : Series) → Q (g d)) → (d : Series) → Q (set_part g ch v d)
unfolding ite
all_set Q g ch v q h d = by_dec (series_dec ch d)
  where
    by_dec : (w : Dec (ch ≡ d)) → Q (ite w v (g d))
    by_dec (yes e) = q
    by_dec (no n) = h d

-- a function that the new part does not change
same_at : {A : Type 0} (f : Part → A) (g : Series → Part) (ch d : Series) (v : Part) → f v ≡ f (g ch) → (w : Dec (ch ≡ d)) → f (ite w v (g d)) ≡ f (g d)
unfolding ite
same_at f g ch d v q (yes e) = q ∙ ap (λ (x : Series). f (g x)) e
same_at f g ch d v q (no n) = refl

pub same_set : {A : Type 0} (f : Part → A) (g : Series → Part) (ch : Series) (v : Part) → f v ≡ f (g ch) → ◌≡◌ {A = Series → A} (λ d. f (set_part g ch v d)) (λ d. f (g d))
same_set f g ch v q = fun_ext (λ d. same_at f g ch d v q (series_dec ch d))
