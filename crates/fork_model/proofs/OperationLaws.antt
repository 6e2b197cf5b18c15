-- What each operation of a machine must do to the entries and to the balances: the laws from which the theorem follows.
use mathlib.Core.Path.{◌≡◌}
use mathlib.Core.Logic.{◌≢◌}
use mathlib.Core.List.{List, [], ◌∷◌, ◌++◌, map, Memᴰ}
use Prim.Native.Nat.{ℕ, suc, ◌*◌, ◌<◌}
use lib.IntN.{ℤ, pos, neg_ℤ, nat_abs}
use lib.Signed.{◌≤ℤ◌, mag}
use lib.ListN.{length}
use Rattle.fork_model.proofs.Paid.{Paid}
use Rattle.ledger.specs.Ledger.{TokenId, Parent, Series, boxes, Tokens, absℤ, sum_of, Typed}
use Rattle.ledger.specs.Run.{done, refused, Popped, Machine, RefusalsLeave}
use Rattle.fork_model.proofs.Results.{result_of}
use Rattle.fork_model.proofs.Paid as Pd
use Rattle.fork_model.proofs.EntryLaws.{Flip, Sorted}

module _ (M : Machine) where
  open M use {Store, entries, Bal, nano_of, amount_of}

  -- the numbers of a parent's boxes do not fall, as the history rules have it
  abbrev pub InOrder : Store → Parent → Type 0
  InOrder σ p = Sorted (map absℤ (entries σ (boxes p)))

  -- one number more: every row that it may make is in U
  abbrev pub Covers : (Series → ℕ → Type 0) → Store → Series → Type 0
  Covers U σ ch = (s : ℕ) → M.row_size * suc s < suc (length (entries σ ch)) → U ch s

  -- the balances of a machine
  abbrev pub Grew : Bal → ℤ → Tokens → Bal → Type 0
  Grew b n ts b' = Pd.Grew Bal nano_of amount_of b n ts b'

  abbrev pub Shrank : Bal → ℤ → Tokens → Bal → Type 0
  Shrank b n ts b' = Pd.Shrank Bal nano_of amount_of b n ts b'

  abbrev pub Alike : Bal → Bal → Type 0
  Alike b b' = Pd.Alike Bal nano_of amount_of b b'

module _ (Store : Type 0) (entries : Store → Series → List ℤ) where
  -- only the entries of ch may change from σ to τ
  abbrev pub Beside : Series → Store → Store → Type 0
  Beside ch σ τ = (d : Series) → ch ≢ d → entries τ d ≡ entries σ d

  module _ (Good Tidy : Store → Type 0) where
    pub record Appended (σ : Store) (ch : Series) (n : ℤ) (τ : Store) : Type 0 where
      pub good : Good τ
      pub tidy : Tidy τ
      pub nonneg : n ≡ absℤ n
      pub grown : entries τ ch ≡ entries σ ch ++ (n ∷ [])
      pub beside : Beside ch σ τ

    pub record PoppedOff (σ : Store) (ch : Series) (v : ℤ) (τ : Store) : Type 0 where
      pub good : Good τ
      pub last : entries σ ch ≡ entries τ ch ++ (v ∷ [])
      pub beside : Beside ch σ τ

    pub record Spent (σ : Store) (p : Parent) (t : ℤ) (τ : Store) : Type 0 where
      pub good : Good τ
      pub tidy : Tidy σ → Tidy τ
      pub flip : Flip (nat_abs t) (entries σ (boxes p)) (entries τ (boxes p))
      pub beside : Beside (boxes p) σ τ

    pub record Unspent (σ : Store) (p : Parent) (t : ℤ) (τ : Store) : Type 0 where
      pub good : Good τ
      pub flip : Flip (nat_abs t) (entries τ (boxes p)) (entries σ (boxes p))
      pub beside : Beside (boxes p) σ τ

    pub record Flushed (σ τ : Store) : Type 0 where
      pub good : Good τ
      pub tidy : Tidy τ
      pub same : (ch : Series) → entries τ ch ≡ entries σ ch

module _ (M : Machine) (U : Series → ℕ → Type 0) (Good Tidy : M.Store → Type 0) (GoodB : M.Bal → Type 0) where
  open M use {Store, empty, append_store, pop_store, spend_store, unspend_store, flush_store, entries, StagingFull, DeletionFull, Bal, no_balance, add, sub, nano_of, amount_of, row_size, limit, Key, key}

  pub record Laws : Type 0 where
    pub leaves : RefusalsLeave M
    pub empty_good : Good empty
    pub empty_tidy : Tidy empty
    pub empty_entries : (ch : Series) → entries empty ch ≡ []
    pub append_ok : (σ : Store) (ch : Series) (n : ℤ) (τ : Store) → Good σ → Tidy σ → mag n < limit → result_of (append_store σ ch n) ≡ done τ
        → Covers M U σ ch → Appended Store entries Good Tidy σ ch n τ
    pub pop_ok : (σ : Store) (ch : Series) (r : Popped Store) → Good σ → result_of (pop_store σ ch) ≡ done r → PoppedOff Store entries Good Tidy σ ch r.value r.left
    pub pop_no : (σ : Store) (ch : Series) (k : ℕ) → Good σ → entries σ ch ≢ [] → result_of (pop_store σ ch) ≡ refused k → (k ≡ 21) × DeletionFull σ
    pub spend_ok : (σ : Store) (p : Parent) (t : ℤ) (τ : Store) → Good σ → InOrder M σ p → result_of (spend_store σ p t) ≡ done τ → Spent Store entries Good Tidy σ p t τ
    pub unspend_ok : (σ : Store) (p : Parent) (t : ℤ) (τ : Store) → Good σ → InOrder M σ p → result_of (unspend_store σ p t) ≡ done τ → Unspent Store entries Good Tidy σ p t τ
    pub unspend_no : (σ : Store) (p : Parent) (t : ℤ) (k : ℕ) → Good σ → InOrder M σ p → Memᴰ (neg_ℤ (absℤ t)) (entries σ (boxes p))
        → result_of (unspend_store σ p t) ≡ refused k → (k ≡ 16) × StagingFull σ
    pub flush_ok : (σ τ : Store) → Good σ → result_of (flush_store σ) ≡ done τ → Flushed Store entries Good Tidy σ τ
    -- 25 does not arise
    pub append_25 : (σ : Store) (ch : Series) (n : ℤ) → Good σ → result_of (append_store σ ch n) ≡ refused 25 → ⊥
    pub spend_25 : (σ : Store) (p : Parent) (t : ℤ) → Good σ → InOrder M σ p → result_of (spend_store σ p t) ≡ refused 25 → ⊥
    pub flush_25 : (σ : Store) → Good σ → result_of (flush_store σ) ≡ refused 25 → ⊥
    pub add_25 : (b : Bal) (n : ℤ) (ts : Tokens) → GoodB b → Typed ts → result_of (add b n ts) ≡ refused 25 → ⊥
    pub sub_25 : (b : Bal) (n : ℤ) (ts : Tokens) → GoodB b → Typed ts → result_of (sub b n ts) ≡ refused 25 → ⊥
    pub no_good : (p : Parent) → GoodB (no_balance p)
    pub no_nano : (p : Parent) → nano_of (no_balance p) ≡ pos 0
    pub no_amount : (p : Parent) (t : TokenId) → amount_of (no_balance p) t ≡ pos 0
    pub add_ok : (b : Bal) (n : ℤ) (ts : Tokens) (b' : Bal) → GoodB b → Paid n ts → result_of (add b n ts) ≡ done b' → GoodB b' × Grew M b n ts b'
    pub sub_ok : (b : Bal) (n : ℤ) (ts : Tokens) (b' : Bal) → GoodB b → Paid n ts → n ≤ℤ nano_of b → ((t : TokenId) → sum_of t ts ≤ℤ amount_of b t)
        → result_of (sub b n ts) ≡ done b' → GoodB b' × Shrank M b n ts b'
    -- an undo gives back a balance that was there before
    pub add_back : (b₀ : Bal) (n : ℤ) (ts : Tokens) (b : Bal) → GoodB b₀ → GoodB b → Paid n ts → Shrank M b₀ n ts b → (b' : Bal) × (result_of (add b n ts) ≡ done b') × GoodB b' × Alike M b₀ b'
    pub sub_back : (b₀ : Bal) (n : ℤ) (ts : Tokens) (b : Bal) → GoodB b₀ → GoodB b → Paid n ts → Grew M b₀ n ts b → (b' : Bal) × (result_of (sub b n ts) ≡ done b') × GoodB b' × Alike M b₀ b'
