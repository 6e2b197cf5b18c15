-- The tables' operations where nothing has spilled: only the head changes, and no list can be full.
use Rattle.ledger.proofs.TestLaws.{ite_yes, ite_no}
use mathlib.Core.Path.{◌≡◌, refl, ◌∙◌, ap}
use mathlib.Core.Logic.{◌≢◌}
use mathlib.Core.List.{List, [], ◌∷◌, ◌++◌, Memᴰ}
use Prim.Native.Nat.{ℕ, ◌+◌, ◌≤◌}
use native.Mathlib.Decide.{dec_le, dec_lt}
use native.Mathlib.Omega.{arith}
use lib.IntN.{ℤ, pos}
use lib.ListN.{length}
use Rattle.ledger.specs.Ledger.{Series}
use Rattle.ledger.specs.Run.{done, refused}
use Rattle.fork_model.proofs.Table.{Found, missing, found}
use Rattle.fork_model.proofs.Table as Tb
use Rattle.fork_model.proofs.Store.{flip_first, when_b, Ends, nothing, ends, unsnoc}
use Rattle.fork_model.proofs.Store as St
use Rattle.fork_model.proofs.Search as Se
use Rattle.fork_model.proofs.EntryLaws.{Sorted}

module _ (E : St.Env) where
  -- no row stands anywhere, no key is deleted
  pub record Bare (σ : St.Store E) : Type 0 where
    pub staging : σ.staging ≡ []
    pub table : σ.table ≡ []
    pub deletion : σ.deletion ≡ []

  pub bare_head : (σ : St.Store E) (ch : Series) (l : List ℤ) → Bare σ → Bare (St.with_head E σ ch l)
  bare_head σ ch l b = record { staging = b.staging; table = b.table; deletion = b.deletion }

  pub append_short : (σ : St.Store E) (ch : Series) (m : ℕ) → length (σ.heads ch) ≤ E.r → St.append_store E σ ch (pos m) ≡ done (St.with_head E σ ch (σ.heads ch ++ (pos m ∷ [])))
  append_short σ ch m h = ite_yes (dec_le (length (σ.heads ch)) E.r) (done (St.with_head E σ ch (σ.heads ch ++ (pos m ∷ [])))) _ h

  pop_by : (σ : St.Store E) (ch : Series) (X : Ends) → unsnoc (σ.heads ch) ≡ X → σ.heads ch ≢ [] → (l : List ℤ) × (v : ℤ) × (St.pop_out E σ ch X ≡ done (record { left = St.with_head E σ ch l; value = v }))
  pop_by σ ch nothing e n = absurd (n (Se.unsnoc_nothing (σ.heads ch) e))
  pop_by σ ch (ends f v) e n = (f, v, refl)

  pub pop_head : (σ : St.Store E) (ch : Series) → σ.heads ch ≢ [] → (l : List ℤ) × (v : ℤ) × (St.pop_store E σ ch ≡ done (record { left = St.with_head E σ ch l; value = v }))
  pop_head σ ch n = pop_by σ ch (unsnoc (σ.heads ch)) refl n

  flip_by : (σ : St.Store E) (ch : Series) (e : ℤ) (X : Found (List ℤ)) → flip_first e (σ.heads ch) ≡ X → Memᴰ e (σ.heads ch) → (l : List ℤ) × (St.head_flipped E σ ch e X ≡ done (St.with_head E σ ch l))
  flip_by σ ch e missing q m = absurd (Se.first_missing e (σ.heads ch) q m)
  flip_by σ ch e (found l) q m = (l, refl)

  pub flip_head : (σ : St.Store E) (ch : Series) (e : ℤ) → Sorted (σ.heads ch) → Memᴰ e (σ.heads ch) → (l : List ℤ) × (St.flip_store E σ ch e ≡ done (St.with_head E σ ch l))
  flip_head σ ch e so m =
      let x = flip_by σ ch e (flip_first e (σ.heads ch)) refl m in
      (x.0, ap (λ b. when_b b (St.head_flipped E σ ch e (flip_first e (σ.heads ch))) (refused 10)) (Se.sorted_ordered (σ.heads ch) 0 so (λ k t. omega arith)) ∙ x.1)

  nothing_new : (σ : St.Store E) → Bare σ → length σ.table + Tb.fresh E.Row E.Key E.key_dec σ.staging σ.deletion σ.table ≡ 0
  unfolding Tb.fresh
  nothing_new σ b = rw (b.staging, b.table) (omega arith)

  pub flush_bare : (σ : St.Store E) → Bare σ → St.flush_store E σ ≡ done (St.flushed E σ)
  flush_bare σ b =
      ite_no (dec_lt E.table_cap (length σ.table + Tb.fresh E.Row E.Key E.key_dec σ.staging σ.deletion σ.table)) (refused 22) (done (St.flushed E σ))
      (λ h. omega (arith, nothing_new σ b))

  pub bare_flush : (σ : St.Store E) → Bare σ → Bare (St.flushed E σ)
  bare_flush σ b = record {
    staging = refl;
    table = (λ i. Tb.remove_all E.Row E.Key E.key_dec (b.deletion i) (Tb.write_all E.Row E.Key E.key_dec (b.staging i) (b.deletion i) (b.table i)));
    deletion = refl;
  }
