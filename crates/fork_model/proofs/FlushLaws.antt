-- What a flush does to the store of tables.
use mathlib.Core.Path.{◌≡◌, refl, sym, ◌∙◌, ap, subst}
use mathlib.Core.List.{List, [], ◌++◌}
use Prim.Native.Nat.{ℕ, ◌+◌, ◌<◌}
use native.Mathlib.Decide.{dec_lt}
use native.Mathlib.Omega.{arith}
use lib.IntN.{ℤ}
use lib.ListN.{length}
use Rattle.ledger.specs.Ledger.{Series}
use Rattle.ledger.specs.Run.{done, refused}
use Rattle.fork_model.proofs.Table as Tb
use Rattle.fork_model.proofs.OperationLaws as Op
use Rattle.fork_model.proofs.Store as St
use Rattle.fork_model.proofs.Search as Se
use Rattle.fork_model.proofs.Search.{done≢refused, ite_cases}
use Rattle.fork_model.proofs.GoodStore.{Coded}
use Rattle.fork_model.proofs.GoodStore as Gs

module _ (E : St.Env) (code : Coded E) (U : Series → ℕ → Type 0) (apart : (d e : Series) (s t : ℕ) → U d s → U e t → E.key d s ≡ E.key e t → (d ≡ e) × (s ≡ t)) where
  open E use {Key, key_dec, key, Row, table_cap}

  abbrev Good : St.Store E → Type 0
  Good σ = Gs.Good E code U σ

  abbrev pub Flushed : St.Store E → St.Store E → Type 0
  Flushed σ τ = Op.Flushed (St.Store E) (St.entries E) Good (Gs.Tidy E code U) σ τ

  view_flush : (σ : St.Store E) (k : Key) → Good σ → (Tb.In Row Key key_dec k σ.deletion → ⊥) → St.view E [] (St.flushed E σ).table k ≡ St.view E σ.staging σ.table k
  view_flush σ k G n =
      Tb.lookup_removeAll Row Key key_dec σ.deletion (Tb.write_all Row Key key_dec σ.staging σ.deletion σ.table) k (Tb.distinct_write Row Key key_dec σ.staging σ.deletion σ.table G.one_table) n
      ∙ Tb.lookup_write Row Key key_dec σ.staging σ.deletion σ.table k G.one_staged n

  flush_good : (σ : St.Store E) → Good σ → (table_cap < length σ.table + Tb.fresh Row Key key_dec σ.staging σ.deletion σ.table → ⊥) → Flushed σ (St.flushed E σ)
  flush_good σ G ok = record {
    good = record {
      full = λ d s h. let g = G.full d s h in (g.0, ap (St.decoded E d s) (view_flush σ (key d s) G (G.kept d s h)) ∙ g.1, g.2, g.3);
      used = G.used;
      kept = λ d s h i. i;
      counted = G.counted;
      fits = G.fits;
      small = G.small;
      one_staged = tt;
      one_table = Tb.distinct_removeAll Row Key key_dec σ.deletion (Tb.write_all Row Key key_dec σ.staging σ.deletion σ.table) (Tb.distinct_write Row Key key_dec σ.staging σ.deletion σ.table G.one_table);
      cap_staged = omega arith;
      cap_table = omega (arith, ok, Tb.length_removeAll Row Key key_dec σ.deletion (Tb.write_all Row Key key_dec σ.staging σ.deletion σ.table), Tb.length_write Row Key key_dec σ.staging σ.deletion σ.table G.one_staged);
      cap_deleted = omega arith;
    };
    tidy = refl;
    same = λ ch. ap (λ (x : List ℤ). x ++ σ.heads ch) (Se.flat_cong (St.store_row E (St.flushed E σ) ch) (St.store_row E σ ch) (σ.counts ch) (λ s h. ap (St.decoded E ch s) (view_flush σ (key ch s) G (G.kept ch s h))));
  }

  pub flush_ok : (σ τ : St.Store E) → Good σ → St.flush_store E σ ≡ done τ → Flushed σ τ
  flush_ok σ τ G e =
      ite_cases (dec_lt table_cap (length σ.table + Tb.fresh Row Key key_dec σ.staging σ.deletion σ.table)) (refused 22) (done (St.flushed E σ)) (done τ) e
      (λ a b. absurd (done≢refused (sym b))) (λ a b. let q : St.flushed E σ ≡ τ = cc in subst (Flushed σ) q (flush_good σ G a))

  -- "then deleted keys removed"
  pub flush_deletes : (σ τ : St.Store E) → Good σ → St.flush_store E σ ≡ done τ → (k : Key) → Tb.In Row Key key_dec k σ.deletion → Tb.Absent Row Key key_dec k τ.table
  flush_deletes σ τ G e k h =
      ite_cases (dec_lt table_cap (length σ.table + Tb.fresh Row Key key_dec σ.staging σ.deletion σ.table)) (refused 22) (done (St.flushed E σ)) (done τ) e
      (λ a b. absurd (done≢refused (sym b)))
      (λ a b. let q : St.flushed E σ ≡ τ = cc in
      subst (λ (x : St.Store E). Tb.Absent Row Key key_dec k x.table) q (Tb.deleted_gone Row Key key_dec σ.deletion (Tb.write_all Row Key key_dec σ.staging σ.deletion σ.table) k
      (Tb.distinct_write Row Key key_dec σ.staging σ.deletion σ.table G.one_table) h))
