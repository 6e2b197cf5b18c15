-- The answers of the index: of the store of tables first, then of the index in bytes.
use Rattle.ledger.proofs.TestLaws.{ite_yes, ite_no}
use mathlib.Core.Path.{◌≡◌, refl, sym, ◌∙◌, ap}
use mathlib.Core.Logic.{◌⊎◌, inl, inr, ⊎_elim}
use mathlib.Core.List.{List, Memᴰ}
use Prim.Native.Nat.{ℕ, ◌*◌, ◌<◌}
use native.Mathlib.Decide.{dec_le}
use native.Mathlib.Omega.{arith}
use lib.IntN.{ℤ, pos, nat_abs}
use lib.ListN.{length}
use Rattle.index_types.specs.Limits.{flat_limit}
use Rattle.buffer_core.specs.Edition.{Edition}
use Rattle.ledger.specs.Ledger.{Parent, Series, boxes}
use Rattle.ledger.specs.Run.{refused, Machine}
use Rattle.ledger.specs.Run as Mc
use Rattle.fork_model.proofs.Table.{Found, missing, found}
use Rattle.fork_model.proofs.EntryLaws.{Sorted, mem_mid}
use Rattle.fork_model.proofs.Store.{flip_first}
use Rattle.fork_model.proofs.Store as St
use Rattle.fork_model.proofs.Search as Se
use Rattle.fork_model.proofs.GoodStore as Gs
use Rattle.fork_model.proofs.AppendLaws as Al
use Rattle.fork_model.proofs.FlipLaws as Fp
use Rattle.fork_model.proofs.MissLaws as Ms
use Rattle.fork_model.proofs.OperationLaws as Op
use Rattle.fork_model.proofs.Results.{result_keeping}
use Rattle.fork_model.proofs.Whole as Wh
use Rattle.history.specs.Machine.{Borrowed}
use Rattle.history.specs.ForkUndo.{Places}
use Rattle.history.specs.EditionLaws.{EditionLaws}
use Rattle.history.proofs.Sim as Sm
use Rattle.history.proofs.IndexTheorem as Ix
use Rattle.history.proofs.ForkUndoLaw as Fk
use Rattle.flat_history.proofs.Answers.{NoCopy, Answers, refused_is, in_16, lower_answers}
use Rattle.flat_history.proofs.SameLaw.{Lawful}

module _ (E : Edition) (ids : Parent → List ℕ) (L : EditionLaws E ids) (B : Borrowed E) (s : Parent → Places) (p : Parent) (U : Series → ℕ → Type 0) where
  abbrev Q : Wh.Balances
  Q = Fk.Q E ids L B s

  abbrev pub W : St.Env
  W = Ix.W E ids L B s Q

  abbrev code : Gs.Coded W
  code = Ix.code E ids L B s Q

  -- the store of tables, and the index
  abbrev M : Machine
  M = Ix.M E ids L B s Q

  abbrev pub N : Machine
  N = Ix.machine E ids L B s Q

  abbrev Good : St.Store W → Type 0
  Good = Gs.Good W code U

  abbrev pub Fine : N.Store → Type 0
  Fine = Sm.Fine M (Ix.N E ids L B s Q) (Ix.abs E ids L B s Q) (Ix.Inv E ids L B s Q) Good

  abbrev pub Tidy : N.Store → Type 0
  Tidy b = Gs.Tidy W code (λ ch k. ⊥) (Ix.abs E ids L B s Q b)

  -- rows of 512 numbers and a full spill count: more than 4,096 numbers
  many : (σ : St.Store W) → Good σ → σ.counts (boxes p) ≡ 2147483647 → flat_limit < length (St.entries W σ (boxes p))
  many σ G e = omega (arith, Gs.entries_length W code U σ (boxes p) G, ap (λ n. 512 * n) e)

  module _ (apart : Mc.KeysApart N U) where
    -- a target that can stand in a list: by whether an unspent copy of it does
    spend_by : (σ : St.Store W) (t : ℤ) (k : ℕ) → Good σ → Sorted (St.entries W σ (boxes p)) → nat_abs t < 9223372036854775808 → St.spend_store W σ p t ≡ refused k
        → (X : Found (List ℤ)) → flip_first (pos (nat_abs t)) (St.entries W σ (boxes p)) ≡ X → (k ≡ 16) ⊎ NoCopy (nat_abs t) (St.entries W σ (boxes p)) k
    spend_by σ t k G S h e (found new) a =
        let sp = Se.first_split (pos (nat_abs t)) (St.entries W σ (boxes p)) new a in
        let there : Memᴰ (pos (nat_abs t)) (St.entries W σ (boxes p)) = rw sp.was (mem_mid sp.front (pos (nat_abs t)) sp.back) in
        inl (Fp.guard_no W code U apart σ (boxes p) (pos (nat_abs t)) t k G S refl there e).0
    spend_by σ t k G S h e missing a =
        let none : Memᴰ (pos (nat_abs t)) (St.entries W σ (boxes p)) → ⊥ = Se.first_missing (pos (nat_abs t)) (St.entries W σ (boxes p)) a in
        inr (
          none,
          refused_is (sym e ∙ ite_no (dec_le 9223372036854775808 (nat_abs t)) (refused 9) (St.flip_store W σ (boxes p) (pos (nat_abs t))) (λ q. omega arith)
              ∙ Ms.flip_none W code U apart σ (boxes p) (pos (nat_abs t)) G S none),
        )

    store_answers : Answers M Good p
    store_answers = record {
      append_negative = λ σ k G. refl;
      append_no = λ σ m k G e.
          ⊎_elim (λ x. inl (in_16 x)) (λ x. inr (many σ G x)) (Al.append_no W code σ (boxes p) m k (sym (result_keeping σ (St.append_store W σ (boxes p) (pos m))) ∙ e));
      spend_large = λ σ t G o h.
          result_keeping σ (St.spend_store W σ p t) ∙ ite_yes (dec_le 9223372036854775808 (nat_abs t)) (refused 9) (St.flip_store W σ (boxes p) (pos (nat_abs t))) h;
      spend_no = λ σ t k G o h e.
          ⊎_elim (λ x. inl (in_16 x)) (λ x. inr x)
          (spend_by σ t k G (Se.sorted_unmap (St.entries W σ (boxes p)) o) h (sym (result_keeping σ (St.spend_store W σ p t)) ∙ e) (flip_first (pos (nat_abs t)) (St.entries W σ (boxes p))) refl);
    }

    pub index_answers : Answers N Fine p
    index_answers =
        lower_answers M (Ix.N E ids L B s Q) (Ix.abs E ids L B s Q) (Ix.Inv E ids L B s Q) Good U (Ix.sims E ids L B s Q U) p store_answers
        (λ b n I G. inl (Ix.append_does E ids L B s Q U b (boxes p) n I G))

    pub index_laws : Op.Laws N U Fine Tidy (Fk.GoodB E ids L B s)
    index_laws =
        Sm.lowered M (Ix.N E ids L B s Q) (Ix.abs E ids L B s Q) (Ix.Inv E ids L B s Q) (Gs.Tidy W code (λ ch k. ⊥)) (Gs.Good W code) (Fk.GoodB E ids L B s)
        (Wh.store_laws W Q code (Fk.GoodB E ids L B s) (Fk.balance_laws E ids L B s)) (λ T k. Ix.sims E ids L B s Q T) U apart

    abbrev pub index_lawful : Lawful p
    index_lawful = record { M = N; U = U; Good = Fine; Tidy = Tidy; GoodB = Fk.GoodB E ids L B s; laws = index_laws; answers = index_answers }
