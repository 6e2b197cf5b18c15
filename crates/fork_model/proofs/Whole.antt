-- The theorem for the store of tables and a balance that keeps its laws.
use Rattle.ledger.specs.Run.{flat}
use mathlib.Core.Path.{◌≡◌, refl, sym, ◌∙◌}
use mathlib.Core.List.Memᴰ
use Prim.Native.Nat.{ℕ, suc}
use native.Mathlib.Omega.{arith}
use lib.IntN.{ℤ, pos, neg_ℤ, nat_abs}
use lib.Signed.{◌≤ℤ◌}
use Rattle.fork_model.proofs.Paid.{Paid}
use Rattle.ledger.specs.Ledger.{TokenId, Parent, Series, boxes, Tokens, sum_of, Typed}
use Rattle.ledger.specs.Run.{done, refused, Made, Leaves, Machine}
use Rattle.ledger.specs.Run as Mc
use Rattle.fork_model.proofs.OperationLaws as Op
use Rattle.fork_model.proofs.History as Hi
use Rattle.fork_model.proofs.Store as St
use Rattle.fork_model.proofs.GoodStore as Gs
use Rattle.fork_model.proofs.AppendLaws as Al
use Rattle.fork_model.proofs.PopLaws as Pl
use Rattle.fork_model.proofs.FlushLaws as Fu
use Rattle.fork_model.proofs.FlipLaws as Fl
use Rattle.fork_model.proofs.Search as Se
use Rattle.fork_model.proofs.CodeLaws as Co
use Rattle.fork_model.proofs.Results.{result_of, keeping, result_keeping, keeping_leaves}

-- the operations on balances
pub record Balances : Type 1 where
  pub Bal : Type 0
  pub no_balance : Parent → Bal
  pub add : Bal → ℤ → Tokens → Made Bal Bal
  pub sub : Bal → ℤ → Tokens → Made Bal Bal
  pub nano_of : Bal → ℤ
  pub amount_of : Bal → TokenId → ℤ

module _ (E : St.Env) (B : Balances) where
  abbrev pub machine : Machine
  machine = record {
    Store = St.Store E;
    empty = St.no_store E;
    append_store = λ σ ch n. keeping σ (St.append_store E σ ch n);
    pop_store = λ σ ch. keeping σ (St.pop_store E σ ch);
    spend_store = λ σ p t. keeping σ (St.spend_store E σ p t);
    unspend_store = λ σ p t. keeping σ (St.unspend_store E σ p t);
    flush_store = λ σ. keeping σ (St.flush_store E σ);
    entries = St.entries E;
    StagingFull = St.StagingFull E;
    DeletionFull = St.DeletionFull E;
    Bal = B.Bal;
    no_balance = B.no_balance;
    add = B.add;
    sub = B.sub;
    nano_of = B.nano_of;
    amount_of = B.amount_of;
    row_size = suc E.r;
    limit = E.lim;
    Key = E.Key;
    key = E.key;
  }

  pub record BalanceLaws (GoodB : B.Bal → Type 0) : Type 0 where
    pub credits : (b : B.Bal) (n : ℤ) (ts : Tokens) → Leaves b (B.add b n ts)
    pub debits : (b : B.Bal) (n : ℤ) (ts : Tokens) → Leaves b (B.sub b n ts)
    pub add_25 : (b : B.Bal) (n : ℤ) (ts : Tokens) → GoodB b → Typed ts → result_of (B.add b n ts) ≡ refused 25 → ⊥
    pub sub_25 : (b : B.Bal) (n : ℤ) (ts : Tokens) → GoodB b → Typed ts → result_of (B.sub b n ts) ≡ refused 25 → ⊥
    pub no_good : (p : Parent) → GoodB (B.no_balance p)
    pub no_nano : (p : Parent) → B.nano_of (B.no_balance p) ≡ pos 0
    pub no_amount : (p : Parent) (t : TokenId) → B.amount_of (B.no_balance p) t ≡ pos 0
    pub add_ok : (b : B.Bal) (n : ℤ) (ts : Tokens) (b' : B.Bal) → GoodB b → Paid n ts → result_of (B.add b n ts) ≡ done b' → GoodB b' × Op.Grew machine b n ts b'
    pub sub_ok : (b : B.Bal) (n : ℤ) (ts : Tokens) (b' : B.Bal) → GoodB b → Paid n ts → n ≤ℤ B.nano_of b → ((t : TokenId) → sum_of t ts ≤ℤ B.amount_of b t)
        → result_of (B.sub b n ts) ≡ done b' → GoodB b' × Op.Shrank machine b n ts b'
    pub add_back : (b₀ : B.Bal) (n : ℤ) (ts : Tokens) (b : B.Bal) → GoodB b₀ → GoodB b → Paid n ts → Op.Shrank machine b₀ n ts b → (b' : B.Bal) × (result_of (B.add b n ts) ≡ done b') × GoodB b' × Op.Alike machine b₀ b'
    pub sub_back : (b₀ : B.Bal) (n : ℤ) (ts : Tokens) (b : B.Bal) → GoodB b₀ → GoodB b → Paid n ts → Op.Grew machine b₀ n ts b → (b' : B.Bal) × (result_of (B.sub b n ts) ≡ done b') × GoodB b' × Op.Alike machine b₀ b'

  module _ (code : Gs.Coded E) (GoodB : B.Bal → Type 0) (BL : BalanceLaws GoodB) where
    pub store_laws : (U : Series → ℕ → Type 0) → Mc.KeysApart machine U → Op.Laws machine U (Gs.Good E code U) (Gs.Tidy E code U) GoodB
    unfolding flat
    store_laws U apart = record {
      leaves = record {
        appends = λ σ ch n. keeping_leaves σ (St.append_store E σ ch n);
        pops = λ σ ch. keeping_leaves σ (St.pop_store E σ ch);
        spends = λ σ p t. keeping_leaves σ (St.spend_store E σ p t);
        unspends = λ σ p t. keeping_leaves σ (St.unspend_store E σ p t);
        flushes = λ σ. keeping_leaves σ (St.flush_store E σ);
        credits = BL.credits;
        debits = BL.debits;
      };
      empty_good = record { full = λ ch s h. absurd (omega arith); used = λ ch s h. absurd (omega arith); kept = λ ch s h i. i; counted = λ ch. omega arith; fits = λ ch. omega arith; small = λ ch x t. absurd (Memᴰ.not-nil t); one_staged = tt; one_table = tt; cap_staged = omega arith; cap_table = omega arith; cap_deleted = omega arith };
      empty_tidy = refl;
      empty_entries = λ ch. refl;
      append_ok = λ σ ch n τ G t v e u. Al.append_ok E code U apart σ ch n τ G t v (sym (result_keeping σ (St.append_store E σ ch n)) ∙ e) u;
      pop_ok = λ σ ch r G e. Pl.pop_ok E code U apart σ ch r G (sym (result_keeping σ (St.pop_store E σ ch)) ∙ e);
      pop_no = λ σ ch k G n e. Pl.pop_no E code U apart σ ch k G n (sym (result_keeping σ (St.pop_store E σ ch)) ∙ e);
      spend_ok = λ σ p t τ G S e. let a = Fl.guard_ok E code U apart σ (boxes p) (pos (nat_abs t)) t τ G (sym (result_keeping σ (St.spend_store E σ p t)) ∙ e) in
          record { good = a.good; tidy = a.tidy; flip = Se.flip_of_split (nat_abs t) a.split; beside = a.beside };
      unspend_ok = λ σ p t τ G S e. let a = Fl.guard_ok E code U apart σ (boxes p) (neg_ℤ (pos (nat_abs t))) t τ G (sym (result_keeping σ (St.unspend_store E σ p t)) ∙ e) in
          record { good = a.good; flip = Se.unflip_of_split (nat_abs t) a.split; beside = a.beside };
      unspend_no = λ σ p t k G S m e. Fl.guard_no E code U apart σ (boxes p) (neg_ℤ (pos (nat_abs t))) t k G (Se.sorted_unmap (St.entries E σ (boxes p)) S) (Gs.abs_neg (pos (nat_abs t))) m (sym (result_keeping σ (St.unspend_store E σ p t)) ∙ e);
      flush_ok = λ σ τ G e. Fu.flush_ok E code U apart σ τ G (sym (result_keeping σ (St.flush_store E σ)) ∙ e);
      append_25 = λ σ ch n G e. Co.never (St.append_store E σ ch n) (Co.append_not E code U σ G ch n) (sym (result_keeping σ (St.append_store E σ ch n)) ∙ e);
      spend_25 = λ σ p t G S e. Co.never (St.spend_store E σ p t) (Co.spend_not E code U σ G p t) (sym (result_keeping σ (St.spend_store E σ p t)) ∙ e);
      flush_25 = λ σ G e. Co.never (St.flush_store E σ) (Co.flush_not E code U σ G) (sym (result_keeping σ (St.flush_store E σ)) ∙ e);
      add_25 = BL.add_25;
      sub_25 = BL.sub_25;
      no_good = BL.no_good;
      no_nano = BL.no_nano;
      no_amount = BL.no_amount;
      add_ok = BL.add_ok;
      sub_ok = BL.sub_ok;
      add_back = BL.add_back;
      sub_back = BL.sub_back;
    }

    pub fork_undo : Mc.ForkUndo machine
    fork_undo = Hi.fork_undo machine (Gs.Tidy E code (λ ch s. ⊥)) (Gs.Good E code) GoodB store_laws
