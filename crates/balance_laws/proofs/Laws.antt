-- A balance in its 128 places does what the ledger's balance does, and so keeps the laws that the fork-undo theorem asks of balances.
use Rattle.ledger.specs.Ledger.{amount_in}
use Prim.Native.Nat.{ℕ, suc, ◌+◌, ◌*◌, ◌≤◌, ◌<◌}
use mathlib.Core.Path.{◌≡◌, refl, sym, ap, subst, ◌∙◌}
use mathlib.Core.Bool.{Bool, true, false, cond, ◌&&◌}
use mathlib.Core.List.{List, [], ◌∷◌, ◌++◌}
use native.Mathlib.Omega.{arith}
use native.Mathlib.Decide.{dec_lt}
use lib.IntN.{ℤ, pos, negsuc, ◌+ℤ◌, ◌-ℤ◌}
use lib.Signed.{mag, lt_z}
use lib.ListN.{length, length-append}
use lib.Dec.{ltb, leb}
use borrow.Author.Tests.{le-leb, le-ltb}
use Rattle.std.specs.Prelude.{Option, Some, None}
use Rattle.signed.specs.Checked.{checked}
use Rattle.balance.specs.declared.Balance.{Balance}
use Rattle.balance.specs.declared.Outcome.{Outcome}
use Rattle.balance.specs.Tokens.{Held, Changed, held, refused_by, change_token, change_tokens}
use Rattle.balance.specs.Boxes.{buffers_ok, stopped, nanos_after, held_by, settled, refused as refused_box, box_by, change_box}
use Rattle.ledger.specs.Ledger.{TokenId, Parent, Tokens, Typed}
use Rattle.ledger.specs.Run.{Res, done, refused, Leaves}
use Rattle.fork_model.proofs.Balances as Ba
use Rattle.fork_model.proofs.BalanceLaws as Bw
use Rattle.fork_model.proofs.CodeLaws as Co
use Rattle.fork_model.proofs.Results.{map_res, map_done, result_of}
use Rattle.fork_model.proofs.Search.{done≢refused}
use Rattle.fork_model.proofs.Store as St
use Rattle.fork_model.proofs.Store.{then_do}
use Rattle.fork_model.proofs.Whole as Wh
use Rattle.balance_laws.specs.Calls.{ids_of, amounts_of, outcome_of, credited, debited, tokens_from, tokens_in}
use Rattle.balance_laws.proofs.Turns.{limit, tokens_of, Fits, Does, ite_lt, add_does, subtract_does, run_does}

-- the ledger's view of a balance
abbrev pub bal : ℤ → Tokens → Ba.Bal
bal v l = record { nanos = v; toks = l }

abbrev pub bal_of : Balance → Ba.Bal
bal_of b = bal b.nanos (tokens_in b)

pub record DoesB (X : Res Balance) (Y : Res Ba.Bal) : Type 0 where
  pub same : map_res bal_of X ≡ Y
  pub keeps : (c : Balance) → X ≡ done c → Fits (held_by c)

settle : (b : Balance) (v : ℤ) (x : Changed) (Y : Res Tokens) → Does x Y → DoesB (result_of (outcome_of (settled b v x))) (then_do Y (λ l. done (bal v l)))
settle b v (held h) Y d = record {
  same = ap (λ (y : Res Tokens). then_do y (λ l. done (bal v l))) d.0;
  keeps = λ c e.
      let f : Fits h = d.1 in
      let z : record { ids = h.ids; amounts = h.amounts; count = h.count; nanos = v } ≡ c = cc in
      subst (λ (c : Balance). Fits (held_by c)) z (record { few = f.few; ids_in = f.ids_in; amounts_in = f.amounts_in });
}
settle b v (refused_by code) Y d = record { same = ap (λ (y : Res Tokens). then_do y (λ l. done (bal v l))) d; keeps = λ c e. absurd (done≢refused (sym e)) }

no_bal : (k : ℕ) → DoesB (refused k) (refused k)
no_bal k = record { same = refl; keeps = λ c e. absurd (done≢refused (sym e)) }

to_bal : {X : Res Balance} {Y Z : Res Ba.Bal} → DoesB X Y → Y ≡ Z → DoesB X Z
to_bal D z = record { same = D.same ∙ z; keeps = D.keeps }

length_ids : (ts : Tokens) → Typed ts → length (ids_of ts) ≡ length ts * 32
length_ids [] t = refl
length_ids (x ∷ ts) t = omega (arith, length-append x.0 (ids_of ts), length_ids ts t.2, t.0)

length_amounts : (ts : Tokens) → length (amounts_of ts) ≡ length ts
length_amounts [] = refl
length_amounts (x ∷ ts) = ap suc (length_amounts ts)

adds_none : (l : Tokens) → Ba.add_tokens limit 128 l [] ≡ done l
unfolding Ba.add_tokens
adds_none l = refl

adds_more : (l : Tokens) (x : TokenId × ℤ) (ts : Tokens) → Ba.add_tokens limit 128 l (x ∷ ts) ≡ then_do (Ba.token_added limit 128 l x.0 x.1) (λ k. Ba.add_tokens limit 128 k ts)
unfolding Ba.add_tokens
adds_more l x ts = refl

subs_none : (l : Tokens) → Ba.subtract_tokens limit 128 l [] ≡ done l
unfolding Ba.subtract_tokens
subs_none l = refl

subs_more : (l : Tokens) (x : TokenId × ℤ) (ts : Tokens) → Ba.subtract_tokens limit 128 l (x ∷ ts) ≡ then_do (Ba.token_taken limit 128 l x.0 x.1) (λ k. Ba.subtract_tokens limit 128 k ts)
unfolding Ba.subtract_tokens
subs_more l x ts = refl

module _ (b : Balance) (I : Fits (held_by b)) (n : ℤ) (ts : Tokens) (t : Typed ts) where
  passes : buffers_ok b.count (ids_of ts) (amounts_of ts) (length ts) ≡ true
  unfolding buffers_ok
  passes = rw (le-leb b.count 128 I.few, le-leb (length ts) (length (amounts_of ts)) (omega (arith, length_amounts ts)), le-leb (length ts * 32) (length (ids_of ts)) (omega (arith, length_ids ts t)))

  on : (adds : Bool) → change_box adds b n (ids_of ts) (amounts_of ts) (length ts) ≡ box_by adds b (ids_of ts) (amounts_of ts) (length ts) (nanos_after adds b.nanos n)
  unfolding change_box
  on adds = rw passes

  by_add : (x : ℤ) (u : Bool) → DoesB (result_of (outcome_of (box_by true b (ids_of ts) (amounts_of ts) (length ts) (cond u (Some x) None))))
      (cond u (then_do (Ba.add_tokens limit 128 (tokens_in b) ts) (λ l. done (bal x l))) (refused 23))
  by_add x true =
      settle b x (change_tokens true (ids_of ts) (amounts_of ts) 0 (length ts) (held_by b)) (Ba.add_tokens limit 128 (tokens_in b) ts)
      (run_does true (Ba.add_tokens limit 128) (Ba.token_added limit 128) adds_none adds_more (λ h k v J g f. add_does h J k g v f) ts [] [] 0 refl refl t (held_by b) I)
  by_add x false = no_bal 23

  pub add_same : DoesB (result_of (credited b n ts)) (Ba.add limit 128 (bal_of b) n ts)
  unfolding checked
  add_same =
      rw (on true)
      (to_bal (by_add (b.nanos +ℤ n) (ltb (mag (b.nanos +ℤ n)) limit))
      (sym (ite_lt (mag (b.nanos +ℤ n)) limit (dec_lt (mag (b.nanos +ℤ n)) limit) _ (refused 23))))

  stop_same : (v : ℤ) → cond (lt_z v (pos 0)) (pos 0) v ≡ Ba.stop0 v
  stop_same (pos m) = rw (le-ltb m 0 (omega arith))
  stop_same (negsuc m) = refl

  by_sub : (x : ℤ) (u : Bool) → DoesB (result_of (outcome_of (box_by false b (ids_of ts) (amounts_of ts) (length ts) (stopped (cond u (Some x) None)))))
      (cond u (then_do (Ba.subtract_tokens limit 128 (tokens_in b) ts) (λ l. done (bal (Ba.stop0 x) l))) (refused 23))
  by_sub x true =
      to_bal
      (settle b (cond (lt_z x (pos 0)) (pos 0) x) (change_tokens false (ids_of ts) (amounts_of ts) 0 (length ts) (held_by b)) (Ba.subtract_tokens limit 128 (tokens_in b) ts)
      (run_does false (Ba.subtract_tokens limit 128) (Ba.token_taken limit 128) subs_none subs_more (λ h k v J g f. subtract_does h J k g v) ts [] [] 0 refl refl t (held_by b) I))
      (ap (λ (z : ℤ). then_do (Ba.subtract_tokens limit 128 (tokens_in b) ts) (λ l. done (bal z l))) (stop_same x))
  by_sub x false = no_bal 23

  pub sub_same : DoesB (result_of (debited b n ts)) (Ba.sub limit 128 (bal_of b) n ts)
  unfolding checked
  sub_same =
      rw (on false)
      (to_bal (by_sub (b.nanos -ℤ n) (ltb (mag (b.nanos -ℤ n)) limit))
      (sym (ite_lt (mag (b.nanos -ℤ n)) limit (dec_lt (mag (b.nanos -ℤ n)) limit) _ (refused 23))))

-- ---- a refusal gives back the old balance
settled_leaves : (b : Balance) (v : ℤ) (x : Changed) → Leaves b (outcome_of (settled b v x))
settled_leaves b v (held h) = tt
settled_leaves b v (refused_by code) = refl

pub change_leaves : (adds : Bool) (b : Balance) (n : ℤ) (ids : List ℕ) (amounts : List ℤ) (m : ℕ) → Leaves b (outcome_of (change_box adds b n ids amounts m))
unfolding change_box
change_leaves adds b n ids amounts m = by_buffers (buffers_ok b.count ids amounts m)
  where
    by_nanos : (x : Option ℤ) → Leaves b (outcome_of (box_by adds b ids amounts m x))
    by_nanos (Some v) = settled_leaves b v (change_tokens adds ids amounts 0 m (held_by b))
    by_nanos None = refl

    by_buffers : (t : Bool) → Leaves b (outcome_of (cond t (box_by adds b ids amounts m (nanos_after adds b.nanos n)) (refused_box 25 b)))
    by_buffers true = by_nanos (nanos_after adds b.nanos n)
    by_buffers false = refl

-- ---- the laws

done_same : (X : Res Balance) (c : Balance) (Y : Res Ba.Bal) → map_res bal_of X ≡ Y → X ≡ done c → Y ≡ done (bal_of c)
done_same X c Y e f = sym e ∙ ap (map_res bal_of) f

module _ (ids : Parent → List ℕ) (amounts : Parent → List ℤ) (ids_in : (p : Parent) → length (ids p) ≡ 4096) (amounts_in : (p : Parent) → length (amounts p) ≡ 128) where
  -- an empty balance, whatever its places hold
  abbrev pub none : Parent → Balance
  none p = record { ids = ids p; amounts = amounts p; count = 0; nanos = pos 0 }

  abbrev pub balances : Wh.Balances
  balances = record { Bal = Balance; no_balance = none; add = credited; sub = debited; nano_of = λ b. b.nanos; amount_of = λ b t. amount_in (tokens_in b) t }

  abbrev G : Ba.Bal → Type 0
  G b = Bw.GoodB limit 128 b

  abbrev pub Good : Balance → Type 0
  Good b = Fits (held_by b) × G (bal_of b)

  pub laws : (E : St.Env) → Wh.BalanceLaws E balances Good
  laws E = record {
    credits = λ b n ts. change_leaves true b n (ids_of ts) (amounts_of ts) (length ts);
    debits = λ b n ts. change_leaves false b n (ids_of ts) (amounts_of ts) (length ts);
    add_25 = λ b n ts g v e. Co.never (Ba.add limit 128 (bal_of b) n ts) (Co.add_not limit 128 (bal_of b) n ts) (sym (add_same b g.0 n ts v).same ∙ ap (map_res bal_of) e);
    sub_25 = λ b n ts g v e. Co.never (Ba.sub limit 128 (bal_of b) n ts) (Co.sub_not limit 128 (bal_of b) n ts) (sym (sub_same b g.0 n ts v).same ∙ ap (map_res bal_of) e);
    no_good = λ p. (record { few = omega arith; ids_in = ids_in p; amounts_in = amounts_in p }, Bw.no_good limit 128 (omega arith));
    no_nano = λ p. refl;
    no_amount = λ p t. refl;
    add_ok = λ b n ts c g R e.
        let D = add_same b g.0 n ts R.typed in
        let a = Bw.add_ok limit 128 (bal_of b) n ts (bal_of c) g.1 R (done_same (result_of (credited b n ts)) c (Ba.add limit 128 (bal_of b) n ts) D.same e) in
        ((D.keeps c e, a.0), record { nanoErgs = a.1.nanoErgs; amounts = a.1.amounts });
    sub_ok = λ b n ts c g R h k e.
        let D = sub_same b g.0 n ts R.typed in
        let a = Bw.sub_ok limit 128 (bal_of b) n ts (bal_of c) g.1 R h k (done_same (result_of (debited b n ts)) c (Ba.sub limit 128 (bal_of b) n ts) D.same e) in
        ((D.keeps c e, a.0), record { nanoErgs = a.1.nanoErgs; amounts = a.1.amounts });
    add_back = λ x n ts b g h R s.
        let D = add_same b h.0 n ts R.typed in
        let a = Bw.add_back limit 128 (bal_of x) n ts (bal_of b) g.1 h.1 R (record { nanoErgs = s.nanoErgs; amounts = s.amounts }) in
        let m = map_done bal_of (result_of (credited b n ts)) a.0 (D.same ∙ a.1) in (
          m.0,
          m.1,
          (D.keeps m.0 m.1, subst G (sym m.2) a.2),
          record { nanoErgs = ap Ba.nano_of m.2 ∙ a.3.nanoErgs; amounts = λ t. ap (λ (y : Ba.Bal). Ba.amount_of y t) m.2 ∙ a.3.amounts t },
        );
    sub_back = λ x n ts b g h R s.
        let D = sub_same b h.0 n ts R.typed in
        let a = Bw.sub_back limit 128 (bal_of x) n ts (bal_of b) g.1 h.1 R (record { nanoErgs = s.nanoErgs; amounts = s.amounts }) in
        let m = map_done bal_of (result_of (debited b n ts)) a.0 (D.same ∙ a.1) in (
          m.0,
          m.1,
          (D.keeps m.0 m.1, subst G (sym m.2) a.2),
          record { nanoErgs = ap Ba.nano_of m.2 ∙ a.3.nanoErgs; amounts = λ t. ap (λ (y : Ba.Bal). Ba.amount_of y t) m.2 ∙ a.3.amounts t },
        );
  }
