-- The flat list as a machine keeps the laws from which fork undo follows, and those of the answers.
use Rattle.ledger.proofs.TestLaws.{ite_yes, ite_no}
use mathlib.Core.Path.{◌≡◌, refl, sym, ◌∙◌, ap, subst}
use mathlib.Core.Logic.{inl, inr, ◌≢◌}
use mathlib.Core.Bool.{Bool, true, false}
use mathlib.Core.List.{List, [], ◌∷◌, ◌++◌, map, Memᴰ}
use Prim.Native.Nat.{ℕ, ◌≤◌, ◌<◌}
use native.Mathlib.Decide.{ℕ_discrete, dec_le}
use native.Mathlib.Omega.{arith}
use lib.IntN.{ℤ, pos, negsuc, neg_ℤ, nat_abs}
use lib.Signed.{mag}
use lib.ListN.{length, take}
use Rattle.index_types.specs.Limits.{flat_limit}
use Rattle.ledger.specs.Ledger.{Parent, Series, boxes, series_dec, parent_dec, ite, absℤ}
use Rattle.ledger.specs.Decide.{boxes_inj}
use Rattle.ledger.specs.Run.{Res, done, refused, Made, refused_leaving, Leaves, Machine}
use Rattle.fork_model.proofs.EntryLaws.{Sorted}
use Rattle.fork_model.proofs.GoodStore.{abs_neg}
use Rattle.fork_model.proofs.Store.{seen_in, none_found}
use Rattle.fork_model.proofs.Store as St
use Rattle.fork_model.proofs.Search as Se
use Rattle.fork_model.proofs.Search.{done≢refused, ite_cases}
use Rattle.fork_model.proofs.OperationLaws as Op
use Rattle.fork_model.proofs.Results.{result_of}
use Rattle.fork_model.proofs.Whole as Wh
use Rattle.balance_laws.proofs.Laws as Bl
use Rattle.history.specs.ForkUndo.{Places}
use Rattle.flat_history.specs.FlatMachine.{FlatList, flat_list, numbers, do_append, do_flip, do_pop, flat_machine}
use Rattle.flat_history.proofs.Answers.{Answers, refused_is, in_37}
use Rattle.flat_history.proofs.FlatLaws as Fl
use Rattle.flat_history.proofs.FlatLaws.{Good, done_is}

-- a test between a call and its refusal
made_ite : {P S A : Type 0} (w : Dec P) (x y : Made S A) → result_of (ite w x y) ≡ ite w (result_of x) (result_of y)
unfolding ite
made_ite (yes e) x y = refl
made_ite (no q) x y = refl

leaves_ite : {P S A : Type 0} (w : Dec P) (s : S) (x y : Made S A) → Leaves s x → Leaves s y → Leaves s (ite w x y)
unfolding ite
leaves_ite (yes e) s x y a b = a
leaves_ite (no q) s x y a b = b

module _ (p : Parent) (places : List ℤ) (room : flat_limit ≤ length places) (s : Parent → Places) (W : St.Env) (U : Series → ℕ → Type 0) where
  abbrev pub F : Machine
  F = flat_machine p places s

  abbrev pub Tidy : FlatList → Type 0
  Tidy f = Unit {0}

  abbrev pub GoodB : F.Bal → Type 0
  GoodB = Bl.Good (λ q. (s q).ids) (λ q. (s q).amounts) (λ q. (s q).ids_in) (λ q. (s q).amounts_in)

  abbrev B : Wh.BalanceLaws W (Bl.balances (λ q. (s q).ids) (λ q. (s q).amounts) (λ q. (s q).ids_in) (λ q. (s q).amounts_in)) GoodB
  B = Bl.laws (λ q. (s q).ids) (λ q. (s q).amounts) (λ q. (s q).ids_in) (λ q. (s q).amounts_in) W

  pub own : (f : FlatList) (ch : Series) → boxes p ≡ ch → F.entries f ch ≡ numbers f
  own f ch q = ite_yes (series_dec (boxes p) ch) (numbers f) [] q

  other : (f : FlatList) (ch : Series) → boxes p ≢ ch → F.entries f ch ≡ []
  other f ch q = ite_no (series_dec (boxes p) ch) (numbers f) [] q

  beside : (f g : FlatList) (ch : Series) → boxes p ≡ ch → Op.Beside FlatList F.entries ch f g
  beside f g ch e d q = other g d (λ c. q (sym e ∙ c)) ∙ sym (other f d (λ c. q (sym e ∙ c)))

  sorted_own : (f : FlatList) (q : Parent) → p ≡ q → Op.InOrder F f q → Sorted (numbers f)
  sorted_own f q r o = Se.sorted_unmap (numbers f) (subst (λ (x : List ℤ). Sorted (map absℤ x)) (own f (boxes q) (ap boxes r)) o)

  -- ---- what each operation gives, by whether the list is its own
  module _ (f : FlatList) where
    append_of : (ch : Series) (z : ℤ) → result_of (F.append_store f ch z) ≡ ite (series_dec (boxes p) ch) (result_of (do_append f z)) (refused 31)
    append_of ch z = made_ite (series_dec (boxes p) ch) (do_append f z) (refused_leaving 31 f)

    pop_of : (ch : Series) → result_of (F.pop_store f ch) ≡ ite (series_dec (boxes p) ch) (result_of (do_pop f)) (refused 31)
    pop_of ch = made_ite (series_dec (boxes p) ch) (do_pop f) (refused_leaving 31 f)

    spend_of : (q : Parent) (z : ℤ) → result_of (F.spend_store f q z) ≡ ite (parent_dec p q) (result_of (do_flip true f z)) (refused 31)
    spend_of q z = made_ite (parent_dec p q) (do_flip true f z) (refused_leaving 31 f)

    unspend_of : (q : Parent) (z : ℤ) → result_of (F.unspend_store f q z) ≡ ite (parent_dec p q) (result_of (do_flip false f z)) (refused 31)
    unspend_of q z = made_ite (parent_dec p q) (do_flip false f z) (refused_leaving 31 f)

  append_law : (f : FlatList) (ch : Series) (n : ℤ) (g : FlatList) → Good f → mag n < 9223372036854775808 → result_of (F.append_store f ch n) ≡ done g
      → Op.Appended FlatList F.entries Good Tidy f ch n g
  append_law f ch n g G v e =
      ite_cases (series_dec (boxes p) ch) (result_of (do_append f n)) (refused 31) (done g) (sym (append_of f ch n) ∙ e)
      (λ r c. let x = Fl.appends f G n g v c in
      record { good = x.good; tidy = tt; nonneg = x.nonneg; grown = own g ch r ∙ x.is ∙ ap (λ (y : List ℤ). y ++ (n ∷ [])) (sym (own f ch r)); beside = beside f g ch r })
      (λ r c. absurd (done≢refused (sym c)))

  spent_law : (f : FlatList) (q : Parent) (t : ℤ) (g : FlatList) → Good f → Op.InOrder F f q → result_of (F.spend_store f q t) ≡ done g → Op.Spent FlatList F.entries Good Tidy f q t g
  spent_law f q t g G o e =
      ite_cases (parent_dec p q) (result_of (do_flip true f t)) (refused 31) (done g) (sym (spend_of f q t) ∙ e)
      (λ r c. let x = Fl.flips f G true t (sorted_own f q r o) g c in
      let b : boxes p ≡ boxes q = ap boxes r in
      record {
        good = x.good;
        tidy = λ u. tt;
        flip = rw (own f (boxes q) b, own g (boxes q) b) (Se.flip_of_split (nat_abs t) x.split);
        beside = beside f g (boxes q) b;
      })
      (λ r c. absurd (done≢refused (sym c)))

  unspent_law : (f : FlatList) (q : Parent) (t : ℤ) (g : FlatList) → Good f → Op.InOrder F f q → result_of (F.unspend_store f q t) ≡ done g → Op.Unspent FlatList F.entries Good Tidy f q t g
  unspent_law f q t g G o e =
      ite_cases (parent_dec p q) (result_of (do_flip false f t)) (refused 31) (done g) (sym (unspend_of f q t) ∙ e)
      (λ r c. let x = Fl.flips f G false t (sorted_own f q r o) g c in
      let b : boxes p ≡ boxes q = ap boxes r in
      record {
        good = x.good;
        flip = rw (own f (boxes q) b, own g (boxes q) b) (Se.unflip_of_split (nat_abs t) x.split);
        beside = beside f g (boxes q) b;
      })
      (λ r c. absurd (done≢refused (sym c)))

  -- an unspend of a copy that is there is accepted
  unspend_no : (f : FlatList) (q : Parent) (t : ℤ) (k : ℕ) → Good f → Op.InOrder F f q → Memᴰ (neg_ℤ (absℤ t)) (F.entries f (boxes q))
      → result_of (F.unspend_store f q t) ≡ refused k → ⊥
  unspend_no f q t k G o m e =
      ite_cases (parent_dec p q) (result_of (do_flip false f t)) (refused 31) (refused k) (sym (unspend_of f q t) ∙ e)
      (λ r c. let there : Memᴰ (neg_ℤ (absℤ t)) (numbers f) = subst (Memᴰ (neg_ℤ (absℤ t))) (own f (boxes q) (ap boxes r)) m in
      (Fl.misses f G false t (omega (arith, G.small (neg_ℤ (absℤ t)) there, abs_neg (absℤ t))) (sorted_own f q r o) k c).0 there)
      (λ r c. mathlib.Core.List.Memᴰ.not-nil (subst (Memᴰ (neg_ℤ (absℤ t))) (other f (boxes q) (λ z. r (boxes_inj z))) m))

  pop_by : (f : FlatList) (k : ℕ) → Good f → numbers f ≢ [] → result_of (do_pop f) ≡ refused k → Dec (f.count ≡ 0) → ⊥
  pop_by f k G ne e (yes z) = ne (ap (λ n. take n f.places) z)
  pop_by f k G ne e (no z) = done≢refused (sym (Fl.pop_some f G z) ∙ e)

  pop_no : (f : FlatList) (ch : Series) (k : ℕ) → Good f → F.entries f ch ≢ [] → result_of (F.pop_store f ch) ≡ refused k → ⊥
  pop_no f ch k G ne e =
      ite_cases (series_dec (boxes p) ch) (result_of (do_pop f)) (refused 31) (refused k) (sym (pop_of f ch) ∙ e)
      (λ r c. pop_by f k G (λ z. ne (own f ch r ∙ z)) c (ℕ_discrete f.count 0))
      (λ r c. ne (other f ch r))

  -- ---- 25 does not arise
  codes_25 : {A : Type 0} {j : ℕ} (x : Res A) → x ≡ refused j → j < 25 → x ≡ refused 25 → ⊥
  codes_25 x a h b = omega (arith, refused_is (sym a ∙ b))

  own_25 : (f : FlatList) (n : ℤ) → Good f → result_of (do_append f n) ≡ refused 25 → ⊥
  own_25 f (pos m) G c = let z = Fl.append_37 f G m 25 c in omega (arith, z)
  own_25 f (negsuc k) G c = codes_25 (result_of (do_append f (negsuc k))) (Fl.append_below f G k) (omega arith) c

  append_25 : (f : FlatList) (ch : Series) (n : ℤ) → Good f → result_of (F.append_store f ch n) ≡ refused 25 → ⊥
  append_25 f ch n G e =
      ite_cases (series_dec (boxes p) ch) (result_of (do_append f n)) (refused 31) (refused 25) (sym (append_of f ch n) ∙ e) (λ r c. own_25 f n G c)
      (λ r c. omega (arith, refused_is c))

  none_25 : (b : Bool) → 25 ≡ none_found b → ⊥
  none_25 true e = omega arith
  none_25 false e = omega arith

  flip_25 : (f : FlatList) (t : ℤ) → Good f → Sorted (numbers f) → Dec (9223372036854775808 ≤ nat_abs t) → result_of (do_flip true f t) ≡ refused 25 → ⊥
  flip_25 f t G so (yes h) c = codes_25 (result_of (do_flip true f t)) (Fl.flip_large f G true t h) (omega arith) c
  flip_25 f t G so (no h) c = none_25 (seen_in (nat_abs t) (numbers f)) (Fl.misses f G true t (omega arith) so 25 c).1

  spend_25 : (f : FlatList) (q : Parent) (t : ℤ) → Good f → Op.InOrder F f q → result_of (F.spend_store f q t) ≡ refused 25 → ⊥
  spend_25 f q t G o e =
      ite_cases (parent_dec p q) (result_of (do_flip true f t)) (refused 31) (refused 25) (sym (spend_of f q t) ∙ e)
      (λ r c. flip_25 f t G (sorted_own f q r o) (dec_le 9223372036854775808 (nat_abs t)) c) (λ r c. omega (arith, refused_is c))

  pub flat_laws : Op.Laws F U Good Tidy GoodB
  flat_laws = record {
    leaves = record {
      appends = λ f ch n. leaves_ite (series_dec (boxes p) ch) f (do_append f n) (refused_leaving 31 f) (Fl.append_leaves f n) refl;
      pops = λ f ch. leaves_ite (series_dec (boxes p) ch) f (do_pop f) (refused_leaving 31 f) (Fl.pop_leaves f) refl;
      spends = λ f q t. leaves_ite (parent_dec p q) f (do_flip true f t) (refused_leaving 31 f) (Fl.flip_leaves f true t) refl;
      unspends = λ f q t. leaves_ite (parent_dec p q) f (do_flip false f t) (refused_leaving 31 f) (Fl.flip_leaves f false t) refl;
      flushes = λ f. tt;
      credits = B.credits;
      debits = B.debits;
    };
    empty_good = record { counted = omega arith; room = room; small = λ x t. absurd (mathlib.Core.List.Memᴰ.not-nil t) };
    empty_tidy = tt;
    empty_entries = λ ch. by_own ch (series_dec (boxes p) ch);
    append_ok = λ f ch n g G t v e u. append_law f ch n g G v e;
    pop_ok = λ f ch r G e.
        ite_cases (series_dec (boxes p) ch) (result_of (do_pop f)) (refused 31) (done r) (sym (pop_of f ch) ∙ e)
        (λ o c. let x = Fl.pops f G r c in
        record { good = x.good; last = own f ch o ∙ x.is ∙ ap (λ (y : List ℤ). y ++ (r.value ∷ [])) (sym (own r.left ch o)); beside = beside f r.left ch o })
        (λ o c. absurd (done≢refused (sym c)));
    pop_no = λ f ch k G ne e. absurd (pop_no f ch k G ne e);
    spend_ok = spent_law;
    unspend_ok = unspent_law;
    unspend_no = λ f q t k G o m e. absurd (unspend_no f q t k G o m e);
    flush_ok = λ f g G e. let z : f ≡ g = done_is e in record { good = subst Good z G; tidy = tt; same = λ ch. ap (λ (x : FlatList). F.entries x ch) (sym z) };
    append_25 = append_25;
    spend_25 = spend_25;
    flush_25 = λ f G e. done≢refused e;
    add_25 = B.add_25;
    sub_25 = B.sub_25;
    no_good = B.no_good;
    no_nano = B.no_nano;
    no_amount = B.no_amount;
    add_ok = B.add_ok;
    sub_ok = B.sub_ok;
    add_back = B.add_back;
    sub_back = B.sub_back;
  }
    where
      by_own : (ch : Series) → Dec (boxes p ≡ ch) → F.entries (flat_list 0 places) ch ≡ []
      by_own ch (yes e) = own (flat_list 0 places) ch e
      by_own ch (no q) = other (flat_list 0 places) ch q

  -- ---- the answers
  append_own : (f : FlatList) (z : ℤ) → result_of (F.append_store f (boxes p) z) ≡ result_of (do_append f z)
  append_own f z = append_of f (boxes p) z ∙ ite_yes (series_dec (boxes p) (boxes p)) (result_of (do_append f z)) (refused 31) refl

  spend_own : (f : FlatList) (t : ℤ) → result_of (F.spend_store f p t) ≡ result_of (do_flip true f t)
  spend_own f t = spend_of f p t ∙ ite_yes (parent_dec p p) (result_of (do_flip true f t)) (refused 31) refl

  pub flat_answers : Answers F Good p
  flat_answers = record {
    append_negative = λ f k G. append_own f (negsuc k) ∙ Fl.append_below f G k;
    append_no = λ f m k G e. inl (in_37 (Fl.append_37 f G m k (sym (append_own f (pos m)) ∙ e)));
    spend_large = λ f t G o h. spend_own f t ∙ Fl.flip_large f G true t h;
    spend_no = λ f t k G o h e. inr (rw (own f (boxes p) refl) (Fl.misses f G true t h (sorted_own f p refl o) k (sym (spend_own f t) ∙ e)));
  }

  -- at most 4,096 numbers
  pub few : (f : FlatList) → Good f → length (F.entries f (boxes p)) ≤ flat_limit
  few f G = omega (arith, ap length (own f (boxes p) refl), Fl.numbers_length f G, G.counted)
