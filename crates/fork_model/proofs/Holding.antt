-- What holds between calls (the index agrees with the standing calls, and how it was before each of them), and that each operation keeps it.
use Rattle.ledger.proofs.TestLaws.{ite_yes, ite_no}
use mathlib.Core.Path.{◌≡◌, refl, sym, ◌∙◌, ap, subst}
use mathlib.Core.Logic.{⊎_elim, ◌≢◌}
use mathlib.Core.List.Memᴰ
use mathlib.Core.List.{List, [], ◌∷◌, ◌++◌, map, Memᴰ, head-eq_of_cons-eq, tail-eq_of_cons-eq}
use Prim.Native.Nat.{ℕ, zero, suc, ◌+◌, ◌<◌}
use native.Mathlib.Decide.{ℕ_discrete}
use native.Mathlib.Omega.{arith}
use lib.IntN.{ℤ, pos, negsuc, neg_ℤ, nat_abs, ◌+ℤ◌, ◌-ℤ◌}
use lib.ListN.{length, length-append}
use Rattle.ledger.specs.Ledger.{TokenId, Parent, parent_dec, Series, boxes, txs, series_dec, ite, Tokens, Call, append, spend, credit, debit, absℤ, sum_of, ledger_numbers, ledger_spent, ledger_nanos, ledger_amount, Rule}
use Rattle.ledger.specs.Decide.{boxes≢txs, boxes_inj}
use Rattle.ledger.specs.Run.{Machine, Phase, clean, calls, undos, negated_at, negs}
use Rattle.ledger.specs.Run as Mc
use Rattle.fork_model.proofs.OperationLaws as Op
use Rattle.fork_model.proofs.EntryLaws.{map_append, negs_append, Flip, flip_abs, flip_negs, mem_mid, mem_map, neg_mem}

unfoldable pub neg_count : List Call → Series → ℕ → ℕ
neg_count cs (boxes p) n = ledger_spent cs p n
neg_count cs (txs p) n = 0

pub counted_boxes : (cs : List Call) (p : Parent) (n : ℕ) → neg_count cs (boxes p) n ≡ ledger_spent cs p n
unfolding neg_count
counted_boxes cs p n = refl

module _ (M : Machine) (U : Series → ℕ → Type 0) (Good Tidy : M.Store → Type 0) (GoodB : M.Bal → Type 0) where
  open M use {Store, entries, Bal, nano_of, amount_of}

  abbrev pub TidyIn : Phase → Store → Type 0
  TidyIn clean σ = Tidy σ
  TidyIn calls σ = Tidy σ
  TidyIn undos σ = Unit {0}

  -- a good balance with the content that the calls give one parent
  pub record Snap (cs : List Call) (p : Parent) : Type 0 where
    pub bal : Bal
    pub good : GoodB bal
    pub nanoErgs : nano_of bal ≡ ledger_nanos cs p
    pub amounts : (t : TokenId) → amount_of bal t ≡ ledger_amount cs p t

  -- what was so before a standing call
  abbrev pub Was : Call → List Call → Type 0
  Was (append d n) cs = Unit {0}
  Was (spend p t) cs = Memᴰ (absℤ t) (ledger_numbers cs (boxes p))
  Was (credit p n ts) cs = Snap cs p
  Was (debit p n ts) cs = Snap cs p

  abbrev pub Past : List Call → Type 0
  Past [] = Unit {0}
  Past (c ∷ cs) = Was c cs × Past cs

  pub record Holds (σ : Store) (bs : Parent → Bal) (cs : List Call) : Type 0 where
    pub good : Good σ
    pub good_balance : (p : Parent) → GoodB (bs p)
    pub numbers : (ch : Series) → map absℤ (entries σ ch) ≡ ledger_numbers cs ch
    pub copies : (ch : Series) (n : ℕ) → 0 < n → negs n (entries σ ch) ≡ neg_count cs ch n
    pub nanoErgs : (p : Parent) → nano_of (bs p) ≡ ledger_nanos cs p
    pub amounts : (p : Parent) (t : TokenId) → amount_of (bs p) t ≡ ledger_amount cs p t
    pub past : Past cs

  -- EACH OPERATION keeps it
  numbers_app : {σ τ : Store} {ch : Series} {n : ℤ} (cs : List Call) → Op.Appended Store entries Good Tidy σ ch n τ → ((d : Series) → map absℤ (entries σ d) ≡ ledger_numbers cs d)
      → (d : Series) (w : Dec (ch ≡ d)) → map absℤ (entries τ d) ≡ ite w (ledger_numbers cs d ++ (n ∷ [])) (ledger_numbers cs d)
  unfolding ite
  numbers_app {σ} {τ} {ch} {n} cs a h d (yes e) =
      subst (λ (x : Series). map absℤ (entries τ x) ≡ ledger_numbers cs x ++ (n ∷ [])) e
      (ap (map absℤ) a.grown ∙ map_append absℤ (entries σ ch) (n ∷ []) ∙ ap (λ l. l ++ (absℤ n ∷ [])) (h ch) ∙ ap (λ z. ledger_numbers cs ch ++ (z ∷ [])) (sym a.nonneg))
  numbers_app {σ} {τ} {ch} {n} cs a h d (no q) = ap (map absℤ) (a.beside d q) ∙ h d

  copies_app : {σ τ : Store} {ch : Series} {n : ℤ} → Op.Appended Store entries Good Tidy σ ch n τ → (d : Series) (k : ℕ) → Dec (ch ≡ d) → negs k (entries τ d) ≡ negs k (entries σ d)
  copies_app {σ} {τ} {ch} {n} a d k (yes e) =
      subst (λ (x : Series). negs k (entries τ x) ≡ negs k (entries σ x)) e
      (ap (negs k) a.grown ∙ negs_append k (entries σ ch) (n ∷ []) ∙ ap (λ z. negs k (entries σ ch) + (negated_at k z + 0)) a.nonneg ∙ omega arith)
  copies_app a d k (no q) = ap (negs k) (a.beside d q)

  count_app : (ch : Series) (n : ℤ) (cs : List Call) (d : Series) (k : ℕ) → neg_count cs d k ≡ neg_count (append ch n ∷ cs) d k
  unfolding neg_count
  count_app ch n cs (boxes p) k = refl
  count_app ch n cs (txs p) k = refl

  pub hold_append : {σ τ : Store} {bs : Parent → Bal} {cs : List Call} {ch : Series} {n : ℤ} → Holds σ bs cs → Op.Appended Store entries Good Tidy σ ch n τ → Holds τ bs (append ch n ∷ cs)
  hold_append {σ} {τ} {bs} {cs} {ch} {n} H a = record {
    good = a.good;
    good_balance = H.good_balance;
    numbers = λ d. numbers_app cs a H.numbers d (series_dec ch d);
    copies = λ d k h. copies_app a d k (series_dec ch d) ∙ H.copies d k h ∙ count_app ch n cs d k;
    nanoErgs = H.nanoErgs;
    amounts = H.amounts;
    past = (tt, H.past);
  }

  -- pop
  snoc_inj : (a b : List ℤ) (x y : ℤ) → a ++ (x ∷ []) ≡ b ++ (y ∷ []) → (a ≡ b) × (x ≡ y)
  snoc_inj [] [] x y e = (refl, head-eq_of_cons-eq e)
  snoc_inj [] (z ∷ []) x y e = absurd (let q : ◌≡◌ {A = ℕ} 0 1 = cc in omega arith)
  snoc_inj [] (z ∷ (u ∷ b)) x y e = absurd (let q : ◌≡◌ {A = ℕ} 0 1 = cc in omega arith)
  snoc_inj (z ∷ []) [] x y e = absurd (let q : ◌≡◌ {A = ℕ} 0 1 = cc in omega arith)
  snoc_inj (z ∷ (u ∷ a)) [] x y e = absurd (let q : ◌≡◌ {A = ℕ} 0 1 = cc in omega arith)
  snoc_inj (z ∷ a) (u ∷ b) x y e = let r = snoc_inj a b x y (tail-eq_of_cons-eq e) in ((λ i. head-eq_of_cons-eq e i ∷ r.0 i), r.1)

  spent_none : (ch : Series) (n : ℤ) (cs : List Call) → Rule (append ch n) cs → neg_count (append ch n ∷ cs) ch (nat_abs n) ≡ 0
  unfolding neg_count
  spent_none (boxes p) n cs r = r.unspent
  spent_none (txs p) n cs r = refl

  -- an entry of which no copy is spent is its number
  plain_entry : (a : List ℤ) (v : ℤ) → (0 < nat_abs v → negs (nat_abs v) (a ++ (v ∷ [])) ≡ 0) → v ≡ absℤ v
  plain_entry a (pos m) h = refl
  plain_entry a (negsuc k) h = absurd (omega (arith, h (omega arith), negs_append (suc k) a (negsuc k ∷ []), ite_yes {A = ℕ} (ℕ_discrete (suc k) (suc k)) 1 0 refl))

  numbers_pop : {σ τ : Store} {ch : Series} {v : ℤ} (cs : List Call) → Op.PoppedOff Store entries Good Tidy σ ch v τ → (d : Series) (w : Dec (ch ≡ d)) (n : ℤ)
      → map absℤ (entries σ d) ≡ ite w (ledger_numbers cs d ++ (n ∷ [])) (ledger_numbers cs d) → map absℤ (entries τ d) ≡ ledger_numbers cs d
  unfolding ite
  numbers_pop {σ} {τ} {ch} {v} cs a d (yes e) n h = (snoc_inj (map absℤ (entries τ d)) (ledger_numbers cs d) (absℤ v) n
      (sym (map_append absℤ (entries τ d) (v ∷ [])) ∙ ap (map absℤ) (sym (subst (λ (x : Series). entries σ x ≡ entries τ x ++ (v ∷ [])) e a.last)) ∙ h)).0
  numbers_pop {σ} {τ} {ch} {v} cs a d (no q) n h = ap (map absℤ) (a.beside d q) ∙ h

  -- POP
  last_abs : {σ τ : Store} {ch : Series} {v : ℤ} (cs : List Call) (n : ℤ) → Op.PoppedOff Store entries Good Tidy σ ch v τ → map absℤ (entries σ ch) ≡ ite (series_dec ch ch) (ledger_numbers cs ch ++ (n ∷ [])) (ledger_numbers cs ch) → absℤ v ≡ n
  last_abs {σ} {τ} {ch} {v} cs n a h = (snoc_inj (map absℤ (entries τ ch)) (ledger_numbers cs ch) (absℤ v) n
      (sym (map_append absℤ (entries τ ch) (v ∷ [])) ∙ ap (map absℤ) (sym a.last) ∙ h ∙ ite_yes (series_dec ch ch) (ledger_numbers cs ch ++ (n ∷ [])) (ledger_numbers cs ch) refl)).1

  copies_pop : {σ τ : Store} {ch : Series} {v : ℤ} → Op.PoppedOff Store entries Good Tidy σ ch v τ → v ≡ absℤ v → (d : Series) (k : ℕ) → Dec (ch ≡ d) → negs k (entries τ d) ≡ negs k (entries σ d)
  copies_pop {σ} {τ} {ch} {v} a e d k (yes q) =
      subst (λ (x : Series). negs k (entries τ x) ≡ negs k (entries σ x)) q
      (sym (ap (negs k) a.last ∙ negs_append k (entries τ ch) (v ∷ []) ∙ ap (λ z. negs k (entries τ ch) + (negated_at k z + 0)) e ∙ omega arith))
  copies_pop a e d k (no q) = ap (negs k) (a.beside d q)

  pub pop_value : {σ τ : Store} {bs : Parent → Bal} {cs : List Call} {ch : Series} {n v : ℤ} → Holds σ bs (append ch n ∷ cs) → Rule (append ch n) cs → Op.PoppedOff Store entries Good Tidy σ ch v τ → v ≡ n
  pop_value {σ} {τ} {bs} {cs} {ch} {n} {v} H r a =
      let q : absℤ v ≡ n = last_abs cs n a (H.numbers ch) in
      let m : nat_abs v ≡ nat_abs n = ap nat_abs q in
      plain_entry (entries τ ch) v (λ h. ap (negs (nat_abs v)) (sym a.last) ∙ H.copies ch (nat_abs v) h ∙ ap (neg_count (append ch n ∷ cs) ch) m ∙ spent_none ch n cs r) ∙ q

  pub hold_pop : {σ τ : Store} {bs : Parent → Bal} {cs : List Call} {ch : Series} {n v : ℤ} → Holds σ bs (append ch n ∷ cs) → Rule (append ch n) cs → Op.PoppedOff Store entries Good Tidy σ ch v τ → Holds τ bs cs
  hold_pop {σ} {τ} {bs} {cs} {ch} {n} {v} H r a =
      let e : v ≡ n = pop_value H r a in
      let q : absℤ v ≡ n = last_abs cs n a (H.numbers ch) in
      record {
        good = a.good;
        good_balance = H.good_balance;
        numbers = λ d. numbers_pop cs a d (series_dec ch d) n (H.numbers d);
        copies = λ d k h. copies_pop a (e ∙ sym q) d k (series_dec ch d) ∙ H.copies d k h ∙ sym (count_app ch n cs d k);
        nanoErgs = H.nanoErgs;
        amounts = H.amounts;
        past = H.past.1;
      }

  pub pop_some : {σ : Store} {bs : Parent → Bal} {cs : List Call} {ch : Series} {n : ℤ} → Holds σ bs (append ch n ∷ cs) → entries σ ch ≢ []
  pop_some {σ} {bs} {cs} {ch} {n} H e =
      let l = ap length (sym (ap (map absℤ) e) ∙ H.numbers ch ∙ ite_yes (series_dec ch ch) (ledger_numbers cs ch ++ (n ∷ [])) (ledger_numbers cs ch) refl) in
      omega (arith, l, length-append (ledger_numbers cs ch) (n ∷ []))

  -- SPEND AND UNSPEND
  numbers_flip : {σ τ : Store} {p : Parent} {m : ℕ} → Flip m (entries σ (boxes p)) (entries τ (boxes p)) → Op.Beside Store entries (boxes p) σ τ
      → (d : Series) → Dec (boxes p ≡ d) → map absℤ (entries τ d) ≡ map absℤ (entries σ d)
  numbers_flip {σ} {τ} {p} f b d (yes e) = subst (λ (x : Series). map absℤ (entries τ x) ≡ map absℤ (entries σ x)) e (sym (flip_abs f))
  numbers_flip {σ} {τ} {p} f b d (no q) = ap (map absℤ) (b d q)

  spent_inj : {m n : ℕ} (w : Dec (m ≡ n)) (a b : ℕ) → ite w (suc a) a ≡ ite w (suc b) b → a ≡ b
  unfolding ite
  spent_inj (yes e) a b h = omega arith
  spent_inj (no q) a b h = h

  copies_spend : {σ τ : Store} {p : Parent} (t : ℤ) (cs : List Call) → Flip (nat_abs t) (entries σ (boxes p)) (entries τ (boxes p)) → Op.Beside Store entries (boxes p) σ τ
      → ((q : Parent) (k : ℕ) → 0 < k → negs k (entries σ (boxes q)) ≡ ledger_spent cs q k)
      → (q : Parent) (k : ℕ) → 0 < k → (w : Dec (p ≡ q)) → negs k (entries τ (boxes q)) ≡ ite w (ite (ℕ_discrete (nat_abs t) k) (suc (ledger_spent cs q k)) (ledger_spent cs q k)) (ledger_spent cs q k)
  unfolding ite
  copies_spend {σ} {τ} {p} t cs f b h q k l (yes e) =
      subst (λ (x : Parent). negs k (entries τ (boxes x)) ≡ ite (ℕ_discrete (nat_abs t) k) (suc (ledger_spent cs x k)) (ledger_spent cs x k)) e
      (flip_negs f k l ∙ ap (λ x. ite (ℕ_discrete (nat_abs t) k) (suc x) x) (h p k l))
  copies_spend {σ} {τ} {p} t cs f b h q k l (no n) = ap (negs k) (b (boxes q) (λ e. n (boxes_inj e))) ∙ h q k l

  copies_unspend : {σ τ : Store} {p : Parent} (t : ℤ) (cs : List Call) → Flip (nat_abs t) (entries τ (boxes p)) (entries σ (boxes p)) → Op.Beside Store entries (boxes p) σ τ
      → (q : Parent) (k : ℕ) → 0 < k → (w : Dec (p ≡ q)) → negs k (entries σ (boxes q)) ≡ ite w (ite (ℕ_discrete (nat_abs t) k) (suc (ledger_spent cs q k)) (ledger_spent cs q k)) (ledger_spent cs q k)
      → negs k (entries τ (boxes q)) ≡ ledger_spent cs q k
  unfolding ite
  copies_unspend {σ} {τ} {p} t cs f b q k l (yes e) h =
      spent_inj (ℕ_discrete (nat_abs t) k) (negs k (entries τ (boxes q))) (ledger_spent cs q k)
      (sym (subst (λ (x : Parent). negs k (entries σ (boxes x)) ≡ ite (ℕ_discrete (nat_abs t) k) (suc (negs k (entries τ (boxes x)))) (negs k (entries τ (boxes x)))) e (flip_negs f k l)) ∙ h)
  copies_unspend {σ} {τ} {p} t cs f b q k l (no n) h = ap (negs k) (b (boxes q) (λ e. n (boxes_inj e))) ∙ h

  count_spend : {σ τ : Store} {bs : Parent → Bal} {cs : List Call} {p : Parent} {t : ℤ} → Holds σ bs cs → Op.Spent Store entries Good Tidy σ p t τ → (d : Series) (k : ℕ) → 0 < k → negs k (entries τ d) ≡ neg_count (spend p t ∷ cs) d k
  unfolding neg_count
  count_spend {σ} {τ} {bs} {cs} {p} {t} H a (boxes q) k l = copies_spend t cs a.flip a.beside (λ x n h. H.copies (boxes x) n h) q k l (parent_dec p q)
  count_spend {σ} {τ} {bs} {cs} {p} {t} H a (txs q) k l = ap (negs k) (a.beside (txs q) (λ e. boxes≢txs e)) ∙ H.copies (txs q) k l

  count_unspend : {σ τ : Store} {bs : Parent → Bal} {cs : List Call} {p : Parent} {t : ℤ} → Holds σ bs (spend p t ∷ cs) → Op.Unspent Store entries Good Tidy σ p t τ → (d : Series) (k : ℕ) → 0 < k → negs k (entries τ d) ≡ neg_count cs d k
  unfolding neg_count
  count_unspend {σ} {τ} {bs} {cs} {p} {t} H a (boxes q) k l = copies_unspend t cs a.flip a.beside q k l (parent_dec p q) (H.copies (boxes q) k l)
  count_unspend {σ} {τ} {bs} {cs} {p} {t} H a (txs q) k l = ap (negs k) (a.beside (txs q) (λ e. boxes≢txs e)) ∙ H.copies (txs q) k l

  flip_mem : {m : ℕ} {l l' : List ℤ} → Flip m l l' → Memᴰ (pos m) (map absℤ l)
  flip_mem {m} f = rw f.was (mem_map (f.front ++ pos m ∷ f.back) (pos m) (mem_mid f.front (pos m) f.back))

  pub hold_spend : {σ τ : Store} {bs : Parent → Bal} {cs : List Call} {p : Parent} {t : ℤ} → Holds σ bs cs → Op.Spent Store entries Good Tidy σ p t τ → Holds τ bs (spend p t ∷ cs)
  hold_spend {σ} {τ} {bs} {cs} {p} {t} H a = record {
    good = a.good;
    good_balance = H.good_balance;
    numbers = λ d. numbers_flip a.flip a.beside d (series_dec (boxes p) d) ∙ H.numbers d;
    copies = count_spend H a;
    nanoErgs = H.nanoErgs;
    amounts = H.amounts;
    past = (subst (Memᴰ (absℤ t)) (H.numbers (boxes p)) (flip_mem a.flip), H.past);
  }

  numbers_unflip : {σ τ : Store} {p : Parent} {m : ℕ} → Flip m (entries τ (boxes p)) (entries σ (boxes p)) → Op.Beside Store entries (boxes p) σ τ
      → (d : Series) → Dec (boxes p ≡ d) → map absℤ (entries τ d) ≡ map absℤ (entries σ d)
  numbers_unflip {σ} {τ} {p} f b d (yes e) = subst (λ (x : Series). map absℤ (entries τ x) ≡ map absℤ (entries σ x)) e (flip_abs f)
  numbers_unflip {σ} {τ} {p} f b d (no q) = ap (map absℤ) (b d q)

  pub hold_unspend : {σ τ : Store} {bs : Parent → Bal} {cs : List Call} {p : Parent} {t : ℤ} → Holds σ bs (spend p t ∷ cs) → Op.Unspent Store entries Good Tidy σ p t τ → Holds τ bs cs
  hold_unspend {σ} {τ} {bs} {cs} {p} {t} H a = record {
    good = a.good;
    good_balance = H.good_balance;
    numbers = λ d. numbers_unflip a.flip a.beside d (series_dec (boxes p) d) ∙ H.numbers d;
    copies = count_unspend H a;
    nanoErgs = H.nanoErgs;
    amounts = H.amounts;
    past = H.past.1;
  }

  -- the copy that an unspend looks for is there
  mem_unmap : (l : List ℤ) → Memᴰ (pos 0) (map absℤ l) → Memᴰ (pos 0) l
  mem_unmap [] h = h
  mem_unmap (pos m ∷ l) h = ⊎_elim (λ e. Memᴰ.head e) (λ t. Memᴰ.tail (mem_unmap l t)) (Memᴰ.cases_cons h)
  mem_unmap (negsuc m ∷ l) h = ⊎_elim (λ e. absurd (let q : 0 ≡ suc m = ap nat_abs e in omega arith)) (λ t. Memᴰ.tail (mem_unmap l t)) (Memᴰ.cases_cons h)

  copy_at : (l : List ℤ) (m : ℕ) → Memᴰ (pos m) (map absℤ l) → (0 < m → 0 < negs m l) → Memᴰ (neg_ℤ (pos m)) l
  copy_at l zero h g = mem_unmap l h
  copy_at l (suc m) h g = neg_mem m l (g (omega arith))

  spent_some : {σ : Store} {bs : Parent → Bal} {cs : List Call} {p : Parent} {t : ℤ} → Holds σ bs (spend p t ∷ cs) → 0 < nat_abs t → 0 < negs (nat_abs t) (entries σ (boxes p))
  unfolding neg_count
  spent_some {σ} {bs} {cs} {p} {t} H h =
      omega (
        arith,
        H.copies (boxes p) (nat_abs t) h
            ∙ ite_yes (parent_dec p p) (ite (ℕ_discrete (nat_abs t) (nat_abs t)) (suc (ledger_spent cs p (nat_abs t))) (ledger_spent cs p (nat_abs t))) (ledger_spent cs p (nat_abs t)) refl
            ∙ ite_yes (ℕ_discrete (nat_abs t) (nat_abs t)) (suc (ledger_spent cs p (nat_abs t))) (ledger_spent cs p (nat_abs t)) refl,
      )

  pub copy_there : {σ : Store} {bs : Parent → Bal} {cs : List Call} {p : Parent} {t : ℤ} → Holds σ bs (spend p t ∷ cs) → Memᴰ (neg_ℤ (absℤ t)) (entries σ (boxes p))
  copy_there {σ} {bs} {cs} {p} {t} H =
      copy_at (entries σ (boxes p)) (nat_abs t) (subst (Memᴰ (absℤ t)) (sym (H.numbers (boxes p))) H.past.0) (spent_some H)

  -- FLUSH
  pub hold_flush : {σ τ : Store} {bs : Parent → Bal} {cs : List Call} → Holds σ bs cs → Op.Flushed Store entries Good Tidy σ τ → Holds τ bs cs
  hold_flush {σ} {τ} {bs} {cs} H a = record {
    good = a.good;
    good_balance = H.good_balance;
    numbers = λ d. ap (map absℤ) (a.same d) ∙ H.numbers d;
    copies = λ d k h. ap (negs k) (a.same d) ∙ H.copies d k h;
    nanoErgs = H.nanoErgs;
    amounts = H.amounts;
    past = H.past;
  }

  -- BALANCES
  set_as : (g : Bal → ℤ) (f : Parent → Bal) (p : Parent) (b : Bal) (want : Parent → ℤ) → g b ≡ want p → ((q : Parent) → p ≢ q → g (f q) ≡ want q)
      → (q : Parent) (w : Dec (p ≡ q)) → g (ite w b (f q)) ≡ want q
  unfolding ite
  set_as g f p b want h k q (yes e) = h ∙ ap want e
  set_as g f p b want h k q (no n) = k q n

  set_good : (f : Parent → Bal) (p : Parent) (b : Bal) → GoodB b → ((q : Parent) → GoodB (f q)) → (q : Parent) (w : Dec (p ≡ q)) → GoodB (ite w b (f q))
  unfolding ite
  set_good f p b h k q (yes e) = h
  set_good f p b h k q (no n) = k q

  count_bal : (xs ys : List Call) → ((p : Parent) (k : ℕ) → ledger_spent xs p k ≡ ledger_spent ys p k) → (d : Series) (k : ℕ) → neg_count xs d k ≡ neg_count ys d k
  unfolding neg_count
  count_bal xs ys h (boxes p) k = h p k
  count_bal xs ys h (txs p) k = refl

  snap_of : {σ : Store} {bs : Parent → Bal} {cs : List Call} → Holds σ bs cs → (p : Parent) → Snap cs p
  snap_of {σ} {bs} {cs} H p = record { bal = bs p; good = H.good_balance p; nanoErgs = H.nanoErgs p; amounts = H.amounts p }

  pub hold_credit : {σ : Store} {bs : Parent → Bal} {cs : List Call} {p : Parent} {n : ℤ} {ts : Tokens} {b : Bal} → Holds σ bs cs → GoodB b → Op.Grew M (bs p) n ts b → Holds σ (Mc.set_balance M bs p b) (credit p n ts ∷ cs)
  hold_credit {σ} {bs} {cs} {p} {n} {ts} {b} H g a = record {
    good = H.good;
    good_balance = λ q. set_good bs p b g H.good_balance q (parent_dec p q);
    numbers = H.numbers;
    copies = λ d k h. H.copies d k h ∙ count_bal cs (credit p n ts ∷ cs) (λ x y. refl) d k;
    nanoErgs = λ q. set_as nano_of bs p b (ledger_nanos (credit p n ts ∷ cs))
        (a.nanoErgs ∙ ap (λ x. x +ℤ n) (H.nanoErgs p) ∙ sym (ite_yes (parent_dec p p) (ledger_nanos cs p +ℤ n) (ledger_nanos cs p) refl))
        (λ r h. H.nanoErgs r ∙ sym (ite_no (parent_dec p r) (ledger_nanos cs r +ℤ n) (ledger_nanos cs r) h)) q (parent_dec p q);
    amounts = λ q t. set_as (λ x. amount_of x t) bs p b (λ r. ledger_amount (credit p n ts ∷ cs) r t)
        (a.amounts t ∙ ap (λ x. x +ℤ sum_of t ts) (H.amounts p t) ∙ sym (ite_yes (parent_dec p p) (ledger_amount cs p t +ℤ sum_of t ts) (ledger_amount cs p t) refl))
        (λ r h. H.amounts r t ∙ sym (ite_no (parent_dec p r) (ledger_amount cs r t +ℤ sum_of t ts) (ledger_amount cs r t) h)) q (parent_dec p q);
    past = (snap_of H p, H.past);
  }

  pub hold_debit : {σ : Store} {bs : Parent → Bal} {cs : List Call} {p : Parent} {n : ℤ} {ts : Tokens} {b : Bal} → Holds σ bs cs → GoodB b → Op.Shrank M (bs p) n ts b → Holds σ (Mc.set_balance M bs p b) (debit p n ts ∷ cs)
  hold_debit {σ} {bs} {cs} {p} {n} {ts} {b} H g a = record {
    good = H.good;
    good_balance = λ q. set_good bs p b g H.good_balance q (parent_dec p q);
    numbers = H.numbers;
    copies = λ d k h. H.copies d k h ∙ count_bal cs (debit p n ts ∷ cs) (λ x y. refl) d k;
    nanoErgs = λ q. set_as nano_of bs p b (ledger_nanos (debit p n ts ∷ cs))
        (a.nanoErgs ∙ ap (λ x. x -ℤ n) (H.nanoErgs p) ∙ sym (ite_yes (parent_dec p p) (ledger_nanos cs p -ℤ n) (ledger_nanos cs p) refl))
        (λ r h. H.nanoErgs r ∙ sym (ite_no (parent_dec p r) (ledger_nanos cs r -ℤ n) (ledger_nanos cs r) h)) q (parent_dec p q);
    amounts = λ q t. set_as (λ x. amount_of x t) bs p b (λ r. ledger_amount (debit p n ts ∷ cs) r t)
        (a.amounts t ∙ ap (λ x. x -ℤ sum_of t ts) (H.amounts p t) ∙ sym (ite_yes (parent_dec p p) (ledger_amount cs p t -ℤ sum_of t ts) (ledger_amount cs p t) refl))
        (λ r h. H.amounts r t ∙ sym (ite_no (parent_dec p r) (ledger_amount cs r t -ℤ sum_of t ts) (ledger_amount cs r t) h)) q (parent_dec p q);
    past = (snap_of H p, H.past);
  }

  pub grew_from : {σ : Store} {bs : Parent → Bal} {cs : List Call} {p : Parent} {n : ℤ} {ts : Tokens} → (H : Holds σ bs (credit p n ts ∷ cs)) → Op.Grew M H.past.0.bal n ts (bs p)
  grew_from {σ} {bs} {cs} {p} {n} {ts} H = record {
    nanoErgs = H.nanoErgs p ∙ ite_yes (parent_dec p p) (ledger_nanos cs p +ℤ n) (ledger_nanos cs p) refl ∙ ap (λ x. x +ℤ n) (sym H.past.0.nanoErgs);
    amounts = λ t. H.amounts p t ∙ ite_yes (parent_dec p p) (ledger_amount cs p t +ℤ sum_of t ts) (ledger_amount cs p t) refl ∙ ap (λ x. x +ℤ sum_of t ts) (sym (H.past.0.amounts t));
  }

  pub shrank_from : {σ : Store} {bs : Parent → Bal} {cs : List Call} {p : Parent} {n : ℤ} {ts : Tokens} → (H : Holds σ bs (debit p n ts ∷ cs)) → Op.Shrank M H.past.0.bal n ts (bs p)
  shrank_from {σ} {bs} {cs} {p} {n} {ts} H = record {
    nanoErgs = H.nanoErgs p ∙ ite_yes (parent_dec p p) (ledger_nanos cs p -ℤ n) (ledger_nanos cs p) refl ∙ ap (λ x. x -ℤ n) (sym H.past.0.nanoErgs);
    amounts = λ t. H.amounts p t ∙ ite_yes (parent_dec p p) (ledger_amount cs p t -ℤ sum_of t ts) (ledger_amount cs p t) refl ∙ ap (λ x. x -ℤ sum_of t ts) (sym (H.past.0.amounts t));
  }

  pub hold_uncredit : {σ : Store} {bs : Parent → Bal} {cs : List Call} {p : Parent} {n : ℤ} {ts : Tokens} {b : Bal} → (H : Holds σ bs (credit p n ts ∷ cs)) → GoodB b → Op.Alike M H.past.0.bal b → Holds σ (Mc.set_balance M bs p b) cs
  hold_uncredit {σ} {bs} {cs} {p} {n} {ts} {b} H g a = record {
    good = H.good;
    good_balance = λ q. set_good bs p b g H.good_balance q (parent_dec p q);
    numbers = H.numbers;
    copies = λ d k h. H.copies d k h ∙ count_bal (credit p n ts ∷ cs) cs (λ x y. refl) d k;
    nanoErgs = λ q. set_as nano_of bs p b (ledger_nanos cs) (a.nanoErgs ∙ H.past.0.nanoErgs)
        (λ r h. H.nanoErgs r ∙ ite_no (parent_dec p r) (ledger_nanos cs r +ℤ n) (ledger_nanos cs r) h) q (parent_dec p q);
    amounts = λ q t. set_as (λ x. amount_of x t) bs p b (λ r. ledger_amount cs r t) (a.amounts t ∙ H.past.0.amounts t)
        (λ r h. H.amounts r t ∙ ite_no (parent_dec p r) (ledger_amount cs r t +ℤ sum_of t ts) (ledger_amount cs r t) h) q (parent_dec p q);
    past = H.past.1;
  }

  pub hold_undebit : {σ : Store} {bs : Parent → Bal} {cs : List Call} {p : Parent} {n : ℤ} {ts : Tokens} {b : Bal} → (H : Holds σ bs (debit p n ts ∷ cs)) → GoodB b → Op.Alike M H.past.0.bal b → Holds σ (Mc.set_balance M bs p b) cs
  hold_undebit {σ} {bs} {cs} {p} {n} {ts} {b} H g a = record {
    good = H.good;
    good_balance = λ q. set_good bs p b g H.good_balance q (parent_dec p q);
    numbers = H.numbers;
    copies = λ d k h. H.copies d k h ∙ count_bal (debit p n ts ∷ cs) cs (λ x y. refl) d k;
    nanoErgs = λ q. set_as nano_of bs p b (ledger_nanos cs) (a.nanoErgs ∙ H.past.0.nanoErgs)
        (λ r h. H.nanoErgs r ∙ ite_no (parent_dec p r) (ledger_nanos cs r -ℤ n) (ledger_nanos cs r) h) q (parent_dec p q);
    amounts = λ q t. set_as (λ x. amount_of x t) bs p b (λ r. ledger_amount cs r t) (a.amounts t ∙ H.past.0.amounts t)
        (λ r h. H.amounts r t ∙ ite_no (parent_dec p r) (ledger_amount cs r t -ℤ sum_of t ts) (ledger_amount cs r t) h) q (parent_dec p q);
    past = H.past.1;
  }
