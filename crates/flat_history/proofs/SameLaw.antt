-- Two machines that keep the laws, over a list of one parent's box calls: each step is answered alike, and the same calls stand in both.
use mathlib.Core.Path.{◌≡◌, refl, sym, ◌∙◌, ap, subst}
use mathlib.Core.Logic.{◌⊎◌, inl, inr, ⊎_elim, ◌≢◌}
use mathlib.Core.List.{List, [], ◌∷◌, map, Memᴰ}
use Prim.Native.Nat.{ℕ, ◌≤◌, ◌<◌}
use native.Mathlib.Decide.{dec_le}
use native.Mathlib.Omega.{arith}
use lib.IntN.{ℤ, pos, negsuc, nat_abs}
use lib.ListN.{length, length-map}
use Rattle.index_types.specs.Limits.{flat_limit}
use Rattle.ledger.specs.Ledger.{Parent, Series, boxes, Call, append, spend, credit, debit, absℤ, ledger_numbers, Rules}
use Rattle.ledger.specs.Run.{Res, done, refused, Made, accepted, refused_leaving, Machine, Phase, clean, calls, undos, Step, call, undo, flush, MayCall, answer_of, negs, stands_after}
use Rattle.ledger.specs.Run as Mc
use Rattle.ledger.proofs.AnswerLaws.{step_told}
use Rattle.fork_model.proofs.EntryLaws.{mem_mid}
use Rattle.fork_model.proofs.Store.{none_found}
use Rattle.fork_model.proofs.OperationLaws as Op
use Rattle.fork_model.proofs.Holding as Hd
use Rattle.fork_model.proofs.History as Hi
use Rattle.fork_model.proofs.Results.{result_of}
use Rattle.flat_history.specs.SameAsIndex.{OfBoxes, AllOfBoxes, full_codes, NeverFull, absolute, compared, SameHeld}
use Rattle.flat_history.proofs.CountLaws.{unspent_there, same_seen}
use Rattle.flat_history.proofs.Answers.{NoCopy, Answers}

-- a machine, what holds of its stores, the laws, and the answers to one parent's box calls
pub record Lawful (p : Parent) : Type 1 where
  pub M : Machine
  pub U : Series → ℕ → Type 0
  pub Good : M.Store → Type 0
  pub Tidy : M.Store → Type 0
  pub GoodB : M.Bal → Type 0
  pub laws : Op.Laws M U Good Tidy GoodB
  pub answers : Answers M Good p

abbrev shape : {A : Type 0} → Res A → Res (List ℤ)
shape (done a) = done []
shape (refused k) = refused k

-- neither 16, 21, 36 nor 37
abbrev NotFull : Res (List ℤ) → Type 0
NotFull r = (k : ℕ) → Memᴰ k full_codes → r ≡ refused k → ⊥

-- what the undo of the newest standing call answers
abbrev newest_answer : List Call → Res (List ℤ)
newest_answer [] = done []
newest_answer (a ∷ cs) = done (answer_of a)

-- ---- of one machine
module _ (p : Parent) (X : Lawful p) where
  open X use {M, U, Good, Tidy, GoodB, laws, answers}

  abbrev pub Inv : Mc.Conf M → Type 0
  Inv c = Hi.Inv M U Good Tidy GoodB c

  pub store_said : (σ : Mc.State M) (Y : Made M.Store M.Store) → Mc.said M (Mc.with_store M σ Y) ≡ shape (result_of Y)
  store_said σ (accepted a) = refl
  store_said σ (refused_leaving k a) = refl

  -- an undo that is not refused by 16 or 21 answers the number of its append
  undo_by : (σ : Mc.State M) (a : Call) (Y : Made (Mc.State M) (Mc.Undone M)) → Mc.UndoAnswer M σ a Y → NotFull (Mc.said_undo M Y) → Mc.said_undo M Y ≡ done (answer_of a)
  undo_by σ a (accepted u) h N = ap {B = Res (List ℤ)} done h
  undo_by σ a (refused_leaving k τ) h N = ⊎_elim (λ x. absurd (N k (Memᴰ.head x.0) refl)) (λ x. absurd (N k (Memᴰ.tail (Memᴰ.head x.0)) refl)) h

  pub undo_said : (c : Mc.Conf M) (l : List Call) → Mc.NewestOk M c l → NotFull (Mc.said_newest M c l) → Mc.said_newest M c l ≡ newest_answer l
  undo_said c [] h N = refl
  undo_said c (a ∷ cs) h N = undo_by c.now a (Mc.run_undo M c.now a) h N

  pub called : (c : Mc.Conf M) (a : Call) (Y : Made (Mc.State M) (Mc.State M)) → (Mc.after_call M c a Y).phase ≡ calls
  called c a (accepted x) = refl
  called c a (refused_leaving k x) = refl

  undone : (c : Mc.Conf M) (cs : List Call) (Y : Made (Mc.State M) (Mc.Undone M)) → (Mc.after_undo M c cs Y).phase ≡ undos
  undone c cs (accepted x) = refl
  undone c cs (refused_leaving k x) = refl

  pub newest_phase : (c : Mc.Conf M) (l : List Call) → l ≢ [] → (Mc.newest_undone M c l).phase ≡ undos
  newest_phase c [] q = absurd (q refl)
  newest_phase c (a ∷ cs) q = undone c cs (Mc.run_undo M c.now a)

  module _ (c : Mc.Conf M) (I : Inv c) where
    pub in_order : Op.InOrder M c.now.store p
    in_order = Hi.in_order M U Good Tidy GoodB laws c I p

    -- an accepted spend found an unspent copy
    pub copy_there : (t : ℤ) (τ : M.Store) → result_of (M.spend_store c.now.store p t) ≡ done τ → Memᴰ (pos (nat_abs t)) (M.entries c.now.store (boxes p))
    copy_there t τ e =
        let f = (laws.spend_ok c.now.store p t τ I.holds.good in_order e).flip in
        rw f.was (mem_mid f.front (pos (nat_abs t)) f.back)

-- ---- of both. The second has at most 4,096 numbers, all rows, and accepts every flush
module _ (p : Parent) (X Y : Lawful p) (few : (σ : Y.M.Store) → Y.Good σ → length (Y.M.entries σ (boxes p)) ≤ flat_limit) (all : (ch : Series) (n : ℕ) → Y.U ch n)
    (sized : X.M.limit ≡ Y.M.limit) (passes : (σ : Y.M.Store) → Y.M.flush_store σ ≡ accepted σ) where
  abbrev M : Machine
  M = X.M

  abbrev F : Machine
  F = Y.M

  -- both invariants hold, and the same calls stand
  pub record Both (c : Mc.Conf M) (f : Mc.Conf F) : Type 0 where
    pub inM : Inv p X c
    pub inF : Inv p Y f
    pub standing : c.standing ≡ f.standing

  module _ (c : Mc.Conf M) (f : Mc.Conf F) (T : Both c f) where
    abbrev l : List ℤ
    l = M.entries c.now.store (boxes p)

    abbrev m : List ℤ
    m = F.entries f.now.store (boxes p)

    same_numbers : map absℤ l ≡ map absℤ m
    same_numbers = T.inM.holds.numbers (boxes p) ∙ ap (λ (cs : List Call). ledger_numbers cs (boxes p)) T.standing ∙ sym (T.inF.holds.numbers (boxes p))

    same_copies : (n : ℕ) → 0 < n → negs n l ≡ negs n m
    same_copies n h = T.inM.holds.copies (boxes p) n h ∙ ap (λ (cs : List Call). Hd.neg_count cs (boxes p) n) T.standing ∙ sym (T.inF.holds.copies (boxes p) n h)

    pub both_hold : SameHeld l m
    both_hold = record { in_order = same_numbers; copies = same_copies }

    short_F : flat_limit < length m → ⊥
    short_F h = omega (arith, few f.now.store T.inF.holds.good)

    short_M : flat_limit < length l → ⊥
    short_M h = omega (arith, few f.now.store T.inF.holds.good, ap length same_numbers, length-map l absℤ, length-map m absℤ)

    -- ---- append
    module _ (z : ℤ) where
      abbrev XM : Res M.Store
      XM = result_of (M.append_store c.now.store (boxes p) z)

      abbrev XF : Res F.Store
      XF = result_of (F.append_store f.now.store (boxes p) z)

    append_by : (n : ℕ) (A : Res M.Store) (B : Res F.Store) → XM (pos n) ≡ A → XF (pos n) ≡ B → NotFull (shape A) → NotFull (shape B) → shape A ≡ shape B
    append_by n (done a) (done b) d e N K = refl
    append_by n (refused k) B d e N K =
        ⊎_elim (λ t. absurd (N k t refl)) (λ h. absurd (short_M h)) (X.answers.append_no c.now.store n k T.inM.holds.good d)
    append_by n (done a) (refused k) d e N K =
        ⊎_elim (λ t. absurd (K k t refl)) (λ h. absurd (short_F h)) (Y.answers.append_no f.now.store n k T.inF.holds.good e)

    append_said : (z : ℤ) → NotFull (shape (XM z)) → NotFull (shape (XF z)) → shape (XM z) ≡ shape (XF z)
    append_said (pos n) N K = append_by n (XM (pos n)) (XF (pos n)) refl refl N K
    append_said (negsuc k) N K =
        ap shape (X.answers.append_negative c.now.store k T.inM.holds.good) ∙ ap shape (sym (Y.answers.append_negative f.now.store k T.inF.holds.good))

    -- ---- spend
    module _ (z : ℤ) where
      abbrev SM : Res M.Store
      SM = result_of (M.spend_store c.now.store p z)

      abbrev SF : Res F.Store
      SF = result_of (F.spend_store f.now.store p z)

      forth : Memᴰ (pos (nat_abs z)) l → Memᴰ (pos (nat_abs z)) m
      forth t = unspent_there (nat_abs z) l m same_numbers same_copies t

      back : Memᴰ (pos (nat_abs z)) m → Memᴰ (pos (nat_abs z)) l
      back t = unspent_there (nat_abs z) m l (sym same_numbers) (λ n h. sym (same_copies n h)) t

      no_M : (k : ℕ) → nat_abs z < 9223372036854775808 → SM ≡ refused k → NotFull (refused k) → NoCopy (nat_abs z) l k
      no_M k h d N = ⊎_elim (λ t. absurd (N k t refl)) (λ q. q) (X.answers.spend_no c.now.store z k T.inM.holds.good (in_order p X c T.inM) h d)

      no_F : (k : ℕ) → nat_abs z < 9223372036854775808 → SF ≡ refused k → NotFull (refused k) → NoCopy (nat_abs z) m k
      no_F k h d N = ⊎_elim (λ t. absurd (N k t refl)) (λ q. q) (Y.answers.spend_no f.now.store z k T.inF.holds.good (in_order p Y f T.inF) h d)

      spend_by : nat_abs z < 9223372036854775808 → (A : Res M.Store) (B : Res F.Store) → SM ≡ A → SF ≡ B → NotFull (shape A) → NotFull (shape B) → shape A ≡ shape B
      spend_by h (done a) (done b) d e N K = refl
      spend_by h (done a) (refused k) d e N K = absurd ((no_F k h e K).0 (forth (copy_there p X c T.inM z a d)))
      spend_by h (refused k) (done b) d e N K = absurd ((no_M k h d N).0 (back (copy_there p Y f T.inF z b e)))
      spend_by h (refused j) (refused k) d e N K =
          ap {B = Res (List ℤ)} refused ((no_M j h d N).1 ∙ ap none_found (same_seen (nat_abs z) l m same_numbers) ∙ sym (no_F k h e K).1)

      spend_said : Dec (9223372036854775808 ≤ nat_abs z) → NotFull (shape SM) → NotFull (shape SF) → shape SM ≡ shape SF
      spend_said (yes h) N K =
          ap shape (X.answers.spend_large c.now.store z T.inM.holds.good (in_order p X c T.inM) h)
          ∙ ap shape (sym (Y.answers.spend_large f.now.store z T.inF.holds.good (in_order p Y f T.inF) h))
      spend_said (no h) N K = spend_by (omega arith) SM SF refl refl N K

    -- ---- the calls of the list
    abbrev Alike : Step → Type 0
    Alike x = NotFull (Mc.answer_to M c x) → NotFull (Mc.answer_to F f x) → Mc.answer_to M c x ≡ Mc.answer_to F f x

    call_alike : (a : Call) → OfBoxes p (call a) → Alike (call a)
    call_alike (append ch z) o = subst (λ (d : Series). Alike (call (append d z))) o at_boxes
      where
        at_boxes : Alike (call (append (boxes p) z))
        at_boxes N K =
            let u = store_said p X c.now (M.append_store c.now.store (boxes p) z) in
            let v = store_said p Y f.now (F.append_store f.now.store (boxes p) z) in
            u ∙ append_said z (subst NotFull u N) (subst NotFull v K) ∙ sym v
    call_alike (spend q z) o = subst (λ (r : Parent). Alike (call (spend r z))) o at_own
      where
        at_own : Alike (call (spend p z))
        at_own N K =
            let u = store_said p X c.now (M.spend_store c.now.store p z) in
            let v = store_said p Y f.now (F.spend_store f.now.store p z) in
            u ∙ spend_said z (dec_le 9223372036854775808 (nat_abs z)) (subst NotFull u N) (subst NotFull v K) ∙ sym v
    call_alike (credit q n ts) o = absurd o
    call_alike (debit q n ts) o = absurd o

  -- the second may always do what the first may
  abbrev Behind : Phase → Phase → Type 0
  Behind a b = (b ≡ a) ⊎ (b ≡ clean)

  may_call : (a b : Phase) → Behind a b → MayCall a → MayCall b
  may_call a b h m = ⊎_elim (λ e. subst MayCall (sym e) m) (λ e. subst MayCall (sym e) tt) h

  flushed : (f : Mc.Conf F) (B : Made F.Store F.Store) (σ : F.Store) → B ≡ accepted σ → (Mc.after_flush F f (Mc.with_store F f.now B)).phase ≡ clean
  flushed f (accepted x) σ e = refl
  flushed f (refused_leaving k x) σ e = let z : ◌≡◌ {A = ℕ} 0 1 = cc in absurd (omega arith)

  pub record Next (c : Mc.Conf M) (f : Mc.Conf F) (x : Step) : Type 0 where
    pub same : (x ≡ flush) ⊎ (Mc.answer_to M c x ≡ Mc.answer_to F f x)
    pub both : Both (Mc.step M c x) (Mc.step F f x)
    pub behind : Behind (Mc.step M c x).phase (Mc.step F f x).phase

  stands : (c : Mc.Conf M) (f : Mc.Conf F) (x : Step) → c.standing ≡ f.standing → Mc.answer_to M c x ≡ Mc.answer_to F f x → (Mc.step M c x).standing ≡ (Mc.step F f x).standing
  stands c f x e q = step_told M c x ∙ (λ i. stands_after x (q i) (e i)) ∙ sym (step_told F f x)

  next : (c : Mc.Conf M) (f : Mc.Conf F) (x : Step) → Both c f → Behind c.phase f.phase → Mc.Allowed M c x → Rules (Mc.step M c x).standing → OfBoxes p x
      → ((ch : Series) (n : ℕ) → Mc.Needs M (Mc.step M c x) ch n → X.U ch n) → NotFull (Mc.answer_to M c x) → NotFull (Mc.answer_to F f x) → Next c f x
  next c f (call a) T h A R o C N K =
      let same = call_alike c f T a o N K in
      let st = stands c f (call a) T.standing same in
      let u = Hi.one_step M X.U X.Good X.Tidy X.GoodB X.laws c (call a) T.inM A R C in
      let v = Hi.one_step F Y.U Y.Good Y.Tidy Y.GoodB Y.laws f (call a) T.inF (may_call c.phase f.phase h A.0, subst (λ (n : ℕ). Mc.Args n a) sized A.1) (subst Rules st R) (λ ch n q. all ch n) in
      record {
        same = inr same;
        both = record { inM = u.0; inF = v.0; standing = st };
        behind = inl (called p Y f a (Mc.run_call F f.now a) ∙ sym (called p X c a (Mc.run_call M c.now a)));
      }
  next c f undo T h A R o C N K =
      let u = Hi.one_step M X.U X.Good X.Tidy X.GoodB X.laws c undo T.inM A R C in
      let v = Hi.undo_newest F Y.U Y.Good Y.Tidy Y.GoodB Y.laws f f.standing refl T.inF in
      let same : Mc.answer_to M c undo ≡ Mc.answer_to F f undo =
      undo_said p X c c.standing u.1 N ∙ ap newest_answer T.standing ∙ sym (undo_said p Y f f.standing v.1 K) in
      record {
        same = inr same;
        both = record { inM = u.0; inF = v.0; standing = stands c f undo T.standing same };
        behind = inl (newest_phase p Y f f.standing (λ q. A.1 (T.standing ∙ q)) ∙ sym (newest_phase p X c c.standing A.1));
      }
  next c f flush T h A R o C N K =
      let u = Hi.one_step M X.U X.Good X.Tidy X.GoodB X.laws c flush T.inM A R C in
      let v = Hi.one_step F Y.U Y.Good Y.Tidy Y.GoodB Y.laws f flush T.inF tt (subst Rules (sym (step_told F f flush)) T.inF.rules) (λ ch n q. all ch n) in
      record {
        same = inl refl;
        both = record { inM = u.0; inF = v.0; standing = step_told M c flush ∙ T.standing ∙ sym (step_told F f flush) };
        behind = inr (flushed f (F.flush_store f.now.store) f.now.store (passes f.now.store));
      }

  -- ---- the list
  joined : (x : Step) (ss : List Step) (q r : Res (List ℤ)) (qs rs : List (Res (List ℤ))) → (x ≡ flush) ⊎ (q ≡ r) → compared ss qs ≡ compared ss rs
      → compared (x ∷ ss) (q ∷ qs) ≡ compared (x ∷ ss) (r ∷ rs)
  unfolding compared
  joined (call a) ss q r qs rs (inl e) g = let z : ◌≡◌ {A = ℕ} 0 1 = cc in absurd (omega arith)
  joined (call a) ss q r qs rs (inr e) g = λ i. absolute (e i) ∷ g i
  joined undo ss q r qs rs (inl e) g = let z : ◌≡◌ {A = ℕ} 0 1 = cc in absurd (omega arith)
  joined undo ss q r qs rs (inr e) g = λ i. absolute (e i) ∷ g i
  joined flush ss q r qs rs h g = g

  from : (ss : List Step) (c : Mc.Conf M) (f : Mc.Conf F) → Both c f → Behind c.phase f.phase → Mc.Legal M c ss → AllOfBoxes p ss
      → NeverFull (Mc.answers M c ss) → NeverFull (Mc.answers F f ss) → ((ch : Series) (n : ℕ) → Mc.InUse M c ss ch n → X.U ch n)
      → (compared ss (Mc.answers M c ss) ≡ compared ss (Mc.answers F f ss)) × Both (Mc.run M c ss) (Mc.run F f ss)
  unfolding Mc.Legal Mc.InUse Mc.run Mc.answers AllOfBoxes compared
  from [] c f T h l o N K C = (refl, T)
  from (x ∷ ss) c f T h l o N K C =
      let n = next c f x T h l.0 l.1 o.0 (λ ch k q. C ch k (inr (Hi.first M X.U X.Good X.Tidy X.GoodB ss (Mc.step M c x) ch k q)))
      (λ k t e. N k t (Memᴰ.head (sym e))) (λ k t e. K k t (Memᴰ.head (sym e))) in
      let r = from ss (Mc.step M c x) (Mc.step F f x) n.both n.behind l.2 o.1 (λ k t u. N k t (Memᴰ.tail u)) (λ k t u. K k t (Memᴰ.tail u)) (λ ch k q. C ch k (inr q)) in
      (joined x ss (Mc.answer_to M c x) (Mc.answer_to F f x) (Mc.answers M (Mc.step M c x) ss) (Mc.answers F (Mc.step F f x) ss) n.same r.0, r.1)

  starts : Both (Mc.start M) (Mc.start F)
  starts = record {
    inM = Hi.start_inv M X.U X.Good X.Tidy X.GoodB X.laws;
    inF = Hi.start_inv F Y.U Y.Good Y.Tidy Y.GoodB Y.laws;
    standing = refl;
  }

  pub same_law : (ss : List Step) → Mc.Legal M (Mc.start M) ss → ((ch : Series) (n : ℕ) → Mc.InUse M (Mc.start M) ss ch n → X.U ch n) → AllOfBoxes p ss
      → NeverFull (Mc.answers M (Mc.start M) ss) → NeverFull (Mc.answers F (Mc.start F) ss)
      → (compared ss (Mc.answers M (Mc.start M) ss) ≡ compared ss (Mc.answers F (Mc.start F) ss))
      × SameHeld (M.entries (Mc.run M (Mc.start M) ss).now.store (boxes p)) (F.entries (Mc.run F (Mc.start F) ss).now.store (boxes p))
  same_law ss l C o N K =
      let r = from ss (Mc.start M) (Mc.start F) starts (inl refl) l o N K C in
      (r.0, both_hold (Mc.run M (Mc.start M) ss) (Mc.run F (Mc.start F) ss) r.1)
