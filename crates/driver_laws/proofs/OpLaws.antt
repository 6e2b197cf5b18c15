-- What a driver does is a legal list of steps of the fork-undo theorem, so that the theorem speaks of it.
use mathlib.Core.Path.{◌≡◌, refl, sym, ap, ◌∙◌, subst}
use mathlib.Core.Logic.{◌≢◌}
use mathlib.Core.Bool.{Bool, true, false, cond}
use mathlib.Core.List.{List, [], ◌∷◌, ◌++◌, map}
use Prim.Native.Nat.{ℕ, zero, suc, ◌+◌, ◌<◌}
use native.Mathlib.Omega.{arith}
use borrow.Author.Tests.{leb-false, eqb-true}
use lib.Dec.{eqb, leb}
use lib.IntN.{nat_abs}
use lib.ListN.{length, take}
use Rattle.balance.specs.declared.Balance.{Balance}
use Rattle.buffer_core.specs.Edition.{edition_1}
use Rattle.buffer_core.specs.Spills.{sources, spill_read}
use Rattle.call_steps.specs.declared.Said.{Said}
use Rattle.call_steps.specs.State.{State}
use Rattle.ledger.specs.Ledger.{absℤ, amount_in, Rules}
use Rattle.ledger.specs.Calls.{Parent, Series, boxes, parent_of}
use Rattle.ledger.specs.Ledger as ledger
use Rattle.ledger.specs.Run.{Made, accepted, refused_leaving, Step, call, undo, flush, flat, negs, MayCall, MayUndo, clean}
use Rattle.ledger.specs.Run as Run
use Rattle.balance_laws.specs.Calls.{tokens_in}
use Rattle.history.specs.Index.{kind_of, to_res, entries_of, do_flush}
use Rattle.history.specs.Machine.{Borrowed}
use Rattle.history.specs.ForkUndo.{Places}
use Rattle.history_runs.specs.View.{ids_in, view}
use Rattle.history_runs.specs.Runs.{M, Holds, Agrees}
use Rattle.driver_core.specs.Steps.{make, unmake, flushing, is_accepted, final}
use Rattle.driver_core.specs.Apply.{driver_ok}
use Rattle.driver_laws.specs.Driver.{Driver, driver, newest_undone, do_step, do_steps, UndoneTo, undone_to, undo_code, flush_code, undos, then_flush, turns, undos_flushed, undo_to}
use Rattle.driver_laws.specs.Operations.{undos_steps, last_steps, undo_to_steps, settled_after, settled, CallsSettled}
use Rattle.driver_laws.specs.Internal.{StepAmong, StepsAmong, OnlyCalls}
use Rattle.driver_laws.specs.Journal.{seen, Whole, tried}
use Rattle.driver_laws.specs.Theorem.{Work, batch, undo_down, longer, Given, calls_of, applied, do_work, do_all, work_steps, all_steps, WorkOk, Keeps}
use Rattle.driver_laws.proofs.CodeLaws.{NotZero, do_flush_coded}
use Rattle.driver_laws.proofs.SettleLaws.{steps_behind, undo_to_left}
use Rattle.driver_laws.proofs.RefineLaws.{work_refines}
use Rattle.driver_laws.proofs.InputLaws.{batch_read}
use Rattle.driver_laws.proofs.HoldLaws.{CallsAmong, Follows, step_follows, steps_follow, flush_after, After, store_coded}

-- ---- lists of steps one behind the other
among_behind : (parents : ℕ) (xs ys : List Step) → StepsAmong parents xs → StepsAmong parents ys → StepsAmong parents (xs ++ ys)
unfolding StepsAmong
among_behind parents [] ys m n = n
among_behind parents (x ∷ xs) ys m n = (m.0, among_behind parents xs ys m.1 n)

pub run_behind : (W : Run.Machine) (xs ys : List Step) (c : Run.Conf W) → Run.run W c (xs ++ ys) ≡ Run.run W (Run.run W c xs) ys
unfolding Run.run
run_behind W [] ys c = refl
run_behind W (x ∷ xs) ys c = run_behind W xs ys (Run.step W c x)

pub legal_behind : (W : Run.Machine) (xs ys : List Step) (c : Run.Conf W) → Run.Legal W c xs → Run.Legal W (Run.run W c xs) ys → Run.Legal W c (xs ++ ys)
unfolding Run.run Run.Legal
legal_behind W [] ys c l m = m
legal_behind W (x ∷ xs) ys c l m = (l.0, l.1, legal_behind W xs ys (Run.step W c x) l.2 m)

-- ---- the rules of fewer calls
less : (b : Bool) (a : ledger.Call) (j : List ledger.Call) → Rules (cond b (a ∷ j) j) → Rules j
less true a j r = r.1
less false a j r = r

fewer : (b : Bool) (a : ledger.Call) (cs : List ledger.Call) → Rules (a ∷ cs) → Rules (cond b cs (a ∷ cs))
fewer true a cs r = r.1
fewer false a cs r = r

pub undone_rules : (j : List ledger.Call) (s : State) → Rules j → Rules (newest_undone j s).journal
undone_rules [] s r = r
undone_rules (a ∷ cs) s r = fewer (is_accepted (unmake a s)) a cs r

before_rules : (ts : List Step) (d : Driver) → OnlyCalls ts → Rules (do_steps d ts).journal → Rules d.journal
unfolding OnlyCalls do_steps
before_rules [] d o r = r
before_rules (call a ∷ ts) d o r = less (is_accepted (make a d.now)) a d.journal (before_rules ts (do_step d (call a)) o r)
before_rules (undo ∷ ts) d o r = absurd o
before_rules (flush ∷ ts) d o r = before_rules ts (do_step d flush) o r

-- two answers by one test
split : {A B : Type 0} (Q : A → B → Type 0) (b : Bool) {x y : A} {x' y' : B} → (b ≡ true → Q x x') → (b ≡ false → Q y y') → Q (cond b x y) (cond b x' y')
split Q true f g = f refl
split Q false f g = g refl

module _ (parents : ℕ) (ids : Parent → List ℕ) (B : Borrowed edition_1) (places : Parent → Places) where
  abbrev W : Run.Machine
  W = M parents ids B places

  abbrev F : Run.Conf W → Driver → Type 0
  F c d = Follows parents ids B places c d

  pub followed_rules : (c : Run.Conf W) (d : Driver) → F c d → Rules d.journal → Rules c.standing
  followed_rules c d f r = subst Rules (sym f.same) r

  -- ---- a flush that says 0 was accepted
  pub flush_clean : (c : Run.Conf W) (d : Driver) → F c d → flush_code d ≡ 0 → (Run.step W c flush).phase ≡ clean
  flush_clean c d f e =
      by (Run.with_store W c.now (do_flush edition_1 ids c.now.store)) (flush_after parents ids B places c.now d.now f.holds)
      (store_coded parents ids B places c.now (do_flush edition_1 ids c.now.store) (do_flush_coded ids c.now.store))
    where
      by : (R : Made (Run.State W) (Run.State W)) → After parents ids B places (flushing d.now) R → NotZero R → (Run.after_flush W c R).phase ≡ clean
      by (accepted τ) a n = refl
      by (refused_leaving k τ) a n = let v : flush_code d ≡ k = ap (λ (w : Said). w.code) a.0 in absurd (omega (arith, n, v, e))

  -- a flush leaves the phase or makes it clean
  flush_calls : (c : Run.Conf W) (R : Made (Run.State W) (Run.State W)) → MayCall c.phase → MayCall (Run.after_flush W c R).phase
  flush_calls c (accepted τ) m = tt
  flush_calls c (refused_leaving k τ) m = m

  pub flush_undos : (c : Run.Conf W) (R : Made (Run.State W) (Run.State W)) → MayUndo c.phase → MayUndo (Run.after_flush W c R).phase
  flush_undos c (accepted τ) m = tt
  flush_undos c (refused_leaving k τ) m = m

  call_calls : (c : Run.Conf W) (a : ledger.Call) (R : Made (Run.State W) (Run.State W)) → MayCall (Run.after_call W c a R).phase
  call_calls c a (accepted τ) = tt
  call_calls c a (refused_leaving k τ) = tt

  pub undo_undos : (c : Run.Conf W) (l : List ledger.Call) → MayUndo c.phase → MayUndo (Run.newest_undone W c l).phase
  undo_undos c [] m = m
  undo_undos c (a ∷ cs) m = by (Run.run_undo W c.now a)
    where
      by : (R : Made (Run.State W) (Run.Undone W)) → MayUndo (Run.after_undo W c cs R).phase
      by (accepted u) = tt
      by (refused_leaving k τ) = tt

  -- ---- where it is settled, calls may be made
  abbrev pub Settles : Bool → Run.Conf W → Type 0
  Settles b c = b ≡ true → MayCall c.phase

  pub step_settles : (b : Bool) (c : Run.Conf W) (d : Driver) → F c d → (t : Step) → Settles b c → Settles (settled_after b d t) (Run.step W c t)
  step_settles b c d f (call a) m e = call_calls c a (Run.run_call W c.now a)
  step_settles b c d f undo m e = let z : ◌≡◌ {A = ℕ} 0 1 = cc in absurd (omega arith)
  step_settles true c d f flush m e = flush_calls c (Run.with_store W c.now (do_flush edition_1 ids c.now.store)) (m refl)
  step_settles false c d f flush m e = subst MayCall (sym (flush_clean c d f (eqb-true (flush_code d) 0 e))) tt

  pub steps_settle : (ts : List Step) (b : Bool) (c : Run.Conf W) (d : Driver) → F c d → StepsAmong parents ts → Settles b c → Settles (settled b d ts) (Run.run W c ts)
  unfolding StepsAmong settled Run.run
  steps_settle [] b c d f a m = m
  steps_settle (t ∷ ts) b c d f a m =
      steps_settle ts (settled_after b d t) (Run.step W c t) (do_step d t) (step_follows parents ids B places c d f t a.0) a.1 (step_settles b c d f t m)

  -- ---- the calls of an input
  pub input_legal : (ts : List Step) (b : Bool) (c : Run.Conf W) (d : Driver) → F c d → Settles b c → CallsSettled b d ts → OnlyCalls ts → StepsAmong parents ts → Rules (do_steps d ts).journal
      → Run.Legal W c ts
  unfolding OnlyCalls StepsAmong CallsSettled do_steps Run.Legal
  input_legal [] b c d f m k o t r = tt
  input_legal (call a ∷ ts) b c d f m k o t r =
      let g = step_follows parents ids B places c d f (call a) t.0 in
      let l = input_legal ts b (Run.step W c (call a)) (do_step d (call a)) g (step_settles b c d f (call a) m) k.1 o t.1 r in
      ((m k.0, t.0.1), followed_rules _ _ g (before_rules ts (do_step d (call a)) o r), l)
  input_legal (undo ∷ ts) b c d f m k o t r = absurd o
  input_legal (flush ∷ ts) b c d f m k o t r =
      let g = step_follows parents ids B places c d f flush tt in
      let l = input_legal ts (settled_after b d flush) (Run.step W c flush) (do_step d flush) g (step_settles b c d f flush m) k.1 o t.1 r in
      (tt, followed_rules _ _ g (before_rules ts (do_step d flush) o r), l)

  -- ---- back to a mark
  pub record Went (c : Run.Conf W) (d : Driver) (r : UndoneTo) (ts : List Step) : Type 0 where
    pub legal : Run.Legal W c ts
    pub left : r.left ≡ do_steps d ts
    pub phase : MayUndo (Run.run W c ts).phase
    pub rules : Rules (do_steps d ts).journal
    pub among : StepsAmong parents ts

  stays : (c : Run.Conf W) (d : Driver) (code : ℕ) → MayUndo c.phase → Rules d.journal → Went c d (undone_to d code) []
  unfolding do_steps Run.Legal Run.run StepsAmong
  stays c d code m r = record { legal = tt; left = refl; phase = m; rules = r; among = tt }

  goes : (c : Run.Conf W) (d : Driver) (t : Step) (r : UndoneTo) (ts : List Step) → Run.Allowed W c t → Rules (Run.step W c t).standing → StepAmong parents t
      → Went (Run.step W c t) (do_step d t) r ts → Went c d r (t ∷ ts)
  unfolding do_steps Run.Legal Run.run StepsAmong
  goes c d t r ts a q m w = record { legal = (a, q, w.legal); left = w.left; phase = w.phase; rules = w.rules; among = (m, w.among) }

  some : (c : Run.Conf W) (d : Driver) (mark : ℕ) → F c d → leb (length d.journal) mark ≡ false → c.standing ≢ []
  some c d mark f e z =
      let n : length d.journal ≡ 0 = ap length (sym f.same ∙ z) in
      omega (arith, n, leb-false (length d.journal) mark e)

  undos_legal : (n mark : ℕ) (fresh : Bool) (c : Run.Conf W) (d : Driver) → F c d → MayUndo c.phase → Rules d.journal → Went c d (undos n mark fresh d) (undos_steps n mark fresh d)
  unfolding undos undos_steps
  undos_legal zero mark fresh c d f m r = stays c d 0 m r
  undos_legal (suc n) mark fresh c d f m r =
      split (Went c d) (leb (length d.journal) mark) (λ e. stays c d 0 m r)
      (λ e.
      let c₁ = Run.step W c undo in
      let d₁ = do_step d undo in
      let f₁ = step_follows parents ids B places c d f undo tt in
      let m₁ : MayUndo c₁.phase = undo_undos c c.standing m in
      let r₁ : Rules d₁.journal = undone_rules d.journal d.now r in
      let a₁ : Run.Allowed W c undo = (m, some c d mark f e) in
      let s₁ = followed_rules c₁ d₁ f₁ r₁ in
      let c₂ = Run.step W c₁ flush in
      let d₂ = do_step d₁ flush in
      let f₂ = step_follows parents ids B places c₁ d₁ f₁ flush tt in
      let m₂ : MayUndo c₂.phase = flush_undos c₁ (Run.with_store W c₁.now (do_flush edition_1 ids c₁.now.store)) m₁ in
      let s₂ = followed_rules c₂ d₂ f₂ r₁ in
      split (Went c d) (eqb (undo_code d) 0) (λ _. goes c d undo _ _ a₁ s₁ tt (undos_legal n mark false c₁ d₁ f₁ m₁ r₁))
      (λ _.
      split (Went c d) (final fresh (undo_code d)) (λ _. goes c d undo _ _ a₁ s₁ tt (stays c₁ d₁ (undo_code d) m₁ r₁))
      (λ _.
      split (Went c d) (eqb (flush_code d₁) 0)
      (λ _. goes c d undo _ _ a₁ s₁ tt (goes c₁ d₁ flush _ _ tt s₂ tt (undos_legal n mark true c₂ d₂ f₂ m₂ r₁)))
      (λ _. goes c d undo _ _ a₁ s₁ tt (goes c₁ d₁ flush _ _ tt s₂ tt (stays c₂ d₂ (flush_code d₁) m₂ r₁))))))

  -- ---- steps that may be made, and leave what was left
  pub record Done (c : Run.Conf W) (d left : Driver) (ts : List Step) : Type 0 where
    pub legal : Run.Legal W c ts
    pub same : left ≡ do_steps d ts
    pub among : StepsAmong parents ts
    pub rules : Rules left.journal

  abbrev Ends : Run.Conf W → Driver → UndoneTo → List Step → Type 0
  Ends c d r ts = Done c d r.left ts

  pub stands_still : (c : Run.Conf W) (d : Driver) → Rules d.journal → Done c d d []
  unfolding do_steps Run.Legal StepsAmong
  stands_still c d r = record { legal = tt; same = refl; among = tt; rules = r }

  one_flush : (c : Run.Conf W) (d : Driver) → F c d → Rules d.journal → Done c d (do_step d flush) (flush ∷ [])
  unfolding do_steps Run.Legal StepsAmong
  one_flush c d f r =
      let g = step_follows parents ids B places c d f flush tt in
      record { legal = (tt, followed_rules (Run.step W c flush) (do_step d flush) g r, tt); same = refl; among = (tt, tt); rules = r }

  -- a list of steps behind another
  pub then_done : (c : Run.Conf W) (d e left : Driver) (xs ys : List Step) → Done c d e xs → Done (Run.run W c xs) e left ys → Done c d left (xs ++ ys)
  then_done c d e left xs ys a b =
      record {
        legal = legal_behind W xs ys c a.legal b.legal;
        same = b.same ∙ ap (λ (x : Driver). do_steps x ys) a.same ∙ sym (steps_behind xs ys d);
        among = among_behind parents xs ys a.among b.among;
        rules = b.rules;
      }

  went : (c : Run.Conf W) (d : Driver) (r : UndoneTo) (ts : List Step) → Went c d r ts → Done c d r.left ts
  went c d r ts w = record { legal = w.legal; same = w.left; among = w.among; rules = subst (λ (x : Driver). Rules x.journal) (sym w.left) w.rules }

  pub follows_on : (c : Run.Conf W) (d left : Driver) (ts : List Step) → F c d → Done c d left ts → F (Run.run W c ts) left
  follows_on c d left ts f a = subst (F (Run.run W c ts)) (sym a.same) (steps_follow parents ids B places ts c d f a.among)

  -- the last flush
  closes : (c : Run.Conf W) (d : Driver) (r : UndoneTo) (ts : List Step) → F c d → Done c d r.left ts → Ends c d (then_flush r) (ts ++ last_steps r)
  closes c d r ts f a =
      split (λ (x : UndoneTo) (ys : List Step). Ends c d x (ts ++ ys)) (eqb r.code 0)
      (λ _. then_done c d r.left (do_step r.left flush) ts (flush ∷ []) a (one_flush (Run.run W c ts) r.left (follows_on c d r.left ts f a) a.rules))
      (λ _. then_done c d r.left r.left ts [] a (stands_still (Run.run W c ts) r.left a.rules))

  pub back_legal : (mark : ℕ) (c : Run.Conf W) (d : Driver) → F c d → Rules d.journal → Ends c d (undo_to mark d) (undo_to_steps mark d)
  unfolding undo_to undo_to_steps Run.run
  back_legal mark c d f r =
      split (Ends c d) (leb (length d.journal) mark) (λ _. stands_still c d r)
      (λ _.
      split (Ends c d) (eqb (flush_code d) 0)
      (λ q.
      let c₁ = Run.step W c flush in
      let d₁ = do_step d flush in
      let f₁ = step_follows parents ids B places c d f flush tt in
      let p : MayUndo c₁.phase = subst MayUndo (sym (flush_clean c d f (eqb-true (flush_code d) 0 q))) tt in
      let b = undos_flushed mark d in
      let k = closes c₁ d₁ b (undos_steps (turns d) mark true d₁) f₁ (went c₁ d₁ b (undos_steps (turns d) mark true d₁) (undos_legal (turns d) mark true c₁ d₁ f₁ p r)) in
      then_done c d d₁ (then_flush b).left (flush ∷ []) (undos_steps (turns d) mark true d₁ ++ last_steps b) (one_flush c d f r) k) (λ _. one_flush c d f r))

  -- ---- whatever a driver does
  abbrev see : Given → Driver
  see d = seen parents d.now d.kept

  abbrev Stays : Given → Type 0
  Stays d = Whole parents d.kept.count d.kept

  -- the steps of a piece of work may be made
  abbrev MayWork : Run.Conf W → Given → Work → Type 0
  MayWork c d w = Done c (see d) (do_steps (see d) (work_steps parents d w)) (work_steps parents d w)

  may_undo : (t : Bool) (mark : ℕ) (c : Run.Conf W) (d : Driver) → F c d → Rules d.journal
      → Done c d (do_steps d (cond t (undo_to_steps mark d) [])) (cond t (undo_to_steps mark d) [])
  unfolding do_steps
  may_undo true mark c d f r = subst (λ (x : Driver). Done c d x (undo_to_steps mark d)) (undo_to_left mark d) (back_legal mark c d f r)
  may_undo false mark c d f r = stands_still c d r

  may_work : (w : Work) (b : Bool) (c : Run.Conf W) (d : Given) → F c (see d) → Stays d → Settles b c → Rules (calls_of parents d) → WorkOk parents b d w → MayWork c d w
  unfolding do_steps
  may_work (batch input answers numbers) b c d f v m r k =
      let ts = work_steps parents d (batch input answers numbers) in
      let o = batch_read parents input k.0 (tried (applied parents d input answers numbers)) (length input + 1) 0 in
      let q : Rules (do_steps (see d) ts).journal = subst (λ (x : Driver). Rules x.journal) (work_refines parents d (batch input answers numbers) v).same k.2 in
      record { legal = input_legal ts b c (see d) f m k.1 o.0 o.1 q; same = refl; among = o.1; rules = q }
  may_work (undo_down mark) b c d f v m r k = may_undo (driver_ok parents d.now d.kept) mark c (see d) f r
  may_work (longer more) b c d f v m r k = stands_still c (see d) r

  pub all_done : (ws : List Work) (b : Bool) (c : Run.Conf W) (d : Given) → F c (see d) → Stays d → Settles b c → Rules (calls_of parents d) → Keeps parents b d ws
      → Done c (see d) (see (do_all parents d ws)) (all_steps parents d ws)
  unfolding Keeps do_all all_steps
  all_done [] b c d f v m r k = stands_still c (see d) r
  all_done (w ∷ ws) b c d f v m r k =
      let x = work_refines parents d w v in
      let ts = work_steps parents d w in
      let e = do_work parents d w in
      let a : Done c (see d) (see e) ts = subst (λ (y : Driver). Done c (see d) y ts) (sym x.same) (may_work w b c d f v m r k.0) in
      let c₁ = Run.run W c ts in
      let f₁ = follows_on c (see d) (see e) ts f a in
      let m₁ = steps_settle ts b c (see d) f a.among m in
      then_done c (see d) (see e) (see (do_all parents e ws)) ts (all_steps parents e ws) a (all_done ws (settled b (see d) ts) c₁ e f₁ x.whole m₁ a.rules k.1)

  -- ---- what the state holds
  entries_same : (c : Run.Conf W) (s : State) → Holds parents ids B places c.now s → (ch : Series) → parent_of ch < parents
      → entries_of edition_1 (ids_in s) (view s) ch ≡ entries_of edition_1 ids c.now.store ch
  entries_same c s h ch l =
      let n = h.names (parent_of ch) l in
      let q = h.parts ch l in
      let b = h.lists in
      λ i.
      flat (λ k. to_res (spill_read edition_1 (kind_of ch) (sources (n i) (b i).staged (b i).staged_counts.count (b i).table (b i).table_counts.count) k)) (nat_abs (q i).head.spills)
      ++ take (q i).head.len (q i).places

  pub agrees : (c : Run.Conf W) (d : Driver) → F c d → Run.Agrees W c → Agrees parents d.journal d.now
  agrees c d f a =
      let h = f.holds in
      let s = d.now in
      subst (λ (j : List ledger.Call). Agrees parents j s) f.same
      (record {
        numbers = λ ch l. ap (map absℤ) (entries_same c s h ch l) ∙ a.numbers ch;
        copies = λ p l n k. ap (negs n) (entries_same c s h (boxes p) l) ∙ a.copies p n k;
        nanoErgs = λ p l. ap (λ (b : Balance). b.nanos) (h.balances p l) ∙ a.nanoErgs p;
        amounts = λ p l t. ap (λ (b : Balance). amount_in (tokens_in b) t) (h.balances p l) ∙ a.amounts p t;
      })

  pub begin_follows : (s : State) → Holds parents ids B places (Run.start W).now s → F (Run.start W) (driver s [])
  unfolding CallsAmong
  begin_follows s h = record { holds = h; same = refl; among = tt }
