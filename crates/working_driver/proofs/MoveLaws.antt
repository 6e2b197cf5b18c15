-- What a driver does over a working set is a legal list of the fork-undo theorem's steps on the table.
use Prim.Native.Nat.{ℕ, zero, suc, ◌+◌}
use mathlib.Core.Path.{◌≡◌, refl, sym, ap, ◌∙◌, subst}
use mathlib.Core.Logic.{◌≢◌}
use mathlib.Core.Bool.{Bool, true, false, cond, ◌&&◌}
use mathlib.Core.List.{List, [], ◌∷◌, ◌++◌}
use native.Mathlib.Omega.{arith}
use borrow.Author.Tests.{leb-false, eqb-true}
use lib.Dec.{eqb, leb}
use lib.ListN.{length}
use Rattle.index_types.specs.declared.RowEdition.TheVariants.{One}
use Rattle.buffer_core.specs.Edition.{edition_1}
use Rattle.call_steps.specs.declared.Said.{Said}
use Rattle.call_steps.specs.State.{State, blocks_ok, lengths_ok, state_ok}
use Rattle.ledger.specs.Ledger.{Rules}
use Rattle.ledger.specs.Calls.{Parent, Call}
use Rattle.ledger.specs.Run.{Step, call, undo, flush, MayUndo}
use Rattle.ledger.specs.Run as Run
use Rattle.history.specs.Index.{do_flush}
use Rattle.history.specs.Machine.{Borrowed}
use Rattle.history.specs.ForkUndo.{Places}
use Rattle.history.proofs.ForkUndoLaw.{fork_undo}
use Rattle.history_runs.specs.View.{ids_in, filled}
use Rattle.history_runs.specs.Runs.{M, Agrees}
use Rattle.history_runs.proofs.StartLaws.{filled_long, borrowed, start_holds}
use Rattle.driver_core.specs.Steps.{final, may_be_lifted}
use Rattle.driver_core.specs.Bytes.{Journal}
use Rattle.driver_core.specs.Apply.{journal_ok, driver_ok}
use Rattle.working_steps.proofs.BatchLaws.{ok_same}
use Rattle.lent_steps.specs.Lent.{with_spills, Lent}
use Rattle.driver_laws.specs.Driver.{Driver, driver, do_step, do_steps, UndoneTo, undo_code, flush_code, turns, undos_flushed}
use Rattle.driver_laws.specs.Internal.{StepsAmong}
use Rattle.driver_laws.specs.Journal.{Whole, tried}
use Rattle.driver_laws.specs.Operations.{undos_steps, last_steps, undo_to_steps, settled}
use Rattle.driver_laws.specs.Theorem.{Work, batch, undo_down, longer, Given, calls_of, applied, do_work, work_steps, StepsSaid, begun, machine}
use Rattle.driver_laws.proofs.InputLaws.{batch_read}
use Rattle.driver_laws.proofs.RefineLaws.{work_refines}
use Rattle.driver_laws.proofs.HoldLaws.{Follows, steps_follow}
use Rattle.driver_laws.proofs.OpLaws.{undone_rules, followed_rules, flush_clean, flush_undos, undo_undos, Settles, steps_settle, input_legal, Done, stands_still, then_done, begin_follows, agrees}
use Rattle.driver_laws.proofs.OkLaws.{steps_fit, start_fits, passes}
use Rattle.driver_laws.proofs.TheoremLaws.{no_calls, none_stand}
use Rattle.driver_laws.proofs.TheoremLaws as driver_told
use Rattle.working_driver.specs.Shared.{step_code, shared, TableSays}
use Rattle.working_driver.specs.Theorem.{Move, does, borrows, on_work, on_table, move_steps, moved, table_moved, all_moved, table_after, all_steps, MoveOk, Keeps, MoveTold, MovesTold, WorkingDriverTheorem}
use Rattle.working_driver.proofs.PairLaws.{Pair, Goes, both, skips, step_goes, steps_go, steps_told, shared_calls, shared_among}

split : {A : Type 0} (Q : A → Type 0) (b : Bool) {x y : A} → (b ≡ true → Q x) → (b ≡ false → Q y) → Q (cond b x y)
split Q true f g = f refl
split Q false f g = g refl

said_behind : (xs ys : List Step) (d : Driver) → StepsSaid d (xs ++ ys) → StepsSaid d xs × StepsSaid (do_steps d xs) ys
unfolding StepsSaid do_steps
said_behind [] ys d h = (tt, h)
said_behind (x ∷ xs) ys d h = let q = said_behind xs ys (do_step d x) h.1 in ((h.0, q.0), q.1)

-- ---- the steps of an undo to a mark: undos while a call stands, and flushes
unfoldable OnlyUndos : Driver → List Step → Type 0
OnlyUndos d [] = Unit {0}
OnlyUndos d (call a ∷ ts) = ⊥
OnlyUndos d (undo ∷ ts) = (d.journal ≢ []) × OnlyUndos (do_step d undo) ts
OnlyUndos d (flush ∷ ts) = OnlyUndos (do_step d flush) ts

undos_behind : (xs ys : List Step) (d : Driver) → OnlyUndos d xs → OnlyUndos (do_steps d xs) ys → OnlyUndos d (xs ++ ys)
unfolding OnlyUndos do_steps
undos_behind [] ys d a b = b
undos_behind (call c ∷ xs) ys d a b = absurd a
undos_behind (undo ∷ xs) ys d a b = (a.0, undos_behind xs ys (do_step d undo) a.1 b)
undos_behind (flush ∷ xs) ys d a b = undos_behind xs ys (do_step d flush) a b

some : (l : List Call) (mark : ℕ) → leb (length l) mark ≡ false → l ≢ []
some l mark e z = let n : length l ≡ 0 = ap length z in omega (arith, n, leb-false (length l) mark e)

undos_only : (n mark : ℕ) (fresh : Bool) (d : Driver) → OnlyUndos d (undos_steps n mark fresh d)
unfolding OnlyUndos undos_steps
undos_only zero mark fresh d = tt
undos_only (suc n) mark fresh d =
    let Q = OnlyUndos d in
    split Q (leb (length d.journal) mark) (λ _. tt)
    (λ e.
    let z = some d.journal mark e in
    split Q (eqb (undo_code d) 0) (λ _. (z, undos_only n mark false (do_step d undo)))
    (λ _.
    split Q (final fresh (undo_code d)) (λ _. (z, tt))
    (λ _. split Q (eqb (flush_code (do_step d undo)) 0) (λ _. (z, undos_only n mark true (do_step (do_step d undo) flush))) (λ _. (z, tt)))))

last_only : (r : UndoneTo) (d : Driver) → OnlyUndos d (last_steps r)
unfolding OnlyUndos
last_only r d = split (OnlyUndos d) (eqb r.code 0) (λ _. tt) (λ _. tt)

undos_among : (parents : ℕ) (ts : List Step) (d : Driver) → OnlyUndos d ts → StepsAmong parents ts
unfolding OnlyUndos StepsAmong
undos_among parents [] d o = tt
undos_among parents (call a ∷ ts) d o = absurd o
undos_among parents (undo ∷ ts) d o = (tt, undos_among parents ts (do_step d undo) o.1)
undos_among parents (flush ∷ ts) d o = (tt, undos_among parents ts (do_step d flush) o)

undo_to_only : (mark : ℕ) (d : Driver) → OnlyUndos d (undo_to_steps mark d)
unfolding undo_to_steps OnlyUndos
undo_to_only mark d =
    split (OnlyUndos d) (leb (length d.journal) mark) (λ _. tt)
    (λ _.
    split (OnlyUndos d) (eqb (flush_code d) 0)
    (λ _.
    let ts = undos_steps (turns d) mark true (do_step d flush) in
    undos_behind ts (last_steps (undos_flushed mark d)) (do_step d flush) (undos_only (turns d) mark true (do_step d flush)) (last_only (undos_flushed mark d) (do_steps (do_step d flush) ts))) (λ _. tt))

nothing_only : (d : Driver) → OnlyUndos d []
unfolding OnlyUndos
nothing_only d = tt

may_undo : (mark : ℕ) (d : Driver) (x : Bool) → OnlyUndos d (cond x (undo_to_steps mark d) [])
may_undo mark d true = undo_to_only mark d
may_undo mark d false = nothing_only d

undos_rules : (ts : List Step) (d : Driver) → OnlyUndos d ts → Rules d.journal → Rules (do_steps d ts).journal
unfolding OnlyUndos do_steps
undos_rules [] d o r = r
undos_rules (call a ∷ ts) d o r = absurd o
undos_rules (undo ∷ ts) d o r = undos_rules ts (do_step d undo) o.1 (undone_rules d.journal d.now r)
undos_rules (flush ∷ ts) d o r = undos_rules ts (do_step d flush) o r

module _ (parents : ℕ) (ids : Parent → List ℕ) (B : Borrowed edition_1) (places : Parent → Places) where
  abbrev W : Run.Machine
  W = M parents ids B places

  abbrev P : Run.Conf W → Driver → Driver → Type 0
  P c d e = Pair parents ids B places c d e

  abbrev G : Run.Conf W → Driver → Driver → Step → Type 0
  G c d e t = Goes parents ids B places c d e t

  -- the steps that count are legal on the table
  abbrev LegalOn : Run.Conf W → Driver → List Step → Type 0
  LegalOn c d ts = Run.Legal W c (shared d ts)

  undo_legal : (ts : List Step) (c : Run.Conf W) (d e : Driver) → P c d e → MayUndo c.phase → OnlyUndos d ts → TableSays d e ts → Rules e.journal → LegalOn c d ts
  unfolding OnlyUndos TableSays shared Run.Legal
  undo_legal [] c d e p m o k r = tt
  undo_legal (call a ∷ ts) c d e p m o k r = absurd o
  undo_legal (undo ∷ ts) c d e p m o k r =
      by (step_goes parents ids B places c d e p undo tt k.0 k.1) (λ c₁ e₁ q n v s. undo_legal ts c₁ (do_step d undo) e₁ q n o.1 v s)
    where
      by : G c d e undo
          → ((c₁ : Run.Conf W) (e₁ : Driver) → P c₁ (do_step d undo) e₁ → MayUndo c₁.phase → TableSays (do_step d undo) e₁ ts → Rules e₁.journal → LegalOn c₁ (do_step d undo) ts)
          → Run.Legal W c (cond (may_be_lifted (step_code d undo)) (shared (do_step d undo) ts) (undo ∷ shared (do_step d undo) ts))
      by (both z n q) on =
          let s : Rules (do_step e undo).journal = undone_rules e.journal e.now r in
          let v = subst (λ (b : Bool). TableSays (do_step d undo) (cond b e (do_step e undo)) ts) n k.2 in
          let c₁ = Run.step W c undo in
          subst (λ (b : Bool). Run.Legal W c (cond b (shared (do_step d undo) ts) (undo ∷ shared (do_step d undo) ts))) (sym n) (
            (m, (λ y. o.0 (p.same ∙ sym p.follows.same ∙ y))),
            followed_rules parents ids B places c₁ (do_step e undo) q.follows s,
            on c₁ (do_step e undo) q (undo_undos parents ids B places c c.standing m) v s,
          )
      by (skips n q) on =
          subst (λ (b : Bool). Run.Legal W c (cond b (shared (do_step d undo) ts) (undo ∷ shared (do_step d undo) ts))) (sym n)
          (on c e q m (subst (λ (b : Bool). TableSays (do_step d undo) (cond b e (do_step e undo)) ts) n k.2) r)
  undo_legal (flush ∷ ts) c d e p m o k r =
      by (step_goes parents ids B places c d e p flush tt k.0 k.1) (λ c₁ e₁ q n v s. undo_legal ts c₁ (do_step d flush) e₁ q n o v s)
    where
      by : G c d e flush
          → ((c₁ : Run.Conf W) (e₁ : Driver) → P c₁ (do_step d flush) e₁ → MayUndo c₁.phase → TableSays (do_step d flush) e₁ ts → Rules e₁.journal → LegalOn c₁ (do_step d flush) ts)
          → Run.Legal W c (cond (may_be_lifted (step_code d flush)) (shared (do_step d flush) ts) (flush ∷ shared (do_step d flush) ts))
      by (both z n q) on =
          let v = subst (λ (b : Bool). TableSays (do_step d flush) (cond b e (do_step e flush)) ts) n k.2 in
          let c₁ = Run.step W c flush in
          subst (λ (b : Bool). Run.Legal W c (cond b (shared (do_step d flush) ts) (flush ∷ shared (do_step d flush) ts))) (sym n) (
            tt,
            followed_rules parents ids B places c₁ (do_step e flush) q.follows r,
            on c₁ (do_step e flush) q (flush_undos parents ids B places c (Run.with_store W c.now (do_flush edition_1 ids c.now.store)) m) v r,
          )
      by (skips n q) on =
          subst (λ (b : Bool). Run.Legal W c (cond b (shared (do_step d flush) ts) (flush ∷ shared (do_step d flush) ts))) (sym n)
          (on c e q m (subst (λ (b : Bool). TableSays (do_step d flush) (cond b e (do_step e flush)) ts) n k.2) r)

  -- the flush at the change, then the undos; or that flush alone
  begin_legal : (ts : List Step) (c : Run.Conf W) (d e : Driver) → P c d e → (flush_code d ≡ 0) → OnlyUndos (do_step d flush) ts → TableSays d e (flush ∷ ts) → Rules e.journal → LegalOn c d (flush ∷ ts)
  unfolding TableSays shared Run.Legal
  begin_legal ts c d e p h o k r = by (step_goes parents ids B places c d e p flush tt k.0 k.1)
    where
      by : G c d e flush → Run.Legal W c (cond (may_be_lifted (step_code d flush)) (shared (do_step d flush) ts) (flush ∷ shared (do_step d flush) ts))
      by (both z n q) =
          let v = subst (λ (b : Bool). TableSays (do_step d flush) (cond b e (do_step e flush)) ts) n k.2 in
          let c₁ = Run.step W c flush in
          let m : MayUndo c₁.phase = subst MayUndo (sym (flush_clean parents ids B places c e p.follows (ap (λ (x : Said). x.code) (sym z) ∙ h))) tt in
          subst (λ (b : Bool). Run.Legal W c (cond b (shared (do_step d flush) ts) (flush ∷ shared (do_step d flush) ts))) (sym n)
          (tt, followed_rules parents ids B places c₁ (do_step e flush) q.follows r, undo_legal ts c₁ (do_step d flush) (do_step e flush) q m o v r)
      by (skips n q) = let y : ◌≡◌ {A = Bool} false true = ap may_be_lifted (sym h) ∙ n in let w : ◌≡◌ {A = ℕ} 0 1 = cc in absurd (omega arith)

  one_legal : (c : Run.Conf W) (d e : Driver) → P c d e → TableSays d e (flush ∷ []) → Rules e.journal → LegalOn c d (flush ∷ [])
  unfolding TableSays shared Run.Legal
  one_legal c d e p k r = by (step_goes parents ids B places c d e p flush tt k.0 k.1)
    where
      by : G c d e flush → Run.Legal W c (cond (may_be_lifted (step_code d flush)) [] (flush ∷ []))
      by (both z n q) =
          subst (λ (b : Bool). Run.Legal W c (cond b [] (flush ∷ []))) (sym n) (tt, followed_rules parents ids B places (Run.step W c flush) (do_step e flush) q.follows r, tt)
      by (skips n q) = subst (λ (b : Bool). Run.Legal W c (cond b [] (flush ∷ []))) (sym n) tt

  none_legal : (c : Run.Conf W) (d : Driver) → LegalOn c d []
  unfolding shared Run.Legal
  none_legal c d = tt

  undo_to_legal : (mark : ℕ) (c : Run.Conf W) (d e : Driver) → P c d e → TableSays d e (undo_to_steps mark d) → Rules e.journal → LegalOn c d (undo_to_steps mark d)
  unfolding undo_to_steps
  undo_to_legal mark c d e p k r =
      split (λ (ts : List Step). TableSays d e ts → LegalOn c d ts) (leb (length d.journal) mark) (λ _ _. none_legal c d)
      (λ _.
      split (λ (ts : List Step). TableSays d e ts → LegalOn c d ts) (eqb (flush_code d) 0)
      (λ q v.
      let d₁ = do_step d flush in
      let ts = undos_steps (turns d) mark true d₁ in
      begin_legal (ts ++ last_steps (undos_flushed mark d)) c d e p (eqb-true (flush_code d) 0 q)
      (undos_behind ts (last_steps (undos_flushed mark d)) d₁ (undos_only (turns d) mark true d₁) (last_only (undos_flushed mark d) (do_steps d₁ ts))) v r)
      (λ _ v. one_legal c d e p v r)) k

  -- ---- what a driver does
  pub record Moved (c : Run.Conf W) (d : Given) (t : State) (m : Move) : Type 0 where
    pub done : Done parents ids B places c (on_table parents d t) (on_table parents (moved parents d m) (table_moved parents d t m)) (move_steps parents d m)
    pub pair : P (Run.run W c (move_steps parents d m)) (on_work parents (moved parents d m)) (on_table parents (moved parents d m) (table_moved parents d t m))
    pub whole : Whole parents (moved parents d m).kept.count (moved parents d m).kept
    pub told : StepsSaid (on_table parents d t) (move_steps parents d m) → MoveTold parents d m

  -- from what is read of the steps of some work
  finish : (w : Work) (c : Run.Conf W) (d : Given) (t : State) → P c (on_work parents d) (on_table parents d t) → Whole parents d.kept.count d.kept
      → (let ts = work_steps parents d w in
      StepsAmong parents ts → TableSays (on_work parents d) (on_table parents d t) ts
      → (Rules (do_steps (on_table parents d t) (shared (on_work parents d) ts)).journal → LegalOn c (on_work parents d) ts)
      → Rules (calls_of parents (do_work parents d w)) → Moved c d t (does w))
  finish w c d t p v a k l r =
      let ts = work_steps parents d w in
      let dw = on_work parents d in
      let dt = on_table parents d t in
      let x = work_refines parents d w v in
      let q = steps_go parents ids B places ts c dw dt p a k in
      let e : calls_of parents (do_work parents d w) ≡ (do_steps dt (shared dw ts)).journal = ap (λ (y : Driver). y.journal) x.same ∙ q.same in
      let z : driver (do_steps dt (shared dw ts)).now (calls_of parents (do_work parents d w)) ≡ do_steps dt (shared dw ts) = λ i. driver (do_steps dt (shared dw ts)).now (e i) in
      let g : P (Run.run W c (shared dw ts)) (on_work parents (do_work parents d w)) (do_steps dt (shared dw ts)) = subst (λ (y : Driver). P (Run.run W c (shared dw ts)) y (do_steps dt (shared dw ts))) (sym x.same) q in
      record {
        done = record { legal = l (subst Rules e r); same = z; among = shared_among parents ts dw a; rules = r };
        pair = subst (P (Run.run W c (shared dw ts)) (on_work parents (do_work parents d w))) (sym z) g;
        whole = x.whole;
        told = steps_told parents ids B places ts c dw dt p a k;
      }

  -- work without calls
  quiet_moved : (w : Work) (c : Run.Conf W) (d : Given) (t : State) → P c (on_work parents d) (on_table parents d t) → Whole parents d.kept.count d.kept → Rules (calls_of parents d)
      → TableSays (on_work parents d) (on_table parents d t) (work_steps parents d w) → OnlyUndos (on_work parents d) (work_steps parents d w)
      → LegalOn c (on_work parents d) (work_steps parents d w) → Moved c d t (does w)
  quiet_moved w c d t p v r k o l =
      let ts = work_steps parents d w in
      let dw = on_work parents d in
      finish w c d t p v (undos_among parents ts dw o) k (λ _. l) (subst (λ (y : Driver). Rules y.journal) (sym (work_refines parents d w v).same) (undos_rules ts dw o r))

  may_undo_legal : (mark : ℕ) (c : Run.Conf W) (d e : Driver) → P c d e → Rules e.journal → (x : Bool) → TableSays d e (cond x (undo_to_steps mark d) []) → LegalOn c d (cond x (undo_to_steps mark d) [])
  may_undo_legal mark c d e p r true k = undo_to_legal mark c d e p k r
  may_undo_legal mark c d e p r false k = none_legal c d

  does_moved : (w : Work) (b : Bool) (c : Run.Conf W) (d : Given) (t : State) → P c (on_work parents d) (on_table parents d t) → Whole parents d.kept.count d.kept
      → Settles parents ids B places b c → Rules (calls_of parents d) → MoveOk parents b d t (does w) → Moved c d t (does w)
  does_moved (batch input answers numbers) b c d t p v m r k =
      let w = batch input answers numbers in
      let ts = work_steps parents d w in
      let dw = on_work parents d in
      let o = batch_read parents input k.0.0 (tried (applied parents d input answers numbers)) (length input + 1) 0 in
      finish w c d t p v o.1 k.1
      (λ q. input_legal parents ids B places (shared dw ts) b c (on_table parents d t) p.follows m k.0.1 (shared_calls ts dw o.0) (shared_among parents ts dw o.1) q) k.0.2
  does_moved (undo_down mark) b c d t p v m r k =
      quiet_moved (undo_down mark) c d t p v r k.1 (may_undo mark (on_work parents d) (driver_ok parents d.now d.kept))
      (may_undo_legal mark c (on_work parents d) (on_table parents d t) p r (driver_ok parents d.now d.kept) k.1)
  does_moved (longer more) b c d t p v m r k = quiet_moved (longer more) c d t p v r k.1 (nothing_only (on_work parents d)) (none_legal c (on_work parents d))

  pub move_moved : (m : Move) (b : Bool) (c : Run.Conf W) (d : Given) (t : State) → P c (on_work parents d) (on_table parents d t) → Whole parents d.kept.count d.kept
      → Settles parents ids B places b c → Rules (calls_of parents d) → MoveOk parents b d t m → Moved c d t m
  unfolding do_steps Run.run
  move_moved (does w) b c d t p v m r k = does_moved w b c d t p v m r k
  move_moved (borrows x) b c d t p v m r k =
      record { done = stands_still parents ids B places c (on_table parents d t) r; pair = record { follows = p.follows; lent = k; same = refl }; whole = v; told = λ _. tt }

  pub record AllMoved (c : Run.Conf W) (d : Given) (t : State) (ms : List Move) : Type 0 where
    pub done : Done parents ids B places c (on_table parents d t) (on_table parents (all_moved parents d t ms) (table_after parents d t ms)) (all_steps parents d t ms)
    pub lent : Lent parents (all_moved parents d t ms).now (table_after parents d t ms)
    pub whole : Whole parents (all_moved parents d t ms).kept.count (all_moved parents d t ms).kept
    pub told : StepsSaid (on_table parents d t) (all_steps parents d t ms) → MovesTold parents d t ms

  pub moves_moved : (ms : List Move) (b : Bool) (c : Run.Conf W) (d : Given) (t : State) → P c (on_work parents d) (on_table parents d t) → Whole parents d.kept.count d.kept
      → Settles parents ids B places b c → Rules (calls_of parents d) → Keeps parents b d t ms → AllMoved c d t ms
  unfolding Keeps all_moved table_after all_steps MovesTold
  moves_moved [] b c d t p v m r k = record { done = stands_still parents ids B places c (on_table parents d t) r; lent = p.lent; whole = v; told = λ _. tt }
  moves_moved (x ∷ ms) b c d t p v m r k =
      let y = move_moved x b c d t p v m r k.0 in
      let ts = move_steps parents d x in
      let c₁ = Run.run W c ts in
      let d₁ = moved parents d x in
      let t₁ = table_moved parents d t x in
      let m₁ = steps_settle parents ids B places ts b c (on_table parents d t) p.follows y.done.among m in
      let z = moves_moved ms (settled b (on_table parents d t) ts) c₁ d₁ t₁ y.pair y.whole m₁ y.done.rules k.1 in
      record {
        done = then_done parents ids B places c (on_table parents d t) (on_table parents d₁ t₁) (on_table parents (all_moved parents d₁ t₁ ms) (table_after parents d₁ t₁ ms)) ts (all_steps parents d₁ t₁ ms) y.done z.done;
        lent = z.lent;
        whole = z.whole;
        told = λ h.
            let q = said_behind ts (all_steps parents d₁ t₁ ms) (on_table parents d t) h in
            (y.told q.0, z.told (subst (λ (e : Driver). StepsSaid e (all_steps parents d₁ t₁ ms)) (sym y.done.same) q.1));
      }

-- 25 is said of both or of neither
lent_ok : (parents : ℕ) (w t : State) (j : Journal) → Lent parents w t → driver_ok parents w j ≡ driver_ok parents t j
unfolding state_ok
lent_ok parents w t j b =
    ap (λ (x : Bool). (blocks_ok parents w.ids w.numbers w.lengths w.spills && (lengths_ok parents w.lengths && x)) && journal_ok j) (b.ready.listed ∙ sym b.beside.work_ready.listed)
    ∙ ok_same parents (with_spills t.lists w) t j b.beside

pub working_driver_theorem : WorkingDriverTheorem
working_driver_theorem parents places s E w bytes ms b k q =
    let B = borrowed parents places s E in
    let ids = filled (ids_in s) in
    let h = start_holds parents places s E in
    let long = filled_long (ids_in s) in
    let N = machine parents places s E in
    let d = begun w bytes in
    let z = none_stand parents s bytes in
    let f = begin_follows parents ids B places s h in
    let g = subst (Follows parents ids B places (Run.start N)) (sym z) f in
    let r : Rules (calls_of parents d) = subst (λ (x : Driver). Rules x.journal) (sym z) tt in
    let ts = all_steps parents d s ms in
    let p : Pair parents ids B places (Run.start N) (on_work parents d) (on_table parents d s) = record { follows = g; lent = b; same = refl } in
    let a = moves_moved parents ids B places ms true (Run.start N) d s p (no_calls parents bytes) (λ _. tt) r k in
    let x = all_moved parents d s ms in
    let e = on_table parents x (table_after parents d s ms) in
    let same : e ≡ do_steps (driver s []) ts = a.done.same ∙ ap (λ (x : Driver). do_steps x ts) z in
    let t = fork_undo One ids long B places ts a.done.legal q in
    let l = steps_follow parents ids B places ts (Run.start N) (driver s []) f a.done.among in
    record {
      lent = a.lent;
      passes =
          lent_ok parents x.now e.now x.kept a.lent
          ∙ passes parents ids B places (Run.run N (Run.start N) ts) e x.kept (subst (Follows parents ids B places (Run.run N (Run.start N) ts)) (sym same) l)
          (steps_fit parents ids B places ts (Run.start N) (driver s []) f a.done.among (start_fits parents ids B places)) a.whole;
      said = a.told (subst (λ (x : Driver). StepsSaid x ts) (sym z) (driver_told.steps_told parents ids B places ts (Run.start N) (driver s []) f a.done.among t.0));
      stand = l.same ∙ ap (λ (x : Driver). x.journal) (sym same);
      agrees = subst (λ (x : Driver). Agrees parents x.journal x.now) (sym same) (agrees parents ids B places (Run.run N (Run.start N) ts) (do_steps (driver s []) ts) l t.1);
    }
