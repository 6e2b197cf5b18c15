-- What an undo to a mark that says 0 leaves: the calls up to the mark, and a settled driver.
use mathlib.Core.Path.{◌≡◌, refl, sym, ap, ◌∙◌, subst}
use mathlib.Core.Bool.{Bool, true, false, cond, ◌||◌}
use mathlib.Core.List.{List, [], ◌∷◌, ◌++◌}
use Prim.Native.Nat.{ℕ, zero, suc, ◌+◌, ◌-◌, ◌≤◌}
use native.Mathlib.Omega.{arith}
use borrow.Author.Tests.{leb-true, leb-false, eqb-true, eqb-false, eq-eqb}
use lib.Dec.{eqb, leb}
use lib.ListN.{length, drop, length-drop}
use lib.Seq.{drop-drop}
use Rattle.call_steps.specs.State.{State}
use Rattle.ledger.specs.Calls.{Call}
use Rattle.ledger.specs.Run.{Step, call, undo, flush}
use Rattle.driver_core.specs.Steps.{unmake, final}
use Rattle.driver_laws.specs.Driver.{Driver, newest_undone, do_step, do_steps, UndoneTo, undone_to, newest_code, undo_code, flush_code, undos, then_flush, turns, undos_flushed, undo_to}
use Rattle.driver_laws.specs.Internal.{OnlyCalls}
use Rattle.driver_laws.specs.Operations.{undos_steps, last_steps, undo_to_steps, settled_after, settled, CallsSettled, ReachLaw, BatchLaw}
use Rattle.driver_laws.proofs.ReachLaws.{undos_reach}

split : {A : Type 0} (Q : A → Type 0) (b : Bool) {x y : A} → (b ≡ true → Q x) → (b ≡ false → Q y) → Q (cond b x y)
split Q true f g = f refl
split Q false f g = g refl

split_two : {A B : Type 0} (Q : A → B → Type 0) (b : Bool) {x y : A} {x' y' : B} → (b ≡ true → Q x x') → (b ≡ false → Q y y') → Q (cond b x y) (cond b x' y')
split_two Q true f g = f refl
split_two Q false f g = g refl

pub steps_behind : (xs ys : List Step) (d : Driver) → do_steps d (xs ++ ys) ≡ do_steps (do_steps d xs) ys
unfolding do_steps
steps_behind [] ys d = refl
steps_behind (x ∷ xs) ys d = steps_behind xs ys (do_step d x)

settled_behind : (xs ys : List Step) (b : Bool) (d : Driver) → settled b d (xs ++ ys) ≡ settled (settled b d xs) (do_steps d xs) ys
unfolding settled do_steps
settled_behind [] ys b d = refl
settled_behind (x ∷ xs) ys b d = settled_behind xs ys (settled_after b d x) (do_step d x)

-- ---- the calls that the undos leave are the oldest ones
undone_one : (j : List Call) (s : State) → newest_code j s ≡ 0 → (newest_undone j s).journal ≡ drop 1 j
undone_one [] s e = refl
undone_one (a ∷ cs) s e = ap (λ (b : Bool). cond b cs (a ∷ cs)) (eq-eqb (unmake a s).said.code 0 e)

undone_none : (j : List Call) (s : State) → eqb (newest_code j s) 0 ≡ false → (newest_undone j s).journal ≡ j
undone_none [] s e = refl
undone_none (a ∷ cs) s e = ap (λ (b : Bool). cond b cs (a ∷ cs)) e

record Oldest (mark : ℕ) (j l : List Call) : Type 0 where
  gone : ℕ
  few : gone ≤ length j - mark
  are : l ≡ drop gone j

undos_oldest : (n mark : ℕ) (fresh : Bool) (d : Driver) → Oldest mark d.journal (undos n mark fresh d).left.journal
unfolding undos
undos_oldest zero mark fresh d = record { gone = 0; few = omega arith; are = refl }
undos_oldest (suc n) mark fresh d =
    let Q : UndoneTo → Type 0 = λ r. Oldest mark d.journal r.left.journal in
    let kept : eqb (undo_code d) 0 ≡ false → (do_step d undo).journal ≡ d.journal = undone_none d.journal d.now in
    split Q (leb (length d.journal) mark) (λ _. record { gone = 0; few = omega arith; are = refl })
    (λ q.
    split Q (eqb (undo_code d) 0)
    (λ y.
    let e = undone_one d.journal d.now (eqb-true (undo_code d) 0 y) in
    let o = undos_oldest n mark false (do_step d undo) in
    record {
      gone = 1 + o.gone;
      few = omega (arith, o.few, leb-false (length d.journal) mark q, ap length e, length-drop 1 d.journal);
      are = o.are ∙ ap (drop o.gone) e ∙ drop-drop o.gone 1 d.journal;
    })
    (λ y.
    split Q (final fresh (undo_code d)) (λ _. record { gone = 0; few = omega arith; are = kept y })
    (λ _.
    split Q (eqb (flush_code (do_step d undo)) 0)
    (λ _. subst (λ (l : List Call). Oldest mark l (undos n mark true (do_step (do_step d undo) flush)).left.journal) (kept y) (undos_oldest n mark true (do_step (do_step d undo) flush)))
    (λ _. record { gone = 0; few = omega arith; are = kept y }))))

-- ---- the steps of the undos leave what the undos leave
undos_left : (n mark : ℕ) (fresh : Bool) (d : Driver) → (undos n mark fresh d).left ≡ do_steps d (undos_steps n mark fresh d)
unfolding undos undos_steps do_steps
undos_left zero mark fresh d = refl
undos_left (suc n) mark fresh d =
    let Q : UndoneTo → List Step → Type 0 = λ r ts. r.left ≡ do_steps d ts in
    split_two Q (leb (length d.journal) mark) (λ _. refl)
    (λ _.
    split_two Q (eqb (undo_code d) 0) (λ _. undos_left n mark false (do_step d undo))
    (λ _.
    split_two Q (final fresh (undo_code d)) (λ _. refl)
    (λ _. split_two Q (eqb (flush_code (do_step d undo)) 0) (λ _. undos_left n mark true (do_step (do_step d undo) flush)) (λ _. refl))))

-- and those of an undo to a mark
pub undo_to_left : (mark : ℕ) (d : Driver) → (undo_to mark d).left ≡ do_steps d (undo_to_steps mark d)
unfolding undo_to undo_to_steps do_steps
undo_to_left mark d =
    let Q : UndoneTo → List Step → Type 0 = λ r ts. r.left ≡ do_steps d ts in
    let d₁ = do_step d flush in
    let r = undos_flushed mark d in
    let ts = undos_steps (turns d) mark true d₁ in
    let e : r.left ≡ do_steps d₁ ts = undos_left (turns d) mark true d₁ in
    split_two Q (leb (length d.journal) mark) (λ _. refl)
    (λ _.
    split_two Q (eqb (flush_code d) 0)
    (λ _.
    split_two (λ (x : UndoneTo) (ys : List Step). x.left ≡ do_steps d₁ (ts ++ ys)) (eqb r.code 0)
    (λ _. ap (λ (x : Driver). do_step x flush) e ∙ sym (steps_behind ts (flush ∷ []) d₁)) (λ _. e ∙ sym (steps_behind ts [] d₁))) (λ _. refl))

-- the flush behind them settles
settles : (b : Bool) → b || true ≡ true
settles true = refl
settles false = refl

close_settles : (r : UndoneTo) (ts : List Step) (d : Driver) (b : Bool) → r.left ≡ do_steps d ts → (then_flush r).code ≡ 0 → settled b d (ts ++ last_steps r) ≡ true
unfolding settled
close_settles r ts d b e = by (eqb r.code 0) refl
  where
    by : (c : Bool) → eqb r.code 0 ≡ c → (cond c (undone_to (do_step r.left flush) (flush_code r.left)) r).code ≡ 0
        → settled b d (ts ++ cond c (flush ∷ []) []) ≡ true
    by true q z =
        settled_behind ts (flush ∷ []) b d
        ∙ ap (λ (c : Bool). settled b d ts || c) (ap (λ (x : Driver). eqb (flush_code x) 0) (sym e) ∙ eq-eqb (flush_code r.left) 0 z) ∙ settles (settled b d ts)
    by false q z = absurd (eqb-false r.code 0 q z)

close_same : (r : UndoneTo) → (then_flush r).left.journal ≡ r.left.journal
close_same r = split (λ (x : UndoneTo). x.left.journal ≡ r.left.journal) (eqb r.code 0) (λ _. refl) (λ _. refl)

close_code : (r : UndoneTo) → (then_flush r).code ≡ 0 → r.code ≡ 0
close_code r = by (eqb r.code 0) refl
  where
    by : (c : Bool) → eqb r.code 0 ≡ c → (cond c (undone_to (do_step r.left flush) (flush_code r.left)) r).code ≡ 0 → r.code ≡ 0
    by true q z = eqb-true r.code 0 q
    by false q z = z

pub reach : ReachLaw
unfolding undo_to undo_to_steps settled
reach mark d = by (leb (length d.journal) mark) refl
  where
    by : (b : Bool) → leb (length d.journal) mark ≡ b
        → (cond b (undone_to d 0) (cond (eqb (flush_code d) 0) (then_flush (undos_flushed mark d)) (undone_to (do_step d flush) (flush_code d)))).code ≡ 0
        → ((cond b (undone_to d 0) (cond (eqb (flush_code d) 0) (then_flush (undos_flushed mark d)) (undone_to (do_step d flush) (flush_code d)))).left.journal
        ≡ drop (length d.journal - mark) d.journal)
        × (settled true d (cond b [] (cond (eqb (flush_code d) 0) (flush ∷ (undos_steps (turns d) mark true (do_step d flush) ++ last_steps (undos_flushed mark d))) (flush ∷ []))) ≡ true)
    by true q e =
        let n : 0 ≡ length d.journal - mark = omega (arith, leb-true (length d.journal) mark q) in
        (ap (λ (k : ℕ). drop k d.journal) n, refl)
    by false q e = on (eqb (flush_code d) 0) refl e
      where
        on : (c : Bool) → eqb (flush_code d) 0 ≡ c
            → (cond c (then_flush (undos_flushed mark d)) (undone_to (do_step d flush) (flush_code d))).code ≡ 0
            → ((cond c (then_flush (undos_flushed mark d)) (undone_to (do_step d flush) (flush_code d))).left.journal ≡ drop (length d.journal - mark) d.journal)
            × (settled true d (cond c (flush ∷ (undos_steps (turns d) mark true (do_step d flush) ++ last_steps (undos_flushed mark d))) (flush ∷ [])) ≡ true)
        on true w z =
            let r = undos_flushed mark d in
            let o = undos_oldest (turns d) mark true (do_step d flush) in
            let l = undos_reach (turns d) mark true (do_step d flush) (omega arith) (close_code r z) in
            let n : o.gone ≡ length d.journal - mark = omega (arith, o.few, l, ap length o.are, length-drop o.gone d.journal) in (
              close_same r ∙ o.are ∙ ap (λ (k : ℕ). drop k d.journal) n,
              close_settles r (undos_steps (turns d) mark true (do_step d flush)) (do_step d flush) true (undos_left (turns d) mark true (do_step d flush)) z,
            )
        on false w z = absurd (eqb-false (flush_code d) 0 w z)

pub batch_settled : BatchLaw
unfolding settled CallsSettled OnlyCalls
batch_settled d [] o = (tt, refl)
batch_settled d (call a ∷ ts) o = let r = batch_settled (do_step d (call a)) ts o in ((refl, r.0), r.1)
batch_settled d (undo ∷ ts) o = absurd o
batch_settled d (flush ∷ ts) o = let r = batch_settled (do_step d flush) ts o in ((tt, r.0), r.1)
