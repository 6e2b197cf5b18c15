-- A batch over a working set goes as the one over the table until a call or flush ends it by 12 or 22.
use Prim.Native.Nat.{ℕ, zero, suc, ◌+◌, ◌/◌, ◌-◌, ◌<◌}
use mathlib.Core.Path.{◌≡◌, refl, sym, ap, ◌∙◌, subst}
use mathlib.Core.Bool.{Bool, true, false, cond, ◌&&◌}
use mathlib.Core.List.{List}
use borrow.Author.Tests.{leb-false}
use lib.Dec.{eqb, leb, ltb}
use lib.IntN.{ℤ}
use lib.ListN.{length}
use Rattle.buffer_core.specs.Edition.{edition_1}
use Rattle.buffer_core.specs.Pop.{lists_ok}
use Rattle.call_steps.specs.declared.Said.{Said}
use Rattle.call_steps.specs.State.{State, blocks_ok, lengths_ok, state_ok}
use Rattle.call_steps.specs.Steps.{Stepping, stepping, refused}
use Rattle.ledger.specs.Run.{call, undo, flush}
use Rattle.driver_core.specs.Steps.{make, flushing, take, is_accepted, may_be_lifted}
use Rattle.driver_core.specs.Bytes.{Item, is, takes, bad, cut, end, kind_at, parent_at, value_in, tokens_told, is_change, plain, headed, item_at, size_at, Journal, pushed}
use Rattle.driver_core.specs.Apply.{Applying, applying, ended_by, stopped, answered, stepped, room_for, on_item, apply_turns, apply_of, journal_ok, driver_ok}
use Rattle.working_steps.specs.Beside.{Beside, makes, flushes, CallOf, TakingOf, Outcome, as_table, lacks, full, full_table}
use Rattle.working_steps.specs.Beside as beside
use Rattle.working_steps.specs.Laws.{SameBatch, BatchLaw}
use Rattle.working_steps.proofs.StepLaws.{step_law}

pub split : {A : Type 0} (Q : A → Type 0) (b : Bool) {x y : A} → (b ≡ true → Q x) → (b ≡ false → Q y) → Q (cond b x y)
split Q true f g = f refl
split Q false f g = g refl

pub split_two : {A B : Type 0} (Q : A → B → Type 0) (b : Bool) {x y : A} {x' y' : B} → Q x x' → Q y y' → Q (cond b x y) (cond b x' y')
split_two Q true f g = f
split_two Q false f g = g

-- ---- what is read names a parent that is there
abbrev pub ItemOf : (parents : ℕ) → Item → Type 0
ItemOf parents (is (call a)) = CallOf parents a
ItemOf parents (is undo) = Unit {0}
ItemOf parents (is flush) = Unit {0}
ItemOf parents (takes t) = TakingOf parents t
ItemOf parents bad = Unit {0}
ItemOf parents cut = Unit {0}
ItemOf parents end = Unit {0}

plain_of : (parents kind p : ℕ) (n : ℤ) → p < parents → ItemOf parents (plain kind p n)
plain_of parents kind p n h =
    split (ItemOf parents) (eqb kind 1) (λ _. h)
    (λ _.
    split (ItemOf parents) (eqb kind 2) (λ _. h)
    (λ _.
    split (ItemOf parents) (eqb kind 3) (λ _. h)
    (λ _.
    split (ItemOf parents) (eqb kind 4) (λ _. h) (λ _. split (ItemOf parents) (eqb kind 5) (λ _. h) (λ _. split (ItemOf parents) (eqb kind 6) (λ _. h) (λ _. tt))))))

pub headed_of : (parents : ℕ) (s : List ℕ) (h room t : ℕ) (short : Item) → ItemOf parents short → ItemOf parents (headed parents s h room t short)
headed_of parents s h room t short k =
    let Q = ItemOf parents in
    split Q (eqb (kind_at s h) 7) (λ _. split Q (eqb (tokens_told s h) 0) (λ _. tt) (λ _. tt))
    (λ _.
    split Q (leb parents (parent_at s h)) (λ _. tt)
    (λ e.
    let l : parent_at s h < parents = leb-false parents (parent_at s h) e in
    split Q (is_change (kind_at s h))
    (λ _. split Q (ltb room (tokens_told s h)) (λ _. k) (λ _. split Q (eqb (kind_at s h) 8) (λ _. l) (λ _. l)))
    (λ _. split Q (eqb (tokens_told s h) 0) (λ _. plain_of parents (kind_at s h) (parent_at s h) (value_in s h) l) (λ _. tt))))

item_of : (parents : ℕ) (s : List ℕ) (at : ℕ) → ItemOf parents (item_at parents s at)
unfolding item_at
item_of parents s at =
    split (ItemOf parents) (leb (length s) at) (λ _. tt)
    (λ _. split (ItemOf parents) (ltb (length s - at) 17) (λ _. tt) (λ _. headed_of parents s at ((length s - at - 17) / 40) (at + 17) cut tt))

-- ---- 25 is said of both or of neither
pub ok_same : (parents : ℕ) (w t : State) (j : Journal) → Beside parents w t → driver_ok parents w j ≡ driver_ok parents t j
unfolding state_ok
ok_same parents w t j b =
    ap (λ (x : Bool). (blocks_ok parents w.ids w.numbers w.lengths w.spills && (lengths_ok parents w.lengths && x)) && journal_ok j) (b.work_ready.listed ∙ sym b.table_ready.listed)
    ∙ ap (λ (s : State). (blocks_ok parents s.ids s.numbers s.lengths s.spills && (lengths_ok parents s.lengths && lists_ok edition_1 t.lists)) && journal_ok j) b.same

-- ---- where two batches have come
pub data Batches (parents : ℕ) (x y : Applying) : Type 0 where
  alike : SameBatch parents x y → Batches parents x y
  lacking : x.ended ≡ 12 → Batches parents x y
  filled : x.ended ≡ 22 → Batches parents x y
  filled_table : y.ended ≡ 22 → Batches parents x y

-- the batch over the table, where the one over the working set has come
abbrev over : State → Applying → Applying
over t r = applying t r.kept r.at r.made r.ended r.answers r.popped

module _ (journaled : Bool) (parents : ℕ) (s : List ℕ) where
  abbrev turns : ℕ → Applying → Applying
  turns n r = apply_turns journaled parents s n r

  -- what has ended stays so
  ended_stays : (n : ℕ) (r : Applying) → eqb r.ended 0 ≡ false → (turns n r).ended ≡ r.ended
  unfolding apply_turns
  ended_stays zero r e = refl
  ended_stays (suc n) r e =
      ap (λ (b : Bool). (cond (b && ltb r.made (length r.answers)) (turns n (on_item journaled s (item_at parents s r.at) r)) r).ended) e

  -- a step that says 12 or 22 ends the batch by it
  ends_by : (n size code : ℕ) (j : Journal) (x : Stepping) (r : Applying) → may_be_lifted code ≡ true → eqb code 0 ≡ false → x.said ≡ refused code → (turns n (stepped size j x r)).ended ≡ code
  ends_by n size code j x r m z e =
      ap (λ (a : Said). (turns n (stepped size j (stepping a x.after) r)).ended) e
      ∙ ap (λ (b : Bool). (turns n (cond b (stopped (stepping (refused code) x.after) r) (answered size j (stepping (refused code) x.after) r))).ended) m
      ∙ ended_stays n (stopped (stepping (refused code) x.after) r) z

  module _ (n : ℕ) (on : (r : Applying) (t : State) → Beside parents r.now t → Batches parents (turns n r) (turns n (over t r))) where
    -- one step, which leaves the journal that its acceptance says
    step_on : (size : ℕ) (J : Bool → Journal) (r : Applying) (t : State) (x y : Stepping) → Outcome parents r.now t x y
        → Batches parents (turns n (stepped size (J (is_accepted x)) x r)) (turns n (stepped size (J (is_accepted y)) y (over t r)))
    step_on size J r t x y (as_table e b) =
        subst (λ (a : Said). Batches parents (turns n (stepped size (J (is_accepted x)) x r)) (turns n (stepped size (J (eqb a.code 0)) (stepping a y.after) (over t r)))) e
        (split_two (λ (p q : Applying). Batches parents (turns n p) (turns n q)) (may_be_lifted x.said.code) (on (stopped x r) y.after b) (on (answered size (J (is_accepted x)) x r) y.after b))
    step_on size J r t x y (lacks e b) = lacking (ends_by n size 12 (J (is_accepted x)) x r refl refl e)
    step_on size J r t x y (full e b) = filled (ends_by n size 22 (J (is_accepted x)) x r refl refl e)
    step_on size J r t x y (full_table e b) = filled_table (ends_by n size 22 (J (is_accepted y)) y (over t r) refl refl e)

    item_on : (x : Item) → ItemOf parents x → (r : Applying) (t : State) → Beside parents r.now t
        → Batches parents (turns n (on_item journaled s x r)) (turns n (on_item journaled s x (over t r)))
    item_on (is (call a)) h r t b =
        split_two (λ (p q : Applying). Batches parents (turns n p) (turns n q)) (room_for journaled (size_at s r.at) r.kept)
        (step_on (size_at s r.at) (λ (c : Bool). cond (journaled && c) (pushed s r.at r.kept) r.kept) r t (make a r.now) (make a t) (step_law parents (makes a) h r.now t b))
        (on (ended_by 3 r) t b)
    item_on (is flush) h r t b = step_on (size_at s r.at) (λ (c : Bool). r.kept) r t (flushing r.now) (flushing t) (step_law parents flushes tt r.now t b)
    item_on (is undo) h r t b = on (ended_by 31 r) t b
    item_on (takes k) h r t b =
        split_two (λ (p q : Applying). Batches parents (turns n p) (turns n q)) journaled (on (ended_by 31 r) t b)
        (step_on (size_at s r.at) (λ (c : Bool). r.kept) r t (take k r.now) (take k t) (step_law parents (beside.takes k) h r.now t b))
    item_on bad h r t b = on (ended_by 31 r) t b
    item_on cut h r t b = on (ended_by 2 r) t b
    item_on end h r t b = on (ended_by 1 r) t b

  turns_on : (n : ℕ) (r : Applying) (t : State) → Beside parents r.now t → Batches parents (turns n r) (turns n (over t r))
  unfolding apply_turns
  turns_on zero r t b = alike (record { beside = b; kept = refl; at = refl; made = refl; ended = refl; answers = refl; popped = refl })
  turns_on (suc n) r t b =
      split_two (Batches parents) (eqb r.ended 0 && ltb r.made (length r.answers))
      (item_on n (λ q v c. turns_on n q v c) (item_at parents s r.at) (item_of parents s r.at) r t b)
      (alike (record { beside = b; kept = refl; at = refl; made = refl; ended = refl; answers = refl; popped = refl }))

batches : (journaled : Bool) (parents : ℕ) (input : List ℕ) (w t : State) (j : Journal) (answers : List ℕ) (numbers : List ℤ) → Beside parents w t
    → Batches parents (apply_of journaled parents input w j answers numbers) (apply_of journaled parents input t j answers numbers)
unfolding apply_of
batches journaled parents input w t j answers numbers b =
    subst (λ (ok : Bool). Batches parents (apply_of journaled parents input w j answers numbers)
    (cond ok (apply_turns journaled parents input (length input + 1) (applying t j 0 0 0 answers numbers)) (applying t j 0 0 25 answers numbers))) (ok_same parents w t j b)
    (split_two (Batches parents) (driver_ok parents w j) (turns_on journaled parents input (length input + 1) (applying w j 0 0 0 answers numbers) t b)
    (alike (record { beside = b; kept = refl; at = refl; made = refl; ended = refl; answers = refl; popped = refl })))

pub batch_law : BatchLaw
batch_law journaled parents input w t j answers numbers b k l m = by (batches journaled parents input w t j answers numbers b)
  where
    by : Batches parents (apply_of journaled parents input w j answers numbers) (apply_of journaled parents input t j answers numbers)
        → SameBatch parents (apply_of journaled parents input w j answers numbers) (apply_of journaled parents input t j answers numbers)
    by (alike e) = e
    by (lacking e) = absurd (k e)
    by (filled e) = absurd (l e)
    by (filled_table e) = absurd (m e)
