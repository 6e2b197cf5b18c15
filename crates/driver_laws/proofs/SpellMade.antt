-- A batch of what was spelled makes all of it.
use mathlib.Core.Path.{◌≡◌, refl, sym, ap, ◌∙◌, subst}
use mathlib.Core.Bool.{Bool, true, false, cond, ◌&&◌}
use mathlib.Core.List.{List, [], ◌∷◌, ◌++◌}
use Prim.Native.Nat.{ℕ, zero, suc, ◌+◌, ◌-◌, ◌/◌, ◌≤◌}
use native.Mathlib.Omega.{arith}
use borrow.Author.Tests.{le-leb, lt-ltb, eq-eqb}
use lib.Dec.{eqb, ltb}
use lib.ListN.{length, take, drop, length-append, length-drop, length-set}
use lib.Seq.{take-length}
use Rattle.call_steps.specs.State.{State}
use Rattle.call_steps.specs.Steps.{Stepping}
use Rattle.call_steps.proofs.StepLaws.{chosen}
use Rattle.ledger.specs.Run.{Step, call, undo, flush}
use Rattle.driver_core.specs.Steps.{make, flushing, is_accepted, may_be_lifted}
use Rattle.driver_core.specs.Bytes.{Item, is, cut, end, headed, item_at, size_at, items_at, Journal, pushed}
use Rattle.driver_core.specs.Apply.{Applying, applying, stopped, answered, stepped, called, on_item, ended_by, apply_turns, apply_of}
use Rattle.driver_laws.specs.Journal.{IsCall, tried}
use Rattle.driver_laws.specs.Spelling.{small_limit, step_bytes, spelled, Spellable, AllSpellable, step_on, NoneLifted, MadeLaw}
use Rattle.driver_laws.proofs.EntryLaws.{push_long}
use Rattle.driver_laws.proofs.ApplyLaws.{one_if, ended_stays}
use Rattle.driver_laws.proofs.SpellLaws.{step_back, behind, spelled_long, spelling}

both_true : {a b : Bool} → a ≡ true → b ≡ true → (a && b) ≡ true
both_true e f = λ i. e i && f i

module _ (parents : ℕ) (few : parents ≤ small_limit) (s : List ℕ) where
  abbrev turns : ℕ → Applying → Applying
  turns n r = apply_turns true parents s n r

  -- all of ts was made behind what was made before, and nothing was lifted
  pub record AllMade (ts : List Step) (before : ℕ) (o : Applying) : Type 0 where
    pub made : o.made ≡ before + length ts
    pub ended : may_be_lifted o.ended ≡ false

  -- where a batch stands in front of ts, with room for them
  pub record Stands (ts : List Step) (r : Applying) : Type 0 where
    pub spelt : drop r.at s ≡ spelled ts
    pub within : r.at ≤ length s
    pub going : r.ended ≡ 0
    pub places : r.made + length ts ≤ length r.answers
    pub room : r.kept.used + length (spelled ts) ≤ length r.kept.bytes
    pub unlifted : NoneLifted r.now ts

  -- the journal after a call
  pushed_used : (at : ℕ) (j : Journal) → (pushed s at j).used ≡ j.used + size_at s at
  unfolding pushed
  pushed_used at j = refl

  kept_fits : (b : Bool) (at : ℕ) (j : Journal) (more : ℕ) → IsCall (item_at parents s at) → j.used + (size_at s at + more) ≤ length j.bytes
      → (cond b (pushed s at j) j).used + more ≤ length (cond b (pushed s at j) j).bytes
  kept_fits true at j more c h = omega (arith, push_long parents s at c j (omega (arith, h)), pushed_used at j, h)
  kept_fits false at j more c h = omega (arith, h)

  module _ (n : ℕ) (ts : List Step) (on : (r : Applying) → Stands ts r → AllMade ts r.made (turns n r)) where
    -- a step that was answered
    goes : (t : Step) (r : Applying) (size : ℕ) (j : Journal) (x : Stepping) → may_be_lifted x.said.code ≡ false → Stands ts (answered size j x r) → AllMade (t ∷ ts) r.made (turns n (stepped size j x r))
    goes t r size j x e k =
        subst (λ (b : Bool). AllMade (t ∷ ts) r.made (turns n (cond b (stopped x r) (answered size j x r)))) (sym e)
        (let a = on (answered size j x r) k in record { made = omega (arith, a.made); ended = a.ended })

    -- what is left to make
    onward : (t : Step) → Spellable parents t → (r : Applying) → Stands (t ∷ ts) r → (j : Journal) (x : Stepping)
        → (size_at s r.at ≡ length (step_bytes t)) → x.after ≡ (step_on t r.now).after → j.used + length (spelled ts) ≤ length j.bytes → Stands ts (answered (size_at s r.at) j x r)
    unfolding spelled NoneLifted
    onward t h r k j x z e f =
        record {
          spelt = ap (λ (m : ℕ). drop (r.at + m) s) z ∙ behind s r.at (length (step_bytes t)) (step_bytes t) (spelled ts) refl k.spelt;
          within = omega (arith, z, k.within, length-drop r.at s, ap length k.spelt, length-append (step_bytes t) (spelled ts));
          going = refl;
          places = omega (arith, k.places, length-set r.answers r.made x.said.code);
          room = f;
          unlifted = subst (λ (y : State). NoneLifted y ts) (sym e) k.unlifted.1;
        }

    room_of : (t : Step) (r : Applying) → Stands (t ∷ ts) r → size_at s r.at ≡ length (step_bytes t) → r.kept.used + (size_at s r.at + length (spelled ts)) ≤ length r.kept.bytes
    unfolding spelled
    room_of t r k z = omega (arith, k.room, z, length-append (step_bytes t) (spelled ts))

    lifted_not : (t : Step) (r : Applying) → Stands (t ∷ ts) r → may_be_lifted (step_on t r.now).said.code ≡ false
    unfolding NoneLifted
    lifted_not t r k = k.unlifted.0

    item_made : (t : Step) → Spellable parents t → (r : Applying) → Stands (t ∷ ts) r → item_at parents s r.at ≡ is t → size_at s r.at ≡ length (step_bytes t)
        → AllMade (t ∷ ts) r.made (turns n (on_item true s (is t) r))
    item_made (call a) h r k e z =
        let x = make a r.now in
        let size = size_at s r.at in
        let j = cond (is_accepted x) (pushed s r.at r.kept) r.kept in
        let m = room_of (call a) r k z in
        let c : IsCall (item_at parents s r.at) = subst IsCall (sym e) tt in
        let f = kept_fits (is_accepted x) r.at r.kept (length (spelled ts)) c m in
        subst (λ (b : Bool). AllMade (call a ∷ ts) r.made (turns n (cond b (called true s size x r) (ended_by 3 r)))) (sym (le-leb (r.kept.used + size) (length r.kept.bytes) (omega (arith, m))))
        (goes (call a) r size j x (lifted_not (call a) r k) (onward (call a) h r k j x z refl f))
    item_made undo h r k e z = absurd h
    item_made flush h r k e z =
        let x = flushing r.now in
        goes flush r (size_at s r.at) r.kept x (lifted_not flush r k) (onward flush h r k r.kept x z refl (omega (arith, room_of flush r k z)))

  -- at the end of the input
  end_item : (r : Applying) → Stands [] r → item_at parents s r.at ≡ end
  unfolding item_at spelled
  end_item r k =
      let q : length s ≤ r.at = omega (arith, length-drop r.at s, ap length k.spelt) in
      ap (λ (b : Bool). cond b end (cond (ltb (length s - r.at) 17) cut (headed parents s r.at ((length s - r.at - 17) / 40) (r.at + 17) cut))) (le-leb (length s) r.at q)

  ends : (n : ℕ) (r : Applying) → Stands [] r → (b : Bool) → AllMade [] r.made (cond b (turns n (on_item true s (item_at parents s r.at) r)) r)
  ends n r k true =
      subst (λ (i : Item). AllMade [] r.made (turns n (on_item true s i r))) (sym (end_item r k))
      (subst (AllMade [] r.made) (sym (ended_stays parents s n (ended_by 1 r) refl)) (record { made = omega arith; ended = refl }))
  ends n r k false = record { made = omega arith; ended = ap may_be_lifted k.going }

  front : (t : Step) (ts : List Step) (r : Applying) → Stands (t ∷ ts) r → drop r.at s ≡ step_bytes t ++ spelled ts
  unfolding spelled
  front t ts r k = k.spelt

  turns_made : (ts : List Step) → AllSpellable parents ts → (n : ℕ) → length ts ≤ n → (r : Applying) → Stands ts r → AllMade ts r.made (turns n r)
  unfolding AllSpellable apply_turns
  turns_made [] h zero l r k = record { made = omega arith; ended = ap may_be_lifted k.going }
  turns_made [] h (suc n) l r k =
      ends n r k (eqb r.ended 0 && ltb r.made (length r.answers))
  turns_made (t ∷ ts) h zero l r k = absurd (omega (arith, l))
  turns_made (t ∷ ts) h (suc n) l r k =
      let b = step_back parents few s r.at (spelled ts) t h.0 (front t ts r k) in
      let go : (eqb r.ended 0 && ltb r.made (length r.answers)) ≡ true = both_true (eq-eqb r.ended 0 k.going) (lt-ltb r.made (length r.answers) (omega (arith, k.places))) in
      subst (λ (c : Bool). AllMade (t ∷ ts) r.made (cond c (turns n (on_item true s (item_at parents s r.at) r)) r)) (sym go)
      (subst (λ (i : Item). AllMade (t ∷ ts) r.made (turns n (on_item true s i r))) (sym b.item)
      (item_made n ts (λ q v. turns_made ts h.1 n (omega (arith, l)) q v) t h.0 r k b.item b.size))

pub all_made : MadeLaw
unfolding apply_of
all_made parents few ts h s j answers numbers ok places room k =
    let input = spelled ts in
    let r₀ = applying s j 0 0 0 answers numbers in
    let o = apply_turns true parents input (length input + 1) r₀ in
    let x = turns_made parents few input ts h (length input + 1) (omega (arith, spelled_long parents ts h)) r₀
    (record { spelt = refl; within = omega arith; going = refl; places = omega (arith, places); room = room; unlifted = k }) in
    subst (λ (a : Applying). (a.made ≡ length ts) × (take (tried a) (items_at parents input (length input + 1) 0) ≡ ts)) (chosen _ _ _ ok)
    (told o x)
  where
    told : (o : Applying) → AllMade parents few (spelled ts) ts 0 o → (o.made ≡ length ts) × (take (tried o) (items_at parents (spelled ts) (length (spelled ts) + 1) 0) ≡ ts)
    told o x =
        let m : o.made ≡ length ts = omega (arith, x.made) in
        let z : tried o ≡ length ts = ap (λ (b : Bool). o.made + one_if b) x.ended ∙ omega (arith, m) in
        (m, (λ i. take (z i) ((spelling parents few ts h).1 i)) ∙ take-length ts)
