-- An undo to a mark that says 0 left no more calls standing than its mark; and with room for one staged and one deleted spill, only a refused flush keeps it from that.
use mathlib.Core.Path.{◌≡◌, refl, ap, ◌∙◌}
use mathlib.Core.Bool.{Bool, true, false, cond}
use mathlib.Core.List.{List, [], ◌∷◌}
use Prim.Native.Nat.{ℕ, zero, suc, ◌+◌, ◌*◌, ◌-◌, ◌≤◌, ◌<◌}
use native.Mathlib.Omega.{arith}
use borrow.Author.Tests.{leb-true, leb-false, eqb-true, eqb-false, eq-eqb}
use lib.Dec.{eqb, leb}
use lib.ListN.{length}
use Rattle.buffer_core.specs.Edition.{edition_1}
use Rattle.buffer_core.specs.Pop.{lists_ok}
use Rattle.buffer_core.specs.Flush.{Flushing, new_keys, flushed, flush_core, flush_of}
use Rattle.call_steps.specs.declared.Stepped.{Stepped}
use Rattle.call_steps.specs.State.{State}
use Rattle.call_steps.specs.Steps.{step_of, flush_by, after_flush, counts_in}
use Rattle.buffer_core.proofs.RefusedLaws.{both}
use Rattle.ledger.specs.Calls.{Call}
use Rattle.ledger.specs.Run.{undo, flush}
use Rattle.driver_core.specs.Steps.{unmake, flushing, final}
use Rattle.driver_laws.specs.Driver.{Driver, newest_undone, do_step, UndoneTo, newest_code, undo_code, flush_code, undos}

-- the turns that a flush has saved
abbrev saved : Bool → ℕ
saved true = 1
saved false = 0

take_yes : (j : List Call) (s : State) → newest_code j s ≡ 0 → length (newest_undone j s).journal ≡ length j - 1
take_yes [] s e = refl
take_yes (a ∷ cs) s e = ap (λ (b : Bool). length (cond b cs (a ∷ cs))) (eq-eqb (unmake a s).said.code 0 e) ∙ omega arith

take_no : (j : List Call) (s : State) → eqb (newest_code j s) 0 ≡ false → length (newest_undone j s).journal ≡ length j
take_no [] s e = refl
take_no (a ∷ cs) s e = ap (λ (b : Bool). length (cond b cs (a ∷ cs))) e

split : {A : Type 0} (Q : A → Type 0) (b : Bool) {x y : A} → (b ≡ true → Q x) → (b ≡ false → Q y) → Q (cond b x y)
split Q true f g = f refl
split Q false f g = g refl

-- not final: no flush came since the last accepted undo
not_final : (fresh : Bool) (code : ℕ) → final fresh code ≡ false → saved fresh ≡ 0
not_final true code e = let z : ◌≡◌ {A = ℕ} 0 1 = cc in absurd (omega arith)
not_final false code e = refl

pub undos_reach : (n mark : ℕ) (fresh : Bool) (d : Driver) → length d.journal * 2 ≤ n + saved fresh → (undos n mark fresh d).code ≡ 0
    → length (undos n mark fresh d).left.journal ≤ mark
unfolding undos
undos_reach zero mark true d h = λ e. omega arith
undos_reach zero mark false d h = λ e. omega arith
undos_reach (suc n) mark fresh d h =
    let Q : UndoneTo → Type 0 = λ r. r.code ≡ 0 → length r.left.journal ≤ mark in
    split Q (leb (length d.journal) mark) (λ q e. leb-true (length d.journal) mark q)
    (λ q.
    let l : mark < length d.journal = leb-false (length d.journal) mark q in
    split Q (eqb (undo_code d) 0)
    (λ y. undos_reach n mark false (do_step d undo) (omega (arith, h, l, saved_few fresh, take_yes d.journal d.now (eqb-true (undo_code d) 0 y))))
    (λ y.
    let k : length (do_step d undo).journal ≡ length d.journal = take_no d.journal d.now y in
    split Q (final fresh (undo_code d)) (λ z e. absurd (eqb-false (undo_code d) 0 y e))
    (λ z.
    split Q (eqb (flush_code (do_step d undo)) 0)
    (λ w. undos_reach n mark true (do_step (do_step d undo) flush) (omega (arith, h, k, not_final fresh (undo_code d) z)))
    (λ w e. absurd (eqb-false (flush_code (do_step d undo)) 0 w e)))))
  where
    saved_few : (b : Bool) → saved b ≤ 1
    saved_few true = omega arith
    saved_few false = omega arith

-- ---- an accepted flush leaves no staged and no deleted spill
abbrev Emptied : Stepped → Type 0
Emptied r = r.said.code ≡ 0 → (r.counts.staged.count ≡ 0) × (r.counts.deleted.count ≡ 0)

pub flush_empties : (s : State) → (flushing s).said.code ≡ 0 → ((flushing s).after.lists.staged_counts.count ≡ 0) × ((flushing s).after.lists.deleted_counts.count ≡ 0)
unfolding step_of flush_by flush_of flush_core flushed
flush_empties s =
    let P : Flushing → Type 0 = λ o. Emptied (after_flush o.answer (counts_in s.lists)) in
    both P (lists_ok edition_1 s.lists)
    (both P (leb (new_keys edition_1 s.lists) (s.lists.table_counts.capacity - s.lists.table_counts.count)) (λ e. (refl, refl)) (λ e. absurd (omega (arith, e))))
    (λ e. absurd (omega (arith, e)))
