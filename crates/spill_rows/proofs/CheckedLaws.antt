-- Laws of reading and checking a row: one for each way out, and what a row that passed or failed is.
use mathlib.Core.Path.{◌≡◌, refl, sym, ap, ◌∙◌}
use mathlib.Core.Bool.{Bool, true, false}
use mathlib.Core.List.{List, append-nil}
use Prim.Native.Nat.{ℕ}
use native.Mathlib.Omega.{arith}
use borrow.Author.Tests.{eq-eqb, ne_eqb}
use lib.Dec.{eqb}
use lib.IntN.{ℤ}
use lib.ListN.{length, take}
use lib.Seq.{take_all}
use Rattle.entries.specs.Order.{order_ok}
use Rattle.segment_core.specs.Loading.{padded}
use Rattle.buffer_core.specs.Edition.{RowRead, good, bad}
use Rattle.buffer_core.specs.Flip.{check_row}
use Rattle.std.specs.Prelude.{Ok, Err}
use Rattle.row_edition.specs.Answers.{SpillRead}
use Rattle.spill_rows.specs.Answers.{Read}
use Rattle.row_edition.specs.Internal.{SpillInto}
use Rattle.spill_rows.specs.Internal.{read_of, CheckedInto}

pub nope : {X : Type 0} → ◌≡◌ {A = ℕ} 0 1 → X
nope e = let f : ⊥ = omega arith in absurd f

-- ---- a row that was read is checked

padded_full : (zs : List ℤ) → length zs ≡ 512 → padded zs ≡ zs
padded_full zs e = rw e (append-nil zs)

not_good : (x : RowRead) (code : ℕ) (out : List ℤ) → x ≡ bad code → CheckedInto x (Err code) out
not_good x code out e = record { answer = rw e; numbers = λ q. nope (cc) }

pub checked_bad : (x : RowRead) (r : SpillRead) (out : List ℤ) → SpillInto x r out → (code : ℕ) → r ≡ Err code → CheckedInto (check_row x) (Err code) out
checked_bad (good zs) r out s code e = let p = s.0 in nope (cc)
checked_bad (bad c) r out s code e = let d : c ≡ code = cc in not_good (bad c) code out (ap bad d)

pub checked_short : (x : RowRead) (r : SpillRead) (out : List ℤ) → SpillInto x r out → (n : ℕ) → r ≡ Ok n → (n ≡ 512 → ⊥) → CheckedInto (check_row x) (Err 13) out
checked_short (good zs) r out s n e h =
    let p = s.0 in let d : length zs ≡ n = cc in
    not_good (check_row (good zs)) 13 out (rw (ne_eqb (length zs) 512 (λ q. h (sym d ∙ q))))
checked_short (bad c) r out s n e h = nope (cc)

module _ (r : SpillRead) (out : List ℤ) (long : length out ≡ 512) (n : ℕ) (e : r ≡ Ok n) (h : n ≡ 512) (b : Bool) (o : b ≡ order_ok (take 512 out)) where
  order_is : (zs : List ℤ) → out ≡ padded zs → length zs ≡ 512 → order_ok zs ≡ b
  order_is zs q l = ap order_ok (sym (q ∙ padded_full zs l) ∙ sym (take_all 512 out (omega arith))) ∙ sym o

  pub checked_order : (x : RowRead) → SpillInto x r out → b ≡ false → CheckedInto (check_row x) (Err 13) out
  checked_order (good zs) s f =
      let p = s.0 in let d : length zs ≡ n = cc in let l : length zs ≡ 512 = d ∙ h in
      not_good (check_row (good zs)) 13 out (rw (eq-eqb (length zs) 512 l, order_is zs s.1 l ∙ f))
  checked_order (bad c) s f = nope (cc)

  pub checked_good : (x : RowRead) → SpillInto x r out → b ≡ true → CheckedInto (check_row x) (Ok tt) out
  checked_good (good zs) s f =
      let p = s.0 in let d : length zs ≡ n = cc in let l : length zs ≡ 512 = d ∙ h in
      let g : check_row (good zs) ≡ good zs = rw (eq-eqb (length zs) 512 l, order_is zs s.1 l ∙ f) in
      record { answer = rw g; numbers = λ q. g ∙ ap good (sym (s.1 ∙ padded_full zs l)) }
  checked_good (bad c) s f = nope (cc)

-- a row that passed is in order
pub checked_ordered : (x : RowRead) (r : Read) (out : List ℤ) → CheckedInto (check_row x) r out → r ≡ (Ok tt) → length out ≡ 512 → order_ok (take 512 out) ≡ true
checked_ordered x r out s e n = ap order_ok (take_all 512 out (omega arith)) ∙ by_row x (s.numbers e)
  where
    by_row : (x : RowRead) → check_row x ≡ good out → order_ok out ≡ true
    by_row (bad c) q = nope (cc)
    by_row (good zs) q = by_tests (eqb (length zs) 512) (order_ok zs) refl refl q
      where
        by_tests : (a b : Bool) → eqb (length zs) 512 ≡ a → order_ok zs ≡ b → check_row (good zs) ≡ good out → order_ok out ≡ true
        by_tests true true f g q = let d : zs ≡ out = cc (rw (f, g) at q) in ap order_ok (sym d) ∙ g
        by_tests true false f g q = nope (cc (rw (f, g) at q))
        by_tests false b f g q = nope (cc (rw f at q))

-- a row that did not pass
pub faulty : (x : RowRead) (r : Read) (out : List ℤ) → CheckedInto x r out → (code : ℕ) → r ≡ Err code → x ≡ bad code
faulty x r out s code e = by_row x (sym e ∙ s.answer)
  where
    by_row : (x : RowRead) → Err code ≡ read_of x → x ≡ bad code
    by_row (good zs) q = nope (cc)
    by_row (bad c) q = let d : c ≡ code = cc in ap bad d
