-- Histories that the rules turn away, and one with every kind of call that keeps them.
use mathlib.Core.Path.{◌≡◌, refl}
use mathlib.Core.List.Memᴰ
use mathlib.Core.List.{[], ◌∷◌}
use Prim.Native.Nat.{ℕ, ◌≤◌}
use native.Mathlib.Decide.{ℕ_discrete}
use native.Mathlib.Omega.{arith}
use lib.IntN.{pos, ◌+ℤ◌}
use lib.Signed.{◌≤ℤ◌}
use lib.ListN.{replicate}
use Rattle.ledger.specs.Ledger.{TokenId, id_dec, boxes, txs, append, spend, credit, debit, ite, series_dec, BoxRule, CreditRule, Rules}

-- "no box number is appended while its spent count is above 0"
pub not_while_spent : Rules (append (boxes 0) (pos 5) ∷ spend 0 (pos 5) ∷ append (boxes 0) (pos 5) ∷ []) → ⊥
unfolding ite ℕ_discrete
not_while_spent r = let e : ◌≡◌ {A = ℕ} 1 0 = r.0.unspent in omega arith

-- "appended box numbers never fall"
pub not_falling : Rules (append (boxes 0) (pos 4) ∷ append (boxes 0) (pos 5) ∷ []) → ⊥
unfolding ite series_dec ℕ_discrete
not_falling r = let h : 5 ≤ 4 = r.0.rises (pos 5) (Memᴰ.head refl) in omega arith

-- a debit within what a credit gave, after a spend, a transaction and a box
held : (t : TokenId) (d : Dec (replicate 32 7 ≡ t)) → pos 0 ≤ℤ (pos 0 +ℤ ite d (pos 3 +ℤ pos 0) (pos 0))
unfolding ite
held t (yes e) = omega arith
held t (no f) = omega arith

pub rules_kept : Rules (debit 1 (pos 4) [] ∷ credit 1 (pos 10) ((replicate 32 7, pos 3) ∷ []) ∷ spend 0 (pos 5) ∷ append (txs 1) (pos 9) ∷ append (boxes 0) (pos 5) ∷ [])
unfolding ite ℕ_discrete
rules_kept =
    let box : BoxRule [] 0 (pos 5) = record { rises = λ m t. absurd (Memᴰ.not-nil t); unspent = refl } in
    let ten : CreditRule (pos 10) ((replicate 32 7, pos 3) ∷ []) = record { nonneg = omega arith; allpos = (omega arith, tt) } in
    (record { nonneg = omega arith; allpos = tt; within = omega arith; held = λ t. held t (id_dec (replicate 32 7) t) }, (ten, (tt, (tt, (box, tt)))))
