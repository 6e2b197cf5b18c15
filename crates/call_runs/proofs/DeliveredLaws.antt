-- Calls and reads keep what `Delivered` says.
use Prim.Native.Nat.{ℕ, ◌+◌}
use mathlib.Core.Path.{◌≡◌, refl, sym, ap, subst, ◌∙◌}
use mathlib.Core.Logic.{inl, ⊎_elim}
use mathlib.Core.List.{List, [], ◌++◌}
use native.Mathlib.Omega.{arith}
use lib.ListN.{length, drop, length-append, length-drop}
use lib.Seq.{drop-append-le, drop-drop}
use Rattle.calls.specs.declared.Call.{Call}
use Rattle.calls.specs.Calls.{size_of}
use Rattle.call_steps.specs.State.{State}
use Rattle.call_runs.specs.Made.{made, Along}
use Rattle.call_runs.specs.Delivered.{Delivered, code_of, Open, Finished}
use Rattle.call_runs.proofs.AlongLaws.{made_append, along_append, along_more, along_shifts, along_within}

module _ (parents : ℕ) (s₀ : State) where
  pub none_delivered : Delivered parents s₀ [] [] 0 s₀
  unfolding made Along
  none_delivered = record { calls = []; byte = 0; many = refl; within = omega arith; stand = refl; wait = refl; now_is = refl }

  module _ (d bytes : List ℕ) (n : ℕ) (s : State) (D : Delivered parents s₀ d bytes n s) where
    -- calls ys at the front of the bytes, which end before byte k of them, are made
    pub made_delivered : (ys : List Call) (k : ℕ) → Along parents bytes 0 ys k → Delivered parents s₀ d (drop k bytes) (n + length ys) (made ys s)
    made_delivered ys k a =
        let at = D.byte in
        let in_d : Along parents (drop at d) 0 ys k = subst (λ (l : List ℕ). Along parents l 0 ys k) D.wait a in
        let z : at + 0 ≡ at = omega arith in
        let on : Along parents d at ys (at + k) = subst (λ (i : ℕ). Along parents d i ys (at + k)) z (along_shifts parents d at ys 0 k in_d) in
        let far = along_within parents (drop at d) ys 0 k (omega arith) in_d in
        record {
          calls = D.calls ++ ys;
          byte = at + k;
          many = omega (arith, length-append D.calls ys, D.many);
          within = omega (arith, far, length-drop at d, D.within);
          stand = along_append parents d D.calls ys 0 at (at + k) D.stand on;
          wait = ap (drop k) D.wait ∙ drop-drop k at d;
          now_is = ap (made ys) D.now_is ∙ sym (made_append D.calls ys s₀);
        }

    -- more of the input is delivered
    pub more_delivered : (got : List ℕ) → Delivered parents s₀ (d ++ got) (bytes ++ got) n s
    more_delivered got =
        record {
          calls = D.calls;
          byte = D.byte;
          many = D.many;
          within = omega (arith, D.within, length-append d got);
          stand = along_more parents d got D.calls 0 D.byte D.stand;
          wait = ap (λ (l : List ℕ). l ++ got) D.wait ∙ sym (drop-append-le D.byte d got D.within);
          now_is = D.now_is;
        }

-- an input that ends where more bytes might have made a call
pub open_finished : (parents code : ℕ) (bytes : List ℕ) (s : State) → Open parents code bytes → Finished parents code bytes s
open_finished parents code bytes s =
    ⊎_elim (λ e. inl (ap size_of e.0, e.1 ∙ sym (ap code_of e.0))) (λ e. inl (ap size_of e.0, e.1 ∙ sym (ap code_of e.0)))
