-- A run over an input that is read to its end stops where there is no room for another answer, or at the end.
use Prim.Native.Nat.{ℕ, ◌+◌}
use mathlib.Core.Path.{◌≡◌, sym, ap, subst, ◌∙◌}
use mathlib.Core.Logic.{inl, inr}
use mathlib.Core.List.{List, [], ◌∷◌}
use native.Mathlib.Omega.{arith}
use lib.ListN.{length}
use Rattle.buffer_core.specs.Edition.{edition_1}
use Rattle.calls.specs.declared.Call.{Call}
use Rattle.calls.specs.declared.Call.TheVariants.{End}
use Rattle.calls.specs.Calls.{call_at, size_of, end_of}
use Rattle.call_steps.specs.State.{State}
use Rattle.runner.specs.Run.{run_of}
use Rattle.call_runs.specs.Made.{Along, Why}
use Rattle.call_runs.proofs.RunLaws.{ran}
use Rattle.load_runs.specs.Reads.{Never31}
use Rattle.load_runs.proofs.ReadLaws.{reads_end}

module _ (parents : ℕ) (input : List ℕ) where
  -- behind calls that stand in such an input there is a call or the end
  stops_at_end : (cs ys : List Call) (at to : ℕ) → Along parents input at cs (length input) → Along parents input at ys to
      → size_of (call_at parents input to) ≡ 0 → call_at parents input to ≡ End
  unfolding Along
  stops_at_end [] [] at to a b z = ap (call_at parents input) (sym b ∙ a) ∙ reads_end parents input
  stops_at_end (c ∷ cs) [] at to a b z = absurd (a.1 (ap size_of (sym a.0) ∙ ap (λ (i : ℕ). size_of (call_at parents input i)) b ∙ z))
  stops_at_end [] (y ∷ ys) at to a b z = absurd (b.1 (ap size_of (sym b.0 ∙ ap (call_at parents input) a ∙ reads_end parents input)))
  stops_at_end (c ∷ cs) (y ∷ ys) at to a b z =
      stops_at_end cs ys (at + size_of c) to a.2 (subst (λ (x : Call). Along parents input (at + size_of x) ys to) (sym b.0 ∙ a.0) b.2) z

  ends_well : (at end : ℕ) (s : State) → (size_of (call_at parents input at) ≡ 0 → call_at parents input at ≡ End) → Why parents input at s end → (end ≡ 31 → ⊥) × (end ≡ 2 → ⊥)
  ends_well at end s f (inl (inl e)) = (λ q. omega (arith, e, q), λ q. omega (arith, e, q))
  ends_well at end s f (inl (inr (z, e))) = let one : end ≡ 1 = e ∙ ap end_of (f z) in (λ q. omega (arith, one, q), λ q. omega (arith, one, q))
  ends_well at end s f (inr (e, r)) = (λ q. omega (arith, e, q), λ q. omega (arith, e, q))

pub never_31 : Never31
never_31 parents input calls r s answers popped =
    let x = run_of edition_1 parents input s answers popped in
    let t = ran parents input s answers popped in
    ends_well parents input x.at x.end x.now (stops_at_end parents input calls t.calls 0 x.at r.0 t.stand) t.why
