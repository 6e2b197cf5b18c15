-- Calls that stand one after the other: behind others, in more bytes, and counted from a later byte.
use Prim.Native.Nat.{ℕ, ◌+◌, ◌≤◌}
use mathlib.Core.Path.{◌≡◌, refl, sym, ap, subst, ◌∙◌}
use mathlib.Core.List.{List, [], ◌∷◌, ◌++◌}
use native.Mathlib.Omega.{arith}
use lib.ListN.{length, drop}
use Rattle.buffer_core.specs.Edition.{edition_1}
use Rattle.calls.specs.declared.Call.{Call}
use Rattle.calls.specs.Calls.{call_at, size_of}
use Rattle.calls.proofs.CallLaws.{call_sound}
use Rattle.call_steps.specs.State.{State}
use Rattle.call_steps.specs.Steps.{step_of}
use Rattle.runner.proofs.PieceLaws.{call_stays, call_shifts, settled}
use Rattle.call_runs.specs.Made.{made, Stand, Along}

pub made_append : (ys zs : List Call) (s : State) → made (ys ++ zs) s ≡ made zs (made ys s)
unfolding made
made_append [] zs s = refl
made_append (y ∷ ys) zs s = made_append ys zs (step_of edition_1 y s).after

module _ (parents : ℕ) where
  pub along_append : (input : List ℕ) (xs ys : List Call) (at m to : ℕ) → Along parents input at xs m → Along parents input m ys to → Along parents input at (xs ++ ys) to
  unfolding Along
  along_append input [] ys at m to a b = subst (λ (i : ℕ). Along parents input i ys to) (sym a) b
  along_append input (x ∷ xs) ys at m to a b = (a.0, a.1, along_append input xs ys (at + size_of x) m to a.2 b)

  -- the calls of the front stand in the whole
  pub along_more : (a b : List ℕ) (xs : List Call) (at to : ℕ) → Along parents a at xs to → Along parents (a ++ b) at xs to
  unfolding Along
  along_more a b [] at to s = s
  along_more a b (x ∷ xs) at to s =
      let z : size_of (call_at parents a at) ≡ 0 → ⊥ = λ q. s.1 (ap size_of (sym s.0) ∙ q) in
      (sym (call_stays parents a b at (settled (call_at parents a at) z)) ∙ s.0, s.1, along_more a b xs (at + size_of x) to s.2)

  pub along_shifts : (d : List ℕ) (k : ℕ) (xs : List Call) (at to : ℕ) → Along parents (drop k d) at xs to → Along parents d (k + at) xs (k + to)
  unfolding Along
  along_shifts d k [] at to s = ap (λ (i : ℕ). k + i) s
  along_shifts d k (x ∷ xs) at to s =
      let z : k + (at + size_of x) ≡ k + at + size_of x = omega arith in
      (sym (call_shifts d k parents at) ∙ s.0, s.1, subst (λ (i : ℕ). Along parents d i xs (k + to)) z (along_shifts d k xs (at + size_of x) to s.2))

  pub along_within : (input : List ℕ) (xs : List Call) (at to : ℕ) → at ≤ length input → Along parents input at xs to → to ≤ length input
  unfolding Along
  along_within input [] at to h s = omega (arith, s)
  along_within input (x ∷ xs) at to h s =
      let k : at + size_of x ≤ length input = subst (λ (c : Call). at + size_of c ≤ length input) s.0 (omega (arith, (call_sound parents input at).fits)) in
      along_within input xs (at + size_of x) to k s.2

  -- calls behind which no call stands are all that stand there
  pub along_all : (input : List ℕ) (xs : List Call) (at to : ℕ) → Along parents input at xs to → size_of (call_at parents input to) ≡ 0 → Stand parents input at xs
  unfolding Along Stand
  along_all input [] at to s z = ap (λ (i : ℕ). size_of (call_at parents input i)) s ∙ z
  along_all input (x ∷ xs) at to s z = (s.0, s.1, along_all input xs (at + size_of x) to s.2 z)
