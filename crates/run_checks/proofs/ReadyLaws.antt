-- What the whole test of refusal 25 establishes of a state.
use Prim.Native.Nat.{ℕ, ◌+◌, ◌*◌, ◌/◌, ◌≤◌, ◌<◌}
use mathlib.Core.Path.{◌≡◌, ap}
use mathlib.Core.Bool.{Bool, true, ◌&&◌}
use mathlib.Core.List.{List}
use native.Mathlib.Omega.{arith}
use lib.Dec.{leb}
use lib.ListN.{length, get_or}
use borrow.Author.Tests.{leb-true}
use Rattle.segment_id.specs.declared.Kind.{Kind}
use Rattle.segment_id.specs.declared.Kind.TheVariants.{Box, Tx}
use Rattle.records.proofs.CheckLaws.{and_left, and_right}
use Rattle.buffer_core.specs.Edition.{edition_1}
use Rattle.call_steps.specs.State.{State, length_at, counts_ok, lengths_ok, blocks_ok, state_ok, Ready}
use Rattle.run_checks.proofs.CheckLaws.{counts_in}

few_of : (l : List ℕ) (p : ℕ) → counts_ok p l ≡ true → (k : Kind) → get_or l (length_at k p) 0 ≤ 512
few_of l p t Box =
    let e : p * 3 + 0 ≡ p * 3 = omega arith in
    omega (arith, ap (λ (j : ℕ). get_or l j 0) e, leb-true (get_or l (p * 3) 0) 512 (and_left _ _ t))
few_of l p t Tx = leb-true (get_or l (p * 3 + 1) 0) 512 (and_left _ _ (and_right (leb (get_or l (p * 3) 0) 512) _ t))

few_in : (n : ℕ) (l : List ℕ) → lengths_ok n l ≡ true → (p : ℕ) → p < n → (k : Kind) → get_or l (length_at k p) 0 ≤ 512
few_in n l e p h k = few_of l p (counts_in n l e p h) k

module _ (parents : ℕ) (s : State) where
  pub ready_when : state_ok edition_1 parents s ≡ true → Ready parents s
  unfolding state_ok blocks_ok
  ready_when e =
      let a : Bool = leb parents (length s.ids / 4128) in
      let b : Bool = leb parents (length s.numbers / 1153) in
      let c : Bool = leb parents (length s.lengths / 3) in
      let d : Bool = leb parents (length s.spills / 2) in
      let l : Bool = lengths_ok parents s.lengths in
      let t = and_left (a && (b && (c && d))) _ e in
      let u = and_right (a && (b && (c && d))) _ e in
      let v = and_right a (b && (c && d)) t in
      let w = and_right b (c && d) v in
      let i = leb-true parents (length s.ids / 4128) (and_left a _ t) in
      let j = leb-true parents (length s.numbers / 1153) (and_left b _ v) in
      let k = leb-true parents (length s.lengths / 3) (and_left c _ w) in
      let m = leb-true parents (length s.spills / 2) (and_right c d w) in
      record {
        blocks = record { ids_in = omega (arith, i); numbers_in = omega (arith, j); lengths_in = omega (arith, k); spills_in = omega (arith, m) };
        few = few_in parents s.lengths (and_left l _ u);
        listed = and_right l _ u;
      }
