-- As the absolute values never fall, those below the target come first.
use Prim.Native.Nat.{ℕ, zero, suc, ◌<◌}
use mathlib.Core.Path.{◌≡◌, refl, ap, ◌∙◌}
use mathlib.Core.Bool.{Bool, true, false, ◌&&◌}
use mathlib.Core.List.{List, [], ◌∷◌, map}
use native.Mathlib.Omega.{arith}
use borrow.Author.Rules.{rules}
use borrow.Author.Tests.{ltb-true, ltb-false, lt-ltb}
use lib.Dec.{leb, ltb}
use lib.IntN.{ℤ, pos, nat_abs}
use lib.ListN.{length, take, get_or}
use lib.Seq.{length-take-le, get_or-take}
use mir.Syntax.{w64}
use mir.Val.{SFits, to_z, of_z}
use Rattle.std.specs.List.Sorted.{IsPartitionedBy}
use Rattle.std.proofs.lemmas.List.{get_or_default}
use Rattle.std.proofs.lemmas.List.Sorted.{IsPartitionPoint-from_clause}
use Rattle.signed.proofs.SignedLaws.{back, natAbs_mag}
use Rattle.entries.specs.Order.{ordered}
use Rattle.entries.proofs.OrderLaws.{never_fall}
use Rattle.entry_flips.proofs.place_from.Goals as goal
use Rattle.entry_flips.proofs.place_from.Goals.{After-partition_point}

both : (p q : Bool) → p && q ≡ true → (p ≡ true) × (q ≡ true)
both true q e = (refl, e)
both false q e = let z : ◌≡◌ {A = ℕ} 0 1 = cc in absurd (omega arith)

-- numbers in order are within 64 signed bits
parts : (z : ℤ) (zs : List ℤ) (lo : ℕ) → ordered lo (map nat_abs (z ∷ zs)) ≡ true → (ltb (nat_abs z) 9223372036854775808 ≡ true) × (ordered (nat_abs z) (map nat_abs zs) ≡ true)
parts z zs lo e =
    let x = nat_abs z in
    let rest = ordered x (map nat_abs zs) in
    both (ltb x 9223372036854775808) rest (both (leb lo x) (ltb x 9223372036854775808 && rest) e).1

few : (zs : List ℤ) (lo k : ℕ) → ordered lo (map nat_abs zs) ≡ true → k < length zs → nat_abs (get_or zs k (pos 0)) < 9223372036854775808
few [] lo k e h = absurd (omega arith)
few (z ∷ zs) lo zero e h = ltb-true (nat_abs z) 9223372036854775808 (parts z zs lo e).0
few (z ∷ zs) lo (suc k) e h = few zs (nat_abs z) k (parts z zs lo e).1 (omega arith)

-- the absolute value that the closure is given
abbrev size : ℤ → ℕ
size z = nat_abs (to_z w64 (of_z w64 z))

size_at : (c : After-partition_point) (j : ℕ) (d : ℤ) → j < length (take c.args.n c.args.xs.now) → size (get_or (take c.args.n c.args.xs.now) j d) ≡ nat_abs (get_or c.args.xs.now j (pos 0))
size_at c j d h =
    let a = c.args in
    let k : j < a.n = omega (arith, length-take-le a.n a.xs.now c.requires.0) in
    let e : get_or (take a.n a.xs.now) j d ≡ get_or a.xs.now j (pos 0) = get_or_default (take a.n a.xs.now) j d (pos 0) h ∙ get_or-take a.n a.xs.now j (pos 0) k in
    let f : SFits w64 (get_or a.xs.now j (pos 0)) = record { sfits = natAbs_mag (get_or a.xs.now j (pos 0)) 9223372036854775808 (rw (get_or-take a.n a.xs.now j (pos 0) k) at (few (take a.n a.xs.now) 0 j c.requires.1 h)) } in
    ap size e ∙ ap nat_abs (back w64 _ f)

parted : (c : After-partition_point) → IsPartitionedBy (λ z. ltb (size z) c.args.target) (take c.args.n c.args.xs.now)
parted c i j d h k e =
    let a = c.args in
    let l = length-take-le a.n a.xs.now c.requires.0 in
    let m = ltb-true _ _ e in
    let n = never_fall a.xs.now a.n c.requires.0 c.requires.1 i j h (omega (arith, l)) in
    lt-ltb _ _ (omega (arith, m, n, size_at c i d (omega arith), size_at c j d k))

pub returns : goal.returns
returns c =
    let a = c.args in
    let l = length-take-le a.n a.xs.now c.requires.0 in
    let p = IsPartitionPoint-from_clause (λ z. ltb (size z) a.target) _ _ c.partition_point.ensures.partitioned (parted c) (λ a r q k. search rules) in (
      omega (arith, l, c.partition_point.ensures.bound),
      λ j h. let k : j < length (take a.n a.xs.now) = omega (arith, c.partition_point.ensures.bound) in
          omega (arith, ltb-true _ _ (p.0 j (pos 0) (omega arith) h), size_at c j (pos 0) k),
      λ j h k. let m : j < length (take a.n a.xs.now) = omega (arith, l) in
          omega (arith, ltb-false _ _ (p.1 j (pos 0) h m), size_at c j (pos 0) m),
    )
