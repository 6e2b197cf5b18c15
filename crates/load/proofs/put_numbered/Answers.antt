-- The kind, the parent, and then the number.
use Prim.Native.Nat.{ℕ}
use mathlib.Core.Path.{ap, ◌∙◌}
use lib.IntN.{nat_abs}
use mir.Syntax.{w64}
use Rattle.signed.proofs.SignedLaws.{back}
use mathlib.Core.List.{[], ◌∷◌}
use Rattle.big_endian.specs.BigEndian.{eight_bytes}
use Rattle.stores.proofs.PutLaws.{put_as, put_both}
use Rattle.load.specs.Bytes.{numbered}
use Rattle.load.proofs.put_numbered.Goals as goal

pub returns : goal.returns
unfolding numbered
returns c =
    let a = c.args in
    let n = c.magnitude-n.result in
    put_as (ap (λ (m : ℕ). a.kind ∷ 0 ∷ eight_bytes m) (c.magnitude-n.ensures ∙ ap nat_abs (back w64 a.number c.ranges.number))) a.out.now a.at _ _
    (put_both (a.kind ∷ []) (0 ∷ eight_bytes n) a.out.now a.at _ _ _ _ c.put_byte-after_kind.ensures
    (put_both (0 ∷ []) (eight_bytes n) c.put_byte-after_kind.new.out c.put_byte-after_kind.result _ _ _ _ c.put_byte-after_parent.ensures c.put_u64.ensures))
