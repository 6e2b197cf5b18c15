-- `address_writing::emit_flagged` meets its contract: flag 00 alone, or flag 01 and the balance.
use mathlib.Core.Path.{refl, sym, ap}
use mathlib.Core.List.{[], ◌∷◌}
use lib.IntN.{ℤ}
use lib.ListN.{length, take}
use mir.Syntax.{w64}
use mir.Facts.{to_z-of_z}
use Rattle.stores.proofs.PutLaws.{put_as}
use Rattle.segment_core.proofs.RowLaws.{both_put}
use Rattle.address_core.specs.Bytes.{balance_bytes}
use Rattle.address_core.proofs.BytesLaws.{flag_clear, flag_set, clear_length, set_length}
use native.Mathlib.Omega.{arith}
use Rattle.address_writing.proofs.emit_flagged.Goals as goal

pub put_byte-requires : goal.put_byte-requires
put_byte-requires c = let a = c.args in
    omega (arith, clear_length a.has a.nanos a.ids.now (take a.n a.amounts.now) (c.if-not-has.true), c.requires.1)

pub returns-then-not-has : goal.returns-then-not-has
returns-then-not-has c = let a = c.args in
    put_as (sym (flag_clear a.has a.nanos a.ids.now (take a.n a.amounts.now) (c.if-not-has.true))) _ _ _ _ c.put_byte.ensures

pub put_byte-o-requires : goal.put_byte-o-requires
put_byte-o-requires c = let a = c.args in
    omega (arith, set_length a.has a.nanos a.ids.now (take a.n a.amounts.now) (c.if-not-has.false), c.requires.1)

pub emit_balance-requires : goal.emit_balance-requires
emit_balance-requires c = let a = c.args in
    let q = ap (λ (z : ℤ). length (balance_bytes z a.ids.now (take a.n a.amounts.now))) (to_z-of_z {w = w64} c.ranges.nanos) in
    (c.requires.0, omega (arith, set_length a.has a.nanos a.ids.now (take a.n a.amounts.now) (c.if-not-has.false), q, c.put_byte-o.ensures.0, c.requires.1))

pub returns : goal.returns
returns c = let a = c.args in
    put_as (sym (flag_set a.has a.nanos a.ids.now (take a.n a.amounts.now) (c.if-not-has.false))) a.out.now a.at _ _
    (both_put {a = 1 ∷ []} refl (ap (λ (z : ℤ). balance_bytes z a.ids.now (take a.n a.amounts.now)) (to_z-of_z {w = w64} c.ranges.nanos)) a.out.now a.at c.put_byte-o.result _ _ _ c.put_byte-o.ensures c.emit_balance.ensures)
