-- `address_reading::read_token` meets its contract: room for the id, then the amount, and only then the stores.
use mathlib.Core.Path.{◌≡◌, sym, ap, ◌∙◌}
use Prim.Native.Nat.{ℕ, ◌+◌, ◌*◌, ◌-◌}
use lib.ListN.{take, drop}
use lib.Seq.{sets}
use mir.Syntax.{w64}
use mir.Facts.{to_z-of_z}
use Rattle.address_core.proofs.TokenLaws.{token_cut, token_bad, token_done}
use native.Mathlib.Omega.{arith}
use borrow.Author.Rules.{rules}
use Rattle.address_reading.proofs.read_token.Goals as goal

pub returns-then-not-has_room : goal.returns-then-not-has_room
returns-then-not-has_room c = let a = c.args in token_cut a.row.now a.at a.place a.ids.now a.amounts.now (sym c.has_room.ensures ∙ c.if-not-has_room.true) _ _

pub returns-in-Ok : goal.returns-in-Ok
returns-in-Ok c = let a = c.args in
    let m : a.at + 32 - a.at ≡ 32 = omega arith in
    token_done a.row.now a.at a.place a.ids.now a.amounts.now (sym c.has_room.ensures ∙ c.if-not-has_room.false) c.in-Ok.z _ c.in-Ok.next (sym c.get_i64.ensures ∙ c.in-Ok.is) (to_z-of_z {w = w64} (search rules)) _
    (c.put_bytes.ensures.1 ∙ ap (λ (k : ℕ). sets a.ids.now (a.place * 32) (take k (drop a.at a.row.now))) m)

pub returns-in-Err : goal.returns-in-Err
returns-in-Err c = let a = c.args in token_bad a.row.now a.at a.place a.ids.now a.amounts.now (sym c.has_room.ensures ∙ c.if-not-has_room.false) _ (sym c.get_i64.ensures ∙ c.in-Err.is) _ _
