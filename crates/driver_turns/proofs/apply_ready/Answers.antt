-- By the laws of a turn: it keeps what was tested, and what is left.
use Rattle.std.proofs.Common.{◌≡◌, ◌+◌, ◌-◌, ◌<◌, true, false, length, refl, sym, ◌∙◌, arith, rules}
use Rattle.driver_turns.proofs.TurnLaws.{kept_start, kept_turn_ready, kept_turn, kept_stop, kept_end}
use Rattle.driver_turns.proofs.apply_ready.Goals as goal

pub loop-init : goal.loop-init
loop-init c =
    let a = c.args in
    let e : length a.input.now + 1 - 0 ≡ length a.input.now + 1 = omega arith in
    rw e (kept_start a.journaled a.parents a.input.now _ c.requires.0 c.requires.1 refl)

pub returns-then-not-may_go : goal.returns-then-not-may_go
returns-then-not-may_go c =
    let a = c.args in
    let e : c.may_go.result ≡ false = search rules in
    kept_stop a.journaled a.parents a.input.now _ _ _ c.loop.invariant (sym c.may_go.ensures ∙ e)

pub turn-p-requires : goal.turn-p-requires
turn-p-requires c =
    let a = c.args in
    let e : c.may_go.result ≡ true = search rules in
    kept_turn_ready a.journaled a.parents a.input.now _ _ _ c.loop.invariant (sym c.may_go.ensures ∙ e)

pub loop-preserved : goal.loop-preserved
loop-preserved c =
    let a = c.args in
    let e : c.may_go.result ≡ true = search rules in
    let h : 0 < length a.input.now + 1 - c.loop.counter = omega arith in
    let n : length a.input.now + 1 - (c.loop.counter + 1) ≡ length a.input.now + 1 - c.loop.counter - 1 = omega arith in
    rw n (kept_turn a.journaled a.parents a.input.now _ _ _ c.loop.invariant _ h (sym c.may_go.ensures ∙ e) c.turn-p.ensures)

pub returns-else-not-may_go : goal.returns-else-not-may_go
returns-else-not-may_go c =
    let a = c.args in
    let e : c.may_go.result ≡ true = search rules in
    let h : 0 < length a.input.now + 1 - c.loop.counter = omega arith in
    kept_end a.journaled a.parents a.input.now _ _ _ (kept_turn a.journaled a.parents a.input.now _ _ _ c.loop.invariant _ h (sym c.may_go.ensures ∙ e) c.turn-p.ensures) (omega arith)
