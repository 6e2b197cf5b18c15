use mathlib.Core.Path.{ap, ◌∙◌}
use Prim.Native.Nat.{ℕ, ◌+◌, ◌*◌, ◌-◌, ◌/◌}
use native.Mathlib.Omega.{arith}
use borrow.Author.Tests.{lt-ltb, le-ltb}
use Rattle.driver_core.specs.Bytes.{tokens_told}
use Rattle.driver_calls.specs.Reads.{headed_read, newest_read}
use Rattle.driver_calls.proofs.newest_read.Goals as goal

pub returns-then-used-lt-HEADER_BYTES : goal.returns-then-used-lt-HEADER_BYTES
unfolding newest_read
returns-then-used-lt-HEADER_BYTES c = simp (lt-ltb _ _ c.if-used-lt-HEADER_BYTES.true)

pub returns-then-room-count : goal.returns-then-room-count
unfolding newest_read
returns-then-room-count c =
    let a = c.args in
    let h = a.used - 17 in
    let q = c.small_at-count.ensures.0 in
    simp (le-ltb _ _ c.if-used-lt-HEADER_BYTES.false, lt-ltb (h / 40) (tokens_told a.s.now h) (omega (arith, q, c.if-room-count.true)))

pub returns : goal.returns
unfolding newest_read
returns c =
    let a = c.args in
    let h = a.used - 17 in
    let q = c.small_at-count.ensures.0 in
    c.headed_read.ensures ∙ ap (λ (k : ℕ). headed_read a.parents a.s.now h (h / 40) (a.used - (17 + k * 40))) q
    ∙ simp (le-ltb _ _ c.if-used-lt-HEADER_BYTES.false, le-ltb (h / 40) (tokens_told a.s.now h) (omega (arith, q, c.if-room-count.false)))
