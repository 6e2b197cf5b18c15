use mathlib.Core.Path.{◌∙◌}
use Prim.Native.Nat.{◌-◌}
use borrow.Author.Tests.{le-leb, lt-leb, lt-ltb, le-ltb}
use Rattle.driver_calls.specs.Reads.{read_at}
use Rattle.driver_calls.proofs.read_at.Goals as goal

pub returns-then-s-at : goal.returns-then-s-at
unfolding read_at
returns-then-s-at c = simp (le-leb _ _ c.if-s-at.true)

pub returns-then-left-lt-HEADER_BYTES : goal.returns-then-left-lt-HEADER_BYTES
unfolding read_at
returns-then-left-lt-HEADER_BYTES c = simp (lt-leb _ _ c.if-s-at.false, lt-ltb _ _ c.if-left-lt-HEADER_BYTES.true)

pub returns : goal.returns
unfolding read_at
returns c = c.headed_read.ensures ∙ simp (lt-leb _ _ c.if-s-at.false, le-ltb _ _ c.if-left-lt-HEADER_BYTES.false)
