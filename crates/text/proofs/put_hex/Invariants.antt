-- What is left of the id, written from o on, completes what is written.
use Rattle.std.proofs.Common.{◌+◌, ◌*◌, ◌≡◌, length, drop}
use lib.Seq.{sets}
use Rattle.text.specs.Text.{hex}
use Rattle.text.proofs.put_hex.Given as goal

abbrev pub invariant-loop-b : goal.invariant-loop-b
invariant-loop-b l =
    (length l.out ≡ length l.fn.out) × (l.o ≡ l.at + 2 * l.b-index) × (sets l.fn.out l.at (hex l.id) ≡ sets l.out l.o (hex (drop l.b-index l.id)))
