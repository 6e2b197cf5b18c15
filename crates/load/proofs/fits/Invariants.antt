-- What is left of the calls fits in what is left of the room exactly where all calls fit in all of it.
use Rattle.std.proofs.Common.{◌≡◌, ◌-◌, leb, length}
use Rattle.load.specs.Bytes.{load_bytes}
use Rattle.load.specs.Internal.{Countable}
use Rattle.load.proofs.fits.Given as goal

abbrev pub invariant-loop : goal.invariant-loop
invariant-loop l =
    (leb (length (load_bytes l.count l.fn.g)) l.room ≡ leb (length (load_bytes (l.count - l.counter) l.source)) l.free) × Countable l.free l.source
