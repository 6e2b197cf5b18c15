-- The calls of a load that can be repeated (document 02, U11), drawn one after the other "from a nonzero 64-bit state".
use Rattle.std.specs.Prelude.{ℕ, zero, suc, ◌+◌, ◌*◌, ◌/◌, ◌%◌, ◌^◌, cond, List, [], ◌∷◌, eqb, ltb, pos}
use Rattle.std.specs.Int.Bits.{bit_xor}
use Rattle.segment_id.specs.declared.Kind.TheVariants.{Box, Tx}
use Rattle.buffer_core.specs.declared.Direction.TheVariants.{Spend}
use Rattle.calls.specs.declared.Call.{Call}
use Rattle.calls.specs.declared.Call.TheVariants.{Append, Flip, Flush}
use Rattle.load_core.specs.declared.Source.{Source}
use Rattle.load_core.specs.declared.Drawn.{Drawn}

-- "Each draw xors the state with itself shifted left by 13, then right by 7, then left by 17, bits past 64 dropped; the draw is the new state, unsigned"
unfoldable pub draw : ℕ → ℕ
draw x =
    let a = bit_xor x (x * 2 ^ 13 % 2 ^ 64) in
    let b = bit_xor a (a / 2 ^ 7) in
    bit_xor b (b * 2 ^ 17 % 2 ^ 64)

abbrev pub source : (state boxes txs : ℕ) → Source
source x b t = record { state = x; boxes = b; txs = t }

abbrev pub drawn : Call → Source → Drawn
drawn c g = record { call = c; next = g }

-- "append the next box number, starting at 0"; "All calls go to parent 0"
abbrev pub next_box : ℕ → Source → Drawn
next_box d g = drawn (Append Box 0 (pos g.boxes)) (source d (g.boxes + 1) g.txs)

-- "a transaction number counted likewise"
abbrev pub next_tx : ℕ → Source → Drawn
next_tx d g = drawn (Append Tx 0 (pos g.txs)) (source d g.boxes (g.txs + 1))

-- "spend the number found by taking the draw divided by 8, rounded down, modulo the count of boxes appended so far"
abbrev pub next_spend : ℕ → Source → Drawn
next_spend d g = drawn (Flip Spend 0 (pos (d / 8 % g.boxes))) (source d g.boxes g.txs)

-- "The draw modulo 8 picks the call: 0 to 3 append the next box number ..; 4 and 5 spend ..; 6 appends a transaction number ..; 7 flushes. A spend before the
-- first box becomes a box append"
unfoldable pub pick : ℕ → Source → Drawn
pick d g =
    cond (ltb (d % 8) 4) (next_box d g)
    (cond (ltb (d % 8) 6) (cond (eqb g.boxes 0) (next_box d g) (next_spend d g))
    (cond (eqb (d % 8) 6) (next_tx d g)
    (drawn Flush (source d g.boxes g.txs))))

-- a call, and the generator after it
unfoldable pub draws : Source → Drawn
draws g = pick (draw g.state) g

-- n calls, and the generator after them
unfoldable pub calls_from : ℕ → Source → List Call
calls_from zero g = []
calls_from (suc n) g = (draws g).call ∷ calls_from n (draws g).next

unfoldable pub source_after : ℕ → Source → Source
source_after zero g = g
source_after (suc n) g = source_after n (draws g).next
