-- The 32 bytes are the only part of 32.
use native.Mathlib.Omega.{arith}
use Prim.Native.Nat.{ℕ, ◌/◌}
use mathlib.Core.Path.{◌≡◌, ap, ◌∙◌}
use mathlib.Core.List.{List, []}
use lib.ListN.{length, get_or, take, drop, length-drop}
use lib.Seq.{take-length, length-take-le}
use Rattle.std.specs.Simd.{first_chunks}
use Rattle.undo_entries.proofs.header_of.Goals as goal

only_part : (parts : List (List ℕ)) (s : List ℕ) → parts ≡ first_chunks 32 (length s / 32) s → length s ≡ 32 → get_or parts 0 [] ≡ s
only_part parts s e h =
    let one : length s / 32 ≡ 1 = omega (arith, h) in
    let whole : take (length s) s ≡ s = take-length s in
    let all : take 32 s ≡ s = rw h at whole in
    ap (λ (p : List (List ℕ)). get_or p 0 []) e ∙ ap (λ (k : ℕ). get_or (first_chunks 32 k s) 0 []) one ∙ all

pub returns : goal.returns
returns c = only_part _ _ c.as_chunks.ensures.front (length-take-le 32 (drop 1 c.args.bytes.now) (rw length-drop (omega arith)))
