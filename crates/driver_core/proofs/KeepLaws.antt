-- A credit or a debit of any tokens keeps what refusal 25 tests of the state.
use Prim.Native.Nat.{ℕ, ◌+◌, ◌*◌, ◌≤◌, ◌<◌}
use mathlib.Core.Path.{◌≡◌}
use mathlib.Core.Bool.{Bool}
use mathlib.Core.List.{List, ◌++◌}
use native.Mathlib.Omega.{arith}
use lib.IntN.{ℤ}
use lib.ListN.{length, take, drop, length-append, length-drop, length-set}
use lib.Seq.{get_or-set_other, length-take-le}
use Rattle.stores.specs.Stores.{write}
use Rattle.balance.specs.Boxes.{change_box}
use Rattle.segment_id.specs.declared.Kind.{Kind}
use Rattle.call_steps.specs.State.{State, length_at, balance_of, Ready}
use Rattle.call_steps.proofs.StateLaws.{kind_few}
use Rattle.call_steps.proofs.KeepLaws.{within}
use Rattle.ledger.specs.Calls.{Tokens}
use Rattle.driver_core.specs.Steps.{token_ids, token_amounts, change_with}

-- a write within a list makes it no shorter
write_longer : {A : Type 0} (at : ℕ) (s l : List A) → at ≤ length l → length l ≤ length (write at s l)
unfolding write
write_longer at s l h =
    omega (arith, length-append (take at l ++ s) (drop (at + length s) l), length-append (take at l) s, length-take-le at l h, length-drop (at + length s) l)

-- a parent's token count stands apart from the lengths of the heads
apart : (p q : ℕ) (k : Kind) → length_at k q ≡ p * 3 + 2 → ⊥
apart p q k e = omega (arith, kind_few k, e)

pub change_kept : (parents : ℕ) (s : State) → Ready parents s → (adding : Bool) (p : ℕ) → p < parents → (nanos : ℤ) (ts : Tokens) → Ready parents (change_with adding p nanos ts s).after
unfolding change_with
change_kept parents s r adding p h nanos ts =
    let b = (change_box adding (balance_of p s.ids s.numbers s.lengths) nanos (token_ids ts) (token_amounts ts) (length ts)).balance in
    let numbers = write (p * 1153 + 1024) b.amounts s.numbers in
    let w = within parents s r p h in
    record {
      blocks = record {
        ids_in = omega (arith, r.blocks.ids_in, write_longer (p * 4128 + 32) b.ids s.ids (omega (arith, w.ids_in)));
        numbers_in = omega (arith, r.blocks.numbers_in, write_longer (p * 1153 + 1024) b.amounts s.numbers (omega (arith, w.numbers_in)), length-set numbers (p * 1153 + 1152) b.nanos);
        lengths_in = omega (arith, r.blocks.lengths_in, length-set s.lengths (p * 3 + 2) b.count);
        spills_in = r.blocks.spills_in;
      };
      few = λ q i k. omega (arith, r.few q i k, get_or-set_other s.lengths (p * 3 + 2) (length_at k q) b.count 0 (λ e. apart p q k e));
      listed = r.listed;
    }
