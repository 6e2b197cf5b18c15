-- What the generator answers and leaves (document 02, U11): "Make a generator that writes to a lent output as many runner calls as asked, from a nonzero 64-bit
-- state. .. Turned away: 38 for state 0, tested before 32."
use Rattle.std.specs.Prelude.{ℕ, Bool, cond, ◌&&◌, List, eqb, leb, length, Ok, Err}
use Rattle.stores.specs.Stores.{write}
use Rattle.load_core.specs.declared.Source.{Source}
use Rattle.load_core.specs.Draw.{source, source_after}
use Rattle.load.specs.Answers.{Generated}
use Rattle.load.specs.Bytes.{load_bytes}

-- the answer, and the output at exit
pub record Generating : Type 0 where
  pub answer : Generated
  pub out : List ℕ

abbrev pub generated : Generated → List ℕ → Generating
generated a l = record { answer = a; out = l }

-- the calls at the front of the output: how many bytes, and the generator after them
abbrev pub written_from : ℕ → Source → List ℕ → Generating
written_from n g out = generated (Ok (length (load_bytes n g), source_after n g)) (write 0 (load_bytes n g) out)

-- 38, then 32 by the exact bytes of the calls; a refusal writes nothing
unfoldable pub generated_from : ℕ → Source → List ℕ → Generating
generated_from n g out =
    cond (eqb g.state 0) (generated (Err 38) out)
    (cond (leb (length (load_bytes n g)) (length out)) (written_from n g out)
    (generated (Err 32) out))

-- the counts start at 0
abbrev pub generate_load_of : ℕ → (state : ℕ) → List ℕ → Generating
generate_load_of n x out = generated_from n (source x 0 0) out

-- a source that counts at most so many
abbrev pub most_counted : ℕ
most_counted = 4611686018427387904

abbrev pub counts_ok : Source → Bool
counts_ok g = leb g.boxes most_counted && leb g.txs most_counted

-- from where an earlier load ended; 25 first, for counts that are above the largest
unfoldable pub go_on_of : ℕ → Source → List ℕ → Generating
go_on_of n g out = cond (counts_ok g) (generated_from n g out) (generated (Err 25) out)
