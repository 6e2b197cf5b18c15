-- What the exports of a load leave. A refusal changes nothing.
use Rattle.std.specs.Prelude.{ℕ, List, Ok, Err}
use Rattle.load_core.specs.declared.Source.{Source}
use Rattle.load.specs.Answers.{Generated}
use Rattle.load.specs.Generated.{Generating}

-- the code, how many bytes were written, the generator after them, and the output
pub record LoadOut : Type 0 where
  pub code : ℕ
  pub written : ℕ
  pub after : Source
  pub out : List ℕ

abbrev pub load_out : ℕ → ℕ → Source → List ℕ → LoadOut
load_out code n g l = record { code = code; written = n; after = g; out = l }

abbrev pub load_by : Generated → ℕ → Source → List ℕ → LoadOut
load_by (Ok (n, g)) m h l = load_out 0 n g l
load_by (Err code) m h l = load_out code m h l

abbrev pub load_export : ℕ → Source → Generating → LoadOut
load_export m h x = load_by x.answer m h x.out
