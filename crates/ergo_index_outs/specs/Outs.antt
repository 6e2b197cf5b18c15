-- What an answer makes of the outs of an export: an accepted call sets them, "a refusal returns its number only and changes nothing". Beside the outs stand the
-- borrowed lists as the call left them.
use Rattle.std.specs.Prelude.{ℕ, List, ℤ, Ok, Err}
use Rattle.index_types.specs.Answers.{Appended}
use Rattle.index_types.specs.Answers.{Popped}
use Rattle.index_types.specs.Answers.{Flipped}
use Rattle.index_types.specs.Answers.{Tallied}
use Rattle.index_types.specs.Answers.{Flushed}

-- ---- append: the code, the head's length and spill count, the count of staged spills, the head and the staged spills
pub record AppendOut : Type 0 where
  pub code : ℕ
  pub len : ℕ
  pub spills : ℤ
  pub count : ℕ
  pub head : List ℤ
  pub staged : List ℕ

abbrev pub append_out : ℕ → ℕ → ℤ → ℕ → List ℤ → List ℕ → AppendOut
append_out code len spills count head staged = record { code = code; len = len; spills = spills; count = count; head = head; staged = staged }

abbrev pub append_by : Appended → ℕ → ℤ → ℕ → List ℤ → List ℕ → AppendOut
append_by (Ok (h, c)) len spills count head staged = append_out 0 h.len h.spills c.count head staged
append_by (Err code) len spills count head staged = append_out code len spills count head staged

-- ---- pop: the code, the number, the head's counts, the counts of staged and deleted spills, the head and both lists
pub record PopOut : Type 0 where
  pub code : ℕ
  pub number : ℤ
  pub len : ℕ
  pub spills : ℤ
  pub staged_count : ℕ
  pub deleted_count : ℕ
  pub head : List ℤ
  pub staged : List ℕ
  pub deleted : List ℕ

abbrev pub pop_out : ℕ → ℤ → ℕ → ℤ → ℕ → ℕ → List ℤ → List ℕ → List ℕ → PopOut
pop_out code n len spills s d head staged deleted =
    record { code = code; number = n; len = len; spills = spills; staged_count = s; deleted_count = d; head = head; staged = staged; deleted = deleted }

abbrev pub pop_by : Popped → ℤ → ℕ → ℤ → ℕ → ℕ → List ℤ → List ℕ → List ℕ → PopOut
pop_by (Ok (m, h, c, e)) n len spills s d head staged deleted = pop_out 0 m h.len h.spills c.count e.count head staged deleted
pop_by (Err code) n len spills s d head staged deleted = pop_out code n len spills s d head staged deleted

-- ---- spend and unspend: the code, the count of staged spills, the head and the staged spills
pub record FlipOut : Type 0 where
  pub code : ℕ
  pub count : ℕ
  pub head : List ℤ
  pub staged : List ℕ

abbrev pub flip_out : ℕ → ℕ → List ℤ → List ℕ → FlipOut
flip_out code count head staged = record { code = code; count = count; head = head; staged = staged }

abbrev pub flip_by : Flipped → ℕ → List ℤ → List ℕ → FlipOut
flip_by (Ok c) count head staged = flip_out 0 c.count head staged
flip_by (Err code) count head staged = flip_out code count head staged

-- ---- tally: the code, and how many entries are unspent, spent and unknown
pub record TallyOut : Type 0 where
  pub code : ℕ
  pub unspent : ℕ
  pub spent : ℕ
  pub unknown : ℕ

abbrev pub tally_out : (code unspent spent unknown : ℕ) → TallyOut
tally_out code u s z = record { code = code; unspent = u; spent = s; unknown = z }

abbrev pub tally_export : (u s z : ℕ) → Tallied → TallyOut
tally_export u s z (Ok t) = tally_out 0 t.unspent t.spent t.unknown
tally_export u s z (Err code) = tally_out code u s z

-- ---- flush: the code, the counts of staged spills, of the table and of deleted spills, and the three lists
pub record FlushOut : Type 0 where
  pub code : ℕ
  pub staged_count : ℕ
  pub table_count : ℕ
  pub deleted_count : ℕ
  pub staged : List ℕ
  pub table : List ℕ
  pub deleted : List ℕ

abbrev pub flush_out : ℕ → ℕ → ℕ → ℕ → List ℕ → List ℕ → List ℕ → FlushOut
flush_out code s t d staged table deleted =
    record { code = code; staged_count = s; table_count = t; deleted_count = d; staged = staged; table = table; deleted = deleted }

abbrev pub flush_by : Flushed → ℕ → ℕ → ℕ → List ℕ → List ℕ → List ℕ → FlushOut
flush_by (Ok (tc, sc, dc)) s t d staged table deleted = flush_out 0 sc.count tc.count dc.count staged table deleted
flush_by (Err code) s t d staged table deleted = flush_out code s t d staged table deleted
