-- What the exports of the flat list leave: the code, the count and the list at exit. The count is a borrowed number; an accepted call sets it,
-- "a refusal returns its number only and changes nothing".
use Rattle.std.specs.Prelude.{ℕ, List, ℤ, Ok, Err}
use Rattle.index_types.specs.Answers.{FlatChanged}
use Rattle.index_types.specs.Answers.{FlatPopped}
use Rattle.flat_list.specs.Flat.{Changing, Popping}

pub record ChangeOut : Type 0 where
  pub code : ℕ
  pub count : ℕ
  pub list : List ℤ

abbrev pub change_out : (code count : ℕ) → List ℤ → ChangeOut
change_out code count list = record { code = code; count = count; list = list }

abbrev pub change_by : FlatChanged → ℕ → List ℤ → ChangeOut
change_by (Ok after) count list = change_out 0 after list
change_by (Err code) count list = change_out code count list

abbrev pub change_export : ℕ → Changing → ChangeOut
change_export count c = change_by c.answer count c.list

pub record PopOut : Type 0 where
  pub code : ℕ
  pub number : ℤ
  pub count : ℕ
  pub list : List ℤ

abbrev pub pop_out : ℕ → ℤ → ℕ → List ℤ → PopOut
pop_out code n count list = record { code = code; number = n; count = count; list = list }

abbrev pub pop_by : FlatPopped → ℤ → ℕ → List ℤ → PopOut
pop_by (Ok (m, after)) n count list = pop_out 0 m.0 after list
pop_by (Err code) n count list = pop_out code n count list

abbrev pub pop_export : ℤ → ℕ → Popping → PopOut
pop_export n count p = pop_by p.answer n count p.list
