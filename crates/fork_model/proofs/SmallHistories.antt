-- Small histories across rows, computed by the index of tables with rows of one number: what a wrong walk or a wrong flush would break.
use mathlib.Core.Path.{◌≡◌, refl}
use mathlib.Core.List.{List, [], ◌∷◌}
use Prim.Native.Nat.{ℕ}
use native.Mathlib.Decide.{ℕ_discrete, dec_le, dec_lt}
use lib.IntN.{ℤ, pos}
use Rattle.ledger.specs.Ledger.{boxes, append, spend, ite, series_dec, int_dec}
use Rattle.ledger.specs.Run.{done, Machine, Step, call, undo, flush, start, run, flat}
use Rattle.fork_model.proofs.Table as Tb
use Rattle.fork_model.proofs.Store.{unsnoc, flip_first, ordered, seen_in, halve, walk}
use Rattle.fork_model.proofs.Store as St
use Rattle.fork_model.proofs.Whole as Wh

abbrev pub append_box : ℕ → Step
append_box n = call (append (boxes 0) (pos n))

abbrev pub spend_box : ℕ → Step
spend_box n = call (spend 0 (pos n))

-- the box entries of parent 0 after the steps
abbrev pub boxes_after : Machine → List Step → List ℤ
boxes_after M ss = M.entries (run M (start M) ss).now.store (boxes 0)

-- rows of one number, lists with room for three
abbrev short_rows : St.Env
short_rows = record {
  r = 0;
  lim = 9223372036854775808;
  Key = ℕ;
  key_dec = ℕ_discrete;
  key = λ ch s. s;
  Row = List ℤ;
  enc = λ ch s l. l;
  dec = λ ch s l. done l;
  redo = λ ch s b l. l;
  table_cap = 3;
  staged_cap = 3;
  deleted_cap = 3;
  max_count = 3;
}

module _ (B : Wh.Balances) where
  abbrev M : Machine
  M = Wh.machine short_rows B

  -- rows [5] and [5], both spent: the second undo of a spend passes the newer row, which starts with 5 and holds no -5 any more
  pub past_an_equal_row : boxes_after M (append_box 5 ∷ append_box 5 ∷ spend_box 5 ∷ spend_box 5 ∷ append_box 6 ∷ flush ∷ undo ∷ undo ∷ undo ∷ []) ≡ pos 5 ∷ pos 5 ∷ []
  unfolding run flat ite series_dec int_dec ℕ_discrete dec_le dec_lt unsnoc flip_first ordered seen_in halve walk Tb.in_dec Tb.lacks_dec Tb.new_dec Tb.fresh
  past_an_equal_row = refl

  -- row [5] is merged back, so that its key is deleted; spilled again after a flush, it outlives the next flush
  pub row_spilled_again : boxes_after M (append_box 5 ∷ append_box 6 ∷ flush ∷ undo ∷ undo ∷ flush ∷ append_box 5 ∷ append_box 6 ∷ flush ∷ []) ≡ pos 5 ∷ pos 6 ∷ []
  unfolding run flat ite series_dec int_dec ℕ_discrete dec_le dec_lt unsnoc flip_first ordered seen_in halve walk Tb.in_dec Tb.lacks_dec Tb.new_dec Tb.fresh
  row_spilled_again = refl
