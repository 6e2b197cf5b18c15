-- The answer was accepted or refused, and the outs hold its counts or are as they were. A signed out is y or z, the number as it was stored.
use Prim.Native.Nat.{ℕ}
use mathlib.Core.Path.{◌≡◌}
use mathlib.Core.List.{List}
use lib.IntN.{ℤ}
use Rattle.index_types.specs.declared.ListCounts.{ListCounts}
use Rattle.index_types.specs.declared.HeadCounts.{HeadCounts}
use Rattle.index_types.specs.declared.Tally.{Tally}
use Rattle.std.specs.Prelude.{Ok, Err}
use Rattle.index_types.specs.Answers.{Appended}
use Rattle.index_types.specs.Answers.{Popped}
use Rattle.index_types.specs.Answers.{Flipped}
use Rattle.index_types.specs.Answers.{Tallied}
use Rattle.index_types.specs.Answers.{Flushed}
use Rattle.ergo_index_outs.specs.Outs.{append_out, append_by, pop_out, pop_by, flip_out, flip_by, tally_out, tally_export, flush_out, flush_by}

-- ---- append
module _ (r : Appended) (len : ℕ) (spills : ℤ) (count : ℕ) (head : List ℤ) (staged : List ℕ) where
  pub append_done : (h : HeadCounts) (c : ListCounts) → r ≡ Ok (h, c) → (z : ℤ) → z ≡ h.spills
      → append_out 0 h.len z c.count head staged ≡ append_by r len spills count head staged
  append_done h c f z g = rw (f, g)

  pub append_refused : (code : ℕ) → r ≡ Err code → append_out code len spills count head staged ≡ append_by r len spills count head staged
  append_refused code f = rw f

-- ---- pop
module _ (r : Popped) (n : ℤ) (len : ℕ) (spills : ℤ) (s d : ℕ) (head : List ℤ) (staged deleted : List ℕ) where
  pub pop_done : (m : ℤ) (h : HeadCounts) (c g : ListCounts) → r ≡ Ok (m, h, c, g) → (y : ℤ) → y ≡ m → (z : ℤ) → z ≡ h.spills
      → pop_out 0 y h.len z c.count g.count head staged deleted ≡ pop_by r n len spills s d head staged deleted
  pop_done m h c g f y p z q = rw (f, p, q)

  pub pop_refused : (code : ℕ) → r ≡ Err code → pop_out code n len spills s d head staged deleted ≡ pop_by r n len spills s d head staged deleted
  pop_refused code f = rw f

-- ---- spend and unspend
module _ (r : Flipped) (count : ℕ) (head : List ℤ) (staged : List ℕ) where
  pub flip_done : (c : ListCounts) → r ≡ Ok c → flip_out 0 c.count head staged ≡ flip_by r count head staged
  flip_done c f = rw f

  pub flip_refused : (code : ℕ) → r ≡ Err code → flip_out code count head staged ≡ flip_by r count head staged
  flip_refused code f = rw f

-- ---- tally
module _ (r : Tallied) (u s z : ℕ) where
  pub tally_done : (t : Tally) → r ≡ Ok t → tally_out 0 t.unspent t.spent t.unknown ≡ tally_export u s z r
  tally_done t f = rw f

  pub tally_refused : (code : ℕ) → r ≡ Err code → tally_out code u s z ≡ tally_export u s z r
  tally_refused code f = rw f

-- ---- flush
module _ (r : Flushed) (s t d : ℕ) (staged table deleted : List ℕ) where
  pub flush_done : (tc sc dc : ListCounts) → r ≡ Ok (tc, sc, dc) → flush_out 0 sc.count tc.count dc.count staged table deleted ≡ flush_by r s t d staged table deleted
  flush_done tc sc dc f = rw f

  pub flush_refused : (code : ℕ) → r ≡ Err code → flush_out code s t d staged table deleted ≡ flush_by r s t d staged table deleted
  flush_refused code f = rw f
