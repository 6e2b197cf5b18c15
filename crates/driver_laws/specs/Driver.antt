-- A driver: the state, and the journal, which lists the accepted calls that were not undone, the newest first ("Accepted calls go to a borrowed journal"). What the
-- journal holds is what the fork-undo theorem calls the standing calls.
use Rattle.std.specs.Prelude.{ℕ, zero, suc, ◌*◌, Bool, true, false, cond, List, [], ◌∷◌, eqb, leb, length}
use Rattle.call_steps.specs.State.{State}
use Rattle.call_steps.specs.Steps.{Stepping}
use Rattle.ledger.specs.Calls.{Call}
use Rattle.ledger.specs.Run.{Step, call, undo, flush}
use Rattle.driver_core.specs.Steps.{make, unmake, flushing, is_accepted, final}

pub record Driver : Type 0 where
  pub now : State
  pub journal : List Call

abbrev pub driver : State → List Call → Driver
driver s j = record { now = s; journal = j }

-- "An accepted call becomes the newest standing call"; a refused one leaves the journal. The state is what the call left, accepted or refused
abbrev pub journaled : Call → List Call → Stepping → Driver
journaled a j x = driver x.after (cond (is_accepted x) (a ∷ j) j)

-- "an accepted undo removes that one": j, of which it is the newest, or the calls before it
abbrev pub shortened : (cs j : List Call) → Stepping → Driver
shortened cs j x = driver x.after (cond (is_accepted x) cs j)

-- the undo of the newest call
abbrev pub newest_undone : List Call → State → Driver
newest_undone [] s = driver s []
newest_undone (a ∷ cs) s = shortened cs (a ∷ cs) (unmake a s)

abbrev pub do_step : Driver → Step → Driver
do_step d (call a) = journaled a d.journal (make a d.now)
do_step d undo = newest_undone d.journal d.now
do_step d flush = driver (flushing d.now).after d.journal

unfoldable pub do_steps : Driver → List Step → Driver
do_steps d [] = d
do_steps d (t ∷ ts) = do_steps (do_step d t) ts

-- ---- undo to a mark: a number of standing calls ("Block boundaries are marks")

-- what an undo of the newest call says
abbrev pub newest_code : List Call → State → ℕ
newest_code [] s = 0
newest_code (a ∷ cs) s = (unmake a s).said.code

abbrev pub undo_code : Driver → ℕ
undo_code d = newest_code d.journal d.now

abbrev pub flush_code : Driver → ℕ
flush_code d = (flushing d.now).said.code

-- what is left, and how it ended: 0 at the mark, else the refusal that no flush has lifted
pub record UndoneTo : Type 0 where
  pub left : Driver
  pub code : ℕ

abbrev pub undone_to : Driver → ℕ → UndoneTo
undone_to d code = record { left = d; code = code }

-- no more calls stand than the mark says
abbrev pub at_mark : (mark : ℕ) → Driver → Bool
at_mark mark d = leb (length d.journal) mark

-- "takes the newest standing calls back in reverse order": one after the other until no more stand than the mark says
unfoldable pub undos : ℕ → (mark : ℕ) → (fresh : Bool) → Driver → UndoneTo
undos zero mark fresh d = undone_to d 0
undos (suc n) mark fresh d =
    cond (at_mark mark d) (undone_to d 0)
    (cond (eqb (undo_code d) 0) (undos n mark false (do_step d undo))
    (cond (final fresh (undo_code d)) (undone_to (do_step d undo) (undo_code d))
    (cond (eqb (flush_code (do_step d undo)) 0) (undos n mark true (do_step (do_step d undo) flush))
    (undone_to (do_step (do_step d undo) flush) (flush_code (do_step d undo))))))

-- the flush behind the undos, unless one of them was refused
abbrev pub then_flush : UndoneTo → UndoneTo
then_flush b = cond (eqb b.code 0) (undone_to (do_step b.left flush) (flush_code b.left)) b

-- each undo takes at most two turns: its own, and one after a flush
abbrev pub turns : Driver → ℕ
turns d = length d.journal * 2

abbrev pub undos_flushed : (mark : ℕ) → Driver → UndoneTo
undos_flushed mark d = undos (turns d) mark true (do_step d flush)

-- "with the flush at the change": one before the undos and one behind them. Where the first is refused (22), nothing changes. A mark at or above the standing
-- calls leaves all as it is
unfoldable pub undo_to : (mark : ℕ) → Driver → UndoneTo
undo_to mark d =
    cond (at_mark mark d) (undone_to d 0)
    (cond (eqb (flush_code d) 0) (then_flush (undos_flushed mark d)) (undone_to (do_step d flush) (flush_code d)))
