-- The steps of an undo to a mark, in the terms of the fork-undo theorem, and where a driver may make calls: "at each change between calls and undos comes an accepted
-- flush".
use Rattle.std.specs.Prelude.{ℕ, zero, suc, ◌-◌, ◌≡◌, Bool, true, false, cond, ◌||◌, List, [], ◌∷◌, ◌++◌, eqb, leb, length, drop}
use Rattle.ledger.specs.Run.{Step, call, undo, flush}
use Rattle.driver_laws.specs.Driver.{Driver, do_step, undo_code, flush_code, UndoneTo, turns, undos_flushed, undo_to}
use Rattle.driver_laws.specs.Internal.{OnlyCalls}
use Rattle.driver_core.specs.Steps.{final}

-- the steps that `undos` makes
unfoldable pub undos_steps : ℕ → (mark : ℕ) → (fresh : Bool) → Driver → List Step
undos_steps zero mark fresh d = []
undos_steps (suc n) mark fresh d =
    cond (leb (length d.journal) mark) []
    (cond (eqb (undo_code d) 0) (undo ∷ undos_steps n mark false (do_step d undo))
    (cond (final fresh (undo_code d)) (undo ∷ [])
    (cond (eqb (flush_code (do_step d undo)) 0) (undo ∷ flush ∷ undos_steps n mark true (do_step (do_step d undo) flush)) (undo ∷ flush ∷ []))))

abbrev pub last_steps : UndoneTo → List Step
last_steps b = cond (eqb b.code 0) (flush ∷ []) []

-- those of `undo_to`
unfoldable pub undo_to_steps : (mark : ℕ) → Driver → List Step
undo_to_steps mark d =
    cond (leb (length d.journal) mark) []
    (cond (eqb (flush_code d) 0) (flush ∷ (undos_steps (turns d) mark true (do_step d flush) ++ last_steps (undos_flushed mark d))) (flush ∷ []))

-- ---- settled: an accepted flush came behind the last undo. An undo to a mark that says 0 leaves it so; one that stopped may not
abbrev pub settled_after : Bool → Driver → Step → Bool
settled_after b d (call a) = b
settled_after b d undo = false
settled_after b d flush = b || eqb (flush_code d) 0

unfoldable pub settled : Bool → Driver → List Step → Bool
settled b d [] = b
settled b d (t ∷ ts) = settled (settled_after b d t) (do_step d t) ts

-- calls are made where it is settled
abbrev pub MayMake : Bool → Step → Type 0
MayMake b (call a) = b ≡ true
MayMake b undo = Unit {0}
MayMake b flush = Unit {0}

unfoldable pub CallsSettled : Bool → Driver → List Step → Type 0
CallsSettled b d [] = Unit {0}
CallsSettled b d (t ∷ ts) = MayMake b t × CallsSettled (settled_after b d t) (do_step d t) ts

-- ---- an undo to a mark that says 0 has taken the calls above the mark back and no other, and leaves a settled driver settled
abbrev pub ReachLaw : Type 0
ReachLaw =
    (mark : ℕ) (d : Driver) → (undo_to mark d).code ≡ 0
    → ((undo_to mark d).left.journal ≡ drop (length d.journal - mark) d.journal) × (settled true d (undo_to_steps mark d) ≡ true)

-- a settled driver may make every batch, and stays settled
abbrev pub BatchLaw : Type 0
BatchLaw = (d : Driver) (ts : List Step) → OnlyCalls ts → CallsSettled true d ts × (settled true d ts ≡ true)
