-- An answer of the runner in its places, and whether another has room.
use Rattle.std.specs.Prelude.{ℕ, ◌+◌, ◌*◌, Bool, true, false, cond, ◌&&◌, List, eqb, leb, ltb, ℤ, length, set}
use Rattle.call_steps.specs.declared.Said.{Said}

-- an answer: "the refusal or 0, and a popped number"
abbrev pub flag : Bool → ℕ
flag true = 1
flag false = 0

abbrev pub with_code : Said → ℕ → List ℕ → List ℕ
with_code a i answers = set (set answers (i * 2) a.code) (i * 2 + 1) (flag a.popped)

abbrev pub with_number : Said → ℕ → List ℤ → List ℤ
with_number a i popped = set popped i a.number

-- reading has not ended, and another answer has room
abbrev pub has_room : (made end : ℕ) → List ℕ → List ℤ → Bool
has_room made end answers popped = eqb end 0 && (ltb made (length popped) && leb (made * 2 + 2) (length answers))

-- how reading ended, of an input of so many bytes: at its very end that is said even where the answers are just full
abbrev pub end_at : (size at end : ℕ) → ℕ
end_at size at end = cond (eqb end 0 && leb size at) 1 end
