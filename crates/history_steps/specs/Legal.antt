-- Which list of calls is a history for one fresh parent (document 02, U10): one "that keeps the history rules, the flush at each change included, in which
-- every undo has a standing call to take back, and in which every call is accepted". It is decided by the standing calls, the newest first, and the last call of
-- the list so far. That the index says the same is the theorem of `short_history_laws`.
use Rattle.std.specs.Prelude.{ℕ, ◌+◌, Bool, true, false, cond, ◌&&◌, List, [], ◌∷◌, eqb, ltb}
use Rattle.history_steps.specs.declared.Rank.{Rank}
use Rattle.history_steps.specs.declared.Rank.TheVariants.{Append1, Append2, Spend1, Spend2, Undo, Flush}
use Rattle.history_steps.specs.Ranks.{number}

-- how many of the calls are k
unfoldable pub count : Rank → List Rank → ℕ
count k [] = 0
count k (j ∷ js) = cond (eqb (number j) (number k)) (count k js + 1) (count k js)

abbrev pub none : Rank → List Rank → Bool
none k js = eqb (count k js) 0

abbrev pub some : List Rank → Bool
some [] = false
some (j ∷ js) = true

abbrev pub before : List Rank → List Rank
before [] = []
before (j ∷ js) = js

-- "the flush at each change included": behind an undo an append or a spend needs one, and the other way round
abbrev pub lets_call : Rank → Bool
lets_call Append1 = true
lets_call Append2 = true
lets_call Spend1 = true
lets_call Spend2 = true
lets_call Undo = false
lets_call Flush = true

abbrev pub lets_undo : Rank → Bool
lets_undo Append1 = false
lets_undo Append2 = false
lets_undo Spend1 = false
lets_undo Spend2 = false
lets_undo Undo = true
lets_undo Flush = true

-- appended numbers never fall, and none is appended while it is spent; a spend takes a copy that is not spent; an undo has a standing call to take back
unfoldable pub may : Rank → (standing : List Rank) → (last : Rank) → Bool
may Append1 js last = lets_call last && (none Append2 js && none Spend1 js)
may Append2 js last = lets_call last && none Spend2 js
may Spend1 js last = lets_call last && ltb (count Spend1 js) (count Append1 js)
may Spend2 js last = lets_call last && ltb (count Spend2 js) (count Append2 js)
may Undo js last = lets_undo last && some js
may Flush js last = true

-- the standing calls after an accepted one
abbrev pub stood : Rank → List Rank → List Rank
stood Append1 js = Append1 ∷ js
stood Append2 js = Append2 ∷ js
stood Spend1 js = Spend1 ∷ js
stood Spend2 js = Spend2 ∷ js
stood Undo js = before js
stood Flush js = js

unfoldable pub legal_from : (standing : List Rank) → (last : Rank) → List Rank → Bool
legal_from js last [] = true
legal_from js last (k ∷ ks) = may k js last && legal_from (stood k js) k ks

-- "for one fresh parent": no call stands, and either side may come first, as behind a flush
abbrev pub legal : List Rank → Bool
legal ks = legal_from [] Flush ks
