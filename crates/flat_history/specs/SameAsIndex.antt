-- "Take any list of demand 3 that has only box appends, spends, undos and flushes of one parent, the flushes passed over by the flat engine, and in which 16, 21, 36
-- and 37 never come. Flushes apart, both give the same acceptance and refusal numbers and the same popped absolute values. Both then hold the same numbers in order
-- and the same spent copies. Which of several copies carries the sign may differ." (document 02, U9)
use Rattle.std.specs.Prelude.{◌≡◌, ℕ, ◌<◌, ◌≤◌, ℤ, nat_abs, length}
use mathlib.Core.List.{List, [], ◌∷◌, map, Memᴰ}
use Rattle.index_types.specs.Limits.{flat_limit}
use Rattle.index_types.specs.declared.RowEdition.{RowEdition}
use Rattle.buffer_core.specs.Edition.{edition_of}
use Rattle.ledger.specs.Ledger.{Parent, boxes, append, spend, credit, debit, absℤ}
use Rattle.ledger.specs.Run.{Res, done, refused, Machine, Step, call, undo, flush, negs}
use Rattle.ledger.specs.Run as Run
use Rattle.history.specs.Machine.{Borrowed}
use Rattle.history.specs.ForkUndo.{Places, index_machine}
use Rattle.history_summaries.specs.Summaries.{BorrowedSummaries, summary_machine}
use Rattle.flat_history.specs.FlatMachine.{flat_machine}

-- "only box appends, spends, undos and flushes of one parent"
abbrev pub OfBoxes : Parent → Step → Type 0
OfBoxes p (call (append ch n)) = boxes p ≡ ch
OfBoxes p (call (spend q t)) = p ≡ q
OfBoxes p (call (credit q n ts)) = ⊥
OfBoxes p (call (debit q n ts)) = ⊥
OfBoxes p undo = Unit {0}
OfBoxes p flush = Unit {0}

unfoldable pub AllOfBoxes : Parent → List Step → Type 0
AllOfBoxes p [] = Unit {0}
AllOfBoxes p (x ∷ ss) = OfBoxes p x × AllOfBoxes p ss

-- "in which 16, 21, 36 and 37 never come"
abbrev pub full_codes : List ℕ
full_codes = 16 ∷ 21 ∷ 36 ∷ 37 ∷ []

abbrev pub NeverFull : List (Res (List ℤ)) → Type 0
NeverFull rs = (k : ℕ) → Memᴰ k full_codes → Memᴰ (refused k) rs → ⊥

-- "the same acceptance and refusal numbers and the same popped absolute values"
abbrev pub absolute : Res (List ℤ) → Res (List ℕ)
absolute (done l) = done (map nat_abs l)
absolute (refused k) = refused k

-- "Flushes apart": what is compared of the answers to the steps, in their order
unfoldable pub compared : List Step → List (Res (List ℤ)) → List (Res (List ℕ))
compared [] rs = []
compared (x ∷ ss) [] = []
compared (call a ∷ ss) (r ∷ rs) = absolute r ∷ compared ss rs
compared (undo ∷ ss) (r ∷ rs) = absolute r ∷ compared ss rs
compared (flush ∷ ss) (r ∷ rs) = compared ss rs

-- "the same numbers in order and the same spent copies. Which of several copies carries the sign may differ"; a spent 0 stays 0, so 0 is left out
pub record SameHeld (l m : List ℤ) : Type 0 where
  pub in_order : map absℤ l ≡ map absℤ m
  pub copies : (n : ℕ) → 0 < n → negs n l ≡ negs n m

-- the same list of steps run by a machine and by the flat list of parent p
module _ (M : Machine) (p : Parent) (places : List ℤ) (s : Parent → Places) where
  abbrev F : Machine
  F = flat_machine p places s

  abbrev pub answers : List Step → List (Res (List ℤ))
  answers ss = Run.answers M (Run.start M) ss

  abbrev pub flat_answers : List Step → List (Res (List ℤ))
  flat_answers ss = Run.answers F (Run.start F) ss

  -- what each holds of the parent's box numbers at the end
  abbrev pub held : List Step → List ℤ
  held ss = M.entries (Run.run M (Run.start M) ss).now.store (boxes p)

  abbrev pub flat_held : List Step → List ℤ
  flat_held ss = F.entries (Run.run F (Run.start F) ss).now.store (boxes p)

  -- "any list of demand 3": a legal one in which no two row keys in use are equal
  abbrev pub SameAsFlat : Type 0
  SameAsFlat =
      (ss : List Step) → Run.Legal M (Run.start M) ss → Run.KeysApart M (Run.InUse M (Run.start M) ss)
      → AllOfBoxes p ss → NeverFull (answers ss) → NeverFull (flat_answers ss)
      → (compared ss (answers ss) ≡ compared ss (flat_answers ss)) × SameHeld (held ss) (flat_held ss)

-- in either edition, for all parents' ids of 32 bytes, all borrowed buffers, every parent, and 4,096 borrowed places or more, whatever they hold
abbrev pub Theorem : Type 0
Theorem =
    (v : RowEdition) (ids : Parent → List ℕ) → ((q : Parent) → length (ids q) ≡ 32) → (B : Borrowed (edition_of v)) (s : Parent → Places)
    → (p : Parent) (places : List ℤ) → flat_limit ≤ length places → SameAsFlat (index_machine (edition_of v) ids B s) p places s

-- the same of the calls with summaries, which may be refused by 36
abbrev pub SummaryTheorem : Type 0
SummaryTheorem =
    (v : RowEdition) (ids : Parent → List ℕ) → ((q : Parent) → length (ids q) ≡ 32) → (B : Borrowed (edition_of v)) (s : Parent → Places) (Z : BorrowedSummaries)
    → (p : Parent) (places : List ℤ) → flat_limit ≤ length places → SameAsFlat (summary_machine (edition_of v) ids B s Z) p places s
