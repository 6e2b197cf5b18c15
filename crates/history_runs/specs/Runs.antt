-- Which calls of the runner spell a list of steps of the fork-undo theorem, and when the runner's state holds what the theorem's machine holds.
use Rattle.std.specs.Prelude.{◌≡◌, ◌⊎◌, Bool, true, false, List, [], ◌∷◌, ◌++◌, map, ℕ, ◌+◌, ◌*◌, ◌≤◌, ◌<◌, ℤ, pos, length, drop, replicate}
use Rattle.std.specs.Int.Signed.{mag}
use Rattle.std.proofs.Math.Decide.{dec_lt}
use Rattle.index_types.specs.Limits.{segment_threshold}
use Rattle.buffer_core.specs.declared.Direction.TheVariants.{Spend, Unspend}
use Rattle.buffer_core.specs.Edition.{edition_1}
use Rattle.buffer_core.specs.Append.{counts_of}
use Rattle.calls.specs.declared.Call.{Call}
use Rattle.calls.specs.declared.Call.TheVariants.{Append, Flip, Pop, Flush, Change}
use Rattle.call_steps.specs.declared.Said.{Said}
use Rattle.call_steps.specs.State.{State, Ready}
use Rattle.call_steps.specs.Steps.{accepted, number_popped, refused, step_of}
use Rattle.runner.specs.Run.{run_of}
use Rattle.call_runs.specs.Made.{said_from}
use Rattle.balance_laws.specs.Calls.{tokens_in}
use Rattle.ledger.specs.Ledger.{TokenId, Parent, Series, boxes, parent_of, ite, Tokens, append, spend, credit, debit, absℤ, amount_in, ledger_numbers, ledger_spent, ledger_nanos, ledger_amount}
use Rattle.ledger.specs.Ledger as ledger
use Rattle.ledger.specs.Run.{Res, done, Machine, Step, call, undo, flush, negs, answer_of}
use Rattle.ledger.specs.Run as Run
use Rattle.history.specs.Index.{kind_of, entries_of}
use Rattle.history.specs.Machine.{Borrowed}
use Rattle.history.specs.ForkUndo.{Places, empty_balance, index_machine}
use Rattle.history_runs.specs.View.{ids_in, part_in, view, balance_in, one_token}

-- ---- an input that is read in pieces: each run gets the bytes that the one before left, then the next piece, and starts from the state it left
pub record Piece : Type 0 where
  pub bytes : List ℕ
  pub answers : List ℕ
  pub popped : List ℤ

unfoldable pub bytes_of : List Piece → List ℕ
bytes_of [] = []
bytes_of (q ∷ qs) = q.bytes ++ bytes_of qs

unfoldable pub in_pieces : (parents : ℕ) → State → (left : List ℕ) → List Piece → State
in_pieces parents s left [] = s
in_pieces parents s left (q ∷ qs) =
    let r = run_of edition_1 parents (left ++ q.bytes) s q.answers q.popped in
    in_pieces parents r.now (drop r.at (left ++ q.bytes)) qs

-- what the runs say, the first one first: of each call that a run made, what stands in that run's own answers
unfoldable pub said_in_pieces : (parents : ℕ) → State → (left : List ℕ) → List Piece → List Said
said_in_pieces parents s left [] = []
said_in_pieces parents s left (q ∷ qs) =
    let r = run_of edition_1 parents (left ++ q.bytes) s q.answers q.popped in
    said_from r.answers r.popped 0 r.made ++ said_in_pieces parents r.now (drop r.at (left ++ q.bytes)) qs

-- each run has room for n answers
unfoldable pub Roomy : ℕ → List Piece → Type 0
Roomy n [] = Unit {0}
Roomy n (q ∷ qs) = (n ≤ length q.popped) × (n * 2 ≤ length q.answers) × Roomy n qs

-- what the runner says where an undo answers so
abbrev pub says : List ℤ → Said
says [] = accepted
says (n ∷ ns) = number_popped n

-- and where a step does
abbrev pub says_of : Res (List ℤ) → Said
says_of (done l) = says l
says_of (Run.refused k) = refused k

module _ (parents : ℕ) where
  -- a credit or a debit that the runner has: of one token, whose id is a byte 32 times
  pub record Changes (adding : Bool) (p : Parent) (nanos : ℤ) (ts : Tokens) (x : Call) : Type 0 where
    pub token : ℕ
    pub amount : ℤ
    pub among : p < parents
    pub one : ts ≡ one_token token amount
    pub small : mag amount < 9223372036854775808
    pub is : x ≡ Change adding p nanos token amount

  -- the runner's call x makes the history's call
  abbrev pub Makes : ledger.Call → Call → Type 0
  Makes (append ch n) x = (parent_of ch < parents) × (x ≡ Append (kind_of ch) (parent_of ch) n)
  Makes (spend p t) x = (p < parents) × (x ≡ Flip Spend p t)
  Makes (credit p n ts) x = Changes true p n ts x
  Makes (debit p n ts) x = Changes false p n ts x

  -- "Undo means pop, unspend, `subtract_box` or `add_box` with the same arguments"
  abbrev pub Unmakes : ledger.Call → Call → Type 0
  Unmakes (append ch n) x = (parent_of ch < parents) × (x ≡ Pop (kind_of ch) (parent_of ch))
  Unmakes (spend p t) x = (p < parents) × (x ≡ Flip Unspend p t)
  Unmakes (credit p n ts) x = Changes false p n ts x
  Unmakes (debit p n ts) x = Changes true p n ts x

  abbrev pub UnmakesNewest : List ledger.Call → Call → Type 0
  UnmakesNewest [] x = ⊥
  UnmakesNewest (a ∷ cs) x = Unmakes a x

  module _ (ids : Parent → List ℕ) (B : Borrowed edition_1) (places : Parent → Places) where
    abbrev pub M : Machine
    M = index_machine edition_1 ids B places

    -- of each of so many parents, the runner's state holds what the machine's does
    pub record Holds (σ : Run.State M) (s : State) : Type 0 where
      pub ready : Ready parents s
      pub names : (p : Parent) → p < parents → ids_in s p ≡ ids p
      pub parts : (ch : Series) → parent_of ch < parents → part_in s ch ≡ σ.store.parts ch
      pub lists : s.lists ≡ σ.store.lists
      pub balances : (p : Parent) → p < parents → balance_in s p ≡ σ.bals p

    -- the runner's call x makes the step
    abbrev pub Tells : Run.Conf M → Step → Call → Type 0
    Tells c (call a) x = Makes a x
    Tells c undo x = UnmakesNewest c.standing x
    Tells c flush x = x ≡ Flush

    unfoldable pub Spells : Run.Conf M → List Step → List Call → Type 0
    Spells c [] [] = Unit {0}
    Spells c [] (x ∷ xs) = ⊥
    Spells c (t ∷ ts) [] = ⊥
    Spells c (t ∷ ts) (x ∷ xs) = Tells c t x × Spells (Run.step M c t) ts xs

    -- what the runner says of the undo of the newest standing call: what the undo answers; or 16 or 21, and that list is full
    abbrev pub UndoSaid : List ledger.Call → State → Said → Type 0
    UndoSaid [] s a = Unit {0}
    UndoSaid (n ∷ cs) s a =
        (a ≡ says (answer_of n))
        ⊎ (((a ≡ refused 16) × (s.lists.staged_counts.capacity ≤ s.lists.staged_counts.count))
        ⊎ ((a ≡ refused 21) × (s.lists.deleted_counts.capacity ≤ s.lists.deleted_counts.count)))

    abbrev pub StepSaid : Run.Conf M → Step → State → Said → Type 0
    StepSaid c (call a) s w = Unit {0}
    StepSaid c undo s w = UndoSaid c.standing s w
    StepSaid c flush s w = Unit {0}

    -- of every undo of the list, wherever it stands; ws are what is said of the calls, in their order
    unfoldable pub StepsSaid : Run.Conf M → State → List Step → List Call → (ws : List Said) → Type 0
    StepsSaid c s [] xs ws = Unit {0}
    StepsSaid c s (t ∷ ts) [] ws = ⊥
    StepsSaid c s (t ∷ ts) (x ∷ xs) [] = ⊥
    StepsSaid c s (t ∷ ts) (x ∷ xs) (w ∷ ws) = StepSaid c t s w × StepsSaid (Run.step M c t) (step_of edition_1 x s).after ts xs ws

  -- of each of so many parents, the runner's state holds exactly what the standing calls alone give
  pub record Agrees (cs : List ledger.Call) (s : State) : Type 0 where
    pub numbers : (ch : Series) → parent_of ch < parents → map absℤ (entries_of edition_1 (ids_in s) (view s) ch) ≡ ledger_numbers cs ch
    pub copies : (p : Parent) → p < parents → (n : ℕ) → 0 < n → negs n (entries_of edition_1 (ids_in s) (view s) (boxes p)) ≡ ledger_spent cs p n
    pub nanoErgs : (p : Parent) → p < parents → (balance_in s p).nanos ≡ ledger_nanos cs p
    pub amounts : (p : Parent) → p < parents → (t : TokenId) → amount_in (tokens_in (balance_in s p)) t ≡ ledger_amount cs p t

  -- "Empty: each count, length and nanoErgs 0": the state that a history starts from, of each of so many parents, whatever each balance has in its places
  pub record Empty (places : Parent → Places) (s : State) : Type 0 where
    pub ready : Ready parents s
    pub parts : (ch : Series) → parent_of ch < parents → (part_in s ch).head ≡ counts_of 0 (pos 0)
    pub staged : s.lists.staged_counts.count ≡ 0
    pub table : s.lists.table_counts.count ≡ 0
    pub deleted : s.lists.deleted_counts.count ≡ 0
    pub balances : (p : Parent) → p < parents → balance_in s p ≡ empty_balance (places p)

  -- the places that the state lends to a head; 512 of them for a parent that it has not
  abbrev pub borrowed_places : State → Series → List ℤ
  borrowed_places s ch = ite (dec_lt (parent_of ch) parents) (part_in s ch).places (replicate segment_threshold (pos 0))
