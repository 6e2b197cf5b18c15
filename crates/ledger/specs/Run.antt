-- The operations that a history makes on an index, the run of a list of steps, which lists keep the rules of document 01, and what the fork-undo theorem
-- says of them ("Demand 3 is a single statement about the whole list, not one for each call"). Read with Ledger.antt, it states the theorem whole:
-- `ForkUndo` at the end, for a machine. Quotations are of document 01, most of them of "The plain record".
use Rattle.std.specs.Prelude.{◌≡◌, ◌⊎◌, ◌≢◌, ℕ, zero, suc, ◌+◌, ◌*◌, ◌<◌, ℤ, pos, negsuc, length}
use mathlib.Core.List.{List, [], ◌∷◌, ◌++◌, map, Memᴰ}
use Rattle.std.proofs.Math.Decide.{ℕ_discrete}
use Rattle.std.specs.Int.Signed.{mag}
use Rattle.ledger.specs.Ledger.{TokenId, Parent, parent_dec, Series, boxes, ite, Tokens, Call, append, spend, credit, debit, absℤ, ledger_numbers, ledger_spent, ledger_nanos, ledger_amount, Typed, Rules}

-- what is answered: done, with a result, or refused with a number. "A refusal returns its number only"
pub data Res (A : Type 0) : Type 0 where
  done : A → Res A
  refused : ℕ → Res A

-- what a call answers and leaves: accepted, or refused with a number, and what its definition then leaves of S. That a refusal "changes nothing" is not
-- assumed: the next step starts from what was left, and what was left is proved to be what was there (`RefusalsLeave`)
pub data Made (S A : Type 0) : Type 0 where
  accepted : A → Made S A
  refused_leaving : ℕ → S → Made S A

-- a refusal left what was there
abbrev pub Leaves : {S A : Type 0} → S → Made S A → Type 0
Leaves σ (accepted a) = Unit {0}
Leaves σ (refused_leaving n τ) = τ ≡ σ

-- the numbers of a row that was read; none where it was not
abbrev pub row_or : Res (List ℤ) → List ℤ
row_or (done l) = l
row_or (refused k) = []

-- the numbers of the first n rows, "spill 0 up"
unfoldable pub flat : (ℕ → Res (List ℤ)) → ℕ → List ℤ
flat f zero = []
flat f (suc s) = flat f s ++ row_or (f s)

-- an accepted pop: what is left, and the number it answers
pub record Popped (S : Type 0) : Type 0 where
  pub left : S
  pub value : ℤ

-- the calls of document 01, over stores (heads, spill counts, staged spills, segments table and deleted spills of all parents) and balances
pub record Machine : Type 1 where
  pub Store : Type 0
  -- "Empty: each count, length and nanoErgs 0"
  pub empty : Store
  pub append_store : Store → Series → ℤ → Made Store Store
  pub pop_store : Store → Series → Made Store (Popped Store)
  pub spend_store : Store → Parent → ℤ → Made Store Store
  pub unspend_store : Store → Parent → ℤ → Made Store Store
  pub flush_store : Store → Made Store Store
  -- "spill 0 up with rows as inspection shows them, then the head"
  pub entries : Store → Series → List ℤ
  -- refusals 16 and 21 of document 01's table: "staging full", "list full"
  pub StagingFull : Store → Type 0
  pub DeletionFull : Store → Type 0
  pub Bal : Type 0
  pub no_balance : Parent → Bal
  pub add : Bal → ℤ → Tokens → Made Bal Bal
  pub sub : Bal → ℤ → Tokens → Made Bal Bal
  pub nano_of : Bal → ℤ
  pub amount_of : Bal → TokenId → ℤ
  -- numbers of a row; arguments have a size below the limit; the key of a row
  pub row_size : ℕ
  pub limit : ℕ
  pub Key : Type 0
  pub key : Series → ℕ → Key

-- "Refused calls and undos count at a change": which of the two came last, or an accepted flush after it
pub data Phase : Type 0 where
  clean calls undos : Phase

-- arguments as the functions take them: 64 signed bits, ids of 32 bytes
abbrev pub Args : ℕ → Call → Type 0
Args lim (append ch n) = mag n < lim
Args lim (spend p t) = mag t < lim
Args lim (credit p n ts) = (mag n < lim) × Typed ts
Args lim (debit p n ts) = (mag n < lim) × Typed ts

-- "It is told each call, undo and flush"
pub data Step : Type 0 where
  call : Call → Step
  undo : Step
  flush : Step

-- at each change between calls and undos comes an accepted flush
abbrev pub MayCall : Phase → Type 0
MayCall clean = Unit {0}
MayCall calls = Unit {0}
MayCall undos = ⊥

abbrev pub MayUndo : Phase → Type 0
MayUndo clean = Unit {0}
MayUndo calls = ⊥
MayUndo undos = Unit {0}

-- "a spent copy is a negative entry, and how many there are of a number"
abbrev pub negated_at : ℕ → ℤ → ℕ
negated_at n (pos m) = 0
negated_at n (negsuc k) = ite (ℕ_discrete (suc k) n) 1 0

abbrev pub negs : ℕ → List ℤ → ℕ
negs n [] = 0
negs n (e ∷ l) = negated_at n e + negs n l

-- what an undo answers: the number of an append, nothing else
abbrev pub answer_of : Call → List ℤ
answer_of (append ch n) = n ∷ []
answer_of (spend p t) = []
answer_of (credit p n ts) = []
answer_of (debit p n ts) = []

-- the standing calls as the answers tell them: "An accepted call becomes the newest standing call, an accepted undo removes that one; flushes and refusals
-- change nothing"
abbrev pub stands_after : Step → Res (List ℤ) → List Call → List Call
stands_after (call a) (done l) cs = a ∷ cs
stands_after (call a) (refused k) cs = cs
stands_after undo (done l) [] = []
stands_after undo (done l) (a ∷ cs) = cs
stands_after undo (refused k) cs = cs
stands_after flush r cs = cs

unfoldable pub told : List Call → List Step → List (Res (List ℤ)) → List Call
told cs [] rs = cs
told cs (s ∷ ss) [] = cs
told cs (s ∷ ss) (r ∷ rs) = told (stands_after s r cs) ss rs

module _ (M : Machine) where
  open M use {Store, empty, append_store, pop_store, spend_store, unspend_store, flush_store, entries, StagingFull, DeletionFull, Bal, no_balance, add, sub, nano_of, amount_of, row_size, limit, Key, key}

  -- the index: stores and each parent's balance. "Only the list writes parents and buffers": nothing but the steps changes it
  pub record State : Type 0 where
    pub store : Store
    pub bals : Parent → Bal

  -- the index, the standing calls (the newest first), and the phase
  pub record Conf : Type 0 where
    pub now : State
    pub standing : List Call
    pub phase : Phase

  -- what an accepted undo leaves, and what it answers
  pub record Undone : Type 0 where
    pub after : State
    pub answer : List ℤ

  abbrev pub stored : State → Store → State
  stored σ s = record { store = s; bals = σ.bals }

  abbrev pub with_store : State → Made Store Store → Made State State
  with_store σ (accepted s) = accepted (stored σ s)
  with_store σ (refused_leaving n s) = refused_leaving n (stored σ s)

  abbrev pub set_balance : (Parent → Bal) → Parent → Bal → Parent → Bal
  set_balance f p b q = ite (parent_dec p q) b (f q)

  abbrev pub paid : State → Parent → Bal → State
  paid σ p b = record { store = σ.store; bals = set_balance σ.bals p b }

  abbrev pub with_balance : State → Parent → Made Bal Bal → Made State State
  with_balance σ p (accepted b) = accepted (paid σ p b)
  with_balance σ p (refused_leaving n b) = refused_leaving n (paid σ p b)

  -- a call of the list runs the operation with its arguments
  abbrev pub run_call : State → Call → Made State State
  run_call σ (append ch n) = with_store σ (append_store σ.store ch n)
  run_call σ (spend p t) = with_store σ (spend_store σ.store p t)
  run_call σ (credit p n ts) = with_balance σ p (add (σ.bals p) n ts)
  run_call σ (debit p n ts) = with_balance σ p (sub (σ.bals p) n ts)

  abbrev pub quiet : Made State State → Made State Undone
  quiet (accepted σ) = accepted (record { after = σ; answer = [] })
  quiet (refused_leaving n σ) = refused_leaving n σ

  abbrev pub popped : State → Made Store (Popped Store) → Made State Undone
  popped σ (accepted r) = accepted (record { after = stored σ r.left; answer = r.value ∷ [] })
  popped σ (refused_leaving n s) = refused_leaving n (stored σ s)

  -- "Undo means pop, unspend, `subtract_box` or `add_box` with the same arguments"
  abbrev pub run_undo : State → Call → Made State Undone
  run_undo σ (append ch n) = popped σ (pop_store σ.store ch)
  run_undo σ (spend p t) = quiet (with_store σ (unspend_store σ.store p t))
  run_undo σ (credit p n ts) = quiet (with_balance σ p (sub (σ.bals p) n ts))
  run_undo σ (debit p n ts) = quiet (with_balance σ p (add (σ.bals p) n ts))

  -- "An accepted call becomes the newest standing call"; "flushes and refusals change nothing" of the standing calls.
  -- The next step starts "from what the one before left", accepted or refused
  abbrev pub after_call : Conf → Call → Made State State → Conf
  after_call c a (accepted σ) = record { now = σ; standing = a ∷ c.standing; phase = calls }
  after_call c a (refused_leaving n σ) = record { now = σ; standing = c.standing; phase = calls }

  -- "an accepted undo removes that one": the calls cs that stood before it are left
  abbrev pub after_undo : Conf → List Call → Made State Undone → Conf
  after_undo c cs (accepted u) = record { now = u.after; standing = cs; phase = undos }
  after_undo c cs (refused_leaving n σ) = record { now = σ; standing = c.standing; phase = undos }

  abbrev pub newest_undone : Conf → List Call → Conf
  newest_undone c [] = c
  newest_undone c (a ∷ cs) = after_undo c cs (run_undo c.now a)

  -- an accepted flush lets the other side follow; a refused one (22) does not
  abbrev pub after_flush : Conf → Made State State → Conf
  after_flush c (accepted σ) = record { now = σ; standing = c.standing; phase = clean }
  after_flush c (refused_leaving n σ) = record { now = σ; standing = c.standing; phase = c.phase }

  -- one step of the list; an undo is that of the newest standing call
  abbrev pub step : Conf → Step → Conf
  step c (call a) = after_call c a (run_call c.now a)
  step c undo = newest_undone c c.standing
  step c flush = after_flush c (with_store c.now (flush_store c.now.store))

  -- "all empty or 0 at first": no call stands, every parent and every list is empty
  abbrev pub start : Conf
  start = record { now = record { store = empty; bals = no_balance }; standing = []; phase = clean }

  unfoldable pub run : Conf → List Step → Conf
  run c [] = c
  run c (s ∷ ss) = run (step c s) ss

  -- ---- what the steps answer: done, with the number of an undone append and else with none, or refused with a number
  abbrev pub said : Made State State → Res (List ℤ)
  said (accepted σ) = done []
  said (refused_leaving n σ) = refused n

  abbrev pub said_undo : Made State Undone → Res (List ℤ)
  said_undo (accepted u) = done u.answer
  said_undo (refused_leaving n σ) = refused n

  abbrev pub said_newest : Conf → List Call → Res (List ℤ)
  said_newest c [] = done []
  said_newest c (a ∷ cs) = said_undo (run_undo c.now a)

  abbrev pub answer_to : Conf → Step → Res (List ℤ)
  answer_to c (call a) = said (run_call c.now a)
  answer_to c undo = said_newest c c.standing
  answer_to c flush = said (with_store c.now (flush_store c.now.store))

  -- of each step of the list
  unfoldable pub answers : Conf → List Step → List (Res (List ℤ))
  answers c [] = []
  answers c (s ∷ ss) = answer_to c s ∷ answers (step c s) ss

  -- a step may come: at each change an accepted flush came before it, and an undo comes only while a call stands
  abbrev pub Allowed : Conf → Step → Type 0
  Allowed c (call a) = MayCall c.phase × Args limit a
  Allowed c undo = MayUndo c.phase × (c.standing ≢ [])
  Allowed c flush = Unit {0}

  -- the list is legal: each step may come, and after each the standing calls keep the history rules
  unfoldable pub Legal : Conf → List Step → Type 0
  Legal c [] = Unit {0}
  Legal c (s ∷ ss) = Allowed c s × Rules (step c s).standing × Legal (step c s) ss

  -- "Row keys in use: of each parent, kind and spill number s where more than 512 (s + 1) numbers of that kind once stood together": they do now
  abbrev pub Needs : Conf → Series → ℕ → Type 0
  Needs c ch s = row_size * suc s < length (ledger_numbers c.standing ch)

  -- or they once did: before or after some step of the list
  unfoldable pub InUse : Conf → List Step → Series → ℕ → Type 0
  InUse c [] ch s = Needs c ch s
  InUse c (x ∷ ss) ch s = Needs c ch s ⊎ InUse (step c x) ss ch s

  -- no two row keys in use are equal
  abbrev pub KeysApart : (Series → ℕ → Type 0) → Type 0
  KeysApart U = (d e : Series) (s t : ℕ) → U d s → U e t → key d s ≡ key e t → (d ≡ e) × (s ≡ t)

  -- an accepted undo answers the number of its append; a refused one has 16 or 21, and that list is full
  abbrev pub UndoAnswer : State → Call → Made State Undone → Type 0
  UndoAnswer σ a (accepted u) = u.answer ≡ answer_of a
  UndoAnswer σ a (refused_leaving n τ) = ((n ≡ 16) × StagingFull σ.store) ⊎ ((n ≡ 21) × DeletionFull σ.store)

  abbrev pub NewestOk : Conf → List Call → Type 0
  NewestOk c [] = Unit {0}
  NewestOk c (a ∷ cs) = UndoAnswer c.now a (run_undo c.now a)

  -- nothing is owed of what a call or a flush answers
  abbrev pub StepOk : Conf → Step → Type 0
  StepOk c (call a) = Unit {0}
  StepOk c undo = NewestOk c c.standing
  StepOk c flush = Unit {0}

  -- every undo of the list, wherever it stands
  unfoldable pub StepsOk : Conf → List Step → Type 0
  StepsOk c [] = Unit {0}
  StepsOk c (s ∷ ss) = StepOk c s × StepsOk (step c s) ss

  -- the index holds exactly what the standing calls alone give
  pub record Agrees (c : Conf) : Type 0 where
    -- "The index's numbers are the absolute values of its entries", in their order, of each parent and kind
    pub numbers : (ch : Series) → map absℤ (entries c.now.store ch) ≡ ledger_numbers c.standing ch
    -- "a spent copy is a negative entry, and how many there are of a number is compared with its spent count"; a spent 0 stays 0, so 0 is left out
    pub copies : (p : Parent) (n : ℕ) → 0 < n → negs n (entries c.now.store (boxes p)) ≡ ledger_spent c.standing p n
    -- nanoErgs, and the amount of every token id, 0 if absent. "Places of copies and tokens are not compared"
    pub nanoErgs : (p : Parent) → nano_of (c.now.bals p) ≡ ledger_nanos c.standing p
    pub amounts : (p : Parent) (t : TokenId) → amount_of (c.now.bals p) t ≡ ledger_amount c.standing p t

  -- "A refusal .. changes nothing": what each operation leaves where it refuses is what was there, whatever that was
  pub record RefusalsLeave : Type 0 where
    pub appends : (σ : Store) (ch : Series) (n : ℤ) → Leaves σ (append_store σ ch n)
    pub pops : (σ : Store) (ch : Series) → Leaves σ (pop_store σ ch)
    pub spends : (σ : Store) (p : Parent) (t : ℤ) → Leaves σ (spend_store σ p t)
    pub unspends : (σ : Store) (p : Parent) (t : ℤ) → Leaves σ (unspend_store σ p t)
    pub flushes : (σ : Store) → Leaves σ (flush_store σ)
    pub credits : (b : Bal) (n : ℤ) (ts : Tokens) → Leaves b (add b n ts)
    pub debits : (b : Bal) (n : ℤ) (ts : Tokens) → Leaves b (sub b n ts)

  -- 25 never arises: no step of a legal list in which no two row keys in use are equal is refused with it
  abbrev pub Never25 : Type 0
  Never25 = (ss : List Step) → Legal start ss → KeysApart (InUse start ss) → Memᴰ (refused 25) (answers start ss) → ⊥

  -- the fork-undo theorem of a machine: for every legal list of steps in which no two row keys in use are equal, every undo answers as it should, and at the
  -- end the index agrees with the standing calls. As every beginning of a legal list is legal (proofs/PrefixLaws.antt), it agrees after each step
  abbrev pub ForkUndo : Type 0
  ForkUndo = (ss : List Step) → Legal start ss → KeysApart (InUse start ss) → StepsOk start ss × Agrees (run start ss)
