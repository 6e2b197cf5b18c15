-- "every history of the theorem can be spelled": the input of a list of calls and flushes, of parents by a 32-bit number, any 32-byte ids and fewer than 2^32 tokens.
-- Undos are spelled by marks.
use Rattle.std.specs.Prelude.{ℕ, ◌+◌, ◌-◌, ◌≤◌, ◌<◌, ◌≡◌, true, false, List, [], ◌∷◌, ◌++◌, ℤ, pos, negsuc, length}
use Rattle.big_endian.specs.BigEndian.{byte, eight_bytes}
use Rattle.vlq_core.proofs.UniqueLaws.{Bytes}
use Rattle.ledger.specs.Calls.{Tokens, Call, append, spend, credit, debit, boxes, txs}
use Rattle.ledger.specs.Run.{Step, call, undo, flush}
use Rattle.call_steps.specs.State.{State}
use Rattle.call_steps.specs.Steps.{Stepping, stepping, accepted}
use Rattle.driver_core.specs.Steps.{token_ids, make, flushing, may_be_lifted}
use Rattle.driver_core.specs.Bytes.{items_at, Journal}
use Rattle.driver_core.specs.Apply.{driver_ok, apply_of}
use Rattle.driver_laws.specs.Internal.{Among}
use Rattle.driver_laws.specs.Journal.{steps_made}

abbrev pub small_limit : ℕ
small_limit = 4294967296

-- ---- the encoder
unfoldable pub four_bytes : ℕ → List ℕ
four_bytes n = byte 3 n ∷ byte 2 n ∷ byte 1 n ∷ byte 0 n ∷ []

-- a signed number of 64 bits as its two's complement
abbrev pub bits_of : ℤ → ℕ
bits_of (pos n) = n
bits_of (negsuc n) = 18446744073709551615 - n

abbrev pub header : (kind parent : ℕ) → ℤ → (tokens : ℕ) → List ℕ
header kind p z n = kind ∷ (four_bytes p ++ (eight_bytes (bits_of z) ++ four_bytes n))

unfoldable pub amount_bytes_of : Tokens → List ℕ
amount_bytes_of [] = []
amount_bytes_of (x ∷ ts) = eight_bytes (bits_of x.1) ++ amount_bytes_of ts

abbrev pub change_bytes : (kind parent : ℕ) → ℤ → Tokens → List ℕ
change_bytes kind p z ts = header kind p z (length ts) ++ (token_ids ts ++ amount_bytes_of ts)

abbrev pub step_bytes : Step → List ℕ
step_bytes (call (append (boxes p) n)) = change_bytes 1 p n []
step_bytes (call (append (txs p) n)) = change_bytes 2 p n []
step_bytes (call (spend p t)) = change_bytes 3 p t []
step_bytes (call (credit p n ts)) = change_bytes 8 p n ts
step_bytes (call (debit p n ts)) = change_bytes 9 p n ts
step_bytes flush = change_bytes 7 0 (pos 0) []
step_bytes undo = []

unfoldable pub spelled : List Step → List ℕ
spelled [] = []
spelled (t ∷ ts) = step_bytes t ++ spelled ts

-- ---- what can be spelled
unfoldable pub IdBytes : Tokens → Type 0
IdBytes [] = Unit {0}
IdBytes (x ∷ ts) = Bytes x.0 × IdBytes ts

abbrev pub FewTokens : Call → Type 0
FewTokens (append ch n) = Unit {0}
FewTokens (spend p t) = Unit {0}
FewTokens (credit p n ts) = (length ts < small_limit) × IdBytes ts
FewTokens (debit p n ts) = (length ts < small_limit) × IdBytes ts

abbrev pub Spellable : (parents : ℕ) → Step → Type 0
Spellable parents (call a) = Among parents a × FewTokens a
Spellable parents undo = ⊥
Spellable parents flush = Unit {0}

unfoldable pub AllSpellable : (parents : ℕ) → List Step → Type 0
AllSpellable parents [] = Unit {0}
AllSpellable parents (t ∷ ts) = Spellable parents t × AllSpellable parents ts

-- the input reads back as the list
abbrev pub SpellingLaw : Type 0
SpellingLaw =
    (parents : ℕ) → parents ≤ small_limit → (ts : List Step) → AllSpellable parents ts
    → Bytes (spelled ts) × (items_at parents (spelled ts) (length (spelled ts) + 1) 0 ≡ ts)

-- ---- and a batch of it makes the list, where no step is refused with what a driver lifts
abbrev pub step_on : Step → State → Stepping
step_on (call a) s = make a s
step_on undo s = stepping accepted s
step_on flush s = flushing s

unfoldable pub NoneLifted : State → List Step → Type 0
NoneLifted s [] = Unit {0}
NoneLifted s (t ∷ ts) = (may_be_lifted (step_on t s).said.code ≡ false) × NoneLifted (step_on t s).after ts

abbrev pub MadeLaw : Type 0
MadeLaw =
    (parents : ℕ) → parents ≤ small_limit → (ts : List Step) → AllSpellable parents ts → (s : State) (j : Journal) (answers : List ℕ) (numbers : List ℤ) → driver_ok parents s j ≡ true
    → length ts ≤ length answers → j.used + length (spelled ts) ≤ length j.bytes → NoneLifted s ts
    → let r = apply_of true parents (spelled ts) s j answers numbers in
    (r.made ≡ length ts) × (steps_made parents (spelled ts) r ≡ ts)
