-- What the proofs ask of the steps of a batch, and find in its bytes: calls and flushes only, of parents that are there, with arguments that the functions take.
use Rattle.std.specs.Prelude.{List, [], ◌∷◌, ℕ, ◌<◌}
use Rattle.ledger.specs.Ledger.{parent_of, Call, append, spend, credit, debit}
use Rattle.ledger.specs.Run.{Step, call, undo, flush, Args}

-- arguments are signed 64-bit numbers
abbrev pub argument_limit : ℕ
argument_limit = 9223372036854775808

module _ (parents : ℕ) where
  -- a call names one of so many parents, and its arguments are what the functions take: 64 signed bits, ids of 32 bytes
  abbrev pub Names : Call → Type 0
  Names (append ch n) = parent_of ch < parents
  Names (spend p t) = p < parents
  Names (credit p n ts) = p < parents
  Names (debit p n ts) = p < parents

  abbrev pub Among : Call → Type 0
  Among a = Names a × Args argument_limit a

  abbrev pub StepAmong : Step → Type 0
  StepAmong (call a) = Among a
  StepAmong undo = Unit {0}
  StepAmong flush = Unit {0}

  unfoldable pub StepsAmong : List Step → Type 0
  StepsAmong [] = Unit {0}
  StepsAmong (t ∷ ts) = StepAmong t × StepsAmong ts

-- the calls and flushes of a batch
unfoldable pub OnlyCalls : List Step → Type 0
OnlyCalls [] = Unit {0}
OnlyCalls (call a ∷ ts) = OnlyCalls ts
OnlyCalls (undo ∷ ts) = ⊥
OnlyCalls (flush ∷ ts) = OnlyCalls ts
