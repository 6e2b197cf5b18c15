-- A number of 64 bits as eight bytes, high byte first: the numbers of an undo entry and of the call runner's input (document 01, "Beside the spend").
use Rattle.std.specs.Prelude.{ℕ, ◌+◌, ◌*◌, ◌/◌, ◌%◌, ◌^◌, List, [], ◌∷◌, take, drop}

-- byte k of n, counted from the lowest
abbrev pub byte : ℕ → ℕ → ℕ
byte k n = n / 256 ^ k % 256

-- the eight bytes of n
unfoldable pub eight_bytes : ℕ → List ℕ
eight_bytes n = byte 7 n ∷ byte 6 n ∷ byte 5 n ∷ byte 4 n ∷ byte 3 n ∷ byte 2 n ∷ byte 1 n ∷ byte 0 n ∷ []

-- the number of the bytes bs, which follow those that make n
unfoldable pub value_of : ℕ → List ℕ → ℕ
value_of n [] = n
value_of n (b ∷ bs) = value_of (n * 256 + b) bs

-- the number in the eight bytes at a position
unfoldable pub value_at : List ℕ → ℕ → ℕ
value_at s at = value_of 0 (take 8 (drop at s))
