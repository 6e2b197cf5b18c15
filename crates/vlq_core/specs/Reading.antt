-- Reading a coded number (document 01, "Coded numbers" and the table's row "Reader"):
-- "Reading takes at most ten bytes. A 32-bit number is coded alike and must be below 2^32 before decoding."
-- Refusal 1: bytes end inside a field. Refusal 2: tenth byte above 1, or 32-bit value not below 2^32.
-- Document 02, U5: "34 when the last byte of a number longer than one byte is 00, tested directly after 2".
use Rattle.std.specs.Prelude.{ℕ, zero, suc, ◌+◌, ◌-◌, ◌*◌, ◌%◌, ◌^◌, Bool, cond, ◌&&◌, List, [], ◌∷◌, eqb, ltb, ℤ, drop, get_or, Ok, Err}
use Rattle.vlq_core.specs.Zigzag.{zag}
use Rattle.vlq_core.specs.Answers.{Got}
use Rattle.vlq_core.specs.declared.Short.{Short}
use Rattle.index_types.specs.Answers.{Long}
use Rattle.index_types.specs.Answers.{Int}

-- a group b with the top bit set, below the rest
abbrev pub below : ℕ → Got → Got
below b (Ok (v, n)) = Ok (b % 128 + 128 * v, n)
below b (Err r) = Err r

-- the bytes from position `at` on: at most f groups with the top bit set, and then the last. For f = 9 the tenth byte is the last, and holds one bit
unfoldable pub dec : ℕ → List ℕ → ℕ → Got
dec f [] at = Err 1
dec zero (b ∷ bs) at = cond (ltb b 2) (Ok (b, at + 1)) (Err 2)
dec (suc f) (b ∷ bs) at = cond (ltb b 128) (Ok (b, at + 1)) (below b (dec f bs (at + 1)))

-- a number of k bits
abbrev pub narrow : ℕ → Got → Got
narrow k (Ok (v, n)) = cond (ltb v (2 ^ k)) (Ok (v, n)) (Err 2)
narrow k (Err r) = Err r

-- the coded number of k bits at position `at` of s, padded or not; k is 32 or 64
unfoldable pub read_any : ℕ → List ℕ → ℕ → Got
read_any k s at = narrow k (dec 9 (drop at s) at)

-- the number from `at` to n is longer than one byte, and its last byte is 00
abbrev pub padded : List ℕ → (at n : ℕ) → Bool
padded s at n = ltb (at + 1) n && eqb (get_or s (n - 1) 0) 0

-- the shortest form only: 34, once 1 and 2 have passed
abbrev pub shortest : List ℕ → ℕ → Got → Got
shortest s at (Ok (v, n)) = cond (padded s at n) (Err 34) (Ok (v, n))
shortest s at (Err r) = Err r

-- the coded number of k bits at position `at` of s
unfoldable pub read_at : ℕ → List ℕ → ℕ → Got
read_at k s at = shortest s at (read_any k s at)

-- what a short number at position `at` says of the answer g: all of it, or nothing
abbrev pub short_of : Short → ℕ → Got → Got
short_of s at g = cond (eqb s.size 0) g (Ok (s.coded, at + s.size))

-- the signed number, of either width, as an answer of any type
module _ {A : Type 0} where
  abbrev pub signed_of : (ℤ → ℕ → A) → (ℕ → A) → Got → A
  signed_of number refused (Ok (v, n)) = number (zag v) n
  signed_of number refused (Err r) = refused r

abbrev pub long_of : Got → Long
long_of = signed_of (λ x y. Ok (x, y)) Err

abbrev pub int_of : Got → Int
int_of = signed_of (λ x y. Ok (x, y)) Err
