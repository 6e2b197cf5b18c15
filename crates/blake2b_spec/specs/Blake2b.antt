-- BLAKE2b of RFC 7693, unkeyed (kk = 0), with a digest of nn bytes. Section numbers are those of the RFC.
-- A word is a number below 2 ^ 64 (w = 64); a vector of words and a string of bytes are lists.
use Rattle.std.specs.Prelude.{ℕ, zero, suc, ◌+◌, ◌-◌, ◌*◌, ◌/◌, ◌%◌, ◌^◌, Bool, true, false, cond, List, [], ◌∷◌, ◌++◌, length, get_or, set}
use Rattle.std.specs.Int.Bits.{bit_xor}

-- the list f 0, f 1, .. of n numbers
unfoldable pub tabulate : (ℕ → ℕ) → ℕ → List ℕ
tabulate f zero = []
tabulate f (suc n) = tabulate f n ++ (f n ∷ [])

-- 2.3: x >>> n, the rotation to the right, is (x >> n) ^ (x << (w - n))
unfoldable pub rotr : ℕ → ℕ → ℕ
rotr x n = bit_xor (x / 2 ^ n) (x * 2 ^ (64 - n) % 2 ^ 64)

-- 2.4: four bytes from a place on, and eight, as a number, the lowest byte first; bytes past the end are the zeros of 3.3's padding
unfoldable pub le32 : List ℕ → ℕ → ℕ
le32 s at = get_or s at 0 + get_or s (at + 1) 0 * 2 ^ 8 + get_or s (at + 2) 0 * 2 ^ 16 + get_or s (at + 3) 0 * 2 ^ 24

unfoldable pub le64 : List ℕ → ℕ → ℕ
le64 s at = le32 s at + le32 s (at + 4) * 2 ^ 32

-- 2.4: byte i of a vector of words
unfoldable pub byte_at : List ℕ → ℕ → ℕ
byte_at h i = get_or h (i / 8) 0 / 2 ^ (i % 8 * 8) % 256

-- 2.6: the initialization vector
unfoldable pub iv : List ℕ
iv =
    0x6a09_e667_f3bc_c908 ∷
    0xbb67_ae85_84ca_a73b ∷
    0x3c6e_f372_fe94_f82b ∷
    0xa54f_f53a_5f1d_36f1 ∷
    0x510e_527f_ade6_82d1 ∷
    0x9b05_688c_2b3e_6c1f ∷
    0x1f83_d9ab_fb41_bd6b ∷
    0x5be0_cd19_137e_2179 ∷
    []

-- 2.7: the message schedule SIGMA, ten rows of sixteen numbers in one list
unfoldable pub sigma : List ℕ
sigma =
    0 ∷ 1 ∷ 2 ∷ 3 ∷ 4 ∷ 5 ∷ 6 ∷ 7 ∷ 8 ∷ 9 ∷ 10 ∷ 11 ∷ 12 ∷ 13 ∷ 14 ∷ 15 ∷
    14 ∷ 10 ∷ 4 ∷ 8 ∷ 9 ∷ 15 ∷ 13 ∷ 6 ∷ 1 ∷ 12 ∷ 0 ∷ 2 ∷ 11 ∷ 7 ∷ 5 ∷ 3 ∷
    11 ∷ 8 ∷ 12 ∷ 0 ∷ 5 ∷ 2 ∷ 15 ∷ 13 ∷ 10 ∷ 14 ∷ 3 ∷ 6 ∷ 7 ∷ 1 ∷ 9 ∷ 4 ∷
    7 ∷ 9 ∷ 3 ∷ 1 ∷ 13 ∷ 12 ∷ 11 ∷ 14 ∷ 2 ∷ 6 ∷ 5 ∷ 10 ∷ 4 ∷ 0 ∷ 15 ∷ 8 ∷
    9 ∷ 0 ∷ 5 ∷ 7 ∷ 2 ∷ 4 ∷ 10 ∷ 15 ∷ 14 ∷ 1 ∷ 11 ∷ 12 ∷ 6 ∷ 8 ∷ 3 ∷ 13 ∷
    2 ∷ 12 ∷ 6 ∷ 10 ∷ 0 ∷ 11 ∷ 8 ∷ 3 ∷ 4 ∷ 13 ∷ 7 ∷ 5 ∷ 15 ∷ 14 ∷ 1 ∷ 9 ∷
    12 ∷ 5 ∷ 1 ∷ 15 ∷ 14 ∷ 13 ∷ 4 ∷ 10 ∷ 0 ∷ 7 ∷ 6 ∷ 3 ∷ 9 ∷ 2 ∷ 8 ∷ 11 ∷
    13 ∷ 11 ∷ 7 ∷ 14 ∷ 12 ∷ 1 ∷ 3 ∷ 9 ∷ 5 ∷ 0 ∷ 15 ∷ 4 ∷ 8 ∷ 6 ∷ 2 ∷ 10 ∷
    6 ∷ 15 ∷ 14 ∷ 9 ∷ 11 ∷ 3 ∷ 0 ∷ 8 ∷ 12 ∷ 2 ∷ 13 ∷ 7 ∷ 1 ∷ 4 ∷ 10 ∷ 5 ∷
    10 ∷ 2 ∷ 8 ∷ 4 ∷ 7 ∷ 6 ∷ 1 ∷ 5 ∷ 15 ∷ 11 ∷ 9 ∷ 14 ∷ 3 ∷ 12 ∷ 13 ∷ 0 ∷
    []

-- 3.1: v[a] := (v[a] + v[b] + x) mod 2**w
unfoldable pub add : List ℕ → (a b x : ℕ) → List ℕ
add v a b x = set v a ((get_or v a 0 + get_or v b 0 + x) % 2 ^ 64)

-- 3.1: v[d] := (v[d] ^ v[a]) >>> n
unfoldable pub xor_rotr : List ℕ → (d a n : ℕ) → List ℕ
xor_rotr v d a n = set v d (rotr (bit_xor (get_or v d 0) (get_or v a 0)) n)

-- 3.1: the mixing function G, with R1 to R4 = 32, 24, 16, 63
unfoldable pub mix : List ℕ → (a b c d x y : ℕ) → List ℕ
mix v a b c d x y =
    let v1 = add v a b x in
    let v2 = xor_rotr v1 d a 32 in
    let v3 = add v2 c d 0 in
    let v4 = xor_rotr v3 b c 24 in
    let v5 = add v4 a b y in
    let v6 = xor_rotr v5 d a 16 in
    let v7 = add v6 c d 0 in
    xor_rotr v7 b c 63

-- 3.2: m[s[j]], where s is the row of SIGMA and i the place of s[j] in the one list
unfoldable pub word : List ℕ → ℕ → ℕ
word m i = get_or m (get_or sigma i 0) 0

-- 3.2: the four mixings of columns, whose row of SIGMA starts at base
unfoldable pub columns : List ℕ → List ℕ → ℕ → List ℕ
columns v m base =
    let v1 = mix v 0 4 8 12 (word m base) (word m (base + 1)) in
    let v2 = mix v1 1 5 9 13 (word m (base + 2)) (word m (base + 3)) in
    let v3 = mix v2 2 6 10 14 (word m (base + 4)) (word m (base + 5)) in
    mix v3 3 7 11 15 (word m (base + 6)) (word m (base + 7))

-- 3.2: the four mixings of diagonals
unfoldable pub diagonals : List ℕ → List ℕ → ℕ → List ℕ
diagonals v m base =
    let v1 = mix v 0 5 10 15 (word m (base + 8)) (word m (base + 9)) in
    let v2 = mix v1 1 6 11 12 (word m (base + 10)) (word m (base + 11)) in
    let v3 = mix v2 2 7 8 13 (word m (base + 12)) (word m (base + 13)) in
    mix v3 3 4 9 14 (word m (base + 14)) (word m (base + 15))

-- 3.2: the rounds 0 to n - 1; round i takes row i mod 10 of SIGMA
unfoldable pub rounds : List ℕ → List ℕ → ℕ → List ℕ
rounds v m zero = v
rounds v m (suc i) = diagonals (columns (rounds v m i) m (i % 10 * 16)) m (i % 10 * 16)

-- 3.2: word 14 of the work vector: all bits inverted in the last block
unfoldable pub flagged : Bool → ℕ → ℕ
flagged last x = cond last (bit_xor x 0xffff_ffff_ffff_ffff) x

-- 3.2: the work vector at the start: the state h, then the IV with the low and the high word of the counter t and the last block's flag
unfoldable pub work : List ℕ → ℕ → Bool → List ℕ
work h t last =
    tabulate (λ i. get_or h i 0) 8
    ++ get_or iv 0 0 ∷ get_or iv 1 0 ∷ get_or iv 2 0 ∷ get_or iv 3 0
    ∷ bit_xor (get_or iv 4 0) (t % 2 ^ 64) ∷ bit_xor (get_or iv 5 0) (t / 2 ^ 64) ∷ flagged last (get_or iv 6 0) ∷ get_or iv 7 0 ∷ []

-- 3.2: h[i] ^ v[i] ^ v[i + 8]
unfoldable pub fold : List ℕ → List ℕ → ℕ → ℕ
fold h v i = bit_xor (bit_xor (get_or h i 0) (get_or v i 0)) (get_or v (i + 8) 0)

-- 3.2: the compression function F, of twelve rounds
unfoldable pub compress : List ℕ → List ℕ → ℕ → Bool → List ℕ
compress h m t last = tabulate (fold h (rounds (work h t last) m 12)) 8

-- 3.3: the sixteen words of the data block that starts at a place
unfoldable pub block : List ℕ → ℕ → List ℕ
block s at = tabulate (λ i. le64 s (at + i * 8)) 16

-- 3.3: the state before the first block, h[0] ^ 0x01010000 ^ (kk << 8) ^ nn
unfoldable pub start : ℕ → List ℕ
start nn = set iv 0 (bit_xor (bit_xor (get_or iv 0 0) 0x0101_0000) nn)

-- 3.3: the state after the data blocks 0 to n - 1, none of them the last
unfoldable pub absorbed : ℕ → List ℕ → ℕ → List ℕ
absorbed nn s zero = start nn
absorbed nn s (suc i) = compress (absorbed nn s i) (block s (i * 128)) ((i + 1) * 128) false

-- 3.3: how many blocks come before the last: dd - 1, where dd is ll / 128 rounded up and 1 for no bytes
unfoldable pub before_last : List ℕ → ℕ
before_last s = (length s - 1) / 128

-- 3.3: the state after the last block, whose counter is the number of bytes ll
unfoldable pub final : ℕ → List ℕ → List ℕ
final nn s = compress (absorbed nn s (before_last s)) (block s (before_last s * 128)) (length s) true

-- 3.3: the digest, the first nn bytes of the final state
unfoldable pub blake2b : ℕ → List ℕ → List ℕ
blake2b nn s = tabulate (byte_at (final nn s)) nn

-- 4: BLAKE2b-256
unfoldable pub blake2b256 : List ℕ → List ℕ
blake2b256 s = blake2b 32 s
