-- Laws of eight bytes: what was written is read back, and the turn of the loop that reads.
use mathlib.Core.Path.{◌≡◌, refl, sym, ap, ◌∙◌}
use mathlib.Core.List.{List, [], ◌∷◌, ◌++◌}
use Prim.Native.Nat.{ℕ, suc, ◌+◌, ◌*◌, ◌/◌, ◌%◌, ◌<◌, ◌≤◌, ◌^◌}
use native.Mathlib.Numerals.{add-one}
use native.Mathlib.Nat.{lt_of_lt_of_le, pow-suc, div-div-eq-div-mul, div-eq_of_lt, div-one}
use native.Mathlib.Omega.{arith}
use lib.ListN.{length, take, drop, get_or, set, length-drop}
use lib.Pow.{pow_mono, pow-add}
use lib.Seq.{sets, take-suc, get_or-drop, take_at, drop_at}
use Rattle.big_endian.specs.BigEndian.{byte, eight_bytes, value_of, value_at}

pub length_eight : (n : ℕ) → length (eight_bytes n) ≡ 8
unfolding eight_bytes
length_eight n = refl

-- the bytes above byte k, and byte k
byte_more : (k n : ℕ) → n / 256 ^ suc k * 256 + byte k n ≡ n / 256 ^ k
byte_more k n =
    let e : n / 256 ^ suc k ≡ n / 256 ^ k / 256 = ap (λ (m : ℕ). n / m) (pow-suc 256 k) ∙ sym (div-div-eq-div-mul n (256 ^ k) 256) in
    omega arith

value_more : (k n v : ℕ) (bs : List ℕ) → v ≡ n / 256 ^ suc k → value_of v (byte k n ∷ bs) ≡ value_of (n / 256 ^ k) bs
unfolding value_of
value_more k n v bs e = ap (λ (m : ℕ). value_of m bs) (ap (λ (m : ℕ). m * 256 + byte k n) e ∙ byte_more k n)

value_end : (n : ℕ) → value_of (n / 256 ^ 0) [] ≡ n
unfolding value_of
value_end n = div-one n

-- a number of 64 bits is the value of its bytes
pub value_back : (n : ℕ) → n < 18446744073709551616 → value_of 0 (eight_bytes n) ≡ n
unfolding eight_bytes
value_back n h =
    value_more 7 n 0 _ (sym (div-eq_of_lt h)) ∙ value_more 6 n _ _ refl ∙ value_more 5 n _ _ refl ∙ value_more 4 n _ _ refl
    ∙ value_more 3 n _ _ refl ∙ value_more 2 n _ _ refl ∙ value_more 1 n _ _ refl ∙ value_more 0 n _ _ refl ∙ value_end n

-- eight stores one after the other
eight_stores : (l : List ℕ) (at a b c d e f g h : ℕ)
    → set (set (set (set (set (set (set (set l at a) (at + 1) b) (at + 2) c) (at + 3) d) (at + 4) e) (at + 5) f) (at + 6) g) (at + 7) h
    ≡ sets l at (a ∷ b ∷ c ∷ d ∷ e ∷ f ∷ g ∷ h ∷ [])
eight_stores l at a b c d e f g h =
    let p1 : at + 1 ≡ suc at = omega arith in
    let p2 : at + 2 ≡ suc (suc at) = omega arith in
    let p3 : at + 3 ≡ suc (suc (suc at)) = omega arith in
    let p4 : at + 4 ≡ suc (suc (suc (suc at))) = omega arith in
    let p5 : at + 5 ≡ suc (suc (suc (suc (suc at)))) = omega arith in
    let p6 : at + 6 ≡ suc (suc (suc (suc (suc (suc at))))) = omega arith in
    let p7 : at + 7 ≡ suc (suc (suc (suc (suc (suc (suc at)))))) = omega arith in
    rw (p1, p2, p3, p4, p5, p6, p7)

-- wherever they stand
pub value_at_back : (n : ℕ) (p q : List ℕ) (at : ℕ) → length p ≡ at → n < 18446744073709551616 → value_at (p ++ (eight_bytes n ++ q)) at ≡ n
unfolding value_at
value_at_back n p q at e h =
    ap (λ (l : List ℕ). value_of 0 (take 8 l)) (drop_at p (eight_bytes n ++ q) at e)
    ∙ ap (value_of 0) (take_at (eight_bytes n) q 8 (length_eight n)) ∙ value_back n h

-- eight stores, one for each byte
pub eight_put : (l : List ℕ) (at n : ℕ)
    → set (set (set (set (set (set (set (set l at (byte 7 n)) (at + 1) (byte 6 n)) (at + 2) (byte 5 n)) (at + 3) (byte 4 n)) (at + 4) (byte 3 n)) (at + 5) (byte 2 n)) (at + 6) (byte 1 n))
    (at + 7) (n % 256)
    ≡ sets l at (eight_bytes n)
unfolding eight_bytes
eight_put l at n =
    eight_stores l at (byte 7 n) (byte 6 n) (byte 5 n) (byte 4 n) (byte 3 n) (byte 2 n) (byte 1 n) (n % 256)
    ∙ ap (λ (b : ℕ). sets l at (byte 7 n ∷ byte 6 n ∷ byte 5 n ∷ byte 4 n ∷ byte 3 n ∷ byte 2 n ∷ byte 1 n ∷ b ∷ [])) (ap (λ (m : ℕ). m % 256) (sym (div-one n)))

-- equal bytes are of equal numbers
pub eight_apart : (m n : ℕ) → m < 18446744073709551616 → n < 18446744073709551616 → eight_bytes m ≡ eight_bytes n → m ≡ n
eight_apart m n h k e = sym (value_back m h) ∙ ap (value_of 0) e ∙ value_back n k

value_snoc : (n : ℕ) (l : List ℕ) (b : ℕ) → value_of n (l ++ (b ∷ [])) ≡ value_of n l * 256 + b
unfolding value_of
value_snoc n [] b = refl
value_snoc n (x ∷ xs) b = value_snoc (n * 256 + x) xs b

-- one byte more
pub value_turn : (l : List ℕ) (i n : ℕ) → i < length l → n ≡ value_of 0 (take i l) → n * 256 + get_or l i 0 ≡ value_of 0 (take (i + 1) l)
value_turn l i n h e =
    sym (ap (λ (j : ℕ). value_of 0 (take j l)) (add-one i) ∙ ap (value_of 0) (take-suc l i 0 h) ∙ value_snoc 0 (take i l) (get_or l i 0)
    ∙ ap (λ (m : ℕ). m * 256 + get_or l i 0) (sym e))

pub value_step : (s : List ℕ) (at i n : ℕ) → at + i < length s → n ≡ value_of 0 (take i (drop at s)) → n * 256 + get_or s (at + i) 0 ≡ value_of 0 (take (i + 1) (drop at s))
value_step s at i n h e =
    let k : i < length (drop at s) = rw length-drop (omega arith) in
    ap (λ (b : ℕ). n * 256 + b) (sym (get_or-drop at s i 0)) ∙ value_turn (drop at s) i n k e

-- i bytes hold a number below 2 ^ (8 i): there is room for one byte more before the eighth
pub value_room : (i n : ℕ) → i < 8 → n < 2 ^ (8 * i) → n < 72057594037927936
value_room i n h k = let m : 8 * i ≤ 56 = omega arith in lt_of_lt_of_le k (pow_mono m)

pub value_grown : (i n b : ℕ) → n < 2 ^ (8 * i) → b < 256 → n * 256 + b < 2 ^ (8 * (i + 1))
value_grown i n b h k =
    let e : 2 ^ (8 * (i + 1)) ≡ 2 ^ (8 * i) * 256 = ap (λ (j : ℕ). 2 ^ j) (omega arith) ∙ pow-add 2 (8 * i) 8 in
    omega arith
