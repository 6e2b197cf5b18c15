-- Laws of hex and decimal text: lengths, the decimal without its fuel, the loops and the recursion that write them.
use Prim.Native.Nat.{ℕ, zero, suc, ◌+◌, ◌*◌, ◌/◌, ◌%◌, ◌^◌, ◌<◌, ◌≤◌}
use mathlib.Core.Path.{◌≡◌, refl, sym, ap, subst, ◌∙◌}
use mathlib.Core.Bool.{Bool, true, false, cond}
use mathlib.Core.List.{List, [], ◌∷◌, ◌++◌}
use native.Mathlib.Omega.{arith}
use native.Mathlib.Nat.{pow-suc}
use native.Mathlib.Numerals.{add-one}
use lib.Dec.{T, ltb}
use lib.IntN.{ℤ, pos, negsuc, nat_abs}
use lib.ListN.{length, drop, set, get_or, length-append, drop_of_length-le}
use lib.Seq.{sets, drop-cons}
use borrow.Author.Tests.{lt-ltb, le-ltb}
use Rattle.signed.specs.Sign.{is_negative}
use Rattle.stores.specs.Stores.{Put}
use Rattle.stores.proofs.PutLaws.{put_both}
use Rattle.text.specs.Text.{hex_digit, hex, digits, decimal, sign, number}

-- ---- hex

pub hex_length : (bs : List ℕ) → length (hex bs) ≡ 2 * length bs
unfolding hex
hex_length [] = refl
hex_length (b ∷ bs) = omega (arith, hex_length bs)

-- a turn of the loop that writes it, and its end
pub hex_turn : (out src : List ℕ) (o i b : ℕ) → i < length src → b ≡ get_or src i 0
    → sets out o (hex (drop i src)) ≡ sets (set (set out o (hex_digit (b / 16))) (o + 1) (hex_digit (b % 16))) (o + 2) (hex (drop (i + 1) src))
unfolding hex
hex_turn out src o i b h e = let two : o + 2 ≡ suc (suc o) = omega arith in rw (add-one i, add-one o, two, e, drop-cons src i 0)

pub hex_past : (src : List ℕ) (i : ℕ) → length src ≤ i → hex (drop i src) ≡ []
unfolding hex
hex_past src i h = ap hex (drop_of_length-le src h)

-- ---- decimal: the fuel drops out

more : (f n : ℕ) → n < 10 ^ suc f → digits (suc f) n ≡ digits f n
unfolding digits
more zero n h = rw (lt-ltb n 10 h)
more (suc f) n h =
    let h' : n / 10 < 10 ^ suc f = omega (arith, pow-suc 10 (suc f)) in
    ap (λ (t : List ℕ). cond (ltb n 10) ((48 + n) ∷ []) (t ++ ((48 + n % 10) ∷ []))) (more f (n / 10) h')

pub decimal_small : (n : ℕ) → n < 10 → decimal n ≡ (48 + n) ∷ []
unfolding decimal digits
decimal_small n h = rw (lt-ltb n 10 h)

pub decimal_big : (n : ℕ) → 10 ≤ n → n < 18446744073709551616 → decimal n ≡ decimal (n / 10) ++ ((48 + n % 10) ∷ [])
unfolding decimal digits
decimal_big n h k = rw (le-ltb n 10 h) (ap (λ (t : List ℕ). t ++ ((48 + n % 10) ∷ [])) (sym (more 18 (n / 10) (omega arith))))

-- ---- lengths of decimals

-- f + 1 digits hold a number below 10^(f + 1), whatever the fuel
digits_most : (g f n : ℕ) → n < 10 ^ suc f → length (digits g n) ≤ suc f
unfolding digits
digits_most zero f n h = omega arith
digits_most (suc g) zero n h = rw (lt-ltb n 10 h) (omega arith)
digits_most (suc g) (suc f) n h = by_test (ltb n 10) (digits_most g f (n / 10) (omega (arith, pow-suc 10 (suc f))))
  where
    by_test : (t : Bool) → length (digits g (n / 10)) ≤ suc f
        → length (cond t ((48 + n) ∷ []) (digits g (n / 10) ++ ((48 + n % 10) ∷ []))) ≤ suc (suc f)
    by_test true l = omega arith
    by_test false l = omega (arith, length-append (digits g (n / 10)) ((48 + n % 10) ∷ []))

-- a number of 64 bits has at most 20 digits, a 32-bit number at most 10
pub decimal_64 : (n : ℕ) → n < 18446744073709551616 → length (decimal n) ≤ 20
unfolding decimal
decimal_64 n h = digits_most 19 19 n (omega arith)

pub decimal_32 : (n : ℕ) → n ≤ 2147483648 → length (decimal n) ≤ 10
unfolding decimal
decimal_32 n h = digits_most 19 9 n (omega arith)

sign_most : (z : ℤ) → length (sign z) ≤ 1
sign_most (pos n) = omega arith
sign_most (negsuc n) = omega arith

number_length : (z : ℤ) → length (number z) ≡ length (sign z) + length (decimal (nat_abs z))
unfolding number
number_length z = length-append (sign z) (decimal (nat_abs z))

pub number_64 : (z : ℤ) → nat_abs z < 18446744073709551616 → length (number z) ≤ 21
number_64 z h = omega (arith, number_length z, sign_most z, decimal_64 (nat_abs z) h)

pub number_32 : (z : ℤ) → nat_abs z ≤ 2147483648 → length (number z) ≤ 11
number_32 z h = omega (arith, number_length z, sign_most z, decimal_32 (nat_abs z) h)

-- ---- writing decimals, the last digit last

pub decimal_last : (n : ℕ) (l : List ℕ) (at : ℕ) → n < 10 → Put (decimal n) l at (at + 1) (set l at (48 + n))
decimal_last n l at h = rw (decimal_small n h) (refl, refl)

pub decimal_room : (n : ℕ) → 10 ≤ n → n < 18446744073709551616 → length (decimal n) ≡ length (decimal (n / 10)) + 1
decimal_room n h k = ap length (decimal_big n h k) ∙ length-append (decimal (n / 10)) ((48 + n % 10) ∷ [])

pub decimal_turn : (n : ℕ) (l : List ℕ) (at o : ℕ) (l' : List ℕ) → 10 ≤ n → n < 18446744073709551616
    → Put (decimal (n / 10)) l at o l' → Put (decimal n) l at (o + 1) (set l' o (48 + n % 10))
decimal_turn n l at o l' h k e =
    rw (decimal_big n h k) (put_both (decimal (n / 10)) ((48 + n % 10) ∷ []) l at o l' (o + 1) (set l' o (48 + n % 10)) e (refl, refl))

-- ---- numbers by their sign; n is the absolute value

pub number_neg : (z : ℤ) (n : ℕ) → n ≡ nat_abs z → is_negative z ≡ true → number z ≡ 45 ∷ decimal n
unfolding number
number_neg (pos m) n e h = absurd (subst T (sym h) tt)
number_neg (negsuc m) n e h = ap (λ (k : ℕ). 45 ∷ decimal k) (sym e)

pub number_pos : (z : ℤ) (n : ℕ) → n ≡ nat_abs z → is_negative z ≡ false → number z ≡ decimal n
unfolding number
number_pos (pos m) n e h = ap decimal (sym e)
number_pos (negsuc m) n e h = absurd (subst T h tt)
