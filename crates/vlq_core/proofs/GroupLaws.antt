-- Laws of a coded number's groups: the fuel drops out for numbers of 64 bits, how many groups there are, and that their count follows from the leading zeros.
use mathlib.Core.Path.{◌≡◌, refl, sym, ap, ◌∙◌}
use mathlib.Core.Logic.{⊎_elim}
use mathlib.Core.Bool.{cond}
use mathlib.Core.List.{List, [], ◌∷◌}
use Prim.Native.Nat.{ℕ, zero, suc, ◌+◌, ◌-◌, ◌*◌, ◌/◌, ◌%◌, ◌^◌, ◌<◌, ◌≤◌}
use native.Mathlib.Nat.{pow-suc}
use native.Mathlib.Omega.{arith}
use lib.Dec.{ltb}
use lib.ListN.{length}
use lib.Pow.{pow_mono, pow-add}
use lib.Count.{count_leading_zeros, leading_top}
use borrow.Author.Tests.{lt-ltb, le-ltb}
use mir.Syntax.{Width}
use mir.Val.{SFits, bits, to_z, of_z}
use mir.Facts.{to_z-of_z}
use lib.IntN.{ℤ}
use Rattle.vlq_core.specs.Zigzag.{zig}
use Rattle.vlq_core.specs.Groups.{groups, enc}
use Rattle.vlq_core.proofs.Split.{split}
use Rattle.vlq_core.proofs.ZigzagLaws.{zig_fits}

-- more fuel than groups changes nothing
more : (f c : ℕ) → c < 128 ^ suc f → groups (suc f) c ≡ groups f c
unfolding groups
more zero c h = rw (lt-ltb c 128 h)
more (suc f) c h =
    let h' : c / 128 < 128 ^ suc f = omega (arith, pow-suc 128 (suc f)) in
    ap (λ (t : List ℕ). cond (ltb c 128) (c ∷ []) ((128 + c % 128) ∷ t)) (more f (c / 128) h')

pub enc_small : (c : ℕ) → c < 128 → enc c ≡ c ∷ []
unfolding enc groups
enc_small c h = rw (lt-ltb c 128 h)

pub enc_big : (c : ℕ) → 128 ≤ c → c < 2 ^ 64 → enc c ≡ (128 + c % 128) ∷ enc (c / 128)
unfolding enc groups
enc_big c h k = rw (le-ltb c 128 h) (ap (λ (t : List ℕ). (128 + c % 128) ∷ t) (sym (more 8 (c / 128) (omega arith))))

-- ---- how many groups: at least one, and at most f + 1 for numbers of 7 (f + 1) bits

groups_length : (g f c : ℕ) → c < 2 ^ (7 * suc f) → (1 ≤ length (groups g c)) × (length (groups g c) ≤ suc f)
unfolding groups
groups_length zero f c h = (omega arith, omega arith)
groups_length (suc g) f c h = ⊎_elim (λ (q : c < 128). rw (lt-ltb c 128 q) (omega arith, omega arith)) (λ (q : 128 ≤ c). big f h q (groups_length g)) (split c 128)
  where
    big : (f : ℕ) → c < 2 ^ (7 * suc f) → 128 ≤ c → ((f c : ℕ) → c < 2 ^ (7 * suc f) → (1 ≤ length (groups g c)) × (length (groups g c) ≤ suc f))
        → (1 ≤ length (groups (suc g) c)) × (length (groups (suc g) c) ≤ suc f)
    big zero h q ih = absurd (omega arith)
    big (suc f) h q ih =
        let e : 2 ^ (7 * suc (suc f)) ≡ 2 ^ (7 * suc f) * 128 = ap (λ (n : ℕ). 2 ^ n) (omega arith) ∙ pow-add 2 (7 * suc f) 7 in
        let i = ih f (c / 128) (omega arith) in
        rw (le-ltb c 128 q) (omega arith, omega arith)

pub enc_length : (f c : ℕ) → c < 2 ^ (7 * suc f) → (1 ≤ length (enc c)) × (length (enc c) ≤ suc f)
unfolding enc
enc_length f c h = groups_length 9 f c h

-- a signed number of 64 bits has 1 to 10 bytes (f = 9), one of 32 bits 1 to 5 (f = 4)
pub number_length : (w : Width) (f : ℕ) → bits w ≤ 7 * suc f → (z : ℤ) → SFits w z → (1 ≤ length (enc (zig z))) × (length (enc (zig z)) ≤ suc f)
number_length w f h z s = enc_length f (zig z) (omega (arith, (zig_fits w z s).fits, pow_mono h))

-- ---- the count from the leading zeros

-- a number whose highest set bit is bit j has j / 7 + 1 groups
count : (f j c : ℕ) → 2 ^ j ≤ c → c < 2 ^ suc j → j < 7 * suc f → length (groups f c) ≡ j / 7 + 1
unfolding groups
count zero j c lo hi b = omega arith
count (suc f) j c lo hi b = ⊎_elim small (big (count f (j - 7) (c / 128))) (split c 128)
  where
    small : c < 128 → length (groups (suc f) c) ≡ j / 7 + 1
    small s = ⊎_elim (λ (q : j < 7). rw (lt-ltb c 128 s) (omega arith)) (λ (q : 7 ≤ j). absurd (omega (arith, pow_mono q))) (split j 7)

    big : (2 ^ (j - 7) ≤ c / 128 → c / 128 < 2 ^ suc (j - 7) → j - 7 < 7 * suc f → length (groups f (c / 128)) ≡ (j - 7) / 7 + 1)
        → 128 ≤ c → length (groups (suc f) c) ≡ j / 7 + 1
    big ih s = ⊎_elim (λ (q : j < 7). absurd (omega (arith, pow_mono q))) long (split j 7)
      where
        long : 7 ≤ j → length (groups (suc f) c) ≡ j / 7 + 1
        long q =
            let lo_is : 2 ^ j ≡ 2 ^ (j - 7) * 128 = ap (λ (n : ℕ). 2 ^ n) (omega arith) ∙ pow-add 2 (j - 7) 7 in
            let hi_is : 2 ^ suc j ≡ 2 ^ suc (j - 7) * 128 = ap (λ (n : ℕ). 2 ^ n) (omega arith) ∙ pow-add 2 (suc (j - 7)) 7 in
            rw (le-ltb c 128 s) (omega (arith, ih (omega arith) (omega arith) (omega arith)))

pub count_zero : (1 ≡ length (enc 0)) × (1 ≤ 10)
unfolding enc groups
count_zero = (refl, omega arith)

pub count_leading : (c : ℕ) → 0 < c → c < 2 ^ 64 → (count_leading_zeros 64 c ≤ 63) × (length (enc c) ≡ (63 - count_leading_zeros 64 c) / 7 + 1)
unfolding enc
count_leading c p h =
    let t = leading_top 64 c p h in
    let e : t.0 ≡ 63 - count_leading_zeros 64 c = omega (arith, t.1) in
    (omega (arith, t.1), count 9 t.0 c t.2 t.3 (omega (arith, t.1)) ∙ ap (λ (n : ℕ). n / 7 + 1) e)

-- ---- the bytes of a number that a local of width w holds, from its coded number v
pub bytes_of : (w : Width) (z : ℤ) (v : ℕ) → SFits w z → v ≡ zig (to_z w (of_z w z)) → enc v ≡ enc (zig z)
bytes_of w z v f e = ap enc (e ∙ ap zig (to_z-of_z f))
