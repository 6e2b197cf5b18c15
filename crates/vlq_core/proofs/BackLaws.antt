-- What was written is read back, anywhere inside a longer list, at either width.
use mathlib.Core.Path.{◌≡◌, sym, ap, ap₂, ◌∙◌}
use mathlib.Core.Logic.{inl, inr, ⊎_elim, ◌≢◌}
use mathlib.Core.Bool.{Bool, true, false, cond}
use mathlib.Core.List.{List, [], ◌∷◌, ◌++◌}
use Prim.Native.Nat.{ℕ, zero, suc, ◌+◌, ◌-◌, ◌*◌, ◌/◌, ◌%◌, ◌^◌, ◌<◌, ◌≤◌}
use native.Mathlib.Omega.{arith}
use lib.IntN.{ℤ}
use lib.Dec.{ltb}
use lib.ListN.{length, get_or, get_or-append}
use lib.Seq.{drop_at, get_or-drop}
use lib.Pow.{pow_mono}
use borrow.Author.Tests.{lt-ltb, le-ltb}
use mir.Syntax.{Width}
use mir.Val.{SFits, bits}
use Rattle.std.specs.Prelude.{Ok}
use Rattle.vlq_core.specs.Zigzag.{zig}
use Rattle.vlq_core.specs.Groups.{groups, enc}
use Rattle.vlq_core.specs.Reading.{dec, narrow, read_any, read_at, signed_of}
use Rattle.vlq_core.proofs.Split.{split}
use Rattle.vlq_core.proofs.ZigzagLaws.{zag_zig, zig_fits}
use Rattle.vlq_core.proofs.ReadLaws.{bound_suc, short_form, read_short}
use Rattle.vlq_core.proofs.GroupLaws.{enc_length}

back : (f c : ℕ) (q : List ℕ) (at : ℕ) → c < 2 ^ (7 * f + 1) → dec f (groups f c ++ q) at ≡ Ok (c, at + length (groups f c))
unfolding dec groups
back zero c q at h = rw (lt-ltb c 2 h)
back (suc f) c q at h = ⊎_elim small (big (back f (c / 128) q (at + 1))) (split c 128)
  where
    small : c < 128 → dec (suc f) (groups (suc f) c ++ q) at ≡ Ok (c, at + length (groups (suc f) c))
    small k = rw (lt-ltb c 128 k, lt-ltb c 128 k)

    big : (c / 128 < 2 ^ (7 * f + 1) → dec f (groups f (c / 128) ++ q) (at + 1) ≡ Ok (c / 128, at + 1 + length (groups f (c / 128))))
        → 128 ≤ c → dec (suc f) (groups (suc f) c ++ q) at ≡ Ok (c, at + length (groups (suc f) c))
    big ih k =
        let h' : c / 128 < 2 ^ (7 * f + 1) = omega (arith, bound_suc f) in
        rw (le-ltb c 128 k, le-ltb (128 + c % 128) 128 (omega arith), ih h') (ap₂ (λ x y. Ok (x, y)) (omega arith) (omega arith))

pub groups_some : (f c : ℕ) → 0 < length (groups f c)
unfolding groups
groups_some zero c = omega arith
groups_some (suc f) c = by (ltb c 128)
  where
    by : (x : Bool) → 0 < length (cond x (c ∷ []) ((128 + c % 128) ∷ groups f (c / 128)))
    by true = omega arith
    by false = omega arith

-- the last group of a number of two or more is not 0
last_group : (f c : ℕ) → c < 2 ^ (7 * f + 1) → 1 < length (groups f c) → get_or (groups f c) (length (groups f c) - 1) 0 ≢ 0
unfolding groups
last_group zero c h k = absurd (omega arith)
last_group (suc f) c h k = ⊎_elim small (big (last_group f (c / 128)) (one f (c / 128))) (split c 128)
  where
    -- groups that are not more than one
    one : (f d : ℕ) → 0 < d → length (groups f d) ≤ 1 → get_or (groups f d) (length (groups f d) - 1) 0 ≢ 0
    one zero d p q e = omega arith
    one (suc f) d p q e = ⊎_elim (λ (a : d < 128). let z : d ≡ 0 = rw (lt-ltb d 128 a) at e in omega arith)
        (λ (a : 128 ≤ d). let z : suc (length (groups f (d / 128))) ≤ 1 = rw (le-ltb d 128 a) at q in omega (arith, groups_some f (d / 128))) (split d 128)

    small : c < 128 → get_or (groups (suc f) c) (length (groups (suc f) c) - 1) 0 ≢ 0
    small s e = let z : 1 < 1 = rw (lt-ltb c 128 s) at k in omega arith

    big : (c / 128 < 2 ^ (7 * f + 1) → 1 < length (groups f (c / 128)) → get_or (groups f (c / 128)) (length (groups f (c / 128)) - 1) 0 ≢ 0)
        → (0 < c / 128 → length (groups f (c / 128)) ≤ 1 → get_or (groups f (c / 128)) (length (groups f (c / 128)) - 1) 0 ≢ 0)
        → 128 ≤ c → get_or (groups (suc f) c) (length (groups (suc f) c) - 1) 0 ≢ 0
    big ih base s =
        let h' : c / 128 < 2 ^ (7 * f + 1) = omega (arith, bound_suc f) in
        rw (le-ltb c 128 s) (past (groups f (c / 128)) (groups_some f (c / 128)) (⊎_elim (λ (q : length (groups f (c / 128)) < 2). base (omega arith) (omega arith)) (λ (q : 2 ≤ length (groups f (c / 128))). ih h' (omega arith)) (split (length (groups f (c / 128))) 2)))
      where
        past : (l : List ℕ) → 0 < length l → get_or l (length l - 1) 0 ≢ 0 → get_or ((128 + c % 128) ∷ l) (suc (length l) - 1) 0 ≢ 0
        past l p n e = n (let i : suc (length l) - 1 ≡ suc (length l - 1) = omega arith in rw i at e)

last_enc : (c : ℕ) → c < 2 ^ 64 → 2 ≤ length (enc c) → get_or (enc c) (length (enc c) - 1) 0 ≢ 0
unfolding enc
last_enc c h k = last_group 9 c h (omega arith)

at_last : (c : ℕ) (p q : List ℕ) (at : ℕ) → length p ≡ at → 1 ≤ length (enc c) → get_or (p ++ (enc c ++ q)) (at + length (enc c) - 1) 0 ≡ get_or (enc c) (length (enc c) - 1) 0
at_last c p q at e h =
    let i : at + length (enc c) - 1 ≡ at + (length (enc c) - 1) = omega arith in
    ap (λ (j : ℕ). get_or (p ++ (enc c ++ q)) j 0) i ∙ sym (get_or-drop at (p ++ (enc c ++ q)) (length (enc c) - 1) 0)
    ∙ ap (λ (l : List ℕ). get_or l (length (enc c) - 1) 0) (drop_at p (enc c ++ q) at e) ∙ get_or-append (enc c) q 0 (length (enc c) - 1) (omega arith)

-- the groups of c behind the first `at` bytes of any list: c is read at each width that holds it, and the position after the groups
any_back : (k c : ℕ) (p q : List ℕ) (at : ℕ) → length p ≡ at → k ≤ 64 → c < 2 ^ k → read_any k (p ++ (enc c ++ q)) at ≡ Ok (c, at + length (enc c))
unfolding read_any enc
any_back k c p q at e w h =
    let h' : c < 2 ^ 64 = omega (arith, pow_mono w) in
    ap (λ (l : List ℕ). narrow k (dec 9 l at)) (drop_at p (enc c ++ q) at e) ∙ ap (narrow k) (back 9 c q at h') ∙ rw (lt-ltb c (2 ^ k) h)

pub read_back : (k c : ℕ) (p q : List ℕ) (at : ℕ) → length p ≡ at → k ≤ 64 → c < 2 ^ k → read_at k (p ++ (enc c ++ q)) at ≡ Ok (c, at + length (enc c))
read_back k c p q at e w h =
    let s : List ℕ = p ++ (enc c ++ q) in
    let n : ℕ = length (enc c) in
    let o : 1 ≤ n = (enc_length 9 c (omega (arith, pow_mono w, pow_mono {i = 64} {j = 70} (omega arith)))).0 in
    sym (read_short k s at c (at + n) (sym (any_back k c p q at e w h))
    (short_form s at (at + n) (⊎_elim (λ (a : n < 2). inl (omega arith)) (λ (a : 2 ≤ n). inr (λ z. last_enc c (omega (arith, pow_mono w)) a (sym (at_last c p q at e o) ∙ z))) (split n 2))))

-- a signed number of either width, in an answer of any type
pub signed_back : {A : Type 0} (number : ℤ → ℕ → A) (refused : ℕ → A) (w : Width) (z : ℤ) (p q : List ℕ) (at : ℕ) → length p ≡ at → bits w ≤ 64 → SFits w z
    → signed_of number refused (read_at (bits w) (p ++ (enc (zig z) ++ q)) at) ≡ number z (at + length (enc (zig z)))
signed_back number refused w z p q at e b f =
    ap (signed_of number refused) (read_back (bits w) (zig z) p q at e b (zig_fits w z f).fits) ∙ ap (λ (y : ℤ). number y (at + length (enc (zig z)))) (zag_zig z)
