-- Laws of row keys: a key has 32 bytes, and equal texts have equal parents, kinds and numbers.
use Prim.Native.Nat.{ℕ, ◌≤◌}
use mathlib.Core.Path.{◌≡◌, refl, sym, ap, ◌∙◌}
use mathlib.Core.List.{List, ◌++◌}
use native.Mathlib.Omega.{arith}
use lib.IntN.{ℤ}
use lib.ListN.{length, take, drop, length-append}
use lib.Seq.{take_at, drop_at}
use mir.Syntax.{w32}
use mir.Val.{SFits}
use Rattle.signed.proofs.SignedLaws.{mag_natAbs}
use Rattle.stores.specs.Stores.{Put}
use Rattle.stores.proofs.PutLaws.{put_both}
use Rattle.text.specs.Text.{hex, number}
use Rattle.text.proofs.TextLaws.{hex_length, number_32}
use Rattle.text.proofs.HexLaws.{Bytes, hex_by_cases, hex_is}
use Rattle.text.proofs.ApartLaws.{hex_apart, number_apart}
use Rattle.blake2b_core.specs.Blake2b.{blake2b256}
use Rattle.blake2b_core.proofs.DigestLaws.{digest256_length}
use Rattle.segment_id.specs.Key.{separator, key_text, row_key}
use Rattle.segment_id.specs.declared.Kind.{Kind}
use Rattle.segment_id.specs.declared.Kind.TheVariants.{Box, Tx}

pub row_key_length : (p : List ℕ) (k : Kind) (z : ℤ) → length (row_key p k z) ≡ 32
unfolding row_key
row_key_length p k z = digest256_length (key_text p k z)

-- ---- lengths of the parts

pub separator_most : (k : Kind) → length (separator k) ≤ 13
separator_most Box = omega arith
separator_most Tx = omega arith

pub number_most : (z : ℤ) → SFits w32 z → length (number z) ≤ 11
number_most z f = number_32 z (mag_natAbs z 2147483648 f.sfits)

pub text_most : (p : List ℕ) (k : Kind) (z : ℤ) → length p ≡ 32 → SFits w32 z → length (key_text p k z) ≤ 88
unfolding key_text
text_most p k z h f =
    omega (arith, length-append (hex p) (separator k ++ number z), length-append (separator k) (number z), hex_length p, separator_most k, number_most z f)

-- the three parts, put one behind the other
pub put_text : (p : List ℕ) (k : Kind) (z : ℤ) (l : List ℕ) (a : ℕ) (l₁ : List ℕ) (b : ℕ) (l₂ : List ℕ) (r : ℕ) (l₃ : List ℕ)
    → Put (hex p) l 0 a l₁ → Put (separator k) l₁ a b l₂ → Put (number z) l₂ b r l₃ → Put (key_text p k z) l 0 r l₃
unfolding key_text
put_text p k z l a l₁ b l₂ r l₃ e f g =
    put_both (hex p) (separator k ++ number z) l 0 a l₁ r l₃ e (put_both (separator k) (number z) l₁ a b l₂ r l₃ f g)

-- ---- equal texts

separator_apart : (j k : Kind) (x y : List ℕ) → separator j ++ x ≡ separator k ++ y → (j ≡ k) × (x ≡ y)
separator_apart Box Box x y e = (refl, cc)
separator_apart Box Tx x y e = let z : ◌≡◌ {A = ℕ} 98 116 = cc in absurd (omega arith)
separator_apart Tx Box x y e = let z : ◌≡◌ {A = ℕ} 116 98 = cc in absurd (omega arith)
separator_apart Tx Tx x y e = (refl, cc)

-- rows of different parents, kinds or numbers have different texts
pub text_apart : (p q : List ℕ) (j k : Kind) (x y : ℤ) → length p ≡ 32 → length q ≡ 32 → Bytes p → Bytes q → SFits w32 x → SFits w32 y
    → key_text p j x ≡ key_text q k y → (p ≡ q) × (j ≡ k) × (x ≡ y)
unfolding key_text
text_apart p q j k x y hp hq fp fq fx fy e =
    let lp : length (hex p) ≡ 64 = omega (arith, hex_length p) in
    let lq : length (hex q) ≡ 64 = omega (arith, hex_length q) in
    let a : hex p ≡ hex q = sym (take_at (hex p) (separator j ++ number x) 64 lp) ∙ ap (take 64) e ∙ take_at (hex q) (separator k ++ number y) 64 lq in
    let b : separator j ++ number x ≡ separator k ++ number y
    = sym (drop_at (hex p) (separator j ++ number x) 64 lp) ∙ ap (drop 64) e ∙ drop_at (hex q) (separator k ++ number y) 64 lq in
    let m = separator_apart j k (number x) (number y) b in
    let hx = mag_natAbs x 2147483648 fx.sfits in
    let hy = mag_natAbs y 2147483648 fy.sfits in
    (hex_apart p q fp fq a, m.0, number_apart x y (omega arith) (omega arith) m.1)

-- document 02, U3: "Rows on existing shelves must be found under the same keys": those of the text whose hex digits come by cases
pub key_stays : (parent : List ℕ) (kind : Kind) (z : ℤ) → Bytes parent → row_key parent kind z ≡ blake2b256 (hex_by_cases parent ++ (separator kind ++ number z))
unfolding row_key key_text
key_stays parent kind z f = rw (hex_is parent f)
