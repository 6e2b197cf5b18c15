-- Laws of what stands before the body of a row of edition 2: which test decides, and how it is written.
use Prim.Native.Nat.{ℕ, ◌+◌, ◌≤◌, ◌<◌}
use mathlib.Core.Path.{◌≡◌, refl, sym, ap, ◌∙◌}
use mathlib.Core.Bool.{Bool, true, false, ◌&&◌}
use mathlib.Core.List.{List, [], ◌∷◌, ◌++◌}
use native.Mathlib.Omega.{arith}
use lib.Dec.{eqb}
use lib.IntN.{ℤ}
use lib.ListN.{length, take, get_or, length-append}
use borrow.Author.Tests.{lt-leb, ne_eqb, eq-eqb}
use Rattle.stores.specs.Equal.{same_bytes}
use Rattle.stores.specs.Stores.{Put}
use Rattle.stores.proofs.PutLaws.{put_both, put_as}
use Rattle.vlq_core.specs.Zigzag.{zig}
use Rattle.vlq_core.specs.Groups.{enc}
use Rattle.vlq_core.specs.Writing.{written, put_bytes}
use Rattle.vlq_core.proofs.WriteLaws.{put_short, put_within}
use Rattle.std.specs.Prelude.{Ok, Err}
use Rattle.index_types.specs.declared.RowEdition.TheVariants.{Two}
use Rattle.buffer_core.specs.Edition.{number_at}
use Rattle.row_fronts.specs.Fronts.{is_kind, front, tells}

-- ---- what a row of edition 2 says: which test decides

and_false : (a : Bool) → a && false ≡ false
and_false true = refl
and_false false = refl

module _ (parent : List ℕ) (k : ℕ) (n : ℤ) (s : List ℕ) (c : ℕ) where
  pub not_a_kind : is_kind k ≡ false → false ≡ tells Two parent k n s c
  not_a_kind e = rw e refl

  module _ (a : is_kind k ≡ true) where
    pub not_parent : same_bytes (take 32 s) parent ≡ false → false ≡ tells Two parent k n s c
    not_parent e = rw (a, e) refl

    pub not_kind : (get_or s 32 0 ≡ k → ⊥) → false ≡ tells Two parent k n s c
    not_kind e = rw (a, ne_eqb (get_or s 32 0) k e) (sym (and_false (same_bytes (take 32 s) parent)))

    pub the_number : same_bytes (take 32 s) parent ≡ true → get_or s 32 0 ≡ k → eqb c (zig n) ≡ tells Two parent k n s c
    the_number e f = rw (a, e, eq-eqb (get_or s 32 0) k f) refl

-- ---- the header written: the parent, the kind byte, the number

pub front_put : (parent : List ℕ) (k : ℕ) (n : ℤ) (number l : List ℕ) (o : ℕ) (l₁ : List ℕ) (p : ℕ) (l₂ : List ℕ) (r : ℕ) (l₃ : List ℕ) → number ≡ enc (zig n)
    → Put parent l 0 o l₁ → Put (k ∷ []) l₁ o p l₂ → Put number l₂ p r l₃ → Put (front Two parent k n) l 0 r l₃
front_put parent k n number l o l₁ p l₂ r l₃ q a b c =
    put_both parent (k ∷ enc (zig n)) l 0 o l₁ r l₃ a (put_both (k ∷ []) (enc (zig n)) l₁ o p l₂ r l₃ b (rw (← q) c))

pub front_length : (parent : List ℕ) (k : ℕ) (n : ℤ) → length parent ≡ 32 → length (front Two parent k n) ≡ number_at + length (enc (zig n))
front_length parent k n e = length-append parent (k ∷ enc (zig n)) ∙ omega arith

-- ---- the kind

module _ (k : ℕ) where
  pub kind_one : k ≡ 1 → true ≡ is_kind k
  kind_one e = rw (eq-eqb k 1 e) refl

  pub kind_two : (k ≡ 1 → ⊥) → eqb k 2 ≡ is_kind k
  kind_two e = rw (ne_eqb k 1 e) refl

-- ---- writing at the front of the output

module _ (s l : List ℕ) where
  pub no_room : length l < length s → written (Err 32) l ≡ put_bytes s l 0
  no_room h = put_short refl l 0 (length s) refl _ refl (lt-leb (0 + length s) (length l) (omega arith))

  pub with_room : (r : ℕ) (l' : List ℕ) → length s ≤ length l → Put s l 0 r l' → written (Ok r) l' ≡ put_bytes s l 0
  with_room r l' h p = put_within refl l 0 r l' p (omega arith)

-- the row of edition 2: m is the length of the number's bytes, as the callees say the number
module _ (parent : List ℕ) (long : length parent ≡ 32) (k : ℕ) {n n' : ℤ} (q : n' ≡ n) (s l : List ℕ) (m : ℕ) (e : m ≡ length (enc (zig n'))) where
  abbrev before : List ℕ
  before = front Two parent k n

  size : length (before ++ s) ≡ number_at + m + length s
  size = omega (arith, length-append before s, front_length parent k n long, e, ap (λ (z : ℤ). length (enc (zig z))) q)

  pub second_short : length l < number_at + m + length s → written (Err 32) l ≡ put_bytes (before ++ s) l 0
  second_short h = no_room (before ++ s) l (omega (arith, size))

  module _ (o : ℕ) (l₁ : List ℕ) (p : Put (front Two parent k n') l 0 o l₁) where
    pub second_start : o ≡ number_at + m
    second_start = omega (arith, p.0, front_length parent k n' long, e)

    pub second_done : number_at + m + length s ≤ length l → (r : ℕ) (l₂ : List ℕ) → Put s l₁ o r l₂ → written (Ok r) l₂ ≡ put_bytes (before ++ s) l 0
    second_done h r l₂ d =
        with_room (before ++ s) l r l₂ (omega (arith, size)) (put_both before s l 0 o l₁ r l₂ (put_as (ap (front Two parent k) q) l 0 o l₁ p) d)
