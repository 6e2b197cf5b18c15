-- Laws of what a row says of itself: which test decides, and the header written part by part.
use Prim.Native.Nat.{ℕ, ◌+◌, ◌*◌, ◌≤◌, ◌<◌}
use mathlib.Core.Path.{◌≡◌, refl, sym, ap, ◌∙◌}
use mathlib.Core.Bool.{Bool, true, false, ◌&&◌}
use mathlib.Core.List.{List, ◌∷◌, ◌++◌}
use native.Mathlib.Omega.{arith}
use lib.Dec.{eqb}
use lib.IntN.{ℤ, pos}
use lib.ListN.{length, take, get_or, set}
use lib.Seq.{take_at}
use borrow.Author.Tests.{ne_eqb, eq-eqb}
use Rattle.stores.specs.Equal.{same_bytes}
use Rattle.stores.specs.Stores.{write, Put}
use Rattle.stores.proofs.PutLaws.{put_write, put_cons, put_both, put_as, sets_front}
use Rattle.vlq_core.specs.Zigzag.{zig}
use Rattle.vlq_core.specs.Groups.{enc}
use Rattle.vlq_core.proofs.GroupLaws.{enc_length}
use Rattle.segment_id.specs.declared.Kind.{Kind}
use Rattle.segment_core.specs.Row.{row_limit}
use Rattle.index_types.specs.declared.RowEdition.{RowEdition}
use Rattle.index_types.specs.declared.RowEdition.TheVariants.{One, Two}
use Rattle.buffer_core.specs.Edition.{row_limit_of, number_at, header_limit, kind_byte, header, says}
use Rattle.buffer_core.proofs.SizeLaws.{limit_most}

and_false : (a : Bool) → a && false ≡ false
and_false true = refl
and_false false = refl

module _ (kind : Kind) (parent : List ℕ) (number : ℕ) (row : List ℕ) (c : ℕ) where
  pub not_parent : same_bytes (take 32 row) parent ≡ false → false ≡ says Two kind parent (pos number) row c
  not_parent e = rw e refl

  pub not_kind : (b : ℕ) → b ≡ kind_byte kind → (get_or row 32 0 ≡ b → ⊥) → false ≡ says Two kind parent (pos number) row c
  not_kind b e n = rw (ne_eqb (get_or row 32 0) (kind_byte kind) (λ q. n (q ∙ sym e))) (sym (and_false (same_bytes (take 32 row) parent)))

  pub the_number : same_bytes (take 32 row) parent ≡ true → get_or row 32 0 ≡ kind_byte kind → eqb c (2 * number) ≡ says Two kind parent (pos number) row c
  the_number e f = rw (e, eq-eqb (get_or row 32 0) (kind_byte kind) f) refl

-- ---- the header written: the parent at the front, the kind byte, the number

pub header_put : (kind : Kind) (parent : List ℕ) (number : ℕ) (l l₁ l₂ : List ℕ) (b : ℕ) (z : ℤ) (r : ℕ) (l₃ : List ℕ) → length parent ≡ 32 → header_limit ≤ length l → number < 2147483648
    → l₁ ≡ write 0 parent l → b ≡ kind_byte kind → l₂ ≡ set l₁ 32 b → z ≡ pos number → Put (enc (zig z)) l₂ number_at r l₃
    → Put (header Two kind parent (pos number)) l 0 r l₃ × (r ≤ header_limit)
header_put kind parent number l l₁ l₂ b z r l₃ long room low e f g h p =
    let c : length (enc (2 * number)) ≤ 5 = (enc_length 4 (2 * number) (omega arith)).1 in
    let q : enc (zig z) ≡ enc (2 * number) = ap (λ (x : ℤ). enc (zig x)) h in
    let at : 32 ≡ 0 + length parent = omega arith in
    let k : l₂ ≡ set l₁ 32 (kind_byte kind) = g ∙ ap (set l₁ 32) f in
    let x : Put (kind_byte kind ∷ enc (2 * number)) l₁ 32 r l₃ = put_cons (kind_byte kind) (enc (2 * number)) l₁ 32 r l₃ (rw (← k) (put_as q l₂ number_at r l₃ p)) in
    (put_both parent (kind_byte kind ∷ enc (2 * number)) l 0 (0 + length parent) l₁ r l₃ (put_write parent l 0 l₁ (omega arith) e) (rw (← at) x), omega (arith, p.0, ap length q))

pub header_room : (number : ℕ) (z : ℤ) (len : ℕ) → number < 2147483648 → z ≡ pos number → header_limit ≤ len → number_at + length (enc (zig z)) ≤ len
header_room number z len low h k =
    let c : length (enc (2 * number)) ≤ 5 = (enc_length 4 (2 * number) (omega arith)).1 in
    let q : length (enc (zig z)) ≡ length (enc (2 * number)) = ap (λ (x : ℤ). length (enc (zig x))) h in
    omega arith

-- ---- a row written: its header, then its body

-- behind the header of an edition there is room for any body
header_leaves : (v : RowEdition) (kind : Kind) (parent : List ℕ) (n : ℤ) (l : List ℕ) (o : ℕ) (l₁ : List ℕ) → Put (header v kind parent n) l 0 o l₁ → o ≤ header_limit
    → o + row_limit ≤ row_limit_of v
header_leaves One kind parent n l o l₁ p h = omega (arith, p.0)
header_leaves Two kind parent n l o l₁ p h = omega arith

-- at the front of a buffer for the longest row: as much of it as was written is the row
pub row_put : (v : RowEdition) (kind : Kind) (parent : List ℕ) (n : ℤ) (body : List ℕ) → length body ≤ row_limit → (l : List ℕ) → length l ≡ row_limit_of Two
    → (o : ℕ) (l₁ : List ℕ) (r : ℕ) (l₂ : List ℕ) → Put (header v kind parent n) l 0 o l₁ → o ≤ header_limit → Put body l₁ o r l₂
    → (r ≤ row_limit_of v) × (take r l₂ ≡ header v kind parent n ++ body)
row_put v kind parent n body few l e o l₁ r l₂ p h q =
    let front : List ℕ = header v kind parent n in
    let w : Put (front ++ body) l 0 r l₂ = put_both front body l 0 o l₁ r l₂ p q in
    let m : r ≤ row_limit_of v = omega (arith, q.0, header_leaves v kind parent n l o l₁ p h) in
    let a : length (front ++ body) ≡ r = omega (arith, w.0) in
    let f : length (front ++ body) ≤ length l = omega (arith, limit_most v) in
    (m, ap (take r) (w.1 ∙ sets_front (front ++ body) l f) ∙ take_at (front ++ body) _ r a)
