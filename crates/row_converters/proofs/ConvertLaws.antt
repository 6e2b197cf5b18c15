-- Laws of the converters: one for each way out, and the body that they test and write.
use Prim.Native.Nat.{ℕ, ◌-◌, ◌≤◌, ◌<◌}
use mathlib.Core.Path.{◌≡◌, refl, sym, ap, ◌∙◌}
use mathlib.Core.Bool.{Bool, true, false}
use mathlib.Core.List.{List, ◌++◌}
use native.Mathlib.Omega.{arith}
use lib.IntN.{ℤ}
use lib.ListN.{length, take, drop, length-drop}
use lib.Seq.{take_all}
use borrow.Author.Tests.{le-leb, lt-leb}
use Rattle.std.specs.Prelude.{Ok, Err}
use Rattle.vlq_core.specs.Writing.{written, put_bytes}
use Rattle.index_types.specs.declared.RowEdition.{RowEdition}
use Rattle.index_types.specs.declared.Loaded.{Loaded}
use Rattle.index_types.specs.declared.Loaded.TheVariants as loaded
use Rattle.segment_core.specs.Loading.{Loading, loading, load}
use Rattle.segment_core.specs.Reading.{Seg, seg, no_seg, segment_at, ended}
use Rattle.buffer_core.specs.Edition.{row_limit_of, body_at, named}
use Rattle.row_fronts.specs.Fronts.{front, tells}
use Rattle.row_converters.specs.Convert.{put_row, convert}
use Rattle.row_converters.specs.Internal.{body_answer}

-- ---- the ways out, in their order

module _ (v w : RowEdition) (parent : List ℕ) (k : ℕ) (n : ℤ) (s out : List ℕ) where
  pub too_long : row_limit_of v < length s → written (Err 25) out ≡ convert v w parent k n s out
  unfolding convert
  too_long h = rw (lt-leb (length s) (row_limit_of v) h)

  module _ (fits : length s ≤ row_limit_of v) where
    pub header_refused : (r : ℕ) → body_at v s ≡ Err r → written (Err r) out ≡ convert v w parent k n s out
    unfolding convert
    header_refused r e = rw (le-leb (length s) (row_limit_of v) fits, e)

    module _ (c at : ℕ) (e : body_at v s ≡ Ok (c, at)) where
      abbrev body : Seg
      body = ended true (length s) (segment_at s at)

      read_on : put_row (front w parent k n) (drop at s) (named (tells v parent k n s c) body) out ≡ convert v w parent k n s out
      unfolding convert
      read_on = rw (le-leb (length s) (row_limit_of v) fits, e)

      pub body_refused : (r : ℕ) → Err r ≡ body_answer body → written (Err r) out ≡ convert v w parent k n s out
      body_refused r f = by_body body f ∙ read_on
        where
          by_body : (g : Seg) → Err r ≡ body_answer g → written (Err r) out ≡ put_row (front w parent k n) (drop at s) (named (tells v parent k n s c) g) out
          by_body (seg ts bs b t m) f = let z : ◌≡◌ {A = ℕ} 0 1 = cc in absurd (omega arith)
          by_body (no_seg x) f = let d : r ≡ x = cc in ap (λ (y : ℕ). written (Err y) out) d

      module _ (f : (Ok tt) ≡ body_answer body) where
        pub of_others : tells v parent k n s c ≡ false → written (Err 35) out ≡ convert v w parent k n s out
        of_others t = by_body body f ∙ read_on
          where
            by_body : (g : Seg) → (Ok tt) ≡ body_answer g → written (Err 35) out ≡ put_row (front w parent k n) (drop at s) (named (tells v parent k n s c) g) out
            by_body (seg ts bs b u m) f = rw t refl
            by_body (no_seg x) f = let z : ◌≡◌ {A = ℕ} 0 1 = cc in absurd (omega arith)

        pub of_these : tells v parent k n s c ≡ true → put_bytes (front w parent k n ++ drop at s) out 0 ≡ convert v w parent k n s out
        of_these t = by_body body f ∙ read_on
          where
            by_body : (g : Seg) → (Ok tt) ≡ body_answer g → put_bytes (front w parent k n ++ drop at s) out 0 ≡ put_row (front w parent k n) (drop at s) (named (tells v parent k n s c) g) out
            by_body (seg ts bs b u m) f = rw t refl
            by_body (no_seg x) f = let z : ◌≡◌ {A = ℕ} 0 1 = cc in absurd (omega arith)

-- n' is n as the callees say it
pub as_told : (v : RowEdition) (parent : List ℕ) (k : ℕ) {n n' : ℤ} → n' ≡ n → (s : List ℕ) (c : ℕ) (x : Bool) → x ≡ tells v parent k n' s c → tells v parent k n s c ≡ x
as_told v parent k q s c x e = ap (λ (z : ℤ). tells v parent k z s c) (sym q) ∙ sym e

-- ---- the body

-- what the reader of a segment answered, as an answer on the body
module _ (g : Seg) (r : Loaded) (l m l' m' : List ℤ) (e : loading r l' m' ≡ load g l m) where
  pub body_read : (i j : ℕ) (b t : ℤ) (n : ℕ) → r ≡ loaded.Read i j b t n → (Ok tt) ≡ body_answer g
  body_read i j b t n f = by_body g e
    where
      by_body : (g : Seg) → loading r l' m' ≡ load g l m → (Ok tt) ≡ body_answer g
      by_body (seg ts bs b' t' n') e = refl
      by_body (no_seg x) e = let p : r ≡ loaded.Refused x = ap (λ (x : Loading). x.answer) e in let z : ◌≡◌ {A = ℕ} 0 1 = cc in absurd (omega arith)

  pub body_unread : (code : ℕ) → r ≡ loaded.Refused code → Err code ≡ body_answer g
  body_unread code f = by_body g e
    where
      by_body : (g : Seg) → loading r l' m' ≡ load g l m → Err code ≡ body_answer g
      by_body (seg ts bs b t n) e = let p : r ≡ loaded.Read (length ts) (length bs) b t n = ap (λ (x : Loading). x.answer) e in let z : ◌≡◌ {A = ℕ} 0 1 = cc in absurd (omega arith)
      by_body (no_seg x) e = let p : r ≡ loaded.Refused x = ap (λ (x : Loading). x.answer) e in let d : code ≡ x = cc in ap Err d

-- the rest of a row, as a part of it
pub rest : (at : ℕ) (s : List ℕ) → take (length s - at) (drop at s) ≡ drop at s
rest at s = take_all (length s - at) (drop at s) (omega (arith, length-drop at s))
