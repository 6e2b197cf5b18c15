-- Laws of a spill's row as it is written, in either edition: its length, that it is read back under its spill's key, and the same of a row with other boxes.
use Prim.Native.Nat.{ℕ, ◌+◌, ◌*◌, ◌≤◌, ◌<◌}
use mathlib.Core.Path.{◌≡◌, refl, sym, ◌∙◌, ap, subst}
use mathlib.Core.List.{List, [], ◌∷◌, ◌++◌, append_assoc, append-nil}
use mathlib.Core.Bool.{true}
use native.Mathlib.Omega.{arith}
use lib.IntN.{ℤ, pos}
use lib.ListN.{length, take, drop, get_or, length-append}
use lib.Seq.{take-append-le, drop_at, get_or-drop, take_all}
use borrow.Author.Tests.{eq-eqb}
use Rattle.records.proofs.KeyLaws.{same_eq}
use Rattle.vlq_core.specs.Groups.{enc}
use Rattle.std.specs.Prelude.{Ok}
use Rattle.vlq_core.specs.Reading.{read_at}
use Rattle.vlq_core.proofs.BackLaws.{read_back}
use Rattle.vlq_core.proofs.GroupLaws.{enc_length}
use Rattle.segment_id.specs.declared.Kind.{Kind}
use Rattle.segment_id.specs.declared.Kind.TheVariants.{Box, Tx}
use Rattle.segment_core.specs.Row.{row_bytes, row_limit}
use Rattle.segment_core.specs.Reading.{Seg, seg, no_seg, segment_at, ended}
use Rattle.segment_core.proofs.BackLaws.{All64, Count, Writable, segment_back}
use Rattle.segment_core.proofs.CodecLaws.{row_size}
use Rattle.index_types.specs.declared.RowEdition.{RowEdition}
use Rattle.index_types.specs.declared.RowEdition.TheVariants.{One, Two}
use Rattle.buffer_core.specs.Edition.{RowRead, bad, good, row_limit_of, number_at, kind_byte, header, body_at, says, spill_bytes, numbers_of, named, body_then, row_under, redo_under}
use Rattle.buffer_core.proofs.UnderLaws.{row_within, Fine, row_fine}

-- ---- the row of a spill: its header, then a body
module _ (k : Kind) (p : List ℕ) (long : length p ≡ 32) (n : ℕ) (low : n < 2147483648) where
  -- where the body begins, and the number that the header writes
  abbrev pub start : RowEdition → ℕ
  start v = length (header v k p (pos n))

  abbrev number : RowEdition → ℕ
  number One = 0
  number Two = 2 * n

  few_bytes : (length (enc (2 * n)) ≤ 5)
  few_bytes = (enc_length 4 (2 * n) (omega arith)).1

  two_start : start Two ≡ number_at + length (enc (2 * n))
  two_start = length-append p (kind_byte k ∷ enc (2 * n)) ∙ omega arith

  pub within : (v : RowEdition) → start v + row_limit ≤ row_limit_of v
  within One = omega arith
  within Two = omega (arith, two_start, few_bytes)

  -- a row with any body
  module _ (body : List ℕ) where
    abbrev whole : RowEdition → List ℕ
    whole v = header v k p (pos n) ++ body

    front : whole Two ≡ (p ++ (kind_byte k ∷ [])) ++ (enc (2 * n) ++ body)
    front = append_assoc p (kind_byte k ∷ enc (2 * n)) body ∙ sym (append_assoc p (kind_byte k ∷ []) (enc (2 * n) ++ body))

    begins : (v : RowEdition) → body_at v (whole v) ≡ Ok (number v, start v)
    begins One = refl
    begins Two =
        ap (λ (s : List ℕ). read_at 32 s number_at) front
        ∙ read_back 32 (2 * n) (p ++ (kind_byte k ∷ [])) body number_at (length-append p (kind_byte k ∷ []) ∙ omega arith) (omega arith) (omega arith)
        ∙ ap (λ x. Ok (2 * n, x)) (sym two_start)

    told : (v : RowEdition) → says v k p (pos n) (whole v) (number v) ≡ true
    told One = refl
    told Two =
        let e : whole Two ≡ p ++ (kind_byte k ∷ (enc (2 * n) ++ body)) = append_assoc p (kind_byte k ∷ enc (2 * n)) body in
        let a : take 32 (whole Two) ≡ p = ap (take 32) e ∙ take-append-le 32 p _ (omega arith) ∙ take_all 32 p (omega arith) in
        let b : get_or (whole Two) 32 0 ≡ kind_byte k = sym (get_or-drop 32 (whole Two) 0 0) ∙ ap (λ (l : List ℕ). get_or l 0 0) (ap (λ (l : List ℕ). drop 32 l) e ∙ drop_at p _ 32 long) in
        rw (same_eq (take 32 (whole Two)) p a, eq-eqb (get_or (whole Two) 32 0) (kind_byte k) b, eq-eqb (2 * n) (2 * n) refl) refl

  module _ (v : RowEdition) (ts bs : List ℤ) (b t : ℤ) (w : Writable ts bs b t) where
    abbrev row : List ℕ
    row = header v k p (pos n) ++ row_bytes ts bs b t

    row_long : length row ≡ start v + length (row_bytes ts bs b t)
    row_long = length-append (header v k p (pos n)) (row_bytes ts bs b t)

    pub short : length row ≤ row_limit_of v
    short = omega (arith, row_long, row_size ts bs b t w, within v)

    pub back : row_under v k p (pos n) row ≡ seg ts bs b t (start v + length (row_bytes ts bs b t))
    back =
        let e = segment_back ts bs b t w row (header v k p (pos n)) [] (start v) (ap (λ (l : List ℕ). header v k p (pos n) ++ l) (sym (append-nil (row_bytes ts bs b t)))) refl in
        row_within v k p (pos n) row short
        ∙ ap (body_then (λ c at. named (says v k p (pos n) row c) (ended true (length row) (segment_at row at)))) (begins (row_bytes ts bs b t) v)
        ∙ rw (told (row_bytes ts bs b t) v, e, eq-eqb (start v + length (row_bytes ts bs b t)) (length row) (sym row_long)) refl

-- ---- a spill's numbers

no_spills : Count (pos 0)
no_spills = (refl, record { sfits = omega arith })

of_boxes : (l : List ℤ) → length l ≤ 512 → All64 l → Writable [] l (pos 0) (pos 0)
of_boxes l h s = record { txs_few = omega arith; txs_fit = tt; boxes_few = h; boxes_fit = s; box_count = no_spills; tx_count = no_spills }

of_txs : (l : List ℤ) → length l ≤ 512 → All64 l → Writable l [] (pos 0) (pos 0)
of_txs l h s = record { txs_few = h; txs_fit = s; boxes_few = omega arith; boxes_fit = tt; box_count = no_spills; tx_count = no_spills }

module _ (v : RowEdition) (p : List ℕ) (long : length p ≡ 32) (n : ℕ) (low : n < 2147483648) (l : List ℤ) (few : length l ≤ 512) (fit : All64 l) where
  pub spill_short : (k : Kind) → length (header v k p (pos n) ++ spill_bytes k l) ≤ row_limit_of v
  spill_short Box = short Box p long n low v [] l (pos 0) (pos 0) (of_boxes l few fit)
  spill_short Tx = short Tx p long n low v l [] (pos 0) (pos 0) (of_txs l few fit)

  pub spill_back : (k : Kind) → numbers_of k (row_under v k p (pos n) (header v k p (pos n) ++ spill_bytes k l)) ≡ good l
  spill_back Box = ap (numbers_of Box) (back Box p long n low v [] l (pos 0) (pos 0) (of_boxes l few fit))
  spill_back Tx = ap (numbers_of Tx) (back Tx p long n low v l [] (pos 0) (pos 0) (of_txs l few fit))

-- ---- a row that was read, with other boxes

abbrev is_good : RowRead → Type 0
is_good (good l) = Unit
is_good (bad r) = ⊥

bad_good : (r : ℕ) (l : List ℤ) → ◌≡◌ {A = RowRead} (bad r) (good l) → ⊥
bad_good r l e = subst is_good (sym e) tt

module _ (v : RowEdition) (p : List ℕ) (long : length p ≡ 32) (n : ℕ) (low : n < 2147483648) (row : List ℕ) (l new : List ℤ) (few : length new ≤ 512) (fit : All64 new) where
  by_row : (g : Seg) → row_under v Box p (pos n) row ≡ g → numbers_of Box g ≡ good l
      → (length (redo_under v p (pos n) row new) ≤ row_limit_of v) × (numbers_of Box (row_under v Box p (pos n) (redo_under v p (pos n) row new)) ≡ good new)
  unfolding redo_under
  by_row (seg ts bs b t m) e h =
      let f : Writable ts bs b t = subst Fine e (row_fine v Box p (pos n) row) in
      let w : Writable ts new b t = record { txs_few = f.txs_few; txs_fit = f.txs_fit; boxes_few = few; boxes_fit = fit; box_count = f.box_count; tx_count = f.tx_count } in
      rw e (short Box p long n low v ts new b t w, ap (numbers_of Box) (back Box p long n low v ts new b t w))
  by_row (no_seg r) e h = absurd (bad_good r l h)

  module _ (e : numbers_of Box (row_under v Box p (pos n) row) ≡ good l) where
    pub redo_short : length (redo_under v p (pos n) row new) ≤ row_limit_of v
    redo_short = (by_row (row_under v Box p (pos n) row) refl e).0

    pub redo_back : numbers_of Box (row_under v Box p (pos n) (redo_under v p (pos n) row new)) ≡ good new
    redo_back = (by_row (row_under v Box p (pos n) row) refl e).1
