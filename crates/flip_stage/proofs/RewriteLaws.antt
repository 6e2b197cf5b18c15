-- Laws of a row written anew: what was read of it, that its transactions and spill counts stay.
use Prim.Native.Nat.{ℕ, ◌+◌, ◌*◌, ◌-◌, ◌^◌, ◌≤◌, ◌<◌}
use mathlib.Core.Path.{◌≡◌, refl, sym, ap, ◌∙◌}
use mathlib.Core.Bool.{Bool, true, false}
use mathlib.Core.List.{List, ◌∷◌, ◌++◌}
use native.Mathlib.Omega.{arith}
use lib.IntN.{ℤ, pos, nat_abs, neg_ℤ}
use lib.Dec.{eqb}
use borrow.Author.Tests.{eqb-true}
use lib.ListN.{length, take, get_or, replicate, length-set, length-append, get_or-append}
use lib.Seq.{take_at, set-append_left}
use Rattle.stores.specs.Stores.{write, Put}
use Rattle.stores.proofs.StoreLaws.{write_whole}
use Rattle.stores.specs.Equal.{same_bytes}
use Rattle.vlq_core.specs.Groups.{enc}
use Rattle.std.specs.Prelude.{Ok, Err}
use Rattle.vlq_core.specs.Answers.{Got}
use Rattle.vlq_core.proofs.GroupLaws.{enc_length}
use Rattle.vlq_core.proofs.ReadLaws.{read_fits}
use Rattle.records.proofs.CheckLaws.{and_right}
use Rattle.entries.specs.Flip.{flipped_at}
use Rattle.entries.specs.declared.Position.TheVariants.{At}
use Rattle.segment_id.specs.declared.Kind.TheVariants.{Box}
use Rattle.index_types.specs.declared.Loaded.{Loaded}
use Rattle.index_types.specs.declared.Loaded.TheVariants as loaded
use Rattle.segment_core.specs.Row.{row_bytes, row_limit, Held}
use Rattle.segment_core.specs.Reading.{Seg, seg, no_seg, segment_at, ended}
use Rattle.segment_core.specs.Loading.{Loading, loading, load, padded}
use Rattle.index_types.specs.declared.RowEdition.{RowEdition}
use Rattle.index_types.specs.declared.RowEdition.TheVariants.{One, Two}
use Rattle.buffer_core.specs.Edition.{good, bad, numbers_of, row_limit_of, number_at, header_limit, header, body_at, says, named, body_then, row_under, redo_under}
use Rattle.buffer_core.specs.Flip.{row_flipped}
use Rattle.buffer_core.proofs.UnderLaws.{row_within, named_true, Few, body_few}
use Rattle.row_header.specs.Internal.{BodyStart}
use Rattle.row_header.proofs.HeaderLaws.{row_put}
use Rattle.row_edition.proofs.ReadingLaws.{padded_length}
use Rattle.spill_rows.proofs.CheckedLaws.{nope}
use Rattle.flip_stage.specs.Internal.{Takes, flipped_under, Written}

-- ---- the segment that a row holds

pub flipped_row : (v : RowEdition) (parent : List ℕ) (n : ℕ) (row : List ℕ) (ts bs : List ℤ) (b t : ℤ) (m at : ℕ) → row_under v Box parent (pos n) row ≡ seg ts bs b t m
    → flipped_under v parent n row at ≡ header v Box parent (pos n) ++ row_bytes ts (flipped_at (At at) bs) b t
unfolding row_flipped redo_under
flipped_row v parent n row ts bs b t m at e = rw e

-- where the body of a row that was read begins, and what its header says
pub record Body (v : RowEdition) (parent : List ℕ) (n : ℕ) (row : List ℕ) (g : Seg) : Type 0 where
  pub coded : ℕ
  pub start : ℕ
  pub stands : body_at v row ≡ Ok (coded, start)
  pub said : says v Box parent (pos n) row coded ≡ true
  pub holds : ended true (length row) (segment_at row start) ≡ g

pub body_of : (v : RowEdition) (parent : List ℕ) (n : ℕ) (row : List ℕ) → length row ≤ row_limit_of v → (ts bs : List ℤ) (b t : ℤ) (m : ℕ)
    → row_under v Box parent (pos n) row ≡ seg ts bs b t m → Body v parent n row (seg ts bs b t m)
body_of v parent n row fits ts bs b t m e = by_header (body_at v row) refl (sym (row_within v Box parent (pos n) row fits) ∙ e)
  where
    by_name : (x : Bool) (g : Seg) → named x g ≡ seg ts bs b t m → (x ≡ true) × (g ≡ seg ts bs b t m)
    by_name true g q = (refl, sym (named_true g) ∙ q)
    by_name false (seg ts' bs' b' t' m') q = nope (cc)
    by_name false (no_seg r) q = nope (cc)

    by_header : (g : Got) → body_at v row ≡ g
        → body_then (λ c at. named (says v Box parent (pos n) row c) (ended true (length row) (segment_at row at))) g ≡ seg ts bs b t m → Body v parent n row (seg ts bs b t m)
    by_header (Ok (c, o)) d q =
        let w = by_name (says v Box parent (pos n) row c) _ q in record { coded = c; start = o; stands = d; said = w.0; holds = w.1 }
    by_header (Err r) d q = nope (cc)

-- a row of edition 2 that was read writes its spill number in 32 bits, so that its header is short
pub header_short : (v : RowEdition) (parent : List ℕ) → length parent ≡ 32 → (n : ℕ) (row : List ℕ) (g : Seg) → Body v parent n row g
    → length (header v Box parent (pos n)) + row_limit ≤ row_limit_of v
header_short One parent long n row g y = omega arith
header_short Two parent long n row g y =
    let e : eqb y.coded (2 * n) ≡ true = and_right (eqb (get_or row 32 0) 1) _ (and_right (same_bytes (take 32 row) parent) _ y.said) in
    let q : y.coded ≡ 2 * n = eqb-true y.coded (2 * n) e in
    let f : y.coded < 2 ^ 32 = read_fits 32 row number_at y.coded y.start (sym y.stands) in
    let few : length (enc (2 * n)) ≤ 5 = (enc_length 4 (2 * n) (omega arith)).1 in
    omega (arith, length-append parent (1 ∷ enc (2 * n)))

-- ---- what was read of a row, where an entry of it is to be negated

pub record Parsed (v : RowEdition) (parent : List ℕ) (n : ℕ) (row : List ℕ) (at : ℕ) (j k : ℕ) (b t : ℤ) (l m : List ℤ) : Type 0 where
  pub txs : List ℤ
  pub boxes : List ℤ
  pub size_txs : length txs ≡ j
  pub size_boxes : length boxes ≡ k
  pub few_txs : j ≤ 512
  pub few_boxes : k ≤ 512
  pub pad_txs : l ≡ padded txs
  pub pad_boxes : m ≡ padded boxes
  pub inside : at < k
  pub small : nat_abs (get_or boxes at (pos 0)) < 9223372036854775808
  pub flips : flipped_under v parent n row at ≡ header v Box parent (pos n) ++ row_bytes txs (flipped_at (At at) boxes) b t

-- o is where the body begins
module _ (v : RowEdition) (parent : List ℕ) (num : ℕ) (row : List ℕ) (fits : length row ≤ row_limit_of v) (at : ℕ)
    (x : Takes (numbers_of Box (row_under v Box parent (pos num) row)) at) (o : ℕ) (eo : BodyStart (body_at v row) o)
    (r : Loaded) (l m l' m' : List ℤ) (e : loading r l' m' ≡ load (ended true (length row) (segment_at row o)) l m) where
  starts : (c p : ℕ) → body_at v row ≡ Ok (c, p) → o ≡ p
  starts c p q = rw q at eo

  of_row : (ts bs : List ℤ) (b t : ℤ) (n : ℕ) → Body v parent num row (seg ts bs b t n) → loading r l' m' ≡ load (seg ts bs b t n) l m
  of_row ts bs b t n y =
      e ∙ ap (λ (u : ℕ). load (ended true (length row) (segment_at row u)) l m) (starts y.coded y.start y.stands) ∙ ap (λ (g : Seg). load g l m) y.holds

  pub parsed : length l ≡ 512 → length m ≡ 512 → (j k : ℕ) (b t : ℤ) (n : ℕ) → r ≡ loaded.Read j k b t n → Parsed v parent num row at j k b t l' m'
  parsed long_l long-m j k b t n q = by_row (row_under v Box parent (pos num) row) refl
    where
      by_row : (g : Seg) → row_under v Box parent (pos num) row ≡ g → Parsed v parent num row at j k b t l' m'
      by_row (seg ts bs b₀ t₀ n₀) d =
          let y : Body v parent num row (seg ts bs b₀ t₀ n₀) = body_of v parent num row fits ts bs b₀ t₀ n₀ d in
          let f : loading r l' m' ≡ load (seg ts bs b₀ t₀ n₀) l m = of_row ts bs b₀ t₀ n₀ y in
          let p : r ≡ loaded.Read (length ts) (length bs) b₀ t₀ n₀ = ap (λ (z : Loading). z.answer) f in
          let u : l' ≡ write 0 (padded ts) l = ap (λ (z : Loading). z.txs) f in
          let w : m' ≡ write 0 (padded bs) m = ap (λ (z : Loading). z.boxes) f in
          let ej : length ts ≡ j = cc in
          let ek : length bs ≡ k = cc in
          let eb : b₀ ≡ b = cc in
          let et : t₀ ≡ t = cc in
          let h : Few (seg ts bs b₀ t₀ n₀) = rw y.holds at (body_few row y.start) in
          let z : good bs ≡ good x.numbers = sym (ap (numbers_of Box) d) ∙ x.read in
          let s : x.numbers ≡ bs = cc in
          record {
            txs = ts;
            boxes = bs;
            size_txs = ej;
            size_boxes = ek;
            few_txs = omega (arith, h.0);
            few_boxes = omega (arith, h.1);
            pad_txs = u ∙ write_whole (padded ts) l (padded_length ts h.0 ∙ sym long_l);
            pad_boxes = w ∙ write_whole (padded bs) m (padded_length bs h.1 ∙ sym long-m);
            inside = omega (arith, x.inside, ap length s);
            small = omega (arith, x.small, ap (λ (zs : List ℤ). nat_abs (get_or zs at (pos 0))) s);
            flips = flipped_row v parent num row ts bs b₀ t₀ n₀ at d ∙ rw (eb, et);
          }
      by_row (no_seg c) d = let z : bad c ≡ good x.numbers = sym (ap (numbers_of Box) d) ∙ x.read in nope (cc)

  -- a row whose numbers were read is not refused
  pub not_refused : (code : ℕ) → r ≡ loaded.Refused code → {X : Type 0} → X
  not_refused code q = by_row (row_under v Box parent (pos num) row) refl
    where
      by_row : {X : Type 0} (g : Seg) → row_under v Box parent (pos num) row ≡ g → X
      by_row (seg ts bs b₀ t₀ n₀) d =
          let p : r ≡ loaded.Read (length ts) (length bs) b₀ t₀ n₀ = ap (λ (y : Loading). y.answer) (of_row ts bs b₀ t₀ n₀ (body_of v parent num row fits ts bs b₀ t₀ n₀ d)) in nope (cc)
      by_row (no_seg c) d = let z : bad c ≡ good x.numbers = sym (ap (numbers_of Box) d) ∙ x.read in nope (cc)

-- ---- the row that is written

module _ (v : RowEdition) (parent : List ℕ) (num : ℕ) (row : List ℕ) (at j k : ℕ) (b t : ℤ) (l m : List ℤ) (p : Parsed v parent num row at j k b t l m) where
  pub flip_ready : (at < length m) × (nat_abs (get_or m at (pos 0)) < 9223372036854775808)
  flip_ready =
      let s = padded_length p.boxes (omega (arith, p.few_boxes, p.size_boxes)) in
      let g : get_or (padded p.boxes) at (pos 0) ≡ get_or p.boxes at (pos 0) = get_or-append p.boxes _ (pos 0) at (omega (arith, p.inside, p.size_boxes)) in
      (omega (arith, ap length p.pad_boxes, p.inside, p.few_boxes), omega (arith, p.small, ap (λ (zs : List ℤ). nat_abs (get_or zs at (pos 0))) p.pad_boxes, ap nat_abs g))

  pub held_txs : Held j l
  held_txs = (p.few_txs, omega (arith, ap length p.pad_txs, padded_length p.txs (omega (arith, p.few_txs, p.size_txs)), p.few_txs))

  -- m' is what the boxes' buffer holds then
  module _ (m' : List ℤ) (e : m' ≡ flipped_at (At at) m) where
    pub held_boxes : Held k m'
    held_boxes =
        let n : length (flipped_at (At at) m) ≡ length m = length-set m at _ in
        (p.few_boxes, omega (arith, ap length e, ap length p.pad_boxes, padded_length p.boxes (omega (arith, p.few_boxes, p.size_boxes)), p.few_boxes))

    -- x and y are what locals hold of the spill counts
    module _ (x y : ℤ) (ex : x ≡ b) (ey : y ≡ t) where
      pub bytes_are : header v Box parent (pos num) ++ row_bytes (take j l) (take k m') x y ≡ flipped_under v parent num row at
      bytes_are =
          let ts : take j l ≡ p.txs = ap (take j) p.pad_txs ∙ take_at p.txs _ j p.size_txs in
          let i : at < length p.boxes = omega (arith, p.inside, p.size_boxes) in
          let g : get_or (padded p.boxes) at (pos 0) ≡ get_or p.boxes at (pos 0) = get_or-append p.boxes _ (pos 0) at i in
          let s : flipped_at (At at) (padded p.boxes) ≡ flipped_at (At at) p.boxes ++ replicate (512 - length p.boxes) (pos 0) = rw g (set-append_left p.boxes _ at (neg_ℤ (get_or p.boxes at (pos 0))) i) in
          let n : length (flipped_at (At at) p.boxes) ≡ k = length-set p.boxes at _ ∙ p.size_boxes in
          let bs : take k m' ≡ flipped_at (At at) p.boxes = ap (take k) (e ∙ ap (flipped_at (At at)) p.pad_boxes ∙ s) ∙ take_at (flipped_at (At at) p.boxes) _ k n in
          rw (ts, bs, ex, ey) (sym p.flips)

      -- the header, and then the body
      pub row_written : (out : List ℕ) → length out ≡ row_limit_of Two → (o : ℕ) (out₁ : List ℕ) (r : ℕ) (out₂ : List ℕ)
          → Put (header v Box parent (pos num)) out 0 o out₁ → o ≤ header_limit → Put (row_bytes (take j l) (take k m') x y) out₁ o r out₂ → r ≤ o + row_limit
          → Written v (flipped_under v parent num row at) r out₂
      row_written out h o out₁ r out₂ a g w q =
          let bs = row_bytes (take j l) (take k m') x y in
          let z = row_put v Box parent (pos num) bs (omega (arith, w.0)) out h o out₁ r out₂ a g w in
          (z.0, z.1 ∙ bytes_are)
