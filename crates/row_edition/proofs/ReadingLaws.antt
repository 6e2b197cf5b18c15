-- Laws of reading a row into 512 places, one for each way out; 35 comes last.
use Prim.Native.Nat.{ℕ, ◌+◌, ◌≤◌}
use mathlib.Core.Path.{◌≡◌, refl, sym, ap, ◌∙◌}
use mathlib.Core.Bool.{Bool, true, false}
use mathlib.Core.List.{List, append-nil}
use native.Mathlib.Omega.{arith}
use lib.IntN.{ℤ}
use lib.ListN.{length, length-append, length-replicate, drop_of_length-le}
use Rattle.stores.specs.Stores.{write}
use Rattle.std.specs.Prelude.{Ok, Err}
use Rattle.vlq_core.specs.Answers.{Got}
use Rattle.vlq_core.specs.Reading.{read_at}
use Rattle.segment_id.specs.declared.Kind.{Kind}
use Rattle.segment_id.specs.declared.Kind.TheVariants.{Box, Tx}
use Rattle.index_types.specs.declared.Loaded.{Loaded}
use Rattle.index_types.specs.declared.Loaded.TheVariants as loaded
use Rattle.segment_core.specs.Reading.{Seg, seg, no_seg, segment_at, ended}
use Rattle.segment_core.specs.Loading.{Loading, loading, load, padded}
use Rattle.row_edition.specs.Answers.{SpillRead}
use Rattle.row_edition.specs.Internal.{SpillInto}
use Rattle.index_types.specs.declared.RowEdition.TheVariants.{Two}
use Rattle.buffer_core.specs.Edition.{numbers_of, row_limit_of, number_at, says, named, body_then, row_under}
use Rattle.buffer_core.proofs.UnderLaws.{Few, body_few, named_true, row_within}

-- ---- a row that is read into a list of 512

pub padded_length : (zs : List ℤ) → length zs ≤ 512 → length (padded zs) ≡ 512
padded_length zs h = simp (length-append, length-replicate) (omega arith)

write_all : (s l : List ℤ) → length s ≡ length l → write 0 s l ≡ s
unfolding write
write_all s l e = let h : length l ≤ 0 + length s = omega arith in rw (drop_of_length-le l h) (append-nil s)

module _ (row : List ℕ) (at : ℕ) (r : Loaded) (l m l' m' : List ℤ) (of_row : loading r l' m' ≡ load (ended true (length row) (segment_at row at)) l m) where
  pub boxes_read : length m ≡ 512 → (j k : ℕ) (b t : ℤ) (n : ℕ) → r ≡ loaded.Read j k b t n → SpillInto (numbers_of Box (ended true (length row) (segment_at row at))) (Ok k) m'
  boxes_read long j k b t n q = by_row (ended true (length row) (segment_at row at)) (body_few row at) of_row
    where
      by_row : (g : Seg) → Few g → loading r l' m' ≡ load g l m → SpillInto (numbers_of Box g) (Ok k) m'
      by_row (seg ts bs b' t' n') f e =
          let p : r ≡ loaded.Read (length ts) (length bs) b' t' n' = ap (λ (x : Loading). x.answer) e in
          let w : m' ≡ write 0 (padded bs) m = ap (λ (x : Loading). x.boxes) e in
          let d : k ≡ length bs = cc in
          (ap Ok d, w ∙ write_all (padded bs) m (padded_length bs f.1 ∙ sym long))
      by_row (no_seg x) f e =
          let p : r ≡ loaded.Refused x = ap (λ (x : Loading). x.answer) e in
          let z : ◌≡◌ {A = ℕ} 0 1 = cc in absurd (omega arith)

  pub txs_read : length l ≡ 512 → (j k : ℕ) (b t : ℤ) (n : ℕ) → r ≡ loaded.Read j k b t n → SpillInto (numbers_of Tx (ended true (length row) (segment_at row at))) (Ok j) l'
  txs_read long j k b t n q = by_row (ended true (length row) (segment_at row at)) (body_few row at) of_row
    where
      by_row : (g : Seg) → Few g → loading r l' m' ≡ load g l m → SpillInto (numbers_of Tx g) (Ok j) l'
      by_row (seg ts bs b' t' n') f e =
          let p : r ≡ loaded.Read (length ts) (length bs) b' t' n' = ap (λ (x : Loading). x.answer) e in
          let w : l' ≡ write 0 (padded ts) l = ap (λ (x : Loading). x.txs) e in
          let d : j ≡ length ts = cc in
          (ap Ok d, w ∙ write_all (padded ts) l (padded_length ts f.0 ∙ sym long))
      by_row (no_seg x) f e =
          let p : r ≡ loaded.Refused x = ap (λ (x : Loading). x.answer) e in
          let z : ◌≡◌ {A = ℕ} 0 1 = cc in absurd (omega arith)

  pub none_read : (kind : Kind) (x : ℕ) → r ≡ loaded.Refused x → (out : List ℤ) → SpillInto (numbers_of kind (ended true (length row) (segment_at row at))) (Err x) out
  none_read kind x q out = by_row kind (ended true (length row) (segment_at row at)) of_row
    where
      by_row : (kind : Kind) (g : Seg) → loading r l' m' ≡ load g l m → SpillInto (numbers_of kind g) (Err x) out
      by_row kind (seg ts bs b' t' n') e =
          let p : r ≡ loaded.Read (length ts) (length bs) b' t' n' = ap (λ (x : Loading). x.answer) e in
          let z : ◌≡◌ {A = ℕ} 0 1 = cc in absurd (omega arith)
      by_row Box (no_seg y) e = let p : r ≡ loaded.Refused y = ap (λ (x : Loading). x.answer) e in let d : x ≡ y = cc in ap Err d
      by_row Tx (no_seg y) e = let p : r ≡ loaded.Refused y = ap (λ (x : Loading). x.answer) e in let d : x ≡ y = cc in ap Err d

-- ---- rows of edition 2 say whose they are

into_named : (kind : Kind) (g : Seg) (r : SpillRead) (out : List ℤ) → SpillInto (numbers_of kind g) r out → (n : ℕ) → r ≡ Ok n → SpillInto (numbers_of kind (named true g)) r out
into_named kind g r out s n q = rw (named_true g) s

into_other : (kind : Kind) (g : Seg) (r : SpillRead) (out : List ℤ) → SpillInto (numbers_of kind g) r out → (n : ℕ) → r ≡ Ok n → SpillInto (numbers_of kind (named false g)) (Err 35) out
into_other Box (seg ts bs b t m) r out s n q = refl
into_other Tx (seg ts bs b t m) r out s n q = refl
into_other Box (no_seg x) r out s n q = let z : ◌≡◌ {A = ℕ} 0 1 = cc in absurd (omega arith)
into_other Tx (no_seg x) r out s n q = let z : ◌≡◌ {A = ℕ} 0 1 = cc in absurd (omega arith)

into_refused : (kind : Kind) (x : Bool) (g : Seg) (r : SpillRead) (out : List ℤ) → SpillInto (numbers_of kind g) r out → (k : ℕ) → r ≡ Err k → SpillInto (numbers_of kind (named x g)) (Err k) out
into_refused Box x (seg ts bs b t m) r out s k q = let z : ◌≡◌ {A = ℕ} 0 1 = let a = s.0 in cc in absurd (omega arith)
into_refused Tx x (seg ts bs b t m) r out s k q = let z : ◌≡◌ {A = ℕ} 0 1 = let a = s.0 in cc in absurd (omega arith)
into_refused Box x (no_seg y) r out s k q = sym q ∙ s
into_refused Tx x (no_seg y) r out s k q = sym q ∙ s

module _ (kind : Kind) (parent : List ℕ) (n : ℤ) (row : List ℕ) (fits : length row ≤ row_limit_of Two) (g : Got) (e : g ≡ read_at 32 row number_at) where
  pub second_cut : (k : ℕ) → g ≡ Err k → (out : List ℤ) → SpillInto (numbers_of kind (row_under Two kind parent n row)) (Err k) out
  second_cut k d out = by_kind kind (row_within Two kind parent n row fits ∙ ap (body_then _) (sym e ∙ d))
    where
      by_kind : (j : Kind) → row_under Two kind parent n row ≡ no_seg k → SpillInto (numbers_of j (row_under Two kind parent n row)) (Err k) out
      by_kind Box q = rw q refl
      by_kind Tx q = rw q refl

  module _ (c at : ℕ) (d : g ≡ Ok (c, at)) where
    second_is : row_under Two kind parent n row ≡ named (says Two kind parent n row c) (ended true (length row) (segment_at row at))
    second_is = row_within Two kind parent n row fits ∙ ap (body_then _) (sym e ∙ d)

    module _ (r : SpillRead) (out : List ℤ) (s : SpillInto (numbers_of kind (ended true (length row) (segment_at row at))) r out) where
      pub second_bad : (k : ℕ) → r ≡ Err k → SpillInto (numbers_of kind (row_under Two kind parent n row)) (Err k) out
      second_bad k q = rw second_is (into_refused kind (says Two kind parent n row c) (ended true (length row) (segment_at row at)) r out s k q)

      module _ (k : ℕ) (q : r ≡ Ok k) (x : Bool) (t : x ≡ says Two kind parent n row c) where
        pub second_own : x ≡ true → SpillInto (numbers_of kind (row_under Two kind parent n row)) (Ok k) out
        second_own y = rw (second_is, ← t, y, ← q) (into_named kind (ended true (length row) (segment_at row at)) r out s k q)

        pub second_other : x ≡ false → SpillInto (numbers_of kind (row_under Two kind parent n row)) (Err 35) out
        second_other y = rw (second_is, ← t, y) (into_other kind (ended true (length row) (segment_at row at)) r out s k q)
