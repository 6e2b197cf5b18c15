-- Laws of the row under a spill's key, in either edition: within its limit it is not refused by 25, edition 1 has nothing before the body, what is read has at
-- most 512 numbers, and a row that is read could have been written.
use Prim.Native.Nat.{ℕ, ◌≤◌}
use mathlib.Core.Path.{◌≡◌, refl, ◌∙◌}
use mathlib.Core.Bool.{Bool, true, false, cond, not, ◌||◌}
use mathlib.Core.List.{List}
use native.Mathlib.Omega.{arith}
use lib.Dec.{leb, eqb}
use lib.IntN.{ℤ}
use lib.ListN.{length}
use borrow.Author.Tests.{le-leb}
use Rattle.std.specs.Prelude.{Ok, Err}
use Rattle.vlq_core.specs.Answers.{Got}
use Rattle.segment_id.specs.declared.Kind.{Kind}
use Rattle.segment_id.specs.declared.Kind.TheVariants.{Box, Tx}
use Rattle.segment_core.specs.Answers.{Counts}
use Rattle.segment_core.specs.Reading.{Nums, nums, bad, list_at, counts_at, Seg, seg, no_seg, list_then, counts_then, segment_at, ended}
use Rattle.segment_core.proofs.ListLaws.{list_most}
use Rattle.segment_core.proofs.BackLaws.{Writable}
use Rattle.segment_core.proofs.CodecLaws.{segment_accepted}
use Rattle.index_types.specs.declared.RowEdition.{RowEdition}
use Rattle.index_types.specs.declared.RowEdition.TheVariants.{One, Two}
use Rattle.buffer_core.specs.Edition.{good, numbers_of, row_limit_of, body_at, says, named, body_then, row_under}

-- a row within its limit is not refused for its length
pub row_within : (v : RowEdition) (kind : Kind) (parent : List ℕ) (n : ℤ) (row : List ℕ) → length row ≤ row_limit_of v
    → row_under v kind parent n row ≡ body_then (λ c at. named (says v kind parent n row c) (ended true (length row) (segment_at row at))) (body_at v row)
unfolding row_under
row_within v kind parent n row fits = rw (le-leb (length row) (row_limit_of v) fits)

pub named_true : (g : Seg) → named true g ≡ g
named_true (seg ts bs b t n) = refl
named_true (no_seg r) = refl

-- rows of edition 1 have nothing before the body
pub plain_row : (kind : Kind) (parent : List ℕ) (n : ℤ) (row : List ℕ) → length row ≤ row_limit_of One
    → row_under One kind parent n row ≡ ended true (length row) (segment_at row 0)
plain_row kind parent n row fits = row_within One kind parent n row fits ∙ named_true _

-- ---- a segment that was read has at most 512 numbers in each list

abbrev pub Few : Seg → Type 0
Few (seg ts bs b t n) = (length ts ≤ 512) × (length bs ≤ 512)
Few (no_seg r) = Unit

segment_few : (s : List ℕ) (at : ℕ) → Few (segment_at s at)
unfolding segment_at
segment_few s at = by_txs (list_at s at) refl
  where
    by_counts : (ts bs : List ℤ) → length ts ≤ 512 → length bs ≤ 512 → (x : Counts) → Few (counts_then (seg ts bs) x)
    by_counts ts bs p q (Ok (b, t, n)) = (p, q)
    by_counts ts bs p q (Err r) = tt

    by_boxes : (ts : List ℤ) → length ts ≤ 512 → (p : ℕ) (x : Nums) → list_at s p ≡ x → Few (list_then (λ bs q. counts_then (seg ts bs) (counts_at s q)) x)
    by_boxes ts h p (nums bs q) e = by_counts ts bs h (list_most s p bs q e) (counts_at s q)
    by_boxes ts h p (bad r) e = tt

    by_txs : (x : Nums) → list_at s at ≡ x → Few (list_then (λ ts p. list_then (λ bs q. counts_then (seg ts bs) (counts_at s q)) (list_at s p)) x)
    by_txs (nums ts p) e = by_boxes ts (list_most s at ts p e) p (list_at s p) refl
    by_txs (bad r) e = tt

ended_few : (must : Bool) (len : ℕ) (g : Seg) → Few g → Few (ended must len g)
ended_few must len (seg ts bs b t n) f = by_end (not must || eqb n len)
  where
    by_end : (x : Bool) → Few (cond x (seg ts bs b t n) (no_seg 8))
    by_end true = f
    by_end false = tt
ended_few must len (no_seg r) f = tt

pub body_few : (s : List ℕ) (at : ℕ) → Few (ended true (length s) (segment_at s at))
body_few s at = ended_few true (length s) (segment_at s at) (segment_few s at)

named_few : (x : Bool) (g : Seg) → Few g → Few (named x g)
named_few true (seg ts bs b t n) f = f
named_few false (seg ts bs b t n) f = tt
named_few x (no_seg r) f = tt

row_few : (v : RowEdition) (kind : Kind) (parent : List ℕ) (n : ℤ) (s : List ℕ) → Few (row_under v kind parent n s)
unfolding row_under
row_few v kind parent n s = by_limit (leb (length s) (row_limit_of v))
  where
    by_body : (g : Got) → Few (body_then (λ c at. named (says v kind parent n s c) (ended true (length s) (segment_at s at))) g)
    by_body (Ok (c, at)) = named_few (says v kind parent n s c) (ended true (length s) (segment_at s at)) (body_few s at)
    by_body (Err r) = tt

    by_limit : (x : Bool) → Few (cond x (body_then (λ c at. named (says v kind parent n s c) (ended true (length s) (segment_at s at))) (body_at v s)) (no_seg 25))
    by_limit true = by_body (body_at v s)
    by_limit false = tt

-- a row that was read has at most 512 numbers of a kind
pub decode_few : (v : RowEdition) (kind : Kind) (parent : List ℕ) (n : ℤ) (row : List ℕ) (zs : List ℤ) → numbers_of kind (row_under v kind parent n row) ≡ good zs → length zs ≤ 512
decode_few v kind parent n row zs e = by_row kind (row_under v kind parent n row) (row_few v kind parent n row) e
  where
    by_row : (kind : Kind) (g : Seg) → Few g → numbers_of kind g ≡ good zs → length zs ≤ 512
    by_row Box (seg ts bs b t n) f e = let p : bs ≡ zs = cc in rw p at f.1
    by_row Tx (seg ts bs b t n) f e = let p : ts ≡ zs = cc in rw p at f.0
    by_row Box (no_seg r) f e = let z : ◌≡◌ {A = ℕ} 0 1 = cc in absurd (omega arith)
    by_row Tx (no_seg r) f e = let z : ◌≡◌ {A = ℕ} 0 1 = cc in absurd (omega arith)

-- ---- a row that is read is writable
abbrev pub Fine : Seg → Type 0
Fine (seg ts bs b t n) = Writable ts bs b t
Fine (no_seg r) = Unit {0}

module _ (v : RowEdition) (k : Kind) (p : List ℕ) (n : ℤ) (s : List ℕ) where
  by_name : (x : Bool) (g : Seg) → Fine g → Fine (named x g)
  by_name true (seg ts bs b t m) f = f
  by_name false (seg ts bs b t m) f = tt
  by_name x (no_seg r) f = tt

  by_end : (g : Seg) → Fine g → Fine (ended true (length s) g)
  by_end (seg ts bs b t m) f = go (eqb m (length s))
    where
      go : (x : Bool) → Fine (cond x (seg ts bs b t m) (no_seg 8))
      go true = f
      go false = tt
  by_end (no_seg r) f = tt

  by_segment : (at : ℕ) (g : Seg) → segment_at s at ≡ g → Fine g
  by_segment at (seg ts bs b t m) e = (segment_accepted s at ts bs b t m e).content
  by_segment at (no_seg r) e = tt

  by_body : (g : Got) → Fine (body_then (λ c at. named (says v k p n s c) (ended true (length s) (segment_at s at))) g)
  by_body (Ok (c, at)) = by_name (says v k p n s c) (ended true (length s) (segment_at s at)) (by_end (segment_at s at) (by_segment at (segment_at s at) refl))
  by_body (Err r) = tt

  pub row_fine : Fine (row_under v k p n s)
  unfolding row_under
  row_fine = by_limit (leb (length s) (row_limit_of v))
    where
      by_limit : (x : Bool) → Fine (cond x (body_then (λ c at. named (says v k p n s c) (ended true (length s) (segment_at s at))) (body_at v s)) (no_seg 25))
      by_limit true = by_body (body_at v s)
      by_limit false = tt
