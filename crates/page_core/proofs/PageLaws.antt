-- Laws of a page's rows: what a row puts, a turn of the loop and each way out of it, what the checks tell, and the page that is left.
use Prim.Native.Nat.{ℕ, zero, suc, ◌+◌, ◌-◌, ◌≤◌}
use mathlib.Core.Path.{◌≡◌, refl, sym, ap, ◌∙◌}
use mathlib.Core.List.{List, ◌++◌, append_assoc}
use native.Mathlib.Omega.{arith}
use native.Mathlib.Nat.{sub-zero}
use lib.IntN.{ℤ, pos}
use lib.ListN.{take, replicate}
use Rattle.stores.specs.Stores.{write}
use Rattle.entries.specs.Unspent.{unspent_newest_first, stretch}
use Rattle.entries.proofs.UnspentLaws.{newest_append, newest_none}
use Rattle.std.specs.Prelude.{Ok, Err}
use Rattle.buffer_core.specs.Edition.{RowRead, good, bad}
use Rattle.buffer_core.specs.Rows.{then_rows, rows_up}
use Rattle.buffer_core.specs.Page.{Paging, paging, put_page, page_over}
use Rattle.spill_rows.specs.Answers.{Read}
use Rattle.spill_rows.specs.Internal.{CheckedInto, read_of}
use Rattle.spill_rows.proofs.CheckedLaws.{nope, faulty}
use Rattle.page_entries.specs.declared.Filling.{Filling}
use Rattle.page_entries.specs.Internal.{Ready, Filled}
use Rattle.page_entries.proofs.FillLaws.{filled_none, filled_full, filled_then, count_is, page_is}
use Rattle.page_core.specs.Internal.{numbers_in, rows_flat}

-- ---- one row

pub row_put : (x : RowRead) (r : Read) (out : List ℤ) → CheckedInto x r out → r ≡ (Ok tt) → take 512 out ≡ out
    → (wanted : ℕ) (f f' : Filling) (p p' : List ℤ) → Filled wanted (unspent_newest_first (take 512 out)) f p f' p' → Filled wanted (unspent_newest_first (numbers_in x)) f p f' p'
row_put x r out c e q wanted f f' p p' h = rw (ap numbers_in (c.numbers e) ∙ sym q) h

pub row_none : (x : RowRead) (r : Read) (out : List ℤ) → CheckedInto x r out → (code : ℕ) → r ≡ Err code
    → (wanted : ℕ) (f : Filling) (page : List ℤ) → Ready wanted f page → Filled wanted (unspent_newest_first (numbers_in x)) f page f page
row_none x r out c code e wanted f page h = rw (faulty x r out c code e, newest_none) (filled_none wanted f page h)

-- ---- the rows, from the newest down: those from n on are in the page

module _ (g : ℕ → RowRead) (spills wanted : ℕ) (f : Filling) (p : List ℤ) where
  abbrev pub Down : (n : ℕ) → Filling → List ℤ → Type 0
  Down n f' p' = Filled wanted (unspent_newest_first (rows_flat g n (spills - n))) f p f' p'

  pub down_start : Ready wanted f p → Down spills f p
  unfolding rows_flat
  down_start r =
      let z : spills - spills ≡ 0 = omega arith in
      rw (z, newest_none) (filled_none wanted f p r)

  pub down_turn : (n m : ℕ) → n ≡ m + 1 → n ≤ spills → (f' f'' : Filling) (p' p'' : List ℤ) → Down n f' p'
      → Filled wanted (unspent_newest_first (numbers_in (g m))) f' p' f'' p'' → Down m f'' p''
  unfolding rows_flat
  down_turn n m e h f' f'' p' p'' a b =
      let k : spills - m ≡ suc (spills - n) = omega arith in
      let s : rows_flat g m (spills - m) ≡ numbers_in (g m) ++ rows_flat g n (spills - n)
      = ap (rows_flat g m) k ∙ ap (λ (i : ℕ). numbers_in (g m) ++ rows_flat g i (spills - n)) (sym e) in
      let q = ap unspent_newest_first s ∙ newest_append (numbers_in (g m)) (rows_flat g n (spills - n)) in
      rw q (filled_then wanted _ _ f f' f'' p p' p'' a b)

  pub down_end : (n : ℕ) → n ≡ 0 → (f' : Filling) (p' : List ℤ) → Down n f' p' → Filled wanted (unspent_newest_first (rows_flat g 0 spills)) f p f' p'
  down_end n e f' p' a =
      let q : rows_flat g n (spills - n) ≡ rows_flat g 0 spills = ap (λ (i : ℕ). rows_flat g i (spills - i)) e ∙ ap (rows_flat g 0) (sub-zero spills) in
      rw q at a

flat_split : (g : ℕ → RowRead) (n k l : ℕ) → rows_flat g n (k + l) ≡ rows_flat g n k ++ rows_flat g (n + k) l
unfolding rows_flat
flat_split g n zero l =
    let a : 0 + l ≡ l = omega arith in
    let b : n ≡ n + 0 = omega arith in
    ap (rows_flat g n) a ∙ ap (λ (i : ℕ). rows_flat g i l) b
flat_split g n (suc k) l =
    let a : suc k + l ≡ suc (k + l) = omega arith in
    let b : n + 1 + k ≡ n + suc k = omega arith in
    ap (rows_flat g n) a
    ∙ ap (λ (zs : List ℤ). numbers_in (g n) ++ zs) (flat_split g (n + 1) k l ∙ ap (λ (i : ℕ). rows_flat g (n + 1) k ++ rows_flat g i l) b)
    ∙ sym (append_assoc (numbers_in (g n)) (rows_flat g (n + 1) k) (rows_flat g (n + suc k) l))

-- a full page needs none of the older rows
pub down_full : (g : ℕ → RowRead) (spills wanted : ℕ) (f : Filling) (p : List ℤ) (n : ℕ) → n ≤ spills → (f' : Filling) (p' : List ℤ)
    → Filled wanted (unspent_newest_first (rows_flat g n (spills - n))) f p f' p' → wanted ≤ f'.put
    → Filled wanted (unspent_newest_first (rows_flat g 0 spills)) f p f' p'
down_full g spills wanted f p n h f' p' a full =
    let k : spills ≡ n + (spills - n) = omega arith in
    let z : 0 + n ≡ n = omega arith in
    let s : rows_flat g 0 spills ≡ rows_flat g 0 n ++ rows_flat g n (spills - n)
    = ap (rows_flat g 0) k ∙ flat_split g 0 n (spills - n) ∙ ap (λ (i : ℕ). rows_flat g 0 n ++ rows_flat g i (spills - n)) z in
    let q = ap unspent_newest_first s ∙ newest_append (rows_flat g 0 n) (rows_flat g n (spills - n)) in
    rw q (filled_then wanted _ _ f f' f' p p' p' a (filled_full wanted f' p' a.ready full (unspent_newest_first (rows_flat g 0 n))))

-- ---- what the checks tell

-- rows that pass are the rows as one list
pub flat_good : (g : ℕ → RowRead) (n k : ℕ) (zs : List ℤ) → rows_up g n k ≡ good zs → rows_flat g n k ≡ zs
unfolding rows_flat rows_up
flat_good g n zero zs e = cc
flat_good g n (suc k) zs e = by_rows (g n) (rows_up g (n + 1) k) (λ ws q. flat_good g (n + 1) k ws q) e
  where
    by_rows : (x y : RowRead) → ((ws : List ℤ) → y ≡ good ws → rows_flat g (n + 1) k ≡ ws) → then_rows x y ≡ good zs → numbers_in x ++ rows_flat g (n + 1) k ≡ zs
    by_rows (bad code) y rest q = nope (cc)
    by_rows (good ys) (bad code) rest q = nope (cc)
    by_rows (good ys) (good ws) rest q = let d : ys ++ ws ≡ zs = cc in ap (λ (l : List ℤ). ys ++ l) (rest ws refl) ∙ d

-- ---- the page

-- rows, and the head in front of them
pub page_left : (offset wanted : ℕ) (rows zs : List ℤ) (f f' : Filling) (p p' out : List ℤ)
    → Filled wanted (unspent_newest_first zs) (record { skip = offset; put = 0 }) (replicate 64 (pos 0)) f p → Filled wanted (unspent_newest_first rows) f p f' p'
    → (o : List ℤ) → o ≡ write 0 p' out
    → paging (Ok f'.put) o ≡ put_page (stretch offset wanted (unspent_newest_first (rows ++ zs))) out
page_left offset wanted rows zs f f' p p' out a b o e =
    let h : Filled wanted (unspent_newest_first (rows ++ zs)) (record { skip = offset; put = 0 }) (replicate 64 (pos 0)) f' p'
    = rw (newest_append rows zs) (filled_then wanted _ _ (record { skip = offset; put = 0 }) f f' (replicate 64 (pos 0)) p p' a b) in
    let c = count_is offset wanted (unspent_newest_first (rows ++ zs)) f' p' h in
    let q = page_is offset wanted (unspent_newest_first (rows ++ zs)) f' p' h in
    (λ i. paging (Ok (c i)) ((e ∙ ap (λ (l : List ℤ). write 0 l out) q) i))

pub page_good : (g : ℕ → RowRead) (k : ℕ) (zs : List ℤ) (offset n : ℕ) (out : List ℤ) (o : Paging) → (Ok tt) ≡ read_of (rows_up g 0 k)
    → o ≡ put_page (stretch offset n (unspent_newest_first (rows_flat g 0 k ++ zs))) out → o ≡ page_over (rows_up g 0 k) zs offset n out
page_good g k zs offset n out o e q = q ∙ by_rows (rows_up g 0 k) refl e
  where
    by_rows : (x : RowRead) → rows_up g 0 k ≡ x → (Ok tt) ≡ read_of x
        → put_page (stretch offset n (unspent_newest_first (rows_flat g 0 k ++ zs))) out ≡ page_over x zs offset n out
    by_rows (good rows) r e = ap (λ (l : List ℤ). put_page (stretch offset n (unspent_newest_first (l ++ zs))) out) (flat_good g 0 k rows r)
    by_rows (bad code) r e = nope (cc)

pub page_bad : (x : RowRead) (zs : List ℤ) (offset n : ℕ) (out : List ℤ) (code : ℕ) → Err code ≡ read_of x → paging (Err code) out ≡ page_over x zs offset n out
page_bad (good rows) zs offset n out code e = nope (cc)
page_bad (bad d) zs offset n out code e = let z : code ≡ d = cc in ap (λ (c : ℕ). paging (Err c) out) z
