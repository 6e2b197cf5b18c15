-- Laws of a page while it is filled: one number more, a list more, and the page that is left.
use Prim.Native.Nat.{ℕ, zero, suc, ◌+◌, ◌-◌, ◌≤◌, ◌<◌}
use mathlib.Core.Path.{◌≡◌, refl, sym, ap, ◌∙◌}
use mathlib.Core.Bool.{true, false}
use mathlib.Core.List.{List, [], ◌∷◌, ◌++◌, append_assoc, append-nil}
use native.Mathlib.Omega.{arith}
use native.Mathlib.Numerals.{add-one}
use lib.Dec.{ltb}
use borrow.Author.Tests.{lt-ltb}
use lib.IntN.{ℤ, pos, negsuc, nat_abs}
use native.Mathlib.Nat.{sub-zero}
use lib.ListN.{length, take, drop, set, get_or, replicate, take-append-drop, length-set}
use lib.Seq.{slice, slice-cons, slice_empty, take-suc-set, drop-set-lt, drop-drop, take-nil, drop-nil, length-take-le}
use Rattle.signed.specs.Sign.{is_negative}
use Rattle.entries.specs.Tally.{is_above}
use Rattle.entries.specs.Unspent.{unspent_newest_first, stretch, page_places}
use Rattle.entries.proofs.UnspentLaws.{newest_append, newest_none, newest_one}
use Rattle.page_entries.specs.declared.Filling.{Filling}
use Rattle.page_entries.specs.Internal.{page_with, Ready, Filled}

-- ---- above 0

pub not_above : (z : ℤ) → is_negative z ≡ true → is_above z ≡ false
not_above z e = rw e

pub above_by_size : (z : ℤ) → is_negative z ≡ false → ltb 0 (nat_abs z) ≡ is_above z
above_by_size (pos zero) e = refl
above_by_size (pos (suc n)) e = lt-ltb 0 (suc n) (omega arith)
above_by_size (negsuc n) e = let z : ◌≡◌ {A = ℕ} 0 1 = cc in absurd (omega arith)

-- ---- one number more

module _ (wanted : ℕ) (f : Filling) (page : List ℤ) (r : Ready wanted f page) (x : ℤ) where
  pub one_passed : is_above x ≡ false → Filled wanted (unspent_newest_first (x ∷ [])) f page f page
  one_passed e = rw (newest_one x, e) (record { ready = r; same = λ older. refl })

  pub one_skipped : is_above x ≡ true → (s : ℕ) → f.skip ≡ suc s
      → Filled wanted (unspent_newest_first (x ∷ [])) f page (record { skip = s; put = f.put }) page
  one_skipped e s h =
      rw (newest_one x, e)
      (record {
        ready = record { long = r.long; few = r.few; within = r.within; blank = r.blank };
        same = λ older. ap (λ (k : ℕ). take f.put page ++ stretch k (wanted - f.put) (x ∷ older)) (sym h);
      })

  pub one_too_many : is_above x ≡ true → wanted ≤ f.put → Filled wanted (unspent_newest_first (x ∷ [])) f page f page
  one_too_many e h =
      let z : wanted - f.put ≡ 0 = omega arith in
      rw (newest_one x, e) (record { ready = r; same = λ older. rw z })

  pub one_put : is_above x ≡ true → f.skip ≡ 0 → f.put < wanted → (y : ℤ) → y ≡ x
      → Filled wanted (unspent_newest_first (x ∷ [])) f page (record { skip = f.skip; put = f.put + 1 }) (set page f.put y)
  one_put e s h y t =
      let n = f.put in
      let a : wanted - n ≡ suc (wanted - (n + 1)) = omega arith in
      let b : 64 - n ≡ suc (64 - (n + 1)) = omega (arith, r.few) in
      rw (newest_one x, e, t)
      (record {
        ready = record {
          long = length-set page n x ∙ r.long;
          few = r.few;
          within = omega arith;
          blank = drop-set-lt (n + 1) page n x (omega arith) ∙ sym (drop-drop 1 n page) ∙ ap (drop 1) (r.blank ∙ ap (λ (k : ℕ). replicate k (pos 0)) b);
        };
        same = λ older.
            ap (λ (k : ℕ). take k (set page n x) ++ stretch f.skip (wanted - (n + 1)) older) (add-one n)
            ∙ ap (λ (l : List ℤ). l ++ stretch f.skip (wanted - (n + 1)) older) (take-suc-set page n x (omega (arith, r.few, r.long)))
            ∙ append_assoc (take n page) (x ∷ []) (stretch f.skip (wanted - (n + 1)) older)
            ∙ ap (λ (k : ℕ). take n page ++ x ∷ stretch k (wanted - (n + 1)) older) s
            ∙ ap (λ (k : ℕ). take n page ++ take k (x ∷ older)) (sym a)
            ∙ ap (λ (k : ℕ). take n page ++ stretch k (wanted - n) (x ∷ older)) (sym s);
      })

-- ---- a list more

pub filled_none : (wanted : ℕ) (f : Filling) (page : List ℤ) → Ready wanted f page → Filled wanted [] f page f page
filled_none wanted f page r = record { ready = r; same = λ older. refl }

-- a full page takes no more
pub filled_full : (wanted : ℕ) (f : Filling) (page : List ℤ) → Ready wanted f page → wanted ≤ f.put → (zs : List ℤ) → Filled wanted zs f page f page
filled_full wanted f page r h zs = let z : wanted - f.put ≡ 0 = omega arith in record { ready = r; same = λ older. rw z }

pub filled_then : (wanted : ℕ) (zs ys : List ℤ) (f f' f'' : Filling) (p p' p'' : List ℤ) → Filled wanted zs f p f' p' → Filled wanted ys f' p' f'' p'' → Filled wanted (zs ++ ys) f p f'' p''
filled_then wanted zs ys f f' f'' p p' p'' a b =
    record {
      ready = b.ready;
      same = λ older. b.same older ∙ a.same (ys ++ older) ∙ ap (page_with wanted f p) (sym (append_assoc zs ys older));
    }

-- a turn of the loop: the numbers from i on are in the page
module _ (wanted : ℕ) (xs : List ℤ) (n : ℕ) (f : Filling) (p : List ℤ) where
  abbrev pub From : (i : ℕ) → Filling → List ℤ → Type 0
  From i f' p' = Filled wanted (unspent_newest_first (slice i n xs)) f p f' p'

  pub from_end : (i : ℕ) → i ≡ n → Ready wanted f p → From i f p
  from_end i e r = rw (e, slice_empty n xs, newest_none) (filled_none wanted f p r)

  pub from_turn : (i j : ℕ) → i ≡ suc j → i ≤ n → n ≤ length xs → (f' f'' : Filling) (p' p'' : List ℤ) → From i f' p'
      → Filled wanted (unspent_newest_first (get_or xs j (pos 0) ∷ [])) f' p' f'' p'' → From j f'' p''
  from_turn i j e h k f' f'' p' p'' a b =
      let x = get_or xs j (pos 0) in
      let s : slice j n xs ≡ x ∷ slice i n xs = slice-cons j n xs (pos 0) (omega arith) k ∙ ap (λ (m : ℕ). x ∷ slice m n xs) (sym e) in
      let q : unspent_newest_first (slice j n xs) ≡ unspent_newest_first (slice i n xs) ++ unspent_newest_first (x ∷ []) = ap unspent_newest_first s ∙ newest_append (x ∷ []) (slice i n xs) in
      rw q (filled_then wanted _ _ f f' f'' p p' p'' a b)

  pub from_all : (i : ℕ) → i ≡ 0 → (f' : Filling) (p' : List ℤ) → From i f' p' → Filled wanted (unspent_newest_first (take n xs)) f p f' p'
  from_all i e f' p' a = rw e at a

-- ---- the page that is left

module _ (offset wanted : ℕ) (zs : List ℤ) (f : Filling) (p : List ℤ) (h : Filled wanted zs (record { skip = offset; put = 0 }) (replicate 64 (pos 0)) f p) where
  numbers_are : take f.put p ≡ stretch offset wanted zs
  numbers_are =
      sym (append-nil (take f.put p))
      ∙ ap (λ (l : List ℤ). take f.put p ++ l) (sym (ap (take (wanted - f.put)) (drop-nil f.skip) ∙ take-nil (wanted - f.put)))
      ∙ h.same []
      ∙ ap (λ (k : ℕ). take k (drop offset (zs ++ []))) (sub-zero wanted)
      ∙ ap (stretch offset wanted) (append-nil zs)

  pub count_is : f.put ≡ length (stretch offset wanted zs)
  count_is = sym (length-take-le f.put p (omega (arith, h.ready.few, h.ready.within, h.ready.long))) ∙ ap length numbers_are

  pub page_is : p ≡ stretch offset wanted zs ++ replicate (page_places - length (stretch offset wanted zs)) (pos 0)
  page_is =
      sym (take-append-drop f.put p)
      ∙ (λ i. numbers_are i ++ h.ready.blank i)
      ∙ ap (λ (k : ℕ). stretch offset wanted zs ++ replicate (64 - k) (pos 0)) count_is
