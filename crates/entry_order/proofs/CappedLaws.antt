-- Absolute values that never fall are all below 2^63 if the last one is.
use mathlib.Core.Path.{◌≡◌, refl, sym, ap, ◌∙◌}
use mathlib.Core.Bool.{Bool, true, false, not, ◌&&◌, ◌||◌}
use mathlib.Core.List.{List, [], ◌∷◌, map}
use Prim.Native.Nat.{ℕ, zero, suc, ◌+◌, ◌*◌, ◌≤◌, ◌<◌}
use native.Mathlib.Omega.{arith}
use borrow.Author.Tests.{ltb-true, ltb-false, leb-true, le-leb, lt-leb, lt-ltb, le-ltb}
use lib.Dec.{leb, ltb}
use lib.IntN.{ℤ, pos, nat_abs}
use lib.ListN.{length, take, drop, get_or, drop_of_length-le}
use lib.Seq.{drop-cons, drop-drop, get_or-take, get_or-drop}
use Rattle.std.specs.Simd.{first_chunks}
use Rattle.entries.specs.Order.{ordered}

abbrev limit : ℕ
limit = 9223372036854775808

-- each is at least the one before it, and the last is below 2^63
abbrev pub capped : ℕ → List ℕ → Bool
capped lo [] = ltb lo limit
capped lo (a ∷ rest) = leb lo a && capped a rest

capped_over : (a : ℕ) (l : List ℕ) → limit ≤ a → capped a l ≡ false
capped_over a [] h = le-ltb a limit h
capped_over a (b ∷ l) h = by (leb a b) refl (λ e. capped_over b l (omega (arith, leb-true a b e, h)))
  where
    by : (w : Bool) → leb a b ≡ w → (leb a b ≡ true → capped b l ≡ false) → w && capped b l ≡ false
    by true e f = f e
    by false e f = refl

pub ordered_capped : (lo : ℕ) (l : List ℕ) → lo < limit → ordered lo l ≡ capped lo l
ordered_capped lo [] h = sym (lt-ltb lo limit h)
ordered_capped lo (a ∷ l) h = ap (λ (w : Bool). leb lo a && w) (by (ltb a limit) refl (λ e. ordered_capped a l (ltb-true a limit e)))
  where
    by : (w : Bool) → ltb a limit ≡ w → (ltb a limit ≡ true → ordered a l ≡ capped a l) → w && ordered a l ≡ capped a l
    by true e f = f e
    by false e f = sym (capped_over a l (ltb-false a limit e))

-- ---- a turn over one entry
pub capped_step : (zs : List ℤ) (i j lo a : ℕ) → i < length zs → j ≡ i + 1 → a ≡ nat_abs (get_or zs i (pos 0))
    → capped lo (map nat_abs (drop i zs)) ≡ leb lo a && capped a (map nat_abs (drop j zs))
capped_step zs i j lo a h q e =
    let n : j ≡ suc i = omega arith in
    ap (λ (l : List ℤ). capped lo (map nat_abs l)) (drop-cons zs i (pos 0) h)
    ∙ (λ t. leb lo (sym e t) && capped (sym e t) (map nat_abs (drop (sym n t) zs)))

pub capped_end : (zs : List ℤ) (i lo : ℕ) → length zs ≤ i → capped lo (map nat_abs (drop i zs)) ≡ ltb lo limit
capped_end zs i lo h = ap (λ (l : List ℤ). capped lo (map nat_abs l)) (drop_of_length-le zs h)

-- ---- a turn over four
not_below : (a b : ℕ) → leb a b ≡ not (ltb b a)
not_below a b = by (ltb b a) refl
  where
    by : (w : Bool) → ltb b a ≡ w → leb a b ≡ not w
    by true e = lt-leb a b (ltb-true b a e)
    by false e = le-leb a b (ltb-false b a e)

falls : (p q r s rest : Bool) → p || (q || (r || s)) ≡ true → not p && (not q && (not r && (not s && rest))) ≡ false
falls true q r s rest e = refl
falls false true r s rest e = refl
falls false false true s rest e = refl
falls false false false true rest e = refl
falls false false false false rest e = absurd (let z : ◌≡◌ {A = ℕ} 0 1 = cc in omega arith)

rises : (p q r s rest : Bool) → p || (q || (r || s)) ≡ false → not p && (not q && (not r && (not s && rest))) ≡ rest
rises true q r s rest e = absurd (let z : ◌≡◌ {A = ℕ} 0 1 = cc in omega arith)
rises false true r s rest e = absurd (let z : ◌≡◌ {A = ℕ} 0 1 = cc in omega arith)
rises false false true s rest e = absurd (let z : ◌≡◌ {A = ℕ} 0 1 = cc in omega arith)
rises false false false true rest e = absurd (let z : ◌≡◌ {A = ℕ} 0 1 = cc in omega arith)
rises false false false false rest e = refl

module _ (zs : List ℤ) (i lo a b c d : ℕ) (h : i + 4 ≤ length zs)
    (ea : a ≡ nat_abs (get_or zs i (pos 0))) (eb : b ≡ nat_abs (get_or zs (i + 1) (pos 0))) (ec : c ≡ nat_abs (get_or zs (i + 2) (pos 0))) (ed : d ≡ nat_abs (get_or zs (i + 3) (pos 0))) where
  abbrev others : Bool
  others = capped d (map nat_abs (drop (i + 4) zs))

  four : capped lo (map nat_abs (drop i zs)) ≡ not (ltb a lo) && (not (ltb b a) && (not (ltb c b) && (not (ltb d c) && others)))
  four =
      capped_step zs i (i + 1) lo a (omega (arith, h)) refl ea
      ∙ ap (λ (w : Bool). leb lo a && w) (capped_step zs (i + 1) (i + 2) a b (omega (arith, h)) (omega arith) eb)
      ∙ ap (λ (w : Bool). leb lo a && (leb a b && w)) (capped_step zs (i + 2) (i + 3) b c (omega (arith, h)) (omega arith) ec)
      ∙ ap (λ (w : Bool). leb lo a && (leb a b && (leb b c && w))) (capped_step zs (i + 3) (i + 4) c d (omega (arith, h)) (omega arith) ed)
      ∙ (λ t. not_below lo a t && (not_below a b t && (not_below b c t && (not_below c d t && others))))

  pub four_falls : ltb a lo || (ltb b a || (ltb c b || ltb d c)) ≡ true → capped lo (map nat_abs (drop i zs)) ≡ false
  four_falls e = four ∙ falls (ltb a lo) (ltb b a) (ltb c b) (ltb d c) others e

  pub four_rises : ltb a lo || (ltb b a || (ltb c b || ltb d c)) ≡ false → capped lo (map nat_abs (drop i zs)) ≡ others
  four_rises e = four ∙ rises (ltb a lo) (ltb b a) (ltb c b) (ltb d c) others e

-- ---- a list in parts of four
part_at : (k i : ℕ) (zs : List ℤ) → i < k → get_or (first_chunks 4 k zs) i [] ≡ take 4 (drop (i * 4) zs)
part_at zero i zs h = absurd (omega arith)
part_at (suc k) zero zs h = refl
part_at (suc k) (suc i) zs h = part_at k i (drop 4 zs) (omega arith) ∙ ap (take 4) (drop-drop (i * 4) 4 zs ∙ ap (λ (m : ℕ). drop m zs) (omega arith))

pub number_at : (fours : List (List ℤ)) (k i j m : ℕ) (zs : List ℤ) → fours ≡ first_chunks 4 k zs → i < k → j < 4 → i * 4 + j ≡ m
    → get_or (get_or fours i []) j (pos 0) ≡ get_or zs m (pos 0)
number_at fours k i j m zs e h l q =
    ap (λ (f : List (List ℤ)). get_or (get_or f i []) j (pos 0)) e
    ∙ ap (λ (f : List ℤ). get_or f j (pos 0)) (part_at k i zs h)
    ∙ get_or-take 4 (drop (i * 4) zs) j (pos 0) l
    ∙ get_or-drop (i * 4) zs j (pos 0)
    ∙ ap (λ (p : ℕ). get_or zs p (pos 0)) q
