-- Laws of a list of at most five calls: none, one more, one less, and how many of a kind there are.
use Prim.Native.Nat.{ℕ, zero, suc, ◌+◌, ◌-◌, ◌≤◌, ◌<◌}
use mathlib.Core.Path.{◌≡◌, refl, sym, ap, ◌∙◌}
use mathlib.Core.Bool.{Bool, true, false, cond}
use mathlib.Core.List.{List, [], ◌∷◌}
use native.Mathlib.Omega.{arith}
use lib.Dec.{eqb, ltb}
use lib.ListN.{length, get_or, take, length-take}
use borrow.Author.Tests.{lt-ltb, le-ltb, eq-eqb, ne_eqb}
use Rattle.history_steps.specs.declared.Rank.{Rank}
use Rattle.history_steps.specs.declared.Rank.TheVariants.{Flush}
use Rattle.history_steps.specs.declared.RankList.{RankList}
use Rattle.history_steps.specs.Ranks.{ranks, number, ranks_in}
use Rattle.history_steps.specs.Legal.{count, some, before}

-- the first n of five
module _ (a b c d e : Rank) where
  pub one_more : (k : Rank) (n : ℕ) → n ≤ 4 → take (n + 1) (k ∷ a ∷ b ∷ c ∷ d ∷ []) ≡ k ∷ take n (a ∷ b ∷ c ∷ d ∷ e ∷ [])
  one_more k zero h = refl
  one_more k (suc zero) h = refl
  one_more k (suc (suc zero)) h = refl
  one_more k (suc (suc (suc zero))) h = refl
  one_more k (suc (suc (suc (suc zero)))) h = refl
  one_more k (suc (suc (suc (suc (suc n))))) h = absurd (omega arith)

  -- all but the first of them
  pub one_less : (z : Rank) (n : ℕ) → 0 < n → n ≤ 5 → take n (a ∷ b ∷ c ∷ d ∷ e ∷ []) ≡ a ∷ take (n - 1) (b ∷ c ∷ d ∷ e ∷ z ∷ [])
  one_less z zero g h = absurd (omega arith)
  one_less z (suc zero) g h = refl
  one_less z (suc (suc zero)) g h = refl
  one_less z (suc (suc (suc zero))) g h = refl
  one_less z (suc (suc (suc (suc zero)))) g h = refl
  one_less z (suc (suc (suc (suc (suc zero))))) g h = refl
  one_less z (suc (suc (suc (suc (suc (suc n)))))) g h = absurd (omega arith)

module _ (l : RankList) where
  pub no_ranks : l.len ≡ 0 → ranks_in l ≡ []
  no_ranks e = ap (λ (n : ℕ). take n (l.a ∷ l.b ∷ l.c ∷ l.d ∷ l.e ∷ [])) e

  -- the newest call, and those before it
  pub newest_first : 0 < l.len → l.len ≤ 5 → ranks_in l ≡ l.a ∷ before (ranks_in l)
  newest_first g h = let e = one_less l.a l.b l.c l.d l.e l.e l.len g h in e ∙ ap (λ (js : List Rank). l.a ∷ before js) (sym e)

  pub length_ranks : length (ranks_in l) ≤ l.len
  length_ranks = omega (arith, length-take l.len (l.a ∷ l.b ∷ l.c ∷ l.d ∷ l.e ∷ []))

  pub length_all : l.len ≤ 5 → length (ranks_in l) ≡ l.len
  length_all h = omega (arith, length-take l.len (l.a ∷ l.b ∷ l.c ∷ l.d ∷ l.e ∷ []))

  pub some_ranks : l.len ≤ 5 → ltb 0 l.len ≡ some (ranks_in l)
  some_ranks h = by l.len refl
    where
      by : (n : ℕ) → l.len ≡ n → ltb 0 l.len ≡ some (ranks_in l)
      by zero e = le-ltb 0 l.len (omega arith) ∙ sym (ap some (no_ranks e))
      by (suc n) e = lt-ltb 0 l.len (omega arith) ∙ sym (ap some (newest_first (omega arith) h))

-- the last of the ranks, and none behind it
pub last_rank : (i : ℕ) → 5 ≤ i → Flush ≡ get_or ranks i Flush
last_rank zero h = absurd (omega arith)
last_rank (suc zero) h = absurd (omega arith)
last_rank (suc (suc zero)) h = absurd (omega arith)
last_rank (suc (suc (suc zero))) h = absurd (omega arith)
last_rank (suc (suc (suc (suc zero)))) h = absurd (omega arith)
last_rank (suc (suc (suc (suc (suc zero))))) h = refl
last_rank (suc (suc (suc (suc (suc (suc i)))))) h = refl

-- ---- how many

one_counted : (t : Bool) (m n : ℕ) → m ≤ n → cond t (m + 1) m ≤ suc n
one_counted true m n h = omega arith
one_counted false m n h = omega arith

pub most_counted : (k : Rank) (js : List Rank) → count k js ≤ length js
unfolding count
most_counted k [] = omega arith
most_counted k (j ∷ js) = one_counted (eqb (number j) (number k)) (count k js) (length js) (most_counted k js)

pub counted_none : (k : Rank) (l : RankList) → l.len ≡ 0 → 0 ≡ count k (ranks_in l)
unfolding count
counted_none k l e = sym (ap (count k) (no_ranks l e))

-- n of the calls before the newest are k
module _ (k : Rank) (l : RankList) (g : 0 < l.len) (h : l.len ≤ 5) (n : ℕ) (e : n ≡ count k (before (ranks_in l))) where
  counted : count k (ranks_in l) ≡ cond (eqb (number l.a) (number k)) (n + 1) n
  unfolding count
  counted = ap (count k) (newest_first l g h) ∙ ap (λ (m : ℕ). cond (eqb (number l.a) (number k)) (m + 1) m) (sym e)

  pub counted_same : number l.a ≡ number k → n + 1 ≡ count k (ranks_in l)
  counted_same q = sym (counted ∙ ap (λ (t : Bool). cond t (n + 1) n) (eq-eqb (number l.a) (number k) q))

  pub counted_other : (number l.a ≡ number k → ⊥) → n ≡ count k (ranks_in l)
  counted_other q = sym (counted ∙ ap (λ (t : Bool). cond t (n + 1) n) (ne_eqb (number l.a) (number k) q))
