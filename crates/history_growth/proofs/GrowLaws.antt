-- Laws of the listing: what the histories that go on from some calls are, one rank after the other.
use Prim.Native.Nat.{ℕ, zero, suc, ◌+◌, ◌-◌, ◌≤◌, ◌<◌}
use mathlib.Core.Path.{◌≡◌, refl, sym, ap, ◌∙◌}
use mathlib.Core.Bool.{Bool, true, false, cond, ◌&&◌}
use mathlib.Core.List.{List, [], ◌∷◌, ◌++◌, map, append_assoc, append-nil}
use native.Mathlib.Numerals.{add-one}
use native.Mathlib.Omega.{arith}
use lib.ListN.{length, drop, get_or, length-append, length-map, drop_of_length-le}
use lib.Seq.{drop-cons}
use Rattle.history_steps.specs.declared.Rank.{Rank}
use Rattle.history_steps.specs.declared.Rank.TheVariants.{Flush}
use Rattle.history_steps.specs.declared.RankList.{RankList}
use Rattle.history_steps.specs.Ranks.{ranks, number, ranks_in}
use Rattle.history_steps.specs.Legal.{before, may, stood, legal_from}
use Rattle.history_steps.proofs.ListLaws.{no_ranks, newest_first, length_ranks, length_all}
use Rattle.history_growth.specs.Listing.{each_before, lists_of, lists_up_to, only_legal, histories_up_to, bytes_of}
use Rattle.history_growth.specs.Internal.{oldest_first, lists_from, going_on}

abbrev Lists : Type 0
Lists = List (List Rank)

-- ---- maps

pub map_append : {A B : Type 0} (f : A → B) (a b : List A) → map f (a ++ b) ≡ map f a ++ map f b
map_append f [] b = refl
map_append f (x ∷ a) b = ap (λ l. f x ∷ l) (map_append f a b)

map_same : {A : Type 0} (f : A → A) → ((x : A) → f x ≡ x) → (l : List A) → map f l ≡ l
map_same f h [] = refl
map_same f h (x ∷ l) = λ i. h x i ∷ map_same f h l i

map_cond : {A B : Type 0} (f : A → B) (t : Bool) (a : List A) → map f (cond t a []) ≡ cond t (map f a) []
map_cond f true a = refl
map_cond f false a = refl

-- ---- bytes

pub bytes_append : (a b : Lists) → bytes_of (a ++ b) ≡ bytes_of a ++ bytes_of b
unfolding bytes_of
bytes_append [] b = refl
bytes_append (ks ∷ a) b = ap (λ (l : List ℕ). (length ks ∷ map number ks) ++ l) (bytes_append a b) ∙ sym (append_assoc (length ks ∷ map number ks) (bytes_of a) (bytes_of b))

-- ---- the legal ones

legal_both : (t : Bool) (ks : List Rank) (a b : Lists) → cond t (ks ∷ (a ++ b)) (a ++ b) ≡ cond t (ks ∷ a) a ++ b
legal_both true ks a b = refl
legal_both false ks a b = refl

module _ (js : List Rank) (last : Rank) where
  legal_append : (a b : Lists) → only_legal js last (a ++ b) ≡ only_legal js last a ++ only_legal js last b
  unfolding only_legal
  legal_append [] b = refl
  legal_append (ks ∷ a) b =
      ap (λ (l : Lists). cond (legal_from js last ks) (ks ∷ l) l) (legal_append a b)
      ∙ legal_both (legal_from js last ks) ks (only_legal js last a) (only_legal js last b)

  -- the lists that start by k: all that may follow it, or none
  module _ (k : Rank) where
    either : (t u : Bool) (ks : List Rank) (l : Lists)
        → cond (t && u) ((k ∷ ks) ∷ cond t (map (λ x. k ∷ x) l) []) (cond t (map (λ x. k ∷ x) l) []) ≡ cond t (map (λ x. k ∷ x) (cond u (ks ∷ l) l)) []
    either true true ks l = refl
    either true false ks l = refl
    either false u ks l = refl

    legal_start : (ls : Lists) → only_legal js last (map (λ ks. k ∷ ks) ls) ≡ cond (may k js last) (map (λ ks. k ∷ ks) (only_legal (stood k js) k ls)) []
    unfolding only_legal legal_from
    legal_start [] = nothing (may k js last)
      where
        nothing : (t : Bool) → ◌≡◌ {A = Lists} [] (cond t [] [])
        nothing true = refl
        nothing false = refl
    legal_start (ks ∷ ls) =
        ap (λ (l : Lists). cond (may k js last && legal_from (stood k js) k ks) ((k ∷ ks) ∷ l) l) (legal_start ls)
        ∙ either (may k js last) (legal_from (stood k js) k ks) ks (only_legal (stood k js) k ls)

-- ---- the calls so far

pub length_oldest : (l : List Rank) → length (oldest_first l) ≡ length l
unfolding oldest_first
length_oldest [] = refl
length_oldest (k ∷ l) = length-append (oldest_first l) (k ∷ []) ∙ omega (arith, length_oldest l)

longer : (so_far : List Rank) (k : Rank) (ls : Lists) → map (λ ks. oldest_first so_far ++ ks) (map (λ ks. k ∷ ks) ls) ≡ map (λ ks. oldest_first (k ∷ so_far) ++ ks) ls
unfolding oldest_first
longer so_far k [] = refl
longer so_far k (ks ∷ ls) = λ i. sym (append_assoc (oldest_first so_far) (k ∷ []) ks) i ∷ longer so_far k ls i

-- ---- the histories that go on

less : (n : ℕ) → n ≡ suc n - 1
less n = omega arith

-- all lists of n calls start at place 0 or behind it
pub from_first : (n : ℕ) → lists_of n ≡ lists_from n 0
unfolding lists_of lists_from
from_first zero = refl
from_first (suc n) = refl

module _ (js : List Rank) (last : Rank) (so_far : List Rank) where
  -- no call is left
  pub going_none : (n i : ℕ) → n ≡ 0 → bytes_of (going_on n i js last so_far) ≡ bytes_of (oldest_first so_far ∷ [])
  unfolding lists_from only_legal legal_from
  going_none zero i e = ap (λ (ks : List Rank). bytes_of (ks ∷ [])) (append-nil (oldest_first so_far))
  going_none (suc n) i e = absurd (omega arith)

  -- no rank is left
  pub going_last : (n i : ℕ) → 0 < n → 6 ≤ i → bytes_of (going_on n i js last so_far) ≡ []
  unfolding lists_from each_before only_legal bytes_of
  going_last zero i g h = absurd (omega arith)
  going_last (suc n) i g h = ap (λ (ks : List Rank). bytes_of (map (λ x. oldest_first so_far ++ x) (only_legal js last (each_before ks (lists_of n))))) (drop_of_length-le ranks h)

  -- the call at place i, where it may come, and what goes on from it; then the later ones
  abbrev both_at : (n i : ℕ) → Rank → Lists
  both_at n i k = cond (may k js last) (going_on (n - 1) 0 (stood k js) k (k ∷ so_far)) [] ++ going_on n (i + 1) js last so_far

  going_both : (n i : ℕ) → 0 < n → i < 6 → going_on n i js last so_far ≡ both_at n i (get_or ranks i Flush)
  unfolding lists_from each_before
  going_both zero i g h = absurd (omega arith)
  going_both (suc n) i g h =
      let k = get_or ranks i Flush in
      let f : List Rank → List Rank = λ ks. oldest_first so_far ++ ks in
      let rest = each_before (drop (suc i) ranks) (lists_of n) in
      let first : only_legal js last (map (λ ks. k ∷ ks) (lists_of n) ++ rest) ≡ cond (may k js last) (map (λ ks. k ∷ ks) (only_legal (stood k js) k (lists_of n))) [] ++ only_legal js last rest
      = legal_append js last (map (λ ks. k ∷ ks) (lists_of n)) rest ∙ ap (λ (l : Lists). l ++ only_legal js last rest) (legal_start js last k (lists_of n)) in
      let then : map f (cond (may k js last) (map (λ ks. k ∷ ks) (only_legal (stood k js) k (lists_of n))) []) ≡ cond (may k js last) (going_on n 0 (stood k js) k (k ∷ so_far)) []
      = map_cond f (may k js last) (map (λ ks. k ∷ ks) (only_legal (stood k js) k (lists_of n)))
      ∙ ap (λ (l : Lists). cond (may k js last) l []) (longer so_far k (only_legal (stood k js) k (lists_of n)) ∙ ap (λ (l : Lists). map (λ ks. oldest_first (k ∷ so_far) ++ ks) (only_legal (stood k js) k l)) (from_first n)) in
      ap (λ (ks : List Rank). map f (only_legal js last (each_before ks (lists_of n)))) (drop-cons ranks i Flush h)
      ∙ ap (map f) first ∙ map_append f (cond (may k js last) (map (λ ks. k ∷ ks) (only_legal (stood k js) k (lists_of n))) []) (only_legal js last rest)
      ∙ (λ j. then j ++ map f (only_legal js last (each_before (drop (sym (add-one i) j) ranks) (lists_of n))))
      ∙ ap (λ (m : ℕ). cond (may k js last) (going_on m 0 (stood k js) k (k ∷ so_far)) [] ++ going_on (suc n) (i + 1) js last so_far) (less n)

  module _ (n i : ℕ) (g : 0 < n) (h : i < 6) (k : Rank) (e : k ≡ get_or ranks i Flush) where
    turned : may k js last ≡ true
        → bytes_of (going_on n i js last so_far) ≡ bytes_of (going_on (n - 1) 0 (stood k js) k (k ∷ so_far)) ++ bytes_of (going_on n (i + 1) js last so_far)
    turned t = ap bytes_of (going_both n i g h ∙ ap (both_at n i) (sym e)
        ∙ ap (λ (u : Bool). cond u (going_on (n - 1) 0 (stood k js) k (k ∷ so_far)) [] ++ going_on n (i + 1) js last so_far) t)
        ∙ bytes_append (going_on (n - 1) 0 (stood k js) k (k ∷ so_far)) (going_on n (i + 1) js last so_far)

    pub going_turn : may k js last ≡ true → (js' : List Rank) → js' ≡ stood k js → (so_far' : List Rank) → so_far' ≡ k ∷ so_far
        → bytes_of (going_on (n - 1) 0 js' k so_far') ++ bytes_of (going_on n (i + 1) js last so_far) ≡ bytes_of (going_on n i js last so_far)
    going_turn t js' p so_far' q = (λ j. bytes_of (going_on (n - 1) 0 (p j) k (q j)) ++ bytes_of (going_on n (i + 1) js last so_far)) ∙ sym (turned t)

    pub going_past : may k js last ≡ false → bytes_of (going_on n i js last so_far) ≡ bytes_of (going_on n (i + 1) js last so_far)
    going_past t = ap bytes_of (going_both n i g h ∙ ap (both_at n i) (sym e)
        ∙ ap (λ (u : Bool). cond u (going_on (n - 1) 0 (stood k js) k (k ∷ so_far)) [] ++ going_on n (i + 1) js last so_far) t)

-- ---- what is written of a list of calls

pub no_calls : (l : RankList) → l.len ≡ 0 → [] ≡ map number (oldest_first (ranks_in l))
unfolding oldest_first
no_calls l e = sym (ap (λ (ks : List Rank). map number (oldest_first ks)) (no_ranks l e))

-- the older calls, and the newest behind them
pub calls_turn : (l : RankList) → 0 < l.len → l.len ≤ 5 → (r : RankList) → ranks_in r ≡ before (ranks_in l) → (n : ℕ) → n ≡ number l.a
    → map number (oldest_first (ranks_in r)) ++ (n ∷ []) ≡ map number (oldest_first (ranks_in l))
unfolding oldest_first
calls_turn l g h r e n q =
    (λ i. map number (oldest_first (e i)) ++ (q i ∷ [])) ∙ sym (map_append number (oldest_first (before (ranks_in l))) (l.a ∷ []))
    ∙ sym (ap (λ (ks : List Rank). map number (oldest_first ks)) (newest_first l g h))

pub length_calls : (l : RankList) → length (map number (oldest_first (ranks_in l))) ≤ l.len
length_calls l = omega (arith, length-map (oldest_first (ranks_in l)) number, length_oldest (ranks_in l), length_ranks l)

module _ (l : RankList) (h : l.len ≤ 5) where
  -- the length, and the calls
  pub history_bytes : (l.len ∷ []) ++ map number (oldest_first (ranks_in l)) ≡ bytes_of (oldest_first (ranks_in l) ∷ [])
  unfolding bytes_of
  history_bytes =
      ap (λ (n : ℕ). n ∷ map number (oldest_first (ranks_in l))) (sym (length_oldest (ranks_in l) ∙ length_all l h))
      ∙ sym (append-nil (length (oldest_first (ranks_in l)) ∷ map number (oldest_first (ranks_in l))))

  pub length_history : length (bytes_of (oldest_first (ranks_in l) ∷ [])) ≡ l.len + 1
  length_history =
      sym (ap length history_bytes) ∙ omega (arith, length-map (oldest_first (ranks_in l)) number, length_oldest (ranks_in l), length_all l h)

-- ---- shorter lists first

from_nothing : (n : ℕ) → only_legal [] Flush (lists_of n) ≡ going_on n 0 [] Flush []
unfolding oldest_first
from_nothing n = ap (only_legal [] Flush) (from_first n) ∙ sym (map_same (λ ks. [] ++ ks) (λ ks. refl) (only_legal [] Flush (lists_from n 0)))

both_lengths : (n : ℕ) → 0 < n → bytes_of (histories_up_to n) ≡ bytes_of (histories_up_to (n - 1)) ++ bytes_of (going_on n 0 [] Flush [])
unfolding lists_up_to
both_lengths zero h = absurd (omega arith)
both_lengths (suc n) h =
    ap bytes_of (legal_append [] Flush (lists_up_to n) (lists_of (suc n)) ∙ ap (λ (l : Lists). only_legal [] Flush (lists_up_to n) ++ l) (from_nothing (suc n)))
    ∙ bytes_append (histories_up_to n) (going_on (suc n) 0 [] Flush [])
    ∙ ap (λ (m : ℕ). bytes_of (histories_up_to m) ++ bytes_of (going_on (suc n) 0 [] Flush [])) (less n)

-- js, the calls that stand, and so far, are none
module _ (js : List Rank) (e : js ≡ []) where
  pub up_to_none : (n : ℕ) → n ≡ 0 → bytes_of (going_on 0 0 js Flush js) ≡ bytes_of (histories_up_to n)
  unfolding lists_up_to
  up_to_none zero q = ap (λ (ks : List Rank). bytes_of (going_on 0 0 ks Flush ks)) e ∙ sym (ap bytes_of (from_nothing 0))
  up_to_none (suc n) q = absurd (omega arith)

  pub up_to_turn : (n : ℕ) → 0 < n → bytes_of (histories_up_to (n - 1)) ++ bytes_of (going_on n 0 js Flush js) ≡ bytes_of (histories_up_to n)
  up_to_turn n h = ap (λ (ks : List Rank). bytes_of (histories_up_to (n - 1)) ++ bytes_of (going_on n 0 ks Flush ks)) e ∙ sym (both_lengths n h)
