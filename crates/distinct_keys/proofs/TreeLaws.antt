-- The search for equal keys in trees: the way of a key meets every key that is equal, and a key is put where its way ends.
use Rattle.std.proofs.Common.{◌≡◌, ℕ, zero, suc, ◌+◌, ◌-◌, ◌*◌, ◌/◌, ◌%◌, ◌^◌, ◌<◌, ◌≤◌, Bool, true, false, not, eqb, ltb, List, length, get_or, take, drop, set, replicate, sym, refl, ap, ◌∙◌, add-zero, mod-lt, add-mul, arith, length-set, get_or-set_other, get_or-set_same, drop-drop, ltb-false, ltb-true, eqb-true}
use borrow.Author.Tests.{eqb-false}
use Rattle.stores.specs.Equal.{same_bytes}
use Rattle.stores.proofs.StoreLaws.{part_at}
use Rattle.records.specs.Records.{records, keys}
use Rattle.records.specs.Find.{find_key, is_found, distinct}
use Rattle.distinct_keys.specs.Internal.{nth_key, half_at, word_at, root_of, turns_of, behind, Meets, AllFree, Grown, Extends, Open, NoneAgain}
use Rattle.distinct_keys.specs.Internal.Meets.{here, later}
use Rattle.records.proofs.TurnLaws.{length_keys}
use Rattle.records.proofs.KeyLaws.{clash, differ, Search, hit, miss, look, find_at, find_none, distinct_of, of_distinct}
use Rattle.records.proofs.RecordLaws.{key_at}

-- ---- a key among the first i, by indices

module _ (size i : ℕ) (key l : List ℕ) (wide : 32 ≤ size) where
  pub among : (k : ℕ) → k < i → nth_key size l k ≡ key → is_found (find_key key (keys size i l)) ≡ true
  among k h e = by_look (look key (keys size i l))
    where
      by_look : Search key (keys size i l) → is_found (find_key key (keys size i l)) ≡ true
      by_look (hit j a b q) = rw (find_at key (keys size i l) j a b q)
      by_look (miss q) = absurd (q k (omega (arith, length_keys size i l)) (key_at size i k l wide h ∙ e))

  pub not_among : ((m : ℕ) → m < i → nth_key size l m ≡ key → ⊥) → is_found (find_key key (keys size i l)) ≡ false
  not_among q = rw (find_none key (keys size i l) (λ m h e.
      let b : m < i = omega (arith, length_keys size i l) in
      q m b (sym (key_at size i m l wide b) ∙ e)))

  pub among_none : is_found (find_key key (keys size i l)) ≡ false → (m : ℕ) → m < i → nth_key size l m ≡ key → ⊥
  among_none t m h e = clash (among m h e) t

  pub among_some : is_found (find_key key (keys size i l)) ≡ true → ((m : ℕ) → m < i → nth_key size l m ≡ key → ⊥) → ⊥
  among_some t q = clash t (not_among q)

pub mod_two : (a : ℕ) → a % 2 < 2
mod_two a = mod-lt a (omega arith)

-- ---- the way of a key: an equal key is still ahead

pub record Walked (size : ℕ) (l : List ℕ) (n i : ℕ) (links key : List ℕ) (s rest cur : ℕ) : Type 0 where
  pub reads : cur ≡ get_or links s 0
  pub within : s < n + 2 * i
  pub ahead : (m : ℕ) → m < i → nth_key size l m ≡ key → Meets n links m s rest
  pub leads : (links' : List ℕ) → Extends links links' → (k : ℕ) → Meets n links' k s rest → Meets n links' k (root_of n key) (turns_of key)

-- what is met at a slot, or behind it
pub met : {n : ℕ} {links : List ℕ} {k s rest : ℕ} (X : Type 0) → Meets n links k s rest → (get_or links s 0 ≡ k + 1 → X)
    → (0 < get_or links s 0 → Meets n links k (behind n (get_or links s 0 - 1) rest) (rest / 2) → X) → X
met X (here s rest e) f g = f e
met X (later s rest p o) f g = g p o

module _ (size : ℕ) (l : List ℕ) (n i : ℕ) (links key : List ℕ) (g : Grown size l n i links) where
  pub walk_start : (s rest cur : ℕ) → s ≡ root_of n key → s < n → rest ≡ turns_of key → cur ≡ get_or links s 0 → Walked size l n i links key s rest cur
  walk_start s rest cur es h er ec =
      record {
        reads = ec;
        within = omega arith;
        ahead = λ m a e. rw (es, er, ← e) (g.stands m a);
        leads = λ links' x k o. rw (es, er) at o;
      }

  module _ (s rest cur : ℕ) (w : Walked size l n i links key s rest cur) where
    -- the key that is met is one of those that stand
    pub met_below : 0 < cur → cur - 1 < i
    met_below p = omega (arith, w.reads, g.passed s)

    -- behind the slot lie later slots
    pub walk_rises : 0 < cur → s < behind n (cur - 1) rest
    walk_rises p = omega (arith, w.reads, g.rises s (omega (arith, w.reads)))

    pub walk_on : 0 < cur → same_bytes (nth_key size l (cur - 1)) key ≡ false
        → (s' cur' : ℕ) → s' ≡ behind n (cur - 1) rest → cur' ≡ get_or links s' 0 → Walked size l n i links key s' (rest / 2) cur'
    walk_on p t s' cur' es ec =
        record {
          reads = ec;
          within = omega (arith, met_below p, mod_two rest);
          ahead = λ m a e. met (Meets n links m s' (rest / 2)) (w.ahead m a e)
              (λ q. absurd (differ (nth_key size l (cur - 1)) key t
              (let z : cur - 1 ≡ m = omega (arith, w.reads) in ap (nth_key size l) z ∙ e)))
              (λ q o. rw (es, w.reads) o);
          leads = λ links' x k o.
              let q : 0 < get_or links s 0 = omega (arith, w.reads) in
              w.leads links' x k (later s rest (rw (x s q) q) (rw (x s q, ← w.reads, ← es) o));
        }

    -- at a free slot no key that stands is the same
    pub walk_none : cur ≤ 0 → (m : ℕ) → m < i → nth_key size l m ≡ key → ⊥
    walk_none z m a e = met ⊥ (w.ahead m a e) (λ q. omega (arith, w.reads)) (λ q o. omega (arith, w.reads))

    pub walk_open : cur ≤ 0 → Open n i links key s
    walk_open z =
        record {
          below = w.within;
          empty = omega (arith, w.reads);
          leads = λ links' x k e. w.leads links' x k (here s rest e);
        }

-- ---- a key is put where its way ends

-- no key stands yet
pub grown_none : (size : ℕ) (l : List ℕ) (n : ℕ) (links : List ℕ) → AllFree links → Grown size l n 0 links
grown_none size l n links z =
    record { stands = λ m h. absurd (omega arith); passed = λ s. omega (arith, z s); rises = λ s p. absurd (omega (arith, z s)) }

pub meets_more : {n : ℕ} {links links' : List ℕ} {k : ℕ} → Extends links links' → (s rest : ℕ) → Meets n links k s rest → Meets n links' k s rest
meets_more x s rest (here _ _ e) = here s rest (x s (omega (arith, e)) ∙ e)
meets_more x s rest (later _ _ p o) = later s rest (rw (x s p) p) (rw (x s p) (meets_more x _ _ o))

module _ (size : ℕ) (l : List ℕ) (n i : ℕ) (links : List ℕ) (s : ℕ) (room : s < length links) (g : Grown size l n i links)
    (o : Open n i links (nth_key size l i) s) where
  extends : Extends links (set links s (i + 1))
  extends t p = get_or-set_other links s t (i + 1) 0 (λ e. omega (arith, o.empty, ap (λ (j : ℕ). get_or links j 0) e))

  pub grown_more : Grown size l n (i + 1) (set links s (i + 1))
  grown_more =
      record {
        stands = λ m h. standing m h (eqb m i) refl;
        passed = λ t. passing t (eqb t s) refl;
        rises = λ t p. rising t p (eqb t s) refl;
      }
    where
      standing : (m : ℕ) → m < i + 1 → (u : Bool) → eqb m i ≡ u → Meets n (set links s (i + 1)) m (root_of n (nth_key size l m)) (turns_of (nth_key size l m))
      standing m h true u = rw (eqb-true m i u) (o.leads (set links s (i + 1)) extends i (get_or-set_same links s (i + 1) 0 room))
      standing m h false u = let z = eqb-false m i u in meets_more extends _ _ (g.stands m (omega arith))

      passing : (t : ℕ) → (u : Bool) → eqb t s ≡ u → get_or (set links s (i + 1)) t 0 ≤ i + 1
      passing t true u = rw (eqb-true t s u, get_or-set_same links s (i + 1) 0 room) (omega arith)
      passing t false u = rw (get_or-set_other links s t (i + 1) 0 (eqb-false t s u)) (omega (arith, g.passed t))

      rising : (t : ℕ) → 0 < get_or (set links s (i + 1)) t 0 → (u : Bool) → eqb t s ≡ u → t + 2 < n + 2 * get_or (set links s (i + 1)) t 0
      rising t p true u = rw (eqb-true t s u, get_or-set_same links s (i + 1) 0 room) (omega (arith, o.below))
      rising t p false u =
          let e = get_or-set_other links s t (i + 1) 0 (eqb-false t s u) in
          rw e (g.rises t (rw e at p))

-- ---- the keys so far differ

abbrev pub Differ : (size : ℕ) → List ℕ → ℕ → Type 0
Differ size l i = (a b : ℕ) → a < b → b < i → nth_key size l a ≡ nth_key size l b → ⊥

pub differ_none : (size : ℕ) (l : List ℕ) → Differ size l 0
differ_none size l a b h k e = omega arith

module _ (size i : ℕ) (l : List ℕ) (wide : 32 ≤ size) where
  pub differ_more : Differ size l i → is_found (find_key (nth_key size l i) (keys size i l)) ≡ false → Differ size l (i + 1)
  differ_more d t a b h k e = by_test (eqb b i) refl
    where
      by_test : (u : Bool) → eqb b i ≡ u → ⊥
      by_test true u =
          let z = eqb-true b i u in
          among_none size i (nth_key size l i) l wide t a (omega arith) (e ∙ ap (nth_key size l) z)
      by_test false u = let z = eqb-false b i u in d a b h (omega arith) e

  -- all of them passed
  pub differ_all : Differ size l i → distinct (keys size i l) ≡ true
  differ_all d = distinct_of (keys size i l) (λ a b h k e.
      let j : b < i = omega (arith, length_keys size i l) in
      d a b h j (sym (key_at size i a l wide (omega arith)) ∙ e ∙ key_at size i b l wide j))

  pub differ_of : distinct (keys size i l) ≡ true → Differ size l i
  differ_of t a b h k e =
      of_distinct (keys size i l) t a b h (omega (arith, length_keys size i l)) (key_at size i a l wide (omega arith) ∙ e ∙ sym (key_at size i b l wide k))

  -- the key with index m stood before
  pub stood_before : (j m : ℕ) → j ≤ m → m < i → is_found (find_key (nth_key size l m) (keys size j l)) ≡ true → distinct (keys size i l) ≡ false
  stood_before j m g h t = by_test (distinct (keys size i l)) refl
    where
      by_test : (d : Bool) → distinct (keys size i l) ≡ d → d ≡ false
      by_test false e = refl
      by_test true e =
          absurd (among_some size j (nth_key size l m) l wide t (λ k a q.
          of_distinct (keys size i l) e k m (omega arith) (omega (arith, length_keys size i l))
          (key_at size i k l wide (omega arith) ∙ q ∙ sym (key_at size i m l wide h))))

-- ---- the loop: i keys are passed

pub record Passed (size : ℕ) (l links : List ℕ) (n places i : ℕ) : Type 0 where
  pub grown : Grown size l n i links
  pub long : length links ≡ places
  pub apart : Differ size l i

pub passed_none : (size : ℕ) (l : List ℕ) (n : ℕ) (links : List ℕ) → AllFree links → Passed size l links n (length links) 0
passed_none size l n links z = record { grown = grown_none size l n links z; long = refl; apart = differ_none size l }

module _ (size : ℕ) (l links : List ℕ) (n places i : ℕ) (wide : 32 ≤ size) (p : Passed size l links n places i) where
  -- the next key is new and is put in
  pub passed_more : (s : ℕ) (links' : List ℕ) → s < places → is_found (find_key (nth_key size l i) (keys size i l)) ≡ false
      → Open n i links (nth_key size l i) s → links' ≡ set links s (i + 1) → Passed size l links' n places (i + 1)
  passed_more s links' room t o e =
      record {
        grown = rw e (grown_more size l n i links s (omega (arith, p.long)) p.grown o);
        long = rw e (length-set links s (i + 1) ∙ p.long);
        apart = differ_more size i l wide p.apart t;
      }

  -- the next key stood before
  pub passed_stop : (count : ℕ) → i < count → is_found (find_key (nth_key size l i) (keys size i l)) ≡ true → distinct (keys size count l) ≡ false
  passed_stop count h t = stood_before size count l wide i i (omega arith) h t

  pub passed_all : (count : ℕ) → i ≡ count → distinct (keys size count l) ≡ true
  passed_all count e = rw (← e) (differ_all size i l wide p.apart)

-- ---- a block of keys, and those behind it

pub not_true : (b : Bool) → not b ≡ true → b ≡ false
not_true true e = sym e
not_true false e = refl

pub left_block : (size left : ℕ) → 8192 ≤ left → left * size ≡ 8192 * size + (left - 8192) * size
left_block size left h = let e : left ≡ 8192 + (left - 8192) = omega arith in ap (λ (k : ℕ). k * size) e ∙ add-mul 8192 (left - 8192) size

module _ (size : ℕ) (l : List ℕ) (block i : ℕ) (wide : 32 ≤ size) where
  pub none_again_more : NoneAgain size l block i → is_found (find_key (nth_key size l i) (keys size block l)) ≡ false → NoneAgain size l block (i + 1)
  none_again_more q t m h k a b d = by_test (eqb m i) refl
    where
      by_test : (u : Bool) → eqb m i ≡ u → ⊥
      by_test true u = among_none size block (nth_key size l i) l wide t a b (d ∙ ap (nth_key size l) (eqb-true m i u))
      by_test false u = let z = eqb-false m i u in q m h (omega arith) a b d

  pub again : (count : ℕ) → block ≤ i → i < count → is_found (find_key (nth_key size l i) (keys size block l)) ≡ true → distinct (keys size count l) ≡ false
  again count h k t = stood_before size count l wide block i h k t

module _ (size : ℕ) (l : List ℕ) (block count : ℕ) (wide : 32 ≤ size) (fits : block ≤ count) where
  rest_key : (m : ℕ) → nth_key size (drop (block * size) l) m ≡ nth_key size l (block + m)
  rest_key m = rw (drop-drop, add-mul)

  rest_key_from : (a : ℕ) → block ≤ a → nth_key size (drop (block * size) l) (a - block) ≡ nth_key size l a
  rest_key_from a h = let e : block + (a - block) ≡ a = omega arith in rest_key (a - block) ∙ ap (nth_key size l) e

  joined : Differ size l block → NoneAgain size l block count → Differ size (drop (block * size) l) (count - block) → Differ size l count
  joined d q r a b h k e = by_test (ltb b block) refl (ltb a block) refl
    where
      by_test : (u : Bool) → ltb b block ≡ u → (v : Bool) → ltb a block ≡ v → ⊥
      by_test true u v y = d a b h (ltb-true b block u) e
      by_test false u true y = q b (ltb-false b block u) k a (ltb-true a block y) e
      by_test false u false y =
          let x = ltb-false b block u in
          let z = ltb-false a block y in
          r (a - block) (b - block) (omega arith) (omega arith) (rest_key_from a z ∙ e ∙ sym (rest_key_from b x))

  split : Differ size l count → Differ size (drop (block * size) l) (count - block)
  split d a b h k e = d (block + a) (block + b) (omega arith) (omega arith) (sym (rest_key a) ∙ e ∙ rest_key b)

  -- where no key of the block stands twice, those behind it decide
  pub block_past : distinct (keys size block l) ≡ true → NoneAgain size l block count
      → distinct (keys size count l) ≡ distinct (keys size (count - block) (drop (block * size) l))
  block_past t q = by_test (distinct (keys size (count - block) (drop (block * size) l))) refl (distinct (keys size count l)) refl
    where
      by_test : (u : Bool) → distinct (keys size (count - block) (drop (block * size) l)) ≡ u → (v : Bool) → distinct (keys size count l) ≡ v → v ≡ u
      by_test true u v y = sym y ∙ differ_all size count l wide (joined (differ_of size block l wide t) q (differ_of size (count - block) (drop (block * size) l) wide u))
      by_test false u true y = absurd (clash (differ_all size (count - block) (drop (block * size) l) wide (split (differ_of size count l wide y))) u)
      by_test false u false y = refl

  -- a key of the block stands twice
  pub block_stop : distinct (keys size block l) ≡ false → distinct (keys size count l) ≡ false
  block_stop t = by_test (distinct (keys size count l)) refl
    where
      by_test : (u : Bool) → distinct (keys size count l) ≡ u → u ≡ false
      by_test true u = absurd (clash (differ_all size block l wide (λ a b h k e. differ_of size count l wide u a b h (omega arith) e)) t)
      by_test false u = refl

-- a block of all keys: none stands behind it
pub whole_block : (size count : ℕ) (l : List ℕ) (r : Bool)
    → (r ≡ true → distinct (keys size count l) ≡ distinct (keys size (count - count) (drop (count * size) l))) × (r ≡ false → distinct (keys size count l) ≡ false)
    → r ≡ distinct (keys size count l)
unfolding records distinct
whole_block size count l true h =
    let z : count - count ≡ 0 = omega arith in
    sym (h.0 refl ∙ ap (λ (k : ℕ). distinct (keys size k (drop (count * size) l))) z)
whole_block size count l false h = sym (h.1 refl)

-- ---- the root and the turns of the key at a position, from its bytes

half_part : (at j : ℕ) (l : List ℕ) → j + 4 ≤ 32 → half_at (take 32 (drop at l)) j ≡ half_at l (at + j)
unfolding half_at
half_part at j l h =
    let b = part_at at 32 (j + 1) l 0 (omega arith) in
    let c = part_at at 32 (j + 2) l 0 (omega arith) in
    let d = part_at at 32 (j + 3) l 0 (omega arith) in
    let eb : at + (j + 1) ≡ at + j + 1 = omega arith in
    let ec : at + (j + 2) ≡ at + j + 2 = omega arith in
    let ed : at + (j + 3) ≡ at + j + 3 = omega arith in
    rw (part_at at 32 j l 0 (omega arith), b, c, d, eb, ec, ed)

pub word_part : (at j : ℕ) (l : List ℕ) → j + 8 ≤ 32 → word_at (take 32 (drop at l)) j ≡ word_at l (at + j)
unfolding word_at
word_part at j l h =
    let e : at + (j + 4) ≡ at + j + 4 = omega arith in
    rw (half_part at j l (omega arith), half_part at (j + 4) l (omega arith), e)

pub root_bytes : (n at : ℕ) (l : List ℕ) → root_of n (take 32 (drop at l)) ≡ word_at l at % n
unfolding root_of
root_bytes n at l = rw (word_part at 0 l (omega arith), add-zero at)

pub turns_bytes : (at : ℕ) (l : List ℕ) → turns_of (take 32 (drop at l)) ≡ ((word_at l at + word_at l (at + 8)) % 2 ^ 64 + (word_at l (at + 16) + word_at l (at + 24)) % 2 ^ 64) % 2 ^ 64 % 21745137823727
unfolding turns_of
turns_bytes at l =
    rw (word_part at 0 l (omega arith), word_part at 8 l (omega arith), word_part at 16 l (omega arith), word_part at 24 l (omega arith), add-zero at)

pub zeros : (n b : ℕ) → get_or {A = ℕ} (replicate n 0) b 0 ≡ 0
zeros zero b = refl
zeros (suc n) zero = refl
zeros (suc n) (suc b) = zeros n b
