-- An entry of the journal reads back as the call that it was copied from, and the entries below it are not changed by its write.
use mathlib.Core.Path.{◌≡◌, refl, sym, ap, ◌∙◌, subst}
use mathlib.Core.Bool.{Bool, true, false, cond}
use mathlib.Core.List.{List, [], ◌∷◌, ◌++◌, append_assoc}
use Prim.Native.Nat.{ℕ, zero, suc, ◌+◌, ◌*◌, ◌-◌, ◌/◌, ◌≤◌, ◌<◌}
use native.Mathlib.Omega.{arith}
use borrow.Author.Tests.{leb-false, ltb-false, le-ltb, eqb-true}
use lib.Dec.{eqb, leb, ltb}
use lib.IntN.{ℤ}
use lib.ListN.{length, take, drop, get_or, length-append}
use lib.Seq.{take-take, drop-drop, take-nil, take_at, drop_at, take-append-le, drop-append-le, length-take-le}
use Rattle.stores.specs.Stores.{write}
use Rattle.stores.proofs.StoreLaws.{length_part, part_at, length_write}
use Rattle.big_endian.specs.BigEndian.{value_of, value_at}
use Rattle.calls.specs.Calls.{signed_of, number_at}
use Rattle.ledger.specs.Calls.{Tokens}
use Rattle.ledger.specs.Run.{flush}
use Rattle.driver_core.specs.Bytes.{Item, is, bad, cut, kind_at, parent_at, value_in, tokens_told, tokens_at, tokens_of, is_change, plain, with_tokens, headed, item_at, size_at, Journal, journal, entry_of, pushed, newest, popped, call_then, standing}
use Rattle.driver_laws.specs.Journal.{IsCall, Whole}

split : {A : Type 0} (Q : A → Type 0) (b : Bool) {x y : A} → (b ≡ true → Q x) → (b ≡ false → Q y) → Q (cond b x y)
split Q true f g = f refl
split Q false f g = g refl

-- ---- parts of lists
drop_take : (i n : ℕ) (l : List ℕ) → drop i (take n l) ≡ take (n - i) (drop i l)
drop_take zero n l = let q : n ≡ n - 0 = omega arith in ap (λ (k : ℕ). take k l) q
drop_take (suc i) zero l = let q : 0 ≡ 0 - suc i = omega arith in ap (λ (k : ℕ). take k (drop (suc i) l)) q
drop_take (suc i) (suc n) [] = sym (take-nil (suc n - suc i))
drop_take (suc i) (suc n) (b ∷ l) = let q : n - i ≡ suc n - suc i = omega arith in drop_take i n l ∙ ap (λ (k : ℕ). take k (drop i l)) q

part_below : (n i k : ℕ) (l : List ℕ) → i + k ≤ n → take k (drop i (take n l)) ≡ take k (drop i l)
part_below n i k l h = ap (take k) (drop_take i n l) ∙ take-take k (n - i) (drop i l) (omega arith)

-- a part of a part
part_in : (p n i k : ℕ) (l : List ℕ) → i + k ≤ n → take k (drop i (take n (drop p l))) ≡ take k (drop (p + i) l)
part_in p n i k l h = part_below n i k (drop p l) h ∙ ap (take k) (drop-drop i p l)

-- n bytes of u at p are those of v at q
abbrev Alike : (u v : List ℕ) (p q n : ℕ) → Type 0
Alike u v p q n = take n (drop p u) ≡ take n (drop q v)

narrow : (u v : List ℕ) (p q n i k : ℕ) → i + k ≤ n → Alike u v p q n → Alike u v (p + i) (q + i) k
narrow u v p q n i k h e = sym (part_in p n i k u h) ∙ ap (λ (l : List ℕ). take k (drop i l)) e ∙ part_in q n i k v h

first : (u v : List ℕ) (p q n k : ℕ) → k ≤ n → Alike u v p q n → Alike u v p q k
first u v p q n k h e = sym (take-take k n (drop p u) h) ∙ ap (take k) e ∙ take-take k n (drop q v) h

-- below a place that two lists agree up to
below : (u v : List ℕ) (n i k : ℕ) → i + k ≤ n → take n u ≡ take n v → Alike u v i i k
below u v n i k h e = sym (part_below n i k u h) ∙ ap (λ (l : List ℕ). take k (drop i l)) e ∙ part_below n i k v h

-- ---- the parts of a header
module _ (u v : List ℕ) (p q : ℕ) (e : Alike u v p q 17) where
  kind_same : kind_at u p ≡ kind_at v q
  kind_same =
      let a : p ≡ p + 0 = omega arith in
      let b : q + 0 ≡ q = omega arith in
      ap (λ (n : ℕ). get_or u n 0) a ∙ sym (part_at p 17 0 u 0 (omega arith)) ∙ ap (λ (l : List ℕ). get_or l 0 0) e ∙ part_at q 17 0 v 0 (omega arith) ∙ ap (λ (n : ℕ). get_or v n 0) b

  parent_same : parent_at u p ≡ parent_at v q
  parent_same = ap (value_of 0) (narrow u v p q 17 1 4 (omega arith) e)

  told_same : tokens_told u p ≡ tokens_told v q
  told_same = ap (value_of 0) (narrow u v p q 17 13 4 (omega arith) e)

  value_same : value_in u p ≡ value_in v q
  unfolding number_at value_at
  value_same = ap (λ (l : List ℕ). signed_of (value_of 0 l)) (narrow u v p q 17 5 8 (omega arith) e)

number_same : (u v : List ℕ) (p q : ℕ) → Alike u v p q 8 → number_at u p ≡ number_at v q
unfolding number_at value_at
number_same u v p q e = ap (λ (l : List ℕ). signed_of (value_of 0 l)) e

tokens_same : (u v : List ℕ) (i k a b n : ℕ) → Alike u v i k (n * 32) → Alike u v a b (n * 8) → tokens_at u i a n ≡ tokens_at v k b n
unfolding tokens_at
tokens_same u v i k a b zero d e = refl
tokens_same u v i k a b (suc n) d e =
    let x = first u v i k (suc n * 32) 32 (omega arith) d in
    let y = number_same u v a b (first u v a b (suc n * 8) 8 (omega arith) e) in
    let z = tokens_same u v (i + 32) (k + 32) (a + 8) (b + 8) n (narrow u v i k (suc n * 32) 32 (n * 32) (omega arith) d) (narrow u v a b (suc n * 8) 8 (n * 8) (omega arith) e) in
    λ j. (x j, y j) ∷ z j

-- ---- what a header says, by its parts
abbrev pub by_parts : (parents kind parent told : ℕ) → ℤ → Tokens → (room : ℕ) → Item → Item
by_parts parents k p n z ts room short =
    cond (eqb k 7) (cond (eqb n 0) (is flush) bad)
    (cond (leb parents p) bad (cond (is_change k) (cond (ltb room n) short (with_tokens k p z ts)) (cond (eqb n 0) (plain k p z) bad)))

-- the same header with the same tokens
headed_same : (parents : ℕ) (u v : List ℕ) (p q room t w : ℕ) (short : Item) → Alike u v p q 17 → Alike u v t w (tokens_told v q * 40)
    → headed parents u p room t short ≡ headed parents v q room w short
headed_same parents u v p q room t w short e d =
    let n = tokens_told v q in
    let m : tokens_told u p ≡ n = told_same u v p q e in
    let ts : tokens_of u p t ≡ tokens_of v q w
    = ap (λ (x : ℕ). tokens_at u t (t + x * 32) x) m
    ∙ tokens_same u v t w (t + n * 32) (w + n * 32) n (first u v t w (n * 40) (n * 32) (omega arith) d) (narrow u v t w (n * 40) (n * 32) (n * 8) (omega arith) d) in
    λ i. by_parts parents (kind_same u v p q e i) (parent_same u v p q e i) (m i) (value_same u v p q e i) (ts i) room short

-- a call that is whole is the same with any room for its tokens
room_same : (parents k p n : ℕ) (z : ℤ) (ts : Tokens) (room more : ℕ) → n ≤ more → IsCall (by_parts parents k p n z ts room cut)
    → by_parts parents k p n z ts more bad ≡ by_parts parents k p n z ts room cut
room_same parents k p n z ts room more h = by (eqb k 7) (leb parents p) (is_change k) (ltb room n)
  where
    by : (a b c d : Bool)
        → IsCall (cond a (cond (eqb n 0) (is flush) bad) (cond b bad (cond c (cond d cut (with_tokens k p z ts)) (cond (eqb n 0) (plain k p z) bad))))
        → cond a (cond (eqb n 0) (is flush) bad) (cond b bad (cond c (cond (ltb more n) bad (with_tokens k p z ts)) (cond (eqb n 0) (plain k p z) bad)))
        ≡ cond a (cond (eqb n 0) (is flush) bad) (cond b bad (cond c (cond d cut (with_tokens k p z ts)) (cond (eqb n 0) (plain k p z) bad)))
    by true b c d i = refl
    by false true c d i = refl
    by false false true true i = absurd i
    by false false true false i = ap (λ (t : Bool). cond t bad (with_tokens k p z ts)) (le-ltb more n h)
    by false false false d i = refl

-- a call's bytes are all there
call_fits : (parents : ℕ) (s : List ℕ) (at : ℕ) → IsCall (item_at parents s at) → at + size_at s at ≤ length s
unfolding item_at
call_fits parents s at =
    let n = tokens_told s at in
    let Q : Item → Type 0 = λ x. IsCall x → at + (17 + n * 40) ≤ length s in
    split Q (leb (length s) at) (λ _ c. absurd c)
    (λ a.
    split Q (ltb (length s - at) 17) (λ _ c. absurd c)
    (λ b.
    let l : at < length s = leb-false (length s) at a in
    let m : 17 ≤ length s - at = ltb-false (length s - at) 17 b in
    let none : eqb n 0 ≡ true → at + (17 + n * 40) ≤ length s = λ z. omega (arith, l, m, eqb-true n 0 z) in
    split Q (eqb (kind_at s at) 7) (λ _. split Q (eqb n 0) (λ _ c. absurd c) (λ _ c. absurd c))
    (λ _.
    split Q (leb parents (parent_at s at)) (λ _ c. absurd c)
    (λ _.
    split Q (is_change (kind_at s at))
    (λ _. split Q (ltb ((length s - at - 17) / 40) n) (λ _ c. absurd c) (λ d _. omega (arith, l, m, ltb-false ((length s - at - 17) / 40) n d)))
    (λ _. split Q (eqb n 0) (λ z _. none z) (λ _ c. absurd c))))))

-- the item is what its header says, with room for so many tokens
abbrev item_room : List ℕ → ℕ → ℕ
item_room s at = (length s - at - 17) / 40

item_headed : (parents : ℕ) (s : List ℕ) (at : ℕ) → IsCall (item_at parents s at) → item_at parents s at ≡ headed parents s at (item_room s at) (at + 17) cut
unfolding item_at
item_headed parents s at =
    let h = headed parents s at (item_room s at) (at + 17) cut in
    let Q : Item → Type 0 = λ x. IsCall x → x ≡ h in
    split Q (leb (length s) at) (λ _ c. absurd c) (λ _. split Q (ltb (length s - at) 17) (λ _ c. absurd c) (λ _ _. refl))

-- ---- the newest entry
abbrev newest_at : (parents : ℕ) → List ℕ → (used header : ℕ) → Item
newest_at parents u used h =
    cond (ltb used 17) bad (cond (ltb (h / 40) (tokens_told u h)) bad (headed parents u h (h / 40) (used - size_at u h) bad))

-- what is read of the newest entry stands in the bytes used
pub record Stands (j : Journal) : Type 0 where
  pub header : 17 ≤ j.used
  pub tokens : 17 + tokens_told j.bytes (j.used - 17) * 40 ≤ j.used

pub newest_stands : (parents : ℕ) (j : Journal) → IsCall (newest parents j) → Stands j
unfolding newest
newest_stands parents j =
    let h = j.used - 17 in
    let n = tokens_told j.bytes h in
    let Q : Item → Type 0 = λ x. IsCall x → Stands j in
    split Q (ltb j.used 17) (λ _ c. absurd c)
    (λ a.
    split Q (ltb (h / 40) n) (λ _ c. absurd c)
    (λ b _. let l : 17 ≤ j.used = ltb-false j.used 17 a in record { header = l; tokens = omega (arith, l, ltb-false (h / 40) n b) }))

-- nothing else is read
newest_below : (parents : ℕ) (u v : List ℕ) (used c : ℕ) → take used u ≡ take used v → newest parents (journal u used c) ≡ newest parents (journal v used c)
unfolding newest
newest_below parents u v used c e = by (ltb used 17) refl
  where
    h : ℕ
    h = used - 17

    by : (b : Bool) → ltb used 17 ≡ b
        → cond b bad (cond (ltb ((used - 17) / 40) (tokens_told u (used - 17))) bad (headed parents u (used - 17) ((used - 17) / 40) (used - size_at u (used - 17)) bad))
        ≡ cond b bad (cond (ltb ((used - 17) / 40) (tokens_told v (used - 17))) bad (headed parents v (used - 17) ((used - 17) / 40) (used - size_at v (used - 17)) bad))
    by true q = refl
    by false q =
        let l : 17 ≤ used = ltb-false used 17 q in
        let d : Alike u v (used - 17) (used - 17) 17 = below u v used (used - 17) 17 (omega arith) e in
        let m : tokens_told u (used - 17) ≡ tokens_told v (used - 17) = told_same u v (used - 17) (used - 17) d in
        ap (λ (n : ℕ). cond (ltb ((used - 17) / 40) n) bad (headed parents u (used - 17) ((used - 17) / 40) (used - (17 + n * 40)) bad)) m
        ∙ within l d (ltb ((used - 17) / 40) (tokens_told v (used - 17))) refl
      where
        within : 17 ≤ used → Alike u v (used - 17) (used - 17) 17 → (b : Bool) → ltb ((used - 17) / 40) (tokens_told v (used - 17)) ≡ b
            → cond b bad (headed parents u (used - 17) ((used - 17) / 40) (used - (17 + tokens_told v (used - 17) * 40)) bad)
            ≡ cond b bad (headed parents v (used - 17) ((used - 17) / 40) (used - (17 + tokens_told v (used - 17) * 40)) bad)
        within l d true z = refl
        within l d false z =
            let n = tokens_told v (used - 17) in
            let t = used - (17 + n * 40) in
            let f : n ≤ (used - 17) / 40 = ltb-false ((used - 17) / 40) n z in
            headed_same parents u v (used - 17) (used - 17) ((used - 17) / 40) t t bad d (below u v used t (n * 40) (omega (arith, l, f)) e)

module _ (parents : ℕ) where
  -- a journal whose bytes agree up to those used holds the same calls
  pub record Kept (n : ℕ) (i j : Journal) : Type 0 where
    pub whole : Whole parents n j
    pub same : standing parents n i ≡ standing parents n j

  pub whole_below : (n : ℕ) (u v : List ℕ) (used c : ℕ) → take used u ≡ take used v → used ≤ length v → Whole parents n (journal u used c)
      → Kept n (journal u used c) (journal v used c)
  unfolding Whole standing
  whole_below zero u v used c e l w = record { whole = w; same = refl }
  whole_below (suc n) u v used c e l w =
      let a = newest_stands parents (journal u used c) w.0 in
      let x = newest_below parents u v used c e in
      let d : Alike u v (used - 17) (used - 17) 17 = below u v used (used - 17) 17 (omega (arith, a.header)) e in
      let m : size_at u (used - 17) ≡ size_at v (used - 17) = ap (λ (n : ℕ). 17 + n * 40) (told_same u v (used - 17) (used - 17) d) in
      let less = used - size_at u (used - 17) in
      let q : less ≤ used = omega arith in
      let f : take less u ≡ take less v = sym (take-take less used u q) ∙ ap (take less) e ∙ take-take less used v q in
      let k = whole_below n u v less (c - 1) f (omega arith) w.3 in
      let p : journal v less (c - 1) ≡ journal v (used - size_at v (used - 17)) (c - 1) = ap (λ (z : ℕ). journal v (used - z) (c - 1)) m in
      record {
        whole = (subst IsCall x w.0, l, w.2, subst (Whole parents n) p k.whole);
        same = λ i. call_then (x i) ((k.same ∙ ap (standing parents n) p) i);
      }

  -- more bytes behind those that it has
  pub used_within : (n : ℕ) (j : Journal) → Whole parents n j → j.used ≤ length j.bytes
  unfolding Whole
  used_within zero j w = omega (arith, w.0)
  used_within (suc n) j w = w.1

  pub longer_whole : (j : Journal) (more : List ℕ) → Whole parents j.count j → Kept j.count j (journal (j.bytes ++ more) j.used j.count)
  longer_whole j more w =
      let l = used_within j.count j w in
      whole_below j.count j.bytes (j.bytes ++ more) j.used j.count (sym (take-append-le j.used j.bytes more l)) (omega (arith, l, length-append j.bytes more)) w

  -- ---- the entry that a call becomes
  module _ (s : List ℕ) (at : ℕ) (c : IsCall (item_at parents s at)) (j : Journal) (room : j.used + size_at s at ≤ length j.bytes) where
    abbrev n : ℕ
    n = tokens_told s at

    abbrev after : List ℕ
    after = write j.used (entry_of s at) j.bytes

    tokens_long : length (take (n * 40) (drop (at + 17) s)) ≡ n * 40
    tokens_long = length_part (at + 17) (n * 40) s (omega (arith, call_fits parents s at c))

    header_long : length (take 17 (drop at s)) ≡ 17
    header_long = length_part at 17 s (omega (arith, call_fits parents s at c))

    entry_long : length (entry_of s at) ≡ size_at s at
    entry_long = omega (arith, length-append (take (n * 40) (drop (at + 17) s)) (take 17 (drop at s)), tokens_long, header_long)

    rest : List ℕ
    rest = drop (j.used + length (entry_of s at)) j.bytes

    written : drop j.used after ≡ entry_of s at ++ rest
    unfolding write rest
    written =
        ap (drop j.used) (append_assoc (take j.used j.bytes) (entry_of s at) rest)
        ∙ drop_at (take j.used j.bytes) (entry_of s at ++ rest) j.used (length-take-le j.used j.bytes (omega (arith, room)))

    below_kept : take j.used j.bytes ≡ take j.used after
    unfolding write rest
    below_kept =
        sym (ap (take j.used) (append_assoc (take j.used j.bytes) (entry_of s at) rest)
        ∙ take_at (take j.used j.bytes) (entry_of s at ++ rest) j.used (length-take-le j.used j.bytes (omega (arith, room))))

    tokens_written : Alike after s j.used (at + 17) (n * 40)
    tokens_written =
        ap (take (n * 40)) written ∙ take-append-le (n * 40) (entry_of s at) rest (omega (arith, entry_long))
        ∙ take_at (take (n * 40) (drop (at + 17) s)) (take 17 (drop at s)) (n * 40) tokens_long

    header_written : Alike after s (j.used + n * 40) at 17
    header_written =
        ap (take 17)
        (sym (drop-drop (n * 40) j.used after) ∙ ap (drop (n * 40)) written ∙ drop-append-le (n * 40) (entry_of s at) rest (omega (arith, entry_long))
        ∙ ap (λ (l : List ℕ). l ++ rest) (drop_at (take (n * 40) (drop (at + 17) s)) (take 17 (drop at s)) (n * 40) tokens_long))
        ∙ take_at (take 17 (drop at s)) rest 17 header_long

    -- where its header stands
    head_place : j.used + size_at s at - 17 ≡ j.used + n * 40
    head_place = omega arith

    told_written : tokens_told after (j.used + size_at s at - 17) ≡ n
    told_written = ap (tokens_told after) head_place ∙ told_same after s (j.used + n * 40) at header_written

    newest_pushed : newest parents (pushed s at j) ≡ item_at parents s at
    unfolding newest pushed
    newest_pushed =
        let used = j.used + size_at s at in
        let h = j.used + n * 40 in
        let big : 17 ≤ used = omega arith in
        let few : n ≤ h / 40 = omega arith in
        let t : used - (17 + n * 40) ≡ j.used = omega arith in
        let i = item_headed parents s at c in
        let ic : IsCall (headed parents s at (item_room s at) (at + 17) cut) = subst IsCall i c in
        ap (newest_at parents after used) head_place
        ∙ ap (λ (b : Bool). cond b bad (cond (ltb (h / 40) (tokens_told after h)) bad (headed parents after h (h / 40) (used - size_at after h) bad))) (le-ltb used 17 big)
        ∙ ap (λ (m : ℕ). cond (ltb (h / 40) m) bad (headed parents after h (h / 40) (used - (17 + m * 40)) bad)) (told_same after s h at header_written)
        ∙ ap (λ (b : Bool). cond b bad (headed parents after h (h / 40) (used - (17 + n * 40)) bad)) (le-ltb (h / 40) n few)
        ∙ ap (λ (m : ℕ). headed parents after h (h / 40) m bad) t
        ∙ headed_same parents after s h at (h / 40) j.used (at + 17) bad header_written tokens_written
        ∙ room_same parents (kind_at s at) (parent_at s at) n (value_in s at) (tokens_of s at (at + 17)) (item_room s at) (h / 40) few ic
        ∙ sym i

    popped_pushed : popped (pushed s at j) ≡ journal after j.used j.count
    unfolding pushed
    popped_pushed =
        let a : j.used + size_at s at - (17 + n * 40) ≡ j.used = omega arith in
        let b : j.count + 1 - 1 ≡ j.count = omega arith in
        let m = told_written in
        let d : j.used + size_at s at - size_at after (j.used + size_at s at - 17) ≡ j.used = ap (λ (x : ℕ). j.used + size_at s at - (17 + x * 40)) m ∙ a in
        λ i. journal after (d i) (b i)

    after_long : length after ≡ length j.bytes
    after_long = length_write j.used (entry_of s at) j.bytes (omega (arith, entry_long, room))

    pub push_long : length (pushed s at j).bytes ≡ length j.bytes
    unfolding pushed
    push_long = after_long

    used_fits : length after ≡ length j.bytes → (pushed s at j).used ≤ length (pushed s at j).bytes
    unfolding pushed
    used_fits long = omega (arith, long, room)

    counted : (m : ℕ) → j.count ≡ m → (pushed s at j).count ≡ suc m
    unfolding pushed
    counted m e = omega (arith, e)

    -- an entry that is pushed is the newest standing call, the others stand as before
    pub record Pushed (m : ℕ) : Type 0 where
      pub whole : Whole parents (suc m) (pushed s at j)
      pub stands : standing parents (suc m) (pushed s at j) ≡ call_then (item_at parents s at) (standing parents m j)

    pub push_whole : (m : ℕ) → j.count ≡ m → Whole parents m j → Pushed m
    unfolding Whole standing
    push_whole m e w =
        let long = after_long in
        let k = whole_below m j.bytes after j.used j.count below_kept (omega (arith, long, room)) w in
        let x = newest_pushed in
        let p = popped_pushed in
        record {
          whole = (subst IsCall (sym x) c, used_fits long, counted m e, subst (Whole parents m) (sym p) k.whole);
          stands = λ i. call_then (x i) ((ap (standing parents m) p ∙ sym k.same) i);
        }
