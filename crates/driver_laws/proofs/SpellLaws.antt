-- What was spelled is read back.
use mathlib.Core.Path.{◌≡◌, refl, sym, ap, ◌∙◌}
use mathlib.Core.Bool.{Bool, true, false, cond}
use mathlib.Core.List.{List, [], ◌∷◌, ◌++◌, append_assoc}
use Prim.Native.Nat.{ℕ, zero, suc, ◌+◌, ◌*◌, ◌-◌, ◌/◌, ◌≤◌, ◌<◌}
use native.Mathlib.Omega.{arith}
use borrow.Author.Tests.{le-ltb, lt-leb, le-leb, lt-ltb}
use lib.Dec.{eqb, leb, ltb}
use lib.IntN.{ℤ, pos, negsuc}
use lib.Signed.{mag}
use lib.ListN.{length, take, drop, get_or, length-append, length-drop}
use lib.Seq.{take_at, drop_at, drop-drop, get_or-drop}
use Rattle.big_endian.specs.BigEndian.{byte, eight_bytes, value_of, value_at}
use Rattle.big_endian.proofs.ByteLaws.{length_eight, value_back}
use Rattle.vlq_core.proofs.UniqueLaws.{Bytes}
use Rattle.calls.specs.Calls.{signed_of, number_at}
use Rattle.ledger.specs.Ledger.{Typed}
use Rattle.ledger.specs.Calls.{Tokens, append, spend, credit, debit, boxes, txs}
use Rattle.ledger.specs.Run.{Step, call, undo, flush}
use Rattle.driver_core.specs.Steps.{token_ids}
use Rattle.driver_core.specs.Bytes.{Item, is, bad, cut, end, tokens_told, tokens_at, tokens_of, kind_at, is_change, plain, with_tokens, headed, item_at, size_at, item_then, items_at}
use Rattle.driver_laws.specs.Internal.{argument_limit}
use Rattle.driver_laws.specs.Spelling.{small_limit, four_bytes, bits_of, header, amount_bytes_of, change_bytes, step_bytes, spelled, IdBytes, Spellable, AllSpellable, SpellingLaw}
use Rattle.driver_laws.proofs.EntryLaws.{by_parts}

-- ---- numbers
length_four : (n : ℕ) → length (four_bytes n) ≡ 4
unfolding four_bytes
length_four n = refl

four_back : (n : ℕ) → n < small_limit → value_of 0 (four_bytes n) ≡ n
unfolding four_bytes value_of eight_bytes
four_back n h =
    let a : byte 7 n ≡ 0 = omega arith in
    let b : byte 6 n ≡ 0 = omega arith in
    let c : byte 5 n ≡ 0 = omega arith in
    let d : byte 4 n ≡ 0 = omega arith in
    let low : List ℕ = byte 3 n ∷ byte 2 n ∷ byte 1 n ∷ byte 0 n ∷ [] in
    (λ i. value_of 0 (sym a i ∷ sym b i ∷ sym c i ∷ sym d i ∷ low)) ∙ value_back n (omega arith)

bits_small : (z : ℤ) → mag z < argument_limit → bits_of z < 18446744073709551616
bits_small (pos n) h = omega (arith, h)
bits_small (negsuc n) h = omega arith

signed_back : (z : ℤ) → mag z < argument_limit → signed_of (bits_of z) ≡ z
signed_back (pos n) h = ap (λ (b : Bool). cond b (pos n) (negsuc (18446744073709551615 - n))) (lt-ltb n 9223372036854775808 h)
signed_back (negsuc n) h =
    let u : ℕ = 18446744073709551615 - n in
    let k : 9223372036854775808 ≤ u = omega (arith, h) in
    let q : 18446744073709551615 - u ≡ n = omega (arith, h) in
    ap (λ (b : Bool). cond b (pos u) (negsuc (18446744073709551615 - u))) (le-ltb u 9223372036854775808 k) ∙ ap negsuc q

number_back : (s : List ℕ) (at : ℕ) (z : ℤ) (l : List ℕ) → mag z < argument_limit → drop at s ≡ eight_bytes (bits_of z) ++ l → number_at s at ≡ z
unfolding number_at value_at
number_back s at z l h e =
    ap (λ (x : List ℕ). signed_of (value_of 0 (take 8 x))) e
    ∙ ap (λ (x : List ℕ). signed_of (value_of 0 x)) (take_at (eight_bytes (bits_of z)) l 8 (length_eight (bits_of z)))
    ∙ ap signed_of (value_back (bits_of z) (bits_small z h)) ∙ signed_back z h

small_back : (s : List ℕ) (at n : ℕ) (l : List ℕ) → n < small_limit → drop at s ≡ four_bytes n ++ l → value_of 0 (take 4 (drop at s)) ≡ n
small_back s at n l h e = ap (λ (x : List ℕ). value_of 0 (take 4 x)) e ∙ ap (value_of 0) (take_at (four_bytes n) l 4 (length_four n)) ∙ four_back n h

-- behind what stands at a place
pub behind : (s : List ℕ) (at k : ℕ) (x l : List ℕ) → length x ≡ k → drop at s ≡ x ++ l → drop (at + k) s ≡ l
behind s at k x l q e = sym (drop-drop k at s) ∙ ap (drop k) e ∙ drop_at x l k q

-- ---- tokens
ids_long : (ts : Tokens) → Typed ts → length (token_ids ts) ≡ length ts * 32
unfolding token_ids
ids_long [] m = refl
ids_long (x ∷ ts) m = omega (arith, length-append x.0 (token_ids ts), m.0, ids_long ts m.2)

amounts_long : (ts : Tokens) → length (amount_bytes_of ts) ≡ length ts * 8
unfolding amount_bytes_of
amounts_long [] = refl
amounts_long (x ∷ ts) = omega (arith, length-append (eight_bytes (bits_of x.1)) (amount_bytes_of ts), length_eight (bits_of x.1), amounts_long ts)

tokens_back : (ts : Tokens) → Typed ts → (s : List ℕ) (i a : ℕ) (l k : List ℕ) → drop i s ≡ token_ids ts ++ l → drop a s ≡ amount_bytes_of ts ++ k → tokens_at s i a (length ts) ≡ ts
unfolding tokens_at token_ids amount_bytes_of
tokens_back [] m s i a l k d e = refl
tokens_back (x ∷ ts) m s i a l k d e =
    let d₁ = d ∙ append_assoc x.0 (token_ids ts) l in
    let e₁ = e ∙ append_assoc (eight_bytes (bits_of x.1)) (amount_bytes_of ts) k in
    let id : take 32 (drop i s) ≡ x.0 = ap (take 32) d₁ ∙ take_at x.0 (token_ids ts ++ l) 32 m.0 in
    let n : number_at s a ≡ x.1 = number_back s a x.1 (amount_bytes_of ts ++ k) m.1 e₁ in
    let r = tokens_back ts m.2 s (i + 32) (a + 8) l k (behind s i 32 x.0 (token_ids ts ++ l) m.0 d₁)
    (behind s a 8 (eight_bytes (bits_of x.1)) (amount_bytes_of ts ++ k) (length_eight (bits_of x.1)) e₁) in
    λ j. (id j, n j) ∷ r j

-- ---- a header and its tokens at a place
header_long : (kind p : ℕ) (z : ℤ) (n : ℕ) → length (header kind p z n) ≡ 17
header_long kind p z n =
    omega (arith, length-append (four_bytes p) (eight_bytes (bits_of z) ++ four_bytes n), length-append (eight_bytes (bits_of z)) (four_bytes n), length_four p, length_four n, length_eight (bits_of z))

change_long : (kind p : ℕ) (z : ℤ) (ts : Tokens) → Typed ts → length (change_bytes kind p z ts) ≡ 17 + length ts * 40
change_long kind p z ts m =
    omega (arith, length-append (header kind p z (length ts)) (token_ids ts ++ amount_bytes_of ts), header_long kind p z (length ts), length-append (token_ids ts) (amount_bytes_of ts), ids_long ts m, amounts_long ts)

module _ (parents : ℕ) (s : List ℕ) (at kind p : ℕ) (z : ℤ) (ts : Tokens) (l : List ℕ) (hp : p < small_limit) (hz : mag z < argument_limit) (hn : length ts < small_limit) (m : Typed ts)
    (e : drop at s ≡ change_bytes kind p z ts ++ l) where
  abbrev n : ℕ
  n = length ts

  abbrev tail : List ℕ
  tail = token_ids ts ++ amount_bytes_of ts

  headed_back : drop at s ≡ (kind ∷ []) ++ (four_bytes p ++ (eight_bytes (bits_of z) ++ (four_bytes n ++ (tail ++ l))))
  headed_back =
      e ∙ ap (λ (x : List ℕ). kind ∷ x)
      (append_assoc (four_bytes p ++ (eight_bytes (bits_of z) ++ four_bytes n)) tail l
      ∙ append_assoc (four_bytes p) (eight_bytes (bits_of z) ++ four_bytes n) (tail ++ l)
      ∙ ap (λ (x : List ℕ). four_bytes p ++ x) (append_assoc (eight_bytes (bits_of z)) (four_bytes n) (tail ++ l)))

  at_parent : drop (at + 1) s ≡ four_bytes p ++ (eight_bytes (bits_of z) ++ (four_bytes n ++ (tail ++ l)))
  at_parent = behind s at 1 (kind ∷ []) _ refl headed_back

  at_value : drop (at + 5) s ≡ eight_bytes (bits_of z) ++ (four_bytes n ++ (tail ++ l))
  at_value = let q : at + 5 ≡ at + 1 + 4 = omega arith in ap (λ (k : ℕ). drop k s) q ∙ behind s (at + 1) 4 (four_bytes p) _ (length_four p) at_parent

  at_told : drop (at + 13) s ≡ four_bytes n ++ (tail ++ l)
  at_told = let q : at + 13 ≡ at + 5 + 8 = omega arith in ap (λ (k : ℕ). drop k s) q ∙ behind s (at + 5) 8 (eight_bytes (bits_of z)) _ (length_eight (bits_of z)) at_value

  at_ids : drop (at + 17) s ≡ token_ids ts ++ (amount_bytes_of ts ++ l)
  at_ids =
      let q : at + 17 ≡ at + 13 + 4 = omega arith in
      ap (λ (k : ℕ). drop k s) q ∙ behind s (at + 13) 4 (four_bytes n) _ (length_four n) at_told ∙ append_assoc (token_ids ts) (amount_bytes_of ts) l

  at_amounts : drop (at + 17 + n * 32) s ≡ amount_bytes_of ts ++ l
  at_amounts = behind s (at + 17) (n * 32) (token_ids ts) _ (ids_long ts m) at_ids

  kind_back : kind_at s at ≡ kind
  kind_back = let q : at ≡ at + 0 = omega arith in ap (λ (k : ℕ). get_or s k 0) q ∙ sym (get_or-drop at s 0 0) ∙ ap (λ (x : List ℕ). get_or x 0 0) headed_back

  told_back : tokens_told s at ≡ n
  told_back = small_back s (at + 13) n _ hn at_told

  tokens_same : tokens_of s at (at + 17) ≡ ts
  tokens_same = ap (λ (k : ℕ). tokens_at s (at + 17) (at + 17 + k * 32) k) told_back ∙ tokens_back ts m s (at + 17) (at + 17 + n * 32) _ _ at_ids at_amounts

  pub size_back : size_at s at ≡ length (change_bytes kind p z ts)
  size_back = ap (λ (k : ℕ). 17 + k * 40) told_back ∙ sym (change_long kind p z ts m)

  left_long : length s - at ≡ 17 + n * 40 + length l
  left_long = sym (length-drop at s) ∙ ap length e ∙ length-append (change_bytes kind p z ts) l ∙ ap (λ (k : ℕ). k + length l) (change_long kind p z ts m)

  abbrev room : ℕ
  room = (length s - at - 17) / 40

  pub room_back : ltb room n ≡ false
  room_back = le-ltb room n (omega (arith, left_long))

  pub item_back : item_at parents s at ≡ by_parts parents kind p n z ts room cut
  unfolding item_at
  item_back =
      let a : leb (length s) at ≡ false = lt-leb (length s) at (omega (arith, left_long)) in
      let b : ltb (length s - at) 17 ≡ false = le-ltb (length s - at) 17 (omega (arith, left_long)) in
      ap (λ (t : Bool). cond t end (cond (ltb (length s - at) 17) cut (headed parents s at room (at + 17) cut))) a
      ∙ ap (λ (t : Bool). cond t cut (headed parents s at room (at + 17) cut)) b
      ∙ (λ i. by_parts parents (kind_back i) (small_back s (at + 1) p _ hp at_parent i) (told_back i) (number_back s (at + 5) z _ hz at_value i) (tokens_same i) room cut)

-- ---- a step at a place
pub record Reads (parents : ℕ) (s : List ℕ) (at : ℕ) (t : Step) : Type 0 where
  pub item : item_at parents s at ≡ is t
  pub size : size_at s at ≡ length (step_bytes t)

module _ (parents : ℕ) (few : parents ≤ small_limit) (s : List ℕ) (at : ℕ) (l : List ℕ) where
  -- kinds 1 to 3
  plain_back : (kind p : ℕ) (z : ℤ) → p < parents → mag z < argument_limit → drop at s ≡ change_bytes kind p z [] ++ l
      → item_at parents s at ≡ cond (eqb kind 7) (is flush) (cond (is_change kind) (with_tokens kind p z []) (plain kind p z))
  plain_back kind p z h hz e =
      item_back parents s at kind p z [] l (omega (arith, h, few)) hz (omega arith) tt e
      ∙ (λ i. cond (eqb kind 7) (is flush) (cond (lt-leb parents p h i) bad (cond (is_change kind) (cond (room_back parents s at kind p z [] l (omega (arith, h, few)) hz (omega arith) tt e i) cut (with_tokens kind p z [])) (plain kind p z))))

  tokens_read : (kind p : ℕ) (z : ℤ) (ts : Tokens) → p < parents → mag z < argument_limit → length ts < small_limit → Typed ts → eqb kind 7 ≡ false → is_change kind ≡ true
      → drop at s ≡ change_bytes kind p z ts ++ l → item_at parents s at ≡ with_tokens kind p z ts
  tokens_read kind p z ts h hz hn m a b e =
      item_back parents s at kind p z ts l (omega (arith, h, few)) hz hn m e
      ∙ (λ i.
      cond (a i) (cond (eqb (length ts) 0) (is flush) bad)
      (cond (lt-leb parents p h i) bad
      (cond (b i) (cond (room_back parents s at kind p z ts l (omega (arith, h, few)) hz hn m e i) cut (with_tokens kind p z ts)) (cond (eqb (length ts) 0) (plain kind p z) bad))))

  pub step_back : (t : Step) → Spellable parents t → drop at s ≡ step_bytes t ++ l → Reads parents s at t
  step_back (call (append (boxes p) n)) k e =
      record { item = plain_back 1 p n k.0.0 k.0.1 e; size = size_back parents s at 1 p n [] l (omega (arith, k.0.0, few)) k.0.1 (omega arith) tt e }
  step_back (call (append (txs p) n)) k e =
      record { item = plain_back 2 p n k.0.0 k.0.1 e; size = size_back parents s at 2 p n [] l (omega (arith, k.0.0, few)) k.0.1 (omega arith) tt e }
  step_back (call (spend p n)) k e =
      record { item = plain_back 3 p n k.0.0 k.0.1 e; size = size_back parents s at 3 p n [] l (omega (arith, k.0.0, few)) k.0.1 (omega arith) tt e }
  step_back (call (credit p n ts)) k e =
      record {
        item = tokens_read 8 p n ts k.0.0 k.0.1.0 k.1.0 k.0.1.1 refl refl e;
        size = size_back parents s at 8 p n ts l (omega (arith, k.0.0, few)) k.0.1.0 k.1.0 k.0.1.1 e;
      }
  step_back (call (debit p n ts)) k e =
      record {
        item = tokens_read 9 p n ts k.0.0 k.0.1.0 k.1.0 k.0.1.1 refl refl e;
        size = size_back parents s at 9 p n ts l (omega (arith, k.0.0, few)) k.0.1.0 k.1.0 k.0.1.1 e;
      }
  step_back undo k e = absurd k
  step_back flush k e =
      record { item = item_back parents s at 7 0 (pos 0) [] l (omega arith) (omega arith) (omega arith) tt e; size = size_back parents s at 7 0 (pos 0) [] l (omega arith) (omega arith) (omega arith) tt e }

-- ---- all of them
step_long : (parents : ℕ) (t : Step) → Spellable parents t → 17 ≤ length (step_bytes t)
step_long parents (call (append (boxes p) n)) k = omega (arith, change_long 1 p n [] tt)
step_long parents (call (append (txs p) n)) k = omega (arith, change_long 2 p n [] tt)
step_long parents (call (spend p n)) k = omega (arith, change_long 3 p n [] tt)
step_long parents (call (credit p n ts)) k = omega (arith, change_long 8 p n ts k.0.1.1)
step_long parents (call (debit p n ts)) k = omega (arith, change_long 9 p n ts k.0.1.1)
step_long parents undo k = absurd k
step_long parents flush k = omega (arith, change_long 7 0 (pos 0) [] tt)

pub spelled_long : (parents : ℕ) (ts : List Step) → AllSpellable parents ts → length ts ≤ length (spelled ts)
unfolding AllSpellable spelled
spelled_long parents [] k = omega arith
spelled_long parents (t ∷ ts) k = omega (arith, length-append (step_bytes t) (spelled ts), step_long parents t k.0, spelled_long parents ts k.1)

module _ (parents : ℕ) (few : parents ≤ small_limit) (s : List ℕ) where
  items_back : (ts : List Step) → AllSpellable parents ts → (n at : ℕ) → length ts ≤ n → at ≤ length s → drop at s ≡ spelled ts → items_at parents s n at ≡ ts
  unfolding AllSpellable spelled items_at item_at
  items_back [] k zero at h g e = refl
  items_back [] k (suc n) at h g e =
      let q : length s ≤ at = omega (arith, length-drop at s, ap length e) in
      ap (λ (b : Bool). item_then (cond b end (cond (ltb (length s - at) 17) cut (headed parents s at ((length s - at - 17) / 40) (at + 17) cut))) (items_at parents s n (at + size_at s at))) (le-leb (length s) at q)
  items_back (t ∷ ts) k zero at h g e = absurd (omega (arith, h))
  items_back (t ∷ ts) k (suc n) at h g e =
      let r = step_back parents few s at (spelled ts) t k.0 e in
      let z = r.size in
      let more : drop (at + size_at s at) s ≡ spelled ts = ap (λ (x : ℕ). drop (at + x) s) z ∙ behind s at (length (step_bytes t)) (step_bytes t) (spelled ts) refl e in
      let fits : at + size_at s at ≤ length s = omega (arith, z, g, length-drop at s, ap length e, length-append (step_bytes t) (spelled ts)) in
      ap (λ (x : Item). item_then x (items_at parents s n (at + size_at s at))) r.item
      ∙ ap (λ (x : List Step). t ∷ x) (items_back ts k.1 n (at + size_at s at) (omega (arith, h)) fits more)

-- ---- the bytes are bytes
both_bytes : (a b : List ℕ) → Bytes a → Bytes b → Bytes (a ++ b)
both_bytes [] b h k = k
both_bytes (x ∷ a) b h k = (h.0, both_bytes a b h.1 k)

four_small : (n : ℕ) → Bytes (four_bytes n)
unfolding four_bytes
four_small n = (omega arith, (omega arith, (omega arith, (omega arith, tt))))

eight_small : (n : ℕ) → Bytes (eight_bytes n)
unfolding eight_bytes
eight_small n = (omega arith, (omega arith, (omega arith, (omega arith, (omega arith, (omega arith, (omega arith, (omega arith, tt))))))))

ids_small : (ts : Tokens) → IdBytes ts → Bytes (token_ids ts)
unfolding IdBytes token_ids
ids_small [] k = tt
ids_small (x ∷ ts) k = both_bytes x.0 (token_ids ts) k.0 (ids_small ts k.1)

amounts_small : (ts : Tokens) → Bytes (amount_bytes_of ts)
unfolding amount_bytes_of
amounts_small [] = tt
amounts_small (x ∷ ts) = both_bytes (eight_bytes (bits_of x.1)) (amount_bytes_of ts) (eight_small (bits_of x.1)) (amounts_small ts)

change_small : (kind p : ℕ) (z : ℤ) (ts : Tokens) → kind < 256 → IdBytes ts → Bytes (change_bytes kind p z ts)
change_small kind p z ts h k =
    both_bytes (header kind p z (length ts)) (token_ids ts ++ amount_bytes_of ts) (
      h,
      both_bytes (four_bytes p) (eight_bytes (bits_of z) ++ four_bytes (length ts)) (four_small p)
          (both_bytes (eight_bytes (bits_of z)) (four_bytes (length ts)) (eight_small (bits_of z)) (four_small (length ts))),
    )
    (both_bytes (token_ids ts) (amount_bytes_of ts) (ids_small ts k) (amounts_small ts))

step_small : (parents : ℕ) (t : Step) → Spellable parents t → Bytes (step_bytes t)
unfolding IdBytes
step_small parents (call (append (boxes p) n)) k = change_small 1 p n [] (omega arith) tt
step_small parents (call (append (txs p) n)) k = change_small 2 p n [] (omega arith) tt
step_small parents (call (spend p n)) k = change_small 3 p n [] (omega arith) tt
step_small parents (call (credit p n ts)) k = change_small 8 p n ts (omega arith) k.1.1
step_small parents (call (debit p n ts)) k = change_small 9 p n ts (omega arith) k.1.1
step_small parents undo k = absurd k
step_small parents flush k = change_small 7 0 (pos 0) [] (omega arith) tt

spelled_small : (parents : ℕ) (ts : List Step) → AllSpellable parents ts → Bytes (spelled ts)
unfolding AllSpellable spelled
spelled_small parents [] k = tt
spelled_small parents (t ∷ ts) k = both_bytes (step_bytes t) (spelled ts) (step_small parents t k.0) (spelled_small parents ts k.1)

pub spelling : SpellingLaw
spelling parents few ts k =
    (spelled_small parents ts k, items_back parents few (spelled ts) ts k (length (spelled ts) + 1) 0 (omega (arith, spelled_long parents ts k)) (omega arith) refl)
