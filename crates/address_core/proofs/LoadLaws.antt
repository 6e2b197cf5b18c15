-- Laws of reading a balance, its flag, and the record, one for each way out.
use Prim.Native.Nat.{ℕ, ◌+◌, ◌-◌, ◌≤◌, ◌<◌}
use mathlib.Core.Path.{◌≡◌, refl, sym, ap, ◌∙◌}
use mathlib.Core.Bool.{Bool, true, false, cond, ◌&&◌}
use mathlib.Core.List.{List, [], ◌++◌}
use native.Mathlib.Omega.{arith}
use lib.Dec.{leb, ltb, eqb}
use lib.IntN.{ℤ, pos}
use lib.ListN.{length, take, get_or, replicate, length-replicate}
use lib.Seq.{sets}
use borrow.Author.Tests.{lt-ltb, le-ltb, le-leb, lt-leb, ne_eqb}
use Rattle.stores.proofs.PutLaws.{sets_front}
use Rattle.std.specs.Prelude.{Ok, Err}
use Rattle.vlq_core.specs.Answers.{Got}
use Rattle.vlq_core.specs.Reading.{read_at, signed_of, long_of}
use Rattle.vlq_core.proofs.ReadLaws.{long_number, long_refused}
use Rattle.segment_core.specs.Answers.{Part}
use Rattle.index_types.specs.declared.Loaded.{Loaded}
use Rattle.index_types.specs.declared.Loaded.TheVariants as loaded
use Rattle.segment_core.specs.Reading.{Seg, seg, no_seg, segment_at, ended}
use Rattle.segment_core.specs.Loading as segment_loading
use Rattle.segment_core.proofs.ListLaws.{drop_replicate}
use Rattle.address_core.specs.declared.AddressRead.{AddressRead}
use Rattle.address_core.specs.Answers.{Flagged}
use Rattle.address_core.specs.Reading.{Tokens, tokens, no_tokens, tokens_at, tokens_from, count_at, Balanced, balanced, no_balance, with_nanos, balance_at, flagged_at}
use Rattle.address_core.specs.Loading.{loading, balance_of, refused_with, load_segment, load_balance, load_address, read_address}
use Rattle.address_core.specs.Internal.{TokensInto, BalanceInto}
use Rattle.address_core.proofs.TokenLaws.{Counted, counted}
use Rattle.address_core.proofs.CountLaws.{count_most}
use Rattle.index_types.proofs.AnswerLaws.{pair_same, four_same}

-- ---- a balance

module _ (s : List ℕ) (at : ℕ) (ids₀ : List ℕ) (zs₀ : List ℤ) (ids : List ℕ) (zs : List ℤ) where
  tokens_behind : ℤ → ℕ → Balanced
  tokens_behind z n = with_nanos z (tokens_from s (count_at s n))

  pub nanos_bad : (x : ℕ) → long_of (read_at 64 s at) ≡ Err x → BalanceInto (balance_at s at) ids₀ zs₀ (Err x) ids zs
  unfolding balance_at tokens_behind
  nanos_bad x e = rw (long_refused tokens_behind no_balance (read_at 64 s at) x e) refl

  module _ (z : ℤ) (p : ℕ) (e : long_of (read_at 64 s at) ≡ Ok (z, p)) (g : Got) (f : g ≡ count_at s p) where
    behind : balance_at s at ≡ with_nanos z (tokens_from s g)
    unfolding balance_at tokens_behind
    behind = long_number tokens_behind no_balance (read_at 64 s at) z p e ∙ ap (λ (h : Got). with_nanos z (tokens_from s h)) (sym f)

    pub number_bad : (x : ℕ) → g ≡ Err x → BalanceInto (balance_at s at) ids₀ zs₀ (Err x) ids zs
    number_bad x d = rw (behind, d) refl

    -- r is what the reader of the tokens answered, x what a local holds of the nanoErgs z
    module _ (k n : ℕ) (d : g ≡ Ok (k, n)) (r : Part) (t : TokensInto k (tokens_at k s n) 0 ids₀ zs₀ r ids zs) where
      pub tokens_refused : (x : ℕ) → r ≡ Err x → BalanceInto (balance_at s at) ids₀ zs₀ (Err x) ids zs
      tokens_refused x q = rw (behind, d) (by_tokens (tokens_at k s n) t)
        where
          by_tokens : (ts : Tokens) → TokensInto k ts 0 ids₀ zs₀ r ids zs → BalanceInto (with_nanos z ts) ids₀ zs₀ (Err x) ids zs
          by_tokens (tokens is vs m) u = let y : ◌≡◌ {A = ℕ} 0 1 = cc in absurd (omega arith)
          by_tokens (no_tokens y) u = let w : x ≡ y = cc in ap Err w

      pub tokens_listed : (x : ℤ) → x ≡ z → (j m : ℕ) → r ≡ Ok (j, m) → BalanceInto (balance_at s at) ids₀ zs₀ (Ok (true, x, j, m)) ids zs
      tokens_listed x i j m q = rw (behind, d, i) (by_tokens (tokens_at k s n) (counted k s n) t)
        where
          by_tokens : (ts : Tokens) → Counted k ts → TokensInto k ts 0 ids₀ zs₀ r ids zs → BalanceInto (with_nanos z ts) ids₀ zs₀ (Ok (true, z, j, m)) ids zs
          by_tokens (tokens is vs o) w u =
              let y = pair_same (sym q ∙ u.0) in
              let a : j ≡ k = y.0 in
              let b : m ≡ o = y.1 in
              (rw (a, b, w.0), u.1, u.2)
          by_tokens (no_tokens y) w u = let v : ◌≡◌ {A = ℕ} 0 1 = cc in absurd (omega arith)

-- ---- the flag

module _ (s : List ℕ) (at : ℕ) (ids₀ : List ℕ) (zs₀ : List ℤ) where
  pub flag_cut : length s ≤ at → (ids : List ℕ) (zs : List ℤ) → BalanceInto (flagged_at s at) ids₀ zs₀ (Err 1) ids zs
  unfolding flagged_at
  flag_cut h ids zs = rw (le-ltb at (length s) h) refl

  module _ (h : at < length s) where
    pub flag_0 : get_or s at 0 ≡ 0 → BalanceInto (flagged_at s at) ids₀ zs₀ (Ok (false, pos 0, 0, at + 1)) ids₀ zs₀
    unfolding flagged_at
    flag_0 e = rw (lt-ltb at (length s) h, e) (refl, refl, refl)

    pub flag_1 : get_or s at 0 ≡ 1 → (r : Flagged) (ids : List ℕ) (zs : List ℤ) → BalanceInto (balance_at s (at + 1)) ids₀ zs₀ r ids zs → BalanceInto (flagged_at s at) ids₀ zs₀ r ids zs
    unfolding flagged_at
    flag_1 e r ids zs p = rw (lt-ltb at (length s) h, e) p

    pub flag_7 : (get_or s at 0 ≡ 0 → ⊥) → (get_or s at 0 ≡ 1 → ⊥) → (ids : List ℕ) (zs : List ℤ) → BalanceInto (flagged_at s at) ids₀ zs₀ (Err 7) ids zs
    unfolding flagged_at
    flag_7 e f ids zs = rw (lt-ltb at (length s) h, ne_eqb (get_or s at 0) 0 e, ne_eqb (get_or s at 0) 1 f) refl

-- ---- what is read fits the buffers

abbrev Fits : Balanced → Type 0
Fits (balanced has nanos is vs n) = (length is ≤ 4096) × (length vs ≤ 128)
Fits (no_balance r) = Unit

balance_fits : (s : List ℕ) (at : ℕ) → Fits (balance_at s at)
unfolding balance_at
balance_fits s at = by_nanos (read_at 64 s at)
  where
    by_tokens : (z : ℤ) (k : ℕ) → k ≤ 128 → (ts : Tokens) → Counted k ts → Fits (with_nanos z ts)
    by_tokens z k h (tokens is vs n) c = (omega (arith, c.1), omega (arith, c.0))
    by_tokens z k h (no_tokens r) c = tt

    by_count : (z : ℤ) (n : ℕ) (g : Got) → count_at s n ≡ g → Fits (with_nanos z (tokens_from s g))
    by_count z n (Ok (k, m)) e = by_tokens z k (count_most s n k m e) (tokens_at k s m) (counted k s m)
    by_count z n (Err r) e = tt

    by_nanos : (g : Got) → Fits (signed_of (λ z n. with_nanos z (tokens_from s (count_at s n))) no_balance g)
    by_nanos (Ok (v, n)) = by_count _ n (count_at s n) refl
    by_nanos (Err r) = tt

flagged_fits : (s : List ℕ) (at : ℕ) → Fits (flagged_at s at)
unfolding flagged_at
flagged_fits s at = by_tests (ltb at (length s)) (eqb (get_or s at 0) 0) (eqb (get_or s at 0) 1)
  where
    by_tests : (p q r : Bool) → Fits (cond p (cond q (balanced false (pos 0) [] [] (at + 1)) (cond r (balance_at s (at + 1)) (no_balance 7))) (no_balance 1))
    by_tests true true r = (omega arith, omega arith)
    by_tests true false true = balance_fits s (at + 1)
    by_tests true false false = tt
    by_tests false q r = tt

-- ---- what an answer says of the balance that was read into buffers of zeros

pub record Found (s : List ℕ) (at : ℕ) (has : Bool) (nanos : ℤ) (count n : ℕ) (ids : List ℕ) (zs : List ℤ) : Type 0 where
  pub keys : List ℕ
  pub amounts : List ℤ
  pub is : flagged_at s at ≡ balanced has nanos keys amounts n
  pub size : count ≡ length amounts
  pub ids_are : ids ≡ keys ++ replicate (4096 - length keys) 0
  pub amounts_are : zs ≡ amounts ++ replicate (128 - length amounts) (pos 0)

padded : {A : Type 0} (m : ℕ) (a : A) (l : List A) → length l ≤ m → sets (replicate m a) 0 l ≡ l ++ replicate (m - length l) a
padded {A} m a l h = sets_front l (replicate m a) (rw length-replicate h) ∙ ap (λ (k : List A). l ++ k) (drop_replicate m (length l) a)

module _ (s : List ℕ) (at : ℕ) (r : Flagged) (ids : List ℕ) (zs : List ℤ) (p : BalanceInto (flagged_at s at) (replicate 4096 0) (replicate 128 (pos 0)) r ids zs) where
  pub found : (has : Bool) (nanos : ℤ) (count n : ℕ) → r ≡ Ok (has, nanos, count, n) → Found s at has nanos count n ids zs
  found has nanos count n e = by_answer (flagged_at s at) refl (flagged_fits s at) p
    where
      by_answer : (b : Balanced) → flagged_at s at ≡ b → Fits b → BalanceInto b (replicate 4096 0) (replicate 128 (pos 0)) r ids zs → Found s at has nanos count n ids zs
      by_answer (balanced has' nanos' is vs m) f g q =
          let y = four_same (sym q.0 ∙ e) in
          let y₀ : has' ≡ has = y.0 in
          let y₁ : nanos' ≡ nanos = y.1 in
          let y₃ : m ≡ n = y.3 in
          let a : balanced has' nanos' is vs m ≡ balanced has nanos is vs n = cc in
          let b : count ≡ length vs = sym y.2 in
          record {
            keys = is;
            amounts = vs;
            is = f ∙ a;
            size = b;
            ids_are = q.1 ∙ padded 4096 0 is g.0;
            amounts_are = q.2 ∙ padded 128 (pos 0) vs g.1;
          }
      by_answer (no_balance x) f g q = let y : ◌≡◌ {A = ℕ} 0 1 = cc in absurd (omega arith)

  pub not_found : (x : ℕ) → r ≡ Err x → flagged_at s at ≡ no_balance x
  not_found x e = by_answer (flagged_at s at) refl p
    where
      by_answer : (b : Balanced) → flagged_at s at ≡ b → BalanceInto b (replicate 4096 0) (replicate 128 (pos 0)) r ids zs → b ≡ no_balance x
      by_answer (balanced has nanos is vs m) f q = let y : ◌≡◌ {A = ℕ} 0 1 = cc in absurd (omega arith)
      by_answer (no_balance y) f q = let z : y ≡ x = cc in ap no_balance z

-- ---- the record

-- an accepted answer, its address given by what the locals of the reader hold
abbrev pub answer_with : (hash : List ℕ) → Bool → (ids : List ℕ) → List ℤ → (count : ℕ) → (nanos : ℤ) → (txs boxes : ℕ) → (b t : ℤ) → AddressRead
answer_with hash has ids zs count nanos j k b t = record {
  answer = Ok tt;
  address = record {
    hash = hash;
    has_balance = has;
    balance = record { ids = ids; amounts = zs; count = count; nanos = nanos };
    txs = j;
    boxes = k;
    box_segment_count = b;
    tx_segment_count = t;
  };
}

abbrev answer_of : segment_loading.Loading → Loaded
answer_of w = w.answer

abbrev txs_of : segment_loading.Loading → List ℤ
txs_of w = w.txs

abbrev boxes_of : segment_loading.Loading → List ℤ
boxes_of w = w.boxes

module _ (s : List ℕ) (l m : List ℤ) where
  pub address_cut : length s < 32 → loading (refused_with 1) l m ≡ load_address s l m
  unfolding load_address
  address_cut h = rw (lt-leb 32 (length s) h)

  module _ (h : 32 ≤ length s) where
    whole : (b : Balanced) → flagged_at s 32 ≡ b → load_balance s l m b ≡ load_address s l m
    unfolding load_address
    whole b e = rw (le-leb 32 (length s) h, e)

    pub address_no_balance : (x : ℕ) → flagged_at s 32 ≡ no_balance x → loading (refused_with x) l m ≡ load_address s l m
    address_no_balance x e = whole (no_balance x) e

    module _ (has : Bool) (nanos : ℤ) (count n : ℕ) (ids : List ℕ) (zs : List ℤ) (f : Found s 32 has nanos count n ids zs)
        (a : Loaded) (l' m' : List ℤ) (e : segment_loading.loading a l' m' ≡ segment_loading.load (ended true (length s) (segment_at s n)) l m) where
      pub address_no_segment : (x : ℕ) → a ≡ loaded.Refused x → loading (refused_with x) l' m' ≡ load_address s l m
      address_no_segment x d = by_segment (ended true (length s) (segment_at s n)) e ∙ whole _ f.is
        where
          by_segment : (g : Seg) → segment_loading.loading a l' m' ≡ segment_loading.load g l m
              → loading (refused_with x) l' m' ≡ load_segment (take 32 s) has (balance_of nanos f.keys f.amounts) l m g
          by_segment (seg ts bs b t k) q =
              let r : loaded.Refused x ≡ loaded.Read (length ts) (length bs) b t k = sym d ∙ ap answer_of q in
              let y : ◌≡◌ {A = ℕ} 0 1 = cc in
              absurd (omega arith)
          by_segment (no_seg y) q =
              let r : loaded.Refused x ≡ loaded.Refused y = sym d ∙ ap answer_of q in
              let u : x ≡ y = cc in
              rw (u, ap txs_of q, ap boxes_of q)

      -- x, y and z are what locals hold of the nanoErgs and the spill counts
      pub address_read : (j k : ℕ) (b t : ℤ) (o : ℕ) → a ≡ loaded.Read j k b t o → (x y z : ℤ) → x ≡ nanos → y ≡ b → z ≡ t → (hash : List ℕ) → hash ≡ take 32 s
          → loading (answer_with hash has ids zs count x j k y z) l' m' ≡ load_address s l m
      address_read j k b t o d x y z xe ye ze hash he = by_segment (ended true (length s) (segment_at s n)) e ∙ whole _ f.is
        where
          by_segment : (g : Seg) → segment_loading.loading a l' m' ≡ segment_loading.load g l m
              → loading (answer_with hash has ids zs count x j k y z) l' m' ≡ load_segment (take 32 s) has (balance_of nanos f.keys f.amounts) l m g
          by_segment (seg ts bs b' t' o') q =
              let r : loaded.Read j k b t o ≡ loaded.Read (length ts) (length bs) b' t' o' = sym d ∙ ap answer_of q in
              let j' : j ≡ length ts = cc in
              let k' : k ≡ length bs = cc in
              let b'' : b ≡ b' = cc in
              let t'' : t ≡ t' = cc in
              rw (he, xe, ye, ze, f.ids_are, f.amounts_are, f.size, j', k', b'', t'', ap txs_of q, ap boxes_of q)
          by_segment (no_seg y') q =
              let r : loaded.Read j k b t o ≡ loaded.Refused y' = sym d ∙ ap answer_of q in
              let u : ◌≡◌ {A = ℕ} 0 1 = cc in
              absurd (omega arith)

-- ---- the call

module _ (s : List ℕ) (l m : List ℤ) where
  pub call_25 : leb (length s) 15675 && (leb 512 (length l) && leb 512 (length m)) ≡ false → loading (refused_with 25) l m ≡ read_address s l m
  unfolding read_address
  call_25 h = rw h

  pub call_25_row : 15675 < length s → loading (refused_with 25) l m ≡ read_address s l m
  call_25_row h = call_25 (rw (lt-leb (length s) 15675 h))

  module _ (h : length s ≤ 15675) where
    pub call_25_txs : length l < 512 → loading (refused_with 25) l m ≡ read_address s l m
    call_25_txs i = call_25 (rw (le-leb (length s) 15675 h, lt-leb 512 (length l) i))

    module _ (i : 512 ≤ length l) where
      pub call_25_boxes : length m < 512 → loading (refused_with 25) l m ≡ read_address s l m
      call_25_boxes j = call_25 (rw (le-leb (length s) 15675 h, le-leb 512 (length l) i, lt-leb 512 (length m) j))

      pub call_on : 512 ≤ length m → load_address s l m ≡ read_address s l m
      unfolding read_address
      call_on j = rw (le-leb (length s) 15675 h, le-leb 512 (length l) i, le-leb 512 (length m) j)
