-- An accepted record has the bytes that `write_indexed_address` gives its content (document 02, U5): two accepted records are equal in bytes exactly when
-- their contents are. The spans of the hash, the flag, the balance and the segment are put together as those of a row are.
use Prim.Native.Nat.{ℕ, zero, suc, ◌+◌, ◌-◌, ◌*◌, ◌/◌, ◌≤◌, ◌<◌}
use mathlib.Core.Path.{◌≡◌, refl, sym, ap, ap₂, ◌∙◌}
use mathlib.Core.Bool.{Bool, true, false, cond, ◌&&◌}
use mathlib.Core.List.{List, [], ◌∷◌, ◌++◌}
use native.Mathlib.Omega.{arith}
use lib.Dec.{leb, ltb, eqb}
use lib.IntN.{ℤ, pos, negsuc}
use lib.ListN.{length, take, drop, get_or, replicate, length-append}
use lib.Seq.{take_all, take_at, drop_at, take-append_seam, drop-cons}
use borrow.Author.Tests.{le-leb, leb-true, ltb-true, eqb-true}
use Rattle.stores.specs.Stores.{write}
use Rattle.std.specs.Prelude.{Ok, Err}
use Rattle.refusal.specs.Answers.{Answer}
use Rattle.vlq_core.specs.Zigzag.{zig, zag}
use Rattle.vlq_core.specs.Groups.{enc}
use Rattle.vlq_core.specs.Answers.{Got}
use Rattle.vlq_core.specs.Reading.{read_at, signed_of}
use Rattle.vlq_core.proofs.UniqueLaws.{Bytes}
use Rattle.segment_core.specs.Row.{row_bytes}
use Rattle.segment_core.specs.Reading.{Seg, seg, no_seg, segment_at, ended}
use Rattle.segment_core.specs.Loading.{padded}
use Rattle.segment_core.proofs.UniqueLaws.{Span, none, both, number, Last, LastSpan, last_span, listed, listed_size}
use Rattle.segment.specs.Calls.{held}
use Rattle.segment.proofs.CallLaws.{held_listed}
use Rattle.balance.specs.declared.Balance.{Balance}
use Rattle.address_core.specs.declared.IndexedAddress.{IndexedAddress}
use Rattle.address_core.specs.Bytes.{token_bytes, tokens_bytes, balance_bytes, flagged_bytes, address_bytes}
use Rattle.address_core.specs.Reading.{Token, token, no_token, token_at, Tokens, tokens, no_tokens, cons_token, token_then, tokens_at, count_of, count_at, tokens_from, Balanced, balanced, no_balance, with_nanos, balance_at, flagged_at}
use Rattle.address_core.specs.Writing.{buffers_ok}
use Rattle.address_core.specs.Loading.{AddressLoading, loading, balance_of, refused_with, load_segment, load_balance, load_address}
use Rattle.address_core.proofs.BytesLaws.{address_taken}
use Rattle.address_core.proofs.TokenLaws.{Sized, sized, Counted, counted}
use Rattle.address_core.proofs.CountLaws.{count_most}

module _ (s : List ℕ) (all : Bytes s) where
  -- k bytes, whatever they are
  cut : (at k : ℕ) → Span s all at (at + k) (take k (drop at s))
  cut at k = record { past = omega arith; is = let e : at + k - at ≡ k = omega arith in rw e refl }

  byte : (at : ℕ) → at < length s → Span s all at (at + 1) (get_or s at 0 ∷ [])
  byte at h = record { past = omega arith; is = let e : at + 1 - at ≡ 1 = omega arith in rw (e, drop-cons s at 0 h) refl }

  -- ---- tokens

  abbrev TokenSpan : ℕ → Token → Type 0
  TokenSpan at (token id z n) = Span s all at n (token_bytes id z)
  TokenSpan at (no_token r) = Unit {0}

  token_span : (at : ℕ) → TokenSpan at (token_at s at)
  unfolding token_at
  token_span at = by_room (leb (at + 32) (length s))
    where
      by_number : (g : Got) → read_at 64 s (at + 32) ≡ g → TokenSpan at (signed_of (token (take 32 (drop at s))) no_token g)
      by_number (Ok (v, n)) e = both s all at (at + 32) n (take 32 (drop at s)) (enc (zig (zag v))) (cut at 32) (number s all 64 (at + 32) v n e)
      by_number (Err r) e = tt

      by_room : (t : Bool) → TokenSpan at (cond t (signed_of (token (take 32 (drop at s))) no_token (read_at 64 s (at + 32))) (no_token 1))
      by_room true = by_number (read_at 64 s (at + 32)) refl
      by_room false = tt

  abbrev TokensSpan : ℕ → Tokens → Type 0
  TokensSpan at (tokens ids zs n) = Span s all at n (tokens_bytes ids zs)
  TokensSpan at (no_tokens r) = Unit {0}

  tokens_span : (k at : ℕ) → TokensSpan at (tokens_at k s at)
  unfolding tokens_at tokens_bytes
  tokens_span zero at = none s all at
  tokens_span (suc k) at = by_token (token_at s at) (sized s at) (token_span at) (λ n. tokens_span k n)
    where
      more : (id : List ℕ) (z : ℤ) (n : ℕ) → length id ≡ 32 → Span s all at n (token_bytes id z) → (ts : Tokens) → TokensSpan n ts → TokensSpan at (cons_token id z ts)
      more id z n h p (tokens ids zs m) q = rw (take_at id ids 32 h, drop_at id ids 32 h) (both s all at n m (token_bytes id z) (tokens_bytes ids zs) p q)
      more id z n h p (no_tokens r) q = tt

      by_token : (g : Token) → Sized g → TokenSpan at g → ((n : ℕ) → TokensSpan n (tokens_at k s n)) → TokensSpan at (token_then (λ id z n. cons_token id z (tokens_at k s n)) g)
      by_token (token id z n) w p rest = more id z n w p (tokens_at k s n) (rest n)
      by_token (no_token r) w p rest = tt

  abbrev CountSpan : ℕ → Got → Type 0
  CountSpan at (Ok (k, n)) = Span s all at n (enc (zig (pos k)))
  CountSpan at (Err r) = Unit {0}

  count_span : (at : ℕ) → CountSpan at (count_at s at)
  unfolding count_at
  count_span at = by_answer (read_at 32 s at) refl
    where
      by_tests : (p q : Bool) (k n : ℕ) → Span s all at n (enc (zig (pos k))) → CountSpan at (cond p (Err 5) (cond q (Err 24) (Ok (k, n))))
      by_tests true q k n x = tt
      by_tests false true k n x = tt
      by_tests false false k n x = x

      by_sign : (z : ℤ) (n : ℕ) → Span s all at n (enc (zig z)) → CountSpan at (count_of s z n)
      by_sign (pos k) n x = by_tests (ltb ((length s - n) / 33) k) (ltb 128 k) k n x
      by_sign (negsuc k) n x = tt

      by_answer : (g : Got) → read_at 32 s at ≡ g → CountSpan at (signed_of (count_of s) Err g)
      by_answer (Ok (v, n)) e = by_sign (zag v) n (number s all 32 at v n e)
      by_answer (Err r) e = tt

  -- ---- a balance, and its flag

  -- the bytes bs from `at` to n, which say a balance of so many tokens
  pub record Held (at n : ℕ) (ids : List ℕ) (zs : List ℤ) (bs : List ℕ) : Type 0 where
    pub span : Span s all at n bs
    pub few : length zs ≤ 128
    pub keys : length ids ≡ length zs * 32

  abbrev BalanceSpan : ℕ → Balanced → Type 0
  BalanceSpan at (balanced has nanos ids zs n) = (has ≡ true) × Held at n ids zs (balance_bytes nanos ids zs)
  BalanceSpan at (no_balance r) = Unit {0}

  balance_span : (at : ℕ) → BalanceSpan at (balance_at s at)
  unfolding balance_at
  balance_span at = by_nanos (read_at 64 s at) refl
    where
      by_tokens : (z : ℤ) (m k n : ℕ) → Span s all at m (enc (zig z)) → Span s all m n (enc (zig (pos k))) → k ≤ 128 → (ts : Tokens) → Counted k ts → TokensSpan n ts
          → BalanceSpan at (with_nanos z ts)
      by_tokens z m k n p q h (tokens ids zs o) c r = (
        refl,
        record {
          span = both s all at m o (enc (zig z)) (enc (zig (pos (length zs))) ++ tokens_bytes ids zs) p
              (both s all m n o (enc (zig (pos (length zs)))) (tokens_bytes ids zs) (rw c.0 q) r);
          few = omega (arith, c.0);
          keys = omega (arith, c.0, c.1);
        },
      )
      by_tokens z m k n p q h (no_tokens r) c x = tt

      by_count : (z : ℤ) (m : ℕ) → Span s all at m (enc (zig z)) → (g : Got) → count_at s m ≡ g → CountSpan m g → BalanceSpan at (with_nanos z (tokens_from s g))
      by_count z m p (Ok (k, n)) e q = by_tokens z m k n p q (count_most s m k n e) (tokens_at k s n) (counted k s n) (tokens_span k n)
      by_count z m p (Err r) e q = tt

      by_nanos : (g : Got) → read_at 64 s at ≡ g → BalanceSpan at (signed_of (λ z n. with_nanos z (tokens_from s (count_at s n))) no_balance g)
      by_nanos (Ok (v, n)) e = by_count (zag v) n (number s all 64 at v n e) (count_at s n) refl (count_span n)
      by_nanos (Err r) e = tt

  abbrev pub FlaggedSpan : ℕ → Balanced → Type 0
  FlaggedSpan at (balanced has nanos ids zs n) = Held at n ids zs (flagged_bytes has nanos ids zs)
  FlaggedSpan at (no_balance r) = Unit {0}

  pub flagged_span : (at : ℕ) → FlaggedSpan at (flagged_at s at)
  unfolding flagged_at flagged_bytes
  flagged_span at = by_byte (ltb at (length s)) refl
    where
      with_flag : Span s all at (at + 1) (1 ∷ []) → (g : Balanced) → BalanceSpan (at + 1) g → FlaggedSpan at g
      with_flag p (balanced has nanos ids zs n) q = rw q.0 (record {
        span = both s all at (at + 1) n (1 ∷ []) (balance_bytes nanos ids zs) p q.1.span;
        few = q.1.few;
        keys = q.1.keys;
      })
      with_flag p (no_balance r) q = tt

      by_flag : at < length s → (x y : Bool) → eqb (get_or s at 0) 0 ≡ x → eqb (get_or s at 0) 1 ≡ y
          → FlaggedSpan at (cond x (balanced false (pos 0) [] [] (at + 1)) (cond y (balance_at s (at + 1)) (no_balance 7)))
      by_flag h true y e f = record { span = rw (eqb-true (get_or s at 0) 0 e) at (byte at h); few = omega arith; keys = refl }
      by_flag h false true e f = with_flag (rw (eqb-true (get_or s at 0) 1 f) at (byte at h)) (balance_at s (at + 1)) (balance_span (at + 1))
      by_flag h false false e f = tt

      by_byte : (x : Bool) → ltb at (length s) ≡ x
          → FlaggedSpan at (cond x (cond (eqb (get_or s at 0) 0) (balanced false (pos 0) [] [] (at + 1)) (cond (eqb (get_or s at 0) 1) (balance_at s (at + 1)) (no_balance 7))) (no_balance 1))
      by_byte true e = by_flag (ltb-true at (length s) e) (eqb (get_or s at 0) 0) (eqb (get_or s at 0) 1) refl refl
      by_byte false e = tt

-- ---- what a record holds: its address, and the numbers in use of both lists

pub record Content : Type 0 where
  pub address : IndexedAddress
  pub txs : List ℤ
  pub boxes : List ℤ

abbrev pub content : AddressLoading → Content
content w = record { address = w.answer.address; txs = take w.answer.address.txs w.txs; boxes = take w.answer.address.boxes w.boxes }

-- the record that is written of it
abbrev pub content_bytes : Content → List ℕ
content_bytes c =
    address_bytes c.address.hash c.address.has_balance c.address.balance.nanos c.address.balance.ids (take c.address.balance.count c.address.balance.amounts)
    (row_bytes c.txs c.boxes c.address.box_segment_count c.address.tx_segment_count)

-- the record s is what is written of what was read of it, and a writer takes it
pub record Again (s : List ℕ) (w : AddressLoading) : Type 0 where
  pub same : s ≡ content_bytes (content w)
  pub taken : buffers_ok w.answer.address.txs (length w.txs) w.answer.address.boxes (length w.boxes) w.answer.address.balance.count ≡ true

module _ (s : List ℕ) (all : Bytes s) (l m : List ℤ) (i : 512 ≤ length l) (j : 512 ≤ length m) where
  pub again : (load_address s l m).answer.answer ≡ (Ok tt) → Again s (load_address s l m)
  unfolding load_address address_bytes buffers_ok
  again h = by_size (leb 32 (length s)) refl h
    where
      by_parts : (has : Bool) (nanos : ℤ) (ids : List ℕ) (zs : List ℤ) (n : ℕ) → Held s all 32 n ids zs (flagged_bytes has nanos ids zs) → (ts bs : List ℤ) (b t : ℤ) → Last s all n ts bs b t
          → s ≡ address_bytes (take 32 s) has nanos ids zs (row_bytes ts bs b t)
      by_parts has nanos ids zs n f ts bs b t r =
          let p = both s all 0 32 (length s) (take 32 s) (flagged_bytes has nanos ids zs ++ row_bytes ts bs b t) (cut s all 0 32)
          (both s all 32 n (length s) (flagged_bytes has nanos ids zs) (row_bytes ts bs b t) f.span r.span) in
          sym (take_all (length s - 0) s (omega arith)) ∙ p.is

      by_segment : (has : Bool) (nanos : ℤ) (ids : List ℕ) (zs : List ℤ) (n : ℕ) → Held s all 32 n ids zs (flagged_bytes has nanos ids zs) → (g : Seg) → LastSpan s all n g
          → (load_segment (take 32 s) has (balance_of nanos ids zs) l m g).answer.answer ≡ (Ok tt) → Again s (load_segment (take 32 s) has (balance_of nanos ids zs) l m g)
      by_segment has nanos ids zs n f (seg ts bs b t k) r h =
          let row : List ℕ = row_bytes ts bs b t in
          let ids' : List ℕ = ids ++ replicate (4096 - length ids) 0 in
          let fill : List ℤ = replicate (128 - length zs) (pos 0) in
          let keys : length zs * 32 ≤ length ids' = omega (arith, f.keys, length-append ids (replicate (4096 - length ids) 0)) in
          let e : address_bytes (take 32 s) has nanos ids' zs row ≡ address_bytes (take 32 s) has nanos ids zs row
          = address_taken (take 32 s) has nanos ids' zs row keys
          ∙ ap (λ (x : List ℕ). address_bytes (take 32 s) has nanos x zs row) (take_at ids (replicate (4096 - length ids) 0) (length zs * 32) f.keys) in
          record {
            same = rw (take-append_seam zs fill, listed ts l, listed bs m) (by_parts has nanos ids zs n f ts bs b t r ∙ sym e);
            taken = rw (held_listed ts l r.content.txs_few i, held_listed bs m r.content.boxes_few j, le-leb (length zs) 128 f.few) refl;
          }
      by_segment has nanos ids zs n f (no_seg x) r h = let y : ◌≡◌ {A = ℕ} 0 1 = cc in absurd (omega arith)

      by_balance : (b : Balanced) → FlaggedSpan s all 32 b → (load_balance s l m b).answer.answer ≡ (Ok tt) → Again s (load_balance s l m b)
      by_balance (balanced has nanos ids zs n) f h = by_segment has nanos ids zs n f (ended true (length s) (segment_at s n)) (last_span s all n) h
      by_balance (no_balance x) f h = let y : ◌≡◌ {A = ℕ} 0 1 = cc in absurd (omega arith)

      by_size : (x : Bool) → leb 32 (length s) ≡ x → (cond x (load_balance s l m (flagged_at s 32)) (loading (refused_with 1) l m)).answer.answer ≡ Ok tt
          → Again s (cond x (load_balance s l m (flagged_at s 32)) (loading (refused_with 1) l m))
      by_size true e h = by_balance (flagged_at s 32) (flagged_span s all 32) h
      by_size false e h = let y : ◌≡◌ {A = ℕ} 0 1 = cc in absurd (omega arith)

-- what a record holds is said by its bytes only, not by what the borrowed lists held
pub content_only : (s : List ℕ) (l m l' m' : List ℤ) → content (load_address s l m) ≡ content (load_address s l' m')
unfolding load_address
content_only s l m l' m' = by_size (leb 32 (length s))
  where
    by_segment : (has : Bool) (bal : Balance) (g : Seg) → content (load_segment (take 32 s) has bal l m g) ≡ content (load_segment (take 32 s) has bal l' m' g)
    by_segment has bal (seg ts bs b t n) = rw (listed ts l, listed bs m, listed ts l', listed bs m') refl
    by_segment has bal (no_seg r) = refl

    by_balance : (b : Balanced) → content (load_balance s l m b) ≡ content (load_balance s l' m' b)
    by_balance (balanced has nanos ids zs n) = by_segment has (balance_of nanos ids zs) (ended true (length s) (segment_at s n))
    by_balance (no_balance r) = refl

    by_size : (x : Bool) → content (cond x (load_balance s l m (flagged_at s 32)) (loading (refused_with 1) l m)) ≡ content (cond x (load_balance s l' m' (flagged_at s 32)) (loading (refused_with 1) l' m'))
    by_size true = by_balance (flagged_at s 32)
    by_size false = refl
