-- A record has at most 15,675 bytes, and what was written is read back.
use Prim.Native.Nat.{ℕ, ◌+◌, ◌*◌, ◌-◌, ◌/◌, ◌≤◌, ◌<◌}
use mathlib.Core.Path.{◌≡◌, refl, sym, ap, ◌∙◌}
use mathlib.Core.Bool.{Bool, true, false}
use mathlib.Core.List.{List, [], ◌∷◌, ◌++◌, append_assoc, append-nil}
use native.Mathlib.Omega.{arith}
use lib.IntN.{ℤ, pos}
use lib.ListN.{length, take, drop, get_or, length-append, length-drop, take-append-drop}
use lib.Seq.{length-take-le, take_at, drop_at, get_or_at}
use borrow.Author.Tests.{le-leb, lt-ltb, le-ltb, eq-eqb}
use mir.Syntax.{w32, w64}
use mir.Val.{SFits}
use Rattle.vlq_core.specs.Zigzag.{zig}
use Rattle.vlq_core.specs.Groups.{enc}
use Rattle.std.specs.Prelude.{Ok, Err}
use Rattle.vlq_core.specs.Answers.{Got}
use Rattle.vlq_core.specs.Reading.{read_at, signed_of}
use Rattle.vlq_core.proofs.GroupLaws.{number_length}
use Rattle.vlq_core.proofs.BackLaws.{signed_back}
use Rattle.segment_core.specs.Row.{numbers_bytes, row_bytes, row_limit}
use Rattle.segment_core.specs.Reading.{seg, segment_at, ended}
use Rattle.segment_core.proofs.RowLaws.{length_size}
use Rattle.segment_core.proofs.BackLaws.{All64, Writable, numbers_some, first, second, second_at, segment_back}
use Rattle.segment_core.proofs.CodecLaws.{numbers_size, row_size}
use Rattle.balance.specs.declared.Balance.{Balance}
use Rattle.address_core.specs.Bytes.{token_bytes, tokens_bytes, balance_bytes, flagged_bytes, address_bytes}
use Rattle.index_types.specs.Limits.{address_limit}
use Rattle.address_core.specs.Reading.{token, no_token, token_at, Tokens, tokens, cons_token, token_then, tokens_at, count_of, count_at, tokens_from, Balanced, balanced, no_balance, with_nanos, balance_at, flagged_at}
use Rattle.address_core.specs.Loading.{balance_of, load_segment, load_balance, load_address, read_address}
use Rattle.address_core.proofs.BytesLaws.{tokens_length, balance_length, clear_length, set_length, address_length}
use Rattle.address_core.proofs.LoadLaws.{call_on}

-- ---- the most bytes of a record

-- what a record can hold of a balance
pub record Holds (nanos : ℤ) (ids : List ℕ) (zs : List ℤ) : Type 0 where
  pub few : length zs ≤ 128
  pub keys : length ids ≡ length zs * 32
  pub amounts : All64 zs
  pub ergs : SFits w64 nanos

pub flagged_size : (has : Bool) (nanos : ℤ) (ids : List ℕ) (zs : List ℤ) → Holds nanos ids zs → length (flagged_bytes has nanos ids zs) ≤ 5389
flagged_size false nanos ids zs h = omega (arith, clear_length false nanos ids zs refl)
flagged_size true nanos ids zs h =
    omega (
      arith,
      h.few,
      set_length true nanos ids zs refl,
      balance_length nanos ids zs (omega (arith, h.keys)),
      length-append (enc (zig (pos (length zs)))) (numbers_bytes zs),
      numbers_size zs h.amounts,
      (number_length w64 9 (omega arith) nanos h.ergs).1,
      length_size (length zs) (omega (arith, h.few)),
    )

-- 32 + 1 + 10 + 2 + 128 * 42 + 10,254
pub address_size : (hash : List ℕ) → length hash ≡ 32 → (has : Bool) (nanos : ℤ) (ids : List ℕ) (zs : List ℤ) → Holds nanos ids zs → (row : List ℕ) → length row ≤ row_limit
    → length (address_bytes hash has nanos ids zs row) ≤ address_limit
address_size hash k has nanos ids zs h row r = omega (arith, address_length hash has nanos ids zs row, flagged_size has nanos ids zs h)

-- ---- tokens

token_back : (id : List ℕ) (z : ℤ) → length id ≡ 32 → SFits w64 z → (s p q : List ℕ) (at : ℕ) → s ≡ p ++ (token_bytes id z ++ q) → length p ≡ at
    → token_at s at ≡ token id z (at + length (token_bytes id z))
unfolding token_at
token_back id z k f s p q at e d =
    let y : List ℕ = enc (zig z) in
    let e₁ = first s p id y q at e d in
    let e₂ = second s p id y q at e d in
    let d₂ : length (p ++ id) ≡ at + 32 = second_at s p id y q at e d ∙ ap (λ (n : ℕ). at + n) k in
    let h : at + 32 ≤ length s = omega (arith, ap length e₂, length-append (p ++ id) (y ++ q), d₂) in
    let t : take 32 (drop at s) ≡ id = ap (λ (l : List ℕ). take 32 (drop at l)) e₁ ∙ ap (take 32) (drop_at p (id ++ (y ++ q)) at d) ∙ take_at id (y ++ q) 32 k in
    let r : signed_of (token id) no_token (read_at 64 s (at + 32)) ≡ token id z (at + 32 + length y)
    = ap (λ (l : List ℕ). signed_of (token id) no_token (read_at 64 l (at + 32))) e₂ ∙ signed_back (token id) no_token w64 z (p ++ id) q (at + 32) d₂ (omega arith) f in
    let m : at + 32 + length y ≡ at + length (token_bytes id z) = omega (arith, length-append id y, k) in
    rw (le-leb (at + 32) (length s) h, t) (r ∙ ap (token id z) m)

pub tokens_back : (zs : List ℤ) (ids : List ℕ) → length ids ≡ length zs * 32 → All64 zs → (s p q : List ℕ) (at : ℕ) → s ≡ p ++ (tokens_bytes ids zs ++ q) → length p ≡ at
    → tokens_at (length zs) s at ≡ tokens ids zs (at + length (tokens_bytes ids zs))
unfolding tokens_at tokens_bytes
tokens_back [] ids k f s p q at e d = let n : ids ≡ [] = none ids k in let m : at ≡ at + 0 = omega arith in rw n (ap (tokens [] []) m)
  where
    none : (l : List ℕ) → length l ≡ 0 → l ≡ []
    none [] h = refl
    none (x ∷ l) h = absurd (omega arith)
tokens_back (z ∷ zs) ids k f s p q at e d =
    let x : List ℕ = token_bytes (take 32 ids) z in
    let y : List ℕ = tokens_bytes (drop 32 ids) zs in
    let next : List ℕ → ℤ → ℕ → Tokens = λ id z n. cons_token id z (tokens_at (length zs) s n) in
    let t : token_at s at ≡ token (take 32 ids) z (at + length x)
    = token_back (take 32 ids) z (length-take-le 32 ids (omega arith)) f.0 s p (y ++ q) at (first s p x y q at e d) d in
    let r : tokens_at (length zs) s (at + length x) ≡ tokens (drop 32 ids) zs (at + length x + length y)
    = tokens_back zs (drop 32 ids) (rw length-drop (omega arith)) f.1 s (p ++ x) q (at + length x) (second s p x y q at e d) (second_at s p x y q at e d) in
    let m : at + length x + length y ≡ at + length (x ++ y) = omega (arith, length-append x y) in
    let j : take 32 ids ++ drop 32 ids ≡ ids = take-append-drop 32 ids in
    ap (token_then next) t ∙ ap (cons_token (take 32 ids) z) r ∙ rw (j, m)

-- ---- the token count, and a balance

count_back : (k : ℕ) → k ≤ 128 → (s p q : List ℕ) (at : ℕ) → s ≡ p ++ (enc (zig (pos k)) ++ q) → length p ≡ at → k * 33 ≤ length q
    → count_at s at ≡ Ok (k, at + length (enc (zig (pos k))))
unfolding count_at
count_back k h s p q at e d room =
    let c : List ℕ = enc (zig (pos k)) in
    let r : signed_of (count_of s) Err (read_at 32 s at) ≡ count_of s (pos k) (at + length c)
    = ap (λ (l : List ℕ). signed_of (count_of s) Err (read_at 32 l at)) e ∙ signed_back (count_of s) Err w32 (pos k) p q at d (omega arith) (record { sfits = omega arith }) in
    let t : length s ≡ length p + (length c + length q) = ap length e ∙ length-append p (c ++ q) ∙ ap (λ (n : ℕ). length p + n) (length-append c q) in
    let g : k ≤ (length s - (at + length c)) / 33 = omega arith in
    r ∙ rw (le-ltb ((length s - (at + length c)) / 33) k g, le-ltb 128 k h)

pub balance_back : (nanos : ℤ) (ids : List ℕ) (zs : List ℤ) → Holds nanos ids zs → (s p q : List ℕ) (at : ℕ) → s ≡ p ++ (balance_bytes nanos ids zs ++ q) → length p ≡ at
    → balance_at s at ≡ balanced true nanos ids zs (at + length (balance_bytes nanos ids zs))
unfolding balance_at
balance_back nanos ids zs h s p q at e d =
    let x : List ℕ = enc (zig nanos) in
    let y : List ℕ = enc (zig (pos (length zs))) in
    let w : List ℕ = tokens_bytes ids zs in
    let e₁ = first s p x (y ++ w) q at e d in
    let e₂ = second s p x (y ++ w) q at e d in
    let d₂ = second_at s p x (y ++ w) q at e d in
    let e₃ = first s (p ++ x) y w q (at + length x) e₂ d₂ in
    let e₄ = second s (p ++ x) y w q (at + length x) e₂ d₂ in
    let d₄ = second_at s (p ++ x) y w q (at + length x) e₂ d₂ in
    let behind : ℤ → ℕ → Balanced = λ z n. with_nanos z (tokens_from s (count_at s n)) in
    let room : length zs * 33 ≤ length (w ++ q)
    = omega (arith, length-append w q, tokens_length ids zs (omega (arith, h.keys)), numbers_some zs h.amounts) in
    let m : at + length x + length y + length w ≡ at + length (balance_bytes nanos ids zs) = omega (arith, length-append x (y ++ w), length-append y w) in
    ap (λ (l : List ℕ). signed_of behind no_balance (read_at 64 l at)) e₁ ∙ signed_back behind no_balance w64 nanos p ((y ++ w) ++ q) at d (omega arith) h.ergs
    ∙ ap (λ (g : Got). with_nanos nanos (tokens_from s g)) (count_back (length zs) h.few s (p ++ x) (w ++ q) (at + length x) e₃ d₂ room)
    ∙ ap (with_nanos nanos) (tokens_back zs ids h.keys h.amounts s ((p ++ x) ++ y) q (at + length x + length y) e₄ d₄)
    ∙ ap (balanced true nanos ids zs) m

-- ---- the flag

-- what is read of a flag and its balance: nothing where the flag is clear
abbrev pub kept : Bool → ℤ → List ℕ → List ℤ → ℕ → Balanced
kept true nanos ids zs n = balanced true nanos ids zs n
kept false nanos ids zs n = balanced false (pos 0) [] [] n

pub flagged_back : (has : Bool) (nanos : ℤ) (ids : List ℕ) (zs : List ℤ) → Holds nanos ids zs → (s p q : List ℕ) (at : ℕ) → s ≡ p ++ (flagged_bytes has nanos ids zs ++ q) → length p ≡ at
    → flagged_at s at ≡ kept has nanos ids zs (at + length (flagged_bytes has nanos ids zs))
unfolding flagged_at flagged_bytes
flagged_back false nanos ids zs h s p q at e d =
    let g : at < length s = omega (arith, ap length e, length-append p (0 ∷ q)) in
    let f : get_or s at 0 ≡ 0 = ap (λ (l : List ℕ). get_or l at 0) e ∙ get_or_at p 0 q 0 at d in
    rw (lt-ltb at (length s) g, f)
flagged_back true nanos ids zs h s p q at e d =
    let y : List ℕ = balance_bytes nanos ids zs in
    let g : at < length s = omega (arith, ap length e, length-append p (1 ∷ (y ++ q))) in
    let f : get_or s at 0 ≡ 1 = ap (λ (l : List ℕ). get_or l at 0) e ∙ get_or_at p 1 (y ++ q) 0 at d in
    let m : at + 1 + length y ≡ at + length (1 ∷ y) = omega arith in
    rw (lt-ltb at (length s) g, f)
    (balance_back nanos ids zs h s (p ++ (1 ∷ [])) q (at + 1) (second s p (1 ∷ []) y q at e d) (second_at s p (1 ∷ []) y q at e d) ∙ ap (balanced true nanos ids zs) m)

-- ---- the record

-- the balance that is read: all zero where the flag is clear
abbrev pub kept_balance : Bool → ℤ → List ℕ → List ℤ → Balance
kept_balance true nanos ids zs = balance_of nanos ids zs
kept_balance false nanos ids zs = balance_of (pos 0) [] []

load_kept : (s : List ℕ) (l m : List ℤ) (has : Bool) (nanos : ℤ) (ids : List ℕ) (zs : List ℤ) (n : ℕ)
    → load_balance s l m (kept has nanos ids zs n) ≡ load_segment (take 32 s) has (kept_balance has nanos ids zs) l m (ended true (length s) (segment_at s n))
load_kept s l m true nanos ids zs n = refl
load_kept s l m false nanos ids zs n = refl

-- what was written is read back: the hash, the flag, the balance if it is set, the lists and the spill counts
pub round_trip : (hash : List ℕ) → length hash ≡ 32 → (has : Bool) (nanos : ℤ) (ids : List ℕ) (zs : List ℤ) → Holds nanos ids zs → (ts bs : List ℤ) (b t : ℤ) → Writable ts bs b t
    → (l m : List ℤ) → 512 ≤ length l → 512 ≤ length m → (s : List ℕ) → s ≡ address_bytes hash has nanos ids zs (row_bytes ts bs b t)
    → read_address s l m ≡ load_segment hash has (kept_balance has nanos ids zs) l m (seg ts bs b t (length s))
unfolding load_address address_bytes
round_trip hash k has nanos ids zs h ts bs b t w l m i j s e =
    let x : List ℕ = flagged_bytes has nanos ids zs in
    let y : List ℕ = row_bytes ts bs b t in
    let n : ℕ = 32 + length x in
    let z : length s ≡ length hash + (length x + length y) = ap length e ∙ length-append hash (x ++ y) ∙ ap (λ (a : ℕ). length hash + a) (length-append x y) in
    let size : length s ≤ 15675 = omega (arith, flagged_size has nanos ids zs h, row_size ts bs b t w) in
    let f : flagged_at s 32 ≡ kept has nanos ids zs n = flagged_back has nanos ids zs h s hash y 32 e k in
    let e₂ : s ≡ (hash ++ x) ++ (y ++ []) = e ∙ sym (append_assoc hash x y) ∙ ap (λ (a : List ℕ). (hash ++ x) ++ a) (sym (append-nil y)) in
    let d₂ : length (hash ++ x) ≡ n = length-append hash x ∙ ap (λ (a : ℕ). a + length x) k in
    let o : n + length y ≡ length s = omega arith in
    let g : segment_at s n ≡ seg ts bs b t (length s) = segment_back ts bs b t w s (hash ++ x) [] n e₂ d₂ ∙ ap (seg ts bs b t) o in
    let c : take 32 s ≡ hash = ap (take 32) e ∙ take_at hash (x ++ y) 32 k in
    sym (call_on s l m size i j)
    ∙ rw (le-leb 32 (length s) (omega arith), f) (load_kept s l m has nanos ids zs n ∙ rw (c, g, eq-eqb (length s) (length s) refl))
