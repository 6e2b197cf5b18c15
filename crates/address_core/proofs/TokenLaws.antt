-- Laws of reading tokens: one at a place, as the code does; and one by one, into buffers.
use Prim.Native.Nat.{ℕ, zero, suc, ◌+◌, ◌*◌, ◌-◌, ◌≤◌, ◌<◌}
use mathlib.Core.Path.{◌≡◌, refl, sym, ap, ◌∙◌}
use mathlib.Core.Bool.{Bool, true, false, cond}
use mathlib.Core.List.{List}
use native.Mathlib.Omega.{arith}
use native.Mathlib.Numerals.{add-one}
use lib.Dec.{leb}
use lib.IntN.{ℤ}
use lib.ListN.{length, take, drop, set, length-append, length-take, length-drop}
use lib.Seq.{sets}
use borrow.Author.Tests.{leb-true}
use Rattle.stores.proofs.PutLaws.{sets_append}
use Rattle.std.specs.Prelude.{Ok, Err}
use Rattle.vlq_core.specs.Answers.{Got}
use Rattle.vlq_core.specs.Reading.{read_at, signed_of, long_of}
use Rattle.vlq_core.proofs.ReadLaws.{long_number, long_refused}
use Rattle.segment_core.specs.Answers.{Part}
use Rattle.address_core.specs.Reading.{Token, token, no_token, token_at, Tokens, tokens, no_tokens, cons_token, token_then, tokens_at}
use Rattle.address_core.specs.Internal.{TokenInto, TokensInto}
use Rattle.index_types.proofs.AnswerLaws.{pair_same}

-- ---- a token, put at a place; one law for each way out

module _ (s : List ℕ) (at place : ℕ) (ids₀ : List ℕ) (zs₀ : List ℤ) where
  pub token_cut : leb (at + 32) (length s) ≡ false → (ids : List ℕ) (zs : List ℤ) → TokenInto (token_at s at) place ids₀ zs₀ (Err 1) ids zs
  unfolding token_at
  token_cut h ids zs = rw h refl

  module _ (h : leb (at + 32) (length s) ≡ true) where
    pub token_bad : (x : ℕ) → long_of (read_at 64 s (at + 32)) ≡ Err x → (ids : List ℕ) (zs : List ℤ) → TokenInto (token_at s at) place ids₀ zs₀ (Err x) ids zs
    unfolding token_at
    token_bad x e ids zs = rw (h, long_refused (token (take 32 (drop at s))) no_token (read_at 64 s (at + 32)) x e) refl

    -- x is what a local holds of the amount z
    pub token_done : (z x : ℤ) (n : ℕ) → long_of (read_at 64 s (at + 32)) ≡ Ok (z, n) → x ≡ z → (ids : List ℕ) → ids ≡ sets ids₀ (place * 32) (take 32 (drop at s))
        → TokenInto (token_at s at) place ids₀ zs₀ (Ok (1, n)) ids (set zs₀ place x)
    unfolding token_at
    token_done z x n e q ids p = rw (h, long_number (token (take 32 (drop at s))) no_token (read_at 64 s (at + 32)) z n e) (refl, p, ap (set zs₀ place) q)

-- an id has 32 bytes
abbrev pub Sized : Token → Type 0
Sized (token id z n) = length id ≡ 32
Sized (no_token r) = Unit

pub sized : (s : List ℕ) (at : ℕ) → Sized (token_at s at)
unfolding token_at
sized s at = by_room (leb (at + 32) (length s)) refl
  where
    by_number : (g : Got) → at + 32 ≤ length s → Sized (signed_of (token (take 32 (drop at s))) no_token g)
    by_number (Ok (v, n)) h = simp (length-take, length-drop) (omega arith)
    by_number (Err r) h = tt

    by_room : (t : Bool) → leb (at + 32) (length s) ≡ t → Sized (cond t (signed_of (token (take 32 (drop at s))) no_token (read_at 64 s (at + 32))) (no_token 1))
    by_room true e = by_number (read_at 64 s (at + 32)) (leb-true (at + 32) (length s) e)
    by_room false e = tt

-- ---- tokens, one by one: K in all, those that are left go from place i on

cons_into : (K : ℕ) (ts : Tokens) (id : List ℕ) (z : ℤ) (i : ℕ) (ids₀ ids : List ℕ) (zs₀ zs : List ℤ) → length id ≡ 32 → ids ≡ sets ids₀ (i * 32) id → zs ≡ set zs₀ i z
    → (r : Part) (b : List ℕ) (c : List ℤ) → TokensInto K ts (i + 1) ids zs r b c → TokensInto K (cons_token id z ts) i ids₀ zs₀ r b c
cons_into K (tokens is vs n) id z i ids₀ ids zs₀ zs h e f r b c p =
    let m : (i + 1) * 32 ≡ i * 32 + length id = omega arith in
    (p.0, p.1 ∙ rw (e, m) (sym (sets_append ids₀ (i * 32) id is)), p.2 ∙ rw (f, add-one i))
cons_into K (no_tokens x) id z i ids₀ ids zs₀ zs h e f r b c p = p

module _ (K : ℕ) (s : List ℕ) (i at : ℕ) (ids₀ : List ℕ) (zs₀ : List ℤ) where
  pub tokens_start : (r : Part) (b : List ℕ) (c : List ℤ) → TokensInto K (tokens_at (K - 0) s at) 0 ids₀ zs₀ r b c → TokensInto K (tokens_at K s at) 0 ids₀ zs₀ r b c
  tokens_start r b c p = let e : K - 0 ≡ K = omega arith in rw e at p

  pub tokens_end : K ≤ i → TokensInto K (tokens_at (K - i) s at) i ids₀ zs₀ (Ok (K, at)) ids₀ zs₀
  unfolding tokens_at
  tokens_end h = let z : K - i ≡ 0 = omega arith in rw z (refl, refl, refl)

  -- a is what the reader of one token answered
  module _ (h : i < K) (a : Part) (ids : List ℕ) (zs : List ℤ) (p : TokenInto (token_at s at) i ids₀ zs₀ a ids zs) where
    left : K - i ≡ suc (K - (i + 1))
    left = omega arith

    pub tokens_more : (m n : ℕ) → a ≡ Ok (m, n) → (r : Part) (b : List ℕ) (c : List ℤ)
        → TokensInto K (tokens_at (K - (i + 1)) s n) (i + 1) ids zs r b c → TokensInto K (tokens_at (K - i) s at) i ids₀ zs₀ r b c
    unfolding tokens_at
    tokens_more m n e r b c q = rw left (by_token (token_at s at) (sized s at) p)
      where
        by_token : (t : Token) → Sized t → TokenInto t i ids₀ zs₀ a ids zs
            → TokensInto K (token_then (λ id z n. cons_token id z (tokens_at (K - (i + 1)) s n)) t) i ids₀ zs₀ r b c
        by_token (token id z k) w p =
            let f : k ≡ n = (pair_same (sym p.0 ∙ e)).1 in
            cons_into K (tokens_at (K - (i + 1)) s k) id z i ids₀ ids zs₀ zs w p.1 p.2 r b c (rw f q)
        by_token (no_token x) w p = let y : ◌≡◌ {A = ℕ} 0 1 = cc in absurd (omega arith)

    pub tokens_bad : (x : ℕ) → a ≡ Err x → (b : List ℕ) (c : List ℤ) → TokensInto K (tokens_at (K - i) s at) i ids₀ zs₀ (Err x) b c
    unfolding tokens_at
    tokens_bad x e b c = rw left (by_token (token_at s at) p)
      where
        by_token : (t : Token) → TokenInto t i ids₀ zs₀ a ids zs → TokensInto K (token_then (λ id z n. cons_token id z (tokens_at (K - (i + 1)) s n)) t) i ids₀ zs₀ (Err x) b c
        by_token (token id z k) p = let y : ◌≡◌ {A = ℕ} 0 1 = cc in absurd (omega arith)
        by_token (no_token y) p = let f : x ≡ y = cc in ap Err f

-- ---- k tokens are read, none or all

abbrev pub Counted : ℕ → Tokens → Type 0
Counted k (tokens is vs n) = (length vs ≡ k) × (length is ≡ k * 32)
Counted k (no_tokens r) = Unit

pub counted : (k : ℕ) (s : List ℕ) (at : ℕ) → Counted k (tokens_at k s at)
unfolding tokens_at
counted zero s at = (refl, refl)
counted (suc k) s at = by_token (token_at s at) (sized s at) (λ n. counted k s n)
  where
    more : (id : List ℕ) (z : ℤ) → length id ≡ 32 → (ts : Tokens) → Counted k ts → Counted (suc k) (cons_token id z ts)
    more id z h (tokens is vs n) p = (ap suc p.0, omega (arith, length-append id is, p.1))
    more id z h (no_tokens r) p = tt

    by_token : (t : Token) → Sized t → ((n : ℕ) → Counted k (tokens_at k s n)) → Counted (suc k) (token_then (λ id z n. cons_token id z (tokens_at k s n)) t)
    by_token (token id z n) w h = more id z w (tokens_at k s n) (h n)
    by_token (no_token r) w h = tt
