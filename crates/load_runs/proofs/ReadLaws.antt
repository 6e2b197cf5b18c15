-- What the generator writes is read back call by call: the bytes of a drawn call behind any others are that call.
use Prim.Native.Nat.{ℕ, zero, suc, ◌+◌, ◌-◌, ◌/◌, ◌%◌, ◌<◌, ◌≤◌}
use mathlib.Core.Path.{◌≡◌, refl, sym, ap, subst, ◌∙◌}
use mathlib.Core.Bool.{true, false}
use mathlib.Core.List.{List, [], ◌∷◌, ◌++◌, append_assoc, append-nil}
use native.Mathlib.Nat.{mod-lt}
use native.Mathlib.Omega.{arith}
use lib.Dec.{eqb, leb, ltb}
use lib.IntN.{pos}
use lib.ListN.{length, get_or, length-append}
use lib.Seq.{get_or-append_seam, get_or-append-add}
use borrow.Author.Tests.{le-leb, lt-leb, leb-true, lt-ltb, le-ltb}
use Rattle.records.proofs.CheckLaws.{and_left, and_right}
use Rattle.big_endian.specs.BigEndian.{eight_bytes, value_at}
use Rattle.big_endian.proofs.ByteLaws.{value_at_back}
use Rattle.calls.specs.declared.Call.TheVariants.{Flush, End}
use Rattle.calls.specs.Calls.{number_at, with_number, with_parent, of_kind, call_at, size_of}
use Rattle.call_runs.specs.Made.{Along}
use Rattle.load_core.specs.declared.Source.{Source}
use Rattle.load_core.specs.declared.Drawn.{Drawn}
use Rattle.load_core.specs.Draw.{draws, calls_from}
use Rattle.load_core.proofs.DrawLaws.{drawn_is}
use Rattle.load.specs.Bytes.{numbered, call_bytes, all_bytes, load_bytes}
use Rattle.load.specs.Generated.{most_counted}
use Rattle.load.specs.Internal.{Countable}
use Rattle.load.proofs.LoadLaws.{length_numbered, drawn_size, countable_turn}
use Rattle.load.proofs.PieceLaws.{accepted}
use Rattle.load_runs.specs.Reads.{Reads, ReadBack}

-- ---- one call

pub reads_end : (parents : ℕ) (s : List ℕ) → call_at parents s (length s) ≡ End
unfolding call_at
reads_end parents s = simp (le-leb (length s) (length s) (omega arith))

module _ (parents : ℕ) (s : List ℕ) (at : ℕ) where
  reads_flush : at < length s → get_or s at 0 ≡ 7 → call_at parents s at ≡ Flush
  unfolding call_at of_kind
  reads_flush h e = simp (lt-leb (length s) at h, e)

  -- kinds 1 to 4, of which the tests are computed
  module _ (kind m : ℕ) (some : 0 < parents) (room : at + 10 ≤ length s) (e₀ : get_or s at 0 ≡ kind) (e₁ : get_or s (at + 1) 0 ≡ 0) (e₂ : value_at s (at + 2) ≡ m)
      (small : m < 9223372036854775808) where
    number_is : number_at s (at + 2) ≡ pos m
    unfolding number_at
    number_is = simp (e₂, lt-ltb m 9223372036854775808 small)

    reads_numbered : eqb kind 7 ≡ false → eqb kind 0 ≡ false → ltb 9 kind ≡ false → eqb kind 5 ≡ false → eqb kind 6 ≡ false → ltb kind 5 ≡ true
        → call_at parents s at ≡ with_number kind 0 (pos m)
    unfolding call_at of_kind with_parent
    reads_numbered k₇ k₀ k₉ k₅ k₆ k₄ =
        simp (lt-leb (length s) at (omega arith), e₀, k₇, k₀, k₉, le-ltb (length s - at) 2 (omega arith), e₁, lt-leb parents 0 some, k₅, k₆, le-ltb (length s - at) 10 (omega arith), k₄, number_is)

-- the bytes of a call with a number, behind others and before others
module _ (parents kind m : ℕ) (some : 0 < parents) (small : m < 9223372036854775808) (pre rest : List ℕ) where
  abbrev whole : List ℕ
  whole = pre ++ (numbered kind (pos m) ++ rest)

  numbered_there : eqb kind 7 ≡ false → eqb kind 0 ≡ false → ltb 9 kind ≡ false → eqb kind 5 ≡ false → eqb kind 6 ≡ false → ltb kind 5 ≡ true
      → call_at parents whole (length pre) ≡ with_number kind 0 (pos m)
  unfolding numbered
  numbered_there =
      let room : length pre + 10 ≤ length whole = omega (arith, length-append pre (numbered kind (pos m) ++ rest), length-append (numbered kind (pos m)) rest, length_numbered kind (pos m)) in
      let front : length (pre ++ (kind ∷ 0 ∷ [])) ≡ length pre + 2 = length-append pre (kind ∷ 0 ∷ []) in
      let small' : m < 18446744073709551616 = omega arith in
      let e₀ : get_or whole (length pre) 0 ≡ kind = get_or-append_seam pre kind (0 ∷ (eight_bytes m ++ rest)) 0 in
      let e₁ : get_or whole (length pre + 1) 0 ≡ 0 = get_or-append-add pre (kind ∷ 0 ∷ (eight_bytes m ++ rest)) 1 0 in
      let e₂ : value_at whole (length pre + 2) ≡ m
      = ap (λ (l : List ℕ). value_at l (length pre + 2)) (sym (append_assoc pre (kind ∷ 0 ∷ []) (eight_bytes m ++ rest)))
      ∙ value_at_back m (pre ++ (kind ∷ 0 ∷ [])) rest (length pre + 2) front small' in
      reads_numbered parents whole (length pre) kind m some room e₀ e₁ e₂ small

-- a drawn call whose counts are below 2^63
module _ (parents : ℕ) (some : 0 < parents) (g : Source) (boxes : g.boxes < 9223372036854775808) (txs : g.txs < 9223372036854775808) (pre rest : List ℕ) where
  abbrev Back : Drawn → Type 0
  Back r = (call_at parents (pre ++ (call_bytes r.call ++ rest)) (length pre) ≡ r.call) × (size_of r.call ≡ 0 → ⊥)

  drawn_back : Back (draws g)
  unfolding with_number
  drawn_back =
      drawn_is Back g
      (λ d. (numbered_there parents 1 g.boxes some boxes pre rest refl refl refl refl refl refl, λ z. omega (arith, z)))
      (λ d. (numbered_there parents 2 g.txs some txs pre rest refl refl refl refl refl refl, λ z. omega (arith, z)))
      (λ d h.
      let b : 0 < g.boxes = omega (arith, h) in
      let small : d / 8 % g.boxes < 9223372036854775808 = omega (arith, mod-lt (d / 8) b) in
      (numbered_there parents 3 (d / 8 % g.boxes) some small pre rest refl refl refl refl refl refl, λ z. omega (arith, z)))
      (λ d.
      let room : length pre < length (pre ++ ((7 ∷ []) ++ rest)) = omega (arith, length-append pre ((7 ∷ []) ++ rest)) in
      (reads_flush parents (pre ++ ((7 ∷ []) ++ rest)) (length pre) room (get_or-append_seam pre 7 rest 0), λ z. omega (arith, z)))

-- ---- all calls

module _ (parents : ℕ) (some : 0 < parents) where
  reads_from : (n : ℕ) (g : Source) (pre : List ℕ) → Countable (length (load_bytes n g)) g
      → Along parents (pre ++ load_bytes n g) (length pre) (calls_from n g) (length (pre ++ load_bytes n g))
  unfolding calls_from all_bytes Along
  reads_from zero g pre c = sym (ap length (append-nil pre))
  reads_from (suc n) g pre c =
      let call = (draws g).call in
      let rest = load_bytes n (draws g).next in
      let size : length (call_bytes call ++ rest) ≡ size_of call + length rest = length-append (call_bytes call) rest ∙ ap (λ (k : ℕ). k + length rest) (drawn_size g) in
      let more : Countable (length rest) (draws g).next = countable_turn g _ (length rest) (omega (arith, size)) c in
      let back = drawn_back parents some g (omega (arith, c.boxes)) (omega (arith, c.txs)) pre rest in
      let joined : (pre ++ call_bytes call) ++ rest ≡ pre ++ (call_bytes call ++ rest) = append_assoc pre (call_bytes call) rest in
      let at : length (pre ++ call_bytes call) ≡ length pre + size_of call = length-append pre (call_bytes call) ∙ ap (λ (k : ℕ). length pre + k) (drawn_size g) in
      let tail = reads_from n (draws g).next (pre ++ call_bytes call) more in (
        back.0,
        back.1,
        subst (λ (l : List ℕ). Along parents l (length pre + size_of call) (calls_from n (draws g).next) (length l)) joined
            (subst (λ (k : ℕ). Along parents ((pre ++ call_bytes call) ++ rest) k (calls_from n (draws g).next) (length ((pre ++ call_bytes call) ++ rest))) at tail),
      )

pub read_back : ReadBack
read_back n g after out out' k parents ok fits some e =
    let a = accepted n g out k after out' e in
    let b = leb-true g.boxes most_counted (and_left (leb g.boxes most_counted) _ ok) in
    let t = leb-true g.txs most_counted (and_right (leb g.boxes most_counted) _ ok) in
    let c : Countable (length (load_bytes n g)) g = record { boxes = omega (arith, a.room, b); txs = omega (arith, a.room, t) } in
    subst (λ (l : List ℕ). Reads parents l (calls_from n g)) (sym a.front) (reads_from parents some n g [] c, reads_end parents (load_bytes n g))
