-- Laws of a load: a drawn call's bytes, one call and the rest, and each way out of the generator.
use Prim.Native.Nat.{ℕ, zero, suc, ◌+◌, ◌-◌, ◌<◌, ◌≤◌}
use mathlib.Core.Path.{◌≡◌, refl, sym, ap, subst, ◌∙◌}
use mathlib.Core.Bool.{Bool, true, false}
use mathlib.Core.List.{List, [], ◌++◌}
use native.Mathlib.Omega.{arith}
use lib.Dec.{leb}
use lib.IntN.{ℤ, nat_abs}
use lib.ListN.{length, length-append}
use lib.Seq.{sets}
use borrow.Author.Tests.{le-leb, lt-leb, leb-true, leb-false, eq-eqb, ne_eqb}
use Rattle.stores.specs.Stores.{write, Put}
use Rattle.stores.proofs.StoreLaws.{sets_write}
use Rattle.stores.proofs.PutLaws.{sets_append, put_as}
use Rattle.big_endian.proofs.ByteLaws.{length_eight}
use Rattle.segment_id.specs.declared.Kind.{Kind}
use Rattle.buffer_core.specs.declared.Direction.{Direction}
use Rattle.calls.specs.declared.Call.{Call}
use Rattle.calls.specs.declared.Call.TheVariants.{Append, Flip}
use Rattle.calls.specs.Calls.{size_of}
use Rattle.load_core.specs.declared.Source.{Source}
use Rattle.load_core.specs.declared.Drawn.{Drawn}
use Rattle.load_core.specs.Draw.{draws, calls_from, source_after}
use Rattle.load_core.proofs.DrawLaws.{drawn_is, grows}
use Rattle.std.specs.Prelude.{Ok, Err}
use Rattle.load.specs.Bytes.{append_byte, flip_byte, numbered, call_bytes, all_bytes, load_bytes}
use Rattle.load.specs.Generated.{generated, written_from, generated_from, most_counted, go_on_of}
use Rattle.load.specs.Internal.{Countable}

-- ---- one call

pub length_numbered : (kind : ℕ) (z : ℤ) → length (numbered kind z) ≡ 10
unfolding numbered
length_numbered kind z = omega (arith, length_eight (nat_abs z))

-- a drawn call has as many bytes as the runner takes it to have
pub drawn_size : (g : Source) → length (call_bytes (draws g).call) ≡ size_of (draws g).call
drawn_size g =
    drawn_is (λ (r : Drawn). length (call_bytes r.call) ≡ size_of r.call) g
    (λ d. length_numbered 1 _) (λ d. length_numbered 2 _) (λ d h. length_numbered 3 _) (λ d. refl)

-- a call with a number, by its kind
module _ (x : Call) (p : ℕ) (z : ℤ) where
  module _ (k : Kind) (e : x ≡ Append k p z) where
    pub append_room : (at n : ℕ) → at + length (call_bytes x) ≤ n → at + 10 ≤ n
    append_room at n h = omega (arith, h, ap (λ (c : Call). length (call_bytes c)) e, length_numbered (append_byte k) z)

    pub append_put : (b : ℕ) → b ≡ append_byte k → (z' : ℤ) → z' ≡ z → (l : List ℕ) (at r : ℕ) (l' : List ℕ) → Put (numbered b z') l at r l' → Put (call_bytes x) l at r l'
    append_put b q z' f l at r l' h = put_as ((λ i. numbered (q i) (f i)) ∙ sym (ap call_bytes e)) l at r l' h

  module _ (d : Direction) (e : x ≡ Flip d p z) where
    pub flip_room : (at n : ℕ) → at + length (call_bytes x) ≤ n → at + 10 ≤ n
    flip_room at n h = omega (arith, h, ap (λ (c : Call). length (call_bytes c)) e, length_numbered (flip_byte d) z)

    pub flip_put : (b : ℕ) → b ≡ flip_byte d → (z' : ℤ) → z' ≡ z → (l : List ℕ) (at r : ℕ) (l' : List ℕ) → Put (numbered b z') l at r l' → Put (call_bytes x) l at r l'
    flip_put b q z' f l at r l' h = put_as ((λ i. numbered (q i) (f i)) ∙ sym (ap call_bytes e)) l at r l' h

-- there is nothing to write of a call that is never drawn
pub put_nothing : (c : Call) → call_bytes c ≡ [] → (l : List ℕ) (at : ℕ) → Put (call_bytes c) l at at l
put_nothing c e l at = put_as (sym e) l at at l (omega arith, refl)

-- ---- one call, and the rest

less : (n : ℕ) → n ≡ suc n - 1
less n = omega arith

module _ (g : Source) where
  pub bytes_turn : (n : ℕ) → 0 < n → load_bytes n g ≡ call_bytes (draws g).call ++ load_bytes (n - 1) (draws g).next
  unfolding calls_from all_bytes
  bytes_turn zero h = absurd (omega arith)
  bytes_turn (suc n) h = ap (λ (k : ℕ). call_bytes (draws g).call ++ load_bytes k (draws g).next) (less n)

  pub after_turn : (n : ℕ) → 0 < n → source_after n g ≡ source_after (n - 1) (draws g).next
  unfolding source_after
  after_turn zero h = absurd (omega arith)
  after_turn (suc n) h = ap (λ (k : ℕ). source_after k (draws g).next) (less n)

  pub length_turn : (n : ℕ) → 0 < n → length (load_bytes n g) ≡ size_of (draws g).call + length (load_bytes (n - 1) (draws g).next)
  length_turn n h =
      ap length (bytes_turn n h) ∙ length-append (call_bytes (draws g).call) (load_bytes (n - 1) (draws g).next)
      ∙ ap (λ (k : ℕ). k + length (load_bytes (n - 1) (draws g).next)) (drawn_size g)

  -- room for the next call, or none
  pub fits_turn : (n room : ℕ) → 0 < n → size_of (draws g).call ≤ room
      → leb (length (load_bytes n g)) room ≡ leb (length (load_bytes (n - 1) (draws g).next)) (room - size_of (draws g).call)
  fits_turn n room h k = by_test (leb rest (room - size_of (draws g).call)) refl
    where
      rest : ℕ
      rest = length (load_bytes (n - 1) (draws g).next)

      by_test : (t : Bool) → leb rest (room - size_of (draws g).call) ≡ t → leb (length (load_bytes n g)) room ≡ t
      by_test true e = le-leb (length (load_bytes n g)) room (omega (arith, length_turn n h, leb-true rest (room - size_of (draws g).call) e))
      by_test false e = lt-leb (length (load_bytes n g)) room (omega (arith, length_turn n h, leb-false rest (room - size_of (draws g).call) e))

  pub fits_short : (n room : ℕ) → 0 < n → room < size_of (draws g).call → leb (length (load_bytes n g)) room ≡ false
  fits_short n room h k = lt-leb (length (load_bytes n g)) room (omega (arith, length_turn n h))

  pub countable_turn : (room room' : ℕ) → room' + size_of (draws g).call ≤ room → Countable room g → Countable room' (draws g).next
  countable_turn room room' h c = record { boxes = omega (arith, (grows g).boxes, c.boxes); txs = omega (arith, (grows g).txs, c.txs) }

pub none_left : (n : ℕ) (g : Source) → n ≤ 0 → (load_bytes n g ≡ []) × (source_after n g ≡ g)
unfolding calls_from all_bytes source_after
none_left zero g h = (refl, refl)
none_left (suc n) g h = absurd (omega arith)

-- ---- the loop that writes: so far at `at`, and what is left of n₀ calls of g₀

pub record Writing (n₀ : ℕ) (g₀ : Source) (out₀ : List ℕ) (n : ℕ) (g : Source) (out : List ℕ) (at : ℕ) : Type 0 where
  pub same : length out ≡ length out₀
  pub size : length (load_bytes n₀ g₀) ≡ at + length (load_bytes n g)
  pub bytes : sets out₀ 0 (load_bytes n₀ g₀) ≡ sets out at (load_bytes n g)
  pub after : source_after n₀ g₀ ≡ source_after n g
  pub room : length (load_bytes n₀ g₀) ≤ length out₀
  pub countable : Countable (length out₀ - at) g

module _ (n₀ : ℕ) (g₀ : Source) (out₀ : List ℕ) where
  pub writing_start : length (load_bytes n₀ g₀) ≤ length out₀ → Countable (length out₀) g₀ → Writing n₀ g₀ out₀ n₀ g₀ out₀ 0
  writing_start h c =
      record { same = refl; size = omega arith; bytes = refl; after = refl; room = h; countable = record { boxes = omega (arith, c.boxes); txs = omega (arith, c.txs) } }

  module _ (n : ℕ) (g : Source) (out : List ℕ) (at : ℕ) (w : Writing n₀ g₀ out₀ n g out at) where
    pub writing_room : 0 < n → (r : Drawn) → r ≡ draws g → at + length (call_bytes r.call) ≤ length out
    writing_room h r e = omega (arith, w.size, w.room, w.same, length_turn g n h, drawn_size g, ap (λ (x : Drawn). length (call_bytes x.call)) e)

    turned : 0 < n → (at' : ℕ) (out' : List ℕ) → length out' ≡ length out → Put (call_bytes (draws g).call) out at at' out'
        → Writing n₀ g₀ out₀ (n - 1) (draws g).next out' at'
    turned h at' out' l p =
        let q = call_bytes (draws g).call in
        let rest = load_bytes (n - 1) (draws g).next in
        let e : sets out at (load_bytes n g) ≡ sets out' at' rest
        = ap (sets out at) (bytes_turn g n h) ∙ sets_append out at q rest ∙ sym (λ i. sets (p.1 i) (p.0 i) rest) in
        record {
          same = l ∙ w.same;
          size = omega (arith, w.size, length_turn g n h, drawn_size g, p.0);
          bytes = w.bytes ∙ e;
          after = w.after ∙ after_turn g n h;
          room = w.room;
          countable = countable_turn g (length out₀ - at) (length out₀ - at') (omega (arith, w.size, w.room, length_turn g n h, drawn_size g, p.0)) w.countable;
        }

    pub writing_turn : 0 < n → (r : Drawn) → r ≡ draws g → (at' : ℕ) (out' : List ℕ) → length out' ≡ length out → Put (call_bytes r.call) out at at' out'
        → Writing n₀ g₀ out₀ (n - 1) r.next out' at'
    writing_turn h r e at' out' l =
        subst (λ (x : Drawn). Put (call_bytes x.call) out at at' out' → Writing n₀ g₀ out₀ (n - 1) x.next out' at') (sym e) (turned h at' out' l)

    pub writing_end : n ≤ 0 → generated (Ok (at, g)) out ≡ written_from n₀ g₀ out₀
    writing_end h =
        let z = none_left n g h in
        let size : at ≡ length (load_bytes n₀ g₀) = omega (arith, w.size, ap length z.0) in
        let source : g ≡ source_after n₀ g₀ = sym (w.after ∙ z.1) in
        let bytes : out ≡ write 0 (load_bytes n₀ g₀) out₀
        = sym (sym (sets_write (load_bytes n₀ g₀) out₀ 0 (omega (arith, w.room))) ∙ w.bytes ∙ ap (sets out at) z.0) in
        λ i. generated (Ok (size i, source i)) (bytes i)

-- ---- each way out

module _ (n : ℕ) (g : Source) (out : List ℕ) where
  pub generated_38 : g.state ≡ 0 → generated (Err 38) out ≡ generated_from n g out
  unfolding generated_from
  generated_38 h = simp (eq-eqb _ _ h)

  module _ (s : g.state ≡ 0 → ⊥) where
    pub generated_32 : leb (length (load_bytes n g)) (length out) ≡ false → generated (Err 32) out ≡ generated_from n g out
    unfolding generated_from
    generated_32 h = simp (ne_eqb _ _ s, h)

    pub generated_all : leb (length (load_bytes n g)) (length out) ≡ true → written_from n g out ≡ generated_from n g out
    unfolding generated_from
    generated_all h = simp (ne_eqb _ _ s, h)

  pub go_on_boxes : most_counted < g.boxes → generated (Err 25) out ≡ go_on_of n g out
  unfolding go_on_of
  go_on_boxes h = simp (lt-leb _ _ h)

  module _ (b : g.boxes ≤ most_counted) where
    pub go_on_txs : most_counted < g.txs → generated (Err 25) out ≡ go_on_of n g out
    unfolding go_on_of
    go_on_txs h = simp (le-leb _ _ b, lt-leb _ _ h)

    pub go_on_all : g.txs ≤ most_counted → generated_from n g out ≡ go_on_of n g out
    unfolding go_on_of
    go_on_all h = simp (le-leb _ _ b, le-leb _ _ h)
