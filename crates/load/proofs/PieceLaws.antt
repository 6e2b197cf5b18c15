-- What an accepted load has written, and that two pieces are the whole: n calls and then m more, from the generator that the n left, are n + m calls.
use Prim.Native.Nat.{ℕ, zero, suc, ◌+◌, ◌≤◌}
use mathlib.Core.Path.{◌≡◌, refl, sym, ap, subst, ◌∙◌}
use mathlib.Core.Bool.{Bool, true, false, cond}
use mathlib.Core.List.{List, ◌++◌, append_assoc}
use native.Mathlib.Nat.{zero-add, suc-add}
use native.Mathlib.Omega.{arith}
use lib.Dec.{eqb, leb}
use lib.ListN.{length, take, drop, length-append, length-drop}
use lib.Seq.{take_at, drop_at, drop-drop}
use borrow.Author.Tests.{le-leb, leb-true, eqb-false}
use Rattle.stores.specs.Stores.{write}
use Rattle.load_core.specs.declared.Source.{Source}
use Rattle.load_core.specs.Draw.{source, draws, calls_from, source_after}
use Rattle.std.specs.Prelude.{Ok, Err}
use Rattle.load.specs.Answers.{Generated}
use Rattle.load.specs.Bytes.{call_bytes, all_bytes, load_bytes}
use Rattle.load.specs.Generated.{Generating, generated, written_from, generated_from, generate_load_of, counts_ok, go_on_of}
use Rattle.load.proofs.LoadLaws.{generated_all}

-- ---- the calls of two pieces

pub bytes_both : (n m : ℕ) (g : Source) → load_bytes (n + m) g ≡ load_bytes n g ++ load_bytes m (source_after n g)
unfolding calls_from all_bytes source_after
bytes_both zero m g = ap (λ (k : ℕ). load_bytes k g) (zero-add m)
bytes_both (suc n) m g =
    let next = (draws g).next in
    ap (λ (k : ℕ). load_bytes k g) (suc-add n m) ∙ ap (λ (l : List ℕ). call_bytes (draws g).call ++ l) (bytes_both n m next)
    ∙ sym (append_assoc (call_bytes (draws g).call) (load_bytes n next) (load_bytes m (source_after n next)))

pub after_both : (n m : ℕ) (g : Source) → source_after (n + m) g ≡ source_after m (source_after n g)
unfolding source_after
after_both zero m g = ap (λ (k : ℕ). source_after k g) (zero-add m)
after_both (suc n) m g = ap (λ (k : ℕ). source_after k g) (suc-add n m) ∙ after_both n m (draws g).next

-- ---- what an accepted load has written

pub record Accepted (n : ℕ) (g : Source) (out : List ℕ) (k : ℕ) (after : Source) (out' : List ℕ) : Type 0 where
  pub started : g.state ≡ 0 → ⊥
  pub room : length (load_bytes n g) ≤ length out
  pub size : k ≡ length (load_bytes n g)
  pub source : after ≡ source_after n g
  pub bytes : out' ≡ load_bytes n g ++ drop k out
  pub within : k ≤ length out'
  pub front : take k out' ≡ load_bytes n g

abbrev is_written : Generated → Bool
is_written (Ok (n, g)) = true
is_written (Err code) = false

-- a refusal is no load
never_written : (code : ℕ) (out : List ℕ) (k : ℕ) (after : Source) (out' : List ℕ) → generated (Err code) out ≡ generated (Ok (k, after)) out' → ⊥
never_written code out k after out' q =
    let b : false ≡ true = ap (λ (x : Generating). is_written x.answer) q in
    subst (λ (t : Bool). cond t ⊥ (Unit {0})) b tt

module _ (n : ℕ) (g : Source) (out : List ℕ) (k : ℕ) (after : Source) (out' : List ℕ) where
  -- the number of bytes and the generator of an answer, and 0 and another where it is a refusal
  abbrev bytes_of : Generated → ℕ
  bytes_of (Ok (n, g)) = n
  bytes_of (Err code) = 0

  abbrev source_of : Generated → Source
  source_of (Ok (n, g)) = g
  source_of (Err code) = g

  pub accepted : generated_from n g out ≡ generated (Ok (k, after)) out' → Accepted n g out k after out'
  unfolding generated_from write
  accepted e = by_state (eqb g.state 0) refl e
    where
      by_room : (g.state ≡ 0 → ⊥) → (t : Bool) → leb (length (load_bytes n g)) (length out) ≡ t
          → cond t (written_from n g out) (generated (Err 32) out) ≡ generated (Ok (k, after)) out' → Accepted n g out k after out'
      by_room s true h q =
          let size : k ≡ length (load_bytes n g) = sym (ap (λ (x : Generating). bytes_of x.answer) q) in
          let bytes : out' ≡ load_bytes n g ++ drop k out
          = sym (ap (λ (x : Generating). x.out) q) ∙ ap (λ (i : ℕ). load_bytes n g ++ drop i out) (zero-add (length (load_bytes n g)) ∙ sym size) in
          record {
            started = s;
            room = leb-true _ _ h;
            size = size;
            source = sym (ap (λ (x : Generating). source_of x.answer) q);
            bytes = bytes;
            within = omega (arith, ap length bytes, length-append (load_bytes n g) (drop k out), size);
            front = ap (take k) bytes ∙ take_at (load_bytes n g) (drop k out) k (sym size);
          }
      by_room s false h q = absurd (never_written 32 out k after out' q)

      by_state : (t : Bool) → eqb g.state 0 ≡ t
          → cond t (generated (Err 38) out) (cond (leb (length (load_bytes n g)) (length out)) (written_from n g out) (generated (Err 32) out)) ≡ generated (Ok (k, after)) out'
          → Accepted n g out k after out'
      by_state true h q = absurd (never_written 38 out k after out' q)
      by_state false h q = by_room (eqb-false g.state 0 h) (leb (length (load_bytes n g)) (length out)) refl q

-- what goes on is refused by 25, or written from where it stands
pub go_on_is : (n : ℕ) (g : Source) (out : List ℕ) (k : ℕ) (after : Source) (out' : List ℕ)
    → go_on_of n g out ≡ generated (Ok (k, after)) out' → generated_from n g out ≡ generated (Ok (k, after)) out'
unfolding go_on_of
go_on_is n g out k after out' e = by_counts (counts_ok g) e
  where
    by_counts : (t : Bool) → cond t (generated_from n g out) (generated (Err 25) out) ≡ generated (Ok (k, after)) out'
        → generated_from n g out ≡ generated (Ok (k, after)) out'
    by_counts true q = q
    by_counts false q = absurd (never_written 25 out k after out' q)

-- ---- two pieces are the whole: the second is written behind the first

pub pieces : (n m : ℕ) (g after after' : Source) (out out' rest : List ℕ) (a b : ℕ)
    → generated_from n g out ≡ generated (Ok (a, after)) out' → generated_from m after (drop a out') ≡ generated (Ok (b, after')) rest
    → generated_from (n + m) g out ≡ generated (Ok (a + b, after')) (take a out' ++ rest)
unfolding write
pieces n m g after after' out out' rest a b e f =
    let x = accepted n g out a after out' e in
    let y = accepted m after (drop a out') b after' rest f in
    let first = load_bytes n g in
    let second = load_bytes m (source_after n g) in
    let both = bytes_both n m g in
    let behind : drop a out' ≡ drop a out = ap (drop a) x.bytes ∙ drop_at first (drop a out) a (sym x.size) in
    let next : load_bytes m after ≡ second = ap (load_bytes m) x.source in
    let sum : length (load_bytes (n + m) g) ≡ a + b
    = ap length both ∙ length-append first second ∙ sym (λ i. x.size i + (y.size ∙ ap length next) i) in
    let room : length (load_bytes (n + m) g) ≤ length out = omega (arith, sum, x.size, x.room, y.size, y.room, ap length behind, length-drop a out) in
    let source : source_after (n + m) g ≡ after' = after_both n m g ∙ ap (source_after m) (sym x.source) ∙ sym y.source in
    let tail : drop (0 + length (load_bytes (n + m) g)) out ≡ drop b (drop a out')
    = ap (λ (i : ℕ). drop i out) (zero-add _ ∙ sum) ∙ sym (drop-drop b a out) ∙ ap (drop b) (sym behind) in
    let bytes : load_bytes (n + m) g ++ drop (0 + length (load_bytes (n + m) g)) out ≡ take a out' ++ rest
    = (λ i. both i ++ tail i) ∙ append_assoc first second (drop b (drop a out'))
    ∙ sym (λ i. x.front i ++ (y.bytes ∙ ap (λ (l : List ℕ). l ++ drop b (drop a out')) next) i) in
    sym (generated_all (n + m) g out x.started (le-leb _ _ room)) ∙ (λ i. generated (Ok (sum i, source i)) (bytes i))

-- the same of the public calls
pub whole : (n m x : ℕ) (after after' : Source) (out out' rest : List ℕ) (a b : ℕ)
    → generate_load_of n x out ≡ generated (Ok (a, after)) out' → go_on_of m after (drop a out') ≡ generated (Ok (b, after')) rest
    → generate_load_of (n + m) x out ≡ generated (Ok (a + b, after')) (take a out' ++ rest)
whole n m x after after' out out' rest a b e f = pieces n m (source x 0 0) after after' out out' rest a b e (go_on_is m after (drop a out') b after' rest f)
