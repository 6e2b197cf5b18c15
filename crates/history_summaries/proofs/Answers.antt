-- From a call's answer to what stands after it: the index, and the summaries.
use mathlib.Core.Path.{◌≡◌, refl, sym, ap}
use mathlib.Core.List.{List}
use Prim.Native.Nat.{ℕ}
use native.Mathlib.Omega.{arith}
use lib.IntN.{ℤ}
use Rattle.std.specs.Prelude.{Ok, Err}
use Rattle.index_types.specs.Answers.{Appended}
use Rattle.index_types.specs.Answers.{Popped}
use Rattle.index_types.specs.Answers.{Flipped}
use Rattle.index_types.specs.Answers.{Flushed}
use Rattle.summary_core.proofs.AcceptedLaws.{IsAppended, IsPopped, IsFlushed}
use Rattle.summary_core.proofs.FlipLaws.{IsFlipped}
use Rattle.ledger.specs.Ledger.{Parent, Series, parent_dec}
use Rattle.ledger.specs.Run.{Made, accepted, refused_leaving}
use Rattle.ledger.specs.Run as Mc
use Rattle.ledger.proofs.TestLaws.{ite_yes, ite_no}
use Rattle.fork_model.proofs.Results.{map_res, map_pop, result_of}
use Rattle.history.specs.Index.{Index, after_append, after_pop, after_flip, after_flush}
use Rattle.history_summaries.specs.Summaries.{SummaryIndex, summary_index, set_summary, with_summaries, pop_with_summaries}

pub not_refused : {S A : Type 0} {a : A} {k : ℕ} {s : S} → ◌≡◌ {A = Made S A} (refused_leaving k s) (accepted a) → ⊥
not_refused e = let z : ◌≡◌ {A = ℕ} 0 1 = cc in omega arith

-- ---- an accepted call was answered so
pub is_appended : (b : Index) (ch : Series) (a : Appended) (head : List ℤ) (staged : List ℕ) (c : Index) → after_append b ch a head staged ≡ accepted c → IsAppended a
is_appended b ch (Ok (h, d)) head staged c e = tt
is_appended b ch (Err code) head staged c e = absurd (not_refused e)

pub is_popped : (b : Index) (ch : Series) (a : Popped) (head : List ℤ) (staged deleted : List ℕ) (r : Mc.Popped Index) → after_pop b ch a head staged deleted ≡ accepted r → IsPopped a
is_popped b ch (Ok (n, h, c, d)) head staged deleted r e = tt
is_popped b ch (Err code) head staged deleted r e = absurd (not_refused e)

pub is_flipped : (b : Index) (ch : Series) (a : Flipped) (head : List ℤ) (staged : List ℕ) (c : Index) → after_flip b ch a head staged ≡ accepted c → IsFlipped a
is_flipped b ch (Ok d) head staged c e = tt
is_flipped b ch (Err code) head staged c e = absurd (not_refused e)

pub is_flushed : (b : Index) (a : Flushed) (table staged deleted : List ℕ) (c : Index) → after_flush b a table staged deleted ≡ accepted c → IsFlushed a
is_flushed b (Ok (t, d, e)) table staged deleted c q = tt
is_flushed b (Err code) table staged deleted c q = absurd (not_refused q)

-- ---- the index and the summaries after it
pub with_done : (S : Parent → List ℕ) (X : Made Index Index) (c : SummaryIndex) → with_summaries S X ≡ accepted c → (X ≡ accepted c.index) × (c.summaries ≡ S)
with_done S (accepted b) c e =
    let q : summary_index b S ≡ c = cc in
    (ap {B = Made Index Index} (λ x. accepted x.index) q, ap (λ x. x.summaries) (sym q))
with_done S (refused_leaving code b) c e = absurd (not_refused e)

pub pop_done : (S : Parent → List ℕ) (X : Made Index (Mc.Popped Index)) (r : Mc.Popped SummaryIndex) → pop_with_summaries S X ≡ accepted r
    → (X ≡ accepted (map_pop (λ b. b.index) r)) × (r.left.summaries ≡ S)
pop_done S (accepted x) r e =
    let y : Mc.Popped SummaryIndex = record { left = summary_index x.left S; value = x.value } in
    let q : y ≡ r = cc in
    (ap {B = Made Index (Mc.Popped Index)} (λ z. accepted (map_pop (λ b. b.index) z)) q, ap (λ z. z.left.summaries) (sym q))
pop_done S (refused_leaving code b) r e = absurd (not_refused e)

-- the result without the summaries
pub with_result : (S : Parent → List ℕ) (X : Made Index Index) → map_res (λ b. b.index) (result_of (with_summaries S X)) ≡ result_of X
with_result S (accepted b) = refl
with_result S (refused_leaving code b) = refl

pub pop_result : (S : Parent → List ℕ) (X : Made Index (Mc.Popped Index)) → map_res (map_pop (λ b. b.index)) (result_of (pop_with_summaries S X)) ≡ result_of X
pop_result S (accepted r) = refl
pop_result S (refused_leaving code b) = refl

-- ---- the summaries with one replaced
pub set_own : (S : Parent → List ℕ) (p q : Parent) (s : List ℕ) → p ≡ q → set_summary S p s q ≡ s
set_own S p q s e = ite_yes (parent_dec p q) s (S q) e

pub set_other : (S : Parent → List ℕ) (p q : Parent) (s : List ℕ) → (p ≡ q → ⊥) → set_summary S p s q ≡ S q
set_other S p q s n = ite_no (parent_dec p q) s (S q) n
