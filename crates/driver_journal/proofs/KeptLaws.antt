-- What is kept of a call, by what it said.
use Prim.Native.Nat.{ℕ, ◌+◌, ◌≤◌}
use mathlib.Core.Path.{◌≡◌, refl, sym, ap, ◌∙◌}
use mathlib.Core.Bool.{Bool, true, false, cond, ◌&&◌}
use mathlib.Core.List.{List}
use lib.Dec.{eqb, leb}
use lib.ListN.{length}
use borrow.Author.Tests.{leb-true, eq-eqb, ne_eqb}
use Rattle.stores.specs.Stores.{write}
use Rattle.driver_core.specs.Bytes.{size_at, entry_of, Journal, journal, pushed}
use Rattle.driver_journal.specs.Journals.{has_room, kept_by}

-- a call has room for its entry
pub room_of : (b : Bool) (used size : ℕ) (l : List ℕ) → b ≡ true → has_room b used size l ≡ true → used + size ≤ length l
room_of b used size l e h = leb-true (used + size) (length l) (sym (ap (λ (t : Bool). cond t (leb (used + size) (length l)) true) e) ∙ h)

module _ (b : Bool) (code : ℕ) (s : List ℕ) (at : ℕ) (l : List ℕ) (used standing : ℕ) where
  abbrev j : Journal
  j = journal l used standing

  abbrev as_told : (t : Bool) → Journal
  as_told t = cond t (pushed s at j) j

  pub kept_pushed : b ≡ true → code ≡ 0 → (r : ℕ) (l' : List ℕ) → r ≡ used + size_at s at → l' ≡ write used (entry_of s at) l
      → journal l' r (standing + 1) ≡ kept_by b code s at j
  unfolding pushed
  kept_pushed e z r l' q w =
      (λ i. journal (w i) (q i) (standing + 1)) ∙ sym (ap as_told (ap (λ (t : Bool). t && eqb code 0) e ∙ eq-eqb code 0 z))

  pub kept_refused : b ≡ true → (code ≡ 0 → ⊥) → j ≡ kept_by b code s at j
  kept_refused e f = sym (ap as_told (ap (λ (t : Bool). t && eqb code 0) e ∙ ne_eqb code 0 f))

  pub kept_flush : b ≡ false → j ≡ kept_by b code s at j
  kept_flush e = sym (ap as_told (ap (λ (t : Bool). t && eqb code 0) e))
