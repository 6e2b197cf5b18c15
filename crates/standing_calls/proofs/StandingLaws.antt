-- Laws of the standing calls in their list: a call that is written behind them is the newest, and what becomes of a call by what was said.
use Prim.Native.Nat.{ℕ, zero, suc, ◌+◌, ◌*◌, ◌≤◌, ◌<◌, max}
use mathlib.Core.Path.{◌≡◌, refl, sym, ap, ◌∙◌, subst}
use mathlib.Core.Bool.{Bool, true, false, cond, ◌&&◌, ◌||◌}
use mathlib.Core.List.{List, [], ◌∷◌}
use native.Mathlib.Omega.{arith}
use native.Mathlib.Numerals.{add-one}
use lib.Dec.{eqb, leb, ltb}
use lib.IntN.{ℤ, pos, nat_abs}
use lib.ListN.{length, set, get_or, length-set}
use lib.Seq.{get_or-set_same, get_or-set_other}
use borrow.Author.Tests.{le-leb, lt-leb, lt-ltb, le-ltb, eq-eqb, ne_eqb}
use Rattle.index_types.specs.declared.SpillCounts.{SpillCounts}
use Rattle.segment_id.specs.declared.Kind.TheVariants.{Box, Tx}
use Rattle.buffer_core.specs.declared.Direction.TheVariants.{Spend, Unspend}
use Rattle.buffer_core.specs.Edition.{edition_1}
use Rattle.calls.specs.declared.Call.{Call}
use Rattle.calls.specs.declared.Call.TheVariants.{Append, Flip, Pop, Flush, Change, Bad, Cut, End}
use Rattle.calls.specs.Calls.{Among}
use Rattle.trial_core.specs.Trial.{ends_run, changes, undo_of}
use Rattle.standing_calls.specs.declared.Side.{Side as DeclaredSide}
use Rattle.standing_calls.specs.declared.TrialState.{TrialState}
use Rattle.standing_calls.specs.Stands.{side_of, noted_state, number_limit, stood_kind, stood_number, stood_call, stood, stood_at, standing_of, with_stood, stand, StandReady, StandsBy}

-- ---- the largest numbers
module _ (n : SpillCounts) (k : ℕ) (t : TrialState) where
  abbrev noted_with : ℕ → ℕ → TrialState
  noted_with a b = record { counts = n; side = t.side; stood = t.stood; staged = a; deleted = b; end = k }

  pub noted_by : (a b : ℕ) → a ≡ max t.staged n.staged.count → b ≡ max t.deleted n.deleted.count → noted_with a b ≡ noted_state n k t
  noted_by a b p q = λ i. noted_with (p i) (q i)

-- ---- the side
pub changes_told : {a b x y : DeclaredSide} → a ≡ x → b ≡ y → (room : ℕ) → changes edition_1 room (side_of x) (side_of y) ≡ changes edition_1 room (side_of a) (side_of b)
changes_told e f room = λ i. changes edition_1 room (side_of (sym e i)) (side_of (sym f i))

-- ---- the standing calls in their list
pub standing_length : (n : ℕ) (l : List ℤ) → length (standing_of n l) ≡ n
unfolding standing_of
standing_length zero l = refl
standing_length (suc n) l = ap suc (standing_length n l)

stood_same : (i : ℕ) (l l' : List ℤ) → ((j : ℕ) → j < i * 3 + 3 → get_or l' j (pos 0) ≡ get_or l j (pos 0)) → stood_at i l' ≡ stood_at i l
stood_same i l l' f =
    let p = f (i * 3) (omega arith) in
    let q = f (i * 3 + 1) (omega arith) in
    let r = f (i * 3 + 2) (omega arith) in
    λ k. stood (stood_call (nat_abs (p k)) (q k)) (nat_abs (r k))

standing_same : (n : ℕ) (l l' : List ℤ) → ((j : ℕ) → j < n * 3 → get_or l' j (pos 0) ≡ get_or l j (pos 0)) → standing_of n l' ≡ standing_of n l
unfolding standing_of
standing_same zero l l' f = refl
standing_same (suc n) l l' f =
    let p = stood_same n l l' (λ j h. f j (omega arith)) in
    let q = standing_same n l l' (λ j h. f j (omega arith)) in
    λ k. p k ∷ q k

module _ (c : Call) (b n : ℕ) (l : List ℤ) (fits : n * 3 + 3 ≤ length l) where
  abbrev l₁ : List ℤ
  l₁ = set l (n * 3) (pos (stood_kind c))

  abbrev l₂ : List ℤ
  l₂ = set l₁ (n * 3 + 1) (stood_number c)

  same_below : (j : ℕ) → j < n * 3 → get_or (with_stood c b n l) j (pos 0) ≡ get_or l j (pos 0)
  same_below j h =
      get_or-set_other l₂ (n * 3 + 2) j (pos b) (pos 0) (λ e. omega (arith, e))
      ∙ get_or-set_other l₁ (n * 3 + 1) j (stood_number c) (pos 0) (λ e. omega (arith, e))
      ∙ get_or-set_other l (n * 3) j (pos (stood_kind c)) (pos 0) (λ e. omega (arith, e))

  newest : stood_at n (with_stood c b n l) ≡ stood (stood_call (stood_kind c) (stood_number c)) b
  newest =
      let p = get_or-set_other l₂ (n * 3 + 2) (n * 3) (pos b) (pos 0) (λ e. omega (arith, e))
      ∙ get_or-set_other l₁ (n * 3 + 1) (n * 3) (stood_number c) (pos 0) (λ e. omega (arith, e))
      ∙ get_or-set_same l (n * 3) (pos (stood_kind c)) (pos 0) (omega arith) in
      let q = get_or-set_other l₂ (n * 3 + 2) (n * 3 + 1) (pos b) (pos 0) (λ e. omega (arith, e))
      ∙ get_or-set_same l₁ (n * 3 + 1) (stood_number c) (pos 0) (omega (arith, length-set l (n * 3) (pos (stood_kind c)))) in
      let r = get_or-set_same l₂ (n * 3 + 2) (pos b) (pos 0) (omega (arith, length-set l (n * 3) (pos (stood_kind c)), length-set l₁ (n * 3 + 1) (stood_number c))) in
      λ k. stood (stood_call (nat_abs (p k)) (q k)) (nat_abs (r k))

  -- a call that is written behind the standing ones is the newest
  pub standing_put : standing_of (n + 1) (with_stood c b n l) ≡ stood (stood_call (stood_kind c) (stood_number c)) b ∷ standing_of n l
  unfolding standing_of
  standing_put =
      ap (λ (m : ℕ). standing_of m (with_stood c b n l)) (add-one n)
      ∙ (λ k. newest k ∷ standing_same n l (with_stood c b n l) same_below k)

-- ---- what becomes of the standing calls, as the code tests it
module _ (room b : ℕ) (c : Call) (n k : ℕ) (l : List ℤ) where
  pub stands_put : StandReady room b n l → k ≡ 0 → n < room → (l' : List ℤ) → l' ≡ with_stood c b n l → StandsBy room b c n k l (stand (n + 1) 0) l'
  stands_put r e f l' q =
      let w = eq-eqb k 0 e in
      let v = lt-ltb n room f in
      record {
        answer = λ i. cond (sym w i) (cond (sym v i) (stand (n + 1) 0) (stand n 40)) (cond (ends_run edition_1 room k) (stand n k) (stand n 0));
        standing =
            ap (standing_of (n + 1)) q
            ∙ standing_put c b n l (omega (arith, r.long, f))
            ∙ (λ i. cond (sym w i) (cond (sym v i) (stood (stood_call (stood_kind c) (stood_number c)) b ∷ standing_of n l) (standing_of n l)) (standing_of n l));
      }

  pub stands_full : k ≡ 0 → room ≤ n → StandsBy room b c n k l (stand n 40) l
  stands_full e f =
      let w = eq-eqb k 0 e in
      let v = le-ltb n room f in
      record {
        answer = λ i. cond (sym w i) (cond (sym v i) (stand (n + 1) 0) (stand n 40)) (cond (ends_run edition_1 room k) (stand n k) (stand n 0));
        standing = λ i. cond (sym w i) (cond (sym v i) (stood (stood_call (stood_kind c) (stood_number c)) b ∷ standing_of n l) (standing_of n l)) (standing_of n l);
      }

  pub stands_ended : (k ≡ 0 → ⊥) → true ≡ ends_run edition_1 room k → StandsBy room b c n k l (stand n k) l
  stands_ended e u =
      let w = ne_eqb k 0 e in
      record {
        answer = λ i. cond (sym w i) (cond (ltb n room) (stand (n + 1) 0) (stand n 40)) (cond (u i) (stand n k) (stand n 0));
        standing = λ i. cond (sym w i) (cond (ltb n room) (stood (stood_call (stood_kind c) (stood_number c)) b ∷ standing_of n l) (standing_of n l)) (standing_of n l);
      }

  pub stands_on : (k ≡ 0 → ⊥) → false ≡ ends_run edition_1 room k → StandsBy room b c n k l (stand n 0) l
  stands_on e u =
      let w = ne_eqb k 0 e in
      record {
        answer = λ i. cond (sym w i) (cond (ltb n room) (stand (n + 1) 0) (stand n 40)) (cond (u i) (stand n k) (stand n 0));
        standing = λ i. cond (sym w i) (cond (ltb n room) (stood (stood_call (stood_kind c) (stood_number c)) b ∷ standing_of n l) (standing_of n l)) (standing_of n l);
      }

-- the three numbers that end a trial
pub ends_told : (k room : ℕ) (w v u : Bool) → eqb k 16 ≡ w → eqb k 21 ≡ v → eqb k 22 ≡ u → w || (v || u) ≡ ends_run edition_1 room k
ends_told k room w v u e f g = λ i. sym e i || (sym f i || sym g i)

pub kind_small : (c : Call) → stood_kind c < number_limit
kind_small (Append Box p z) = omega arith
kind_small (Append Tx p z) = omega arith
kind_small (Flip d p z) = omega arith
kind_small (Pop k p) = omega arith
kind_small Flush = omega arith
kind_small (Change a p n t v) = omega arith
kind_small Bad = omega arith
kind_small Cut = omega arith
kind_small End = omega arith

-- ---- an undo
module _ (k : ℕ) (z : ℤ) (room : ℕ) where
  abbrev undo_by : Bool → Bool → Call
  undo_by w v = undo_of edition_1 room (cond w (Append Box 0 z) (cond v (Append Tx 0 z) (Flip Spend 0 z)))

  pub undo_box : k ≡ 0 → Pop Box 0 ≡ undo_of edition_1 room (stood_call k z)
  undo_box e = ap (λ (w : Bool). undo_by w (eqb k 1)) (sym (eq-eqb k 0 e))

  pub undo_tx : (k ≡ 0 → ⊥) → k ≡ 1 → Pop Tx 0 ≡ undo_of edition_1 room (stood_call k z)
  undo_tx n e = let w = ne_eqb k 0 n in let v = eq-eqb k 1 e in λ i. undo_by (sym w i) (sym v i)

  pub undo_spend : (k ≡ 0 → ⊥) → (k ≡ 1 → ⊥) → (y : ℤ) → y ≡ z → Flip Unspend 0 y ≡ undo_of edition_1 room (stood_call k z)
  undo_spend n e y q = ap (Flip Unspend 0) q ∙ (let w = ne_eqb k 0 n in let v = ne_eqb k 1 e in λ i. undo_by (sym w i) (sym v i))

  among_by : (w v : Bool) → Among 1 (undo_by w v)
  among_by true v = omega arith
  among_by false true = omega arith
  among_by false false = omega arith

  pub undo_among : Among 1 (undo_of edition_1 room (stood_call k z))
  undo_among = among_by (eqb k 0) (eqb k 1)

pub newest_among : (i : ℕ) (l : List ℤ) (c : Call) → ((room : ℕ) → c ≡ undo_of edition_1 room (stood_at i l).call) → Among 1 c
newest_among i l c q = subst (Among 1) (sym (q 0)) (undo_among (nat_abs (get_or l (i * 3) (pos 0))) (get_or l (i * 3 + 1) (pos 0)) 0)

-- ---- how deep a fork may be
module _ (d b : ℕ) where
  pub undo_within : d ≤ 720 → leb d b ≡ leb d 720 && leb d b
  undo_within h = sym (ap (λ (w : Bool). w && leb d b) (le-leb d 720 h))

  pub undo_too_deep : 720 < d → false ≡ leb d 720 && leb d b
  undo_too_deep h = sym (ap (λ (w : Bool). w && leb d b) (lt-leb d 720 h))
