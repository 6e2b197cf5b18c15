-- The loops over a block's calls and over a fork's undos.
use Prim.Native.Nat.{ℕ, zero, suc, ◌+◌, ◌*◌, ◌-◌, ◌≤◌, ◌<◌}
use mathlib.Core.Path.{◌≡◌, refl, sym, ap, ◌∙◌, subst}
use mathlib.Core.Bool.{Bool, true, false, cond}
use mathlib.Core.List.{List, [], ◌∷◌}
use native.Mathlib.Omega.{arith}
use lib.Dec.{leb, ltb}
use lib.IntN.{ℤ}
use lib.ListN.{length}
use borrow.Author.Tests.{le-leb, lt-leb, ltb-true, ltb-false}
use Rattle.buffer_core.specs.Edition.{edition_1}
use Rattle.calls.specs.declared.Call.{Call}
use Rattle.call_steps.specs.State.{State, Ready}
use Rattle.load_core.specs.declared.Source.{Source}
use Rattle.load_core.specs.declared.Drawn.{Drawn}
use Rattle.load_core.specs.Draw.{draws}
use Rattle.load_core.proofs.DrawLaws.{drawn_is}
use Rattle.trial_core.specs.Trial.{Stood, Trial, Going, on, then, make, change_to, undid, undoing, with_standing, block_of, back_to}
use Rattle.standing_calls.specs.Stands.{number_limit, stood_at, standing_of, StandReady}
use Rattle.trial_steps.specs.Held.{Drawable, Held, trial_of, Goes, MakeReady, MakesBy, UndoReady, UndoesBy}
use Rattle.trial_steps.proofs.StepLaws.{goes_ready, goes_on, goes_ended}
use Rattle.trial_runs.specs.Runs.{Countable, Grown, BlockReady, BlockBy, ForkReady, ForkBy}

-- ---- what is drawn
pub drawable : (g : Source) → Drawable (draws g).call
drawable g = drawn_is (λ (r : Drawn). Drawable r.call) g (λ d. refl) (λ d. refl) (λ d h. (refl, refl)) (λ d. tt)

grown_one : (g : Source) → Grown 1 g (draws g).next
grown_one g =
    drawn_is (λ (r : Drawn). Grown 1 g r.next) g
    (λ d. record { boxes = omega arith; txs = omega arith })
    (λ d. record { boxes = omega arith; txs = omega arith })
    (λ d h. record { boxes = omega arith; txs = omega arith })
    (λ d. record { boxes = omega arith; txs = omega arith })

-- ---- a block

-- between two calls: the slices keep their lengths, and what is left to make ends where the whole block ends
pub record BlockKept (sizes : Type 0) (n room b left : ℕ) (g₀ : Source) (h₀ : Held) (l₀ : List ℤ) (g : Source) (h : Held) (l : List ℤ) : Type 0 where
  pub same : sizes
  pub ready : Ready 1 h.now
  pub stands : StandReady room b h.stood l
  pub going : h.end ≡ 0
  pub within : left ≤ n
  pub grown : Grown (n - left) g₀ g
  pub countable : Countable n g₀
  pub rest : (g' : Source) (h' : Held) (k : List Stood) → ((answers : List ℕ) → Goes h' k g' b (block_of edition_1 room left (trial_of h (standing_of h.stood l) g b answers)))
      → (answers : List ℕ) → Goes h' k g' b (block_of edition_1 room n (trial_of h₀ (standing_of h₀.stood l₀) g₀ b answers))

module _ (n room b : ℕ) (g₀ : Source) (h₀ : Held) (l₀ : List ℤ) where
  pub block_start : (sizes : Type 0) → sizes → BlockReady n room b g₀ h₀.stood h₀.end l₀ h₀.now → BlockKept sizes n room b n g₀ h₀ l₀ g₀ h₀ l₀
  block_start sizes k r =
      record {
        same = k;
        ready = r.ready;
        stands = r.stands;
        going = r.going;
        within = omega arith;
        grown = record { boxes = omega arith; txs = omega arith };
        countable = r.countable;
        rest = λ g' h' k f. f;
      }

  module _ (sizes : Type 0) (left : ℕ) (g : Source) (h : Held) (l : List ℤ) (K : BlockKept sizes n room b left g₀ h₀ l₀ g h l) where
    pub block_counts : 0 < left → (g.boxes < number_limit) × (g.txs < number_limit)
    block_counts p = (omega (arith, K.grown.boxes, K.countable.boxes, K.within), omega (arith, K.grown.txs, K.countable.txs, K.within))

    pub block_ready : (r : Drawn) → r ≡ draws g → MakeReady room b r.call h.stood l h.now
    block_ready r q = record { ready = K.ready; stands = K.stands; drawable = subst (λ (x : Drawn). Drawable x.call) (sym q) (drawable g) }

    -- the first of the calls that are left, and the others
    block_more : (m : ℕ) (s : Trial) → 0 < m → block_of edition_1 room m s ≡ then (make edition_1 room (draws s.gen).call (record { now = s.now; gen = (draws s.gen).next; standing = s.standing; blocks = s.blocks; side = s.side; staged = s.staged; deleted = s.deleted; answers = s.answers })) (block_of edition_1 room (m - 1))
    unfolding block_of
    block_more zero s p = absurd (omega arith)
    block_more (suc m) s p =
        let e : m ≡ suc m - 1 = omega arith in
        ap (λ (j : ℕ). then (make edition_1 room (draws s.gen).call (record { now = s.now; gen = (draws s.gen).next; standing = s.standing; blocks = s.blocks; side = s.side; staged = s.staged; deleted = s.deleted; answers = s.answers })) (block_of edition_1 room j)) e

    module _ (p : 0 < left) (h₁ : Held) (l₁ : List ℤ) (M : MakesBy room b (draws g).call h l h₁ l₁) where
      abbrev L : List Stood
      L = standing_of h.stood l

      abbrev L₁ : List Stood
      L₁ = standing_of h₁.stood l₁

      abbrev first : List ℕ → Going
      first answers = make edition_1 room (draws g).call (trial_of h L (draws g).next b answers)

      grown_more : Grown (n - (left - 1)) g₀ (draws g).next
      grown_more =
          record {
            boxes = omega (arith, (grown_one g).boxes, K.grown.boxes, K.within);
            txs = omega (arith, (grown_one g).txs, K.grown.txs, K.within);
          }

      turn_ended : (h₁.end ≡ 0 → ⊥) → BlockBy n room b g₀ h₀ l₀ (draws g).next h₁ l₁
      turn_ended z =
          record {
            few = M.few;
            grown = record { boxes = omega (arith, grown_more.boxes); txs = omega (arith, grown_more.txs) };
            goes = K.rest (draws g).next h₁ L₁ (λ answers.
                subst (Goes h₁ L₁ (draws g).next b) (sym (block_more left (trial_of h L g b answers) p))
                (goes_ended h₁ L₁ (draws g).next b h₁ L₁ (draws g).next b (block_of edition_1 room (left - 1)) (first answers) (M.goes (draws g).next answers) z refl));
          }

      turn_on : (sizes' : Type 0) → sizes' → length l₁ ≡ length l → h₁.end ≡ 0 → BlockKept sizes' n room b (left - 1) g₀ h₀ l₀ (draws g).next h₁ l₁
      turn_on sizes' k same z =
          record {
            same = k;
            ready = goes_ready h₁ L₁ (draws g).next b (first []) (M.goes (draws g).next []) z;
            stands = record { few = M.few; long = omega (arith, same, K.stands.long); small = K.stands.small };
            going = z;
            within = omega (arith, K.within);
            grown = grown_more;
            countable = K.countable;
            rest = λ g' h' k f. K.rest g' h' k (λ answers.
                subst (Goes h' k g' b) (sym (block_more left (trial_of h L g b answers) p))
                (goes_on h₁ L₁ (draws g).next b h' k g' b (block_of edition_1 room (left - 1)) (first answers) (M.goes (draws g).next answers) z f));
          }

    module _ (p : 0 < left) (r : Drawn) (q : r ≡ draws g) (h₁ : Held) (l₁ : List ℤ) where
      pub block_ended : MakesBy room b r.call h l h₁ l₁ → (h₁.end ≡ 0 → ⊥) → BlockBy n room b g₀ h₀ l₀ r.next h₁ l₁
      block_ended M z =
          subst (λ (x : Source). BlockBy n room b g₀ h₀ l₀ x h₁ l₁) (sym (ap (λ (x : Drawn). x.next) q))
          (turn_ended p h₁ l₁ (subst (λ (x : Drawn). MakesBy room b x.call h l h₁ l₁) q M) z)

      pub block_turn : MakesBy room b r.call h l h₁ l₁ → (sizes' : Type 0) → sizes' → length l₁ ≡ length l → h₁.end ≡ 0 → BlockKept sizes' n room b (left - 1) g₀ h₀ l₀ r.next h₁ l₁
      block_turn M sizes' k same z =
          subst (λ (x : Source). BlockKept sizes' n room b (left - 1) g₀ h₀ l₀ x h₁ l₁) (sym (ap (λ (x : Drawn). x.next) q))
          (turn_on p h₁ l₁ (subst (λ (x : Drawn). MakesBy room b x.call h l h₁ l₁) q M) sizes' k same z)

    none_left : (m : ℕ) (s : Trial) → m ≤ 0 → block_of edition_1 room m s ≡ on s
    unfolding block_of
    none_left zero s p = refl
    none_left (suc m) s p = absurd (omega arith)

    pub block_end : left ≤ 0 → BlockBy n room b g₀ h₀ l₀ g h l
    block_end p =
        record {
          few = K.stands.few;
          grown = record { boxes = omega (arith, K.grown.boxes); txs = omega (arith, K.grown.txs) };
          goes = K.rest g h (standing_of h.stood l) (λ answers.
              subst (Goes h (standing_of h.stood l) g b) (sym (none_left left (trial_of h (standing_of h.stood l) g b answers) p)) (K.going, K.ready, refl));
        }

-- ---- a fork

-- between two undos
pub record ForkKept (sizes : Type 0) (lowest left : ℕ) (l : List ℤ) (h₀ h : Held) : Type 0 where
  pub same : sizes
  pub ready : Ready 1 h.now
  pub long : h.stood * 3 ≤ length l
  pub going : h.end ≡ 0
  pub counted : left ≡ h.stood
  pub fewer : h.stood ≤ h₀.stood
  pub rest : (room : ℕ) (g : Source) (b : ℕ) (h' : Held) (k : List Stood)
      → ((answers : List ℕ) → Goes h' k g b (back_to edition_1 room lowest (standing_of h.stood l) (trial_of h (standing_of h.stood l) g b answers)))
      → (answers : List ℕ) → Goes h' k g b (back_to edition_1 room lowest (standing_of h₀.stood l) (trial_of h₀ (standing_of h₀.stood l) g b answers))

module _ (lowest : ℕ) (l : List ℤ) (h₀ : Held) where
  pub fork_start : (sizes : Type 0) → sizes → ForkReady h₀.stood h₀.end l h₀.now → ForkKept sizes lowest h₀.stood l h₀ h₀
  fork_start sizes k r =
      record {
        same = k;
        ready = r.ready;
        long = r.long;
        going = r.going;
        counted = refl;
        fewer = omega arith;
        rest = λ room g b h' k f. f;
      }

  module _ (sizes : Type 0) (left : ℕ) (h : Held) (K : ForkKept sizes lowest left l h₀ h) where
    abbrev N : List Stood
    N = standing_of h.stood l

    -- the block of the newest standing call, as it is tested
    module _ (w : Bool) (e : w ≡ ltb (stood_at (left - 1) l).block lowest) where
      newest : ltb (stood_at (h.stood - 1) l).block lowest ≡ w
      newest = sym (e ∙ ap (λ (j : ℕ). ltb (stood_at (j - 1) l).block lowest) K.counted)

      pub newest_earlier : w ≡ true → (stood_at (h.stood - 1) l).block < lowest
      newest_earlier t = ltb-true (stood_at (h.stood - 1) l).block lowest (newest ∙ t)

      pub newest_undone : w ≡ false → lowest ≤ (stood_at (h.stood - 1) l).block
      newest_undone t = ltb-false (stood_at (h.stood - 1) l).block lowest (newest ∙ t)

    module _ (p : 0 < left) where
      abbrev x : Stood
      x = stood_at (h.stood - 1) l

      pub undo_ready : UndoReady h.stood l h.now
      undo_ready = record { ready = K.ready; some = omega (arith, K.counted); long = K.long }

      split : (m : ℕ) → 0 < m → standing_of m l ≡ stood_at (m - 1) l ∷ standing_of (m - 1) l
      unfolding standing_of
      split zero q = absurd (omega arith)
      split (suc m) q =
          let e : m ≡ suc m - 1 = omega arith in
          λ i. stood_at (e i) l ∷ standing_of (e i) l

      cut : N ≡ x ∷ standing_of (h.stood - 1) l
      cut = split h.stood (omega (arith, K.counted))

      module _ (room : ℕ) (g : Source) (b : ℕ) (answers : List ℕ) where
        abbrev s : Trial
        s = trial_of h N g b answers

        abbrev one : Going
        one = then (change_to edition_1 room undid s) (undoing edition_1 room x.call)

        abbrev others : Trial → Going
        others t = back_to edition_1 room lowest (standing_of (h.stood - 1) l) (with_standing (standing_of (h.stood - 1) l) t)

        pub back_some : lowest ≤ x.block → back_to edition_1 room lowest N s ≡ then one others
        unfolding back_to
        back_some q =
            ap (λ (k : List Stood). back_to edition_1 room lowest k s) cut
            ∙ ap (λ (w : Bool). cond w (then one others) (on s)) (le-leb lowest x.block q)

        pub back_none : x.block < lowest → back_to edition_1 room lowest N s ≡ on s
        unfolding back_to
        back_none q =
            ap (λ (k : List Stood). back_to edition_1 room lowest k s) cut
            ∙ ap (λ (w : Bool). cond w (then one others) (on s)) (lt-leb lowest x.block q)

      -- the newest standing call is of an earlier block
      pub fork_stops : x.block < lowest → ForkBy lowest h₀ l h
      fork_stops q =
          record {
            few = λ e. K.fewer;
            goes = λ room g b. K.rest room g b h N (λ answers.
                subst (Goes h N g b) (sym (back_none room g b answers q)) (K.going, K.ready, refl));
          }

      module _ (q : lowest ≤ x.block) (h₁ : Held) (U : UndoesBy h l h₁) where
        pub fork_ended : (h₁.end ≡ 0 → ⊥) → ForkBy lowest h₀ l h₁
        fork_ended z =
            record {
              few = λ e. absurd (z e);
              goes = λ room g b. K.rest room g b h₁ (standing_of h₁.stood l) (λ answers.
                  subst (Goes h₁ (standing_of h₁.stood l) g b) (sym (back_some room g b answers q))
                  (goes_ended h₁ N g b h₁ (standing_of h₁.stood l) g b (others room g b answers) (one room g b answers) (U.goes room N g b answers) z refl));
            }

        pub fork_turn : (sizes' : Type 0) → sizes' → h₁.end ≡ 0 → ForkKept sizes' lowest (left - 1) l h₀ h₁
        fork_turn sizes' k z =
            let c = U.stood z in
            record {
              same = k;
              ready = goes_ready h₁ N g₀ 0 (one 0 g₀ 0 []) (U.goes 0 N g₀ 0 []) z;
              long = omega (arith, c, K.long);
              going = z;
              counted = omega (arith, c, K.counted);
              fewer = omega (arith, c, K.fewer);
              rest = λ room g b h' k f. K.rest room g b h' k (λ answers.
                  subst (Goes h' k g b) (sym (back_some room g b answers q))
                  (goes_on h₁ N g b h' k g b (others room g b answers) (one room g b answers) (U.goes room N g b answers) z (λ said.
                  subst (λ (j : ℕ). Goes h' k g b (back_to edition_1 room lowest (standing_of j l) (trial_of h₁ (standing_of j l) g b said))) c (f said))));
            }
          where
            g₀ : Source
            g₀ = record { state = 0; boxes = 0; txs = 0 }

    empty : (m : ℕ) (room : ℕ) (s : Trial) → m ≤ 0 → back_to edition_1 room lowest (standing_of m l) s ≡ on s
    unfolding back_to standing_of
    empty zero room s p = refl
    empty (suc m) room s p = absurd (omega arith)

    pub fork_end : left ≤ 0 → ForkBy lowest h₀ l h
    fork_end p =
        record {
          few = λ e. K.fewer;
          goes = λ room g b. K.rest room g b h N (λ answers.
              subst (Goes h N g b) (sym (empty h.stood room (trial_of h N g b answers) (omega (arith, K.counted)))) (K.going, K.ready, refl));
        }
