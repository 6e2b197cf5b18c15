-- The steps of a trial: a block or a fork, and the loop over them.
use Prim.Native.Nat.{ℕ, zero, suc, ◌+◌, ◌*◌, ◌-◌, ◌≤◌, ◌<◌}
use mathlib.Core.Path.{◌≡◌, refl, sym, ap, ◌∙◌, subst}
use mathlib.Core.Bool.{Bool, true, false, cond, ◌&&◌}
use mathlib.Core.List.{List, [], ◌∷◌}
use native.Mathlib.Omega.{arith}
use native.Mathlib.Numerals.{add-one}
use lib.Dec.{leb}
use lib.IntN.{ℤ, pos, negsuc, nat_abs}
use lib.ListN.{length, drop, get_or, length-drop}
use lib.Seq.{drop-cons}
use lib.Signed.{mag}
use borrow.Author.Tests.{leb-true}
use Rattle.records.proofs.CheckLaws.{and_right}
use Rattle.signed.specs.Sign.{is_negative}
use Rattle.buffer_core.specs.Edition.{edition_1}
use Rattle.call_steps.specs.State.{State, Ready}
use Rattle.load_core.specs.declared.Source.{Source}
use Rattle.trial_core.specs.Trial.{Stood, Trial, Going, on, ended, then, with_blocks, block_of, back_to, fork_of, step_to, steps_to}
use Rattle.standing_calls.specs.Stands.{standing_of, StandReady}
use Rattle.trial_steps.specs.Held.{Held, held_at, trial_of, Goes}
use Rattle.trial_steps.proofs.StepLaws.{goes_ready, goes_on, goes_ended}
use Rattle.trial_runs.specs.Runs.{Countable, Grown, BlockReady, BlockBy, ForkReady, ForkBy, TurnReady, TurnBy, RunReady, RunBy}

-- ---- a step
pub step_forks : (room : ℕ) (z : ℤ) → is_negative z ≡ true → (s : Trial) → fork_of edition_1 room (nat_abs z) s ≡ step_to edition_1 room z s
step_forks room (pos n) e s = let q : ◌≡◌ {A = ℕ} 0 1 = cc in absurd (omega arith)
step_forks room (negsuc d) e s = refl

pub step_draws : (room : ℕ) (z : ℤ) → is_negative z ≡ false → (s : Trial)
    → then (block_of edition_1 room (nat_abs z) s) (λ t. on (with_blocks (t.blocks + 1) t)) ≡ step_to edition_1 room z s
step_draws room (pos n) e s = refl
step_draws room (negsuc d) e s = let q : ◌≡◌ {A = ℕ} 0 1 = cc in absurd (omega arith)

pub count_small : (z : ℤ) → is_negative z ≡ false → mag z < 2147483648 → nat_abs z < 2147483648
count_small (pos n) e h = h
count_small (negsuc d) e h = let q : ◌≡◌ {A = ℕ} 0 1 = cc in absurd (omega arith)

-- the number of blocks that stand changes, and nothing else
block_counted : (h : Held) (l : List Stood) (g : Source) (b : ℕ) (G : Going) → Goes h l g b G → Goes h l g (b + 1) (then G (λ t. on (with_blocks (t.blocks + 1) t)))
block_counted h l g b (on t) k = (k.0, k.1, ap (λ (u : Trial). with_blocks (u.blocks + 1) u) k.2)
block_counted h l g b (ended j) k = k

fork_counted : (h : Held) (l : List Stood) (g : Source) (b n : ℕ) (G : Going) → Goes h l g b G → Goes h l g n (then G (λ t. on (with_blocks n t)))
fork_counted h l g b n (on t) k = (k.0, k.1, ap (with_blocks n) k.2)
fork_counted h l g b n (ended j) k = k

module _ (room : ℕ) (z : ℤ) (g : Source) (b : ℕ) (h : Held) (l : List ℤ) (T : TurnReady room g b h.stood h.end l h.now) where
  abbrev L : List Stood
  L = standing_of h.stood l

  pub turn_block_ready : (n : ℕ) → n ≡ nat_abs z → is_negative z ≡ false → mag z < 2147483648 → BlockReady n room b g h.stood h.end l h.now
  turn_block_ready n e s m =
      let k = count_small z s m in
      record {
        ready = T.ready;
        stands = T.stands;
        countable = record { boxes = omega (arith, T.countable.boxes, e, k); txs = omega (arith, T.countable.txs, e, k) };
        going = T.going;
      }

  pub turn_block : (n : ℕ) → n ≡ nat_abs z → is_negative z ≡ false → mag z < 2147483648 → (g' : Source) (h' : Held) (l' : List ℤ) → BlockBy n room b g h l g' h' l'
      → TurnBy room z g b h l g' (b + 1) h' l'
  turn_block n e s m g' h' l' B =
      let k = count_small z s m in
      record {
        few = λ q. B.few;
        grown = record { boxes = omega (arith, B.grown.boxes, e, k); txs = omega (arith, B.grown.txs, e, k) };
        blocks = omega arith;
        goes = λ answers.
            subst (Goes h' (standing_of h'.stood l') g' (b + 1)) (step_draws room z s (trial_of h L g b answers))
            (subst (λ (j : ℕ). Goes h' (standing_of h'.stood l') g' (b + 1) (then (block_of edition_1 room j (trial_of h L g b answers)) (λ t. on (with_blocks (t.blocks + 1) t)))) e
            (block_counted h' (standing_of h'.stood l') g' b (block_of edition_1 room n (trial_of h L g b answers)) (B.goes answers)));
      }

  pub turn_fork_ready : ForkReady h.stood h.end l h.now
  turn_fork_ready = record { ready = T.ready; long = omega (arith, T.stands.few, T.stands.long); going = T.going }

  same_source : Grown 2147483648 g g
  same_source = record { boxes = omega arith; txs = omega arith }

  module _ (d : ℕ) (e : d ≡ nat_abs z) (s : is_negative z ≡ true) where
    abbrev fork_by : Bool → List ℕ → Going
    fork_by w answers =
        cond w (then (back_to edition_1 room (b - nat_abs z) L (trial_of h L g b answers)) (λ t. on (with_blocks (b - nat_abs z) t))) (ended 39)

    fork_told : (w : Bool) → w ≡ leb d 720 && leb d b → (answers : List ℕ) → fork_by w answers ≡ step_to edition_1 room z (trial_of h L g b answers)
    unfolding fork_of
    fork_told w q answers =
        ap (λ (v : Bool). fork_by v answers) (q ∙ ap (λ (j : ℕ). leb j 720 && leb j b) e)
        ∙ step_forks room z s (trial_of h L g b answers)

    pub turn_fork : true ≡ leb d 720 && leb d b → (h' : Held) → ForkBy (b - d) h l h' → TurnBy room z g b h l g (b - d) h' l
    turn_fork q h' F =
        record {
          few = λ k. omega (arith, F.few k, T.stands.few);
          grown = same_source;
          blocks = omega arith;
          goes = λ answers.
              subst (Goes h' (standing_of h'.stood l) g (b - d)) (fork_told true q answers)
              (subst (λ (j : ℕ). Goes h' (standing_of h'.stood l) g (b - d) (then (back_to edition_1 room (b - j) L (trial_of h L g b answers)) (λ t. on (with_blocks (b - j) t)))) e
              (fork_counted h' (standing_of h'.stood l) g b (b - d) (back_to edition_1 room (b - d) L (trial_of h L g b answers)) (F.goes room g b answers)));
        }

    pub turn_refused : false ≡ leb d 720 && leb d b → (h' : Held) → h'.end ≡ 39 → TurnBy room z g b h l g b h' l
    turn_refused q h' k =
        record {
          few = λ j. absurd (omega (arith, j, k));
          grown = same_source;
          blocks = omega arith;
          goes = λ answers. subst (Goes h' (standing_of h'.stood l) g b) (fork_told false q answers) (k, λ j. omega (arith, j));
        }

    pub depth_within : true ≡ leb d 720 && leb d b → d ≤ b
    depth_within q = leb-true d b (and_right (leb d 720) (leb d b) (sym q))

-- ---- the steps

-- between two steps
pub record RunKept (sizes : Type 0) (room : ℕ) (zs : List ℤ) (at : ℕ) (g₀ : Source) (b₀ : ℕ) (h₀ : Held) (l₀ : List ℤ) (g : Source) (b : ℕ) (h : Held) (l : List ℤ) : Type 0 where
  pub same : sizes
  pub ready : Ready 1 h.now
  pub few : h.stood ≤ room
  pub long : room * 3 ≤ length l
  pub going : h.end ≡ 0
  pub within : at ≤ length zs
  pub short : length zs ≤ 4096
  pub boxes : g.boxes ≤ at * 2147483648
  pub txs : g.txs ≤ at * 2147483648
  pub blocks : b ≤ at
  pub rest : (g' : Source) (b' : ℕ) (h' : Held) (k : List Stood)
      → ((answers : List ℕ) → Goes h' k g' b' (steps_to edition_1 room (drop at zs) (trial_of h (standing_of h.stood l) g b answers)))
      → (answers : List ℕ) → Goes h' k g' b' (steps_to edition_1 room zs (trial_of h₀ (standing_of h₀.stood l₀) g₀ b₀ answers))

module _ (room : ℕ) (zs : List ℤ) (g₀ : Source) (b₀ : ℕ) (h₀ : Held) (l₀ : List ℤ) where
  pub run_start : (sizes : Type 0) → sizes → RunReady (length zs) room g₀ b₀ h₀.stood h₀.end l₀ h₀.now → RunKept sizes room zs 0 g₀ b₀ h₀ l₀ g₀ b₀ h₀ l₀
  run_start sizes k r =
      record {
        same = k;
        ready = r.ready;
        few = r.stands.few;
        long = r.stands.long;
        going = r.going;
        within = omega arith;
        short = r.short;
        boxes = omega (arith, r.boxes);
        txs = omega (arith, r.txs);
        blocks = omega (arith, r.blocks);
        rest = λ g' b' h' k f. f;
      }

  module _ (sizes : Type 0) (at : ℕ) (g : Source) (b : ℕ) (h : Held) (l : List ℤ) (K : RunKept sizes room zs at g₀ b₀ h₀ l₀ g b h l) where
    abbrev M : List Stood
    M = standing_of h.stood l

    pub run_turn_ready : at < length zs → TurnReady room g b h.stood h.end l h.now
    run_turn_ready p =
        record {
          ready = K.ready;
          stands = record { few = K.few; long = K.long; small = omega (arith, K.blocks, K.within, K.short) };
          countable = record { boxes = omega (arith, K.boxes, K.short); txs = omega (arith, K.txs, K.short) };
          going = K.going;
        }

    module _ (p : at < length zs) (z : ℤ) (e : z ≡ get_or zs at (pos 0)) (g₁ : Source) (b₁ : ℕ) (h₁ : Held) (l₁ : List ℤ) (T : TurnBy room z g b h l g₁ b₁ h₁ l₁) where
      abbrev M₁ : List Stood
      M₁ = standing_of h₁.stood l₁

      steps_more : (s : Trial) → steps_to edition_1 room (drop at zs) s ≡ then (step_to edition_1 room z s) (steps_to edition_1 room (drop (at + 1) zs))
      unfolding steps_to
      steps_more s =
          ap (λ (k : List ℤ). steps_to edition_1 room k s) (drop-cons zs at (pos 0) p)
          ∙ (λ i. then (step_to edition_1 room (sym e i) s) (steps_to edition_1 room (drop (sym (add-one at) i) zs)))

      pub run_ended : (h₁.end ≡ 0 → ⊥) → RunBy room zs g₀ b₀ h₀ l₀ g₁ b₁ h₁ l₁
      run_ended n =
          record {
            goes = K.rest g₁ b₁ h₁ M₁ (λ answers.
                subst (Goes h₁ M₁ g₁ b₁) (sym (steps_more (trial_of h M g b answers)))
                (goes_ended h₁ M₁ g₁ b₁ h₁ M₁ g₁ b₁ (steps_to edition_1 room (drop (at + 1) zs)) (step_to edition_1 room z (trial_of h M g b answers)) (T.goes answers) n refl));
          }

      pub run_turn : (sizes' : Type 0) → sizes' → length l₁ ≡ length l → h₁.end ≡ 0 → RunKept sizes' room zs (at + 1) g₀ b₀ h₀ l₀ g₁ b₁ h₁ l₁
      run_turn sizes' k same n =
          record {
            same = k;
            ready = goes_ready h₁ M₁ g₁ b₁ (step_to edition_1 room z (trial_of h M g b [])) (T.goes []) n;
            few = T.few n;
            long = omega (arith, same, K.long);
            going = n;
            within = omega (arith, p);
            short = K.short;
            boxes = omega (arith, T.grown.boxes, K.boxes);
            txs = omega (arith, T.grown.txs, K.txs);
            blocks = omega (arith, T.blocks, K.blocks);
            rest = λ g' b' h' k f. K.rest g' b' h' k (λ answers.
                subst (Goes h' k g' b') (sym (steps_more (trial_of h M g b answers)))
                (goes_on h₁ M₁ g₁ b₁ h' k g' b' (steps_to edition_1 room (drop (at + 1) zs)) (step_to edition_1 room z (trial_of h M g b answers)) (T.goes answers) n f));
          }

    none_left : (k : List ℤ) (s : Trial) → length k ≤ 0 → steps_to edition_1 room k s ≡ on s
    unfolding steps_to
    none_left [] s p = refl
    none_left (y ∷ k) s p = absurd (omega arith)

    pub run_end : length zs ≤ at → RunBy room zs g₀ b₀ h₀ l₀ g b h l
    run_end p =
        record {
          goes = K.rest g b h M (λ answers.
              subst (Goes h M g b) (sym (none_left (drop at zs) (trial_of h M g b answers) (omega (arith, length-drop at zs, p)))) (K.going, K.ready, refl));
        }
