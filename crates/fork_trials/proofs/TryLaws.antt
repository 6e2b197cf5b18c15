-- A trial over borrowed buffers: the start, the figures, and the zeros.
use Prim.Native.Nat.{ℕ, zero, suc, ◌+◌, ◌*◌, ◌-◌, ◌≤◌, ◌<◌}
use mathlib.Core.Path.{◌≡◌, refl, sym, ap, ◌∙◌, subst}
use mathlib.Core.Bool.{Bool, true, false, cond, ◌&&◌}
use mathlib.Core.List.{List, [], ◌∷◌, ◌++◌, append-nil}
use native.Mathlib.Omega.{arith}
use lib.Dec.{eqb, leb}
use lib.IntN.{ℤ, pos}
use lib.ListN.{length, take, drop, replicate, length-replicate}
use lib.Seq.{length-take-le}
use borrow.Author.Tests.{leb-true, eqb-true, eqb-false, eq-eqb, ne_eqb}
use Rattle.records.proofs.CheckLaws.{and_left, and_right}
use Rattle.stores.specs.Stores.{write}
use Rattle.buffer_core.specs.Edition.{edition_1}
use Rattle.call_steps.specs.State.{State, state, Ready}
use Rattle.call_steps.specs.Steps.{spill_counts, lists_with}
use Rattle.load_core.specs.declared.Source.{Source}
use Rattle.load_core.specs.Draw.{source}
use Rattle.std.specs.Prelude.{Ok, Err}
use Rattle.index_types.specs.Answers.{TriedForks}
use Rattle.trial_core.specs.Trial.{neither, Stood, Trial, Going, on, ended, steps_to, zero_state, figures, run_of, tried}
use Rattle.trial_laws.proofs.Enough.{zero_ready}
use Rattle.standing_calls.specs.declared.TrialState.{TrialState}
use Rattle.standing_calls.specs.Stands.{standing_of, StandReady}
use Rattle.trial_buffers.specs.Sizes.{record_bytes, key_bytes, stood_numbers, sizes_ok, refused_by}
use Rattle.trial_steps.specs.Held.{Held, held_at, held, trial_of, Goes}
use Rattle.trial_runs.specs.declared.TrialRun.{TrialRun}
use Rattle.trial_runs.specs.Runs.{RunReady, RunBy}
use Rattle.fork_trials.specs.Tries.{cleared, passes, try_of, Tries}
use Rattle.fork_trials.specs.Internal.{start_run, told, Zeroed, Sized, RunsSized}

-- ---- the figures
module _ (h : Held) (l : List Stood) (g : Source) (b : ℕ) where
  abbrev said : Held → TriedForks
  said k = cond (eqb k.end 0) (Ok (k.staged, k.deleted)) (Err k.end)

  figures_said : (G : Going) → Goes h l g b G → said h ≡ figures G
  figures_said (on t) k =
      ap (λ (w : Bool). cond w (Ok (h.staged, h.deleted)) (Err h.end)) (eq-eqb h.end 0 k.0)
      ∙ ap (λ (u : Trial). Ok (u.staged, u.deleted)) (sym k.2)
  figures_said (ended j) k =
      ap (λ (w : Bool). cond w (Ok (h.staged, h.deleted)) (Err h.end)) (ne_eqb h.end 0 (λ e. k.1 (sym k.0 ∙ e)))
      ∙ ap Err k.0

-- ---- the run over zeros
module _ (x T S D room : ℕ) (zs : List ℤ) (table staged deleted : List ℕ) (standing : List ℤ) (Z : Zeroed T S D room zs table staged deleted standing) where
  abbrev st : List ℕ → List ℕ → List ℕ → State
  st t s d = state (replicate 4128 0) (replicate 1153 (pos 0)) (replicate 3 0) (replicate 2 (pos 0)) (lists_with (start_run x T S D).state.counts s t d)

  zero_is : st table staged deleted ≡ zero_state T S D
  zero_is = λ i. st (Z.table i) (Z.staged i) (Z.deleted i)

  pub run_ready : (r : TrialRun) → r ≡ start_run x T S D → RunReady (length zs) room r.source r.blocks r.state.stood r.state.end standing
      (state (replicate 4128 0) (replicate 1153 (pos 0)) (replicate 3 0) (replicate 2 (pos 0)) (lists_with r.state.counts staged table deleted))
  run_ready r q =
      subst (λ (y : TrialRun). RunReady (length zs) room y.source y.blocks y.state.stood y.state.end standing
      (state (replicate 4128 0) (replicate 1153 (pos 0)) (replicate 3 0) (replicate 2 (pos 0)) (lists_with y.state.counts staged table deleted))) (sym q)
      (record {
        ready = subst (Ready 1) (sym zero_is) (zero_ready T S D);
        stands = record { few = omega arith; long = Z.standing; small = omega arith };
        short = Z.short;
        boxes = refl;
        txs = refl;
        blocks = refl;
        going = refl;
      })

  pub run_told : (r : TrialRun) → r ≡ start_run x T S D → (g' : Source) (b' : ℕ) (h' : Held) (l' : List ℤ)
      → RunBy room zs r.source r.blocks (held r.state (replicate 4128 0) (replicate 1153 (pos 0)) (replicate 3 0) (replicate 2 (pos 0)) staged table deleted) standing g' b' h' l'
      → cond (eqb h'.end 0) (Ok (h'.staged, h'.deleted)) (Err h'.end) ≡ figures (run_of x zs T S D room)
  unfolding standing_of
  run_told r q g' b' h' l' R =
      figures_said h' (standing_of h'.stood l') g' b' (run_of x zs T S D room)
      (subst (λ (s : State). Goes h' (standing_of h'.stood l') g' b' (steps_to edition_1 room zs (trial_of (held_at s neither 0 0 0 0) [] (source x 0 0) 0 []))) zero_is
      ((subst (λ (y : TrialRun). RunBy room zs y.source y.blocks (held y.state (replicate 4128 0) (replicate 1153 (pos 0)) (replicate 3 0) (replicate 2 (pos 0)) staged table deleted) standing g' b' h' l') q R).goes []))

-- ---- zeros
-- the front of a list replaced by zeros
pub front_cleared : {A : Type 0} (z : A) (n : ℕ) (l ys : List A) → ys ≡ replicate n z → ys ++ drop n l ≡ cleared z n l
unfolding write
front_cleared z n l ys e =
    let k : n ≡ 0 + length (replicate n z) = omega (arith, length-replicate n z) in
    (λ i. e i ++ drop (k i) l)

-- ---- 25
pub record Fits (T S D room steps t s d k : ℕ) : Type 0 where
  pub short : steps ≤ 4096
  pub table : record_bytes T ≤ t
  pub staged : record_bytes S ≤ s
  pub deleted : key_bytes D ≤ d
  pub standing : stood_numbers room ≤ k

module _ (T S D room steps table staged deleted standing : ℕ) where
  pub fits_when : sizes_ok T S D room steps table staged deleted standing ≡ true → Fits T S D room steps table staged deleted standing
  fits_when e =
      let a : Bool = leb steps 4096 in
      let b : Bool = leb (record_bytes T) table in
      let c : Bool = leb (record_bytes S) staged in
      let d : Bool = leb (key_bytes D) deleted in
      let f : Bool = leb (stood_numbers room) standing in
      let p = and_right a (b && (c && (d && f))) e in
      let q = and_right b (c && (d && f)) p in
      let r = and_right c (d && f) q in
      record {
        short = leb-true steps 4096 (and_left a _ e);
        table = leb-true (record_bytes T) table (and_left b _ p);
        staged = leb-true (record_bytes S) staged (and_left c _ q);
        deleted = leb-true (key_bytes D) deleted (and_left d _ r);
        standing = leb-true (stood_numbers room) standing (and_right d f r);
      }

-- ---- the answers
abbrev code_by : Bool → Bool → ℕ
code_by w v = cond w (cond v 38 0) 25

module _ (x T S D room : ℕ) (zs : List ℤ) (table staged deleted : List ℕ) (standing : List ℤ) where
  abbrev ok : Bool
  ok = passes x T S D room zs table staged deleted standing

  module _ (p : ok ≡ false) where
    same_25 : {A : Type 0} (z : A) (n : ℕ) (l : List A) → l ≡ cond ok (cond (eqb x 0) l (cleared z n l)) l
    same_25 z n l = λ i. cond (sym p i) (cond (eqb x 0) l (cleared z n l)) l

    tries_25 : Tries x T S D room zs table staged deleted standing (Err 25) table staged deleted standing
    tries_25 =
        record {
          answer = λ i. cond (sym p i) (tried x zs T S D room) (Err 25);
          table = same_25 0 (record_bytes T) table;
          staged = same_25 0 (record_bytes S) staged;
          deleted = same_25 0 (key_bytes D) deleted;
          standing = same_25 (pos 0) (stood_numbers room) standing;
        }

  module _ (p : ok ≡ true) (q : x ≡ 0) where
    same_38 : {A : Type 0} (z : A) (n : ℕ) (l : List A) → l ≡ cond ok (cond (eqb x 0) l (cleared z n l)) l
    same_38 z n l = let v = eq-eqb x 0 q in λ i. cond (sym p i) (cond (sym v i) l (cleared z n l)) l

    tries_38 : Tries x T S D room zs table staged deleted standing (Err 38) table staged deleted standing
    unfolding tried
    tries_38 =
        let v = eq-eqb x 0 q in
        record {
          answer = λ i. cond (sym p i) (cond (sym v i) (Err 38) (figures (run_of x zs T S D room))) (Err 25);
          table = same_38 0 (record_bytes T) table;
          staged = same_38 0 (record_bytes S) staged;
          deleted = same_38 0 (key_bytes D) deleted;
          standing = same_38 (pos 0) (stood_numbers room) standing;
        }

  module _ (p : ok ≡ true) (q : x ≡ 0 → ⊥) where
    zeroed_by : {A : Type 0} (z : A) (n : ℕ) (l ys : List A) → ys ≡ replicate n z → ys ++ drop n l ≡ cond ok (cond (eqb x 0) l (cleared z n l)) l
    zeroed_by z n l ys e = front_cleared z n l ys e ∙ (let v = ne_eqb x 0 q in λ i. cond (sym p i) (cond (sym v i) l (cleared z n l)) l)

    tries_run : (r : TriedForks) (t s d : List ℕ) (k : List ℤ) → RunsSized x T S D room zs r t s d k
        → Tries x T S D room zs table staged deleted standing r (t ++ drop (record_bytes T) table) (s ++ drop (record_bytes S) staged) (d ++ drop (key_bytes D) deleted) (k ++ drop (stood_numbers room) standing)
    unfolding tried
    tries_run r t s d k R =
        record {
          answer = R.answer ∙ (let v = ne_eqb x 0 q in λ i. cond (sym p i) (cond (sym v i) (Err 38) (figures (run_of x zs T S D room))) (Err 25));
          table = zeroed_by 0 (record_bytes T) table t R.table;
          staged = zeroed_by 0 (record_bytes S) staged s R.staged;
          deleted = zeroed_by 0 (key_bytes D) deleted d R.deleted;
          standing = zeroed_by (pos 0) (stood_numbers room) standing k R.standing;
        }

  -- turned away
  pub tries_refused : (k : ℕ) → k ≡ refused_by x ok → (k ≡ 0 → ⊥) → Tries x T S D room zs table staged deleted standing (Err k) table staged deleted standing
  tries_refused k e n = subst (λ (j : ℕ). Tries x T S D room zs table staged deleted standing (Err j) table staged deleted standing) (sym e) (by ok (eqb x 0) refl refl (λ z. n (e ∙ z)))
    where
      by : (w v : Bool) → ok ≡ w → eqb x 0 ≡ v → (code_by w v ≡ 0 → ⊥) → Tries x T S D room zs table staged deleted standing (Err (code_by w v)) table staged deleted standing
      by true true p q n = tries_38 p (eqb-true x 0 q)
      by true false p q n = absurd (n refl)
      by false v p q n = tries_25 p

  module _ (k : ℕ) (e : k ≡ refused_by x ok) (z : k ≡ 0) where
    accepted : ok ≡ true
    accepted = by ok (eqb x 0) (sym e ∙ z)
      where
        by : (w v : Bool) → code_by w v ≡ 0 → w ≡ true
        by true v h = refl
        by false v h = absurd (omega (arith, h))

    state_not_0 : x ≡ 0 → ⊥
    state_not_0 = eqb-false x 0 (by ok (eqb x 0) (sym e ∙ z))
      where
        by : (w v : Bool) → code_by w v ≡ 0 → v ≡ false
        by true true h = absurd (omega (arith, h))
        by true false h = refl
        by false v h = absurd (omega (arith, h))

    pub started_fits : Fits T S D room (length zs) (length table) (length staged) (length deleted) (length standing)
    started_fits = fits_when T S D room (length zs) (length table) (length staged) (length deleted) (length standing) accepted

    pub tries_started : (r : TriedForks) (t s d : List ℕ) (y : List ℤ) → RunsSized x T S D room zs r t s d y
        → Tries x T S D room zs table staged deleted standing r (t ++ drop (record_bytes T) table) (s ++ drop (record_bytes S) staged) (d ++ drop (key_bytes D) deleted) (y ++ drop (stood_numbers room) standing)
    tries_started = tries_run accepted state_not_0

  pub sized_front : Fits T S D room (length zs) (length table) (length staged) (length deleted) (length standing)
      → Sized T S D room zs (take (record_bytes T) table) (take (record_bytes S) staged) (take (key_bytes D) deleted) (take (stood_numbers room) standing)
  sized_front f =
      record {
        short = f.short;
        table = length-take-le (record_bytes T) table f.table;
        staged = length-take-le (record_bytes S) staged f.staged;
        deleted = length-take-le (key_bytes D) deleted f.deleted;
        standing = length-take-le (stood_numbers room) standing f.standing;
      }

-- ---- what a trial came to
pub told_figures : (t : TrialState) → t.end ≡ 0 → Ok (t.staged, t.deleted) ≡ told t
told_figures t e = ap (λ (w : Bool). cond w (Ok (t.staged, t.deleted)) (Err t.end)) (sym (eq-eqb t.end 0 e))

pub told_refused : (t : TrialState) → (t.end ≡ 0 → ⊥) → Err t.end ≡ told t
told_refused t e = ap (λ (w : Bool). cond w (Ok (t.staged, t.deleted)) (Err t.end)) (sym (ne_eqb t.end 0 e))

-- ---- zeros before the run and after it
module _ (T S D room : ℕ) (zs : List ℤ) (t s d : List ℕ) (k : List ℤ) (Q : Sized T S D room zs t s d k) where
  pub zeroed_from : (t₁ s₁ d₁ : List ℕ) (k₁ : List ℤ) → t₁ ≡ replicate (length t) 0 → s₁ ≡ replicate (length s) 0 → d₁ ≡ replicate (length d) 0 → k₁ ≡ replicate (length k) (pos 0)
      → Zeroed T S D room zs t₁ s₁ d₁ k₁
  zeroed_from t₁ s₁ d₁ k₁ a b c e =
      record {
        short = Q.short;
        table = a ∙ ap (λ (n : ℕ). replicate n 0) Q.table;
        staged = b ∙ ap (λ (n : ℕ). replicate n 0) Q.staged;
        deleted = c ∙ ap (λ (n : ℕ). replicate n 0) Q.deleted;
        standing = omega (arith, ap length e, length-replicate (length k) (pos 0), Q.standing);
      }

pub runs_sized : (x T S D room : ℕ) (zs : List ℤ) (t s d : List ℕ) (k : List ℤ) → Sized T S D room zs t s d k → (r : TriedForks) → r ≡ figures (run_of x zs T S D room)
    → (t₁ s₁ d₁ k₁ : ℕ) (t₂ s₂ d₂ : List ℕ) (k₂ : List ℤ) → t₁ ≡ length t → s₁ ≡ length s → d₁ ≡ length d → k₁ ≡ length k
    → t₂ ≡ replicate t₁ 0 → s₂ ≡ replicate s₁ 0 → d₂ ≡ replicate d₁ 0 → k₂ ≡ replicate k₁ (pos 0) → RunsSized x T S D room zs r t₂ s₂ d₂ k₂
runs_sized x T S D room zs t s d k Q r e t₁ s₁ d₁ k₁ t₂ s₂ d₂ k₂ lt ls ld lk a b c f =
    record {
      answer = e;
      table = a ∙ ap (λ (n : ℕ). replicate n 0) (lt ∙ Q.table);
      staged = b ∙ ap (λ (n : ℕ). replicate n 0) (ls ∙ Q.staged);
      deleted = c ∙ ap (λ (n : ℕ). replicate n 0) (ld ∙ Q.deleted);
      standing = f ∙ ap (λ (n : ℕ). replicate n (pos 0)) (lk ∙ Q.standing);
    }
