-- Laws of what the code of a trial keeps: the parts of a trial one after the other.
use Prim.Native.Nat.{ℕ, ◌+◌, ◌*◌, ◌-◌, ◌≤◌, max}
use mathlib.Core.Path.{◌≡◌, refl, sym, ap, ◌∙◌, subst}
use mathlib.Core.Bool.{Bool, true, false, cond}
use mathlib.Core.List.{List, [], ◌∷◌}
use native.Mathlib.Omega.{arith}
use lib.Dec.{eqb, ltb}
use lib.IntN.{ℤ, pos, nat_abs}
use lib.ListN.{length, get_or}
use borrow.Author.Tests.{eqb-true, eqb-false, ltb-true}
use Rattle.segment_id.specs.declared.Kind.TheVariants.{Box, Tx}
use Rattle.buffer_core.specs.declared.Direction.TheVariants.{Spend}
use Rattle.buffer_core.specs.Edition.{edition_1}
use Rattle.calls.specs.declared.Call.{Call}
use Rattle.calls.specs.declared.Call.TheVariants.{Append, Flip, Pop, Flush, Change, Bad, Cut, End}
use Rattle.calls.specs.Calls.{Among}
use Rattle.call_steps.specs.State.{Ready}
use Rattle.call_steps.specs.Steps.{Stepping, step_of}
use Rattle.call_steps.proofs.KeepLaws.{step_kept}
use Rattle.load_core.specs.declared.Source.{Source}
use Rattle.load_core.specs.Draw.{source}
use Rattle.trial_core.specs.Trial.{Side, called, undid, Stood, Trial, Going, on, ended, then, with_side, with_standing, made, code_of, ends_run, flushing, changes, change_to, stands, calling, make, undo_of, undoing}
use Rattle.run_steps.specs.Undoes.{Undoes}
use Rattle.standing_calls.specs.declared.TrialState.{TrialState}
use Rattle.standing_calls.specs.declared.Standing.{Standing}
use Rattle.standing_calls.specs.Stands.{stood_kind, stood_number, stood_call, stood, stood_at, standing_of, is_flush, stand, stand_of, standing_with, StandReady, StandsBy}
use Rattle.standing_calls.proofs.StandingLaws.{standing_length, undo_among}
use Rattle.trial_steps.specs.Held.{Drawable, Held, held_at, held, trial_of, Goes, made_held, Changed, MakesBy, UndoesBy}

-- ---- one part of a trial after the other
module _ (h : Held) (l : List Stood) (g : Source) (b : ℕ) where
  pub goes_ready : (G : Going) → Goes h l g b G → h.end ≡ 0 → Ready 1 h.now
  goes_ready (on t) k e = k.1
  goes_ready (ended j) k e = absurd (k.1 (sym k.0 ∙ e))

  module _ (h' : Held) (l' : List Stood) (g' : Source) (b' : ℕ) (f : Trial → Going) where
    -- the first goes on, and the second follows whatever was answered
    pub goes_on : (G : Going) → Goes h l g b G → h.end ≡ 0 → ((answers : List ℕ) → Goes h' l' g' b' (f (trial_of h l g b answers))) → Goes h' l' g' b' (then G f)
    goes_on (on t) k e m = subst (λ (s : Trial). Goes h' l' g' b' (f s)) (sym k.2) (m t.answers)
    goes_on (ended j) k e m = absurd (k.1 (sym k.0 ∙ e))

    -- the first has ended
    pub goes_ended : (G : Going) → Goes h l g b G → (h.end ≡ 0 → ⊥) → h'.end ≡ h.end → Goes h' l' g' b' (then G f)
    goes_ended (on t) k n e = absurd (n k.0)
    goes_ended (ended j) k n e = (e ∙ k.0, k.1)

-- ---- one call on the index
pub held_by : {t t' : TrialState} (ids : List ℕ) (numbers : List ℤ) (lengths : List ℕ) (spills : List ℤ) (staged table deleted : List ℕ) → t ≡ t'
    → held t ids numbers lengths spills staged table deleted ≡ held t' ids numbers lengths spills staged table deleted
held_by ids numbers lengths spills staged table deleted e = ap (λ (x : TrialState). held x ids numbers lengths spills staged table deleted) e

pub made_returns : (c : Call) (h : Held) (y : Stepping) → y ≡ step_of edition_1 c h.now
    → held_at y.after h.side h.stood (max h.staged y.after.lists.staged_counts.count) (max h.deleted y.after.lists.deleted_counts.count) y.said.code ≡ made_held c h
made_returns c h y e =
    ap (λ (x : Stepping). held_at x.after h.side h.stood (max h.staged x.after.lists.staged_counts.count) (max h.deleted x.after.lists.deleted_counts.count) x.said.code) e

module _ (room : ℕ) (c : Call) (among : Among 1 c) (h : Held) (r : Ready 1 h.now) (l : List Stood) (g : Source) (b : ℕ) (answers : List ℕ) where
  abbrev s : Trial
  s = trial_of h l g b answers

  taken_by : (w : Bool) → eqb (code_of edition_1 room c s) 0 ≡ w → Goes (made_held c h) l g b (cond w (on (made edition_1 room c s)) (ended (code_of edition_1 room c s)))
  taken_by true e = (eqb-true _ 0 e, step_kept 1 h.now r c among, refl)
  taken_by false e = (refl, eqb-false _ 0 e)

  -- a call whose refusal ends the trial
  pub taken : Goes (made_held c h) l g b (cond (eqb (code_of edition_1 room c s) 0) (on (made edition_1 room c s)) (ended (code_of edition_1 room c s)))
  taken = taken_by (eqb (code_of edition_1 room c s) 0) refl

-- ---- the flush at a change
pub flush_goes : (room : ℕ) (h : Held) → Ready 1 h.now → (l : List Stood) (g : Source) (b : ℕ) (answers : List ℕ)
    → Goes (made_held Flush h) l g b (flushing edition_1 room (trial_of h l g b answers))
unfolding flushing
flush_goes room h r l g b answers = taken room Flush tt h r l g b answers

abbrev pub with_side_held : Side → Held → Held
with_side_held d h = held_at h.now d h.stood h.staged h.deleted h.end

side_goes : (d : Side) (h : Held) (l : List Stood) (g : Source) (b : ℕ) (G : Going) → Goes h l g b G → Goes (with_side_held d h) l g b (then G (λ t. on (with_side d t)))
side_goes d h l g b (on t) k = (k.0, k.1, ap (with_side d) k.2)
side_goes d h l g b (ended j) k = k

module _ (d : Side) (h : Held) (r : Ready 1 h.now) where
  pub changed : (m : Held) → ((room : ℕ) → true ≡ changes edition_1 room h.side d) → m ≡ made_held Flush h → Changed d h (with_side_held d m)
  unfolding change_to
  changed m e q =
      record {
        stood = ap (λ (x : Held). x.stood) q;
        goes = λ room l g b answers.
            subst (λ (x : Held). Goes (with_side_held d x) l g b (change_to edition_1 room d (trial_of h l g b answers))) (sym q)
            (subst (λ (w : Bool). Goes (with_side_held d (made_held Flush h)) l g b (then (cond w (flushing edition_1 room (trial_of h l g b answers)) (on (trial_of h l g b answers))) (λ t. on (with_side d t)))) (e room)
            (side_goes d (made_held Flush h) l g b (flushing edition_1 room (trial_of h l g b answers)) (flush_goes room h r l g b answers)));
      }

  pub unchanged : ((room : ℕ) → false ≡ changes edition_1 room h.side d) → Changed d h (held_at h.now d h.stood h.staged h.deleted 0)
  unfolding change_to
  unchanged e =
      record {
        stood = refl;
        goes = λ room l g b answers.
            subst (λ (w : Bool). Goes (held_at h.now d h.stood h.staged h.deleted 0) l g b (then (cond w (flushing edition_1 room (trial_of h l g b answers)) (on (trial_of h l g b answers))) (λ t. on (with_side d t)))) (e room)
            (refl, r, refl);
      }

-- ---- the calls that are drawn
pub among_drawn : (c : Call) → Drawable c → Among 1 c
among_drawn (Append k p z) h = omega (arith, h)
among_drawn (Flip d p z) h = omega (arith, h.1)
among_drawn (Pop k p) h = absurd h
among_drawn Flush h = tt
among_drawn (Change a p n t v) h = absurd h
among_drawn Bad h = tt
among_drawn Cut h = tt
among_drawn End h = tt

-- one that is no flush is read back as it was written
stood_again : (c : Call) → Drawable c → is_flush c ≡ false → stood_call (stood_kind c) (stood_number c) ≡ c
stood_again (Append Box p z) h e = λ i. Append Box (sym h i) z
stood_again (Append Tx p z) h e = λ i. Append Tx (sym h i) z
stood_again (Flip d p z) h e = λ i. Flip (sym h.0 i) (sym h.1 i) z
stood_again (Pop k p) h e = absurd h
stood_again Flush h e = let z : ◌≡◌ {A = ℕ} 0 1 = cc in absurd (omega arith)
stood_again (Change a p n t v) h e = absurd h
stood_again Bad h e = absurd h
stood_again Cut h e = absurd h
stood_again End h e = absurd h

make_called : (room : ℕ) (c : Call) → Drawable c → is_flush c ≡ false → (s : Trial) → then (change_to edition_1 room called s) (calling edition_1 room c) ≡ make edition_1 room c s
make_called room (Append k p z) h e s = refl
make_called room (Flip d p z) h e s = refl
make_called room (Pop k p) h e s = absurd h
make_called room Flush h e s = let z : ◌≡◌ {A = ℕ} 0 1 = cc in absurd (omega arith)
make_called room (Change a p n t v) h e s = absurd h
make_called room Bad h e s = absurd h
make_called room Cut h e s = absurd h
make_called room End h e s = absurd h

make_flush : (room : ℕ) (c : Call) → Drawable c → is_flush c ≡ true → (s : Trial) → flushing edition_1 room s ≡ make edition_1 room c s
make_flush room (Append k p z) h e s = let z : ◌≡◌ {A = ℕ} 0 1 = cc in absurd (omega arith)
make_flush room (Flip d p z) h e s = let z : ◌≡◌ {A = ℕ} 0 1 = cc in absurd (omega arith)
make_flush room (Pop k p) h e s = absurd h
make_flush room Flush h e s = refl
make_flush room (Change a p n t v) h e s = absurd h
make_flush room Bad h e s = absurd h
make_flush room Cut h e s = absurd h
make_flush room End h e s = absurd h

-- ---- an append or a spend once the side is its own
module _ (room : ℕ) (c : Call) (among : Among 1 c) (h : Held) (r : Ready 1 h.now) (l : List Stood) (long : length l ≡ h.stood) (g : Source) (b : ℕ) (answers : List ℕ) where
  abbrev t : Trial
  t = trial_of h l g b answers

  abbrev k : ℕ
  k = code_of edition_1 room c t

  abbrev stood_held : Held → Standing → Held
  stood_held m x = held_at m.now m.side x.stood m.staged m.deleted x.end

  -- by what was said: accepted and room for it, accepted and no room, refused by what ends a trial, refused otherwise
  calling_by : (w v u : Bool) → eqb k 0 ≡ w → ltb h.stood room ≡ v → ends_run edition_1 room k ≡ u
      → Goes (stood_held (made_held c h) (cond w (cond v (stand (h.stood + 1) 0) (stand h.stood 40)) (cond u (stand h.stood k) (stand h.stood 0))))
      (cond w (cond v (stood c b ∷ l) l) l) g b
      (cond w (cond v (on (with_standing (stood c b ∷ l) (made edition_1 room c t))) (ended 40)) (cond u (ended k) (on (made edition_1 room c t))))
  calling_by true true u e f x = (refl, step_kept 1 h.now r c among, refl)
  calling_by true false u e f x = (refl, λ z. omega (arith, z))
  calling_by false v true e f x = (refl, eqb-false k 0 e)
  calling_by false v false e f x = (refl, step_kept 1 h.now r c among, refl)

  pub calling_goes : Goes (stood_held (made_held c h) (stand_of room h.stood k)) (standing_with room h.stood k (stood c b) l) g b (calling edition_1 room c t)
  unfolding calling stands
  calling_goes =
      subst (λ (n : ℕ). Goes (stood_held (made_held c h) (stand_of room h.stood k)) (standing_with room h.stood k (stood c b) l) g b
      (cond (eqb k 0) (cond (ltb n room) (on (with_standing (stood c b ∷ l) (made edition_1 room c t))) (ended 40)) (cond (ends_run edition_1 room k) (ended k) (on (made edition_1 room c t))))) (sym long)
      (calling_by (eqb k 0) (ltb h.stood room) (ends_run edition_1 room k) refl refl refl)

module _ (room n k : ℕ) (few : n ≤ room) where
  few_by : (w v u : Bool) → ltb n room ≡ v → (cond w (cond v (stand (n + 1) 0) (stand n 40)) (cond u (stand n k) (stand n 0))).stood ≤ room
  few_by true true u e = omega (arith, ltb-true n room e)
  few_by true false u e = few
  few_by false v true e = few
  few_by false v false e = few

  -- no more calls stand than the list has room for
  stand_few : (stand_of room n k).stood ≤ room
  stand_few = few_by (eqb k 0) (ltb n room) (ends_run edition_1 room k) refl

-- ---- a drawn call
abbrev pub stood_by : Held → Standing → Held
stood_by m x = held_at m.now m.side x.stood m.staged m.deleted x.end

pub changed_ready : (d : Side) (h h' : Held) → Changed d h h' → h'.end ≡ 0 → Ready 1 h'.now
changed_ready d h h' C e = goes_ready h' [] (source 0 0 0) 0 (change_to edition_1 0 d (trial_of h [] (source 0 0 0) 0 [])) (C.goes 0 [] (source 0 0 0) 0 []) e

module _ (room b : ℕ) (c : Call) (drawable : Drawable c) (h : Held) (l : List ℤ) (ready : StandReady room b h.stood l) where
  pub make_flushed : is_flush c ≡ true → Ready 1 h.now → (m : Held) → m ≡ made_held Flush h → MakesBy room b c h l m l
  make_flushed e r m q =
      subst (λ (x : Held). MakesBy room b c h l x l) (sym q)
      (record {
        few = ready.few;
        goes = λ g answers.
            subst (Goes (made_held Flush h) (standing_of h.stood l) g b) (make_flush room c drawable e (trial_of h (standing_of h.stood l) g b answers))
            (flush_goes room h r (standing_of h.stood l) g b answers);
      })

  module _ (e : is_flush c ≡ false) (h₁ : Held) (C : Changed called h h₁) where
    pub make_ended : (h₁.end ≡ 0 → ⊥) → MakesBy room b c h l h₁ l
    make_ended n =
        record {
          few = omega (arith, C.stood, ready.few);
          goes = λ g answers.
              let s = trial_of h (standing_of h.stood l) g b answers in
              subst (Goes h₁ (standing_of h₁.stood l) g b) (make_called room c drawable e s)
              (goes_ended h₁ (standing_of h.stood l) g b h₁ (standing_of h₁.stood l) g b (calling edition_1 room c) (change_to edition_1 room called s) (C.goes room (standing_of h.stood l) g b answers) n refl);
        }

    module _ (z : h₁.end ≡ 0) (l' : List ℤ) where
      made_by : (x : Standing) → StandsBy room b c h₁.stood (made_held c h₁).end l x l' → MakesBy room b c h l (stood_by (made_held c h₁) x) l'
      made_by x y =
          let k = (made_held c h₁).end in
          let L = standing_of h.stood l in
          let r = changed_ready called h h₁ C z in
          let E : standing_of x.stood l' ≡ standing_with room h₁.stood k (stood c b) L
          = y.standing ∙ (λ i. standing_with room h₁.stood k (stood (stood_again c drawable e i) b) (standing_of (C.stood i) l)) in
          record {
            few = subst (λ (w : Standing). w.stood ≤ room) (sym y.answer) (stand_few room h₁.stood k (omega (arith, C.stood, ready.few)));
            goes = λ g answers.
                let s = trial_of h L g b answers in
                subst (Goes (stood_by (made_held c h₁) x) (standing_of x.stood l') g b) (make_called room c drawable e s)
                (goes_on h₁ L g b (stood_by (made_held c h₁) x) (standing_of x.stood l') g b (calling edition_1 room c) (change_to edition_1 room called s) (C.goes room L g b answers) z
                (λ said.
                let G = calling edition_1 room c (trial_of h₁ L g b said) in
                subst (λ (w : Standing). Goes (stood_by (made_held c h₁) w) (standing_of x.stood l') g b G) (sym y.answer)
                (subst (λ (w : List Stood). Goes (stood_by (made_held c h₁) (stand_of room h₁.stood k)) w g b G) (sym E)
                (calling_goes room c (among_drawn c drawable) h₁ r L (standing_length h.stood l ∙ sym C.stood) g b said))));
          }

      pub make_goes : (m : Held) → m ≡ made_held c h₁ → (x : Standing) → StandsBy room b c m.stood m.end l x l' → MakesBy room b c h l (stood_by m x) l'
      make_goes m q = subst (λ (y : Held). (x : Standing) → StandsBy room b c y.stood y.end l x l' → MakesBy room b c h l (stood_by y x) l') (sym q) made_by

pub stand_kept : (room b n m : ℕ) (l : List ℤ) → n ≡ m → StandReady room b m l → StandReady room b n l
stand_kept room b n m l e s = record { few = omega (arith, e, s.few); long = s.long; small = s.small }

-- ---- an undo
undoes_by : (z : ℤ) (w v : Bool) → Undoes (undo_of edition_1 0 (cond w (Append Box 0 z) (cond v (Append Tx 0 z) (Flip Spend 0 z))))
undoes_by z true v = tt
undoes_by z false true = tt
undoes_by z false false = tt

pub newest_undoes : (i : ℕ) (l : List ℤ) (c : Call) → ((room : ℕ) → c ≡ undo_of edition_1 room (stood_at i l).call) → Undoes c
newest_undoes i l c q = subst Undoes (sym (q 0)) (undoes_by (get_or l (i * 3 + 1) (pos 0)) (eqb (nat_abs (get_or l (i * 3) (pos 0))) 0) (eqb (nat_abs (get_or l (i * 3) (pos 0))) 1))

abbrev pub with_number_stood : ℕ → Held → Held
with_number_stood n h = held_at h.now h.side n h.staged h.deleted h.end

stood_goes : (n : ℕ) (h : Held) (l : List Stood) (g : Source) (b : ℕ) (G : Going) → Goes h l g b G → Goes (with_number_stood n h) l g b G
stood_goes n h l g b (on t) k = k
stood_goes n h l g b (ended j) k = k

module _ (h : Held) (l : List ℤ) (h₁ : Held) (C : Changed undid h h₁) where
  abbrev x : Stood
  x = stood_at (h.stood - 1) l

  pub undo_ended : (h₁.end ≡ 0 → ⊥) → UndoesBy h l h₁
  undo_ended n =
      record {
        stood = λ e. absurd (n e);
        goes = λ room k g b answers.
            goes_ended h₁ k g b h₁ k g b (undoing edition_1 room x.call) (change_to edition_1 room undid (trial_of h k g b answers)) (C.goes room k g b answers) n refl;
      }

  module _ (z : h₁.end ≡ 0) (c : Call) (q : (room : ℕ) → c ≡ undo_of edition_1 room x.call) where
    undo_taken : (n room : ℕ) (k : List Stood) (g : Source) (b : ℕ) (answers : List ℕ)
        → Goes (with_number_stood n (made_held c h₁)) k g b (undoing edition_1 room x.call (trial_of h₁ k g b answers))
    unfolding undoing
    undo_taken n room k g b answers =
        stood_goes n (made_held c h₁) k g b (undoing edition_1 room x.call (trial_of h₁ k g b answers))
        (subst (λ (y : Call). Goes (made_held y h₁) k g b (undoing edition_1 room x.call (trial_of h₁ k g b answers))) (sym (q room))
        (taken room (undo_of edition_1 room x.call) (undo_among (nat_abs (get_or l ((h.stood - 1) * 3) (pos 0))) (get_or l ((h.stood - 1) * 3 + 1) (pos 0)) room) h₁ (changed_ready undid h h₁ C z) k g b answers))

    pub undo_goes : (m : Held) → m ≡ made_held c h₁ → (n : ℕ) → n ≡ h.stood - 1 → UndoesBy h l (with_number_stood n m)
    undo_goes m p n e =
        subst (λ (y : Held). UndoesBy h l (with_number_stood n y)) (sym p)
        (record {
          stood = λ j. e;
          goes = λ room k g b answers.
              goes_on h₁ k g b (with_number_stood n (made_held c h₁)) k g b (undoing edition_1 room x.call) (change_to edition_1 room undid (trial_of h k g b answers)) (C.goes room k g b answers) z
              (undo_taken n room k g b);
        })
