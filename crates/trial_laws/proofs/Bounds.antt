-- The figures of a trial are within its own capacities.
use mathlib.Core.Path.{◌≡◌, ◌∙◌}
use mathlib.Core.Bool.{Bool, true, false, cond, ◌&&◌}
use mathlib.Core.List.{List, [], ◌∷◌}
use Prim.Native.Nat.{ℕ, zero, suc, ◌+◌, ◌-◌, ◌≤◌}
use native.Mathlib.Nat.{max-le}
use Rattle.buffer_core.proofs.ListLaws.{lists_fit}
use Rattle.trial_laws.proofs.Capacities.{call_kept}
use native.Mathlib.Omega.{arith}
use lib.Dec.{eqb, leb, ltb}
use lib.IntN.{ℤ, pos, negsuc}
use lib.ListN.{length}
use Rattle.buffer_core.specs.declared.Direction.TheVariants.{Unspend}
use Rattle.buffer_core.specs.Edition.{edition_1}
use Rattle.calls.specs.declared.Call.{Call}
use Rattle.calls.specs.declared.Call.TheVariants.{Append, Flip, Pop, Flush, Change, Bad, Cut, End}
use Rattle.calls.specs.Calls.{Among}
use Rattle.call_steps.specs.State.{Ready}
use Rattle.call_steps.specs.Steps.{step_of}
use Rattle.call_steps.proofs.KeepLaws.{step_kept}
use Rattle.load_core.specs.Draw.{draws}
use Rattle.trial_core.specs.Trial.{Side, called, undid, Stood, Going, on, ended, then, with_side, with_gen, with_standing, with_blocks, made, code_of, ends_run, flushing, changes, change_to, stands, calling, make, block_of, undoing, back_to, fork_of, step_to, steps_to, figures, Trial}
use Rattle.trial_laws.proofs.Parts.{Plain, PlainAll, among_of, Drawable, draws_drawable}

-- ---- the figures of a run are within its capacities
module _ (room S D : ℕ) where
  pub record Bounded (s : Trial) : Type 0 where
    pub ready : Ready 1 s.now
    pub plain : PlainAll room S D s.standing
    pub staged_at : s.now.lists.staged_counts.capacity ≡ S
    pub deleted_at : s.now.lists.deleted_counts.capacity ≡ D
    pub staged : s.staged ≤ S
    pub deleted : s.deleted ≤ D

  abbrev pub OnBounded : Going → Type 0
  OnBounded (on s) = Bounded s
  OnBounded (ended k) = Unit {0}

  pub on_cond : (w : Bool) (G G' : Going) → OnBounded G → OnBounded G' → OnBounded (cond w G G')
  on_cond true G G' p q = p
  on_cond false G G' p q = q

  pub on_then : (G : Going) (g : Trial → Going) → OnBounded G → ((u : Trial) → Bounded u → OnBounded (g u)) → OnBounded (then G g)
  on_then (on u) g h k = k u h
  on_then (ended k) g h r = tt

  pub made_bounded : (x : Call) → Among 1 x → (u : Trial) → Bounded u → Bounded (made edition_1 room x u)
  made_bounded x m u I =
      let r = step_kept 1 u.now I.ready x m in
      let k = call_kept edition_1 x u.now in
      let f = lists_fit edition_1 (step_of edition_1 x u.now).after.lists r.listed in
      record {
        ready = r;
        plain = I.plain;
        staged_at = k.0 ∙ I.staged_at;
        deleted_at = k.1 ∙ I.deleted_at;
        staged = max-le I.staged (omega (arith, f.in_staged.bounds.counted, k.0, I.staged_at));
        deleted = max-le I.deleted (omega (arith, f.in_deleted.bounds.counted, k.1, I.deleted_at));
      }

  taken_bounded : (x : Call) → Among 1 x → (u : Trial) → Bounded u → OnBounded (cond (eqb (code_of edition_1 room x u) 0) (on (made edition_1 room x u)) (ended (code_of edition_1 room x u)))
  taken_bounded x m u I = on_cond (eqb (code_of edition_1 room x u) 0) (on (made edition_1 room x u)) (ended (code_of edition_1 room x u)) (made_bounded x m u I) tt

  pub flush_bounded : (u : Trial) → Bounded u → OnBounded (flushing edition_1 room u)
  unfolding flushing
  flush_bounded u I = taken_bounded Flush tt u I

  set_side : (d : Side) (u : Trial) → Bounded u → Bounded (with_side d u)
  set_side d u I = record { ready = I.ready; plain = I.plain; staged_at = I.staged_at; deleted_at = I.deleted_at; staged = I.staged; deleted = I.deleted }

  pub change_bounded : (d : Side) (u : Trial) → Bounded u → OnBounded (change_to edition_1 room d u)
  unfolding change_to
  change_bounded d u I = on_then (cond (changes edition_1 room u.side d) (flushing edition_1 room u) (on u)) (λ t. on (with_side d t))
      (on_cond (changes edition_1 room u.side d) (flushing edition_1 room u) (on u) (flush_bounded u I) I) (λ t J. set_side d t J)

  call_bounded : (c : Call) → Plain room S D c → (u : Trial) → Bounded u → OnBounded (calling edition_1 room c u)
  unfolding calling stands
  call_bounded c h u I =
      let M = made edition_1 room c u in
      let J = made_bounded c (among_of room S D c h) u I in
      on_cond (eqb (code_of edition_1 room c u) 0) (stands edition_1 room c M) (cond (ends_run edition_1 room (code_of edition_1 room c u)) (ended (code_of edition_1 room c u)) (on M))
      (on_cond (ltb (length M.standing) room) (on (with_standing (record { call = c; block = M.blocks } ∷ M.standing) M)) (ended 40)
      (record { ready = J.ready; plain = (h, J.plain); staged_at = J.staged_at; deleted_at = J.deleted_at; staged = J.staged; deleted = J.deleted }) tt)
      (on_cond (ends_run edition_1 room (code_of edition_1 room c u)) (ended (code_of edition_1 room c u)) (on M) tt J)

  pub make_bounded : (c : Call) → Drawable room S D c → (u : Trial) → Bounded u → OnBounded (make edition_1 room c u)
  make_bounded (Append k p z) h u I = on_then (change_to edition_1 room called u) (calling edition_1 room (Append k p z)) (change_bounded called u I) (call_bounded (Append k p z) h)
  make_bounded (Flip d p z) h u I = on_then (change_to edition_1 room called u) (calling edition_1 room (Flip d p z)) (change_bounded called u I) (call_bounded (Flip d p z) h)
  make_bounded (Pop k p) h u I = absurd h
  make_bounded Flush h u I = flush_bounded u I
  make_bounded (Change x p n t v) h u I = absurd h
  make_bounded Bad h u I = absurd h
  make_bounded Cut h u I = absurd h
  make_bounded End h u I = absurd h

  pub block_bounded : (n : ℕ) (u : Trial) → Bounded u → OnBounded (block_of edition_1 room n u)
  unfolding block_of
  block_bounded zero u I = I
  block_bounded (suc n) u I =
      on_then (make edition_1 room (draws u.gen).call (with_gen (draws u.gen).next u)) (block_of edition_1 room n)
      (make_bounded (draws u.gen).call (draws_drawable room S D u.gen) (with_gen (draws u.gen).next u)
      (record { ready = I.ready; plain = I.plain; staged_at = I.staged_at; deleted_at = I.deleted_at; staged = I.staged; deleted = I.deleted })) (block_bounded n)

  pub undo_bounded : (c : Call) → Plain room S D c → (u : Trial) → Bounded u → OnBounded (undoing edition_1 room c u)
  unfolding undoing
  undo_bounded (Append k p z) h u I = taken_bounded (Pop k p) (omega arith) u I
  undo_bounded (Flip d p z) h u I = taken_bounded (Flip Unspend p z) (omega arith) u I
  undo_bounded (Pop k p) h u I = absurd h
  undo_bounded Flush h u I = absurd h
  undo_bounded (Change x p n t v) h u I = absurd h
  undo_bounded Bad h u I = absurd h
  undo_bounded Cut h u I = absurd h
  undo_bounded End h u I = absurd h

  pub back_bounded : (n : ℕ) (l : List Stood) → PlainAll room S D l → (u : Trial) → Bounded u → OnBounded (back_to edition_1 room n l u)
  unfolding back_to
  back_bounded n [] h u I = I
  back_bounded n (x ∷ l) h u I =
      on_cond (leb n x.block) (then (then (change_to edition_1 room undid u) (undoing edition_1 room x.call)) (λ t. back_to edition_1 room n l (with_standing l t))) (on u)
      (on_then (then (change_to edition_1 room undid u) (undoing edition_1 room x.call)) (λ t. back_to edition_1 room n l (with_standing l t))
      (on_then (change_to edition_1 room undid u) (undoing edition_1 room x.call) (change_bounded undid u I) (undo_bounded x.call h.0))
      (λ t J. back_bounded n l h.1 (with_standing l t) (record { ready = J.ready; plain = h.1; staged_at = J.staged_at; deleted_at = J.deleted_at; staged = J.staged; deleted = J.deleted }))) I

  set_blocks : (n : ℕ) (u : Trial) → Bounded u → Bounded (with_blocks n u)
  set_blocks n u I = record { ready = I.ready; plain = I.plain; staged_at = I.staged_at; deleted_at = I.deleted_at; staged = I.staged; deleted = I.deleted }

  fork_bounded : (d : ℕ) (u : Trial) → Bounded u → OnBounded (fork_of edition_1 room d u)
  unfolding fork_of
  fork_bounded d u I =
      on_cond (leb d 720 && leb d u.blocks) (then (back_to edition_1 room (u.blocks - d) u.standing u) (λ t. on (with_blocks (u.blocks - d) t))) (ended 39)
      (on_then (back_to edition_1 room (u.blocks - d) u.standing u) (λ t. on (with_blocks (u.blocks - d) t)) (back_bounded (u.blocks - d) u.standing I.plain u I) (λ t J. set_blocks (u.blocks - d) t J)) tt

  pub step_bounded : (z : ℤ) (u : Trial) → Bounded u → OnBounded (step_to edition_1 room z u)
  step_bounded (pos n) u I = on_then (block_of edition_1 room n u) (λ t. on (with_blocks (t.blocks + 1) t)) (block_bounded n u I) (λ t J. set_blocks (t.blocks + 1) t J)
  step_bounded (negsuc d) u I = fork_bounded (suc d) u I

  pub steps_bounded : (zs : List ℤ) (u : Trial) → Bounded u → OnBounded (steps_to edition_1 room zs u)
  unfolding steps_to
  steps_bounded [] u I = I
  steps_bounded (z ∷ zs) u I = on_then (step_to edition_1 room z u) (steps_to edition_1 room zs) (step_bounded z u I) (steps_bounded zs)
