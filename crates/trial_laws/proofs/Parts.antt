-- Each part of a trial does the same under two capacities, as long as its figures stay within both.
use mathlib.Core.Path.{◌≡◌, refl, sym, ◌∙◌, ap, subst}
use mathlib.Core.Logic.{◌≢◌}
use mathlib.Core.Bool.{Bool, true, false, cond, ◌&&◌, ◌||◌}
use mathlib.Core.List.{List, [], ◌∷◌}
use Prim.Native.Nat.{ℕ, zero, suc, ◌+◌, ◌-◌, ◌≤◌, max, ◌/◌, ◌%◌}
use native.Mathlib.Nat.{le-max_left, le-max_right}
use native.Mathlib.Omega.{arith}
use lib.Dec.{eqb, leb, ltb}
use lib.IntN.{ℤ, pos, negsuc}
use lib.ListN.{length}
use borrow.Author.Tests.{eqb-true, eq-eqb}
use Rattle.segment_id.specs.declared.Kind.TheVariants.{Box, Tx}
use Rattle.buffer_core.specs.declared.Direction.TheVariants.{Spend, Unspend}
use Rattle.buffer_core.specs.Edition.{Edition, edition_1}
use Rattle.calls.specs.declared.Call.{Call}
use Rattle.calls.specs.declared.Call.TheVariants.{Append, Flip, Pop, Flush, Change, Bad, Cut, End}
use Rattle.calls.specs.Calls.{Among}
use Rattle.call_steps.specs.declared.Said.{Said}
use Rattle.call_steps.specs.State.{Ready}
use Rattle.call_steps.specs.Steps.{step_of}
use Rattle.call_steps.proofs.KeepLaws.{step_kept}
use Rattle.load_core.specs.declared.Source.{Source}
use Rattle.load_core.specs.Draw.{source, drawn, draw, pick, draws}
use Rattle.trial_core.specs.Trial.{Side, called, undid, Stood, Going, on, ended, then, with_side, with_gen, with_standing, with_blocks, made, code_of, ends_run, flushing, changes, change_to, stands, calling, make, block_of, undo_of, undoing, back_to, fork_of, step_to, steps_to, figures, Trial}
use Rattle.trial_laws.proofs.StepNear.{Rel, Fine, OfForks, step_near}

module _ (room a e : ℕ) where
  abbrev E : Edition
  E = edition_1

  -- what stands: appends and spends of parent 0
  abbrev pub Plain : Call → Type 0
  Plain (Append k p z) = p ≡ 0
  Plain (Flip d p z) = p ≡ 0
  Plain (Pop k p) = ⊥
  Plain Flush = ⊥
  Plain (Change x p n t v) = ⊥
  Plain Bad = ⊥
  Plain Cut = ⊥
  Plain End = ⊥

  abbrev pub PlainAll : List Stood → Type 0
  PlainAll [] = Unit {0}
  PlainAll (x ∷ l) = Plain x.call × PlainAll l

  pub record Alike (s t : Trial) : Type 0 where
    pub now : Rel E a e s.now t.now
    pub ready : Ready 1 s.now
    pub plain : PlainAll s.standing
    pub gen : s.gen ≡ t.gen
    pub standing : s.standing ≡ t.standing
    pub blocks : s.blocks ≡ t.blocks
    pub side : s.side ≡ t.side
    pub staged : s.staged ≡ t.staged
    pub deleted : s.deleted ≡ t.deleted
    pub answers : s.answers ≡ t.answers

  abbrev Grows : Trial → Going → Type 0
  Grows s (on u) = (s.staged ≤ u.staged) × (s.deleted ≤ u.deleted)
  Grows s (ended k) = Unit {0}

  abbrev pub Follows : Going → Going → Type 0
  Follows (on u) G = u.staged ≤ a → u.deleted ≤ e → (v : Trial) × (G ≡ on v) × Alike u v
  Follows (ended k) G = Unit {0}

  -- a part of the simulation: the figures never fall, and it does the same on both while they stay within a and e
  pub record Part (f : Trial → Going) : Type 0 where
    pub grows : (u : Trial) → Grows u (f u)
    pub follows : (u v : Trial) → Alike u v → Follows (f u) (f v)

  further : (s u : Trial) (G : Going) → s.staged ≤ u.staged → s.deleted ≤ u.deleted → Grows u G → Grows s G
  further s u (on w) p q g = (omega (arith, p, g.0), omega (arith, q, g.1))
  further s u (ended k) p q g = tt

  -- one part after another
  grow_then : (s : Trial) (G : Going) (g : Trial → Going) → Grows s G → Part g → Grows s (then G g)
  grow_then s (on u) g h P = further s u (g u) h.0 h.1 (P.grows u)
  grow_then s (ended k) g h P = tt

  follow_on : (u : Trial) (G : Going) (g : Trial → Going) (X : Going) → g u ≡ X → Grows u X → Follows (on u) G → Part g → Follows X (then G g)
  follow_on u G g (ended k) q h F P = tt
  follow_on u G g (on w) q h F P = λ (p : w.staged ≤ a) (r : w.deleted ≤ e).
      let v = F (omega (arith, h.0, p)) (omega (arith, h.1, r)) in
      let y = subst (λ (Z : Going). Follows Z (g v.0)) q (P.follows u v.0 v.2) p r in
      (y.0, ap (λ (Z : Going). then Z g) v.1 ∙ y.1, y.2)

  follow_then : (G G' : Going) (g : Trial → Going) → Follows G G' → Part g → Follows (then G g) (then G' g)
  follow_then (on u) G' g F P = follow_on u G' g (g u) refl (P.grows u) F P
  follow_then (ended k) G' g F P = tt

  pub part_then : (f g : Trial → Going) → Part f → Part g → Part (λ s. then (f s) g)
  part_then f g P Q = record {
    grows = λ u. grow_then u (f u) g (P.grows u) Q;
    follows = λ u v R. follow_then (f u) (f v) g (P.follows u v R) Q;
  }

  -- ---- parts that only set a field
  part_on : Part on
  part_on = record { grows = λ u. (omega arith, omega arith); follows = λ u v R p q. (v, refl, R) }

  part_side : (d : Side) → Part (λ s. on (with_side d s))
  part_side d = record {
    grows = λ u. (omega arith, omega arith);
    follows = λ u v R p q. (
      with_side d v,
      refl,
      record { now = R.now; ready = R.ready; plain = R.plain; gen = R.gen; standing = R.standing; blocks = R.blocks; side = refl; staged = R.staged; deleted = R.deleted; answers = R.answers },
    );
  }

  pub with_gen_rel : (g : Source) (u v : Trial) → Alike u v → Alike (with_gen g u) (with_gen g v)
  with_gen_rel g u v R = record { now = R.now; ready = R.ready; plain = R.plain; gen = refl; standing = R.standing; blocks = R.blocks; side = R.side; staged = R.staged; deleted = R.deleted; answers = R.answers }

  -- ---- a call
  pub made_rel : (x : Call) → OfForks E a e x → Among 1 x → (u v : Trial) → Alike u v → code_of E room x u ≢ 16 → code_of E room x u ≢ 21 → (made E room x u).staged ≤ a → (made E room x u).deleted ≤ e
      → (code_of E room x u ≡ code_of E room x v) × Alike (made E room x u) (made E room x v)
  made_rel x o m u v R h16 h21 p q =
      let X = step_of E x u.now in
      let F : Fine E a e X = record {
        not_16 = h16;
        not_21 = h21;
        staged = omega (arith, p, le-max_right u.staged X.after.lists.staged_counts.count);
        deleted = omega (arith, q, le-max_right u.deleted X.after.lists.deleted_counts.count);
      } in
      let T = step_near E a e x o u.now v.now R.now R.ready.listed F in
      let code = ap (λ (w : Said). w.code) T.said in (
        code,
        record {
          now = T.states;
          ready = step_kept 1 u.now R.ready x m;
          plain = R.plain;
          gen = R.gen;
          standing = R.standing;
          blocks = R.blocks;
          side = R.side;
          staged = λ i. max (R.staged i) (T.states.lists.staged.count i);
          deleted = λ i. max (R.deleted i) (T.states.lists.deleted.count i);
          answers = λ i. code i ∷ R.answers i;
        },
      )

  made_grows : (x : Call) (u : Trial) → (u.staged ≤ (made E room x u).staged) × (u.deleted ≤ (made E room x u).deleted)
  made_grows x u = (le-max_left u.staged (step_of E x u.now).after.lists.staged_counts.count, le-max_left u.deleted (step_of E x u.now).after.lists.deleted_counts.count)

  -- accepted or ended: flush and undo
  abbrev taken : Call → Trial → Going
  taken x s = cond (eqb (code_of E room x s) 0) (on (made E room x s)) (ended (code_of E room x s))

  taken_by : (x : Call) → OfForks E a e x → Among 1 x → (u v : Trial) → Alike u v → (w : Bool) → eqb (code_of E room x u) 0 ≡ w
      → Follows (cond w (on (made E room x u)) (ended (code_of E room x u))) (taken x v)
  taken_by x o m u v R false q = tt
  taken_by x o m u v R true q = λ p r.
      let z : code_of E room x u ≡ 0 = eqb-true (code_of E room x u) 0 q in
      let T = made_rel x o m u v R (λ k. omega arith) (λ k. omega arith) p r in
      (made E room x v, ap (λ w. cond w (on (made E room x v)) (ended (code_of E room x v))) (eq-eqb (code_of E room x v) 0 (sym T.0 ∙ z)), T.1)

  grow_by : (x : Call) (u : Trial) (w : Bool) → Grows u (cond w (on (made E room x u)) (ended (code_of E room x u)))
  grow_by x u true = made_grows x u
  grow_by x u false = tt

  part_taken : (x : Call) → OfForks E a e x → Among 1 x → Part (taken x)
  part_taken x o m = record { grows = λ u. grow_by x u (eqb (code_of E room x u) 0); follows = λ u v R. taken_by x o m u v R (eqb (code_of E room x u) 0) refl }

  part_flush : Part (flushing E room)
  unfolding flushing
  part_flush = part_taken Flush tt tt

  -- ---- the flush at a change
  pub side_by : (d : Side) → Part (λ s. cond (changes E room s.side d) (flushing E room s) (on s))
  side_by d = record { grows = λ u. g u (changes E room u.side d); follows = λ u v R. subst (λ (x : Side). Follows (cond (changes E room u.side d) (flushing E room u) (on u)) (cond (changes E room x d) (flushing E room v) (on v))) R.side (f u v R (changes E room u.side d)) }
    where
      g : (u : Trial) (w : Bool) → Grows u (cond w (flushing E room u) (on u))
      g u true = part_flush.grows u
      g u false = (omega arith, omega arith)

      f : (u v : Trial) → Alike u v → (w : Bool) → Follows (cond w (flushing E room u) (on u)) (cond w (flushing E room v) (on v))
      f u v R true = part_flush.follows u v R
      f u v R false = λ p q. (v, refl, R)

  pub part_change : (d : Side) → Part (change_to E room d)
  unfolding change_to
  part_change d = part_then (λ s. cond (changes E room s.side d) (flushing E room s) (on s)) (λ t. on (with_side d t)) (side_by d) (part_side d)

  -- ---- a call that may stand
  stand_grows : (c : Call) (s u : Trial) (w : Bool) → (s.staged ≤ u.staged) × (s.deleted ≤ u.deleted)
      → Grows s (cond w (on (with_standing (record { call = c; block = u.blocks } ∷ u.standing) u)) (ended 40))
  stand_grows c s u true h = h
  stand_grows c s u false h = tt

  abbrev calls_by : Call → Trial → Bool → Bool → Going
  calls_by c s w y = cond w (stands E room c (made E room c s)) (cond y (ended (code_of E room c s)) (on (made E room c s)))

  call_grows : (c : Call) (u : Trial) (w y : Bool) → Grows u (calls_by c u w y)
  unfolding stands
  call_grows c u true y = stand_grows c u (made E room c u) (ltb (length (made E room c u).standing) room) (made_grows c u)
  call_grows c u false true = tt
  call_grows c u false false = made_grows c u

  pub forks_of : (c : Call) → Plain c → OfForks E a e c
  forks_of (Append k p z) h = tt
  forks_of (Flip d p z) h = tt
  forks_of (Pop k p) h = absurd h
  forks_of Flush h = absurd h
  forks_of (Change x p n t v) h = absurd h
  forks_of Bad h = absurd h
  forks_of Cut h = absurd h
  forks_of End h = absurd h

  pub among_of : (c : Call) → Plain c → Among 1 c
  among_of (Append k p z) h = omega arith
  among_of (Flip d p z) h = omega arith
  among_of (Pop k p) h = absurd h
  among_of Flush h = absurd h
  among_of (Change x p n t v) h = absurd h
  among_of Bad h = absurd h
  among_of Cut h = absurd h
  among_of End h = absurd h

  stand_follows : (c : Call) → Plain c → (u v : Trial) (w : Bool) → (u.staged ≤ a → u.deleted ≤ e → Alike u v)
      → Follows (cond w (on (with_standing (record { call = c; block = u.blocks } ∷ u.standing) u)) (ended 40)) (cond w (on (with_standing (record { call = c; block = v.blocks } ∷ v.standing) v)) (ended 40))
  stand_follows c h u v false R = tt
  stand_follows c h u v true R = λ p q.
      let r = R p q in (
        with_standing (record { call = c; block = v.blocks } ∷ v.standing) v,
        refl,
        record { now = r.now; ready = r.ready; plain = (h, r.plain); gen = r.gen; standing = λ i. record { call = c; block = r.blocks i } ∷ r.standing i; blocks = r.blocks; side = r.side; staged = r.staged; deleted = r.deleted; answers = r.answers },
      )

  not_ends : (k : ℕ) → ends_run E room k ≡ false → (k ≢ 16) × (k ≢ 21)
  not_ends k h = ((λ q. f16 (eqb k 16) (eqb k 21 || eqb k 22) (eq-eqb k 16 q) h), (λ q. f21 (eqb k 16) (eqb k 21) (eqb k 22) (eq-eqb k 21 q) h))
    where
      tf : true ≡ false → ⊥
      tf q = let z : ◌≡◌ {A = ℕ} 0 1 = cc in omega arith

      f16 : (p r : Bool) → p ≡ true → p || r ≡ false → ⊥
      f16 true r x y = tf y
      f16 false r x y = tf (sym x)

      f21 : (p r t : Bool) → r ≡ true → p || (r || t) ≡ false → ⊥
      f21 true r t x y = tf y
      f21 false true t x y = tf y
      f21 false false t x y = tf (sym x)

  stand_by : (c : Call) → Plain c → (u v : Trial) → Alike u v → eqb (code_of E room c u) 0 ≡ true → (w : Bool) → ltb (length (made E room c u).standing) room ≡ w
      → Follows (cond w (on (with_standing (record { call = c; block = (made E room c u).blocks } ∷ (made E room c u).standing) (made E room c u))) (ended 40)) (calling E room c v)
  unfolding calling stands
  stand_by c h u v R q false g = tt
  stand_by c h u v R q true g = λ p t.
      let z : code_of E room c u ≡ 0 = eqb-true (code_of E room c u) 0 q in
      let T = made_rel c (forks_of c h) (among_of c h) u v R (λ k. omega arith) (λ k. omega arith) p t in
      let made_v = made E room c v in
      let x = stand_follows c h (made E room c u) made_v true (λ b d. T.1) p t in (
        x.0,
        ap (λ w. cond w (stands E room c made_v) (cond (ends_run E room (code_of E room c v)) (ended (code_of E room c v)) (on made_v))) (eq-eqb (code_of E room c v) 0 (sym T.0 ∙ z))
            ∙ ap (λ w. cond w (on (with_standing (record { call = c; block = made_v.blocks } ∷ made_v.standing) made_v)) (ended 40)) (ap (λ (l : List Stood). ltb (length l) room) (sym T.1.standing) ∙ g) ∙ x.1,
        x.2,
      )

  call_follows : (c : Call) → Plain c → (u v : Trial) → Alike u v → (w y : Bool) → eqb (code_of E room c u) 0 ≡ w → ends_run E room (code_of E room c u) ≡ y → Follows (calls_by c u w y) (calling E room c v)
  unfolding calling stands
  call_follows c h u v R true y q r = stand_by c h u v R q (ltb (length (made E room c u).standing) room) refl
  call_follows c h u v R false true q r = tt
  call_follows c h u v R false false q r = λ p t.
      let n = not_ends (code_of E room c u) r in
      let T = made_rel c (forks_of c h) (among_of c h) u v R n.0 n.1 p t in (
        made E room c v,
        (λ i. cond (eqb (sym T.0 i) 0) (stands E room c (made E room c v)) (cond (ends_run E room (sym T.0 i)) (ended (sym T.0 i)) (on (made E room c v))))
            ∙ (λ i. cond (q i) (stands E room c (made E room c v)) (cond (r i) (ended (code_of E room c u)) (on (made E room c v)))),
        T.1,
      )

  part_calling : (c : Call) → Plain c → Part (calling E room c)
  unfolding calling
  part_calling c h = record {
    grows = λ u. call_grows c u (eqb (code_of E room c u) 0) (ends_run E room (code_of E room c u));
    follows = λ u v R. call_follows c h u v R (eqb (code_of E room c u) 0) (ends_run E room (code_of E room c u)) refl refl;
  }

  -- ---- generated calls
  abbrev pub Drawable : Call → Type 0
  Drawable (Append k p z) = p ≡ 0
  Drawable (Flip d p z) = p ≡ 0
  Drawable (Pop k p) = ⊥
  Drawable Flush = Unit {0}
  Drawable (Change x p n t v) = ⊥
  Drawable Bad = ⊥
  Drawable Cut = ⊥
  Drawable End = ⊥

  drawable : (d : ℕ) (g : Source) → Drawable (pick d g).call
  unfolding pick
  drawable d g = by (ltb (d % 8) 4) (ltb (d % 8) 6) (eqb g.boxes 0) (eqb (d % 8) 6)
    where
      by : (p q r t : Bool) → Drawable (cond p (drawn (Append Box 0 (pos g.boxes)) (source d (g.boxes + 1) g.txs))
          (cond q (cond r (drawn (Append Box 0 (pos g.boxes)) (source d (g.boxes + 1) g.txs)) (drawn (Flip Spend 0 (pos (d / 8 % g.boxes))) (source d g.boxes g.txs)))
          (cond t (drawn (Append Tx 0 (pos g.txs)) (source d g.boxes (g.txs + 1))) (drawn Flush (source d g.boxes g.txs))))).call
      by true q r t = refl
      by false true true t = refl
      by false true false t = refl
      by false false r true = refl
      by false false r false = tt

  pub draws_drawable : (g : Source) → Drawable (draws g).call
  unfolding draws
  draws_drawable g = drawable (draw g.state) g

  part_make : (c : Call) → Drawable c → Part (make E room c)
  part_make (Append k p z) h = part_then (change_to E room called) (calling E room (Append k p z)) (part_change called) (part_calling (Append k p z) h)
  part_make (Flip d p z) h = part_then (change_to E room called) (calling E room (Flip d p z)) (part_change called) (part_calling (Flip d p z) h)
  part_make (Pop k p) h = absurd h
  part_make Flush h = part_flush
  part_make (Change x p n t v) h = absurd h
  part_make Bad h = absurd h
  part_make Cut h = absurd h
  part_make End h = absurd h

  abbrev pub draws_one : Trial → Going
  draws_one s = make E room (draws s.gen).call (with_gen (draws s.gen).next s)

  gen_grows : (g : Source) (u : Trial) (G : Going) → Grows (with_gen g u) G → Grows u G
  gen_grows g u (on w) h = h
  gen_grows g u (ended k) h = tt

  pub part_draws : Part draws_one
  part_draws = record {
    grows = λ u. gen_grows (draws u.gen).next u (draws_one u) ((part_make (draws u.gen).call (draws_drawable u.gen)).grows (with_gen (draws u.gen).next u));
    follows = λ u v R. subst (λ (g : Source). Follows (draws_one u) (make E room (draws g).call (with_gen (draws g).next v))) R.gen
        ((part_make (draws u.gen).call (draws_drawable u.gen)).follows (with_gen (draws u.gen).next u) (with_gen (draws u.gen).next v) (with_gen_rel (draws u.gen).next u v R));
  }

  pub part_block : (n : ℕ) → Part (block_of E room n)
  unfolding block_of
  part_block zero = part_on
  part_block (suc n) = part_then draws_one (block_of E room n) part_draws (part_block n)

  -- ---- forks
  pub part_undoing : (c : Call) → Plain c → Part (undoing E room c)
  unfolding undoing
  part_undoing (Append k p z) h = part_taken (Pop k p) tt (omega arith)
  part_undoing (Flip d p z) h = part_taken (Flip Unspend p z) tt (omega arith)
  part_undoing (Pop k p) h = absurd h
  part_undoing Flush h = absurd h
  part_undoing (Change x p n t v) h = absurd h
  part_undoing Bad h = absurd h
  part_undoing Cut h = absurd h
  part_undoing End h = absurd h

  part_standing : (l : List Stood) → PlainAll l → Part (λ s. on (with_standing l s))
  part_standing l h = record {
    grows = λ u. (omega arith, omega arith);
    follows = λ u v R p q. (
      with_standing l v,
      refl,
      record { now = R.now; ready = R.ready; plain = h; gen = R.gen; standing = refl; blocks = R.blocks; side = R.side; staged = R.staged; deleted = R.deleted; answers = R.answers },
    );
  }

  part_if : (w : Bool) (f : Trial → Going) → Part f → Part (λ s. cond w (f s) (on s))
  part_if true f P = P
  part_if false f P = part_on

  pub part_back : (n : ℕ) (l : List Stood) → PlainAll l → Part (back_to E room n l)
  unfolding back_to
  part_back n [] h = part_on
  part_back n (x ∷ l) h =
      part_if (leb n x.block) (λ s. then (then (change_to E room undid s) (undoing E room x.call)) (λ t. back_to E room n l (with_standing l t)))
      (part_then (λ s. then (change_to E room undid s) (undoing E room x.call)) (λ t. back_to E room n l (with_standing l t))
      (part_then (change_to E room undid) (undoing E room x.call) (part_change undid) (part_undoing x.call h.0))
      (part_then (λ s. on (with_standing l s)) (back_to E room n l) (part_standing l h.1) (part_back n l h.1)))

  blocks_on : (n : ℕ) → Part (λ t. on (with_blocks n t))
  blocks_on n = record {
    grows = λ u. (omega arith, omega arith);
    follows = λ u v R p q. (
      with_blocks n v,
      refl,
      record { now = R.now; ready = R.ready; plain = R.plain; gen = R.gen; standing = R.standing; blocks = refl; side = R.side; staged = R.staged; deleted = R.deleted; answers = R.answers },
    );
  }

  chain : (s : Trial) (G : Going) (g : Trial → Going) → Grows s G → ((u : Trial) → Grows u (g u)) → Grows s (then G g)
  chain s (on u) g h k = further s u (g u) h.0 h.1 (k u)
  chain s (ended k) g h r = tt

  undo_grows : (c : Call) (u : Trial) → Grows u (undoing E room c u)
  unfolding undoing
  undo_grows c u = grow_by (undo_of E room c) u (eqb (code_of E room (undo_of E room c) u) 0)

  if_grows : (w : Bool) (u : Trial) (G : Going) → Grows u G → Grows u (cond w G (on u))
  if_grows true u G h = h
  if_grows false u G h = (omega arith, omega arith)

  back_grows : (n : ℕ) (l : List Stood) (u : Trial) → Grows u (back_to E room n l u)
  unfolding back_to
  back_grows n [] u = (omega arith, omega arith)
  back_grows n (x ∷ l) u =
      if_grows (leb n x.block) u (then (then (change_to E room undid u) (undoing E room x.call)) (λ t. back_to E room n l (with_standing l t)))
      (chain u (then (change_to E room undid u) (undoing E room x.call)) (λ t. back_to E room n l (with_standing l t))
      (chain u (change_to E room undid u) (undoing E room x.call) ((part_change undid).grows u) (undo_grows x.call))
      (λ t. further t (with_standing l t) (back_to E room n l (with_standing l t)) (omega arith) (omega arith) (back_grows n l (with_standing l t))))

  abbrev forks : ℕ → ℕ → List Stood → Trial → Going
  forks d n l s = cond (leb d 720 && leb d n) (then (back_to E room (n - d) l s) (λ t. on (with_blocks (n - d) t))) (ended 39)

  fork_grows : (d n : ℕ) (l : List Stood) (u : Trial) (w : Bool) → Grows u (cond w (then (back_to E room (n - d) l u) (λ t. on (with_blocks (n - d) t))) (ended 39))
  fork_grows d n l u true = chain u (back_to E room (n - d) l u) (λ t. on (with_blocks (n - d) t)) (back_grows (n - d) l u) (λ t. (omega arith, omega arith))
  fork_grows d n l u false = tt

  fork_follows : (d n : ℕ) (l : List Stood) → PlainAll l → (u v : Trial) → Alike u v → (w : Bool)
      → Follows (cond w (then (back_to E room (n - d) l u) (λ t. on (with_blocks (n - d) t))) (ended 39)) (cond w (then (back_to E room (n - d) l v) (λ t. on (with_blocks (n - d) t))) (ended 39))
  fork_follows d n l h u v R true = (part_then (back_to E room (n - d) l) (λ t. on (with_blocks (n - d) t)) (part_back (n - d) l h) (blocks_on (n - d))).follows u v R
  fork_follows d n l h u v R false = tt

  part_fork : (d : ℕ) → Part (fork_of E room d)
  unfolding fork_of
  part_fork d = record {
    grows = λ u. fork_grows d u.blocks u.standing u (leb d 720 && leb d u.blocks);
    follows = λ u v R. subst (λ (l : List Stood). Follows (forks d u.blocks u.standing u) (forks d v.blocks l v)) R.standing
        (subst (λ (n : ℕ). Follows (forks d u.blocks u.standing u) (forks d n u.standing v)) R.blocks
        (fork_follows d u.blocks u.standing R.plain u v R (leb d 720 && leb d u.blocks)));
  }

  more_blocks : Part (λ t. on (with_blocks (t.blocks + 1) t))
  more_blocks = record {
    grows = λ u. (omega arith, omega arith);
    follows = λ u v R p q. (
      with_blocks (v.blocks + 1) v,
      refl,
      record { now = R.now; ready = R.ready; plain = R.plain; gen = R.gen; standing = R.standing; blocks = ap (λ n. n + 1) R.blocks; side = R.side; staged = R.staged; deleted = R.deleted; answers = R.answers },
    );
  }

  pub part_step : (z : ℤ) → Part (step_to E room z)
  part_step (pos n) = part_then (block_of E room n) (λ t. on (with_blocks (t.blocks + 1) t)) (part_block n) more_blocks
  part_step (negsuc d) = part_fork (suc d)

  pub part_steps : (zs : List ℤ) → Part (steps_to E room zs)
  unfolding steps_to
  part_steps [] = part_on
  part_steps (z ∷ zs) = part_then (step_to E room z) (steps_to E room zs) (part_step z) (part_steps zs)
