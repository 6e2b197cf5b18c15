-- A trial with less room than the figures say ends by 16 or 21: beside one with room enough it says the same, until it says 16 or 21, which ends it.
use mathlib.Core.Path.{◌≡◌, refl, sym, ◌∙◌, ap, subst}
use mathlib.Core.Logic.{◌≢◌, ◌⊎◌, inl, inr}
use mathlib.Core.Bool.{Bool, true, false, cond, ◌&&◌}
use mathlib.Core.List.{List, [], ◌∷◌}
use Prim.Native.Nat.{ℕ, zero, suc, ◌+◌, ◌-◌, ◌≤◌, ◌<◌, max}
use native.Mathlib.Nat.{le-max_left, le-max_right}
use native.Mathlib.Omega.{arith}
use lib.Dec.{eqb, leb, ltb}
use lib.IntN.{ℤ, pos, negsuc}
use lib.ListN.{length}
use borrow.Author.Tests.{eqb-true, eqb-false, eq-eqb}
use Rattle.buffer_core.specs.declared.Direction.TheVariants.{Unspend}
use Rattle.buffer_core.specs.Edition.{Edition, edition_1}
use Rattle.calls.specs.declared.Call.{Call}
use Rattle.calls.specs.declared.Call.TheVariants.{Append, Flip, Pop, Flush, Change, Bad, Cut, End}
use Rattle.calls.specs.Calls.{Among}
use Rattle.load_core.specs.declared.Source.{Source}
use Rattle.load_core.specs.Draw.{draws}
use Rattle.std.specs.Prelude.{Ok, Err}
use Rattle.trial_core.specs.Trial.{Side, called, undid, Stood, Going, on, ended, then, with_side, with_gen, with_standing, with_blocks, made, code_of, ends_run, flushing, changes, change_to, stands, calling, make, block_of, undoing, back_to, fork_of, step_to, steps_to, start, figures, run_of, Trial, tried}
use Rattle.trial_laws.specs.Enough.{Short}
use Rattle.trial_laws.proofs.StepNear.{OfForks}
use Rattle.trial_laws.proofs.Parts.{Plain, PlainAll, Alike, Follows, part_then, made_rel, side_by, part_change, forks_of, among_of, Drawable, draws_drawable, draws_one, with_gen_rel, part_draws, part_block, part_undoing, part_back, part_step}
use Rattle.trial_laws.proofs.Bounds.{Bounded, OnBounded, on_cond, on_then, made_bounded, flush_bounded, change_bounded, make_bounded, block_bounded, undo_bounded, back_bounded, step_bounded}
use Rattle.trial_laws.proofs.Enough.{start_rel, zero_ready, by_state, within, enough, least}

module _ (room S D : ℕ) where
  abbrev E : Edition
  E = edition_1

  -- one that has ended was ended by 16 or by 21, or the other has ended by the same number
  abbrev Ends : Going → Going → Type 0
  Ends (on u) G = Unit {0}
  Ends (ended k) G = ((k ≡ 16) ⊎ (k ≡ 21)) ⊎ (G ≡ ended k)

  -- what is so for any number but 16 and 21
  unless_full : (k : ℕ) (P : Type 0) → (k ≢ 16 → k ≢ 21 → P) → ((k ≡ 16) ⊎ (k ≡ 21)) ⊎ P
  unless_full k P f = by (eqb k 16) (eqb k 21) refl refl
    where
      by : (w v : Bool) → eqb k 16 ≡ w → eqb k 21 ≡ v → ((k ≡ 16) ⊎ (k ≡ 21)) ⊎ P
      by true v p q = inl (inl (eqb-true k 16 p))
      by false true p q = inl (inr (eqb-true k 21 q))
      by false false p q = inr (f (eqb-false k 16 p) (eqb-false k 21 q))

  -- one part after another
  ends_then : (G G' : Going) (g : Trial → Going) → OnBounded room S D G → Follows room S D G G' → Ends G G'
      → ((s t : Trial) → Alike room S D s t → Bounded room S D s → Ends (g s) (g t)) → Ends (then G g) (then G' g)
  ends_then (on w) G' g B F X h =
      let y = F B.staged B.deleted in
      subst (λ (Z : Going). Ends (g w) (then Z g)) (sym y.1) (h w y.0 y.2 B)
  ends_then (ended k) G' g B F (inl p) h = inl p
  ends_then (ended k) G' g B F (inr p) h = inr (ap (λ (Z : Going). then Z g) p)

  -- ---- a call
  module _ (x : Call) (o : OfForks E S D x) (m : Among 1 x) (u v : Trial) (R : Alike room S D u v) (I : Bounded room S D u) where
    abbrev k : ℕ
    k = code_of E room x u

    same_code : k ≢ 16 → k ≢ 21 → (k ≡ code_of E room x v) × Alike room S D (made E room x u) (made E room x v)
    same_code p q =
        let M = made_bounded room S D x m u I in
        made_rel room S D x o m u v R p q M.staged M.deleted

    -- a call whose refusal ends the trial
    ends_taken : Ends (cond (eqb k 0) (on (made E room x u)) (ended k)) (cond (eqb (code_of E room x v) 0) (on (made E room x v)) (ended (code_of E room x v)))
    ends_taken = by (eqb k 0) refl
      where
        by : (w : Bool) → eqb k 0 ≡ w → Ends (cond w (on (made E room x u)) (ended k)) (cond (eqb (code_of E room x v) 0) (on (made E room x v)) (ended (code_of E room x v)))
        by true q = tt
        by false q = unless_full k _ (λ h16 h21.
            let T = (same_code h16 h21).0 in
            (λ i. cond (eqb (sym T i) 0) (on (made E room x v)) (ended (sym T i))) ∙ ap (λ (w : Bool). cond w (on (made E room x v)) (ended k)) q)

  ends_flush : (u v : Trial) → Alike room S D u v → Bounded room S D u → Ends (flushing E room u) (flushing E room v)
  unfolding flushing
  ends_flush = ends_taken Flush tt tt

  ends_change : (d : Side) (u v : Trial) → Alike room S D u v → Bounded room S D u → Ends (change_to E room d u) (change_to E room d v)
  unfolding change_to
  ends_change d u v R I =
      ends_then (cond (changes E room u.side d) (flushing E room u) (on u)) (cond (changes E room v.side d) (flushing E room v) (on v)) (λ t. on (with_side d t))
      (on_cond room S D (changes E room u.side d) (flushing E room u) (on u) (flush_bounded room S D u I) I)
      ((side_by room S D d).follows u v R)
      (subst (λ (x : Side). Ends (cond (changes E room u.side d) (flushing E room u) (on u)) (cond (changes E room x d) (flushing E room v) (on v))) R.side (by (changes E room u.side d)))
      (λ s t R I. tt)
    where
      by : (w : Bool) → Ends (cond w (flushing E room u) (on u)) (cond w (flushing E room v) (on v))
      by true = ends_flush u v R I
      by false = tt

  -- ---- a call that may stand
  module _ (c : Call) (h : Plain room S D c) (u v : Trial) (R : Alike room S D u v) (I : Bounded room S D u) where
    abbrev said : ℕ
    said = code_of E room c u

    abbrev m : Trial
    m = made E room c v

    same : said ≢ 16 → said ≢ 21 → (said ≡ code_of E room c v) × Alike room S D (made E room c u) m
    same = same_code c (forks_of room S D c h) (among_of room S D c h) u v R I

    ends_stands : (t : Bool) → eqb said 0 ≡ true → ltb (length u.standing) room ≡ t
        → Ends (cond t (on (with_standing (record { call = c; block = u.blocks } ∷ u.standing) (made E room c u))) (ended 40)) (calling E room c v)
    unfolding calling stands
    ends_stands true q g = tt
    ends_stands false q g =
        let z : said ≡ 0 = eqb-true said 0 q in
        let T = same (λ j. omega arith) (λ j. omega arith) in
        inr (ap (λ w. cond w (stands E room c m) (cond (ends_run E room (code_of E room c v)) (ended (code_of E room c v)) (on m))) (eq-eqb (code_of E room c v) 0 (sym T.0 ∙ z))
        ∙ ap (λ w. cond w (on (with_standing (record { call = c; block = m.blocks } ∷ m.standing) m)) (ended 40)) (ap (λ (l : List Stood). ltb (length l) room) (sym T.1.standing) ∙ g))

    ends_calling : Ends (calling E room c u) (calling E room c v)
    unfolding calling stands
    ends_calling = by (eqb said 0) (ends_run E room said) refl refl
      where
        by : (w y : Bool) → eqb said 0 ≡ w → ends_run E room said ≡ y
            → Ends (cond w (stands E room c (made E room c u)) (cond y (ended said) (on (made E room c u)))) (calling E room c v)
        by true y q r = ends_stands (ltb (length u.standing) room) q refl
        by false true q r = unless_full said _ (λ h16 h21.
            let T = (same h16 h21).0 in
            (λ i. cond (eqb (sym T i) 0) (stands E room c m) (cond (ends_run E room (sym T i)) (ended (sym T i)) (on m)))
            ∙ (λ i. cond (q i) (stands E room c m) (cond (r i) (ended said) (on m))))
        by false false q r = tt

  -- ---- generated calls
  ends_make : (c : Call) → Drawable room S D c → (u v : Trial) → Alike room S D u v → Bounded room S D u → Ends (make E room c u) (make E room c v)
  ends_make (Append k p z) h u v R I =
      ends_then (change_to E room called u) (change_to E room called v) (calling E room (Append k p z)) (change_bounded room S D called u I) ((part_change room S D called).follows u v R) (ends_change called u v R I) (ends_calling (Append k p z) h)
  ends_make (Flip d p z) h u v R I =
      ends_then (change_to E room called u) (change_to E room called v) (calling E room (Flip d p z)) (change_bounded room S D called u I) ((part_change room S D called).follows u v R) (ends_change called u v R I) (ends_calling (Flip d p z) h)
  ends_make (Pop k p) h u v R I = absurd h
  ends_make Flush h u v R I = ends_flush u v R I
  ends_make (Change x p n t y) h u v R I = absurd h
  ends_make Bad h u v R I = absurd h
  ends_make Cut h u v R I = absurd h
  ends_make End h u v R I = absurd h

  gen_bounded : (g : Source) (u : Trial) → Bounded room S D u → Bounded room S D (with_gen g u)
  gen_bounded g u I = record { ready = I.ready; plain = I.plain; staged_at = I.staged_at; deleted_at = I.deleted_at; staged = I.staged; deleted = I.deleted }

  ends_draws : (u v : Trial) → Alike room S D u v → Bounded room S D u → Ends (draws_one room S D u) (draws_one room S D v)
  ends_draws u v R I =
      let g = (draws u.gen).next in
      subst (λ (y : Source). Ends (draws_one room S D u) (make E room (draws y).call (with_gen (draws y).next v))) R.gen
      (ends_make (draws u.gen).call (draws_drawable room S D u.gen) (with_gen g u) (with_gen g v) (with_gen_rel room S D g u v R) (gen_bounded g u I))

  ends_block : (n : ℕ) (u v : Trial) → Alike room S D u v → Bounded room S D u → Ends (block_of E room n u) (block_of E room n v)
  unfolding block_of
  ends_block zero u v R I = tt
  ends_block (suc n) u v R I =
      ends_then (draws_one room S D u) (draws_one room S D v) (block_of E room n)
      (make_bounded room S D (draws u.gen).call (draws_drawable room S D u.gen) (with_gen (draws u.gen).next u) (gen_bounded (draws u.gen).next u I))
      ((part_draws room S D).follows u v R) (ends_draws u v R I) (ends_block n)

  -- ---- forks
  ends_undoing : (c : Call) → Plain room S D c → (u v : Trial) → Alike room S D u v → Bounded room S D u → Ends (undoing E room c u) (undoing E room c v)
  unfolding undoing
  ends_undoing (Append k p z) h = ends_taken (Pop k p) tt (omega arith)
  ends_undoing (Flip d p z) h = ends_taken (Flip Unspend p z) tt (omega arith)
  ends_undoing (Pop k p) h = absurd h
  ends_undoing Flush h = absurd h
  ends_undoing (Change x p n t v) h = absurd h
  ends_undoing Bad h = absurd h
  ends_undoing Cut h = absurd h
  ends_undoing End h = absurd h

  ends_if : (w : Bool) (G G' : Going) (u v : Trial) → Ends G G' → Ends (cond w G (on u)) (cond w G' (on v))
  ends_if true G G' u v X = X
  ends_if false G G' u v X = tt

  ends_back : (n : ℕ) (l : List Stood) → PlainAll room S D l → (u v : Trial) → Alike room S D u v → Bounded room S D u → Ends (back_to E room n l u) (back_to E room n l v)
  unfolding back_to
  ends_back n [] h u v R I = tt
  ends_back n (x ∷ l) h u v R I =
      ends_if (leb n x.block) (then (then (change_to E room undid u) (undoing E room x.call)) (λ t. back_to E room n l (with_standing l t)))
      (then (then (change_to E room undid v) (undoing E room x.call)) (λ t. back_to E room n l (with_standing l t))) u v
      (ends_then (then (change_to E room undid u) (undoing E room x.call)) (then (change_to E room undid v) (undoing E room x.call)) (λ t. back_to E room n l (with_standing l t))
      (on_then room S D (change_to E room undid u) (undoing E room x.call) (change_bounded room S D undid u I) (undo_bounded room S D x.call h.0))
      ((part_then room S D (change_to E room undid) (undoing E room x.call) (part_change room S D undid) (part_undoing room S D x.call h.0)).follows u v R)
      (ends_then (change_to E room undid u) (change_to E room undid v) (undoing E room x.call) (change_bounded room S D undid u I) ((part_change room S D undid).follows u v R) (ends_change undid u v R I) (ends_undoing x.call h.0))
      (λ s t Q J. ends_back n l h.1 (with_standing l s) (with_standing l t)
      (record { now = Q.now; ready = Q.ready; plain = h.1; gen = Q.gen; standing = refl; blocks = Q.blocks; side = Q.side; staged = Q.staged; deleted = Q.deleted; answers = Q.answers })
      (record { ready = J.ready; plain = h.1; staged_at = J.staged_at; deleted_at = J.deleted_at; staged = J.staged; deleted = J.deleted })))

  abbrev forks : ℕ → ℕ → List Stood → Trial → Going
  forks d n l s = cond (leb d 720 && leb d n) (then (back_to E room (n - d) l s) (λ t. on (with_blocks (n - d) t))) (ended 39)

  ends_fork : (d : ℕ) (u v : Trial) → Alike room S D u v → Bounded room S D u → Ends (fork_of E room d u) (fork_of E room d v)
  unfolding fork_of
  ends_fork d u v R I =
      subst (λ (l : List Stood). Ends (forks d u.blocks u.standing u) (forks d v.blocks l v)) R.standing
      (subst (λ (n : ℕ). Ends (forks d u.blocks u.standing u) (forks d n u.standing v)) R.blocks (by (leb d 720 && leb d u.blocks)))
    where
      by : (w : Bool) → Ends (cond w (then (back_to E room (u.blocks - d) u.standing u) (λ t. on (with_blocks (u.blocks - d) t))) (ended 39))
          (cond w (then (back_to E room (u.blocks - d) u.standing v) (λ t. on (with_blocks (u.blocks - d) t))) (ended 39))
      by false = inr refl
      by true =
          ends_then (back_to E room (u.blocks - d) u.standing u) (back_to E room (u.blocks - d) u.standing v) (λ t. on (with_blocks (u.blocks - d) t))
          (back_bounded room S D (u.blocks - d) u.standing I.plain u I) ((part_back room S D (u.blocks - d) u.standing R.plain).follows u v R) (ends_back (u.blocks - d) u.standing R.plain u v R I) (λ s t Q J. tt)

  -- ---- the steps
  ends_step : (z : ℤ) (u v : Trial) → Alike room S D u v → Bounded room S D u → Ends (step_to E room z u) (step_to E room z v)
  ends_step (pos n) u v R I =
      ends_then (block_of E room n u) (block_of E room n v) (λ t. on (with_blocks (t.blocks + 1) t)) (block_bounded room S D n u I) ((part_block room S D n).follows u v R) (ends_block n u v R I) (λ s t Q J. tt)
  ends_step (negsuc d) u v R I = ends_fork (suc d) u v R I

  ends_steps : (zs : List ℤ) (u v : Trial) → Alike room S D u v → Bounded room S D u → Ends (steps_to E room zs u) (steps_to E room zs v)
  unfolding steps_to
  ends_steps [] u v R I = tt
  ends_steps (z ∷ zs) u v R I = ends_then (step_to E room z u) (step_to E room z v) (steps_to E room zs) (step_bounded room S D z u I) ((part_step room S D z).follows u v R) (ends_step z u v R I) (ends_steps zs)

  -- one that gives no figures, beside one that does
  full_or_figures : (G G' : Going) (a b : ℕ) → Ends G G' → figures G' ≡ Ok (a, b) → ((c d : ℕ) → figures G ≡ Ok (c, d) → ⊥) → (figures G ≡ Err 16) ⊎ (figures G ≡ Err 21)
  full_or_figures (on u) G' a b X e n = absurd (n u.staged u.deleted refl)
  full_or_figures (ended k) G' a b (inl (inl p)) e n = inl (ap Err p)
  full_or_figures (ended k) G' a b (inl (inr p)) e n = inr (ap Err p)
  full_or_figures (ended k) G' a b (inr p) e n =
      let f : Err k ≡ Ok (a, b) = sym (ap figures p) ∙ e in
      absurd (let z : ◌≡◌ {A = ℕ} 0 1 = cc in omega arith)

too_small : (a b S D : ℕ) → (S < a) ⊎ (D < b) → (a ≤ S) × (b ≤ D) → ⊥
too_small a b S D (inl p) h = omega (arith, p, h.0)
too_small a b S D (inr p) h = omega (arith, p, h.1)

pub short : Short
unfolding tried
short x zs T S D room a b e S' D' less =
    let w = by_state (eqb x 0) (run_of x zs T S D room) a b e in
    let i = within x zs T S D room a b e in
    let M = max S S' in
    let N = max D D' in
    let p = (enough x zs T S D room a b e M N (omega (arith, i.0, le-max_left S S')) (omega (arith, i.1, le-max_left D D'))).0 in
    let q = (by_state (eqb x 0) (run_of x zs T M N room) a b p).1 in
    let X = ends_steps room S' D' zs (start x T S' D') (start x T M N)
    (start_rel x T S' D' M N room S' D' (omega arith) (le-max_right S S') (omega arith) (le-max_right D D') (zero_ready T S' D'))
    (record { ready = zero_ready T S' D'; plain = tt; staged_at = refl; deleted_at = refl; staged = omega arith; deleted = omega arith }) in
    subst (λ (t : Bool). (cond t (Err 38) (figures (run_of x zs T S' D' room)) ≡ Err 16) ⊎ (cond t (Err 38) (figures (run_of x zs T S' D' room)) ≡ Err 21)) (sym w.0)
    (full_or_figures room S' D' (run_of x zs T S' D' room) (run_of x zs T M N room) a b X q
    (λ c d f. too_small a b S' D' less (least x zs T S D room a b e S' D' c d (ap (λ t. cond t (Err 38) (figures (run_of x zs T S' D' room))) w.0 ∙ f))))
