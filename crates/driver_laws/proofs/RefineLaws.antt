-- Whatever a driver does in bytes leaves what its steps leave of the list.
use mathlib.Core.Path.{◌≡◌, refl, sym, ap, ◌∙◌, subst}
use mathlib.Core.Bool.{Bool, true, false, cond}
use mathlib.Core.List.{List, [], ◌∷◌}
use Prim.Native.Nat.{ℕ}
use Rattle.call_steps.specs.State.{State}
use Rattle.driver_core.specs.Bytes.{Journal}
use Rattle.driver_core.specs.Apply.{Undoing, undoing, at_mark, flushed, driver_ok, undos_flushed as undos_in_bytes, undo_of}
use Rattle.driver_laws.specs.Driver.{Driver, driver, do_steps}
use Rattle.driver_laws.specs.Operations.{undo_to_steps}
use Rattle.driver_laws.specs.Journal.{seen, Whole}
use Rattle.driver_laws.specs.Theorem.{Work, batch, undo_down, longer, Given, do_work, do_all, work_steps}
use Rattle.driver_laws.proofs.EntryLaws.{longer_whole}
use Rattle.driver_laws.proofs.ApplyLaws.{apply_refines}
use Rattle.driver_laws.proofs.JournalLaws.{undo_refines}
use Rattle.driver_laws.proofs.SettleLaws.{undo_to_left}

-- 25 leaves all as it is
undo_refused : (parents mark : ℕ) (s : State) (j : Journal) → driver_ok parents s j ≡ false → undo_of parents mark s j ≡ undoing s j 25
unfolding undo_of
undo_refused parents mark s j e = ap (λ (b : Bool). cond b (cond (at_mark mark j) (undoing s j 0) (undos_in_bytes parents mark j.count (flushed s j))) (undoing s j 25)) e

module _ (parents : ℕ) where
  abbrev pub see : Given → Driver
  see d = seen parents d.now d.kept

  abbrev pub Stays : Given → Type 0
  Stays d = Whole parents d.kept.count d.kept

  pub record Refines (d : Given) (w : Work) : Type 0 where
    pub same : see (do_work parents d w) ≡ do_steps (see d) (work_steps parents d w)
    pub whole : Stays (do_work parents d w)

  pub work_refines : (d : Given) (w : Work) → Stays d → Refines d w
  unfolding do_steps
  work_refines d (batch input answers numbers) v = let a = apply_refines parents input d.now d.kept answers numbers v in record { same = a.0; whole = a.1 }
  work_refines d (longer more) v = let a = longer_whole parents d.kept more v in record { same = ap (driver d.now) (sym a.same); whole = a.whole }
  work_refines d (undo_down mark) v = by (driver_ok parents d.now d.kept) refl
    where
      by : (t : Bool) → driver_ok parents d.now d.kept ≡ t → Refines d (undo_down mark)
      by true e =
          let a = undo_refines parents mark d.now d.kept e v in
          record {
            same = a.0 ∙ undo_to_left mark (see d) ∙ ap (λ (t : Bool). do_steps (see d) (cond t (undo_to_steps mark (see d)) [])) (sym e);
            whole = a.2;
          }
      by false e =
          let q = undo_refused parents mark d.now d.kept e in
          record {
            same = ap (λ (x : Undoing). seen parents x.now x.kept) q ∙ ap (λ (t : Bool). do_steps (see d) (cond t (undo_to_steps mark (see d)) [])) (sym e);
            whole = subst (λ (x : Undoing). Whole parents x.kept.count x.kept) (sym q) v;
          }

  pub all_whole : (ws : List Work) (d : Given) → Stays d → Stays (do_all parents d ws)
  unfolding do_all
  all_whole [] d v = v
  all_whole (w ∷ ws) d v = all_whole ws (do_work parents d w) (work_refines d w v).whole
