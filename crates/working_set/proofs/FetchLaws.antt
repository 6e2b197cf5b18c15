-- Fetching a row of T into W: W stays a part of T, and fewer of the rows that a call reads are missing.
use Prim.Native.Nat.{ℕ, ◌+◌, ◌≤◌, ◌<◌}
use mathlib.Core.Path.{◌≡◌, refl, sym, ap, ◌∙◌}
use mathlib.Core.Bool.{Bool, true, false}
use mathlib.Core.List.{List}
use native.Mathlib.Omega.{arith}
use lib.ListN.{length}
use lib.IntN.{pos}
use Rattle.stores.specs.Equal.{same_bytes}
use Rattle.stores.proofs.EqualLaws.{same_true}
use Rattle.std.specs.Prelude.{Option, Some, None}
use Rattle.index_types.specs.declared.ListCounts.{ListCounts}
use Rattle.records.specs.Records.{keys, record_of}
use Rattle.records.specs.Find.{find_key, row_at, place_of}
use Rattle.records.specs.Changes.{full_for}
use Rattle.records.specs.Checks.{RecordsOk}
use Rattle.records.proofs.KeyLaws.{differ}
use Rattle.records.proofs.Views.{found_row}
use Rattle.records.proofs.RecordLaws.{record_length, record_key, record_row}
use Rattle.records.proofs.PutLaws.{slot_room, find_after_put, find_other_after_put, row_after_put, row_other_after_put}
use Rattle.records.proofs.CheckLaws.{records_ok_facts, records_ok_test, records_ok_after_put}
use Rattle.buffer_core.specs.Edition.{Edition}
use Rattle.buffer_core.specs.Spills.{sources, place_at}
use Rattle.buffer_core.specs.Append.{counts_with, bytes_with}
use Rattle.ledger.specs.Ledger.{Parent}
use Rattle.history.specs.EditionLaws.{EditionLaws}
use Rattle.working_set.specs.Part.{held, held_by, held_in, is_missing, lacks}
use Rattle.working_set.specs.Laws.{FetchLaw, ProgressLaw}
use Rattle.working_set.proofs.Outcomes.{count_falls}
use Rattle.working_set.proofs.Places.{absent_held}

-- ---- what a list shows, by the row under a key
held_row : (size : ℕ) (l : List ℕ) (f : Option ℕ) (row : List ℕ) → held_by size l f ≡ held row → found_row size l f ≡ row
held_row size l (Some i) row e = cc
held_row size l None row e = absurd (absent_held refl e)

row_held : (size : ℕ) (l : List ℕ) (f g : Option ℕ) (i : ℕ) (row : List ℕ) → f ≡ Some i → found_row size l f ≡ row → held_by size l f ≡ held row
row_held size l (Some j) g i row e h = ap held h
row_held size l None g i row e h = let z : ◌≡◌ {A = ℕ} 0 1 = cc in absurd (omega arith)

held_same : (size : ℕ) (l k : List ℕ) (f g : Option ℕ) → f ≡ g → found_row size l f ≡ found_row size k g → held_by size l f ≡ held_by size k g
held_same size l k (Some i) (Some j) e h = ap held h
held_same size l k (Some i) None e h = let z : ◌≡◌ {A = ℕ} 0 1 = cc in absurd (omega arith)
held_same size l k None (Some j) e h = let z : ◌≡◌ {A = ℕ} 0 1 = cc in absurd (omega arith)
held_same size l k None None e h = refl

module _ (E : Edition) (ids : Parent → List ℕ) (L : EditionLaws E ids) where
  -- ---- a row put into a list
  module _ (c : ListCounts) (l key row : List ℕ) (ok : RecordsOk E.size E.limit c l) (k : length key ≡ 32) (r : length row ≤ E.limit) (f : full_for E.size c key l ≡ false) where
    fits : 34 + length row ≤ E.size
    fits = omega (arith, L.wide)

    small : length row < 65536
    small = omega (arith, L.wide, L.short)

    abbrev rec : List ℕ
    rec = record_of E.size key row

    pub put_shows : held_in E.size (counts_with E key c l).count (bytes_with E key row c l) key ≡ held row
    unfolding held_in
    put_shows =
        row_held E.size (bytes_with E key row c l) _ None _ row
        (find_after_put E.size c.count key rec l (record_length E.size key row k fits) (record_key E.size key row k) ok.bounds.within (slot_room E.size c key l ok.bounds f))
        (row_after_put E.size c.count key rec l (record_length E.size key row k fits) (record_key E.size key row k) ok.bounds.within (slot_room E.size c key l ok.bounds f)
        ∙ record_row E.size key row k small)

    pub put_leaves : (other : List ℕ) → (key ≡ other → ⊥)
        → held_in E.size (counts_with E key c l).count (bytes_with E key row c l) other ≡ held_in E.size c.count l other
    unfolding held_in
    put_leaves other ne =
        held_same E.size (bytes_with E key row c l) l _ _
        (find_other_after_put E.size c.count key rec l (record_length E.size key row k fits) (record_key E.size key row k) ok.bounds.within (slot_room E.size c key l ok.bounds f) other ne)
        (row_other_after_put E.size c.count key rec l (record_length E.size key row k fits) (record_key E.size key row k) ok.bounds.within (slot_room E.size c key l ok.bounds f) other ne)

    pub put_ok : RecordsOk E.size E.limit (counts_with E key c l) (bytes_with E key row c l)
    put_ok = records_ok_after_put E.size E.limit c key row l k fits r small f ok

  pub fetch_law : FetchLaw E
  fetch_law wc work tc table key row t k r h f = (
    record { work_ok = records_ok_test _ _ _ _ (put_ok wc work key row ok k r f); table_ok = t.table_ok; part = λ other x e. by_key other x e (same_bytes key other) refl },
    ((λ other x e. kept other x e (same_bytes key other) refl), put_shows wc work key row ok k r f),
  )
    where
      ok : RecordsOk E.size E.limit wc work
      ok = records_ok_facts E.size E.limit wc work t.work_ok

      by_key : (other x : List ℕ) → held_in E.size (counts_with E key wc work).count (bytes_with E key row wc work) other ≡ held x
          → (b : Bool) → same_bytes key other ≡ b → held_in E.size tc.count table other ≡ held x
      by_key other x e true b =
          let q = same_true key other b in
          let s = put_shows wc work key row (records_ok_facts E.size E.limit wc work t.work_ok) k r f in
          rw (← q) (h ∙ sym s ∙ (rw (← q) at e))
      by_key other x e false b =
          t.part other x (sym (put_leaves wc work key row (records_ok_facts E.size E.limit wc work t.work_ok) k r f other (differ key other b)) ∙ e)

      kept : (other x : List ℕ) → held_in E.size wc.count work other ≡ held x
          → (b : Bool) → same_bytes key other ≡ b → held_in E.size (counts_with E key wc work).count (bytes_with E key row wc work) other ≡ held x
      kept other x e true b =
          let q = same_true key other b in
          let s = put_shows wc work key row (records_ok_facts E.size E.limit wc work t.work_ok) k r f in
          let u = t.part key x (rw (← q) at e) in
          rw (← q) (s ∙ sym h ∙ u)
      kept other x e false b =
          put_leaves wc work key row (records_ok_facts E.size E.limit wc work t.work_ok) k r f other (differ key other b) ∙ e

-- ---- the measure
module _ (E : Edition) where
  there : (size : ℕ) (l : List ℕ) (f g : Option ℕ) (row : List ℕ) → held_by size l g ≡ held row → is_missing (place_of f g) ≡ false
  there size l (Some i) g row e = refl
  there size l None (Some j) row e = refl
  there size l None None row e = absurd (absent_held refl e)

  lacks_less : (size : ℕ) (work more : List ℕ) (f g j : Option ℕ) → ((row : List ℕ) → held_by size work g ≡ held row → held_by size more j ≡ held row)
      → is_missing (place_of f g) ≡ false → is_missing (place_of f j) ≡ false
  lacks_less size work more (Some i) g j p e = refl
  lacks_less size work more None (Some i) j p e = there size more None j (row_at size i work) (p (row_at size i work) refl)
  lacks_less size work more None None j p e = let z : ◌≡◌ {A = ℕ} 0 1 = cc in absurd (omega arith)

  pub progress_law : ProgressLaw E
  unfolding place_at held_in
  progress_law kind parent m staged wc work vc more ns n row part i h e =
      count_falls (lacks E kind (sources parent staged m work wc.count)) (lacks E kind (sources parent staged m more vc.count))
      (λ k. lacks_less E.size work more (find_key (E.key kind parent (pos k)) (keys E.size m staged)) (find_key (E.key kind parent (pos k)) (keys E.size wc.count work))
      (find_key (E.key kind parent (pos k)) (keys E.size vc.count more)) (part (E.key kind parent (pos k))))
      ns n i h
      (there E.size more (find_key (E.key kind parent (pos n)) (keys E.size m staged)) (find_key (E.key kind parent (pos n)) (keys E.size vc.count more)) row e)
