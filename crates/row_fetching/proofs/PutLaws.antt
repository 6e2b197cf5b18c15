-- A row of T put into W, from the laws of fetching.
use Prim.Native.Nat.{ℕ, ◌≤◌}
use mathlib.Core.Path.{◌≡◌, refl, sym, ap, subst, ◌∙◌}
use mathlib.Core.Bool.{Bool, true, false, cond, ◌&&◌}
use mathlib.Core.List.{List}
use native.Mathlib.Omega.{arith}
use borrow.Author.Tests.{le-leb, leb-true}
use lib.Dec.{leb}
use lib.ListN.{length}
use Rattle.index_types.specs.declared.ListCounts.{ListCounts}
use Rattle.index_types.specs.declared.RowEdition.{RowEdition}
use Rattle.records.specs.Changes.{full_for}
use Rattle.records.specs.Checks.{records_ok}
use Rattle.buffer_core.specs.Edition.{Edition, edition_of}
use Rattle.buffer_core.specs.Append.{counts_with, bytes_with}
use Rattle.working_set.specs.Part.{held, held_in, Part}
use Rattle.working_set.specs.Laws.{WorkingSet, Working}
use Rattle.working_set.proofs.WorkingSets.{working_sets}
use Rattle.std.specs.Prelude.{Ok, Err}
use Rattle.row_fetching.specs.Answers.{RowPut}
use Rattle.row_fetching.specs.Putting.{Putting, putting, put_of}
use Rattle.row_fetching.specs.Laws.{PutLaw, PutProgressLaw, PutRefusedLaw, RowFetching}

nope : {A : Type 0} → ◌≡◌ {A = ℕ} 0 1 → A
nope z = let e : ⊥ = omega arith in absurd e

abbrev answer_of : Putting → RowPut
answer_of x = x.answer

module _ (E : Edition) (key row : List ℕ) (wc : ListCounts) (work : List ℕ) where
  -- what an accepted put has tested, and what it leaves
  pub record Accepted (vc : ListCounts) (more : List ℕ) : Type 0 where
    pub short : length row ≤ E.limit
    pub roomy : full_for E.size wc key work ≡ false
    pub counts : counts_with E key wc work ≡ vc
    pub bytes : bytes_with E key row wc work ≡ more

  accepted : (vc : ListCounts) (more : List ℕ) → put_of E key row wc work ≡ putting (Ok vc) more → Accepted vc more
  unfolding put_of
  accepted vc more e = by_25 (records_ok E.size E.limit wc work) (leb (length row) E.limit) refl e
    where
      by_22 : (f : Bool) → full_for E.size wc key work ≡ f → length row ≤ E.limit
          → cond f (putting (Err 22) work) (putting (Ok (counts_with E key wc work)) (bytes_with E key row wc work)) ≡ putting (Ok vc) more → Accepted vc more
      by_22 true f l q = let a = ap answer_of q in nope (cc)
      by_22 false f l q = let a = ap answer_of q in record { short = l; roomy = f; counts = (cc); bytes = ap (λ (x : Putting). x.work) q }

      by_25 : (t l : Bool) → leb (length row) E.limit ≡ l
          → cond (t && l) (cond (full_for E.size wc key work) (putting (Err 22) work) (putting (Ok (counts_with E key wc work)) (bytes_with E key row wc work))) (putting (Err 25) work) ≡ putting (Ok vc) more
          → Accepted vc more
      by_25 true true l q = by_22 (full_for E.size wc key work) refl (leb-true (length row) E.limit l) q
      by_25 true false l q = let a = ap answer_of q in nope (cc)
      by_25 false m l q = let a = ap answer_of q in nope (cc)

module _ (E : Edition) (L : WorkingSet E) where
  put_law : PutLaw E
  put_law wc work tc table key row vc more w k h e =
      let a = accepted E key row wc work vc more e in
      subst (λ (y : List ℕ). Put wc work tc table key row vc y) a.bytes
      (subst (λ (x : ListCounts). Put wc work tc table key row x (bytes_with E key row wc work)) a.counts (L.fetches wc work tc table key row w k a.short h a.roomy))
    where
      Put : (wc : ListCounts) (work : List ℕ) (tc : ListCounts) (table key row : List ℕ) → ListCounts → List ℕ → Type 0
      Put wc work tc table key row x y = Working E x y tc table × (Part E wc work x y × (held_in E.size x.count y key ≡ held row))

  put_progress : PutProgressLaw E
  put_progress kind parent m staged wc work tc table row vc more ns n w k h e i l =
      let p = put_law wc work tc table _ row vc more w k h e in
      L.progress kind parent m staged wc work vc more ns n row p.1.0 i l p.1.1

  put_refused : PutRefusedLaw E
  unfolding put_of
  put_refused wc work tc table key row code more w l e =
      by_22 (full_for E.size wc key work) refl (rw (w.work_ok, le-leb (length row) E.limit l) at e)
    where
      by_22 : (f : Bool) → full_for E.size wc key work ≡ f
          → cond f (putting (Err 22) work) (putting (Ok (counts_with E key wc work)) (bytes_with E key row wc work)) ≡ putting (Err code) more
          → (code ≡ 22) × ((more ≡ work) × (full_for E.size wc key work ≡ true))
      by_22 true f q = let a = ap answer_of q in ((cc), (sym (ap (λ (x : Putting). x.work) q), f))
      by_22 false f q = let a = ap answer_of q in nope (cc)

pub row_fetching : (v : RowEdition) → RowFetching (edition_of v)
row_fetching v = record { puts = put_law (edition_of v) (working_sets v); progress = put_progress (edition_of v) (working_sets v); refusals = put_refused (edition_of v) (working_sets v) }
