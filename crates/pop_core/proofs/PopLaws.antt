-- Laws of a pop: one for each way out.
use Prim.Native.Nat.{ℕ, ◌-◌, ◌≤◌, ◌<◌}
use mathlib.Core.Path.{◌≡◌}
use mathlib.Core.Bool.{true, false}
use mathlib.Core.List.{List}
use native.Mathlib.Omega.{arith}
use lib.IntN.{ℤ, nat_abs}
use mir.Syntax.{w32}
use mir.Val.{SFits}
use borrow.Author.Tests.{lt-ltb, le-ltb, eq-eqb, ne_eqb}
use Rattle.signed.specs.Sign.{is_negative}
use Rattle.segment_id.specs.declared.Kind.{Kind}
use Rattle.index_types.specs.declared.HeadCounts.{HeadCounts}
use Rattle.std.specs.Prelude.{Ok, Err}
use Rattle.index_types.specs.declared.RowEdition.{RowEdition}
use Rattle.buffer_core.specs.Edition.{edition_of}
use Rattle.buffer_core.specs.Append.{counts_of}
use Rattle.buffer_core.specs.Pop.{Popping, popping, Lists, last_of, without_last, unspill_of, pop_core}
use Rattle.buffer_core.proofs.HeadLaws.{spills_below}

-- ---- the ways out of a pop

module _ (ed : RowEdition) (kind : Kind) (parent : List ℕ) (h : HeadCounts) (b : Lists) (head : List ℤ) where
  pub pop_11 : is_negative h.spills ≡ true → popping (Err 11) head b.staged b.deleted ≡ pop_core (edition_of ed) kind parent h b head
  unfolding pop_core
  pop_11 k = rw k

  module _ (k : is_negative h.spills ≡ false) where
    pub pop_last : 0 < h.len → (v s : ℤ) (head' : List ℤ) → v ≡ last_of h.len head → s ≡ h.spills → head' ≡ without_last h.len head
        → popping (Ok (v, counts_of (h.len - 1) s, b.staged_counts, b.deleted_counts)) head' b.staged b.deleted
        ≡ pop_core (edition_of ed) kind parent h b head
    unfolding pop_core
    pop_last m v s head' p q r = rw (k, lt-ltb 0 h.len m, p, q, r)

    module _ (m : h.len ≤ 0) (n : ℕ) (e : n ≡ nat_abs h.spills) where
      pub pop_19 : n ≡ 0 → popping (Err 19) head b.staged b.deleted ≡ pop_core (edition_of ed) kind parent h b head
      unfolding pop_core
      pop_19 z = rw (k, le-ltb 0 h.len m, ← e, eq-eqb n 0 z)

      pub pop_row : (n ≡ 0 → ⊥) → (o : Popping) → o ≡ unspill_of (edition_of ed) kind parent (n - 1) b head → o ≡ pop_core (edition_of ed) kind parent h b head
      unfolding pop_core
      pop_row z o q = rw (k, le-ltb 0 h.len m, ← e, ne_eqb n 0 z) q

      pub rows_below : SFits w32 h.spills → n - 1 < 2147483648
      rows_below f = omega (arith, spills_below h.spills k f n e)
