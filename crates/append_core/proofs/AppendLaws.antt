-- Laws of an append: one law for each way out.
use Prim.Native.Nat.{ℕ, ◌+◌, ◌≤◌, ◌<◌}
use mathlib.Core.Path.{◌≡◌}
use mathlib.Core.Bool.{true, false}
use mathlib.Core.List.{List}
use lib.IntN.{ℤ, nat_abs}
use lib.ListN.{set}
use borrow.Author.Tests.{lt-ltb, le-ltb}
use Rattle.signed.specs.Sign.{is_negative}
use Rattle.index_types.specs.declared.ListCounts.{ListCounts}
use Rattle.segment_id.specs.declared.Kind.{Kind}
use Rattle.index_types.specs.declared.HeadCounts.{HeadCounts}
use Rattle.index_types.specs.declared.RowEdition.{RowEdition}
use Rattle.std.specs.Prelude.{Ok, Err}
use Rattle.buffer_core.specs.Edition.{edition_of}
use Rattle.buffer_core.specs.Append.{Appending, appending, counts_of, spill_of, append_core}

-- ---- the ways out of an append

module _ (v : RowEdition) (kind : Kind) (parent : List ℕ) (h : HeadCounts) (number : ℤ) (c : ListCounts) (head : List ℤ) (staged : List ℕ) where
  pub append_11 : is_negative h.spills ≡ true → appending (Err 11) head staged ≡ append_core (edition_of v) kind parent h number c head staged
  unfolding append_core
  append_11 b = rw b

  module _ (b : is_negative h.spills ≡ false) where
    pub append_17 : is_negative number ≡ true → appending (Err 17) head staged ≡ append_core (edition_of v) kind parent h number c head staged
    unfolding append_core
    append_17 d = rw (b, d)

    module _ (d : is_negative number ≡ false) where
      pub append_end : h.len < 512 → (s : ℤ) (head' : List ℤ) → s ≡ h.spills → head' ≡ set head h.len number
          → appending (Ok (counts_of (h.len + 1) s, c)) head' staged ≡ append_core (edition_of v) kind parent h number c head staged
      unfolding append_core
      append_end k s head' e f = rw (b, d, lt-ltb h.len 512 k, e, f)

      pub append_spill : 512 ≤ h.len → (o : Appending) (n : ℕ) → n ≡ nat_abs h.spills → o ≡ spill_of (edition_of v) kind parent n number c head staged
          → o ≡ append_core (edition_of v) kind parent h number c head staged
      unfolding append_core
      append_spill k o n e f = rw (b, d, le-ltb h.len 512 k, ← e) f
