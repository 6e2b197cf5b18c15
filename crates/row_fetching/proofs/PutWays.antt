-- One law for each way out of `put_row`.
use Prim.Native.Nat.{ℕ, ◌+◌, ◌*◌, ◌<◌, ◌≤◌}
use mathlib.Core.Path.{◌≡◌, refl, ap, ◌∙◌}
use mathlib.Core.Bool.{true, false}
use mathlib.Core.List.{List}
use native.Mathlib.Omega.{arith}
use borrow.Author.Tests.{le-leb, lt-leb}
use lib.ListN.{length}
use Rattle.index_types.specs.declared.ListCounts.{ListCounts}
use Rattle.records.specs.Changes.{with_count, full_for, slot, count_after}
use Rattle.records.specs.Records.{keys}
use Rattle.records.specs.Find.{find_key}
use Rattle.records.specs.Checks.{records_ok, RecordsOk}
use Rattle.records.proofs.CheckLaws.{records_ok_facts}
use Rattle.records.proofs.PutLaws.{slot_room}
use Rattle.buffer_core.specs.Edition.{Edition}
use Rattle.buffer_core.specs.Append.{bytes_with}
use Rattle.std.specs.Prelude.{Ok, Err}
use Rattle.row_fetching.specs.Putting.{putting, put_of}

module _ (E : Edition) (key row : List ℕ) (c : ListCounts) (work : List ℕ) where
  pub put_25 : records_ok E.size E.limit c work ≡ false → putting (Err 25) work ≡ put_of E key row c work
  unfolding put_of
  put_25 t = rw t

  module _ (t : records_ok E.size E.limit c work ≡ true) where
    pub put_long : E.limit < length row → putting (Err 25) work ≡ put_of E key row c work
    unfolding put_of
    put_long l = rw (t, lt-leb (length row) E.limit l)

    module _ (l : length row ≤ E.limit) where
      pub put_22 : full_for E.size c key work ≡ true → putting (Err 22) work ≡ put_of E key row c work
      unfolding put_of
      put_22 f = rw (t, le-leb (length row) E.limit l, f)

      -- n and more are what the put left
      pub put_done : full_for E.size c key work ≡ false → (n : ℕ) → n ≡ count_after (find_key key (keys E.size c.count work)) c.count → (more : List ℕ) → more ≡ bytes_with E key row c work
          → putting (Ok (with_count n c)) more ≡ put_of E key row c work
      unfolding put_of
      put_done f n p more q = rw (t, le-leb (length row) E.limit l, f, p, q)

pub room : (E : Edition) (key : List ℕ) (c : ListCounts) (work : List ℕ) → records_ok E.size E.limit c work ≡ true → full_for E.size c key work ≡ false
    → (c.count * E.size ≤ length work) × (slot (find_key key (keys E.size c.count work)) c.count * E.size + E.size ≤ length work)
room E key c work t f =
    let ok = records_ok_facts E.size E.limit c work t in
    (ok.bounds.within, slot_room E.size c key work ok.bounds f)
