-- What an accepted append, pop or flush without a summary was: the tests it passed, and what it left.
use Prim.Native.Nat.{ℕ, ◌+◌, ◌-◌, ◌≤◌, ◌<◌}
use mathlib.Core.Path.{◌≡◌, refl}
use mathlib.Core.Bool.{Bool, true, false, cond}
use mathlib.Core.List.{List}
use native.Mathlib.Omega.{arith}
use lib.Dec.{ltb, leb, eqb}
use lib.IntN.{ℤ, pos, nat_abs}
use lib.ListN.{length, set}
use borrow.Author.Tests.{leb-true, leb-false, eqb-false}
use Rattle.signed.specs.Sign.{is_negative}
use Rattle.index_types.specs.declared.ListCounts.{ListCounts}
use Rattle.records.specs.Changes.{full_for}
use Rattle.segment_id.specs.declared.Kind.{Kind}
use Rattle.index_types.specs.declared.HeadCounts.{HeadCounts}
use Rattle.std.specs.Prelude.{Ok, Err}
use Rattle.index_types.specs.Answers.{Appended}
use Rattle.index_types.specs.Answers.{Popped}
use Rattle.index_types.specs.Answers.{Flushed}
use Rattle.buffer_core.specs.Edition.{Edition, RowRead, bad, good}
use Rattle.buffer_core.specs.Spills.{Sources, sources, spill_read}
use Rattle.buffer_core.specs.Append.{Appending, appending, counts_of, spilled, spill_of, append_core, append_ok, append_of}
use Rattle.buffer_core.specs.Pop.{Popping, popping, Lists, last_of, without_last, merged, merge_of, unspill_of, pop_core, pop_ok, lists_ok, pop_of}
use Rattle.buffer_core.specs.Flush.{flushing, new_keys, flush_core, flush_of}
use Rattle.buffer_core.specs.Flush as Fl

abbrev pub IsAppended : Appended → Type 0
IsAppended (Ok (h, c)) = Unit {0}
IsAppended (Err code) = ⊥

abbrev pub IsPopped : Popped → Type 0
IsPopped (Ok (n, h, c, d)) = Unit {0}
IsPopped (Err code) = ⊥

abbrev pub IsFlushed : Flushed → Type 0
IsFlushed (Ok (t, c, d)) = Unit {0}
IsFlushed (Err code) = ⊥

-- ---- an append
module _ (E : Edition) (kind : Kind) (parent : List ℕ) (h : HeadCounts) (number : ℤ) (c : ListCounts) (head : List ℤ) (staged : List ℕ) where
  abbrev k : ℕ
  k = nat_abs h.spills

  abbrev key : List ℕ
  key = E.key kind parent (pos k)

  abbrev longer : Appending
  longer = appending (Ok (counts_of (h.len + 1) h.spills, c)) (set head h.len number) staged

  -- it went to the end of the head, or the head became a row
  pub data AppendCase (o : Appending) : Type 0 where
    grew : ltb h.len 512 ≡ true → o ≡ longer → AppendCase o
    spilt : ltb h.len 512 ≡ false → k < 2147483647 → full_for E.size c key staged ≡ false → o ≡ spilled E kind key parent k number c head staged → AppendCase o

  pub record AppendTook (o : Appending) : Type 0 where
    pub fits : append_ok E h c head staged ≡ true
    pub not_below : is_negative h.spills ≡ false
    pub positive : is_negative number ≡ false
    pub kind_of_append : AppendCase o

  pub core_took : append_ok E h c head staged ≡ true → IsAppended (append_core E kind parent h number c head staged).answer → AppendTook (append_core E kind parent h number c head staged)
  unfolding append_core spill_of
  core_took ok = by_sign (is_negative h.spills) refl (is_negative number) refl (ltb h.len 512) refl (leb 2147483647 k) refl (full_for E.size c key staged) refl
    where
      by_sign : (a : Bool) → is_negative h.spills ≡ a → (b : Bool) → is_negative number ≡ b → (d : Bool) → ltb h.len 512 ≡ d → (e : Bool) → leb 2147483647 k ≡ e
          → (f : Bool) → full_for E.size c key staged ≡ f
          → IsAppended (cond a (appending (Err 11) head staged) (cond b (appending (Err 17) head staged) (cond d longer
          (cond e (appending (Err 18) head staged) (cond f (appending (Err 16) head staged) (spilled E kind key parent k number c head staged)))))).answer
          → AppendTook (cond a (appending (Err 11) head staged) (cond b (appending (Err 17) head staged) (cond d longer
          (cond e (appending (Err 18) head staged) (cond f (appending (Err 16) head staged) (spilled E kind key parent k number c head staged))))))
      by_sign true p b q d r e s f t x = absurd x
      by_sign false p true q d r e s f t x = absurd x
      by_sign false p false q true r e s f t x = record { fits = ok; not_below = p; positive = q; kind_of_append = grew r refl }
      by_sign false p false q false r true s f t x = absurd x
      by_sign false p false q false r false s true t x = absurd x
      by_sign false p false q false r false s false t x = record { fits = ok; not_below = p; positive = q; kind_of_append = spilt r (leb-false 2147483647 k s) t refl }

  pub append_took : IsAppended (append_of E kind parent h number c head staged).answer → AppendTook (append_of E kind parent h number c head staged)
  unfolding append_of
  append_took = by_ok (append_ok E h c head staged) refl
    where
      by_ok : (x : Bool) → append_ok E h c head staged ≡ x → IsAppended (cond x (append_core E kind parent h number c head staged) (appending (Err 25) head staged)).answer
          → AppendTook (cond x (append_core E kind parent h number c head staged) (appending (Err 25) head staged))
      by_ok true a y = core_took a y
      by_ok false a y = absurd y

-- ---- a pop
module _ (E : Edition) (kind : Kind) (parent : List ℕ) (h : HeadCounts) (b : Lists) (head : List ℤ) where
  abbrev n : ℕ
  n = nat_abs h.spills

  abbrev w : Sources
  w = sources parent b.staged b.staged_counts.count b.table b.table_counts.count

  abbrev no_pop : ℕ → Popping
  no_pop code = popping (Err code) head b.staged b.deleted

  abbrev shorter : Popping
  shorter = popping (Ok (last_of h.len head, counts_of (h.len - 1) h.spills, b.staged_counts, b.deleted_counts)) (without_last h.len head) b.staged b.deleted

  -- it took the last of the head, or of the newest row, which became the head
  pub data PopCase (o : Popping) : Type 0 where
    took : ltb 0 h.len ≡ true → o ≡ shorter → PopCase o
    merged_back : ltb 0 h.len ≡ false → 0 < n → (zs : List ℤ) → spill_read E kind w (n - 1) ≡ good zs → o ≡ merged E (E.key kind parent (pos (n - 1))) (n - 1) zs b head → PopCase o

  pub record PopTook (o : Popping) : Type 0 where
    pub fits : pop_ok E h b head ≡ true
    pub not_below : is_negative h.spills ≡ false
    pub kind_of_pop : PopCase o

  merge_took : ltb 0 h.len ≡ false → 0 < n → (r : RowRead) → spill_read E kind w (n - 1) ≡ r → IsPopped (merge_of E r (E.key kind parent (pos (n - 1))) (n - 1) b head).answer
      → PopCase (merge_of E r (E.key kind parent (pos (n - 1))) (n - 1) b head)
  unfolding merge_of
  merge_took l g (bad code) e x = absurd x
  merge_took l g (good zs) e x = by_tests (eqb (length zs) 0) (full_for 32 b.deleted_counts (E.key kind parent (pos (n - 1))) b.deleted) x
    where
      by_tests : (u v : Bool) → IsPopped (cond u (no_pop 20) (cond v (no_pop 21) (merged E (E.key kind parent (pos (n - 1))) (n - 1) zs b head))).answer
          → PopCase (cond u (no_pop 20) (cond v (no_pop 21) (merged E (E.key kind parent (pos (n - 1))) (n - 1) zs b head)))
      by_tests true v x = absurd x
      by_tests false true x = absurd x
      by_tests false false x = merged_back l g zs e refl

  pop_core_took : pop_ok E h b head ≡ true → IsPopped (pop_core E kind parent h b head).answer → PopTook (pop_core E kind parent h b head)
  unfolding pop_core unspill_of
  pop_core_took ok = by_sign (is_negative h.spills) refl (ltb 0 h.len) refl (eqb n 0) refl
    where
      by_sign : (x : Bool) → is_negative h.spills ≡ x → (y : Bool) → ltb 0 h.len ≡ y → (z : Bool) → eqb n 0 ≡ z
          → IsPopped (cond x (no_pop 11) (cond y shorter (cond z (no_pop 19) (merge_of E (spill_read E kind w (n - 1)) (E.key kind parent (pos (n - 1))) (n - 1) b head)))).answer
          → PopTook (cond x (no_pop 11) (cond y shorter (cond z (no_pop 19) (merge_of E (spill_read E kind w (n - 1)) (E.key kind parent (pos (n - 1))) (n - 1) b head))))
      by_sign true p y q z r x = absurd x
      by_sign false p true q z r x = record { fits = ok; not_below = p; kind_of_pop = took q refl }
      by_sign false p false q true r x = absurd x
      by_sign false p false q false r x = record { fits = ok; not_below = p; kind_of_pop = merge_took q (omega (arith, eqb-false n 0 r)) (spill_read E kind w (n - 1)) refl x }

  pub pop_took : IsPopped (pop_of E kind parent h b head).answer → PopTook (pop_of E kind parent h b head)
  unfolding pop_of
  pop_took = by_ok (pop_ok E h b head) refl
    where
      by_ok : (x : Bool) → pop_ok E h b head ≡ x → IsPopped (cond x (pop_core E kind parent h b head) (no_pop 25)).answer → PopTook (cond x (pop_core E kind parent h b head) (no_pop 25))
      by_ok true a y = pop_core_took a y
      by_ok false a y = absurd y

-- ---- a flush
pub record FlushTook (E : Edition) (b : Lists) : Type 0 where
  pub fits : lists_ok E b ≡ true
  pub room : new_keys E b ≤ b.table_counts.capacity - b.table_counts.count
  pub result : flush_of E b ≡ Fl.flushed E b

pub flush_took : (E : Edition) (b : Lists) → IsFlushed (flush_of E b).answer → FlushTook E b
unfolding flush_of flush_core
flush_took E b = by_ok (lists_ok E b) refl (leb (new_keys E b) (b.table_counts.capacity - b.table_counts.count)) refl
  where
    by_ok : (x : Bool) → lists_ok E b ≡ x → (y : Bool) → leb (new_keys E b) (b.table_counts.capacity - b.table_counts.count) ≡ y
        → IsFlushed (cond x (cond y (Fl.flushed E b) (flushing (Err 22) b.table b.staged b.deleted)) (flushing (Err 25) b.table b.staged b.deleted)).answer
        → FlushTook E b
    by_ok true a true r x = record { fits = a; room = leb-true (new_keys E b) (b.table_counts.capacity - b.table_counts.count) r; result = rw (a, r) }
    by_ok true a false r x = absurd x
    by_ok false a y r x = absurd x
