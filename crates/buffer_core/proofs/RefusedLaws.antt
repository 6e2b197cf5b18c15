-- A refused call leaves what it borrows as it was: on each way to a refusal the definitions give back the places and bytes that they were given. Any edition.
use Prim.Native.Nat.{ℕ, ◌-◌}
use mathlib.Core.Path.{◌≡◌, refl}
use mathlib.Core.Bool.{Bool, true, false, cond}
use mathlib.Core.List.{List}
use native.Mathlib.Omega.{arith}
use lib.Dec.{eqb, leb, ltb}
use lib.IntN.{ℤ, pos, nat_abs}
use lib.ListN.{length, take}
use Rattle.signed.specs.Sign.{is_negative}
use Rattle.index_types.specs.declared.ListCounts.{ListCounts}
use Rattle.records.specs.Changes.{full_for}
use Rattle.segment_id.specs.declared.Kind.{Kind}
use Rattle.index_types.specs.declared.HeadCounts.{HeadCounts}
use Rattle.buffer_core.specs.declared.Direction.{Direction}
use Rattle.std.specs.Prelude.{Ok, Err}
use Rattle.index_types.specs.Answers.{Flipped}
use Rattle.buffer_core.specs.Edition.{Edition, RowRead, bad, good}
use Rattle.buffer_core.specs.Spills.{sources, spill_read}
use Rattle.buffer_core.specs.Append.{Appending, appending, spilled, spill_of, append_core, append_ok, append_of}
use Rattle.buffer_core.specs.Pop.{Popping, popping, Lists, merged, merge_of, unspill_of, pop_core, lists_ok, pop_ok, pop_of}
use Rattle.buffer_core.specs.Flip.{Flipping, flipping, Effect, refuse, flip_head, stage, done_by, flip_effect, flip_core, flip_ok, flip_of}
use Rattle.buffer_core.specs.Flush.{Flushing, flushing, new_keys, flushed as flushed_of, flush_core, flush_of}

-- what both branches have
pub both : {A : Type 0} (P : A → Type 0) (b : Bool) {x y : A} → P x → P y → P (cond b x y)
both P true p q = p
both P false p q = q

-- ---- what each call leaves where it is refused
abbrev pub AppendSame : List ℤ → List ℕ → Appending → Type 0
AppendSame head staged o = (code : ℕ) → o.answer ≡ Err code → (o.head ≡ head) × (o.staged ≡ staged)

abbrev pub PopSame : List ℤ → Lists → Popping → Type 0
PopSame head b o = (code : ℕ) → o.answer ≡ Err code → (o.head ≡ head) × (o.staged ≡ b.staged) × (o.deleted ≡ b.deleted)

abbrev pub FlipSame : List ℤ → List ℕ → Flipping → Type 0
FlipSame head staged o = (code : ℕ) → o.answer ≡ Err code → (o.head ≡ head) × (o.staged ≡ staged)

abbrev pub FlushSame : Lists → Flushing → Type 0
FlushSame b o = (code : ℕ) → o.answer ≡ Err code → (o.table ≡ b.table) × (o.staged ≡ b.staged) × (o.deleted ≡ b.deleted)

module _ (E : Edition) where
  -- ---- append
  module _ (head : List ℤ) (staged : List ℕ) where
    append_no : (k : ℕ) → AppendSame head staged (appending (Err k) head staged)
    append_no k code e = (refl, refl)

    append_yes : (h : HeadCounts) (c : ListCounts) (head' : List ℤ) (staged' : List ℕ) → AppendSame head staged (appending (Ok (h, c)) head' staged')
    append_yes h c head' staged' code e = let z : ◌≡◌ {A = ℕ} 0 1 = cc in absurd (omega arith)

    pub append_core_same : (kind : Kind) (parent : List ℕ) (h : HeadCounts) (z : ℤ) (c : ListCounts) → AppendSame head staged (append_core E kind parent h z c head staged)
    unfolding append_core spill_of spilled
    append_core_same kind parent h z c =
        both (AppendSame head staged) (is_negative h.spills) (append_no 11)
        (both (AppendSame head staged) (is_negative z) (append_no 17)
        (both (AppendSame head staged) (ltb h.len 512) (append_yes _ _ _ _)
        (both (AppendSame head staged) (leb 2147483647 (nat_abs h.spills)) (append_no 18)
        (both (AppendSame head staged) (full_for E.size c (E.key kind parent (pos (nat_abs h.spills))) staged) (append_no 16) (append_yes _ _ _ _)))))

    pub append_same : (kind : Kind) (parent : List ℕ) (h : HeadCounts) (z : ℤ) (c : ListCounts) → AppendSame head staged (append_of E kind parent h z c head staged)
    unfolding append_of
    append_same kind parent h z c = both (AppendSame head staged) (append_ok E h c head staged) (append_core_same kind parent h z c) (append_no 25)

  -- ---- pop
  module _ (head : List ℤ) (b : Lists) where
    pop_no : (k : ℕ) → PopSame head b (popping (Err k) head b.staged b.deleted)
    pop_no k code e = (refl, refl, refl)

    pop_yes : (z : ℤ) (h : HeadCounts) (c d : ListCounts) (head' : List ℤ) (staged' deleted' : List ℕ)
        → PopSame head b (popping (Ok (z, h, c, d)) head' staged' deleted')
    pop_yes z h c d head' staged' deleted' code e = let z : ◌≡◌ {A = ℕ} 0 1 = cc in absurd (omega arith)

    merge_same : (r : RowRead) (key : List ℕ) (spills : ℕ) → PopSame head b (merge_of E r key spills b head)
    unfolding merge_of merged
    merge_same (bad code) key spills = pop_no code
    merge_same (good zs) key spills =
        both (PopSame head b) (eqb (length zs) 0) (pop_no 20)
        (both (PopSame head b) (full_for 32 b.deleted_counts key b.deleted) (pop_no 21) (pop_yes _ _ _ _ _ _ _))

    pub pop_core_same : (kind : Kind) (parent : List ℕ) (h : HeadCounts) → PopSame head b (pop_core E kind parent h b head)
    unfolding pop_core unspill_of
    pop_core_same kind parent h =
        both (PopSame head b) (is_negative h.spills) (pop_no 11)
        (both (PopSame head b) (ltb 0 h.len) (pop_yes _ _ _ _ _ _ _)
        (both (PopSame head b) (eqb (nat_abs h.spills) 0) (pop_no 19) (merge_same _ _ (nat_abs h.spills - 1))))

    pub pop_same : (kind : Kind) (parent : List ℕ) (h : HeadCounts) → PopSame head b (pop_of E kind parent h b head)
    unfolding pop_of
    pop_same kind parent h = both (PopSame head b) (pop_ok E h b head) (pop_core_same kind parent h) (pop_no 25)

  -- ---- spend and unspend
  module _ (d : Direction) (parent : List ℕ) (h : HeadCounts) (target : ℤ) (c : ListCounts) (staged : List ℕ) (e : ListCounts) (table : List ℕ) (head : List ℤ) where
    flip_yes : (c' : ListCounts) (head' : List ℤ) (staged' : List ℕ) → FlipSame head staged (flipping (Ok c') head' staged')
    flip_yes c' head' staged' code q = let z : ◌≡◌ {A = ℕ} 0 1 = cc in absurd (omega arith)

    effect_same : (x : Effect) → FlipSame head staged (done_by E x c head staged)
    effect_same (refuse k) = λ code q. (refl, refl)
    effect_same (flip_head i) = flip_yes _ _ _
    effect_same (stage slot count key row) = flip_yes _ _ _

    pub flip_core_same : FlipSame head staged (flip_core E d parent h target c staged e table head)
    unfolding flip_core
    flip_core_same = effect_same (flip_effect E (sources parent staged c.count table e.count) c.capacity d target h.spills (take h.len head))

    pub flip_same : FlipSame head staged (flip_of E d parent h target c staged e table head)
    unfolding flip_of
    flip_same = both (FlipSame head staged) (flip_ok E h c staged e table head) flip_core_same (λ code q. (refl, refl))

  -- ---- flush
  module _ (b : Lists) where
    flush_yes : FlushSame b (flushed_of E b)
    unfolding flushed_of
    flush_yes code e = let z : ◌≡◌ {A = ℕ} 0 1 = cc in absurd (omega arith)

    pub flush_core_same : FlushSame b (flush_core E b)
    unfolding flush_core
    flush_core_same = both (FlushSame b) (leb (new_keys E b) (b.table_counts.capacity - b.table_counts.count)) flush_yes (λ code e. (refl, refl, refl))

    pub flush_same : FlushSame b (flush_of E b)
    unfolding flush_of
    flush_same = both (FlushSame b) (lists_ok E b) flush_core_same (λ code e. (refl, refl, refl))
