-- A refused operation leaves the index as it was, whatever it holds: the definitions give back the places and bytes that they were given.
use mathlib.Core.Path.{◌≡◌, refl, ap, ◌∙◌, fun_ext}
use mathlib.Core.Bool.{true, false}
use mathlib.Core.List.{List}
use Prim.Native.Nat.{ℕ}
use lib.IntN.{ℤ}
use lib.ListN.{length}
use Rattle.std.specs.Prelude.{Ok, Err}
use Rattle.index_types.specs.Answers.{Appended}
use Rattle.index_types.specs.Answers.{Popped}
use Rattle.index_types.specs.Answers.{Flipped}
use Rattle.index_types.specs.Answers.{Flushed}
use Rattle.buffer_core.specs.declared.Direction.{Direction}
use Rattle.buffer_core.specs.declared.Direction.TheVariants.{Spend, Unspend}
use Rattle.buffer_core.specs.Edition.{Edition}
use Rattle.buffer_core.specs.Append.{appending}
use Rattle.buffer_core.specs.Pop.{popping}
use Rattle.buffer_core.specs.Flip.{flipping}
use Rattle.buffer_core.specs.Flush.{flushing}
use Rattle.buffer_core.proofs.RefusedLaws.{AppendSame, append_same, PopSame, pop_same, FlipSame, flip_same, FlushSame, flush_same}
use Rattle.ledger.specs.Ledger.{Parent, Series, boxes, series_dec, ite}
use Rattle.ledger.specs.Run.{Leaves, RefusalsLeave}
use Rattle.balance_laws.specs.Calls.{ids_of, amounts_of}
use Rattle.balance_laws.proofs.Laws.{change_leaves}
use Rattle.history.specs.Index.{Part, part, Index, index, kind_of, set_part, with_staged, after_append, after_pop, after_flip, after_flush, id_of, appending_to, popping_from, flipping_in, flushing_of, do_append, do_pop, do_flip, do_flush}
use Rattle.buffer_core.specs.Pop.{lists}
use Rattle.history.specs.Machine.{Borrowed}
use Rattle.history.specs.ForkUndo.{Places, index_machine}

-- a part set to what it was
same_part : (f : Series → Part) (ch d : Series) (w : Dec (ch ≡ d)) → ite w (f ch) (f d) ≡ f d
unfolding ite
same_part f ch d (yes e) = ap f e
same_part f ch d (no n) = refl

put_back : (b : Index) (ch : Series) → index (set_part b.parts ch (b.parts ch)) b.lists ≡ b
put_back b ch = ap (λ (f : Series → Part). index f b.lists) (fun_ext (λ d. same_part b.parts ch d (series_dec ch d)))

-- ---- from what a definition leaves to what the index is
module _ (b : Index) where
  -- the same head and the same lists, put back beside the counts that a refusal keeps
  abbrev put_anew : Series → List ℤ → (staged deleted : List ℕ) → Index
  put_anew ch head staged deleted =
      index (set_part b.parts ch (part (b.parts ch).head head))
      (lists b.lists.staged_counts staged b.lists.table_counts b.lists.table b.lists.deleted_counts deleted)

  anew : (ch : Series) {head : List ℤ} {staged deleted : List ℕ} → head ≡ (b.parts ch).places → staged ≡ b.lists.staged → deleted ≡ b.lists.deleted
      → put_anew ch head staged deleted ≡ b
  anew ch e f g = (λ i. put_anew ch (e i) (f i) (g i)) ∙ put_back b ch

  pub append_by : (ch : Series) (a : Appended) (head : List ℤ) (staged : List ℕ) → AppendSame (b.parts ch).places b.lists.staged (appending a head staged)
      → Leaves b (after_append b ch a head staged)
  append_by ch (Ok (h, c)) head staged same = tt
  append_by ch (Err code) head staged same = let e = same code refl in anew ch e.0 e.1 refl

  pub pop_by : (ch : Series) (a : Popped) (head : List ℤ) (staged deleted : List ℕ) → PopSame (b.parts ch).places b.lists (popping a head staged deleted)
      → Leaves b (after_pop b ch a head staged deleted)
  pop_by ch (Ok (n, h, c, d)) head staged deleted same = tt
  pop_by ch (Err code) head staged deleted same = let e = same code refl in anew ch e.0 e.1 e.2

  pub flip_by : (p : Parent) (a : Flipped) (head : List ℤ) (staged : List ℕ) → FlipSame (b.parts (boxes p)).places b.lists.staged (flipping a head staged)
      → Leaves b (after_flip b (boxes p) a head staged)
  flip_by p (Ok c) head staged same = tt
  flip_by p (Err code) head staged same = let e = same code refl in anew (boxes p) e.0 e.1 refl

  pub flush_by : (a : Flushed) (table staged deleted : List ℕ) → FlushSame b.lists (flushing a table staged deleted) → Leaves b (after_flush b a table staged deleted)
  flush_by (Ok (t, c, d)) table staged deleted same = tt
  flush_by (Err code) table staged deleted same =
      let e = same code refl in
      λ i. index b.parts (lists b.lists.staged_counts (e.1 i) b.lists.table_counts (e.0 i) b.lists.deleted_counts (e.2 i))

module _ (E : Edition) (ids : Parent → List ℕ) (b : Index) where
  pub append_leaves : (ch : Series) (n : ℤ) → Leaves b (do_append E ids b ch n)
  append_leaves ch n =
      let o = appending_to E ids b ch n in
      append_by b ch o.answer o.head o.staged
      (append_same E (b.parts ch).places b.lists.staged (kind_of ch) (id_of E ids ch) (b.parts ch).head n b.lists.staged_counts)

  pub pop_leaves : (ch : Series) → Leaves b (do_pop E ids b ch)
  pop_leaves ch =
      let o = popping_from E ids b ch in
      pop_by b ch o.answer o.head o.staged o.deleted
      (pop_same E (b.parts ch).places b.lists (kind_of ch) (id_of E ids ch) (b.parts ch).head)

  pub flip_leaves : (p : Parent) (d : Direction) (t : ℤ) → Leaves b (do_flip E ids d b p t)
  flip_leaves p d t =
      let o = flipping_in E ids d b p t in
      flip_by b p o.answer o.head o.staged
      (flip_same E d (ids p) (b.parts (boxes p)).head t b.lists.staged_counts b.lists.staged b.lists.table_counts b.lists.table (b.parts (boxes p)).places)

  pub flush_leaves : Leaves b (do_flush E ids b)
  flush_leaves =
      let o = flushing_of E ids b in
      flush_by b o.answer o.table o.staged o.deleted (flush_same E b.lists)

-- every operation of the theorem's machine
pub refusals_leave : (E : Edition) (ids : Parent → List ℕ) (B : Borrowed E) (s : Parent → Places) → RefusalsLeave (index_machine E ids B s)
refusals_leave E ids B s = record {
  appends = λ b ch n. append_leaves E ids b ch n;
  pops = λ b ch. pop_leaves E ids b ch;
  spends = λ b p t. flip_leaves E ids b p Spend t;
  unspends = λ b p t. flip_leaves E ids b p Unspend t;
  flushes = λ b. flush_leaves E ids b;
  credits = λ b n ts. change_leaves true b n (ids_of ts) (amounts_of ts) (length ts);
  debits = λ b n ts. change_leaves false b n (ids_of ts) (amounts_of ts) (length ts);
}
