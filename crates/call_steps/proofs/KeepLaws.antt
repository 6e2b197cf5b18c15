-- Every call keeps what refusal 25 tests of the state, so that one test before the calls is enough.
use Prim.Native.Nat.{ℕ, zero, suc, ◌+◌, ◌*◌, ◌-◌, ◌≤◌, ◌<◌}
use mathlib.Core.Path.{◌≡◌, refl, sym, ap, ◌∙◌, subst}
use mathlib.Core.Logic.{◌≢◌}
use mathlib.Core.Bool.{Bool, true, false, cond, ◌&&◌}
use mathlib.Core.List.{List, [], ◌∷◌, ◌++◌}
use native.Mathlib.Omega.{arith}
use native.Mathlib.Decide.{ℕ_discrete}
use lib.Dec.{leb}
use lib.IntN.{ℤ, pos}
use lib.ListN.{length, take, drop, set, get_or, replicate, length-append, length-drop, length-set}
use lib.Seq.{length-take-le, get_or-set_same, get_or-set_other, drop-drop}
use borrow.Author.Tests.{le-leb, leb-true}
use borrow.Rule.Slice.PartMut.{put_mid}
use Rattle.stores.specs.Stores.{write}
use Rattle.stores.proofs.StoreLaws.{length_part}
use Rattle.segment_id.specs.declared.Kind.{Kind}
use Rattle.segment_id.specs.declared.Kind.TheVariants.{Box, Tx}
use Rattle.records.specs.Checks.{records_ok, keys_ok}
use Rattle.records.proofs.CheckLaws.{and_left, and_right, and_true}
use Rattle.index_types.specs.declared.RowEdition.TheVariants.{One}
use Rattle.buffer_core.specs.Edition.{edition_1}
use Rattle.buffer_core.specs.Spills.{head_ok}
use Rattle.std.specs.Prelude.{Ok, Err}
use Rattle.index_types.specs.Answers.{Appended}
use Rattle.buffer_core.specs.Append.{Appending, appending, append_ok, append_core, append_of}
use Rattle.append_core.proofs.KeepLaws.{AppendKept, append_keeps}
use Rattle.buffer_core.specs.declared.Direction.{Direction}
use Rattle.index_types.specs.Answers.{Popped}
use Rattle.index_types.specs.Answers.{Flipped}
use Rattle.index_types.specs.Answers.{Flushed}
use Rattle.buffer_core.specs.Pop.{Popping, popping, Lists, lists, lists_ok, pop_ok, pop_core, pop_of}
use Rattle.buffer_core.specs.Flush.{Flushing, flushing, flush_core, flush_of}
use Rattle.pop_core.proofs.KeepLaws.{PopKept, pop_keeps}
use Rattle.flip_core.proofs.KeepLaws.{flip_keeps, flip_refused}
use Rattle.flush_core.proofs.KeepLaws.{flush_keeps}
use Rattle.balance.specs.Boxes.{change_box}
use Rattle.calls.specs.declared.Call.{Call}
use Rattle.calls.specs.declared.Call.TheVariants.{Append, Flip, Pop, Flush, Change, Bad, Cut, End}
use Rattle.calls.specs.Calls.{Among}
use Rattle.buffer_core.specs.Flip.{Flipping, flipping, flip_ok, flip_core, flip_of}
use Rattle.buffer_core.proofs.HeadLaws.{HeadOk, head_facts, head_test}
use Rattle.call_steps.specs.State.{State, parent_id, kind_number, head_at, length_at, head_counts, head_of, with_head, balance_of, Blocks, Within, Ready}
use Rattle.call_steps.specs.Steps.{counts_in, appended_by, append_by, of_append, popped_by, pop_by, of_pop, flipped_by, flip_by, of_flip, flushed_by, flush_by, of_flush, change_of, of_change, step_of, StepReady}
use Rattle.call_steps.proofs.StateLaws.{kind_few}
use Rattle.call_steps.proofs.StepLaws.{chosen}
use Rattle.buffer_core.proofs.RefusedLaws.{AppendSame, append_core_same, PopSame, pop_core_same, flush_core_same}

-- ---- lengths

-- a part put back makes no list shorter
put_grows : {A : Type 0} (a : ℕ) (xs ys : List A) → a + 512 ≤ length xs → 512 ≤ length ys → length xs ≤ length (put_mid a 512 xs ys)
put_grows a xs ys h g =
    omega (arith, length-append (take a xs) (ys ++ drop 512 (drop a xs)), length-append ys (drop 512 (drop a xs)), length-take-le a xs (omega arith), length-drop 512 (drop a xs), length-drop a xs)

-- nor does a write within it
write_grows : {A : Type 0} (at : ℕ) (s l : List A) → at ≤ length l → length l ≤ length (write at s l)
unfolding write
write_grows at s l h =
    omega (arith, length-append (take at l ++ s) (drop (at + length s) l), length-append (take at l) s, length-take-le at l h, length-drop (at + length s) l)

-- a head's length at or below 512 takes its place among such
set_few : (l : List ℕ) (i v : ℕ) → v ≤ 512 → (j : ℕ) → get_or l j 0 ≤ 512 → get_or (set l i v) j 0 ≤ 512
set_few [] i v h j g = g
set_few (x ∷ xs) zero v h zero g = h
set_few (x ∷ xs) zero v h (suc j) g = g
set_few (x ∷ xs) (suc i) v h zero g = g
set_few (x ∷ xs) (suc i) v h (suc j) g = set_few xs i v h j g

-- ---- what the test gives

module _ (b : Lists) where
  abbrev StagedOk : Type 0
  StagedOk = records_ok 10288 10254 b.staged_counts b.staged ≡ true

  abbrev TableOk : Type 0
  TableOk = records_ok 10288 10254 b.table_counts b.table ≡ true

  abbrev DeletedOk : Type 0
  DeletedOk = keys_ok b.deleted_counts b.deleted ≡ true

  listing : StagedOk → TableOk → DeletedOk → lists_ok edition_1 b ≡ true
  unfolding lists_ok
  listing x y z = and_true _ _ x (and_true _ _ y z)

  module _ (ok : lists_ok edition_1 b ≡ true) where
    staged_ok : StagedOk
    unfolding lists_ok
    staged_ok = and_left _ _ ok

    table_ok : TableOk
    unfolding lists_ok
    table_ok = and_left _ _ (and_right (records_ok 10288 10254 b.staged_counts b.staged) _ ok)

    deleted_ok : DeletedOk
    unfolding lists_ok
    deleted_ok = and_right (records_ok 10288 10254 b.table_counts b.table) _ (and_right (records_ok 10288 10254 b.staged_counts b.staged) _ ok)

module _ (parents : ℕ) (s : State) (r : Ready parents s) (p : ℕ) (h : p < parents) where
  pub within : Within p s.ids s.numbers s.lengths s.spills
  within =
      record {
        ids_in = omega (arith, r.blocks.ids_in);
        numbers_in = omega (arith, r.blocks.numbers_in);
        lengths_in = omega (arith, r.blocks.lengths_in);
        spills_in = omega (arith, r.blocks.spills_in);
      }

  pub id_long : length (parent_id p s.ids) ≡ 32
  id_long = length_part (p * 4128) 32 s.ids (omega (arith, within.ids_in))

  head_room : (k : Kind) → head_at k p + 512 ≤ length s.numbers
  head_room k = omega (arith, within.numbers_in, kind_few k)

  head_long : (k : Kind) → length (head_of k p s.numbers) ≡ 512
  head_long k = length_part (head_at k p) 512 s.numbers (head_room k)

  headed : (k : Kind) → head_ok (head_counts k p s.lengths s.spills) (head_of k p s.numbers) ≡ true
  headed k =
      let long : 512 ≤ length (head_of k p s.numbers) = omega (arith, head_long k) in
      head_test (head_counts k p s.lengths s.spills) (head_of k p s.numbers) (record { few = r.few p h k; long = long })

  pub append_passes : (k : Kind)
      → append_ok edition_1 (head_counts k p s.lengths s.spills) s.lists.staged_counts (head_of k p s.numbers) s.lists.staged ≡ true
  unfolding append_ok
  append_passes k = and_true _ _ (headed k) (staged_ok s.lists r.listed)

  pub flip_passes : flip_ok edition_1 (head_counts Box p s.lengths s.spills) s.lists.staged_counts s.lists.staged s.lists.table_counts s.lists.table (head_of Box p s.numbers) ≡ true
  unfolding flip_ok
  flip_passes = and_true _ _ (headed Box) (and_true _ _ (staged_ok s.lists r.listed) (table_ok s.lists r.listed))

  pub pop_passes : (k : Kind) → pop_ok edition_1 (head_counts k p s.lengths s.spills) s.lists (head_of k p s.numbers) ≡ true
  unfolding pop_ok
  pop_passes k = and_true _ _ (headed k) r.listed

  -- ---- the state after a call: numbers with a head of 512 places at least put back
  blocks_with : (k : Kind) (head : List ℤ) (lengths : List ℕ) (spills : List ℤ) → 512 ≤ length head → length lengths ≡ length s.lengths
      → length spills ≡ length s.spills → Blocks parents s.ids (with_head k p head s.numbers) lengths spills
  blocks_with k head lengths spills long e f =
      record {
        ids_in = r.blocks.ids_in;
        numbers_in = omega (arith, r.blocks.numbers_in, put_grows (head_at k p) s.numbers head (head_room k) long);
        lengths_in = omega (arith, r.blocks.lengths_in);
        spills_in = omega (arith, r.blocks.spills_in);
      }

  -- ---- append
  module _ (k : Kind) where
    abbrev Appended·kept : Appending → Type 0
    Appended·kept o = Ready parents (of_append (appended_by o k p (counts_in s.lists) s.numbers s.lengths s.spills) s).after

    append_by_answer : (a : Appended) (head : List ℤ) (staged : List ℕ) → AppendKept One (appending a head staged)
        → AppendSame (head_of k p s.numbers) s.lists.staged (appending a head staged) → Appended·kept (appending a head staged)
    unfolding append_ok
    append_by_answer (Ok (n, c)) head staged kept same =
        let t = kept n c refl in
        let g = head_facts n head (and_left (head_ok n head) _ t) in
        record {
          blocks = blocks_with k head _ _ g.long (length-set s.lengths _ _) (length-set s.spills _ _);
          few = λ q i j. set_few s.lengths (length_at k p) n.len g.few (length_at j q) (r.few q i j);
          listed = listing _ (and_right (head_ok n head) _ t) (table_ok s.lists r.listed) (deleted_ok s.lists r.listed);
        }
    append_by_answer (Err code) head staged kept same =
        let e = same code refl in
        record {
          blocks = blocks_with k head _ _ (omega (arith, head_long k, ap length e.0)) refl refl;
          few = r.few;
          listed = listing _ (rw e.1 (staged_ok s.lists r.listed)) (table_ok s.lists r.listed) (deleted_ok s.lists r.listed);
        }

    pub append_kept : (z : ℤ)
        → Ready parents (of_append (append_by edition_1 k p z s.ids s.numbers s.lengths s.spills s.lists.staged (counts_in s.lists)) s).after
    unfolding append_by append_of
    append_kept z =
        let n = head_counts k p s.lengths s.spills in
        let head = head_of k p s.numbers in
        let o = append_core edition_1 k (parent_id p s.ids) n z s.lists.staged_counts head s.lists.staged in
        subst Appended·kept (chosen _ _ _ (append_passes k))
        (append_by_answer o.answer o.head o.staged (append_keeps One k (parent_id p s.ids) id_long n z s.lists.staged_counts head s.lists.staged (append_passes k))
        (append_core_same edition_1 head s.lists.staged k (parent_id p s.ids) n z s.lists.staged_counts))

    -- ---- pop
    abbrev Popped·kept : Popping → Type 0
    Popped·kept o = Ready parents (of_pop (popped_by o k p (counts_in s.lists) s.numbers s.lengths s.spills) s).after

    pop_by_answer : (a : Popped) (head : List ℤ) (staged deleted : List ℕ) → PopKept One s.lists (popping a head staged deleted)
        → PopSame (head_of k p s.numbers) s.lists (popping a head staged deleted) → Popped·kept (popping a head staged deleted)
    unfolding pop_ok
    pop_by_answer (Ok (v, n, c, e)) head staged deleted kept same =
        let t = kept v n c e refl in
        let g = head_facts n head (and_left (head_ok n head) _ t) in
        record {
          blocks = blocks_with k head _ _ g.long (length-set s.lengths _ _) (length-set s.spills _ _);
          few = λ q i j. set_few s.lengths (length_at k p) n.len g.few (length_at j q) (r.few q i j);
          listed = and_right (head_ok n head) _ t;
        }
    pop_by_answer (Err code) head staged deleted kept same =
        let e = same code refl in
        record {
          blocks = blocks_with k head _ _ (omega (arith, head_long k, ap length e.0)) refl refl;
          few = r.few;
          listed = rw (e.1, e.2) r.listed;
        }

    pub pop_kept : Ready parents (of_pop (pop_by edition_1 k p s.ids s.numbers s.lengths s.spills s.lists) s).after
    unfolding pop_by pop_of
    pop_kept =
        let n = head_counts k p s.lengths s.spills in
        let head = head_of k p s.numbers in
        let o = pop_core edition_1 k (parent_id p s.ids) n s.lists head in
        subst Popped·kept (chosen _ _ _ (pop_passes k))
        (pop_by_answer o.answer o.head o.staged o.deleted (pop_keeps One k (parent_id p s.ids) n s.lists head (pop_passes k))
        (pop_core_same edition_1 head s.lists k (parent_id p s.ids) n))

  -- ---- spend and unspend
  module _ (d : Direction) (z : ℤ) where
    abbrev Flipped·kept : Flipping → Type 0
    Flipped·kept o = Ready parents (of_flip (flipped_by o p (counts_in s.lists) s.numbers) s).after

    abbrev flip_answer : Flipping
    flip_answer =
        flip_core edition_1 d (parent_id p s.ids) (head_counts Box p s.lengths s.spills) z s.lists.staged_counts s.lists.staged
        s.lists.table_counts s.lists.table (head_of Box p s.numbers)

    flip_by_answer : (a : Flipped) (head : List ℤ) (staged : List ℕ) → flipping a head staged ≡ flip_answer → Flipped·kept (flipping a head staged)
    unfolding flip_ok
    flip_by_answer (Ok c) head staged e =
        let n = head_counts Box p s.lengths s.spills in
        let t = flip_keeps One d (parent_id p s.ids) n z s.lists.staged_counts s.lists.staged s.lists.table_counts s.lists.table (head_of Box p s.numbers) head staged id_long c flip_passes e in
        let g = head_facts n head (and_left (head_ok n head) _ t) in
        record {
          blocks = blocks_with Box head _ _ g.long refl refl;
          few = r.few;
          listed = listing _ (and_left (records_ok 10288 10254 c staged) _ (and_right (head_ok n head) _ t)) (table_ok s.lists r.listed) (deleted_ok s.lists r.listed);
        }
    flip_by_answer (Err code) head staged e =
        let n = head_counts Box p s.lengths s.spills in
        let f = flip_refused One d (parent_id p s.ids) n z s.lists.staged_counts s.lists.staged s.lists.table_counts s.lists.table (head_of Box p s.numbers) head staged code e in
        record {
          blocks = blocks_with Box head _ _ (omega (arith, head_long Box, ap length f.0)) refl refl;
          few = r.few;
          listed = listing _ (rw f.1 (staged_ok s.lists r.listed)) (table_ok s.lists r.listed) (deleted_ok s.lists r.listed);
        }

    pub flip_kept : Ready parents (of_flip (flip_by edition_1 d p z s.ids s.numbers s.lengths s.spills s.lists.staged s.lists.table (counts_in s.lists)) s).after
    unfolding flip_by flip_of
    flip_kept =
        subst Flipped·kept (chosen _ _ _ flip_passes) (flip_by_answer flip_answer.answer flip_answer.head flip_answer.staged refl)

  -- ---- credit and debit
  pub change_kept : (adding : Bool) (nanos : ℤ) (token : ℕ) (amount : ℤ)
      → Ready parents (of_change (change_of adding p nanos token amount s.ids s.numbers s.lengths) s).after
  unfolding change_of
  change_kept adding nanos token amount =
      let b = (change_box adding (balance_of p s.ids s.numbers s.lengths) nanos (replicate 32 token) (amount ∷ []) 1).balance in
      let numbers = write (p * 1153 + 1024) b.amounts s.numbers in
      record {
        blocks = record {
          ids_in = omega (arith, r.blocks.ids_in, write_grows (p * 4128 + 32) b.ids s.ids (omega (arith, within.ids_in)));
          numbers_in = omega (arith, r.blocks.numbers_in, write_grows (p * 1153 + 1024) b.amounts s.numbers (omega (arith, within.numbers_in)), length-set numbers (p * 1153 + 1152) b.nanos);
          lengths_in = omega (arith, r.blocks.lengths_in, length-set s.lengths (p * 3 + 2) b.count);
          spills_in = r.blocks.spills_in;
        };
        few = λ q i k. omega (arith, r.few q i k, get_or-set_other s.lengths (p * 3 + 2) (length_at k q) b.count 0 (λ e. apart p q k e));
        listed = r.listed;
      }
    where
      apart : (p q : ℕ) (k : Kind) → length_at k q ≡ p * 3 + 2 → ⊥
      apart p q k e = omega (arith, kind_few k, e)

-- ---- flush
module _ (parents : ℕ) (s : State) (r : Ready parents s) where
  flush_by_answer : (a : Flushed) (table staged deleted : List ℕ) → flushing a table staged deleted ≡ flush_core edition_1 s.lists
      → Ready parents (of_flush (flushed_by (flushing a table staged deleted) (counts_in s.lists)) s).after
  flush_by_answer (Ok (t, c, d)) table staged deleted e =
      let o = flush_core edition_1 s.lists in
      let k = flush_keeps One s.lists r.listed t c d (sym (ap (λ (x : Flushing). x.answer) e)) in
      record {
        blocks = r.blocks;
        few = r.few;
        listed = subst (λ (x : Flushing). lists_ok edition_1 (lists c x.staged t x.table d x.deleted) ≡ true) (sym e) k;
      }
  flush_by_answer (Err code) table staged deleted e =
      let f = flush_core_same edition_1 s.lists code (sym (ap (λ (x : Flushing). x.answer) e)) in
      let x : table ≡ s.lists.table = ap (λ (x : Flushing). x.table) e ∙ f.0 in
      let y : staged ≡ s.lists.staged = ap (λ (x : Flushing). x.staged) e ∙ f.1 in
      let z : deleted ≡ s.lists.deleted = ap (λ (x : Flushing). x.deleted) e ∙ f.2 in
      record { blocks = r.blocks; few = r.few; listed = rw (x, y, z) r.listed }

  pub flush_kept : Ready parents (of_flush (flush_by edition_1 s.lists) s).after
  unfolding flush_by flush_of
  flush_kept =
      let o = flush_core edition_1 s.lists in
      subst (λ (x : Flushing). Ready parents (of_flush (flushed_by x (counts_in s.lists)) s).after) (chosen _ _ _ r.listed)
      (flush_by_answer o.answer o.table o.staged o.deleted refl)

  -- ---- any call
  pub step_kept : (c : Call) → Among parents c → Ready parents (step_of edition_1 c s).after
  unfolding step_of
  step_kept (Append k p z) h = append_kept parents s r p h k z
  step_kept (Flip d p z) h = flip_kept parents s r p h d z
  step_kept (Pop k p) h = pop_kept parents s r p h k
  step_kept Flush h = flush_kept
  step_kept (Change adding p nanos token amount) h = change_kept parents s r p h adding nanos token amount
  step_kept Bad h = r
  step_kept Cut h = r
  step_kept End h = r

  -- and each asks nothing more than that
  pub step_ready : (c : Call) → Among parents c → StepReady c s
  step_ready (Append k p z) h = (within parents s r p h, append_passes parents s r p h k)
  step_ready (Flip d p z) h = (within parents s r p h, flip_passes parents s r p h)
  step_ready (Pop k p) h = (within parents s r p h, pop_passes parents s r p h k)
  step_ready Flush h = r.listed
  step_ready (Change adding p nanos token amount) h = within parents s r p h
  step_ready Bad h = tt
  step_ready Cut h = tt
  step_ready End h = tt
