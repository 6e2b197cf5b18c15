-- Each step in terms of its definition: the part of the state that it borrows, then what the core function answers, then the counts.
use Prim.Native.Nat.{ℕ, ◌≤◌}
use mathlib.Core.Path.{◌≡◌, refl, sym, ap, ◌∙◌}
use mathlib.Core.Bool.{Bool, true, false, cond}
use mathlib.Core.List.{List, [], ◌∷◌}
use lib.IntN.{ℤ}
use lib.ListN.{take, drop, replicate}
use borrow.Rule.Slice.PartMut.{put_mid}
use Rattle.balance.specs.declared.Balance.{Balance}
use Rattle.balance.specs.declared.Outcome.{Outcome}
use Rattle.balance.specs.Boxes.{change_box}
use Rattle.segment_id.specs.declared.Kind.{Kind}
use Rattle.segment_id.specs.declared.Kind.TheVariants.{Box}
use Rattle.index_types.specs.declared.HeadCounts.{HeadCounts}
use Rattle.buffer_core.specs.declared.Direction.{Direction}
use Rattle.std.specs.Prelude.{Ok, Err}
use Rattle.index_types.specs.Answers.{Appended}
use Rattle.index_types.specs.Answers.{Popped}
use Rattle.index_types.specs.Answers.{Flipped}
use Rattle.index_types.specs.Answers.{Flushed}
use Rattle.index_types.specs.declared.ListCounts.{ListCounts}
use Rattle.call_steps.specs.declared.Said.{Said}
use Rattle.index_types.specs.declared.RowEdition.TheVariants.{One}
use Rattle.buffer_core.specs.Edition.{edition_1}
use Rattle.buffer_core.specs.Append.{Appending, appending, append_ok, append_core, append_of}
use Rattle.buffer_core.specs.Pop.{Popping, popping, Lists, lists_ok, pop_ok, pop_core, pop_of}
use Rattle.buffer_core.specs.Flip.{Flipping, flipping, flip_ok, flip_core, flip_of}
use Rattle.buffer_core.specs.Flush.{Flushing, flushing, flush_core, flush_of}
use Rattle.append_core.specs.Internal.{AppendReady}
use Rattle.append_core.proofs.KeepLaws.{append_ready}
use Rattle.pop_row.specs.Internal.{PopReady}
use Rattle.pop_core.proofs.KeepLaws.{pop_ready}
use Rattle.flip_core.specs.Internal.{FlipReady}
use Rattle.flip_core.proofs.KeepLaws.{flip_facts}
use Rattle.index_types.specs.declared.SpillCounts.{SpillCounts}
use Rattle.call_steps.specs.declared.Stepped.{Stepped}
use Rattle.call_steps.specs.State.{parent_id, head_at, head_counts, head_of, balance_of, ids_with, numbers_with, lengths_with}
use Rattle.call_steps.specs.Steps.{accepted, refused, number_popped, stepped, spill_counts, with_staged, lengths_by, spills_by, lists_with, counts_in, CountStep, count_step, after_append, after_pop, head_step, appended_by, append_by, pop_step, popped_by, pop_by, after_flip, flip_step, flipped_by, flip_by, after_flush, flush_step, flushed_by, flush_by, said_by, change_step, changed_by, change_of}

-- once 25 has passed, a call is its core
abbrev pub chosen : {A : Type 0} (b : Bool) (x y : A) → b ≡ true → x ≡ cond b x y
chosen b x y e = sym (ap (λ (t : Bool). cond t x y) e)

module _ (ids : List ℕ) (numbers : List ℤ) (lengths : List ℕ) (spills : List ℤ) (n : SpillCounts) (p : ℕ) where
  -- id, h, a and w are what the code holds: the id, the head's counts, where its places begin and how many they are
  pub append_law : (k : Kind) (z z' : ℤ) (staged id : List ℕ) (h : HeadCounts) (a w : ℕ) (r : Appended) (head' : List ℤ) (staged' : List ℕ) (c : CountStep)
      → append_ok edition_1 (head_counts k p lengths spills) n.staged (head_of k p numbers) staged ≡ true
      → id ≡ parent_id p ids → h ≡ head_counts k p lengths spills → a ≡ head_at k p → w ≡ 512 → z' ≡ z
      → appending r head' staged' ≡ append_core edition_1 k id h z' n.staged (take w (drop a numbers)) staged → c ≡ after_append r k p n lengths spills
      → head_step c (put_mid a w numbers head') staged' ≡ append_by edition_1 k p z ids numbers lengths spills staged n
  unfolding append_by append_of
  append_law k z z' staged id h a w r head' staged' c ok e₁ e₂ e₃ e₄ e₅ q l =
      (λ i. head_step (l i) (put_mid (e₃ i) (e₄ i) numbers head') staged')
      ∙ ap (λ (o : Appending). appended_by o k p n numbers lengths spills)
      (q ∙ (λ i. append_core edition_1 k (e₁ i) (e₂ i) (e₅ i) n.staged (take (e₄ i) (drop (e₃ i) numbers)) staged)
      ∙ chosen (append_ok edition_1 (head_counts k p lengths spills) n.staged (head_of k p numbers) staged) _ _ ok)

  pub flip_law : (d : Direction) (z z' : ℤ) (staged table id : List ℕ) (h : HeadCounts) (a w : ℕ) (r : Flipped) (head' : List ℤ) (staged' : List ℕ) (s : Stepped)
      → flip_ok edition_1 (head_counts Box p lengths spills) n.staged staged n.table table (head_of Box p numbers) ≡ true
      → id ≡ parent_id p ids → h ≡ head_counts Box p lengths spills → a ≡ head_at Box p → w ≡ 512 → z' ≡ z
      → flipping r head' staged' ≡ flip_core edition_1 d id h z' n.staged staged n.table table (take w (drop a numbers)) → s ≡ after_flip r n
      → flip_step s (put_mid a w numbers head') staged' ≡ flip_by edition_1 d p z ids numbers lengths spills staged table n
  unfolding flip_by flip_of
  flip_law d z z' staged table id h a w r head' staged' s ok e₁ e₂ e₃ e₄ e₅ q l =
      (λ i. flip_step (l i) (put_mid (e₃ i) (e₄ i) numbers head') staged')
      ∙ ap (λ (o : Flipping). flipped_by o p n numbers)
      (q ∙ (λ i. flip_core edition_1 d (e₁ i) (e₂ i) (e₅ i) n.staged staged n.table table (take (e₄ i) (drop (e₃ i) numbers)))
      ∙ chosen (flip_ok edition_1 (head_counts Box p lengths spills) n.staged staged n.table table (head_of Box p numbers)) _ _ ok)

  pub pop_law : (k : Kind) (staged table deleted id : List ℕ) (h : HeadCounts) (a w : ℕ) (r : Popped) (head' : List ℤ) (staged' deleted' : List ℕ) (c : CountStep)
      → pop_ok edition_1 (head_counts k p lengths spills) (lists_with n staged table deleted) (head_of k p numbers) ≡ true
      → id ≡ parent_id p ids → h ≡ head_counts k p lengths spills → a ≡ head_at k p → w ≡ 512
      → popping r head' staged' deleted' ≡ pop_core edition_1 k id h (lists_with n staged table deleted) (take w (drop a numbers)) → c ≡ after_pop r k p n lengths spills
      → pop_step c (put_mid a w numbers head') staged' deleted' ≡ pop_by edition_1 k p ids numbers lengths spills (lists_with n staged table deleted)
  unfolding pop_by pop_of
  pop_law k staged table deleted id h a w r head' staged' deleted' c ok e₁ e₂ e₃ e₄ q l =
      (λ i. pop_step (l i) (put_mid (e₃ i) (e₄ i) numbers head') staged' deleted')
      ∙ ap (λ (o : Popping). popped_by o k p n numbers lengths spills)
      (q ∙ (λ i. pop_core edition_1 k (e₁ i) (e₂ i) (lists_with n staged table deleted) (take (e₄ i) (drop (e₃ i) numbers)))
      ∙ chosen (pop_ok edition_1 (head_counts k p lengths spills) (lists_with n staged table deleted) (head_of k p numbers)) _ _ ok)

pub flush_law : (n : SpillCounts) (table staged deleted : List ℕ) (r : Flushed) (table' staged' deleted' : List ℕ) (s : Stepped)
    → lists_ok edition_1 (lists_with n staged table deleted) ≡ true → flushing r table' staged' deleted' ≡ flush_core edition_1 (lists_with n staged table deleted)
    → s ≡ after_flush r n → flush_step s table' staged' deleted' ≡ flush_by edition_1 (lists_with n staged table deleted)
unfolding flush_by flush_of
flush_law n table staged deleted r table' staged' deleted' s ok q l =
    (λ i. flush_step (l i) table' staged' deleted')
    ∙ ap (λ (o : Flushing). flushed_by o n) (q ∙ chosen (lists_ok edition_1 (lists_with n staged table deleted)) _ _ ok)

-- ---- the answers: r is what the core function answered, as the code matched it
module _ (k : Kind) (p : ℕ) (n : SpillCounts) (lengths : List ℕ) (spills : List ℤ) where
  pub append_done : {r : Appended} (h : HeadCounts) (c : ListCounts) (s : Said) (lengths' : List ℕ) (spills' : List ℤ) → r ≡ Ok (h, c) → s ≡ accepted
      → lengths' ≡ lengths_by k p h lengths → spills' ≡ spills_by k p h spills
      → count_step (stepped s (with_staged n c)) lengths' spills' ≡ after_append r k p n lengths spills
  append_done h c s lengths' spills' e a l m =
      (λ i. count_step (stepped (a i) (with_staged n c)) (l i) (m i)) ∙ ap (λ (x : Appended). after_append x k p n lengths spills) (sym e)

  pub append_refused : {r : Appended} (code : ℕ) (s : Said) → r ≡ Err code → s ≡ refused code
      → count_step (stepped s n) lengths spills ≡ after_append r k p n lengths spills
  append_refused code s e a = (λ i. count_step (stepped (a i) n) lengths spills) ∙ ap (λ (x : Appended). after_append x k p n lengths spills) (sym e)

  pub pop_done : {r : Popped} (z z' : ℤ) (h : HeadCounts) (c d : ListCounts) (lengths' : List ℕ) (spills' : List ℤ) → r ≡ Ok (z, h, c, d) → z' ≡ z
      → lengths' ≡ lengths_by k p h lengths → spills' ≡ spills_by k p h spills
      → count_step (stepped (number_popped z') (spill_counts c n.table d)) lengths' spills' ≡ after_pop r k p n lengths spills
  pop_done z z' h c d lengths' spills' e b l m =
      (λ i. count_step (stepped (number_popped (b i)) (spill_counts c n.table d)) (l i) (m i)) ∙ ap (λ (x : Popped). after_pop x k p n lengths spills) (sym e)

  pub pop_refused : {r : Popped} (code : ℕ) (s : Said) → r ≡ Err code → s ≡ refused code
      → count_step (stepped s n) lengths spills ≡ after_pop r k p n lengths spills
  pop_refused code s e a = (λ i. count_step (stepped (a i) n) lengths spills) ∙ ap (λ (x : Popped). after_pop x k p n lengths spills) (sym e)

module _ (n : SpillCounts) where
  pub flip_done : {r : Flipped} (c : ListCounts) (s : Said) → r ≡ Ok c → s ≡ accepted → stepped s (with_staged n c) ≡ after_flip r n
  flip_done c s e a = (λ i. stepped (a i) (with_staged n c)) ∙ ap (λ (x : Flipped). after_flip x n) (sym e)

  pub flip_refused : {r : Flipped} (code : ℕ) (s : Said) → r ≡ Err code → s ≡ refused code → stepped s n ≡ after_flip r n
  flip_refused code s e a = (λ i. stepped (a i) n) ∙ ap (λ (x : Flipped). after_flip x n) (sym e)

  pub flush_done : {r : Flushed} (t c d : ListCounts) (s : Said) → r ≡ Ok (t, c, d) → s ≡ accepted → stepped s (spill_counts c t d) ≡ after_flush r n
  flush_done t c d s e a = (λ i. stepped (a i) (spill_counts c t d)) ∙ ap (λ (x : Flushed). after_flush x n) (sym e)

  pub flush_refused : {r : Flushed} (code : ℕ) (s : Said) → r ≡ Err code → s ≡ refused code → stepped s n ≡ after_flush r n
  flush_refused code s e a = (λ i. stepped (a i) n) ∙ ap (λ (x : Flushed). after_flush x n) (sym e)

-- ---- what the core functions ask for
module _ (numbers : List ℤ) (lengths : List ℕ) (spills : List ℤ) (n : SpillCounts) (p : ℕ) (h : HeadCounts) (a w : ℕ) (four : w ≡ 512) where
  pub append_asks : (k : Kind) (staged : List ℕ) → append_ok edition_1 (head_counts k p lengths spills) n.staged (head_of k p numbers) staged ≡ true
      → h ≡ head_counts k p lengths spills → a ≡ head_at k p → AppendReady One h n.staged (take w (drop a numbers)) staged
  append_asks k staged ok e₂ e₃ =
      append_ready One h n.staged (take w (drop a numbers)) staged
      ((λ i. append_ok edition_1 (e₂ i) n.staged (take (four i) (drop (e₃ i) numbers)) staged) ∙ ok)

  pub flip_asks : (staged table : List ℕ)
      → flip_ok edition_1 (head_counts Box p lengths spills) n.staged staged n.table table (head_of Box p numbers) ≡ true
      → h ≡ head_counts Box p lengths spills → a ≡ head_at Box p → FlipReady One h n.staged staged n.table table (take w (drop a numbers))
  flip_asks staged table ok e₂ e₃ =
      flip_facts One h n.staged staged n.table table (take w (drop a numbers))
      ((λ i. flip_ok edition_1 (e₂ i) n.staged staged n.table table (take (four i) (drop (e₃ i) numbers))) ∙ ok)

  pub pop_asks : (k : Kind) (staged table deleted : List ℕ)
      → pop_ok edition_1 (head_counts k p lengths spills) (lists_with n staged table deleted) (head_of k p numbers) ≡ true
      → h ≡ head_counts k p lengths spills → a ≡ head_at k p → (h.len ≤ 512) × PopReady One (lists_with n staged table deleted) (take w (drop a numbers))
  pop_asks k staged table deleted ok e₂ e₃ =
      pop_ready One h (lists_with n staged table deleted) (take w (drop a numbers))
      ((λ i. pop_ok edition_1 (e₂ i) (lists_with n staged table deleted) (take (four i) (drop (e₃ i) numbers))) ∙ ok)

-- ---- credit and debit
pub change_law : (adding : Bool) (p : ℕ) (nanos nanos' : ℤ) (token : ℕ) (amount amount' : ℤ) (ids : List ℕ) (numbers : List ℤ) (lengths : List ℕ) (b : Balance)
    (o : Outcome) (ids' : List ℕ) (numbers' : List ℤ) (lengths' : List ℕ) (s : Said) → b ≡ balance_of p ids numbers lengths → nanos' ≡ nanos → amount' ≡ amount
    → o ≡ change_box adding b nanos' (replicate 32 token) (amount' ∷ []) 1
    → (ids' ≡ ids_with p o.balance ids) × (numbers' ≡ numbers_with p o.balance numbers) × (lengths' ≡ lengths_with p o.balance lengths)
    → s ≡ said_by o.answer → change_step s ids' numbers' lengths' ≡ change_of adding p nanos token amount ids numbers lengths
unfolding change_of
change_law adding p nanos nanos' token amount amount' ids numbers lengths b o ids' numbers' lengths' s e f g q w l =
    (λ i. change_step (l i) (w.0 i) (w.1 i) (w.2 i))
    ∙ ap (λ (x : Outcome). changed_by x p ids numbers lengths) (q ∙ (λ i. change_box adding (e i) (f i) (replicate 32 token) (g i ∷ []) 1))
