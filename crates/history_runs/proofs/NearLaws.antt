-- The theorem's operations see no more of an index than the part they name and the lists.
use mathlib.Core.Path.{◌≡◌, refl, sym, ap, subst}
use mathlib.Core.List.{List}
use Prim.Native.Nat.{ℕ, ◌<◌}
use lib.IntN.{ℤ}
use Rattle.index_types.specs.declared.ListCounts.{ListCounts}
use Rattle.buffer_core.specs.declared.Direction.{Direction}
use Rattle.std.specs.Prelude.{Ok, Err}
use Rattle.index_types.specs.Answers.{Appended}
use Rattle.index_types.specs.Answers.{Popped}
use Rattle.index_types.specs.Answers.{Flipped}
use Rattle.index_types.specs.Answers.{Flushed}
use Rattle.buffer_core.specs.Edition.{edition_1}
use Rattle.buffer_core.specs.Append.{Appending, append_of}
use Rattle.buffer_core.specs.Pop.{Popping, Lists, lists, pop_of}
use Rattle.buffer_core.specs.Flip.{Flipping, flip_of}
use Rattle.buffer_core.specs.Flush.{Flushing, flush_of}
use Rattle.ledger.specs.Ledger.{Parent, Series, boxes, parent_of, series_dec, ite}
use Rattle.ledger.specs.Run.{Made, accepted, refused_leaving}
use Rattle.ledger.specs.Run as Run
use Rattle.history.specs.Index.{Part, part, Index, index, kind_of, set_part, with_staged, after_append, after_pop, after_flip, after_flush, appending_to, popping_from, flipping_in, do_append, do_pop, do_flip, do_flush}

module _ (parents : ℕ) where
  -- the same parts of the first parents, and the same lists
  pub record Near (b c : Index) : Type 0 where
    pub parts : (ch : Series) → parent_of ch < parents → b.parts ch ≡ c.parts ch
    pub lists : b.lists ≡ c.lists

  abbrev pub NearRes : Made Index Index → Made Index Index → Type 0
  NearRes (accepted b) (accepted c) = Near b c
  NearRes (accepted b) (refused_leaving k c) = ⊥
  NearRes (refused_leaving j b) (accepted c) = ⊥
  NearRes (refused_leaving j b) (refused_leaving k c) = j ≡ k

  abbrev pub NearPop : Made Index (Run.Popped Index) → Made Index (Run.Popped Index) → Type 0
  NearPop (accepted b) (accepted c) = (b.value ≡ c.value) × Near b.left c.left
  NearPop (accepted b) (refused_leaving k c) = ⊥
  NearPop (refused_leaving j b) (accepted c) = ⊥
  NearPop (refused_leaving j b) (refused_leaving k c) = j ≡ k

  module _ (names ids : Parent → List ℕ) (b c : Index) (N : Near b c) where
    near_set : (ch : Series) (v w : Part) (l m : Lists) → v ≡ w → l ≡ m → Near (index (set_part b.parts ch v) l) (index (set_part c.parts ch w) m)
    near_set ch v w l m e f = record { parts = λ d h i. ite (series_dec ch d) (e i) (N.parts d h i); lists = f }

    near_lists : (x : ListCounts) (staged : List ℕ) → with_staged x staged b.lists ≡ with_staged x staged c.lists
    near_lists x staged = ap (with_staged x staged) N.lists

    module _ (ch : Series) (h : parent_of ch < parents) (named : names (parent_of ch) ≡ ids (parent_of ch)) where
      append_answer : (a : Appended) (head : List ℤ) (staged : List ℕ) → NearRes (after_append b ch a head staged) (after_append c ch a head staged)
      append_answer (Ok (n, x)) head staged = near_set ch (part n head) (part n head) _ _ refl (near_lists x staged)
      append_answer (Err code) head staged = refl

      pub append_near : (n : ℤ) → NearRes (do_append edition_1 names b ch n) (do_append edition_1 ids c ch n)
      append_near n =
          let o = appending_to edition_1 ids c ch n in
          let e : o ≡ appending_to edition_1 names b ch n =
          sym (λ i. append_of edition_1 (kind_of ch) (named i) (N.parts ch h i).head n (N.lists i).staged_counts (N.parts ch h i).places (N.lists i).staged) in
          subst (λ (x : Appending). NearRes (after_append b ch x.answer x.head x.staged) (after_append c ch o.answer o.head o.staged)) e
          (append_answer o.answer o.head o.staged)

      pop_answer : (a : Popped) (head : List ℤ) (staged deleted : List ℕ) → NearPop (after_pop b ch a head staged deleted) (after_pop c ch a head staged deleted)
      pop_answer (Ok (z, n, x, y)) head staged deleted =
          (refl, near_set ch (part n head) (part n head) _ _ refl (λ i. lists x staged (N.lists i).table_counts (N.lists i).table y deleted))
      pop_answer (Err code) head staged deleted = refl

      pub pop_near : NearPop (do_pop edition_1 names b ch) (do_pop edition_1 ids c ch)
      pop_near =
          let o = popping_from edition_1 ids c ch in
          let e : o ≡ popping_from edition_1 names b ch =
          sym (λ i. pop_of edition_1 (kind_of ch) (named i) (N.parts ch h i).head (N.lists i) (N.parts ch h i).places) in
          subst (λ (x : Popping). NearPop (after_pop b ch x.answer x.head x.staged x.deleted) (after_pop c ch o.answer o.head o.staged o.deleted)) e
          (pop_answer o.answer o.head o.staged o.deleted)

    module _ (p : Parent) (h : p < parents) (named : names p ≡ ids p) where
      flip_answer : (a : Flipped) (head : List ℤ) (staged : List ℕ) → NearRes (after_flip b (boxes p) a head staged) (after_flip c (boxes p) a head staged)
      flip_answer (Ok x) head staged =
          near_set (boxes p) (part (b.parts (boxes p)).head head) (part (c.parts (boxes p)).head head) _ _ (λ i. part (N.parts (boxes p) h i).head head) (near_lists x staged)
      flip_answer (Err code) head staged = refl

      pub flip_near : (d : Direction) (t : ℤ) → NearRes (do_flip edition_1 names d b p t) (do_flip edition_1 ids d c p t)
      flip_near d t =
          let o = flipping_in edition_1 ids d c p t in
          let e : o ≡ flipping_in edition_1 names d b p t =
          sym (λ i. flip_of edition_1 d (named i) (N.parts (boxes p) h i).head t (N.lists i).staged_counts (N.lists i).staged (N.lists i).table_counts (N.lists i).table (N.parts (boxes p) h i).places) in
          subst (λ (x : Flipping). NearRes (after_flip b (boxes p) x.answer x.head x.staged) (after_flip c (boxes p) o.answer o.head o.staged)) e
          (flip_answer o.answer o.head o.staged)

    flush_answer : (a : Flushed) (table staged deleted : List ℕ) → NearRes (after_flush b a table staged deleted) (after_flush c a table staged deleted)
    flush_answer (Ok (t, x, d)) table staged deleted = record { parts = N.parts; lists = refl }
    flush_answer (Err code) table staged deleted = refl

    pub flush_near : NearRes (do_flush edition_1 names b) (do_flush edition_1 ids c)
    flush_near =
        let o = flush_of edition_1 c.lists in
        subst (λ (x : Flushing). NearRes (after_flush b x.answer x.table x.staged x.deleted) (after_flush c o.answer o.table o.staged o.deleted))
        (ap (flush_of edition_1) (sym N.lists)) (flush_answer o.answer o.table o.staged o.deleted)
