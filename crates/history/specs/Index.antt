-- The index as the calls leave it: each parent's heads with their counts, the staged spills, the segments table and the deleted spills, in bytes; and its
-- operations, each the very definition that the contract of the public function cites, run on the part of the index that the function borrows.
use Rattle.ledger.specs.Run.{flat}
use Rattle.std.specs.Prelude.{List, [], ◌++◌, ℕ, ℤ, pos, nat_abs, take, Ok, Err}
use Rattle.index_types.specs.declared.ListCounts.{ListCounts}
use Rattle.segment_id.specs.declared.Kind.{Kind}
use Rattle.segment_id.specs.declared.Kind.TheVariants.{Box, Tx}
use Rattle.index_types.specs.declared.HeadCounts.{HeadCounts}
use Rattle.buffer_core.specs.declared.Direction.{Direction}
use Rattle.index_types.specs.Answers.{Appended}
use Rattle.index_types.specs.Answers.{Popped}
use Rattle.index_types.specs.Answers.{Flipped}
use Rattle.index_types.specs.Answers.{Flushed}
use Rattle.buffer_core.specs.Edition.{Edition, RowRead, bad, good}
use Rattle.buffer_core.specs.Spills.{Sources, sources, spill_read}
use Rattle.buffer_core.specs.Append.{Appending, append_of}
use Rattle.buffer_core.specs.Pop.{Popping, Lists, lists, pop_of}
use Rattle.buffer_core.specs.Flip.{Flipping, flip_of}
use Rattle.buffer_core.specs.Flush.{Flushing, flush_of}
use Rattle.ledger.specs.Ledger.{Parent, Series, boxes, txs, parent_of, series_dec, ite}
use Rattle.ledger.specs.Run.{Res, done, refused, Made, accepted, refused_leaving}
use Rattle.ledger.specs.Run as Mc

-- a parent's list of one kind: its counts beside the places that are borrowed
pub record Part : Type 0 where
  pub head : HeadCounts
  pub places : List ℤ

abbrev pub part : HeadCounts → List ℤ → Part
part h l = record { head = h; places = l }

pub record Index : Type 0 where
  pub parts : Series → Part
  pub lists : Lists

abbrev pub index : (Series → Part) → Lists → Index
index f b = record { parts = f; lists = b }

abbrev pub kind_of : Series → Kind
kind_of (boxes p) = Box
kind_of (txs p) = Tx

abbrev pub set_part : (Series → Part) → Series → Part → Series → Part
set_part f ch v d = ite (series_dec ch d) v (f d)

-- the lists with other staged spills
abbrev pub with_staged : ListCounts → List ℕ → Lists → Lists
with_staged c staged b = lists c staged b.table_counts b.table b.deleted_counts b.deleted

-- ---- the index after each call: the counts that an accepted call answers (a refused one answers none, so they stay), and the places and bytes that the
-- definition leaves, accepted or refused
abbrev pub after_append : Index → Series → Appended → List ℤ → List ℕ → Made Index Index
after_append b ch (Ok (h, c)) head staged = accepted (index (set_part b.parts ch (part h head)) (with_staged c staged b.lists))
after_append b ch (Err code) head staged =
    refused_leaving code (index (set_part b.parts ch (part (b.parts ch).head head)) (with_staged b.lists.staged_counts staged b.lists))

abbrev pub after_pop : Index → Series → Popped → List ℤ → (staged deleted : List ℕ) → Made Index (Mc.Popped Index)
after_pop b ch (Ok (n, h, c, d)) head staged deleted =
    accepted (record {
      left = index (set_part b.parts ch (part h head)) (lists c staged b.lists.table_counts b.lists.table d deleted);
      value = n;
    })
after_pop b ch (Err code) head staged deleted =
    refused_leaving code (index (set_part b.parts ch (part (b.parts ch).head head))
    (lists b.lists.staged_counts staged b.lists.table_counts b.lists.table b.lists.deleted_counts deleted))

abbrev pub after_flip : Index → Series → Flipped → List ℤ → List ℕ → Made Index Index
after_flip b ch (Ok c) head staged = accepted (index (set_part b.parts ch (part (b.parts ch).head head)) (with_staged c staged b.lists))
after_flip b ch (Err code) head staged =
    refused_leaving code (index (set_part b.parts ch (part (b.parts ch).head head)) (with_staged b.lists.staged_counts staged b.lists))

abbrev pub after_flush : Index → Flushed → (table staged deleted : List ℕ) → Made Index Index
after_flush b (Ok (t, c, d)) table staged deleted = accepted (index b.parts (lists c staged t table d deleted))
after_flush b (Err code) table staged deleted =
    refused_leaving code (index b.parts (lists b.lists.staged_counts staged b.lists.table_counts table b.lists.deleted_counts deleted))

abbrev pub to_res : RowRead → Res (List ℤ)
to_res (bad code) = refused code
to_res (good zs) = done zs

module _ (E : Edition) (ids : Parent → List ℕ) where
  abbrev pub id_of : Series → List ℕ
  id_of ch = ids (parent_of ch)

  abbrev pub appending_to : Index → Series → ℤ → Appending
  appending_to b ch n = append_of E (kind_of ch) (id_of ch) (b.parts ch).head n b.lists.staged_counts (b.parts ch).places b.lists.staged

  abbrev pub do_append : Index → Series → ℤ → Made Index Index
  do_append b ch n = let o = appending_to b ch n in after_append b ch o.answer o.head o.staged

  abbrev pub popping_from : Index → Series → Popping
  popping_from b ch = pop_of E (kind_of ch) (id_of ch) (b.parts ch).head b.lists (b.parts ch).places

  abbrev pub do_pop : Index → Series → Made Index (Mc.Popped Index)
  do_pop b ch = let o = popping_from b ch in after_pop b ch o.answer o.head o.staged o.deleted

  abbrev pub flipping_in : Direction → Index → Parent → ℤ → Flipping
  flipping_in d b p t =
      flip_of E d (ids p) (b.parts (boxes p)).head t b.lists.staged_counts b.lists.staged b.lists.table_counts b.lists.table (b.parts (boxes p)).places

  abbrev pub do_flip : Direction → Index → Parent → ℤ → Made Index Index
  do_flip d b p t = let o = flipping_in d b p t in after_flip b (boxes p) o.answer o.head o.staged

  abbrev pub flushing_of : Index → Flushing
  flushing_of b = flush_of E b.lists

  abbrev pub do_flush : Index → Made Index Index
  do_flush b = let o = flushing_of b in after_flush b o.answer o.table o.staged o.deleted

  -- ---- the entries, "spill 0 up with rows as inspection shows them, then the head"
  abbrev pub sources_of : Index → Series → Sources
  sources_of b ch = sources (id_of ch) b.lists.staged b.lists.staged_counts.count b.lists.table b.lists.table_counts.count

  abbrev pub row_of_spill : Index → Series → ℕ → Res (List ℤ)
  row_of_spill b ch s = to_res (spill_read E (kind_of ch) (sources_of b ch) s)

  abbrev pub entries_of : Index → Series → List ℤ
  entries_of b ch = flat (row_of_spill b ch) (nat_abs (b.parts ch).head.spills) ++ take (b.parts ch).head.len (b.parts ch).places
