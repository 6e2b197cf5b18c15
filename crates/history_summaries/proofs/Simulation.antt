-- The calls with summaries do what the plain calls do, where the summaries are right, and keep them right: so the plain index's laws are theirs. Only an append may
-- be refused, by 36, where the plain one is not.
use mathlib.Core.Path.{◌≡◌, refl, sym, ap, ◌∙◌, subst}
use mathlib.Core.Logic.{⊎_elim}
use mathlib.Core.Bool.{true}
use mathlib.Core.List.{List, map}
use Prim.Native.Nat.{ℕ, ◌+◌, ◌*◌, ◌≤◌, ◌<◌}
use native.Mathlib.Omega.{arith}
use native.Mathlib.Decide.{ℕ_discrete}
use lib.IntN.{ℤ, pos, nat_abs}
use lib.ListN.{length, take, length-take}
use lib.Seq.{length-take-le}
use borrow.Author.Tests.{le-leb, eq-eqb}
use Rattle.index_types.specs.Answers.{Appended}
use Rattle.entries.specs.Order.{order_ok}
use Rattle.segment_id.specs.declared.Kind.TheVariants.{Box}
use Rattle.buffer_core.specs.declared.Direction.{Direction}
use Rattle.buffer_core.specs.declared.Direction.TheVariants.{Spend, Unspend}
use Rattle.buffer_core.specs.Edition.{Edition, good}
use Rattle.buffer_core.specs.Spills.{spill_read}
use Rattle.buffer_core.specs.Append.{Appending}
use Rattle.buffer_core.specs.Pop.{Popping}
use Rattle.buffer_core.specs.Flip.{Flipping, check_row, row_checked}
use Rattle.summary_core.specs.Lines.{line_of, lines_ok, WithSummary}
use Rattle.summary_core.proofs.LineLaws.{zero_line}
use Rattle.summary_core.proofs.MoveLaws.{append_plain_or_36, pop_plain}
use Rattle.summary_core.proofs.SearchLaws.{Right, row_right, flip_plain}
use Rattle.ledger.specs.Ledger.{Parent, Series, boxes, txs, parent_of, series_dec, absℤ}
use Rattle.ledger.specs.Run.{Res, done, refused, accepted, row_or, flat, Popped, Machine, KeysApart}
use Rattle.fork_model.proofs.EntryLaws.{Sorted}
use Rattle.fork_model.proofs.OperationLaws as Op
use Rattle.fork_model.proofs.Results.{map_res, map_pop, result_of, was_accepted}
use Rattle.fork_model.proofs.Store as St
use Rattle.fork_model.proofs.Search as Se
use Rattle.fork_model.proofs.Whole as Wh
use Rattle.fork_model.proofs.GoodStore as Gs
use Rattle.fork_model.proofs.FlushLaws as Fl
use Rattle.history.specs.Index.{Index, kind_of, id_of, after_append, after_pop, after_flip, do_append, do_pop, do_flip, do_flush, sources_of, entries_of}
use Rattle.history.specs.Machine.{Borrowed}
use Rattle.history.specs.ForkUndo.{Places}
use Rattle.history.specs.EditionLaws.{Small, EditionLaws}
use Rattle.history.proofs.State.{Capacities, head_fits}
use Rattle.history.proofs.PopSim.{read_same, shows}
use Rattle.history.proofs.FlipLists.{order_same}
use Rattle.history.proofs.FlipSim.{good_of}
use Rattle.history.proofs.Sim as Sm
use Rattle.history.proofs.IndexTheorem as Ix
use Rattle.history_summaries.specs.Summaries.{SummaryIndex, set_summary, BorrowedSummaries, appending_with, popping_with, flipping_with, append_kept, pop_kept, flip_with, flush_without, summary_machine}
use Rattle.history_summaries.proofs.Right as Ri
use Rattle.history_summaries.proofs.Right.{AllRight}
use Rattle.history_summaries.proofs.Answers.{with_result, pop_result}
use Rattle.history_summaries.proofs.AppendKeeps.{Spilt, append_done, append_right}
use Rattle.history_summaries.proofs.PopKeeps.{pop_was, pop_right}
use Rattle.history_summaries.proofs.FlushKeeps.{flush_plain, flush_right}
use Rattle.history_summaries.proofs.FlipKeeps.{flip_done, flip_right}
use Rattle.history_summaries.proofs.Refusals.{kept_refusals}

module _ (E : Edition) (ids : Parent → List ℕ) (L : EditionLaws E ids) (B : Borrowed E) (s : Parent → Places) (Z : BorrowedSummaries) (Q : Wh.Balances) where
  -- the plain machine, with its laws, and the one with summaries
  abbrev pub N : Machine
  N = Ix.machine E ids L B s Q

  abbrev pub K : Machine
  K = summary_machine E ids B s Z

  abbrev W : St.Env
  W = Ix.W E ids L B s Q

  abbrev code : Gs.Coded W
  code = Ix.code E ids L B s Q

  abbrev abs : Index → St.Store W
  abs b = Ix.abs E ids L B s Q b

  abbrev caps : Capacities
  caps = record { table = B.table_cap; staged = B.staged_cap; deleted = B.deleted_cap }

  abbrev pub Fine : (Series → ℕ → Type 0) → Index → Type 0
  Fine U = Sm.Fine (Ix.M E ids L B s Q) (Ix.N E ids L B s Q) abs (Ix.Inv E ids L B s Q) (Gs.Good W code U)

  abbrev lines : Parent → ℕ
  lines = Z.lines

  -- nothing spilled, all lines zero
  pub start_right : AllRight E ids lines K.empty
  start_right p = record {
    room = omega arith;
    long = Z.numbers_in p;
    line = λ n h. absurd (omega arith);
    free = λ n h g. zero_line (lines p) n (Z.numbers p) (Z.numbers_in p) (Z.all_zero p) g;
  }

  module _ (U : Series → ℕ → Type 0) (apart : KeysApart N U) (b : SummaryIndex) (R : AllRight E ids lines b) (F : Fine U b.index) where
    abbrev count : Series → ℕ
    count d = nat_abs (b.index.parts d).head.spills

    used : (d : Series) (t : ℕ) → t < count d → U d t
    used d t h = F.1.used d t h

    pub enough : (p : Parent) → lines_ok (lines p) (b.summaries p) ≡ true
    enough p = le-leb (lines p * 5) (length (b.summaries p)) (R p).long

    -- ---- appends
    module _ (ch : Series) (n : ℤ) (c : SummaryIndex) (u : Op.Covers N U b.index ch) (e : append_kept E ids lines b ch n ≡ accepted c) where
      abbrev places : List ℤ
      places = (b.index.parts ch).places

      few : length (take 512 places) ≤ 512
      few = simp length-take (omega arith)

      head_small : (b.index.parts ch).head.len ≡ 512 → Small (take 512 places)
      head_small l = subst (λ (m : ℕ). Small (take m places)) l (F.1.small ch)

      -- the key of a new row is in use
      new_used : (b.index.parts ch).head.len ≡ 512 → U ch (count ch)
      new_used l =
          let f = head_fits (b.index.parts ch) (F.0.heads_in ch) in
          let heads = length-take-le (b.index.parts ch).head.len places (omega (arith, f.len_in, f.places_in)) in
          let all : length (entries_of E ids b.index ch) ≡ 512 * count ch + length (take (b.index.parts ch).head.len places)
          = ap length (shows E ids caps b.index ch) ∙ Gs.entries_length W code U (abs b.index) ch F.1 in
          u (count ch) (omega arith)

      -- no other row has it
      new_apart : (q : Parent) → Spilt E ids L lines b c ch n q (R q) (append_done E ids lines b c ch n e q) → (t : ℕ) → t < Ri.spills_of E ids lines c q
          → E.key (kind_of ch) (id_of E ids ch) (pos (count ch)) ≡ E.key (kind_of (boxes q)) (id_of E ids (boxes q)) (pos t)
          → Dec (ch ≡ boxes q) → Dec (count ch ≡ t) → (ch ≡ boxes q) × (count ch ≡ t)
      new_apart q w t h k (yes g) (yes m) = (g, m)
      new_apart q w t h k (yes g) (no m) =
          let now : nat_abs (c.index.parts ch).head.spills ≡ Ri.spills_of E ids lines c q = ap (λ (x : Series). nat_abs (c.index.parts x).head.spills) g in
          let was : count ch ≡ count (boxes q) = ap count g in
          apart ch (boxes q) (count ch) t (new_used w.was_full) (used (boxes q) t (omega (arith, w.one_more))) k
      new_apart q w t h k (no g) m = apart ch (boxes q) (count ch) t (new_used w.was_full) (used (boxes q) t (omega (arith, w.others (boxes q) g))) k

      append_keeps : AllRight E ids lines c
      append_keeps q = append_right E ids L lines b c ch n q (R q) (append_done E ids lines b c ch n e q) (λ w. record {
        short = L.encode_length (kind_of ch) (parent_of ch) (count ch) (take 512 places) w.below few (head_small w.was_full);
        back = λ g. L.decode_encode (kind_of ch) (parent_of ch) (count ch) (take 512 places) w.below few (head_small w.was_full);
        apart = λ t h k. new_apart q w t h k (series_dec ch (boxes q)) (ℕ_discrete (count ch) t);
      })

    -- 36, or what the plain append gives
    append_25 : (ch : Series) (n : ℤ) → result_of (append_kept E ids lines b ch n) ≡ refused 25 → result_of (do_append E ids b.index ch n) ≡ refused 25
    append_25 (txs p) n e = Sm.map_keeps_refused (λ x. x.index) (result_of (append_kept E ids lines b (txs p) n)) 25 (result_of (do_append E ids b.index (txs p) n)) (with_result b.summaries (do_append E ids b.index (txs p) n)) e
    append_25 (boxes p) n e =
        ⊎_elim (λ (q : o.result ≡ _). ap end (sym q) ∙ plain)
        (λ q. let z : ◌≡◌ {A = Res Index} (refused 36) (refused 25) = sym (ap at q) ∙ plain in let y : ◌≡◌ {A = ℕ} 36 25 = cc in absurd (omega arith))
        (append_plain_or_36 E (ids p) (b.index.parts (boxes p)).head (lines p) (b.summaries p) n b.index.lists.staged_counts (b.index.parts (boxes p)).places b.index.lists.staged (enough p) (R p).room)
      where
        o : WithSummary Appending
        o = appending_with E ids lines b p n

        end : Appending → Res Index
        end a = result_of (after_append b.index (boxes p) a.answer a.head a.staged)

        at : Appended → Res Index
        at a = result_of (after_append b.index (boxes p) a o.result.head o.result.staged)

        plain : end o.result ≡ refused 25
        plain = Sm.map_keeps_refused (λ x. x.index) (result_of (append_kept E ids lines b (boxes p) n)) 25 (end o.result) (with_result (set_summary b.summaries p o.summary) (after_append b.index (boxes p) o.result.answer o.result.head o.result.staged)) e

    -- ---- pops
    pub pop_same : (ch : Series) → map_res (map_pop (λ x. x.index)) (result_of (pop_kept E ids lines b ch)) ≡ result_of (do_pop E ids b.index ch)
    pop_same (txs p) = pop_result b.summaries (do_pop E ids b.index (txs p))
    pop_same (boxes p) =
        let o = popping_with E ids lines b p in
        pop_result (set_summary b.summaries p o.summary) (after_pop b.index (boxes p) o.result.answer o.result.head o.result.staged o.result.deleted)
        ∙ ap (λ (a : Popping). result_of (after_pop b.index (boxes p) a.answer a.head a.staged a.deleted))
        (pop_plain E (ids p) (b.index.parts (boxes p)).head (lines p) (b.summaries p) b.index.lists (b.index.parts (boxes p)).places (enough p) (R p).room)

    pop_keeps : (ch : Series) (r : Popped SummaryIndex) → pop_kept E ids lines b ch ≡ accepted r → AllRight E ids lines r.left
    pop_keeps ch r e q =
        pop_right E ids L lines b ch r q (R q) (pop_was E ids lines b r ch e q) (λ m t h k. apart ch (boxes q) _ t (used ch _ (omega arith)) (used (boxes q) t h) k)

    -- ---- flushes
    flush_keeps : (c : SummaryIndex) → flush_without E ids lines b ≡ accepted c → AllRight E ids lines c
    flush_keeps c e q = flush_right E ids L lines b c e q (R q) (λ n h. let g = after.good.full (boxes q) n h in (g.0, read_same E ids caps c.index (boxes q) n ∙ g.1))
      where
        after : Fl.Flushed W code U apart (abs b.index) (abs c.index)
        after = Fl.flush_ok W code U apart (abs b.index) (abs c.index) F.1
            (Sm.map_keeps_done abs (result_of (do_flush E ids b.index)) c.index (St.flush_store W (abs b.index)) (Ix.flush_does E ids L B s Q U b.index F.0 F.1) (ap result_of (flush_plain E ids L lines b c e)))

    -- ---- spends and unspends
    module _ (p : Parent) (sorted : Op.InOrder N b.index p) where
      entries_sorted : Sorted (St.entries W (abs b.index) (boxes p))
      entries_sorted = Se.sorted_unmap (St.entries W (abs b.index) (boxes p)) (subst (λ (l : List ℤ). Sorted (map absℤ l)) (shows E ids caps b.index (boxes p)) sorted)

      rows_sorted : Sorted (flat (St.store_row W (abs b.index) (boxes p)) (count (boxes p)))
      rows_sorted = Se.sorted_left (flat (St.store_row W (abs b.index) (boxes p)) (count (boxes p))) ((abs b.index).heads (boxes p)) entries_sorted

      -- every row passes
      pub row_passes : (n : ℕ) → n < count (boxes p) → (zs : List ℤ) × (row_checked E (sources_of E ids b.index (boxes p)) n ≡ good zs) × (Ri.row_of E ids lines b p n ≡ done zs)
      row_passes n h =
          let g = F.1.full (boxes p) n h in
          let same = read_same E ids caps b.index (boxes p) n in
          let in_rows : Sorted g.0 = subst (λ (r : Res (List ℤ)). Sorted (row_or r)) g.1 (Se.sorted_row (St.store_row W (abs b.index) (boxes p)) (count (boxes p)) n h rows_sorted) in
          let ordered : order_ok g.0 ≡ true = order_same 0 g.0 g.3 ∙ Se.sorted_ordered g.0 0 in_rows (λ m t. omega arith) in
          let read : spill_read E Box (sources_of E ids b.index (boxes p)) n ≡ good g.0 = good_of (spill_read E Box (sources_of E ids b.index (boxes p)) n) g.0 (same ∙ g.1) in
          (g.0, ap check_row read ∙ rw (eq-eqb (length g.0) 512 g.2, ordered), same ∙ g.1)

      -- the head is in order
      pub head_passes : order_ok (take (b.index.parts (boxes p)).head.len (b.index.parts (boxes p)).places) ≡ true
      head_passes =
          let l = take (b.index.parts (boxes p)).head.len (b.index.parts (boxes p)).places in
          order_same 0 l (F.1.small (boxes p))
          ∙ Se.sorted_ordered l 0 (Se.sorted_right (flat (St.store_row W (abs b.index) (boxes p)) (count (boxes p))) l entries_sorted) (λ m t. omega arith)

      line_right : (n : ℕ) → n < count (boxes p) → Right E (sources_of E ids b.index (boxes p)) (b.summaries p) (count (boxes p)) n
      line_right n h =
          let r = row_passes n h in
          row_right E (sources_of E ids b.index (boxes p)) (b.summaries p) (count (boxes p)) n r.0 r.1 ((R p).line n h ∙ ap (λ (x : Res (List ℤ)). line_of (row_or x)) r.2)

      pub flip_same : (d : Direction) (t : ℤ) → map_res (λ x. x.index) (result_of (flip_with E ids lines d b p t)) ≡ result_of (do_flip E ids d b.index p t)
      flip_same d t =
          let o = flipping_with E ids lines d b p t in
          with_result (set_summary b.summaries p o.summary) (after_flip b.index (boxes p) o.result.answer o.result.head o.result.staged)
          ∙ ap (λ (a : Flipping). result_of (after_flip b.index (boxes p) a.answer a.head a.staged))
          (flip_plain E (ids p) (b.index.parts (boxes p)).head (lines p) (b.summaries p) (enough p) (R p).room d t b.index.lists.staged_counts b.index.lists.staged
          b.index.lists.table_counts b.index.lists.table (b.index.parts (boxes p)).places line_right)

      flip_keeps : (d : Direction) (t : ℤ) (c : SummaryIndex) → flip_with E ids lines d b p t ≡ accepted c → AllRight E ids lines c
      flip_keeps d t c e q =
          flip_right E ids L lines b c p q (R q)
          (record {
            redo = λ n row zs new h f few small.
                let low : n < 2147483647 = omega (arith, F.0.spills_in (boxes p)) in
                (L.redo_length p n row zs new low f few small, L.redo_decode p n row zs new low f few small);
            apart = λ x y h g k. apart (boxes p) (boxes q) x y (used (boxes p) x h) (used (boxes q) y g) k;
          }) (flip_done E ids lines b c p q d t e)

  -- each call with a summary does what the plain call does, and keeps the summaries right
  pub simulation : (U : Series → ℕ → Type 0) → KeysApart N U → Sm.Sims N K (λ b. b.index) (AllRight E ids lines) (Fine U) U
  simulation U apart = record {
    leaves = kept_refusals E ids B s Z;
    start = refl;
    start_inv = start_right;
    shows = λ b R ch. refl;
    staging_full = λ b R h. h;
    deletion_full = λ b R h. h;
    append = λ b ch n c R F u e.
        let q = was_accepted (append_kept E ids lines b ch n) c e in
        (ap result_of (append_done E ids lines b c ch n q 0).plain, append_keeps U apart b R F ch n c u q);
    append_25 = λ b ch n R F e. append_25 U apart b R F ch n e;
    pop = λ b ch R F. record {
      same = pop_same U apart b R F ch;
      keeps = λ c e. pop_keeps U apart b R F ch c (was_accepted (pop_kept E ids lines b ch) c e);
    };
    spend = λ b p t R F o. record {
      same = flip_same U apart b R F p o Spend t;
      keeps = λ c e. flip_keeps U apart b R F p o Spend t c (was_accepted (flip_with E ids lines Spend b p t) c e);
    };
    unspend = λ b p t R F o. record {
      same = flip_same U apart b R F p o Unspend t;
      keeps = λ c e. flip_keeps U apart b R F p o Unspend t c (was_accepted (flip_with E ids lines Unspend b p t) c e);
    };
    flush = λ b R F. record {
      same = with_result b.summaries (do_flush E ids b.index);
      keeps = λ c e. flush_keeps U apart b R F c (was_accepted (flush_without E ids lines b) c e);
    };
  }
