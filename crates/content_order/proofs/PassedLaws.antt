-- What the checks of an address give to the comparison.
use Prim.Native.Nat.{ℕ}
use mathlib.Core.Path.{◌≡◌, refl, sym, ◌∙◌, ap}
use mathlib.Core.Bool.{Bool, true, false, not, ◌&&◌, ◌||◌}
use mathlib.Core.List.{List}
use native.Mathlib.Omega.{arith}
use lib.Dec.{leb}
use lib.IntN.{ℤ, nat_abs}
use lib.ListN.{length, take}
use mir.Syntax.{w32}
use mir.Val.{SFits}
use borrow.Author.Tests.{leb-true, not-false}
use Rattle.index_types.specs.Limits.{token_limit}
use Rattle.index_types.specs.declared.RowEdition.{RowEdition}
use Rattle.index_types.specs.declared.HeadCounts.{HeadCounts}
use Rattle.signed.specs.Sign.{is_negative}
use Rattle.records.specs.Records.{keys}
use Rattle.records.specs.Find.{distinct}
use Rattle.records.specs.Checks.{records_ok}
use Rattle.records.proofs.CheckLaws.{and_left, and_right, records_ok_facts}
use Rattle.segment_id.specs.declared.Kind.{Kind}
use Rattle.buffer_core.specs.Edition.{good, edition_of, record_size, row_limit_of}
use Rattle.buffer_core.specs.Spills.{Sources, head_ok}
use Rattle.buffer_core.specs.Rows.{rows_up}
use Rattle.buffer_core.proofs.HeadLaws.{HeadOk, head_facts, spills_below}
use Rattle.std.specs.Prelude.{Ok}
use Rattle.spill_rows.specs.Internal.{read_of}
use Rattle.token_order.specs.Internal.{TokensReady}
use Rattle.side_order.specs.Side.{row_taken, numbers_in}
use Rattle.side_order.specs.Internal.{RowsReady, TakenSide, side_entries}
use Rattle.side_order.proofs.SideLaws.{side_taken}
use Rattle.address_ranking.specs.Rank.{Address, address_ok, id_twice, passes, sources_in}
use Rattle.content_order.specs.Internal.{side_in, PassedSide, PassedSides, Passed, Taken}

-- ---- a side

module _ (v : RowEdition) (kind : Kind) (w : Sources) (c : HeadCounts) (head : List ℤ) (P : PassedSide v kind w c head) where
  abbrev facts : (is_negative c.spills ≡ false) × (read_of (rows_up (row_taken (edition_of v) kind w) 0 (nat_abs c.spills)) ≡ (Ok tt))
      × (side_in v kind w c head ≡ good (side_entries v kind w (nat_abs c.spills) (take c.len head)))
  facts = side_taken (edition_of v) kind w c.spills (take c.len head) (read_of (side_in v kind w c head)) refl P.taken

  pub not_negative : is_negative c.spills ≡ false
  not_negative = facts.0

  pub side_ready : SFits w32 c.spills → (n : ℕ) → n ≡ nat_abs c.spills → TakenSide v kind w n head c.len
  side_ready f n e = record {
    ready = record {
      rows = record { in_staged = P.rows.in_staged; in_table = P.rows.in_table; apart = P.rows.apart; few_rows = spills_below c.spills not_negative f n e };
      places = P.places;
      few = P.few;
    };
    taken = ap (λ (m : ℕ). read_of (rows_up (row_taken (edition_of v) kind w) 0 m)) e ∙ facts.1;
  }

  pub side_numbers : (n : ℕ) → n ≡ nat_abs c.spills → side_entries v kind w n (take c.len head) ≡ numbers_in (side_in v kind w c head)
  side_numbers n e = ap (λ (m : ℕ). side_entries v kind w m (take c.len head)) e ∙ sym (ap numbers_in facts.2)

-- ---- an address

module _ (a : Address) (p : passes a ≡ true) where
  abbrev tokens_ok : Bool
  tokens_ok = not a.counts.held || leb a.counts.tokens token_limit

  abbrev lists_ok : Bool
  lists_ok = records_ok (record_size a.edition) (row_limit_of a.edition) a.counts.staged a.staged
      && records_ok (record_size a.edition) (row_limit_of a.edition) a.counts.table a.table

  abbrev heads_ok : Bool
  heads_ok = head_ok a.counts.boxes a.boxes && (head_ok a.counts.txs a.txs && lists_ok)

  whole : tokens_ok && heads_ok ≡ true
  unfolding address_ok
  whole = p

  pub tokens_pass : not a.counts.held || leb a.counts.tokens token_limit ≡ true
  tokens_pass = and_left tokens_ok heads_ok whole

  heads_pass : heads_ok ≡ true
  heads_pass = and_right tokens_ok heads_ok whole

  after_boxes : head_ok a.counts.txs a.txs && lists_ok ≡ true
  after_boxes = and_right (head_ok a.counts.boxes a.boxes) (head_ok a.counts.txs a.txs && lists_ok) heads_pass

  box_head : HeadOk a.counts.boxes a.boxes
  box_head = head_facts a.counts.boxes a.boxes (and_left (head_ok a.counts.boxes a.boxes) (head_ok a.counts.txs a.txs && lists_ok) heads_pass)

  tx_head : HeadOk a.counts.txs a.txs
  tx_head = head_facts a.counts.txs a.txs (and_left (head_ok a.counts.txs a.txs) lists_ok after_boxes)

  pub rows_ready : RowsReady a.edition (sources_in a) 0
  rows_ready =
      let both = and_right (head_ok a.counts.txs a.txs) lists_ok after_boxes in
      let size = record_size a.edition in
      let limit = row_limit_of a.edition in
      let s = records_ok_facts size limit a.counts.staged a.staged (and_left (records_ok size limit a.counts.staged a.staged) (records_ok size limit a.counts.table a.table) both) in
      let t = records_ok_facts size limit a.counts.table a.table (and_right (records_ok size limit a.counts.staged a.staged) (records_ok size limit a.counts.table a.table) both) in
      record { in_staged = s.bounds.within; in_table = t.bounds.within; apart = t.apart; few_rows = omega arith }

-- ---- 41

pub ids_apart : (a : Address) → id_twice a.counts a.ids ≡ false → a.counts.held ≡ true → distinct (keys 32 a.counts.tokens a.ids) ≡ true
unfolding id_twice
ids_apart a p h = not-false _ (rw h at p)

module _ (a : Address) (P : Passed a) where
  pub tokens_ready : length a.ids ≡ 4096 → length a.amounts ≡ 128 → a.counts.held ≡ true → TokensReady a.ids a.amounts a.counts.tokens
  tokens_ready n m h = record { id_bytes = n; places = m; few = leb-true a.counts.tokens 128 (rw h at (tokens_pass a P.buffers)); apart = ids_apart a P.once h }

pub passed_sides : (a : Address) → Taken a → PassedSides a.edition a.counts (sources_in a) a.boxes a.txs
passed_sides a T =
    let p = T.passed.buffers in
    let b = box_head a p in
    let t = tx_head a p in
    let r = rows_ready a p in
    record {
      box_side = record { rows = r; places = b.long; few = b.few; taken = T.boxes };
      tx_side = record { rows = r; places = t.long; few = t.few; taken = T.txs };
    }
