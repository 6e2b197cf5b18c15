-- No refusal is the number 0, so that a code of 0 says that a call was accepted.
use Prim.Native.Nat.{ℕ, zero, suc, ◌+◌, ◌-◌, ◌<◌}
use mathlib.Core.Bool.{Bool, true, false, cond, ◌&&◌, ◌||◌}
use mathlib.Core.List.{List}
use native.Mathlib.Omega.{arith}
use lib.Dec.{eqb, leb, ltb}
use lib.IntN.{ℤ, pos, nat_abs, ◌+ℤ◌, ◌-ℤ◌}
use lib.ListN.{length, take, get_or}
use Rattle.signed.specs.Sign.{is_negative}
use Rattle.std.specs.Prelude.{Option, Some, None, Ok, Err}
use Rattle.signed.specs.Checked.{checked}
use Rattle.refusal.specs.Answers.{Answer}
use Rattle.segment_core.specs.Reading.{bad}
use Rattle.segment_id.specs.declared.Kind.{Kind}
use Rattle.segment_id.specs.declared.Kind.TheVariants.{Box}
use Rattle.entries.specs.Order.{order_ok}
use Rattle.entries.specs.Flip.{position}
use Rattle.entries.specs.declared.Position.{Position}
use Rattle.entries.specs.declared.Position.TheVariants.{At, Seen, Absent}
use Rattle.index_types.specs.declared.ListCounts.{ListCounts}
use Rattle.records.specs.declared.Place.{Place}
use Rattle.records.specs.declared.Place.TheVariants.{Staged, Table, Missing}
use Rattle.records.specs.Changes.{full_for}
use Rattle.index_types.specs.declared.HeadCounts.{HeadCounts}
use Rattle.buffer_core.specs.declared.Direction.{Direction}
use Rattle.index_types.specs.Answers.{Appended}
use Rattle.index_types.specs.Answers.{Popped}
use Rattle.index_types.specs.Answers.{Flipped}
use Rattle.index_types.specs.Answers.{Flushed}
use Rattle.buffer_core.specs.Answers.{Lead}
use Rattle.buffer_core.specs.Answers.{Low}
use Rattle.buffer_core.specs.declared.Look.{Look}
use Rattle.buffer_core.specs.declared.Look.TheVariants.{Take, Stop, Next, Fail}
use Rattle.buffer_core.specs.declared.Walk.{Walk}
use Rattle.buffer_core.specs.declared.Walk.TheVariants.{Hit, Ended, Failed}
use Rattle.buffer_core.specs.Edition.{edition_1, RowRead}
use Rattle.buffer_core.specs.Edition as edition
use Rattle.buffer_core.specs.Spills.{Sources, sources, place_at, spill_read}
use Rattle.buffer_core.specs.Append.{Appending, append_ok, spilled, spill_of, append_core, append_of}
use Rattle.buffer_core.specs.Pop.{Popping, Lists, lists_ok, pop_ok, merged, merge_of, unspill_of, pop_core, pop_of}
use Rattle.buffer_core.specs.Flip.{check_row, lead_of, half, middle, search_by, look_past, look_by, look_in, look_of, walk_by, walk_from, Effect, refuse, flip_head, stage, head_first, spends, row_checked, lead_at, look_at, stage_from, stage_at, after_walk, after_search, in_rows, in_order, flip_effect, Flipping, done_by, flip_core, flip_ok, flip_of}
use Rattle.buffer_core.specs.Flush.{Flushing, new_keys, flush_core, flush_of}
use Rattle.buffer_core.specs.Flush as fl
use Rattle.balance.specs.declared.Balance.{Balance}
use Rattle.balance.specs.declared.Outcome.{Outcome}
use Rattle.balance_tokens.specs.Tokens.{Held, Changed, held, refused_by, sum_at, add_token, difference_at, subtract_token, change_token, and_then, change_tokens, place_of, id_at}
use Rattle.balance.specs.Boxes.{buffers_ok, nanos_after, held_by, settled, box_by, change_box}
use Rattle.buffer_core.proofs.RefusedLaws.{both}
use Rattle.balance_laws.specs.Calls.{ids_of, amounts_of, answered, outcome_of}
use Rattle.ledger.specs.Calls.{Tokens}
use Rattle.ledger.specs.Ledger as ledger
use Rattle.ledger.specs.Run.{Made, accepted, refused_leaving}
use Rattle.history.specs.Index.{Index, kind_of, appending_to, do_append, popping_from, do_pop, flipping_in, do_flip, flushing_of, do_flush}
use Rattle.history.specs.Index as index
use Rattle.driver_laws.proofs.RowCodes.{RowNotZero, spill_coded}

-- ---- append, pop, flush
abbrev AppendNotZero : Appended → Type 0
AppendNotZero (Ok (h, c)) = Unit {0}
AppendNotZero (Err r) = 0 < r

append_coded : (kind : Kind) (parent : List ℕ) (h : HeadCounts) (z : ℤ) (c : ListCounts) (head : List ℤ) (staged : List ℕ) → AppendNotZero (append_of edition_1 kind parent h z c head staged).answer
unfolding append_of append_core spill_of spilled
append_coded kind parent h z c head staged =
    let P : Appending → Type 0 = λ o. AppendNotZero o.answer in
    both P (append_ok edition_1 h c head staged)
    (both P (is_negative h.spills) (omega arith)
    (both P (is_negative z) (omega arith)
    (both P (ltb h.len 512) tt
    (both P (leb 2147483647 (nat_abs h.spills)) (omega arith)
    (both P (full_for 10288 c (edition_1.key kind parent (pos (nat_abs h.spills))) staged) (omega arith) tt))))) (omega arith)

abbrev PopNotZero : Popped → Type 0
PopNotZero (Ok (z, h, c, d)) = Unit {0}
PopNotZero (Err r) = 0 < r

merge_coded : (b : Lists) (head : List ℤ) (x : RowRead) → RowNotZero x → (key : List ℕ) (spills : ℕ) → PopNotZero (merge_of edition_1 x key spills b head).answer
unfolding merge_of merged
merge_coded b head (edition.bad r) n key spills = n
merge_coded b head (edition.good zs) n key spills =
    both (λ (o : Popping). PopNotZero o.answer) (eqb (length zs) 0) (omega arith)
    (both (λ (o : Popping). PopNotZero o.answer) (full_for 32 b.deleted_counts key b.deleted) (omega arith) tt)

pop_coded : (kind : Kind) (parent : List ℕ) (h : HeadCounts) (b : Lists) (head : List ℤ) → PopNotZero (pop_of edition_1 kind parent h b head).answer
unfolding pop_of pop_core unspill_of
pop_coded kind parent h b head =
    both P (pop_ok edition_1 h b head)
    (both P (is_negative h.spills) (omega arith)
    (both P (ltb 0 h.len) tt
    (both P (eqb (nat_abs h.spills) 0) (omega arith)
    (merge (spill_read edition_1 kind w (nat_abs h.spills - 1)) (spill_coded kind w (nat_abs h.spills - 1)) (edition_1.key kind parent (pos (nat_abs h.spills - 1))) (nat_abs h.spills - 1))))) (omega arith)
  where
    P : Popping → Type 0
    P o = PopNotZero o.answer

    w : Sources
    w = sources parent b.staged b.staged_counts.count b.table b.table_counts.count

    merge : (x : RowRead) → RowNotZero x → (key : List ℕ) (spills : ℕ) → P (merge_of edition_1 x key spills b head)
    merge x n key spills = merge_coded b head x n key spills

abbrev FlushNotZero : Flushed → Type 0
FlushNotZero (Ok (t, c, d)) = Unit {0}
FlushNotZero (Err r) = 0 < r

flush_coded : (b : Lists) → FlushNotZero (flush_of edition_1 b).answer
unfolding flush_of flush_core fl.flushed
flush_coded b =
    let P : Flushing → Type 0 = λ o. FlushNotZero o.answer in
    both P (lists_ok edition_1 b) (both P (leb (new_keys edition_1 b) (b.table_counts.capacity - b.table_counts.count)) tt (omega arith)) (omega arith)

-- ---- spend and unspend
check_coded : (x : RowRead) → RowNotZero x → RowNotZero (check_row x)
check_coded (edition.bad r) h = h
check_coded (edition.good zs) h = both RowNotZero (eqb (length zs) 512 && order_ok zs) tt (omega arith)

abbrev LowNotZero : Low → Type 0
LowNotZero (Ok n) = Unit {0}
LowNotZero (Err r) = 0 < r

abbrev LeadNotZero : Lead → Type 0
LeadNotZero (Ok n) = Unit {0}
LeadNotZero (Err r) = 0 < r

lead_coded : (x : RowRead) → RowNotZero x → LeadNotZero (lead_of x)
lead_coded (edition.bad r) h = h
lead_coded (edition.good zs) h = tt

half_coded : (x : Lead) → LeadNotZero x → (target : ℕ) (u l : Low) → LowNotZero u → LowNotZero l → LowNotZero (half x target u l)
half_coded (Ok n) h target u l a b = both LowNotZero (leb n target) a b
half_coded (Err r) h target u l a b = h

search_coded : (f : ℕ → Lead) → ((n : ℕ) → LeadNotZero (f n)) → (target k low high : ℕ) → LowNotZero (search_by f target k low high)
unfolding search_by
search_coded f g target zero low high = tt
search_coded f g target (suc k) low high =
    both LowNotZero (ltb low high)
    (half_coded (f (middle low high)) (g (middle low high)) target _ _ (search_coded f g target k (middle low high + 1) high) (search_coded f g target k low (middle low high))) tt

abbrev LookNotZero : Look → Type 0
LookNotZero (Take i) = Unit {0}
LookNotZero (Stop s) = Unit {0}
LookNotZero (Next s) = Unit {0}
LookNotZero (Fail r) = 0 < r

past_coded : (ends seen : Bool) → LookNotZero (look_past ends seen)
past_coded true seen = tt
past_coded false seen = tt

look_by_coded : (x : Position) (ends : Bool) → LookNotZero (look_by x ends)
look_by_coded (At i) ends = tt
look_by_coded Seen ends = past_coded ends true
look_by_coded Absent ends = past_coded ends false

look_coded : (x : RowRead) → RowNotZero x → (target : ℕ) (d : Bool) → LookNotZero (look_of x target d)
unfolding look_in
look_coded (edition.bad r) h target d = h
look_coded (edition.good zs) h target d = both LookNotZero (ltb _ target) tt (look_by_coded (position d target zs 0 false) _)

abbrev WalkNotZero : Walk → Type 0
WalkNotZero (Hit n i) = Unit {0}
WalkNotZero (Ended s) = Unit {0}
WalkNotZero (Failed r) = 0 < r

walk_by_coded : (x : Look) → LookNotZero x → (n : ℕ) (seen : Bool) (rest : Bool → Walk) → ((s : Bool) → WalkNotZero (rest s)) → WalkNotZero (walk_by x n seen rest)
walk_by_coded (Take i) h n seen rest g = tt
walk_by_coded (Stop s) h n seen rest g = tt
walk_by_coded (Next s) h n seen rest g = g (seen || s)
walk_by_coded (Fail r) h n seen rest g = h

walk_coded : (f : ℕ → Look) → ((n : ℕ) → LookNotZero (f n)) → (n : ℕ) (seen : Bool) → WalkNotZero (walk_from f n seen)
unfolding walk_from
walk_coded f g zero seen = tt
walk_coded f g (suc n) seen = walk_by_coded (f n) (g n) n seen (λ s. walk_from f n s) (λ s. walk_coded f g n s)

abbrev EffectNotZero : Effect → Type 0
EffectNotZero (refuse r) = 0 < r
EffectNotZero (flip_head i) = Unit {0}
EffectNotZero (stage slot count key row) = Unit {0}

module _ (w : Sources) (capacity target : ℕ) (d : Bool) where
  stage_coded : (n at : ℕ) → EffectNotZero (stage_at edition_1 w capacity n at)
  unfolding stage_at
  stage_coded n at = by (place_at edition_1 Box w n)
    where
      by : (x : Place) → EffectNotZero (stage_from edition_1 w capacity n at x)
      by (Staged i) = tt
      by (Table i) = both EffectNotZero (ltb w.staged_count capacity) tt (omega arith)
      by Missing = omega arith

  seen_coded : (seen : Bool) → 0 < cond seen 14 15
  seen_coded true = omega arith
  seen_coded false = omega arith

  walked_coded : (x : Walk) → WalkNotZero x → EffectNotZero (after_walk edition_1 w capacity x)
  walked_coded (Hit n at) h = stage_coded n at
  walked_coded (Ended seen) h = seen_coded seen
  walked_coded (Failed r) h = h

  checked_coded : (n : ℕ) → RowNotZero (row_checked edition_1 w n)
  checked_coded n = check_coded (spill_read edition_1 Box w n) (spill_coded Box w n)

  rows_coded : (spills : ℕ) (seen : Bool) → EffectNotZero (in_rows edition_1 w capacity target d spills seen)
  unfolding in_rows
  rows_coded spills seen =
      by (search_by (lead_at edition_1 w) target (spills - 0) 0 spills)
      (search_coded (lead_at edition_1 w) (λ n. lead_coded (row_checked edition_1 w n) (checked_coded n)) target (spills - 0) 0 spills)
    where
      by : (x : Low) → LowNotZero x → EffectNotZero (after_search edition_1 w capacity target d seen x)
      by (Ok low) h =
          walked_coded (walk_from (look_at edition_1 w target d) low seen)
          (walk_coded (look_at edition_1 w target d) (λ n. look_coded (row_checked edition_1 w n) (checked_coded n) target d) low seen)
      by (Err r) h = h

  order_coded : (spills : ℕ) (zs : List ℤ) → EffectNotZero (in_order edition_1 w capacity target d spills zs)
  unfolding in_order
  order_coded spills zs = by (position d target zs 0 false)
    where
      by : (x : Position) → EffectNotZero (head_first x (λ seen. in_rows edition_1 w capacity target d spills seen))
      by (At i) = tt
      by Seen = rows_coded spills true
      by Absent = rows_coded spills false

effect_coded : (w : Sources) (capacity : ℕ) (d : Direction) (t spills : ℤ) (zs : List ℤ) → EffectNotZero (flip_effect edition_1 w capacity d t spills zs)
unfolding flip_effect
effect_coded w capacity d t spills zs =
    both EffectNotZero (leb 9223372036854775808 (nat_abs t)) (omega arith)
    (both EffectNotZero (order_ok zs)
    (both EffectNotZero (is_negative spills) (omega arith) (order_coded w capacity (nat_abs t) (spends d) (nat_abs spills) zs)) (omega arith))

abbrev FlipNotZero : Flipped → Type 0
FlipNotZero (Ok c) = Unit {0}
FlipNotZero (Err r) = 0 < r

flip_coded : (d : Direction) (parent : List ℕ) (h : HeadCounts) (z : ℤ) (c : ListCounts) (staged : List ℕ) (e : ListCounts) (table : List ℕ) (head : List ℤ)
    → FlipNotZero (flip_of edition_1 d parent h z c staged e table head).answer
unfolding flip_of flip_core
flip_coded d parent h z c staged e table head =
    both (λ (o : Flipping). FlipNotZero o.answer) (flip_ok edition_1 h c staged e table head)
    (by (flip_effect edition_1 w c.capacity d z h.spills (take h.len head)) (effect_coded w c.capacity d z h.spills (take h.len head))) (omega arith)
  where
    w : Sources
    w = sources parent staged c.count table e.count

    by : (x : Effect) → EffectNotZero x → FlipNotZero (done_by edition_1 x c head staged).answer
    by (refuse r) n = n
    by (flip_head i) n = tt
    by (stage slot count key row) n = tt

-- ---- credit and debit: the refusals are 23, 24 and 25, so that what these have every one of them has
abbrev pub AnswerHas : (ℕ → Type 0) → Answer → Type 0
AnswerHas Q (Ok tt) = Unit {0}
AnswerHas Q (Err r) = Q r

module _ (Q : ℕ → Type 0) (q23 : Q 23) (q24 : Q 24) (q25 : Q 25) where
  abbrev ChangedHas : Changed → Type 0
  ChangedHas (held h) = Unit {0}
  ChangedHas (refused_by r) = Q r

  token_coded : (adding : Bool) (h : Held) (key : List ℕ) (v : ℤ) → ChangedHas (change_token adding h key v)
  unfolding add_token subtract_token
  token_coded adding h key v =
      both ChangedHas adding
      (both ChangedHas (ltb (place_of key h.ids h.count) h.count) (sums (checked (get_or h.amounts (place_of key h.ids h.count) (pos 0) +ℤ v)))
      (both ChangedHas (ltb h.count 128) tt q24))
      (both ChangedHas (ltb (place_of key h.ids h.count) h.count) (differences (checked (get_or h.amounts (place_of key h.ids h.count) (pos 0) -ℤ v))) tt)
    where
      sums : (x : Option ℤ) → ChangedHas (sum_at h (place_of key h.ids h.count) x)
      sums (Some u) = tt
      sums None = q23

      differences : (x : Option ℤ) → ChangedHas (difference_at h (place_of key h.ids h.count) x)
      differences (Some u) = tt
      differences None = q23

  then_changed : (f : Held → Changed) → ((h : Held) → ChangedHas (f h)) → (x : Changed) → ChangedHas x → ChangedHas (and_then x f)
  then_changed f g (held h) k = g h
  then_changed f g (refused_by r) k = k

  tokens_coded : (adding : Bool) (ids : List ℕ) (amounts : List ℤ) (j n : ℕ) (h : Held) → ChangedHas (change_tokens adding ids amounts j n h)
  unfolding change_tokens
  tokens_coded adding ids amounts j zero h = tt
  tokens_coded adding ids amounts j (suc n) h =
      then_changed (change_tokens adding ids amounts (suc j) n) (λ g. tokens_coded adding ids amounts (suc j) n g)
      (change_token adding h (id_at ids j) (get_or amounts j (pos 0))) (token_coded adding h (id_at ids j) (get_or amounts j (pos 0)))

  pub box_coded : (adding : Bool) (b : Balance) (nanos : ℤ) (ids : List ℕ) (amounts : List ℤ) (n : ℕ) → AnswerHas Q (change_box adding b nanos ids amounts n).answer
  unfolding change_box
  box_coded adding b nanos ids amounts n =
      both (λ (o : Outcome). AnswerHas Q o.answer) (buffers_ok b.count ids amounts n) (by (nanos_after adding b.nanos nanos)) q25
    where
      settled_coded : (v : ℤ) (x : Changed) → ChangedHas x → AnswerHas Q (settled b v x).answer
      settled_coded v (held h) k = tt
      settled_coded v (refused_by r) k = k

      by : (x : Option ℤ) → AnswerHas Q (box_by adding b ids amounts n x).answer
      by (Some v) = settled_coded v (change_tokens adding ids amounts 0 n (held_by b)) (tokens_coded adding ids amounts 0 n (held_by b))
      by None = q23

-- ---- the operations of the machine
abbrev pub NotZero : {S A : Type 0} → Made S A → Type 0
NotZero (accepted a) = Unit {0}
NotZero (refused_leaving k b) = 0 < k

module _ (ids : ledger.Parent → List ℕ) where
  pub do_append_coded : (b : Index) (ch : ledger.Series) (n : ℤ) → NotZero (do_append edition_1 ids b ch n)
  do_append_coded b ch n = by o.answer (append_coded (kind_of ch) (ids (ledger.parent_of ch)) (b.parts ch).head n b.lists.staged_counts (b.parts ch).places b.lists.staged)
    where
      o : Appending
      o = appending_to edition_1 ids b ch n

      by : (x : Appended) → AppendNotZero x → NotZero (index.after_append b ch x (appending_to edition_1 ids b ch n).head (appending_to edition_1 ids b ch n).staged)
      by (Ok (h, c)) k = tt
      by (Err r) k = k

  pub do_pop_coded : (b : Index) (ch : ledger.Series) → NotZero (do_pop edition_1 ids b ch)
  do_pop_coded b ch = by (popping_from edition_1 ids b ch).answer (pop_coded (kind_of ch) (ids (ledger.parent_of ch)) (b.parts ch).head b.lists (b.parts ch).places)
    where
      by : (x : Popped) → PopNotZero x → NotZero (index.after_pop b ch x (popping_from edition_1 ids b ch).head (popping_from edition_1 ids b ch).staged (popping_from edition_1 ids b ch).deleted)
      by (Ok (z, h, c, d)) k = tt
      by (Err r) k = k

  pub do_flip_coded : (d : Direction) (b : Index) (p : ledger.Parent) (t : ℤ) → NotZero (do_flip edition_1 ids d b p t)
  do_flip_coded d b p t =
      by (flipping_in edition_1 ids d b p t).answer
      (flip_coded d (ids p) (b.parts (ledger.boxes p)).head t b.lists.staged_counts b.lists.staged b.lists.table_counts b.lists.table (b.parts (ledger.boxes p)).places)
    where
      by : (x : Flipped) → FlipNotZero x → NotZero (index.after_flip b (ledger.boxes p) x (flipping_in edition_1 ids d b p t).head (flipping_in edition_1 ids d b p t).staged)
      by (Ok c) k = tt
      by (Err r) k = k

  pub do_flush_coded : (b : Index) → NotZero (do_flush edition_1 ids b)
  do_flush_coded b = by (flushing_of edition_1 ids b).answer (flush_coded b.lists)
    where
      by : (x : Flushed) → FlushNotZero x → NotZero (index.after_flush b x (flushing_of edition_1 ids b).table (flushing_of edition_1 ids b).staged (flushing_of edition_1 ids b).deleted)
      by (Ok (t, c, d)) k = tt
      by (Err r) k = k

pub change_coded : (adding : Bool) (b : Balance) (nanos : ℤ) (ts : Tokens) → NotZero (outcome_of (change_box adding b nanos (ids_of ts) (amounts_of ts) (length ts)))
change_coded adding b nanos ts =
    by (change_box adding b nanos (ids_of ts) (amounts_of ts) (length ts)).answer
    (box_coded (λ r. 0 < r) (omega arith) (omega arith) (omega arith) adding b nanos (ids_of ts) (amounts_of ts) (length ts))
  where
    by : (x : Answer) → AnswerHas (λ r. 0 < r) x → NotZero (answered x (change_box adding b nanos (ids_of ts) (amounts_of ts) (length ts)).balance)
    by (Ok tt) k = tt
    by (Err r) k = k
