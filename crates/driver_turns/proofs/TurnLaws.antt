-- A turn of a batch: what the code has done is the definition's, and it keeps what was tested.
use Prim.Native.Nat.{ℕ, zero, suc, ◌+◌, ◌-◌, ◌≤◌, ◌<◌}
use mathlib.Core.Path.{◌≡◌, refl, sym, ap, ◌∙◌, subst}
use mathlib.Core.Bool.{Bool, true, false, cond}
use mathlib.Core.List.{List}
use native.Mathlib.Omega.{arith}
use lib.Dec.{eqb, leb}
use lib.IntN.{ℤ}
use lib.ListN.{length, set}
use borrow.Author.Tests.{leb-true, ltb-true}
use Rattle.records.proofs.CheckLaws.{and_right}
use Rattle.segment_id.specs.declared.Kind.TheVariants.{Box, Tx}
use Rattle.stores.proofs.StoreLaws.{length_write}
use Rattle.call_steps.specs.State.{Ready}
use Rattle.call_steps.specs.Steps.{Stepping}
use Rattle.driver_core.specs.Bytes.{Item, item_at, size_at, entry_of, Journal, pushed}
use Rattle.driver_core.specs.Steps.{may_be_lifted}
use Rattle.driver_core.specs.Apply.{Applying, applying, ended_by, stopped, answered, stepped, called, on_item, apply_turns}
use Rattle.driver_calls.specs.declared.Read.{Read}
use Rattle.driver_calls.specs.declared.Read.TheVariants as read
use Rattle.driver_calls.specs.Reads.{item_of, read_at, end_of, is_entry, Sound}
use Rattle.driver_calls.proofs.ReadLaws.{read_means, read_sound, read_fits}
use Rattle.driver_journal.proofs.PushLaws.{entry_length}
use Rattle.driver_steps.specs.Moves.{move_of, made_by, MoveReady}
use Rattle.driver_steps.proofs.MoveLaws.{made_among, move_ready, move_kept}
use Rattle.driver_journal.specs.Journals.{may_go, has_room, kept_by, JournalReady}
use Rattle.driver_turns.specs.Internal.{turn_of, TurnReady}

no : {A : Type 0} → true ≡ false → A
no e = let z : ◌≡◌ {A = ℕ} 0 1 = cc in absurd (omega arith)

-- ---- what is made leaves, by what was read
module _ (s : List ℕ) (r : Applying) where
  abbrev size : ℕ
  size = size_at s r.at

  abbrev done : (journaled : Bool) → Read → Stepping → Applying
  done journaled x y = stepped size (kept_by (is_entry journaled x) y.said.code s r.at r.kept) y r

  -- nothing to make
  ended_item : (journaled : Bool) (x : Read) → (end_of journaled x ≡ 0 → ⊥) → ended_by (end_of journaled x) r ≡ on_item journaled s (item_of s x) r
  ended_item b (read.Append k p n) f = absurd (f refl)
  ended_item b (read.Spend p n) f = absurd (f refl)
  ended_item true (read.Unspend p n) f = refl
  ended_item false (read.Unspend p n) f = absurd (f refl)
  ended_item true (read.Pop k p) f = refl
  ended_item false (read.Pop k p) f = absurd (f refl)
  ended_item b read.Flush f = absurd (f refl)
  ended_item b (read.Change a p n t k) f = absurd (f refl)
  ended_item b read.Bad f = refl
  ended_item b read.Cut f = refl
  ended_item b read.End f = refl

  -- a call beside a journal: with room it is made
  abbrev Room : Bool
  Room = leb (r.kept.used + size) (length r.kept.bytes)

  full : (y : Stepping) → Room ≡ false → ended_by 3 r ≡ cond Room (called true s size y r) (ended_by 3 r)
  full y e = sym (ap (λ (b : Bool). cond b (called true s size y r) (ended_by 3 r)) e)

  roomy : (y : Stepping) → Room ≡ true → called true s size y r ≡ cond Room (called true s size y r) (ended_by 3 r)
  roomy y e = sym (ap (λ (b : Bool). cond b (called true s size y r) (ended_by 3 r)) e)

  full_item : (journaled : Bool) (x : Read) → end_of journaled x ≡ 0 → has_room (is_entry journaled x) r.kept.used size r.kept.bytes ≡ false
      → ended_by 3 r ≡ on_item journaled s (item_of s x) r
  full_item false x z e = no e
  full_item true (read.Append Box p n) z e = full (move_of s (made_by (read.Append Box p n)) r.now) e
  full_item true (read.Append Tx p n) z e = full (move_of s (made_by (read.Append Tx p n)) r.now) e
  full_item true (read.Spend p n) z e = full (move_of s (made_by (read.Spend p n)) r.now) e
  full_item true (read.Unspend p n) z e = no e
  full_item true (read.Pop k p) z e = no e
  full_item true read.Flush z e = no e
  full_item true (read.Change true p n t k) z e = full (move_of s (made_by (read.Change true p n t k)) r.now) e
  full_item true (read.Change false p n t k) z e = full (move_of s (made_by (read.Change false p n t k)) r.now) e
  full_item true read.Bad z e = no e
  full_item true read.Cut z e = no e
  full_item true read.End z e = no e

  made_item : (journaled : Bool) (x : Read) → end_of journaled x ≡ 0 → has_room (is_entry journaled x) r.kept.used size r.kept.bytes ≡ true
      → done journaled x (move_of s (made_by x) r.now) ≡ on_item journaled s (item_of s x) r
  made_item true (read.Append Box p n) z e = roomy (move_of s (made_by (read.Append Box p n)) r.now) e
  made_item true (read.Append Tx p n) z e = roomy (move_of s (made_by (read.Append Tx p n)) r.now) e
  made_item true (read.Spend p n) z e = roomy (move_of s (made_by (read.Spend p n)) r.now) e
  made_item true (read.Unspend p n) z e = absurd (omega (arith, z))
  made_item true (read.Pop k p) z e = absurd (omega (arith, z))
  made_item true read.Flush z e = refl
  made_item true (read.Change true p n t k) z e = roomy (move_of s (made_by (read.Change true p n t k)) r.now) e
  made_item true (read.Change false p n t k) z e = roomy (move_of s (made_by (read.Change false p n t k)) r.now) e
  made_item false (read.Append Box p n) z e = refl
  made_item false (read.Append Tx p n) z e = refl
  made_item false (read.Spend p n) z e = refl
  made_item false (read.Unspend p n) z e = refl
  made_item false (read.Pop k p) z e = refl
  made_item false read.Flush z e = refl
  made_item false (read.Change true p n t k) z e = refl
  made_item false (read.Change false p n t k) z e = refl
  made_item b read.Bad z e = absurd (omega (arith, z))
  made_item b read.Cut z e = absurd (omega (arith, z))
  made_item b read.End z e = absurd (omega (arith, z))

-- ---- a turn: x is what the code has read
module _ (journaled : Bool) (parents : ℕ) (s : List ℕ) (r : Applying) (x : Read) (q : x ≡ read_at parents s r.at) where
  means : on_item journaled s (item_of s x) r ≡ turn_of journaled parents s r
  unfolding turn_of
  means = ap (λ (i : Item). on_item journaled s i r) (ap (item_of s) q ∙ read_means parents s r.at)

  pub turn_ended : (k : ℕ) → k ≡ end_of journaled x → (k ≡ 0 → ⊥) → ended_by k r ≡ turn_of journaled parents s r
  turn_ended k e f = ap (λ (j : ℕ). ended_by j r) e ∙ ended_item s r journaled x (λ z. f (e ∙ z)) ∙ means

  -- all its bytes are there
  pub turn_fits : (k : ℕ) → k ≡ end_of journaled x → k ≡ 0 → r.at + size_at s r.at ≤ length s
  turn_fits k e z = read_fits parents s r.at journaled (ap (end_of journaled) (sym q) ∙ sym e ∙ z)

  -- n is the bytes of what was read, b whether it becomes an entry
  module _ (k n : ℕ) (b : Bool) (e : k ≡ end_of journaled x) (z : k ≡ 0) (m : n ≡ size_at s r.at) (c : b ≡ is_entry journaled x) where
    at_end : end_of journaled x ≡ 0
    at_end = sym e ∙ z

    room_same : has_room b r.kept.used n r.kept.bytes ≡ has_room (is_entry journaled x) r.kept.used (size_at s r.at) r.kept.bytes
    room_same = λ i. has_room (c i) r.kept.used (m i) r.kept.bytes

    pub turn_full : has_room b r.kept.used n r.kept.bytes ≡ false → ended_by 3 r ≡ turn_of journaled parents s r
    turn_full h = full_item s r journaled x at_end (sym room_same ∙ h) ∙ means

    -- y is what it said and left, l whether the driver lifts that
    module _ (h : has_room b r.kept.used n r.kept.bytes ≡ true) (y : Stepping) (w : y ≡ move_of s (made_by x) r.now) (l : Bool) (g : l ≡ may_be_lifted y.said.code) where
      abbrev kept : Journal
      kept = kept_by (is_entry journaled x) y.said.code s r.at r.kept

      whole : cond l (stopped y r) (answered (size_at s r.at) kept y r) ≡ turn_of journaled parents s r
      whole =
          ap (λ (t : Bool). cond t (stopped y r) (answered (size_at s r.at) kept y r)) g ∙ ap (done s r journaled x) w
          ∙ made_item s r journaled x at_end (sym room_same ∙ h) ∙ means

      pub turn_stopped : l ≡ true → stopped y r ≡ turn_of journaled parents s r
      turn_stopped f = sym (ap (λ (t : Bool). cond t (stopped y r) (answered (size_at s r.at) kept y r)) f) ∙ whole

      pub turn_made : l ≡ false → (j : Journal) → j ≡ kept_by b y.said.code s r.at r.kept → (ns : List ℤ) → ns ≡ set r.popped r.made y.said.number
          → applying y.after j (r.at + n) (r.made + 1) 0 (set r.answers r.made y.said.code) ns ≡ turn_of journaled parents s r
      turn_made f j u ns v =
          (λ i. applying y.after ((u ∙ ap (λ (t : Bool). kept_by t y.said.code s r.at r.kept) c) i) (r.at + m i) (r.made + 1) 0 (set r.answers r.made y.said.code) (v i))
          ∙ sym (ap (λ (t : Bool). cond t (stopped y r) (answered (size_at s r.at) kept y r)) f) ∙ whole

-- ---- it asks nothing more than was tested
module _ (journaled : Bool) (parents : ℕ) (s : List ℕ) (r : Applying) (f : TurnReady parents s r) where
  pub turn_asks : (x : Read) → x ≡ read_at parents s r.at → MoveReady s (made_by x) r.now
  turn_asks x q =
      move_ready parents s r.now f.ready (made_by x) (made_among parents s x (subst (Sound parents s) (sym q) (read_sound parents s r.at)))

  -- ---- and keeps it
  pub record After (o : Applying) : Type 0 where
    pub ready : Ready parents o.now
    pub entries : JournalReady o.kept
    pub within : o.at ≤ length s

  stays : (k : ℕ) → After (ended_by k r)
  stays k = record { ready = f.ready; entries = f.entries; within = f.within }

  pushed_ready : r.at + size_at s r.at ≤ length s → leb (r.kept.used + size_at s r.at) (length r.kept.bytes) ≡ true → JournalReady (pushed s r.at r.kept)
  unfolding pushed
  pushed_ready h e =
      let l = leb-true (r.kept.used + size_at s r.at) (length r.kept.bytes) e in
      let n = entry_length s r.at h in
      record {
        used_in = omega (arith, l, length_write r.kept.used (entry_of s r.at) r.kept.bytes (omega (arith, l, n)));
        few = omega (arith, f.entries.few);
      }

  kept_ready : (b : Bool) (code : ℕ) → r.at + size_at s r.at ≤ length s → has_room b r.kept.used (size_at s r.at) r.kept.bytes ≡ true
      → JournalReady (kept_by b code s r.at r.kept)
  kept_ready false code h e = f.entries
  kept_ready true code h e = by_code (eqb code 0)
    where
      by_code : (t : Bool) → JournalReady (cond t (pushed s r.at r.kept) r.kept)
      by_code true = pushed_ready h e
      by_code false = f.entries

  module _ (x : Read) (q : x ≡ read_at parents s r.at) where
    moved : Ready parents (move_of s (made_by x) r.now).after
    moved = move_kept parents s r.now f.ready (made_by x) (made_among parents s x (subst (Sound parents s) (sym q) (read_sound parents s r.at)))

    by_lifted : (y : Stepping) → Ready parents y.after → (j : Journal) → JournalReady j → r.at + size_at s r.at ≤ length s → (t : Bool)
        → After (cond t (stopped y r) (answered (size_at s r.at) j y r))
    by_lifted y a j k h true = record { ready = a; entries = f.entries; within = f.within }
    by_lifted y a j k h false = record { ready = a; entries = k; within = h }

    by_room : end_of journaled x ≡ 0 → (t : Bool) → has_room (is_entry journaled x) r.kept.used (size_at s r.at) r.kept.bytes ≡ t → After (on_item journaled s (item_of s x) r)
    by_room z true e =
        let h = read_fits parents s r.at journaled (ap (end_of journaled) (sym q) ∙ z) in
        let y = move_of s (made_by x) r.now in
        subst After (made_item s r journaled x z e) (by_lifted y moved _ (kept_ready (is_entry journaled x) y.said.code h e) h (may_be_lifted y.said.code))
    by_room z false e = subst After (full_item s r journaled x z e) (stays 3)

    by_end : (k : ℕ) → end_of journaled x ≡ k → After (on_item journaled s (item_of s x) r)
    by_end zero e = by_room e _ refl
    by_end (suc k) e = subst After (ended_item s r journaled x (λ z. omega (arith, z, e))) (stays (end_of journaled x))

    after_read : After (turn_of journaled parents s r)
    after_read = subst After (means journaled parents s r x q) (by_end (end_of journaled x) refl)

  pub turn_kept : After (turn_of journaled parents s r)
  turn_kept = after_read (read_at parents s r.at) refl

-- ---- the loop: the state and the journal keep what 25 tests, and what is left to make ends where the whole batch ends
abbrev go : Applying → Bool
go r = may_go r.made r.ended r.answers

pub record Kept (journaled : Bool) (parents : ℕ) (s : List ℕ) (left : ℕ) (r r₀ : Applying) : Type 0 where
  pub ready : Ready parents r.now
  pub entries : JournalReady r.kept
  pub within : r.at ≤ length s
  pub rest : apply_turns journaled parents s left r ≡ apply_turns journaled parents s (length s + 1) r₀

module _ (journaled : Bool) (parents : ℕ) (s : List ℕ) where
  turns_more : (n : ℕ) (r : Applying) → 0 < n → go r ≡ true → apply_turns journaled parents s (n - 1) (turn_of journaled parents s r) ≡ apply_turns journaled parents s n r
  unfolding apply_turns turn_of
  turns_more zero r h e = absurd (omega arith)
  turns_more (suc n) r h e =
      let p : suc n - 1 ≡ n = omega arith in
      let o : Applying = on_item journaled s (item_at parents s r.at) r in
      ap (λ (j : ℕ). apply_turns journaled parents s j o) p ∙ sym (ap (λ (b : Bool). cond b (apply_turns journaled parents s n o) r) e)

  turns_stop : (n : ℕ) (r : Applying) → go r ≡ false → r ≡ apply_turns journaled parents s n r
  unfolding apply_turns
  turns_stop zero r e = refl
  turns_stop (suc n) r e = sym (ap (λ (b : Bool). cond b (apply_turns journaled parents s n (on_item journaled s (item_at parents s r.at) r)) r) e)

  turns_end : (n : ℕ) (r : Applying) → n ≤ 0 → r ≡ apply_turns journaled parents s n r
  unfolding apply_turns
  turns_end zero r h = refl
  turns_end (suc n) r h = absurd (omega arith)

module _ (journaled : Bool) (parents : ℕ) (s : List ℕ) where
  pub kept_start : (r : Applying) → Ready parents r.now → JournalReady r.kept → r.at ≡ 0 → Kept journaled parents s (length s + 1) r r
  kept_start r f j e = record { ready = f; entries = j; within = omega (arith, e); rest = refl }

  module _ (left : ℕ) (r r₀ : Applying) (k : Kept journaled parents s left r r₀) where
    pub kept_turn_ready : go r ≡ true → TurnReady parents s r
    kept_turn_ready e =
        record { ready = k.ready; entries = k.entries; within = k.within; room = ltb-true r.made (length r.answers) (and_right (eqb r.ended 0) _ e) }

    pub kept_turn : (r' : Applying) → 0 < left → go r ≡ true → r' ≡ turn_of journaled parents s r → Kept journaled parents s (left - 1) r' r₀
    kept_turn r' h e q =
        let t = subst (After journaled parents s r (kept_turn_ready e)) (sym q) (turn_kept journaled parents s r (kept_turn_ready e)) in
        record {
          ready = t.ready;
          entries = t.entries;
          within = t.within;
          rest = ap (apply_turns journaled parents s (left - 1)) q ∙ turns_more journaled parents s left r h e ∙ k.rest;
        }

    pub kept_stop : go r ≡ false → r ≡ apply_turns journaled parents s (length s + 1) r₀
    kept_stop e = turns_stop journaled parents s left r e ∙ k.rest

    pub kept_end : left ≤ 0 → r ≡ apply_turns journaled parents s (length s + 1) r₀
    kept_end h = turns_end journaled parents s left r h ∙ k.rest
