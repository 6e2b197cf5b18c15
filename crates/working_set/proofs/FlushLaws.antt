-- A flush of the bytes is the transaction on what they show, and a transaction leaves a part a part.
use Prim.Native.Nat.{ℕ, ◌-◌, ◌≤◌}
use mathlib.Core.Path.{◌≡◌, refl, sym, ap, ◌∙◌, fun_ext}
use mathlib.Core.Logic.{inl, inr}
use mathlib.Core.Bool.{Bool, true, false, not, cond}
use mathlib.Core.List.{List, [], ◌∷◌, map}
use native.Mathlib.Omega.{arith}
use Rattle.stores.specs.Equal.{same_bytes}
use Rattle.stores.proofs.EqualLaws.{same_true}
use Rattle.std.specs.Prelude.{Option, Some, None}
use Rattle.records.specs.Records.{records, keys, key_of, stored_row}
use Rattle.records.specs.Find.{find_key, is_found, distinct}
use Rattle.records.proofs.KeyLaws.{clash, differ}
use Rattle.records.proofs.TurnLaws.{found_in, length_records}
use Rattle.records.proofs.RecordLaws.{record_at, record_sized}
use Rattle.records.proofs.CheckLaws.{and_left, and_right}
use Rattle.buffer_core.specs.Edition.{Edition}
use Rattle.buffer_core.specs.Pop.{Lists, lists_ok}
use borrow.Author.Tests.{le-leb}
use Rattle.buffer_core.specs.Flush.{Listed, listed, deleted_keys, new_keys, put_undeleted, table_after, flushed, flush_core, flush_of}
use Rattle.buffer_core.proofs.ListLaws.{lists_fit}
use Rattle.ledger.specs.Decide.{id_dec}
use Rattle.fork_model.proofs.Table as Tb
use Rattle.fork_model.proofs.Table.{missing, found}
use Rattle.ledger.specs.Ledger.{Parent}
use Rattle.history.specs.EditionLaws.{EditionLaws}
use Rattle.history.proofs.Tables.{Bytes, Table, tab, row_opt, lookup, lookup_is, put, remove, In, in_found, in_dec, ite_in, write_all, remove_all}
use Rattle.history.proofs.FlushSim as Sim
use Rattle.working_set.specs.Part.{Held, absent, held, held_by, held_in, PartOf}
use Rattle.working_set.specs.Store.{Map, put_row, remove_row, put_rows, remove_rows, transaction}
use Rattle.working_set.specs.Laws.{FlushLaw, KeptLaw}

-- ---- what a list shows is what its table shows
abbrev to_held : Tb.Found Bytes → Held
to_held missing = absent
to_held (found r) = held r

abbrev shown : Table → Map
shown t k = to_held (lookup t k)

held_shown : (size n : ℕ) (l key : List ℕ) → held_in size n l key ≡ shown (tab (records size n l)) key
unfolding held_in
held_shown size n l key = by_case (find_key key (keys size n l)) refl ∙ ap to_held (sym (lookup_is (records size n l) key))
  where
    by_case : (f : Option ℕ) → f ≡ find_key key (keys size n l) → held_by size l f ≡ to_held (row_opt f (records size n l))
    by_case (Some i) e = ap (λ (r : List ℕ). held (stored_row r)) (sym (record_at size n i l (found_in key size n l i (Some i) e refl)))
    by_case None e = refl

-- ---- puts
shown_put : (t : Table) (k row j : List ℕ) → shown (put t k row) j ≡ put_row k row (shown t) j
shown_put t k row j = by_key (same_bytes k j) refl
  where
    by_key : (b : Bool) → same_bytes k j ≡ b → shown (put t k row) j ≡ cond b (held row) (shown t j)
    by_key true b = let q = same_true k j b in rw (← q) (ap to_held (Tb.lookup_put_same Bytes Bytes id_dec t k row))
    by_key false b = ap to_held (Tb.lookup_put_other Bytes Bytes id_dec t k j row (differ k j b))

push : (d : Bool) (t : Table) (k row : List ℕ) → ◌≡◌ {A = Map} (shown (cond d t (put t k row))) (cond d (shown t) (put_row k row (shown t)))
push true t k row = refl
push false t k row = fun_ext (λ j. shown_put t k row j)

shown_write : (rs dels : List (List ℕ)) (t : Table) → ◌≡◌ {A = Map} (shown (write_all (tab rs) dels t)) (put_rows dels rs (shown t))
unfolding put_rows
shown_write [] dels t = refl
shown_write (r ∷ rs) dels t =
    ap (λ (u : Table). shown (write_all (tab rs) dels u)) (ite_in (key_of r) dels (in_dec (key_of r) dels) t (put t (key_of r) (stored_row r)))
    ∙ shown_write rs dels (cond (is_found (find_key (key_of r) dels)) t (put t (key_of r) (stored_row r)))
    ∙ ap (put_rows dels rs) (push (is_found (find_key (key_of r) dels)) t (key_of r) (stored_row r))

-- ---- removals
abbrev Distinct : Table → Type 0
Distinct t = Tb.Distinct Bytes Bytes id_dec t

shown_remove : (t : Table) (k j : List ℕ) → Distinct t → shown (remove t k) j ≡ remove_row k (shown t) j
shown_remove t k j d = by_key (same_bytes k j) refl
  where
    by_key : (b : Bool) → same_bytes k j ≡ b → shown (remove t k) j ≡ cond b absent (shown t j)
    by_key true b =
        let q = same_true k j b in
        rw (← q) (ap to_held (Tb.lookup_absent Bytes Bytes id_dec (remove t k) k (Tb.deleted_gone Bytes Bytes id_dec (k ∷ []) t k d (inl refl))))
    by_key false b = ap to_held (Tb.lookup_remove_other Bytes Bytes id_dec t k j d (differ k j b))

shown_removed : (ks : List (List ℕ)) (t : Table) → Distinct t → ◌≡◌ {A = Map} (shown (remove_all ks t)) (remove_rows ks (shown t))
unfolding remove_rows
shown_removed [] t d = refl
shown_removed (k ∷ ks) t d =
    shown_removed ks (remove t k) (Tb.distinct_remove Bytes Bytes id_dec t k d) ∙ ap (remove_rows ks) (fun_ext (λ j. shown_remove t k j d))

-- ---- no key stands twice
none_absent : (k : List ℕ) (rs : List (List ℕ)) → (In k (map key_of rs) → ⊥) → Tb.Absent Bytes Bytes id_dec k (tab rs)
none_absent k [] h = tt
none_absent k (r ∷ rs) h = ((λ e. h (inl e)), none_absent k rs (λ i. h (inr i)))

not_true : (b : Bool) → not b ≡ true → b ≡ false
not_true true e = sym e
not_true false e = refl

distinct_tab : (rs : List (List ℕ)) → distinct (map key_of rs) ≡ true → Distinct (tab rs)
unfolding distinct
distinct_tab [] h = tt
distinct_tab (r ∷ rs) h =
    let a = and_left (not (is_found (find_key (key_of r) (map key_of rs)))) (distinct (map key_of rs)) h in
    let b = and_right (not (is_found (find_key (key_of r) (map key_of rs)))) (distinct (map key_of rs)) h in
    (none_absent (key_of r) rs (λ i. clash (in_found (key_of r) (map key_of rs) i) (not_true _ a)), distinct_tab rs b)

-- ---- the flush
module _ (E : Edition) (ids : Parent → List ℕ) (L : EditionLaws E ids) where
  shows : (b : Lists) → lists_ok E b ≡ true → new_keys E b ≤ b.table_counts.capacity - b.table_counts.count → (key : List ℕ)
      → held_in E.size (table_after E b).counts.count (table_after E b).bytes key ≡ transaction E b (held_in E.size b.table_counts.count b.table) key
  unfolding transaction table_after
  shows b ok room key =
      let lf = lists_fit E b ok in
      let dels = deleted_keys E b in
      let rs = records E.size b.staged_counts.count b.staged in
      let t : Listed = listed b.table_counts b.table in
      let stored = Sim.all_stored E rs (λ i h. record_sized E.size b.staged_counts.count i b.staged lf.in_staged.bounds.within (omega (arith, length_records E.size b.staged_counts.count b.staged)))
      lf.in_staged.lengths in
      let puts = Sim.put_all_does E ids L dels rs t stored lf.in_table (omega (arith, lf.in_table.bounds.counted)) in
      let gone = Sim.remove_all_does E ids L dels dels (put_undeleted E dels rs t) puts.keeps in
      let u : Table = tab (records E.size b.table_counts.count b.table) in
      let v : Table = tab (records E.size (put_undeleted E dels rs t).counts.count (put_undeleted E dels rs t).bytes) in
      held_shown E.size (table_after E b).counts.count (table_after E b).bytes key
      ∙ ap (λ (x : Table). shown x key) gone.same
      ∙ ap (λ (x : Map). x key) (shown_removed dels v (distinct_tab (records E.size (put_undeleted E dels rs t).counts.count (put_undeleted E dels rs t).bytes) puts.keeps.apart))
      ∙ ap (λ (x : Table). remove_rows dels (shown x) key) puts.same
      ∙ ap (λ (x : Map). remove_rows dels x key) (shown_write rs dels u)
      ∙ ap (λ (x : Map). remove_rows dels (put_rows dels rs x) key) (sym (fun_ext (λ k. held_shown E.size b.table_counts.count b.table k)))

  goes : (b : Lists) → lists_ok E b ≡ true → new_keys E b ≤ b.table_counts.capacity - b.table_counts.count → flush_of E b ≡ flushed E b
  unfolding flush_of flush_core
  goes b ok room = rw (ok, le-leb (new_keys E b) (b.table_counts.capacity - b.table_counts.count) room)

  pub flush_law : FlushLaw E
  unfolding flushed
  flush_law b ok room = (goes b ok room, λ key. rw (goes b ok room) (shows b ok room key))

  kept_put : (key row : List ℕ) (f g : Map) → PartOf f g → PartOf (put_row key row f) (put_row key row g)
  kept_put key row f g p k r e = by_key (same_bytes key k) e
    where
      by_key : (b : Bool) → cond b (held row) (f k) ≡ held r → cond b (held row) (g k) ≡ held r
      by_key true e = e
      by_key false e = p k r e

  kept_remove : (key : List ℕ) (f g : Map) → PartOf f g → PartOf (remove_row key f) (remove_row key g)
  kept_remove key f g p k r e = by_key (same_bytes key k) e
    where
      by_key : (b : Bool) → cond b absent (f k) ≡ held r → cond b absent (g k) ≡ held r
      by_key true e = e
      by_key false e = p k r e

  kept_one : (d : Bool) (key row : List ℕ) (f g : Map) → PartOf f g → PartOf (cond d f (put_row key row f)) (cond d g (put_row key row g))
  kept_one true key row f g p = p
  kept_one false key row f g p = kept_put key row f g p

  kept_puts : (dels rs : List (List ℕ)) (f g : Map) → PartOf f g → PartOf (put_rows dels rs f) (put_rows dels rs g)
  unfolding put_rows
  kept_puts dels [] f g p = p
  kept_puts dels (r ∷ rs) f g p = kept_puts dels rs _ _ (kept_one (is_found (find_key (key_of r) dels)) (key_of r) (stored_row r) f g p)

  kept_removes : (ks : List (List ℕ)) (f g : Map) → PartOf f g → PartOf (remove_rows ks f) (remove_rows ks g)
  unfolding remove_rows
  kept_removes [] f g p = p
  kept_removes (k ∷ ks) f g p = kept_removes ks _ _ (kept_remove k f g p)

  pub kept_law : KeptLaw E
  unfolding transaction
  kept_law b f g p = kept_removes (deleted_keys E b) _ _ (kept_puts (deleted_keys E b) (records E.size b.staged_counts.count b.staged) f g p)
