-- Record lists as tables: a put, a removal, a full list.
use mathlib.Core.Path.{◌≡◌, refl, sym, ◌∙◌, ap}
use mathlib.Core.List.{List, [], ◌∷◌, ◌++◌, map}
use mathlib.Core.Bool.{Bool, true, false, not, ◌&&◌, cond}
use Prim.Native.Nat.{ℕ, zero, suc, ◌+◌, ◌*◌, ◌-◌, ◌≤◌, ◌<◌}
use native.Mathlib.Omega.{arith}
use native.Mathlib.Decide.{dec_le}
use lib.ListN.{length, length-map}
use lib.Dec.{leb}
use borrow.Author.Tests.{leb-true, leb-false, le-leb, lt-leb}
use Rattle.std.specs.Prelude.{Option, Some, None}
use Rattle.index_types.specs.declared.ListCounts.{ListCounts}
use Rattle.records.specs.Records.{records, keys, key_of, stored_row, record_of}
use Rattle.records.specs.Find.{find_key, is_found}
use Rattle.records.specs.Changes.{count_after, with_count, put_record, remove_record, full_for}
use Rattle.records.specs.Checks.{RecordsOk, KeysOk}
use Rattle.records.proofs.Views.{put_at, remove_at}
use Rattle.records.proofs.TurnLaws.{length_records, length_keys, found_in}
use Rattle.records.proofs.RecordLaws.{record_length, record_key, record_row, key_of_key}
use Rattle.records.proofs.PutLaws.{records_after_put, keys_after_put, slot_room}
use Rattle.records.proofs.RemoveLaws.{records_after_remove}
use Rattle.records.proofs.CheckLaws.{records_ok_after_remove}
use Rattle.buffer_core.specs.Pop.{count_without, bytes_without}
use Rattle.ledger.specs.Ledger.{ite, id_dec}
use Rattle.fork_model.proofs.Store as St
use Rattle.fork_model.proofs.Table as Tb
use Rattle.history.proofs.Tables.{Bytes, Table, tab, rec, rec_of, put, put_is, remove, remove_is, remove_found, lookup, ite_lacks, in_dec, ite_in, add_is}

-- ---- tests and decisions
pub ite_le : {A : Type 0} (m n : ℕ) (w : Dec (m ≤ n)) (a b : A) → ite w a b ≡ cond (leb m n) a b
unfolding ite
ite_le m n (yes h) a b = rw (le-leb m n h)
ite_le m n (no h) a b = rw (not_le (leb m n) refl)
  where
    not_le : (t : Bool) → leb m n ≡ t → t ≡ false
    not_le true e = absurd (h (leb-true m n e))
    not_le false e = refl

pub ite_both : {A B X : Type 0} (v : Dec A) (w : Dec B) (a b : X) → ite (St.both v w) a b ≡ ite v (ite w a b) b
unfolding ite
ite_both (yes p) (yes q) a b = refl
ite_both (yes p) (no q) a b = refl
ite_both (no p) w a b = refl

pub cond_both : {A : Type 0} (p q : Bool) (a b : A) → cond q (cond p a b) b ≡ cond (p && q) a b
cond_both true true a b = refl
cond_both true false a b = refl
cond_both false true a b = refl
cond_both false false a b = refl

ite_not : {A X : Type 0} (w : Dec A) (a b : X) → ite (St.not_dec w) a b ≡ ite w b a
unfolding ite
ite_not (yes p) a b = refl
ite_not (no p) a b = refl

cond_no : {A : Type 0} (t : Bool) (a b : A) → cond t b a ≡ cond (not t) a b
cond_no true a b = refl
cond_no false a b = refl

pub length_table : (size n : ℕ) (l : List ℕ) → length (tab (records size n l)) ≡ n
length_table size n l = rw length-map (length_records size n l)

-- ---- a full list
pub full_is : {A : Type 0} (size : ℕ) (c : ListCounts) (cap : ℕ) (k l : List ℕ) (a b : A) → c.capacity ≡ cap
    → ite (St.both (dec_le cap (length (tab (records size c.count l)))) (Tb.lacks_dec Bytes Bytes id_dec (lookup (tab (records size c.count l)) k))) a b
    ≡ cond (full_for size c k l) a b
unfolding full_for
full_is {A} size c cap k l a b e =
    let t : Table = tab (records size c.count l) in
    let w = Tb.lacks_dec Bytes Bytes id_dec (lookup t k) in
    ite_both (dec_le cap (length t)) w a b
    ∙ ite_le cap (length t) (dec_le cap (length t)) (ite w a b) b
    ∙ ap (λ (m : ℕ). cond (leb cap m) (ite w a b) b) (length_table size c.count l)
    ∙ ap (λ (m : ℕ). cond (leb m c.count) (ite w a b) b) (sym e)
    ∙ ap (λ (x : A). cond (leb c.capacity c.count) x b) (ite_lacks (records size c.count l) k a b)
    ∙ cond_both (not (is_found (find_key k (keys size c.count l)))) (leb c.capacity c.count) a b

pub full_keys : {A : Type 0} (c : ListCounts) (cap : ℕ) (k l : List ℕ) (a b : A) → c.capacity ≡ cap
    → ite (St.both (dec_le cap (length (keys 32 c.count l))) (St.not_dec (in_dec k (keys 32 c.count l)))) a b ≡ cond (full_for 32 c k l) a b
unfolding full_for
full_keys {A} c cap k l a b e =
    let ks : List Bytes = keys 32 c.count l in
    let w = St.not_dec (in_dec k ks) in
    ite_both (dec_le cap (length ks)) w a b
    ∙ ite_le cap (length ks) (dec_le cap (length ks)) (ite w a b) b
    ∙ ap (λ (m : ℕ). cond (leb cap m) (ite w a b) b) (length_keys 32 c.count l)
    ∙ ap (λ (m : ℕ). cond (leb m c.count) (ite w a b) b) (sym e)
    ∙ ap (λ (x : A). cond (leb c.capacity c.count) x b) (ite_not (in_dec k ks) a b ∙ ite_in k ks (in_dec k ks) b a ∙ cond_no (is_found (find_key k ks)) a b)
    ∙ cond_both (not (is_found (find_key k ks))) (leb c.capacity c.count) a b

-- ---- a row put under a key
pub rec_record : (size : ℕ) (key row : List ℕ) → length key ≡ 32 → length row < 65536 → rec_of (record_of size key row) ≡ rec key row
rec_record size key row k w = rw (record_key size key row k, record_row size key row k w)

pub put_table : (size limit : ℕ) (c : ListCounts) (key row l : List ℕ) → length key ≡ 32 → 34 + length row ≤ size → length row < 65536 → full_for size c key l ≡ false → RecordsOk size limit c l
    → tab (records size (count_after (find_key key (keys size c.count l)) c.count) (put_record size c.count key (record_of size key row) l)) ≡ put (tab (records size c.count l)) key row
put_table size limit c key row l k r w f ok =
    ap tab (records_after_put size c.count key (record_of size key row) l (record_length size key row k r) (record_key size key row k) ok.bounds.within (slot_room size c key l ok.bounds f))
    ∙ sym (put_is (records size c.count l) key row (record_of size key row) (rec_record size key row k w))

-- ---- a key's record taken out
module _ (size limit : ℕ) (c : ListCounts) (key l : List ℕ) (ok : RecordsOk size limit c l) where
  abbrev at : Option ℕ
  at = find_key key (keys size c.count l)

  pub remove_table : tab (records size (count_without at c).count (bytes_without size at c l)) ≡ remove (tab (records size c.count l)) key
  remove_table = by_case at refl ∙ sym (remove_is (records size c.count l) key)
    where
      by_case : (g : Option ℕ) → g ≡ at → tab (records size (count_without g c).count (bytes_without size g c l)) ≡ tab (remove_found g (records size c.count l))
      by_case (Some i) e = ap tab (records_after_remove size c.count i l (found_in key size c.count l i (Some i) e refl) ok.bounds.within)
      by_case None e = refl

  pub remove_keeps : RecordsOk size limit (count_without at c) (bytes_without size at c l)
  remove_keeps = by_case at refl
    where
      by_case : (g : Option ℕ) → g ≡ at → RecordsOk size limit (count_without g c) (bytes_without size g c l)
      by_case (Some i) e = records_ok_after_remove size limit i c l (found_in key size c.count l i (Some i) e refl) ok
      by_case None e = ok

-- the capacity stays
pub capacity_without : (f : Option ℕ) (c : ListCounts) → (count_without f c).capacity ≡ c.capacity
capacity_without (Some i) c = refl
capacity_without None c = refl

-- ---- a key put into the key list
pub put_keys : (c : ListCounts) (key l : List ℕ) → length key ≡ 32 → full_for 32 c key l ≡ false → KeysOk c l
    → keys 32 (count_after (find_key key (keys 32 c.count l)) c.count) (put_record 32 c.count key key l) ≡ ite (in_dec key (keys 32 c.count l)) (keys 32 c.count l) (keys 32 c.count l ++ key ∷ [])
put_keys c key l k f ok =
    keys_after_put 32 c.count key key l k (key_of_key key k) ok.bounds.within (slot_room 32 c key l ok.bounds f)
    ∙ sym (add_is key (keys 32 c.count l))
