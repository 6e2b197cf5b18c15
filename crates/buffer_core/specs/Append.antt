-- Append (document 01): "The number goes to the end of the head. A head that would reach 513 stages its first 512 as the row numbered by the spill
-- count, which grows by 1. Vacated places of a head are set to 0".
-- Refusals: "11 its spill count negative; 17 negative number; at a head of 512 only: 18 count 2,147,483,647; 16 staging full and key not in it".
use Rattle.std.specs.Prelude.{ℕ, ◌+◌, Bool, ◌&&◌, cond, List, ◌∷◌, leb, ltb, ℤ, pos, nat_abs, take, set, replicate, Ok, Err}
use Rattle.index_types.specs.Limits.{segment_threshold, spill_limit}
use Rattle.stores.specs.Stores.{write}
use Rattle.signed.specs.Sign.{is_negative}
use Rattle.index_types.specs.declared.ListCounts.{ListCounts}
use Rattle.records.specs.Records.{keys, record_of}
use Rattle.records.specs.Find.{find_key}
use Rattle.records.specs.Changes.{count_after, with_count, put_record, full_for}
use Rattle.records.specs.Checks.{records_ok}
use Rattle.segment_id.specs.declared.Kind.{Kind}
use Rattle.index_types.specs.declared.HeadCounts.{HeadCounts}
use Rattle.index_types.specs.Answers.{Appended}
use Rattle.buffer_core.specs.Edition.{Edition}
use Rattle.buffer_core.specs.Spills.{head_ok}

-- the answer, the head and the staged spills at exit
pub record Appending : Type 0 where
  pub answer : Appended
  pub head : List ℤ
  pub staged : List ℕ

abbrev pub appending : Appended → List ℤ → List ℕ → Appending
appending a head staged = record { answer = a; head = head; staged = staged }

abbrev pub counts_of : ℕ → ℤ → HeadCounts
counts_of n spills = record { len = n; spills = spills }

-- a head that holds one number
abbrev pub one_number : ℤ → List ℤ → List ℤ
one_number n head = write 0 (n ∷ replicate 511 (pos 0)) head

module _ (E : Edition) where
  -- the counts and the bytes of a record list with a row put under a key
  abbrev pub counts_with : (key : List ℕ) → ListCounts → List ℕ → ListCounts
  counts_with key c l = with_count (count_after (find_key key (keys E.size c.count l)) c.count) c

  abbrev pub bytes_with : (key row : List ℕ) → ListCounts → List ℕ → List ℕ
  bytes_with key row c l = put_record E.size c.count key (record_of E.size key row) l

  -- the first 512 of the head become the row under the key, and the number is the new head
  unfoldable pub spilled : Kind → (key parent : List ℕ) (spills : ℕ) (number : ℤ) → ListCounts → List ℤ → List ℕ → Appending
  spilled kind key parent spills number c head staged =
      appending (Ok (counts_of 1 (pos (spills + 1)), counts_with key c staged)) (one_number number head)
      (bytes_with key (E.encode kind parent (pos spills) (take segment_threshold head)) c staged)

  -- at a head of 512: 18, then 16
  unfoldable pub spill_of : Kind → (parent : List ℕ) (spills : ℕ) (number : ℤ) → ListCounts → List ℤ → List ℕ → Appending
  spill_of kind parent spills number c head staged =
      cond (leb spill_limit spills) (appending (Err 18) head staged)
      (cond (full_for E.size c (E.key kind parent (pos spills)) staged) (appending (Err 16) head staged)
      (spilled kind (E.key kind parent (pos spills)) parent spills number c head staged))

  -- 11, then 17, then the end of the head or a spill
  unfoldable pub append_core : Kind → (parent : List ℕ) → HeadCounts → ℤ → ListCounts → List ℤ → List ℕ → Appending
  append_core kind parent h number c head staged =
      cond (is_negative h.spills) (appending (Err 11) head staged)
      (cond (is_negative number) (appending (Err 17) head staged)
      (cond (ltb h.len segment_threshold) (appending (Ok (counts_of (h.len + 1) h.spills, c)) (set head h.len number) staged)
      (spill_of kind parent (nat_abs h.spills) number c head staged)))

  -- 25 of an append: the head and the staged spills
  unfoldable pub append_ok : HeadCounts → ListCounts → List ℤ → List ℕ → Bool
  append_ok h c head staged = head_ok h head && records_ok E.size E.limit c staged

  unfoldable pub append_of : Kind → (parent : List ℕ) → HeadCounts → ℤ → ListCounts → List ℤ → List ℕ → Appending
  append_of kind parent h number c head staged =
      cond (append_ok h c head staged) (append_core kind parent h number c head staged) (appending (Err 25) head staged)
