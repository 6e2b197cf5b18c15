-- The theorem with summaries is not vacuous: its premises hold of history's example, which forks across a full row, and the summary is then the line of that row.
use mathlib.Core.Path.{◌≡◌, refl, sym, ◌∙◌, ap}
use mathlib.Core.List.{List, [], ◌∷◌, ◌++◌, map}
use Prim.Native.Nat.{ℕ, zero, suc, ◌*◌, ◌≤◌, ◌<◌}
use native.Mathlib.Omega.{arith}
use native.Mathlib.Decide.{ℕ_discrete}
use lib.IntN.{ℤ, pos, negsuc, nat_abs}
use lib.ListN.{length, take, replicate, length-append, length-replicate}
use lib.Seq.{take_at, length-take-le, take_all}
use Rattle.index_types.specs.declared.RowEdition.{RowEdition}
use Rattle.entries.specs.Tally.{how_many}
use Rattle.buffer_core.specs.Edition.{edition_of}
use Rattle.buffer_core.proofs.HeadLaws.{head_facts}
use Rattle.summary_core.specs.Lines.{line_of}
use Rattle.summary_core.proofs.LineLaws.{line_at}
use Rattle.ledger.specs.Ledger.{Parent, boxes, absℤ}
use Rattle.ledger.specs.Run.{Res, done, row_or, flat, negs, negated_at, Machine, Conf, Legal, InUse, KeysApart, StepsOk, start, run}
use Rattle.ledger.proofs.TestLaws.{ite_yes}
use Rattle.history.specs.Index.{Index, row_of_spill, entries_of}
use Rattle.history.specs.Machine.{Borrowed}
use Rattle.history.specs.ForkUndo.{Places}
use Rattle.history.specs.Example.{across_a_row, left_standing, numbers_to}
use Rattle.history.specs.Sound.{Sound}
use Rattle.history.proofs.ForkUndoLaw.{stays_sound}
use Rattle.history.proofs.ExampleLaws as Ex
use Rattle.history_summaries.specs.Summaries.{BorrowedSummaries}
use Rattle.history_summaries.specs.Promises.{K, N, SameRun}
use Rattle.history_summaries.proofs.Right as Ri
use Rattle.history_summaries.proofs.SameRuns.{same_as_without}
use Rattle.history_summaries.proofs.Theorem.{summary_theorem, summaries_current}

-- ---- lists without spent copies are their absolute values
unspent_is : (l : List ℤ) → ((n : ℕ) → 0 < n → negs n l ≡ 0) → l ≡ map absℤ l
unspent_is [] h = refl
unspent_is (pos k ∷ l) h = ap (λ (x : List ℤ). pos k ∷ x) (unspent_is l (λ n p. omega (arith, h n p)))
unspent_is (negsuc k ∷ l) h =
    let z : negated_at (suc k) (negsuc k) ≡ 1 = ite_yes (ℕ_discrete (suc k) (suc k)) 1 0 refl in
    absurd (omega (arith, h (suc k) (omega arith)))

-- ---- k full rows have 512 numbers each
rows_length : (f : ℕ → Res (List ℤ)) (k : ℕ) → ((n : ℕ) → n < k → (zs : List ℤ) × (f n ≡ done zs) × (length zs ≡ 512)) → length (flat f k) ≡ 512 * k
unfolding flat
rows_length f zero h = omega arith
rows_length f (suc k) h =
    let r = h k (omega arith) in
    let e : length (row_or (f k)) ≡ 512 = ap (λ (x : Res (List ℤ)). length (row_or x)) r.1 ∙ r.2 in
    length-append (flat f k) (row_or (f k)) ∙ omega (arith, rows_length f k (λ n g. h n (omega arith)))

length_numbers : (k : ℕ) → length (numbers_to k) ≡ k
unfolding numbers_to
length_numbers zero = refl
length_numbers (suc k) = length-append (numbers_to k) (pos (suc k) ∷ []) ∙ omega (arith, length_numbers k)

-- the numbers 1 to 511, and 600
abbrev row_numbers : List ℤ
row_numbers = numbers_to 511 ++ (pos 600 ∷ [])

row_length : length row_numbers ≡ 512
row_length = length-append (numbers_to 511) (pos 600 ∷ []) ∙ omega (arith, length_numbers 511)

line_is : line_of row_numbers ≡ 1 ∷ 600 ∷ 512 ∷ 0 ∷ 0 ∷ []
unfolding line_of how_many numbers_to
line_is = refl

-- ---- in either edition, for all parents' ids and all borrowed buffers in which each list has room for 600 records and each summary two lines
module _ (v : RowEdition) (ids : Parent → List ℕ) (ids_in : (p : Parent) → length (ids p) ≡ 32) (B : Borrowed (edition_of v)) (s : Parent → Places) (Z : BorrowedSummaries)
    (table_room : 600 ≤ B.table_cap) (staged_room : 600 ≤ B.staged_cap) (deleted_room : 600 ≤ B.deleted_cap) (two : (p : Parent) → 2 ≤ Z.lines p) where
  abbrev M : Machine
  M = K v ids B s Z

  abbrev ended : Conf M
  ended = run M (start M) across_a_row

  same : SameRun v ids B s Z across_a_row
  same = same_as_without v ids ids_in B s Z across_a_row (Ex.example_legal v ids ids_in B s table_room staged_room deleted_room)
      (Ex.example_keys_apart v ids ids_in B s table_room staged_room deleted_room)
      (λ p. (omega (arith, two p), λ n u. omega (arith, two p, (Ex.example_rows v ids ids_in B s table_room staged_room deleted_room (boxes p) n u).1)))

  pub example_legal : Legal M (start M) across_a_row
  example_legal = same.legal

  pub example_keys_apart : KeysApart M (InUse M (start M) across_a_row)
  example_keys_apart d e x y u w k =
      Ex.example_keys_apart v ids ids_in B s table_room staged_room deleted_room d e x y (same.in_use d x u) (same.in_use e y w) k

  -- every call and undo was accepted
  pub example_standing : ended.standing ≡ left_standing
  example_standing = same.standing ∙ Ex.example_standing v ids ids_in B s table_room staged_room deleted_room

  pub example_undos : StepsOk M (start M) across_a_row
  example_undos = (summary_theorem v ids ids_in B s Z across_a_row example_legal example_keys_apart).0

  -- ---- the summary of parent 0
  abbrev last : Index
  last = (run (N v ids B s Z) (start (N v ids B s Z)) across_a_row).now.store

  sound : Sound (edition_of v) ids last
  sound = (stays_sound v ids ids_in B s across_a_row
      (Ex.example_legal v ids ids_in B s table_room staged_room deleted_room, Ex.example_keys_apart v ids ids_in B s table_room staged_room deleted_room)).0

  abbrev numbers : List ℤ
  numbers = row_numbers ++ (pos 601 ∷ [])

  entries_are : entries_of (edition_of v) ids last (boxes 0) ≡ numbers
  entries_are = unspent_is _ (Ex.example_unspent v ids ids_in B s table_room staged_room deleted_room) ∙ Ex.example_numbers v ids ids_in B s table_room staged_room deleted_room

  abbrev rows : ℕ → Res (List ℤ)
  rows = row_of_spill (edition_of v) ids last (boxes 0)

  -- how many rows were spilled
  abbrev count : ℕ
  count = Ri.spills_of (edition_of v) ids Z.lines ended.now.store 0

  abbrev spilled : ℕ
  spilled = nat_abs (last.parts (boxes 0)).head.spills

  abbrev head : List ℤ
  head = take (last.parts (boxes 0)).head.len (last.parts (boxes 0)).places

  one_spilled : spilled ≡ 1
  one_spilled =
      let h = head_facts (last.parts (boxes 0)).head (last.parts (boxes 0)).places (sound.heads (boxes 0)) in
      let a = rows_length rows spilled (sound.rows (boxes 0)) in
      let b = length-take-le (last.parts (boxes 0)).head.len (last.parts (boxes 0)).places (omega (arith, h.few, h.long)) in
      let c = sym (length-append (flat rows spilled) head) ∙ ap length entries_are ∙ length-append row_numbers (pos 601 ∷ []) in
      omega (arith, row_length, h.few)

  -- it holds the numbers 1 to 511, and 600
  row_is : rows 0 ≡ done row_numbers
  unfolding flat
  row_is =
      let r = sound.rows (boxes 0) 0 (omega (arith, one_spilled)) in
      let f : flat rows spilled ≡ r.0 = ap (flat rows) one_spilled ∙ ap row_or r.1 in
      let z : r.0 ≡ row_numbers = sym (take_at r.0 head 512 r.2) ∙ ap (λ (l : List ℤ). take 512 (l ++ head)) (sym f) ∙ ap (take 512) entries_are ∙ take_at row_numbers (pos 601 ∷ []) 512 row_length in
      r.1 ∙ ap done z

  -- one row was spilled
  pub example_one_spill : count ≡ 1
  example_one_spill = ap (λ (i : Index). nat_abs (i.parts (boxes 0)).head.spills) same.index ∙ one_spilled

  -- and the summary has its line: from 1 to 600, 512 numbers above 0
  pub example_line : line_at (ended.now.store.summaries 0) 0 ≡ 1 ∷ 600 ∷ 512 ∷ 0 ∷ 0 ∷ []
  example_line =
      let R = Ri.right (edition_of v) ids Z.lines ended.now.store 0 (summaries_current v ids ids_in B s Z across_a_row example_legal example_keys_apart 0) in
      R.line 0 (omega (arith, example_one_spill))
      ∙ ap (λ (r : Res (List ℤ)). line_of (row_or r)) (ap (λ (i : Index). row_of_spill (edition_of v) ids i (boxes 0) 0) same.index ∙ row_is) ∙ line_is

-- ---- such summaries exist
abbrev pub zero_summaries : (lines : ℕ) → BorrowedSummaries
zero_summaries n = record {
  lines = λ p. n;
  numbers = λ p. replicate (n * 5) 0;
  numbers_in = λ p. omega (arith, length-replicate {A = ℕ} (n * 5) 0);
  all_zero = λ p. take_all (n * 5) (replicate (n * 5) 0) (omega (arith, length-replicate {A = ℕ} (n * 5) 0));
}

module _ (v : RowEdition) (ids : Parent → List ℕ) (ids_in : (p : Parent) → length (ids p) ≡ 32) (cap lines : ℕ) (h : 600 ≤ cap) (two : 2 ≤ lines) where
  abbrev S : Machine
  S = K v ids (Ex.zeroed v cap) (λ p. Ex.no_tokens) (zero_summaries lines)

  pub premises_met : Legal S (start S) across_a_row × KeysApart S (InUse S (start S) across_a_row)
  premises_met = (
    example_legal v ids ids_in (Ex.zeroed v cap) (λ p. Ex.no_tokens) (zero_summaries lines) h h h (λ p. two),
    example_keys_apart v ids ids_in (Ex.zeroed v cap) (λ p. Ex.no_tokens) (zero_summaries lines) h h h (λ p. two),
  )
