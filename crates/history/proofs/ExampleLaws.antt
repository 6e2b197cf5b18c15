-- The theorem is not vacuous: its premises hold of a history that forks across a full row, and what it says of that history.
use mathlib.Core.Path.{◌≡◌, sym, ◌∙◌, ap}
use mathlib.Core.List.{List, [], ◌∷◌, ◌++◌, map}
use Prim.Native.Nat.{ℕ, ◌*◌, ◌≤◌, ◌<◌}
use native.Mathlib.Omega.{arith}
use lib.IntN.{ℤ, pos}
use lib.ListN.{length, replicate, length-replicate}
use Rattle.index_types.specs.declared.RowEdition.{RowEdition}
use Rattle.buffer_core.specs.Edition.{edition_of, record_size}
use Rattle.ledger.specs.Ledger.{Parent, Series, boxes, absℤ, ledger_numbers, ledger_spent, Call}
use Rattle.ledger.specs.Run.{negs, Machine, Conf, Legal, InUse, KeysApart, StepsOk, Agrees, start, run}
use Rattle.balance.specs.declared.Balance.{Balance}
use Rattle.balance_laws.proofs.Laws as Bl
use Rattle.fork_model.proofs.Whole as Wh
use Rattle.history.specs.Machine.{Borrowed}
use Rattle.history.specs.ForkUndo.{Places, index_machine}
use Rattle.history.specs.Example.{append_box, appends, across_a_row, left_standing, up_to, numbers_to}
use Rattle.history.proofs.Editions.{edition_laws}
use Rattle.history.proofs.IndexTheorem as Ix
use Rattle.history.proofs.ForkUndoLaw.{fork_undo}
use Rattle.history.proofs.ExampleRules.{numbers_more, numbers_up_to, plain_up_to, FirstRow}
use Rattle.history.proofs.ExampleRun as Er

-- in either edition, for all parents' ids and all borrowed buffers in which each list has room for 600 records
module _ (v : RowEdition) (ids : Parent → List ℕ) (ids_in : (p : Parent) → length (ids p) ≡ 32) (B : Borrowed (edition_of v)) (s : Parent → Places)
    (table_room : 600 ≤ B.table_cap) (staged_room : 600 ≤ B.staged_cap) (deleted_room : 600 ≤ B.deleted_cap) where
  abbrev M : Machine
  M = index_machine (edition_of v) ids B s

  abbrev ended : Conf M
  ended = run M (start M) across_a_row

  abbrev Q : Wh.Balances
  Q = Bl.balances (λ p. (s p).ids) (λ p. (s p).amounts) (λ p. (s p).ids_in) (λ p. (s p).amounts_in)

  abbrev GoodB : Balance → Type 0
  GoodB b = Bl.Good (λ p. (s p).ids) (λ p. (s p).amounts) (λ p. (s p).ids_in) (λ p. (s p).amounts_in) b

  balance_laws : Wh.BalanceLaws (Ix.W (edition_of v) ids (edition_laws v ids ids_in) B s Q) Q GoodB
  balance_laws = Bl.laws (λ p. (s p).ids) (λ p. (s p).amounts) (λ p. (s p).ids_in) (λ p. (s p).amounts_in) (Ix.W (edition_of v) ids (edition_laws v ids ids_in) B s Q)

  goes : Er.Goes (edition_of v) ids (edition_laws v ids ids_in) B s Q GoodB balance_laws table_room staged_room deleted_room left_standing (start M) across_a_row
  goes = Er.goes (edition_of v) ids (edition_laws v ids ids_in) B s Q GoodB balance_laws table_room staged_room deleted_room

  -- the first branch is longer than a row: its 513 appends are accepted
  pub example_first_branch : (run M (start M) (appends 513 1 [])).standing ≡ up_to 513
  example_first_branch = (Er.goes_first (edition_of v) ids (edition_laws v ids ids_in) B s Q GoodB balance_laws table_room staged_room deleted_room).left

  pub example_legal : Legal M (start M) across_a_row
  example_legal = goes.legal

  -- one row key is in use
  pub example_rows : (ch : Series) (n : ℕ) → InUse M (start M) across_a_row ch n → FirstRow ch n
  example_rows = goes.rows

  pub example_keys_apart : KeysApart M (InUse M (start M) across_a_row)
  example_keys_apart d e s t u v k = let a = example_rows d s u in let b = example_rows e t v in (a.0 ∙ sym b.0, a.1 ∙ sym b.1)

  -- every call and undo was accepted: what stands at the end
  pub example_standing : ended.standing ≡ left_standing
  example_standing = goes.left

  theorem : StepsOk M (start M) across_a_row × Agrees M ended
  theorem = fork_undo v ids ids_in B s across_a_row example_legal example_keys_apart

  pub example_undos : StepsOk M (start M) across_a_row
  example_undos = theorem.0

  -- the numbers 1 to 511, 600 and 601 are left
  pub example_numbers : map absℤ (M.entries ended.now.store (boxes 0)) ≡ (numbers_to 511 ++ (pos 600 ∷ [])) ++ (pos 601 ∷ [])
  example_numbers =
      theorem.1.numbers (boxes 0) ∙ ap (λ (cs : List Call). ledger_numbers cs (boxes 0)) example_standing ∙ numbers_more 601 (append_box 600 ∷ up_to 511)
      ∙ ap (λ (l : List ℤ). l ++ (pos 601 ∷ [])) (numbers_more 600 (up_to 511) ∙ ap (λ (l : List ℤ). l ++ (pos 600 ∷ [])) (numbers_up_to 511))

  -- none of them is spent
  pub example_unspent : (n : ℕ) → 0 < n → negs n (M.entries ended.now.store (boxes 0)) ≡ 0
  example_unspent n h = theorem.1.copies 0 n h ∙ ap (λ (cs : List Call). ledger_spent cs 0 n) example_standing ∙ (plain_up_to 511).unspent n

-- ---- such buffers exist: lists of zeros with room for cap records each
pub room_of : (n : ℕ) → n ≤ length (replicate {A = ℕ} n 0)
room_of n = omega (arith, length-replicate {A = ℕ} n 0)

abbrev pub zeroed : (v : RowEdition) → ℕ → Borrowed (edition_of v)
zeroed v cap = record {
  table_cap = cap;
  staged_cap = cap;
  deleted_cap = cap;
  places = λ ch. replicate 512 (pos 0);
  table = replicate (cap * record_size v) 0;
  staged = replicate (cap * record_size v) 0;
  deleted = replicate (cap * 32) 0;
  places_in = λ ch. omega (arith, length-replicate {A = ℤ} 512 (pos 0));
  table_in = room_of (cap * record_size v);
  staged_in = room_of (cap * record_size v);
  deleted_in = room_of (cap * 32);
}

unfoldable pub no_tokens : Places
no_tokens = record { ids = replicate 4096 0; amounts = replicate 128 (pos 0); ids_in = length-replicate {A = ℕ} 4096 0; amounts_in = length-replicate {A = ℤ} 128 (pos 0) }

module _ (v : RowEdition) (ids : Parent → List ℕ) (ids_in : (p : Parent) → length (ids p) ≡ 32) (cap : ℕ) (h : 600 ≤ cap) where
  abbrev N : Machine
  N = index_machine (edition_of v) ids (zeroed v cap) (λ p. no_tokens)

  pub premises_met : Legal N (start N) across_a_row × KeysApart N (InUse N (start N) across_a_row)
  premises_met = (example_legal v ids ids_in (zeroed v cap) (λ p. no_tokens) h h h, example_keys_apart v ids ids_in (zeroed v cap) (λ p. no_tokens) h h h)
