-- A list of no more steps than a row has numbers needs no row key, so that no two row keys in use are equal.
use mathlib.Core.Path.{◌≡◌, refl, ap}
use mathlib.Core.Logic.{inl, inr}
use mathlib.Core.List.{List, [], ◌∷◌, ◌++◌}
use Prim.Native.Nat.{ℕ, zero, suc, ◌+◌, ◌*◌, ◌≤◌, ◌<◌}
use native.Mathlib.Omega.{arith}
use lib.ListN.{length, length-append}
use Rattle.ledger.specs.Ledger.{Series, series_dec, ite, Call, append, spend, credit, debit, ledger_numbers}
use Rattle.ledger.specs.Run.{Made, accepted, refused_leaving, Machine, Step, call, undo, flush, State, Conf, Undone, after_call, after_undo, after_flush, newest_undone, run_call, run_undo, with_store, step, start, Needs, InUse, KeysApart}

-- no more numbers than standing calls
numbers_few : (cs : List Call) (ch : Series) → length (ledger_numbers cs ch) ≤ length cs
unfolding ite
numbers_few [] ch = omega arith
numbers_few (append d n ∷ cs) ch = by (series_dec d ch) (numbers_few cs ch)
  where
    by : (t : Dec (d ≡ ch)) → length (ledger_numbers cs ch) ≤ length cs → length (ite t (ledger_numbers cs ch ++ (n ∷ [])) (ledger_numbers cs ch)) ≤ suc (length cs)
    by (yes e) k = omega (arith, length-append (ledger_numbers cs ch) (n ∷ []))
    by (no f) k = omega arith
numbers_few (spend p t ∷ cs) ch = omega (arith, numbers_few cs ch)
numbers_few (credit p n ts ∷ cs) ch = omega (arith, numbers_few cs ch)
numbers_few (debit p n ts ∷ cs) ch = omega (arith, numbers_few cs ch)

module _ (M : Machine) where
  -- a step adds one standing call at most
  call_adds : (c : Conf M) (a : Call) (r : Made (State M) (State M)) → length (after_call M c a r).standing ≤ suc (length c.standing)
  call_adds c a (accepted σ) = omega arith
  call_adds c a (refused_leaving n σ) = omega arith

  undo_adds : (c : Conf M) (cs : List Call) (r : Made (State M) (Undone M)) → length cs ≤ length c.standing → length (after_undo M c cs r).standing ≤ suc (length c.standing)
  undo_adds c cs (accepted u) h = omega arith
  undo_adds c cs (refused_leaving n σ) h = omega arith

  newest_adds : (c : Conf M) (l : List Call) → c.standing ≡ l → length (newest_undone M c l).standing ≤ suc (length c.standing)
  newest_adds c [] e = omega arith
  newest_adds c (a ∷ cs) e = undo_adds c cs (run_undo M c.now a) (omega (arith, ap length e))

  flush_adds : (c : Conf M) (r : Made (State M) (State M)) → length (after_flush M c r).standing ≤ suc (length c.standing)
  flush_adds c (accepted σ) = omega arith
  flush_adds c (refused_leaving n σ) = omega arith

  step_adds : (c : Conf M) (x : Step) → length (step M c x).standing ≤ suc (length c.standing)
  step_adds c (call a) = call_adds c a (run_call M c.now a)
  step_adds c undo = newest_adds c c.standing refl
  step_adds c flush = flush_adds c (with_store M c.now (M.flush_store c.now.store))

  fewer : (r s n : ℕ) → r * suc (suc s) < n → r * suc s < n
  fewer r s n h = omega arith

  no_multiple : (r s n m : ℕ) → r * suc s < n → n ≤ m → m ≤ r → ⊥
  no_multiple r zero n m h k l = omega arith
  no_multiple r (suc s) n m h k l = no_multiple r s n m (fewer r s n h) k l

  no_row : (c : Conf M) → length c.standing ≤ M.row_size → (ch : Series) (s : ℕ) → Needs M c ch s → ⊥
  no_row c h ch s u = no_multiple M.row_size s (length (ledger_numbers c.standing ch)) (length c.standing) u (numbers_few c.standing ch) h

  no_rows : (ss : List Step) (c : Conf M) → length c.standing + length ss ≤ M.row_size → (ch : Series) (s : ℕ) → InUse M c ss ch s → ⊥
  unfolding InUse
  no_rows [] c h ch s u = no_row c (omega arith) ch s u
  no_rows (x ∷ ss) c h ch s (inl u) = no_row c (omega arith) ch s u
  no_rows (x ∷ ss) c h ch s (inr u) = no_rows ss (step M c x) (omega (arith, step_adds c x)) ch s u

  pub short_apart : (ss : List Step) → length ss ≤ M.row_size → KeysApart M (InUse M (start M) ss)
  short_apart ss h d e s t u v k = absurd (no_rows ss (start M) (omega arith) d s u)
