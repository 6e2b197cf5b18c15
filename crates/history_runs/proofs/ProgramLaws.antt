-- The fork-undo theorem of the call runner: its start is the theorem's `Empty`, and what its parents' lines are printed from is what the calls of its input leave.
use mathlib.Core.Path.{◌≡◌, refl, sym, ap, ◌∙◌, subst}
use mathlib.Core.Logic.{⊎_elim}
use mathlib.Core.Bool.{true, false}
use mathlib.Core.List.{List, [], append-nil, map}
use Prim.Native.Nat.{ℕ, ◌+◌, ◌*◌, ◌≤◌, ◌<◌, min}
use native.Mathlib.Omega.{arith}
use lib.IntN.{ℤ, pos}
use lib.ListN.{length, get_or, replicate, length-replicate, get_or-replicate}
use Rattle.stores.proofs.StoreLaws.{length_write, length_part}
use Rattle.records.specs.Checks.{RecordsOk, KeysOk, lengths_ok}
use Rattle.records.specs.Find.{distinct}
use Rattle.records.specs.Records.{records}
use Rattle.records.proofs.CheckLaws.{bounds_of}
use Rattle.segment_id.specs.declared.Kind.{Kind}
use Rattle.segment_id.specs.declared.Kind.TheVariants.{Box, Tx}
use Rattle.buffer_core.specs.Edition.{edition_1}
use Rattle.buffer_core.specs.Append.{counts_of}
use Rattle.buffer_core.proofs.ListLaws.{fit_lists}
use Rattle.calls.specs.declared.Call.{Call}
use Rattle.calls.specs.Calls.{call_at, size_of}
use Rattle.call_steps.specs.State.{State, state, length_at, spills_at, state_ok}
use Rattle.call_steps.specs.Steps.{lists_with}
use Rattle.runner_start.specs.Start.{none_of, two_ids}
use Rattle.runner.proofs.PieceLaws.{call_shifts}
use Rattle.call_runs.specs.Made.{heard, Stand}
use Rattle.call_runs.specs.Delivered.{starting, Told}
use Rattle.call_runs.proofs.AlongLaws.{along_all}
use Rattle.ledger.specs.Ledger.{Parent, parent_of}
use Rattle.ledger.specs.Ledger as ledger
use Rattle.ledger.specs.Run.{Step}
use Rattle.ledger.specs.Run as Mc
use Rattle.ledger.proofs.AnswerLaws.{standing_told}
use Rattle.history.specs.Index.{kind_of}
use Rattle.history.specs.Machine.{Borrowed}
use Rattle.history.specs.ForkUndo.{Places, empty_balance}
use Rattle.history_runs.specs.View.{ids_in, filled, balance_in}
use Rattle.history_runs.specs.Runs.{says_of, Spells, StepsSaid, Agrees, Empty}
use Rattle.history_runs.proofs.StartLaws.{borrowed, start_holds, W, fork_undo_from_empty}
use Rattle.history_runs.proofs.HoldLaws.{run_heard}
use Rattle.history_runs.proofs.PieceLaws.{passes}

-- ---- the program's start

-- so many bytes
abbrev pub bytes : ℕ → ℕ → List ℕ
bytes n b = replicate n b

pub ids_long : length two_ids ≡ 8256
unfolding two_ids
ids_long =
    let l : length (bytes 8256 0) ≡ 8256 = length-replicate {A = ℕ} 8256 0 in
    let k : length (bytes 32 1) ≡ 32 = length-replicate {A = ℕ} 32 1 in
    length_write 4128 (bytes 32 1) (bytes 8256 0) (omega (arith, l, k)) ∙ l

pub numbers_long : length (replicate 2306 (pos 0)) ≡ 2306
numbers_long = length-replicate 2306 (pos 0)

none_records : (cap : ℕ) (l : List ℕ) → cap * 10288 ≤ length l → RecordsOk 10288 10254 (none_of cap) l
unfolding records distinct lengths_ok
none_records cap l h = record { bounds = bounds_of 10288 (none_of cap) l (omega arith) h; lengths = refl; apart = refl }

none_keys : (cap : ℕ) (l : List ℕ) → cap * 32 ≤ length l → KeysOk (none_of cap) l
unfolding records distinct
none_keys cap l h = record { bounds = bounds_of 32 (none_of cap) l (omega arith) h; apart = refl }

-- what the balances' places hold; of a parent above 1, whom the program has not, the same as of parent 1
abbrev pub starting_places : Parent → Places
starting_places p =
    let q : ℕ = min p 1 in
    record {
      ids = (balance_in starting q).ids;
      amounts = (balance_in starting q).amounts;
      ids_in = length_part (q * 4128 + 32) 4096 two_ids (omega (arith, ids_long));
      amounts_in = length_part (q * 1153 + 1024) 128 (replicate 2306 (pos 0)) (omega (arith, numbers_long));
    }

length_zero : (k : Kind) (p : ℕ) → p < 2 → ◌≡◌ {A = ℕ} (get_or (bytes 6 0) (length_at k p) 0) 0
length_zero Box p h = get_or-replicate 6 (length_at Box p) 0 0 (omega arith)
length_zero Tx p h = get_or-replicate 6 (length_at Tx p) 0 0 (omega arith)

spills_zero : (k : Kind) (p : ℕ) → p < 2 → get_or (replicate 4 (pos 0)) (spills_at k p) (pos 0) ≡ pos 0
spills_zero Box p h = get_or-replicate 4 (spills_at Box p) (pos 0) (pos 0) (omega arith)
spills_zero Tx p h = get_or-replicate 4 (spills_at Tx p) (pos 0) (pos 0) (omega arith)

-- "Empty: each count, length and nanoErgs 0"
pub starting_empty : Empty 2 starting_places starting
starting_empty =
    let staged : length (bytes 10288 0) ≡ 10288 = length-replicate {A = ℕ} 10288 0 in
    let table : length (bytes 20576 0) ≡ 20576 = length-replicate {A = ℕ} 20576 0 in
    let deleted : length (bytes 64 0) ≡ 64 = length-replicate {A = ℕ} 64 0 in
    let lengths : length (bytes 6 0) ≡ 6 = length-replicate {A = ℕ} 6 0 in
    let spills : length (replicate 4 (pos 0)) ≡ 4 = length-replicate 4 (pos 0) in
    record {
      ready = record {
        blocks = record {
          ids_in = omega (arith, ids_long);
          numbers_in = omega (arith, numbers_long);
          lengths_in = omega (arith, lengths);
          spills_in = omega (arith, spills);
        };
        few = λ p h k. omega (arith, length_zero k p h);
        listed = fit_lists edition_1 starting.lists
            (record {
              in_staged = none_records 1 (replicate 10288 0) (omega (arith, staged));
              in_table = none_records 2 (replicate 20576 0) (omega (arith, table));
              in_deleted = none_keys 2 (replicate 64 0) (omega (arith, deleted));
            });
      };
      parts = λ ch h. (λ i. counts_of (length_zero (kind_of ch) (parent_of ch) h i) (spills_zero (kind_of ch) (parent_of ch) h i));
      staged = refl;
      table = refl;
      deleted = refl;
      balances = balances;
    }
  where
    balances : (p : Parent) → p < 2 → balance_in starting p ≡ empty_balance (starting_places p)
    balances p h =
        let q : p ≡ min p 1 = omega arith in
        let count : ◌≡◌ {A = ℕ} (get_or (bytes 6 0) (p * 3 + 2) 0) 0 = get_or-replicate 6 (p * 3 + 2) 0 0 (omega arith) in
        let nanos : get_or (replicate 2306 (pos 0)) (p * 1153 + 1152) (pos 0) ≡ pos 0 = get_or-replicate 2306 (p * 1153 + 1152) (pos 0) (pos 0) (omega arith) in
        λ i. record { ids = (balance_in starting (q i)).ids; amounts = (balance_in starting (q i)).amounts; count = count i; nanos = nanos i }

-- ---- what the parents' lines are printed from

abbrev B : Borrowed edition_1
B = borrowed 2 starting_places starting starting_empty

abbrev M : Mc.Machine
M = W 2 starting_places starting starting_empty

module _ (numbers : List ℤ) (lengths : List ℕ) (spills : List ℤ) (n code : ℕ) (T : Told numbers lengths spills n code) where
  -- the calls that were made, and the state that they left
  abbrev xs : List Call
  xs = T.delivered.calls

  abbrev left : State
  left = state T.ids numbers lengths spills (lists_with T.counts T.staged T.table T.deleted)

  -- the theorem of the program: they are all calls of its input; what each says, of which its line is printed, is what the step answers, and of every undo what
  -- it should be; and the state holds exactly what the standing calls alone give
  pub record Theorem (ts : List Step) : Type 0 where
    pub all : Stand 2 T.input 0 xs
    pub said : heard xs starting ≡ map says_of (Mc.answers M (Mc.start M) ts)
    pub undos : StepsSaid 2 (filled (ids_in starting)) B starting_places (Mc.start M) starting ts xs (heard xs starting)
    pub agrees : Agrees 2 (Mc.told [] ts (Mc.answers M (Mc.start M) ts)) left

  pub fork_undo_of_program : (ts : List Step) → Spells 2 (filled (ids_in starting)) B starting_places (Mc.start M) ts xs → Mc.Legal M (Mc.start M) ts
      → Mc.KeysApart M (Mc.InUse M (Mc.start M) ts) → Theorem ts
  fork_undo_of_program ts m l k =
      let f = fork_undo_from_empty 2 starting_places starting starting_empty ts xs m l k in
      record {
        all = along_all 2 T.input xs 0 byte T.delivered.stand none_left;
        said = run_heard 2 (filled (ids_in starting)) B starting_places ts xs (Mc.start M) starting (start_holds 2 starting_places starting starting_empty) m;
        undos = f.0;
        agrees = subst (λ (cs : List ledger.Call). Agrees 2 cs left) (standing_told M ts (Mc.start M))
            (subst (Agrees 2 (Mc.run M (Mc.start M) ts).standing) (sym T.delivered.now_is) f.1);
      }
    where
      byte : ℕ
      byte = T.delivered.byte

      ok : state_ok edition_1 2 left ≡ true
      ok = ap (state_ok edition_1 2) T.delivered.now_is ∙ passes 2 starting_places starting starting_empty ts xs m l k xs [] (sym (append-nil xs))

      none_left : size_of (call_at 2 T.input byte) ≡ 0
      none_left = ⊎_elim
          (λ e.
          let z : byte + 0 ≡ byte = omega arith in
          sym (ap size_of (ap (λ (b : List ℕ). call_at 2 b 0) T.delivered.wait ∙ call_shifts T.input byte 2 0 ∙ ap (call_at 2 T.input) z)) ∙ e.0)
          (λ e. let q : true ≡ false = sym ok ∙ e.1 in let z : ◌≡◌ {A = ℕ} 0 1 = cc in absurd (omega arith))
          T.finished
