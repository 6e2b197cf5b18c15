-- The theorem's premises hold of the history of two parents, and what the machine computes on the way: transactions, credits, debits and refused calls.
use mathlib.Core.Path.{◌≡◌, refl, sym, ap, ◌∙◌}
use mathlib.Core.Logic.{◌≢◌}
use mathlib.Core.List.Memᴰ
use mathlib.Core.List.{List, [], ◌∷◌, map, Memᴰ, nil≢cons}
use Prim.Native.Nat.{ℕ, ◌≤◌}
use native.Mathlib.Omega.{arith}
use native.Mathlib.Decide.{ℕ_discrete}
use lib.IntN.{ℤ, pos, negsuc, ◌+ℤ◌, nat_abs}
use lib.Signed.{◌≤ℤ◌}
use lib.ListN.{replicate, length-replicate}
use Rattle.stores.specs.Stores.{write}
use Rattle.stores.specs.Equal.{same_bytes}
use Rattle.signed.specs.Checked.{checked}
use Rattle.records.specs.Records.{records}
use Rattle.records.specs.Find.{distinct}
use Rattle.records.specs.Changes.{clear_records}
use Rattle.records.specs.Checks.{lengths_ok, records_ok, keys_ok}
use Rattle.balance.specs.Tokens.{place_from, add_token, subtract_token, change_tokens, closed_up}
use Rattle.balance.specs.Boxes.{buffers_ok, change_box}
use Rattle.index_types.specs.declared.RowEdition.{RowEdition}
use Rattle.index_types.specs.declared.RowEdition.TheVariants.{One, Two}
use Rattle.buffer_core.specs.Edition.{edition_of}
use Rattle.buffer_core.specs.Append.{append_of, append_ok, append_core, spill_of}
use Rattle.buffer_core.specs.Pop.{pop_of, pop_ok, pop_core, lists_ok}
use Rattle.buffer_core.specs.Flip.{flip_of, flip_ok, flip_core, flip_effect, in_order, in_rows, search_by, walk_from}
use Rattle.buffer_core.specs.Flush.{flush_of, flush_core, flushed, table_after, put_undeleted, remove_keys, new_count}
use Rattle.ledger.specs.Ledger.{Parent, TokenId, id_dec, Series, boxes, series_dec, ite, Call, append, spend, debit, absℤ, ledger_numbers, Rules}
use Rattle.ledger.specs.Run.{done, refused, flat, Machine, Conf, start, run, answers, Legal, InUse, KeysApart, StepsOk, Agrees}
use Rattle.ledger.proofs.ShortLaws.{short_apart}
use Rattle.history.specs.ForkUndo.{index_machine}
use Rattle.history.specs.Example.{token_of_sevens, credit_ten, before_the_fork, two_parents, three_appends, two_parents_standing}
use Rattle.history.proofs.SmallHistories.{heads_only}
use Rattle.history.proofs.ExampleLaws.{no_tokens}
use Rattle.history.proofs.ForkUndoLaw.{fork_undo}

-- ---- the rules that the standing calls keep after each step
none : (m : ℤ) (n : ℕ) → Memᴰ m [] → nat_abs m ≤ n
none m n t = absurd (Memᴰ.not-nil t)

first_append : Rules (append (boxes 0) (pos 5) ∷ [])
first_append = (record { rises = λ m t. none m 5 t; unspent = refl }, tt)

two_appends : Rules (append (boxes 1) (pos 5) ∷ append (boxes 0) (pos 5) ∷ [])
unfolding ite series_dec ℕ_discrete
two_appends = (record { rises = λ m t. none m 5 t; unspent = refl }, first_append)

appends : Rules three_appends
appends = (tt, two_appends)

spent : Rules (spend 0 (pos 5) ∷ three_appends)
spent = (tt, appends)

credited : Rules (credit_ten ∷ spend 0 (pos 5) ∷ three_appends)
credited = (record { nonneg = omega arith; allpos = (omega arith, tt) }, spent)

some : (t : TokenId) (d : Dec (token_of_sevens ≡ t)) → pos 0 ≤ℤ (pos 0 +ℤ ite d (pos 3 +ℤ pos 0) (pos 0))
unfolding ite
some t (yes e) = omega arith
some t (no f) = omega arith

debited : Rules (debit 1 (pos 4) [] ∷ credit_ten ∷ spend 0 (pos 5) ∷ three_appends)
unfolding ite ℕ_discrete
debited = (record { nonneg = omega arith; allpos = tt; within = omega arith; held = λ t. some t (id_dec token_of_sevens t) }, credited)

last_rules : Rules two_parents_standing
unfolding ite series_dec ℕ_discrete
last_rules = (record { rises = λ m t. let e : nat_abs m ≡ 5 = ap nat_abs (Memᴰ.eq_of_singleton t) in omega arith; unspent = refl }, appends)

stands : {a : Call} {cs : List Call} → (a ∷ cs) ≢ []
stands e = nil≢cons (sym e)

abbrev zero_ids : Parent → List ℕ
zero_ids p = replicate 32 0

-- ---- in either edition

-- lists without room: no row is made
abbrev M : RowEdition → Machine
M v = index_machine (edition_of v) zero_ids (heads_only v) (λ p. no_tokens)

abbrev ended : (v : RowEdition) → Conf (M v)
ended v = run (M v) (start (M v)) two_parents

-- the three refused calls and the undone ones do not stand
pub two_parents_stand : (v : RowEdition) → (ended v).standing ≡ two_parents_standing
unfolding run ite series_dec ℕ_discrete append_of append_ok append_core spill_of records_ok lengths_ok distinct records no_tokens
    flip_of flip_ok flip_core flip_effect in_order in_rows search_by walk_from pop_of pop_ok pop_core flush_of flush_core flushed table_after put_undeleted remove_keys new_count lists_ok keys_ok clear_records write
    buffers_ok change_box place_from add_token subtract_token change_tokens closed_up checked same_bytes
two_parents_stand One = refl
two_parents_stand Two = refl

-- what each step answers: the three refused calls with their numbers, and the undos of a debit, a credit and a spend with none
pub two_parents_answers : (v : RowEdition) → answers (M v) (start (M v)) two_parents
    ≡ done [] ∷ done [] ∷ done [] ∷ refused 17 ∷ done [] ∷ refused 15 ∷ done [] ∷ refused 23 ∷ done [] ∷ done [] ∷ done [] ∷ done [] ∷ done [] ∷ done [] ∷ done [] ∷ []
unfolding answers run ite series_dec ℕ_discrete append_of append_ok append_core spill_of records_ok lengths_ok distinct records no_tokens
    flip_of flip_ok flip_core flip_effect in_order in_rows search_by walk_from pop_of pop_ok pop_core flush_of flush_core flushed table_after put_undeleted remove_keys new_count lists_ok keys_ok clear_records write
    buffers_ok change_box place_from add_token subtract_token change_tokens closed_up checked same_bytes
two_parents_answers One = refl
two_parents_answers Two = refl

-- before the fork the second parent holds what the credit and the debit give, the refused credit nothing, and the spent number is marked
pub before_nanos : (v : RowEdition) → (M v).nano_of ((run (M v) (start (M v)) (before_the_fork [])).now.bals 1) ≡ pos 6
unfolding run ite series_dec ℕ_discrete append_of append_ok append_core spill_of records_ok lengths_ok distinct records no_tokens
    flip_of flip_ok flip_core flip_effect in_order in_rows search_by walk_from flush_of flush_core flushed table_after put_undeleted remove_keys new_count lists_ok keys_ok clear_records write
    buffers_ok change_box place_from add_token subtract_token change_tokens closed_up checked same_bytes
before_nanos One = refl
before_nanos Two = refl

pub before_amount : (v : RowEdition) → (M v).amount_of ((run (M v) (start (M v)) (before_the_fork [])).now.bals 1) token_of_sevens ≡ pos 3
unfolding run ite series_dec id_dec ℕ_discrete append_of append_ok append_core spill_of records_ok lengths_ok distinct records no_tokens
    flip_of flip_ok flip_core flip_effect in_order in_rows search_by walk_from flush_of flush_core flushed table_after put_undeleted remove_keys new_count lists_ok keys_ok clear_records write
    buffers_ok change_box place_from add_token subtract_token change_tokens closed_up checked same_bytes
before_amount One = refl
before_amount Two = refl

pub before_entries : (v : RowEdition) → (M v).entries (run (M v) (start (M v)) (before_the_fork [])).now.store (boxes 0) ≡ negsuc 4 ∷ []
unfolding run flat ite series_dec ℕ_discrete append_of append_ok append_core spill_of records_ok lengths_ok distinct records no_tokens
    flip_of flip_ok flip_core flip_effect in_order in_rows search_by walk_from flush_of flush_core flushed table_after put_undeleted remove_keys new_count lists_ok keys_ok clear_records write
    buffers_ok change_box place_from add_token subtract_token change_tokens closed_up checked same_bytes
before_entries One = refl
before_entries Two = refl

pub two_parents_apart : (v : RowEdition) → KeysApart (M v) (InUse (M v) (start (M v)) two_parents)
two_parents_apart v = short_apart (M v) two_parents (omega arith)

pub two_parents_legal : (v : RowEdition) → Legal (M v) (start (M v)) two_parents
unfolding Legal run ite series_dec ℕ_discrete append_of append_ok append_core spill_of records_ok lengths_ok distinct records no_tokens
    flip_of flip_ok flip_core flip_effect in_order in_rows search_by walk_from pop_of pop_ok pop_core flush_of flush_core flushed table_after put_undeleted remove_keys new_count lists_ok keys_ok clear_records write
    buffers_ok change_box place_from add_token subtract_token change_tokens closed_up checked same_bytes
two_parents_legal One =
    ((tt, omega arith), first_append, ((tt, omega arith), two_appends, ((tt, omega arith), appends, ((tt, omega arith), appends, ((tt, omega arith), spent, ((tt, omega arith), spent, ((tt, (omega arith, (refl, omega arith, tt))), credited, ((tt, (omega arith, tt)), credited, ((tt, (omega arith, tt)), debited, (tt, debited, ((tt, stands), credited, ((tt, stands), spent, ((tt, stands), appends, (tt, appends, ((tt, omega arith), last_rules, tt)))))))))))))))
two_parents_legal Two =
    ((tt, omega arith), first_append, ((tt, omega arith), two_appends, ((tt, omega arith), appends, ((tt, omega arith), appends, ((tt, omega arith), spent, ((tt, omega arith), spent, ((tt, (omega arith, (refl, omega arith, tt))), credited, ((tt, (omega arith, tt)), credited, ((tt, (omega arith, tt)), debited, (tt, debited, ((tt, stands), credited, ((tt, stands), spent, ((tt, stands), appends, (tt, appends, ((tt, omega arith), last_rules, tt)))))))))))))))

-- ---- what the theorem says of it
pub two_parents_hold : (v : RowEdition) → StepsOk (M v) (start (M v)) two_parents × Agrees (M v) (ended v)
two_parents_hold v = fork_undo v zero_ids (λ p. length-replicate {A = ℕ} 32 0) (heads_only v) (λ p. no_tokens) two_parents (two_parents_legal v) (two_parents_apart v)

pub two_parents_numbers : (v : RowEdition) (ch : Series) → map absℤ ((M v).entries (ended v).now.store ch) ≡ ledger_numbers two_parents_standing ch
two_parents_numbers v ch = (two_parents_hold v).1.numbers ch ∙ ap (λ (cs : List Call). ledger_numbers cs ch) (two_parents_stand v)
