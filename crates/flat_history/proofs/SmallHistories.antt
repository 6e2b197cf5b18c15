-- The forked history: it meets the theorem's premises in either edition, and run by the index and by the flat list it is answered alike, as computed.
use mathlib.Core.Path.{◌≡◌, refl, sym, ap, subst}
use mathlib.Core.Logic.{⊎_elim, ◌≢◌}
use mathlib.Core.List.Memᴰ
use mathlib.Core.List.{List, [], ◌∷◌, nil≢cons, Memᴰ}
use Prim.Native.Nat.{ℕ, ◌≤◌, ◌<◌}
use native.Mathlib.Decide.{ℕ_discrete}
use native.Mathlib.Omega.{arith}
use lib.IntN.{ℤ, pos, nat_abs}
use lib.ListN.{length, replicate, length-replicate}
use Rattle.index_types.specs.Limits.{flat_limit}
use Rattle.index_types.specs.declared.RowEdition.{RowEdition}
use Rattle.index_types.specs.declared.RowEdition.TheVariants.{One, Two}
use Rattle.stores.specs.Stores.{write}
use Rattle.records.specs.Records.{records}
use Rattle.records.specs.Find.{distinct}
use Rattle.records.specs.Changes.{clear_records}
use Rattle.records.specs.Checks.{lengths_ok, records_ok, keys_ok}
use Rattle.buffer_core.specs.Edition.{edition_of}
use Rattle.buffer_core.specs.Append.{append_of, append_ok, append_core, spill_of}
use Rattle.buffer_core.specs.Pop.{pop_of, pop_ok, pop_core, lists_ok}
use Rattle.buffer_core.specs.Flip.{flip_of, flip_ok, flip_core, flip_effect, in_order, in_rows, search_by, walk_from}
use Rattle.buffer_core.specs.Flush.{flush_of, flush_core, flushed, table_after, put_undeleted, remove_keys, new_count}
use Rattle.flat_list.specs.Flat.{flat_ok, flat_append, flat_flip, flip_target, flat_pop}
use Rattle.ledger.specs.Ledger.{Parent, boxes, Call, append, ite, series_dec, Rules}
use Rattle.ledger.specs.Run.{Res, done, refused, Machine, run, flat, start, Legal, KeysApart, InUse}
use Rattle.ledger.specs.Run as Run
use Rattle.ledger.proofs.ShortLaws.{short_apart}
use Rattle.fork_model.proofs.Search.{done≢refused}
use Rattle.history.specs.ForkUndo.{index_machine}
use Rattle.history.proofs.SmallHistories.{heads_only}
use Rattle.history.proofs.ExampleLaws.{no_tokens}
use Rattle.flat_history.specs.SameAsIndex.{AllOfBoxes, full_codes, NeverFull, compared, SameHeld, answers, flat_answers, held, flat_held}
use Rattle.flat_history.specs.Example.{forked, forked_answers, forked_numbers, all_answers}
use Rattle.flat_history.proofs.Answers.{refused_is}
use Rattle.flat_history.proofs.Theorem.{theorem}

abbrev zero_ids : Parent → List ℕ
zero_ids p = replicate 32 0

-- lists without room: no row is made
abbrev M : RowEdition → Machine
M v = index_machine (edition_of v) zero_ids (heads_only v) (λ p. no_tokens)

abbrev zeros : List ℤ
zeros = replicate flat_limit (pos 0)

-- ---- what each step answers, and what is held at the end
pub index_answers : (v : RowEdition) → answers (M v) 0 zeros (λ p. no_tokens) forked ≡ all_answers
unfolding run Run.answers ite series_dec ℕ_discrete append_of append_ok append_core spill_of records_ok lengths_ok distinct records no_tokens pop_of pop_ok pop_core
    flip_of flip_ok flip_core flip_effect in_order in_rows search_by walk_from flush_of flush_core flushed table_after put_undeleted remove_keys new_count lists_ok keys_ok clear_records write
index_answers One = refl
index_answers Two = refl

pub index_held : (v : RowEdition) → held (M v) 0 zeros (λ p. no_tokens) forked ≡ forked_numbers
unfolding run flat ite series_dec ℕ_discrete append_of append_ok append_core spill_of records_ok lengths_ok distinct records no_tokens pop_of pop_ok pop_core
    flip_of flip_ok flip_core flip_effect in_order in_rows search_by walk_from flush_of flush_core flushed table_after put_undeleted remove_keys new_count lists_ok keys_ok clear_records write
index_held One = refl
index_held Two = refl

pub list_answers : (v : RowEdition) → flat_answers (M v) 0 zeros (λ p. no_tokens) forked ≡ all_answers
unfolding run Run.answers ite series_dec ℕ_discrete flat_ok flat_append flat_flip flip_target flat_pop
list_answers v = refl

pub list_held : (v : RowEdition) → flat_held (M v) 0 zeros (λ p. no_tokens) forked ≡ forked_numbers
unfolding run ite series_dec ℕ_discrete flat_ok flat_append flat_flip flip_target flat_pop
list_held v = refl

pub forked_compared : compared forked all_answers ≡ forked_answers
unfolding compared
forked_compared = refl

-- ---- the premises
none : (m : ℤ) (n : ℕ) → Memᴰ m [] → nat_abs m ≤ n
none m n t = absurd (Memᴰ.not-nil t)

above_five : (m : ℤ) (n : ℕ) → 5 ≤ n → Memᴰ m (pos 5 ∷ []) → nat_abs m ≤ n
above_five m n h t = let e : nat_abs m ≡ 5 = ap nat_abs (Memᴰ.eq_of_singleton t) in omega arith

five : Rules (append (boxes 0) (pos 5) ∷ [])
five = (record { rises = λ m t. none m 5 t; unspent = refl }, tt)

seven : Rules (append (boxes 0) (pos 7) ∷ append (boxes 0) (pos 5) ∷ [])
unfolding ite series_dec ℕ_discrete
seven = (record { rises = λ m t. above_five m 7 (omega arith) t; unspent = refl }, five)

eight : Rules (append (boxes 0) (pos 8) ∷ append (boxes 0) (pos 5) ∷ [])
unfolding ite series_dec ℕ_discrete
eight = (record { rises = λ m t. above_five m 8 (omega arith) t; unspent = refl }, five)

stands : {a : Call} {cs : List Call} → (a ∷ cs) ≢ []
stands e = nil≢cons (sym e)

pub forked_legal : (v : RowEdition) → Legal (M v) (start (M v)) forked
unfolding Legal run ite series_dec ℕ_discrete append_of append_ok append_core spill_of records_ok lengths_ok distinct records no_tokens pop_of pop_ok pop_core
    flip_of flip_ok flip_core flip_effect in_order in_rows search_by walk_from flush_of flush_core flushed table_after put_undeleted remove_keys new_count lists_ok keys_ok clear_records write
forked_legal One = (
  (tt, omega arith),
  five,
  (
    (tt, omega arith),
    seven,
    (
      (tt, omega arith),
      (tt, seven),
      (
        (tt, omega arith),
        (tt, seven),
        (
          (tt, omega arith),
          (tt, seven),
          (
            (tt, omega arith),
            (tt, seven),
            (tt, (tt, seven), ((tt, stands), seven, ((tt, stands), five, (tt, five, ((tt, omega arith), eight, ((tt, omega arith), (tt, eight), tt)))))),
          ),
        ),
      ),
    ),
  ),
)
forked_legal Two = (
  (tt, omega arith),
  five,
  (
    (tt, omega arith),
    seven,
    (
      (tt, omega arith),
      (tt, seven),
      (
        (tt, omega arith),
        (tt, seven),
        (
          (tt, omega arith),
          (tt, seven),
          (
            (tt, omega arith),
            (tt, seven),
            (tt, (tt, seven), ((tt, stands), seven, ((tt, stands), five, (tt, five, ((tt, omega arith), eight, ((tt, omega arith), (tt, eight), tt)))))),
          ),
        ),
      ),
    ),
  ),
)

pub forked_apart : (v : RowEdition) → KeysApart (M v) (InUse (M v) (start (M v)) forked)
forked_apart v = short_apart (M v) forked (omega arith)

pub forked_boxes : AllOfBoxes 0 forked
unfolding AllOfBoxes
forked_boxes = (refl, (refl, (refl, (refl, (refl, (refl, (tt, (tt, (tt, (tt, (refl, (refl, tt))))))))))))

-- no answer is one of 16, 21, 36 and 37
abbrev Outside : List (Res (List ℤ)) → Type 0
Outside [] = Unit {0}
Outside (done l ∷ rs) = Outside rs
Outside (refused k ∷ rs) = (Memᴰ k full_codes → ⊥) × Outside rs

never : (rs : List (Res (List ℤ))) → Outside rs → NeverFull rs
never [] h k t u = Memᴰ.not-nil u
never (done l ∷ rs) h k t u = ⊎_elim (λ e. done≢refused (sym e)) (λ w. never rs h k t w) (Memᴰ.cases_cons u)
never (refused j ∷ rs) h k t u = ⊎_elim (λ e. h.0 (subst (λ (n : ℕ). Memᴰ n full_codes) (refused_is e) t)) (λ w. never rs h.1 k t w) (Memᴰ.cases_cons u)

low : (k : ℕ) → k < 21 → (k ≡ 16 → ⊥) → Memᴰ k full_codes → ⊥
low k h a t =
    ⊎_elim a (λ u. ⊎_elim (λ e. omega arith) (λ v. ⊎_elim (λ e. omega arith) (λ w. ⊎_elim (λ e. omega arith) Memᴰ.not-nil (Memᴰ.cases_cons w))
    (Memᴰ.cases_cons v)) (Memᴰ.cases_cons u)) (Memᴰ.cases_cons t)

never_full : NeverFull all_answers
never_full = never all_answers (low 14 (omega arith) (λ e. omega arith), (low 15 (omega arith) (λ e. omega arith), (low 17 (omega arith) (λ e. omega arith), tt)))

-- ---- what the theorem says of it
pub forked_same : (v : RowEdition)
    → (compared forked (answers (M v) 0 zeros (λ p. no_tokens) forked) ≡ compared forked (flat_answers (M v) 0 zeros (λ p. no_tokens) forked))
    × SameHeld (held (M v) 0 zeros (λ p. no_tokens) forked) (flat_held (M v) 0 zeros (λ p. no_tokens) forked)
forked_same v =
    theorem v zero_ids (λ p. length-replicate {A = ℕ} 32 0) (heads_only v) (λ p. no_tokens) 0 zeros (omega (arith, length-replicate {A = ℤ} flat_limit (pos 0))) forked
    (forked_legal v) (forked_apart v) forked_boxes (subst NeverFull (sym (index_answers v)) never_full) (subst NeverFull (sym (list_answers v)) never_full)
