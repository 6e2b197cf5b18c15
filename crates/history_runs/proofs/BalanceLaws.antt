-- A credit and a debit with any tokens, made in place in the state, are those of the fork-undo theorem; the runner's have one token.
use Prim.Native.Nat.{ℕ, ◌+◌, ◌*◌, ◌≤◌, ◌<◌}
use mathlib.Core.Path.{◌≡◌, refl, sym, ap, ◌∙◌, subst}
use mathlib.Core.Logic.{inl, inr}
use mathlib.Core.Bool.{Bool, true, false}
use mathlib.Core.List.{List, [], ◌∷◌, append-nil}
use native.Mathlib.Omega.{arith}
use native.Mathlib.Decide.{dec_le}
use lib.IntN.{ℤ, pos}
use lib.Signed.{mag}
use lib.ListN.{length, set, get_or, replicate, length-replicate}
use lib.Seq.{get_or-set_same, get_or-set_other, set-get_or}
use borrow.Rule.Slice.PartMut.{mid_of, put_mid, put_same}
use Rattle.stores.specs.Stores.{write}
use Rattle.stores.proofs.StoreLaws.{length_part, length_write, write_one}
use Rattle.std.specs.Prelude.{Option, Some, None, Ok, Err}
use Rattle.refusal.specs.Answers.{Answer}
use Rattle.balance.specs.declared.Balance.{Balance}
use Rattle.balance.specs.declared.Outcome.{Outcome}
use Rattle.balance.specs.Tokens.{Changed, held, refused_by, change_tokens}
use Rattle.balance.specs.Boxes.{buffers_ok, nanos_after, held_by, settled, box_by, change_box}
use Rattle.balance.proofs.BoxLaws.{count_above, box_25}
use Rattle.buffer_core.specs.Edition.{edition_1}
use Rattle.buffer_core.specs.Append.{counts_of}
use Rattle.calls.specs.declared.Call.TheVariants.{Change}
use Rattle.call_steps.specs.State.{State, state, head_at, length_at, spills_at, ids_with, numbers_with, lengths_with, Within, Ready}
use Rattle.call_steps.specs.Steps.{Stepping, changed_by, change_of, of_change, step_of}
use Rattle.call_steps.proofs.StateLaws.{kind_few}
use Rattle.buffer_core.proofs.RefusedLaws.{both}
use Rattle.call_steps.proofs.KeepLaws.{within}
use Rattle.ledger.specs.Ledger.{Parent, parent_dec, Series, parent_of, ite, Tokens, Typed}
use Rattle.ledger.specs.Run.{Made}
use Rattle.balance_laws.specs.Calls.{ids_of, amounts_of, answered, outcome_of}
use Rattle.balance_laws.proofs.Turns.{Fits}
use Rattle.fork_model.proofs.Results.{result_of}
use Rattle.balance_laws.proofs.Laws.{add_same, sub_same}
use Rattle.history.specs.Index.{part, index, kind_of}
use Rattle.history_runs.specs.View.{ids_in, view, balance_in, set_balance, SameBalance, changed, one_token}
use Rattle.history_runs.proofs.PlaceLaws.{Clear, part_put, part_clear, element, write_put, amounts_head, tokens_id, parents_apart}

-- a credit (adding) or a debit of n tokens, of the parent p in its places
abbrev pub change_in_place : (adding : Bool) → Parent → ℤ → List ℕ → List ℤ → ℕ → State → Stepping
change_in_place adding p nanos ids amounts n s =
    of_change (changed_by (change_box adding (balance_in s p) nanos ids amounts n) p s.ids s.numbers s.lengths) s

module _ (s : State) (p : ℕ) (w : Within p s.ids s.numbers s.lengths s.spills) where
  abbrev b : Balance
  b = balance_in s p

  ids_room : p * 4128 + 32 + 4096 ≤ length s.ids
  ids_room = omega (arith, w.ids_in)

  amounts_room : p * 1153 + 1024 + 128 ≤ length s.numbers
  amounts_room = omega (arith, w.numbers_in)

  ids_long : length b.ids ≡ 4096
  ids_long = length_part (p * 4128 + 32) 4096 s.ids ids_room

  amounts_long : length b.amounts ≡ 128
  amounts_long = length_part (p * 1153 + 1024) 128 s.numbers amounts_room

  -- the state with a balance put in its places
  abbrev put : Balance → State
  put c = state (ids_with p c s.ids) (numbers_with p c s.numbers) (lengths_with p c s.lengths) s.spills s.lists

  -- put back as it was
  put_back : put b ≡ s
  put_back =
      let i = write_put (p * 4128 + 32) 4096 s.ids b.ids ids_long ∙ put_same (p * 4128 + 32) 4096 s.ids in
      let a = write_put (p * 1153 + 1024) 128 s.numbers b.amounts amounts_long ∙ put_same (p * 1153 + 1024) 128 s.numbers in
      let n = ap (λ (l : List ℤ). set l (p * 1153 + 1152) b.nanos) a ∙ set-get_or s.numbers (p * 1153 + 1152) (pos 0) in
      let l = set-get_or s.lengths (p * 3 + 2) 0 in
      λ x. state (i x) (n x) (l x) s.spills s.lists

  module _ (c : Balance) (li : length c.ids ≡ 4096) (la : length c.amounts ≡ 128) where
    abbrev with_amounts : List ℤ
    with_amounts = write (p * 1153 + 1024) c.amounts s.numbers

    room_after : p * 1153 + 1152 < length with_amounts
    room_after = omega (arith, w.numbers_in, length_write (p * 1153 + 1024) c.amounts s.numbers (omega (arith, la, amounts_room)))

    nanos_put : numbers_with p c s.numbers ≡ put_mid (p * 1153 + 1152) 1 with_amounts (c.nanos ∷ [])
    nanos_put =
        write_one (p * 1153 + 1152) c.nanos with_amounts room_after
        ∙ write_put (p * 1153 + 1152) 1 with_amounts (c.nanos ∷ []) refl

    -- parts elsewhere
    ids_part : (a n : ℕ) → Clear (p * 4128 + 32) 4096 a n → mid_of a n (ids_with p c s.ids) ≡ mid_of a n s.ids
    ids_part a n h =
        ap (mid_of a n) (write_put (p * 4128 + 32) 4096 s.ids c.ids li)
        ∙ part_clear (p * 4128 + 32) 4096 s.ids c.ids li ids_room a n h

    amounts_part : (a n : ℕ) → Clear (p * 1153 + 1024) 128 a n → mid_of a n with_amounts ≡ mid_of a n s.numbers
    amounts_part a n h =
        ap (mid_of a n) (write_put (p * 1153 + 1024) 128 s.numbers c.amounts la)
        ∙ part_clear (p * 1153 + 1024) 128 s.numbers c.amounts la amounts_room a n h

    nanos_part : (a n : ℕ) → Clear (p * 1153 + 1152) 1 a n → mid_of a n (numbers_with p c s.numbers) ≡ mid_of a n with_amounts
    nanos_part a n h =
        ap (mid_of a n) nanos_put
        ∙ part_clear (p * 1153 + 1152) 1 with_amounts (c.nanos ∷ []) refl (omega (arith, room_after)) a n h

    numbers_part : (a n : ℕ) → Clear (p * 1153 + 1024) 129 a n → mid_of a n (numbers_with p c s.numbers) ≡ mid_of a n s.numbers
    numbers_part a n (inl h) = nanos_part a n (inl (omega arith)) ∙ amounts_part a n (inl h)
    numbers_part a n (inr h) = nanos_part a n (inr (omega arith)) ∙ amounts_part a n (inr (omega arith))

    put_here : balance_in (put c) p ≡ c
    put_here =
        let i = ap (mid_of (p * 4128 + 32) 4096) (write_put (p * 4128 + 32) 4096 s.ids c.ids li) ∙ part_put (p * 4128 + 32) 4096 s.ids c.ids li ids_room in
        let a =
        nanos_part (p * 1153 + 1024) 128 (inl (omega arith))
        ∙ ap (mid_of (p * 1153 + 1024) 128) (write_put (p * 1153 + 1024) 128 s.numbers c.amounts la)
        ∙ part_put (p * 1153 + 1024) 128 s.numbers c.amounts la amounts_room in
        let l : p * 3 + 2 < length s.lengths = omega (arith, w.lengths_in) in
        λ x.
        record {
          ids = i x;
          amounts = a x;
          count = get_or-set_same s.lengths (p * 3 + 2) c.count 0 l x;
          nanos = get_or-set_same with_amounts (p * 1153 + 1152) c.nanos (pos 0) room_after x;
        }

    put_there : (q : Parent) → (p ≡ q → ⊥) → balance_in (put c) q ≡ balance_in s q
    put_there q f =
        let i = ids_part (q * 4128 + 32) 4096 (parents_apart 4128 32 4096 4096 32 p q f (omega arith) (omega arith) (omega arith)) in
        let a = numbers_part (q * 1153 + 1024) 128 (parents_apart 1153 1024 129 128 1024 p q f (omega arith) (omega arith) (omega arith)) in
        let n = numbers_part (q * 1153 + 1152) 1 (parents_apart 1153 1024 129 1 1152 p q f (omega arith) (omega arith) (omega arith)) in
        λ x.
        record {
          ids = i x;
          amounts = a x;
          count = get_or-set_other s.lengths (p * 3 + 2) (q * 3 + 2) c.count 0 (λ e. f (omega (arith, e))) x;
          nanos = element (q * 1153 + 1152) (numbers_with p c s.numbers) s.numbers (pos 0) n x;
        }

    put_balance : balance_in (put c) ≡ set_balance (balance_in s) p c
    unfolding ite
    put_balance = λ x q. by_parent q (parent_dec p q) x
      where
        by_parent : (q : Parent) (t : Dec (p ≡ q)) → balance_in (put c) q ≡ ite t c (balance_in s q)
        by_parent q (yes e) = subst (λ (y : Parent). balance_in (put c) y ≡ c) e put_here
        by_parent q (no f) = put_there q f

    put_view : view (put c) ≡ view s
    put_view =
        λ x.
        index (λ d.
        part (counts_of (get_or-set_other s.lengths (p * 3 + 2) (length_at (kind_of d) (parent_of d)) c.count 0 (apart d) x)
        (get_or s.spills (spills_at (kind_of d) (parent_of d)) (pos 0)))
        (numbers_part (head_at (kind_of d) (parent_of d)) 512 (amounts_head (kind_of d) p (parent_of d)) x)) s.lists
      where
        apart : (d : Series) → length_at (kind_of d) (parent_of d) ≡ p * 3 + 2 → ⊥
        apart d e = omega (arith, kind_few (kind_of d), e)

    put_ids : ids_in (put c) ≡ ids_in s
    put_ids = λ x q. ids_part (q * 4128) 32 (tokens_id p q) x

  -- ---- the call
  by_answer : (a : Answer) (c : Balance) → (a ≡ (Ok tt) → Fits (held_by c)) → ((code : ℕ) → a ≡ Err code → c ≡ b)
      → SameBalance s p (of_change (changed_by (record { answer = a; balance = c }) p s.ids s.numbers s.lengths) s) (answered a c)
  by_answer (Ok tt) c fits same =
      let f = fits refl in
      (refl, put_balance c f.ids_in f.amounts_in, put_view c f.ids_in f.amounts_in, put_ids c f.ids_in f.amounts_in)
  by_answer (Err code) c fits same = (refl, ap put (same code refl) ∙ put_back)

  module _ (adding : Bool) (nanos : ℤ) (ts : Tokens) where
    -- of a box, its tokens laid out as the theorem does
    abbrev out : Outcome
    out = change_box adding b nanos (ids_of ts) (amounts_of ts) (length ts)

    as_changed : (t : Bool) → outcome_of (change_box t b nanos (ids_of ts) (amounts_of ts) (length ts)) ≡ changed t b nanos ts
    as_changed true = refl
    as_changed false = refl

    abbrev Unchanged : Outcome → Type 0
    Unchanged o = (code : ℕ) → o.answer ≡ Err code → o.balance ≡ b

    refused_same : Unchanged out
    unfolding change_box
    refused_same =
        both Unchanged (buffers_ok b.count (ids_of ts) (amounts_of ts) (length ts)) (by_nanos (nanos_after adding b.nanos nanos)) (λ code e. refl)
      where
        by_tokens : (v : ℤ) (x : Changed) → Unchanged (settled b v x)
        by_tokens v (held h) code e = let z : ◌≡◌ {A = ℕ} 0 1 = cc in absurd (omega arith)
        by_tokens v (refused_by y) code e = refl

        by_nanos : (x : Option ℤ) → Unchanged (box_by adding b (ids_of ts) (amounts_of ts) (length ts) x)
        by_nanos (Some v) = by_tokens v (change_tokens adding (ids_of ts) (amounts_of ts) 0 (length ts) (held_by b))
        by_nanos None = λ code e. refl

    accepted_fits : Typed ts → out.answer ≡ (Ok tt) → Fits (held_by out.balance)
    accepted_fits typed e = by_count (dec_le b.count 128)
      where
        by_adding : Fits (held_by b) → (t : Bool) → (c : Balance) → result_of (changed t b nanos ts) ≡ result_of (answered (Ok tt) c) → Fits (held_by c)
        by_adding f true c q = (add_same b f nanos ts typed).keeps c q
        by_adding f false c q = (sub_same b f nanos ts typed).keeps c q

        by_count : Dec (b.count ≤ 128) → Fits (held_by out.balance)
        by_count (yes f) =
            by_adding (record { few = f; ids_in = ids_long; amounts_in = amounts_long }) adding out.balance
            (ap result_of (sym (as_changed adding) ∙ ap (λ (a : Answer). answered a out.balance) e))
        by_count (no f) =
            let o = box_25 adding b nanos (ids_of ts) (amounts_of ts) (length ts) (sym (count_above b.count (ids_of ts) (amounts_of ts) (length ts) (omega (arith, f)))) in
            let y : Err 25 ≡ out.answer = ap (λ (x : Outcome). x.answer) o in
            let z : ◌≡◌ {A = ℕ} 0 1 = cc in absurd (omega arith)

    change_in : Typed ts → SameBalance s p (change_in_place adding p nanos (ids_of ts) (amounts_of ts) (length ts) s) (changed adding b nanos ts)
    change_in typed =
        subst (λ (x : Made Balance Balance). SameBalance s p (of_change (changed_by out p s.ids s.numbers s.lengths) s) x) (as_changed adding)
        (by_answer out.answer out.balance (accepted_fits typed) refused_same)

module _ (parents : ℕ) (s : State) (r : Ready parents s) (adding : Bool) (p : ℕ) (h : p < parents) (nanos : ℤ) where
  -- in a state that refusal 25 passed, on one of its parents
  pub change_any : (ts : Tokens) → Typed ts
      → SameBalance s p (change_in_place adding p nanos (ids_of ts) (amounts_of ts) (length ts) s) (changed adding (balance_in s p) nanos ts)
  change_any ts typed = change_in s p (within parents s r p h) adding nanos ts typed

  -- of the runner; the amount is a number of 64 signed bits
  pub change_same : (token : ℕ) (amount : ℤ) → mag amount < 9223372036854775808
      → SameBalance s p (step_of edition_1 (Change adding p nanos token amount) s) (changed adding (balance_in s p) nanos (one_token token amount))
  unfolding step_of change_of
  change_same token amount m =
      subst (λ (l : List ℕ). SameBalance s p (change_in_place adding p nanos l (amount ∷ []) 1 s) (changed adding (balance_in s p) nanos (one_token token amount)))
      (append-nil (replicate 32 token)) (change_any (one_token token amount) (length-replicate 32 token, m, tt))
