-- Runs over the pieces of an input, one after the other, leave and say what one run over the whole leaves and says.
use mathlib.Core.Path.{◌≡◌, refl, sym, ap, ◌∙◌, subst}
use mathlib.Core.Bool.{Bool, true, false}
use mathlib.Core.List.{List, [], ◌∷◌, ◌++◌, map, append_assoc, append-nil}
use Prim.Native.Nat.{ℕ, zero, suc, ◌+◌, ◌*◌, ◌/◌, ◌≤◌, ◌<◌}
use native.Mathlib.Omega.{arith}
use native.Mathlib.Decide.{ℕ_discrete}
use lib.IntN.{ℤ}
use lib.ListN.{length, drop, get_or, length-append}
use lib.Seq.{drop-append-le}
use borrow.Author.Tests.{le-leb}
use Rattle.records.proofs.CheckLaws.{and_true}
use Rattle.segment_id.specs.declared.Kind.TheVariants.{Box, Tx}
use Rattle.balance.specs.declared.Balance.{Balance}
use Rattle.index_types.specs.declared.RowEdition.TheVariants.{One}
use Rattle.buffer_core.specs.Edition.{edition_1}
use Rattle.calls.specs.declared.Call.{Call}
use Rattle.calls.specs.Calls.{call_at, size_of}
use Rattle.calls.proofs.CallLaws.{call_sound}
use Rattle.call_steps.specs.declared.Said.{Said}
use Rattle.call_steps.specs.State.{State, counts_ok, lengths_ok, blocks_ok, state_ok, Ready}
use Rattle.call_steps.specs.Steps.{step_of}
use Rattle.runner.specs.Run.{Run, may_go, runs, start, run_of}
use Rattle.runner.proofs.RunLaws.{runs_stop, run_passed}
use Rattle.call_runs.proofs.AlongLaws.{made_append}
use Rattle.runner.proofs.PieceLaws.{settled, call_stays, call_shifts, runs_go, turn_stops, turn_goes, after}
use Rattle.ledger.specs.Ledger.{Parent}
use Rattle.ledger.specs.Ledger as ledger
use Rattle.ledger.specs.Run.{Step}
use Rattle.ledger.specs.Run as Mc
use Rattle.ledger.proofs.AnswerLaws.{standing_told}
use Rattle.ledger.proofs.PrefixLaws.{legal_front, apart_front}
use Rattle.history.specs.Machine.{Borrowed}
use Rattle.history.specs.ForkUndo.{Places}
use Rattle.history.proofs.ForkUndoLaw.{stays_sound}
use Rattle.history_runs.specs.View.{ids_in, filled, balance_in}
use Rattle.call_runs.specs.Made.{made, heard, said_from, Stand}
use Rattle.history_runs.specs.Runs.{Piece, bytes_of, in_pieces, said_in_pieces, Roomy, says_of, Spells, StepsSaid, Agrees, Empty}
use Rattle.history_runs.proofs.HoldLaws.{run_holds, run_heard}
use Rattle.history_runs.proofs.StartLaws.{filled_long, borrowed, start_holds, W, fork_undo_from_empty}
use Rattle.history_runs.proofs.InputLaws.{Room, goes, room_after, few, run_of_made, run_of_answers}

-- the bytes of the calls
unfoldable total : List Call → ℕ
total [] = 0
total (x ∷ xs) = size_of x + total xs

heard_append : (ys zs : List Call) (s : State) → heard (ys ++ zs) s ≡ heard ys s ++ heard zs (made ys s)
unfolding heard made
heard_append [] zs s = refl
heard_append (y ∷ ys) zs s = ap (λ (l : List Said). (step_of edition_1 y s).said ∷ l) (heard_append ys zs (step_of edition_1 y s).after)

module _ (parents : ℕ) where
  -- where a run stands that made the calls xs from r on
  record Behind (r : Run) (xs : List Call) (x : Run) : Type 0 where
    pub at_is : x.at ≡ r.at + total xs
    pub made_is : x.made ≡ r.made + length xs

  -- a run ends behind the calls that it makes
  run_reaches : (input : List ℕ) (xs : List Call) (n : ℕ) (r : Run) → length xs < n → Room parents input (length xs) r → Stand parents input r.at xs
      → Behind r xs (runs edition_1 parents input n r)
  unfolding Stand total
  run_reaches input xs zero r h k s = absurd (omega arith)
  run_reaches input [] (suc n) r h k s = by_room (may_go r) refl
    where
      here : (x : Run) → x.at ≡ r.at → x.made ≡ r.made → Behind r [] x
      here x e f = record { at_is = omega (arith, e); made_is = omega (arith, f) }

      by_room : (b : Bool) → may_go r ≡ b → Behind r [] (runs edition_1 parents input (suc n) r)
      by_room true e = subst (Behind r []) (sym (runs_go edition_1 parents input n r e ∙ turn_stops edition_1 parents input n r s)) (here _ refl refl)
      by_room false e = subst (Behind r []) (runs_stop parents input edition_1 (suc n) r e) (here r refl refl)
  run_reaches input (x ∷ xs) (suc n) r h k s =
      let y = after edition_1 parents input r in
      let z : size_of (call_at parents input r.at) ≡ 0 → ⊥ = λ q. s.1 (ap size_of (sym s.0) ∙ q) in
      let t : Stand parents input y.at xs = subst (λ (c : Call). Stand parents input (r.at + size_of c) xs) (sym s.0) s.2 in
      let q : size_of (call_at parents input r.at) ≡ size_of x = ap size_of s.0 in
      let w : r.at + size_of (call_at parents input r.at) + total xs ≡ r.at + (size_of x + total xs) = omega (arith, q) in
      let v : r.made + 1 + length xs ≡ r.made + suc (length xs) = omega arith in
      let B = run_reaches input xs n y (omega arith) (room_after parents input (length xs) r k) t in
      subst (Behind r (x ∷ xs))
      (sym (runs_go edition_1 parents input n r (goes parents input (length xs) r k) ∙ ap (runs edition_1 parents input n) (turn_goes edition_1 parents input r z)))
      (record { at_is = B.at_is ∙ w; made_is = B.made_is ∙ v })

  -- where they end no call stands
  stand_end : (input : List ℕ) (xs : List Call) (at : ℕ) → Stand parents input at xs → size_of (call_at parents input (at + total xs)) ≡ 0
  unfolding Stand total
  stand_end input [] at s = let z : at + 0 ≡ at = omega arith in ap (λ (i : ℕ). size_of (call_at parents input i)) z ∙ s
  stand_end input (x ∷ xs) at s =
      let z : at + (size_of x + total xs) ≡ at + size_of x + total xs = omega arith in
      ap (λ (i : ℕ). size_of (call_at parents input i)) z ∙ stand_end input xs (at + size_of x) s.2

  -- the calls counted from a later byte
  stand_shifts : (input : List ℕ) (k : ℕ) (xs : List Call) (at : ℕ) → Stand parents input (k + at) xs → Stand parents (drop k input) at xs
  unfolding Stand
  stand_shifts input k [] at s = ap size_of (call_shifts input k parents at) ∙ s
  stand_shifts input k (x ∷ xs) at s =
      let z : k + at + size_of x ≡ k + (at + size_of x) = omega arith in
      (call_shifts input k parents at ∙ s.0, s.1, stand_shifts input k xs (at + size_of x) (subst (λ (i : ℕ). Stand parents input i xs) z s.2))

  -- ---- the calls of a piece, and those of the rest
  module _ (a b : List ℕ) where
    record Cuts (at : ℕ) (xs : List Call) : Type 0 where
      pub ys : List Call
      pub zs : List Call
      pub is : xs ≡ ys ++ zs
      pub first : Stand parents a at ys
      pub rest : Stand parents (a ++ b) (at + total ys) zs
      pub within : at + total ys ≤ length a

    none_here : (at : ℕ) (xs : List Call) → at ≤ length a → Stand parents (a ++ b) at xs → size_of (call_at parents a at) ≡ 0 → Cuts at xs
    unfolding Stand total
    none_here at xs w s z =
        let e : at ≡ at + 0 = omega arith in
        record { ys = []; zs = xs; is = refl; first = z; rest = subst (λ (i : ℕ). Stand parents (a ++ b) i xs) e s; within = omega arith }

    one_here : (at : ℕ) (x : Call) (xs : List Call) → call_at parents a at ≡ x → (size_of x ≡ 0 → ⊥) → Cuts (at + size_of x) xs → Cuts at (x ∷ xs)
    unfolding Stand total
    one_here at x xs e n C =
        let z : at + size_of x + total C.ys ≡ at + (size_of x + total C.ys) = omega arith in
        record {
          ys = x ∷ C.ys;
          zs = C.zs;
          is = ap (λ (l : List Call). x ∷ l) C.is;
          first = (e, n, C.first);
          rest = subst (λ (i : ℕ). Stand parents (a ++ b) i C.zs) z C.rest;
          within = omega (arith, C.within);
        }

    cut : (xs : List Call) (at : ℕ) → at ≤ length a → Stand parents (a ++ b) at xs → Cuts at xs
    unfolding Stand
    cut [] at w s = by_size (ℕ_discrete (size_of (call_at parents a at)) 0)
      where
        by_size : Dec (size_of (call_at parents a at) ≡ 0) → Cuts at []
        by_size (yes z) = none_here at [] w s z
        by_size (no z) = absurd (z (ap size_of (call_stays parents a b at (settled (call_at parents a at) z)) ∙ s))
    cut (x ∷ xs) at w s = by_size (ℕ_discrete (size_of (call_at parents a at)) 0) (λ h. cut xs (at + size_of x) h s.2)
      where
        by_size : Dec (size_of (call_at parents a at) ≡ 0) → (at + size_of x ≤ length a → Cuts (at + size_of x) xs) → Cuts at (x ∷ xs)
        by_size (yes z) go = none_here at (x ∷ xs) w s z
        by_size (no z) go =
            let e : call_at parents a at ≡ x = call_stays parents a b at (settled (call_at parents a at) z) ∙ s.0 in
            let f : at + size_of x ≤ length a = subst (λ (c : Call). at + size_of c ≤ length a) e (omega (arith, (call_sound parents a at).fits)) in
            one_here at x xs e s.1 (go f)

  -- the test of 25 passes before each run: it does in the state after any of the calls
  abbrev pub Passes : State → List Call → Type 0
  Passes s xs = (ys zs : List Call) → xs ≡ ys ++ zs → state_ok edition_1 parents (made ys s) ≡ true

  -- a run over a piece with room for the answers of its calls: where it ends, the state it leaves, and what it says
  record Piece_made (input : List ℕ) (s : State) (answers : List ℕ) (popped : List ℤ) (xs : List Call) : Type 0 where
    pub at_is : (run_of edition_1 parents input s answers popped).at ≡ total xs
    pub now_is : (run_of edition_1 parents input s answers popped).now ≡ made xs s
    pub said : (let r = run_of edition_1 parents input s answers popped in said_from r.answers r.popped 0 r.made) ≡ heard xs s

  one_piece : (input : List ℕ) (s : State) (answers : List ℕ) (popped : List ℤ) (xs : List Call) → state_ok edition_1 parents s ≡ true → length xs ≤ length popped → length xs * 2 ≤ length answers
      → Stand parents input 0 xs → Piece_made input s answers popped xs
  one_piece input s answers popped xs ok numbers codes m =
      let r = run_of edition_1 parents input s answers popped in
      let B = run_reaches input xs (length input + 1) (start s answers popped) (omega (arith, few parents input xs 0 (omega arith) m)) (record { going = refl; numbers = omega arith; codes = omega arith }) m in
      let passed = run_passed parents input s answers popped ok in
      let at : r.at ≡ 0 + total xs = ap (λ (y : Run). y.at) (sym passed) ∙ B.at_is in
      let n : r.made ≡ 0 + length xs = ap (λ (y : Run). y.made) (sym passed) ∙ B.made_is in
      let k : r.made ≡ length xs = omega (arith, n) in
      record {
        at_is = omega (arith, at);
        now_is = run_of_made parents input s answers popped xs ok numbers codes m;
        said = ap (said_from r.answers r.popped 0) k ∙ run_of_answers parents input s answers popped xs ok numbers codes m;
      }

  -- the runs over all pieces: the state they leave, and what they say
  abbrev pub Pieces_made : List Piece → List ℕ → State → List Call → Type 0
  Pieces_made qs left s xs = (in_pieces parents s left qs ≡ made xs s) × (said_in_pieces parents s left qs ≡ heard xs s)

  pub pieces_made : (qs : List Piece) (left : List ℕ) (s : State) (xs : List Call) (n : ℕ) → size_of (call_at parents left 0) ≡ 0 → length xs ≤ n → Roomy n qs → Passes s xs
      → Stand parents (left ++ bytes_of qs) 0 xs → Pieces_made qs left s xs
  unfolding in_pieces said_in_pieces bytes_of Roomy Stand made heard
  pieces_made [] left s [] n z f r p t = (refl, refl)
  pieces_made [] left s (x ∷ xs) n z f r p t =
      absurd (t.1 (ap size_of (sym t.0) ∙ ap (λ (l : List ℕ). size_of (call_at parents l 0)) (append-nil left) ∙ z))
  pieces_made (q ∷ qs) left s xs n z f r p t =
      let a = left ++ q.bytes in
      let b = bytes_of qs in
      let C = cut a b xs 0 (omega arith) (subst (λ (l : List ℕ). Stand parents l 0 xs) (sym (append_assoc left q.bytes b)) t) in
      let k = total C.ys in
      let long : length xs ≡ length C.ys + length C.zs = ap length C.is ∙ length-append C.ys C.zs in
      let ok = p [] xs refl in
      let here = one_piece a s q.answers q.popped C.ys ok (omega (arith, r.0)) (omega (arith, r.1)) C.first in
      let w : k + 0 ≡ 0 + k = omega arith in
      let end : size_of (call_at parents (drop k a) 0) ≡ 0 = ap size_of (call_shifts a k parents 0) ∙ ap (λ (i : ℕ). size_of (call_at parents a i)) w ∙ stand_end a C.ys 0 C.first in
      let more : Stand parents (drop k a ++ b) 0 C.zs = subst (λ (l : List ℕ). Stand parents l 0 C.zs) (drop-append-le k a b (omega (arith, C.within)))
      (stand_shifts (a ++ b) k C.zs 0 (subst (λ (i : ℕ). Stand parents (a ++ b) i C.zs) (sym w) C.rest)) in
      let later : Passes (made C.ys s) C.zs = λ us vs e.
      subst (λ (x : State). state_ok edition_1 parents x ≡ true) (made_append C.ys us s)
      (p (C.ys ++ us) vs (C.is ∙ ap (λ (l : List Call). C.ys ++ l) e ∙ sym (append_assoc C.ys us vs))) in
      let rest = pieces_made qs (drop k a) (made C.ys s) C.zs n end (omega (arith, long)) r.2 later more in (
        (λ i. in_pieces parents (here.now_is i) (drop (here.at_is i) a) qs)
            ∙ rest.0 ∙ sym (made_append C.ys C.zs s) ∙ ap (λ (l : List Call). made l s) (sym C.is),
        (λ i. here.said i ++ said_in_pieces parents (here.now_is i) (drop (here.at_is i) a) qs)
            ∙ ap (λ (l : List Said). heard C.ys s ++ l) rest.1
            ∙ sym (heard_append C.ys C.zs s) ∙ ap (λ (l : List Call). heard l s) (sym C.is),
      )

-- ---- the test of 25, from what holds after each of the calls
lengths_pass : (s : State) (n : ℕ) → ((p : ℕ) → p < n → counts_ok p s.lengths ≡ true) → lengths_ok n s.lengths ≡ true
unfolding lengths_ok
lengths_pass s zero f = refl
lengths_pass s (suc n) f = and_true (counts_ok n s.lengths) (lengths_ok n s.lengths) (f n (omega arith)) (lengths_pass s n (λ p h. f p (omega arith)))

state_passes : (parents : ℕ) (s : State) → Ready parents s → ((p : Parent) → p < parents → (balance_in s p).count ≤ 128) → state_ok edition_1 parents s ≡ true
unfolding state_ok blocks_ok
state_passes parents s r few_tokens =
    let b = r.blocks in
    and_true _ _
    (and_true _ _ (le-leb parents (length s.ids / 4128) (omega (arith, b.ids_in)))
    (and_true _ _ (le-leb parents (length s.numbers / 1153) (omega (arith, b.numbers_in)))
    (and_true _ _ (le-leb parents (length s.lengths / 3) (omega (arith, b.lengths_in))) (le-leb parents (length s.spills / 2) (omega (arith, b.spills_in))))))
    (and_true _ _ (lengths_pass s parents counts) r.listed)
  where
    counts : (p : ℕ) → p < parents → counts_ok p s.lengths ≡ true
    counts p h =
        let e : p * 3 + 0 ≡ p * 3 = omega arith in
        and_true _ _ (le-leb (get_or s.lengths (p * 3) 0) 512 (omega (arith, ap (λ (j : ℕ). get_or s.lengths j 0) e, r.few p h Box)))
        (and_true _ _ (le-leb (get_or s.lengths (p * 3 + 1) 0) 512 (r.few p h Tx)) (le-leb (get_or s.lengths (p * 3 + 2) 0) 128 (few_tokens p h)))

module _ (parents : ℕ) (places : Parent → Places) (s : State) (E : Empty parents places s) where
  abbrev B : Borrowed edition_1
  B = borrowed parents places s E

  abbrev M : Mc.Machine
  M = W parents places s E

  -- the steps that the first calls spell
  record Front (c : Mc.Conf M) (ts : List Step) (ys : List Call) : Type 0 where
    pub us : List Step
    pub vs : List Step
    pub is : ts ≡ us ++ vs
    pub spelled : Spells parents (filled (ids_in s)) B places c us ys

  front : (ys zs : List Call) (ts : List Step) (c : Mc.Conf M) → Spells parents (filled (ids_in s)) B places c ts (ys ++ zs) → Front c ts ys
  unfolding Spells
  front [] zs ts c m = record { us = []; vs = ts; is = refl; spelled = tt }
  front (y ∷ ys) zs [] c m = absurd m
  front (y ∷ ys) zs (t ∷ ts) c m =
      let f = front ys zs ts (Mc.step M c t) m.1 in
      record { us = t ∷ f.us; vs = f.vs; is = ap (λ (l : List Step). t ∷ l) f.is; spelled = (m.0, f.spelled) }

  pub passes : (ts : List Step) (xs : List Call) → Spells parents (filled (ids_in s)) B places (Mc.start M) ts xs → Mc.Legal M (Mc.start M) ts → Mc.KeysApart M (Mc.InUse M (Mc.start M) ts) → Passes parents s xs
  passes ts xs m l k ys zs e =
      let f = front ys zs ts (Mc.start M) (subst (Spells parents (filled (ids_in s)) B places (Mc.start M) ts) e m) in
      let us = f.us in
      let legal = legal_front M us f.vs (Mc.start M) (subst (Mc.Legal M (Mc.start M)) f.is l) in
      let apart = apart_front M us f.vs (Mc.start M) (subst (λ (x : List Step). Mc.KeysApart M (Mc.InUse M (Mc.start M) x)) f.is k) in
      let h = run_holds parents (filled (ids_in s)) B places us ys (Mc.start M) s (start_holds parents places s E) f.spelled in
      let sound = (stays_sound One (filled (ids_in s)) (filled_long (ids_in s)) B places us (legal, apart)).1 in
      state_passes parents (made ys s) h.ready
      (λ p q. subst (λ (b : Balance). b.count ≤ 128) (sym (h.balances p q)) (sound p).count)

  nothing_left : size_of (call_at parents [] 0) ≡ 0
  unfolding call_at
  nothing_left = refl

  module _ (qs : List Piece) (ts : List Step) (xs : List Call) where
    -- what stands in the answers of the runs
    abbrev answered : List Said
    answered = said_in_pieces parents s [] qs

    -- what the theorem says of the runs: what is answered of each call is what the step answers; of every undo it is what it should be; and the state after
    -- the last run holds exactly what the standing calls alone give, which the answers tell
    pub record Theorem : Type 0 where
      pub said : answered ≡ map says_of (Mc.answers M (Mc.start M) ts)
      pub undos : StepsSaid parents (filled (ids_in s)) B places (Mc.start M) s ts xs answered
      pub agrees : Agrees parents (Mc.told [] ts (Mc.answers M (Mc.start M) ts)) (in_pieces parents s [] qs)

    -- the fork-undo theorem of a runner that reads its input in pieces, from an empty state. Nothing is asked of where the pieces are cut
    pub fork_undo_in_pieces : Roomy (length xs) qs → Stand parents (bytes_of qs) 0 xs → Spells parents (filled (ids_in s)) B places (Mc.start M) ts xs
        → Mc.Legal M (Mc.start M) ts → Mc.KeysApart M (Mc.InUse M (Mc.start M) ts) → Theorem
    fork_undo_in_pieces r t m l k =
        let f = fork_undo_from_empty parents places s E ts xs m l k in
        let g = pieces_made parents qs [] s xs (length xs) nothing_left (omega arith) r (passes ts xs m l k) t in
        record {
          said = g.1 ∙ run_heard parents (filled (ids_in s)) B places ts xs (Mc.start M) s (start_holds parents places s E) m;
          undos = subst (StepsSaid parents (filled (ids_in s)) B places (Mc.start M) s ts xs) (sym g.1) f.0;
          agrees = subst (λ (cs : List ledger.Call). Agrees parents cs (in_pieces parents s [] qs)) (standing_told M ts (Mc.start M))
              (subst (Agrees parents (Mc.run M (Mc.start M) ts).standing) (sym g.0) f.1);
        }
