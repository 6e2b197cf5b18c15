-- A step with lists of other capacities, by the law of two capacities (`trial_laws`) and that of some rows of the table (`working_steps`).
use Prim.Native.Nat.{ℕ, zero, suc, ◌*◌, ◌≤◌, ◌<◌}
use mathlib.Core.Path.{◌≡◌, refl, sym, ap, ◌∙◌, subst}
use mathlib.Core.Logic.{◌≢◌}
use mathlib.Core.Bool.{Bool, true, false}
use mathlib.Core.List.{List}
use native.Mathlib.Omega.{arith}
use native.Mathlib.Nat.{mul-le-mul_right}
use lib.IntN.{ℤ}
use lib.ListN.{length, take}
use Rattle.std.specs.Prelude.{Ok, Err}
use Rattle.refusal.specs.Answers.{Answer}
use Rattle.balance.specs.Boxes.{change_box}
use Rattle.index_types.specs.declared.ListCounts.{ListCounts}
use Rattle.segment_id.specs.declared.Kind.TheVariants.{Box, Tx}
use Rattle.records.specs.Checks.{InBounds}
use Rattle.buffer_core.specs.declared.Direction.TheVariants.{Spend, Unspend}
use Rattle.buffer_core.specs.Edition.{edition_1}
use Rattle.buffer_core.specs.Pop.{Lists, lists}
use Rattle.buffer_core.proofs.ListLaws.{ListsFit, lists_fit}
use Rattle.calls.specs.declared.Call.{Call}
use Rattle.calls.specs.declared.Call.TheVariants.{Append, Flip, Pop, Flush}
use Rattle.calls.specs.Calls.{Among}
use Rattle.call_steps.specs.declared.Said.{Said}
use Rattle.call_steps.specs.State.{State, state, balance_of, Ready}
use Rattle.call_steps.specs.Steps.{Stepping, said_by, refused, step_of}
use Rattle.call_steps.proofs.KeepLaws.{step_kept}
use Rattle.ledger.specs.Calls.{Tokens, append, spend, credit, debit, boxes, txs}
use Rattle.driver_core.specs.Steps.{change_with, token_ids, token_amounts, unspends, pops, may_be_lifted}
use Rattle.driver_core.proofs.KeepLaws.{change_kept}
use Rattle.trial_laws.proofs.NearLaws.{Near}
use Rattle.trial_laws.proofs.StepNear.{Rel, Tracks, Fine, OfForks, step_near}
use Rattle.trial_laws.proofs.Capacities.{call_kept}
use Rattle.working_steps.specs.Beside.{with_table, Beside, Act, makes, unmakes, takes, flushes, act, ActOf}
use Rattle.working_steps.specs.Beside as table
use Rattle.working_steps.proofs.StepLaws.{step_law}
use Rattle.driver_laws.proofs.CodeLaws.{AnswerHas, box_coded}
use Rattle.lent_steps.specs.Lent.{SameIn, with_spills, Lent, Outcome, as_table, lacks, full_table, LentLaw}
use Rattle.lent_steps.proofs.LeaveLaws.{refused_leaves}

-- ---- codes that a driver lifts
lifted_some : (code : ℕ) → may_be_lifted code ≡ true → 0 < code
lifted_some zero e = let z : ◌≡◌ {A = ℕ} 0 1 = cc in absurd (omega arith)
lifted_some (suc n) e = omega arith

-- a code that is not lifted is none of the four
other_code : (code k : ℕ) → may_be_lifted code ≡ false → may_be_lifted k ≡ true → code ≢ k
other_code code k e f q = let y : ◌≡◌ {A = Bool} false true = sym e ∙ ap may_be_lifted q ∙ f in let z : ◌≡◌ {A = ℕ} 0 1 = cc in absurd (omega arith)

-- ---- the two views of lists that hold the same
near : (size limit : ℕ) (c d : ListCounts) (l m : List ℕ) → SameIn size c d l m → InBounds size c l → InBounds size d m → Near size limit c.capacity c d l m
near size limit c d l m s b e = record {
  count = s.count;
  few = b.counted;
  in_c = omega arith;
  in_d = s.fewer;
  agree = record { same = s.bytes; in_l = b.room; in_m = omega (arith, mul-le-mul_right size s.fewer, e.room) };
  room_c = b.room;
  room_d = e.room;
}

same_in : (size limit a : ℕ) (c d : ListCounts) (l m : List ℕ) → Near size limit a c d l m → c.capacity ≡ a → SameIn size c d l m
same_in size limit a c d l m n e = record {
  count = n.count;
  fewer = omega (arith, n.in_d, e);
  bytes = subst (λ (k : ℕ). take (k * size) l ≡ take (k * size) m) (sym e) n.agree.same;
}

module _ (parents : ℕ) (w t : State) (L : Lent parents w t) where
  abbrev a : ℕ
  a = w.lists.staged_counts.capacity

  abbrev e : ℕ
  e = w.lists.deleted_counts.capacity

  -- w with t's staged and deleted spills
  abbrev m : State
  m = with_spills t.lists w

  abbrev Out : Stepping → Stepping → Type 0
  Out x y = Outcome parents w t x y

  fit : ListsFit edition_1 w.lists
  fit = lists_fit edition_1 w.lists L.ready.listed

  fit_table : ListsFit edition_1 t.lists
  fit_table = lists_fit edition_1 t.lists L.beside.table_ready.listed

  rel : Rel edition_1 a e w m
  rel = record {
    ids = refl;
    numbers = refl;
    lengths = refl;
    spills = refl;
    lists = record {
      staged = near edition_1.size edition_1.limit w.lists.staged_counts t.lists.staged_counts w.lists.staged t.lists.staged L.staged fit.in_staged.bounds fit_table.in_staged.bounds;
      deleted = near 32 0 w.lists.deleted_counts t.lists.deleted_counts w.lists.deleted t.lists.deleted L.deleted fit.in_deleted.bounds fit_table.in_deleted.bounds;
      table_counts = refl;
      table = refl;
    };
  }

  -- ---- steps of the segment buffer
  module _ (x : Call) (o : OfForks edition_1 a e x) (h : Among parents x) where
    abbrev on_w : Stepping
    on_w = step_of edition_1 x w

    abbrev on_m : Stepping
    on_m = step_of edition_1 x m

    abbrev on_t : Stepping
    on_t = step_of edition_1 x t

    kept : Ready parents on_w.after
    kept = step_kept parents w L.ready x h

    same_cap : on_w.after.lists.staged_counts.capacity ≡ a
    same_cap = (call_kept edition_1 x w).0

    same_keys : on_w.after.lists.deleted_counts.capacity ≡ e
    same_keys = (call_kept edition_1 x w).1

    tracks : may_be_lifted on_w.said.code ≡ false → Tracks edition_1 a e on_w on_m
    tracks n =
        let f = lists_fit edition_1 on_w.after.lists kept.listed in
        step_near edition_1 a e x o w m rel L.ready.listed (record {
          not_16 = other_code on_w.said.code 16 n refl;
          not_21 = other_code on_w.said.code 21 n refl;
          staged = omega (arith, f.in_staged.bounds.counted, same_cap);
          deleted = omega (arith, f.in_deleted.bounds.counted, same_keys);
        })

    lent : Tracks edition_1 a e on_w on_m → Beside parents on_m.after on_t.after → Lent parents on_w.after on_t.after
    lent T b =
        let R = T.states in
        let u = on_m.after in
        let v = on_w.after in
        let q : with_spills u.lists v ≡ u = λ i. state (R.ids i) (R.numbers i) (R.lengths i) (R.spills i)
        (lists u.lists.staged_counts u.lists.staged (R.lists.table_counts i) (R.lists.table i) u.lists.deleted_counts u.lists.deleted) in
        record {
          ready = kept;
          staged = subst (λ (s : State). SameIn edition_1.size v.lists.staged_counts s.lists.staged_counts v.lists.staged s.lists.staged) b.same
              (same_in edition_1.size edition_1.limit a v.lists.staged_counts u.lists.staged_counts v.lists.staged u.lists.staged R.lists.staged same_cap);
          deleted = subst (λ (s : State). SameIn 32 v.lists.deleted_counts s.lists.deleted_counts v.lists.deleted s.lists.deleted) b.same
              (same_in 32 0 e v.lists.deleted_counts u.lists.deleted_counts v.lists.deleted u.lists.deleted R.lists.deleted same_keys);
          beside = subst (λ (s : State). Beside parents s on_t.after) (sym q ∙ ap (λ (s : State). with_spills s.lists v) b.same) b;
        }

    made : may_be_lifted on_w.said.code ≡ false → table.Outcome parents m t on_m on_t → Out on_w on_t
    made n (table.as_table q b) = let T = tracks n in as_table (T.said ∙ q) n (lent T b)
    made n (table.lacks q b) = absurd (other_code on_w.said.code 12 n refl (ap (λ (s : Said). s.code) ((tracks n).said ∙ q)))
    made n (table.full q b) = absurd (other_code on_w.said.code 22 n refl (ap (λ (s : Said). s.code) ((tracks n).said ∙ q)))
    made n (table.full_table q b) = full_table q

    stepped : table.Outcome parents m t on_m on_t → Out on_w on_t
    stepped y = by (may_be_lifted on_w.said.code) refl
      where
        by : (b : Bool) → may_be_lifted on_w.said.code ≡ b → Out on_w on_t
        by true n = lacks n (refused_leaves w a e x o (lifted_some on_w.said.code n))
        by false n = made n y

  -- ---- credit and debit: neither reads a list, and none of their refusals is lifted
  not_lifted : (adding : Bool) (p : ℕ) (n : ℤ) (ts : Tokens) → may_be_lifted (change_with adding p n ts w).said.code ≡ false
  unfolding change_with
  not_lifted adding p n ts =
      let b = balance_of p w.ids w.numbers w.lengths in
      by (change_box adding b n (token_ids ts) (token_amounts ts) (length ts)).answer
      (box_coded (λ (r : ℕ). may_be_lifted r ≡ false) refl refl refl adding b n (token_ids ts) (token_amounts ts) (length ts))
    where
      by : (x : Answer) → AnswerHas (λ (r : ℕ). may_be_lifted r ≡ false) x → may_be_lifted (said_by x).code ≡ false
      by (Ok tt) k = refl
      by (Err r) k = k

  changed : (adding : Bool) (p : ℕ) → p < parents → (n : ℤ) (ts : Tokens) → table.Outcome parents m t (change_with adding p n ts m) (change_with adding p n ts t)
      → Out (change_with adding p n ts w) (change_with adding p n ts t)
  unfolding change_with
  changed adding p h n ts (table.as_table q b) =
      as_table q (not_lifted adding p n ts) (record { ready = change_kept parents w L.ready adding p h n ts; staged = L.staged; deleted = L.deleted; beside = b })
  changed adding p h n ts (table.lacks q b) = absurd (other_code (change_with adding p n ts w).said.code 12 (not_lifted adding p n ts) refl (ap (λ (s : Said). s.code) q))
  changed adding p h n ts (table.full q b) = absurd (other_code (change_with adding p n ts w).said.code 22 (not_lifted adding p n ts) refl (ap (λ (s : Said). s.code) q))
  changed adding p h n ts (table.full_table q b) = full_table q

  beside_step : (x : Act) → ActOf parents x → table.Outcome parents m t (act x m) (act x t)
  beside_step x h = step_law parents x h m t L.beside

  acts : (x : Act) → ActOf parents x → Out (act x w) (act x t)
  acts (makes (append (boxes p) n)) h = stepped (Append Box p n) tt h (beside_step (makes (append (boxes p) n)) h)
  acts (makes (append (txs p) n)) h = stepped (Append Tx p n) tt h (beside_step (makes (append (txs p) n)) h)
  acts (makes (spend p n)) h = stepped (Flip Spend p n) tt h (beside_step (makes (spend p n)) h)
  acts (makes (credit p n ts)) h = changed true p h n ts (beside_step (makes (credit p n ts)) h)
  acts (makes (debit p n ts)) h = changed false p h n ts (beside_step (makes (debit p n ts)) h)
  acts (unmakes (append (boxes p) n)) h = stepped (Pop Box p) tt h (beside_step (unmakes (append (boxes p) n)) h)
  acts (unmakes (append (txs p) n)) h = stepped (Pop Tx p) tt h (beside_step (unmakes (append (txs p) n)) h)
  acts (unmakes (spend p n)) h = stepped (Flip Unspend p n) tt h (beside_step (unmakes (spend p n)) h)
  acts (unmakes (credit p n ts)) h = changed false p h n ts (beside_step (unmakes (credit p n ts)) h)
  acts (unmakes (debit p n ts)) h = changed true p h n ts (beside_step (unmakes (debit p n ts)) h)
  acts (takes (unspends p n)) h = stepped (Flip Unspend p n) tt h (beside_step (takes (unspends p n)) h)
  acts (takes (pops k p)) h = stepped (Pop k p) tt h (beside_step (takes (pops k p)) h)
  acts flushes h = stepped Flush tt tt (beside_step flushes h)

pub lent_law : LentLaw
lent_law parents x h w t L = acts parents w t L x h
