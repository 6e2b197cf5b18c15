-- Calls and reads keep where a session stands, from the start on to the end.
use Prim.Native.Nat.{ℕ, zero, suc, ◌+◌, ◌-◌, ◌≤◌, min}
use mathlib.Core.Path.{◌≡◌, refl, sym, ap, subst, ◌∙◌}
use mathlib.Core.Logic.{inl}
use mathlib.Core.List.{List, [], ◌∷◌, ◌++◌, append-nil}
use native.Mathlib.Omega.{arith}
use lib.IntN.{ℤ, pos, negsuc}
use lib.ListN.{length, drop, replicate}
use Rattle.call_input.specs.Counts.{clamp_len}
use Rattle.calls.specs.Calls.{call_at}
use Rattle.index_types.specs.declared.SpillCounts.{SpillCounts}
use Rattle.call_steps.specs.State.{State, state}
use Rattle.call_steps.specs.Steps.{lists_with}
use Rattle.runner_start.specs.Start.{lists_empty, two_ids}
use Rattle.call_input.specs.declared.Next.{Next}
use Rattle.call_input.specs.declared.Next.TheVariants.{Read}
use Rattle.call_input.specs.declared.Place.{Place}
use Rattle.call_input.specs.Place.{at_start, after_read}
use Rattle.call_input.specs.Waiting.{waiting, Fed}
use Rattle.call_input.proofs.ReadLaws.{clamped_within}
use Rattle.call_runs.specs.Delivered.{Delivered, Open}
use Rattle.call_runs.proofs.DeliveredLaws.{none_delivered, made_delivered, more_delivered, open_finished}
use Rattle.call_session.specs.Session.{Front, Stands, Onward, Keeps, Makes, Ends}
use Rattle.call_session.proofs.CallLaws.{waiting_less}

-- nothing more
on : (s₀ : State) (d : List ℕ) (p : Place) (input : List ℕ) (s : State) → Stands s₀ d p input s → Onward s₀ d p input s
on s₀ d p input s S = record { more = []; holds = subst (λ (l : List ℕ). Stands s₀ l p input s) (sym (append-nil d)) S }

pub same_keeps : (input : List ℕ) (p : Place) (t : State) → Keeps input p t input p t
same_keeps input p t s₀ d S = on s₀ d p input t S

pub makes_keeps : (input : List ℕ) (p : Place) (t : State) (out : List ℕ) (r : Place) (t' : State) (out' : List ℕ) → p.have ≤ length input → Makes input p t out r t' out'
    → Keeps input p t input r t'
makes_keeps input p t out r t' out' g m s₀ d S =
    let bytes : List ℕ = waiting p.at p.have input in
    let D = made_delivered 2 s₀ d bytes p.made t S.delivered m.calls m.bytes m.stand in
    let wait : drop m.bytes bytes ≡ waiting r.at r.have input
    = sym (waiting_less p.at p.have m.bytes input m.within g) ∙ (λ i. waiting (sym m.at_is i) (sym m.have_is i) input) in
    on s₀ d r input t'
    (record {
      delivered = subst (λ (l : List ℕ). Delivered 2 s₀ d l r.made t') wait
          (subst (λ (n : ℕ). Delivered 2 s₀ d (drop m.bytes bytes) n t') (sym m.made_is)
          (subst (Delivered 2 s₀ d (drop m.bytes bytes) (p.made + length m.calls)) (sym m.now_is) D));
      front = m.front;
    })

-- ---- a read

module _ (at have n code : ℕ) (input : List ℕ) (r : Place) (input' : List ℕ) (F : Fed at have n code input r input') where
  pub fed_places : at ≤ have → have ≤ length input → (r.at ≤ r.have) × (r.have ≤ length input) × (r.made ≡ n)
  fed_places h g =
      let few = clamped_within F.answer (length input - (have - at)) in
      let a : r.at ≡ 0 = ap (λ (x : Place). x.at) F.place in
      let b : r.have ≡ have - at + clamp_len F.answer (length input - (have - at)) = ap (λ (x : Place). x.have) F.place in
      (omega (arith, a), omega (arith, b, few), ap (λ (x : Place). x.made) F.place)

  none_got : (l : List ℕ) → length l ≡ 0 → l ≡ []
  none_got [] e = refl
  none_got (x ∷ l) e = absurd (omega (arith, e))

  fed_front : (s : State) → Open 2 code (waiting at have input) → Front r.next (waiting r.at r.have input') s
  fed_front s o = subst (λ (x : Next). Front x (waiting r.at r.have input') s) (sym (ap (λ (x : Place). x.next) F.place)) (by_answer F.answer refl)
    where
      by_answer : (z : ℤ) → F.answer ≡ z → Front (after_read z code) (waiting r.at r.have input') s
      by_answer (negsuc k) e = tt
      by_answer (pos (suc k)) e = tt
      by_answer (pos zero) e =
          let nothing : min 0 (length input - (have - at)) ≡ 0 = omega arith in
          let none : F.got ≡ [] = none_got F.got (F.many ∙ ap (λ (x : ℤ). clamp_len x (length input - (have - at))) e ∙ nothing) in
          let same : waiting at have input ≡ waiting r.at r.have input' = sym (F.is ∙ ap (λ (l : List ℕ). waiting at have input ++ l) none ∙ append-nil (waiting at have input)) in
          open_finished 2 code (waiting r.at r.have input') s (subst (Open 2 code) same o)

pub read_keeps : (input : List ℕ) (p : Place) (code : ℕ) (input' : List ℕ) (r : Place) (ids : List ℕ) (numbers : List ℤ) (lengths : List ℕ) (spills : List ℤ) (k k' : SpillCounts) (staged table deleted : List ℕ)
    → p.next ≡ Read code → k' ≡ k → Fed p.at p.have p.made code input r input'
    → Keeps input p (state ids numbers lengths spills (lists_with k staged table deleted)) input' r (state ids numbers lengths spills (lists_with k' staged table deleted))
read_keeps input p code input' r ids numbers lengths spills k k' staged table deleted e c F s₀ d S =
    let t : SpillCounts → State = λ x. state ids numbers lengths spills (lists_with x staged table deleted) in
    let bytes : List ℕ = waiting p.at p.have input in
    let D = more_delivered 2 s₀ d bytes p.made (t k) S.delivered F.got in
    let o : Open 2 code bytes = subst (λ (x : Next). Front x bytes (t k)) e S.front in
    record {
      more = F.got;
      holds = subst (λ (x : SpillCounts). Stands s₀ (d ++ F.got) r input' (t x)) (sym c)
          (record {
            delivered = subst (λ (l : List ℕ). Delivered 2 s₀ (d ++ F.got) l r.made (t k)) (sym F.is)
                (subst (λ (n : ℕ). Delivered 2 s₀ (d ++ F.got) (bytes ++ F.got) n (t k)) (sym (ap (λ (x : Place). x.made) F.place)) D);
            front = fed_front p.at p.have p.made code input r input' F (t k) o;
          });
    }

-- ---- from the start to the end

pub keeps_on : (s₀ : State) (input : List ℕ) (p : Place) (t : State) (input' : List ℕ) (r : Place) (t' : State) → Onward s₀ [] p input t → Keeps input p t input' r t' → Onward s₀ [] r input' t'
keeps_on s₀ input p t input' r t' O K = let x = K s₀ O.more O.holds in record { more = O.more ++ x.more; holds = x.holds }

pub starts : (s₀ : State) (p : Place) (input : List ℕ) → p ≡ at_start → Onward s₀ [] p input s₀
unfolding call_at
starts s₀ p input e =
    subst (λ (x : Place). Onward s₀ [] x input s₀) (sym e)
    (record { more = []; holds = record { delivered = none_delivered 2 s₀; front = inl (refl, refl) } })

pub place_starts : (p : Place) → p ≡ at_start → (p.at ≤ p.have) × (p.have ≤ 65536) × (p.made ≡ 0)
place_starts p e = subst (λ (x : Place). (x.at ≤ x.have) × (x.have ≤ 65536) × (x.made ≡ 0)) (sym e) (omega arith, omega arith, refl)

pub told : (ids₀ : List ℕ) (k₀ : SpillCounts) (numbers : List ℤ) (lengths : List ℕ) (spills : List ℤ) (p : Place) (input ids : List ℕ) (k : SpillCounts) (staged table deleted : List ℕ) → ids₀ ≡ two_ids → k₀ ≡ lists_empty
    → Onward (state ids₀ (replicate 2306 (pos 0)) (replicate 6 0) (replicate 4 (pos 0)) (lists_with k₀ (replicate 10288 0) (replicate 20576 0) (replicate 64 0))) []
    p input (state ids numbers lengths spills (lists_with k staged table deleted))
    → Ends numbers lengths spills p
told ids₀ k₀ numbers lengths spills p input ids k staged table deleted e f O code q =
    let t : State = state ids numbers lengths spills (lists_with k staged table deleted) in
    let z : List ℕ → SpillCounts → State = λ i c. state i (replicate 2306 (pos 0)) (replicate 6 0) (replicate 4 (pos 0)) (lists_with c (replicate 10288 0) (replicate 20576 0) (replicate 64 0)) in
    let bytes : List ℕ = waiting p.at p.have input in
    record {
      input = O.more;
      rest = bytes;
      ids = ids;
      counts = k;
      staged = staged;
      table = table;
      deleted = deleted;
      delivered = subst (λ (c : SpillCounts). Delivered 2 (z two_ids c) O.more bytes p.made t) f
          (subst (λ (i : List ℕ). Delivered 2 (z i k₀) O.more bytes p.made t) e O.holds.delivered);
      finished = subst (λ (x : Next). Front x bytes t) q O.holds.front;
    }
