-- A batch in bytes makes a beginning of the calls and flushes that its input spells, and its journal holds the accepted ones in front of those that stood.
use mathlib.Core.Path.{◌≡◌, refl, sym, ap, ◌∙◌, subst}
use mathlib.Core.Bool.{Bool, true, false, cond, ◌&&◌}
use mathlib.Core.List.{List, [], ◌∷◌}
use Prim.Native.Nat.{ℕ, zero, suc, ◌+◌}
use native.Mathlib.Omega.{arith}
use borrow.Author.Tests.{leb-true, ne_eqb}
use lib.Dec.{eqb, leb, ltb}
use lib.ListN.{length, take}
use Rattle.call_steps.specs.Steps.{Stepping}
use Rattle.ledger.specs.Calls.{Call}
use Rattle.ledger.specs.Run.{Step, call, undo, flush}
use Rattle.driver_core.specs.Steps.{make, flushing, is_accepted, may_be_lifted}
use Rattle.driver_core.specs.Bytes.{Item, is, takes, bad, cut, end, item_at, size_at, item_then, items_at, pushed, call_then, standing}
use Rattle.driver_core.specs.Apply.{Applying, applying, ended_by, stopped, answered, on_item, apply_turns, apply_of, driver_ok}
use Rattle.driver_laws.specs.Driver.{Driver, driver, do_step, do_steps}
use Rattle.driver_laws.specs.Journal.{IsCall, Whole, ApplyRefines}
use Rattle.driver_laws.proofs.JournalLaws.{whole_count}
use Rattle.driver_laws.proofs.EntryLaws.{push_whole}

split : {A : Type 0} (Q : A → Type 0) (b : Bool) {x y : A} → (b ≡ true → Q x) → (b ≡ false → Q y) → Q (cond b x y)
split Q true f g = f refl
split Q false f g = g refl

-- what a driver lifts is no acceptance
lifted_code : (code : ℕ) → may_be_lifted code ≡ true → eqb code 0 ≡ false
lifted_code code e = ne_eqb code 0 (λ z. let w : ◌≡◌ {A = Bool} false true = ap may_be_lifted (sym z) ∙ e in let v : ◌≡◌ {A = ℕ} 0 1 = cc in omega arith)

-- the call that it stopped in front of was tried
abbrev pub one_if : Bool → ℕ
one_if b = cond b 1 0

abbrev extra : ℕ → ℕ
extra code = one_if (may_be_lifted code)

module _ (parents : ℕ) (s : List ℕ) where
  abbrev pub turns_of : ℕ → Applying → Applying
  turns_of n r = apply_turns true parents s n r

  -- once it has ended nothing more is made
  pub ended_stays : (n : ℕ) (r : Applying) → eqb r.ended 0 ≡ false → turns_of n r ≡ r
  unfolding apply_turns
  ended_stays zero r e = refl
  ended_stays (suc n) r e =
      ap (λ (b : Bool). cond (b && ltb r.made (length r.answers)) (turns_of n (on_item true s (item_at parents s r.at) r)) r) e

  -- o is what the first steps of ts leave of d, behind so many made before
  pub record Made (ts : List Step) (before : ℕ) (d : Driver) (o : Applying) : Type 0 where
    pub calls : ℕ
    pub whole : Whole parents calls o.kept
    pub done : ℕ
    pub count : done + before ≡ o.made + extra o.ended
    pub left : driver o.now (standing parents calls o.kept) ≡ do_steps d (take done ts)

  -- nothing more is made
  pub stays : (ts : List Step) (r : Applying) (m : ℕ) → may_be_lifted r.ended ≡ false → Whole parents m r.kept
      → Made ts r.made (driver r.now (standing parents m r.kept)) r
  unfolding do_steps
  stays ts r m e w =
      let q : extra r.ended ≡ 0 = ap (λ (b : Bool). one_if b) e in
      record { calls = m; whole = w; done = 0; count = omega (arith, q); left = refl }

  -- one step, then more
  goes : (t : Step) (ts : List Step) (before : ℕ) (d e : Driver) (o : Applying) → do_step d t ≡ e → Made ts (before + 1) e o → Made (t ∷ ts) before d o
  unfolding do_steps
  goes t ts before d e o p x =
      record { calls = x.calls; whole = x.whole; done = suc x.done; count = omega (arith, x.count); left = x.left ∙ ap (λ (y : Driver). do_steps y (take x.done ts)) (sym p) }

  module _ (n : ℕ)
      (on : (r : Applying) (m : ℕ) → r.ended ≡ 0 → Whole parents m r.kept → Made (items_at parents s n r.at) r.made (driver r.now (standing parents m r.kept)) (turns_of n r)) where
    stops : (ts : List Step) (k : ℕ) (r : Applying) (m : ℕ) → eqb k 0 ≡ false → may_be_lifted k ≡ false → Whole parents m r.kept
        → Made ts r.made (driver r.now (standing parents m r.kept)) (turns_of n (ended_by k r))
    stops ts k r m e f w =
        subst (Made ts r.made (driver r.now (standing parents m r.kept))) (sym (ended_stays n (ended_by k r) e)) (stays ts (ended_by k r) m f w)

    -- the batch stops in front of a step that the driver lifts
    lifts : (t : Step) (ts : List Step) (x : Stepping) (r : Applying) (m : ℕ) (d : Driver) → may_be_lifted x.said.code ≡ true → Whole parents m r.kept
        → do_step d t ≡ driver x.after (standing parents m r.kept) → Made (t ∷ ts) r.made d (turns_of n (stopped x r))
    unfolding do_steps
    lifts t ts x r m d e w p =
        let q : extra x.said.code ≡ 1 = ap (λ (b : Bool). one_if b) e in
        subst (Made (t ∷ ts) r.made d) (sym (ended_stays n (stopped x r) (lifted_code x.said.code e)))
        (record { calls = m; whole = w; done = 1; count = omega (arith, q); left = sym p })

    module _ (r : Applying) (m : ℕ) (w : Whole parents m r.kept) where
      abbrev size : ℕ
      size = size_at s r.at

      abbrev rest : List Step
      rest = items_at parents s n (r.at + size)

      abbrev d : Driver
      d = driver r.now (standing parents m r.kept)

      flush_made : Made (flush ∷ rest) r.made d (turns_of n (on_item true s (is flush) r))
      flush_made =
          let x = flushing r.now in
          split (λ (o : Applying). Made (flush ∷ rest) r.made d (turns_of n o)) (may_be_lifted x.said.code) (λ e. lifts flush rest x r m d e w refl)
          (λ _. goes flush rest r.made d (driver x.after (standing parents m r.kept)) _ refl (on (answered size r.kept x r) m refl w))

      call_made : (a : Call) → item_at parents s r.at ≡ is (call a) → Made (call a ∷ rest) r.made d (turns_of n (on_item true s (is (call a)) r))
      call_made a e =
          split (λ (o : Applying). Made (call a ∷ rest) r.made d (turns_of n o)) (leb (r.kept.used + size) (length r.kept.bytes))
          (λ f.
          split (λ (o : Applying). Made (call a ∷ rest) r.made d (turns_of n o)) (may_be_lifted (make a r.now).said.code)
          (λ g.
          lifts (call a) rest (make a r.now) r m d g w
          (ap (λ (b : Bool). driver (make a r.now).after (cond b (a ∷ standing parents m r.kept) (standing parents m r.kept))) (lifted_code (make a r.now).said.code g)))
          (λ _. go f (is_accepted (make a r.now)) refl)) (λ _. stops (call a ∷ rest) 3 r m refl refl w)
        where
          go : leb (r.kept.used + size) (length r.kept.bytes) ≡ true → (b : Bool) → is_accepted (make a r.now) ≡ b
              → Made (call a ∷ rest) r.made d (turns_of n (answered size (cond b (pushed s r.at r.kept) r.kept) (make a r.now) r))
          go f true q =
              let x = make a r.now in
              let c : IsCall (item_at parents s r.at) = subst IsCall (sym e) tt in
              let k = push_whole parents s r.at c r.kept (leb-true (r.kept.used + size) (length r.kept.bytes) f) m (whole_count parents m r.kept w) w in
              let l = standing parents m r.kept in
              let z : a ∷ l ≡ standing parents (suc m) (pushed s r.at r.kept) = sym (k.stands ∙ ap (λ (i : Item). call_then i l) e) in
              goes (call a) rest r.made d (driver x.after (standing parents (suc m) (pushed s r.at r.kept))) _
              (ap (λ (b : Bool). driver x.after (cond b (a ∷ l) l)) q ∙ ap (driver x.after) z)
              (on (answered size (pushed s r.at r.kept) x r) (suc m) refl k.whole)
          go f false q =
              let x = make a r.now in
              let l = standing parents m r.kept in
              goes (call a) rest r.made d (driver x.after l) _ (ap (λ (b : Bool). driver x.after (cond b (a ∷ l) l)) q) (on (answered size r.kept x r) m refl w)

      item_made : (x : Item) → item_at parents s r.at ≡ x → Made (item_then x rest) r.made d (turns_of n (on_item true s x r))
      item_made (is (call a)) e = call_made a e
      item_made (is flush) e = flush_made
      item_made (is undo) e = stops _ 31 r m refl refl w
      item_made (takes t) e = stops _ 31 r m refl refl w
      item_made bad e = stops _ 31 r m refl refl w
      item_made cut e = stops _ 2 r m refl refl w
      item_made end e = stops _ 1 r m refl refl w

  turns_made : (n : ℕ) (r : Applying) (m : ℕ) → r.ended ≡ 0 → Whole parents m r.kept
      → Made (items_at parents s n r.at) r.made (driver r.now (standing parents m r.kept)) (turns_of n r)
  unfolding apply_turns items_at
  turns_made zero r m e w = stays [] r m (ap may_be_lifted e) w
  turns_made (suc n) r m e w =
      split (Made (item_then (item_at parents s r.at) (items_at parents s n (r.at + size_at s r.at))) r.made (driver r.now (standing parents m r.kept)))
      (eqb r.ended 0 && ltb r.made (length r.answers))
      (λ _. item_made n (λ t k f v. turns_made n t k f v) r m w (item_at parents s r.at) refl) (λ _. stays _ r m (ap may_be_lifted e) w)

pub apply_refines : ApplyRefines
unfolding apply_of
apply_refines parents input s j answers numbers w = by (driver_ok parents s j)
  where
    ts : List Step
    ts = items_at parents input (length input + 1) 0

    told : (o : Applying) → Made parents input (items_at parents input (length input + 1) 0) 0 (driver s (standing parents j.count j)) o
        → (driver o.now (standing parents o.kept.count o.kept)
        ≡ do_steps (driver s (standing parents j.count j)) (take (o.made + extra o.ended) (items_at parents input (length input + 1) 0)))
        × Whole parents o.kept.count o.kept
    told o x =
        let q : o.kept.count ≡ x.calls = whole_count parents x.calls o.kept x.whole in
        let t : x.done ≡ o.made + extra o.ended = omega (arith, x.count) in (
          ap (λ (n : ℕ). driver o.now (standing parents n o.kept)) q ∙ x.left
              ∙ ap (λ (k : ℕ). do_steps (driver s (standing parents j.count j)) (take k (items_at parents input (length input + 1) 0))) t,
          subst (λ (n : ℕ). Whole parents n o.kept) (sym q) x.whole,
        )

    by : (b : Bool)
        → (let o = cond b (apply_turns true parents input (length input + 1) (applying s j 0 0 0 answers numbers)) (applying s j 0 0 25 answers numbers) in
        (driver o.now (standing parents o.kept.count o.kept)
        ≡ do_steps (driver s (standing parents j.count j)) (take (o.made + extra o.ended) (items_at parents input (length input + 1) 0)))
        × Whole parents o.kept.count o.kept)
    by true = told _ (turns_made parents input (length input + 1) (applying s j 0 0 0 answers numbers) j.count refl w)
    by false = told _ (stays parents input (items_at parents input (length input + 1) 0) (applying s j 0 0 25 answers numbers) j.count refl w)
