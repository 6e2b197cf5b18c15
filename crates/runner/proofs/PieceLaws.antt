-- Running a piece of the input and then the rest is running the whole.
use Prim.Native.Nat.{ℕ, zero, suc, ◌+◌, ◌-◌, ◌≤◌, ◌<◌}
use mathlib.Core.Path.{◌≡◌, refl, sym, ap, ◌∙◌}
use mathlib.Core.Bool.{Bool, true, false, cond}
use mathlib.Core.List.{List, ◌++◌}
use native.Mathlib.Omega.{arith}
use lib.Dec.{eqb, leb, ltb}
use lib.IntN.{ℤ}
use lib.ListN.{length, take, drop, get_or, length-append, length-drop, get_or-append}
use lib.Seq.{drop-append-le, take-append-le, get_or-drop, drop-drop}
use borrow.Author.Tests.{leb-true, leb-false, le-leb, lt-leb, ltb-false, le-ltb, eq-eqb, ne_eqb}
use Rattle.big_endian.specs.BigEndian.{value_of, value_at}
use Rattle.segment_id.specs.declared.Kind.TheVariants.{Box, Tx}
use Rattle.buffer_core.specs.Edition.{Edition}
use Rattle.calls.specs.declared.Call.{Call}
use Rattle.calls.specs.declared.Call.TheVariants.{Append, Flip, Pop, Flush, Change, Bad, Cut, End}
use Rattle.calls.specs.Calls.{signed_of, number_at, with_number, with_token, with_parent, of_kind, call_at, size_of, end_of}
use Rattle.calls.proofs.CallLaws.{call_sound}
use Rattle.call_steps.specs.Steps.{step_of}
use Rattle.buffer_core.proofs.RefusedLaws.{both}
use Rattle.run_answers.proofs.AnswerLaws.{and_off}
use Rattle.runner.proofs.RunLaws.{runs_stop}
use Rattle.runner.specs.Run.{Run, run_at, may_go, ended, answered, called, turn_of, runs}

-- ---- a call that stands in the piece stands in the whole

-- neither the front of a call nor the end of the bytes
abbrev pub Settled : Call → Type 0
Settled (Append k p n) = Unit {0}
Settled (Flip d p n) = Unit {0}
Settled (Pop k p) = Unit {0}
Settled Flush = Unit {0}
Settled (Change a p n t v) = Unit {0}
Settled Bad = Unit {0}
Settled Cut = ⊥
Settled End = ⊥

record Stays (c d : Call) : Type 0 where
  same : Settled c → c ≡ d

stays : {c d : Call} → c ≡ d → Stays c d
stays e = record { same = λ k. e }

alike : (b : Bool) {c c' d d' : Call} → Stays c c' → Stays d d' → Stays (cond b c d) (cond b c' d')
alike true x y = x
alike false x y = y

-- a test that is true where the piece is too short for the call
unless_cut : (b b' : Bool) {c d : Call} → (b ≡ false → b' ≡ false) → (b ≡ false → Stays c d) → Stays (cond b Cut c) (cond b' Cut d)
unless_cut true b' f g = record { same = λ k. absurd k }
unless_cut false true f g = let e = f refl in let z : ◌≡◌ {A = ℕ} 0 1 = cc in absurd (omega arith)
unless_cut false false f g = g refl

module _ (a b : List ℕ) (at : ℕ) where
  byte_stays : (i : ℕ) → at + i < length a → get_or a (at + i) 0 ≡ get_or (a ++ b) (at + i) 0
  byte_stays i h = sym (get_or-append a b 0 (at + i) h)

  number_stays : (i : ℕ) → at + i + 8 ≤ length a → number_at a (at + i) ≡ number_at (a ++ b) (at + i)
  unfolding number_at value_at
  number_stays i h =
      let j : at + i ≤ length a = omega arith in
      let k : 8 ≤ length (drop (at + i) a) = omega (arith, length-drop (at + i) a) in
      ap (λ (l : List ℕ). signed_of (value_of 0 l)) (sym (ap (take 8) (drop-append-le (at + i) a b j) ∙ take-append-le 8 (drop (at + i) a) b k))

  module _ (left left' : ℕ) (h : left ≤ left') (t : at + left ≡ length a) where
    short : (n : ℕ) → ltb left n ≡ false → ltb left' n ≡ false
    short n e = le-ltb left' n (omega (arith, ltb-false left n e))

    token_stays : (adding : Bool) (p : ℕ) {n n' : ℤ} → n ≡ n' → Stays (with_token adding p n left a at) (with_token adding p n' left' (a ++ b) at)
    unfolding with_token
    token_stays adding p e =
        unless_cut (ltb left 19) (ltb left' 19) (short 19) (λ l.
        let k = ltb-false left 19 l in
        stays (λ i. Change adding p (e i) (byte_stays 10 (omega (arith, k, t)) i) (number_stays 11 (omega (arith, k, t)) i)))

    parent_stays : (kind p parents : ℕ) → Stays (with_parent kind p parents left a at) (with_parent kind p parents left' (a ++ b) at)
    unfolding with_parent
    parent_stays kind p parents =
        alike (leb parents p) (stays refl)
        (alike (eqb kind 5) (stays refl)
        (alike (eqb kind 6) (stays refl)
        (unless_cut (ltb left 10) (ltb left' 10) (short 10) (λ l.
        let n = number_stays 2 (omega (arith, ltb-false left 10 l, t)) in
        alike (ltb kind 5) (stays (ap (with_number kind p) n)) (token_stays (eqb kind 8) p n)))))

    kind_stays : (kind parents : ℕ) → Stays (of_kind kind parents left a at) (of_kind kind parents left' (a ++ b) at)
    unfolding of_kind
    kind_stays kind parents =
        alike (eqb kind 7) (stays refl)
        (alike (eqb kind 0) (stays refl)
        (alike (ltb 9 kind) (stays refl)
        (unless_cut (ltb left 2) (ltb left' 2) (short 2) (λ l.
        let p = byte_stays 1 (omega (arith, ltb-false left 2 l, t)) in
        rw (← p) (parent_stays kind (get_or a (at + 1) 0) parents)))))

module _ (parents : ℕ) (a b : List ℕ) (at : ℕ) where
  at_byte : (t : Bool) → leb (length a) at ≡ t → Stays (call_at parents a at) (call_at parents (a ++ b) at)
  unfolding call_at
  at_byte true e = rw e (record { same = λ k. absurd k })
  at_byte false e =
      let h = leb-false (length a) at e in
      let f : leb (length (a ++ b)) at ≡ false = lt-leb (length (a ++ b)) at (omega (arith, h, length-append a b)) in
      let g = kind_stays a b at (length a - at) (length (a ++ b) - at) (omega (arith, length-append a b)) (omega (arith, h)) (get_or a at 0) parents in
      rw (e, f, get_or-append a b 0 at h) g

  -- the call at a byte of the piece, unless it is cut there or the piece ends there, is the call at that byte of the whole
  pub call_stays : Settled (call_at parents a at) → call_at parents a at ≡ call_at parents (a ++ b) at
  call_stays = (at_byte (leb (length a) at) refl).same

-- ---- bytes counted from a later one

module _ (s : List ℕ) (k : ℕ) where
  byte_shifts : (i j : ℕ) → get_or (drop k s) (i + j) 0 ≡ get_or s (k + i + j) 0
  byte_shifts i j =
      let e : k + (i + j) ≡ k + i + j = omega arith in
      get_or-drop k s (i + j) 0 ∙ ap (λ (x : ℕ). get_or s x 0) e

  number_shifts : (i j : ℕ) → number_at (drop k s) (i + j) ≡ number_at s (k + i + j)
  unfolding number_at value_at
  number_shifts i j =
      let e : k + (i + j) ≡ k + i + j = omega arith in
      ap (λ (l : List ℕ). signed_of (value_of 0 (take 8 l))) (drop-drop (i + j) k s ∙ ap (λ (x : ℕ). drop x s) e)

  kind_shifts : (kind parents left i : ℕ) → of_kind kind parents left (drop k s) i ≡ of_kind kind parents left s (k + i)
  unfolding of_kind with_parent with_token
  kind_shifts kind parents left i =
      let p = byte_shifts i 1 in
      let n = number_shifts i 2 in
      let t = byte_shifts i 10 in
      let v = number_shifts i 11 in
      λ x.
      cond (eqb kind 7) Flush
      (cond (eqb kind 0) Bad
      (cond (ltb 9 kind) Bad
      (cond (ltb left 2) Cut
      (cond (leb parents (p x)) Bad
      (cond (eqb kind 5) (Pop Box (p x))
      (cond (eqb kind 6) (Pop Tx (p x))
      (cond (ltb left 10) Cut
      (cond (ltb kind 5) (with_number kind (p x) (n x))
      (cond (ltb left 19) Cut (Change (eqb kind 8) (p x) (n x) (t x) (v x)))))))))))

  end_shifts : (i : ℕ) (t : Bool) → leb (length s) (k + i) ≡ t → leb (length (drop k s)) i ≡ t
  end_shifts i true e = le-leb (length (drop k s)) i (omega (arith, leb-true (length s) (k + i) e, length-drop k s))
  end_shifts i false e = lt-leb (length (drop k s)) i (omega (arith, leb-false (length s) (k + i) e, length-drop k s))

  pub call_shifts : (parents i : ℕ) → call_at parents (drop k s) i ≡ call_at parents s (k + i)
  unfolding call_at
  call_shifts parents i =
      let e = end_shifts i (leb (length s) (k + i)) refl in
      let l : length (drop k s) - i ≡ length s - (k + i) = omega (arith, length-drop k s) in
      (λ x. cond (e x) End (of_kind (get_or-drop k s i 0 x) parents (l x) (drop k s) i))
      ∙ ap (λ (c : Call). cond (leb (length s) (k + i)) End c) (kind_shifts (get_or s (k + i) 0) parents (length s - (k + i)) i)

-- ---- runs

-- a call of some bytes is neither cut nor the end
pub settled : (c : Call) → (size_of c ≡ 0 → ⊥) → Settled c
settled (Append k p n) h = tt
settled (Flip d p n) h = tt
settled (Pop k p) h = tt
settled Flush h = tt
settled (Change a p n t v) h = tt
settled Bad h = tt
settled Cut h = h refl
settled End h = h refl

ends : (c : Call) → size_of c ≡ 0 → eqb (end_of c) 0 ≡ false
ends (Append k p n) h = absurd (omega (arith, h))
ends (Flip d p n) h = absurd (omega (arith, h))
ends (Pop k p) h = absurd (omega (arith, h))
ends Flush h = absurd (omega (arith, h))
ends (Change a p n t v) h = absurd (omega (arith, h))
ends Bad h = ne_eqb 31 0 (λ e. omega (arith, e))
ends Cut h = ne_eqb 2 0 (λ e. omega (arith, e))
ends End h = ne_eqb 1 0 (λ e. omega (arith, e))

-- a run at a byte that is counted from k bytes before
abbrev pub ahead : ℕ → Run → Run
ahead k r = run_at r.now (k + r.at) r.made r.end r.answers r.popped

-- a run that goes on where it ended, with the byte it stands at as the first
abbrev pub onward : Run → Run
onward r = run_at r.now 0 r.made 0 r.answers r.popped

-- the same, its byte kept
abbrev again : Run → Run
again r = run_at r.now r.at r.made 0 r.answers r.popped

again_same : (r : Run) → r.end ≡ 0 → again r ≡ r
again_same r e = λ i. run_at r.now r.at r.made (sym e i) r.answers r.popped

module _ (E : Edition) (parents : ℕ) where
  module _ (s : List ℕ) where
    abbrev pub call : Run → Call
    call r = call_at parents s r.at

    -- the run after the call that it stands at
    abbrev pub after : Run → Run
    after r = answered (size_of (call r)) (step_of E (call r) r.now) r

    stop : (n : ℕ) (r : Run) → may_go r ≡ false → runs E parents s n r ≡ r
    stop n r e = sym (runs_stop parents s E n r e)

    pub runs_go : (n : ℕ) (r : Run) → may_go r ≡ true → runs E parents s (suc n) r ≡ runs E parents s n (turn_of E parents s r)
    unfolding runs
    runs_go n r e = ap (λ (b : Bool). cond b (runs E parents s n (turn_of E parents s r)) r) e

    pub turn_stops : (n : ℕ) (r : Run) → size_of (call r) ≡ 0 → runs E parents s n (turn_of E parents s r) ≡ ended (call r) r
    unfolding turn_of
    turn_stops n r z =
        ap (λ (b : Bool). runs E parents s n (cond b (ended (call r) r) (after r))) (eq-eqb (size_of (call r)) 0 z)
        ∙ stop n (ended (call r) r) (sym (and_off (eqb (end_of (call r)) 0) _ (ends (call r) z)))

    pub turn_goes : (r : Run) → (size_of (call r) ≡ 0 → ⊥) → turn_of E parents s r ≡ after r
    unfolding turn_of
    turn_goes r z = ap (λ (b : Bool). cond b (ended (call r) r) (after r)) (ne_eqb (size_of (call r)) 0 z)

    -- a call ends within the bytes
    pub call_within : (r : Run) → r.at ≤ length s → r.at + size_of (call r) ≤ length s
    call_within r w = omega (arith, (call_sound parents s r.at).fits)

    abbrev Enough : ℕ → Run → Type 0
    Enough n r = length s < n + r.at

    -- more turns than bytes are left are enough: as many more as one likes change nothing
    module _ (m n : ℕ) (rest : (r : Run) → r.at ≤ length s → Enough m r → Enough n r → runs E parents s m r ≡ runs E parents s n r) (r : Run) where
      enough_turn : r.at ≤ length s → Enough (suc m) r → Enough (suc n) r → (k : ℕ) → size_of (call r) ≡ k
          → runs E parents s m (turn_of E parents s r) ≡ runs E parents s n (turn_of E parents s r)
      enough_turn w h g zero z = turn_stops m r z ∙ sym (turn_stops n r z)
      enough_turn w h g (suc k) z =
          let e = turn_goes r (λ y. omega (arith, y, z)) in
          let x = rest (after r) (call_within r w) (omega (arith, z)) (omega (arith, z)) in
          ap (runs E parents s m) e ∙ x ∙ sym (ap (runs E parents s n) e)

      enough_more : r.at ≤ length s → Enough (suc m) r → Enough (suc n) r → (b : Bool) → may_go r ≡ b → runs E parents s (suc m) r ≡ runs E parents s (suc n) r
      enough_more w h g false e = stop (suc m) r e ∙ sym (stop (suc n) r e)
      enough_more w h g true e = runs_go m r e ∙ enough_turn w h g (size_of (call r)) refl ∙ sym (runs_go n r e)

    pub enough : (m n : ℕ) (r : Run) → r.at ≤ length s → Enough m r → Enough n r → runs E parents s m r ≡ runs E parents s n r
    enough zero n r w h g = absurd (omega arith)
    enough (suc m) zero r w h g = absurd (omega arith)
    enough (suc m) (suc n) r w h g = enough_more m n (λ x y z u. enough m n x y z u) r w h g (may_go r) refl

    -- a run stays within the bytes
    within_turn : (r : Run) → r.at ≤ length s → (turn_of E parents s r).at ≤ length s
    unfolding turn_of
    within_turn r w = both (λ (x : Run). x.at ≤ length s) (eqb (size_of (call r)) 0) w (call_within r w)

    pub within : (n : ℕ) (r : Run) → r.at ≤ length s → (runs E parents s n r).at ≤ length s
    unfolding runs
    within zero r w = w
    within (suc n) r w = both (λ (x : Run). x.at ≤ length s) (may_go r) (within n (turn_of E parents s r) (within_turn r w)) w

  -- ---- a piece, then the whole from where it ended
  module _ (a b : List ℕ) (m : ℕ) where
    abbrev Resumed : ℕ → Run → Type 0
    Resumed n r = runs E parents (a ++ b) m (again (runs E parents a n r)) ≡ runs E parents (a ++ b) m r

    -- the call that is made in the piece is the one that is made in the whole
    after_same : (r : Run) → (size_of (call a r) ≡ 0 → ⊥) → turn_of E parents (a ++ b) r ≡ after a r
    unfolding turn_of
    after_same r z =
        ap (λ (c : Call). called E c r) (sym (call_stays parents a b r.at (settled (call a r) z)))
        ∙ turn_goes a r z

    -- a run of the piece that ends as x, which is r but for how reading ended
    stopped : (n : ℕ) (r x : Run) → r.end ≡ 0 → runs E parents a n r ≡ x → again x ≡ again r → Resumed n r
    stopped n r x o e f = ap (runs E parents (a ++ b) m) (ap again e ∙ f ∙ again_same r o)

    went : (n : ℕ) (r : Run) → r.at ≤ length a → length (a ++ b) < m + r.at → may_go r ≡ true → (size_of (call a r) ≡ 0 → ⊥) → Resumed n (after a r) → Resumed (suc n) r
    went n r w h e z rest =
        ap (λ (x : Run). runs E parents (a ++ b) m (again x)) (runs_go a n r e ∙ ap (runs E parents a n) (turn_goes a r z))
        ∙ rest ∙ sym (first m refl)
      where
        first : (k : ℕ) → m ≡ k → runs E parents (a ++ b) m r ≡ runs E parents (a ++ b) m (after a r)
        first zero q = absurd (omega (arith, w, h, q, length-append a b))
        first (suc k) q =
            let in-a = call_within a r w in
            let l = length-append a b in
            ap (λ (y : ℕ). runs E parents (a ++ b) y r) q ∙ runs_go (a ++ b) k r e ∙ ap (runs E parents (a ++ b) k) (after_same r z)
            ∙ enough (a ++ b) k m (after a r) (omega (arith, in-a, l)) (omega (arith, h, q, z)) (omega (arith, h))

    module _ (n : ℕ) (rest : (r : Run) → r.end ≡ 0 → r.at ≤ length a → length (a ++ b) < m + r.at → Resumed n r) (r : Run) where
      resume_turn : r.end ≡ 0 → r.at ≤ length a → length (a ++ b) < m + r.at → may_go r ≡ true → (k : ℕ) → size_of (call a r) ≡ k → Resumed (suc n) r
      resume_turn o w h e zero z = stopped (suc n) r (ended (call a r) r) o (runs_go a n r e ∙ turn_stops a n r z) refl
      resume_turn o w h e (suc k) z =
          went n r w h e (λ y. omega (arith, y, z)) (rest (after a r) refl (call_within a r w) (omega (arith, h)))

      resume_more : r.end ≡ 0 → r.at ≤ length a → length (a ++ b) < m + r.at → (t : Bool) → may_go r ≡ t → Resumed (suc n) r
      resume_more o w h false e = stopped (suc n) r r o (stop a (suc n) r e) refl
      resume_more o w h true e = resume_turn o w h e (size_of (call a r)) refl

    pub resume : (n : ℕ) (r : Run) → r.end ≡ 0 → r.at ≤ length a → length (a ++ b) < m + r.at → Resumed n r
    unfolding runs
    resume zero r o w h = stopped zero r r o refl refl
    resume (suc n) r o w h = resume_more n (λ x y z u. resume n x y z u) r o w h (may_go r) refl

  -- ---- bytes counted from a later one
  module _ (s : List ℕ) (k : ℕ) where
    called_ahead : (c : Call) (r : Run) → called E c (ahead k r) ≡ ahead k (called E c r)
    called_ahead c r = by_size (eqb (size_of c) 0)
      where
        by_size : (t : Bool)
            → cond t (ended c (ahead k r)) (answered (size_of c) (step_of E c r.now) (ahead k r))
            ≡ ahead k (cond t (ended c r) (answered (size_of c) (step_of E c r.now) r))
        by_size true = refl
        by_size false =
            let x = answered (size_of c) (step_of E c r.now) r in
            let e : k + r.at + size_of c ≡ k + (r.at + size_of c) = omega arith in
            λ i. run_at x.now (e i) x.made x.end x.answers x.popped

    turn_ahead : (r : Run) → turn_of E parents s (ahead k r) ≡ ahead k (turn_of E parents (drop k s) r)
    unfolding turn_of
    turn_ahead r = ap (λ (c : Call). called E c (ahead k r)) (sym (call_shifts s k parents r.at)) ∙ called_ahead (call (drop k s) r) r

    pub shift : (n : ℕ) (r : Run) → runs E parents s n (ahead k r) ≡ ahead k (runs E parents (drop k s) n r)
    unfolding runs
    shift zero r = refl
    shift (suc n) r =
        by_go (may_go r) _ _ (ap (runs E parents s n) (turn_ahead r) ∙ shift n (turn_of E parents (drop k s) r))
      where
        by_go : (t : Bool) (x y : Run) → x ≡ ahead k y → cond t x (ahead k r) ≡ ahead k (cond t y r)
        by_go true x y e = e
        by_go false x y e = refl

  -- ---- the run of all calls of the bytes
  abbrev pub through : List ℕ → Run → Run
  through s r = runs E parents s (length s + 1) r

  -- the run of a piece stands within it; from there, the run of what is left of the whole ends as the run of the whole does: the same state, answers and way
  -- of ending, its byte counted from where the piece ended
  pub piece_then_rest : (a b : List ℕ) (r : Run) → r.end ≡ 0 → r.at ≤ length a
      → through (a ++ b) r ≡ ahead (through a r).at (through (drop (through a r).at (a ++ b)) (onward (through a r)))
  piece_then_rest a b r o w =
      let x = through a r in
      let rest = drop x.at (a ++ b) in
      let m = length (a ++ b) + 1 in
      let z : x.at ≡ x.at + 0 = omega arith in
      sym (resume a b m (length a + 1) r o w (omega arith))
      ∙ ap (runs E parents (a ++ b) m) (λ i. run_at x.now (z i) x.made 0 x.answers x.popped)
      ∙ shift (a ++ b) x.at m (onward x)
      ∙ ap (ahead x.at) (enough rest m (length rest + 1) (onward x) (omega arith) (omega (arith, length-drop x.at (a ++ b))) (omega arith))
