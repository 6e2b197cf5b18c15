-- Lists of at least the reported sizes give the same answers.
use mathlib.Core.Path.{◌≡◌, refl, sym, ◌∙◌, ap, subst}
use mathlib.Core.Bool.{Bool, true, false, cond}
use mathlib.Core.List.{List}
use Prim.Native.Nat.{ℕ, zero, suc, ◌*◌, ◌-◌, ◌≤◌, max}
use Rattle.buffer_core.proofs.ListLaws.{fit_lists}
use native.Mathlib.Omega.{arith}
use lib.Dec.{eqb}
use lib.IntN.{ℤ, pos}
use lib.ListN.{length, take, get_or, replicate, length-replicate}
use Rattle.records.specs.Records.{records}
use Rattle.records.specs.Find.{distinct}
use Rattle.records.specs.Checks.{RecordsOk, KeysOk, lengths_ok}
use Rattle.records.proofs.CheckLaws.{bounds_of}
use native.Mathlib.Nat.{le-max_left, le-max_right, mul-le-mul_right}
use Rattle.trial_laws.proofs.PrefixLaws.{take_replicate}
use Rattle.trial_laws.proofs.NearLaws.{Near}
use Rattle.buffer_core.specs.Edition.{edition_1}
use Rattle.call_steps.specs.State.{Ready, length_at}
use Rattle.trial_core.specs.Trial.{Going, on, ended, start, run_of, zero_state, figures, Trial, tried}
use Rattle.std.specs.Prelude.{Ok, Err}
use Rattle.trial_laws.specs.Enough.{answers_of, Enough, Within, Exact, Least}
use Rattle.trial_laws.proofs.Parts.{Alike, Follows, part_steps}
use Rattle.trial_laws.proofs.Bounds.{Bounded, OnBounded, steps_bounded}
use Rattle.index_types.proofs.AnswerLaws.{pair_same}

-- ---- from the zeroed buffers
near_start : (size limit a S S' : ℕ) → a ≤ S → a ≤ S'
    → Near size limit a (record { count = 0; capacity = S }) (record { count = 0; capacity = S' }) (replicate (S * size) 0) (replicate (S' * size) 0)
near_start size limit a S S' h g =
    let p = mul-le-mul_right size h in
    let q = mul-le-mul_right size g in
    let l : length (replicate {A = ℕ} (S * size) 0) ≡ S * size = length-replicate (S * size) 0 in
    let m : length (replicate {A = ℕ} (S' * size) 0) ≡ S' * size = length-replicate (S' * size) 0 in
    record {
      count = refl;
      few = omega arith;
      in_c = h;
      in_d = g;
      agree = record { same = zeros (a * size) (S * size) p ∙ sym (zeros (a * size) (S' * size) q); in_l = omega arith; in_m = omega arith };
      room_c = omega arith;
      room_d = omega arith;
    }
  where
    zeros : (j n : ℕ) → j ≤ n → take j (replicate {A = ℕ} n 0) ≡ replicate j 0
    zeros j n k = take_replicate j n k

module _ (x T S D S' D' room a e : ℕ) (hS : a ≤ S) (hS' : a ≤ S') (hD : e ≤ D) (hD' : e ≤ D') where
  pub start_rel : Ready 1 (start x T S D).now → Alike room a e (start x T S D) (start x T S' D')
  start_rel ready = record {
    now = record {
      ids = refl;
      numbers = refl;
      lengths = refl;
      spills = refl;
      lists = record { staged = near_start 10288 10254 a S S' hS hS'; deleted = near_start 32 0 e D D' hD hD'; table_counts = refl; table = refl };
    };
    ready = ready;
    plain = tt;
    gen = refl;
    standing = refl;
    blocks = refl;
    side = refl;
    staged = refl;
    deleted = refl;
    answers = refl;
  }

  -- a run that ended with the figures a and e: with other capacities of at least that size it ends with the same figures and the same answers
  pub enough_from : Ready 1 (start x T S D).now → (zs : List ℤ) (u : Trial) → run_of x zs T S D room ≡ on u → u.staged ≤ a → u.deleted ≤ e
      → (v : Trial) × (run_of x zs T S' D' room ≡ on v) × (u.staged ≡ v.staged) × (u.deleted ≡ v.deleted) × (u.answers ≡ v.answers)
  enough_from ready zs u q p r =
      let F = (part_steps room a e zs).follows (start x T S D) (start x T S' D') (start_rel ready) in
      let y = subst (λ (G : Going). Follows room a e G (run_of x zs T S' D' room)) q F p r in
      (y.0, y.1, y.2.staged, y.2.deleted, y.2.answers)

-- ---- the zeroed buffers pass 25
none_records : (size limit cap : ℕ) → RecordsOk size limit (record { count = 0; capacity = cap }) (replicate (cap * size) 0)
unfolding records distinct lengths_ok
none_records size limit cap =
    record { bounds = bounds_of size (record { count = 0; capacity = cap }) (replicate (cap * size) 0) (omega arith) (omega (arith, length-replicate {A = ℕ} (cap * size) 0)); lengths = refl; apart = refl }

none_keys : (cap : ℕ) → KeysOk (record { count = 0; capacity = cap }) (replicate (cap * 32) 0)
unfolding records distinct
none_keys cap = record { bounds = bounds_of 32 (record { count = 0; capacity = cap }) (replicate (cap * 32) 0) (omega arith) (omega (arith, length-replicate {A = ℕ} (cap * 32) 0)); apart = refl }

zero_at : (n i : ℕ) → get_or (replicate {A = ℕ} n 0) i 0 ≡ 0
zero_at zero i = refl
zero_at (suc n) zero = refl
zero_at (suc n) (suc i) = zero_at n i

pub zero_ready : (T S D : ℕ) → Ready 1 (zero_state T S D)
zero_ready T S D = record {
  blocks = record {
    ids_in = omega (arith, length-replicate {A = ℕ} 4128 0);
    numbers_in = omega (arith, length-replicate {A = ℤ} 1153 (pos 0));
    lengths_in = omega (arith, length-replicate {A = ℕ} 3 0);
    spills_in = omega (arith, length-replicate {A = ℤ} 2 (pos 0));
  };
  few = λ p h k. omega (arith, zero_at 3 (length_at k p));
  listed = fit_lists edition_1 (zero_state T S D).lists (record { in_staged = none_records 10288 10254 S; in_table = none_records 10288 10254 T; in_deleted = none_keys D });
}

-- ---- the theorem
from_figures : (x T S D room : ℕ) (zs : List ℤ) (a b S' D' : ℕ) → a ≤ S' → b ≤ D' → (G : Going) → run_of x zs T S D room ≡ G → figures G ≡ Ok (a, b)
    → (figures (run_of x zs T S' D' room) ≡ Ok (a, b)) × (answers_of (run_of x zs T S' D' room) ≡ answers_of G)
from_figures x T S D room zs a b S' D' h g (ended k) q e = absurd (let z : ◌≡◌ {A = ℕ} 0 1 = cc in omega arith)
from_figures x T S D room zs a b S' D' h g (on u) q e =
    let p : u.staged ≡ a = (pair_same e).0 in
    let r : u.deleted ≡ b = (pair_same e).1 in
    let ready = zero_ready T S D in
    let I : Bounded room S D u = subst (OnBounded room S D) q (steps_bounded room S D zs (start x T S D)
    (record { ready = ready; plain = tt; staged_at = refl; deleted_at = refl; staged = omega arith; deleted = omega arith })) in
    let y = enough_from x T S D S' D' room a b (omega (arith, I.staged, p)) h (omega (arith, I.deleted, r)) g ready zs u q (omega arith) (omega arith) in
    (ap figures y.1 ∙ (λ i. Ok (sym y.2 i, sym y.3 i)) ∙ e, ap answers_of y.1 ∙ sym y.4)

pub by_state : (w : Bool) (G : Going) (a b : ℕ) → cond w (Err 38) (figures G) ≡ Ok (a, b) → (w ≡ false) × (figures G ≡ Ok (a, b))
by_state true G a b e = absurd (let z : ◌≡◌ {A = ℕ} 0 1 = cc in omega arith)
by_state false G a b e = (refl, e)

-- "With staging and deletion list of at least those sizes, the same state, shelf, standing-list size and steps give the same answers and never 16 or 21"
pub enough : Enough
unfolding tried
enough x zs T S D room a b e S' D' h g =
    let w = by_state (eqb x 0) (run_of x zs T S D room) a b e in
    let r = from_figures x T S D room zs a b S' D' h g (run_of x zs T S D room) refl w.1 in
    (ap (λ t. cond t (Err 38) (figures (run_of x zs T S' D' room))) w.0 ∙ r.0, r.1)

-- ---- the figures are exact
bounded_by : (x T S D room : ℕ) (zs : List ℤ) (a b : ℕ) (G : Going) → run_of x zs T S D room ≡ G → figures G ≡ Ok (a, b) → (a ≤ S) × (b ≤ D)
bounded_by x T S D room zs a b (ended k) q e = absurd (let z : ◌≡◌ {A = ℕ} 0 1 = cc in omega arith)
bounded_by x T S D room zs a b (on u) q e =
    let p : u.staged ≡ a = (pair_same e).0 in
    let r : u.deleted ≡ b = (pair_same e).1 in
    let I : Bounded room S D u = subst (OnBounded room S D) q (steps_bounded room S D zs (start x T S D)
    (record { ready = zero_ready T S D; plain = tt; staged_at = refl; deleted_at = refl; staged = omega arith; deleted = omega arith })) in
    (omega (arith, I.staged, p), omega (arith, I.deleted, r))

pub within : Within
unfolding tried
within x zs T S D room a b e =
    let w = by_state (eqb x 0) (run_of x zs T S D room) a b e in
    bounded_by x T S D room zs a b (run_of x zs T S D room) refl w.1

-- both trials are that with the larger capacities
pub exact : Exact
exact x zs T S D room a b e S' D' a' b' f =
    let i = within x zs T S D room a b e in
    let j = within x zs T S' D' room a' b' f in
    let p = (enough x zs T S D room a b e (max S S') (max D D') (omega (arith, i.0, le-max_left S S')) (omega (arith, i.1, le-max_left D D'))).0 in
    let q = (enough x zs T S' D' room a' b' f (max S S') (max D D') (omega (arith, j.0, le-max_right S S')) (omega (arith, j.1, le-max_right D D'))).0 in
    pair_same (sym p ∙ q)

pub least : Least
least x zs T S D room a b e S' D' a' b' f =
    let y = exact x zs T S D room a b e S' D' a' b' f in
    let j = within x zs T S' D' room a' b' f in
    (omega (arith, y.0, j.0), omega (arith, y.1, j.1))
