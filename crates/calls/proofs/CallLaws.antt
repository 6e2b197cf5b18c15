-- Laws of the call at a position.
use Prim.Native.Nat.{ℕ, ◌+◌, ◌-◌, ◌≤◌, ◌<◌}
use mathlib.Core.Path.{◌≡◌, refl, ap, ◌∙◌}
use mathlib.Core.Bool.{Bool, true, false, cond}
use mathlib.Core.List.{List}
use native.Mathlib.Omega.{arith}
use lib.Dec.{leb, ltb, eqb}
use lib.IntN.{ℤ}
use lib.ListN.{length, get_or}
use borrow.Author.Tests.{leb-false, ltb-false}
use Rattle.calls.specs.declared.Call.{Call}
use Rattle.calls.specs.declared.Call.TheVariants.{Change}
use Rattle.calls.specs.Calls.{Among, size_of, number_at, with_number, with_token, with_parent, of_kind, call_at}

-- a call of read numbers
pub change_of : {adding : Bool} {p t : ℕ} {n v : ℤ} (n' v' : ℤ) → n' ≡ n → v' ≡ v → Change adding p n' t v' ≡ Change adding p n t v
change_of {adding} {p} {t} n' v' e f = λ i. Change adding p (e i) t (f i)

-- what holds where a test is true and where it is false
either : {A : Type 0} (P : A → Type 0) (b : Bool) {x y : A} → (b ≡ true → P x) → (b ≡ false → P y) → P (cond b x y)
either P true f g = f refl
either P false f g = g refl

-- a call whose parent is one of so many, and which has as many bytes as are left
pub record Sound (parents left : ℕ) (c : Call) : Type 0 where
  pub among : Among parents c
  pub fits : size_of c ≤ left

module _ (parents left : ℕ) where
  abbrev S : Call → Type 0
  S c = Sound parents left c

  number_sound : (kind p : ℕ) (n : ℤ) → p < parents → 10 ≤ left → S (with_number kind p n)
  unfolding with_number
  number_sound kind p n h k =
      either S (eqb kind 1) (λ e. record { among = h; fits = k }) (λ e.
      either S (eqb kind 2) (λ e. record { among = h; fits = k }) (λ e.
      either S (eqb kind 3) (λ e. record { among = h; fits = k }) (λ e. record { among = h; fits = k })))

  token_sound : (adding : Bool) (p : ℕ) (n : ℤ) (s : List ℕ) (at : ℕ) → p < parents → S (with_token adding p n left s at)
  unfolding with_token
  token_sound adding p n s at h =
      either S (ltb left 19) (λ e. record { among = tt; fits = omega arith }) (λ e. record { among = h; fits = ltb-false left 19 e })

  parent_sound : (kind p : ℕ) (s : List ℕ) (at : ℕ) → 2 ≤ left → S (with_parent kind p parents left s at)
  unfolding with_parent
  parent_sound kind p s at two =
      either S (leb parents p) (λ e. record { among = tt; fits = omega arith }) (λ h.
      either S (eqb kind 5) (λ e. record { among = leb-false parents p h; fits = two }) (λ e.
      either S (eqb kind 6) (λ e. record { among = leb-false parents p h; fits = two }) (λ e.
      either S (ltb left 10) (λ e. record { among = tt; fits = omega arith }) (λ k.
      either S (ltb kind 5) (λ e. number_sound kind p (number_at s (at + 2)) (leb-false parents p h) (ltb-false left 10 k)) (λ e.
      token_sound (eqb kind 8) p (number_at s (at + 2)) s at (leb-false parents p h))))))

  kind_sound : (kind : ℕ) (s : List ℕ) (at : ℕ) → 1 ≤ left → S (of_kind kind parents left s at)
  unfolding of_kind
  kind_sound kind s at one =
      either S (eqb kind 7) (λ e. record { among = tt; fits = one }) (λ e.
      either S (eqb kind 0) (λ e. record { among = tt; fits = omega arith }) (λ e.
      either S (ltb 9 kind) (λ e. record { among = tt; fits = omega arith }) (λ e.
      either S (ltb left 2) (λ e. record { among = tt; fits = omega arith }) (λ e. parent_sound kind (get_or s (at + 1) 0) s at (ltb-false left 2 e)))))

pub call_sound : (parents : ℕ) (s : List ℕ) (at : ℕ) → Sound parents (length s - at) (call_at parents s at)
unfolding call_at
call_sound parents s at =
    either (Sound parents (length s - at)) (leb (length s) at) (λ e. record { among = tt; fits = omega arith }) (λ e.
    kind_sound parents (length s - at) (get_or s at 0) s at (omega (arith, leb-false (length s) at e)))
