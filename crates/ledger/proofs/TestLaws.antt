-- What `ite` gives where its test is known to hold, or not to.
use mathlib.Core.Path.{◌≡◌, refl}
use Rattle.ledger.specs.Ledger.{ite}

pub ite_yes {ℓ} : {P : Type 0} {A : Type ℓ} (d : Dec P) (a b : A) → P → ite d a b ≡ a
unfolding ite
ite_yes (yes p) a b h = refl
ite_yes (no n) a b h = absurd (n h)

pub ite_no {ℓ} : {P : Type 0} {A : Type ℓ} (d : Dec P) (a b : A) → (P → ⊥) → ite d a b ≡ b
unfolding ite
ite_no (yes p) a b h = absurd (h p)
ite_no (no n) a b h = refl
