-- Two accepted answers that are the same give the same.
use mathlib.Core.Path.{◌≡◌, ap}
use Rattle.std.specs.Prelude.{ℕ, Result, Ok}

module _ {A B : Type 0} {a a' : A} {b b' : B} where
  pub pair_same : ◌≡◌ {A = Result (A × B) ℕ} (Ok (a, b)) (Ok (a', b')) → (a ≡ a') × (b ≡ b')
  pair_same e = let q : ◌≡◌ {A = A × B} (a, b) (a', b') = cc in (ap (λ (t : A × B). t.0) q, ap (λ (t : A × B). t.1) q)

module _ {A B C : Type 0} {a a' : A} {b b' : B} {c c' : C} where
  pub triple_same : ◌≡◌ {A = Result (A × B × C) ℕ} (Ok (a, b, c)) (Ok (a', b', c')) → (a ≡ a') × (b ≡ b') × (c ≡ c')
  triple_same e =
      let q : ◌≡◌ {A = A × B × C} (a, b, c) (a', b', c') = cc in
      (ap (λ (t : A × B × C). t.0) q, ap (λ (t : A × B × C). t.1) q, ap (λ (t : A × B × C). t.2) q)

module _ {A B C D : Type 0} {a a' : A} {b b' : B} {c c' : C} {d d' : D} where
  pub four_same : ◌≡◌ {A = Result (A × B × C × D) ℕ} (Ok (a, b, c, d)) (Ok (a', b', c', d')) → (a ≡ a') × (b ≡ b') × (c ≡ c') × (d ≡ d')
  four_same e =
      let q : ◌≡◌ {A = A × B × C × D} (a, b, c, d) (a', b', c', d') = cc in
      (ap (λ (t : A × B × C × D). t.0) q, ap (λ (t : A × B × C × D). t.1) q, ap (λ (t : A × B × C × D). t.2) q, ap (λ (t : A × B × C × D). t.3) q)
