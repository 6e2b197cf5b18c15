-- Answers of one layer as answers of another.
use mathlib.Core.Path.{◌≡◌, refl, sym, ap}
use Rattle.ledger.specs.Run.{Res, done, refused, Made, accepted, refused_leaving, Leaves, Popped}
use Rattle.fork_model.proofs.Search.{done≢refused}

abbrev pub map_res : {A B : Type 0} → (A → B) → Res A → Res B
map_res f (done a) = done (f a)
map_res f (refused k) = refused k

abbrev pub map_pop : {A B : Type 0} → (A → B) → Popped A → Popped B
map_pop f x = record { left = f x.left; value = x.value }

pub map_done : {A B : Type 0} (f : A → B) (X : Res A) (b : B) → map_res f X ≡ done b → (a : A) × (X ≡ done a) × (f a ≡ b)
map_done f (done a) b e = let q : f a ≡ b = cc in (a, refl, q)
map_done f (refused k) b e = absurd (done≢refused (sym e))

-- ---- the result of an operation, without what a refusal left
abbrev pub result_of : {S A : Type 0} → Made S A → Res A
result_of (accepted a) = done a
result_of (refused_leaving k s) = refused k

-- an operation that leaves what was there where it refuses
abbrev pub keeping : {S A : Type 0} → S → Res A → Made S A
keeping s (done a) = accepted a
keeping s (refused k) = refused_leaving k s

pub result_keeping : {S A : Type 0} (s : S) (X : Res A) → result_of (keeping s X) ≡ X
result_keeping s (done a) = refl
result_keeping s (refused k) = refl

pub keeping_leaves : {S A : Type 0} (s : S) (X : Res A) → Leaves s (keeping s X)
keeping_leaves s (done a) = tt
keeping_leaves s (refused k) = refl

pub was_accepted : {S A : Type 0} (X : Made S A) (a : A) → result_of X ≡ done a → X ≡ accepted a
was_accepted (accepted b) a e = let q : b ≡ a = cc in ap accepted q
was_accepted (refused_leaving k s) a e = absurd (done≢refused (sym e))
