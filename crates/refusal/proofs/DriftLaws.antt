-- `tolerated`, by the answer it is given.
use mathlib.Core.Path.{◌≡◌, refl, ap, ◌∙◌, sym}
use Prim.Native.Nat.{ℕ}
use borrow.Author.Tests.{eq-eqb, ne_eqb}
use Rattle.refusal.specs.Refusal.{tolerated}
use Rattle.std.specs.Prelude.{Ok, Err}
use Rattle.refusal.specs.Answers.{Answer}
use Rattle.refusal.specs.declared.Tolerated.{Tolerated}
use Rattle.refusal.specs.declared.Tolerated.TheVariants as tolerated_as

pub passed : (a : Answer) → a ≡ (Ok tt) → tolerated_as.Flipped ≡ tolerated a
unfolding tolerated
passed a e = sym (ap tolerated e)

pub skipped : (a : Answer) (code : ℕ) → a ≡ Err code → code ≡ 15 → tolerated_as.Skipped ≡ tolerated a
unfolding tolerated
skipped a code e h = rw (e, h)

pub refused : (a : Answer) (code : ℕ) → a ≡ Err code → (code ≡ 15 → ⊥) → tolerated_as.Refused code ≡ tolerated a
unfolding tolerated
refused a code e h = rw (e, ne_eqb code 15 h)
