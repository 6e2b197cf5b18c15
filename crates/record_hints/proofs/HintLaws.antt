-- A hint is right where it names a record with the key.
use Prim.Native.Nat.{ℕ, ◌*◌, ◌≤◌, ◌<◌}
use mathlib.Core.Path.{◌≡◌, ◌∙◌}
use mathlib.Core.List.{List}
use mathlib.Core.Bool.{true}
use native.Mathlib.Omega.{arith}
use lib.ListN.{take, drop}
use Rattle.stores.specs.Equal.{same_bytes}
use Rattle.stores.proofs.EqualLaws.{same_true}
use Rattle.std.specs.Prelude.{Some}
use Rattle.records.specs.Records.{keys}
use Rattle.records.specs.Find.{find_key, distinct}
use Rattle.records.proofs.TurnLaws.{length_keys}
use Rattle.records.proofs.KeyLaws.{find_unique, of_distinct}
use Rattle.records.proofs.RecordLaws.{key_at}

module _ (size i : ℕ) (key l : List ℕ) (wide : 32 ≤ size) where
  -- where no key stands twice, a record with the key is the one that is found
  pub stands_at : distinct (keys size i l) ≡ true → (k : ℕ) → k < i → same_bytes (take 32 (drop (k * size) l)) key ≡ true → find_key key (keys size i l) ≡ Some k
  stands_at d k h t =
      find_unique key (keys size i l) k (of_distinct (keys size i l) d) (omega (arith, length_keys size i l)) (key_at size i k l wide h ∙ same_true (take 32 (drop (k * size) l)) key t)
