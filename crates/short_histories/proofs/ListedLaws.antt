-- What an accepted list is: all histories stand at the front of the output, and the answer is their length.
use Prim.Native.Nat.{ℕ, ◌+◌, ◌≤◌}
use mathlib.Core.Path.{◌≡◌, refl, sym, ap, subst, ◌∙◌}
use mathlib.Core.Bool.{Bool, true, false, cond}
use mathlib.Core.List.{List}
use native.Mathlib.Nat.{zero-add}
use native.Mathlib.Omega.{arith}
use lib.Dec.{leb}
use lib.ListN.{length, take}
use borrow.Author.Tests.{leb-true}
use Rattle.stores.specs.Stores.{write, Put}
use Rattle.stores.proofs.StoreLaws.{sets_write}
use Rattle.stores.proofs.PutLaws.{put_within, put_front}
use Rattle.std.specs.Prelude.{Ok, Err}
use Rattle.index_types.specs.Answers.{Wrote}
use Rattle.vlq_core.specs.Writing.{Written, written, put_bytes}

abbrev is_next : Wrote → Bool
is_next (Ok n) = true
is_next (Err code) = false

abbrev next_of : Wrote → ℕ
next_of (Ok n) = n
next_of (Err code) = 0

module _ (s l : List ℕ) (k : ℕ) (l' : List ℕ) where
  put_of : length s ≤ length l → written (Ok (0 + length s)) (write 0 s l) ≡ written (Ok k) l' → Put s l 0 k l'
  put_of h e = (
    ap (λ (w : Written). next_of w.answer) (sym e),
    ap (λ (w : Written). w.out) (sym e) ∙ sym (sets_write s l 0 (omega (arith, h))),
  )

  -- bytes that were put at the front are there
  pub listed : written (Ok k) l' ≡ put_bytes s l 0 → (k ≤ length l') × (take k l' ≡ s)
  unfolding put_bytes
  listed e = by_room (leb (0 + length s) (length l)) refl (sym e)
    where
      by_room : (t : Bool) → leb (0 + length s) (length l) ≡ t → cond t (written (Ok (0 + length s)) (write 0 s l)) (written (Err 32) l) ≡ written (Ok k) l'
          → (k ≤ length l') × (take k l' ≡ s)
      by_room true q w =
          let h : length s ≤ length l = omega (arith, leb-true (0 + length s) (length l) q) in
          (put_within s l k l' (put_of h w) h, put_front s l k l' (put_of h w) h)
      by_room false q w =
          let b : false ≡ true = ap (λ (x : Written). is_next x.answer) w in
          absurd (subst (λ (t : Bool). cond t ⊥ (Unit {0})) b tt)
