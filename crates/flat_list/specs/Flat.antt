-- The flat list of document 02, U9: "a second engine for one parent with a single list of at most 4,096 box numbers, a plain scan and no staging; the list
-- is checked and scanned as a head is". Refusals: append 25, 17, "37 for an append to a flat list of 4,096, tested after 17"; spend and unspend 25, 9, 10, then
-- 14 or 15; pop 25, 19.
use Rattle.std.specs.Prelude.{Bool, false, cond, ◌&&◌, List, ℕ, ◌+◌, ◌-◌, leb, eqb, ℤ, pos, nat_abs, length, take, get_or, set, Ok, Err}
use Rattle.index_types.specs.Limits.{flat_limit}
use Rattle.index_types.specs.Answers.{FlatChanged}
use Rattle.index_types.specs.Answers.{FlatPopped}
use Rattle.index_types.specs.declared.BoxNumber.{BoxNumber}
use Rattle.signed.specs.Sign.{is_negative}
use Rattle.entries.specs.Order.{order_ok}
use Rattle.entries.specs.Flip.{position, flipped_at}
use Rattle.entries.specs.declared.Position.{Position}
use Rattle.entries.specs.declared.Position.TheVariants.{At, Seen, Absent}

-- the answer and the list at exit
pub record Changing : Type 0 where
  pub answer : FlatChanged
  pub list : List ℤ

abbrev pub changing : FlatChanged → List ℤ → Changing
changing a l = record { answer = a; list = l }

pub record Popping : Type 0 where
  pub answer : FlatPopped
  pub list : List ℤ

abbrev pub popping : FlatPopped → List ℤ → Popping
popping a l = record { answer = a; list = l }

-- 25: "at most 4,096 box numbers", in a borrowed list of as many places
unfoldable pub flat_ok : (count : ℕ) → List ℤ → Bool
flat_ok n l = leb n flat_limit && leb flat_limit (length l)

-- 25, 17, 37, or the number at the end
unfoldable pub flat_append : (count : ℕ) → ℤ → List ℤ → Changing
flat_append n z l =
    cond (flat_ok n l)
    (cond (is_negative z) (changing (Err 17) l)
    (cond (leb flat_limit n) (changing (Err 37) l) (changing (Ok (n + 1)) (set l n z))))
    (changing (Err 25) l)

abbrev pub flip_found : Position → (count : ℕ) → List ℤ → Changing
flip_found (At i) n l = changing (Ok n) (flipped_at (At i) l)
flip_found Seen n l = changing (Err 14) l
flip_found Absent n l = changing (Err 15) l

-- the first entry of the target and the wanted sign, 14 or 15
unfoldable pub flip_target : (spend : Bool) (count target : ℕ) → List ℤ → Changing
flip_target d n t l = flip_found (position d t (take n l) 0 false) n l

-- 25, 9, 10, then the entry
unfoldable pub flat_flip : (spend : Bool) (count : ℕ) → ℤ → List ℤ → Changing
flat_flip d n z l =
    cond (flat_ok n l)
    (cond (leb 9223372036854775808 (nat_abs z)) (changing (Err 9) l)
    (cond (order_ok (take n l)) (flip_target d n (nat_abs z) l) (changing (Err 10) l)))
    (changing (Err 25) l)

-- 25, 19, or the last number, whose place becomes 0
unfoldable pub flat_pop : (count : ℕ) → List ℤ → Popping
flat_pop n l =
    cond (flat_ok n l)
    (cond (eqb n 0) (popping (Err 19) l)
    (popping (Ok (record { 0 = get_or l (n - 1) (pos 0) }, n - 1)) (set l (n - 1) (pos 0))))
    (popping (Err 25) l)
