-- Laws of two sides compared: a turn and each way out; and of a side that is checked.
use mathlib.Core.Path.{◌≡◌, refl, sym, ◌∙◌, ap}
use mathlib.Core.Bool.{Bool, true, false, cond}
use mathlib.Core.List.{List, ◌∷◌, ◌++◌}
use Prim.Native.Nat.{ℕ, ◌≤◌, ◌<◌}
use native.Mathlib.Omega.{arith}
use lib.IntN.{ℤ, pos, nat_abs}
use lib.ListN.{length, get_or}
use Rattle.signed.specs.Sign.{is_negative}
use Rattle.index_types.specs.declared.RowEdition.{RowEdition}
use Rattle.segment_id.specs.declared.Kind.{Kind}
use Rattle.buffer_core.specs.Edition.{Edition, RowRead, bad, good, edition_of}
use Rattle.buffer_core.specs.Spills.{Sources}
use Rattle.buffer_core.specs.Rows.{then_rows, rows_up}
use Rattle.std.specs.Prelude.{Ok, Err}
use Rattle.spill_rows.specs.Answers.{Read}
use Rattle.spill_rows.specs.Internal.{read_of}
use Rattle.spill_rows.proofs.CheckedLaws.{nope}
use Rattle.index_types.specs.declared.Order.{Order}
use Rattle.index_types.specs.declared.Order.TheVariants.{Less, Equal, Greater}
use Rattle.address_order.specs.Order.{or_else, of_signed, of_lists}
use Rattle.side_order.specs.declared.Cursor.{Cursor}
use Rattle.side_order.specs.Side.{row_taken, side_of, numbers_in}
use Rattle.side_order.specs.Internal.{to_compare, Filled}
use Rattle.side_order.proofs.FillLaws.{stepped, entry_first}

-- ---- a turn of the comparison, and its ways out

module _ (kind : Kind) (v : RowEdition) (w : Sources) (spills : ℕ) (head : List ℤ) (v' : RowEdition) (w' : Sources) (spills' : ℕ) (head' : List ℤ)
    (c : Cursor) (row : List ℤ) (e : Cursor) (filled : List ℤ) (F : Filled v kind w spills head c row e filled)
    (c' : Cursor) (row' : List ℤ) (e' : Cursor) (filled' : List ℤ) (F' : Filled v' kind w' spills' head' c' row' e' filled') where
  abbrev left : Cursor → List ℤ → List ℤ
  left d r = to_compare (row_taken (edition_of v) kind w) spills head d r

  abbrev left' : Cursor → List ℤ → List ℤ
  left' d r = to_compare (row_taken (edition_of v') kind w') spills' head' d r

  first_is : e.at < e.end → left c row ≡ get_or filled e.at (pos 0) ∷ left (stepped e) filled
  first_is h = sym F.same ∙ entry_first v kind w spills head e filled F.standing h

  second_is : e'.at < e'.end → left' c' row' ≡ get_or filled' e'.at (pos 0) ∷ left' (stepped e') filled'
  second_is h = sym F'.same ∙ entry_first v' kind w' spills' head' e' filled' F'.standing h

  pub both_end : e.end ≤ e.at → e'.end ≤ e'.at → of_lists of_signed (left c row) (left' c' row') ≡ Equal
  unfolding of_lists
  both_end h k = λ i. of_lists of_signed ((sym F.same ∙ F.ended h) i) ((sym F'.same ∙ F'.ended k) i)

  pub first_ends : e.end ≤ e.at → e'.at < e'.end → of_lists of_signed (left c row) (left' c' row') ≡ Less
  unfolding of_lists
  first_ends h k = λ i. of_lists of_signed ((sym F.same ∙ F.ended h) i) (second_is k i)

  pub second_ends : e.at < e.end → e'.end ≤ e'.at → of_lists of_signed (left c row) (left' c' row') ≡ Greater
  unfolding of_lists
  second_ends h k = λ i. of_lists of_signed (first_is h i) ((sym F'.same ∙ F'.ended k) i)

  pub both_go_on : e.at < e.end → e'.at < e'.end → (o : Order) → o ≡ of_signed (get_or filled e.at (pos 0)) (get_or filled' e'.at (pos 0))
      → of_lists of_signed (left c row) (left' c' row') ≡ or_else o (of_lists of_signed (left (stepped e) filled) (left' (stepped e') filled'))
  unfolding of_lists
  both_go_on h k o q =
      (λ i. of_lists of_signed (first_is h i) (second_is k i)) ∙ ap (λ u. or_else u (of_lists of_signed (left (stepped e) filled) (left' (stepped e') filled'))) (sym q)

  pub fewer_left : e.at < e.end → length (left (stepped e) filled) < length (left c row)
  fewer_left h = let q = ap length (first_is h) in omega arith

-- ---- a side that is checked

module _ (E : Edition) (kind : Kind) (w : Sources) (spills : ℤ) (head : List ℤ) where
  pub side_11 : is_negative spills ≡ true → Err 11 ≡ read_of (side_of E kind w spills head)
  unfolding side_of
  side_11 h = rw h

  pub side_on : is_negative spills ≡ false → (n : ℕ) → n ≡ nat_abs spills → (r : Read) → r ≡ read_of (rows_up (row_taken E kind w) 0 n) → r ≡ read_of (side_of E kind w spills head)
  unfolding side_of
  side_on h n e r q = rw h (q ∙ ap (λ m. read_of (rows_up (row_taken E kind w) 0 m)) e ∙ by_rows (rows_up (row_taken E kind w) 0 (nat_abs spills)))
    where
      by_rows : (x : RowRead) → read_of x ≡ read_of (then_rows x (good head))
      by_rows (bad c) = refl
      by_rows (good zs) = refl

  -- the entries of a side that passed its checks
  pub side_taken : (r : Read) → r ≡ read_of (side_of E kind w spills head) → r ≡ Ok tt
      → (is_negative spills ≡ false) × (read_of (rows_up (row_taken E kind w) 0 (nat_abs spills)) ≡ (Ok tt))
      × (side_of E kind w spills head ≡ good (numbers_in (rows_up (row_taken E kind w) 0 (nat_abs spills)) ++ head))
  unfolding side_of
  side_taken r q g = by_sign (is_negative spills) refl (sym q ∙ g)
    where
      by_rows : (x : RowRead) → read_of (then_rows x (good head)) ≡ (Ok tt) → (read_of x ≡ (Ok tt)) × (then_rows x (good head) ≡ good (numbers_in x ++ head))
      by_rows (bad c) q = nope (cc)
      by_rows (good zs) q = (refl, refl)

      by_sign : (b : Bool) → is_negative spills ≡ b → read_of (cond b (bad 11) (then_rows (rows_up (row_taken E kind w) 0 (nat_abs spills)) (good head))) ≡ Ok tt
          → (b ≡ false) × (read_of (rows_up (row_taken E kind w) 0 (nat_abs spills)) ≡ (Ok tt))
          × (cond b (bad 11) (then_rows (rows_up (row_taken E kind w) 0 (nat_abs spills)) (good head)) ≡ good (numbers_in (rows_up (row_taken E kind w) 0 (nat_abs spills)) ++ head))
      by_sign true p q = nope (cc)
      by_sign false p q = let z = by_rows (rows_up (row_taken E kind w) 0 (nat_abs spills)) q in (refl, z.0, z.1)
