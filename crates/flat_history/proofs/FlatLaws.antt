-- What the operations of the flat list do, by the laws of its definitions.
use mathlib.Core.Path.{◌≡◌, refl, sym, ◌∙◌, ap, subst}
use mathlib.Core.Bool.{Bool, true, false, cond}
use mathlib.Core.List.Memᴰ
use mathlib.Core.List.{List, [], ◌∷◌, ◌++◌, Memᴰ}
use Prim.Native.Nat.{ℕ, ◌+◌, ◌-◌, ◌≤◌, ◌<◌}
use native.Mathlib.Decide.{ℕ_discrete, dec_le}
use native.Mathlib.Omega.{arith}
use lib.Dec.{leb, eqb}
use lib.IntN.{ℤ, pos, negsuc, neg_ℤ, nat_abs}
use lib.Signed.{mag}
use lib.ListN.{length, get_or, take, set, length-set}
use lib.Seq.{take-set-lt, take-set-le, get_or-take, length-take-le}
use borrow.Author.Tests.{le-leb}
use Rattle.index_types.specs.Limits.{flat_limit}
use Rattle.std.specs.Prelude.{Ok, Err}
use Rattle.records.proofs.CheckLaws.{and_true}
use Rattle.signed.specs.Sign.{is_negative}
use Rattle.entries.specs.Order.{order_ok}
use Rattle.entries.specs.Flip.{position, flipped_at}
use Rattle.entries.specs.declared.Position.{Position}
use Rattle.entries.specs.declared.Position.TheVariants.{At, Seen, Absent}
use Rattle.flat_list.specs.Flat.{Changing, changing, Popping, popping, flip_found, flip_target, flat_ok, flat_append, flat_flip, flat_pop}
use Rattle.flat_list.proofs.FlatLaws as Fl
use Rattle.ledger.specs.Ledger.{absℤ}
use Rattle.ledger.specs.Run.{Res, done, refused, Made, Leaves, Popped}
use Rattle.fork_model.proofs.EntryLaws.{Sorted}
use Rattle.fork_model.proofs.GoodStore.{Small, small_snoc, small_split}
use Rattle.fork_model.proofs.Store.{flip_first, seen_in, none_found}
use Rattle.fork_model.proofs.Table.{missing, found}
use Rattle.fork_model.proofs.Search as Se
use Rattle.fork_model.proofs.Search.{done≢refused, Split}
use Rattle.fork_model.proofs.Results.{result_of}
use Rattle.history.proofs.AppendSim.{grown}
use Rattle.history.proofs.PopSim.{unsnoc_take}
use Rattle.history.proofs.FlipLists.{copy_of, new_of, first_new, is_seen, first_seen, first_in, order_same}
use Rattle.flat_history.specs.FlatMachine.{FlatList, flat_list, numbers, after_change, after_pop, do_append, do_flip, do_pop}

-- between calls
pub record Good (f : FlatList) : Type 0 where
  pub counted : f.count ≤ flat_limit
  pub room : flat_limit ≤ length f.places
  pub small : Small 9223372036854775808 (numbers f)

pub done_is : {A : Type 0} {a b : A} → ◌≡◌ {A = Res A} (done a) (done b) → a ≡ b
done_is e = cc

ok : (f : FlatList) → Good f → flat_ok f.count f.places ≡ true
unfolding flat_ok
ok f G = and_true (leb f.count flat_limit) (leb flat_limit (length f.places)) (le-leb _ _ G.counted) (le-leb _ _ G.room)

pub numbers_length : (f : FlatList) → Good f → length (numbers f) ≡ f.count
numbers_length f G = length-take-le f.count f.places (omega (arith, G.counted, G.room))

-- ---- a refusal leaves the list, whatever it holds
module _ (f : FlatList) where
  abbrev changed : Changing → Made FlatList FlatList
  changed o = after_change f o.answer o.list

  abbrev popped : Popping → Made FlatList (Popped FlatList)
  popped o = after_pop f o.answer o.list

  append_leaves_by : (a b c : Bool) (n : ℕ) (m : List ℤ)
      → Leaves f (changed (cond a (cond b (changing (Err 17) f.places) (cond c (changing (Err 37) f.places) (changing (Ok n) m))) (changing (Err 25) f.places)))
  append_leaves_by false b c n m = refl
  append_leaves_by true true c n m = refl
  append_leaves_by true false true n m = refl
  append_leaves_by true false false n m = tt

  pub append_leaves : (z : ℤ) → Leaves f (do_append f z)
  unfolding flat_append
  append_leaves z = append_leaves_by (flat_ok f.count f.places) (is_negative z) (leb flat_limit f.count) (f.count + 1) (set f.places f.count z)

  flip_leaves_by : (a b c : Bool) (P : Position)
      → Leaves f (changed (cond a (cond b (changing (Err 9) f.places) (cond c (flip_found P f.count f.places) (changing (Err 10) f.places))) (changing (Err 25) f.places)))
  flip_leaves_by false b c P = refl
  flip_leaves_by true true c P = refl
  flip_leaves_by true false false P = refl
  flip_leaves_by true false true (At i) = tt
  flip_leaves_by true false true Seen = refl
  flip_leaves_by true false true Absent = refl

  pub flip_leaves : (d : Bool) (z : ℤ) → Leaves f (do_flip d f z)
  unfolding flat_flip flip_target
  flip_leaves d z =
      flip_leaves_by (flat_ok f.count f.places) (leb 9223372036854775808 (nat_abs z)) (order_ok (numbers f)) (position d (nat_abs z) (numbers f) 0 false)

  pop_leaves_by : (a b : Bool) (z : ℤ) (n : ℕ) (m : List ℤ)
      → Leaves f (popped (cond a (cond b (popping (Err 19) f.places) (popping (Ok (record { 0 = z }, n)) m)) (popping (Err 25) f.places)))
  pop_leaves_by false b z n m = refl
  pop_leaves_by true true z n m = refl
  pop_leaves_by true false z n m = tt

  pub pop_leaves : Leaves f (do_pop f)
  unfolding flat_pop
  pop_leaves = pop_leaves_by (flat_ok f.count f.places) (eqb f.count 0) (get_or f.places (f.count - 1) (pos 0)) (f.count - 1) (set f.places (f.count - 1) (pos 0))

module _ (f : FlatList) (G : Good f) where
  abbrev n : ℕ
  n = f.count

  abbrev l : List ℤ
  l = f.places

  by_change : (o q : Changing) → o ≡ q → result_of (changed f q) ≡ result_of (changed f o)
  by_change o q e = ap (λ (x : Changing). result_of (changed f x)) (sym e)

  -- ---- append
  pub append_below : (k : ℕ) → result_of (do_append f (negsuc k)) ≡ refused 17
  append_below k = by_change (changing (Err 17) l) (flat_append n (negsuc k) l) (Fl.append_17 n l (negsuc k) (ok f G) refl)

  pub append_full : (m : ℕ) → n ≡ flat_limit → result_of (do_append f (pos m)) ≡ refused 37
  append_full m e = by_change (changing (Err 37) l) (flat_append n (pos m) l) (Fl.append_37 n l (pos m) (ok f G) refl (omega arith))

  abbrev more : ℕ → FlatList
  more m = flat_list (n + 1) (set l n (pos m))

  pub append_more : (m : ℕ) → n < flat_limit → result_of (do_append f (pos m)) ≡ done (more m)
  append_more m h = by_change (changing (Ok (n + 1)) (set l n (pos m))) (flat_append n (pos m) l) (Fl.append_end n l (pos m) (ok f G) refl h (set l n (pos m)) refl)

  more_numbers : (m : ℕ) → n < flat_limit → numbers (more m) ≡ numbers f ++ (pos m ∷ [])
  more_numbers m h = grown l n (pos m) (omega (arith, G.room))

  more_good : (m : ℕ) → n < flat_limit → m < 9223372036854775808 → Good (more m)
  more_good m h v = record {
    counted = omega arith;
    room = rw length-set G.room;
    small = subst (Small 9223372036854775808) (sym (more_numbers m h)) (small_snoc 9223372036854775808 (numbers f) m G.small v);
  }

  pub record Appends (z : ℤ) (g : FlatList) : Type 0 where
    pub good : Good g
    pub nonneg : z ≡ absℤ z
    pub is : numbers g ≡ numbers f ++ (z ∷ [])

  append_by : Dec (n ≡ flat_limit) → (m : ℕ) (g : FlatList) → m < 9223372036854775808 → result_of (do_append f (pos m)) ≡ done g → Appends (pos m) g
  append_by (yes e) m g v q = absurd (done≢refused (sym q ∙ append_full m e))
  append_by (no e) m g v q =
      let h : n < flat_limit = omega (arith, G.counted) in
      subst (Appends (pos m)) (done_is (sym (append_more m h) ∙ q)) (record { good = more_good m h v; nonneg = refl; is = more_numbers m h })

  pub appends : (z : ℤ) (g : FlatList) → mag z < 9223372036854775808 → result_of (do_append f z) ≡ done g → Appends z g
  appends (pos m) g v q = append_by (ℕ_discrete n flat_limit) m g v q
  appends (negsuc k) g v q = absurd (done≢refused (sym q ∙ append_below k))

  -- a number that is not below 0 is refused only by 37
  refused_by : Dec (n ≡ flat_limit) → (m k : ℕ) → result_of (do_append f (pos m)) ≡ refused k → k ≡ 37
  refused_by (yes e) m k q = let z : ◌≡◌ {A = Res FlatList} (refused k) (refused 37) = sym q ∙ append_full m e in cc
  refused_by (no e) m k q = absurd (done≢refused (sym (append_more m (omega (arith, G.counted))) ∙ q))

  pub append_37 : (m k : ℕ) → result_of (do_append f (pos m)) ≡ refused k → k ≡ 37
  append_37 m k q = refused_by (ℕ_discrete n flat_limit) m k q

  -- ---- pop
  by_pop : (o q : Popping) → o ≡ q → result_of (popped f q) ≡ result_of (popped f o)
  by_pop o q e = ap (λ (x : Popping). result_of (popped f x)) (sym e)

  abbrev last : ℤ
  last = get_or l (n - 1) (pos 0)

  abbrev less : FlatList
  less = flat_list (n - 1) (set l (n - 1) (pos 0))

  pop_none : n ≡ 0 → result_of (do_pop f) ≡ refused 19
  pop_none e = by_pop (popping (Err 19) l) (flat_pop n l) (Fl.pop_19 n l (ok f G) e)

  pub pop_some : (n ≡ 0 → ⊥) → result_of (do_pop f) ≡ done (record { left = less; value = last })
  pop_some h = by_pop (popping (Ok (record { 0 = last }, n - 1)) (set l (n - 1) (pos 0))) (flat_pop n l) (Fl.pop_last n l (ok f G) h last (set l (n - 1) (pos 0)) refl refl)

  less_numbers : 0 < n → numbers f ≡ numbers less ++ (last ∷ [])
  less_numbers h =
      Se.unsnoc_ends (numbers f) (take (n - 1) l) last (unsnoc_take l n h (omega (arith, G.counted, G.room)))
      ∙ ap (λ (x : List ℤ). x ++ (last ∷ [])) (sym (take-set-le (n - 1) l (n - 1) (pos 0) (omega arith)))

  pub record Pops (v : ℤ) (g : FlatList) : Type 0 where
    pub good : Good g
    pub is : numbers f ≡ numbers g ++ (v ∷ [])

  less_good : 0 < n → Good less
  less_good h = record {
    counted = omega (arith, G.counted);
    room = rw length-set G.room;
    small = λ x t. G.small x (subst (Memᴰ x) (sym (less_numbers h)) (Memᴰ.append_left (last ∷ []) t));
  }

  pops_by : Dec (n ≡ 0) → (r : Popped FlatList) → result_of (do_pop f) ≡ done r → Pops r.value r.left
  pops_by (yes e) r c = absurd (done≢refused (sym c ∙ pop_none e))
  pops_by (no q) r c =
      let h : 0 < n = omega arith in
      subst (λ (x : Popped FlatList). Pops x.value x.left) (done_is (sym (pop_some q) ∙ c)) (record { good = less_good h; is = less_numbers h })

  pub pops : (r : Popped FlatList) → result_of (do_pop f) ≡ done r → Pops r.value r.left
  pops r c = pops_by (ℕ_discrete n 0) r c

  -- ---- spend and unspend, in a list in order
  module _ (d : Bool) (z : ℤ) where
    abbrev e : ℤ
    e = copy_of d (nat_abs z)

    abbrev at : Position
    at = position d (nat_abs z) (numbers f) 0 false

    pub flip_large : 9223372036854775808 ≤ nat_abs z → result_of (do_flip d f z) ≡ refused 9
    flip_large h = by_change (changing (Err 9) l) (flat_flip d n z l) (Fl.flip_9 n l d z (ok f G) (nat_abs z) refl h)

    abbrev by_place : Position → Res FlatList
    by_place P = result_of (changed f (flip_found P n l))

    -- what the first copy's place says
    flip_small : nat_abs z < 9223372036854775808 → Sorted (numbers f) → (P : Position) → at ≡ P → result_of (do_flip d f z) ≡ by_place P
    flip_small h so P q = by_change (flip_found P n l) (flat_flip d n z l) (Fl.flip_on n l d z (ok f G) (nat_abs z) refl h in_order (flip_found P n l) (target P q))
      where
        in_order : order_ok (take n l) ≡ true
        in_order = order_same 0 (numbers f) G.small ∙ Se.sorted_ordered (numbers f) 0 so (λ k t. omega arith)

        target : (P : Position) → at ≡ P → flip_found P n l ≡ flip_target d n (nat_abs z) l
        target (At i) q = Fl.target_at n l d (nat_abs z) i (flipped_at (At i) l) q refl
        target Seen q = Fl.target_14 n l d (nat_abs z) q
        target Absent q = Fl.target_15 n l d (nat_abs z) q

    pub record Flips (g : FlatList) : Type 0 where
      pub good : Good g
      pub split : Split e (numbers f) (numbers g)

    flip_take : (i : ℕ) → i < n → take n (flipped_at (At i) l) ≡ flipped_at (At i) (numbers f)
    flip_take i h = take-set-lt n l i (neg_ℤ (get_or l i (pos 0))) h ∙ ap (λ (x : ℤ). set (take n l) i (neg_ℤ x)) (sym (get_or-take n l i (pos 0) h))

    placed : (i : ℕ) → at ≡ At i → i < n
    placed i q = let h : i < length (numbers f) = rw q at (first_in d (nat_abs z) (numbers f)) in omega (arith, numbers_length f G)

    split_at : (i : ℕ) → at ≡ At i → Split e (numbers f) (flipped_at (At i) (numbers f))
    split_at i q = Se.first_split e (numbers f) (flipped_at (At i) (numbers f)) (first_new d (nat_abs z) (numbers f) ∙ ap (λ (P : Position). new_of P (numbers f)) q)

    flips_at : (P : Position) (g : FlatList) → at ≡ P → by_place P ≡ done g → Flips g
    flips_at (At i) g q c =
        let sp = split_at i q in
        let t = flip_take i (placed i q) in
        subst Flips (done_is c) (record {
          good = record { counted = G.counted; room = rw length-set G.room; small = subst (Small 9223372036854775808) (sym t) (small_split sp G.small) };
          split = subst (Split e (numbers f)) (sym t) sp;
        })
    flips_at Seen g q c = absurd (done≢refused (sym c))
    flips_at Absent g q c = absurd (done≢refused (sym c))

    flips_by : Dec (9223372036854775808 ≤ nat_abs z) → Sorted (numbers f) → (g : FlatList) → result_of (do_flip d f z) ≡ done g → Flips g
    flips_by (yes h) so g c = absurd (done≢refused (sym c ∙ flip_large h))
    flips_by (no h) so g c = flips_at at g refl (sym (flip_small (omega arith) so at refl) ∙ c)

    pub flips : Sorted (numbers f) → (g : FlatList) → result_of (do_flip d f z) ≡ done g → Flips g
    flips so g c = flips_by (dec_le 9223372036854775808 (nat_abs z)) so g c

    -- a refused one found no copy, and says whether the number is there
    misses_at : (P : Position) (k : ℕ) → at ≡ P → by_place P ≡ refused k → (flip_first e (numbers f) ≡ missing) × (k ≡ none_found (seen_in (nat_abs z) (numbers f)))
    misses_at (At i) k q c = absurd (done≢refused c)
    misses_at Seen k q c = (
      first_new d (nat_abs z) (numbers f) ∙ ap (λ (P : Position). new_of P (numbers f)) q,
      let j : 14 ≡ k = cc in sym j ∙ ap none_found (sym (first_seen d (nat_abs z) (numbers f) ∙ ap is_seen q)),
    )
    misses_at Absent k q c = (
      first_new d (nat_abs z) (numbers f) ∙ ap (λ (P : Position). new_of P (numbers f)) q,
      let j : 15 ≡ k = cc in sym j ∙ ap none_found (sym (first_seen d (nat_abs z) (numbers f) ∙ ap is_seen q)),
    )

    pub misses : nat_abs z < 9223372036854775808 → Sorted (numbers f) → (k : ℕ) → result_of (do_flip d f z) ≡ refused k
        → (Memᴰ e (numbers f) → ⊥) × (k ≡ none_found (seen_in (nat_abs z) (numbers f)))
    misses h so k c =
        let a = misses_at at k refl (sym (flip_small h so at refl) ∙ c) in
        (λ t. Se.first_missing e (numbers f) a.0 t, a.1)
