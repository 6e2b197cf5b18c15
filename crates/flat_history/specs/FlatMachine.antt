-- The flat list of one parent as a machine (document 02, U9): "a second engine for one parent with a single list of at most 4,096 box numbers, a plain scan and no
-- staging". Its operations are the definitions that the contracts of `flat_list` cite, run on a list and its count.
use Rattle.std.specs.Prelude.{Bool, true, false, List, [], ℕ, ℤ, take, Ok, Err}
use Rattle.index_types.specs.Limits.{segment_threshold}
use Rattle.index_types.specs.Answers.{FlatChanged}
use Rattle.index_types.specs.Answers.{FlatPopped}
use Rattle.flat_list.specs.Flat.{flat_append, flat_flip, flat_pop}
use Rattle.balance.specs.declared.Balance.{Balance}
use Rattle.balance_laws.specs.Calls.{credited, debited, tokens_in}
use Rattle.ledger.specs.Ledger.{Parent, boxes, series_dec, parent_dec, ite, amount_in}
use Rattle.ledger.specs.Run.{Made, accepted, refused_leaving, Popped, Machine}
use Rattle.history.specs.ForkUndo.{Places, empty_balance}

-- the borrowed places, and how many of them hold a number
pub record FlatList : Type 0 where
  pub count : ℕ
  pub places : List ℤ

abbrev pub flat_list : ℕ → List ℤ → FlatList
flat_list n l = record { count = n; places = l }

abbrev pub numbers : FlatList → List ℤ
numbers f = take f.count f.places

-- ---- the list after each call: the count that an accepted call answers (a refused one answers none, so it stays), and the places that the definition leaves
abbrev pub after_change : FlatList → FlatChanged → List ℤ → Made FlatList FlatList
after_change f (Ok n) l = accepted (flat_list n l)
after_change f (Err code) l = refused_leaving code (flat_list f.count l)

abbrev pub after_pop : FlatList → FlatPopped → List ℤ → Made FlatList (Popped FlatList)
after_pop f (Ok (z, n)) l = accepted (record { left = flat_list n l; value = z.0 })
after_pop f (Err code) l = refused_leaving code (flat_list f.count l)

abbrev pub do_append : FlatList → ℤ → Made FlatList FlatList
do_append f z = let o = flat_append f.count z f.places in after_change f o.answer o.list

abbrev pub do_flip : (spend : Bool) → FlatList → ℤ → Made FlatList FlatList
do_flip d f z = let o = flat_flip d f.count z f.places in after_change f o.answer o.list

abbrev pub do_pop : FlatList → Made FlatList (Popped FlatList)
do_pop f = let o = flat_pop f.count f.places in after_pop f o.answer o.list

-- the flat list of parent p. "the flushes passed over by the flat engine". Calls of other lists, of which the theorem's lists have none, are refused with the runner's
-- number for an unknown parent; balances and sizes are those of the index's machine
module _ (p : Parent) (places : List ℤ) (s : Parent → Places) where
  abbrev pub flat_machine : Machine
  flat_machine = record {
    Store = FlatList;
    empty = flat_list 0 places;
    append_store = λ f ch z. ite (series_dec (boxes p) ch) (do_append f z) (refused_leaving 31 f);
    pop_store = λ f ch. ite (series_dec (boxes p) ch) (do_pop f) (refused_leaving 31 f);
    spend_store = λ f q z. ite (parent_dec p q) (do_flip true f z) (refused_leaving 31 f);
    unspend_store = λ f q z. ite (parent_dec p q) (do_flip false f z) (refused_leaving 31 f);
    flush_store = λ f. accepted f;
    entries = λ f ch. ite (series_dec (boxes p) ch) (numbers f) [];
    -- "no staging"
    StagingFull = λ f. ⊥;
    DeletionFull = λ f. ⊥;
    Bal = Balance;
    no_balance = λ q. empty_balance (s q);
    add = credited;
    sub = debited;
    nano_of = λ b. b.nanos;
    amount_of = λ b t. amount_in (tokens_in b) t;
    row_size = segment_threshold;
    limit = 9223372036854775808;
    -- "without rows or keys in the way"
    Key = List ℕ;
    key = λ ch n. [];
  }
