-- Whole accounts, each without a repeated token id, are totally ordered; two rank equal exactly where they agree.
use mathlib.Core.Path.{◌≡◌, refl, sym, ◌∙◌, ap}
use mathlib.Core.List.{List}
use Prim.Native.Nat.{ℕ}
use native.Mathlib.Omega.{arith}
use lib.IntN.{ℤ}
use Rattle.ledger.specs.Ledger.{Tokens}
use Rattle.index_types.specs.declared.Order.{Order}
use Rattle.index_types.specs.declared.Order.TheVariants.{Less, Equal, Greater}
use Rattle.address_order.specs.Order.{or_else, reversed, of_numbers, of_signed, of_lists, of_ids, of_tokens, ascending, Held, none, some, of_held, Account, of_accounts, SameHeld, SameAccount}
use Rattle.address_order.proofs.Comparisons.{Plain, less≢equal, less≢greater, greater≢equal, numbers_total, signed_total, lists_total, by_both, both_total}
use Rattle.address_order.proofs.TokenOrder.{Apart, ascending_same, same_ascending}

tokens_total : Plain of_tokens
unfolding of_tokens
tokens_total = both_total of_ids of_signed (lists_total of_numbers numbers_total) signed_total

-- a balance as it is compared
pub data Shown : Type 0 where
  nothing : Shown
  shows : ℤ → Tokens → Shown

abbrev show : Held → Shown
show none = nothing
show (some n ts) = shows n (ascending ts)

of_shown : Shown → Shown → Order
of_shown nothing nothing = Equal
of_shown nothing (shows n ts) = Less
of_shown (shows n ts) nothing = Greater
of_shown (shows n ts) (shows m us) = by_both of_signed (of_lists of_tokens) signed_total (lists_total of_tokens tokens_total) (n, ts) (m, us)

abbrev P : Plain (by_both of_signed (of_lists of_tokens) signed_total (lists_total of_tokens tokens_total))
P = both_total of_signed (of_lists of_tokens) signed_total (lists_total of_tokens tokens_total)

shown_total : Plain of_shown
unfolding of_shown
shown_total = record { equal_of = λ x y e. ap (of_shown x) (sym e) ∙ self x; same_of = same; reverses = reverses; follows = follows }
  where
    self : (x : Shown) → of_shown x x ≡ Equal
    self nothing = refl
    self (shows n ts) = P.equal_of (n, ts) (n, ts) refl

    same : (x y : Shown) → of_shown x y ≡ Equal → x ≡ y
    same nothing nothing e = refl
    same nothing (shows n ts) e = absurd (less≢equal e)
    same (shows n ts) nothing e = absurd (greater≢equal e)
    same (shows n ts) (shows m us) e = let q = P.same_of (n, ts) (m, us) e in λ i. shows (q i).0 (q i).1

    reverses : (x y : Shown) → of_shown y x ≡ reversed (of_shown x y)
    reverses nothing nothing = refl
    reverses nothing (shows n ts) = refl
    reverses (shows n ts) nothing = refl
    reverses (shows n ts) (shows m us) = P.reverses (n, ts) (m, us)

    follows : (x y z : Shown) → of_shown x y ≡ Less → of_shown y z ≡ Less → of_shown x z ≡ Less
    follows nothing nothing z p q = absurd (less≢equal (sym p))
    follows nothing (shows n ts) nothing p q = absurd (less≢greater (sym q))
    follows nothing (shows n ts) (shows m us) p q = refl
    follows (shows n ts) nothing z p q = absurd (less≢greater (sym p))
    follows (shows n ts) (shows m us) nothing p q = absurd (less≢greater (sym q))
    follows (shows n ts) (shows m us) (shows k vs) p q = P.follows (n, ts) (m, us) (k, vs) p q

held_shown : (a b : Held) → of_held a b ≡ of_shown (show a) (show b)
unfolding of_held of_shown
held_shown none none = refl
held_shown none (some n ts) = refl
held_shown (some n ts) none = refl
held_shown (some n ts) (some m us) = refl

-- an account as it is compared
abbrev Parts : Type 0
Parts = List ℕ × (Shown × (List ℤ × List ℤ))

abbrev parts : Account → Parts
parts a = (a.hash, (show a.held, (a.boxes, a.txs)))

abbrev L : Plain (of_lists of_signed)
L = lists_total of_signed signed_total

abbrev two : (List ℤ × List ℤ) → (List ℤ × List ℤ) → Order
two = by_both (of_lists of_signed) (of_lists of_signed) L L

abbrev three : (Shown × (List ℤ × List ℤ)) → (Shown × (List ℤ × List ℤ)) → Order
three = by_both of_shown two shown_total (both_total (of_lists of_signed) (of_lists of_signed) L L)

abbrev four : Parts → Parts → Order
four = by_both (of_lists of_numbers) three (lists_total of_numbers numbers_total) (both_total of_shown two shown_total (both_total (of_lists of_signed) (of_lists of_signed) L L))

four_total : Plain four
four_total = both_total (of_lists of_numbers) three (lists_total of_numbers numbers_total) (both_total of_shown two shown_total (both_total (of_lists of_signed) (of_lists of_signed) L L))

by_parts : (a b : Account) → of_accounts a b ≡ four (parts a) (parts b)
unfolding of_accounts
by_parts a b = ap (λ o. or_else (of_lists of_numbers a.hash b.hash) (or_else o (or_else (of_lists of_signed a.boxes b.boxes) (of_lists of_signed a.txs b.txs)))) (held_shown a.held b.held)

-- no token id stands twice
abbrev pub Once : Held → Type 0
Once none = Unit {0}
Once (some n ts) = Apart ts

show_same : (a b : Held) → Once a → Once b → SameHeld a b → show a ≡ show b
show_same none none A B h = refl
show_same none (some n ts) A B h = absurd h
show_same (some n ts) none A B h = absurd h
show_same (some n ts) (some m us) A B h = λ i. shows (h.0 i) (ascending_same ts us A B h.1 i)

same_show : (a b : Held) → show a ≡ show b → SameHeld a b
same_show none none e = tt
same_show none (some n ts) e = absurd (let z : ◌≡◌ {A = ℕ} 0 1 = cc in omega arith)
same_show (some n ts) none e = absurd (let z : ◌≡◌ {A = ℕ} 0 1 = cc in omega arith)
same_show (some n ts) (some m us) e = let p : n ≡ m = cc in let q : ascending ts ≡ ascending us = cc in (p, same_ascending ts us q)

-- "It is a total order. Two addresses rank equal exactly when all these agree"
pub account_reverses : (a b : Account) → of_accounts b a ≡ reversed (of_accounts a b)
account_reverses a b = by_parts b a ∙ four_total.reverses (parts a) (parts b) ∙ ap reversed (sym (by_parts a b))

pub account_follows : (a b c : Account) → of_accounts a b ≡ Less → of_accounts b c ≡ Less → of_accounts a c ≡ Less
account_follows a b c p q = by_parts a c ∙ four_total.follows (parts a) (parts b) (parts c) (sym (by_parts a b) ∙ p) (sym (by_parts b c) ∙ q)

pub equal_same : (a b : Account) → of_accounts a b ≡ Equal → SameAccount a b
equal_same a b e =
    let q = four_total.same_of (parts a) (parts b) (sym (by_parts a b) ∙ e) in
    record { hash = λ i. (q i).0; held = same_show a.held b.held (λ i. (q i).1.0); boxes = λ i. (q i).1.1.0; txs = λ i. (q i).1.1.1 }

pub same_equal : (a b : Account) → Once a.held → Once b.held → SameAccount a b → of_accounts a b ≡ Equal
same_equal a b A B S =
    let z = show_same a.held b.held A B S.held in
    by_parts a b ∙ four_total.equal_of (parts a) (parts b) (λ i. (S.hash i, (z i, (S.boxes i, S.txs i))))
