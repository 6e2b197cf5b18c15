-- A balance as document 01 has it: nanoErgs and tokens in order, credit and debit.
use Rattle.ledger.specs.Ledger.{amount_in}
use mathlib.Core.Path.{◌≡◌}
use mathlib.Core.Logic.{◌⊎◌, inl, inr, ⊎_elim}
use mathlib.Core.List.{[], ◌∷◌, ◌++◌}
use Prim.Native.Nat.{ℕ, zero, suc}
use native.Mathlib.Decide.{dec_lt}
use lib.IntN.{ℤ, pos, negsuc, ◌+ℤ◌, ◌-ℤ◌}
use lib.Signed.{mag}
use lib.ListN.{length}
use Rattle.ledger.specs.Ledger.{TokenId, id_dec, Tokens, ite}
use Rattle.ledger.specs.Run.{Res, done, refused}
use Rattle.fork_model.proofs.Store.{then_do}

abbrev pub Has : Tokens → TokenId → Type 0
Has [] t = ⊥
Has (x ∷ l) t = (x.0 ≡ t) ⊎ Has l t

or_dec : {A B : Type 0} → Dec A → Dec B → Dec (A ⊎ B)
or_dec (yes a) b = yes (inl a)
or_dec (no a) (yes b) = yes (inr b)
or_dec (no a) (no b) = no (λ s. ⊎_elim a b s)

pub has_dec : (l : Tokens) (t : TokenId) → Dec (Has l t)
has_dec [] t = no (λ h. h)
has_dec (x ∷ l) t = or_dec (id_dec x.0 t) (has_dec l t)

abbrev pub set_token : Tokens → TokenId → ℤ → Tokens
set_token [] t v = []
set_token (x ∷ l) t v = ite (id_dec x.0 t) ((t, v) ∷ l) (x ∷ set_token l t v)

abbrev pub drop_token : Tokens → TokenId → Tokens
drop_token [] t = []
drop_token (x ∷ l) t = ite (id_dec x.0 t) l (x ∷ drop_token l t)

abbrev pub shrink : Tokens → TokenId → ℤ → Tokens
shrink l t (pos zero) = drop_token l t
shrink l t (pos (suc v)) = set_token l t (pos (suc v))
shrink l t (negsuc v) = drop_token l t

abbrev pub stop0 : ℤ → ℤ
stop0 (pos n) = pos n
stop0 (negsuc n) = pos 0

pub record Bal : Type 0 where
  pub nanos : ℤ
  pub toks : Tokens

abbrev pub no_balance : Bal
no_balance = record { nanos = pos 0; toks = [] }

abbrev pub nano_of : Bal → ℤ
nano_of b = b.nanos

abbrev pub amount_of : Bal → TokenId → ℤ
amount_of b t = amount_in b.toks t

module _ (lim cap : ℕ) where
  abbrev pub token_added : Tokens → TokenId → ℤ → Res Tokens
  token_added l t a =
      ite (dec_lt (mag (amount_in l t +ℤ a)) lim)
      (ite (has_dec l t) (done (set_token l t (amount_in l t +ℤ a))) (ite (dec_lt (length l) cap) (done (l ++ ((t, a) ∷ []))) (refused 24)))
      (refused 23)

  unfoldable pub add_tokens : Tokens → Tokens → Res Tokens
  add_tokens l [] = done l
  add_tokens l (x ∷ ts) = then_do (token_added l x.0 x.1) (λ k. add_tokens k ts)

  abbrev pub token_taken : Tokens → TokenId → ℤ → Res Tokens
  token_taken l t a =
      ite (has_dec l t) (ite (dec_lt (mag (amount_in l t -ℤ a)) lim) (done (shrink l t (amount_in l t -ℤ a))) (refused 23)) (done l)

  unfoldable pub subtract_tokens : Tokens → Tokens → Res Tokens
  subtract_tokens l [] = done l
  subtract_tokens l (x ∷ ts) = then_do (token_taken l x.0 x.1) (λ k. subtract_tokens k ts)

  abbrev pub add : Bal → ℤ → Tokens → Res Bal
  add b n ts = ite (dec_lt (mag (b.nanos +ℤ n)) lim) (then_do (add_tokens b.toks ts) (λ l. done (record { nanos = b.nanos +ℤ n; toks = l }))) (refused 23)

  abbrev pub sub : Bal → ℤ → Tokens → Res Bal
  sub b n ts = ite (dec_lt (mag (b.nanos -ℤ n)) lim) (then_do (subtract_tokens b.toks ts) (λ l. done (record { nanos = stop0 (b.nanos -ℤ n); toks = l }))) (refused 23)
