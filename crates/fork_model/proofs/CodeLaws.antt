-- 25 never arises: no operation of the store of tables refuses with it where the rows can be read, and no operation of the balances does.
use mathlib.Core.Path.{◌≡◌, refl, subst}
use mathlib.Core.Bool.{Bool, true, false}
use mathlib.Core.List.{List, [], ◌∷◌, ◌++◌}
use Prim.Native.Nat.{ℕ, zero, suc, ◌+◌, ◌≤◌, ◌<◌}
use native.Mathlib.Decide.{ℕ_discrete, dec_le, dec_lt}
use native.Mathlib.Omega.{arith}
use lib.IntN.{ℤ, pos, negsuc, nat_abs, ◌+ℤ◌, ◌-ℤ◌}
use lib.Signed.{mag}
use lib.ListN.{length}
use Rattle.ledger.specs.Ledger.{Parent, Series, boxes, ite, Tokens, TokenId, amount_in}
use Rattle.ledger.specs.Run.{Res, done, refused}
use Rattle.fork_model.proofs.Table.{Found, missing, found}
use Rattle.fork_model.proofs.Table as Tb
use Rattle.fork_model.proofs.Store.{then_do, flip_first, ordered, seen_in, or_bool, when_b, Hit, on_hit, none_found, first_abs, last_abs, half_way, halve, walk, both}
use Rattle.fork_model.proofs.Store as St
use Rattle.fork_model.proofs.GoodStore.{ite_both, FullRow, Coded}
use Rattle.fork_model.proofs.GoodStore as Gs
use Rattle.fork_model.proofs.Search.{halve_le}
use Rattle.fork_model.proofs.Balances as Ba

-- a result that is not a refusal with 25
abbrev pub Not25 : {A : Type 0} → Res A → Type 0
Not25 (done a) = Unit {0}
Not25 (refused k) = k ≡ 25 → ⊥

pub never : {A : Type 0} (X : Res A) → Not25 X → X ≡ refused 25 → ⊥
never X n e = subst Not25 e n refl

and_then_not : {A B : Type 0} (X : Res A) (f : A → Res B) → Not25 X → ((a : A) → X ≡ done a → Not25 (f a)) → Not25 (then_do X f)
and_then_not (done a) f n g = g a refl
and_then_not (refused k) f n g = n

when_not : {A : Type 0} (b : Bool) (X Y : Res A) → Not25 X → Not25 Y → Not25 (when_b b X Y)
when_not true X Y p q = p
when_not false X Y p q = q

-- ---- the search, over a reader of n rows
module _ (rd : ℕ → Res (List ℤ)) (n : ℕ) (reads : (s : ℕ) → s < n → Not25 (rd s)) where
  halve_step : (m lo hi : ℕ) (p q : Res ℕ) → hi ≤ n → (lo < hi → Not25 p) → (lo < hi → Not25 q) → (w : Dec (lo < hi))
      → Not25 (ite w (then_do (rd (half_way lo hi)) (λ l. ite (dec_le (first_abs l) m) p q)) (done lo))
  unfolding ite
  halve_step m lo hi p q k f g (yes w) =
      and_then_not (rd (half_way lo hi)) (λ l. ite (dec_le (first_abs l) m) p q) (reads (half_way lo hi) (omega arith)) (λ l e. ite_both Not25 (dec_le (first_abs l) m) p q (f w) (g w))
  halve_step m lo hi p q k f g (no w) = tt

  halve_not : (m f lo hi : ℕ) → lo ≤ hi → hi ≤ n → Not25 (halve rd m f lo hi)
  unfolding halve
  halve_not m zero lo hi h k = tt
  halve_not m (suc f) lo hi h k =
      halve_step m lo hi (halve rd m f (suc (half_way lo hi)) hi) (halve rd m f lo (half_way lo hi)) k (λ w. halve_not m f (suc (half_way lo hi)) hi (omega arith) k)
      (λ w. halve_not m f lo (half_way lo hi) (omega arith) (omega arith)) (dec_lt lo hi)

  not_found : (b : Bool) → none_found b ≡ 25 → ⊥
  not_found true e = omega arith
  not_found false e = omega arith

  hit_not : (s : ℕ) (F : Found (List ℤ)) (X : Res Hit) → Not25 X → Not25 (on_hit s F X)
  hit_not s missing X p = p
  hit_not s (found l) X p = tt

  walk_not : (r : ℕ) (e : ℤ) (s : ℕ) (seen : Bool) → s ≤ n → Not25 (walk r rd e s seen)
  unfolding walk
  walk_not r e zero seen h = not_found seen
  walk_not r e (suc s) seen h =
      and_then_not (rd s) (λ l. ite (dec_lt (last_abs r l) (nat_abs e)) (refused (none_found seen))
      (on_hit s (flip_first e l) (ite (dec_lt (first_abs l) (nat_abs e)) (refused (none_found (or_bool (seen_in (nat_abs e) l) seen))) (walk r rd e s (or_bool (seen_in (nat_abs e) l) seen))))) (reads s (omega arith))
      (λ l q. ite_both Not25 (dec_lt (last_abs r l) (nat_abs e)) (refused (none_found seen)) _ (not_found seen)
      (hit_not s (flip_first e l) (ite (dec_lt (first_abs l) (nat_abs e)) (refused (none_found (or_bool (seen_in (nat_abs e) l) seen))) (walk r rd e s (or_bool (seen_in (nat_abs e) l) seen)))
      (ite_both Not25 (dec_lt (first_abs l) (nat_abs e)) (refused (none_found (or_bool (seen_in (nat_abs e) l) seen))) (walk r rd e s (or_bool (seen_in (nat_abs e) l) seen)) (not_found (or_bool (seen_in (nat_abs e) l) seen))
      (walk_not r e s (or_bool (seen_in (nat_abs e) l) seen) (omega arith)))))

-- ---- the store of tables
module _ (E : St.Env) (code : Coded E) (U : Series → ℕ → Type 0) (σ : St.Store E) (G : Gs.Good E code U σ) where
  open E use {r, lim, Key, key_dec, key, Row, enc, table_cap, staged_cap, max_count}

  stage_not : (k : Key) (l : Row) → Not25 (St.stage E σ k l)
  stage_not k l = ite_both Not25 (both (dec_le staged_cap (length σ.staging)) (Tb.lacks_dec Row Key key_dec (Tb.lookup Row Key key_dec σ.staging k))) (refused 16) (done (Tb.put Row Key key_dec σ.staging k l)) (λ e. omega arith) tt

  pub append_not : (ch : Series) (n : ℤ) → Not25 (St.append_store E σ ch n)
  append_not ch (negsuc k) = λ e. omega arith
  append_not ch (pos m) =
      let spill = then_do (St.stage E σ (key ch (σ.counts ch)) (enc ch (σ.counts ch) (σ.heads ch))) (λ t. done (St.spilled E σ ch (pos m) t)) in
      ite_both Not25 (dec_le (length (σ.heads ch)) r) (done (St.with_head E σ ch (σ.heads ch ++ (pos m ∷ [])))) _ tt
      (ite_both Not25 (ℕ_discrete (σ.counts ch) max_count) (refused 18) spill (λ e. omega arith)
      (and_then_not (St.stage E σ (key ch (σ.counts ch)) (enc ch (σ.counts ch) (σ.heads ch))) (λ t. done (St.spilled E σ ch (pos m) t)) (stage_not (key ch (σ.counts ch)) (enc ch (σ.counts ch) (σ.heads ch))) (λ t e. tt)))

  check_not : (F : Res (List ℤ)) → FullRow lim r F → Not25 (St.checked_store_row E F)
  check_not (refused k) f = let z = f.1 in absurd (let y : ◌≡◌ {A = ℕ} 0 1 = cc in omega arith)
  check_not (done l) f = ite_both Not25 (ℕ_discrete (length l) (suc r)) (when_b (ordered 0 l) (done l) (refused 13)) (refused 13) (when_not (ordered 0 l) (done l) (refused 13) tt (λ e. omega arith)) (λ e. omega arith)

  reads : (ch : Series) (s : ℕ) → s < σ.counts ch → Not25 (St.read_row E σ ch s)
  reads ch s h = check_not (St.store_row E σ ch s) (G.full ch s h)

  rows_not : (ch : Series) (e : ℤ) → Not25 (St.flip_rows E σ ch e)
  rows_not ch e =
      let end : Hit → Res (St.Store E) = λ h. then_do (St.stage E σ (key ch h.at) (St.redone E σ ch h.at h.new)) (λ t. done (St.with_staging E σ t)) in
      let seen = seen_in (nat_abs e) (σ.heads ch) in
      and_then_not (halve (St.read_row E σ ch) (nat_abs e) (σ.counts ch) 0 (σ.counts ch)) (λ lo. then_do (walk r (St.read_row E σ ch) e lo seen) end)
      (halve_not (St.read_row E σ ch) (σ.counts ch) (reads ch) (nat_abs e) (σ.counts ch) 0 (σ.counts ch) (omega arith) (omega arith))
      (λ lo q. and_then_not (walk r (St.read_row E σ ch) e lo seen) end
      (walk_not (St.read_row E σ ch) (σ.counts ch) (reads ch) r e lo seen (halve_le (St.read_row E σ ch) (nat_abs e) (σ.counts ch) 0 (σ.counts ch) lo (omega arith) q))
      (λ h z. and_then_not (St.stage E σ (key ch h.at) (St.redone E σ ch h.at h.new)) (λ t. done (St.with_staging E σ t)) (stage_not (key ch h.at) (St.redone E σ ch h.at h.new)) (λ t y. tt)))

  head_not : (ch : Series) (e : ℤ) (F : Found (List ℤ)) → Not25 (St.head_flipped E σ ch e F)
  head_not ch e missing = rows_not ch e
  head_not ch e (found l) = tt

  flip_not : (ch : Series) (e : ℤ) → Not25 (St.flip_store E σ ch e)
  flip_not ch e = when_not (ordered 0 (σ.heads ch)) (St.head_flipped E σ ch e (flip_first e (σ.heads ch))) (refused 10) (head_not ch e (flip_first e (σ.heads ch))) (λ q. omega arith)

  pub spend_not : (p : Parent) (t : ℤ) → Not25 (St.spend_store E σ p t)
  spend_not p t = ite_both Not25 (dec_le lim (nat_abs t)) (refused 9) (St.flip_store E σ (boxes p) (pos (nat_abs t))) (λ e. omega arith) (flip_not (boxes p) (pos (nat_abs t)))

  pub flush_not : Not25 (St.flush_store E σ)
  flush_not = ite_both Not25 (dec_lt table_cap (length σ.table + Tb.fresh Row Key key_dec σ.staging σ.deletion σ.table)) (refused 22) (done (St.flushed E σ)) (λ e. omega arith) tt

-- ---- balances as lists of tokens
module _ (lim cap : ℕ) where
  add_tok_not : (l : Tokens) (t : TokenId) (a : ℤ) → Not25 (Ba.token_added lim cap l t a)
  add_tok_not l t a =
      ite_both Not25 (dec_lt (mag (amount_in l t +ℤ a)) lim) _ (refused 23)
      (ite_both Not25 (Ba.has_dec l t) (done (Ba.set_token l t (amount_in l t +ℤ a))) _ tt (ite_both Not25 (dec_lt (length l) cap) (done (l ++ ((t, a) ∷ []))) (refused 24) tt (λ e. omega arith)))
      (λ e. omega arith)

  add_toks_not : (ts l : Tokens) → Not25 (Ba.add_tokens lim cap l ts)
  unfolding Ba.add_tokens
  add_toks_not [] l = tt
  add_toks_not (x ∷ ts) l = and_then_not (Ba.token_added lim cap l x.0 x.1) (λ k. Ba.add_tokens lim cap k ts) (add_tok_not l x.0 x.1) (λ k e. add_toks_not ts k)

  sub_tok_not : (l : Tokens) (t : TokenId) (a : ℤ) → Not25 (Ba.token_taken lim cap l t a)
  sub_tok_not l t a =
      ite_both Not25 (Ba.has_dec l t) _ (done l)
      (ite_both Not25 (dec_lt (mag (amount_in l t -ℤ a)) lim) (done (Ba.shrink l t (amount_in l t -ℤ a))) (refused 23) tt (λ e. omega arith)) tt

  sub_toks_not : (ts l : Tokens) → Not25 (Ba.subtract_tokens lim cap l ts)
  unfolding Ba.subtract_tokens
  sub_toks_not [] l = tt
  sub_toks_not (x ∷ ts) l = and_then_not (Ba.token_taken lim cap l x.0 x.1) (λ k. Ba.subtract_tokens lim cap k ts) (sub_tok_not l x.0 x.1) (λ k e. sub_toks_not ts k)

  pub add_not : (b : Ba.Bal) (n : ℤ) (ts : Tokens) → Not25 (Ba.add lim cap b n ts)
  add_not b n ts =
      let end : Tokens → Res Ba.Bal = λ l. done (record { nanos = b.nanos +ℤ n; toks = l }) in
      ite_both Not25 (dec_lt (mag (b.nanos +ℤ n)) lim) (then_do (Ba.add_tokens lim cap b.toks ts) end) (refused 23)
      (and_then_not (Ba.add_tokens lim cap b.toks ts) end (add_toks_not ts b.toks) (λ l e. tt)) (λ e. omega arith)

  pub sub_not : (b : Ba.Bal) (n : ℤ) (ts : Tokens) → Not25 (Ba.sub lim cap b n ts)
  sub_not b n ts =
      let end : Tokens → Res Ba.Bal = λ l. done (record { nanos = Ba.stop0 (b.nanos -ℤ n); toks = l }) in
      ite_both Not25 (dec_lt (mag (b.nanos -ℤ n)) lim) (then_do (Ba.subtract_tokens lim cap b.toks ts) end) (refused 23)
      (and_then_not (Ba.subtract_tokens lim cap b.toks ts) end (sub_toks_not ts b.toks) (λ l e. tt)) (λ e. omega arith)
