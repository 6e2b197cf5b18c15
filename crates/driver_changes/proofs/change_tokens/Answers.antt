-- By the laws of a token and then the rest.
use Rattle.std.proofs.Common.{ℕ, ℤ, List, ◌≡◌, ◌+◌, ◌*◌, ◌-◌, ◌<◌, ◌≤◌, length, sym, ◌∙◌, arith, rules}
use Rattle.signed.proofs.SignedLaws.{back64}
use Rattle.balance_tokens.specs.Tokens.{Held}
use Rattle.driver_changes.proofs.TokenLaws.{each_on, each_refused, each_few, each_end}
use Rattle.driver_changes.proofs.change_tokens.Goals as goal

abbrev holding : List ℕ → List ℤ → ℕ → Held
holding table sums count = record { ids = table; amounts = sums; count = count }

pub returns-in-Err : goal.returns-in-Err
returns-in-Err c =
    let a = c.args in
    let l = c.loop-k in
    let n = c.number_at in
    let i = a.i + l.k * 32 in
    let w : i + 32 - i ≡ 32 = omega arith in
    let u : 0 < a.n - l.k = omega arith in
    let m : i + 32 ≤ length a.s.now = omega arith in
    let d = rw c.in-Err.is at c.change_tokens.ensures in
    each_refused a.adding a.s.now i (a.a + l.k * 8) (a.n - l.k) (holding l.table l.sums l.held) _ _ w (back64 n.result n.type_inv ∙ n.ensures) m u _ d ∙ sym l.invariant.3

pub loop-k-preserved : goal.loop-k-preserved
loop-k-preserved c =
    let a = c.args in
    let l = c.loop-k in
    let n = c.number_at in
    let i = a.i + l.k * 32 in
    let o = a.a + l.k * 8 in
    let h = holding l.table l.sums l.held in
    let w : i + 32 - i ≡ 32 = omega arith in
    let u : 0 < a.n - l.k = omega arith in
    let m : i + 32 ≤ length a.s.now = omega arith in
    let z = back64 n.result n.type_inv ∙ n.ensures in
    let d = rw c.in-Ok.is at c.change_tokens.ensures in
    let ids : a.i + (l.k + 1) * 32 ≡ i + 32 = omega arith in
    let amounts : a.a + (l.k + 1) * 8 ≡ o + 8 = omega arith in
    let left : a.n - (l.k + 1) ≡ a.n - l.k - 1 = omega arith in (
      omega arith,
      omega arith,
      each_few a.adding a.s.now i o (a.n - l.k) h _ _ w z m l.invariant.2 _ d,
      rw (ids, amounts, left) (l.invariant.3 ∙ each_on a.adding a.s.now i o (a.n - l.k) h _ _ w z m u _ d),
    )

pub returns : goal.returns
returns c =
    let a = c.args in
    let l = c.loop-k in
    each_end a.adding a.s.now _ _ (a.n - l.k) (holding l.table l.sums l.held) (omega arith) ∙ sym l.invariant.3
