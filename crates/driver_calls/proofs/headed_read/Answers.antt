-- Each way out is a case of the definition, of what was read.
use mathlib.Core.Path.{sym, ◌∙◌}
use native.Mathlib.Omega.{arith}
use borrow.Author.Tests.{le-leb, lt-leb, lt-ltb, le-ltb, eq-eqb, ne_eqb}
use Rattle.signed.proofs.SignedLaws.{back64}
use Rattle.driver_core.specs.Bytes.{kind_at, parent_at, tokens_told}
use Rattle.driver_calls.specs.Reads.{plain_read, headed_read}
use Rattle.driver_calls.proofs.ReadLaws.{change_same}
use Rattle.driver_calls.proofs.headed_read.Goals as goal

pub returns-then-told-eq0 : goal.returns-then-told-eq0
unfolding headed_read
returns-then-told-eq0 c =
    let q = c.small_at-told.ensures.0 in
    simp (eq-eqb _ _ c.if-kind-eq7.true, eq-eqb _ _ (sym q ∙ c.if-told-eq0.true))

pub returns-then-kind-eq7 : goal.returns-then-kind-eq7
unfolding headed_read
returns-then-kind-eq7 c =
    let q = c.small_at-told.ensures.0 in
    simp (eq-eqb _ _ c.if-kind-eq7.true, ne_eqb _ _ (λ e. c.if-told-eq0.false (q ∙ e)))

pub returns-then-parents-parent : goal.returns-then-parents-parent
unfolding headed_read
returns-then-parents-parent c =
    let a = c.args in
    let p = c.small_at-parent.ensures.0 in
    simp (ne_eqb _ _ c.if-kind-eq7.false, le-leb a.parents (parent_at a.s.now a.h) (omega (arith, p, c.if-parents-parent.true)))

pub returns-then-room-told : goal.returns-then-room-told
unfolding headed_read
returns-then-room-told c =
    let a = c.args in
    let told = c.small_at-told.ensures.0 in
    let p = c.small_at-parent.ensures.0 in
    let n = c.number_at-n in
    let z = back64 n.result n.type_inv ∙ n.ensures in
    let k7 = ne_eqb _ _ c.if-kind-eq7.false in
    let few = lt-leb a.parents (parent_at a.s.now a.h) (omega (arith, p, c.if-parents-parent.false)) in
    simp (k7, few, sym c.is_change.ensures ∙ c.if-is_change.true, lt-ltb a.room (tokens_told a.s.now a.h) (omega (arith, told, c.if-room-told.true)))

pub returns-then-is_change : goal.returns-then-is_change
unfolding headed_read
returns-then-is_change c =
    let a = c.args in
    let told = c.small_at-told.ensures.0 in
    let p = c.small_at-parent.ensures.0 in
    let n = c.number_at-n in
    let z = back64 n.result n.type_inv ∙ n.ensures in
    let k7 = ne_eqb _ _ c.if-kind-eq7.false in
    let few = lt-leb a.parents (parent_at a.s.now a.h) (omega (arith, p, c.if-parents-parent.false)) in
    change_same _ _ _ p z told
    ∙ simp (k7, few, sym c.is_change.ensures ∙ c.if-is_change.true, le-ltb a.room (tokens_told a.s.now a.h) (omega (arith, told, c.if-room-told.false)))

pub returns-then-told-eq0-2 : goal.returns-then-told-eq0-2
unfolding headed_read
returns-then-told-eq0-2 c =
    let a = c.args in
    let told = c.small_at-told.ensures.0 in
    let p = c.small_at-parent.ensures.0 in
    let n = c.number_at-n in
    let z = back64 n.result n.type_inv ∙ n.ensures in
    let k7 = ne_eqb _ _ c.if-kind-eq7.false in
    let few = lt-leb a.parents (parent_at a.s.now a.h) (omega (arith, p, c.if-parents-parent.false)) in
    c.plain_read.ensures ∙ (λ i. plain_read (kind_at a.s.now a.h) (p i) (z i))
    ∙ simp (k7, few, sym c.is_change.ensures ∙ c.if-is_change.false, eq-eqb _ _ (sym told ∙ c.if-told-eq0-2.true))

pub returns : goal.returns
unfolding headed_read
returns c =
    let a = c.args in
    let told = c.small_at-told.ensures.0 in
    let p = c.small_at-parent.ensures.0 in
    let n = c.number_at-n in
    let z = back64 n.result n.type_inv ∙ n.ensures in
    let k7 = ne_eqb _ _ c.if-kind-eq7.false in
    let few = lt-leb a.parents (parent_at a.s.now a.h) (omega (arith, p, c.if-parents-parent.false)) in
    simp (k7, few, sym c.is_change.ensures ∙ c.if-is_change.false, ne_eqb _ _ (λ e. c.if-told-eq0-2.false (told ∙ e)))
