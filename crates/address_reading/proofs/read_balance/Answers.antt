-- `address_reading::read_balance` meets its contract: nanoErgs, the count, the tokens; one law for each way out.
use mathlib.Core.Path.{◌≡◌, sym, ◌∙◌}
use mir.Syntax.{w64}
use mir.Facts.{to_z-of_z}
use native.Mathlib.Omega.{arith}
use borrow.Author.Rules.{rules}
use Rattle.std.specs.Prelude.{Err}
use Rattle.address_core.proofs.CountLaws.{count_most}
use Rattle.address_core.proofs.LoadLaws.{nanos_bad, number_bad, tokens_refused, tokens_listed}
use Rattle.address_reading.proofs.read_balance.Goals as goal

pub returns-in_err-nanos : goal.returns-in_err-nanos
returns-in_err-nanos c =
    let a = c.args in
    let e : c.from_residual.result ≡ Err c.in_err-nanos.field-0.0 = search rules in
    rw e (nanos_bad a.row.now a.at a.ids.now a.amounts.now _ _ _ (sym c.get_i64.ensures ∙ c.in_err-nanos.was))

pub returns-in_err-k : goal.returns-in_err-k
returns-in_err-k c =
    let a = c.args in
    let e : c.from_residual-in_err-k.result ≡ Err c.in_err-k.field-0.0 = search rules in
    rw e
    (number_bad a.row.now a.at a.ids.now a.amounts.now _ _ _ _ (sym c.get_i64.ensures ∙ c.in_ok-nanos.was) _ c.read_count.ensures _ c.in_err-k.was)

pub read_tokens-requires : goal.read_tokens-requires
read_tokens-requires c =
    let few = count_most _ _ _ _ (sym c.read_count.ensures ∙ c.in_ok-k.was) in
    (omega (arith, few, c.requires.0), omega (arith, few, c.requires.1))

pub returns-in_err-count : goal.returns-in_err-count
returns-in_err-count c =
    let e : c.from_residual-in_err-count.result ≡ Err c.in_err-count.field-0.0 = search rules in
    rw e
    (tokens_refused _ _ _ _ _ _ _ _ (sym c.get_i64.ensures ∙ c.in_ok-nanos.was) _ c.read_count.ensures _ _ c.in_ok-k.was _ c.read_tokens.ensures _ c.in_err-count.was)

pub returns : goal.returns
returns c =
    tokens_listed _ _ _ _ _ _ _ _ (sym c.get_i64.ensures ∙ c.in_ok-nanos.was) _ c.read_count.ensures _ _ c.in_ok-k.was _ c.read_tokens.ensures _
    (to_z-of_z {w = w64} (search rules)) _ _ c.in_ok-count.was
