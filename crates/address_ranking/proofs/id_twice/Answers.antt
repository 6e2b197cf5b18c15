-- Without a balance no id stands twice; with one, the ids are a key list.
use borrow.Author.Rules.{rules}
use borrow.Author.Tests.{not-true, not-false}
use Rattle.address_ranking.proofs.CheckLaws.{twice_none, twice_of}
use Rattle.address_ranking.proofs.id_twice.Goals as goal

pub returns-then-not-counts : goal.returns-then-not-counts
returns-then-not-counts c = λ p. twice_none _ _ (not-true _ c.if-not-counts.true)

pub returns : goal.returns
returns c = λ p.
    twice_of c.args.counts c.args.ids.now (not-false _ c.if-not-counts.false) p (search rules) _ c.keys_ok-apart.ensures
