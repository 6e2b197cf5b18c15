-- `distinct_keys::root` meets its contract: the first word of the key, and a remainder is below the divisor.
use Rattle.std.proofs.Common.{ℕ, ◌%◌, sym, ap, ◌∙◌, mod-lt}
use Rattle.distinct_keys.proofs.TreeLaws.{root_bytes}
use Rattle.distinct_keys.proofs.root.Goals as goal

pub returns : goal.returns
returns c =
    let a = c.args in
    (ap (λ (w : ℕ). w % a.roots) c.word.ensures ∙ sym (root_bytes a.roots a.at a.list.now), mod-lt _ c.requires.1)
