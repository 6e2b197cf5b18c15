-- One law for each way out of a rank.
use mathlib.Core.Path.{◌≡◌, refl, sym, ◌∙◌}
use mathlib.Core.Bool.{Bool, true, false, not, ◌&&◌, ◌||◌}
use lib.Dec.{leb}
use Rattle.index_types.specs.Limits.{token_limit}
use Rattle.records.proofs.CheckLaws.{and_left, and_right}
use Rattle.spill_rows.proofs.CheckedLaws.{nope}
use Rattle.std.specs.Prelude.{Err}
use Rattle.index_types.specs.Answers.{Ranked}
use Rattle.address_ranking.specs.Rank.{Address, passes, id_twice, read_and_rank, rank_of}
use Rattle.content_order.specs.Internal.{Passed}
use Rattle.content_order.proofs.PassedLaws.{tokens_pass}

neither : (s t : Bool) → s || t ≡ false → (s ≡ false) × (t ≡ false)
neither false false e = (refl, refl)
neither false true e = nope (cc)
neither true t e = nope (cc)

-- 41, told of an address that passes 25
abbrev Tells : Address → Bool → Type 0
Tells a s = not a.counts.held || leb a.counts.tokens token_limit ≡ true → s ≡ id_twice a.counts a.ids

module _ (a b : Address) (p q : Bool) (e : p ≡ passes a) (f : q ≡ passes b) where
  pub rank_25 : p && q ≡ false → Err 25 ≡ rank_of a b
  unfolding rank_of
  rank_25 h = rw (sym e, sym f, h)

  module _ (h : p && q ≡ true) (s t : Bool) (g : Tells a s) (k : Tells b t) where
    first_passes : passes a ≡ true
    first_passes = sym e ∙ and_left p q h

    second_passes : passes b ≡ true
    second_passes = sym f ∙ and_right p q h

    first_told : s ≡ id_twice a.counts a.ids
    first_told = g (tokens_pass a first_passes)

    second_told : t ≡ id_twice b.counts b.ids
    second_told = k (tokens_pass b second_passes)

    pub rank_41 : s || t ≡ true → Err 41 ≡ rank_of a b
    unfolding rank_of
    rank_41 l = rw (first_passes, second_passes, sym first_told, sym second_told, l)

    pub both_passed : s || t ≡ false → Passed a × Passed b
    both_passed l =
        let n = neither s t l in
        (record { buffers = first_passes; once = sym first_told ∙ n.0 }, record { buffers = second_passes; once = sym second_told ∙ n.1 })

    pub rank_on : s || t ≡ false → (r : Ranked) → r ≡ read_and_rank a b → r ≡ rank_of a b
    unfolding rank_of
    rank_on l r m = rw (first_passes, second_passes, sym first_told, sym second_told, l) m
