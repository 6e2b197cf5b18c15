-- What is printed is what was listed.
use Rattle.std.proofs.Common.{sym, ap, ◌∙◌}
use Rattle.index_types.specs.Answers.{Wrote}
use Rattle.vlq_core.specs.Writing.{written}
use Rattle.history_growth.specs.Listing.{histories, bytes_of}
use Rattle.short_histories.proofs.ListedLaws.{listed}
use Rattle.history_printer.proofs.main.Goals as goal

pub print_histories-requires : goal.print_histories-requires
print_histories-requires c =
    let out' = c.list_histories.new.out in
    listed (bytes_of histories) _ c.in-Ok.end out' (ap (λ (w : Wrote). written w out') (sym c.in-Ok.is) ∙ c.list_histories.ensures)
