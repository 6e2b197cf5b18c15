-- The public call locates the row, which lies within its list; what is shown there is what inspection shows.
use Rattle.ergo_index_lists.specs.Lists.{named_edition}
use Rattle.ergo_index_inspection.proofs.InspectionLaws.{staged_in, table_in, inspect_staged, inspect_table, inspect_missing, inspect_refused}
use Rattle.ergo_index_inspection.proofs.ergo_index_inspect_spill_in_edition.Goals as goal

pub show_row-requires : goal.show_row-requires
show_row-requires c = let a = c.args in staged_in c.named_edition-edition.result a.staged_count a.staged_capacity a.staged.now a.table_count a.table_capacity a.table.now a.key.now _ c.locate_spill-located.ensures _ c.in-Staged.is

pub show_row-requires-in-Table : goal.show_row-requires-in-Table
show_row-requires-in-Table c = let a = c.args in table_in c.named_edition-edition.result a.staged_count a.staged_capacity a.staged.now a.table_count a.table_capacity a.table.now a.key.now _ c.locate_spill-located.ensures _ c.in-Table.is

pub returns-in-Staged : goal.returns-in-Staged
returns-in-Staged c =
    let a = c.args in
    inspect_staged (named_edition a.second_edition) a.staged_count a.staged_capacity a.staged.now a.table_count a.table_capacity a.table.now a.key.now _ (rw c.named_edition-edition.ensures at c.locate_spill-located.ensures) a.list.now a.offset.now a.length.now _ _ _ c.in-Staged.is (rw c.named_edition-edition.ensures at c.show_row.ensures.0) (rw c.named_edition-edition.ensures at c.show_row.ensures.1)

pub returns-in-Table : goal.returns-in-Table
returns-in-Table c =
    let a = c.args in
    inspect_table (named_edition a.second_edition) a.staged_count a.staged_capacity a.staged.now a.table_count a.table_capacity a.table.now a.key.now _ (rw c.named_edition-edition.ensures at c.locate_spill-located.ensures) a.list.now a.offset.now a.length.now _ _ _ c.in-Table.is (rw c.named_edition-edition.ensures at c.show_row-in-Table.ensures.0) (rw c.named_edition-edition.ensures at c.show_row-in-Table.ensures.1)

pub returns-in-Missing : goal.returns-in-Missing
returns-in-Missing c =
    let a = c.args in
    inspect_missing (named_edition a.second_edition) a.staged_count a.staged_capacity a.staged.now a.table_count a.table_capacity a.table.now a.key.now _ (rw c.named_edition-edition.ensures at c.locate_spill-located.ensures) a.list.now a.offset.now a.length.now c.in-Missing.is

pub returns-in-Refused : goal.returns-in-Refused
returns-in-Refused c =
    let a = c.args in
    inspect_refused (named_edition a.second_edition) a.staged_count a.staged_capacity a.staged.now a.table_count a.table_capacity a.table.now a.key.now _ (rw c.named_edition-edition.ensures at c.locate_spill-located.ensures) a.list.now a.offset.now a.length.now _ c.in-Refused.is
