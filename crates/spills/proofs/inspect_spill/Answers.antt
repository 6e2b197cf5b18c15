-- What was located lies within its list, and its code and row are those of the inspection.
use Rattle.std.proofs.Common.{◌∙◌, refl}
use Rattle.buffer_core.specs.Edition.{record_size, row_limit_of}
use Rattle.spill_places.proofs.LocateLaws.{any_within, code_located, inspect_located}
use Rattle.spills.proofs.inspect_spill.Goals as goal

pub located_part-row-requires : goal.located_part-row-requires
located_part-row-requires c =
    let a = c.args in
    any_within (record_size a.edition) (row_limit_of a.edition) a.staged_counts a.staged.now a.table_counts a.table.now a.key.now _ c.locate_alike-located.ensures

pub returns : goal.returns
returns c =
    let a = c.args in
    let e = c.locate_alike-located.ensures in
    let size = record_size a.edition in
    let limit = row_limit_of a.edition in (
      c.located_code-code.ensures ∙ code_located size limit a.staged_counts a.staged.now a.table_counts a.table.now a.key.now _ e,
      c.located_part-row.ensures ∙ inspect_located size limit a.staged_counts a.staged.now a.table_counts a.table.now a.key.now _ _ e refl,
    )
