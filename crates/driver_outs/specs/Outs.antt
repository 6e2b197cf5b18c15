-- What a driver's batch makes of the outs of its export: it sets them, and where the state or the journal was refused it leaves them.
use Rattle.std.specs.Prelude.{ℕ}
use Rattle.batch_answers.specs.Answers.{code_of, kept}
use Rattle.index_types.specs.declared.Applied.{Applied}
use Rattle.driver_outs.specs.declared.Outs.{Outs}

-- the code and the outs that are numbers, after a batch; three of them were at, made and end
abbrev pub outs_of : Applied → (at made end : ℕ) → Outs
outs_of p at made end =
    record {
      code = code_of p.ended;
      at = kept p.ended at p.at;
      made = kept p.ended made p.made;
      end = kept p.ended end p.ended;
      staged = p.counts.staged.count;
      table = p.counts.table.count;
      deleted = p.counts.deleted.count;
      used = p.used;
      standing = p.standing;
    }
