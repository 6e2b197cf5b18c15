-- `undo_entries::encode` meets its contract: one law for each way out.
use mathlib.Core.Path.{sym}
use native.Mathlib.Omega.{arith}
use Rattle.undo_entries.proofs.EntryLaws.{encoding_known, encoding_first, length_known, length_first, encode_short, encode_done}
use borrow.Author.Rules.{rules}
use Rattle.undo_entries.proofs.encode.Goals as goal

pub returns-then-out-lt49 : goal.returns-then-out-lt49
returns-then-out-lt49 c = let e = c.args.entry in encode_short e _ (omega (arith, length_known e c.if-entry.true (search rules)))

pub returns-then-entry : goal.returns-then-entry
returns-then-entry c = let e = c.args.entry in encode_done e _ _ (sym (encoding_known e c.if-entry.true)) (omega (arith, length_known e c.if-entry.true (search rules))) _ _ c.put_known.ensures

pub returns-then-out-lt17 : goal.returns-then-out-lt17
returns-then-out-lt17 c = let e = c.args.entry in encode_short e _ (omega (arith, length_first e c.if-entry.false))

pub returns : goal.returns
returns c = let e = c.args.entry in encode_done e _ _ (sym (encoding_first e c.if-entry.false)) (omega (arith, length_first e c.if-entry.false)) _ _ c.put_first.ensures
