-- What the exports of undo entries and of pruning leave. A refusal changes nothing.
use Rattle.std.specs.Prelude.{ℕ, Bool, true, false, List, Ok, Err}
use Rattle.refusal.specs.Answers.{Answer}
use Rattle.undo_entries.specs.declared.UndoEntry.{UndoEntry}
use Rattle.undo_entries.specs.Answers.{Encoded}
use Rattle.undo_entries.specs.declared.Decoded.{Decoded}
use Rattle.undo_pruning.specs.declared.Window.{Window}
use Rattle.undo_pruning.specs.declared.Window.TheVariants.{Named, Unnamed}
use Rattle.undo_pruning.specs.Answers.{Pruned}
use Rattle.undo_entries.specs.Entry.{Encoding}
use Rattle.undo_pruning.specs.Prune.{Pruning, window_of, pruned_of}

abbrev pub entry : Bool → List ℕ → ℕ → ℕ → UndoEntry
entry known header txs boxes = record { known = known; header = header; txs = txs; boxes = boxes }

-- ---- writing: the code, how many bytes were written, and the output
pub record EncodeOut : Type 0 where
  pub code : ℕ
  pub written : ℕ
  pub out : List ℕ

abbrev pub encode_out : ℕ → ℕ → List ℕ → EncodeOut
encode_out code n l = record { code = code; written = n; out = l }

abbrev pub encode_by : Encoded → ℕ → List ℕ → EncodeOut
encode_by (Ok n) m l = encode_out 0 n l
encode_by (Err code) m l = encode_out code m l

abbrev pub encode_export : ℕ → Encoding → EncodeOut
encode_export m e = encode_by e.answer m e.out

-- ---- reading: the code and the entry
pub record DecodeOut : Type 0 where
  pub code : ℕ
  pub entry : UndoEntry

abbrev pub decode_out : ℕ → UndoEntry → DecodeOut
decode_out code e = record { code = code; entry = e }

abbrev pub decode_by : Answer → (read given : UndoEntry) → DecodeOut
decode_by (Ok tt) read given = decode_out 0 read
decode_by (Err code) read given = decode_out code given

abbrev pub decode_export : UndoEntry → Decoded → DecodeOut
decode_export given d = decode_by d.answer d.entry given

-- ---- pruning: the code, how many heights are kept, and the list
pub record PruneOut : Type 0 where
  pub code : ℕ
  pub count : ℕ
  pub heights : List ℕ

abbrev pub prune_out : ℕ → ℕ → List ℕ → PruneOut
prune_out code n l = record { code = code; count = n; heights = l }

abbrev pub prune_by : Pruned → ℕ → List ℕ → PruneOut
prune_by (Ok n) m l = prune_out 0 n l
prune_by (Err code) m l = prune_out code m l

abbrev pub prune_export : ℕ → Pruning → PruneOut
prune_export m p = prune_by p.answer m p.heights

-- a window is named by its heights, or it is not named
abbrev pub window : Bool → ℕ → Window
window true heights = Named heights
window false heights = Unnamed

abbrev pub prune_call : List ℕ → (count capacity current : ℕ) → Window → PruneOut
prune_call heights count capacity current w = prune_export count (pruned_of count capacity current (window_of w) heights)
