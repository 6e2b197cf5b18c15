-- The ways out of the exports of undo entries and of pruning.
use Prim.Native.Nat.{ℕ}
use mathlib.Core.Path.{◌≡◌}
use mathlib.Core.List.{List}
use Rattle.std.specs.Prelude.{Ok, Err}
use Rattle.undo_entries.specs.declared.UndoEntry.{UndoEntry}
use Rattle.undo_entries.specs.Answers.{Encoded}
use Rattle.undo_entries.specs.declared.Decoded.{Decoded}
use Rattle.undo_pruning.specs.declared.Window.{Window}
use Rattle.undo_pruning.specs.Answers.{Pruned}
use Rattle.undo_entries.specs.Entry as entries
use Rattle.undo_pruning.specs.Prune.{pruning, window_of, pruned_of}
use Rattle.ergo_index_undo.specs.Undo.{entry, encode_out, encode_export, decode_out, decode_export, prune_out, prune_call}

module _ (r : Encoded) (l : List ℕ) (o : entries.Encoding) (e : entries.encoded r l ≡ o) (m : ℕ) where
  pub encode_done : (n : ℕ) → r ≡ Ok n → encode_out 0 n l ≡ encode_export m o
  encode_done n f = rw (← e, f)

  pub encode_refused : (code : ℕ) → r ≡ Err code → encode_out code m l ≡ encode_export m o
  encode_refused code f = rw (← e, f)

module _ (r o : Decoded) (e : r ≡ o) (given : UndoEntry) where
  pub decode_done : r.answer ≡ (Ok tt) → decode_out 0 r.entry ≡ decode_export given o
  decode_done f = rw (← e, f)

  pub decode_refused : (code : ℕ) → r.answer ≡ Err code → decode_out code given ≡ decode_export given o
  decode_refused code f = rw (← e, f)

-- w is the window that the call was given, v the one that was asked for
module _ (w v : Window) (d : w ≡ v) (heights : List ℕ) (count capacity current : ℕ) (r : Pruned) (l : List ℕ) (e : pruning r l ≡ pruned_of count capacity current (window_of w) heights) where
  pub prune_done : (n : ℕ) → r ≡ Ok n → prune_out 0 n l ≡ prune_call heights count capacity current v
  prune_done n f = rw (← d, ← e, f)

  pub prune_refused : (code : ℕ) → r ≡ Err code → prune_out code count l ≡ prune_call heights count capacity current v
  prune_refused code f = rw (← d, ← e, f)
