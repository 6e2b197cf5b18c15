-- Both arrays are copied whole, before and, unless a token was refused, after.
use Prim.Native.Nat.{ℕ}
use mathlib.Core.Path.{◌≡◌, refl, sym, ◌∙◌}
use lib.ListN.{length, length-replicate}
use lib.IntN.{pos}
use borrow.Author.Rules.{rules}
use Rattle.stores.proofs.StoreLaws.{write_whole}
use Rattle.kept_tokens.proofs.change_copies.Goals as goal

pub returns-in-Ok : goal.returns-in-Ok
returns-in-Ok c =
    let d = rw (c.in-Ok.is, (c.copy_bytes.ensures ∙ write_whole _ _ (c.requires.0 ∙ sym (length-replicate {A = ℕ} 4096 0))), (c.copy_numbers.ensures ∙ write_whole _ _ (c.requires.1 ∙ sym (length-replicate 128 (pos 0))))) at c.change_tokens.ensures in
    let l : length c.change_tokens.new.table ≡ length c.args.table.now = search rules in
    let m : length c.change_tokens.new.sums ≡ length c.args.sums.now = search rules in
    rw (c.copy_bytes-in-Ok.ensures ∙ write_whole _ _ l, c.copy_numbers-in-Ok.ensures ∙ write_whole _ _ m) d

pub returns-in-Err : goal.returns-in-Err
returns-in-Err c =
    (rw (c.in-Err.is, (c.copy_bytes.ensures ∙ write_whole _ _ (c.requires.0 ∙ sym (length-replicate {A = ℕ} 4096 0))), (c.copy_numbers.ensures ∙ write_whole _ _ (c.requires.1 ∙ sym (length-replicate 128 (pos 0))))) at c.change_tokens.ensures, refl, refl)
