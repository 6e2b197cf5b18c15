-- 32 by the length of all histories, before anything is written.
use Prim.Native.Nat.{ℕ, ◌+◌, ◌≤◌}
use mathlib.Core.Path.{refl, sym, subst}
use mathlib.Core.Bool.{false}
use native.Mathlib.Omega.{arith}
use lib.ListN.{length}
use borrow.Author.Tests.{lt-leb}
use Rattle.vlq_core.proofs.WriteLaws.{put_short, put_within}
use Rattle.history_growth.specs.Listing.{histories, bytes_of}
use Rattle.short_histories.proofs.LengthLaws.{length_histories}
use Rattle.short_histories.proofs.list_histories.Goals as goal

pub returns-then-out-lt-HISTORIES_LENGTH : goal.returns-then-out-lt-HISTORIES_LENGTH
returns-then-out-lt-HISTORIES_LENGTH c = let out = c.args.out.now in put_short {s = bytes_of histories} refl out 0 2668 (sym length_histories) false (sym (lt-leb 2668 (length out) c.if-out-lt-HISTORIES_LENGTH.true)) refl

pub list_up_to-requires : goal.list_up_to-requires
list_up_to-requires c = (omega arith, subst (λ (n : ℕ). n ≤ length c.args.out.now) (sym length_histories) c.if-out-lt-HISTORIES_LENGTH.false)

pub returns : goal.returns
returns c =
    let out = c.args.out.now in
    put_within refl out 0 _ _ c.list_up_to.ensures (subst (λ (n : ℕ). 0 + n ≤ length out) (sym length_histories) c.if-out-lt-HISTORIES_LENGTH.false)
