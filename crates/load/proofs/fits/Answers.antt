use Rattle.std.proofs.Common.{◌≡◌, ◌-◌, ◌+◌, List, ℕ, leb, length, sym, ap, subst, ◌∙◌, arith}
use borrow.Author.Tests.{le-leb}
use Rattle.calls.specs.Calls.{size_of}
use Rattle.load_core.specs.declared.Drawn.{Drawn}
use Rattle.load.specs.Bytes.{load_bytes}
use Rattle.load.specs.Internal.{Countable}
use Rattle.load.proofs.LoadLaws.{fits_turn, fits_short, countable_turn, none_left}
use Rattle.load.proofs.fits.Goals as goal

pub returns-then-free-n : goal.returns-then-free-n
returns-then-free-n c =
    let l = c.loop in
    let size = c.size_of-n.ensures ∙ ap (λ (r : Drawn). size_of r.call) c.next_call-d.ensures in
    sym (l.invariant.0 ∙ fits_short l.source (c.args.count - l.counter) l.free (omega arith) (omega (arith, c.if-free-n.true, size)))

pub loop-preserved : goal.loop-preserved
loop-preserved c =
    let l = c.loop in
    let e = c.next_call-d.ensures in
    let size = c.size_of-n.ensures ∙ ap (λ (r : Drawn). size_of r.call) e in
    let less : c.args.count - (l.counter + 1) ≡ c.args.count - l.counter - 1 = omega arith in
    rw less (
      l.invariant.0 ∙ fits_turn l.source (c.args.count - l.counter) l.free (omega arith) (omega (arith, c.if-free-n.false, size)) ∙ sym (λ i. leb (length (load_bytes (c.args.count - l.counter - 1) (e i).next)) (l.free - size i)),
      subst (λ (r : Drawn). Countable (l.free - c.size_of-n.result) r.next) (sym e) (countable_turn l.source l.free (l.free - c.size_of-n.result) (omega (arith, c.if-free-n.false, size)) l.invariant.1),
    )

pub returns : goal.returns
returns c =
    let l = c.loop in
    sym (l.invariant.0 ∙ ap (λ (s : List ℕ). leb (length s) l.free) (none_left (c.args.count - l.counter) l.source (omega arith)).0 ∙ le-leb 0 l.free (omega arith))
