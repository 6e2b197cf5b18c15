-- The outs, each as a function told it.
use Prim.Native.Nat.{ℕ}
use mathlib.Core.Path.{◌≡◌}
use Rattle.batch_answers.specs.Answers.{code_of, kept}
use Rattle.index_types.specs.declared.Applied.{Applied}
use Rattle.driver_outs.specs.declared.Outs.{Outs}
use Rattle.driver_outs.specs.Outs.{outs_of}

module _ (p : Applied) (at made end : ℕ) where
  abbrev outs : (c x y z : ℕ) → Outs
  outs c x y z =
      record {
        code = c;
        at = x;
        made = y;
        end = z;
        staged = p.counts.staged.count;
        table = p.counts.table.count;
        deleted = p.counts.deleted.count;
        used = p.used;
        standing = p.standing;
      }

  pub outs_told : (c : ℕ) → c ≡ code_of p.ended → (x : ℕ) → x ≡ kept p.ended at p.at → (y : ℕ) → y ≡ kept p.ended made p.made
      → (z : ℕ) → z ≡ kept p.ended end p.ended → outs c x y z ≡ outs_of p at made end
  outs_told c f x g y h z i = rw (f, g, h, i)
