-- A summary that is right: a line for each spill, made from its row, and zeros after them. Where head and rows pass, this is what a summary made afresh is.
use mathlib.Core.Path.{◌≡◌, sym, ap, ◌∙◌}
use mathlib.Core.List.{List}
use Prim.Native.Nat.{ℕ, suc, ◌*◌, ◌-◌, ◌≤◌, ◌<◌}
use native.Mathlib.Omega.{arith}
use native.Mathlib.Decide.{ℕ_discrete}
use lib.IntN.{ℤ, nat_abs}
use lib.ListN.{length, length-replicate}
use Rattle.segment_id.specs.declared.Kind.TheVariants.{Box}
use Rattle.buffer_core.specs.Edition.{Edition, good}
use Rattle.buffer_core.specs.Spills.{spill_read}
use Rattle.buffer_core.specs.Pop.{Lists}
use Rattle.buffer_core.specs.Flip.{row_checked}
use Rattle.index_types.specs.Answers.{Summarized}
use Rattle.summary_core.specs.Lines.{line_of, no_line, put_line, WithSummary}
use Rattle.summary_core.proofs.LineLaws.{line_at, length_line, line_put_same, line_put_other, length_put_line}
use Rattle.summary_core.proofs.MakingLaws as Mk
use Rattle.summary_core.proofs.FlipLaws.{checked}
use Rattle.ledger.specs.Ledger.{Parent, boxes}
use Rattle.ledger.specs.Run.{Res, done, row_or}
use Rattle.history.specs.Index.{Part, to_res, sources_of, row_of_spill}
use Rattle.history_summaries.specs.Summaries.{SummaryIndex}
use Rattle.history_summaries.specs.Promises.{Current, Passes}

module _ (E : Edition) (ids : Parent → List ℕ) (lines : Parent → ℕ) where
  abbrev pub spills_of : SummaryIndex → Parent → ℕ
  spills_of b p = nat_abs (b.index.parts (boxes p)).head.spills

  abbrev pub row_of : SummaryIndex → Parent → ℕ → Res (List ℤ)
  row_of b p n = row_of_spill E ids b.index (boxes p) n

  pub record RightLines (b : SummaryIndex) (p : Parent) : Type 0 where
    pub room : spills_of b p ≤ lines p
    pub long : lines p * 5 ≤ length (b.summaries p)
    pub line : (n : ℕ) → n < spills_of b p → line_at (b.summaries p) n ≡ line_of (row_or (row_of b p n))
    pub free : (n : ℕ) → spills_of b p ≤ n → n < lines p → line_at (b.summaries p) n ≡ no_line

  abbrev pub AllRight : SummaryIndex → Type 0
  AllRight b = (p : Parent) → RightLines b p

  -- ---- what is made afresh
  module _ (b : SummaryIndex) (q : Parent) where
    abbrev own : Part
    own = b.index.parts (boxes q)

    abbrev x : Lists
    x = b.index.lists

    -- head and rows pass the checks of a spend
    abbrev pub Checks : Type 0
    Checks = Mk.Checks E (ids q) own.head x.staged_counts x.staged x.table_counts x.table own.places

    pub checks : Passes E ids lines b q → Checks
    checks e = Mk.tally_checks E (ids q) own.head x.staged_counts x.staged x.table_counts x.table own.places e.0 e.1

    abbrev Passing : Type 0
    Passing = Mk.Passing E (ids q) own.head x.staged_counts x.staged x.table_counts x.table own.places (lines q) (b.summaries q)

    pub passing : Current E ids lines b q → Passing
    passing e =
        Mk.passing E (ids q) own.head x.staged_counts x.staged x.table_counts x.table own.places (lines q) (b.summaries q)
        (ap (λ (y : WithSummary Summarized). y.result) e)

    read_of : (n : ℕ) (zs : List ℤ) → row_checked E (sources_of E ids b.index (boxes q)) n ≡ good zs → row_of b q n ≡ done zs
    read_of n zs e = ap to_res (checked (spill_read E Box (sources_of E ids b.index (boxes q)) n) zs e).read

    row_passes : Checks → (n : ℕ) → n < spills_of b q → (zs : List ℤ) × (row_checked E (sources_of E ids b.index (boxes q)) n ≡ good zs)
    row_passes p = Mk.passes E (ids q) own.head x.staged_counts x.staged x.table_counts x.table own.places p

    -- every row is there
    pub rows_there : Checks → (n : ℕ) → n < spills_of b q → (zs : List ℤ) × (row_of b q n ≡ done zs)
    rows_there p n h = let z = row_passes p n h in (z.0, read_of n z.0 z.1)

    pub right : Current E ids lines b q → RightLines b q
    right e =
        let p = passing e in
        record {
          room = p.room;
          long = p.long;
          line = λ n h.
              let z = row_passes p.checks n h in
              Mk.current_row E (ids q) own.head x.staged_counts x.staged x.table_counts x.table own.places (lines q) (b.summaries q) p e n z.0 h z.1
              ∙ ap (λ (r : Res (List ℤ)). line_of (row_or r)) (sym (read_of n z.0 z.1));
          free = Mk.current_free E (ids q) own.head x.staged_counts x.staged x.table_counts x.table own.places (lines q) (b.summaries q) p e;
        }

    pub current : Checks → RightLines b q → Current E ids lines b q
    current p R =
        Mk.current E (ids q) own.head x.staged_counts x.staged x.table_counts x.table own.places (lines q) (b.summaries q)
        (record { checks = p; long = R.long; room = R.room })
        (λ n zs h g. R.line n h ∙ ap (λ (r : Res (List ℤ)). line_of (row_or r)) (read_of n zs g)) R.free

  -- ---- a call leaves a summary right
  module _ (b c : SummaryIndex) (q : Parent) (R : RightLines b q) where
    -- it changed nothing that the summary speaks of
    pub kept_right : spills_of c q ≡ spills_of b q → c.summaries q ≡ b.summaries q → ((n : ℕ) → n < spills_of b q → row_of c q n ≡ row_of b q n) → RightLines c q
    kept_right s e same = record {
      room = omega (arith, R.room);
      long = omega (arith, R.long, ap length e);
      line = λ n h. ap (λ (l : List ℕ). line_at l n) e ∙ R.line n (omega arith) ∙ ap (λ (r : Res (List ℤ)). line_of (row_or r)) (sym (same n (omega arith)));
      free = λ n h g. ap (λ (l : List ℕ). line_at l n) e ∙ R.free n (omega arith) g;
    }

    -- it made one row, new or in the place of another, and wrote its line
    pub written_right : (m : ℕ) (zs : List ℤ) → spills_of b q ≤ spills_of c q → spills_of c q ≤ lines q → m < spills_of c q → c.summaries q ≡ put_line m (line_of zs) (b.summaries q)
        → row_of c q m ≡ done zs → ((n : ℕ) → n < spills_of c q → (n ≡ m → ⊥) → (n < spills_of b q) × (row_of c q n ≡ row_of b q n)) → RightLines c q
    written_right m zs s r h e new same = record {
      room = r;
      long = omega (arith, R.long, ap length e ∙ length_put_line (lines q) m (line_of zs) (b.summaries q) (length_line zs) (omega arith) R.long);
      line = λ n g. ap (λ (l : List ℕ). line_at l n) e ∙ by_place n g (ℕ_discrete n m);
      free = λ n g k. ap (λ (l : List ℕ). line_at l n) e ∙ other n k (λ d. omega arith) ∙ R.free n (omega arith) k;
    }
      where
        other : (n : ℕ) → n < lines q → (n ≡ m → ⊥) → line_at (put_line m (line_of zs) (b.summaries q)) n ≡ line_at (b.summaries q) n
        other n k d = line_put_other (lines q) m (line_of zs) (b.summaries q) (length_line zs) (omega arith) R.long n k d

        by_place : (n : ℕ) → n < spills_of c q → Dec (n ≡ m) → line_at (put_line m (line_of zs) (b.summaries q)) n ≡ line_of (row_or (row_of c q n))
        by_place n g (yes d) =
            ap (line_at (put_line m (line_of zs) (b.summaries q))) d ∙ line_put_same (lines q) m (line_of zs) (b.summaries q) (length_line zs) (omega arith) R.long
            ∙ ap (λ (x : Res (List ℤ)). line_of (row_or x)) (sym new) ∙ ap (λ (j : ℕ). line_of (row_or (row_of c q j))) (sym d)
        by_place n g (no d) =
            let k = same n g d in
            other n (omega arith) d ∙ R.line n k.0 ∙ ap (λ (x : Res (List ℤ)). line_of (row_or x)) (sym k.1)

    -- it took the newest row away, and cleared its line
    pub cleared_right : spills_of b q ≡ suc (spills_of c q) → c.summaries q ≡ put_line (spills_of b q - 1) no_line (b.summaries q)
        → ((n : ℕ) → n < spills_of c q → row_of c q n ≡ row_of b q n) → RightLines c q
    cleared_right s e same = record {
      room = omega (arith, R.room);
      long = omega (arith, R.long, ap length e ∙ length_put_line (lines q) (spills_of b q - 1) no_line (b.summaries q) five (omega (arith, R.room)) R.long);
      line = λ n g. ap (λ (l : List ℕ). line_at l n) e ∙ other n (omega (arith, R.room)) (λ d. omega arith) ∙ R.line n (omega arith) ∙ ap (λ (x : Res (List ℤ)). line_of (row_or x)) (sym (same n g));
      free = λ n g k. ap (λ (l : List ℕ). line_at l n) e ∙ by_place n g k (ℕ_discrete n (spills_of b q - 1));
    }
      where
        five : length no_line ≡ 5
        five = length-replicate {A = ℕ} 5 0

        other : (n : ℕ) → n < lines q → (n ≡ spills_of b q - 1 → ⊥) → line_at (put_line (spills_of b q - 1) no_line (b.summaries q)) n ≡ line_at (b.summaries q) n
        other n k d = line_put_other (lines q) (spills_of b q - 1) no_line (b.summaries q) five (omega (arith, R.room)) R.long n k d

        by_place : (n : ℕ) → spills_of c q ≤ n → n < lines q → Dec (n ≡ spills_of b q - 1) → line_at (put_line (spills_of b q - 1) no_line (b.summaries q)) n ≡ no_line
        by_place n g k (yes d) =
            ap (line_at (put_line (spills_of b q - 1) no_line (b.summaries q))) d
            ∙ line_put_same (lines q) (spills_of b q - 1) no_line (b.summaries q) five (omega (arith, R.room)) R.long
        by_place n g k (no d) = other n k d ∙ R.free n (omega arith) k
