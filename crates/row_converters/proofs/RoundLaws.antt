-- Each converter takes back what the other did: a row that was converted, converted back with the same parent, kind and number, is the row that it was.
-- With the shortest numbers only (U5), a row of either edition is its header and the row of its content.
use Prim.Native.Nat.{ℕ, ◌+◌, ◌-◌, ◌≤◌, ◌<◌}
use mathlib.Core.Path.{◌≡◌, refl, sym, ap, ◌∙◌}
use mathlib.Core.Bool.{Bool, true, false, cond, ◌&&◌}
use mathlib.Core.List.{List, [], ◌∷◌, ◌++◌, append_assoc, append-nil}
use native.Mathlib.Omega.{arith}
use lib.Dec.{leb, eqb}
use lib.IntN.{ℤ, pos}
use lib.ListN.{length, take, drop, get_or, length-append}
use lib.Seq.{take-append-le, take_at, drop_at, drop-cons, get_or-drop, take_all}
use borrow.Author.Tests.{eq-eqb, eqb-true}
use mir.Syntax.{w32}
use mir.Val.{SFits}
use Rattle.stores.specs.Equal.{same_bytes}
use Rattle.stores.specs.Stores.{write}
use Rattle.stores.proofs.EqualLaws.{same_refl, same_true}
use Rattle.vlq_core.specs.Zigzag.{zig}
use Rattle.vlq_core.specs.Groups.{enc}
use Rattle.std.specs.Prelude.{Ok, Err}
use Rattle.vlq_core.specs.Answers.{Got}
use Rattle.vlq_core.specs.Reading.{read_at}
use Rattle.vlq_core.specs.Writing.{Written, written, put_bytes}
use Rattle.vlq_core.proofs.ZigzagLaws.{zig_fits}
use Rattle.vlq_core.proofs.GroupLaws.{number_length}
use Rattle.vlq_core.proofs.ReadLaws.{read_next}
use Rattle.vlq_core.proofs.BackLaws.{read_back}
use Rattle.vlq_core.proofs.UniqueLaws.{Bytes, read_unique}
use Rattle.index_types.specs.declared.RowEdition.{RowEdition}
use Rattle.index_types.specs.declared.RowEdition.TheVariants.{One, Two}
use Rattle.segment_core.specs.Row.{row_bytes, row_limit}
use Rattle.segment_core.specs.Reading.{Seg, seg, no_seg, segment_at, ended}
use Rattle.segment_core.proofs.BackLaws.{Writable, segment_back}
use Rattle.segment_core.proofs.CodecLaws.{row_size}
use Rattle.segment_core.proofs.UniqueLaws.{Span, both, Last, LastSpan, last_span}
use Rattle.segment_id.specs.declared.Kind.{Kind}
use Rattle.segment_id.specs.declared.Kind.TheVariants.{Box, Tx}
use Rattle.buffer_core.specs.Edition.{row_limit_of, number_at, kind_byte, header, body_at, numbers_of, named, row_under}
use Rattle.buffer_core.proofs.BackLaws.{back}
use Rattle.row_fronts.specs.Fronts.{is_kind, front, tells}
use Rattle.row_fronts.proofs.FrontLaws.{front_length}
use Rattle.row_converters.specs.Convert.{put_row, start_then, convert}
use Rattle.row_converters.specs.Internal.{body_answer}
use Rattle.row_converters.proofs.ConvertLaws.{of_these}
use Rattle.index_types.proofs.AnswerLaws.{pair_same}

module _ (p : List ℕ) (long : length p ≡ 32) (k : ℕ) (n : ℤ) (fit : SFits w32 n) where
  -- ---- a header and the row of a content: it is read, and written in the other edition

  -- where the body begins, and the number that the header writes
  abbrev start : RowEdition → ℕ
  start v = length (front v p k n)

  abbrev number : RowEdition → ℕ
  number One = 0
  number Two = zig n

  within : (v : RowEdition) → start v + row_limit ≤ row_limit_of v
  within One = omega arith
  within Two = omega (arith, front_length p k n long, (number_length w32 4 (omega arith) n fit).1)

  module _ (body : List ℕ) where
    abbrev whole : RowEdition → List ℕ
    whole v = front v p k n ++ body

    begins : (v : RowEdition) → body_at v (whole v) ≡ Ok (number v, start v)
    begins One = refl
    begins Two =
        ap (λ (s : List ℕ). read_at 32 s number_at) (append_assoc p (k ∷ enc (zig n)) body ∙ sym (append_assoc p (k ∷ []) (enc (zig n) ++ body)))
        ∙ read_back 32 (zig n) (p ++ (k ∷ [])) body number_at (length-append p (k ∷ []) ∙ omega arith) (omega arith) (zig_fits w32 n fit).fits
        ∙ ap (λ x. Ok (zig n, x)) (sym (front_length p k n long))

    told : is_kind k ≡ true → (v : RowEdition) → tells v p k n (whole v) (number v) ≡ true
    told a One = a
    told a Two =
        let e : whole Two ≡ p ++ (k ∷ (enc (zig n) ++ body)) = append_assoc p (k ∷ enc (zig n)) body in
        let f : take 32 (whole Two) ≡ p = ap (take 32) e ∙ take-append-le 32 p _ (omega arith) ∙ take_all 32 p (omega arith) in
        let g : get_or (whole Two) 32 0 ≡ k = sym (get_or-drop 32 (whole Two) 0 0) ∙ ap (λ (l : List ℕ). get_or l 0 0) (ap (λ (l : List ℕ). drop 32 l) e ∙ drop_at p _ 32 long) in
        rw (a, f, same_refl p, eq-eqb (get_or (whole Two) 32 0) k g, eq-eqb (zig n) (zig n) refl) refl

  module _ (a : is_kind k ≡ true) (ts bs : List ℤ) (b t : ℤ) (w : Writable ts bs b t) where
    abbrev row : RowEdition → List ℕ
    row v = front v p k n ++ row_bytes ts bs b t

    -- "goes back": the same content behind the other header
    pub rewritten : (v u : RowEdition) (out : List ℕ) → convert v u p k n (row v) out ≡ put_bytes (row u) out 0
    rewritten v u out =
        let s : List ℕ = row v in
        let c : List ℕ = row_bytes ts bs b t in
        let size : length s ≡ start v + length c = length-append (front v p k n) c in
        let e = segment_back ts bs b t w s (front v p k n) [] (start v) (ap (λ (l : List ℕ). front v p k n ++ l) (sym (append-nil c))) refl in
        let f : (Ok tt) ≡ body_answer (ended true (length s) (segment_at s (start v))) = rw (e, eq-eqb (start v + length c) (length s) (sym size)) refl in
        sym (of_these v u p k n s out (omega (arith, size, within v, row_size ts bs b t w)) (number v) (start v) (begins c v) f (told c a v))
        ∙ ap (λ (l : List ℕ). put_bytes (front u p k n ++ l) out 0) (drop_at (front v p k n) c (start v) refl)

  -- ---- an accepted row is its header and the row of its content

  -- so is the row s
  pub record Whole (v : RowEdition) (s : List ℕ) : Type 0 where
    pub txs : List ℤ
    pub boxes : List ℤ
    pub box_count : ℤ
    pub tx_count : ℤ
    pub kind : is_kind k ≡ true
    pub content : Writable txs boxes box_count tx_count
    pub is : s ≡ front v p k n ++ row_bytes txs boxes box_count tx_count

  module _ (s : List ℕ) (all : Bytes s) where
    -- what stands before the body of a row that says these three
    before_body : (v : RowEdition) (c at : ℕ) → body_at v s ≡ Ok (c, at) → tells v p k n s c ≡ true → (is_kind k ≡ true) × Span s all 0 at (front v p k n)
    before_body One c at e t = let z : 0 ≡ at = (pair_same e).1 in (t, record { past = omega arith; is = let d : at - 0 ≡ 0 = omega arith in rw d refl })
    before_body Two c at e t = by_tests (is_kind k) (same_bytes (take 32 s) p) (eqb (get_or s 32 0) k) (eqb c (zig n)) refl refl refl refl t
      where
        by_tests : (x y z u : Bool) → is_kind k ≡ x → same_bytes (take 32 s) p ≡ y → eqb (get_or s 32 0) k ≡ z → eqb c (zig n) ≡ u → x && (y && (z && u)) ≡ true
            → (is_kind k ≡ true) × Span s all 0 at (front Two p k n)
        by_tests true true true true a f g h t =
            let r = read_next 32 s number_at c at (sym e) in
            let d : eqb (get_or s 32 0) k ≡ true = g in
            let one : take 1 (drop 32 s) ≡ k ∷ [] = ap (take 1) (drop-cons s 32 0 (omega (arith, r.0, r.1))) ∙ ap (λ (y : ℕ). y ∷ []) (eqb-true (get_or s 32 0) k d) in
            let parent : Span s all 0 32 p = record { past = omega arith; is = same_true (take 32 s) p f } in
            let kind : Span s all 32 33 (k ∷ []) = record { past = omega arith; is = one } in
            let coded : Span s all 33 at (enc (zig n)) = record { past = omega (arith, r.0); is = read_unique 32 s 33 c at all e ∙ ap enc (eqb-true c (zig n) h) } in
            (a, both s all 0 32 at p (k ∷ enc (zig n)) parent (both s all 32 33 at (k ∷ []) (enc (zig n)) kind coded))
        by_tests true true true false a f g h t = let x : ◌≡◌ {A = ℕ} 0 1 = cc in absurd (omega arith)
        by_tests true true false u a f g h t = let x : ◌≡◌ {A = ℕ} 0 1 = cc in absurd (omega arith)
        by_tests true false z u a f g h t = let x : ◌≡◌ {A = ℕ} 0 1 = cc in absurd (omega arith)
        by_tests false y z u a f g h t = let x : ◌≡◌ {A = ℕ} 0 1 = cc in absurd (omega arith)

    pub accepted : (v u : RowEdition) (out : List ℕ) (r : ℕ) → (convert v u p k n s out).answer ≡ Ok r → Whole v s
    unfolding convert
    accepted v u out r e = by_limit (leb (length s) (row_limit_of v)) e
      where
        by_name : (c at : ℕ) → body_at v s ≡ Ok (c, at) → (x : Bool) → tells v p k n s c ≡ x → (g : Seg) → LastSpan s all at g
            → (put_row (front u p k n) (drop at s) (named x g) out).answer ≡ Ok r → Whole v s
        by_name c at d true x (seg ts bs b t m) g e =
            let h = before_body v c at d x in
            let z = both s all 0 at (length s) (front v p k n) (row_bytes ts bs b t) h.1 g.span in
            record {
              txs = ts;
              boxes = bs;
              box_count = b;
              tx_count = t;
              kind = h.0;
              content = g.content;
              is = sym (take_all (length s - 0) s (omega arith)) ∙ z.is;
            }
        by_name c at d false x (seg ts bs b t m) g e = let z : ◌≡◌ {A = ℕ} 0 1 = cc in absurd (omega arith)
        by_name c at d x y (no_seg m) g e = let z : ◌≡◌ {A = ℕ} 0 1 = cc in absurd (omega arith)

        by_start : (g : Got) → body_at v s ≡ g
            → (start_then (λ c at. put_row (front u p k n) (drop at s) (named (tells v p k n s c) (ended true (length s) (segment_at s at))) out) out g).answer ≡ Ok r → Whole v s
        by_start (Ok (c, at)) d e = by_name c at d (tells v p k n s c) refl (ended true (length s) (segment_at s at)) (last_span s all at) e
        by_start (Err m) d e = let z : ◌≡◌ {A = ℕ} 0 1 = cc in absurd (omega arith)

        by_limit : (x : Bool) → (cond x (start_then (λ c at. put_row (front u p k n) (drop at s) (named (tells v p k n s c) (ended true (length s) (segment_at s at))) out) out (body_at v s)) (written (Err 25) out)).answer ≡ Ok r → Whole v s
        by_limit true e = by_start (body_at v s) refl e
        by_limit false e = let z : ◌≡◌ {A = ℕ} 0 1 = cc in absurd (omega arith)

    -- ---- there and back

    -- the bytes that a writer at the front says it wrote are those it was to write
    put_front : (c out : List ℕ) (r : ℕ) → (put_bytes c out 0).answer ≡ Ok r → take r (put_bytes c out 0).out ≡ c
    unfolding put_bytes write
    put_front c out r e = by_room (leb (0 + length c) (length out)) refl e
      where
        by_room : (x : Bool) → leb (0 + length c) (length out) ≡ x → (cond x (written (Ok (0 + length c)) (write 0 c out)) (written (Err 32) out)).answer ≡ Ok r
            → take r (cond x (written (Ok (0 + length c)) (write 0 c out)) (written (Err 32) out)).out ≡ c
        by_room true h e = let f : 0 + length c ≡ r = cc in take_at c (drop (0 + length c) out) r (omega arith)
        by_room false h e = let x : ◌≡◌ {A = ℕ} 0 1 = cc in absurd (omega arith)

    -- a row that was converted is the same content behind the other header
    pub moved : (v u : RowEdition) (out : List ℕ) (r : ℕ) (e : (convert v u p k n s out).answer ≡ Ok r)
        → take r (convert v u p k n s out).out
        ≡ front u p k n ++ row_bytes (accepted v u out r e).txs (accepted v u out r e).boxes (accepted v u out r e).box_count (accepted v u out r e).tx_count
    moved v u out r e =
        let w = accepted v u out r e in
        let c : List ℕ = row_bytes w.txs w.boxes w.box_count w.tx_count in
        let f : convert v u p k n s out ≡ put_bytes (front u p k n ++ c) out 0
        = ap (λ (l : List ℕ). convert v u p k n l out) w.is ∙ rewritten w.kind w.txs w.boxes w.box_count w.tx_count w.content v u out in
        ap (λ (x : Written). take r x.out) f ∙ put_front (front u p k n ++ c) out r (sym (ap (λ (x : Written). x.answer) f) ∙ e)

    -- "goes back": converted back, the row itself goes to the output, or 32 where it does not fit
    pub there_and_back : (v u : RowEdition) (out : List ℕ) (r : ℕ) → (convert v u p k n s out).answer ≡ Ok r
        → (out' : List ℕ) → convert u v p k n (take r (convert v u p k n s out).out) out' ≡ put_bytes s out' 0
    there_and_back v u out r e out' =
        let w = accepted v u out r e in
        ap (λ (l : List ℕ). convert u v p k n l out') (moved v u out r e) ∙ rewritten w.kind w.txs w.boxes w.box_count w.tx_count w.content u v out'
        ∙ ap (λ (l : List ℕ). put_bytes l out' 0) (sym w.is)

-- ---- the segment buffer reads the same numbers in a row of a spill before and after

module _ (kind : Kind) (p : List ℕ) (long : length p ≡ 32) (n : ℕ) (low : n < 2147483648) (s : List ℕ) (all : Bytes s) (v u : RowEdition) (out : List ℕ) (r : ℕ) where
  of_spill : SFits w32 (pos n)
  of_spill = record { sfits = omega arith }

  abbrev made : Written
  made = convert v u p (kind_byte kind) (pos n) s out

  same_front : (v : RowEdition) → front v p (kind_byte kind) (pos n) ≡ header v kind p (pos n)
  same_front One = refl
  same_front Two = refl

  pub read_alike : made.answer ≡ Ok r → numbers_of kind (row_under u kind p (pos n) (take r made.out)) ≡ numbers_of kind (row_under v kind p (pos n) s)
  read_alike e =
      let w = accepted p long (kind_byte kind) (pos n) of_spill s all v u out r e in
      let c : List ℕ = row_bytes w.txs w.boxes w.box_count w.tx_count in
      let as_read : (x : RowEdition) (l : List ℕ) → l ≡ front x p (kind_byte kind) (pos n) ++ c
      → numbers_of kind (row_under x kind p (pos n) l) ≡ numbers_of kind (seg w.txs w.boxes w.box_count w.tx_count 0)
      = λ x l q. ap (λ (l : List ℕ). numbers_of kind (row_under x kind p (pos n) l)) (q ∙ ap (λ (f : List ℕ). f ++ c) (same_front x))
      ∙ ap (numbers_of kind) (back kind p long n low x w.txs w.boxes w.box_count w.tx_count w.content) ∙ any_end kind w.txs w.boxes w.box_count w.tx_count (length (header x kind p (pos n)) + length c) in
      as_read u _ (moved p long (kind_byte kind) (pos n) of_spill s all v u out r e) ∙ sym (as_read v s w.is)
    where
      any_end : (kind : Kind) (ts bs : List ℤ) (b t : ℤ) (m : ℕ) → numbers_of kind (seg ts bs b t m) ≡ numbers_of kind (seg ts bs b t 0)
      any_end Box ts bs b t m = refl
      any_end Tx ts bs b t m = refl
