-- What write_indexed_address wrote, read_indexed_address reads; and what that one accepted is written as it was.
use Prim.Native.Nat.{ℕ, zero, suc, ◌*◌, ◌-◌, ◌≤◌}
use mathlib.Core.Path.{◌≡◌, refl, sym, ap, subst, ◌∙◌}
use mathlib.Core.Bool.{Bool, true, false, cond, ◌&&◌}
use mathlib.Core.List.{List, [], ◌∷◌}
use native.Mathlib.Omega.{arith}
use lib.Dec.{leb}
use lib.IntN.{ℤ}
use lib.ListN.{length, take, drop}
use lib.Seq.{length-take-le}
use borrow.Author.Tests.{leb-true}
use mir.Syntax.{w32, w64}
use mir.Val.{SFits}
use Rattle.stores.specs.Stores.{write}
use Rattle.signed.specs.Sign.{is_negative}
use Rattle.std.specs.Prelude.{Ok}
use Rattle.vlq_core.specs.Writing.{Written, put_bytes}
use Rattle.vlq_core.proofs.UniqueLaws.{Bytes}
use Rattle.segment_core.specs.Row.{row_bytes}
use Rattle.segment_core.specs.Loading.{padded}
use Rattle.segment_core.proofs.BackLaws.{All64, Writable}
use Rattle.segment.proofs.CallLaws.{answered}
use Rattle.balance.specs.declared.Balance.{Balance}
use Rattle.address_core.specs.Bytes.{address_bytes}
use Rattle.address_core.specs.Writing.{buffers_ok, write_address}
use Rattle.address_core.specs.Loading.{AddressLoading, loading, address_of, refused_with, load_address, read_address}
use Rattle.address_core.proofs.BytesLaws.{address_taken}
use Rattle.address_core.proofs.WriteLaws.{write_passed, write_on}
use Rattle.address_core.proofs.UniqueLaws.{content, content_bytes, content_only, Again, again}
use Rattle.address_core.proofs.BackLaws as record_laws

-- what the types of the arguments say of them: a hash of 32 bytes, a balance of 128 places, numbers of 64 and spill counts of 32 signed bits
pub record Typed (hash : List ℕ) (bal : Balance) (ts bs : List ℤ) (b t : ℤ) : Type 0 where
  pub hash_size : length hash ≡ 32
  pub ids_size : length bal.ids ≡ 4096
  pub amounts_size : length bal.amounts ≡ 128
  pub amounts_fit : All64 bal.amounts
  pub nanos_fit : SFits w64 bal.nanos
  pub txs_fit : All64 ts
  pub boxes_fit : All64 bs
  pub box_count_fit : SFits w32 b
  pub tx_count_fit : SFits w32 t

all_take : (k : ℕ) (zs : List ℤ) → All64 zs → All64 (take k zs)
all_take zero zs f = tt
all_take (suc k) [] f = tt
all_take (suc k) (z ∷ zs) f = (f.0, all_take k zs f.1)

-- the balance that is read: as many tokens as were counted, zeros behind them; all zero where the flag is clear
abbrev pub balance_back : Bool → Balance → Balance
balance_back has bal = record_laws.kept_balance has bal.nanos (take (bal.count * 32) bal.ids) (take bal.count bal.amounts)

module _ (hash : List ℕ) (has : Bool) (bal : Balance) (ts : List ℤ) (n : ℕ) (bs : List ℤ) (m : ℕ) (b t : ℤ) (out : List ℕ) (at : ℕ) where
  -- an accepted call gives back the hash, the flag, the balance, the lists and the spill counts, which are 0 or more
  pub round_trip : Typed hash bal ts bs b t → is_negative b ≡ false → is_negative t ≡ false
      → (next : ℕ) → (write_address hash has bal.nanos bal.ids bal.amounts bal.count ts n bs m b t out at).answer ≡ Ok next
      → (xs ys : List ℤ) → 512 ≤ length xs → 512 ≤ length ys
      → read_address (take (next - at) (drop at (write_address hash has bal.nanos bal.ids bal.amounts bal.count ts n bs m b t out at).out)) xs ys
      ≡ loading (record { answer = Ok tt; address = address_of hash has (balance_back has bal) (take n ts) (take m bs) b t })
      (write 0 (padded (take n ts)) xs) (write 0 (padded (take m bs)) ys)
  unfolding write_address
  round_trip f p q next e xs ys i j =
      let k : ℕ = bal.count in
      let zs : List ℤ = take k bal.amounts in
      let row : List ℕ = row_bytes (take n ts) (take m bs) b t in
      let s : List ℕ = address_bytes hash has bal.nanos bal.ids zs row in
      let h = write_passed hash has bal.nanos bal.ids bal.amounts k ts n bs m b t out at next e in
      let a = answered s out at next (buffers_ok n (length ts) m (length bs) k) e in
      let size : length zs ≡ k = length-take-le k bal.amounts (omega (arith, h.few, f.amounts_size)) in
      let room : k * 32 ≤ length bal.ids = omega (arith, h.few, f.ids_size) in
      let holds : record_laws.Holds bal.nanos (take (k * 32) bal.ids) zs = record {
        few = omega (arith, size, h.few);
        keys = length-take-le (k * 32) bal.ids room ∙ ap (λ (x : ℕ). x * 32) (sym size);
        amounts = all_take k bal.amounts f.amounts_fit;
        ergs = f.nanos_fit;
      } in
      let w : Writable (take n ts) (take m bs) b t = record {
        txs_few = omega (arith, length-take-le n ts h.txs.1, h.txs.0);
        txs_fit = all_take n ts f.txs_fit;
        boxes_few = omega (arith, length-take-le m bs h.boxes.1, h.boxes.0);
        boxes_fit = all_take m bs f.boxes_fit;
        box_count = (p, f.box_count_fit);
        tx_count = (q, f.tx_count_fit);
      } in
      let same : s ≡ address_bytes hash has bal.nanos (take (k * 32) bal.ids) zs row
      = address_taken hash has bal.nanos bal.ids zs row (omega (arith, size, room))
      ∙ ap (λ (x : ℕ). address_bytes hash has bal.nanos (take (x * 32) bal.ids) zs row) size in
      ap (λ (x : List ℕ). read_address x xs ys) a.1
      ∙ record_laws.round_trip hash f.hash_size has bal.nanos (take (k * 32) bal.ids) zs holds (take n ts) (take m bs) b t w xs ys i j s same

-- ---- what was read

abbrev Accepts : List ℕ → List ℤ → List ℤ → Type 0
Accepts s l m = (read_address s l m).answer.answer ≡ Ok tt

-- an accepted call has passed the tests of 25
passed_on : (s : List ℕ) (l m : List ℤ) → Accepts s l m → (512 ≤ length l) × (512 ≤ length m) × (read_address s l m ≡ load_address s l m)
unfolding read_address
passed_on s l m e = by_tests (leb (length s) 15675) (leb 512 (length l)) (leb 512 (length m)) refl refl e
  where
    by_tests : (p q r : Bool) → leb 512 (length l) ≡ q → leb 512 (length m) ≡ r → (cond (p && (q && r)) (load_address s l m) (loading (refused_with 25) l m)).answer.answer ≡ Ok tt
        → (512 ≤ length l) × (512 ≤ length m) × (cond (p && (q && r)) (load_address s l m) (loading (refused_with 25) l m) ≡ load_address s l m)
    by_tests true true true a b e = (leb-true 512 (length l) a, leb-true 512 (length m) b, refl)
    by_tests true true false a b e = let x : ◌≡◌ {A = ℕ} 0 1 = cc in absurd (omega arith)
    by_tests true false r a b e = let x : ◌≡◌ {A = ℕ} 0 1 = cc in absurd (omega arith)
    by_tests false q r a b e = let x : ◌≡◌ {A = ℕ} 0 1 = cc in absurd (omega arith)

accepted_again : (s : List ℕ) → Bytes s → (l m : List ℤ) → Accepts s l m → Again s (read_address s l m)
accepted_again s all l m e =
    let p = passed_on s l m e in
    subst (Again s) (sym p.2) (again s all l m p.0 p.1 (sym (ap (λ (w : AddressLoading). w.answer.answer) p.2) ∙ e))

-- the call that writes what was read
abbrev pub write_again : AddressLoading → List ℕ → ℕ → Written
write_again w out at =
    write_address w.answer.address.hash w.answer.address.has_balance w.answer.address.balance.nanos w.answer.address.balance.ids w.answer.address.balance.amounts
    w.answer.address.balance.count w.txs w.answer.address.txs w.boxes w.answer.address.boxes w.answer.address.box_segment_count w.answer.address.tx_segment_count out at

-- a record that was read and is written again is the same record
pub rewritten : (s : List ℕ) → Bytes s → (l m : List ℤ) → Accepts s l m → (out : List ℕ) (at : ℕ) → write_again (read_address s l m) out at ≡ put_bytes s out at
rewritten s all l m e out at =
    let x = accepted_again s all l m e in
    sym (write_on _ _ _ _ _ _ _ _ _ _ _ _ out at x.taken) ∙ ap (λ (y : List ℕ). put_bytes y out at) (sym x.same)

-- two accepted records are equal in bytes exactly when their contents are
module _ (s s' : List ℕ) (l m l' m' : List ℤ) (e : Accepts s l m) (e' : Accepts s' l' m') where
  pub same_bytes : Bytes s → Bytes s' → content (read_address s l m) ≡ content (read_address s' l' m') → s ≡ s'
  same_bytes all all' h = (accepted_again s all l m e).same ∙ ap content_bytes h ∙ sym (accepted_again s' all' l' m' e').same

  pub same_content : s ≡ s' → content (read_address s l m) ≡ content (read_address s' l' m')
  same_content h =
      ap content (passed_on s l m e).2 ∙ content_only s l m l' m' ∙ ap (λ (x : List ℕ). content (load_address x l' m')) h ∙ sym (ap content (passed_on s' l' m' e').2)
