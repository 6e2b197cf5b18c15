-- The fork-undo theorem of the index in bytes, for any edition that keeps its laws and any balances that keep theirs.
use mathlib.Core.Path.{◌≡◌, refl, sym, ap, ◌∙◌}
use mathlib.Core.List.{List}
use Prim.Native.Nat.{ℕ, ◌*◌, ◌≤◌, ◌<◌}
use native.Mathlib.Omega.{arith}
use lib.IntN.{ℤ, pos}
use lib.ListN.{length}
use Rattle.records.specs.Records.{records}
use Rattle.records.specs.Find.{distinct}
use Rattle.records.specs.Checks.{RecordsOk, KeysOk, lengths_ok}
use Rattle.records.proofs.TurnLaws.{length_keys}
use Rattle.records.proofs.CheckLaws.{bounds_of}
use Rattle.segment_id.specs.declared.Kind.TheVariants.{Box, Tx}
use Rattle.buffer_core.specs.Edition.{Edition}
use Rattle.buffer_core.proofs.ListLaws.{fit_lists}
use Rattle.ledger.specs.Ledger.{Parent, Series, boxes, txs, parent_of, id_dec}
use Rattle.ledger.specs.Run.{done}
use Rattle.ledger.specs.Run as Mc
use Rattle.fork_model.proofs.Table as Tb
use Rattle.fork_model.proofs.Store as St
use Rattle.fork_model.proofs.GoodStore as Gs
use Rattle.fork_model.proofs.FlushLaws as Fl
use Rattle.fork_model.proofs.Whole as Wh
use Rattle.fork_model.proofs.Results.{map_res, result_of, result_keeping}
use Rattle.history.specs.Index.{Index, kind_of, id_of, to_res, do_flush}
use Rattle.history.specs.Machine.{Borrowed, none_of, start}
use Rattle.history.specs.ForkUndo.{Places, index_machine}
use Rattle.history.specs.Sound.{Sound}
use Rattle.history.proofs.State as S
use Rattle.history.specs.EditionLaws.{Small, EditionLaws}
use Rattle.history.proofs.State.{Capacities, fit_head}
use Rattle.history.proofs.Lists.{length_table}
use Rattle.history.proofs.RefusalLaws.{refusals_leave}
use Rattle.history.proofs.Sim as Sm
use Rattle.history.proofs.AppendSim as Ap
use Rattle.history.proofs.PopSim as Po
use Rattle.history.proofs.FlushSim as Fu
use Rattle.history.proofs.FlipSim as Fp

none_records : (size limit cap : ℕ) (l : List ℕ) → cap * size ≤ length l → RecordsOk size limit (none_of cap) l
unfolding records distinct lengths_ok
none_records size limit cap l h = record { bounds = bounds_of size (none_of cap) l (omega arith) h; lengths = refl; apart = refl }

none_keys : (cap : ℕ) (l : List ℕ) → cap * 32 ≤ length l → KeysOk (none_of cap) l
unfolding records distinct
none_keys cap l h = record { bounds = bounds_of 32 (none_of cap) l (omega arith) h; apart = refl }

module _ (E : Edition) (ids : Parent → List ℕ) (L : EditionLaws E ids) (B : Borrowed E) (s : Parent → Places) (Q : Wh.Balances) where
  abbrev begin : Index
  begin = start E B

  -- the index of the theorem, its operations as the contracts define them
  abbrev pub N : Mc.Machine
  N = index_machine E ids B s

  abbrev caps : Capacities
  caps = record { table = B.table_cap; staged = B.staged_cap; deleted = B.deleted_cap }

  abbrev pub W : St.Env
  W = S.env E ids caps

  abbrev pub abs : Index → St.Store W
  abs b = S.abs E ids caps b

  abbrev pub Inv : Index → Type 0
  Inv b = S.Inv E ids caps b

  again : (ch : Series) (n : ℕ) (row : List ℕ) (l new : List ℤ) → n < 2147483647 → to_res (E.decode (kind_of ch) (id_of E ids ch) (pos n) row) ≡ done l → length new ≤ 512 → Small new
      → to_res (E.decode (kind_of ch) (id_of E ids ch) (pos n) (S.redone E ids caps ch n row new)) ≡ done new
  again (boxes p) n row l new u e h sm = ap to_res (L.redo_decode p n row l new u (Fp.good_of (E.decode Box (ids p) (pos n) row) l e) h sm)
  again (txs p) n row l new u e h sm = ap to_res (L.decode_encode Tx p n new u h sm)

  pub code : Gs.Coded W
  code = record { plain = λ ch n l u h sm. ap to_res (L.decode_encode (kind_of ch) (parent_of ch) n l u h sm); again = again }

  abbrev pub M : Mc.Machine
  M = Wh.machine W Q

  start_same : abs begin ≡ St.no_store W
  unfolding records
  start_same = refl

  start_inv : Inv begin
  start_inv = record {
    heads_in = λ ch. fit_head (begin.parts ch) (omega arith) (B.places_in ch);
    not_below = λ ch. refl;
    spills_in = λ ch. omega arith;
    lists_in = fit_lists E begin.lists (record {
      in_staged = none_records E.size E.limit B.staged_cap B.staged B.staged_in;
      in_table = none_records E.size E.limit B.table_cap B.table B.table_in;
      in_deleted = none_keys B.deleted_cap B.deleted B.deleted_in;
    });
    table_at = refl;
    staged_at = refl;
    deleted_at = refl;
  }

  -- an append in bytes does what an append to the tables does
  pub append_does : (U : Series → ℕ → Type 0) (b : Index) (ch : Series) (n : ℤ) → Inv b → Gs.Good W code U (abs b)
      → map_res abs (result_of (N.append_store b ch n)) ≡ result_of (M.append_store (abs b) ch n)
  append_does U b ch n I G = Ap.append_same E ids L caps b ch I (G.small ch) n ∙ sym (result_keeping (abs b) (St.append_store W (abs b) ch n))

  pub flush_does : (U : Series → ℕ → Type 0) (b : Index) → Inv b → Gs.Good W code U (abs b) → map_res abs (result_of (N.flush_store b)) ≡ St.flush_store W (abs b)
  flush_does U b I G = Fu.flush_same E ids L caps b I

  pub sims : (U : Series → ℕ → Type 0) → Sm.Sims M N abs Inv (Gs.Good W code U) U
  sims U = record {
    leaves = refusals_leave E ids B s;
    start = start_same;
    start_inv = start_inv;
    shows = λ b I ch. Po.shows E ids caps b ch;
    staging_full = λ b I h. omega (arith, length_table E.size b.lists.staged_counts.count b.lists.staged, I.staged_at);
    deletion_full = λ b I h. omega (arith, length_keys 32 b.lists.deleted_counts.count b.lists.deleted, I.deleted_at);
    append = λ b ch n d I G u e. (
      Sm.map_keeps_done abs (result_of (N.append_store b ch n)) d (result_of (M.append_store (abs b) ch n)) (append_does U b ch n I G) e,
      Ap.append_inv E ids L caps b ch I (G.small ch) n d e,
    );
    append_25 = λ b ch n I G e. Sm.map_keeps_refused abs (result_of (N.append_store b ch n)) 25 (result_of (M.append_store (abs b) ch n)) (append_does U b ch n I G) e;
    pop = λ b ch I G. record {
      same = Po.pop_same E ids L caps b ch I ∙ sym (result_keeping (abs b) (St.pop_store W (abs b) ch));
      keeps = λ d e. Po.pop_inv E ids L caps b ch I d e;
    };
    spend = λ b p t I G o.
        let D = Fp.spend_does E ids L caps b p I (G.small (boxes p)) (G.full (boxes p)) t in
        record { same = D.same ∙ sym (result_keeping (abs b) (St.spend_store W (abs b) p t)); keeps = D.keeps };
    unspend = λ b p t I G o.
        let D = Fp.unspend_does E ids L caps b p I (G.small (boxes p)) (G.full (boxes p)) t in
        record { same = D.same ∙ sym (result_keeping (abs b) (St.unspend_store W (abs b) p t)); keeps = D.keeps };
    flush = λ b I G. record {
      same = flush_does U b I G ∙ sym (result_keeping (abs b) (St.flush_store W (abs b)));
      keeps = λ d e. Fu.flush_inv E ids L caps b I d e;
    };
  }

  -- after a flush the segments table has no row under a key that was deleted
  pub flush_deletes : (U : Series → ℕ → Type 0) → Mc.KeysApart M U → (b d : Index) → Inv b → Gs.Good W code U (abs b) → result_of (do_flush E ids b) ≡ done d
      → (k : List ℕ) → Gs.In W code k (abs b).deletion → Tb.Absent (List ℕ) (List ℕ) id_dec k (abs d).table
  flush_deletes U apart b d I G e k h =
      Fl.flush_deletes W code U apart (abs b) (abs d) G (Sm.map_keeps_done abs (result_of (do_flush E ids b)) d (St.flush_store W (abs b)) (Fu.flush_same E ids L caps b I) e) k h

  -- the index in bytes, with balances
  abbrev pub machine : Mc.Machine
  machine = Sm.lower M N

  pub index_theorem : (GoodB : Q.Bal → Type 0) → Wh.BalanceLaws W Q GoodB → Mc.ForkUndo machine
  index_theorem GoodB laws = Sm.fork_undo M N abs Inv (Gs.Tidy W code (λ ch s. ⊥)) (Gs.Good W code) GoodB (Wh.store_laws W Q code GoodB laws) (λ U k. sims U)

  pub index_never_25 : (GoodB : Q.Bal → Type 0) → Wh.BalanceLaws W Q GoodB → Mc.Never25 machine
  index_never_25 GoodB laws = Sm.never_25 M N abs Inv (Gs.Tidy W code (λ ch s. ⊥)) (Gs.Good W code) GoodB (Wh.store_laws W Q code GoodB laws) (λ U k. sims U)

  -- ---- what holds after a legal list
  sound_of : (U : Series → ℕ → Type 0) (b : Index) → Inv b → Gs.Good W code U (abs b) → Sound E ids b
  sound_of U b I G = record {
    heads = I.heads_in;
    lists = I.lists_in;
    counts = I.not_below;
    rows = λ ch n h. let g = G.full ch n h in (g.0, Po.read_same E ids caps b ch n ∙ g.1, g.2);
  }

  module _ (GoodB : Q.Bal → Type 0) (laws : Wh.BalanceLaws W Q GoodB) (ss : List Mc.Step) (l : Mc.Legal machine (Mc.start machine) ss) (k : Mc.KeysApart machine (Mc.InUse machine (Mc.start machine) ss)) where
    pub index_sound : Sound E ids (Mc.run machine (Mc.start machine) ss).now.store
    index_sound =
        let f = Sm.fine_after M N abs Inv (Gs.Tidy W code (λ ch s. ⊥)) (Gs.Good W code) GoodB (Wh.store_laws W Q code GoodB laws) (λ U k. sims U) ss l k in
        sound_of (Mc.InUse machine (Mc.start machine) ss) (Mc.run machine (Mc.start machine) ss).now.store f.0 f.1

    pub index_balances : (p : Parent) → GoodB ((Mc.run machine (Mc.start machine) ss).now.bals p)
    index_balances = Sm.balances_after M N abs Inv (Gs.Tidy W code (λ ch s. ⊥)) (Gs.Good W code) GoodB (Wh.store_laws W Q code GoodB laws) (λ U k. sims U) ss l k
