-- A call of a port that borrows its lane, by which it reads or writes a value that the run holds or a fixed one.
use Rattle.std.proofs.Common.{◌≡◌, ℕ, true, [], ◌∷◌, Some, inl, inr, refl, ap, sym, subst, ◌∙◌}
use Rattle.atomic_table.specs.Seated.{TableId}
use Rattle.bpf_shared.specs.declared.events.Event.{Event}
use Rattle.bpf_shared.specs.History.{events_of}
use Rattle.bpf_shared.specs.Own.{turns_of, in_run}
use Rattle.bpf_shared.specs.Passage.{IsHeldPlace, IsReadable, IsWritable}
use Rattle.hop_words.specs.declared.known.Known.{Known}
use Rattle.hop_words.specs.Inside.{Shown, Standing}
use Rattle.hop_words.specs.Kinds.{AddsEvent}
use Rattle.hop_map.specs.declared.port.HopPort.TheInside.{Inside as InPort}
use Rattle.hop_map.specs.Private.Accesses.{IsHeldAt, MayLoadAt, MayChangeAt}
use Rattle.hop_map.specs.Port.{Port, port_holds, runs, IsPortOf}
use Rattle.hop_map.specs.Private.Port.{port_of}
use Rattle.hop_map.specs.Noting.{MayNote, CallNotes}
use Rattle.hop_map.proofs.Ports.{still_runs, port_with, port_is}
use Rattle.hop_map.proofs.Holding.{held_at, told_fits}

module _ (i : InPort) (s : Standing) (there : i.lane ≡ Some s) (q : Port) (view : port_of i ≡ q) (t : Shown) (fits : IsPortOf t q)
    (running : runs q ≡ true) where
  abbrev taken : Port
  taken = port_with s i.arenas.items i.batches.items i.spilled

  is : taken ≡ q
  is = sym (port_is i i.lane s refl there) ∙ view

  taken_fits : IsPortOf t taken
  taken_fits = subst (IsPortOf t) (sym is) fits

  taken_runs : runs taken ≡ true
  taken_runs = subst (λ (p : Port). runs p ≡ true) (sym is) running

  held_there : (at n : ℕ) → IsHeldPlace (port_holds q) at n → IsHeldAt t.about s.known at n
  held_there at n h = held_at t taken at n taken_fits taken_runs (subst (λ (p : Port). IsHeldPlace (port_holds p) at n) (sym is) h)

  pub reads_there : (at n : ℕ) → IsReadable t.about.shape (port_holds q) at n → MayLoadAt t.about s.known at n
  reads_there at n (inl h) = inl (held_there at n h)
  reads_there at n (inr f) = inr (record { place = f; runs = taken_runs })

  pub writes_there : (at n : ℕ) → IsWritable t.about.shape (port_holds q) at n → MayChangeAt t.about s.known at n
  writes_there at n (inl h) = inl (held_there at n h)
  writes_there at n (inr (f, free)) = inr (record { fixed = record { place = f; runs = taken_runs }; writable = free })

  -- after one event of the CPU that neither begins nor ends a run
  module _ (l : Known) (e : Event) (quiet : turns_of (e ∷ []) ≡ 0) (told : AddsEvent t.about s.known e l) where
    pub fits_after : (z : TableId) → z ≡ s.table → IsPortOf t (port_with (record { table = z; known = l }) i.arenas.items i.batches.items i.spilled)
    fits_after z table = told_fits t taken z l e taken_fits table quiet told

    pub quiet_after : MayNote t.about e [] → CallNotes t.about e q.known l
    quiet_after may = subst (λ (p : Port). CallNotes t.about e p.known l) is ([], ap (λ (k : Known). k.tally) told.after, may)

    pub runs_after : in_run (events_of l.cpu l.seen) ≡ true
    runs_after = still_runs t.about s.known l e told.seen (ap (λ (k : Known). k.cpu) told.after) quiet taken_runs
