use Rattle.std.proofs.Common.{◌≡◌, true, ℕ, length, get_or, set, refl, ap, sym, subst, ◌∙◌, IfSome}
use Rattle.bpf_shared.specs.declared.events.Event.TheVariants.{Update}
use Rattle.bpf_shared.specs.declared.events.MapAnswer.TheVariants.{Done}
use Rattle.hop_words.specs.declared.known.Known.{Known}
use Rattle.hop_map.specs.Noting.{LockedLast}
use Rattle.hop_map.specs.Port.{Port, runs, IsPortOf}
use Rattle.hop_map.proofs.Ports.{still_runs, port_with, port_is, map_inside, follows_at, arenas_change, called_fits}
use Rattle.hop_map.proofs.port.HopPort.update.Goals as goal

pub update-lane-requires-clause-batches : goal.update-lane-requires-clause-batches
update-lane-requires-clause-batches g c =
    let i = c.self.inside in
    let s = c.in-Some.lane in
    let t = c.args.table.now in
    let maps = t.about.shape.maps in
    let is : port_with s i.arenas.items i.batches.items i.spilled ≡ c.args.self.now = sym
    (port_is i c.take.result s c.take.ensures.value c.in-Some.is) ∙ c.self.view_is in
    let h = subst (IsPortOf t) (sym is) c.requires.fits in
    let b = c.index_mut-batches.result.now in
    let here = map_inside maps c.args.map c.requires.pair.0 c.requires.pair.1 in
    follows_at t.about s.known (length maps) c.args.map i.batches.items b here h.batches
    (subst (λ (n : ℕ). b ≡ get_or i.batches.items n b) c.from-place.ensures c.index_mut-batches.ensures.value)

pub returns-clause-fits : goal.returns-clause-fits
returns-clause-fits g c =
    let i = c.self.inside in
    let s = c.in-Some.lane in
    let t = c.args.table.now in
    let maps = t.about.shape.maps in
    let m = c.args.map in
    let p = port_with s i.arenas.items i.batches.items i.spilled in
    let is : p ≡ c.args.self.now = sym (port_is i c.take.result s c.take.ensures.value c.in-Some.is) ∙ c.self.view_is in
    let h = subst (IsPortOf t) (sym is) c.requires.fits in
    let here = map_inside maps m c.requires.pair.0 c.requires.pair.1 in
    let l = c.update-lane.result.0 in
    let e = c.update-lane.ensures in
    let x = c.update-lane.new.arena in
    let b = c.update-lane.new.batches in
    let xs = set i.arenas.items m x in
    subst (λ (n : ℕ). IsPortOf t (record {
      table = l.table;
      known = l.known;
      arenas = set i.arenas.items n x;
      batches = set i.batches.items
          n b;
      spilled = c.update-lane.result.2;
    })) (sym c.from-place.ensures)
    (called_fits t p l.table l.known m (Update m c.args.request.now.key.now c.args.request.now.value.now c.args.request.now.flags c.update-lane.result.1) xs b
    c.update-lane.result.2 h e.table here refl e.called
    (arenas_change t.about (length maps) m i.arenas.items x here e.arena h.arenas) e.batches)

pub returns-clause-in_run : goal.returns-clause-in_run
returns-clause-in_run g c =
    let i = c.self.inside in
    let s = c.in-Some.lane in
    let p = port_with s i.arenas.items i.batches.items i.spilled in
    let is : p ≡ c.args.self.now = sym (port_is i c.take.result s c.take.ensures.value c.in-Some.is) ∙ c.self.view_is in
    let l = c.update-lane.result.0 in
    let e = c.update-lane.ensures in
    still_runs c.args.table.now.about p.known l.known (Update c.args.map c.args.request.now.key.now c.args.request.now.value.now c.args.request.now.flags
    c.update-lane.result.1) e.called.seen (e.called.cpu) refl (subst (λ (q : Port). runs q ≡ true) (sym is) c.requires.in_run)

pub update-lane-requires-clause-inside : goal.update-lane-requires-clause-inside
update-lane-requires-clause-inside g c =
    let i = c.self.inside in
    let s = c.in-Some.lane in
    let t = c.args.table.now in
    let is : port_with s i.arenas.items i.batches.items i.spilled ≡ c.args.self.now = sym
    (port_is i c.take.result s c.take.ensures.value c.in-Some.is) ∙ c.self.view_is in
    let h = subst (IsPortOf t) (sym is) c.requires.fits in
    h.cpu

pub returns-clause-spilled : goal.returns-clause-spilled
returns-clause-spilled g c =
    let i = c.self.inside in
    let s = c.in-Some.lane in
    let is : port_with s i.arenas.items i.batches.items i.spilled ≡ c.args.self.now = sym
    (port_is i c.take.result s c.take.ensures.value c.in-Some.is) ∙ c.self.view_is in
    subst (λ (k : Known). IfSome c.update-lane.result.2 (λ n. (c.update-lane.result.1 ≡ Done) × LockedLast c.args.map n k
    c.update-lane.result.0.known)) (ap (λ (q : Port). q.known) is) c.update-lane.ensures.spilled
