use Rattle.std.proofs.Common.{◌≡◌, true, ℕ, length, get_or, set, refl, sym, subst, ◌∙◌}
use Rattle.bpf_shared.specs.declared.events.Event.TheVariants.{Delete}
use Rattle.hop_map.specs.Port.{Port, runs, IsPortOf}
use Rattle.hop_map.proofs.Ports.{still_runs, port_with, port_is, map_inside, follows_at, called_fits}
use Rattle.hop_map.proofs.port.HopPort.delete.Goals as goal

pub delete-lane-requires-clause-batches : goal.delete-lane-requires-clause-batches
delete-lane-requires-clause-batches g c =
    let i = c.self.inside in
    let s = c.in-Some.lane in
    let t = c.args.table.now in
    let maps = t.about.shape.maps in
    let is : port_with s i.arenas.items i.batches.items i.spilled ≡ c.args.self.now = sym
    (port_is i c.take.result s c.take.ensures.value c.in-Some.is) ∙ c.self.view_is in
    let h = subst (IsPortOf t) (sym is) c.requires.fits in
    let b = c.index_mut-batches.result.now in
    let here = map_inside maps c.args.map c.requires.key.0 c.requires.key.1 in
    follows_at t.about s.known (length maps) c.args.map i.batches.items b here h.batches
    (subst (λ (n : ℕ). b ≡ get_or i.batches.items n b) c.from.ensures c.index_mut-batches.ensures.value)

pub returns-clause-fits : goal.returns-clause-fits
returns-clause-fits g c =
    let i = c.self.inside in
    let s = c.in-Some.lane in
    let t = c.args.table.now in
    let maps = t.about.shape.maps in
    let p = port_with s i.arenas.items i.batches.items i.spilled in
    let is : p ≡ c.args.self.now = sym (port_is i c.take.result s c.take.ensures.value c.in-Some.is) ∙ c.self.view_is in
    let h = subst (IsPortOf t) (sym is) c.requires.fits in
    let here = map_inside maps c.args.map c.requires.key.0 c.requires.key.1 in
    let l = c.delete-lane.result.0 in
    let e = c.delete-lane.ensures in
    let b = c.delete-lane.new.batches in
    subst (λ (n : ℕ). IsPortOf t (record {
      table = l.table;
      known = l.known;
      arenas = i.arenas.items;
      batches = set i.batches.items n b;
      spilled = i.spilled;
    })) (sym c.from.ensures)
    (called_fits t p l.table l.known c.args.map (Delete c.args.map c.args.key.now c.delete-lane.result.1) i.arenas.items b i.spilled h
    e.table here refl e.called h.arenas e.batches)

pub returns-clause-in_run : goal.returns-clause-in_run
returns-clause-in_run g c =
    let i = c.self.inside in
    let s = c.in-Some.lane in
    let p = port_with s i.arenas.items i.batches.items i.spilled in
    let is : p ≡ c.args.self.now = sym (port_is i c.take.result s c.take.ensures.value c.in-Some.is) ∙ c.self.view_is in
    let l = c.delete-lane.result.0 in
    let e = c.delete-lane.ensures in
    still_runs c.args.table.now.about p.known l.known (Delete c.args.map c.args.key.now c.delete-lane.result.1) e.called.seen (e.called.cpu)
    refl (subst (λ (q : Port). runs q ≡ true) (sym is) c.requires.in_run)
