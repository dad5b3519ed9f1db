use Rattle.std.proofs.Common.{◌≡◌, ap, refl, true, sym, subst, ◌∙◌}
use Rattle.bpf_shared.specs.declared.events.Event.TheVariants.{Lookup}
use Rattle.bpf_shared.specs.Shape.{IsShape}
use Rattle.hop_layout.specs.declared.about.About.{About}
use Rattle.hop_words.specs.declared.known.Known.{Known}
use Rattle.hop_map.specs.Port.{Port, runs, IsPortOf}
use Rattle.hop_map.proofs.Spans.{found_in_range}
use Rattle.hop_map.proofs.Ports.{still_runs, port_with, port_is, looked_fits, looked_lies}
use Rattle.hop_map.proofs.port.HopPort.find_locked.Goals as goal

pub returns-clause-fits : goal.returns-clause-fits
returns-clause-fits g c =
    let i = c.self.inside in
    let s = c.in-Some.lane in
    let p = port_with s i.arenas.items i.batches.items i.spilled in
    let t = c.args.table.now in
    let is : p ≡ c.args.self.now = sym (port_is i c.take.result s c.take.ensures.value c.in-Some.is) ∙ c.self.view_is in
    let l = c.find_locked-lane.result.0 in
    let e = c.find_locked-lane.ensures in
    looked_fits t p l.table l.known c.args.map c.args.key.now c.find_locked-lane.result.1 (subst (IsPortOf t) (sym is) c.requires.fits) e.table e.found

pub returns-clause-in_run : goal.returns-clause-in_run
returns-clause-in_run g c =
    let i = c.self.inside in
    let s = c.in-Some.lane in
    let p = port_with s i.arenas.items i.batches.items i.spilled in
    let is : p ≡ c.args.self.now = sym (port_is i c.take.result s c.take.ensures.value c.in-Some.is) ∙ c.self.view_is in
    let l = c.find_locked-lane.result.0 in
    let e = c.find_locked-lane.ensures in
    still_runs c.args.table.now.about p.known l.known (Lookup c.args.map c.args.key.now c.find_locked-lane.result.1) e.found.seen
    (ap (λ (k : Known). k.cpu) e.found.after) refl (subst (λ (q : Port). runs q ≡ true) (sym is) c.requires.in_run)

pub returns-clause-element : goal.returns-clause-element
returns-clause-element g c =
    let s = c.in-Some.lane in
    let r = c.find_locked-lane in
    looked_lies c.args.table.now.about s.known r.result.0.known c.args.map c.args.key.now r.result.1 r.ensures.found

pub returns-clause-in_range : goal.returns-clause-in_range
returns-clause-in_range g c =
    let s = c.in-Some.lane in
    let r = c.find_locked-lane in
    let a = c.args.table.now.about in
    found_in_range a.shape c.args.map r.result.1 (subst (λ (x : About). IsShape x.shape) c.about.ensures c.maps-maps.ensures.in_range)
    (looked_lies a s.known r.result.0.known c.args.map c.args.key.now r.result.1 r.ensures.found)
