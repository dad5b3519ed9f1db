use Rattle.std.proofs.Common.{◌≡◌, ap, sym, subst, ◌∙◌}
use Rattle.hop_map.specs.Port.{Port, IsPortOf, runs}
use Rattle.hop_map.proofs.Ports.{port_with, port_is}
use Rattle.hop_map.proofs.Splits.{split_fits, split_runs}
use Rattle.hop_map.proofs.port.HopPort.split.Goals as goal

pub returns-clause-fits : goal.returns-clause-fits
returns-clause-fits g c =
    let i = c.self.inside in
    let s = c.in-Some.lane in
    let p = port_with s i.arenas.items i.batches.items i.spilled in
    let t = c.args.table.now in
    let is : p ≡ c.args.self.now = sym (port_is i c.take.result s c.take.ensures.value c.in-Some.is) ∙ c.self.view_is in
    let l = c.split_segment-lane.result.0 in
    let e = c.split_segment-lane.ensures in
    split_fits t p l.table l.known c.args.map c.args.home c.split_segment-lane.result.1 (subst (IsPortOf t) (sym is) c.requires.fits) e.table e.ends

pub returns-clause-in_run : goal.returns-clause-in_run
returns-clause-in_run g c =
    let i = c.self.inside in
    let s = c.in-Some.lane in
    let p = port_with s i.arenas.items i.batches.items i.spilled in
    let is : p ≡ c.args.self.now = sym (port_is i c.take.result s c.take.ensures.value c.in-Some.is) ∙ c.self.view_is in
    split_runs c.args.table.now.about s.known c.args.map c.args.home c.split_segment-lane.result.1 c.split_segment-lane.result.0.known
    c.split_segment-lane.ensures.ends ∙ ap (λ (q : Port). runs q) is
