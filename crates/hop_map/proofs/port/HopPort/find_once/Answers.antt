use Rattle.std.proofs.Common.{◌≡◌, true, sym, subst, ◌∙◌}
use Rattle.hop_map.specs.Port.{Port, runs, IsPortOf}
use Rattle.hop_map.proofs.Ports.{port_with, port_is}
use Rattle.hop_map.proofs.Disturbing.{once_fits, once_runs}
use Rattle.hop_map.proofs.port.HopPort.find_once.Goals as goal

pub returns-clause-fits : goal.returns-clause-fits
returns-clause-fits c =
    let i = c.self.inside in
    let s = c.in-Some.lane in
    let p = port_with s i.arenas.items i.batches.items i.spilled in
    let t = c.args.table.now in
    let is : p ≡ c.args.self.now = sym (port_is i c.take.result s c.take.ensures.value c.in-Some.is) ∙ c.self.view_is in
    let l = c.find_once-lane.result.0 in
    let e = c.find_once-lane.ensures in
    once_fits t p l.table l.known c.args.map c.args.key.now c.find_once-lane.result.1 (subst (IsPortOf t) (sym is) c.requires.fits) e.table e.ends

pub returns-clause-in_run : goal.returns-clause-in_run
returns-clause-in_run c =
    let i = c.self.inside in
    let s = c.in-Some.lane in
    let p = port_with s i.arenas.items i.batches.items i.spilled in
    let is : p ≡ c.args.self.now = sym (port_is i c.take.result s c.take.ensures.value c.in-Some.is) ∙ c.self.view_is in
    let l = c.find_once-lane.result.0 in
    once_runs c.args.table.now.about p.known l.known c.args.map c.args.key.now c.find_once-lane.result.1 c.find_once-lane.ensures.ends
    (subst (λ (q : Port). runs q ≡ true) (sym is) c.requires.in_run)
