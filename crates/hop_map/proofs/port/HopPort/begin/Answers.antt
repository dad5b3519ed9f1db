use Rattle.std.proofs.Common.{◌≡◌, false, OnOk, refl, sym, subst, ◌∙◌}
use Rattle.bpf_shared.specs.declared.events.Event.TheVariants.{Begin}
use Rattle.hop_map.specs.Noting.{CallNotes}
use Rattle.hop_map.specs.Port.{Port, runs, IsPortOf}
use Rattle.hop_map.proofs.Ports.{begun_runs, begun_notes, port_with, port_is, begins}
use Rattle.hop_map.proofs.port.HopPort.begin.Goals as goal

pub returns-clause-fits : goal.returns-clause-fits
returns-clause-fits c =
    let i = c.self.inside in
    let s = c.in-Some.lane in
    let l = c.begin_run.new.lane in
    let e = c.begin_run.ensures in
    let is : port_with s i.arenas.items i.batches.items i.spilled ≡ c.args.self.now = sym (port_is i i.lane s refl c.in-Some.is) ∙ c.self.view_is in
    begins c.args.table.now (port_with s i.arenas.items i.batches.items i.spilled) l.table l.known c.begin_run.result
    (subst (IsPortOf c.args.table.now) (sym is) c.requires.fits) e.table e.begun e.room e.unchanged

pub returns-clause-in_run : goal.returns-clause-in_run
returns-clause-in_run c =
    let i = c.self.inside in
    let s = c.in-Some.lane in
    let p = port_with s i.arenas.items i.batches.items i.spilled in
    let is : p ≡ c.args.self.now = sym (port_is i i.lane s refl c.in-Some.is) ∙ c.self.view_is in
    begun_runs c.args.table.now.about p.known c.begin_run.new.lane.known c.begin_run.result c.begin_run.ensures.begun
    (subst (λ (q : Port). runs q ≡ false) (sym is) c.requires.idle)

pub returns-clause-noted : goal.returns-clause-noted
returns-clause-noted c =
    let i = c.self.inside in
    let s = c.in-Some.lane in
    let r = c.begin_run in
    let p = port_with s i.arenas.items i.batches.items i.spilled in
    let is : p ≡ c.args.self.now = sym (port_is i i.lane s refl c.in-Some.is) ∙ c.self.view_is in
    subst (λ (q : Port). OnOk r.result (CallNotes c.args.table.now.about Begin q.known r.new.lane.known)) is
    (begun_notes c.args.table.now.about p.known r.new.lane.known r.result r.ensures.begun)
