use Rattle.std.proofs.Common.{◌≡◌, true, refl, sym, subst, ◌∙◌}
use Rattle.bpf_shared.specs.declared.events.Event.TheVariants.{End}
use Rattle.hop_map.specs.Call.{IsReclaimed}
use Rattle.hop_map.specs.Noting.{CallNotes}
use Rattle.hop_map.specs.Port.{Port, IsPortOf, runs}
use Rattle.hop_map.proofs.Ports.{ended_idle, ended_notes, ended_reclaimed, port_with, port_is, ends_last}
use Rattle.hop_map.proofs.port.HopPort.end.Goals as goal

pub returns-clause-fits : goal.returns-clause-fits
returns-clause-fits c =
    let i = c.self.inside in
    let s = c.in-Some.lane in
    let p = port_with s i.arenas.items i.batches.items i.spilled in
    let t = c.args.table.now in
    let is : p ≡ c.args.self.now = sym (port_is i i.lane s refl c.in-Some.is) ∙ c.self.view_is in
    let e = c.leave_run.ensures.ended in
    ends_last t p c.leave_run.new.lane.table e.0 c.leave_run.new.lane.known c.leave_run.new.batches.items i.spilled
    (subst (IsPortOf t) (sym is) c.requires.fits) (subst (λ (q : Port). runs q ≡ true) (sym is) c.requires.in_run)
    (c.leave_run.ensures.table ∙ (subst (IsPortOf t) (sym is) c.requires.fits).table) e.1 e.2

pub returns-clause-idle : goal.returns-clause-idle
returns-clause-idle c =
    let i = c.self.inside in
    let s = c.in-Some.lane in
    let p = port_with s i.arenas.items i.batches.items i.spilled in
    let is : p ≡ c.args.self.now = sym (port_is i i.lane s refl c.in-Some.is) ∙ c.self.view_is in
    let e = c.leave_run.ensures.ended in
    ended_idle c.args.table.now p e.0 c.leave_run.new.lane.known c.leave_run.new.batches.items e.1 e.2
    (subst (λ (q : Port). runs q ≡ true) (sym is) c.requires.in_run)

pub returns-clause-noted : goal.returns-clause-noted
returns-clause-noted c =
    let i = c.self.inside in
    let s = c.in-Some.lane in
    let t = c.args.table.now in
    let p = port_with s i.arenas.items i.batches.items i.spilled in
    let is : p ≡ c.args.self.now = sym (port_is i i.lane s refl c.in-Some.is) ∙ c.self.view_is in
    let e = c.leave_run.ensures.ended in
    subst (λ (q : Port). CallNotes t.about End q.known c.leave_run.new.lane.known) is
    (ended_notes t p e.0 c.leave_run.new.lane.known c.leave_run.new.batches.items e.1 e.2)

pub returns-clause-reclaimed : goal.returns-clause-reclaimed
returns-clause-reclaimed c =
    let i = c.self.inside in
    let s = c.in-Some.lane in
    let t = c.args.table.now in
    let p = port_with s i.arenas.items i.batches.items i.spilled in
    let is : p ≡ c.args.self.now = sym (port_is i i.lane s refl c.in-Some.is) ∙ c.self.view_is in
    let e = c.leave_run.ensures.ended in
    λ m inside. subst (λ (q : Port). IsReclaimed m q.known.tally c.leave_run.new.lane.known) is
    (ended_reclaimed t p e.0 c.leave_run.new.lane.known m e.1 (e.3 m inside))
