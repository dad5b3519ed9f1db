use Rattle.std.proofs.Common.{◌<◌, ℕ, length, refl, sym, subst, arith}
use Rattle.std.specs.Prelude.{IfSome}
use Rattle.bpf_reorderings.proofs.Marking.{edge_leads, edge_off, ended_leads, flush_inside, is_stuck, next_off}
use Rattle.bpf_reorderings.proofs.ends.leads_to_end.Goals as goal

pub returns-then-has_ended-clause-leads : goal.returns-then-has_ended-clause-leads
returns-then-has_ended-clause-leads c is all =
    ended_leads c.args.explorer.now.kept c.args.place c.requires.place (c.if-has_ended.ensures.ended refl) c.requires.none

pub leads_to_marked-requires-clause-turn : goal.leads_to_marked-requires-clause-turn
leads_to_marked-requires-clause-turn c =
    let is = c.requires.edges.each c.loop-cpu.cpu c.edge_of.result c.edge_of.ensures in
    subst (λ (n : ℕ). c.edge_of.result.turn < n) (sym c.requires.marks) is.inside

pub leads_to_marked-requires-clause-flush : goal.leads_to_marked-requires-clause-flush
leads_to_marked-requires-clause-flush c =
    let is = c.requires.edges.each c.loop-cpu.cpu c.edge_of.result c.edge_of.ensures in
    subst (λ (n : ℕ). IfSome c.edge_of.result.flush (λ k. k < n)) (sym c.requires.marks)
    (flush_inside c.args.explorer.now.kept c.args.place c.loop-cpu.cpu c.edge_of.result is)

pub returns-then-leads_to_marked-clause-leads : goal.returns-then-leads_to_marked-clause-leads
returns-then-leads_to_marked-clause-leads c is all =
    edge_leads c.args.explorer.now.kept c.args.marks.now c.args.place c.loop-cpu.cpu c.edge_of.result
    (c.requires.edges.each c.loop-cpu.cpu c.edge_of.result c.edge_of.ensures) (c.if-leads_to_marked.ensures.leads refl) all

pub loop-cpu-preserved : goal.loop-cpu-preserved
loop-cpu-preserved c =
    let kept = c.args.explorer.now.kept in
    next_off kept c.args.marks.now c.args.place c.loop-cpu.cpu c.loop-cpu.invariant
    (edge_off kept c.args.marks.now c.args.place c.loop-cpu.cpu c.edge_of.result (c.requires.edges.each c.loop-cpu.cpu c.edge_of.result c.edge_of.ensures)
    (c.if-leads_to_marked.ensures.none refl))

pub returns-clause-stuck : goal.returns-clause-stuck
returns-clause-stuck c is off =
    is_stuck c.args.explorer.now.kept c.args.marks.now c.args.place c.loop-cpu.cpu (length c.args.edges.now) c.requires.place
    (c.if-has_ended.ensures.works refl) c.requires.none c.requires.edges.beyond (omega arith) c.loop-cpu.invariant off
