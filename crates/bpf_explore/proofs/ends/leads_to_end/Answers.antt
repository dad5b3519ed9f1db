use Rattle.std.proofs.Common.{◌<◌, ℕ, refl, sym, subst, arith}
use Rattle.bpf_explore.proofs.MarkLaws.{edge_leads, ended_leads, next_leads, next_stuck, is_stuck}
use Rattle.bpf_explore.proofs.ends.leads_to_end.Goals as goal

pub returns-then-has_ended-clause-leads : goal.returns-then-has_ended-clause-leads
returns-then-has_ended-clause-leads c is all = ended_leads c.args.turns.now.peers.items c.args.explorer.now.kept c.args.place c.requires.place
    (c.if-has_ended.ensures.ended refl) c.requires.none

pub edge-edge-requires : goal.edge-edge-requires
edge-edge-requires c = (c.args.explorer.now.kept, c.requires.turns, c.requires.place, omega arith)

pub mark_of-requires : goal.mark_of-requires
mark_of-requires c = subst (λ (n : ℕ). c.edge-edge.result.to < n) (sym c.requires.marks)
    (c.edge-edge.ensures c.args.explorer.now.kept c.requires.turns c.requires.place).2.inside

pub returns-then-mark_of-clause-leads : goal.returns-then-mark_of-clause-leads
returns-then-mark_of-clause-leads c is all =
    let kept = c.args.explorer.now.kept in
    let e = c.edge-edge.result in
    next_leads c.args.turns.now.peers.items kept c.args.marks.now c.args.place c.loop-cpu.cpu e.to
    (edge_leads c.args.turns.now.peers.items kept c.args.place c.loop-cpu.cpu e
    (c.edge-edge.ensures kept c.requires.turns c.requires.place)) all c.if-mark_of.ensures

pub loop-cpu-preserved : goal.loop-cpu-preserved
loop-cpu-preserved c =
    let kept = c.args.explorer.now.kept in
    let e = c.edge-edge.result in
    next_stuck c.args.turns.now.peers.items kept c.args.marks.now c.args.place c.loop-cpu.cpu e.to c.loop-cpu.invariant
    (edge_leads c.args.turns.now.peers.items kept c.args.place c.loop-cpu.cpu e
    (c.edge-edge.ensures kept c.requires.turns c.requires.place)) c.if-mark_of.ensures

pub returns-clause-stuck : goal.returns-clause-stuck
returns-clause-stuck c is off =
    is_stuck c.args.turns.now.peers.items c.args.explorer.now.kept c.args.marks.now c.args.place c.loop-cpu.cpu c.args.turns.now.cpus c.requires.place
    (c.if-has_ended.ensures.works refl) c.requires.none c.requires.turns.idle (omega arith) c.loop-cpu.invariant off
