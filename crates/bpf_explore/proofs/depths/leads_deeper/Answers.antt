use Rattle.std.proofs.Common.{◌+◌, ◌≤◌, ℕ, inr, subst}
use Rattle.bpf_machine.specs.Budgets.{depth_at}
use Rattle.bpf_explore.proofs.HungLaws.{edge_deeper}
use Rattle.bpf_explore.proofs.depths.leads_deeper.Goals as goal

pub returns : goal.returns
returns c is =
    let depths = c.args.depths.now in
    let e = c.edge-edge.result in
    let sum = c.is_deeper.ensures is in
    let deeper : depth_at depths c.args.place + e.ahead + 1 ≤ depth_at depths e.to = subst
    (λ (n : ℕ). n + e.ahead + 1 ≤ depth_at depths e.to) c.depth_of-depth.ensures
    (subst (λ (n : ℕ). c.depth_of-depth.result + e.ahead + 1 ≤ n) c.depth_of-next.ensures sum) in
    inr (edge_deeper c.args.turns.now.peers.items c.args.explorer.now.kept depths c.args.place c.args.cpu e
    (c.edge-edge.ensures c.args.explorer.now.kept c.requires.turns c.requires.place) deeper)

pub edge-edge-requires : goal.edge-edge-requires
edge-edge-requires c = (c.args.explorer.now.kept, c.requires.turns, c.requires.place, c.requires.cpu)
