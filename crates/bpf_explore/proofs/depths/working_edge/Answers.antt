use Rattle.bpf_explore.proofs.depths.working_edge.Goals as goal

pub edge-requires : goal.edge-requires
edge-requires c = (c.args.explorer.now.kept, c.requires.turns, c.requires.place, c.requires.cpu)
