use Rattle.bpf_explore.proofs.CloseLaws.{peer_cpu}
use Rattle.bpf_explore.proofs.spread.cpu_of.Goals as goal

pub returns : goal.returns
returns c p at = peer_cpu c.args.peers.now c.args.job p _ at
