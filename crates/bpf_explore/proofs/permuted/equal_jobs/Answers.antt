use Rattle.std.proofs.Common.{List, sym, subst}
use Rattle.bpf_equal.specs.declared.peers.Peer.{Peer}
use Rattle.bpf_explore.specs.Private.Peers.{FitPeers}
use Rattle.bpf_explore.proofs.PermutedLaws.{no_peers}
use Rattle.bpf_explore.proofs.permuted.equal_jobs.Goals as goal

pub returns-in-Same : goal.returns-in-Same
returns-in-Same c =
    let a = c.args.album.now in
    subst (λ (ps : List Peer). FitPeers a.stock a.kept ps) (sym c.new.ensures.items) (no_peers a.stock a.kept)
